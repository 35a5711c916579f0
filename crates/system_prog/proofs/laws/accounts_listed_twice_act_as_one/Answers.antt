use Rattle.system_prog.proofs.Listings.{same_system}
use Rattle.system_prog.proofs.laws.accounts_listed_twice_act_as_one.Goals as goal

pub returns : goal.returns
returns c = record { same = λ keys accounts metas others input same. same_system keys metas others same accounts input }

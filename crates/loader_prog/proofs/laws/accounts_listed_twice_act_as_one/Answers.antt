use Rattle.loader_prog.proofs.Listings.{same_loader}
use Rattle.loader_prog.proofs.laws.accounts_listed_twice_act_as_one.Goals as goal

pub returns : goal.returns
returns c = record { same = λ keys accounts metas others input same. same_loader keys accounts metas others same input }

use Rattle.bank_law.proofs.Held.{grants_add, commits_take, returns_take, few_held}
use Rattle.bank_law.proofs.laws.the_number_held_follows_the_events.Goals as goal

pub returns-clause-grant : goal.returns-clause-grant
returns-clause-grant c = grants_add

pub returns-clause-commit : goal.returns-clause-commit
returns-clause-commit c = commits_take

pub returns-clause-give_back : goal.returns-clause-give_back
returns-clause-give_back c = returns_take

pub returns-clause-few : goal.returns-clause-few
returns-clause-few c = few_held

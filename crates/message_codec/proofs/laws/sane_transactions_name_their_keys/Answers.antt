use Rattle.message_codec.proofs.RoleLaws.{all_count, all_most, are_named}
use Rattle.message_codec.proofs.laws.sane_transactions_name_their_keys.Goals as goal

pub returns-clause-count : goal.returns-clause-count
returns-clause-count c = all_count

pub returns-clause-most : goal.returns-clause-most
returns-clause-most c = all_most

pub returns-clause-named : goal.returns-clause-named
returns-clause-named c = are_named

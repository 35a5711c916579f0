use Rattle.abi_input.proofs.RegionLaws.{lamports_stand, length_stands}
use Rattle.abi_input.proofs.RoundTrips.{long_enough}
use Rattle.abi_input.proofs.laws.what_is_taken_back_stands_in_the_region.Goals as goal

pub returns-clause-lamports : goal.returns-clause-lamports
returns-clause-lamports c = λ region start now taken metas index count range whole is_back listed. lamports_stand region start now taken metas count range whole is_back index listed

pub returns-clause-lengths : goal.returns-clause-lengths
returns-clause-lengths c = λ region start now taken metas index count range whole is_back listed. length_stands region start now taken metas count range whole is_back index listed

pub returns-clause-written : goal.returns-clause-written
returns-clause-written c = λ keys accounts metas input region program count range are_keys have long. long_enough keys accounts metas count range are_keys have region input program long

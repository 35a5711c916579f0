-- What a call answers, as a reading answers.
use Rattle.std.proofs.Common.{List, Result, Ok, Err}
use Rattle.std.specs.declared.sync.Arc.{Arc}
use Rattle.std.specs.declared.alloc.Global.{Global}
use Rattle.spec_base.specs.Reading.{Gives}
use Rattle.sol_base.specs.declared.account.Account.{Account}
use Rattle.sol_base.specs.Accounts.{accounts_of}
use Rattle.loader_prog.specs.declared.fault.LoaderFault.{LoaderFault}
use Rattle.loader_prog.specs.declared.fault.LoaderFault.TheVariants.{InvalidInstruction, NotEnoughAccounts, MissingSignature, Custom, Rule, OutOfMemory}
use Rattle.loader_prog.specs.Requests.{is_loader_memory}
use Rattle.loader_prog.specs.Loader.{AnswersLoader}

pub answers : (wanted : Result (List Account) LoaderFault) (result : Result (List (Arc Account Global)) LoaderFault) → Gives is_loader_memory accounts_of result wanted → AnswersLoader wanted result
answers wanted (Ok accounts) given = given
answers wanted (Err InvalidInstruction) given = given
answers wanted (Err NotEnoughAccounts) given = given
answers wanted (Err (MissingSignature i)) given = given
answers wanted (Err (Custom code)) given = given
answers wanted (Err (Rule fault)) given = given
answers wanted (Err OutOfMemory) given = given

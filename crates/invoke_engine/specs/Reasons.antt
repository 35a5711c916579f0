-- Why a frame fails, by what the definitions below refuse.
use Rattle.std.specs.Prelude.{◌≡◌, ℕ, Some, None, Result, Ok, Err}
use Rattle.account_rules.specs.declared.rules.RuleFault.{RuleFault}
use Rattle.account_rules.specs.declared.rules.RuleFault.TheVariants as Rule
use Rattle.tx_report.specs.declared.cause.Cause.{Cause}
use Rattle.tx_report.specs.declared.cause.Cause.TheVariants as Causes
use Rattle.sbpf_memory.specs.Memory.{violation_of}
use Rattle.sbpf_memory.specs.declared.fault.AccessViolation.{AccessViolation}
use Rattle.sbpf_machine.specs.declared.stop.Fault.{Fault}
use Rattle.sbpf_machine.specs.declared.stop.Fault.TheVariants as Machine
use Rattle.sys_calls.specs.declared.fault.SysFault.{SysFault}
use Rattle.sys_calls.specs.declared.fault.SysFault.TheVariants as Sys
use Rattle.cpi_calls.specs.declared.fault.CallFault.{CallFault}
use Rattle.cpi_calls.specs.declared.fault.CallFault.TheVariants as Calls
use Rattle.cpi_calls.specs.declared.fault.RightsFault.{RightsFault}
use Rattle.cpi_calls.specs.declared.fault.RightsFault.TheVariants as Rights
use Rattle.abi_input.specs.declared.fault.BackFault.{BackFault}
use Rattle.abi_input.specs.declared.fault.BackFault.TheVariants as Back
use Rattle.abi_input.specs.declared.fault.PatchFault.{PatchFault}
use Rattle.abi_input.specs.declared.fault.PatchFault.TheVariants as Patch
use Rattle.system_prog.specs.declared.fault.SystemFault.{SystemFault}
use Rattle.system_prog.specs.declared.fault.SystemFault.TheVariants as System
use Rattle.loader_prog.specs.declared.fault.LoaderFault.{LoaderFault}
use Rattle.loader_prog.specs.declared.fault.LoaderFault.TheVariants as Loader
use Rattle.invoke_engine.specs.declared.stopped.Reason.{Reason}
use Rattle.invoke_engine.specs.declared.stopped.Stopped.{Stopped}
use Rattle.invoke_engine.specs.declared.stopped.Stopped.TheVariants.{Refused, OutOfMemory as no_memory}

-- a cause with its detail, where no access was refused
abbrev pub reason : Cause → ℕ → Reason
reason cause detail = record { cause = cause; detail = detail; access = None }

abbrev pub at : Cause → ℕ → Stopped
at cause i = Refused (reason cause i)

abbrev pub plainly : Cause → Stopped
plainly cause = at cause 0

-- an access that is refused
abbrev pub violated : AccessViolation → Stopped
violated access = Refused (record {
  cause = Causes.AccessViolation;
  detail = 0;
  access = Some access;
})

abbrev pub by_fault : Fault → Stopped
by_fault Machine.UnitsSpent = plainly Causes.UnitsSpent
by_fault Machine.DivideByZero = plainly Causes.DivideByZero
by_fault (Machine.AccessViolation addr len write) = violated (violation_of addr len write)
by_fault Machine.CallDepth = plainly Causes.CallDepth
by_fault (Machine.BadCallTarget value) = plainly Causes.BadCallTarget

abbrev pub by_sys : SysFault → Stopped
by_sys Sys.Abort = plainly Causes.Abort
by_sys (Sys.AccessViolation access) = violated access
by_sys Sys.Overlap = plainly Causes.Overlap
by_sys Sys.UnitsSpent = plainly Causes.UnitsSpent
by_sys Sys.TooManySeeds = plainly Causes.TooManySeeds
by_sys Sys.ReturnTooLong = plainly Causes.ReturnTooLong
by_sys Sys.BadText = plainly Causes.BadText
by_sys Sys.TooManySlices = plainly Causes.TooManySlices
by_sys Sys.OutOfMemory = no_memory

abbrev pub by_call : CallFault → Stopped
by_call (Calls.AccessViolation access) = violated access
by_call Calls.TooManyAccounts = plainly Causes.TooManyAccounts
by_call Calls.DataTooLong = plainly Causes.DataTooLong
by_call Calls.TooManySigners = plainly Causes.TooManySigners
by_call Calls.BadSeeds = plainly Causes.BadSeeds
by_call Calls.BadFlag = plainly Causes.BadFlag
by_call Calls.UnitsSpent = plainly Causes.UnitsSpent
by_call Calls.OutOfMemory = no_memory

abbrev pub by_rights : RightsFault → Stopped
by_rights (Rights.MissingAccount i) = at Causes.MissingAccount i
by_rights (Rights.PrivilegeEscalation i) = at Causes.PrivilegeEscalation i
by_rights Rights.OutOfMemory = no_memory

-- an account's data are too long, in the region or to be written over it
abbrev pub by_length : ℕ → Stopped
by_length i = at Causes.LengthTooLarge i

abbrev pub by_back_fault : BackFault → Stopped
by_back_fault (Back.LengthTooLarge i) = by_length i
by_back_fault Back.OutOfMemory = no_memory

abbrev pub by_patch_fault : PatchFault → Stopped
by_patch_fault (Patch.LengthTooLarge i) = by_length i
by_patch_fault Patch.OutOfMemory = no_memory

abbrev pub by_rule : RuleFault → Stopped
by_rule (Rule.ReadonlyChanged i) = at Causes.ReadonlyChanged i
by_rule (Rule.ExecutableChanged i) = at Causes.ExecutableChanged i
by_rule (Rule.OwnerChange i) = at Causes.OwnerChange i
by_rule (Rule.ForeignDebit i) = at Causes.ForeignDebit i
by_rule (Rule.ForeignData i) = at Causes.ForeignData i
by_rule (Rule.TooLarge i) = at Causes.TooLarge i
by_rule Rule.Unbalanced = plainly Causes.Unbalanced

abbrev pub by_system : SystemFault → Stopped
by_system System.InvalidInstruction = plainly Causes.InvalidInstruction
by_system System.NotEnoughAccounts = plainly Causes.NotEnoughAccounts
by_system (System.MissingSignature i) = at Causes.MissingSignature i
by_system System.InvalidArgument = plainly Causes.InvalidArgument
by_system (System.Custom code) = at Causes.Custom code
by_system (System.Rule fault) = by_rule fault
by_system System.OutOfMemory = no_memory

abbrev pub by_loader : LoaderFault → Stopped
by_loader Loader.InvalidInstruction = plainly Causes.InvalidInstruction
by_loader Loader.NotEnoughAccounts = plainly Causes.NotEnoughAccounts
by_loader (Loader.MissingSignature i) = at Causes.MissingSignature i
by_loader (Loader.Custom code) = at Causes.Custom code
by_loader (Loader.Rule fault) = by_rule fault
by_loader Loader.OutOfMemory = no_memory

-- the value, or why there is none
abbrev pub refuse : {A E : Type 0} → (E → Stopped) → Result A E → Result A Stopped
refuse by (Ok x) = Ok x
refuse by (Err e) = Err (by e)

-- a call that stopped did so as the definition says, or found no memory
abbrev pub StopsBy : {A : Type 0} → Stopped → Result A Stopped → Type 0
StopsBy no_memory wanted = Unit {0}
StopsBy (Refused reason) wanted = wanted ≡ Err (Refused reason)

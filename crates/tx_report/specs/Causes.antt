-- Why transactions fail or are dropped: the code in a status and the name in a text (the project's
-- own).
use Rattle.std.specs.Prelude.{ℕ, zero, suc, List, [], ◌∷◌, codes, Option, None, slice_get}
use Rattle.tx_report.specs.declared.cause.Cause.{Cause}
use Rattle.tx_report.specs.declared.cause.Cause.TheVariants.{Custom, InvalidInstruction, MissingSignature, NotEnoughAccounts, InvalidArgument, UnknownProgram, BadImage, Unverified, UnitsSpent, DivideByZero, AccessViolation, CallDepth, BadCallTarget, Abort, Overlap, TooManySeeds, ReturnTooLong, BadText, TooManySlices, InvalidError, ReadonlyChanged, ExecutableChanged, ForeignDebit, ForeignData, OwnerChange, TooLarge, Unbalanced, LengthTooLarge, TooManyAccounts, DataTooLong, TooManySigners, BadSeeds, BadFlag, MissingAccount, PrivilegeEscalation, Reentrancy, StackHeight, TraceTooLong, RentState, LoadedDataTooLarge}
use Rattle.tx_report.specs.declared.cause.DropCause.{DropCause}
use Rattle.tx_report.specs.declared.cause.DropCause.TheVariants.{PayerAbsent, PayerNotSystem, CannotPayFee, PayerRent}

-- the code and the name of each cause
abbrev pub cause_row : Cause → ℕ × List ℕ
cause_row Custom = (1, codes "Custom")
cause_row InvalidInstruction = (2, codes "InvalidInstruction")
cause_row MissingSignature = (3, codes "MissingSignature")
cause_row NotEnoughAccounts = (4, codes "NotEnoughAccounts")
cause_row InvalidArgument = (5, codes "InvalidArgument")
cause_row UnknownProgram = (6, codes "UnknownProgram")
cause_row BadImage = (7, codes "BadImage")
cause_row Unverified = (8, codes "Unverified")
cause_row UnitsSpent = (9, codes "UnitsSpent")
cause_row DivideByZero = (10, codes "DivideByZero")
cause_row AccessViolation = (11, codes "AccessViolation")
cause_row CallDepth = (12, codes "CallDepth")
cause_row BadCallTarget = (13, codes "BadCallTarget")
cause_row Abort = (14, codes "Abort")
cause_row Overlap = (15, codes "Overlap")
cause_row TooManySeeds = (16, codes "TooManySeeds")
cause_row ReturnTooLong = (17, codes "ReturnTooLong")
cause_row BadText = (18, codes "BadText")
cause_row TooManySlices = (19, codes "TooManySlices")
cause_row InvalidError = (20, codes "InvalidError")
cause_row ReadonlyChanged = (21, codes "ReadonlyChanged")
cause_row ExecutableChanged = (22, codes "ExecutableChanged")
cause_row ForeignDebit = (23, codes "ForeignDebit")
cause_row ForeignData = (24, codes "ForeignData")
cause_row OwnerChange = (25, codes "OwnerChange")
cause_row TooLarge = (26, codes "TooLarge")
cause_row Unbalanced = (27, codes "Unbalanced")
cause_row LengthTooLarge = (28, codes "LengthTooLarge")
cause_row TooManyAccounts = (29, codes "TooManyAccounts")
cause_row DataTooLong = (30, codes "DataTooLong")
cause_row TooManySigners = (31, codes "TooManySigners")
cause_row BadSeeds = (32, codes "BadSeeds")
cause_row BadFlag = (33, codes "BadFlag")
cause_row MissingAccount = (34, codes "MissingAccount")
cause_row PrivilegeEscalation = (35, codes "PrivilegeEscalation")
cause_row Reentrancy = (36, codes "Reentrancy")
cause_row StackHeight = (37, codes "StackHeight")
cause_row TraceTooLong = (38, codes "TraceTooLong")
cause_row RentState = (39, codes "RentState")
cause_row LoadedDataTooLarge = (40, codes "LoadedDataTooLarge")

abbrev pub drop_row : DropCause → ℕ × List ℕ
drop_row PayerAbsent = (1, codes "PayerAbsent")
drop_row PayerNotSystem = (2, codes "PayerNotSystem")
drop_row CannotPayFee = (3, codes "CannotPayFee")
drop_row PayerRent = (4, codes "PayerRent")

abbrev pub code_of : Cause → ℕ
code_of cause = (cause_row cause).0

abbrev pub name_of : Cause → List ℕ
name_of cause = (cause_row cause).1

abbrev pub drop_code_of : DropCause → ℕ
drop_code_of cause = (drop_row cause).0

abbrev pub drop_name_of : DropCause → List ℕ
drop_name_of cause = (drop_row cause).1

-- all causes, in the order of their codes, from 1 on
abbrev pub causes : List Cause
causes = Custom ∷ InvalidInstruction ∷ MissingSignature ∷ NotEnoughAccounts ∷ InvalidArgument
    ∷ UnknownProgram ∷ BadImage ∷ Unverified ∷ UnitsSpent ∷ DivideByZero ∷ AccessViolation
    ∷ CallDepth ∷ BadCallTarget ∷ Abort ∷ Overlap ∷ TooManySeeds ∷ ReturnTooLong ∷ BadText
    ∷ TooManySlices ∷ InvalidError ∷ ReadonlyChanged ∷ ExecutableChanged ∷ ForeignDebit
    ∷ ForeignData ∷ OwnerChange ∷ TooLarge ∷ Unbalanced ∷ LengthTooLarge ∷ TooManyAccounts
    ∷ DataTooLong ∷ TooManySigners ∷ BadSeeds ∷ BadFlag ∷ MissingAccount ∷ PrivilegeEscalation
    ∷ Reentrancy ∷ StackHeight ∷ TraceTooLong ∷ RentState ∷ LoadedDataTooLarge ∷ []

abbrev pub drop_causes : List DropCause
drop_causes = PayerAbsent ∷ PayerNotSystem ∷ CannotPayFee ∷ PayerRent ∷ []

-- the item of this number, from 1 on
abbrev pub numbered : {X : Type 0} → List X → ℕ → Option X
numbered xs zero = None
numbered xs (suc before) = slice_get xs before

-- the cause with this code
abbrev pub cause_with : ℕ → Option Cause
cause_with code = numbered causes code

abbrev pub drop_cause_with : ℕ → Option DropCause
drop_cause_with code = numbered drop_causes code

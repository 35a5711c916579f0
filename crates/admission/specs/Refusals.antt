-- What refusals say, and their texts (the project's own).
use Rattle.std.specs.Prelude.{ℕ, Bool, false, List, ◌++◌, codes, decimal}
use Rattle.message_codec.specs.declared.fault.WireFault.{WireFault}
use Rattle.message_codec.specs.declared.fault.WireFault.TheVariants.{TooLong, Truncated, BadLength, Version, Trailing, OutOfMemory as no_wire_memory}
use Rattle.message_codec.specs.declared.fault.SanitizeFault.{SanitizeFault}
use Rattle.message_codec.specs.declared.fault.SanitizeFault.TheVariants.{SignatureCount, HeaderRange, NoWritablePayer, ProgramIndex, AccountIndex, TooManyKeys, RepeatedKey, PayerReserved, EmptyLookup}
use Rattle.message_codec.specs.WireReading.{is_wire_memory}
use Rattle.fee_rules.specs.declared.budget.BudgetFault.{BudgetFault}
use Rattle.fee_rules.specs.declared.budget.BudgetFault.TheVariants.{BadBudget, RepeatedBudget}
use Rattle.admission.specs.declared.lookups.LookupFault.{LookupFault}
use Rattle.admission.specs.declared.lookups.LookupFault.TheVariants.{NoTable, BadTable, BadIndex, RepeatedKey as repeated_key, OutOfMemory as no_lookup_memory}
use Rattle.admission.specs.Lookups.{is_lookup_memory}
use Rattle.admission.specs.declared.refusal.Refusal.{Refusal}
use Rattle.admission.specs.declared.refusal.Refusal.TheVariants.{Wire, Sanitize, Lookup, UnknownBlockhash, AlreadyProcessed, RepeatedInBatch, Budget, BlockUnits, KeyUnits}

-- the fault within is out of memory, which no input shows
abbrev pub is_refusal_memory : Refusal → Bool
is_refusal_memory (Wire fault) = is_wire_memory fault
is_refusal_memory (Sanitize fault) = false
is_refusal_memory (Lookup fault) = is_lookup_memory fault
is_refusal_memory UnknownBlockhash = false
is_refusal_memory AlreadyProcessed = false
is_refusal_memory RepeatedInBatch = false
is_refusal_memory (Budget fault) = false
is_refusal_memory BlockUnits = false
is_refusal_memory KeyUnits = false

-- a name and the number after it
abbrev pub numbered : List ℕ → ℕ → List ℕ
numbered name number = name ++ codes " " ++ decimal number

-- a place stands behind `at`
abbrev pub at_place : List ℕ → ℕ → List ℕ
at_place name place = numbered (name ++ codes " at") place

abbrev pub wire_text : WireFault → List ℕ
wire_text TooLong = codes "TooLong"
wire_text (Truncated place) = at_place (codes "Truncated") place
wire_text (BadLength place) = at_place (codes "BadLength") place
wire_text (Version byte) = numbered (codes "Version") byte
wire_text (Trailing place) = at_place (codes "Trailing") place
wire_text no_wire_memory = codes "OutOfMemory"

abbrev pub sanitize_text : SanitizeFault → List ℕ
sanitize_text SignatureCount = codes "SignatureCount"
sanitize_text HeaderRange = codes "HeaderRange"
sanitize_text NoWritablePayer = codes "NoWritablePayer"
sanitize_text ProgramIndex = codes "ProgramIndex"
sanitize_text AccountIndex = codes "AccountIndex"
sanitize_text TooManyKeys = codes "TooManyKeys"
sanitize_text RepeatedKey = codes "RepeatedKey"
sanitize_text PayerReserved = codes "PayerReserved"
sanitize_text (EmptyLookup lookup) = numbered (codes "EmptyLookup") lookup

abbrev pub lookup_text : LookupFault → List ℕ
lookup_text (NoTable lookup) = numbered (codes "NoTable") lookup
lookup_text (BadTable lookup) = numbered (codes "BadTable") lookup
lookup_text (BadIndex lookup) = numbered (codes "BadIndex") lookup
lookup_text repeated_key = codes "RepeatedKey"
lookup_text no_lookup_memory = codes "OutOfMemory"

abbrev pub budget_text : BudgetFault → List ℕ
budget_text (BadBudget index) = numbered (codes "BadBudget") index
budget_text (RepeatedBudget index) = numbered (codes "RepeatedBudget") index

-- the name of the cause, and then that of the fault within
abbrev pub text_of : Refusal → List ℕ
text_of (Wire fault) = codes "Wire " ++ wire_text fault
text_of (Sanitize fault) = codes "Sanitize " ++ sanitize_text fault
text_of (Lookup fault) = codes "Lookup " ++ lookup_text fault
text_of UnknownBlockhash = codes "UnknownBlockhash"
text_of AlreadyProcessed = codes "AlreadyProcessed"
text_of RepeatedInBatch = codes "RepeatedInBatch"
text_of (Budget fault) = codes "Budget " ++ budget_text fault
text_of BlockUnits = codes "BlockUnits"
text_of KeyUnits = codes "KeyUnits"

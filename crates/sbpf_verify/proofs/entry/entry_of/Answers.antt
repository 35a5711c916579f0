use Rattle.std.proofs.Common.{◌≡◌, Some, None, ap, sym, ◌∙◌}
use Rattle.sbpf_isa.specs.Rows.{kind_at}
use Rattle.sbpf_isa.specs.declared.slot.Slot.{Slot}
use Rattle.sbpf_isa.specs.declared.rows.OpKind.{OpKind}
use Rattle.sbpf_verify.specs.Places.{instruction_at}
use Rattle.sbpf_verify.proofs.Starts.{there_instruction, start_instruction}
use Rattle.sbpf_verify.proofs.entry.entry_of.Goals as goal

pub instruction_entry-requires-clause-there : goal.instruction_entry-requires-clause-there
instruction_entry-requires-clause-there c =
    there_instruction c.args.text.now c.args.place c.requires.there ∙ ap (λ (slot : Slot). kind_at slot.opcode) (sym c.slot_at-slot.ensures) ∙
    sym c.kind_of.ensures ∙ c.in-Some.is

pub returns-in-None : goal.returns-in-None
returns-in-None c = λ start.
    let found : (kind : OpKind) × (instruction_at c.args.text.now c.args.place ≡ Some kind) = start_instruction c.args.text.now c.args.place c.requires.verified start in
    let none : instruction_at c.args.text.now c.args.place
    ≡ None = there_instruction c.args.text.now c.args.place c.requires.there
    ∙ ap (λ (slot : Slot). kind_at slot.opcode) (sym c.slot_at-slot.ensures) ∙ sym c.kind_of.ensures
    ∙ c.in-None.is in
    absurd (let clash : Some found.0 ≡ None = sym found.1 ∙ none in cc)

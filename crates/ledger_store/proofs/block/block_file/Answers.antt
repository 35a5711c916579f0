use Rattle.std.proofs.Common.{◌≡◌, ℕ, List, ◌++◌, refl, ap, ◌∙◌, w64}
use Rattle.std.specs.Int.{to_le_bytes}
use Rattle.block_record.specs.Record.{bytes_of_record}
use Rattle.ledger_store.specs.Seal.{sealed}
use Rattle.ledger_store.specs.Blocks.{kept_bytes}
use Rattle.ledger_store.proofs.block.block_file.Goals as goal

pub returns : goal.returns
returns c =
    let written : c.in_ok-out-2.out ≡ bytes_of_record c.args.block.now =
    c.in_ok-out-2.ensures.after c.in_ok-out.out refl ∙ ap (λ (l : List ℕ). l ++ bytes_of_record c.args.block.now) c.in_ok-out.ensures in
    let whole : c.append.new.self ≡ kept_bytes c.args.block.now c.args.micros =
    c.in_ok-append.ensures.ok ∙ ap (λ (l : List ℕ). c.in_ok-out-2.out ++ l) c.to_le_bytes.ensures ∙ ap (λ (l : List ℕ). l ++ to_le_bytes w64 c.args.micros) written in
    c.in_ok-seal.ensures ∙ ap sealed whole

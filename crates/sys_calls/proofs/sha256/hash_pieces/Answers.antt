use Rattle.std.proofs.Common.{◌≡◌, ◌≤◌, ◌+◌, ◌-◌, ◌++◌, ℕ, List, min, length, take, append_assoc, sym, subst, ap, ◌∙◌, arith}
use Rattle.std.proofs.Math.Seq.{take-add}
use Rattle.std.proofs.lemmas.List.{take_all}
use Rattle.sha2.specs.Hashers.{Holds256}
use Rattle.sbpf_memory.specs.Plain.{plain_memory}
use Rattle.sys_calls.specs.declared.access.TheConstants.{PIECE}
use Rattle.sys_calls.specs.Access.{held}
use Rattle.sys_calls.proofs.Pieces.{memory-plain, length-held}
use Rattle.sys_calls.proofs.sha256.hash_pieces.Goals as goal

pub loop-at-preserved : goal.loop-at-preserved
loop-at-preserved c =
    let bytes = held (plain_memory c.args.memory.now) c.args.slice.addr c.args.slice.len in
    let piece = c.read_piece-piece.result.now in
    let size : length piece ≡ min PIECE (c.args.slice.len - c.loop-at.at) = c.read_piece-piece.ensures.count in
    record {
      within = omega arith;
      hashes = λ hashed h.
          let more : (hashed ++ take c.loop-at.at bytes) ++ piece ≡ hashed ++ take (c.loop-at.at + length piece) bytes =
          append_assoc hashed (take c.loop-at.at bytes) piece
          ∙ ap (λ (l : List ℕ). hashed ++ (take c.loop-at.at bytes ++ l)) c.read_piece-piece.ensures.bytes
          ∙ ap (λ (l : List ℕ). hashed ++ l) (sym (take-add c.loop-at.at (min PIECE (c.args.slice.len - c.loop-at.at)) bytes))
          ∙ ap (λ (n : ℕ). hashed ++ take (c.loop-at.at + n) bytes) (sym size)
          in
          subst (Holds256 c.update.new.self) more (c.update.ensures (hashed ++ take c.loop-at.at bytes) (c.loop-at.invariant.hashes hashed h));
    }

pub returns : goal.returns
returns c =
    let bytes = held (plain_memory c.args.memory.now) c.args.slice.addr c.args.slice.len in
    let size : length bytes ≡ c.args.slice.len = length-held (plain_memory c.args.memory.now) c.args.slice.addr c.args.slice.len (memory-plain c.args.memory.now c.is_memory.ensures) c.requires in
    let past : length bytes ≤ c.loop-at.at = omega arith in
    λ hashed h. subst (λ (l : List ℕ). Holds256 c.loop-at.hasher (hashed ++ l)) (take_all c.loop-at.at bytes past) (c.loop-at.invariant.hashes hashed h)

use Rattle.std.proofs.Common.{add-one, ◌≡◌, true, false, sym, arith}
use Rattle.block_replay.specs.Verdict.{same_bytes}
use Rattle.block_replay.proofs.Lines.{other_here, same_next}
use Rattle.block_replay.proofs.comparing.have_same_lines.Goals as goal

pub returns-then-not-is_same_line : goal.returns-then-not-is_same_line
returns-then-not-is_same_line c =
    let differs : same_bytes c.index-expected-place.result c.index-found-place.result ≡ false = cc in
    sym (other_here same_bytes c.args.expected.now c.args.found.now c.loop-place.place
    c.index-expected-place.result c.index-found-place.result (omega arith) c.loop-place-test.true
    c.index-expected-place.is c.index-found-place.is differs)

pub loop-place-preserved : goal.loop-place-preserved
loop-place-preserved c =
    let same : same_bytes c.index-expected-place.result c.index-found-place.result ≡ true = cc in
    rw add-one (same_next same_bytes c.args.expected.now c.args.found.now c.loop-place.place
    c.index-expected-place.result c.index-found-place.result (omega arith) c.loop-place-test.true
    c.index-expected-place.is c.index-found-place.is c.loop-place.invariant same)

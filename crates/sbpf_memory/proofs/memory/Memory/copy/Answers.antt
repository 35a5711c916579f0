use Rattle.std.proofs.Common.{◌≡◌, ◌∙◌, false, true, None, Result, Ok, Err, refl, ap, sym, subst, arith}
use Rattle.sbpf_memory.specs.declared.fault.MemFault.{MemFault}
use Rattle.sbpf_memory.specs.Copies.{copied_in}
use Rattle.sbpf_memory.specs.Memory.{Ranges, Answers, IsPrepared, PreparedAt, copy_to, place_of, refusal_of, violation_of}
use Rattle.sbpf_memory.proofs.Copying.{copy-nothing, copy-read, copy-write, copy-meets, copy-done}
use Rattle.sbpf_memory.proofs.memory.Memory.copy.Goals as goal

pub returns-then-len-eq0-clause-answer : goal.returns-then-len-eq0-clause-answer
returns-then-len-eq0-clause-answer c =
    ap (λ len. copy_to c.args.self.now c.args.to c.args.from len c.args.apart) c.if-len-eq0.true ∙ copy-nothing c.args.self.now c.args.to c.args.from c.args.apart

pub returns-in_default-clause-answer : goal.returns-in_default-clause-answer
returns-in_default-clause-answer c =
    let m : Ranges = c.args.self.now in
    let wanted : Result Ranges MemFault = copy_to m c.args.to c.args.from c.args.len c.args.apart in
    let none : place_of m c.args.from c.args.len ≡ None = sym c.place.ensures.value ∙ c.in_default.is in
    let refused : c.from.result ≡ refusal_of (violation_of c.args.from c.args.len false) = c.from.ensures ∙ ap refusal_of c.violation.ensures in
    subst (λ (f : MemFault). Answers wanted m m (Err f)) (sym refused)
    (copy-read m c.args.to c.args.from c.args.len c.args.apart (omega (arith, c.if-len-eq0.false)) none, refl)

pub returns-in_default-writable-clause-answer : goal.returns-in_default-writable-clause-answer
returns-in_default-writable-clause-answer c =
    let m : Ranges = c.args.self.now in
    let wanted : Result Ranges MemFault = copy_to m c.args.to c.args.from c.args.len c.args.apart in
    let refused : c.from-in_default-writable.result
    ≡ refusal_of (violation_of c.args.to c.args.len true) = c.from-in_default-writable.ensures
    ∙ ap refusal_of c.violation-in_default-writable.ensures in
    subst (λ (f : MemFault). Answers wanted m m (Err f)) (sym refused) (
      copy-write m c.args.to c.args.from c.args.len c.args.apart c.in-Some.source
          (omega (arith, c.if-len-eq0.false)) (sym c.in-Some.ensures.value) c.in-Some.ensures.within
          c.in_default-writable.ensures,
      refl,
    )

pub returns-then-overlaps-clause-answer : goal.returns-then-overlaps-clause-answer
returns-then-overlaps-clause-answer c =
    let m : Ranges = c.args.self.now in (
      copy-meets m c.args.to c.args.from c.args.len c.args.apart c.in-Some.source c.in-Some-writable.target
          (omega (arith, c.if-len-eq0.false)) (sym c.in-Some.ensures.value) c.in-Some.ensures.within
          c.in-Some-writable.ensures (sym c.overlaps.ensures ∙ c.if-overlaps.true),
      refl,
    )

pub returns-clause-answer : goal.returns-clause-answer
returns-clause-answer c =
    let m : Ranges = c.args.self.now in
    let done : copy_to m c.args.to c.args.from c.args.len c.args.apart ≡ Ok (copied_in m c.in-Some-writable.target c.in-Some.source c.args.len) =
    copy-done m c.args.to c.args.from c.args.len c.args.apart c.in-Some.source c.in-Some-writable.target
    (omega (arith, c.if-len-eq0.false)) (sym c.in-Some.ensures.value) c.in-Some.ensures.within
    c.in-Some-writable.ensures (sym c.overlaps.ensures ∙ c.if-overlaps.false) in
    subst (λ (wanted : Result Ranges MemFault). Answers wanted m c.copy_at.new.self c.copy_at.result) (sym done) c.copy_at.ensures.answer

pub returns-clause-ready : goal.returns-clause-ready
unfolding IsPrepared
returns-clause-ready c = λ prepared. c.copy_at.ensures.ready (subst (PreparedAt c.args.self.now c.args.len) c.in-Some-writable.ensures.found prepared)

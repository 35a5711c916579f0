use Rattle.std.proofs.Common.{◌≡◌, ◌∙◌, List, get_or, length, map, sym, ap, append-nil, arith, Ok, Err}
use Rattle.std.specs.List.{enumerate_from}
use Rattle.std.specs.Vec.Iter.{into_iter_items}
use Rattle.admission.specs.declared.weighing.Weighed.{Weighed}
use Rattle.admission.specs.Weighing.{is_repeated}
use Rattle.admission.proofs.SiftLaws.{has_place, sifted_more}
use Rattle.admission.proofs.sift.sift.Goals as goal

pub index-requires : goal.index-requires
index-requires c =
    let told = c.in_ok-repeats.ensures ∙ ap (λ (batch : List Weighed). map (is_repeated batch) (enumerate_from 0 batch)) c.as_slice.ensures in
    let place = has_place c.args.batch c.loop-one.yielded (into_iter_items c.loop-one.one-iterator)
    (into_iter_items c.next.new.self) c.loop-one.standing.items c.loop-one.causes.items c.loop-one.invariant
    c.in-Some.one c.in-Some.ensures.steps.0 c.in_ok-repeats.repeats.items told in
    omega (arith, place, c.len-in-loop-one.ensures)

pub loop-one-preserved-in-Continue-branch-5 : goal.loop-one-preserved-in-Continue-branch-5
loop-one-preserved-in-Continue-branch-5 c =
    let told = c.in_ok-repeats.ensures ∙ ap (λ (batch : List Weighed). map (is_repeated batch) (enumerate_from 0 batch)) c.as_slice.ensures in
    let place : c.len-in-loop-one.result ≡ length c.loop-one.causes.items = omega (arith, c.len-in-loop-one.ensures) in
    sifted_more c.args.batch c.loop-one.yielded (into_iter_items c.loop-one.one-iterator) (into_iter_items c.next.new.self) c.loop-one.standing.items c.loop-one.causes.items c.loop-one.invariant
    c.in-Some.one c.in-Some.ensures.steps.0 c.in_ok-repeats.repeats.items told c.index.result.now c.index.result.now
    (c.index.ensures ∙ ap (λ n. get_or c.in_ok-repeats.repeats.items n c.index.result.now) place) (Ok c.in-Ok.candidate) (sym c.in-Ok.is ∙ c.sift_one.ensures)
    c.push.new.self.items c.push-in-Ok.new.self.items c.in_ok-push-in-Ok.ensures.items c.in_ok-push-in-Ok-2.ensures.items

pub loop-one-preserved : goal.loop-one-preserved
loop-one-preserved c =
    let told = c.in_ok-repeats.ensures ∙ ap (λ (batch : List Weighed). map (is_repeated batch) (enumerate_from 0 batch)) c.as_slice.ensures in
    let place : c.len-in-loop-one.result ≡ length c.loop-one.causes.items = omega (arith, c.len-in-loop-one.ensures) in
    sifted_more c.args.batch c.loop-one.yielded (into_iter_items c.loop-one.one-iterator) (into_iter_items c.next.new.self) c.loop-one.standing.items c.loop-one.causes.items c.loop-one.invariant
    c.in-Some.one c.in-Some.ensures.steps.0 c.in_ok-repeats.repeats.items told c.index.result.now c.index.result.now
    (c.index.ensures ∙ ap (λ n. get_or c.in_ok-repeats.repeats.items n c.index.result.now) place) (Err c.in-Err.cause) (sym c.in-Err.is ∙ c.sift_one.ensures)
    c.loop-one.standing.items c.push-in-Err.new.self.items (sym (append-nil c.loop-one.standing.items)) c.in_ok-push-in-Err.ensures.items

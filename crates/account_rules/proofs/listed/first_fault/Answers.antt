use Rattle.std.proofs.Common.{◌≡◌, ◌+◌, ◌<◌, ◌∙◌, sym, refl, take, get_or, length, true, false, arith}
use Rattle.sol_base.specs.Accounts.{accounts_of}
use Rattle.sol_base.specs.Metas.{is_listed, is_listed_writable, no_meta}
use Rattle.account_rules.proofs.Flags.{flag_at, no_flag, one_flag, again_flag, listed_more}
use Rattle.account_rules.proofs.Listings.{again, at_first, ends, goes_on, rule_at, same_at, stops}
use Rattle.account_rules.proofs.listed.first_fault.Goals as goal

pub loop-at-init : goal.loop-at-init
loop-at-init c = record { seen = no_flag (is_listed (take 0 c.args.metas.now)) (λ place. refl); none = refl }

pub loop-at-preserved-then-seen-place : goal.loop-at-preserved-then-seen-place
loop-at-preserved-then-seen-place c =
    let metas = c.args.metas.now in
    let n = c.loop-at.at in
    let meta = get_or metas n no_meta in
    let already : is_listed (take n metas) meta.index ≡ true = flag_at (is_listed (take n metas)) c.loop-at.seen meta.index true c.loop-at.invariant.seen (omega arith) c.if-seen-place.true in
    record {
      seen = again_flag (is_listed (take n metas)) (is_listed (take (n + 1) metas)) c.loop-at.seen meta.index
          c.loop-at.invariant.seen already (λ place. listed_more metas n no_meta place c.loop-at-test.true);
      none = goes_on c.args.program.now metas (accounts_of c.args.before.now) (accounts_of c.args.after.now) n
          no_meta c.loop-at-test.true c.loop-at.invariant.none
          (again c.args.program.now metas (accounts_of c.args.before.now) (accounts_of c.args.after.now) n meta
          already);
    }

pub broken_at-fault-requires : goal.broken_at-fault-requires
broken_at-fault-requires c clear =
    let meta = get_or c.args.metas.now c.loop-at.at no_meta in
    let range : meta.index < length (accounts_of c.args.before.now) = c.requires.range c.loop-at.at no_meta c.loop-at-test.true in
    c.deref-in-loop-at.ensures ∙ same_at c.args.touched.now c.args.before.now c.args.after.now
    c.requires.untouched meta.index c.index-before-place.result c.index-after-place.result
    (omega (arith, range)) range (omega (arith, range)) c.index-before-place.is c.index-after-place.is clear
    ∙ sym c.deref.ensures

pub returns-in-Some : goal.returns-in-Some
returns-in-Some c =
    let metas = c.args.metas.now in
    let n = c.loop-at.at in
    let meta = get_or metas n no_meta in
    let range : meta.index < length (accounts_of c.args.before.now) = c.requires.range n no_meta c.loop-at-test.true in
    let new : is_listed (take n metas) meta.index ≡ false = flag_at (is_listed (take n metas)) c.loop-at.seen meta.index false c.loop-at.invariant.seen (omega arith) c.if-seen-place.false in
    let flag = flag_at (is_listed_writable metas) c.writable_flags-writable.result meta.index
    (get_or c.writable_flags-writable.result meta.index false) c.writable_flags-writable.ensures
    (omega arith) refl in
    let rule = rule_at c.args.program.now metas c.args.before.now c.args.after.now n meta
    (get_or c.writable_flags-writable.result meta.index false) c.index-before-place.result
    c.index-after-place.result c.deref.result.now c.deref-in-loop-at.result.now range (omega (arith, range))
    flag c.index-before-place.is c.index-after-place.is c.deref.ensures c.deref-in-loop-at.ensures in
    let here = at_first c.args.program.now metas (accounts_of c.args.before.now) (accounts_of c.args.after.now) n meta new ∙ rule ∙ sym c.broken_at-fault.ensures in
    sym (stops c.args.program.now metas (accounts_of c.args.before.now) (accounts_of c.args.after.now) n no_meta c.in-Some.fault c.loop-at-test.true c.loop-at.invariant.none (here ∙ c.in-Some.is))

pub loop-at-preserved : goal.loop-at-preserved
loop-at-preserved c =
    let metas = c.args.metas.now in
    let n = c.loop-at.at in
    let meta = get_or metas n no_meta in
    let range : meta.index < length (accounts_of c.args.before.now) = c.requires.range n no_meta c.loop-at-test.true in
    let new : is_listed (take n metas) meta.index ≡ false = flag_at (is_listed (take n metas)) c.loop-at.seen meta.index false c.loop-at.invariant.seen (omega arith) c.if-seen-place.false in
    let flag = flag_at (is_listed_writable metas) c.writable_flags-writable.result meta.index
    (get_or c.writable_flags-writable.result meta.index false) c.writable_flags-writable.ensures
    (omega arith) refl in
    let rule = rule_at c.args.program.now metas c.args.before.now c.args.after.now n meta
    (get_or c.writable_flags-writable.result meta.index false) c.index-before-place.result
    c.index-after-place.result c.deref.result.now c.deref-in-loop-at.result.now range (omega (arith, range))
    flag c.index-before-place.is c.index-after-place.is c.deref.ensures c.deref-in-loop-at.ensures in
    let here = at_first c.args.program.now metas (accounts_of c.args.before.now) (accounts_of c.args.after.now) n meta new ∙ rule ∙ sym c.broken_at-fault.ensures in
    record {
      seen = one_flag (is_listed (take n metas)) (is_listed (take (n + 1) metas)) c.loop-at.seen meta.index
          (omega arith) c.loop-at.invariant.seen
          (λ place. listed_more metas n no_meta place c.loop-at-test.true);
      none = goes_on c.args.program.now metas (accounts_of c.args.before.now) (accounts_of c.args.after.now) n no_meta c.loop-at-test.true c.loop-at.invariant.none (here ∙ c.in_default.is);
    }

pub returns : goal.returns
returns c = sym (ends c.args.program.now c.args.metas.now (accounts_of c.args.before.now) (accounts_of c.args.after.now) c.loop-at.at (omega arith) c.loop-at.invariant.none)

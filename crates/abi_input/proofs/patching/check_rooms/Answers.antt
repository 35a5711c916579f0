use Rattle.std.proofs.lemmas.Option.{slice_get-get_or}
use Rattle.sol_base.specs.Accounts.{accounts_of}
use Rattle.abi_input.specs.Region.{is_outgrown}
use Rattle.abi_input.specs.Entries.{found_among}
use Rattle.std.proofs.Common.{length}
use Rattle.abi_input.proofs.Finding.{found_here, none_more, place_of_found}
use Rattle.abi_input.proofs.patching.check_rooms.Goals as goal

pub returns-then-outgrows-clause-err : goal.returns-then-outgrows-clause-err
returns-then-outgrows-clause-err c =
    let test = is_outgrown (accounts_of c.args.laid.now.start.now) (accounts_of c.args.now.now) in
    place_of_found (found_among test c.args.laid.now.listings.metas.now (length c.args.laid.now.listings.metas.now)) c.loop-place.place _
    (found_here test c.args.laid.now.listings.metas.now c.loop-place.place _ c.outgrows.result
    (slice_get-get_or c.args.laid.now.listings.metas.now c.loop-place.place _ c.loop-place-test.true)
    c.outgrows.ensures c.if-outgrows.true c.loop-place.invariant)

pub loop-place-preserved : goal.loop-place-preserved
loop-place-preserved c =
    none_more (is_outgrown (accounts_of c.args.laid.now.start.now) (accounts_of c.args.now.now)) c.args.laid.now.listings.metas.now c.loop-place.place _ c.outgrows.result
    (slice_get-get_or c.args.laid.now.listings.metas.now c.loop-place.place _ c.loop-place-test.true) c.outgrows.ensures c.if-outgrows.false c.loop-place.invariant

use Rattle.std.proofs.Common.{refl}
use Rattle.text_short.specs.SeededCalls.{create_account_with_seed_in}
use Rattle.text_short.proofs.seeded.create_account_with_seed.Goals as goal

pub returns : goal.returns
unfolding create_account_with_seed_in
returns c = rw (
  c.in_ok-known_to_create.ensures,
  c.in_ok-from.ensures,
  c.in_ok-to.ensures,
  c.in_ok-derived.ensures,
  c.in_ok-lamports.ensures.gives,
  c.in_ok-space.ensures.gives,
  c.in_ok-creation.ensures,
  c.to_le_bytes.ensures,
  c.as_slice.ensures,
  c.to_le_bytes-2.ensures,
  c.to_le_bytes-3.ensures,
) refl

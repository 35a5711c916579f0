use Rattle.std.proofs.Common.{◌≡◌, ◌+◌, ◌-◌, ◌%◌}
use Rattle.batch_gen.specs.declared.start.TheConstants.{USERS}
use Rattle.batch_gen.specs.declared.transfers.TheConstants.{PRICES}
use Rattle.batch_gen.specs.Generator.{draw}
use Rattle.batch_gen.proofs.transfers.draw_wire.Goals as goal

pub returns-clause-wire : goal.returns-clause-wire
returns-clause-wire c =
    let x = c.args.draws.now.state in
    let from : c.draw_users-from.result.0 ≡ draw x 1 % USERS = c.draw_users-from.ensures.from in
    let to : c.draw_users-from.result.1 ≡ (draw x 1 % USERS + 1 + draw x 2 % (USERS - 1)) % USERS = rw from at c.draw_users-from.ensures.to in
    let price : c.draw_price-price.result ≡ draw x 3 % PRICES = rw c.draw_users-from.ensures.state at c.draw_price-price.ensures.price in
    rw (from, to, price, c.lamports_of.ensures) at c.transfer_wire.ensures

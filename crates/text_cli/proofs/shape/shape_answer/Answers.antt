use Rattle.admission.specs.Admission.{start_of}
use Rattle.text_cli.proofs.Orders.{few_run}
use Rattle.text_cli.proofs.shape.shape_answer.Goals as goal

pub shape_of-requires : goal.shape_of-requires
shape_of-requires g c =
    few_run (start_of c.args.snapshot.now.recent c.args.snapshot.now.accounts c.args.snapshot.now.limits)
    c.args.batch.now.wires c.in_ok-told.told c.as_slice-order.result.now _ c.in_ok-told.ensures.exact
    c.as_slice-order.ensures c.requires.few

pub most_waited-requires : goal.most_waited-requires
most_waited-requires g c =
    few_run (start_of c.args.snapshot.now.recent c.args.snapshot.now.accounts c.args.snapshot.now.limits)
    c.args.batch.now.wires c.in_ok-told.told c.as_slice-order.result.now _ c.in_ok-told.ensures.exact
    c.as_slice-order.ensures c.requires.few

use Rattle.ledger_cli.proofs.add.add_in.Goals as goal

pub returns : goal.returns
returns g c = record {
  stands = λ zero.
      let s = c.in_ok-answer.ensures.stands zero in
      record {
        ledger = c.in-Ok.opening.ledger;
        batch = c.in-Ok-batch_in.batch;
        opened = g.F.Folder.events c.open_synced.new.files;
        reads = c.in-Ok.ensures.synced;
        opens = c.in-Ok.ensures.opening c.in-Ok.opening.ledger s.0;
        given = c.in-Ok-batch_in.ensures.same;
        stands = s.1;
      };
}

use Rattle.serde_json.specs.View.{view}
use Rattle.text_short.proofs.ShortLaws.{wires_few, wires_short}
use Rattle.text_short.proofs.batch.wires_member.Goals as goal

pub returns-clause-few : goal.returns-clause-few
returns-clause-few c = wires_few c.args.newest (view c.args.value.now) c.list_member.result c.list_member.ensures

pub returns-clause-short : goal.returns-clause-short
returns-clause-short c = wires_short c.args.newest (view c.args.value.now) c.list_member.result c.list_member.ensures

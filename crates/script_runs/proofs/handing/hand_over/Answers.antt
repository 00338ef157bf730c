use Rattle.script_runs.proofs.ItemSteps.{load_sent, end_sent}
use Rattle.script_runs.proofs.handing.hand_over.Goals as goal

pub returns-in-Ok-Loads : goal.returns-in-Ok-Loads
returns-in-Ok-Loads g c = load_sent (g.A.Answering.language c.args.answering.now) c.args.line c.args.reply.now c.in-Ok-Loads.field-0 c.in-Ok-Loads.field-0-0 (g.K.Sink.view c.args.out.now) c.in-Ok-Loads.is (rw c.in-Ok-Loads.is at c.in-Ok-Loads.field-0-is)

pub returns-in-Ok-Ends : goal.returns-in-Ok-Ends
returns-in-Ok-Ends g c = end_sent (g.A.Answering.language c.args.answering.now) c.args.line c.args.reply.now c.in-Ok-Ends.field-0 (g.K.Sink.view c.args.out.now) c.in-Ok-Ends.is (rw c.in-Ok-Ends.is at c.in-Ok-Ends.field-0-is)

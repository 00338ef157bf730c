use Rattle.transducer_loading.proofs.TransducerSteps.{no_memory}
use Rattle.transducer_loading.proofs.loading.load_transducer.Goals as goal

pub returns-in_err-copy : goal.returns-in_err-copy
returns-in_err-copy g c = no_memory c.args.name.now (g.T.Store.view c.args.store.now) c.from_residual.result c.from_residual.ensures.1

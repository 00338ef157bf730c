use Rattle.definitions.proofs.FileBindings.{files_bind}
use Rattle.definitions.proofs.laws.files_bind_as_their_ledger.Goals as goal

pub returns : goal.returns
returns c = files_bind

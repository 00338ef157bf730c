use Rattle.std.proofs.Common.{subst}
use Rattle.std.proofs.lemmas.Result.{IfOk-weaker}
use Rattle.residual_classes.specs.FirstPlaces.{AreFirstPlaces}
use Rattle.residual_classes.proofs.HashLemmas.{AreCoarseClasses-places}
use Rattle.residual_classes.proofs.state_hashes.StateHashes.classes.Goals as goal

pub returns : goal.returns
returns c =
    IfOk-weaker c.first_places.result _ _
    (λ classes are. AreCoarseClasses-places c.args.machine.now.dfa.now c.args.machine.now.outputs.now c.args.self.now.hashes.items _ c.requires (subst (λ xs. AreFirstPlaces xs classes.items) c.deref.ensures.value are))
    c.first_places.ensures

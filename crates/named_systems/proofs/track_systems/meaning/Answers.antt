use Rattle.std.proofs.Common.{Some, sym, ap, ◌∙◌}
use Rattle.num_system.specs.Sealed.{SystemValue}
use Rattle.named_systems.proofs.track_systems.meaning.Goals as goal

pub returns : goal.returns
returns c = c.in-Some-get.ensures.found ∙ ap (λ (s : SystemValue). Some s) (sym c.in_ok-clone-in-Some-get.ensures.cases)

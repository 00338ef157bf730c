use Rattle.minimise.proofs.SameLemmas.{states_determine_language}
use Rattle.minimise.proofs.comparison.same.Goals as goal

pub returns : goal.returns
returns c =
    let equal = states_determine_language c.args.a.now c.args.b.now c.requires.first c.requires.second c.requires.sizes in (
      (λ is. equal.0 (c.have_equal_states.ensures.0 is)),
      (λ same. c.have_equal_states.ensures.1 (equal.1 same)),
    )

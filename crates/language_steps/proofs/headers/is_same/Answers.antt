use Rattle.std.proofs.Common.{sym, ◌∙◌}
use Rattle.std.proofs.lemmas.Bool.Decides.{Decides-int_eq}
use Rattle.std.proofs.lemmas.Slice.Eq.{slice_eq-Decides}
use Rattle.language_steps.proofs.headers.is_same.Goals as goal

pub returns : goal.returns
returns c =
    let decides = slice_eq-Decides Decides-int_eq c.members.result.now c.members-2.result.now c.eq.result c.eq.ensures in
    ((λ is. sym c.members.ensures.members ∙ (decides.0 is ∙ c.members-2.ensures.members)), (λ same. decides.1 (c.members.ensures.members ∙ (same ∙ sym c.members-2.ensures.members))))

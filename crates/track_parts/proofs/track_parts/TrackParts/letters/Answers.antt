use Rattle.std.proofs.Common.{List, ℕ, length, ap, sym, ◌∙◌}
use Rattle.track_parts.proofs.FoundLetters.{length-parts}
use Rattle.track_parts.proofs.track_parts.TrackParts.letters.Goals as goal

pub returns : goal.returns
returns c =
    let t = c.self.inside in
    c.letters.ensures.value ∙ sym (length-parts t.alphabet t.places.items) ∙ ap (λ (ps : List ℕ). length ps) c.self.view_is

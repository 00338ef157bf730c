-- Systems with the same digits, direction and language are the same.
use Rattle.std.proofs.Common.{◌≡◌, ℕ, [], ◌∷◌, sym, ap, ◌∙◌}
use Rattle.digit_tuple.specs.Deterministic.{accepts_of}
use Rattle.digit_tuple.specs.Paddings.{in_order}
use Rattle.minimise.specs.Residuals.{SameLanguage}
use Rattle.minimise.proofs.CanonicalLemmas.{canonical_forms}
use Rattle.num_system.specs.Sealed.{SystemValue, IsSealed}
use Rattle.num_system.proofs.OneSystem.{one_sealed}

pub same_sizes : (s t : SystemValue) → IsSealed s → IsSealed t → s.digits ≡ t.digits → s.language.sizes ≡ t.language.sizes
same_sizes s t one other digits = one.language.sizes ∙ (ap (λ (n : ℕ). n ∷ []) digits ∙ sym other.language.sizes)

pub same_system : (s t : SystemValue) → IsSealed s → IsSealed t → s.digits ≡ t.digits → s.direction ≡ t.direction → SameLanguage s.language t.language → s ≡ t
same_system s t one other digits directions same =
    let languages : s.language ≡ t.language = canonical_forms s.language t.language one.language_canonical other.language_canonical (same_sizes s t one other digits) same in
    one_sealed s t one other directions (λ i. record { digits = digits i; test = λ w. accepts_of (languages i) (in_order (directions i) w) })

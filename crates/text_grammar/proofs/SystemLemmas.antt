-- The directions that names of systems say.
use Rattle.std.proofs.Common.{◌≡◌, ℕ, true, List, codes, bytes_eq, ◌⊎◌, inl, inr, ⊎_elim}
use Rattle.std.proofs.lemmas.Slice.Eq.{bytes_eq-Decides}
use Rattle.std.proofs.lemmas.Bool.{or_cases}
use Rattle.text_grammar.specs.Systems.{is_direction}

pub direction_is : (bytes : List ℕ) → is_direction bytes ≡ true → (bytes ≡ codes "msd_") ⊎ (bytes ≡ codes "lsd_")
direction_is bytes h = ⊎_elim (λ e. inl ((bytes_eq-Decides bytes (codes "msd_")).0 e)) (λ e. inr ((bytes_eq-Decides bytes (codes "lsd_")).0 e))
    (or_cases (bytes_eq bytes (codes "msd_")) (bytes_eq bytes (codes "lsd_")) h)

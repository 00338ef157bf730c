-- The states of a canonical automaton have words that are apart.
use Rattle.std.proofs.Common.{◌≡◌, ℕ, List, ◌++◌, sym, ap, ◌∙◌}
use Rattle.digit_tuple.specs.Deterministic.{Automaton, letters_of, states_of, accepts_of}
use Rattle.digit_tuple.specs.Letters.{IsWord}
use Rattle.digit_tuple.specs.Width.{HasApart}
pub use Rattle.digit_tuple.proofs.WidthLemmas.{apart_within_width}
use Rattle.residual_classes.specs.Outputs.{bit_of, bits_of}
use Rattle.minimise.specs.Canonical.{IsCanonical}
use Rattle.minimise.proofs.BitLemmas.{class_from-bits, with_bits}
use Rattle.minimise.proofs.ClassLeadLemmas.{canonical_classes_apart}

-- the first words of a canonical automaton's states are apart by each relation that the language keeps
pub canonical_apart : (d : Automaton) → IsCanonical d → (R : List ℕ → List ℕ → Type 0)
    → ((w v u : List ℕ) → IsWord (letters_of d) w → IsWord (letters_of d) v → IsWord (letters_of d) u → R w v → accepts_of d (w ++ u) ≡ accepts_of d (v ++ u))
    → HasApart R (letters_of d) (states_of d)
canonical_apart d canonical R kept = canonical_classes_apart d (bits_of d) (with_bits d canonical) R
    (λ w v u over there more alike. class_from-bits d (w ++ u) 0 ∙ ap bit_of (kept w v u over there more alike) ∙ sym (class_from-bits d (v ++ u) 0))

-- Two canonical automata of one language are equal.
use Rattle.std.proofs.Common.{◌≡◌, ℕ, ◌<◌, List, ◌∷◌, Some}
use Rattle.digit_tuple.specs.Deterministic.{Automaton, letters_of, states_of, run_of}
use Rattle.digit_tuple.specs.Letters.{IsWord}
use Rattle.residual_classes.specs.Outputs.{bits_of}
use Rattle.minimise.specs.Residuals.{SameResidual, IsDead}
use Rattle.minimise.specs.Canonical.{IsCanonical, CanonicalFormsAreEqual}
pub use Rattle.minimise.proofs.RunLemmas.{step_within, run_within}
use Rattle.minimise.proofs.BitLemmas.{dead-no_class, residual-classes, with_bits}
use Rattle.minimise.proofs.ClassFormLemmas.{class_after_some, one_class_state, canonical_classes_are_equal}

-- what a word of one letter or more leads to is not dead
pub live_after : (d : Automaton) → IsCanonical d → (w : List ℕ) (a p q : ℕ) → p < states_of d → IsWord (letters_of d) (a ∷ w) → run_of d p (a ∷ w) ≡ Some q → ¬ IsDead d q
live_after d canonical w a p q within over leads dead = class_after_some d (bits_of d) (with_bits d canonical) w a p q within over leads (dead-no_class d q dead)

-- states with one residual are one state
pub one_state : (d : Automaton) → IsCanonical d → (p q : ℕ) → p < states_of d → q < states_of d → SameResidual d p d q → p ≡ q
one_state d canonical p q small low same = one_class_state d (bits_of d) (with_bits d canonical) p q small low (residual-classes d d p q same)

pub canonical_forms : CanonicalFormsAreEqual
canonical_forms d e canonical other sizes same =
    (canonical_classes_are_equal d e (bits_of d) (bits_of e) (with_bits d canonical) (with_bits e other) sizes (residual-classes d e 0 0 same)).0

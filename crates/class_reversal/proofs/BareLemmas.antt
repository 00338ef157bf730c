-- The automaton of no words, whose state has no class.
use Rattle.std.proofs.Common.{◌≡◌, ℕ, List, [], ◌∷◌, refl}
use Rattle.digit_tuple.specs.NoWords.{bare_automaton}
use Rattle.residual_classes.specs.ClassFunctions.{class_after}
use Rattle.minimise.specs.Canonical.{IsCanonicalWithClasses}
use Rattle.minimise.proofs.BitLemmas.{with_bits}
use Rattle.minimise.proofs.NoWordLemmas.{IsCanonical-bare}

-- it is canonical
pub bare_classes : (sizes : List ℕ) → IsCanonicalWithClasses (bare_automaton sizes) (0 ∷ [])
bare_classes sizes = with_bits (bare_automaton sizes) (IsCanonical-bare sizes)

-- no word has a class
pub class_after-bare : (sizes w : List ℕ) → class_after (bare_automaton sizes) (0 ∷ []) w ≡ 0
class_after-bare sizes [] = refl
class_after-bare sizes (a ∷ w) = refl

-- What automata without tracks say: whether a sentence is true.
use Rattle.std.proofs.Common.{◌≡◌, ℕ, List, [], ◌∷◌, refl, subst, ◌↔◌, IsTrue}
use Rattle.digit_tuple.specs.Deterministic.{Automaton, accepts_of}
use Rattle.digit_tuple.specs.Letters.{IsWord}
use Rattle.digit_tuple.specs.Paddings.{in_order}
use Rattle.digit_tuple.specs.declared.direction.Direction.{Direction}
use Rattle.numeration.specs.Representation.{Represents}
use Rattle.numeration.specs.Relations.{HoldsOf}

-- no tracks represent no numbers
no_numbers : (w ns : List ℕ) → Represents [] w ns → ns ≡ []
no_numbers w [] represented = refl
no_numbers w (n ∷ ns) represented = absurd represented

-- an automaton without tracks accepts the empty word if and only if its relation holds of no numbers
pub sentence_holds : (direction : Direction) (P : List ℕ → Type 0) (d : Automaton) → HoldsOf direction [] P d → (w : List ℕ) → IsWord 1 w → IsTrue (accepts_of d w) ↔ P []
sentence_holds direction P d holds w over = (there, λ p. (holds.accepts w over).1 ([], tt, p))
  where
    there : IsTrue (accepts_of d w) → P []
    there accepted =
        let found = (holds.accepts w over).0 accepted in
        subst P (no_numbers (in_order direction w) found.0 found.1) found.2

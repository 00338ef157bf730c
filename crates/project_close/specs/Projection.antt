-- The projection of a language to some of its tracks.
use Rattle.std.specs.Prelude.{◌≡◌, ◌++◌, ℕ, List, IsTrue}
use Rattle.digit_tuple.specs.Deterministic.{Automaton, letters_of, accepts_of}
use Rattle.digit_tuple.specs.Letters.{IsWord}
use Rattle.digit_tuple.specs.Paddings.{zeros, padded}
use Rattle.digit_tuple.specs.Parts.{part}
use Rattle.digit_tuple.specs.declared.direction.Direction.{Direction}
use Rattle.digit_tuple.specs.declared.direction.Direction.TheVariants.{Msd, Lsd}
use Rattle.minimise.specs.Residuals.{IsEmptyAfter, SameAfter}

-- Some zeros at the end of the word's most significant letters, and some digits on the dropped tracks, make it a word that is
-- accepted. So a value on a dropped track may be longer than those on the tracks that stay.
abbrev pub InProjection : Automaton → List ℕ → Direction → List ℕ → Type 0
InProjection d places direction w = (k : ℕ) × ((x : List ℕ) × IsWord (letters_of d) x × (part d.sizes places x ≡ padded direction k w) × IsTrue (accepts_of d x))

-- The word x over all tracks has the part w on the tracks that stay. With the most significant digit first, w is read after any
-- number of zeros; with the least significant one first, zeros may come only later.
abbrev pub HasPart : Direction → Automaton → List ℕ → List ℕ → List ℕ → Type 0
HasPart Msd d places w x = (k : ℕ) × (part d.sizes places x ≡ zeros k ++ w)
HasPart Lsd d places w x = part d.sizes places x ≡ w

-- each residual after a word with the part w, but the empty one, is the residual after a word with the part v
abbrev pub HaveResiduals : Automaton → List ℕ → Direction → List ℕ → List ℕ → Type 0
HaveResiduals d places direction w v = (x : List ℕ) → IsWord (letters_of d) x → HasPart direction d places w x → ¬ IsEmptyAfter d x
    → (y : List ℕ) × IsWord (letters_of d) y × HasPart direction d places v y × SameAfter d x y

-- the sets of residuals after the words with the part w, and after those with the part v, are the same but for the empty residual
pub record ProjectionAlike (d : Automaton) (places : List ℕ) (direction : Direction) (w v : List ℕ) : Type 0 where
  pub forth : HaveResiduals d places direction w v
  pub back : HaveResiduals d places direction v w

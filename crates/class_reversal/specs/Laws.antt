-- Laws of reversals.
use Rattle.std.specs.Prelude.{◌≡◌, ℕ, List}
use Rattle.digit_tuple.specs.Deterministic.{Automaton, letters_of}
use Rattle.digit_tuple.specs.Width.{IsOneWidth}
use Rattle.minimise.specs.Canonical.{IsCanonicalWithClasses}
use Rattle.class_reversal.specs.ReversedClasses.{GivesReversedClasses, SameReversedClassAfter}

-- a reversal has one width
abbrev pub OneReversedWidth : Type 0
OneReversedWidth = (d : Automaton) (classes : List ℕ) → IsOneWidth (SameReversedClassAfter d classes) (letters_of d)

-- canonical automata over the tracks of d that give the reversed words' classes are equal, and so are their classes
abbrev pub OneReversedFunction : Type 0
OneReversedFunction = (d e f : Automaton) (classes ones others : List ℕ) → IsCanonicalWithClasses e ones → IsCanonicalWithClasses f others → e.sizes ≡ d.sizes → f.sizes ≡ d.sizes
    → GivesReversedClasses d classes e ones → GivesReversedClasses d classes f others → (e ≡ f) × (ones ≡ others)

-- How many words of a language begin with a word.
use Rattle.std.specs.Prelude.{ℕ, Bool, List, ◌++◌}
use Rattle.std.specs.List.{count_by}
use Rattle.digit_tuple.specs.Deterministic.{Automaton, accepts_of}
use Rattle.digit_tuple.specs.Paddings.{in_order}
use Rattle.digit_tuple.specs.declared.direction.Direction.{Direction}
use Rattle.numeration.specs.Words.{led, words}

-- the language of an automaton, its words read from the most significant digit on
abbrev pub read : Direction → Automaton → List ℕ → Bool
read direction a w = accepts_of a (in_order direction w)

-- how many words of a length there are with which a word goes on to one of the language
abbrev pub continuations : ℕ → (List ℕ → Bool) → List ℕ → ℕ → ℕ
continuations d test w n = count_by (λ u. test (w ++ u)) (words d n)

-- how many words of one digit more there are, with which it goes on by a digit below a number
abbrev pub continuations_below : ℕ → (List ℕ → Bool) → List ℕ → ℕ → ℕ → ℕ
continuations_below d test w n a = count_by (λ u. test (w ++ u)) (led (words d n) a)

-- Meanings that are given by tests.
use Rattle.std.specs.Prelude.{◌≡◌, ℕ, ℤ, Bool, List, Option, Some, IsTrue}
use Rattle.formula_parse.specs.Tokens.{Name}
use Rattle.formula_truth.specs.Truth.{Meanings}

-- whether an automaton holds of numbers, and the letter of a word at a place, where it has one
pub record Tests : Type 0 where
  pub passes : Name → List ℕ → Bool
  pub letter : Name → List ℕ → Option ℤ

-- what names mean by the tests
abbrev pub tested : Tests → Meanings
tested t = record { holds_of = λ n ns. IsTrue (t.passes n ns); has_letter = λ n ns b. t.letter n ns ≡ Some b }

-- The step that makes the automaton of an expression.
use Rattle.std.specs.Prelude.{◌≡◌, ◌↔◌, ℕ, ℤ, List, IsTrue}
use Rattle.digit_tuple.specs.Deterministic.{Automaton, accepts_of}
use Rattle.digit_tuple.specs.Sets.{sizes_of}
use Rattle.digit_tuple.specs.Tuples.{IsLetterOf, Codes}
use Rattle.digit_tuple.specs.declared.kind.Kind.TheVariants as kinds
use Rattle.minimise.specs.Canonical.{IsCanonical}
use Rattle.regex_build.specs.Expression.{Expression}
use Rattle.regex_build.specs.LastMarks.{SameLastMarks}
use Rattle.regex_build.specs.Matches.{Matches}
use Rattle.automaton_steps.specs.Makings.{Making}

-- the canonical automaton that accepts exactly the words of letters whose tuples the expression matches
pub record IsRegexAutomaton (sets : List (List ℤ)) (expression : Expression (List ℤ)) (automaton : Automaton) : Type 0 where
  pub sizes : automaton.sizes ≡ sizes_of sets
  pub canonical : IsCanonical automaton
  pub language : (tuples : List (List ℤ)) (word : List ℕ) → Codes sets tuples word → IsTrue (accepts_of automaton word) ↔ Matches expression tuples

-- the step: words are alike that have the same last marks
abbrev pub regex_step : List (List ℤ) → Expression (List ℤ) → Making Automaton
regex_step sets expression = record {
  step = record { kind = kinds.Regex; sizes = sizes_of sets; alike = SameLastMarks (IsLetterOf sets) expression };
  automaton_of = λ d. d;
  IsMade = IsRegexAutomaton sets expression;
}

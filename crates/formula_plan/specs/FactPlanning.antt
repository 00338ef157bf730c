-- Atoms part by part: the sides of a short equation, and the plans of several terms.
use Rattle.std.specs.Prelude.{◌≡◌, ◌⊎◌, ℕ, [], Option, None, Some}
use Rattle.std.specs.Borrow.{Bor}
use Rattle.std.specs.Option.{unwrap_or}
use Rattle.formula_parse.specs.Tokens.{Name}
use Rattle.formula_parse.specs.Trees.{Terms, Index}
use Rattle.formula_parse.specs.declared.tree.Term as parsed
use Rattle.term_plans.specs.Plans.{called, Made}
use Rattle.term_plans.specs.ArgumentPlans.{tracks_of, TermPlans, argument_plans}
use Rattle.formula_plan.specs.FactPlans.{Form, long, variable_left, variable_right, over_terms}
use Rattle.formula_plan.specs.declared.comparisons.Short.{Short}
use Rattle.formula_resolve.specs.Headers as resolved
use Rattle.formula_resolve.specs.FreeOccurrences.{free_system}
use Rattle.formula_plan.specs.FactPlans as plans

-- the systems of tracks and of variables, as headers say them
abbrev pub headers_of : resolved.Headers → plans.Headers
headers_of h = record { of_automaton = resolved.automaton_tracks h; of_word = resolved.word_tracks h; of_variable = λ f n. unwrap_or (free_system h f n) [] }

-- the same name, or none
abbrev pub IsNameOf : Option Name → Option (Bor Name) → Type 0
IsNameOf x None = x ≡ None
IsNameOf x (Some n) = x ≡ Some n.now

-- the name and the term are the sides of the short equation, and there are none where it is long
abbrev pub IsForm : Form → parsed.Term → parsed.Term → Option Short → Type 0
IsForm f t u None = f ≡ long
IsForm f t u (Some x) = ((f ≡ variable_left x.name.now) × (x.term.now ≡ u)) ⊎ ((f ≡ variable_right x.name.now) × (x.term.now ≡ t))

-- what an automaton says of terms
abbrev pub call_plan : plans.Headers → Name → Terms → ℕ → Made
call_plan h n ts k = let ps = argument_plans (h.of_automaton n) ts k in over_terms ps [] (called n (tracks_of ps.placed))

-- the indices of a word
abbrev pub index_plans : plans.Headers → Index → ℕ → TermPlans
index_plans h x k = argument_plans (h.of_word x.word) x.places k

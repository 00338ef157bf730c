-- The plans of several terms, one after another: of the arguments of an automaton, or of the indices of a word.
use Rattle.std.specs.Prelude.{ℕ, suc, List, [], ◌∷◌, ◌++◌, slice_index_or}
use Rattle.formula_parse.specs.Tokens.{Name}
use Rattle.formula_parse.specs.Trees.{Terms, no_terms, terms}
use Rattle.term_plans.specs.Tracks.{Track}
use Rattle.term_plans.specs.Plans.{Plan}
use Rattle.term_plans.specs.TermPlans.{Placed, TermPlan, closed, closing, term_plan}

-- where the values of some terms are placed, in their order
pub data Places : Type 0 where
  no_places : Places
  places : Places → Placed → Places

abbrev pub tracks_of : Places → List Track
tracks_of no_places = []
tracks_of (places ps p) = tracks_of ps ++ p.track ∷ []

abbrev pub all_places : Places → Places → Places
all_places ps no_places = ps
all_places ps (places qs q) = places (all_places ps qs) q

-- a base with all their tracks closed, the first first
abbrev pub closed_all : Places → Plan → Plan
closed_all no_places base = base
closed_all (places ps p) base = closed p (closed_all ps base)

abbrev pub closing_all : Places → Plan → List Plan
closing_all no_places base = []
closing_all (places ps p) base = closing_all ps base ++ closing p (closed_all ps base)

-- the plans of some terms, one after another
pub record TermPlans : Type 0 where
  pub steps : List Plan
  pub placed : Places
  pub next : ℕ

abbrev pub and_term : TermPlans → TermPlan → TermPlans
and_term ps p = record { steps = ps.steps ++ p.steps; placed = places ps.placed p.placed; next = p.next }

abbrev pub count : Terms → ℕ
count no_terms = 0
count (terms ts t) = suc (count ts)

-- the arguments of an automaton or the indices of a word, whose tracks have these systems
abbrev pub argument_plans : List Name → Terms → ℕ → TermPlans
argument_plans ss no_terms k = record { steps = []; placed = no_places; next = k }
argument_plans ss (terms ts t) k =
    let prefix = argument_plans ss ts k in
    and_term prefix (term_plan (slice_index_or ss (count ts) []) t prefix.next)

-- The plans of what atoms say.
use Rattle.std.specs.Prelude.{ℕ, ℤ, Bool, true, false, List, [], ◌∷◌, ◌++◌, Option, None, Some}
use Rattle.formula_parse.specs.Tokens.{Name, Relation, equal, unequal, less, greater, at_most, at_least}
use Rattle.formula_parse.specs.Trees.{Term, variable, numeral, product, sum, Index, Fact, compare, words, word_letter, letter_word, call, Formula}
use Rattle.term_plans.specs.Tracks.{Track, own}
use Rattle.term_plans.specs.Plans.{Plan, compared, called, lettered, renamed, paired, Made}
use Rattle.term_plans.specs.TermPlans.{TermPlan, term_plan}
use Rattle.term_plans.specs.ArgumentPlans.{no_places, places, tracks_of, all_places, closed_all, closing_all, TermPlans, argument_plans}

-- the systems of the tracks of each automaton and of each word, and that of a variable where it occurs first in a formula, free
pub record Headers : Type 0 where
  pub of_automaton : Name → List Name
  pub of_word : Name → List Name
  pub of_variable : Formula → Name → Name

-- a base over the values of these terms, and after its own steps their tracks closed
abbrev pub over_terms : TermPlans → List Plan → Plan → Made
over_terms ps own_steps base = record {
  steps = ps.steps ++ (own_steps ++ closing_all ps.placed base);
  last = closed_all ps.placed base;
  next = ps.next;
}

abbrev pub as_variable : Term → Option Name
as_variable (variable n) = Some n
as_variable (numeral c) = None
as_variable (product fs) = None
as_variable (sum ss t) = None

abbrev pub is_equal : Relation → Bool
is_equal equal = true
is_equal unequal = false
is_equal less = false
is_equal greater = false
is_equal at_most = false
is_equal at_least = false

-- an equation of a variable and a term that is none is short: the term's relation, its track under the variable's name
pub data Form : Type 0 where
  long : Form
  variable_left : Name → Form
  variable_right : Name → Form

abbrev pub form_by : Bool → Option Name → Option Name → Form
form_by true (Some n) None = variable_left n
form_by true None (Some n) = variable_right n
form_by true None None = long
form_by true (Some m) (Some n) = long
form_by false x y = long

abbrev pub named_by : Name → Name → Track → Option Plan → Plan
named_by s n t None = compared s equal t (own n)
named_by s n t (Some r) = renamed t (own n) r

abbrev pub named : Name → Name → TermPlan → Made
named s n p = record { steps = p.steps; last = named_by s n p.placed.track p.placed.relation; next = p.next }

-- two values compared
abbrev pub compared_values : Name → Relation → TermPlan → TermPlan → Made
compared_values s r p q =
    over_terms (record { steps = p.steps ++ q.steps; placed = places (places no_places p.placed) q.placed; next = q.next }) [] (compared s r p.placed.track q.placed.track)

abbrev pub compare_by : Form → Name → Term → Relation → Term → ℕ → Made
compare_by long s t r u k = let p = term_plan s t k in compared_values s r p (term_plan s u p.next)
compare_by (variable_left n) s t r u k = named s n (term_plan s u k)
compare_by (variable_right n) s t r u k = named s n (term_plan s t k)

-- the relation with its sides exchanged
abbrev pub mirrored : Relation → Relation
mirrored equal = equal
mirrored unequal = unequal
mirrored less = greater
mirrored greater = less
mirrored at_most = at_least
mirrored at_least = at_most

abbrev pub letter_plan : Headers → Index → Relation → ℤ → ℕ → Made
letter_plan h x r l k = let ps = argument_plans (h.of_word x.word) x.places k in over_terms ps [] (lettered x.word (tracks_of ps.placed) r l)

-- the letters of two words: the step of their product comes after the steps of all indices
abbrev pub words_plan : Headers → Index → Relation → Index → ℕ → Made
words_plan h x r y k =
    let ps = argument_plans (h.of_word x.word) x.places k in
    let qs = argument_plans (h.of_word y.word) y.places ps.next in
    let base = paired x.word (tracks_of ps.placed) r y.word (tracks_of qs.placed) in
    over_terms (record { steps = ps.steps ++ qs.steps; placed = all_places ps.placed qs.placed; next = qs.next }) (base ∷ []) base

-- what an atom of a system says, with fresh tracks from a number on
abbrev pub fact_plan : Headers → Name → Fact → ℕ → Made
fact_plan h s (compare t r u) k = compare_by (form_by (is_equal r) (as_variable t) (as_variable u)) s t r u k
fact_plan h s (call n ts) k = let ps = argument_plans (h.of_automaton n) ts k in over_terms ps [] (called n (tracks_of ps.placed))
fact_plan h s (word_letter x r l) k = letter_plan h x r l k
fact_plan h s (letter_word l r x) k = letter_plan h x (mirrored r) l k
fact_plan h s (words x r y) k = words_plan h x r y k

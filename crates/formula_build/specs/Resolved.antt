-- What is asked of headers, and over which systems the variables of a formula are.
use Rattle.std.specs.Prelude.{◌≡◌, ℕ, ◌<◌, List, [], length, slice_index_or, Option, None, Some}
use Rattle.digit_tuple.specs.declared.direction.Direction.{Direction}
use Rattle.formula_parse.specs.Tokens.{Name}
use Rattle.term_plans.specs.Tracks.{own, fresh}
use Rattle.formula_plan.specs.FactPlans as plans
use Rattle.formula_resolve.specs.Headers.{Headers, automaton_tracks, word_tracks}
use Rattle.formula_resolve.specs.Occurrences.{Binders, unbound}
use Rattle.formula_resolve.specs.FreeOccurrences.{free_system}
use Rattle.formula_resolve.specs.Clashes.{first_system}
use Rattle.formula_resolve.specs.Directions.{is_lsd}
use Rattle.formula_resolve.specs.declared.occurrence.Occurrence.{Occurrence}
use Rattle.formula_build.specs.TrackSystems.{TrackSystems}

-- a system, or the one without a name
abbrev pub or_none : Option Name → Name
or_none None = []
or_none (Some s) = s

-- the headers as plans take them
abbrev pub plan_headers : Headers → plans.Headers
plan_headers h = record { of_automaton = automaton_tracks h; of_word = word_tracks h; of_variable = λ f n. or_none (free_system h f n) }

-- all these systems have one direction
abbrev pub ShareDirection : (Name → Direction) → List Name → Type 0
ShareDirection direction ss = (i j : ℕ) → i < length ss → j < length ss → direction (slice_index_or ss i []) ≡ direction (slice_index_or ss j [])

-- systems have the directions of their names, and those of a header have one
pub record AreDirections (h : Headers) (direction : Name → Direction) : Type 0 where
  pub by_name : (s t : Name) → is_lsd s ≡ is_lsd t → direction s ≡ direction t
  pub of_automaton : (n : Name) → ShareDirection direction (automaton_tracks h n)
  pub of_word : (n : Name) → ShareDirection direction (word_tracks h n)

-- the system of a variable's first occurrence among some under its binding
abbrev pub system_under : List Occurrence → Binders → Name → Name
system_under os b n = or_none (first_system os (record { name = n; binder = b n; system = [] }))

-- the track of a variable over the system of its first occurrence that is free
abbrev pub systems_of : List Occurrence → TrackSystems
systems_of os (own n) = system_under os unbound n
systems_of os (fresh i) = []

-- What clap holds after options were used one after another, and when such a use is refused.
use Rattle.std.proofs.Common.{◌≡◌, ◌⊎◌, ◌||◌, ℕ, ◌+◌, ◌<◌, ◌≤◌, Bool, true, false, if◌then◌else◌, List, [], ◌∷◌, ◌++◌, length, map, None, Some, refl, sym, ap, ◌∙◌, subst, inl, inr, arith, codes}
use Rattle.std.specs.List.{fold}
use Rattle.std.specs.Prelude.{slice_get, ⊤}
use Rattle.std.specs.Str.{bytes_eq}
use Rattle.std.proofs.lemmas.List.{append-nil, append_assoc}
use Rattle.std.proofs.lemmas.List.Folds.{list_any-append}
use Rattle.std.proofs.lemmas.Slice.Eq.{bytes_eq-Decides}
use Rattle.clap.specs.Walk.{Row, Rule, Text, at_row, first_of, has_row, more_values, one_of, reading_by, used, values_or_missing, with_default, with_values, without}
use Rattle.clap.specs.Values.{bool_text}
use Rattle.clap.specs.Faults.{default_fault, defaults_fault, use_fault}
use Rattle.clap.specs.Kinds.{Kinds}
use Rattle.clap.specs.declared.builder.value_parser.Reading.{Reading}
use Rattle.clap.specs.declared.parser.matches.ValueSource.{ValueSource}
use Rattle.clap.specs.declared.parser.matches.ValueSource.TheVariants.{DefaultValue, CommandLine}
use Rattle.command_line.specs.Words.{Given, states, stop, make, states_in, seeds_in, stops_in}
use Rattle.command_line.proofs.ClapTurns.{rules, rule_at, stop_rule, of_states, of_make, or_else_both}

-- the argument of an option, and the values that it has
abbrev pub argument_of : Given → Rule
argument_of (states value) = rule_at of_states
argument_of stop = stop_rule
argument_of (make value) = rule_at of_make

abbrev pub values_at : Given → List Text
values_at (states value) = value ∷ []
values_at stop = []
values_at (make value) = value ∷ []

abbrev id_at : Given → Text
id_at given = (argument_of given).id

-- the rows after a use, and its fault
abbrev pub use_of : Given → List Row → List Row
use_of given rows = used (argument_of given) (values_at given) rows

abbrev pub fault_at : Given → List Row → Kinds
fault_at given rows = use_fault false (argument_of given) (values_at given) rows

abbrev pub AreUsed : List Given → List Row → Type 0
AreUsed [] rows = ⊤
AreUsed (given ∷ more) rows = (fault_at given rows ≡ []) × AreUsed more (use_of given rows)

abbrev pub rows_with : List Given → List Row → List Row
rows_with [] rows = rows
rows_with (given ∷ more) rows = rows_with more (use_of given rows)

-- where no row has the id, the new row comes after all others
new_at_end : (id : Text) (change : Row → List Row) (missing rows : List Row) → has_row id rows ≡ false → at_row id change missing rows ≡ rows ++ missing
new_at_end id change missing [] none = refl
new_at_end id change missing (r ∷ rs) none = by_test (bytes_eq r.id id) refl (new_at_end id change missing rs)
  where
    by_test : (v : Bool) → bytes_eq r.id id ≡ v → (has_row id rs ≡ false → at_row id change missing rs ≡ rs ++ missing) → at_row id change missing (r ∷ rs) ≡ r ∷ (rs ++ missing)
    by_test true is ending = let wrong : true ≡ false = rw is at none in cc
    by_test false is ending = let rest : has_row id rs ≡ false = rw is at none in rw is (ap (λ (xs : List Row). r ∷ xs) (ending rest))

abbrev row_with : Text → Reading → ValueSource → List Text → Row
row_with id how source values = record { id = id; values = values; count = None; source = Some source; reading = how }

set_at_end : (id : Text) (how : Reading) (values : List Text) (rows : List Row) → has_row id rows ≡ false → with_values id how CommandLine values (without id rows) ≡ rows ++ row_with id how CommandLine values ∷ []
set_at_end id how values rows none =
    ap (λ (rs : List Row). with_values id how CommandLine values rs) (new_at_end id (λ r. []) [] rows none ∙ append-nil rows)
    ∙ new_at_end id (more_values CommandLine values) (row_with id how CommandLine values ∷ []) rows none

abbrev new_row : Given → Row
new_row given = row_with (id_at given) (reading_by (argument_of given)) CommandLine (values_or_missing (argument_of given) (values_at given))

use_at_end : (given : Given) (rows : List Row) → has_row (id_at given) rows ≡ false → use_of given rows ≡ rows ++ new_row given ∷ []
use_at_end (states value) rows none = set_at_end (codes "states") (reading_by (rule_at of_states)) (value ∷ []) rows none
use_at_end stop rows none = set_at_end (codes "stop") (reading_by stop_rule) (codes "true" ∷ []) rows none
use_at_end (make value) rows none = set_at_end (codes "make") (reading_by (rule_at of_make)) (value ∷ []) rows none

-- a use is refused exactly where the argument has a row
has_none : (given : Given) (rows : List Row) → fault_at given rows ≡ [] → has_row (id_at given) rows ≡ false
has_none given rows e = by_given given (has_row (id_at given) rows) refl e
  where
    by_given : (g : Given) (v : Bool) → has_row (id_at g) rows ≡ v → fault_at g rows ≡ [] → v ≡ false
    by_given g false is e = refl
    by_given (states value) true is e = cc (rw is at e)
    by_given stop true is e = cc (rw is at e)
    by_given (make value) true is e = cc (rw is at e)

no_fault_at : (given : Given) (rows : List Row) → has_row (id_at given) rows ≡ false → fault_at given rows ≡ []
no_fault_at (states value) rows none = rw none refl
no_fault_at stop rows none = rw none refl
no_fault_at (make value) rows none = rw none refl

-- how many rows and options have an id
abbrev as_one : Bool → ℕ
as_one has = if has then 1 else 0

abbrev pub seen : Text → List Row → ℕ
seen id rows = as_one (has_row id rows)

abbrev pub count_of : Text → List Given → ℕ
count_of id [] = 0
count_of id (given ∷ more) = as_one (bytes_eq (id_at given) id) + count_of id more

seen_after : (given : Given) (rows : List Row) (id : Text) → has_row (id_at given) rows ≡ false → seen id (use_of given rows) ≡ seen id rows + as_one (bytes_eq (id_at given) id)
seen_after given rows id none = ap (λ (rs : List Row). seen id rs) (use_at_end given rows none) ∙ (ap as_one (list_any-append (λ (r : Row). bytes_eq r.id id) rows (new_row given ∷ [])) ∙ by_tests (has_row id rows) (bytes_eq (id_at given) id) refl refl)
  where
    by_tests : (a b : Bool) → has_row id rows ≡ a → bytes_eq (id_at given) id ≡ b → as_one (a || (b || false)) ≡ as_one a + as_one b
    by_tests true true has same =
        let P : Text → Type 0 = λ name. has_row name rows ≡ true in
        let twice : has_row (id_at given) rows ≡ true = subst P (sym ((bytes_eq-Decides (id_at given) id).0 same)) has in
        let wrong : true ≡ false = sym twice ∙ none in cc
    by_tests true false has same = refl
    by_tests false true has same = refl
    by_tests false false has same = refl

-- options that are used come at most once
pub used_once : (given : List Given) (rows : List Row) → AreUsed given rows → (id : Text) → seen id rows + count_of id given ≤ 1
used_once [] rows are id = at_most (has_row id rows)
  where
    at_most : (v : Bool) → as_one v + 0 ≤ 1
    at_most true = omega arith
    at_most false = omega arith
used_once (given ∷ more) rows (free, are) id = bounded _ _ _ _ (used_once more (use_of given rows) are id) (seen_after given rows id (has_none given rows free))
  where
    bounded : (s t b c : ℕ) → t + c ≤ 1 → t ≡ s + b → s + (b + c) ≤ 1
    bounded s t b c most is = omega arith

-- and options that come at most once are used
pub once_used : (given : List Given) (rows : List Row) → ((one : Given) → seen (id_at one) rows + count_of (id_at one) given ≤ 1) → AreUsed given rows
once_used [] rows once = tt
once_used (given ∷ more) rows once =
    let none : has_row (id_at given) rows ≡ false = by_test (has_row (id_at given) rows) refl in
    (no_fault_at given rows none, once_used more (use_of given rows) (λ one. bounded _ _ _ _ (once one) (seen_after given rows (id_at one) none)))
  where
    bounded : (s t b c : ℕ) → s + (b + c) ≤ 1 → t ≡ s + b → t + c ≤ 1
    bounded s t b c most is = omega arith

    too_many : (s b c : ℕ) → s ≡ 1 → b ≡ 1 → s + (b + c) ≤ 1 → ⊥
    too_many s b c one same most = omega arith

    by_test : (v : Bool) → has_row (id_at given) rows ≡ v → v ≡ false
    by_test false is = refl
    by_test true is = absurd (too_many _ _ _ (ap as_one is) (ap as_one ((bytes_eq-Decides (id_at given) (id_at given)).1 refl)) (once given))

-- the rows of options that are used
rows_are : (given : List Given) (rows : List Row) → AreUsed given rows → rows_with given rows ≡ rows ++ map new_row given
rows_are [] rows are = sym (append-nil rows)
rows_are (given ∷ more) rows (free, are) =
    rows_are more (use_of given rows) are
    ∙ (ap (λ (rs : List Row). rs ++ map new_row more) (use_at_end given rows (has_none given rows free)) ∙ append_assoc rows (new_row given ∷ []) (map new_row more))

-- options of one kind are as many as have its id
pub limits_counted : (given : List Given) → length (states_in given) ≡ count_of (codes "states") given
limits_counted [] = refl
limits_counted (states value ∷ more) = omega (arith, limits_counted more)
limits_counted (stop ∷ more) = omega (arith, limits_counted more)
limits_counted (make value ∷ more) = omega (arith, limits_counted more)

pub seeds_counted : (given : List Given) → length (seeds_in given) ≡ count_of (codes "make") given
seeds_counted [] = refl
seeds_counted (states value ∷ more) = omega (arith, seeds_counted more)
seeds_counted (stop ∷ more) = omega (arith, seeds_counted more)
seeds_counted (make value ∷ more) = omega (arith, seeds_counted more)

pub stops_counted : (given : List Given) → stops_in given ≡ count_of (codes "stop") given
stops_counted [] = refl
stops_counted (states value ∷ more) = omega (arith, stops_counted more)
stops_counted (stop ∷ more) = omega (arith, stops_counted more)
stops_counted (make value ∷ more) = omega (arith, stops_counted more)

-- ---- defaults

-- the row of the flag where it was not used
abbrev default_row : Row
default_row = row_with (codes "stop") (reading_by stop_rule) DefaultValue (codes "false" ∷ [])

no_default : (rows : List Row) → with_default rows (rule_at of_states) ≡ rows
no_default rows = by_test (has_row (codes "states") rows) refl
  where
    by_test : (v : Bool) → has_row (codes "states") rows ≡ v → with_default rows (rule_at of_states) ≡ rows
    by_test true is = rw is refl
    by_test false is = rw is refl

no_seed_default : (rows : List Row) → with_default rows (rule_at of_make) ≡ rows
no_seed_default rows = by_test (has_row (codes "make") rows) refl
  where
    by_test : (v : Bool) → has_row (codes "make") rows ≡ v → with_default rows (rule_at of_make) ≡ rows
    by_test true is = rw is refl
    by_test false is = rw is refl

finished_are : (rows : List Row) → fold with_default rows rules ≡ with_default rows stop_rule
finished_are rows = no_seed_default (with_default (with_default rows (rule_at of_states)) stop_rule) ∙ ap (λ (rs : List Row). with_default rs stop_rule) (no_default rows)

-- what is found of options that were used
pub record Found (given : List Given) (is_stop : Bool) (rows : List Row) : Type 0 where
  pub limits : first_of (codes "states") rows ≡ slice_get (states_in given) 0
  pub seeds : first_of (codes "make") rows ≡ slice_get (seeds_in given) 0
  pub stops : one_of (codes "stop") rows ≡ Some (bool_text is_stop)

limit_found : (given : List Given) (extra : List Row) → first_of (codes "states") extra ≡ None → first_of (codes "states") (map new_row given ++ extra) ≡ slice_get (states_in given) 0
limit_found [] extra none = none
limit_found (states value ∷ more) extra none = refl
limit_found (stop ∷ more) extra none = limit_found more extra none
limit_found (make value ∷ more) extra none = limit_found more extra none

seed_found : (given : List Given) (extra : List Row) → first_of (codes "make") extra ≡ None → first_of (codes "make") (map new_row given ++ extra) ≡ slice_get (seeds_in given) 0
seed_found [] extra none = none
seed_found (states value ∷ more) extra none = seed_found more extra none
seed_found (stop ∷ more) extra none = seed_found more extra none
seed_found (make value ∷ more) extra none = refl

-- the flag was used, or it was not
abbrev Stops : List Given → Type 0
Stops given = ((stops_in given ≡ 0) × (has_row (codes "stop") (map new_row given) ≡ false) × (one_of (codes "stop") (map new_row given ++ default_row ∷ []) ≡ Some (codes "false")))
    ⊎ ((0 < stops_in given) × (has_row (codes "stop") (map new_row given) ≡ true) × (one_of (codes "stop") (map new_row given ++ []) ≡ Some (codes "true")))

stops : (given : List Given) → Stops given
stops [] = inl (refl, refl, refl)
stops (states value ∷ more) = stops more
stops (stop ∷ more) = inr (omega arith, refl, refl)
stops (make value ∷ more) = stops more

found_of_rows : (given : List Given) (is_stop : Bool) → stops_in given ≡ as_one is_stop → Found given is_stop (with_default (map new_row given) stop_rule)
found_of_rows given is_stop counts = by_stops is_stop counts (stops given)
  where
    found : (b : Bool) (extra : List Row) → with_default (map new_row given) stop_rule ≡ map new_row given ++ extra → first_of (codes "states") extra ≡ None → first_of (codes "make") extra ≡ None
        → one_of (codes "stop") (map new_row given ++ extra) ≡ Some (bool_text b) → Found given b (with_default (map new_row given) stop_rule)
    found b extra rows no_limit no_seed stop_is = record {
      limits = ap (λ (rs : List Row). first_of (codes "states") rs) rows ∙ limit_found given extra no_limit;
      seeds = ap (λ (rs : List Row). first_of (codes "make") rs) rows ∙ seed_found given extra no_seed;
      stops = ap (λ (rs : List Row). one_of (codes "stop") rs) rows ∙ stop_is;
    }

    by_stops : (b : Bool) → stops_in given ≡ as_one b → Stops given → Found given b (with_default (map new_row given) stop_rule)
    by_stops true counts (inl (none, no_row, is)) = let wrong : as_one true ≡ 0 = sym counts ∙ none in absurd (omega arith)
    by_stops false counts (inl (none, no_row, is)) =
        let rows : with_default (map new_row given) stop_rule ≡ map new_row given ++ default_row ∷ [] = rw no_row (new_at_end (codes "stop") (more_values DefaultValue (codes "false" ∷ [])) (default_row ∷ []) (map new_row given) no_row) in
        found false (default_row ∷ []) rows refl refl is
    by_stops true counts (inr (some, has, is)) =
        let rows : with_default (map new_row given) stop_rule ≡ map new_row given ++ [] = rw has (sym (append-nil (map new_row given))) in
        found true [] rows refl refl is
    by_stops false counts (inr (some, has, is)) = absurd (omega arith)

pub found_of_uses : (given : List Given) (is_stop : Bool) (last : List Row) → AreUsed given [] → stops_in given ≡ as_one is_stop → last ≡ rows_with given [] → Found given is_stop (fold with_default last rules)
found_of_uses given is_stop last are counts last_is =
    let rows : fold with_default last rules ≡ with_default (map new_row given) stop_rule = ap (λ (rs : List Row). fold with_default rs rules) (last_is ∙ rows_are given [] are) ∙ finished_are (map new_row given) in
    let P : List Row → Type 0 = λ rs. Found given is_stop rs in
    subst P (sym rows) (found_of_rows given is_stop counts)

-- defaults are no fault
limit_default : (rows : List Row) → default_fault rows (rule_at of_states) ≡ []
limit_default rows = by_test (has_row (codes "states") rows) refl
  where
    by_test : (v : Bool) → has_row (codes "states") rows ≡ v → default_fault rows (rule_at of_states) ≡ []
    by_test true is = rw is refl
    by_test false is = rw is refl

stop_default : (rows : List Row) → default_fault rows stop_rule ≡ []
stop_default rows = by_test (has_row (codes "stop") rows) refl
  where
    by_test : (v : Bool) → has_row (codes "stop") rows ≡ v → default_fault rows stop_rule ≡ []
    by_test true is = rw is refl
    by_test false is = rw is refl

seed_default : (rows : List Row) → default_fault rows (rule_at of_make) ≡ []
seed_default rows = by_test (has_row (codes "make") rows) refl
  where
    by_test : (v : Bool) → has_row (codes "make") rows ≡ v → default_fault rows (rule_at of_make) ≡ []
    by_test true is = rw is refl
    by_test false is = rw is refl

pub defaults_pass : (rows : List Row) → defaults_fault rows rules ≡ []
unfolding defaults_fault
defaults_pass rows = or_else_both _ _ (limit_default rows) (or_else_both _ _ (stop_default (with_default rows (rule_at of_states))) (or_else_both _ _ (seed_default (with_default (with_default rows (rule_at of_states)) stop_rule)) refl))

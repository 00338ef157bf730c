-- Transitions of a table, and the states from which a good state is reached.
use Rattle.std.proofs.Common.{◌≡◌, ◌==◌, ℕ, zero, suc, ◌+◌, ◌<◌, ◌≤◌, Bool, true, false, List, [], ◌∷◌, length, Option, None, Some, ◌⊎◌, inl, inr, refl, sym, ap, ◌∙◌, subst, arith, if◌then◌else◌}
use Rattle.std.specs.List.{AllPairs, AllWithin, Contains}
use Rattle.std.specs.Option.{option_map_or, option_and_then}
use Rattle.std.proofs.lemmas.Bool.{false≢true, eqb-true}
use Rattle.std.proofs.lemmas.List.{get_or_default}
use Rattle.digit_tuple.specs.declared.transitions.Transition.{Transition}
use Rattle.digit_tuple.specs.Deterministic.{Automaton, IsTable, IsByEarlier, letters_of, states_of, transitions_of, step_of, target_by, run_of, accepting_of, accepts_from}
use Rattle.digit_tuple.proofs.DfaLemmas.{row_at, target_by-at}
use Rattle.digit_tuple.proofs.MemberLemmas.{Contains-head, Contains-tail, Contains-cases, Contains-none}
use Rattle.determinise.proofs.ReversalLemmas.{accepts_from-run}
use Rattle.residual_classes.proofs.PartitionLemmas.{cases_contains}
use Rattle.minimise.specs.Canonical.{IsCanonical}
use Rattle.minimise.specs.Residuals.{IsDead}
use Rattle.endless.proofs.ZeroLemmas.{step_within}

-- a transition that is among a state's is where its letter leads
transition_leads : (es : List Transition) → AllPairs IsByEarlier es → (e : Transition) → Contains es e → target_by es e.letter ≡ Some e.target
transition_leads es ascending e there = target_by-at es e.letter there.0 e before there.1 (ap (λ (f : Transition). f.letter) there.2) ∙ ap (λ (f : Transition). Some f.target) there.2
  where
    before : AllWithin (λ f. f.letter < e.letter) es 0 there.0
    before k z low high = omega (arith, ascending k there.0 z high there.1, ap (λ (f : Transition). f.letter) (get_or_default es there.0 z e there.1), ap (λ (f : Transition). f.letter) there.2)

pub step_of_transition : (d : Automaton) (q : ℕ) → IsTable (letters_of d) d.states → q < states_of d → (e : Transition) → Contains (transitions_of d q) e → step_of d q e.letter ≡ Some e.target
step_of_transition d q table within e there = transition_leads (transitions_of d q) (row_at d q table within).ascending e there

-- where a letter leads, a transition is
pub transition_there : (es : List Transition) (a q : ℕ) → target_by es a ≡ Some q → (e : Transition) × Contains es e × (e.letter ≡ a) × (e.target ≡ q)
transition_there [] a q leads = let none : None ≡ Some q = leads in absurd (cc)
transition_there (e ∷ es) a q leads = by (e.letter == a) refl leads (transition_there es a q)
  where
    by : (b : Bool) → (e.letter == a) ≡ b → (if b then Some e.target else target_by es a) ≡ Some q → (target_by es a ≡ Some q → (f : Transition) × Contains es f × (f.letter ≡ a) × (f.target ≡ q)) → (f : Transition) × Contains (e ∷ es) f × (f.letter ≡ a) × (f.target ≡ q)
    by true is here rest = (e, Contains-head e es, eqb-true e.letter a is, (let same : Some e.target ≡ Some q = here in cc))
    by false is later rest = let found = rest later in (found.0, Contains-tail e es found.0 found.1, found.2, found.3)

-- letters that lead somewhere are letters of the alphabet
pub step_letter : (d : Automaton) (p a q : ℕ) → IsTable (letters_of d) d.states → p < states_of d → step_of d p a ≡ Some q → a < letters_of d
step_letter d p a q table within leads =
    let found = transition_there (transitions_of d p) a q leads in
    let range = (row_at d p table within).in_range found.1.0 found.0 found.1.1 in
    omega (arith, range.0, ap (λ (e : Transition). e.letter) found.1.2, found.2)

-- some element is of one kind, or all are of the other
some_or_all : {X : Type 0} (P Q : X → Type 0) (xs : List X) → ((x : X) → Contains xs x → P x ⊎ Q x) → ((x : X) × Contains xs x × P x) ⊎ ((x : X) → Contains xs x → Q x)
some_or_all P Q [] each = inr (λ x there. absurd (Contains-none x there))
some_or_all P Q (x ∷ xs) each = by (each x (Contains-head x xs)) (some_or_all P Q xs (λ y there. each y (Contains-tail x xs y there)))
  where
    by : P x ⊎ Q x → ((y : _) × Contains xs y × P y) ⊎ ((y : _) → Contains xs y → Q y) → ((y : _) × Contains (x ∷ xs) y × P y) ⊎ ((y : _) → Contains (x ∷ xs) y → Q y)
    by (inl here) rest = inl (x, Contains-head x xs, here)
    by (inr not_here) (inl found) = inl (found.0, Contains-tail x xs found.0 found.1, found.2)
    by (inr not_here) (inr none) = inr (λ y there. at y (Contains-cases x xs y there))
      where
        at : (y : _) → (x ≡ y) ⊎ Contains xs y → Q y
        at y (inl same) = subst Q same not_here
        at y (inr later) = none y later

-- a list without the first place at which a number is
abbrev without : ℕ → List ℕ → List ℕ
without x [] = []
without x (y ∷ ys) = if y == x then ys else y ∷ without x ys

length-without : (x : ℕ) (xs : List ℕ) → Contains xs x → length (without x xs) + 1 ≡ length xs
length-without x [] there = absurd (Contains-none x there)
length-without x (y ∷ ys) there = by (y == x) refl (Contains-cases y ys x there) (length-without x ys)
  where
    by : (b : Bool) → (y == x) ≡ b → (y ≡ x) ⊎ Contains ys x → (Contains ys x → length (without x ys) + 1 ≡ length ys) → length (if b then ys else y ∷ without x ys) + 1 ≡ length (y ∷ ys)
    by true is cases rest = omega arith
    by false other (inl is) rest = absurd (false≢true (sym other ∙ grind (arith, is)))
    by false other (inr later) rest = omega (arith, rest later)

without_stays : (x : ℕ) (xs : List ℕ) (q : ℕ) → Contains xs q → (q ≡ x) ⊎ Contains (without x xs) q
without_stays x [] q there = absurd (Contains-none q there)
without_stays x (y ∷ ys) q there = by (y == x) refl (Contains-cases y ys q there) (without_stays x ys q)
  where
    by : (b : Bool) → (y == x) ≡ b → (y ≡ q) ⊎ Contains ys q → (Contains ys q → (q ≡ x) ⊎ Contains (without x ys) q) → (q ≡ x) ⊎ Contains (if b then ys else y ∷ without x ys) q
    by true is (inl here) rest = inl (omega (arith, here, eqb-true y x is))
    by true is (inr later) rest = inr later
    by false other (inl here) rest = inr (subst (Contains (y ∷ without x ys)) here (Contains-head y (without x ys)))
    by false other (inr later) rest = at (rest later)
      where
        at : (q ≡ x) ⊎ Contains (without x ys) q → (q ≡ x) ⊎ Contains (y ∷ without x ys) q
        at (inl is) = inl is
        at (inr more) = inr (Contains-tail y (without x ys) q more)

from_without : (x : ℕ) (xs : List ℕ) (q : ℕ) → Contains (without x xs) q → Contains xs q
from_without x [] q there = there
from_without x (y ∷ ys) q there = by (y == x) there (from_without x ys q)
  where
    by : (b : Bool) → Contains (if b then ys else y ∷ without x ys) q → (Contains (without x ys) q → Contains ys q) → Contains (y ∷ ys) q
    by true later rest = Contains-tail y ys q later
    by false more rest = at (Contains-cases y (without x ys) q more)
      where
        at : (y ≡ q) ⊎ Contains (without x ys) q → Contains (y ∷ ys) q
        at (inl same) = subst (Contains (y ∷ ys)) same (Contains-head y ys)
        at (inr further) = Contains-tail y ys q (rest further)

-- all numbers below n
abbrev below : ℕ → List ℕ
below zero = []
below (suc n) = n ∷ below n

length-below : (n : ℕ) → length (below n) ≡ n
length-below zero = refl
length-below (suc n) = omega (arith, length-below n)

below_within : (n q : ℕ) → Contains (below n) q → q < n
below_within zero q there = absurd (Contains-none q there)
below_within (suc n) q there = by (Contains-cases n (below n) q there) (below_within n q)
  where
    by : (n ≡ q) ⊎ Contains (below n) q → (Contains (below n) q → q < n) → q < suc n
    by (inl is) rest = omega (arith, is)
    by (inr later) rest = omega (arith, rest later)

below_all : (n q : ℕ) → q < n → Contains (below n) q
below_all zero q within = absurd (omega (arith, within))
below_all (suc n) q within = by (cases_contains (n ∷ []) q) (below_all n q)
  where
    by : Contains (n ∷ []) q ⊎ (Contains (n ∷ []) q → ⊥) → (q < n → Contains (below n) q) → Contains (n ∷ below n) q
    by (inl here) rest = at (Contains-cases n [] q here)
      where
        at : (n ≡ q) ⊎ Contains [] q → Contains (n ∷ below n) q
        at (inl is) = subst (Contains (n ∷ below n)) is (Contains-head n (below n))
        at (inr none) = absurd (Contains-none q none)
    by (inr other) rest = Contains-tail n (below n) q (rest (omega (arith, within, (λ (is : n ≡ q). other (subst (Contains (n ∷ [])) is (Contains-head n []))))))

module _ (d : Automaton) (table : IsTable (letters_of d) d.states) (good : ℕ → Bool) where
  -- some word leads from the state to a good one
  abbrev pub Reaches : ℕ → Type 0
  Reaches q = (v : List ℕ) × (r : ℕ) × (run_of d q v ≡ Some r) × (r < states_of d) × (good r ≡ true)

  -- no word does
  abbrev pub Misses : ℕ → Type 0
  Misses q = (v : List ℕ) (r : ℕ) → run_of d q v ≡ Some r → good r ≡ false

  -- the state is not good, and its transitions lead to states that are left
  abbrev IsClosed : List ℕ → ℕ → Type 0
  IsClosed left q = (good q ≡ false) × ((e : Transition) → Contains (transitions_of d q) e → Contains left e.target)

  reaches_or_closed : (left : List ℕ) → ((q : ℕ) → q < states_of d → ¬ Contains left q → Reaches q) → (q : ℕ) → q < states_of d → Reaches q ⊎ IsClosed left q
  reaches_or_closed left known q within = by (good q) refl
    where
      transitions : ((e : Transition) × Contains (transitions_of d q) e × ¬ Contains left e.target) ⊎ ((e : Transition) → Contains (transitions_of d q) e → Contains left e.target)
      transitions = some_or_all (λ e. ¬ Contains left e.target) (λ e. Contains left e.target) (transitions_of d q) (λ e there. turned (cases_contains left e.target))
        where
          turned : {A : Type 0} → A ⊎ (A → ⊥) → (A → ⊥) ⊎ A
          turned (inl yes_it_is) = inr yes_it_is
          turned (inr not_it) = inl not_it

      at : good q ≡ false → ((e : Transition) × Contains (transitions_of d q) e × ¬ Contains left e.target) ⊎ ((e : Transition) → Contains (transitions_of d q) e → Contains left e.target) → Reaches q ⊎ IsClosed left q
      at bad (inr all) = inr (bad, all)
      at bad (inl found) =
          let e : Transition = found.0 in
          let leads = step_of_transition d q table within e found.1 in
          let more = known e.target (step_within d table q e.letter e.target within leads) found.2 in
          inl (e.letter ∷ more.0, more.1, ap (λ (o : Option ℕ). option_and_then (λ p. run_of d p more.0) o) leads ∙ more.2, more.3, more.4)

      by : (b : Bool) → good q ≡ b → Reaches q ⊎ IsClosed left q
      by true is = inl ([], q, refl, within, is)
      by false is = at is transitions

  -- where all that are left are closed, none is left
  closed_misses : (left : List ℕ) → ((q : ℕ) → Contains left q → IsClosed left q) → (v : List ℕ) (q r : ℕ) → Contains left q → run_of d q v ≡ Some r → good r ≡ false
  closed_misses left all [] q r there leads = let same : q ≡ r = (let both : Some q ≡ Some r = leads in cc) in subst (λ n. good n ≡ false) same (all q there).0
  closed_misses left all (a ∷ v) q r there leads = by (step_of d q a) refl leads (λ p. closed_misses left all v p r)
    where
      by : (o : Option ℕ) → step_of d q a ≡ o → option_and_then (λ p. run_of d p v) o ≡ Some r → ((p : ℕ) → Contains left p → run_of d p v ≡ Some r → good r ≡ false) → good r ≡ false
      by None is none rest = let both : None ≡ Some r = none in absurd (cc)
      by (Some p) is some rest =
          let found = transition_there (transitions_of d q) a p is in
          rest p (subst (Contains left) found.3 ((all q there).1 found.0 found.1)) some

  done : (left : List ℕ) → ((x : ℕ) → Contains left x → IsClosed left x) → ((q : ℕ) → q < states_of d → ¬ Contains left q → Reaches q) → (q : ℕ) → q < states_of d → Contains left q ⊎ (Contains left q → ⊥) → Reaches q ⊎ Misses q
  done left all known q within (inl there) = inr (λ v r leads. closed_misses left all v q r there leads)
  done left all known q within (inr away) = inl (known q within away)

  first_open : (left : List ℕ) → ((q : ℕ) → Contains left q → q < states_of d) → ((q : ℕ) → q < states_of d → ¬ Contains left q → Reaches q)
      → ((x : ℕ) × Contains left x × Reaches x) ⊎ ((x : ℕ) → Contains left x → IsClosed left x)
  first_open left inside known = some_or_all Reaches (IsClosed left) left (λ x there. reaches_or_closed left known x (inside x there))

  known_without : (left : List ℕ) (x : ℕ) → Reaches x → ((q : ℕ) → q < states_of d → ¬ Contains left q → Reaches q) → (q : ℕ) → q < states_of d → ¬ Contains (without x left) q → Reaches q
  known_without left x reached known q within away = by (cases_contains left q)
    where
      at : (q ≡ x) ⊎ Contains (without x left) q → Reaches q
      at (inl is) = subst Reaches (sym is) reached
      at (inr there) = absurd (away there)

      by : Contains left q ⊎ (Contains left q → ⊥) → Reaches q
      by (inl there) = at (without_stays x left q there)
      by (inr none) = known q within none

  settle : (fuel : ℕ) (left : List ℕ) → length left ≤ fuel → ((q : ℕ) → Contains left q → q < states_of d) → ((q : ℕ) → q < states_of d → ¬ Contains left q → Reaches q) → (q : ℕ) → q < states_of d → Reaches q ⊎ Misses q
  settle zero left small inside known q within = by (first_open left inside known)
    where
      by : ((x : ℕ) × Contains left x × Reaches x) ⊎ ((x : ℕ) → Contains left x → IsClosed left x) → Reaches q ⊎ Misses q
      by (inl found) = absurd (omega (arith, small, length-without found.0 left found.1))
      by (inr all) = done left all known q within (cases_contains left q)
  settle (suc fuel) left small inside known q within = by (first_open left inside known) (λ x smaller still more. settle fuel (without x left) smaller still more q within)
    where
      by : ((x : ℕ) × Contains left x × Reaches x) ⊎ ((x : ℕ) → Contains left x → IsClosed left x)
          → ((x : ℕ) → length (without x left) ≤ fuel → ((p : ℕ) → Contains (without x left) p → p < states_of d) → ((p : ℕ) → p < states_of d → ¬ Contains (without x left) p → Reaches p) → Reaches q ⊎ Misses q)
          → Reaches q ⊎ Misses q
      by (inl found) again = again found.0 (omega (arith, small, length-without found.0 left found.1)) (λ p there. inside p (from_without found.0 left p there)) (known_without left found.0 found.2 known)
      by (inr all) again = done left all known q within (cases_contains left q)

  -- a good state is reached, or none
  pub reaches_or_misses : (q : ℕ) → q < states_of d → Reaches q ⊎ Misses q
  reaches_or_misses q within = settle (states_of d) (below (states_of d)) (omega (arith, length-below (states_of d))) (λ p there. below_within (states_of d) p there) (λ p inside away. absurd (away (below_all (states_of d) p inside))) q within

-- after a transition some word is accepted
pub live_after : (d : Automaton) → IsCanonical d → (p a q : ℕ) → p < states_of d → step_of d p a ≡ Some q → (v : List ℕ) × (accepts_from d q v ≡ true)
live_after d canonical p a q within leads = by (reaches_or_misses d canonical.table (accepting_of d) q (step_within d canonical.table p a q within leads))
  where
    dead : Misses d canonical.table (accepting_of d) q → IsDead d q
    dead misses w over = accepts_from-run d q w ∙ at (run_of d q w) refl
      where
        at : (o : Option ℕ) → run_of d q w ≡ o → option_map_or (accepting_of d) o false ≡ false
        at None is = refl
        at (Some r) is = misses w r is

    by : Reaches d canonical.table (accepting_of d) q ⊎ Misses d canonical.table (accepting_of d) q → (v : List ℕ) × (accepts_from d q v ≡ true)
    by (inl found) = (found.0, accepts_from-run d q found.0 ∙ ap (λ (o : Option ℕ). option_map_or (accepting_of d) o false) found.2 ∙ found.4)
    by (inr misses) = absurd (canonical.live p a q within (step_letter d p a q canonical.table within leads) leads (dead misses))

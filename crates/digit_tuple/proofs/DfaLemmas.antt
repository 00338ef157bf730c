-- What transitions of deterministic states say.
use Rattle.std.proofs.Common.{◌≡◌, ◌≢◌, ◌==◌, ℕ, ◌<◌, ◌≤◌, ◌+◌, zero, suc, Bool, true, false, List, [], ◌∷◌, length, get_or, None, Some, if◌then◌else◌, refl, sym, ap, ◌∙◌, subst, eq-eqb, ◌⊎◌, inl, inr, arith}
use Rattle.std.proofs.lemmas.Bool.{ne_eqb, cases_order}
use Rattle.std.proofs.lemmas.List.{get_or_default}
use Rattle.std.specs.List.{All, AllPairs, AllWithin}
use Rattle.std.specs.Option.{IfSome}
use Rattle.std.proofs.lemmas.List.{get_or-map, length-map}
use Rattle.digit_tuple.specs.declared.transitions.Transition.{Transition}
use Rattle.digit_tuple.specs.declared.dfa.DfaState.{DfaState}
use Rattle.digit_tuple.specs.DfaRows.{state_in, states_in}
use Rattle.digit_tuple.specs.Deterministic.{Automaton, IsTable, IsRow, IsByEarlier, target_by, no_state, transitions_of, letters_of, states_of}

-- the transitions of a state of a table
pub row_at : (d : Automaton) (q : ℕ) → IsTable (letters_of d) d.states → q < states_of d → IsRow (letters_of d) (states_of d) (transitions_of d q)
row_at d q table within = table.part.rows q no_state within

-- a transition by another letter first
pub target_by-other : (e : Transition) (es : List Transition) (letter : ℕ) → e.letter ≢ letter → target_by (e ∷ es) letter ≡ target_by es letter
target_by-other e es letter other = ap (λ b. if b then Some e.target else target_by es letter) (ne_eqb e.letter letter other)

-- a transition by the letter first
pub target_by-first : (e : Transition) (es : List Transition) (letter : ℕ) → e.letter ≡ letter → target_by (e ∷ es) letter ≡ Some e.target
target_by-first e es letter same = ap (λ b. if b then Some e.target else target_by es letter) (eq-eqb e.letter letter same)

-- the first transition by the letter
pub target_by-at : (es : List Transition) (letter place : ℕ) (d : Transition) → AllWithin (λ e. e.letter < letter) es 0 place → place < length es → (get_or es place d).letter ≡ letter → target_by es letter ≡ Some (get_or es place d).target
target_by-at [] letter place d before within here = absurd (omega arith)
target_by-at (e ∷ es) letter zero d before within here = target_by-first e es letter here
target_by-at (e ∷ es) letter (suc place) d before within here =
    let lower : e.letter < letter = before 0 d (omega arith) (omega arith) in
    target_by-other e es letter (λ same. absurd (omega (arith, lower, same)))
    ∙ target_by-at es letter place d (λ k z low high. before (suc k) z (omega arith) (omega arith)) (omega arith) here

-- no transition by the letter
pub target_by-none : (es : List Transition) (letter : ℕ) → All (λ e. e.letter ≢ letter) es → target_by es letter ≡ None
target_by-none [] letter none = refl
target_by-none (e ∷ es) letter none =
    target_by-other e es letter (none 0 e (omega arith)) ∙ target_by-none es letter (λ k z within. none (suc k) z (omega arith))

-- where the transition at the place of the letter is by another
pub target_by-gap : (es : List Transition) (letter place : ℕ) → AllPairs IsByEarlier es → AllWithin (λ e. e.letter < letter) es 0 place → AllWithin (λ e. letter ≤ e.letter) es place (length es)
    → (place < length es → (d : Transition) → (get_or es place d).letter ≢ letter) → target_by es letter ≡ None
target_by-gap es letter place ascending before after gap = target_by-none es letter other
  where
    at : (k : ℕ) (d : Transition) → k < length es → (k ≡ place) ⊎ ((k < place) ⊎ (place < k)) → (get_or es k d).letter ≢ letter
    at k d within (inr (inl low)) same = absurd (omega (arith, before k d (omega arith) low))
    at k d within (inl here) same = gap (omega arith) d (subst (λ (n : ℕ). (get_or es n d).letter ≡ letter) here same)
    at k d within (inr (inr high)) same = gap (omega arith) d (omega (arith, after place d (omega arith) (omega arith), ascending place k d high within))

    other : All (λ e. e.letter ≢ letter) es
    other k d within = at k d within (cases_order k place)

-- the targets are in range
pub target_by-in_range : (letters states : ℕ) (es : List Transition) (letter : ℕ) → All (λ transition. (transition.letter < letters) × (transition.target < states)) es → IfSome (target_by es letter) (λ q. q < states)
target_by-in_range letters states [] letter range = tt
target_by-in_range letters states (e ∷ es) letter range = by (e.letter == letter) (target_by-in_range letters states es letter (λ k z within. range (suc k) z (omega arith)))
  where
    by : (b : Bool) → IfSome (target_by es letter) (λ q. q < states) → IfSome (if b then Some e.target else target_by es letter) (λ q. q < states)
    by true rest = (range 0 e (omega arith)).1
    by false rest = rest

-- the transitions up to one by an earlier letter
pub before_through : (es : List Transition) (letter m : ℕ) (z : Transition) → AllPairs IsByEarlier es → m < length es → (get_or es m z).letter < letter → AllWithin (λ e. e.letter < letter) es 0 (m + 1)
before_through es letter m z ascending within low k d from to = at (cases_order k m)
  where
    here : (get_or es m d).letter < letter
    here = omega (arith, low, ap (λ (e : Transition). e.letter) (get_or_default es m d z within))

    at : (k ≡ m) ⊎ ((k < m) ⊎ (m < k)) → (get_or es k d).letter < letter
    at (inl same) = subst (λ (n : ℕ). (get_or es n d).letter < letter) (sym same) here
    at (inr (inl less)) = omega (arith, here, ascending k m d less within)
    at (inr (inr more)) = absurd (omega arith)

-- the transitions from one by no earlier letter on
pub after_from : (es : List Transition) (letter m : ℕ) (z : Transition) → AllPairs IsByEarlier es → m < length es → letter ≤ (get_or es m z).letter → AllWithin (λ e. letter ≤ e.letter) es m (length es)
after_from es letter m z ascending within high k d from to = at (cases_order k m)
  where
    here : letter ≤ (get_or es m d).letter
    here = omega (arith, high, ap (λ (e : Transition). e.letter) (get_or_default es m d z within))

    at : (k ≡ m) ⊎ ((k < m) ⊎ (m < k)) → letter ≤ (get_or es k d).letter
    at (inl same) = subst (λ (n : ℕ). letter ≤ (get_or es n d).letter) (sym same) here
    at (inr (inl less)) = absurd (omega arith)
    at (inr (inr more)) = omega (arith, here, ascending m k d more to)

-- a state in the code is the table's
pub state_in_row : (rows : List DfaState) (q : ℕ) (row : DfaState) → q < length (states_in rows) → row ≡ get_or rows q row → get_or (states_in rows) q no_state ≡ state_in row
state_in_row rows q row within is = get_or-map state_in rows q row no_state (omega (arith, length-map rows state_in)) ∙ ap state_in (sym is)

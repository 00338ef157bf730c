-- Letters by which states lead to sinks.
use Rattle.std.proofs.Common.{◌≡◌, ◌≢◌, ℕ, suc, ◌<◌, ◌≤◌, List, [], ◌∷◌, length, get_or, unwrap_or, ◌⊎◌, inl, inr, sym, ap, ◌∙◌, subst, arith}
use Rattle.std.specs.List.{All}
use Rattle.std.specs.Option.{IfSome}
use Rattle.std.proofs.lemmas.Bool.{cases_eq}
use Rattle.std.proofs.lemmas.List.Elements.{All-cons, All-nil}
use Rattle.digit_tuple.specs.declared.transitions.Transition.{Transition}
use Rattle.digit_tuple.specs.Deterministic.{Automaton, IsRow, letters_of, states_of, transitions_of, target_by}
use Rattle.digit_tuple.proofs.DfaLemmas.{target_by-in_range}
use Rattle.digit_tuple.proofs.RowLemmas.{IsFrom, IsFrom-row, full_of}
use Rattle.residual_classes.specs.Classes.{next_of}
use Rattle.product_op.specs.DeadExits.{AllLeadOn, LeadsOut}
use Rattle.product_op.specs.Readings.{Reading}

-- a transition by a letter, unless there is none
pub find_letter : (es : List Transition) (letter : ℕ) → ((i : ℕ) × (i < length es) × ((z : Transition) → (get_or es i z).letter ≡ letter)) ⊎ All (λ e. e.letter ≢ letter) es
find_letter [] letter = inr (All-nil (λ e. e.letter ≢ letter))
find_letter (e ∷ es) letter = by (cases_eq e.letter letter) (find_letter es letter)
  where
    by : (e.letter ≡ letter) ⊎ (e.letter ≢ letter) → ((i : ℕ) × (i < length es) × ((z : Transition) → (get_or es i z).letter ≡ letter)) ⊎ All (λ f. f.letter ≢ letter) es
        → ((i : ℕ) × (i < length (e ∷ es)) × ((z : Transition) → (get_or (e ∷ es) i z).letter ≡ letter)) ⊎ All (λ f. f.letter ≢ letter) (e ∷ es)
    by (inl same) rest = inl (0, omega arith, λ z. same)
    by (inr other) (inl found) = inl (suc found.0, omega (arith, found.1), λ z. found.2 z)
    by (inr other) (inr none) = inr (All-cons (λ f. f.letter ≢ letter) e es other none)

-- each letter leads on where there are as many transitions as letters
pub all_lead_on : (d : Automaton) (q : ℕ) (row : List Transition) → row ≡ transitions_of d q → IsRow (letters_of d) (states_of d) row → letters_of d ≤ length row → AllLeadOn d q
all_lead_on d q row is row_is full a small out =
    let from : IsFrom (letters_of d) 0 row = IsFrom-row (letters_of d) 0 row (λ k e within. (row_is.in_range k e within).0) row_is.ascending (λ k e within. omega arith) in
    let found = full_of (letters_of d) 0 row from (omega (arith, full)) a (omega arith) small in
    let low : found.0 < states_of d = subst (λ o. IfSome o (λ t. t < states_of d)) found.1 (target_by-in_range (letters_of d) (states_of d) row a row_is.in_range) in
    let next : next_of d q a ≡ found.0 = ap (λ (es : List Transition). unwrap_or (target_by es a) (states_of d)) (sym is) ∙ ap (λ o. unwrap_or o (states_of d)) found.1 in
    omega (arith, low, next, out)

-- the same of the same automaton and state
pub LeadsOut-same : (r f : Reading) (q p a : ℕ) → f ≡ r → p ≡ q → LeadsOut f p a → LeadsOut r q a
LeadsOut-same r f q p a same here out = subst (λ (x : Reading). LeadsOut x q a) same (subst (λ k. LeadsOut f k a) here out)

-- The first word of a length that is accepted from a state.
use Rattle.std.proofs.Common.{◌≡◌, ℕ, zero, suc, ◌<◌, ◌≤◌, ◌&&◌, Bool, true, nat_le, List, [], ◌∷◌, length, Option, None, Some, ◌⊎◌, inl, inr, refl, sym, ap, ◌∙◌, subst, arith}
use Rattle.std.specs.List.{Contains, find}
use Rattle.std.specs.Option.{option_map_or}
use Rattle.std.proofs.lemmas.Bool.{false≢true, le-leb, leb-true, and_parts}
use Rattle.std.proofs.lemmas.List.Folds.{list_any_at, Any-from_list_any}
use Rattle.digit_tuple.specs.Deterministic.{Automaton, IsTable, letters_of, states_of, transitions_of, accepts_from}
use Rattle.digit_tuple.specs.Shortlex.{IsLetterwiseBefore}
use Rattle.digit_tuple.specs.declared.transitions.Transition.{Transition}
use Rattle.digit_tuple.proofs.DfaLemmas.{row_at}
use Rattle.endless.proofs.LiveLemmas.{step_of_transition, transition_there}
use Rattle.endless.proofs.ZeroLemmas.{accepted_step, accepts_from-step}
use Rattle.word_walk.specs.Levels.{lives, first_live, least_word}
use Rattle.word_walk.proofs.FindLemmas.{IsFound, find_first, find_none}

-- the test of a first transition
abbrev pub is_live : Automaton → ℕ → ℕ → Transition → Bool
is_live d m from e = nat_le from e.letter && lives d m e.target

pub is_live-from : (d : Automaton) (m from : ℕ) (e : Transition) → from ≤ e.letter → lives d m e.target ≡ true → is_live d m from e ≡ true
is_live-from d m from e enough live = ap (λ b. b && lives d m e.target) (le-leb from e.letter enough) ∙ live

pub is_live-parts : (d : Automaton) (m from : ℕ) (e : Transition) → is_live d m from e ≡ true → (from ≤ e.letter) × (lives d m e.target ≡ true)
is_live-parts d m from e is = let both = and_parts (nat_le from e.letter) (lives d m e.target) is in (leb-true from e.letter both.0, both.1)

-- the word is the first of so many letters that is accepted from the state
pub record IsLeastFrom (d : Automaton) (m q : ℕ) (w : List ℕ) : Type 0 where
  pub size : length w ≡ m
  pub accepted : accepts_from d q w ≡ true
  pub least : (u : List ℕ) → accepts_from d q u ≡ true → length u ≡ m → (w ≡ u) ⊎ IsLetterwiseBefore w u

-- from where an accepted word leads
pub accepted_transition : (d : Automaton) (q a : ℕ) (w : List ℕ) → accepts_from d q (a ∷ w) ≡ true
    → (e : Transition) × Contains (transitions_of d q) e × (e.letter ≡ a) × (accepts_from d e.target w ≡ true)
accepted_transition d q a w accepted =
    let step = accepted_step d q a w accepted in
    let found = transition_there (transitions_of d q) a step.0 step.1 in
    (found.0, found.1, found.2, ap (λ p. accepts_from d p w) found.3 ∙ step.2)

pub lives-accepted : (d : Automaton) (q : ℕ) (w : List ℕ) → accepts_from d q w ≡ true → lives d (length w) q ≡ true
lives-accepted d q [] accepted = accepted
lives-accepted d q (a ∷ w) accepted =
    let found = accepted_transition d q a w accepted in
    list_any_at (λ e. lives d (length w) e.target) (transitions_of d q) found.1.0 found.0 found.1.1
    (ap (λ (e : Transition). lives d (length w) e.target) found.1.2 ∙ lives-accepted d found.0.target w found.3)

module _ (d : Automaton) (table : IsTable (letters_of d) d.states) where
  pub target_within : (q : ℕ) → q < states_of d → (e : Transition) → Contains (transitions_of d q) e → e.target < states_of d
  target_within q within e there = omega (arith, ((row_at d q table within).in_range there.0 e there.1).1, ap (λ (t : Transition). t.target) there.2)

  -- a first transition, and the first word after it, are before all others that come so late
  pub word_by-least : (m q from : ℕ) → q < states_of d → (e : Transition) → IsFound (is_live d m from) (transitions_of d q) e → (v : List ℕ) → IsLeastFrom d m e.target v
      → (accepts_from d q (e.letter ∷ v) ≡ true) × ((a : ℕ) (u : List ℕ) → from ≤ a → accepts_from d q (a ∷ u) ≡ true → length u ≡ m → ((e.letter ∷ v) ≡ (a ∷ u)) ⊎ IsLetterwiseBefore (e.letter ∷ v) (a ∷ u))
  word_by-least m q from within e found v is = (
    accepts_from-step d q e.letter e.target v (step_of_transition d q table within e found.there) ∙ is.accepted,
    λ a u enough accepted size.
        let other = accepted_transition d q a u accepted in
        let live : lives d m other.0.target ≡ true = subst (λ n. lives d n other.0.target ≡ true) size (lives-accepted d other.0.target u other.3) in
        by a u size other.0 other.2 other.3 (found.first other.0 other.1 (is_live-from d m from other.0 (omega (arith, enough, other.2)) live)),
  )
    where
      by : (a : ℕ) (u : List ℕ) → length u ≡ m → (f : Transition) → f.letter ≡ a → accepts_from d f.target u ≡ true → (e.letter < f.letter) ⊎ (e ≡ f) → ((e.letter ∷ v) ≡ (a ∷ u)) ⊎ IsLetterwiseBefore (e.letter ∷ v) (a ∷ u)
      by a u size f letter accepted (inl less) = inr (inl (omega arith))
      by a u size f letter accepted (inr same) = at (is.least u (ap (λ (t : Transition). accepts_from d t.target u) same ∙ accepted) size)
        where
          one : e.letter ≡ a
          one = ap (λ (t : Transition). t.letter) same ∙ letter

          at : (v ≡ u) ⊎ IsLetterwiseBefore v u → ((e.letter ∷ v) ≡ (a ∷ u)) ⊎ IsLetterwiseBefore (e.letter ∷ v) (a ∷ u)
          at (inl equal) = inl (ap (λ (n : ℕ). n ∷ v) one ∙ ap (λ (x : List ℕ). a ∷ x) equal)
          at (inr before) = inr (inr (one, before))

  pub least_word-least : (m q : ℕ) → q < states_of d → lives d m q ≡ true → IsLeastFrom d m q (least_word d m q)
  least_word-least zero q within live = record { size = refl; accepted = live; least = λ u accepted size. by u size }
    where
      by : (u : List ℕ) → length u ≡ 0 → ([] ≡ u) ⊎ IsLetterwiseBefore [] u
      by [] size = inl refl
      by (a ∷ u) size = absurd (omega (arith, size))
  least_word-least (suc m) q within live = by (first_live d m 0 (transitions_of d q)) refl (least_word-least m)
    where
      es : List Transition
      es = transitions_of d q

      some : (e : Transition) × Contains es e × (lives d m e.target ≡ true)
      some = let at = Any-from_list_any (λ e. lives d m e.target) es live in (at.1, (at.0, at.2, at.3), at.4)

      by : (o : Option Transition) → find (is_live d m 0) es ≡ o → ((p : ℕ) → p < states_of d → lives d m p ≡ true → IsLeastFrom d m p (least_word d m p))
          → IsLeastFrom d (suc m) q (option_map_or (λ e. e.letter ∷ least_word d m e.target) o [])
      by None none rest = absurd (false≢true (sym (find_none (is_live d m 0) es none some.0 some.1) ∙ is_live-from d m 0 some.0 (omega arith) some.2))
      by (Some e) is rest =
          let found = find_first (is_live d m 0) es e (row_at d q table within).ascending is in
          let after = rest e.target (target_within q within e found.there) (is_live-parts d m 0 e found.passes).1 in
          let both = word_by-least m q 0 within e found (least_word d m e.target) after in
          record { size = omega (arith, after.size); accepted = both.0; least = λ u accepted size. at both.1 u accepted size }
        where
          at : ((a : ℕ) (u : List ℕ) → 0 ≤ a → accepts_from d q (a ∷ u) ≡ true → length u ≡ m → ((e.letter ∷ least_word d m e.target) ≡ (a ∷ u)) ⊎ IsLetterwiseBefore (e.letter ∷ least_word d m e.target) (a ∷ u))
              → (u : List ℕ) → accepts_from d q u ≡ true → length u ≡ suc m → ((e.letter ∷ least_word d m e.target) ≡ u) ⊎ IsLetterwiseBefore (e.letter ∷ least_word d m e.target) u
          at least [] accepted size = absurd (omega (arith, size))
          at least (a ∷ u) accepted size = least a u (omega arith) accepted (omega (arith, size))

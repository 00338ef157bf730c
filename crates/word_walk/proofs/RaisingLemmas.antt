-- The next word of the same length.
use Rattle.std.proofs.Common.{◌≡◌, ℕ, suc, ◌<◌, ◌≤◌, true, List, [], ◌∷◌, length, Option, None, Some, MatchOption, ◌⊎◌, inl, inr, refl, sym, ap, ◌∙◌, subst, arith}
use Rattle.std.specs.List.{find}
use Rattle.std.specs.Option.{option_map, option_and_then, option_or}
use Rattle.std.proofs.lemmas.Bool.{false≢true}
use Rattle.digit_tuple.specs.Deterministic.{Automaton, IsTable, letters_of, states_of, transitions_of, step_of, accepts_from}
use Rattle.digit_tuple.specs.Shortlex.{IsLetterwiseBefore}
use Rattle.digit_tuple.specs.declared.transitions.Transition.{Transition}
use Rattle.digit_tuple.proofs.DfaLemmas.{row_at}
use Rattle.endless.proofs.ZeroLemmas.{accepted_step, accepts_from-step, step_within}
use Rattle.word_walk.specs.Levels.{lives, first_live, least_word}
use Rattle.word_walk.specs.Raising.{raised, word_by}
use Rattle.word_walk.proofs.FindLemmas.{IsFound, find_first, find_none}
use Rattle.word_walk.proofs.LevelLemmas.{IsLeastFrom, accepted_transition, is_live, is_live-from, is_live-parts, least_word-least, lives-accepted, target_within, word_by-least}

-- no accepted word of the same length is letterwise after the word
abbrev pub HasNoneAfter : Automaton → ℕ → List ℕ → Type 0
HasNoneAfter d q w = (u : List ℕ) → accepts_from d q u ≡ true → length u ≡ length w → ¬ IsLetterwiseBefore w u

-- the first accepted word of the same length that is letterwise after the word
pub record IsRaised (d : Automaton) (q : ℕ) (w v : List ℕ) : Type 0 where
  pub size : length v ≡ length w
  pub accepted : accepts_from d q v ≡ true
  pub after : IsLetterwiseBefore w v
  pub least : (u : List ℕ) → accepts_from d q u ≡ true → length u ≡ length w → IsLetterwiseBefore w u → (v ≡ u) ⊎ IsLetterwiseBefore v u

abbrev pub Raises : Automaton → ℕ → List ℕ → Option (List ℕ) → Type 0
Raises d q w o = MatchOption o (HasNoneAfter d q w) (IsRaised d q w)

module _ (d : Automaton) (table : IsTable (letters_of d) d.states) where
  module _ (q a : ℕ) (w : List ℕ) (within : q < states_of d) where
    -- a word with the same first letter goes on where that leads
    same_first : (p : ℕ) → step_of d q a ≡ Some p → (u : List ℕ) → accepts_from d q (a ∷ u) ≡ true → accepts_from d p u ≡ true
    same_first p leads u accepted = sym (accepts_from-step d q a p u leads) ∙ accepted

    -- there is one with the same first letter
    deeper_raises : (p : ℕ) → step_of d q a ≡ Some p → (v : List ℕ) → IsRaised d p w v → IsRaised d q (a ∷ w) (a ∷ v)
    deeper_raises p leads v is = record {
      size = omega (arith, is.size);
      accepted = accepts_from-step d q a p v leads ∙ is.accepted;
      after = inr (refl, is.after);
      least = by;
    }
      where
        by : (u : List ℕ) → accepts_from d q u ≡ true → length u ≡ length (a ∷ w) → IsLetterwiseBefore (a ∷ w) u → ((a ∷ v) ≡ u) ⊎ IsLetterwiseBefore (a ∷ v) u
        by [] accepted size after = absurd after
        by (b ∷ u) accepted size (inl less) = inr (inl less)
        by (b ∷ u) accepted size (inr after) = at (is.least u (same_first p leads u (subst (λ c. accepts_from d q (c ∷ u) ≡ true) (sym after.0) accepted)) (omega (arith, size)) after.1)
          where
            at : (v ≡ u) ⊎ IsLetterwiseBefore v u → ((a ∷ v) ≡ (b ∷ u)) ⊎ IsLetterwiseBefore (a ∷ v) (b ∷ u)
            at (inl equal) = inl (ap (λ (n : ℕ). n ∷ v) after.0 ∙ ap (λ (x : List ℕ). b ∷ x) equal)
            at (inr before) = inr (inr (after.0, before))

    -- none has the same first letter
    abbrev HasNoDeeper : Type 0
    HasNoDeeper = (u : List ℕ) → accepts_from d q (a ∷ u) ≡ true → length u ≡ length w → ¬ IsLetterwiseBefore w u

    here_raises : HasNoDeeper → (o : Option Transition) → find (is_live d (length w) (suc a)) (transitions_of d q) ≡ o → Raises d q (a ∷ w) (option_map (word_by d (length w)) o)
    here_raises none None is = by
      where
        by : (u : List ℕ) → accepts_from d q u ≡ true → length u ≡ length (a ∷ w) → ¬ IsLetterwiseBefore (a ∷ w) u
        by [] accepted size after = after
        by (b ∷ u) accepted size (inl less) =
            let other = accepted_transition d q b u accepted in
            let sizes : length u ≡ length w = omega (arith, size) in
            let live : lives d (length w) other.0.target ≡ true = subst (λ n. lives d n other.0.target ≡ true) sizes (lives-accepted d other.0.target u other.3) in
            false≢true (sym (find_none (is_live d (length w) (suc a)) (transitions_of d q) is other.0 other.1) ∙ is_live-from d (length w) (suc a) other.0 (omega (arith, less, other.2)) live)
        by (b ∷ u) accepted size (inr after) = none u (subst (λ c. accepts_from d q (c ∷ u) ≡ true) (sym after.0) accepted) (omega (arith, size)) after.1
    here_raises none (Some e) is = record { size = omega (arith, rest.size); accepted = both.0; after = inl (omega (arith, parts.0)); least = by }
      where
        found : IsFound (is_live d (length w) (suc a)) (transitions_of d q) e
        found = find_first (is_live d (length w) (suc a)) (transitions_of d q) e (row_at d q table within).ascending is

        parts : (suc a ≤ e.letter) × (lives d (length w) e.target ≡ true)
        parts = is_live-parts d (length w) (suc a) e found.passes

        rest : IsLeastFrom d (length w) e.target (least_word d (length w) e.target)
        rest = least_word-least d table (length w) e.target (target_within d table q within e found.there) parts.1

        both : (accepts_from d q (word_by d (length w) e) ≡ true) × ((b : ℕ) (u : List ℕ) → suc a ≤ b → accepts_from d q (b ∷ u) ≡ true → length u ≡ length w → (word_by d (length w) e ≡ (b ∷ u)) ⊎ IsLetterwiseBefore (word_by d (length w) e) (b ∷ u))
        both = word_by-least d table (length w) q (suc a) within e found (least_word d (length w) e.target) rest

        by : (u : List ℕ) → accepts_from d q u ≡ true → length u ≡ length (a ∷ w) → IsLetterwiseBefore (a ∷ w) u → (word_by d (length w) e ≡ u) ⊎ IsLetterwiseBefore (word_by d (length w) e) u
        by [] accepted size after = absurd after
        by (b ∷ u) accepted size (inl less) = both.1 b u (omega (arith, less)) accepted (omega (arith, size))
        by (b ∷ u) accepted size (inr after) = absurd (none u (subst (λ c. accepts_from d q (c ∷ u) ≡ true) (sym after.0) accepted) (omega (arith, size)) after.1)

  pub raised-raises : (w : List ℕ) (q : ℕ) → q < states_of d → Raises d q w (raised d q w)
  raised-raises [] q within = by
    where
      by : (u : List ℕ) → accepts_from d q u ≡ true → length u ≡ 0 → ¬ IsLetterwiseBefore [] u
      by u accepted size after = after
  raised-raises (a ∷ w) q within = by (step_of d q a) refl (λ p leads. raised-raises w p (step_within d table q a p within leads))
    where
      here : Option (List ℕ)
      here = option_map (word_by d (length w)) (first_live d (length w) (suc a) (transitions_of d q))

      deeper : (p : ℕ) → step_of d q a ≡ Some p → (o : Option (List ℕ)) → Raises d p w o → Raises d q (a ∷ w) (option_or (option_map (λ v. a ∷ v) o) here)
      deeper p leads None none = here_raises q a w within (λ u accepted size. none u (same_first q a w within p leads u accepted) size) (first_live d (length w) (suc a) (transitions_of d q)) refl
      deeper p leads (Some v) is = deeper_raises q a w within p leads v is

      by : (o : Option ℕ) → step_of d q a ≡ o → ((p : ℕ) → step_of d q a ≡ Some p → Raises d p w (raised d p w)) → Raises d q (a ∷ w) (option_or (option_map (λ v. a ∷ v) (option_and_then (λ p. raised d p w) o)) here)
      by None leads rest = here_raises q a w within (λ u accepted size after. nowhere leads u accepted) (first_live d (length w) (suc a) (transitions_of d q)) refl
        where
          nowhere : step_of d q a ≡ None → (u : List ℕ) → accepts_from d q (a ∷ u) ≡ true → ⊥
          nowhere none u accepted = let step = accepted_step d q a u accepted in let both : None ≡ Some step.0 = sym none ∙ step.1 in absurd (cc)
      by (Some p) leads rest = deeper p leads (raised d p w) (rest p leads)

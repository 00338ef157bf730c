-- Residuals after words, and the states that words lead to.
use Rattle.std.proofs.Common.{◌≡◌, ℕ, true, false, List, [], ◌∷◌, ◌++◌, Option, None, Some, refl, sym, ap, ◌∙◌, true≢false}
use Rattle.std.specs.Option.{option_map_or}
use Rattle.std.proofs.lemmas.List.{append-nil}
use Rattle.std.proofs.lemmas.Option.{same_Some}
use Rattle.digit_tuple.specs.Deterministic.{Automaton, accepting_of, accepts_from, accepts_of, letters_of, run_of}
use Rattle.digit_tuple.specs.Letters.{IsWord}
use Rattle.digit_tuple.proofs.WordLemmas.{accepts_from-append}
use Rattle.determinise.proofs.ReversalLemmas.{accepts_from-run}
use Rattle.minimise.specs.Canonical.{IsCanonical}
use Rattle.minimise.specs.Residuals.{IsDead, IsEmptyAfter, SameAfter}
use Rattle.minimise.proofs.CanonicalLemmas.{live_after, one_state, run_within}

module _ (d : Automaton) where
  -- what is accepted after a word is accepted from where it leads
  after_run : (x u : List ℕ) (q : ℕ) → run_of d 0 x ≡ Some q → accepts_of d (x ++ u) ≡ accepts_from d q u
  after_run x u q leads = accepts_from-append d 0 x u ∙ ap (λ (o : Option ℕ). option_map_or (λ p. accepts_from d p u) o false) leads

  after_none : (x u : List ℕ) → run_of d 0 x ≡ None → accepts_of d (x ++ u) ≡ false
  after_none x u leads = accepts_from-append d 0 x u ∙ ap (λ (o : Option ℕ). option_map_or (λ p. accepts_from d p u) o false) leads

  -- words that lead to one state have one residual
  pub SameAfter-run : (x y : List ℕ) (q : ℕ) → run_of d 0 x ≡ Some q → run_of d 0 y ≡ Some q → SameAfter d x y
  SameAfter-run x y q one two u more = after_run x u q one ∙ sym (after_run y u q two)

  -- so have words that lead to none
  pub SameAfter-none : (x y : List ℕ) → run_of d 0 x ≡ None → run_of d 0 y ≡ None → SameAfter d x y
  SameAfter-none x y one two u more = after_none x u one ∙ sym (after_none y u two)

  -- a word that leads to none has the empty residual
  pub empty_from_none : (x : List ℕ) → run_of d 0 x ≡ None → IsEmptyAfter d x
  empty_from_none x none u more = after_none x u none

  -- a word with another residual leads to a state
  pub run_from_residual : (x : List ℕ) → ¬ IsEmptyAfter d x → (q : ℕ) × (run_of d 0 x ≡ Some q)
  run_from_residual x some = by (run_of d 0 x) refl
    where
      by : (o : Option ℕ) → run_of d 0 x ≡ o → (q : ℕ) × (run_of d 0 x ≡ Some q)
      by None none = absurd (some (empty_from_none x none))
      by (Some q) is = (q, is)

  -- an accepted word leads to an accepting state
  pub run_from_accepted : (x : List ℕ) → accepts_of d x ≡ true → (q : ℕ) × (run_of d 0 x ≡ Some q) × (accepting_of d q ≡ true)
  run_from_accepted x accepts = by (run_of d 0 x) refl (sym (accepts_from-run d 0 x) ∙ accepts)
    where
      by : (o : Option ℕ) → run_of d 0 x ≡ o → option_map_or (accepting_of d) o false ≡ true → (q : ℕ) × (run_of d 0 x ≡ Some q) × (accepting_of d q ≡ true)
      by None is none = absurd (true≢false (sym none))
      by (Some q) is some = (q, is, some)

  pub accepted_from_run : (x : List ℕ) (q : ℕ) → run_of d 0 x ≡ Some q → accepting_of d q ≡ true → accepts_of d x ≡ true
  accepted_from_run x q leads accepts = accepts_from-run d 0 x ∙ ap (λ (o : Option ℕ). option_map_or (accepting_of d) o false) leads ∙ accepts

  -- an automaton that accepts a word accepts some word
  pub live_from_accepted : (x : List ℕ) → IsWord (letters_of d) x → accepts_of d x ≡ true → ¬ IsDead d 0
  live_from_accepted x over accepts dead = true≢false (sym accepts ∙ dead x over)

  -- the residual after a word that leads to a live state is not empty
  pub some_after : (x : List ℕ) (q : ℕ) → ¬ IsDead d q → run_of d 0 x ≡ Some q → ¬ IsEmptyAfter d x
  some_after x q live leads empty = live (λ u more. sym (after_run x u q leads) ∙ empty u more)

  -- the residual after an accepted word is not empty
  pub some_after_accepted : (x : List ℕ) → accepts_of d x ≡ true → ¬ IsEmptyAfter d x
  some_after_accepted x accepts empty = true≢false (sym (ap (accepts_of d) (append-nil x) ∙ accepts) ∙ empty [] tt)

  -- words with one residual are both accepted or neither
  pub same_accepted : (x y : List ℕ) → SameAfter d x y → accepts_of d x ≡ accepts_of d y
  same_accepted x y same = ap (accepts_of d) (sym (append-nil x)) ∙ same [] tt ∙ ap (accepts_of d) (append-nil y)

module _ (d : Automaton) (canonical : IsCanonical d) where
  -- a word with the residual of one that leads to a live state leads to that state
  pub same_run : (x y : List ℕ) (q : ℕ) → ¬ IsDead d q → run_of d 0 x ≡ Some q → SameAfter d x y → run_of d 0 y ≡ Some q
  same_run x y q live leads same = by (run_of d 0 y) refl
    where
      by : (o : Option ℕ) → run_of d 0 y ≡ o → run_of d 0 y ≡ Some q
      by None is = absurd (live (λ u more. sym (after_run d x u q leads) ∙ same u more ∙ after_none d y u is))
      by (Some r) is =
          let one : q ≡ r = one_state d canonical q r (run_within d x 0 q canonical.table canonical.table.initial leads) (run_within d y 0 r canonical.table canonical.table.initial is)
          (λ u more. sym (after_run d x u q leads) ∙ same u more ∙ after_run d y u r is) in
          is ∙ ap Some (sym one)

  -- each state that a word leads to is live, where some word is accepted
  pub live_run : (x : List ℕ) (q : ℕ) → ¬ IsDead d 0 → IsWord (letters_of d) x → run_of d 0 x ≡ Some q → ¬ IsDead d q
  live_run [] q live over leads = λ dead. live (λ u more. ap (λ p. accepts_from d p u) (same_Some 0 q leads) ∙ dead u more)
  live_run (a ∷ x) q live over leads = live_after d canonical x a 0 q canonical.table.initial over leads

  -- so is each state that a word of a letter or more leads to
  pub live_letter : (a : ℕ) (x : List ℕ) (q : ℕ) → IsWord (letters_of d) (a ∷ x) → run_of d 0 (a ∷ x) ≡ Some q → ¬ IsDead d q
  live_letter a x q over leads = live_after d canonical x a 0 q canonical.table.initial over leads

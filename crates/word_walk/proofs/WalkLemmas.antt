-- The next word of a walk.
use Rattle.std.proofs.Common.{◌≡◌, ℕ, ◌+◌, ◌≤◌, true, List, length, None, Some, ◌⊎◌, inl, inr, sym, ◌∙◌, subst, arith}
use Rattle.std.proofs.lemmas.Bool.{true≢false}
use Rattle.digit_tuple.specs.Deterministic.{Automaton, IsTable, letters_of, accepts_of}
use Rattle.digit_tuple.specs.Shortlex.{IsBefore, IsLetterwiseBefore}
use Rattle.word_walk.specs.Following.{IsNext, IsLast}
use Rattle.word_walk.specs.Levels.{least_word}
use Rattle.word_walk.specs.Lengths.{HasNoLength, IsFirstLonger}
use Rattle.word_walk.proofs.LengthLemmas.{first_longer}
use Rattle.word_walk.proofs.LevelLemmas.{IsLeastFrom, least_word-least, lives-accepted}
use Rattle.word_walk.proofs.RaisingLemmas.{HasNoneAfter, IsRaised}

module _ (d : Automaton) (table : IsTable (letters_of d) d.states) where
  pub IsNext-raised : (place v : List ℕ) → IsRaised d 0 place v → IsNext (accepts_of d) (Some place) v
  IsNext-raised place v is = record { listed = is.accepted; after = inr (sym is.size, is.after); least = by }
    where
      at : (u : List ℕ) → length place ≡ length u → (v ≡ u) ⊎ IsLetterwiseBefore v u → (v ≡ u) ⊎ IsBefore v u
      at u size (inl same) = inl same
      at u size (inr before) = inr (inr (is.size ∙ size, before))

      by : (u : List ℕ) → accepts_of d u ≡ true → IsBefore place u → (v ≡ u) ⊎ IsBefore v u
      by u listed (inl longer) = inr (inl (omega (arith, longer, is.size)))
      by u listed (inr same) = at u same.0 (is.least u listed (sym same.0) same.1)

  no_word : (least : ℕ) → HasNoLength d least → (u : List ℕ) → accepts_of d u ≡ true → ¬ (least ≤ length u)
  no_word least none u accepted enough = true≢false (sym (lives-accepted d 0 u accepted) ∙ none (length u) enough)

  module _ (place : List ℕ) (none : HasNoneAfter d 0 place) where
    -- a word after the place is longer
    pub longer_after : (u : List ℕ) → accepts_of d u ≡ true → IsBefore place u → length place + 1 ≤ length u
    longer_after u listed (inl longer) = omega (arith, longer)
    longer_after u listed (inr same) = absurd (none u listed (sym same.0) same.1)

    pub IsNext-longer : (w : List ℕ) → IsFirstLonger d (length place + 1) w → IsNext (accepts_of d) (Some place) w
    IsNext-longer w first = subst (IsNext (accepts_of d) (Some place)) (sym first.2) (record {
      listed = word.accepted;
      after = inl (omega (arith, word.size, first.1.enough));
      least = λ u listed after. first_longer d table (length place + 1) first.0 first.1 u listed (longer_after u listed after);
    })
      where
        word : IsLeastFrom d first.0 0 (least_word d first.0 0)
        word = least_word-least d table first.0 0 table.initial first.1.live

    pub IsLast-longer : HasNoLength d (length place + 1) → IsLast (accepts_of d) (Some place)
    IsLast-longer empty u listed after = no_word (length place + 1) empty u listed (longer_after u listed after)

  pub IsNext-first : (w : List ℕ) → IsFirstLonger d 0 w → IsNext (accepts_of d) None w
  IsNext-first w first = subst (IsNext (accepts_of d) None) (sym first.2) (record {
    listed = (least_word-least d table first.0 0 table.initial first.1.live).accepted;
    after = tt;
    least = λ u listed after. first_longer d table 0 first.0 first.1 u listed (omega arith);
  })

  pub IsLast-first : HasNoLength d 0 → IsLast (accepts_of d) None
  IsLast-first empty u listed after = no_word 0 empty u listed (omega arith)

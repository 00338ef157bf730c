-- Words after a place, one after another.
use Rattle.std.proofs.Common.{◌≡◌, ℕ, zero, suc, Bool, List, [], ◌∷◌, length, get_or, Option, None, Some, ◌⊎◌, inl, inr, refl, sym, subst, arith, IsTrue}
use Rattle.std.specs.List.{All, Contains}
use Rattle.std.proofs.lemmas.List.Elements.{All-cons, All-nil}
use Rattle.std.proofs.lemmas.List.Kept.{AllPairs-cons}
use Rattle.digit_tuple.specs.Shortlex.{IsBefore}
use Rattle.digit_tuple.proofs.MemberLemmas.{Contains-head, Contains-tail, Contains-cases, Contains-none}
use Rattle.digit_tuple.proofs.ShortlexLemmas.{IsBefore-trans, IsBefore-irreflexive}
use Rattle.word_walk.specs.Following.{IsAfter, IsNext, IsLast, AreNext, WalksCompose, NextWordsAreOne}

-- what comes after a word that comes after the place does too
later_after : (place : Option (List ℕ)) (w v : List ℕ) → IsAfter place w → IsBefore w v → IsAfter place v
later_after None w v after before = tt
later_after (Some place) w v after before = IsBefore-trans place w v after before

module _ (lists : List ℕ → Bool) (place : Option (List ℕ)) where
  none_next : AreNext lists place 0 []
  none_next = record {
    in_order = λ i j z before within. absurd (omega (arith, within));
    listed = All-nil _;
    after = All-nil _;
    few = omega arith;
    whole = λ v listed after. inr (refl, All-nil _);
  }

  last_next : (count : ℕ) → IsLast lists place → AreNext lists place count []
  last_next count last = record {
    in_order = λ i j z before within. absurd (omega (arith, within));
    listed = All-nil _;
    after = All-nil _;
    few = omega arith;
    whole = λ v listed after. absurd (last v listed after);
  }

  more_next : (count : ℕ) (w : List ℕ) (words : List (List ℕ)) → IsNext lists place w → AreNext lists (Some w) count words → AreNext lists place (suc count) (w ∷ words)
  more_next count w words next are = record {
    in_order = AllPairs-cons IsBefore w words are.after are.in_order;
    listed = All-cons (λ v. IsTrue (lists v)) w words next.listed are.listed;
    after = All-cons (IsAfter place) w words next.after (λ k z within. later_after place w (get_or words k z) next.after (are.after k z within));
    few = omega (arith, are.few);
    whole = λ v listed after. first v listed (next.least v listed after);
  }
    where
      rest : (v : List ℕ) → IsBefore w v → Contains words v ⊎ ((length words ≡ count) × All (λ u. IsBefore u v) words) → Contains (w ∷ words) v ⊎ ((length (w ∷ words) ≡ suc count) × All (λ u. IsBefore u v) (w ∷ words))
      rest v before (inl there) = inl (Contains-tail w words v there)
      rest v before (inr past) = inr (omega (arith, past.0), All-cons (λ u. IsBefore u v) w words before past.1)

      first : (v : List ℕ) → IsTrue (lists v) → (w ≡ v) ⊎ IsBefore w v → Contains (w ∷ words) v ⊎ ((length (w ∷ words) ≡ suc count) × All (λ u. IsBefore u v) (w ∷ words))
      first v listed (inl same) = inl (subst (Contains (w ∷ words)) same (Contains-head w words))
      first v listed (inr before) = rest v before (are.whole v listed before)

pub walks_compose : WalksCompose
walks_compose lists place = (none_next lists place, last_next lists place, more_next lists place)

-- the head of the first words is the next word, and the others are the first ones after it
module _ (lists : List ℕ → Bool) (place : Option (List ℕ)) (count : ℕ) (w : List ℕ) (words : List (List ℕ)) (are : AreNext lists place (suc count) (w ∷ words)) where
  head_after : IsAfter place w
  head_after = are.after 0 w (omega arith)

  head_listed : IsTrue (lists w)
  head_listed = are.listed 0 w (omega arith)

  head_before : All (IsBefore w) words
  head_before k z within = are.in_order 0 (suc k) z (omega arith) (omega (arith, within))

  head_least : (v : List ℕ) → IsTrue (lists v) → IsAfter place v → (w ≡ v) ⊎ IsBefore w v
  head_least v listed after = by (are.whole v listed after)
    where
      at : (w ≡ v) ⊎ Contains words v → (w ≡ v) ⊎ IsBefore w v
      at (inl same) = inl same
      at (inr later) = inr (subst (IsBefore w) later.2 (head_before later.0 v later.1))

      by : Contains (w ∷ words) v ⊎ ((length (w ∷ words) ≡ suc count) × All (λ u. IsBefore u v) (w ∷ words)) → (w ≡ v) ⊎ IsBefore w v
      by (inl there) = at (Contains-cases w words v there)
      by (inr past) = inr (past.1 0 w (omega arith))

  tail_next : AreNext lists (Some w) count words
  tail_next = record {
    in_order = λ i j z before within. are.in_order (suc i) (suc j) z (omega (arith, before)) (omega (arith, within));
    listed = λ k z within. are.listed (suc k) z (omega (arith, within));
    after = head_before;
    few = omega (arith, are.few);
    whole = λ v listed before. by v before (are.whole v listed (later_after place w v head_after before));
  }
    where
      at : (v : List ℕ) → IsBefore w v → (w ≡ v) ⊎ Contains words v → Contains words v
      at v before (inl same) = absurd (IsBefore-irreflexive w (subst (IsBefore w) (sym same) before))
      at v before (inr later) = later

      by : (v : List ℕ) → IsBefore w v → Contains (w ∷ words) v ⊎ ((length (w ∷ words) ≡ suc count) × All (λ u. IsBefore u v) (w ∷ words)) → Contains words v ⊎ ((length words ≡ count) × All (λ u. IsBefore u v) words)
      by v before (inl there) = inl (at v before (Contains-cases w words v there))
      by v before (inr past) = inr (omega (arith, past.0), λ k z within. past.1 (suc k) z (omega (arith, within)))

-- the first words are none only where there is none
empty_others : (lists : List ℕ → Bool) (place : Option (List ℕ)) (count : ℕ) (w : List ℕ) (words : List (List ℕ)) → AreNext lists place count [] → AreNext lists place count (w ∷ words) → ⊥
empty_others lists place count w words none are = by (none.whole w (are.listed 0 w (omega arith)) (are.after 0 w (omega arith)))
  where
    by : Contains [] w ⊎ ((0 ≡ count) × All (λ u. IsBefore u w) []) → ⊥
    by (inl there) = Contains-none w there
    by (inr full) = omega (arith, full.0, are.few)

pub next_words_are_one : NextWordsAreOne
next_words_are_one lists place count [] [] are others = refl
next_words_are_one lists place count [] (v ∷ others) are other_are = absurd (empty_others lists place count v others are other_are)
next_words_are_one lists place count (w ∷ words) [] are other_are = absurd (empty_others lists place count w words other_are are)
next_words_are_one lists place zero (w ∷ words) (v ∷ others) are other_are = absurd (omega (arith, are.few))
next_words_are_one lists place (suc count) (w ∷ words) (v ∷ others) are other_are = by (head_least lists place count w words are v (head_listed lists place count v others other_are) (head_after lists place count v others other_are))
    (head_least lists place count v others other_are w (head_listed lists place count w words are) (head_after lists place count w words are))
    (λ same. next_words_are_one lists (Some w) count words others (tail_next lists place count w words are) (subst (λ (u : List ℕ). AreNext lists (Some u) count others) (sym same) (tail_next lists place count v others other_are)))
  where
    by : (w ≡ v) ⊎ IsBefore w v → (v ≡ w) ⊎ IsBefore v w → (w ≡ v → words ≡ others) → w ∷ words ≡ v ∷ others
    by (inl same) other rest = let tails : words ≡ others = rest same in cc
    by (inr before) (inl same) rest = absurd (IsBefore-irreflexive w (subst (IsBefore w) same before))
    by (inr before) (inr after) rest = absurd (IsBefore-irreflexive w (IsBefore-trans w v w before after))

-- Hashes of states.
use Rattle.std.proofs.Common.{◌≡◌, ◌==◌, ℕ, zero, suc, ◌+◌, ◌-◌, ◌*◌, ◌%◌, ◌^◌, ◌<◌, ◌≤◌, ◌⊎◌, inl, inr, Bool, true, false, ◌&&◌, nat_le, nat_lt, if◌then◌else◌, List, [], ◌∷◌, ◌++◌, take, length, get_or, refl, sym, ap, ◌∙◌, arith}
use Rattle.std.proofs.lemmas.Bool.{cases_lt, and_left, and_right, lt-leb, le-ltb}
use Rattle.std.proofs.lemmas.List.{take_more, take_all}
use Rattle.digit_tuple.specs.Deterministic.{Automaton, IsTable, letters_of, states_of, transitions_of}
use Rattle.digit_tuple.specs.KeyHashes.{mixed}
use Rattle.digit_tuple.specs.declared.transitions.Transition.{Transition}
use Rattle.residual_classes.specs.Classes.{class_of, dead_class}
use Rattle.residual_classes.specs.CoarseClasses.{AreCoarseClasses, AreCoarseNumbers}
use Rattle.residual_classes.specs.FirstPlaces.{AreFirstPlaces}
use Rattle.residual_classes.specs.Hashes.{AreHashed, hash_transition, hash_transitions, hash_of, output_hash}
use Rattle.residual_classes.specs.Alike.{AreAlike}
use Rattle.residual_classes.specs.ClassTransitions.{class_transitions}
use Rattle.residual_classes.proofs.FirstPlaceLemmas.{All-first_places, same_first_place}
use Rattle.residual_classes.proofs.ResidualLemmas.{alike_residual}
use Rattle.residual_classes.proofs.ClassTransitionLemmas.{class_transition, class_transitions-push, rows_from_alike}

-- more transitions
hash_transitions-append : (first end hash : ℕ) (es fs : List Transition) → hash_transitions first end hash (es ++ fs) ≡ hash_transitions first end (hash_transitions first end hash es) fs
hash_transitions-append first end hash [] fs = refl
hash_transitions-append first end hash (e ∷ es) fs = hash_transitions-append first end (hash_transition first end hash e) es fs

-- the next transition of a row
pub hash_transitions-more : (first end start : ℕ) (hashes : List ℕ) (dead : ℕ) (es : List Transition) (k : ℕ) (z : Transition) → k < length es
    → hash_transitions first end (hash_transitions first end start (class_transitions hashes dead (take k es))) (class_transitions hashes dead (get_or es k z ∷ [])) ≡ hash_transitions first end start (class_transitions hashes dead (take (k + 1) es))
hash_transitions-more first end start hashes dead es k z within = sym (ap (λ (fs : List Transition). hash_transitions first end start (class_transitions hashes dead fs)) (take_more es k z within)
    ∙ ap (hash_transitions first end start) (class_transitions-push hashes dead (take k es) (get_or es k z))
    ∙ hash_transitions-append first end start (class_transitions hashes dead (take k es)) (class_transitions hashes dead (get_or es k z ∷ [])))

module _ (first end start : ℕ) (hashes : List ℕ) (dead : ℕ) (es : List Transition) where
  -- the hash with the first transitions
  abbrev pub so_far : ℕ → ℕ
  so_far n = hash_transitions first end start (class_transitions hashes dead (take n es))

  -- a transition that is not looked at
  hash_transitions-apart : (hash : ℕ) (e : Transition) → (nat_le first e.letter && nat_lt e.letter end) ≡ false → hash_transitions first end hash (class_transitions hashes dead (e ∷ [])) ≡ hash
  hash_transitions-apart hash e apart = by (class_of hashes e.target == dead)
    where
      by : (b : Bool) → hash_transitions first end hash (if b then [] else class_transition hashes e ∷ []) ≡ hash
      by true = refl
      by false = ap (λ (b : Bool). if b then mixed ((hash * 3 % 2 ^ 64 + e.letter) % 2 ^ 64) (class_of hashes e.target) else hash) apart

  -- a letter before the first is not looked at
  pub before_first : (letter : ℕ) → letter < first → (nat_le first letter && nat_lt letter end) ≡ false
  before_first letter less = and_left (nat_le first letter) (nat_lt letter end) (lt-leb first letter less)

  -- nor is one from the end on
  from_end : (letter : ℕ) → end ≤ letter → (nat_le first letter && nat_lt letter end) ≡ false
  from_end letter past = and_right (nat_le first letter) (nat_lt letter end) (le-ltb letter end past)

  -- the next transition, where it is not looked at
  pub hash_transitions-skip : (k : ℕ) (z : Transition) → k < length es → (nat_le first (get_or es k z).letter && nat_lt (get_or es k z).letter end) ≡ false → so_far k ≡ so_far (k + 1)
  hash_transitions-skip k z inside apart = sym (hash_transitions-apart (so_far k) (get_or es k z) apart) ∙ hash_transitions-more first end start hashes dead es k z inside

  -- the next transitions, where they are not looked at
  hash_transitions-still : (m j : ℕ) (z : Transition) → m + j ≤ length es → ((k : ℕ) → m ≤ k → k < m + j → (nat_le first (get_or es k z).letter && nat_lt (get_or es k z).letter end) ≡ false) → so_far m ≡ so_far (m + j)
  hash_transitions-still m zero z inside apart = ap so_far (omega arith)
  hash_transitions-still m (suc j) z inside apart =
      let next : m + j + 1 ≡ m + suc j = omega arith in
      hash_transitions-still m j z (omega (arith, inside)) (λ k after before. apart k after (omega (arith, before)))
      ∙ hash_transitions-skip (m + j) z (omega (arith, inside)) (apart (m + j) (omega arith) (omega arith))
      ∙ ap so_far next

  -- where the others are by letters from the end on
  pub hash_transitions-rest : (n : ℕ) (z : Transition) → ((k : ℕ) → n ≤ k → k < length es → end ≤ (get_or es k z).letter) → so_far n ≡ hash_transitions first end start (class_transitions hashes dead es)
  hash_transitions-rest n z past = by (cases_lt n (length es))
    where
      by : (n < length es) ⊎ (length es ≤ n) → so_far n ≡ hash_transitions first end start (class_transitions hashes dead es)
      by (inl less) = hash_transitions-still n (length es - n) z (omega (arith, less)) (λ k after before. from_end (get_or es k z).letter (past k after (omega (arith, before, less))))
          ∙ ap (λ (fs : List Transition). hash_transitions first end start (class_transitions hashes dead fs)) (take_all (n + (length es - n)) es (omega (arith, less)))
      by (inr all) = ap (λ (fs : List Transition). hash_transitions first end start (class_transitions hashes dead fs)) (take_all n es all)

  -- where the letters of transitions are their places
  module _ (z : Transition) (full : (k : ℕ) → k < length es → (get_or es k z).letter ≡ k) where
    -- those before the first letter
    pub hash_transitions-begin : start ≡ so_far first
    hash_transitions-begin = by (cases_lt first (length es))
      where
        low : (k : ℕ) → k < length es → k < first → (nat_le first (get_or es k z).letter && nat_lt (get_or es k z).letter end) ≡ false
        low k inside less = before_first (get_or es k z).letter (omega (arith, full k inside))

        by : (first < length es) ⊎ (length es ≤ first) → start ≡ so_far first
        by (inl less) = let all : 0 + first ≡ first = omega arith in
            hash_transitions-still 0 first z (omega (arith, less)) (λ k after before. low k (omega (arith, before, less)) (omega (arith, before))) ∙ ap so_far all
        by (inr past) = hash_transitions-still 0 (length es) z (omega arith) (λ k after before. low k (omega (arith, before)) (omega (arith, before, past)))
            ∙ ap (λ (fs : List Transition). hash_transitions first end start (class_transitions hashes dead fs)) (take_all (0 + length es) es (omega arith) ∙ sym (take_all first es past))

    -- those from the end on
    pub hash_transitions-end : (n : ℕ) → (length es ≤ n) ⊎ (end ≤ n) → so_far n ≡ hash_transitions first end start (class_transitions hashes dead es)
    hash_transitions-end n (inl all) = ap (λ (fs : List Transition). hash_transitions first end start (class_transitions hashes dead fs)) (take_all n es all)
    hash_transitions-end n (inr past) = hash_transitions-rest n z (λ k after inside. omega (arith, full k inside, after, past))

module _ (d : Automaton) (outputs : List ℕ) (given : length outputs ≡ states_of d) where
  -- by their outputs
  pub AreCoarseNumbers-outputs : (hashes : List ℕ) → length hashes ≡ states_of d + 1 → ((q : ℕ) → q < states_of d + 1 → class_of hashes q ≡ output_hash (class_of outputs q)) → AreCoarseNumbers d outputs hashes
  AreCoarseNumbers-outputs hashes width are = record {
    width = width;
    coarse = λ p q small low same. are p (omega arith) ∙ ap output_hash (same [] tt) ∙ sym (are q (omega arith));
  }

  module _ (table : IsTable (letters_of d) d.states) where
    -- states that are alike have one hash
    one_hash : (first end : ℕ) (hashes : List ℕ) (p q : ℕ) → AreAlike d hashes p q → hash_of d first end hashes p ≡ hash_of d first end hashes q
    one_hash first end hashes p q alike =
        ap (λ (c : ℕ). hash_transitions first end c (class_transitions hashes (dead_class d hashes) (transitions_of d p))) alike.own
        ∙ ap (hash_transitions first end (class_of hashes q)) (rows_from_alike d hashes table p q alike)

    -- after a part of a round
    pub AreCoarseNumbers-hashed : (first end : ℕ) (old new : List ℕ) → AreCoarseNumbers d outputs old → AreHashed d first end old new → AreCoarseNumbers d outputs new
    AreCoarseNumbers-hashed first end old new are hashed = record {
      width = hashed.width;
      coarse = λ p q small low same. hashed.are p small ∙ one_hash first end old p q (alike_residual d outputs given table old p q are.coarse small low same) ∙ sym (hashed.are q low);
    }

-- states of one number have the class of the first that has it
pub AreCoarseClasses-places : (d : Automaton) (outputs numbers places : List ℕ) → AreCoarseNumbers d outputs numbers → AreFirstPlaces numbers places → AreCoarseClasses d outputs places
AreCoarseClasses-places d outputs numbers places are firsts = record {
  width = firsts.width ∙ are.width;
  below = λ k z within. omega (arith, All-first_places numbers places firsts k z within, are.width);
  coarse = λ p q small low same. (same_first_place numbers places firsts p q (omega (arith, small, are.width)) (omega (arith, low, are.width))).0 (are.coarse p q small low same);
}

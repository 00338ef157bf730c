-- Letters from the parts that two automata read of them.
use Rattle.std.proofs.Common.{◌≡◌, ◌≢◌, ℕ, ◌+◌, ◌<◌, true, List, [], ◌∷◌, ◌++◌, length, get_or, unwrap_or, None, ◌⊎◌, inl, inr, sym, ap, ◌∙◌, subst, below_more}
use Rattle.std.specs.List.{All, Contains}
use Rattle.std.proofs.lemmas.List.Elements.{All-push, Contains-append_left, Contains-push}
use Rattle.digit_tuple.specs.declared.transitions.Transition.{Transition}
use Rattle.digit_tuple.specs.Deterministic.{states_of, transitions_of, target_by}
use Rattle.digit_tuple.proofs.DfaLemmas.{target_by-none}
use Rattle.residual_classes.specs.Classes.{next_of}
use Rattle.product_op.specs.declared.letter_joins.LetterJoin.{LetterJoin}
use Rattle.product_op.specs.declared.letter_joins.LeastLetter.{LeastLetter}
use Rattle.product_op.specs.declared.op.Op.{Op}
use Rattle.product_op.specs.DeadPairs.{ArePair, live_pair_after, needs_second}
use Rattle.product_op.specs.LeadingLetters.{AreFound}
use Rattle.product_op.specs.LetterJoins.{AddUp, HoldJoined, HoldSums, IsJoin, least_of, letter_at}
use Rattle.product_op.specs.Readings.{Reading, part_read, reading_at, state_at}
use Rattle.product_op.proofs.DeadExitLemmas.{find_letter}
use Rattle.product_op.proofs.LiveLetterLemmas.{first_none, second_none}

-- a transition of a state by a letter, unless the letter leads to the sink
pub leads_or_not : (r : Reading) (state part : ℕ) (row : List Transition) → row ≡ transitions_of r.automaton state
    → ((i : ℕ) × (i < length row) × ((z : Transition) → (get_or row i z).letter ≡ part)) ⊎ (next_of r.automaton state part ≡ states_of r.automaton)
leads_or_not r state part row is = by (find_letter row part)
  where
    by : ((i : ℕ) × (i < length row) × ((z : Transition) → (get_or row i z).letter ≡ part)) ⊎ All (λ e. e.letter ≢ part) row
        → ((i : ℕ) × (i < length row) × ((z : Transition) → (get_or row i z).letter ≡ part)) ⊎ (next_of r.automaton state part ≡ states_of r.automaton)
    by (inl found) = inl found
    by (inr none) = inr (ap (λ (es : List Transition). unwrap_or (target_by es part) (states_of r.automaton)) (sym is) ∙ ap (λ o. unwrap_or o (states_of r.automaton)) (target_by-none row part none))

-- letters are found that are sums of one and of those of the first so many transitions, and letters that were found before
pub record AreSums (letters : ℕ) (own : LeastLetter) (others : List LeastLetter) (row : List Transition) (count : ℕ) (old found : List ℕ) : Type 0 where
  pub below : All (λ a. a < letters) found
  pub kept : (a : ℕ) → Contains old a → Contains found a
  pub sums : HoldSums letters own others row count found

module _ (letters : ℕ) (own : LeastLetter) (others : List LeastLetter) (row : List Transition) (count : ℕ) (old found : List ℕ) (are : AreSums letters own others row count old found) where
  abbrev IsSum : ℕ → Type 0
  IsSum a = AddUp own (least_of others (letter_at row count)) a

  -- one transition more, and its sum
  pub AreSums-push : (sum : ℕ) → sum < letters → ((a : ℕ) → a < letters → IsSum a → sum ≡ a) → AreSums letters own others row (count + 1) old (found ++ sum ∷ [])
  AreSums-push sum small is = record {
    below = All-push (λ a. a < letters) found sum are.below small;
    kept = λ a there. Contains-append_left found (sum ∷ []) a (are.kept a there);
    sums = below_more (λ i. (a : ℕ) → a < letters → AddUp own (least_of others (letter_at row i)) a → Contains (found ++ sum ∷ []) a) count
        (λ i less a low adds. Contains-append_left found (sum ∷ []) a (are.sums i less a low adds))
        (λ a low adds. subst (Contains (found ++ sum ∷ [])) (is a low adds) (Contains-push found sum));
  }

  -- one more, with which no letter is a sum
  pub AreSums-skip : ((a : ℕ) → ¬ IsSum a) → AreSums letters own others row (count + 1) old found
  AreSums-skip none = record {
    below = are.below;
    kept = are.kept;
    sums = below_more (λ i. (a : ℕ) → a < letters → AddUp own (least_of others (letter_at row i)) a → Contains found a) count are.sums (λ a low adds. absurd (none a adds));
  }

module _ (letters : ℕ) (op : Op) (rs : List Reading) (are : ArePair letters op rs) (key : List ℕ) (needs : needs_second op ≡ true) (join : LetterJoin) (joins : IsJoin letters (reading_at rs 0) (reading_at rs 1) join) where
  -- the sums of two transitions are all letters by which both lead on
  pub AreFound-joined : (first second : List Transition) (found : List ℕ) → first ≡ transitions_of (reading_at rs 0).automaton (state_at key 0) → second ≡ transitions_of (reading_at rs 1).automaton (state_at key 1)
      → All (λ a. a < letters) found → HoldJoined letters join first second (length first) found → AreFound letters (live_pair_after op rs key) found
  AreFound-joined first second found first_is second_is below joined = record {
    in_range = below;
    others = λ a small missing. by a small missing (leads_or_not (reading_at rs 0) (state_at key 0) (part_read (reading_at rs 0) a) first first_is) (leads_or_not (reading_at rs 1) (state_at key 1) (part_read (reading_at rs 1) a) second second_is);
  }
    where
      by : (a : ℕ) → a < letters → ¬ Contains found a
          → ((i : ℕ) × (i < length first) × ((z : Transition) → (get_or first i z).letter ≡ part_read (reading_at rs 0) a)) ⊎ (next_of (reading_at rs 0).automaton (state_at key 0) (part_read (reading_at rs 0) a) ≡ states_of (reading_at rs 0).automaton)
          → ((j : ℕ) × (j < length second) × ((z : Transition) → (get_or second j z).letter ≡ part_read (reading_at rs 1) a)) ⊎ (next_of (reading_at rs 1).automaton (state_at key 1) (part_read (reading_at rs 1) a) ≡ states_of (reading_at rs 1).automaton)
          → live_pair_after op rs key a ≡ None
      by a small missing (inr out) other = first_none letters op rs are key a out
      by a small missing (inl on) (inr out) = second_none letters op rs are key needs a out
      by a small missing (inl on) (inl beside) = absurd (missing (joined on.0 on.1 beside.0 beside.1 a small
          (subst (λ p. AddUp (least_of join.first.items p) (least_of join.second.items (letter_at second beside.0)) a) (sym (on.2 (record { letter = 0; target = 0 })))
          (subst (λ p. AddUp (least_of join.first.items (part_read (reading_at rs 0) a)) (least_of join.second.items p) a) (sym (beside.2 (record { letter = 0; target = 0 }))) (joins.adds_up a small)))))

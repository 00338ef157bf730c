-- Letters by which pairs of states lead to live ones.
use Rattle.std.proofs.Common.{◌≡◌, ◌==◌, ℕ, ◌+◌, ◌<◌, Bool, true, false, cond, not, List, [], ◌∷◌, ◌++◌, length, filter, get_or, take, nat_cmp, None, Some, ◌⊎◌, inl, inr, refl, sym, ap, ◌∙◌, subst, true≢false, arith, if◌then◌else◌}
use Rattle.std.specs.List.{AllPairs, Contains, dedup}
use Rattle.std.specs.List.Sorted.{IsSorted, IsPermutation}
use Rattle.std.proofs.lemmas.Bool.Decides.{Decides-eqb}
use Rattle.std.proofs.lemmas.List.{append-nil, take_more}
use Rattle.std.proofs.lemmas.List.Elements.{All-contains, All-contains_itself, All-weaker, filter-append}
use Rattle.std.proofs.lemmas.List.FromFn.{get_or-map-range_with_len}
use Rattle.std.proofs.lemmas.List.Kept.{AllPairs-from_increasing, Contains-dedup_nat, Contains-from_dedup}
use Rattle.std.proofs.lemmas.List.Sorted.{Contains-permutation, IsPermutation-sym}
use Rattle.std.proofs.lemmas.Map.Keys.{IsStrictlyIncreasing-dedup}
use Rattle.digit_tuple.specs.Deterministic.{states_of}
use Rattle.digit_tuple.proofs.MemberLemmas.{Contains-filter, Contains-from_filter}
use Rattle.residual_classes.specs.Classes.{next_of}
use Rattle.product_op.specs.declared.op.Op.{Op}
use Rattle.product_op.specs.DeadPairs.{ArePair, leads_on, live_pair_after, needs_second}
use Rattle.product_op.specs.LeadingLetters.{letters_on, AreFound, AreLeading}
use Rattle.product_op.specs.Readings.{Reading, no_reading, reading_at, part_read, state_at, next_key}
use Rattle.product_op.proofs.DeadPairLemmas.{dead_first, dead_second}
use Rattle.product_op.proofs.FoundLetters.{letters_on-below, letters_on-missing}
use Rattle.product_op.proofs.LeadingLemmas.{contained}

-- of one element more, it too if it passes
pub filter_kept : (p : ℕ → Bool) (xs : List ℕ) (i : ℕ) → i < length xs → p (get_or xs i 0) ≡ true → filter p (take (i + 1) xs) ≡ filter p (take i xs) ++ get_or xs i 0 ∷ []
filter_kept p xs i inside passes =
    ap (filter p) (take_more xs i 0 inside) ∙ filter-append p (take i xs) (get_or xs i 0 ∷ []) ∙ ap (λ b. filter p (take i xs) ++ cond b (get_or xs i 0 ∷ []) []) passes

pub filter_left : (p : ℕ → Bool) (xs : List ℕ) (i : ℕ) → i < length xs → p (get_or xs i 0) ≡ false → filter p (take (i + 1) xs) ≡ filter p (take i xs)
filter_left p xs i inside fails =
    ap (filter p) (take_more xs i 0 inside) ∙ filter-append p (take i xs) (get_or xs i 0 ∷ []) ∙ ap (λ b. filter p (take i xs) ++ cond b (get_or xs i 0 ∷ []) []) fails ∙ append-nil (filter p (take i xs))

-- whether a letter leads on, by a test of where it leads
pub leads_by : (r : Reading) (state a next : ℕ) (b : Bool) → next ≡ next_of r.automaton state (part_read r a) → (b ≡ true → next ≡ states_of r.automaton) → (next ≡ states_of r.automaton → b ≡ true) → leads_on r state a ≡ not b
leads_by r state a next b is out back = by b (next_of r.automaton state (part_read r a) == states_of r.automaton) refl out back
  where
    goes_nowhere : (next_of r.automaton state (part_read r a) ≡ states_of r.automaton) → (next_of r.automaton state (part_read r a) == states_of r.automaton) ≡ true
    goes_nowhere same = (Decides-eqb (next_of r.automaton state (part_read r a)) (states_of r.automaton)).1 same

    by : (b c : Bool) → (next_of r.automaton state (part_read r a) == states_of r.automaton) ≡ c → (b ≡ true → next ≡ states_of r.automaton) → (next ≡ states_of r.automaton → b ≡ true) → not c ≡ not b
    by true true eq out back = refl
    by false false eq out back = refl
    by true false eq out back = absurd (true≢false (sym (goes_nowhere (sym is ∙ out refl)) ∙ eq))
    by false true eq out back = absurd (true≢false (sym (back (is ∙ (Decides-eqb (next_of r.automaton state (part_read r a)) (states_of r.automaton)).0 eq))))

module _ (letters : ℕ) (op : Op) (rs : List Reading) (are : ArePair letters op rs) (key : List ℕ) where
  abbrev pub next_at : ℕ → ℕ → ℕ
  next_at a i = next_of (reading_at rs i).automaton (state_at key i) (part_read (reading_at rs i) a)

  pub first_none : (a : ℕ) → next_at a 0 ≡ states_of (reading_at rs 0).automaton → live_pair_after op rs key a ≡ None
  first_none a sink = ap (λ b. if b then None else Some (next_key rs key a)) (dead_first rs op (next_key rs key a)
      ((Decides-eqb (state_at (next_key rs key a) 0) (states_of (reading_at rs 0).automaton)).1 (get_or-map-range_with_len (next_at a) 0 (length rs) 0 0 0 (omega (arith, are.count)) (omega arith) ∙ sink)))

  pub second_none : needs_second op ≡ true → (a : ℕ) → next_at a 1 ≡ states_of (reading_at rs 1).automaton → live_pair_after op rs key a ≡ None
  second_none needs a sink = ap (λ b. if b then None else Some (next_key rs key a)) (dead_second rs op (next_key rs key a) needs
      ((Decides-eqb (state_at (next_key rs key a) 1) (states_of (reading_at rs 1).automaton)).1 (get_or-map-range_with_len (next_at a) 0 (length rs) 1 1 0 (omega (arith, are.count)) (omega arith) ∙ sink)))

  abbrev Found : List ℕ → Type 0
  Found found = AreFound letters (live_pair_after op rs key) found

  abbrev first_letters : List ℕ
  first_letters = letters_on (reading_at rs 0) (state_at key 0)

  first_long : length (reading_at rs 0).parts ≡ letters
  first_long = (are.readings_are 0 no_reading (omega (arith, are.count))).count

  -- those by which the first leads on
  pub AreFound-first : (found : List ℕ) → found ≡ first_letters → Found found
  AreFound-first found is = record {
    in_range = All-weaker (Contains found) (λ a. a < letters) (λ a there. omega (arith, first_long, letters_on-below (reading_at rs 0) (state_at key 0) a (subst (λ ls. Contains ls a) is there))) found (All-contains_itself found);
    others = λ a small missing. first_none a (letters_on-missing (reading_at rs 0) (state_at key 0) a (omega (arith, small, first_long)) (λ there. missing (subst (λ ls. Contains ls a) (sym is) there)));
  }

  -- of those, where the second is needed, the ones by which it leads on
  pub AreFound-both : needs_second op ≡ true → (found : List ℕ) → found ≡ filter (leads_on (reading_at rs 1) (state_at key 1)) first_letters → Found found
  AreFound-both needs found is = record {
    in_range = All-weaker (Contains found) (λ a. a < letters) (λ a there. All-contains (λ b. b < letters) first_letters a (AreFound-first first_letters refl).in_range (Contains-from_filter leads first_letters a (subst (λ ls. Contains ls a) is there)).0) found (All-contains_itself found);
    others = λ a small missing. by a small (λ there. missing (subst (λ ls. Contains ls a) (sym is) there)) (contained first_letters a);
  }
    where
      leads : ℕ → Bool
      leads = leads_on (reading_at rs 1) (state_at key 1)

      on : (a : ℕ) (b : Bool) → (next_at a 1 == states_of (reading_at rs 1).automaton) ≡ b → Contains first_letters a → ¬ Contains (filter leads first_letters) a → live_pair_after op rs key a ≡ None
      on a true sink there missing = second_none needs a ((Decides-eqb (next_at a 1) (states_of (reading_at rs 1).automaton)).0 sink)
      on a false stays there missing = absurd (missing (Contains-filter leads first_letters a there (ap not stays)))

      by : (a : ℕ) → a < letters → ¬ Contains (filter leads first_letters) a → Contains first_letters a ⊎ ¬ Contains first_letters a → live_pair_after op rs key a ≡ None
      by a small missing (inl there) = on a (next_at a 1 == states_of (reading_at rs 1).automaton) refl there missing
      by a small missing (inr away) = (AreFound-first first_letters refl).others a small away

  -- so they are, in order and each once, those that lead on
  pub AreLeading-live : (found sorted some : List ℕ) → Found found → IsPermutation found sorted → IsSorted nat_cmp sorted → some ≡ dedup (λ a b. a == b) sorted → AreLeading letters (live_pair_after op rs key) some
  AreLeading-live found sorted some live moved up left = record {
    in_range = All-weaker (Contains some) (λ a. a < letters) (λ a there. All-contains (λ b. b < letters) found a live.in_range (back a there)) some (All-contains_itself some);
    ascending = subst (AllPairs (λ a b. a < b)) (sym left) (AllPairs-from_increasing (dedup (λ a b. a == b) sorted) (IsStrictlyIncreasing-dedup sorted up));
    others = λ a less missing. live.others a less (λ there. missing (over a there));
  }
    where
      back : (a : ℕ) → Contains some a → Contains found a
      back a there = Contains-permutation sorted found a (IsPermutation-sym found sorted moved) (Contains-from_dedup (λ b c. b == c) sorted a (subst (λ ls. Contains ls a) left there))

      over : (a : ℕ) → Contains found a → Contains some a
      over a there = subst (λ ls. Contains ls a) (sym left) (Contains-dedup_nat sorted a (Contains-permutation found sorted a moved there))

-- The letters by whose parts transitions lead on, and letters that are all there are.
use Rattle.std.proofs.Common.{◌≡◌, ◌≢◌, ◌==◌, ◌&&◌, ℕ, ◌+◌, ◌<◌, true, List, [], ◌∷◌, ◌++◌, length, nat_cmp, Option, None, Some, unwrap_or, sym, ap, ◌∙◌, subst, arith, if◌then◌else◌}
use Rattle.std.specs.List.{AllPairs, Contains, dedup, flat_map, range_with_len}
use Rattle.std.specs.List.Sorted.{IsSorted, IsPermutation}
use Rattle.std.proofs.lemmas.List.{append-nil}
use Rattle.std.proofs.lemmas.List.Concat.{flat_map-append}
use Rattle.std.proofs.lemmas.List.Elements.{All-contains_itself, All-weaker}
use Rattle.std.proofs.lemmas.List.FromFn.{length-range_with_len, get_or-range_with_len, get_or-map-range_with_len}
use Rattle.std.proofs.lemmas.List.Kept.{AllPairs-from_increasing, Contains-dedup_nat, Contains-from_dedup}
use Rattle.std.proofs.lemmas.List.Sorted.{Contains-permutation, IsPermutation-sym}
use Rattle.std.proofs.lemmas.Map.Keys.{IsStrictlyIncreasing-dedup}
use Rattle.digit_tuple.specs.declared.transitions.Transition.{Transition}
use Rattle.digit_tuple.specs.Deterministic.{states_of, transitions_of}
use Rattle.digit_tuple.specs.PartIndex.{letters_with}
use Rattle.digit_tuple.proofs.DfaLemmas.{target_by-none}
use Rattle.digit_tuple.proofs.MemberLemmas.{Contains-flat_map, Contains-from_flat_map}
use Rattle.digit_tuple.proofs.PartIndexLemmas.{Contains-letters, Contains-from_letters}
use Rattle.digit_tuple.proofs.RangeLemmas.{All-range, Contains-range, Contains-from_range, range_more}
use Rattle.residual_classes.specs.Classes.{next_of}
use Rattle.product_op.specs.declared.rule.Rule.{Rule}
use Rattle.product_op.specs.Readings.{Reading, AreReadings, no_reading, reading_at, part_read, state_at, next_key}
use Rattle.product_op.specs.SinkKeys.{are_sinks, refuses_all_sinks, live_key_after}
use Rattle.product_op.specs.LeadingLetters.{letters_on, AreLeading}
use Rattle.product_op.proofs.SinkKeyLemmas.{are_sinks-all}

module _ (r : Reading) (state : ℕ) where
  pub letters_on-below : (a : ℕ) → Contains (letters_on r state) a → a < length r.parts
  letters_on-below a there =
      let found = Contains-from_flat_map (λ (e : Transition). letters_with r.parts e.letter) (transitions_of r.automaton state) a there in
      (Contains-from_letters r.parts found.0.letter a found.2).0

  -- another letter leads to the sink
  pub letters_on-missing : (a : ℕ) → a < length r.parts → ¬ Contains (letters_on r state) a → next_of r.automaton state (part_read r a) ≡ states_of r.automaton
  letters_on-missing a less missing =
      ap (λ o. unwrap_or o (states_of r.automaton)) (target_by-none (transitions_of r.automaton state) (part_read r a)
      (All-weaker (Contains (transitions_of r.automaton state)) (λ e. e.letter ≢ part_read r a)
      (λ e there same. missing (Contains-flat_map (λ (f : Transition). letters_with r.parts f.letter) (transitions_of r.automaton state) e a there (Contains-letters r.parts e.letter a less (sym same))))
      (transitions_of r.automaton state) (All-contains_itself (transitions_of r.automaton state))))

-- the letters from the states of the first so many
abbrev pub letters_to : List Reading → List ℕ → ℕ → List ℕ
letters_to rs key count = flat_map (λ i. letters_on (reading_at rs i) (state_at key i)) (range_with_len 0 count)

pub letters_to_more : (rs : List Reading) (key : List ℕ) (count : ℕ) → letters_to rs key (count + 1) ≡ letters_to rs key count ++ letters_on (reading_at rs count) (state_at key count)
letters_to_more rs key count =
    let f : ℕ → List ℕ = λ i. letters_on (reading_at rs i) (state_at key i) in
    ap (flat_map f) (range_more count) ∙ flat_map-append f (range_with_len 0 count) (count ∷ []) ∙ ap (λ ls. letters_to rs key count ++ ls) (append-nil (f count))

module _ (letters : ℕ) (rs : List Reading) (are : AreReadings letters rs) (rule : Rule) (refuses : refuses_all_sinks rule (length rs) ≡ true) (key : List ℕ) where
  found_below : (a : ℕ) → Contains (letters_to rs key (length rs)) a → a < letters
  found_below a there =
      let found = Contains-from_flat_map (λ i. letters_on (reading_at rs i) (state_at key i)) (range_with_len 0 (length rs)) a there in
      let inside : found.0 < length rs = Contains-from_range (length rs) found.0 found.1 in
      omega (arith, letters_on-below (reading_at rs found.0) (state_at key found.0) a found.2, (are found.0 no_reading inside).count)

  -- each other letter leads to sinks
  missing_none : (a : ℕ) → a < letters → ¬ Contains (letters_to rs key (length rs)) a → live_key_after rule rs key a ≡ None
  missing_none a less missing =
      let sinks : are_sinks rs (next_key rs key a) ≡ true = are_sinks-all rs (next_key rs key a) (λ i inside.
      get_or-map-range_with_len (λ j. next_of (reading_at rs j).automaton (state_at key j) (part_read (reading_at rs j) a)) 0 (length rs) i i 0 inside (omega arith)
      ∙ letters_on-missing (reading_at rs i) (state_at key i) a (omega (arith, less, (are i no_reading inside).count))
      (λ there. missing (Contains-flat_map (λ j. letters_on (reading_at rs j) (state_at key j)) (range_with_len 0 (length rs)) i a (Contains-range (length rs) i inside) there))) in
      ap (λ b. if b && are_sinks rs (next_key rs key a) then None else Some (next_key rs key a)) refuses ∙ ap (λ b. if b then None else Some (next_key rs key a)) sinks

  -- so the letters in order, each once, are those that lead on
  pub AreLeading-found : (found sorted some : List ℕ) → found ≡ letters_to rs key (length rs) → IsPermutation found sorted → IsSorted nat_cmp sorted → some ≡ dedup (λ a b. a == b) sorted
      → AreLeading letters (live_key_after rule rs key) some
  AreLeading-found found sorted some all moved up left = record {
    in_range = All-weaker (Contains some) (λ a. a < letters) (λ a there. found_below a (back a there)) some (All-contains_itself some);
    ascending = subst (AllPairs (λ a b. a < b)) (sym left) (AllPairs-from_increasing (dedup (λ a b. a == b) sorted) (IsStrictlyIncreasing-dedup sorted up));
    others = λ a less missing. missing_none a less (λ there. missing (over a there));
  }
    where
      back : (a : ℕ) → Contains some a → Contains (letters_to rs key (length rs)) a
      back a there = subst (λ ls. Contains ls a) all
          (Contains-permutation sorted found a (IsPermutation-sym found sorted moved) (Contains-from_dedup (λ b c. b == c) sorted a (subst (λ ls. Contains ls a) left there)))

      over : (a : ℕ) → Contains (letters_to rs key (length rs)) a → Contains some a
      over a there = subst (λ ls. Contains ls a) (sym left) (Contains-dedup_nat sorted a (Contains-permutation found sorted a moved (subst (λ ls. Contains ls a) (sym all) there)))

-- all letters there are
pub AreLeading-all : (letters : ℕ) (after : ℕ → Option (List ℕ)) (some : List ℕ) → some ≡ range_with_len 0 letters → AreLeading letters after some
AreLeading-all letters after some all = subst (AreLeading letters after) (sym all) (record {
  in_range = All-range letters;
  ascending = λ i j d before within.
      let small : j < letters = omega (arith, within, length-range_with_len 0 letters) in
      omega (arith, before, get_or-range_with_len 0 letters i d (omega (arith, before, small)), get_or-range_with_len 0 letters j d small);
  others = λ a less missing. absurd (missing (Contains-range letters a less));
})

-- Pairs of states that words lead to without their trailing zeros and with them.
use Rattle.std.proofs.Common.{◌≡◌, ◌≢◌, ◌==◌, ◌&&◌, ℕ, zero, suc, ◌<◌, ◌≤◌, Bool, true, false, if◌then◌else◌, List, [], ◌∷◌, ◌++◌, reverse, slice_index, Option, None, Some, ◌↔◌, ◌⊎◌, inl, inr, IsTrue, refl, sym, ap, ◌∙◌, true≢false, arith}
use Rattle.std.specs.Option.{option_and_then, option_map_or}
use Rattle.std.proofs.lemmas.Bool.{cases_lt, eqb-true, false_from_ne_true}
use Rattle.std.proofs.lemmas.Option.{none-some}
use Rattle.digit_tuple.specs.AcceptingStates.{AreAccepting}
use Rattle.digit_tuple.specs.Automaton.{Branching}
use Rattle.digit_tuple.specs.Deterministic.{Automaton, letters_of, states_of, accepting_of, accepts_of, run_of}
use Rattle.digit_tuple.specs.Keys.{LeadAlike, key_accepts, key_run}
use Rattle.digit_tuple.specs.Letters.{IsWord}
use Rattle.digit_tuple.specs.Paddings.{zeros, strip}
use Rattle.digit_tuple.specs.declared.direction.Direction.TheVariants.{Lsd}
use Rattle.digit_tuple.proofs.KeyLemmas.{key_accepts-run}
use Rattle.digit_tuple.specs.Reversed.{IsReversal}
use Rattle.determinise.proofs.ReversalLemmas as reversal
use Rattle.digit_tuple.specs.Width.{HasWidth}
use Rattle.digit_tuple.proofs.WidthLemmas.{HasApart-within}
use Rattle.minimise.specs.Canonical.{IsCanonical}
use Rattle.minimise.proofs.ApartLemmas.{canonical_apart}
use Rattle.residual_classes.specs.Classes.{next_of, first_of}
use Rattle.minimise.proofs.LeadLemmas.{lead, SameAfter-lead, one_lead}
use Rattle.residual_classes.proofs.SinkLemmas.{not_accepting_past}
use Rattle.pad_rename.specs.Padding.{IsPadded, LsdPaddedAlike}
use Rattle.pad_rename.specs.PaddedPairs.{AreFinal, KeepsAcceptance, are_sinks, pair_after, some_pair, twice}
use Rattle.pad_rename.specs.ZeroClosure.{IsOverFlagged, IsReached, flag_at}
use Rattle.digit_tuple.proofs.AcceptedLemmas.{accepted_over}
use Rattle.digit_tuple.proofs.PaddingLemmas.{strip-zeros, zeros_at_end, IsWord-strip, reverse-zeros}
use Rattle.pad_rename.proofs.PairTransitions.{are_sinks-one, not_sinks}
use Rattle.pad_rename.proofs.WidthLaws.{IsEquivalence-padded}
use Rattle.pad_rename.proofs.TrimmedWords.{with_prefix, trimmed, strip-trimmed}
use Rattle.pad_rename.proofs.SinkLeads.{accepts_of-lead, accepting_within, within_from_lead, run_from_lead, lead_from_run, lead-append, lead-sink, next_past}

module _ (d : Automaton) where
  -- where a word without trailing zeros leads, or the state from before, where there are zeros alone
  abbrev stripped_lead : ℕ → ℕ → List ℕ → ℕ
  stripped_lead p q [] = p
  stripped_lead p q (a ∷ u) = lead d q (a ∷ u)

  zero_first : (p q : ℕ) (u : List ℕ) → stripped_lead p (next_of d q 0) u ≡ stripped_lead p q (with_prefix 0 u)
  zero_first p q [] = refl
  zero_first p q (b ∷ u) = refl

  one_state : (q : ℕ) (u : List ℕ) → stripped_lead q q u ≡ lead d q u
  one_state q [] = refl
  one_state q (b ∷ u) = refl

  -- from two sinks no letter leads away
  pub both_sinks : (p q : ℕ) → are_sinks d p q ≡ true → (p ≡ states_of d) × (q ≡ states_of d)
  both_sinks p q is = by (p == states_of d) (q == states_of d) refl refl is
    where
      by : (b c : Bool) → (p == states_of d) ≡ b → (q == states_of d) ≡ c → (b && c) ≡ true → (p ≡ states_of d) × (q ≡ states_of d)
      by true true one two all = (eqb-true p (states_of d) one, eqb-true q (states_of d) two)
      by true false one two all = absurd (true≢false (sym all))
      by false c one two all = absurd (true≢false (sym all))

  sinks_stay : (p q : ℕ) (u w : List ℕ) → are_sinks d p q ≡ true → some_pair d (stripped_lead p q u) (lead d q w) ≡ None
  sinks_stay p q u w is =
      let both = both_sinks p q is in
      ap (λ r. some_pair d (stripped_lead r q u) (lead d q w)) both.0
      ∙ ap (λ r. some_pair d (stripped_lead (states_of d) r u) (lead d r w)) both.1
      ∙ ap (λ r. some_pair d r (lead d (states_of d) w)) (one_state (states_of d) u ∙ lead-sink d u)
      ∙ ap (λ r. some_pair d (states_of d) r) (lead-sink d w)
      ∙ ap (λ b. if b then None else Some (twice (states_of d))) (are_sinks-one d)

  pair_run : (w : List ℕ) (p q : ℕ) → are_sinks d p q ≡ false → key_run (pair_after d) (p ∷ q ∷ []) w ≡ some_pair d (stripped_lead p q (trimmed w)) (lead d q w)
  pair_run [] p q live = ap (λ b. if b then None else Some (p ∷ q ∷ [])) (sym live)
  pair_run (zero ∷ w) p q live = by (are_sinks d p (next_of d q 0)) refl (pair_run w p (next_of d q 0))
    where
      by : (b : Bool) → are_sinks d p (next_of d q 0) ≡ b
          → (are_sinks d p (next_of d q 0) ≡ false → key_run (pair_after d) (p ∷ next_of d q 0 ∷ []) w ≡ some_pair d (stripped_lead p (next_of d q 0) (trimmed w)) (lead d (next_of d q 0) w))
          → option_and_then (λ next. key_run (pair_after d) next w) (if b then None else Some (p ∷ next_of d q 0 ∷ [])) ≡ some_pair d (stripped_lead p q (with_prefix 0 (trimmed w))) (lead d (next_of d q 0) w)
      by true is rest = sym (sinks_stay p (next_of d q 0) (trimmed w) w is) ∙ ap (λ r. some_pair d r (lead d (next_of d q 0) w)) (zero_first p q (trimmed w))
      by false is rest = rest is ∙ ap (λ r. some_pair d r (lead d (next_of d q 0) w)) (zero_first p q (trimmed w))
  pair_run (suc a ∷ w) p q live = by (are_sinks d (next_of d q (suc a)) (next_of d q (suc a))) refl (pair_run w (next_of d q (suc a)) (next_of d q (suc a)))
    where
      by : (b : Bool) → are_sinks d (next_of d q (suc a)) (next_of d q (suc a)) ≡ b
          → (are_sinks d (next_of d q (suc a)) (next_of d q (suc a)) ≡ false
          → key_run (pair_after d) (next_of d q (suc a) ∷ next_of d q (suc a) ∷ []) w ≡ some_pair d (stripped_lead (next_of d q (suc a)) (next_of d q (suc a)) (trimmed w)) (lead d (next_of d q (suc a)) w))
          → option_and_then (λ next. key_run (pair_after d) next w) (if b then None else Some (next_of d q (suc a) ∷ next_of d q (suc a) ∷ [])) ≡ some_pair d (lead d (next_of d q (suc a)) (trimmed w)) (lead d (next_of d q (suc a)) w)
      by true is rest = sym (sinks_stay (next_of d q (suc a)) (next_of d q (suc a)) (trimmed w) w is) ∙ ap (λ r. some_pair d r (lead d (next_of d q (suc a)) w)) (one_state (next_of d q (suc a)) (trimmed w))
      by false is rest = rest is ∙ ap (λ r. some_pair d r (lead d (next_of d q (suc a)) w)) (one_state (next_of d q (suc a)) (trimmed w))

  -- the pair that a word leads to, where some word is accepted
  pub pair_run-first : first_of d ≢ states_of d → (w : List ℕ) → key_run (pair_after d) (twice (first_of d)) w ≡ some_pair d (lead d (first_of d) (strip Lsd w)) (lead d (first_of d) w)
  pair_run-first live w = pair_run w (first_of d) (first_of d) (not_sinks d (first_of d) (first_of d) live)
      ∙ ap (λ r. some_pair d r (lead d (first_of d) w)) (one_state (first_of d) (trimmed w) ∙ ap (lead d (first_of d)) (sym (strip-trimmed w)))

  -- pairs determine their states
  pub same_pairs : (p q r s : ℕ) → some_pair d p q ≡ some_pair d r s → (p ≡ r) × (q ≡ s)
  same_pairs p q r s = by (are_sinks d p q) (are_sinks d r s) refl refl
    where
      by : (b c : Bool) → are_sinks d p q ≡ b → are_sinks d r s ≡ c → (if b then None else Some (p ∷ q ∷ [])) ≡ (if c then None else Some (r ∷ s ∷ [])) → (p ≡ r) × (q ≡ s)
      by true true one two same = let first = both_sinks p q one in let second = both_sinks r s two in (first.0 ∙ sym second.0, first.1 ∙ sym second.1)
      by true false one two same = absurd (none-some (r ∷ s ∷ []) same)
      by false true one two same = absurd (none-some (p ∷ q ∷ []) (sym same))
      by false false one two same = let left : p ≡ r = cc in let right : q ≡ s = cc in (left, right)

module _ (d : Automaton) (canonical : IsCanonical d) (live : first_of d ≢ states_of d) where
  -- words that lead to one pair are alike
  pub alike_from_pairs : (w v : List ℕ) → LeadAlike (pair_after d) (twice (first_of d)) w v → LsdPaddedAlike d w v
  alike_from_pairs w v same =
      let both = same_pairs d (lead d (first_of d) (strip Lsd w)) (lead d (first_of d) w) (lead d (first_of d) (strip Lsd v)) (lead d (first_of d) v) (sym (pair_run-first d live w) ∙ same ∙ pair_run-first d live v) in
      record { stripped = SameAfter-lead d (strip Lsd w) (strip Lsd v) both.0; whole = SameAfter-lead d w v both.1 }

  -- and alike words lead to one pair
  pub pairs_from_alike : (w v : List ℕ) → IsWord (letters_of d) w → IsWord (letters_of d) v → LsdPaddedAlike d w v → LeadAlike (pair_after d) (twice (first_of d)) w v
  pairs_from_alike w v over there alike =
      let stripped = one_lead d canonical (strip Lsd w) (strip Lsd v) (IsWord-strip (letters_of d) w over) (IsWord-strip (letters_of d) v there) alike.stripped in
      let whole = one_lead d canonical w v over there alike.whole in
      pair_run-first d live w
      ∙ ap (λ (r : ℕ). some_pair d r (lead d (first_of d) w)) stripped
      ∙ ap (λ (r : ℕ). some_pair d (lead d (first_of d) (strip Lsd v)) r) whole
      ∙ sym (pair_run-first d live v)

  module _ (flags : List Bool) (final : AreFinal d flags) where
    -- the sink is not flagged
    flag-sink : flag_at flags (states_of d) ≡ false
    flag-sink = false_from_ne_true (flag_at flags (states_of d)) (λ is. let found = (final (states_of d)).0 is in
        true≢false (sym found.1 ∙ ap (accepting_of d) (lead-sink d (zeros found.0)) ∙ not_accepting_past d (states_of d) (omega arith)))

    accepts_at : (w : List ℕ) → key_accepts (pair_after d) (λ key. flag_at flags (slice_index key 0)) (twice (first_of d)) w ≡ flag_at flags (lead d (first_of d) (strip Lsd w))
    accepts_at w = key_accepts-run (pair_after d) (λ key. flag_at flags (slice_index key 0)) w (twice (first_of d))
        ∙ ap (λ (o : Option (List ℕ)). option_map_or (λ key. flag_at flags (slice_index key 0)) o false) (pair_run-first d live w)
        ∙ by (lead d (first_of d) (strip Lsd w)) (lead d (first_of d) w)
      where
        at : (p q : ℕ) (b : Bool) → are_sinks d p q ≡ b → option_map_or (λ key. flag_at flags (slice_index key 0)) (if b then None else Some (p ∷ q ∷ [])) false ≡ flag_at flags p
        at p q true is = sym (ap (flag_at flags) (both_sinks d p q is).0 ∙ flag-sink)
        at p q false is = refl

        by : (p q : ℕ) → option_map_or (λ key. flag_at flags (slice_index key 0)) (some_pair d p q) false ≡ flag_at flags p
        by p q = at p q (are_sinks d p q) refl

    -- the pairs accept the padded words
    pub pairs_accept : (w : List ℕ) → IsTrue (key_accepts (pair_after d) (λ key. flag_at flags (slice_index key 0)) (twice (first_of d)) w) ↔ IsPadded Lsd d w
    pairs_accept w = ((λ is. forth ((final (lead d (first_of d) (strip Lsd w))).0 (sym (accepts_at w) ∙ is))), (λ padded. accepts_at w ∙ (final (lead d (first_of d) (strip Lsd w))).1 (back padded)))
      where
        forth : (k : ℕ) × (accepting_of d (lead d (lead d (first_of d) (strip Lsd w)) (zeros k)) ≡ true) → IsPadded Lsd d w
        forth found =
            let v = strip Lsd w ++ zeros found.0 in
            let is : accepts_of d v ≡ true = accepts_of-lead d v ∙ ap (accepting_of d) (lead-append d (strip Lsd w) (zeros found.0) (first_of d)) ∙ found.1 in
            (v, accepted_over d v canonical.table is, strip-zeros w found.0, is)

        back : IsPadded Lsd d w → (k : ℕ) × (accepting_of d (lead d (lead d (first_of d) (strip Lsd w)) (zeros k)) ≡ true)
        back padded =
            let v = padded.0 in
            let end = zeros_at_end v in (
              end.0,
              ap (λ (u : List ℕ). accepting_of d (lead d (lead d (first_of d) u) (zeros end.0))) (sym padded.2)
                  ∙ ap (accepting_of d) (sym (lead-append d (strip Lsd v) (zeros end.0) (first_of d)) ∙ ap (lead d (first_of d)) (sym end.1))
                  ∙ sym (accepts_of-lead d v)
                  ∙ padded.3,
            )

module _ (d : Automaton) (canonical : IsCanonical d) (keeps : KeepsAcceptance d) where
  kept-zero : (q : ℕ) → accepting_of d (next_of d q 0) ≡ accepting_of d q
  kept-zero q = by (cases_lt q (states_of d))
    where
      by : (q < states_of d) ⊎ (states_of d ≤ q) → accepting_of d (next_of d q 0) ≡ accepting_of d q
      by (inl within) = keeps q within
      by (inr past) = ap (accepting_of d) (next_past d q 0 past) ∙ not_accepting_past d (states_of d) (omega arith) ∙ sym (not_accepting_past d q past)

  kept-zeros : (k q : ℕ) → accepting_of d (lead d q (zeros k)) ≡ accepting_of d q
  kept-zeros zero q = refl
  kept-zeros (suc k) q = kept-zeros k (next_of d q 0) ∙ kept-zero q

  accepts_stripped : (u : List ℕ) → accepts_of d u ≡ accepting_of d (lead d (first_of d) (strip Lsd u))
  accepts_stripped u =
      let end = zeros_at_end u in
      accepts_of-lead d u
      ∙ ap (λ (v : List ℕ). accepting_of d (lead d (first_of d) v)) end.1
      ∙ ap (accepting_of d) (lead-append d (strip Lsd u) (zeros end.0) (first_of d))
      ∙ kept-zeros end.0 (lead d (first_of d) (strip Lsd u))

  -- the language is closed under trailing zeros
  pub accepts-padded : (w : List ℕ) → IsWord (letters_of d) w → IsTrue (accepts_of d w) ↔ IsPadded Lsd d w
  accepts-padded w over = (
    (λ is. (w, over, refl, is)),
    (λ padded. accepts_stripped w ∙ ap (λ (v : List ℕ). accepting_of d (lead d (first_of d) v)) (sym padded.2) ∙ sym (accepts_stripped padded.0) ∙ padded.3),
  )

  -- and there are at most as many states as kinds of words
  pub states_within : (width : ℕ) → HasWidth (LsdPaddedAlike d) (letters_of d) width → states_of d ≤ width
  states_within width = HasApart-within (LsdPaddedAlike d) (letters_of d) (IsEquivalence-padded d Lsd) (states_of d) width
      (canonical_apart d canonical (LsdPaddedAlike d) (λ w v u over there more alike. alike.whole u more))

module _ (d : Automaton) (canonical : IsCanonical d) (n : Branching) (turned : IsReversal d n) (last : List ℕ) (are : AreAccepting d last) (flags : List Bool)
    (reached : (q : ℕ) → (flag_at flags q ≡ true) ↔ IsReached n (true ∷ []) last q) where
  -- over the zero letter alone
  all_zeros : (w : List ℕ) → IsOverFlagged (true ∷ []) w → (k : ℕ) × (w ≡ zeros k)
  all_zeros [] over = (0, refl)
  all_zeros (zero ∷ w) over = let rest = all_zeros w over.1 in (suc rest.0, ap (λ (u : List ℕ). 0 ∷ u) rest.1)
  all_zeros (suc a ∷ w) over = let no : false ≡ true = over.0 in cc

  zeros_flagged : (k : ℕ) → IsOverFlagged (true ∷ []) (zeros k)
  zeros_flagged zero = tt
  zeros_flagged (suc k) = (refl, zeros_flagged k)

  -- the search over reversed transitions finds the states from which zeros lead to accepting ones
  pub AreFinal-reached : AreFinal d flags
  AreFinal-reached q = ((λ is. forth ((reached q).0 is)), (λ found. (reached q).1 (back found)))
    where
      forth : IsReached n (true ∷ []) last q → (k : ℕ) × (accepting_of d (lead d q (zeros k)) ≡ true)
      forth found =
          let accepting = ((are.members found.0).0 found.1).1 in
          let word = all_zeros found.2.0 found.2.1 in
          let run = reversal.run_of-path d canonical.table n turned found.2.0 found.0 q found.2.2 in
          let back : run_of d q (zeros word.0) ≡ Some found.0 = ap (run_of d q) (sym (reverse-zeros word.0) ∙ ap reverse (sym word.1)) ∙ run in
          (word.0, ap (accepting_of d) (lead_from_run d (zeros word.0) q found.0 back) ∙ accepting)

      back : (k : ℕ) × (accepting_of d (lead d q (zeros k)) ≡ true) → IsReached n (true ∷ []) last q
      back found =
          let p = lead d q (zeros found.0) in
          let inside = accepting_within d p found.1 in
          let run : run_of d q (reverse (zeros found.0)) ≡ Some p = ap (run_of d q) (reverse-zeros found.0) ∙ run_from_lead d (zeros found.0) q p inside refl in (
            p,
            (are.members p).1 (inside, found.1),
            (zeros found.0, zeros_flagged found.0, reversal.path_from_run d canonical.table n turned (zeros found.0) p q (within_from_lead d (zeros found.0) q found.1) run),
          )

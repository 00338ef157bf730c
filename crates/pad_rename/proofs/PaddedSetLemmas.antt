-- Sets of states that words without their leading zeros lead to.
use Rattle.std.proofs.Common.{◌≡◌, ℕ, zero, suc, ◌<◌, ◌≤◌, true, false, List, [], ◌∷◌, ◌++◌, length, get_or, Option, None, Some, MatchOption, IsTrue, ◌↔◌, ◌⊎◌, inl, inr, refl, sym, ap, ◌∙◌, subst, true≢false, arith}
use Rattle.std.specs.Bool.{⊤}
use Rattle.std.specs.List.{Contains}
use Rattle.std.specs.Option.{option_and_then, option_map_or}
use Rattle.std.proofs.lemmas.Bool.{cases_lt}
use Rattle.std.proofs.lemmas.List.Elements.{All-contains_itself}
use Rattle.std.proofs.lemmas.List.{length-map}
use Rattle.digit_tuple.specs.Automaton as branching
use Rattle.digit_tuple.specs.Automaton.{Branch, Branching, IsBranchTable, Path}
use Rattle.digit_tuple.specs.Deterministic.{Automaton, letters_of, states_of, accepting_of, accepts_from, accepts_of}
use Rattle.digit_tuple.specs.Keys.{LeadAlike, key_accepts, key_run}
use Rattle.digit_tuple.specs.Letters.{IsWord}
use Rattle.digit_tuple.specs.Paddings.{zeros, without_zeros}
use Rattle.digit_tuple.specs.declared.direction.Direction.TheVariants.{Msd}
use Rattle.digit_tuple.proofs.KeyLemmas.{key_accepts-run, key_run-keeps}
use Rattle.digit_tuple.proofs.WordLemmas.{IsWord-append}
use Rattle.digit_tuple.specs.Groups.{some_set}
use Rattle.determinise.specs.Subsets.{IsStateSet, set_after, targets_of, has_accepting}
use Rattle.determinise.specs.SubsetLaws.{after_is_state_set}
use Rattle.digit_tuple.proofs.MemberLemmas.{Contains-none, list_any-contains, contains_from_list_any}
use Rattle.determinise.proofs.SubsetLemmas.{set_of, key_run-members, same_set}
use Rattle.minimise.specs.Canonical.{IsCanonical}
use Rattle.residual_classes.specs.Classes.{first_of}
use Rattle.minimise.specs.Residuals.{IsEmptyAfter, SameAfter}
use Rattle.minimise.proofs.CanonicalLemmas.{run_within}
use Rattle.minimise.proofs.LeadLemmas.{lead, IsPlace, first_place, lead_place, accepts_from-lead, accepts_of-first, SameAfter-lead, one_lead}
use Rattle.residual_classes.proofs.SinkLemmas.{sink_refuses}
use Rattle.pad_rename.specs.Padding.{IsPadded, HasResidualsOf, MsdPaddedAlike}
use Rattle.pad_rename.specs.PaddedPairs.{first_within}
use Rattle.pad_rename.specs.PaddedSets.{AreFirst, IsStateList, padded_after, padded_accepts}
use Rattle.pad_rename.specs.SameBranching.{branch_as, branching_as}
use Rattle.pad_rename.specs.ZeroClosure.{AreAfterZeros}
use Rattle.digit_tuple.proofs.AcceptedLemmas.{accepted_over}
use Rattle.digit_tuple.proofs.PaddingLemmas.{IsWord-zeros, IsWord-without_zeros, zeros_then_rest, without_zeros-zeros, without_zeros-twice}
use Rattle.pad_rename.proofs.SinkLeads.{lead-sink, lead-append, lead_within, accepts_of-lead, accepting_within, run_from_lead, lead_from_run, lead_from_path, path_from_run, branch_is, IsBranchTable-as}

-- a set of states is not empty
not_empty : (n : Branching) (o : Option (List ℕ)) → o ≡ Some [] → MatchOption o ⊤ (IsStateSet n) → ⊥
not_empty n o is match = let some : MatchOption (Some []) ⊤ (IsStateSet n) = subst (λ (r : Option (List ℕ)). MatchOption r ⊤ (IsStateSet n)) is match in omega (arith, some.some)

module _ (n : Branching) (first : List ℕ) where
  -- from a set on
  padded_run-set : (u : List ℕ) (q : ℕ) (qs : List ℕ) → key_run (padded_after n first) (q ∷ qs) u ≡ key_run (set_after n) (q ∷ qs) u
  padded_run-set [] q qs = refl
  padded_run-set (a ∷ u) q qs = by (targets_of n (q ∷ qs) a) (λ t ts. padded_run-set u t ts)
    where
      by : (ts : List ℕ) → ((t : ℕ) (ts : List ℕ) → key_run (padded_after n first) (t ∷ ts) u ≡ key_run (set_after n) (t ∷ ts) u)
          → option_and_then (λ next. key_run (padded_after n first) next u) (some_set ts) ≡ option_and_then (λ next. key_run (set_after n) next u) (some_set ts)
      by [] rest = refl
      by (t ∷ ts) rest = rest t ts

  -- where a word without leading zeros leads: to the first set, or from it on
  abbrev pub padded_from : List ℕ → Option (List ℕ)
  padded_from [] = Some []
  padded_from (a ∷ u) = key_run (set_after n) first (a ∷ u)

  pub padded_run : (w : List ℕ) → key_run (padded_after n first) [] w ≡ padded_from (without_zeros w)
  padded_run [] = refl
  padded_run (zero ∷ w) = padded_run w
  padded_run (suc a ∷ w) = by (targets_of n first (suc a))
    where
      by : (ts : List ℕ) → option_and_then (λ next. key_run (padded_after n first) next w) (some_set ts) ≡ option_and_then (λ next. key_run (set_after n) next w) (some_set ts)
      by [] = refl
      by (t ∷ ts) = padded_run-set w t ts

  module _ (table : IsBranchTable (branching.letters_of n) n.states) where
    -- a letter and more lead to a set that is not empty, or to none
    pub run_is_set : (a : ℕ) (u : List ℕ) → IsWord (branching.letters_of n) (a ∷ u) → MatchOption (key_run (set_after n) first (a ∷ u)) ⊤ (IsStateSet n)
    run_is_set a u over = by (set_after n first a) (after_is_state_set n first a)
      where
        by : (o : Option (List ℕ)) → MatchOption o ⊤ (IsStateSet n) → MatchOption (option_and_then (λ next. key_run (set_after n) next u) o) ⊤ (IsStateSet n)
        by None is = tt
        by (Some set) is = key_run-keeps (IsStateSet n) (branching.letters_of n) (set_after n) (λ key b holds small. after_is_state_set n key b) u set over.1 is

    -- the keys accept what the sets do
    pub accepts-run : (u : List ℕ) → IsWord (branching.letters_of n) u
        → option_map_or (padded_accepts n first) (padded_from u) false ≡ option_map_or (has_accepting n) (key_run (set_after n) first u) false
    accepts-run [] over = refl
    accepts-run (a ∷ u) over = by (key_run (set_after n) first (a ∷ u)) (run_is_set a u over)
      where
        of_set : (set : List ℕ) → 0 < length set → padded_accepts n first set ≡ has_accepting n set
        of_set [] some = absurd (omega arith)
        of_set (q ∷ qs) some = refl

        by : (o : Option (List ℕ)) → MatchOption o ⊤ (IsStateSet n) → option_map_or (padded_accepts n first) o false ≡ option_map_or (has_accepting n) o false
        by None is = refl
        by (Some set) is = of_set set is.some

module _ (d : Automaton) (canonical : IsCanonical d) where
  abbrev ntable : IsBranchTable (letters_of d) (branching_as d).states
  ntable = IsBranchTable-as d canonical.table

  -- the closure under zeros is the first set
  pub AreFirst-closure : (set : List ℕ) → first_of d ≡ 0 → AreAfterZeros (branching_as d) set → AreFirst d set
  AreFirst-closure set zero_is are = record {
    ascending = are.ascending;
    members = λ q. (
      (λ there. let path = (are.members q).0 there in
          let run = lead_from_path d canonical.table (zeros path.0) 0 q path.1 in
          (run_within d (zeros path.0) 0 q canonical.table canonical.table.initial run, (path.0, ap (λ p. lead d p (zeros path.0)) zero_is ∙ lead_from_run d (zeros path.0) 0 q run))),
      (λ found. (are.members q).1 (found.1.0, path_from_run d canonical.table (zeros found.1.0) 0 q (run_from_lead d (zeros found.1.0) 0 q found.0 (ap (λ p. lead d p (zeros found.1.0)) (sym zero_is) ∙ found.1.1)))),
    );
  }

  -- where nothing is accepted no state is
  pub AreFirst-none : first_of d ≡ states_of d → AreFirst d []
  AreFirst-none sink = record {
    ascending = λ i j e before within. absurd (omega arith);
    members = λ q. ((λ there. absurd (Contains-none q there)), (λ found. absurd (omega (arith, found.0, found.1.1, ap (λ p. lead d p (zeros found.1.0)) sink, lead-sink d (zeros found.1.0)))));
  }

  -- the first set is a list of states
  pub IsStateList-first : (set : List ℕ) → AreFirst d set → IsStateList (branching_as d) set
  IsStateList-first set are = record {
    in_range = λ k e within.
        let state = (are.members (get_or set k e)).0 (All-contains_itself set k e within) in
        omega (arith, state.0, length-map d.states branch_as);
    ascending = are.ascending;
  }

  module _ (first : List ℕ) (are : AreFirst d first) where
    -- the set after a word has the states that zeros and the word lead to
    pub set_after-word : (w : List ℕ) (q : ℕ) → Contains (set_of (branching_as d) ntable (key_run (set_after (branching_as d)) first w)) q
        ↔ ((q < states_of d) × ((k : ℕ) × (lead d (first_of d) (zeros k ++ w) ≡ q)))
    set_after-word w q = ((λ there. forth ((key_run-members (branching_as d) ntable w first q).0 there)), (λ found. (key_run-members (branching_as d) ntable w first q).1 (back found.0 found.1.0 found.1.1)))
      where
        forth : (p : ℕ) × Contains first p × Path (branching_as d) p w q → (q < states_of d) × ((k : ℕ) × (lead d (first_of d) (zeros k ++ w) ≡ q))
        forth found =
            let from = (are.members found.0).0 found.1 in
            let run = lead_from_path d canonical.table w found.0 q found.2 in (
              run_within d w found.0 q canonical.table from.0 run,
              (from.1.0, lead-append d (zeros from.1.0) w (first_of d) ∙ ap (λ p. lead d p w) from.1.1 ∙ lead_from_run d w found.0 q run),
            )

        back : q < states_of d → (k : ℕ) → lead d (first_of d) (zeros k ++ w) ≡ q → (p : ℕ) × Contains first p × Path (branching_as d) p w q
        back within k leads =
            let p = lead d (first_of d) (zeros k) in
            let on : lead d p w ≡ q = sym (lead-append d (zeros k) w (first_of d)) ∙ leads in
            by p on (lead_within d canonical.table (zeros k) (first_of d) (first_within d)) refl (cases_lt p (states_of d))
          where
            by : (p : ℕ) → lead d p w ≡ q → p ≤ states_of d → lead d (first_of d) (zeros k) ≡ p → (p < states_of d) ⊎ (states_of d ≤ p) → (r : ℕ) × Contains first r × Path (branching_as d) r w q
            by p on small is (inl inside) = (p, (are.members p).1 (inside, (k, is)), path_from_run d canonical.table w p q (run_from_lead d w p q within on))
            by p on small is (inr past) =
                let sink : p ≡ states_of d = omega arith in
                absurd (omega (arith, within, on, ap (λ r. lead d r w) sink, lead-sink d w))

    -- the sets accept what is accepted after zeros
    sets_accept : (u : List ℕ) → (option_map_or (has_accepting (branching_as d)) (key_run (set_after (branching_as d)) first u) false ≡ true) ↔ ((k : ℕ) × (accepts_of d (zeros k ++ u) ≡ true))
    sets_accept u = (forth (key_run (set_after (branching_as d)) first u) (set_after-word u), (λ found. back found (key_run (set_after (branching_as d)) first u) (set_after-word u)))
      where
        accepting_is : (q : ℕ) → branching.accepting_of (branching_as d) q ≡ accepting_of d q
        accepting_is q = ap (λ (b : Branch). b.accepting) (branch_is d q)

        forth : (o : Option (List ℕ)) → ((q : ℕ) → Contains (set_of (branching_as d) ntable o) q ↔ ((q < states_of d) × ((k : ℕ) × (lead d (first_of d) (zeros k ++ u) ≡ q))))
            → option_map_or (has_accepting (branching_as d)) o false ≡ true → (k : ℕ) × (accepts_of d (zeros k ++ u) ≡ true)
        forth None iff is = absurd (true≢false (sym is))
        forth (Some set) iff is =
            let found = contains_from_list_any (branching.accepting_of (branching_as d)) set is in
            let from = (iff found.0).0 found.1 in
            (from.1.0, accepts_of-lead d (zeros from.1.0 ++ u) ∙ ap (accepting_of d) from.1.1 ∙ sym (accepting_is found.0) ∙ found.2)

        back : (k : ℕ) × (accepts_of d (zeros k ++ u) ≡ true) → (o : Option (List ℕ)) → ((q : ℕ) → Contains (set_of (branching_as d) ntable o) q ↔ ((q < states_of d) × ((k : ℕ) × (lead d (first_of d) (zeros k ++ u) ≡ q))))
            → option_map_or (has_accepting (branching_as d)) o false ≡ true
        back found o iff =
            let q = lead d (first_of d) (zeros found.0 ++ u) in
            let accepts : accepting_of d q ≡ true = sym (accepts_of-lead d (zeros found.0 ++ u)) ∙ found.1 in
            by q accepts o ((iff q).1 (accepting_within d q accepts, (found.0, refl)))
          where
            by : (q : ℕ) → accepting_of d q ≡ true → (o : Option (List ℕ)) → Contains (set_of (branching_as d) ntable o) q → option_map_or (has_accepting (branching_as d)) o false ≡ true
            by q accepts None there = absurd (Contains-none q there)
            by q accepts (Some set) there = list_any-contains (branching.accepting_of (branching_as d)) set q there (accepting_is q ∙ accepts)

    accepts_at : (w : List ℕ) → IsWord (letters_of d) w → key_accepts (padded_after (branching_as d) first) (padded_accepts (branching_as d) first) [] w
        ≡ option_map_or (has_accepting (branching_as d)) (key_run (set_after (branching_as d)) first (without_zeros w)) false
    accepts_at w over = key_accepts-run (padded_after (branching_as d) first) (padded_accepts (branching_as d) first) w []
        ∙ ap (λ (o : Option (List ℕ)). option_map_or (padded_accepts (branching_as d) first) o false) (padded_run (branching_as d) first w)
        ∙ accepts-run (branching_as d) first ntable (without_zeros w) (IsWord-without_zeros (letters_of d) w over)

    -- the keys accept the padded words
    pub sets_accept-padded : (w : List ℕ) → IsWord (letters_of d) w → IsTrue (key_accepts (padded_after (branching_as d) first) (padded_accepts (branching_as d) first) [] w) ↔ IsPadded Msd d w
    sets_accept-padded w over = ((λ is. forth ((sets_accept (without_zeros w)).0 (sym (accepts_at w over) ∙ is))), (λ padded. accepts_at w over ∙ (sets_accept (without_zeros w)).1 (back padded)))
      where
        forth : (k : ℕ) × (accepts_of d (zeros k ++ without_zeros w) ≡ true) → IsPadded Msd d w
        forth found = (
          zeros found.0 ++ without_zeros w,
          accepted_over d (zeros found.0 ++ without_zeros w) canonical.table found.1,
          without_zeros-zeros found.0 (without_zeros w) ∙ without_zeros-twice w,
          found.1,
        )

        back : IsPadded Msd d w → (k : ℕ) × (accepts_of d (zeros k ++ without_zeros w) ≡ true)
        back padded =
            let prefix = zeros_then_rest padded.0 in
            (prefix.0, ap (accepts_of d) (ap (λ (u : List ℕ). zeros prefix.0 ++ u) (sym padded.2) ∙ sym prefix.1) ∙ padded.3)

    -- words after which the sets are one have the same residuals after zeros
    residuals_from_set : (w v : List ℕ) → IsWord (letters_of d) w → ((k : ℕ) → IsWord (letters_of d) (zeros k)) → key_run (set_after (branching_as d)) first w ≡ key_run (set_after (branching_as d)) first v → HasResidualsOf d w v
    residuals_from_set w v over zeros_over same k some = by (lead_place d canonical (zeros k ++ w) (first_of d) (first_place d canonical) (IsWord-append (letters_of d) (zeros k) w (zeros_over k) over))
      where
        by : IsPlace d (lead d (first_of d) (zeros k ++ w)) → (l : ℕ) × SameAfter d (zeros k ++ w) (zeros l ++ v)
        by (inl sink) = absurd (some (λ u inside. sym (accepts_of-first d ((zeros k ++ w) ++ u)) ∙ accepts_from-lead d (zeros k ++ w) u (first_of d) ∙ ap (λ p. accepts_from d p u) sink ∙ sink_refuses d u))
        by (inr live) =
            let there = (set_after-word w (lead d (first_of d) (zeros k ++ w))).1 (live.0, (k, refl)) in
            let found = (set_after-word v (lead d (first_of d) (zeros k ++ w))).0 (subst (λ (o : Option (List ℕ)). Contains (set_of (branching_as d) ntable o) (lead d (first_of d) (zeros k ++ w))) same there) in
            (found.1.0, SameAfter-lead d (zeros k ++ w) (zeros found.1.0 ++ v) (sym found.1.1))

    -- and where residuals after zeros are the same, so are the states of the sets
    members_from_residuals : (w v : List ℕ) → IsWord (letters_of d) w → IsWord (letters_of d) v → ((k : ℕ) → IsWord (letters_of d) (zeros k)) → HasResidualsOf d w v
        → (q : ℕ) → Contains (set_of (branching_as d) ntable (key_run (set_after (branching_as d)) first w)) q → Contains (set_of (branching_as d) ntable (key_run (set_after (branching_as d)) first v)) q
    members_from_residuals w v over there zeros_over has q inside =
        let found = (set_after-word w q).0 inside in
        let k = found.1.0 in
        let other = has k (live q found.0 k found.1.1 (lead_place d canonical (zeros k ++ w) (first_of d) (first_place d canonical) (IsWord-append (letters_of d) (zeros k) w (zeros_over k) over))) in
        let same = one_lead d canonical (zeros k ++ w) (zeros other.0 ++ v) (IsWord-append (letters_of d) (zeros k) w (zeros_over k) over) (IsWord-append (letters_of d) (zeros other.0) v (zeros_over other.0) there) other.1 in
        (set_after-word v q).1 (found.0, (other.0, sym same ∙ found.1.1))
      where
        live : (q : ℕ) → q < states_of d → (k : ℕ) → lead d (first_of d) (zeros k ++ w) ≡ q → IsPlace d (lead d (first_of d) (zeros k ++ w)) → ¬ IsEmptyAfter d (zeros k ++ w)
        live q within k is (inl sink) refused = omega (arith, within, is, sink)
        live q within k is (inr alive) refused = alive.1 (λ u inside. sym (accepts_from-lead d (zeros k ++ w) u (first_of d)) ∙ accepts_of-first d ((zeros k ++ w) ++ u) ∙ refused u inside)

    zeros_over : (a : ℕ) (u : List ℕ) → IsWord (letters_of d) (a ∷ u) → (k : ℕ) → IsWord (letters_of d) (zeros k)
    zeros_over a u over k = IsWord-zeros (letters_of d) k (omega (arith, over.0))

    -- by what is left without leading zeros
    alike_from_keys : (x y : List ℕ) → IsWord (letters_of d) x → IsWord (letters_of d) y → padded_from (branching_as d) first x ≡ padded_from (branching_as d) first y
        → ((x ≡ []) ↔ (y ≡ [])) × HasResidualsOf d x y
    alike_from_keys [] [] over there same = (((λ e. e), (λ e. e)), λ k some. (k, λ u inside. refl))
    alike_from_keys [] (b ∷ y) over there same = absurd (not_empty (branching_as d) (key_run (set_after (branching_as d)) first (b ∷ y)) (sym same) (run_is_set (branching_as d) first ntable b y there))
    alike_from_keys (a ∷ x) [] over there same = absurd (not_empty (branching_as d) (key_run (set_after (branching_as d)) first (a ∷ x)) same (run_is_set (branching_as d) first ntable a x over))
    alike_from_keys (a ∷ x) (b ∷ y) over there same =
        (((λ (e : (a ∷ x) ≡ []). cc), (λ (e : (b ∷ y) ≡ []). cc)), residuals_from_set (a ∷ x) (b ∷ y) over (zeros_over a x over) same)

    keys_from_alike : (x y : List ℕ) → IsWord (letters_of d) x → IsWord (letters_of d) y → ((x ≡ []) ↔ (y ≡ [])) → HasResidualsOf d x y → HasResidualsOf d y x
        → padded_from (branching_as d) first x ≡ padded_from (branching_as d) first y
    keys_from_alike [] [] over there iff to back = refl
    keys_from_alike [] (b ∷ y) over there iff to back = let no : (b ∷ y) ≡ [] = iff.0 refl in cc
    keys_from_alike (a ∷ x) [] over there iff to back = let no : (a ∷ x) ≡ [] = iff.1 refl in cc
    keys_from_alike (a ∷ x) (b ∷ y) over there iff to back =
        same_set (branching_as d) ntable (key_run (set_after (branching_as d)) first (a ∷ x)) (key_run (set_after (branching_as d)) first (b ∷ y))
        (run_is_set (branching_as d) first ntable a x over) (run_is_set (branching_as d) first ntable b y there)
        (λ q. (members_from_residuals (a ∷ x) (b ∷ y) over there (zeros_over a x over) to q, members_from_residuals (b ∷ y) (a ∷ x) there over (zeros_over a x over) back q))

    -- words that lead to one key are alike
    pub alike_from_sets : (w v : List ℕ) → IsWord (letters_of d) w → IsWord (letters_of d) v → LeadAlike (padded_after (branching_as d) first) [] w v → MsdPaddedAlike d w v
    alike_from_sets w v over there same =
        let keys = sym (padded_run (branching_as d) first w) ∙ same ∙ padded_run (branching_as d) first v in
        let to = alike_from_keys (without_zeros w) (without_zeros v) (IsWord-without_zeros (letters_of d) w over) (IsWord-without_zeros (letters_of d) v there) keys in
        let back = alike_from_keys (without_zeros v) (without_zeros w) (IsWord-without_zeros (letters_of d) v there) (IsWord-without_zeros (letters_of d) w over) (sym keys) in
        record { zeros = to.0; to = to.1; back = back.1 }

    -- and alike words lead to one key
    pub sets_from_alike : (w v : List ℕ) → IsWord (letters_of d) w → IsWord (letters_of d) v → MsdPaddedAlike d w v → LeadAlike (padded_after (branching_as d) first) [] w v
    sets_from_alike w v over there alike =
        padded_run (branching_as d) first w
        ∙ keys_from_alike (without_zeros w) (without_zeros v) (IsWord-without_zeros (letters_of d) w over) (IsWord-without_zeros (letters_of d) v there) alike.zeros alike.to alike.back
        ∙ sym (padded_run (branching_as d) first v)

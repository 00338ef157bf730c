-- Sets of states that words lead to.
use Rattle.std.proofs.Common.{◌≡◌, ◌==◌, ◌&&◌, ℕ, ◌<◌, Bool, true, false, List, [], ◌∷◌, map, filter, length, get_or, slice_index, Option, None, Some, MatchOption, IsTrue, ◌↔◌, ◌⊎◌, inl, inr, refl, sym, ap, ◌∙◌, subst, true≢false, eq-eqb, arith}
use Rattle.std.specs.Bool.{⊤}
use Rattle.std.specs.List.{All, AllPairs, Contains, list_any, range_with_len}
use Rattle.std.specs.Option.{option_and_then, option_map_or}
use Rattle.std.proofs.lemmas.Bool.{eqb-true}
use Rattle.std.proofs.lemmas.List.{get_or-map, length-map}
use Rattle.std.proofs.lemmas.List.Elements.{filter_passes}
use Rattle.std.proofs.lemmas.List.Kept.{AllPairs-filter}
use Rattle.std.proofs.lemmas.List.FromFn.{length-range_with_len, get_or-range_with_len}
use Rattle.digit_tuple.specs.declared.transitions.Transition.{Transition}
use Rattle.digit_tuple.specs.Automaton.{Branching, IsBranchTable, IsBefore, Leads, Path, Accepts, transitions_of, states_of, letters_of, accepting_of}
use Rattle.digit_tuple.specs.Letters.{IsWord}
use Rattle.digit_tuple.proofs.TableLemmas.{Leads-in_range}
use Rattle.digit_tuple.specs.Keys.{KeyTransition, AreKeyTransitions, key_run, key_accepts, LeadAlike}
use Rattle.digit_tuple.proofs.KeyLemmas.{key_accepts-run, key_run-keeps}
use Rattle.digit_tuple.specs.Groups.{some_set, targets_by, AreGroups}
use Rattle.determinise.specs.Subsets.{leads_to, targets_of, set_after, has_accepting, IsStateSet, Alike}
use Rattle.determinise.specs.SubsetLaws.{AllPairs-range, start_is_state_set, after_is_state_set}
use Rattle.digit_tuple.proofs.MemberLemmas.{Contains-head, Contains-cases, Contains-none, Contains-filter, Contains-from_filter, Contains-map, Contains-from_map, list_any-contains, contains_from_list_any, same_ascending}

both_true : (x y : Bool) → (x && y) ≡ true → (x ≡ true) × (y ≡ true)
both_true true y is = (refl, is)
both_true false y is = absurd (true≢false (sym is))

pub Contains-range : (n q : ℕ) → q < n → Contains (range_with_len 0 n) q
Contains-range n q within = (q, omega (arith, length-range_with_len 0 n), get_or-range_with_len 0 n q q within ∙ omega arith)

-- the targets of transitions in order by one letter are in order
AllPairs-targets : (es : List Transition) (a : ℕ) → AllPairs IsBefore es → All (λ e. e.letter ≡ a) es → AllPairs (λ p q. p < q) (map (λ e. e.target) es)
AllPairs-targets es a ascending same i j d before within =
    let z : Transition = record { letter = 0; target = 0 } in
    let size = length-map es (λ (e : Transition). e.target) in
    let one = get_or-map (λ (e : Transition). e.target) es i z d (omega arith) in
    let two = get_or-map (λ (e : Transition). e.target) es j z d (omega arith) in
    below (get_or es i z) (get_or es j z) one two (same i z (omega arith)) (same j z (omega arith)) (ascending i j z before (omega arith))
  where
    below : (e f : Transition) {x y : ℕ} → x ≡ e.target → y ≡ f.target → e.letter ≡ a → f.letter ≡ a → IsBefore e f → x < y
    below e f one two is too (inl less) = absurd (omega (arith, is, too))
    below e f one two is too (inr later) = omega (arith, one, two, later.1)

module _ (n : Branching) (table : IsBranchTable (letters_of n) n.states) where
  -- the test says whether the letter leads from the set to q
  pub leads_to-iff : (set : List ℕ) (a q : ℕ) → (leads_to n set a q ≡ true) ↔ ((p : ℕ) × Contains set p × Leads n p a q)
  leads_to-iff set a q = (forth, back)
    where
      forth : leads_to n set a q ≡ true → (p : ℕ) × Contains set p × Leads n p a q
      forth is =
          let p = contains_from_list_any (λ p. list_any (λ (transition : Transition). (transition.letter == a) && (transition.target == q)) (transitions_of n p)) set is in
          let e = contains_from_list_any (λ (transition : Transition). (transition.letter == a) && (transition.target == q)) (transitions_of n p.0) p.2 in
          let both = both_true (e.0.letter == a) (e.0.target == q) e.2 in
          let same : e.0 ≡ (let f : Transition = record { letter = a; target = q } in f) =
          ap (λ (x : ℕ). let f : Transition = record { letter = x; target = e.0.target } in f) (eqb-true e.0.letter a both.0) ∙ ap (λ (x : ℕ). let f : Transition = record { letter = a; target = x } in f) (eqb-true e.0.target q both.1) in
          (p.0, p.1, subst (Contains (transitions_of n p.0)) same e.1)

      back : (p : ℕ) × Contains set p × Leads n p a q → leads_to n set a q ≡ true
      back found = list_any-contains (λ p. list_any (λ (transition : Transition). (transition.letter == a) && (transition.target == q)) (transitions_of n p)) set found.0 found.1
          (list_any-contains (λ (transition : Transition). (transition.letter == a) && (transition.target == q)) (transitions_of n found.0) (record { letter = a; target = q }) found.2
          (ap (λ b. b && (q == q)) (eq-eqb a a refl) ∙ eq-eqb q q refl))

  -- a target is a state that the letter leads to
  pub targets_of-iff : (set : List ℕ) (a q : ℕ) → Contains (targets_of n set a) q ↔ ((p : ℕ) × Contains set p × Leads n p a q)
  targets_of-iff set a q = (
    (λ there. (leads_to-iff set a q).0 (Contains-from_filter (leads_to n set a) (range_with_len 0 (states_of n)) q there).1),
    (λ found. Contains-filter (leads_to n set a) (range_with_len 0 (states_of n)) q (Contains-range (states_of n) q (Leads-in_range n found.0 a q table found.2).1) ((leads_to-iff set a q).1 found)),
  )

  module _ (set : List ℕ) (transitions : List Transition) (ascending : AllPairs IsBefore transitions)
      (members : (transition : Transition) → Contains transitions transition ↔ ((p : ℕ) × Contains set p × Contains (transitions_of n p) transition)) where
    -- the targets of the set's transitions by a letter
    pub targets_by-set : (a : ℕ) → targets_by transitions a ≡ targets_of n set a
    targets_by-set a = same_ascending (targets_by transitions a) (targets_of n set a)
        (AllPairs-targets (filter (λ e. e.letter == a) transitions) a (AllPairs-filter IsBefore (λ (e : Transition). e.letter == a) transitions ascending)
        (λ k d within. eqb-true (get_or (filter (λ (e : Transition). e.letter == a) transitions) k d).letter a (filter_passes (λ (e : Transition). e.letter == a) transitions k d within)))
        (AllPairs-filter (λ p q. p < q) (leads_to n set a) (range_with_len 0 (states_of n)) (AllPairs-range (states_of n))) forth back
      where
        forth : (q : ℕ) → Contains (targets_by transitions a) q → Contains (targets_of n set a) q
        forth q there =
            let found = Contains-from_map (λ (e : Transition). e.target) (filter (λ (e : Transition). e.letter == a) transitions) q there in
            let both = Contains-from_filter (λ (e : Transition). e.letter == a) transitions found.0 found.1 in
            let from = (members found.0).0 both.0 in
            let same : found.0 ≡ (let f : Transition = record { letter = a; target = q } in f) =
            ap (λ (x : ℕ). let f : Transition = record { letter = x; target = found.0.target } in f) (eqb-true found.0.letter a both.1) ∙ ap (λ (x : ℕ). let f : Transition = record { letter = a; target = x } in f) found.2 in
            (targets_of-iff set a q).1 (from.0, from.1, subst (Contains (transitions_of n from.0)) same from.2)

        back : (q : ℕ) → Contains (targets_of n set a) q → Contains (targets_by transitions a) q
        back q there =
            let found = (targets_of-iff set a q).0 there in
            let transition : Transition = record { letter = a; target = q } in
            Contains-map (λ (e : Transition). e.target) (filter (λ (e : Transition). e.letter == a) transitions) transition
            (Contains-filter (λ (e : Transition). e.letter == a) transitions transition ((members transition).1 (found.0, found.1, found.2)) (eq-eqb a a refl))

    -- the groups of the set's transitions are the transitions from the set
    pub AreKeyTransitions-groups : (key_transitions : List KeyTransition) → AreGroups transitions key_transitions → AreKeyTransitions (letters_of n) (set_after n set) key_transitions
    AreKeyTransitions-groups key_transitions groups = record {
      in_range = λ k d within. let one = groups.letters k d within in
          let from = (members one.0).0 one.1 in
          omega (arith, (Leads-in_range n from.0 one.0.letter one.0.target table from.2).0, one.2);
      ascending = groups.ascending;
      lead = λ a small. groups.keys a ∙ ap some_set (targets_by-set a);
    }

  -- the transitions of a set of one state
  pub AreKeyTransitions-one : (set : List ℕ) (transitions : List Transition) (key_transitions : List KeyTransition) → length set ≡ 1 → transitions ≡ transitions_of n (slice_index set 0) → AllPairs IsBefore transitions → AreGroups transitions key_transitions → AreKeyTransitions (letters_of n) (set_after n set) key_transitions
  AreKeyTransitions-one [] transitions key_transitions one are ascending groups = absurd (omega arith)
  AreKeyTransitions-one (q ∷ r ∷ set) transitions key_transitions one are ascending groups = absurd (omega arith)
  AreKeyTransitions-one (q ∷ []) transitions key_transitions one are ascending groups =
      AreKeyTransitions-groups (q ∷ []) (transitions_of n q) (subst (AllPairs IsBefore) are ascending) members key_transitions (subst (λ es. AreGroups es key_transitions) are groups)
    where
      members : (transition : Transition) → Contains (transitions_of n q) transition ↔ ((p : ℕ) × Contains (q ∷ []) p × Contains (transitions_of n p) transition)
      members transition = ((λ there. (q, Contains-head q [], there)), (λ found. only found.0 found.2 (Contains-cases q [] found.0 found.1)))
        where
          only : (p : ℕ) → Contains (transitions_of n p) transition → (q ≡ p) ⊎ Contains [] p → Contains (transitions_of n q) transition
          only p there (inl same) = subst (λ r. Contains (transitions_of n r) transition) (sym same) there
          only p there (inr none) = absurd (Contains-none p none)

  -- the states of the set that a word leads to, where no set is the empty one
  abbrev pub set_of : Option (List ℕ) → List ℕ
  set_of None = []
  set_of (Some set) = set

  -- are those that a path by the word leads to
  pub key_run-members : (w set : List ℕ) (q : ℕ) → Contains (set_of (key_run (set_after n) set w)) q ↔ ((p : ℕ) × Contains set p × Path n p w q)
  key_run-members [] set q = ((λ there. (q, there, refl)), (λ found. subst (Contains set) found.2 found.1))
  key_run-members (a ∷ w) set q = by (targets_of n set a) (λ r. targets_of-iff set a r) (λ next. key_run-members w next q)
    where
      by : (ts : List ℕ) → ((r : ℕ) → Contains ts r ↔ ((p : ℕ) × Contains set p × Leads n p a r)) → ((next : List ℕ) → Contains (set_of (key_run (set_after n) next w)) q ↔ ((p : ℕ) × Contains next p × Path n p w q))
          → Contains (set_of (option_and_then (λ next. key_run (set_after n) next w) (some_set ts))) q ↔ ((p : ℕ) × Contains set p × ((r : ℕ) × Leads n p a r × Path n r w q))
      by [] iff rest = ((λ there. absurd (Contains-none q there)), (λ found. absurd (Contains-none found.2.0 ((iff found.2.0).1 (found.0, found.1, found.2.1)))))
      by (t ∷ ts) iff rest = (
        (λ there. let next = (rest (t ∷ ts)).0 there in let from = (iff next.0).0 next.1 in (from.0, from.1, (next.0, from.2, next.2))),
        (λ found. (rest (t ∷ ts)).1 (found.2.0, (iff found.2.0).1 (found.0, found.1, found.2.1), found.2.2)),
      )

  -- from the initial state
  pub key_run-start : (w : List ℕ) (q : ℕ) → Contains (set_of (key_run (set_after n) (0 ∷ []) w)) q ↔ Path n 0 w q
  key_run-start w q = (
    (λ there. let found = (key_run-members w (0 ∷ []) q).0 there in only found.0 found.2 (Contains-cases 0 [] found.0 found.1)),
    (λ path. (key_run-members w (0 ∷ []) q).1 (0, Contains-head 0 [], path)),
  )
    where
      only : (p : ℕ) → Path n p w q → (0 ≡ p) ⊎ Contains [] p → Path n 0 w q
      only p path (inl same) = subst (λ r. Path n r w q) (sym same) path
      only p path (inr none) = absurd (Contains-none p none)

  -- the sets accept what the automaton does
  pub key_accepts-start : (w : List ℕ) → IsTrue (key_accepts (set_after n) (has_accepting n) (0 ∷ []) w) ↔ Accepts n w
  key_accepts-start w = (
    (λ is. forth (key_run (set_after n) (0 ∷ []) w) (key_run-start w) (sym (key_accepts-run (set_after n) (has_accepting n) w (0 ∷ [])) ∙ is)),
    (λ accepts. key_accepts-run (set_after n) (has_accepting n) w (0 ∷ []) ∙ back accepts (key_run (set_after n) (0 ∷ []) w) (key_run-start w)),
  )
    where
      forth : (o : Option (List ℕ)) → ((q : ℕ) → Contains (set_of o) q ↔ Path n 0 w q) → option_map_or (has_accepting n) o false ≡ true → Accepts n w
      forth None iff is = absurd (true≢false (sym is))
      forth (Some set) iff is = let found = contains_from_list_any (accepting_of n) set is in (found.0, (iff found.0).0 found.1, found.2)

      back : Accepts n w → (o : Option (List ℕ)) → ((q : ℕ) → Contains (set_of o) q ↔ Path n 0 w q) → option_map_or (has_accepting n) o false ≡ true
      back accepts None iff = absurd (Contains-none accepts.0 ((iff accepts.0).1 accepts.1))
      back accepts (Some set) iff = list_any-contains (accepting_of n) set accepts.0 ((iff accepts.0).1 accepts.1) accepts.2

  -- words lead to the same set where they lead to the same states
  pub Alike-lead : (w v : List ℕ) → LeadAlike (set_after n) (0 ∷ []) w v → Alike n w v
  Alike-lead w v same q = (
    (λ path. (key_run-start v q).0 (subst (λ o. Contains (set_of o) q) same ((key_run-start w q).1 path))),
    (λ path. (key_run-start w q).0 (subst (λ o. Contains (set_of o) q) (sym same) ((key_run-start v q).1 path))),
  )

  -- no two sets have the same states
  pub same_set : (o r : Option (List ℕ)) → MatchOption o ⊤ (IsStateSet n) → MatchOption r ⊤ (IsStateSet n) → ((q : ℕ) → Contains (set_of o) q ↔ Contains (set_of r) q) → o ≡ r
  same_set o r one two iff = by o r one two iff
    where
      member : (set : List ℕ) → 0 < length set → (q : ℕ) × Contains set q
      member [] some = absurd (omega arith)
      member (q ∷ qs) some = (q, Contains-head q qs)

      by : (o r : Option (List ℕ)) → MatchOption o ⊤ (IsStateSet n) → MatchOption r ⊤ (IsStateSet n) → ((q : ℕ) → Contains (set_of o) q ↔ Contains (set_of r) q) → o ≡ r
      by None None one two iff = refl
      by None (Some t) one two iff = let q = member t two.some in absurd (Contains-none q.0 ((iff q.0).1 q.1))
      by (Some s) None one two iff = let q = member s one.some in absurd (Contains-none q.0 ((iff q.0).0 q.1))
      by (Some s) (Some t) one two iff = ap Some (same_ascending s t one.ascending two.ascending (λ q there. (iff q).0 there) (λ q there. (iff q).1 there))

  -- words lead from a set of states to sets of states
  pub key_run-set : (first : List ℕ) → IsStateSet n first → (w : List ℕ) → IsWord (letters_of n) w → MatchOption (key_run (set_after n) first w) ⊤ (IsStateSet n)
  key_run-set first is w over = key_run-keeps (IsStateSet n) (letters_of n) (set_after n) (λ key a holds small. after_is_state_set n key a) w first over is

  pub LeadAlike-states : (w v : List ℕ) → IsWord (letters_of n) w → IsWord (letters_of n) v → Alike n w v → LeadAlike (set_after n) (0 ∷ []) w v
  LeadAlike-states w v over too alike =
      same_set (key_run (set_after n) (0 ∷ []) w) (key_run (set_after n) (0 ∷ []) v) (key_run-set (0 ∷ []) (start_is_state_set n table) w over) (key_run-set (0 ∷ []) (start_is_state_set n table) v too)
      (λ q. ((λ there. (key_run-start v q).1 ((alike q).0 ((key_run-start w q).0 there))), (λ there. (key_run-start w q).1 ((alike q).1 ((key_run-start v q).0 there)))))

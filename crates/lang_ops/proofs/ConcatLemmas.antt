-- Concatenations: where words lead in the table, and the residuals that they have.
use Rattle.std.proofs.Common.{◌≡◌, ◌↔◌, ◌⊎◌, inl, inr, ℕ, ◌+◌, ◌-◌, ◌<◌, ◌≤◌, true, false, List, [], ◌∷◌, ◌++◌, map, Option, None, Some, IsTrue, refl, sym, ap, ◌∙◌, subst, true≢false, arith}
use Rattle.std.specs.List.{Contains}
use Rattle.std.specs.Option.{option_map_or}
use Rattle.std.proofs.lemmas.Bool.{cases_lt}
use Rattle.std.proofs.lemmas.Option.{none-some, same_Some}
use Rattle.digit_tuple.specs.Automaton as branching
use Rattle.digit_tuple.specs.Automaton.{Branching, Path}
use Rattle.digit_tuple.specs.Deterministic.{Automaton, accepting_of, accepts_of, letters_of, run_of, states_of}
use Rattle.digit_tuple.specs.Keys.{LeadAlike, key_accepts, key_run}
use Rattle.digit_tuple.specs.Letters.{IsWord, product}
use Rattle.digit_tuple.specs.Width.{HasApart, HasWidth}
use Rattle.digit_tuple.proofs.KeyLemmas.{key_accepts-run}
use Rattle.digit_tuple.proofs.MemberLemmas.{Contains-none, contains_from_list_any, list_any-contains}
use Rattle.digit_tuple.proofs.PathLemmas.{Path-append}
use Rattle.digit_tuple.proofs.WidthLemmas.{HasApart-same, HasWidth-same}
use Rattle.digit_tuple.proofs.WordLemmas.{IsWord-append, IsWord-back, IsWord-prefix}
use Rattle.determinise.specs.Subsets.{has_accepting, set_after}
use Rattle.determinise.proofs.SubsetLemmas.{key_run-members, key_run-set, same_set, set_of}
use Rattle.minimise.specs.Canonical.{IsCanonical}
use Rattle.minimise.specs.Residuals.{IsDead, SameAfter}
use Rattle.minimise.proofs.RunLemmas.{run_within}
use Rattle.lang_ops.specs.Concatenation.{ConcatAlike, IsConcatenated}
use Rattle.lang_ops.specs.ConcatTables.{AreConcatStarts, IsConcatLink, IsConcatTable}
use Rattle.lang_ops.specs.Rests.{HaveRests, IsRest}
use Rattle.lang_ops.specs.ShiftedRows.{shifted_state}
use Rattle.lang_ops.proofs.LinkedPaths.{IsCut, LeadsLinked, cut_from_path, path_from_accepted, path_from_run}
use Rattle.lang_ops.proofs.RestLemmas.{SameAfter-none, SameAfter-run, accepted_from_run, live_from_accepted, live_run, run_from_accepted, run_from_residual, same_run, some_after}
use Rattle.lang_ops.proofs.ShiftedPaths.{LeadsShifted, run_from_shifted, shifted_path}
use Rattle.lang_ops.proofs.TableLeads.{LeadsLinked-prefix, LeadsShifted-back, accepting_of-back, accepting_of-prefix, back_branch}

-- where the first language is empty
module _ (a b : Automaton) (dead : IsDead a 0) where
  pub none_concatenated : (w : List ℕ) → IsWord (letters_of a) w → ¬ IsConcatenated a b w
  none_concatenated w over found = true≢false (sym found.3 ∙ dead found.0 (IsWord-prefix (letters_of a) found.0 found.1 (subst (IsWord (letters_of a)) found.2 over)))

  no_rests : (w v : List ℕ) → IsWord (letters_of a) w → HaveRests b (λ u. IsTrue (accepts_of a u)) w v
  no_rests w v over x rest some = absurd (true≢false (sym rest.2 ∙ dead rest.0 (IsWord-prefix (letters_of a) rest.0 x (subst (IsWord (letters_of a)) rest.1 over))))

  pub ConcatAlike-dead : (w v : List ℕ) → IsWord (letters_of a) w → IsWord (letters_of a) v → ConcatAlike a b w v
  ConcatAlike-dead w v over there = record {
    first = λ u more. dead (w ++ u) (IsWord-append (letters_of a) w u over more) ∙ sym (dead (v ++ u) (IsWord-append (letters_of a) v u there more));
    second = record { forth = no_rests w v over; back = no_rests v w there };
  }

module _ (a b : Automaton) (one : IsCanonical a) (two : IsCanonical b) (same : b.sizes ≡ a.sizes) (live : ¬ IsDead a 0) (link : Option ℕ) (linked : IsConcatLink a b link)
    (n : Branching) (is : IsConcatTable a b link n) (first : List ℕ) (starts : AreConcatStarts a link n first) where
  abbrev Set : List ℕ → List ℕ
  Set w = set_of n is.table (key_run (set_after n) first w)

  abbrev Accepted : List ℕ → Type 0
  Accepted u = IsTrue (accepts_of a u)

  prefix : LeadsLinked a link n
  prefix = LeadsLinked-prefix a one.table link false is.prefix (map (shifted_state (states_of a)) b.states) is.rows n is.states

  back : LeadsShifted b (states_of a) n
  back = LeadsShifted-back b two.table (states_of a) n (back_branch a one.table link false is.prefix (map (shifted_state (states_of a)) b.states) is.rows n is.states)

  -- the link is the state after those of the first automaton
  link_is : (l : ℕ) → link ≡ Some l → (l ≡ states_of a) × ¬ IsDead b 0
  link_is l some = by link linked some
    where
      by : (o : Option ℕ) → IsConcatLink a b o → o ≡ Some l → (l ≡ states_of a) × ¬ IsDead b 0
      by None dead none = absurd (none-some _ none)
      by (Some s) found to = subst (λ k. (k ≡ states_of a) × ¬ IsDead b 0) (same_Some s l to) found

  link_there : ¬ IsDead b 0 → link ≡ Some (states_of a)
  link_there alive = by link linked
    where
      by : (o : Option ℕ) → IsConcatLink a b o → o ≡ Some (states_of a)
      by None dead = absurd (alive dead)
      by (Some s) found = ap Some found.0

  -- paths from the link are runs of the second automaton
  from_link : (l : ℕ) → link ≡ Some l → (w : List ℕ) (q : ℕ) → Path n l w q → (r : ℕ) × (q ≡ r + states_of a) × (run_of b 0 w ≡ Some r)
  from_link l to w q path =
      let at : l ≡ 0 + states_of a = let here = (link_is l to).0 in omega (arith, here) in
      run_from_shifted b two.table (states_of a) n back w 0 q two.table.initial (subst (λ k. Path n k w q) at path)

  to_link : (w : List ℕ) (r : ℕ) → run_of b 0 w ≡ Some r → Path n (states_of a) w (r + states_of a)
  to_link w r leads =
      let at : 0 + states_of a ≡ states_of a = omega arith in
      subst (λ k. Path n k w (r + states_of a)) at (shifted_path b two.table (states_of a) n back w 0 r two.table.initial leads)

  -- after a word of the first language the second automaton is led to the state
  abbrev IsAfter : List ℕ → ℕ → Type 0
  IsAfter w r = (x : List ℕ) × IsRest Accepted w x × (run_of b 0 x ≡ Some r)

  first_members : (w : List ℕ) (q : ℕ) → q < states_of a → Contains (Set w) q → run_of a 0 w ≡ Some q
  first_members w q low there = let found = (key_run-members n is.table w first q).0 there in by found.0 found.2 ((starts.members found.0).0 found.1)
    where
      past : (l : ℕ) → link ≡ Some l → (v : List ℕ) → Path n l v q → run_of a 0 w ≡ Some q
      past l to v path = let found = from_link l to v q path in absurd (omega (arith, low, found.1))

      through : (run_of a 0 w ≡ Some q) ⊎ IsCut a one.table link n prefix 0 w q → run_of a 0 w ≡ Some q
      through (inl run) = run
      through (inr cut) = past cut.state cut.to cut.rest cut.path

      by : (p : ℕ) → Path n p w q → (p ≡ 0) ⊎ ((accepting_of a 0 ≡ true) × (link ≡ Some p)) → run_of a 0 w ≡ Some q
      by p path (inl zero) = through (cut_from_path a one.table link n prefix w 0 q one.table.initial (subst (λ k. Path n k w q) zero path))
      by p path (inr to) = past p to.1 w path

  first_there : (w : List ℕ) (q : ℕ) → run_of a 0 w ≡ Some q → Contains (Set w) q
  first_there w q leads = (key_run-members n is.table w first q).1 (0, (starts.members 0).1 (inl refl), path_from_run a one.table link n prefix w 0 q one.table.initial leads)

  second_members : (w : List ℕ) (r : ℕ) → Contains (Set w) (r + states_of a) → (¬ IsDead b 0) × IsAfter w r
  second_members w r there = let found = (key_run-members n is.table w first (r + states_of a)).0 there in by found.0 found.2 ((starts.members found.0).0 found.1)
    where
      after_prefix : (l : ℕ) → link ≡ Some l → (u v : List ℕ) → w ≡ u ++ v → accepts_of a u ≡ true → Path n l v (r + states_of a) → (¬ IsDead b 0) × IsAfter w r
      after_prefix l to u v cut accepts path =
          let found = from_link l to v (r + states_of a) path in
          let at : found.0 ≡ r = omega (arith, found.1) in
          ((link_is l to).1, (v, (u, cut, accepts), found.2 ∙ ap Some at))

      through : (run_of a 0 w ≡ Some (r + states_of a)) ⊎ IsCut a one.table link n prefix 0 w (r + states_of a) → (¬ IsDead b 0) × IsAfter w r
      through (inl run) = let low = run_within a w 0 (r + states_of a) one.table one.table.initial run in absurd (omega (arith, low))
      through (inr cut) = after_prefix cut.state cut.to cut.prefix cut.rest cut.is cut.accepted cut.path

      by : (p : ℕ) → Path n p w (r + states_of a) → (p ≡ 0) ⊎ ((accepting_of a 0 ≡ true) × (link ≡ Some p)) → (¬ IsDead b 0) × IsAfter w r
      by p path (inl zero) = through (cut_from_path a one.table link n prefix w 0 (r + states_of a) one.table.initial (subst (λ k. Path n k w (r + states_of a)) zero path))
      by p path (inr to) = after_prefix p to.1 [] w refl to.0 path

  second_there : (w : List ℕ) (r : ℕ) → ¬ IsDead b 0 → IsAfter w r → Contains (Set w) (r + states_of a)
  second_there w r alive found = by found.1.0 found.1.1 found.1.2
    where
      by : (u : List ℕ) → w ≡ u ++ found.0 → Accepted u → Contains (Set w) (r + states_of a)
      by [] cut accepts = (key_run-members n is.table w first (r + states_of a)).1
          (states_of a, (starts.members (states_of a)).1 (inr (accepts, link_there alive)), subst (λ v. Path n (states_of a) v (r + states_of a)) (sym cut) (to_link found.0 r found.2))
      by (c ∷ u) cut accepts = (key_run-members n is.table w first (r + states_of a)).1 (
        0,
        (starts.members 0).1 (inl refl),
        subst (λ v. Path n 0 v (r + states_of a)) (sym cut)
            (Path-append n (c ∷ u) found.0 0 (states_of a) (r + states_of a) (path_from_accepted a one.table link n prefix u c 0 (states_of a) one.table.initial (link_there alive) accepts) (to_link found.0 r found.2)),
      )

  -- a state of the first automaton, or one of the second
  split : (q : ℕ) → (q < states_of a) ⊎ ((r : ℕ) × (q ≡ r + states_of a))
  split q = by (cases_lt q (states_of a))
    where
      by : (q < states_of a) ⊎ (states_of a ≤ q) → (q < states_of a) ⊎ ((r : ℕ) × (q ≡ r + states_of a))
      by (inl low) = inl low
      by (inr past) = inr (q - states_of a, omega (arith, past))

  over_b : (w x : List ℕ) → IsWord (letters_of a) w → IsRest Accepted w x → IsWord (letters_of b) x
  over_b w x over rest = subst (λ (ss : List ℕ). IsWord (product ss) x) (sym same) (IsWord-back (letters_of a) rest.0 x (subst (IsWord (letters_of a)) rest.1 over))

  -- the sets accept what is joined of both languages
  pub key_accepts-concat : (w : List ℕ) → IsWord (letters_of a) w → IsTrue (key_accepts (set_after n) (has_accepting n) first w) ↔ IsConcatenated a b w
  key_accepts-concat w over = (
    (λ accepts. forth (key_run (set_after n) first w) refl (sym (key_accepts-run (set_after n) (has_accepting n) w first) ∙ accepts)),
    (λ found. key_accepts-run (set_after n) (has_accepting n) w first ∙ back_to found (key_run (set_after n) first w) refl),
  )
    where
      accepted : (q : ℕ) → Contains (Set w) q → branching.accepting_of n q ≡ true → IsConcatenated a b w
      accepted q there accepts = by (split q)
        where
          by : (q < states_of a) ⊎ ((r : ℕ) × (q ≡ r + states_of a)) → IsConcatenated a b w
          by (inl low) = absurd (true≢false (sym accepts ∙ accepting_of-prefix a one.table link false is.prefix (map (shifted_state (states_of a)) b.states) is.rows n is.states q low))
          by (inr (r, at)) =
              let found = second_members w r (subst (Contains (Set w)) at there) in
              let low = run_within b found.1.0 0 r two.table two.table.initial found.1.2 in
              let last : accepting_of b r ≡ true =
              sym (accepting_of-back b two.table (states_of a) n (back_branch a one.table link false is.prefix (map (shifted_state (states_of a)) b.states) is.rows n is.states) r low) ∙ ap (branching.accepting_of n) (sym at) ∙ accepts in
              (found.1.1.0, found.1.0, found.1.1.1, found.1.1.2, accepted_from_run b found.1.0 r found.1.2 last)

      forth : (o : Option (List ℕ)) → key_run (set_after n) first w ≡ o → option_map_or (has_accepting n) o false ≡ true → IsConcatenated a b w
      forth None leads none = absurd (true≢false (sym none))
      forth (Some set) leads some =
          let found = contains_from_list_any (branching.accepting_of n) set some in
          accepted found.0 (subst (λ (o : Option (List ℕ)). Contains (set_of n is.table o) found.0) (sym leads) found.1) found.2

      member : IsConcatenated a b w → (q : ℕ) × Contains (Set w) q × (branching.accepting_of n q ≡ true)
      member found =
          let run = run_from_accepted b found.1 found.4 in
          let alive : ¬ IsDead b 0 = live_from_accepted b found.1 (over_b w found.1 over (found.0, found.2, found.3)) found.4 in
          let low = run_within b found.1 0 run.0 two.table two.table.initial run.1 in (
            run.0 + states_of a,
            second_there w run.0 alive (found.1, (found.0, found.2, found.3), run.1),
            accepting_of-back b two.table (states_of a) n (back_branch a one.table link false is.prefix (map (shifted_state (states_of a)) b.states) is.rows n is.states) run.0 low ∙ run.2,
          )

      back_to : IsConcatenated a b w → (o : Option (List ℕ)) → key_run (set_after n) first w ≡ o → option_map_or (has_accepting n) o false ≡ true
      back_to found None leads = let m = member found in absurd (Contains-none m.0 (subst (λ (o : Option (List ℕ)). Contains (set_of n is.table o) m.0) leads m.1))
      back_to found (Some set) leads = let m = member found in
          list_any-contains (branching.accepting_of n) set m.0 (subst (λ (o : Option (List ℕ)). Contains (set_of n is.table o) m.0) leads m.1) m.2

  -- words that lead to one set have the same residuals
  rests_from_sets : (w v : List ℕ) → IsWord (letters_of a) w → ((q : ℕ) → Contains (Set w) q → Contains (Set v) q) → HaveRests b Accepted w v
  rests_from_sets w v over within x rest some =
      let run = run_from_residual b x some in
      let alive : ¬ IsDead b 0 = λ dead. some (λ u more. dead (x ++ u) (IsWord-append (letters_of b) x u (over_b w x over rest) more)) in
      let found = (second_members v run.0 (within (run.0 + states_of a) (second_there w run.0 alive (x, rest, run.1)))).1 in
      (found.0, found.1, SameAfter-run b x found.0 run.0 run.1 found.2)

  ConcatAlike-lead : (w v : List ℕ) → IsWord (letters_of a) w → IsWord (letters_of a) v → LeadAlike (set_after n) first w v → ConcatAlike a b w v
  ConcatAlike-lead w v over there alike = record {
    first = by (run_of a 0 w) (run_of a 0 v) refl refl;
    second = record { forth = rests_from_sets w v over to; back = rests_from_sets v w there from };
  }
    where
      to : (q : ℕ) → Contains (Set w) q → Contains (Set v) q
      to q inside = subst (λ (o : Option (List ℕ)). Contains (set_of n is.table o) q) alike inside

      from : (q : ℕ) → Contains (Set v) q → Contains (Set w) q
      from q inside = subst (λ (o : Option (List ℕ)). Contains (set_of n is.table o) q) (sym alike) inside

      low : (x : List ℕ) (q : ℕ) → run_of a 0 x ≡ Some q → q < states_of a
      low x q leads = run_within a x 0 q one.table one.table.initial leads

      by : (o p : Option ℕ) → run_of a 0 w ≡ o → run_of a 0 v ≡ p → SameAfter a w v
      by None None leads other = SameAfter-none a w v leads other
      by None (Some q) leads other = SameAfter-run a w v q (first_members w q (low v q other) (from q (first_there v q other))) other
      by (Some q) p leads other = SameAfter-run a w v q leads (first_members v q (low w q leads) (to q (first_there w q leads)))

  -- words with the same residuals lead to one set
  sets_from_rests : (w v : List ℕ) → IsWord (letters_of a) w → SameAfter a w v → HaveRests b Accepted w v → (q : ℕ) → Contains (Set w) q → Contains (Set v) q
  sets_from_rests w v over after have q there = by (split q)
    where
      by : (q < states_of a) ⊎ ((r : ℕ) × (q ≡ r + states_of a)) → Contains (Set v) q
      by (inl low) =
          let leads = first_members w q low there in
          first_there v q (same_run a one w v q (live_run a one w q live over leads) leads after)
      by (inr (r, at)) =
          let found = second_members w r (subst (Contains (Set w)) at there) in
          let x = found.1.0 in
          let alive = live_run b two x r found.0 (over_b w x over found.1.1) found.1.2 in
          let other = have x found.1.1 (some_after b x r alive found.1.2) in
          subst (Contains (Set v)) (sym at) (second_there v r found.0 (other.0, other.1, same_run b two x other.0 r alive found.1.2 other.2))

  over_n : (w : List ℕ) → IsWord (letters_of a) w → IsWord (branching.letters_of n) w
  over_n w over = subst (λ (ss : List ℕ). IsWord (product ss) w) (sym is.sizes) over

  LeadAlike-concat : (w v : List ℕ) → IsWord (letters_of a) w → IsWord (letters_of a) v → ConcatAlike a b w v → LeadAlike (set_after n) first w v
  LeadAlike-concat w v over there alike =
      same_set n is.table (key_run (set_after n) first w) (key_run (set_after n) first v)
      (key_run-set n is.table first starts.set w (over_n w over)) (key_run-set n is.table first starts.set v (over_n v there))
      (λ q. (
        sets_from_rests w v over alike.first alike.second.forth q,
        sets_from_rests v w there (λ u more. sym (alike.first u more)) alike.second.back q,
      ))

  pub concat_width : (k : ℕ) → HasWidth (LeadAlike (set_after n) first) (letters_of a) k → HasWidth (ConcatAlike a b) (letters_of a) k
  concat_width k = HasWidth-same (LeadAlike (set_after n) first) (ConcatAlike a b) (letters_of a) k ConcatAlike-lead LeadAlike-concat

  pub concat_apart : (k : ℕ) → HasApart (LeadAlike (set_after n) first) (letters_of a) k → HasApart (ConcatAlike a b) (letters_of a) k
  concat_apart k = HasApart-same (LeadAlike (set_after n) first) (ConcatAlike a b) (letters_of a) k LeadAlike-concat

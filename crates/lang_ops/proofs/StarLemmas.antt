-- Stars: where words lead in the tables, and the residuals that they have.
use Rattle.std.proofs.Common.{◌≡◌, ◌≢◌, ◌↔◌, ◌⊎◌, inl, inr, ℕ, zero, suc, ◌+◌, ◌<◌, true, false, List, [], ◌∷◌, ◌++◌, length, Option, None, Some, IsTrue, refl, sym, ap, ◌∙◌, subst, true≢false, arith}
use Rattle.std.specs.List.{AllByRecursion, Contains, concat}
use Rattle.std.specs.Option.{option_map_or}
use Rattle.std.proofs.lemmas.List.{append_assoc, append-nil}
use Rattle.std.proofs.lemmas.List.Folds.{concat-append}
use Rattle.std.proofs.lemmas.Option.{same_Some}
use Rattle.digit_tuple.specs.Automaton as branching
use Rattle.digit_tuple.specs.Automaton.{Branch, Branching, Path}
use Rattle.digit_tuple.specs.Deterministic.{Automaton, accepting_of, accepts_of, letters_of, run_of, states_of}
use Rattle.digit_tuple.specs.Keys.{LeadAlike, key_accepts, key_run}
use Rattle.digit_tuple.specs.Letters.{IsWord, product}
use Rattle.digit_tuple.proofs.KeyLemmas.{key_accepts-run}
use Rattle.digit_tuple.proofs.MemberLemmas.{Contains-none, contains_from_list_any, list_any-contains}
use Rattle.digit_tuple.proofs.PathLemmas.{Path-append}
use Rattle.digit_tuple.proofs.WordLemmas.{IsWord-back}
use Rattle.determinise.specs.Subsets.{IsStateSet, has_accepting, set_after}
use Rattle.determinise.proofs.SubsetLemmas.{key_run-set, same_set, set_of}
use Rattle.minimise.specs.Canonical.{IsCanonical}
use Rattle.minimise.specs.Residuals.{IsDead}
use Rattle.minimise.proofs.RunLemmas.{run_within}
use Rattle.lang_ops.specs.Rests.{HaveRests, IsRest}
use Rattle.lang_ops.specs.Star.{IsStarred, StarAlike}
use Rattle.lang_ops.specs.StarTables.{IsStarTable}
use Rattle.lang_ops.proofs.LinkedPaths.{IsCut, LeadsLinked, cut_from_path, path_from_accepted, path_from_run}
use Rattle.lang_ops.proofs.RestLemmas.{SameAfter-run, accepted_from_run, live_letter, run_from_accepted, run_from_residual, same_run, some_after}
use Rattle.lang_ops.proofs.TableLeads.{LeadsLinked-prefix, accepting_of-prefix}

module _ (a : Automaton) where
  abbrev Accepted : List ℕ → Type 0
  Accepted u = IsTrue (accepts_of a u)

  all_push : (pieces : List (List ℕ)) (z : List ℕ) → AllByRecursion Accepted pieces → Accepted z → AllByRecursion Accepted (pieces ++ z ∷ [])
  all_push [] z all accepts = (accepts, tt)
  all_push (piece ∷ pieces) z all accepts = (all.0, all_push pieces z all.1 accepts)

  -- one more piece
  pub starred_more : (w z : List ℕ) → IsRest (IsStarred a) w z → Accepted z → IsStarred a w
  starred_more w z rest accepts =
      let pieces = rest.2.0 in (
        pieces ++ z ∷ [],
        rest.1 ∙ ap (λ u. u ++ z) rest.2.1 ∙ ap (λ v. concat pieces ++ v) (sym (append-nil z)) ∙ sym (concat-append pieces (z ∷ [])),
        all_push pieces z rest.2.2 accepts,
      )

  -- a word of a piece or more ends with a piece
  last_of : (piece : List ℕ) (pieces : List (List ℕ)) → AllByRecursion Accepted (piece ∷ pieces) → (z : List ℕ) × IsRest (IsStarred a) (concat (piece ∷ pieces)) z × Accepted z
  last_of piece [] all = (piece, ([], append-nil piece, ([], refl, tt)), all.0)
  last_of piece (next ∷ pieces) all =
      let last = last_of next pieces all.1 in
      let rest = last.1 in (
        last.0,
        (piece ++ rest.0, ap (λ v. piece ++ v) rest.1 ∙ sym (append_assoc piece rest.0 last.0), (piece ∷ rest.2.0, ap (λ v. piece ++ v) rest.2.1, (all.0, rest.2.2))),
        last.2,
      )

  pub last_piece : (w : List ℕ) → IsStarred a w → (w ≡ []) ⊎ ((z : List ℕ) × IsRest (IsStarred a) w z × Accepted z)
  last_piece w starred = by starred.0 starred.1 starred.2
    where
      by : (pieces : List (List ℕ)) → w ≡ concat pieces → AllByRecursion Accepted pieces → (w ≡ []) ⊎ ((z : List ℕ) × IsRest (IsStarred a) w z × Accepted z)
      by [] is all = inl is
      by (piece ∷ pieces) is all = inr (subst (λ v. (z : List ℕ) × IsRest (IsStarred a) v z × Accepted z) (sym is) (last_of piece pieces all))

  -- the empty word is joined of no piece
  pub starred_empty : IsStarred a []
  starred_empty = ([], refl, tt)

module _ (a : Automaton) (canonical : IsCanonical a) (more : List Branch) (n : Branching) (is : IsStarTable a more n) where
  pub leads : LeadsLinked a (Some 0) n
  leads = LeadsLinked-prefix a canonical.table (Some 0) true is.prefix more is.rows n is.states

  -- where a path leads from the initial state, the rest of the word after some pieces leads
  rest_below : (k : ℕ) (w : List ℕ) (q : ℕ) → length w < k → Path n 0 w q → (z : List ℕ) × IsRest (IsStarred a) w z × (run_of a 0 z ≡ Some q)
  rest_below zero w q short path = absurd (omega (arith, short))
  rest_below (suc k) w q short path = by (cut_from_path a canonical.table (Some 0) n leads w 0 q canonical.table.initial path) (λ v low. rest_below k v q low)
    where
      by : (run_of a 0 w ≡ Some q) ⊎ IsCut a canonical.table (Some 0) n leads 0 w q → ((v : List ℕ) → length v < k → Path n 0 v q → (z : List ℕ) × IsRest (IsStarred a) v z × (run_of a 0 z ≡ Some q))
          → (z : List ℕ) × IsRest (IsStarred a) w z × (run_of a 0 z ≡ Some q)
      by (inl run) below = (w, ([], refl, starred_empty a), run)
      by (inr cut) below =
          let start : cut.state ≡ 0 = sym (same_Some 0 cut.state cut.to) in
          let found = below cut.rest (omega (arith, cut.shorter, short)) (subst (λ p. Path n p cut.rest q) start cut.path) in
          let rest = found.1 in (
            found.0,
            (cut.prefix ++ rest.0, cut.is ∙ ap (λ v. cut.prefix ++ v) rest.1 ∙ sym (append_assoc cut.prefix rest.0 found.0), (cut.prefix ∷ rest.2.0, ap (λ v. cut.prefix ++ v) rest.2.1, (cut.accepted, rest.2.2))),
            found.2,
          )

  pub rest_from_path : (w : List ℕ) (q : ℕ) → Path n 0 w q → (z : List ℕ) × IsRest (IsStarred a) w z × (run_of a 0 z ≡ Some q)
  rest_from_path w q path = rest_below (length w + 1) w q (omega arith) path

  path_over : (pieces : List (List ℕ)) (z : List ℕ) (q : ℕ) → AllByRecursion (Accepted a) pieces → run_of a 0 z ≡ Some q → Path n 0 (concat pieces ++ z) q
  path_over [] z q all run = path_from_run a canonical.table (Some 0) n leads z 0 q canonical.table.initial run
  path_over ([] ∷ pieces) z q all run = path_over pieces z q all.1 run
  path_over ((c ∷ u) ∷ pieces) z q all run = subst (λ v. Path n 0 v q) (sym (append_assoc (c ∷ u) (concat pieces) z))
      (Path-append n (c ∷ u) (concat pieces ++ z) 0 0 q (path_from_accepted a canonical.table (Some 0) n leads u c 0 0 canonical.table.initial refl all.0) (path_over pieces z q all.1 run))

  pub path_from_rest : (w z : List ℕ) (q : ℕ) → IsRest (IsStarred a) w z → run_of a 0 z ≡ Some q → Path n 0 w q
  path_from_rest w z q rest run = subst (λ v. Path n 0 v q) (sym (rest.1 ∙ ap (λ u. u ++ z) rest.2.1)) (path_over rest.2.0 z q rest.2.2 run)

  -- a path leads to a state of the automaton, and what accepts there accepts in the table
  pub path_low : (w : List ℕ) (q : ℕ) → Path n 0 w q → q < states_of a
  path_low w q path = let found = rest_from_path w q path in run_within a found.0 0 q canonical.table canonical.table.initial found.2

  accepting_is : (q : ℕ) → q < states_of a → branching.accepting_of n q ≡ accepting_of a q
  accepting_is q low = accepting_of-prefix a canonical.table (Some 0) true is.prefix more is.rows n is.states q low

  -- a word that leads to an accepting state is joined of pieces
  pub starred_from_path : (w : List ℕ) (q : ℕ) → Path n 0 w q → branching.accepting_of n q ≡ true → IsStarred a w
  starred_from_path w q path accepts =
      let found = rest_from_path w q path in
      starred_more a w found.0 found.1 (accepted_from_run a found.0 q found.2 (sym (accepting_is q (path_low w q path)) ∙ accepts))

  pub path_from_starred : (w : List ℕ) → (w ≡ [] → accepting_of a 0 ≡ true) → IsStarred a w → (q : ℕ) × Path n 0 w q × (branching.accepting_of n q ≡ true)
  path_from_starred w empty starred = by (last_piece a w starred)
    where
      by : (w ≡ []) ⊎ ((z : List ℕ) × IsRest (IsStarred a) w z × Accepted a z) → (q : ℕ) × Path n 0 w q × (branching.accepting_of n q ≡ true)
      by (inl none) = (0, subst (λ v. Path n 0 v 0) (sym none) refl, accepting_is 0 canonical.table.initial ∙ empty none)
      by (inr (z, rest, accepts)) =
          let run = run_from_accepted a z accepts in
          let path = path_from_rest w z run.0 rest run.1 in
          (run.0, path, accepting_is run.0 (path_low w run.0 path) ∙ run.2)

  -- a path leads to a state from which some word is accepted, unless the word is empty and none is accepted
  live_path : (w z : List ℕ) (q : ℕ) → IsWord (letters_of a) w → (w ≡ [] → accepting_of a 0 ≡ true) → IsRest (IsStarred a) w z → run_of a 0 z ≡ Some q → ¬ IsDead a q
  live_path w (c ∷ z) q over empty rest run = live_letter a canonical c z q (IsWord-back (letters_of a) rest.0 (c ∷ z) (subst (IsWord (letters_of a)) rest.1 over)) run
  live_path w [] q over empty rest run = λ dead. by dead (last_piece a w (subst (IsStarred a) (sym (rest.1 ∙ append-nil rest.0)) rest.2))
    where
      at : 0 ≡ q
      at = same_Some 0 q run

      refuses : IsDead a q → (u : List ℕ) → IsWord (letters_of a) u → accepts_of a u ≡ false
      refuses dead u inside = subst (λ p. IsDead a p) (sym at) dead u inside

      by : IsDead a q → (w ≡ []) ⊎ ((z : List ℕ) × IsRest (IsStarred a) w z × Accepted a z) → ⊥
      by dead (inl none) = true≢false (sym (empty none) ∙ refuses dead [] tt)
      by dead (inr (z, last, accepts)) = true≢false (sym accepts ∙ refuses dead z (IsWord-back (letters_of a) last.0 z (subst (IsWord (letters_of a)) last.1 over)))

  rests_from_paths : (w v : List ℕ) → ((q : ℕ) → Path n 0 w q → Path n 0 v q) → HaveRests a (IsStarred a) w v
  rests_from_paths w v within x rest some =
      let run = run_from_residual a x some in
      let found = rest_from_path v run.0 (within run.0 (path_from_rest w x run.0 rest run.1)) in
      (found.0, found.1, SameAfter-run a x found.0 run.0 run.1 found.2)

  paths_from_rests : (w v : List ℕ) → IsWord (letters_of a) w → (w ≡ [] → accepting_of a 0 ≡ true) → HaveRests a (IsStarred a) w v → (q : ℕ) → Path n 0 w q → Path n 0 v q
  paths_from_rests w v over empty have q path =
      let found = rest_from_path w q path in
      let alive = live_path w found.0 q over empty found.1 found.2 in
      let other = have found.0 found.1 (some_after a found.0 q alive found.2) in
      path_from_rest v other.0 q other.1 (same_run a canonical found.0 other.0 q alive found.2 other.2)

  -- words of which the paths from the initial state say to which set they lead
  module _ (first : List ℕ) (set : IsStateSet n first) where
    abbrev pub Set : List ℕ → List ℕ
    Set w = set_of n is.table (key_run (set_after n) first w)

    abbrev pub ReadsPaths : List ℕ → Type 0
    ReadsPaths w = (q : ℕ) → Contains (Set w) q ↔ Path n 0 w q

    pub key_accepts-paths : (w : List ℕ) → ReadsPaths w → (w ≡ [] → accepting_of a 0 ≡ true) → IsTrue (key_accepts (set_after n) (has_accepting n) first w) ↔ IsStarred a w
    key_accepts-paths w reads empty = (
      (λ accepts. forth (key_run (set_after n) first w) refl (sym (key_accepts-run (set_after n) (has_accepting n) w first) ∙ accepts)),
      (λ starred. key_accepts-run (set_after n) (has_accepting n) w first ∙ back (path_from_starred w empty starred) (key_run (set_after n) first w) refl),
    )
      where
        forth : (o : Option (List ℕ)) → key_run (set_after n) first w ≡ o → option_map_or (has_accepting n) o false ≡ true → IsStarred a w
        forth None leads none = absurd (true≢false (sym none))
        forth (Some set) leads some =
            let found = contains_from_list_any (branching.accepting_of n) set some in
            starred_from_path w found.0 ((reads found.0).0 (subst (λ (o : Option (List ℕ)). Contains (set_of n is.table o) found.0) (sym leads) found.1)) found.2

        back : (q : ℕ) × Path n 0 w q × (branching.accepting_of n q ≡ true) → (o : Option (List ℕ)) → key_run (set_after n) first w ≡ o → option_map_or (has_accepting n) o false ≡ true
        back found None leads = absurd (Contains-none found.0 (subst (λ (o : Option (List ℕ)). Contains (set_of n is.table o) found.0) leads ((reads found.0).1 found.1)))
        back found (Some set) leads =
            list_any-contains (branching.accepting_of n) set found.0 (subst (λ (o : Option (List ℕ)). Contains (set_of n is.table o) found.0) leads ((reads found.0).1 found.1)) found.2

    pub StarAlike-paths : (w v : List ℕ) → ReadsPaths w → ReadsPaths v → (w ≡ [] → accepting_of a 0 ≡ true) → (v ≡ [] → accepting_of a 0 ≡ true) → LeadAlike (set_after n) first w v → StarAlike a w v
    StarAlike-paths w v one other first_empty second_empty alike = record {
      inside = (
        (λ starred. (key_accepts-paths v other second_empty).0 (sym same ∙ (key_accepts-paths w one first_empty).1 starred)),
        (λ starred. (key_accepts-paths w one first_empty).0 (same ∙ (key_accepts-paths v other second_empty).1 starred)),
      );
      rests = record {
        forth = rests_from_paths w v (λ q path. (other q).0 (subst (λ (o : Option (List ℕ)). Contains (set_of n is.table o) q) alike ((one q).1 path)));
        back = rests_from_paths v w (λ q path. (one q).0 (subst (λ (o : Option (List ℕ)). Contains (set_of n is.table o) q) (sym alike) ((other q).1 path)));
      };
    }
      where
        same : key_accepts (set_after n) (has_accepting n) first w ≡ key_accepts (set_after n) (has_accepting n) first v
        same = key_accepts-run (set_after n) (has_accepting n) w first ∙ ap (λ (o : Option (List ℕ)). option_map_or (has_accepting n) o false) alike ∙ sym (key_accepts-run (set_after n) (has_accepting n) v first)

    over_n : (w : List ℕ) → IsWord (letters_of a) w → IsWord (branching.letters_of n) w
    over_n w over = subst (λ (ss : List ℕ). IsWord (product ss) w) (sym is.sizes) over

    pub LeadAlike-paths : (w v : List ℕ) → IsWord (letters_of a) w → IsWord (letters_of a) v → ReadsPaths w → ReadsPaths v → (w ≡ [] → accepting_of a 0 ≡ true) → (v ≡ [] → accepting_of a 0 ≡ true) → StarAlike a w v → LeadAlike (set_after n) first w v
    LeadAlike-paths w v over there one other first_empty second_empty alike =
        same_set n is.table (key_run (set_after n) first w) (key_run (set_after n) first v)
        (key_run-set n is.table first set w (over_n w over)) (key_run-set n is.table first set v (over_n v there))
        (λ q. (
          (λ inside. (other q).1 (paths_from_rests w v over first_empty alike.rests.forth q ((one q).0 inside))),
          (λ inside. (one q).1 (paths_from_rests v w there second_empty alike.rests.back q ((other q).0 inside))),
        ))

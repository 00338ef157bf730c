-- The two tables of stars: where words begin at the initial state, and where they begin at a state of their own.
use Rattle.std.proofs.Common.{◌≡◌, ◌≢◌, ◌↔◌, ◌⊎◌, inl, inr, ℕ, zero, suc, ◌+◌, ◌<◌, true, false, List, [], ◌∷◌, ◌++◌, length, IsTrue, Option, Some, refl, sym, ap, ◌∙◌, subst, true≢false, arith}
use Rattle.std.specs.List.{All, Contains}
use Rattle.std.proofs.lemmas.List.{length_push}
use Rattle.digit_tuple.specs.Automaton as branching
use Rattle.digit_tuple.specs.Automaton.{Branch, Branching, Leads, Path, branch_of}
use Rattle.digit_tuple.specs.Deterministic.{Automaton, accepting_of, accepts_of, letters_of, states_of}
use Rattle.digit_tuple.specs.Keys.{LeadAlike, key_accepts, key_run}
use Rattle.digit_tuple.specs.Letters.{IsWord}
use Rattle.digit_tuple.specs.Reversed.{transition_to}
use Rattle.digit_tuple.specs.Width.{HasApart, HasWidth}
use Rattle.digit_tuple.proofs.MemberLemmas.{Contains-cases, Contains-head, Contains-none, list_any-contains}
use Rattle.digit_tuple.proofs.WidthLemmas.{HasApart-same, HasWidth-same}
use Rattle.determinise.specs.Subsets.{IsStateSet, has_accepting, set_after}
use Rattle.determinise.specs.SubsetLaws.{start_is_state_set}
use Rattle.determinise.proofs.SubsetLemmas.{key_run-members, key_run-start, set_of}
use Rattle.minimise.specs.Canonical.{IsCanonical}
use Rattle.lang_ops.specs.Rests.{IsRest}
use Rattle.lang_ops.specs.Star.{IsStarred, StarAlike}
use Rattle.lang_ops.specs.StarTables.{IsStarStart, IsStarTable}
use Rattle.lang_ops.proofs.RestLemmas.{same_accepted, some_after_accepted}
use Rattle.lang_ops.proofs.StarLemmas.{LeadAlike-paths, ReadsPaths, StarAlike-paths, key_accepts-paths, last_piece, leads, path_low, starred_empty}
use Rattle.lang_ops.proofs.TableLeads.{back_branch, linked_steps}
use Rattle.lang_ops.proofs.WidthLaws.{IsEquivalence-star}

module _ (a : Automaton) (canonical : IsCanonical a) (empty : accepting_of a 0 ≡ true) (n : Branching) (is : IsStarTable a [] n) where
  initial_set : IsStateSet n (0 ∷ [])
  initial_set = start_is_state_set n is.table

  returning_reads : (w : List ℕ) → ReadsPaths a canonical [] n is (0 ∷ []) initial_set w
  returning_reads w q = key_run-start n is.table w q

  pub returning_language : (w : List ℕ) → IsTrue (key_accepts (set_after n) (has_accepting n) (0 ∷ []) w) ↔ IsStarred a w
  returning_language w = key_accepts-paths a canonical [] n is (0 ∷ []) initial_set w (returning_reads w) (λ none. empty)

  returning_forth : (w v : List ℕ) → IsWord (letters_of a) w → IsWord (letters_of a) v → LeadAlike (set_after n) (0 ∷ []) w v → StarAlike a w v
  returning_forth w v over there = StarAlike-paths a canonical [] n is (0 ∷ []) initial_set w v (returning_reads w) (returning_reads v) (λ none. empty) (λ none. empty)

  returning_back : (w v : List ℕ) → IsWord (letters_of a) w → IsWord (letters_of a) v → StarAlike a w v → LeadAlike (set_after n) (0 ∷ []) w v
  returning_back w v over there = LeadAlike-paths a canonical [] n is (0 ∷ []) initial_set w v over there (returning_reads w) (returning_reads v) (λ none. empty) (λ none. empty)

  pub returning_set : IsStateSet n (0 ∷ [])
  returning_set = initial_set

  pub returning_width : (k : ℕ) → HasWidth (LeadAlike (set_after n) (0 ∷ [])) (letters_of a) k → HasWidth (StarAlike a) (letters_of a) k
  returning_width k = HasWidth-same (LeadAlike (set_after n) (0 ∷ [])) (StarAlike a) (letters_of a) k returning_forth returning_back

  pub returning_apart : (k : ℕ) → HasApart (LeadAlike (set_after n) (0 ∷ [])) (letters_of a) k → HasApart (StarAlike a) (letters_of a) k
  returning_apart k = HasApart-same (LeadAlike (set_after n) (0 ∷ [])) (StarAlike a) (letters_of a) k returning_back

-- the empty word is distinguished from others where it is no word of the language
module _ (a : Automaton) (none : accepting_of a 0 ≡ false) where
  nil_suffix : (u y : List ℕ) → [] ≡ u ++ y → y ≡ []
  nil_suffix [] y is = sym is
  nil_suffix (c ∷ u) y is = absurd (let size = ap (λ (v : List ℕ). length v) is in omega (arith, size))

  pub empty_apart : (c : ℕ) (v : List ℕ) → ¬ StarAlike a [] (c ∷ v)
  empty_apart c v alike = by (last_piece a (c ∷ v) (alike.inside.0 (starred_empty a)))
    where
      by : (c ∷ v ≡ []) ⊎ ((z : List ℕ) × IsRest (IsStarred a) (c ∷ v) z × IsTrue (accepts_of a z)) → ⊥
      by (inl nothing) = let size = ap (λ (x : List ℕ). length x) nothing in omega (arith, size)
      by (inr (z, rest, accepts)) =
          let other = alike.rests.back z rest (some_after_accepted a z accepts) in
          let nothing : other.0 ≡ [] = nil_suffix other.1.0 other.0 other.1.1 in
          true≢false (sym accepts ∙ same_accepted a z other.0 other.2 ∙ ap (accepts_of a) nothing ∙ none)

module _ (a : Automaton) (canonical : IsCanonical a) (none : accepting_of a 0 ≡ false) (row : Branch) (n : Branching) (is : IsStarTable a (row ∷ []) n) (start : IsStarStart a row) where
  abbrev first : List ℕ
  first = states_of a ∷ []

  start_branch : branch_of n (states_of a) ≡ row
  start_branch = ap (branch_of n) (omega arith) ∙ back_branch a canonical.table (Some 0) true is.prefix (row ∷ []) is.rows n is.states 0

  -- the state leads where the initial one does
  as_initial : (c q : ℕ) → Leads n (states_of a) c q ↔ Leads n 0 c q
  as_initial c q =
      let own = linked_steps a canonical.table (Some 0) 0 canonical.table.initial row.transitions start.transitions c q in
      let initial = leads a canonical (row ∷ []) n is 0 c q canonical.table.initial in (
        (λ there. initial.1 (own.0 (subst (λ (b : Branch). Contains b.transitions (transition_to c q)) start_branch there))),
        (λ there. subst (λ (b : Branch). Contains b.transitions (transition_to c q)) (sym start_branch) (own.1 (initial.0 there))),
      )

  path_on : (c : ℕ) (w : List ℕ) (q : ℕ) → Path n (states_of a) (c ∷ w) q ↔ Path n 0 (c ∷ w) q
  path_on c w q = (
    (λ path. (path.0, (as_initial c path.0).0 path.1, path.2)),
    (λ path. (path.0, (as_initial c path.0).1 path.1, path.2)),
  )

  pub started_set : IsStateSet n first
  started_set = record { some = omega arith; in_range = within; ascending = λ i j d before inside. absurd (omega arith) }
    where
      size : branching.states_of n ≡ states_of a + 1
      size = ap (λ (bs : List Branch). length bs) is.states ∙ length_push is.prefix row ∙ ap (λ k. k + 1) is.rows.size

      within : All (λ q. q < branching.states_of n) (states_of a ∷ [])
      within zero d inside = omega (arith, size)
      within (suc k) d inside = absurd (omega arith)

  members : (w : List ℕ) (q : ℕ) → Contains (set_of n is.table (key_run (set_after n) first w)) q ↔ Path n (states_of a) w q
  members w q = (
    (λ there. let found = (key_run-members n is.table w first q).0 there in only found.0 found.2 (Contains-cases (states_of a) [] found.0 found.1)),
    (λ path. (key_run-members n is.table w first q).1 (states_of a, Contains-head (states_of a) [], path)),
  )
    where
      only : (p : ℕ) → Path n p w q → (states_of a ≡ p) ⊎ Contains [] p → Path n (states_of a) w q
      only p path (inl same) = subst (λ r. Path n r w q) (sym same) path
      only p path (inr nothing) = absurd (Contains-none p nothing)

  reads : (c : ℕ) (w : List ℕ) → ReadsPaths a canonical (row ∷ []) n is first started_set (c ∷ w)
  reads c w q = ((λ there. (path_on c w q).0 ((members (c ∷ w) q).0 there)), (λ path. (members (c ∷ w) q).1 ((path_on c w q).1 path)))

  not_empty : (c : ℕ) (w : List ℕ) → c ∷ w ≡ [] → accepting_of a 0 ≡ true
  not_empty c w nothing = absurd (let size = ap (λ (x : List ℕ). length x) nothing in omega (arith, size))

  pub started_language : (w : List ℕ) → IsTrue (key_accepts (set_after n) (has_accepting n) first w) ↔ IsStarred a w
  started_language [] = (
    (λ accepts. starred_empty a),
    (λ starred. list_any-contains (branching.accepting_of n) first (states_of a) (Contains-head (states_of a) []) (ap (λ (b : Branch). b.accepting) start_branch ∙ start.accepting)),
  )
  started_language (c ∷ w) = key_accepts-paths a canonical (row ∷ []) n is first started_set (c ∷ w) (reads c w) (not_empty c w)

  -- the empty word alone leads to that state
  alone : (c : ℕ) (v : List ℕ) → ¬ LeadAlike (set_after n) first [] (c ∷ v)
  alone c v alike =
      let there = subst (λ (o : Option (List ℕ)). Contains (set_of n is.table o) (states_of a)) alike ((members [] (states_of a)).1 refl) in
      let low = path_low a canonical (row ∷ []) n is (c ∷ v) (states_of a) ((reads c v (states_of a)).0 there) in
      omega (arith, low)

  forth : (w v : List ℕ) → IsWord (letters_of a) w → IsWord (letters_of a) v → LeadAlike (set_after n) first w v → StarAlike a w v
  forth [] [] over there alike = (IsEquivalence-star a).reflexive []
  forth [] (c ∷ v) over there alike = absurd (alone c v alike)
  forth (c ∷ w) [] over there alike = absurd (alone c w (sym alike))
  forth (c ∷ w) (e ∷ v) over there alike = StarAlike-paths a canonical (row ∷ []) n is first started_set (c ∷ w) (e ∷ v) (reads c w) (reads e v) (not_empty c w) (not_empty e v) alike

  back : (w v : List ℕ) → IsWord (letters_of a) w → IsWord (letters_of a) v → StarAlike a w v → LeadAlike (set_after n) first w v
  back [] [] over there alike = refl
  back [] (c ∷ v) over there alike = absurd (empty_apart a none c v alike)
  back (c ∷ w) [] over there alike = absurd (empty_apart a none c w ((IsEquivalence-star a).symmetric (c ∷ w) [] alike))
  back (c ∷ w) (e ∷ v) over there alike = LeadAlike-paths a canonical (row ∷ []) n is first started_set (c ∷ w) (e ∷ v) over there (reads c w) (reads e v) (not_empty c w) (not_empty e v) alike

  pub started_width : (k : ℕ) → HasWidth (LeadAlike (set_after n) first) (letters_of a) k → HasWidth (StarAlike a) (letters_of a) k
  started_width k = HasWidth-same (LeadAlike (set_after n) first) (StarAlike a) (letters_of a) k forth back

  pub started_apart : (k : ℕ) → HasApart (LeadAlike (set_after n) first) (letters_of a) k → HasApart (StarAlike a) (letters_of a) k
  started_apart k = HasApart-same (LeadAlike (set_after n) first) (StarAlike a) (letters_of a) k back

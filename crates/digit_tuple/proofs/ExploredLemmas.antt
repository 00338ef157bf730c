-- What was explored.
use Rattle.std.proofs.Common.{◌≡◌, ℕ, ◌+◌, ◌<◌, ◌≤◌, ◌^◌, Bool, true, false, if◌then◌else◌, List, [], ◌∷◌, ◌++◌, length, get_or, Option, None, Some, MatchOption, ◌⊎◌, inl, inr, refl, sym, ap, ◌∙◌, subst, append_assoc, append-nil, arith}
use Rattle.std.specs.List.{All, AllPairs, Any}
use Rattle.std.specs.Option.{option_and_then, option_map_or}
use Rattle.std.proofs.lemmas.Bool.{cases_lt, cases_order}
use Rattle.std.proofs.lemmas.List.{length_push, get_or_append_left, get_or_push, get_or_default}
use Rattle.std.proofs.lemmas.List.Elements.{All-push, All-from_get_or}
use Rattle.std.proofs.lemmas.List.Quantifiers.{all_pairs_push}
use Rattle.digit_tuple.specs.Deterministic.{Automaton, State, IsTable, IsRow, no_state, states_of, step_of, run_of, accepts_from, accepts_of, target_by}
use Rattle.digit_tuple.specs.FirstWords.{IsNumberedByFirsts}
use Rattle.digit_tuple.specs.Letters.{IsWord, product}
use Rattle.digit_tuple.specs.Width.{HasApart, HasWidth}
use Rattle.digit_tuple.proofs.WordLemmas.{IsWord-push}
use Rattle.digit_tuple.specs.Keys.{key_run, key_accepts, LeadAlike}
use Rattle.digit_tuple.specs.Explored.{AreApart, key_at, IsExplored}
use Rattle.digit_tuple.specs.Exploring.{NoLater, IsFrontier, LeadsTo, IsStateOf, IsGap, IsExploring}
use Rattle.digit_tuple.proofs.KeyTransitionLemmas.{IsStateFrom, Overflows}
use Rattle.digit_tuple.proofs.RowLemmas.{IsFrom, IsFrom-row, gap_of, full_of}
use Rattle.digit_tuple.proofs.FrontierLemmas.{IsFrontier-next, IsFrontier-start, IsStateOf-tried, IsStateOf-grows, IsTrail, IsTrail-are, IsTrail-prefix, AreTried, AreTried-transitions, NoLater-trans, NoLater-push, key_run-push}

-- what holds of reads at one default
pub AllPairs-from_get_or : {X : Type 0} (R : X → X → Type 0) (xs : List X) (e : X) → ((i j : ℕ) → i < j → j < length xs → R (get_or xs i e) (get_or xs j e)) → AllPairs R xs
AllPairs-from_get_or R xs e each i j d before within =
    subst (λ x. R x (get_or xs j d)) (get_or_default xs i e d (omega arith)) (subst (λ y. R (get_or xs i e) y) (get_or_default xs j e d within) (each i j before within))

-- an element has the property
pub Any-at : {X : Type 0} (P : X → Type 0) (xs : List X) (k : ℕ) (e : X) → k < length xs → P (get_or xs k e) → Any P xs
Any-at P xs k e within holds = (k, get_or xs k e, within, get_or_default xs k (get_or xs k e) e within, holds)

-- a key that has two numbers has one
pub one_number : (keys : List (List ℕ)) (p q : ℕ) → AreApart keys → p < length keys → q < length keys → key_at keys p ≡ key_at keys q → p ≡ q
one_number keys p q apart here there same = by (cases_order p q)
  where
    by : (p ≡ q) ⊎ ((p < q) ⊎ (q < p)) → p ≡ q
    by (inl is) = is
    by (inr (inl less)) = absurd (apart p q [] less there same)
    by (inr (inr more)) = absurd (apart q p [] more here (sym same))

pub some_value : (a b : List ℕ) → Some a ≡ Some b → a ≡ b
some_value a b same = cc

module _ (letters : ℕ) (start : List ℕ) (after : List ℕ → ℕ → Option (List ℕ)) (keys firsts : List (List ℕ)) (p a : ℕ) (f : IsFrontier letters start after keys firsts p a) where
  pub over_firsts : All (IsWord letters) firsts
  over_firsts = All-from_get_or (IsWord letters) firsts [] (λ k within. f.over k (omega (arith, f.count)))

  -- first words of different keys are not alike
  pub apart_firsts : AllPairs (λ w v. ¬ LeadAlike after start w v) firsts
  apart_firsts = AllPairs-from_get_or (λ w v. ¬ LeadAlike after start w v) firsts [] (λ i j before within same.
      f.apart i j [] before (omega (arith, f.count))
      (some_value (key_at keys i) (key_at keys j) (sym (f.lead i (omega (arith, f.count))) ∙ same ∙ f.lead j (omega (arith, f.count)))))

  pub HasApart-firsts : HasApart (LeadAlike after start) letters (length keys)
  HasApart-firsts = record { words = firsts; count = f.count; over = over_firsts; apart = apart_firsts }

  module _ (w : List ℕ) (over : IsWord letters w) (none : key_run after start w ≡ None) where
    -- nor is a word that leads to no key like one of them
    pub apart_gap : AllPairs (λ u v. ¬ LeadAlike after start u v) (firsts ++ w ∷ [])
    apart_gap = all_pairs_push (λ u v. ¬ LeadAlike after start u v) firsts w apart_firsts (λ k d within same.
        let some : key_run after start (get_or firsts k d) ≡ Some (key_at keys k) = ap (key_run after start) (get_or_default firsts k d [] within) ∙ f.lead k (omega (arith, f.count)) in
        let both : Some (key_at keys k) ≡ None = sym some ∙ same ∙ none in cc)

    pub HasApart-gap : HasApart (LeadAlike after start) letters (length keys + 1)
    HasApart-gap = record { words = firsts ++ w ∷ []; count = omega (arith, length_push firsts w, f.count); over = All-push (IsWord letters) firsts w over_firsts over; apart = apart_gap }

module _ (letters : ℕ) (start : List ℕ) (after : List ℕ → ℕ → Option (List ℕ)) (accepts : List ℕ → Bool) where
  pub IsExploring-start : IsExploring letters start after accepts (start ∷ []) [] false
  IsExploring-start = record { firsts = [] ∷ []; frontier = IsFrontier-start letters start after; rows = λ p within. absurd (omega arith); gap_is = λ p a within small. absurd (omega arith) }

  -- one more state
  pub IsExploring-row : (keys new : List (List ℕ)) (states : List State) (state : State) (gap now : Bool) → IsExploring letters start after accepts keys states gap → length states < length keys
      → IsStateFrom letters (after (key_at keys (length states))) (accepts (key_at keys (length states))) keys new state
      → ((length state.transitions < letters) × (now ≡ true)) ⊎ ((letters ≤ length state.transitions) × (now ≡ gap)) → IsExploring letters start after accepts new (states ++ state ∷ []) now
  IsExploring-row keys new states state gap now e here from short = record {
    firsts = tried.more;
    frontier = subst (λ n. IsFrontier letters start after new tried.more n 0) (sym size) (IsFrontier-next letters start after new tried.more (length states) tried.bound still tried.frontier);
    rows = rows;
    gap_is = gap_of_row gap short e.gap_is;
  }
    where
      size : length (states ++ state ∷ []) ≡ length states + 1
      size = length_push states state

      tried : AreTried letters start after keys e.firsts new (length states) from.key_transitions state.transitions
      tried = AreTried-transitions letters start after from.key_transitions state.transitions keys e.firsts new (length states) 0 e.frontier here (IsTrail-are letters start after (key_at keys (length states)) from.key_transitions from.are) from.numbered

      still : length states < length new
      still = omega (arith, tried.keys_grow.more, here)

      row : IsStateOf letters after accepts new tried.more (length states) state
      row = IsStateOf-tried letters start after accepts keys new tried.more (length states) from.key_transitions state (tried.keys_grow.same (length states) here) from.are tried.led from.accepting_is

      at_last : get_or (states ++ state ∷ []) (length states) no_state ≡ state
      at_last = get_or_push states state no_state (length states) refl

      rows : (q : ℕ) → q < length (states ++ state ∷ []) → IsStateOf letters after accepts new tried.more q (get_or (states ++ state ∷ []) q no_state)
      rows q within = by (cases_lt q (length states))
        where
          by : (q < length states) ⊎ (length states ≤ q) → IsStateOf letters after accepts new tried.more q (get_or (states ++ state ∷ []) q no_state)
          by (inl less) = subst (IsStateOf letters after accepts new tried.more q) (sym (get_or_append_left states (state ∷ []) no_state q less))
              (IsStateOf-grows letters start after accepts keys new e.firsts tried.more q (get_or states q no_state) tried.keys_grow tried.firsts_grow e.frontier.count (omega (arith, here)) (e.rows q less))
          by (inr more) =
              let same : length states ≡ q = omega (arith, size, within) in
              subst (λ n. IsStateOf letters after accepts new tried.more n (get_or (states ++ state ∷ []) n no_state)) same
              (subst (IsStateOf letters after accepts new tried.more (length states)) (sym at_last) row)

      from_0 : IsFrom letters 0 state.transitions
      from_0 = IsFrom-row letters 0 state.transitions (λ k d within. (row.in_range k d within).0) row.ascending (λ k d within. omega arith)

      gap_of_row : (b : Bool) → ((length state.transitions < letters) × (now ≡ true)) ⊎ ((letters ≤ length state.transitions) × (now ≡ b)) → IsGap letters start after states b → IsGap letters start after (states ++ state ∷ []) now
      gap_of_row b (inl h) g =
          let found : (a : ℕ) × (0 ≤ a) × (a < letters) × (target_by state.transitions a ≡ None) = gap_of letters 0 state.transitions from_0 (omega (arith, h.0)) in
          let none : after (key_at new (length states)) found.0 ≡ None =
          subst (λ o. MatchOption o (after (key_at new (length states)) found.0 ≡ None) (LeadsTo after new tried.more (length states) found.0)) found.3 (row.leads found.0 found.2) in
          subst (IsGap letters start after (states ++ state ∷ [])) (sym h.1) (
            get_or tried.more (length states) [] ++ found.0 ∷ [],
            IsWord-push letters (get_or tried.more (length states) []) found.0 (tried.frontier.over (length states) still) found.2,
            key_run-push after start (key_at new (length states)) (get_or tried.more (length states) []) found.0 (tried.frontier.lead (length states) still) ∙ none,
          )
      gap_of_row true (inr h) g = subst (IsGap letters start after (states ++ state ∷ [])) (sym h.1) g
      gap_of_row false (inr h) g = subst (IsGap letters start after (states ++ state ∷ [])) (sym h.1) (λ q a within small. by q a (cases_lt q (length states)) within small)
        where
          by : (q a : ℕ) → (q < length states) ⊎ (length states ≤ q) → q < length (states ++ state ∷ []) → a < letters → (t : ℕ) × (target_by (get_or (states ++ state ∷ []) q no_state).transitions a ≡ Some t)
          by q a (inl less) within small = let old = g q a less small in (old.0, ap (λ (s : State). target_by s.transitions a) (get_or_append_left states (state ∷ []) no_state q less) ∙ old.1)
          by q a (inr more) within small =
              let found = full_of letters 0 state.transitions from_0 (omega (arith, h.0)) a (omega arith) small in
              (found.0, ap (λ (s : State). target_by s.transitions a) (get_or_push states state no_state q (omega (arith, size, within))) ∙ found.1)

  -- a transition too many
  pub IsExploring-overflows : (keys new : List (List ℕ)) (states : List State) (gap : Bool) (count : ℕ) → IsExploring letters start after accepts keys states gap → length states < length keys
      → Overflows letters (after (key_at keys (length states))) keys new count → HasApart (LeadAlike after start) letters count
  IsExploring-overflows keys new states gap count e here over =
      let trail = IsTrail-prefix letters start after (key_at keys (length states)) 0 over.some.prefix over.some.rest
      (subst (λ ss. IsTrail letters start after (key_at keys (length states)) 0 ss) over.some.transitions_are (IsTrail-are letters start after (key_at keys (length states)) over.key_transitions over.are)) in
      let tried = AreTried-transitions letters start after over.some.prefix over.some.transitions keys e.firsts new (length states) 0 e.frontier here trail over.some.numbered in
      subst (HasApart (LeadAlike after start) letters) over.some.count_is (HasApart-firsts letters start after new tried.more (length states) tried.bound tried.frontier)

  -- a word that leads to no key too many
  pub IsExploring-gap : (keys : List (List ℕ)) (states : List State) (count : ℕ) → IsExploring letters start after accepts keys states true → length keys ≡ count → HasApart (LeadAlike after start) letters (count + 1)
  IsExploring-gap keys states count e full =
      subst (λ n. HasApart (LeadAlike after start) letters (n + 1)) full (HasApart-gap letters start after keys e.firsts (length states) 0 e.frontier e.gap_is.0 e.gap_is.1 e.gap_is.2)

module _ (letters : ℕ) (start : List ℕ) (after : List ℕ → ℕ → Option (List ℕ)) (accepts : List ℕ → Bool) (keys : List (List ℕ)) (d : Automaton) (e : IsExplored letters start after accepts keys d) where
  -- where a word leads in the automaton is where it leads in the keys
  pub run_of-explored : (w : List ℕ) (p : ℕ) → p < states_of d → IsWord letters w → MatchOption (run_of d p w) (key_run after (key_at keys p) w ≡ None) (λ t. (t < states_of d) × (key_run after (key_at keys p) w ≡ Some (key_at keys t)))
  run_of-explored [] p within over = (within, refl)
  run_of-explored (a ∷ w) p within over = by (step_of d p a) (e.transitions p a within over.0) (λ t inside. run_of-explored w t inside over.1)
    where
      by : (o : Option ℕ) → MatchOption o (after (key_at keys p) a ≡ None) (λ t. (t < states_of d) × (after (key_at keys p) a ≡ Some (key_at keys t)))
          → ((t : ℕ) → t < states_of d → MatchOption (run_of d t w) (key_run after (key_at keys t) w ≡ None) (λ u. (u < states_of d) × (key_run after (key_at keys t) w ≡ Some (key_at keys u))))
          → MatchOption (option_and_then (λ q. run_of d q w) o) (option_and_then (λ next. key_run after next w) (after (key_at keys p) a) ≡ None)
          (λ t. (t < states_of d) × (option_and_then (λ next. key_run after next w) (after (key_at keys p) a) ≡ Some (key_at keys t)))
      by None none rest = ap (λ o. option_and_then (λ next. key_run after next w) o) none
      by (Some t) leads rest = subst (λ o. MatchOption (run_of d t w) (option_and_then (λ next. key_run after next w) o ≡ None) (λ u. (u < states_of d) × (option_and_then (λ next. key_run after next w) o ≡ Some (key_at keys u))))
          (sym leads.1) (rest t leads.0)

  -- a word is accepted where the keys accept it
  pub accepts_from-explored : (w : List ℕ) (p : ℕ) → p < states_of d → IsWord letters w → accepts_from d p w ≡ key_accepts after accepts (key_at keys p) w
  accepts_from-explored [] p within over = e.accepting p within
  accepts_from-explored (a ∷ w) p within over = by (step_of d p a) (e.transitions p a within over.0) (λ t inside. accepts_from-explored w t inside over.1)
    where
      by : (o : Option ℕ) → MatchOption o (after (key_at keys p) a ≡ None) (λ t. (t < states_of d) × (after (key_at keys p) a ≡ Some (key_at keys t)))
          → ((t : ℕ) → t < states_of d → accepts_from d t w ≡ key_accepts after accepts (key_at keys t) w)
          → option_map_or (λ q. accepts_from d q w) o false ≡ option_map_or (λ next. key_accepts after accepts next w) (after (key_at keys p) a) false
      by None none rest = ap (λ o. option_map_or (λ next. key_accepts after accepts next w) o false) (sym none)
      by (Some t) leads rest = rest t leads.0 ∙ ap (λ o. option_map_or (λ next. key_accepts after accepts next w) o false) (sym leads.1)

  module _ (positive : 0 < states_of d) where
    pub accepts_of-explored : (w : List ℕ) → IsWord letters w → accepts_of d w ≡ key_accepts after accepts start w
    accepts_of-explored w over = accepts_from-explored w 0 positive over ∙ ap (λ k. key_accepts after accepts k w) e.start_is

    pub run_of-start : (w : List ℕ) → IsWord letters w → MatchOption (run_of d 0 w) (key_run after start w ≡ None) (λ t. (t < states_of d) × (key_run after start w ≡ Some (key_at keys t)))
    run_of-start w over = subst (λ k. MatchOption (run_of d 0 w) (key_run after k w ≡ None) (λ t. (t < states_of d) × (key_run after k w ≡ Some (key_at keys t)))) e.start_is (run_of-explored w 0 positive over)

    -- a word that leads to a key leads to its state
    pub run_of-key : (w : List ℕ) (q : ℕ) → IsWord letters w → q < states_of d → key_run after start w ≡ Some (key_at keys q) → run_of d 0 w ≡ Some q
    run_of-key w q over within leads = by (run_of d 0 w) (run_of-start w over)
      where
        by : (o : Option ℕ) → MatchOption o (key_run after start w ≡ None) (λ t. (t < states_of d) × (key_run after start w ≡ Some (key_at keys t))) → o ≡ Some q
        by None none = let both : Some (key_at keys q) ≡ None = sym leads ∙ none in cc
        by (Some t) found = ap Some (one_number keys t q e.apart (omega (arith, found.0, e.count)) (omega (arith, within, e.count)) (some_value (key_at keys t) (key_at keys q) (sym found.1 ∙ leads)))

module _ (letters : ℕ) (start : List ℕ) (after : List ℕ → ℕ → Option (List ℕ)) (accepts : List ℕ → Bool) (keys : List (List ℕ)) (d : Automaton) (gap : Bool)
    (e : IsExploring letters start after accepts keys d.states gap) (done : length d.states ≡ length keys) where
  positive : 0 < states_of d
  positive = omega (arith, e.frontier.positive, done)

  -- the table is whole
  pub IsTable-explored : length d.states < 2 ^ 32 → IsTable letters d.states
  IsTable-explored small = record { initial = positive; part = record { small = small; rows = All-from_get_or (λ (s : State). IsRow letters (length d.states) s.transitions) d.states no_state row } }
    where
      row : (p : ℕ) → p < length d.states → IsRow letters (length d.states) (get_or d.states p no_state).transitions
      row p within = record { in_range = λ k z inside. let range = (e.rows p within).in_range k z inside in (range.0, omega (arith, range.1, done)); ascending = (e.rows p within).ascending }

  -- the states are those of the keys
  pub IsExplored-done : IsExplored letters start after accepts keys d
  IsExplored-done = record {
    count = sym done;
    start_is = e.frontier.start_is;
    apart = e.frontier.apart;
    accepting = λ q within. (e.rows q within).accepting;
    transitions = λ q a within small. by q a (step_of d q a) ((e.rows q within).leads a small);
  }
    where
      by : (q a : ℕ) (o : Option ℕ) → MatchOption o (after (key_at keys q) a ≡ None) (LeadsTo after keys e.firsts q a)
          → MatchOption o (after (key_at keys q) a ≡ None) (λ t. (t < states_of d) × (after (key_at keys q) a ≡ Some (key_at keys t)))
      by q a None none = none
      by q a (Some t) leads = (omega (arith, leads.within, done), leads.key_is)

  -- the first word of a state is no later than each that leads to it
  pub no_later : (w v : List ℕ) (p q : ℕ) → p < states_of d → IsWord letters w → NoLater (get_or e.firsts p []) v → run_of d p w ≡ Some q → NoLater (get_or e.firsts q []) (v ++ w)
  no_later [] v p q within over first leads =
      let same : p ≡ q = omega (arith, number_same p q leads) in
      subst (λ n. NoLater (get_or e.firsts n []) (v ++ [])) same (subst (NoLater (get_or e.firsts p [])) (sym (append-nil v)) first)
    where
      number_same : (p q : ℕ) → Some p ≡ Some q → p ≡ q
      number_same p q same = cc
  no_later (a ∷ w) v p q within over first leads = by (step_of d p a) ((e.rows p within).leads a over.0) leads (λ t inside sooner rest. no_later w (v ++ a ∷ []) t q inside over.1 sooner rest)
    where
      by : (o : Option ℕ) → MatchOption o (after (key_at keys p) a ≡ None) (LeadsTo after keys e.firsts p a) → option_and_then (λ t. run_of d t w) o ≡ Some q
          → ((t : ℕ) → t < states_of d → NoLater (get_or e.firsts t []) (v ++ a ∷ []) → run_of d t w ≡ Some q → NoLater (get_or e.firsts q []) ((v ++ a ∷ []) ++ w)) → NoLater (get_or e.firsts q []) (v ++ a ∷ w)
      by None none is rest = let both : None ≡ Some q = is in cc
      by (Some t) led is rest = subst (NoLater (get_or e.firsts q [])) (append_assoc v (a ∷ []) w)
          (rest t (omega (arith, led.within, done)) (NoLater-trans (get_or e.firsts t []) (get_or e.firsts p [] ++ a ∷ []) (v ++ a ∷ []) led.first (NoLater-push (get_or e.firsts p []) v a first)) is)

  -- the states are numbered by the first words that lead to them
  pub IsNumberedByFirsts-done : letters ≡ product d.sizes → IsNumberedByFirsts d e.firsts
  IsNumberedByFirsts-done same = record {
    count = e.frontier.count ∙ sym done;
    over = λ q within. subst (λ n. IsWord n (get_or e.firsts q [])) same (e.frontier.over q (omega (arith, within, done)));
    lead = λ q within. run_of-key letters start after accepts keys d IsExplored-done positive (get_or e.firsts q []) q (e.frontier.over q (omega (arith, within, done))) within (e.frontier.lead q (omega (arith, within, done)));
    least = λ q w over leads. no_later w [] 0 q positive (subst (λ n. IsWord n w) (sym same) over) (inl e.frontier.first_word) leads;
    ordered = e.frontier.ordered;
  }

  -- the words that lead to different keys, or to none, are as many as the keys, and one more if a word leads to none
  pub HasWidth-done : HasWidth (LeadAlike after start) letters (length keys + (if gap then 1 else 0))
  HasWidth-done = by gap e.gap_is
    where
      like : (w : List ℕ) (t : ℕ) → t < states_of d → key_run after start w ≡ Some (key_at keys t) → LeadAlike after start w (get_or e.firsts t [])
      like w t within leads = leads ∙ sym (e.frontier.lead t (omega (arith, within, done)))

      by : (b : Bool) → IsGap letters start after d.states b → HasWidth (LeadAlike after start) letters (length keys + (if b then 1 else 0))
      by true g = record {
        some = record {
          words = e.firsts ++ g.0 ∷ [];
          count = omega (arith, length_push e.firsts g.0, e.frontier.count);
          over = All-push (IsWord letters) e.firsts g.0 (over_firsts letters start after keys e.firsts (length d.states) 0 e.frontier) g.1;
          apart = apart_gap letters start after keys e.firsts (length d.states) 0 e.frontier g.0 g.1 g.2;
        };
        whole = whole;
      }
        where
          whole : (w : List ℕ) → IsWord letters w → Any (LeadAlike after start w) (e.firsts ++ g.0 ∷ [])
          whole w over = at (run_of d 0 w) (run_of-start letters start after accepts keys d IsExplored-done positive w over)
            where
              at : (o : Option ℕ) → MatchOption o (key_run after start w ≡ None) (λ t. (t < states_of d) × (key_run after start w ≡ Some (key_at keys t))) → Any (LeadAlike after start w) (e.firsts ++ g.0 ∷ [])
              at None none = Any-at (LeadAlike after start w) (e.firsts ++ g.0 ∷ []) (length e.firsts) [] (omega (arith, length_push e.firsts g.0))
                  (subst (LeadAlike after start w) (sym (get_or_push e.firsts g.0 [] (length e.firsts) refl)) (none ∙ sym g.2))
              at (Some t) found = Any-at (LeadAlike after start w) (e.firsts ++ g.0 ∷ []) t [] (omega (arith, length_push e.firsts g.0, found.0, e.frontier.count, done))
                  (subst (LeadAlike after start w) (sym (get_or_append_left e.firsts (g.0 ∷ []) [] t (omega (arith, found.0, e.frontier.count, done)))) (like w t found.0 found.1))
      by false g = record {
        some = record {
          words = e.firsts;
          count = omega (arith, e.frontier.count);
          over = over_firsts letters start after keys e.firsts (length d.states) 0 e.frontier;
          apart = apart_firsts letters start after keys e.firsts (length d.states) 0 e.frontier;
        };
        whole = whole;
      }
        where
          some_run : (w : List ℕ) (p : ℕ) → p < states_of d → IsWord letters w → ¬ (run_of d p w ≡ None)
          some_run [] p within over none = cc
          some_run (a ∷ w) p within over none =
              let next = g p a within over.0 in
              let led : LeadsTo after keys e.firsts p a next.0 =
              subst (λ o. MatchOption o (after (key_at keys p) a ≡ None) (LeadsTo after keys e.firsts p a)) next.1 ((e.rows p within).leads a over.0) in
              some_run w next.0 (omega (arith, led.within, done)) over.1 (sym (ap (λ o. option_and_then (λ q. run_of d q w) o) next.1) ∙ none)

          whole : (w : List ℕ) → IsWord letters w → Any (LeadAlike after start w) e.firsts
          whole w over = at (run_of d 0 w) refl (run_of-start letters start after accepts keys d IsExplored-done positive w over)
            where
              at : (o : Option ℕ) → run_of d 0 w ≡ o → MatchOption o (key_run after start w ≡ None) (λ t. (t < states_of d) × (key_run after start w ≡ Some (key_at keys t))) → Any (LeadAlike after start w) e.firsts
              at None is none = absurd (some_run w 0 positive over is)
              at (Some t) is found = Any-at (LeadAlike after start w) e.firsts t [] (omega (arith, found.0, e.frontier.count, done)) (like w t found.0 found.1)

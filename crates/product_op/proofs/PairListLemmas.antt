-- Lists of the pairs of states that words lead to.
use Rattle.std.proofs.Common.{◌≡◌, ℕ, suc, ◌+◌, ◌<◌, ◌≤◌, Bool, true, false, List, [], ◌∷◌, ◌++◌, length, map, get_or, Option, None, Some, MatchOption, ◌⊎◌, inl, inr, refl, sym, ap, ◌∙◌, subst, true≢false, arith, if◌then◌else◌}
use Rattle.std.specs.List.{All, AllPairs, Contains}
use Rattle.std.proofs.lemmas.Bool.{cases_lt}
use Rattle.std.proofs.lemmas.List.{get_or-map, get_or_default, get_or_append_left, get_or_push, length-map, length_push}
use Rattle.std.proofs.lemmas.List.Elements.{All-contains, All-cons, All-from_get_or, All-nil, All-push}
use Rattle.digit_tuple.specs.Deterministic.{Automaton, letters_of, states_of, step_of, run_of}
use Rattle.digit_tuple.specs.Explored.{AreApart, IsExplored, IsNumbered, key_at}
use Rattle.digit_tuple.specs.FirstWords.{IsNumberedByFirsts}
use Rattle.digit_tuple.specs.Keys.{key_run}
use Rattle.digit_tuple.specs.Letters.{IsWord}
use Rattle.digit_tuple.specs.Width.{HasApart, HasWidth}
use Rattle.digit_tuple.proofs.ExploredLemmas.{run_of-explored}
use Rattle.digit_tuple.proofs.MemberLemmas.{Contains-from_map}
use Rattle.digit_tuple.proofs.WordLemmas.{IsWord-push}
use Rattle.product_op.specs.declared.op.Op.{Op}
use Rattle.product_op.specs.DeadPairs.{ArePair, is_dead_pair, live_pair_after}
use Rattle.product_op.specs.PairLists.{BeginsWith, HoldAfter, HoldLive, IsAfter, IsReached}
use Rattle.product_op.specs.ReadingLaws.{next_is_key}
use Rattle.product_op.specs.Readings.{Reading, AreStates, first_key, next_key}
use Rattle.product_op.specs.Tuples.{LeadToOne, tuple_after}
use Rattle.product_op.proofs.DeadPairLemmas.{dead_next, run_some}
use Rattle.product_op.proofs.KeyLemmas.{lead_key, lead_key-next, lead_key-nil, length-first_key, length-next_key}
use Rattle.product_op.proofs.TupleLemmas.{tuple_after-lead}

-- an element of the one list and the other
Contains-push : (xs : List (List ℕ)) (x y : List ℕ) → Contains xs y → Contains (xs ++ x ∷ []) y
Contains-push xs x y there = (there.0, omega (arith, length_push xs x, there.1), get_or_append_left xs (x ∷ []) y there.0 there.1 ∙ there.2)

Contains-last : (xs : List (List ℕ)) (x : List ℕ) → Contains (xs ++ x ∷ []) x
Contains-last xs x = (length xs, omega (arith, length_push xs x), get_or_push xs x x (length xs) refl)

push_cases : (xs : List (List ℕ)) (x y : List ℕ) → Contains (xs ++ x ∷ []) y → Contains xs y ⊎ (x ≡ y)
push_cases xs x y there = by (cases_lt there.0 (length xs))
  where
    by : (there.0 < length xs) ⊎ (length xs ≤ there.0) → Contains xs y ⊎ (x ≡ y)
    by (inl less) = inl (there.0, less, sym (get_or_append_left xs (x ∷ []) y there.0 less) ∙ there.2)
    by (inr more) = inr (sym (get_or_push xs x y there.0 (omega (arith, length_push xs x, there.1, more))) ∙ there.2)

pub Contains-begins : (old new : List (List ℕ)) (key : List ℕ) → BeginsWith old new → Contains old key → Contains new key
Contains-begins old new key begins there =
    let within : there.0 < length new = omega (arith, there.1, begins.more) in
    (there.0, within, get_or_default new there.0 key [] within ∙ begins.same there.0 there.1 ∙ get_or_default old there.0 [] key there.1 ∙ there.2)

pub BeginsWith-itself : (keys : List (List ℕ)) → BeginsWith keys keys
BeginsWith-itself keys = record { more = omega arith; same = λ i less. refl }

pub BeginsWith-trans : (old mid new : List (List ℕ)) → BeginsWith old mid → BeginsWith mid new → BeginsWith old new
BeginsWith-trans old mid new first second = record {
  more = omega (arith, first.more, second.more);
  same = λ i less. second.same i (omega (arith, less, first.more)) ∙ first.same i less;
}

module _ (letters : ℕ) (rs : List Reading) where
  -- one word for each of the keys
  words_of : (keys : List (List ℕ)) → All (IsReached letters rs) keys → (ws : List (List ℕ)) × (map (tuple_after rs) ws ≡ keys) × All (IsWord letters) ws
  words_of [] reached = ([], refl, All-nil (IsWord letters))
  words_of (key ∷ keys) reached =
      let first = reached 0 key (omega arith) in
      let rest = words_of keys (λ i z within. reached (suc i) z (omega (arith, within))) in
      (first.0 ∷ rest.0, ap (λ k. k ∷ map (tuple_after rs) rest.0) first.2 ∙ ap (λ ks. key ∷ ks) rest.1, All-cons (IsWord letters) first.0 rest.0 first.1 rest.2)

  apart_words : (keys : List (List ℕ)) (ws : List (List ℕ)) → AreApart keys → map (tuple_after rs) ws ≡ keys → AllPairs (λ w v. ¬ LeadToOne rs w v) ws
  apart_words keys ws apart are i j d before within same =
      let all : AreApart (map (tuple_after rs) ws) = subst AreApart (sym are) apart in
      all i j [] before (omega (arith, within, length-map ws (tuple_after rs)))
      (get_or-map (tuple_after rs) ws i d [] (omega (arith, before, within)) ∙ same ∙ sym (get_or-map (tuple_after rs) ws j d [] within))

  -- keys apart that words lead to are of words apart
  pub HasApart-reached : (keys : List (List ℕ)) (k : ℕ) → AreApart keys → All (IsReached letters rs) keys → length keys ≡ k → HasApart (LeadToOne rs) letters k
  HasApart-reached keys k apart reached count =
      let found = words_of keys reached in
      record { words = found.0; count = sym (length-map found.0 (tuple_after rs)) ∙ ap length found.1 ∙ count; over = found.2; apart = apart_words keys found.0 apart found.1 }

  -- and if words lead to no others, they are as many as the width
  pub HasWidth-reached : (keys : List (List ℕ)) → AreApart keys → All (IsReached letters rs) keys → ((w : List ℕ) → IsWord letters w → Contains keys (tuple_after rs w)) → HasWidth (LeadToOne rs) letters (length keys)
  HasWidth-reached keys apart reached whole =
      let found = words_of keys reached in
      record {
        some = record { words = found.0; count = sym (length-map found.0 (tuple_after rs)) ∙ ap length found.1; over = found.2; apart = apart_words keys found.0 apart found.1 };
        whole = λ w over.
            let one = Contains-from_map (tuple_after rs) found.0 (tuple_after rs w) (subst (λ ks. Contains ks (tuple_after rs w)) (sym found.1) (whole w over)) in
            (one.1.0, one.0, one.1.1, one.1.2, sym one.2);
      }

  lead_push : (w key : List ℕ) (a : ℕ) → length key ≡ length rs → lead_key rs key (w ++ a ∷ []) ≡ next_key rs (lead_key rs key w) a
  lead_push [] key a long = sym (lead_key-next rs key a []) ∙ sym (lead_key-nil rs (next_key rs key a) (length-next_key rs key a)) ∙ ap (λ k. next_key rs k a) (lead_key-nil rs key long)
  lead_push (b ∷ w) key a long = sym (lead_key-next rs key b (w ++ a ∷ [])) ∙ lead_push w (next_key rs key b) a (length-next_key rs key b) ∙ ap (λ k. next_key rs k a) (lead_key-next rs key b w)

  -- where a word with one letter more leads
  IsReached-next : (key : List ℕ) (a : ℕ) → a < letters → IsReached letters rs key → IsReached letters rs (next_key rs key a)
  IsReached-next key a small reached = (
    reached.0 ++ a ∷ [],
    IsWord-push letters reached.0 a reached.1 small,
    sym (tuple_after-lead rs (reached.0 ++ a ∷ [])) ∙ lead_push reached.0 (first_key rs) a (length-first_key rs) ∙ ap (λ k. next_key rs k a) (tuple_after-lead rs reached.0 ∙ reached.2),
  )

  lead_within : (keys : List (List ℕ)) → ((key : List ℕ) → Contains keys key → HoldAfter letters rs key keys) → (w key : List ℕ) → Contains keys key → length key ≡ length rs → IsWord letters w → Contains keys (lead_key rs key w)
  lead_within keys closed [] key there long over = subst (Contains keys) (lead_key-nil rs key long) there
  lead_within keys closed (a ∷ w) key there long over =
      subst (Contains keys) (lead_key-next rs key a w) (lead_within keys closed w (next_key rs key a) (closed key there a over.0) (length-next_key rs key a) over.1)

  -- where what letters lead to is all there, so is what words lead to
  whole_by : (keys : List (List ℕ)) → Contains keys (first_key rs) → ((key : List ℕ) → Contains keys key → HoldAfter letters rs key keys) → (w : List ℕ) → IsWord letters w → Contains keys (tuple_after rs w)
  whole_by keys first closed w over = subst (Contains keys) (tuple_after-lead rs w) (lead_within keys closed w (first_key rs) first (length-first_key rs) over)

  -- all that letters lead to from the first so many keys are among them
  abbrev pub AreTriedTo : List (List ℕ) → ℕ → Type 0
  AreTriedTo keys place = (i : ℕ) → i < place → HoldAfter letters rs (key_at keys i) keys

  pub AreTriedTo-more : (old new : List (List ℕ)) (place : ℕ) (key : List ℕ) → place < length old → key ≡ key_at old place → BeginsWith old new → HoldAfter letters rs key new → AreTriedTo old place → AreTriedTo new (place + 1)
  AreTriedTo-more old new place key inside is begins after tried i less = by (cases_lt i place)
    where
      by : (i < place) ⊎ (place ≤ i) → HoldAfter letters rs (key_at new i) new
      by (inl before) =
          subst (λ k. HoldAfter letters rs k new) (sym (begins.same i (omega (arith, before, inside))))
          (λ a small. Contains-begins old new (next_key rs (key_at old i) a) begins (tried i before a small))
      by (inr here) =
          let same : place ≡ i = omega (arith, here, less) in
          subst (λ k. HoldAfter letters rs k new) (is ∙ sym (begins.same place inside) ∙ ap (key_at new) same) after

  pub HasWidth-tried : (keys : List (List ℕ)) (place : ℕ) → AreApart keys → All (IsReached letters rs) keys → Contains keys (first_key rs) → length keys ≤ place → AreTriedTo keys place → HasWidth (LeadToOne rs) letters (length keys)
  HasWidth-tried keys place apart reached first all tried = HasWidth-reached keys apart reached (whole_by keys first (λ key there.
      subst (λ k. HoldAfter letters rs k keys) (get_or_default keys there.0 [] key there.1 ∙ there.2) (tried there.0 (omega (arith, there.1, all)))))

  module _ (op : Op) (are : ArePair letters op rs) where
    HoldLive-push : (keys : List (List ℕ)) (pair : List ℕ) → HoldLive letters op rs keys → IsAfter letters rs keys pair → is_dead_pair op rs pair ≡ true → HoldLive letters op rs (keys ++ pair ∷ [])
    HoldLive-push keys pair hold after dead = record {
      reached = All-push (IsReached letters rs) keys pair hold.reached
          (subst (IsReached letters rs) after.2.2 (IsReached-next after.0 after.2.0 after.2.1 (All-contains (IsReached letters rs) keys after.0 hold.reached after.1)));
      states = All-push (AreStates rs) keys pair hold.states (subst (AreStates rs) after.2.2 (next_is_key letters rs are.readings_are after.0 after.2.0));
      first = Contains-push keys pair (first_key rs) hold.first;
      live = λ key there a small live. by key (push_cases keys pair key there) a small live;
    }
      where
        by : (key : List ℕ) → Contains keys key ⊎ (pair ≡ key) → (a : ℕ) → a < letters → is_dead_pair op rs (next_key rs key a) ≡ false → Contains (keys ++ pair ∷ []) (next_key rs key a)
        by key (inl old) a small live = Contains-push keys pair (next_key rs key a) (hold.live key old a small live)
        by key (inr same) a small live = absurd (true≢false (sym (dead_next rs op letters are key a (sym (ap (is_dead_pair op rs) same) ∙ dead)) ∙ live))

    -- a dead pair that a letter leads to is numbered
    pub IsNumbered-dead : (old new : List (List ℕ)) (pair : List ℕ) (number : ℕ) → IsNumbered old new pair number → HoldLive letters op rs old → IsAfter letters rs old pair → is_dead_pair op rs pair ≡ true
        → HoldLive letters op rs new × BeginsWith old new × Contains new pair × (length new ≤ length old + 1)
    IsNumbered-dead old new pair number numbered hold after dead = by numbered.old_or_new
      where
        by : ((new ≡ old) × (number < length old)) ⊎ ((number ≡ length old) × (new ≡ old ++ pair ∷ [])) → HoldLive letters op rs new × BeginsWith old new × Contains new pair × (length new ≤ length old + 1)
        by (inl known) =
            let within : number < length new = omega (arith, known.1, ap length known.0) in (
              subst (HoldLive letters op rs) (sym known.0) hold,
              subst (BeginsWith old) (sym known.0) (BeginsWith-itself old),
              (number, within, get_or_default new number pair [] within ∙ numbered.key_is),
              omega (arith, ap length known.0),
            )
        by (inr fresh) = (
          subst (HoldLive letters op rs) (sym fresh.1) (HoldLive-push old pair hold after dead),
          subst (BeginsWith old) (sym fresh.1) (record { more = omega (arith, length_push old pair); same = λ i less. get_or_append_left old (pair ∷ []) [] i less }),
          subst (λ ks. Contains ks pair) (sym fresh.1) (Contains-last old pair),
          omega (arith, ap length fresh.1, length_push old pair),
        )

    module _ (start_lives : is_dead_pair op rs (first_key rs) ≡ false) (accepts : List ℕ → Bool) (keys : List (List ℕ)) (d : Automaton) (explored : IsExplored letters (first_key rs) (live_pair_after op rs) accepts keys d) where
      reached_at : (firsts : List (List ℕ)) → IsNumberedByFirsts d firsts → letters_of d ≡ letters → (q : ℕ) → q < states_of d → IsReached letters rs (key_at keys q)
      reached_at firsts numbered same q within =
          let w = get_or firsts q [] in
          let over : IsWord letters w = subst (λ n. IsWord n w) same (numbered.over q within) in
          let leads : key_run (live_pair_after op rs) (first_key rs) w ≡ Some (key_at keys q) =
          by w q (run_of d 0 w) (numbered.lead q within) (run_of-explored letters (first_key rs) (live_pair_after op rs) accepts keys d explored w 0 (omega (arith, within)) over) in
          (w, over, sym (tuple_after-lead rs w) ∙ run_some rs op letters are start_lives w (key_at keys q) leads)
        where
          by : (w : List ℕ) (q : ℕ) (o : Option ℕ) → o ≡ Some q → MatchOption o (key_run (live_pair_after op rs) (key_at keys 0) w ≡ None) (λ t. (t < states_of d) × (key_run (live_pair_after op rs) (key_at keys 0) w ≡ Some (key_at keys t)))
              → key_run (live_pair_after op rs) (first_key rs) w ≡ Some (key_at keys q)
          by w q None is none = cc
          by w q (Some t) is some =
              let at : t ≡ q = cc in
              ap (λ k. key_run (live_pair_after op rs) k w) (sym explored.start_is) ∙ some.1 ∙ ap (λ p. Some (key_at keys p)) at

      live_at : (key : List ℕ) → Contains keys key → (a : ℕ) → a < letters → is_dead_pair op rs (next_key rs key a) ≡ false → Contains keys (next_key rs key a)
      live_at key there a small live =
          let within : there.0 < states_of d = omega (arith, there.1, explored.count) in
          let at : key_at keys there.0 ≡ key = get_or_default keys there.0 [] key there.1 ∙ there.2 in
          let some : live_pair_after op rs (key_at keys there.0) a ≡ Some (next_key rs key a) =
          ap (λ k. live_pair_after op rs k a) at ∙ ap (λ b. if b then None else Some (next_key rs key a)) live in
          by there.0 some (step_of d there.0 a) (explored.transitions there.0 a within small)
        where
          by : (p : ℕ) → live_pair_after op rs (key_at keys p) a ≡ Some (next_key rs key a) → (o : Option ℕ)
              → MatchOption o (live_pair_after op rs (key_at keys p) a ≡ None) (λ t. (t < states_of d) × (live_pair_after op rs (key_at keys p) a ≡ Some (key_at keys t))) → Contains keys (next_key rs key a)
          by p is None none = let no : Some (next_key rs key a) ≡ None = sym is ∙ none in cc
          by p is (Some t) some =
              let both : Some (key_at keys t) ≡ Some (next_key rs key a) = sym some.1 ∙ is in
              let same : key_at keys t ≡ next_key rs key a = cc in
              let within : t < length keys = omega (arith, some.0, explored.count) in
              (t, within, get_or_default keys t (next_key rs key a) [] within ∙ same)

      -- the keys of the exploration are those of the live pairs that words lead to
      pub HoldLive-explored : (firsts : List (List ℕ)) → IsNumberedByFirsts d firsts → letters_of d ≡ letters → 0 < states_of d → All (AreStates rs) keys → HoldLive letters op rs keys
      HoldLive-explored firsts numbered same initial states = record {
        reached = All-from_get_or (IsReached letters rs) keys [] (λ q within. reached_at firsts numbered same q (omega (arith, within, explored.count)));
        states = states;
        first = (0, omega (arith, initial, explored.count), get_or_default keys 0 (first_key rs) [] (omega (arith, initial, explored.count)) ∙ explored.start_is);
        live = live_at;
      }

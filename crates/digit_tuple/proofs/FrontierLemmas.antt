-- Keys and the first words that lead to them, while the letters of the keys are tried in turn.
use Rattle.std.proofs.Common.{◌≡◌, ◌≢◌, ◌==◌, ℕ, zero, suc, ◌+◌, ◌<◌, ◌≤◌, Bool, true, false, if◌then◌else◌, List, [], ◌∷◌, ◌++◌, length, get_or, Option, None, Some, MatchOption, ◌⊎◌, inl, inr, refl, sym, ap, ◌∙◌, subst, eq-eqb, arith}
use Rattle.std.specs.List.{All, AllPairs}
use Rattle.std.specs.Option.{option_and_then}
use Rattle.std.proofs.lemmas.Bool.{ne_eqb, cases_lt}
use Rattle.std.proofs.lemmas.Bool.Decides.{eqb_tells}
use Rattle.std.proofs.lemmas.List.{length_push, get_or_append_left, get_or_push}
use Rattle.std.proofs.lemmas.List.Quantifiers.{all_pairs_push}
use Rattle.digit_tuple.specs.declared.transitions.Transition.{Transition}
use Rattle.digit_tuple.specs.Deterministic.{State, target_by}
use Rattle.digit_tuple.specs.Letters.{IsWord}
use Rattle.digit_tuple.specs.Shortlex.{IsBefore}
use Rattle.digit_tuple.proofs.ShortlexLemmas.{IsBefore-trans, IsBefore-push, IsBefore-last}
use Rattle.digit_tuple.proofs.WordLemmas.{IsWord-push}
use Rattle.digit_tuple.specs.Keys.{KeyTransition, key_by, key_run, AreKeyTransitions, IsByEarlier}
use Rattle.digit_tuple.specs.Explored.{AreApart, IsNumbered, AreNumbered, key_at}
use Rattle.digit_tuple.specs.Exploring.{NoLater, IsFrontier, LeadsTo, IsStateOf}
use Rattle.digit_tuple.proofs.KeyTransitionLemmas.{All-are_numbered, IsStateFrom}
use Rattle.std.specs.Bool.{⊤}

pub NoLater-trans : (u v w : List ℕ) → NoLater u v → NoLater v w → NoLater u w
NoLater-trans u v w (inl same) later = subst (λ x. NoLater x w) (sym same) later
NoLater-trans u v w (inr before) (inl same) = inr (subst (IsBefore u) same before)
NoLater-trans u v w (inr before) (inr later) = inr (IsBefore-trans u v w before later)

pub NoLater-push : (u v : List ℕ) (a : ℕ) → NoLater u v → NoLater (u ++ a ∷ []) (v ++ a ∷ [])
NoLater-push u v a (inl same) = inl (ap (λ x. x ++ a ∷ []) same)
NoLater-push u v a (inr before) = inr (IsBefore-push u v a a before)

-- the lists keep their elements
pub record Grows (old new : List (List ℕ)) : Type 0 where
  pub more : length old ≤ length new
  pub same : (k : ℕ) → k < length old → get_or new k [] ≡ get_or old k []

pub Grows-refl : (old : List (List ℕ)) → Grows old old
Grows-refl old = record { more = omega arith; same = λ k within. refl }

pub Grows-trans : (old mid new : List (List ℕ)) → Grows old mid → Grows mid new → Grows old new
Grows-trans old mid new g h = record { more = omega (arith, g.more, h.more); same = λ k within. h.same k (omega (arith, g.more)) ∙ g.same k within }

pub Grows-push : (old : List (List ℕ)) (x : List ℕ) → Grows old (old ++ x ∷ [])
Grows-push old x = record { more = omega (arith, length_push old x); same = λ k within. get_or_append_left old (x ∷ []) [] k within }

-- what holds at each place of two lists holds after a push
pub each_pushed : (P : List ℕ → List ℕ → Type 0) (xs ys : List (List ℕ)) (x y : List ℕ) → length ys ≡ length xs → ((q : ℕ) → q < length xs → P (get_or xs q []) (get_or ys q [])) → P x y
    → (q : ℕ) → q < length (xs ++ x ∷ []) → P (get_or (xs ++ x ∷ []) q []) (get_or (ys ++ y ∷ []) q [])
each_pushed P xs ys x y count before here q within = by (cases_lt q (length xs))
  where
    by : (q < length xs) ⊎ (length xs ≤ q) → P (get_or (xs ++ x ∷ []) q []) (get_or (ys ++ y ∷ []) q [])
    by (inl less) = subst (λ k. P k (get_or (ys ++ y ∷ []) q [])) (sym (get_or_append_left xs (x ∷ []) [] q less))
        (subst (λ w. P (get_or xs q []) w) (sym (get_or_append_left ys (y ∷ []) [] q (omega (arith, count)))) (before q less))
    by (inr more) =
        let size = length_push xs x in
        subst (λ k. P k (get_or (ys ++ y ∷ []) q [])) (sym (get_or_push xs x [] q (omega arith)))
        (subst (λ w. P x w) (sym (get_or_push ys y [] q (omega (arith, count)))) here)

-- a word and a letter after it
pub key_run-push : (after : List ℕ → ℕ → Option (List ℕ)) (key k : List ℕ) (w : List ℕ) (a : ℕ) → key_run after key w ≡ Some k → key_run after key (w ++ a ∷ []) ≡ after k a
key_run-push after key k [] a leads = last (after key a) ∙ ap (λ o. after (of o) a) leads
  where
    last : (o : Option (List ℕ)) → option_and_then (λ next. Some next) o ≡ o
    last None = refl
    last (Some next) = refl

    of : Option (List ℕ) → List ℕ
    of None = []
    of (Some x) = x
key_run-push after key k (b ∷ w) a leads = by (after key b) leads (λ next is. key_run-push after next k w a is)
  where
    by : (o : Option (List ℕ)) → option_and_then (λ next. key_run after next w) o ≡ Some k → ((next : List ℕ) → key_run after next w ≡ Some k → key_run after next (w ++ a ∷ []) ≡ after k a)
        → option_and_then (λ next. key_run after next (w ++ a ∷ [])) o ≡ after k a
    by None is rest = cc
    by (Some next) is rest = rest next is

module _ (letters : ℕ) (start : List ℕ) (after : List ℕ → ℕ → Option (List ℕ)) where
  -- the key transitions are by letters from one on, and lead where the letters do
  abbrev pub IsTrail : List ℕ → ℕ → List KeyTransition → Type 0
  IsTrail key from [] = Unit {0}
  IsTrail key from (s ∷ ss) = (from ≤ s.letter) × (s.letter < letters) × (after key s.letter ≡ Some s.key) × IsTrail key (s.letter + 1) ss

  -- the transitions lead from the key p as the key transitions say
  abbrev pub AreLed : List (List ℕ) → List (List ℕ) → ℕ → List KeyTransition → List Transition → Type 0
  AreLed keys firsts p [] [] = Unit {0}
  AreLed keys firsts p [] (e ∷ es) = ⊥
  AreLed keys firsts p (s ∷ ss) [] = ⊥
  AreLed keys firsts p (s ∷ ss) (e ∷ es) = (e.letter ≡ s.letter) × LeadsTo after keys firsts p s.letter e.target × AreLed keys firsts p ss es

  -- the first key
  pub IsFrontier-start : IsFrontier letters start after (start ∷ []) ([] ∷ []) 0 0
  IsFrontier-start = record {
    count = refl;
    positive = omega arith;
    start_is = refl;
    first_word = refl;
    apart = λ i j d before within. absurd (omega arith);
    over = over;
    lead = lead;
    ordered = λ i j d before within. absurd (omega arith);
    below = λ inside. below;
  }
    where
      over : (q : ℕ) → q < 1 → IsWord letters (get_or ([] ∷ []) q [])
      over zero within = tt
      over (suc q) within = absurd (omega arith)

      lead : (q : ℕ) → q < 1 → key_run after start (get_or ([] ∷ []) q []) ≡ Some (get_or (start ∷ []) q [])
      lead zero within = refl
      lead (suc q) within = absurd (omega arith)

      below : (q : ℕ) → q < 1 → IsBefore (get_or ([] ∷ []) q []) ([] ++ 0 ∷ [])
      below zero within = inl (omega arith)
      below (suc q) within = absurd (omega arith)

  -- another key and letter that are tried next
  pub IsFrontier-at : (keys firsts : List (List ℕ)) (p a q b : ℕ) → IsFrontier letters start after keys firsts p a
      → (q < length keys → (k : ℕ) → k < length keys → IsBefore (get_or firsts k []) (get_or firsts q [] ++ b ∷ [])) → IsFrontier letters start after keys firsts q b
  IsFrontier-at keys firsts p a q b f below = record {
    count = f.count;
    positive = f.positive;
    start_is = f.start_is;
    first_word = f.first_word;
    apart = f.apart;
    over = f.over;
    lead = f.lead;
    ordered = f.ordered;
    below = below;
  }

  -- a later letter
  pub IsFrontier-later : (keys firsts : List (List ℕ)) (p a b : ℕ) → a ≤ b → IsFrontier letters start after keys firsts p a → IsFrontier letters start after keys firsts p b
  IsFrontier-later keys firsts p a b later f = IsFrontier-at keys firsts p a p b f (λ inside q within. by (get_or firsts q []) (cases_lt a b) (f.below inside q within))
    where
      by : (w : List ℕ) → (a < b) ⊎ (b ≤ a) → IsBefore w (get_or firsts p [] ++ a ∷ []) → IsBefore w (get_or firsts p [] ++ b ∷ [])
      by w (inl less) before = IsBefore-trans w (get_or firsts p [] ++ a ∷ []) (get_or firsts p [] ++ b ∷ []) before (IsBefore-last (get_or firsts p []) a b less)
      by w (inr same) before = let e : a ≡ b = omega arith in subst (λ (n : ℕ). IsBefore w (get_or firsts p [] ++ n ∷ [])) e before

  -- the next key
  pub IsFrontier-next : (keys firsts : List (List ℕ)) (p a : ℕ) → p < length keys → IsFrontier letters start after keys firsts p a → IsFrontier letters start after keys firsts (p + 1) 0
  IsFrontier-next keys firsts p a here f = IsFrontier-at keys firsts p a (p + 1) 0 f (λ inside q within.
      IsBefore-trans (get_or firsts q []) (get_or firsts p [] ++ a ∷ []) (get_or firsts (p + 1) [] ++ 0 ∷ []) (f.below here q within)
      (IsBefore-push (get_or firsts p []) (get_or firsts (p + 1) []) a 0 (f.ordered p (p + 1) [] (omega arith) (omega (arith, f.count)))))

  -- a letter that leads to a key that was seen
  pub IsFrontier-old : (keys firsts : List (List ℕ)) (p a t : ℕ) → p < length keys → t < length keys → after (key_at keys p) a ≡ Some (key_at keys t) → IsFrontier letters start after keys firsts p a
      → IsFrontier letters start after keys firsts p (a + 1) × LeadsTo after keys firsts p a t
  IsFrontier-old keys firsts p a t here there leads f =
      (IsFrontier-later keys firsts p a (a + 1) (omega arith) f, record { within = there; key_is = leads; first = inr (f.below here t there) })

  -- a letter that leads to a new key
  pub IsFrontier-new : (keys firsts : List (List ℕ)) (p a : ℕ) (key : List ℕ) → p < length keys → a < letters → after (key_at keys p) a ≡ Some key → AreApart (keys ++ key ∷ []) → IsFrontier letters start after keys firsts p a
      → IsFrontier letters start after (keys ++ key ∷ []) (firsts ++ (get_or firsts p [] ++ a ∷ []) ∷ []) p (a + 1)
      × LeadsTo after (keys ++ key ∷ []) (firsts ++ (get_or firsts p [] ++ a ∷ []) ∷ []) p a (length keys)
  IsFrontier-new keys firsts p a key here small leads apart f = (frontier, led)
    where
      word : List ℕ
      word = get_or firsts p [] ++ a ∷ []

      size : length (keys ++ key ∷ []) ≡ length keys + 1
      size = length_push keys key

      key_kept : key_at (keys ++ key ∷ []) p ≡ key_at keys p
      key_kept = get_or_append_left keys (key ∷ []) [] p here

      first_kept : get_or (firsts ++ word ∷ []) p [] ≡ get_or firsts p []
      first_kept = get_or_append_left firsts (word ∷ []) [] p (omega (arith, f.count))

      run : key_run after start word ≡ Some key
      run = key_run-push after start (key_at keys p) (get_or firsts p []) a (f.lead p here) ∙ leads

      bound : List ℕ
      bound = get_or firsts p [] ++ (a + 1) ∷ []

      last : IsBefore word bound
      last = IsBefore-last (get_or firsts p []) a (a + 1) (omega arith)

      frontier : IsFrontier letters start after (keys ++ key ∷ []) (firsts ++ word ∷ []) p (a + 1)
      frontier = record {
        count = omega (arith, size, length_push firsts word, f.count);
        positive = omega (arith, size);
        start_is = get_or_append_left keys (key ∷ []) [] 0 f.positive ∙ f.start_is;
        first_word = get_or_append_left firsts (word ∷ []) [] 0 (omega (arith, f.positive, f.count)) ∙ f.first_word;
        apart = apart;
        over = each_pushed (λ _ w. IsWord letters w) keys firsts key word f.count f.over (IsWord-push letters (get_or firsts p []) a (f.over p here) small);
        lead = each_pushed (λ k w. key_run after start w ≡ Some k) keys firsts key word f.count f.lead run;
        ordered = all_pairs_push IsBefore firsts word f.ordered ordered;
        below = λ inside. subst (λ w. (q : ℕ) → q < length (keys ++ key ∷ []) → IsBefore (get_or (firsts ++ word ∷ []) q []) (w ++ (a + 1) ∷ [])) (sym first_kept)
            (each_pushed (λ _ w. IsBefore w bound) keys firsts key word f.count (λ q within. IsBefore-trans (get_or firsts q []) word bound (f.below here q within) last) last);
      }
        where
          ordered : (k : ℕ) (d : List ℕ) → k < length firsts → IsBefore (get_or firsts k d) word
          ordered k d within = subst (λ w. IsBefore w word) (get_or_same firsts k d within) (f.below here k (omega (arith, f.count)))
            where
              get_or_same : (xs : List (List ℕ)) (i : ℕ) (e : List ℕ) → i < length xs → get_or xs i [] ≡ get_or xs i e
              get_or_same [] i e inside = absurd (omega arith)
              get_or_same (x ∷ xs) zero e inside = refl
              get_or_same (x ∷ xs) (suc i) e inside = get_or_same xs i e (omega arith)

      led : LeadsTo after (keys ++ key ∷ []) (firsts ++ word ∷ []) p a (length keys)
      led = record {
        within = omega (arith, size);
        key_is = ap (λ k. after k a) key_kept ∙ leads ∙ ap Some (sym (get_or_push keys key [] (length keys) refl));
        first = inl (get_or_push firsts word [] (length keys) f.count ∙ ap (λ w. w ++ a ∷ []) (sym first_kept));
      }

  -- what a letter leads to stays
  pub LeadsTo-grows : (keys new firsts more : List (List ℕ)) (p a t : ℕ) → Grows keys new → Grows firsts more → length firsts ≡ length keys → p < length keys → LeadsTo after keys firsts p a t → LeadsTo after new more p a t
  LeadsTo-grows keys new firsts more p a t g h count here leads = record {
    within = omega (arith, leads.within, g.more);
    key_is = ap (λ k. after k a) (g.same p here) ∙ leads.key_is ∙ ap Some (sym (g.same t leads.within));
    first = subst (λ w. NoLater w (get_or more p [] ++ a ∷ [])) (sym (h.same t (omega (arith, leads.within, count))))
        (subst (λ w. NoLater (get_or firsts t []) (w ++ a ∷ [])) (sym (h.same p (omega (arith, count)))) leads.first);
  }

  -- a letter was tried
  pub record IsTried (keys firsts new : List (List ℕ)) (p a t : ℕ) : Type 0 where
    pub more : List (List ℕ)
    pub keys_grow : Grows keys new
    pub firsts_grow : Grows firsts more
    pub frontier : IsFrontier letters start after new more p (a + 1)
    pub leads : LeadsTo after new more p a t

  pub IsTried-letter : (keys firsts new : List (List ℕ)) (p a : ℕ) (key : List ℕ) (t : ℕ) → IsFrontier letters start after keys firsts p a → p < length keys → a < letters → after (key_at keys p) a ≡ Some key → IsNumbered keys new key t → IsTried keys firsts new p a t
  IsTried-letter keys firsts new p a key t f here small leads numbered = by numbered.old_or_new
    where
      by : ((new ≡ keys) × (t < length keys)) ⊎ ((t ≡ length keys) × (new ≡ keys ++ key ∷ [])) → IsTried keys firsts new p a t
      by (inl old) =
          let at : key_at keys t ≡ key = ap (λ ks. key_at ks t) (sym old.0) ∙ numbered.key_is in
          let both = IsFrontier-old keys firsts p a t here old.1 (leads ∙ ap Some (sym at)) f in
          subst (λ ks. IsTried keys firsts ks p a t) (sym old.0)
          (record { more = firsts; keys_grow = Grows-refl keys; firsts_grow = Grows-refl firsts; frontier = both.0; leads = both.1 })
      by (inr fresh) =
          let both = IsFrontier-new keys firsts p a key here small leads (subst AreApart fresh.1 numbered.apart) f in
          subst (λ ks. IsTried keys firsts ks p a t) (sym fresh.1)
          (record {
            more = firsts ++ (get_or firsts p [] ++ a ∷ []) ∷ [];
            keys_grow = Grows-push keys key;
            firsts_grow = Grows-push firsts (get_or firsts p [] ++ a ∷ []);
            frontier = both.0;
            leads = subst (λ n. LeadsTo after (keys ++ key ∷ []) (firsts ++ (get_or firsts p [] ++ a ∷ []) ∷ []) p a n) (sym fresh.0) both.1;
          })

  -- the transitions from a key were tried
  pub record AreTried (keys firsts new : List (List ℕ)) (p : ℕ) (ss : List KeyTransition) (es : List Transition) : Type 0 where
    pub more : List (List ℕ)
    pub bound : ℕ
    pub keys_grow : Grows keys new
    pub firsts_grow : Grows firsts more
    pub frontier : IsFrontier letters start after new more p bound
    pub led : AreLed new more p ss es

  pub AreTried-transitions : (ss : List KeyTransition) (es : List Transition) (keys firsts new : List (List ℕ)) (p a : ℕ) → IsFrontier letters start after keys firsts p a → p < length keys → IsTrail (key_at keys p) a ss → AreNumbered ss es keys new → AreTried keys firsts new p ss es
  AreTried-transitions [] [] keys firsts new p a f here trail numbered = subst (λ ks. AreTried keys firsts ks p [] []) numbered
      (record { more = firsts; bound = a; keys_grow = Grows-refl keys; firsts_grow = Grows-refl firsts; frontier = f; led = tt })
  AreTried-transitions [] (e ∷ es) keys firsts new p a f here trail numbered = absurd numbered
  AreTried-transitions (s ∷ ss) [] keys firsts new p a f here trail numbered = absurd numbered
  AreTried-transitions (s ∷ ss) (e ∷ es) keys firsts new p a f here trail numbered =
      let next : List (List ℕ) = numbered.1.0 in
      let one = IsTried-letter keys firsts next p s.letter s.key e.target (IsFrontier-later keys firsts p a s.letter trail.0 f) here trail.1 trail.2 numbered.1.1 in
      let still : p < length next = omega (arith, one.keys_grow.more) in
      let rest = AreTried-transitions ss es next one.more new p (s.letter + 1) one.frontier still (subst (λ k. IsTrail k (s.letter + 1) ss) (sym (one.keys_grow.same p here)) trail.3) numbered.1.2 in
      record {
        more = rest.more;
        bound = rest.bound;
        keys_grow = Grows-trans keys next new one.keys_grow rest.keys_grow;
        firsts_grow = Grows-trans firsts one.more rest.more one.firsts_grow rest.firsts_grow;
        frontier = rest.frontier;
        led = (numbered.0, LeadsTo-grows next new one.more rest.more p s.letter e.target rest.keys_grow rest.firsts_grow one.frontier.count still one.leads, rest.led);
      }

  -- the transitions from a key are a trail
  pub IsTrail-transitions : (key : List ℕ) (from : ℕ) (ss : List KeyTransition) → All (λ s. from ≤ s.letter) ss → All (λ s. s.letter < letters) ss → AllPairs IsByEarlier ss → All (λ s. after key s.letter ≡ Some s.key) ss → IsTrail key from ss
  IsTrail-transitions key from [] above range ascending leads = tt
  IsTrail-transitions key from (s ∷ ss) above range ascending leads = (
    above 0 s (omega arith),
    range 0 s (omega arith),
    leads 0 s (omega arith),
    IsTrail-transitions key (s.letter + 1) ss (λ k d within. let less = ascending 0 (suc k) d (omega arith) (omega arith) in omega (arith, less)) (λ k d within. range (suc k) d (omega arith))
        (λ i j d before within. ascending (suc i) (suc j) d (omega arith) (omega arith)) (λ k d within. leads (suc k) d (omega arith)),
  )

  pub IsTrail-prefix : (key : List ℕ) (from : ℕ) (ss more : List KeyTransition) → IsTrail key from (ss ++ more) → IsTrail key from ss
  IsTrail-prefix key from [] more trail = tt
  IsTrail-prefix key from (s ∷ ss) more trail = (trail.0, trail.1, trail.2, IsTrail-prefix key (s.letter + 1) ss more trail.3)

-- the first transition by the letter of one of them is that one
pub key_by-at : (ss : List KeyTransition) → AllPairs IsByEarlier ss → All (λ s. key_by ss s.letter ≡ Some s.key) ss
key_by-at [] ascending k d within = absurd (omega arith)
key_by-at (s ∷ ss) ascending zero d within = ap (λ b. if b then Some s.key else key_by ss s.letter) (eq-eqb s.letter s.letter refl)
key_by-at (s ∷ ss) ascending (suc k) d within =
    let less = ascending 0 (suc k) d (omega arith) (omega arith) in
    ap (λ b. if b then Some s.key else key_by ss (get_or ss k d).letter) (ne_eqb s.letter (get_or ss k d).letter (λ same. omega (arith, same, less)))
    ∙ key_by-at ss (λ i j e before inside. ascending (suc i) (suc j) e (omega arith) (omega arith)) k d (omega arith)

-- what holds of the keys, and of all that letters lead to from one of them, holds of all after its state
pub All-state_from : (P : List ℕ → Type 0) (letters : ℕ) (after : ℕ → Option (List ℕ)) (accepting : Bool) (old new : List (List ℕ)) (state : State) → ((a : ℕ) → a < letters → MatchOption (after a) ⊤ P)
    → IsStateFrom letters after accepting old new state → All P old → All P new
All-state_from P letters after accepting old new state closed from all = All-are_numbered P from.key_transitions state.transitions old new from.numbered
    (λ k d within. let leads : after (get_or from.key_transitions k d).letter ≡ Some (get_or from.key_transitions k d).key = sym (from.are.lead (get_or from.key_transitions k d).letter (from.are.in_range k d within)) ∙ key_by-at from.key_transitions from.are.ascending k d within in
    subst (λ o. MatchOption o ⊤ P) leads (closed (get_or from.key_transitions k d).letter (from.are.in_range k d within))) all

module _ (letters : ℕ) (start : List ℕ) (after : List ℕ → ℕ → Option (List ℕ)) where
  pub IsTrail-are : (key : List ℕ) (ss : List KeyTransition) → AreKeyTransitions letters (after key) ss → IsTrail letters start after key 0 ss
  IsTrail-are key ss are = IsTrail-transitions letters start after key 0 ss (λ k d within. omega arith) are.in_range are.ascending
      (λ k d within. sym (are.lead (get_or ss k d).letter (are.in_range k d within)) ∙ key_by-at ss are.ascending k d within)

  -- the transitions lead as the first key transition by each letter says
  pub AreLed-match : (keys firsts : List (List ℕ)) (p : ℕ) (ss : List KeyTransition) (es : List Transition) → AreLed letters start after keys firsts p ss es → (a : ℕ)
      → MatchOption (target_by es a) (key_by ss a ≡ None) (LeadsTo after keys firsts p a)
  AreLed-match keys firsts p [] [] led a = refl
  AreLed-match keys firsts p [] (e ∷ es) led a = absurd led
  AreLed-match keys firsts p (s ∷ ss) [] led a = absurd led
  AreLed-match keys firsts p (s ∷ ss) (e ∷ es) led a =
      subst (λ n. MatchOption (if n == a then Some e.target else target_by es a) (key_by (s ∷ ss) a ≡ None) (LeadsTo after keys firsts p a)) (sym led.0)
      (by (eqb_tells s.letter a) (AreLed-match keys firsts p ss es led.2 a))
    where
      by : (((s.letter == a) ≡ true) × (s.letter ≡ a)) ⊎ (((s.letter == a) ≡ false) × (s.letter ≢ a)) → MatchOption (target_by es a) (key_by ss a ≡ None) (LeadsTo after keys firsts p a)
          → MatchOption (if s.letter == a then Some e.target else target_by es a) ((if s.letter == a then Some s.key else key_by ss a) ≡ None) (LeadsTo after keys firsts p a)
      by (inl same) rest = subst (λ b. MatchOption (if b then Some e.target else target_by es a) ((if b then Some s.key else key_by ss a) ≡ None) (LeadsTo after keys firsts p a)) (sym same.0)
          (subst (λ n. LeadsTo after keys firsts p n e.target) same.1 led.1)
      by (inr other) rest = subst (λ b. MatchOption (if b then Some e.target else target_by es a) ((if b then Some s.key else key_by ss a) ≡ None) (LeadsTo after keys firsts p a)) (sym other.0) rest

  -- transitions are as many as their key transitions, by the same letters, and lead to keys
  pub AreLed-length : (keys firsts : List (List ℕ)) (p : ℕ) (ss : List KeyTransition) (es : List Transition) → AreLed letters start after keys firsts p ss es → length es ≡ length ss
  AreLed-length keys firsts p [] [] led = refl
  AreLed-length keys firsts p [] (e ∷ es) led = absurd led
  AreLed-length keys firsts p (s ∷ ss) [] led = absurd led
  AreLed-length keys firsts p (s ∷ ss) (e ∷ es) led = omega (arith, AreLed-length keys firsts p ss es led.2)

  pub AreLed-letters : (keys firsts : List (List ℕ)) (p : ℕ) (ss : List KeyTransition) (es : List Transition) → AreLed letters start after keys firsts p ss es → (k : ℕ) (d : Transition) (c : KeyTransition) → k < length es → (get_or es k d).letter ≡ (get_or ss k c).letter
  AreLed-letters keys firsts p [] [] led k d c within = absurd (omega arith)
  AreLed-letters keys firsts p [] (e ∷ es) led k d c within = absurd led
  AreLed-letters keys firsts p (s ∷ ss) [] led k d c within = absurd led
  AreLed-letters keys firsts p (s ∷ ss) (e ∷ es) led zero d c within = led.0
  AreLed-letters keys firsts p (s ∷ ss) (e ∷ es) led (suc k) d c within = AreLed-letters keys firsts p ss es led.2 k d c (omega arith)

  pub AreLed-targets : (keys firsts : List (List ℕ)) (p : ℕ) (ss : List KeyTransition) (es : List Transition) → AreLed letters start after keys firsts p ss es → All (λ e. e.target < length keys) es
  AreLed-targets keys firsts p [] [] led k d within = absurd (omega arith)
  AreLed-targets keys firsts p [] (e ∷ es) led k d within = absurd led
  AreLed-targets keys firsts p (s ∷ ss) [] led k d within = absurd led
  AreLed-targets keys firsts p (s ∷ ss) (e ∷ es) led zero d within = led.1.within
  AreLed-targets keys firsts p (s ∷ ss) (e ∷ es) led (suc k) d within = AreLed-targets keys firsts p ss es led.2 k d (omega arith)

  -- the state of a key whose transitions were tried
  pub IsStateOf-tried : (accepts : List ℕ → Bool) (old keys firsts : List (List ℕ)) (p : ℕ) (ss : List KeyTransition) (state : State) → key_at keys p ≡ key_at old p → AreKeyTransitions letters (after (key_at old p)) ss → AreLed letters start after keys firsts p ss state.transitions
      → state.accepting ≡ accepts (key_at old p) → IsStateOf letters after accepts keys firsts p state
  IsStateOf-tried accepts old keys firsts p ss state same are led accepting = record {
    accepting = accepting ∙ ap accepts (sym same);
    in_range = λ k d within. let c : KeyTransition = record { letter = 0; key = [] } in
        (subst (λ n. n < letters) (sym (AreLed-letters keys firsts p ss state.transitions led k d c within)) (are.in_range k c (omega (arith, size))), AreLed-targets keys firsts p ss state.transitions led k d within);
    ascending = λ i j d before within. let c : KeyTransition = record { letter = 0; key = [] } in
        let less = are.ascending i j c before (omega (arith, size)) in
        omega (arith, less, AreLed-letters keys firsts p ss state.transitions led i d c (omega arith), AreLed-letters keys firsts p ss state.transitions led j d c within);
    leads = λ a small. subst (λ o. MatchOption (target_by state.transitions a) (o ≡ None) (LeadsTo after keys firsts p a)) (are.lead a small ∙ ap (λ k. after k a) (sym same)) (AreLed-match keys firsts p ss state.transitions led a);
  }
    where
      size : length state.transitions ≡ length ss
      size = AreLed-length keys firsts p ss state.transitions led

  pub IsStateOf-grows : (accepts : List ℕ → Bool) (keys new firsts more : List (List ℕ)) (p : ℕ) (state : State) → Grows keys new → Grows firsts more → length firsts ≡ length keys → p < length keys
      → IsStateOf letters after accepts keys firsts p state → IsStateOf letters after accepts new more p state
  IsStateOf-grows accepts keys new firsts more p state g h count here is = record {
    accepting = is.accepting ∙ ap accepts (sym (g.same p here));
    in_range = λ k d within. let range = is.in_range k d within in (range.0, omega (arith, range.1, g.more));
    ascending = is.ascending;
    leads = λ a small. by a (target_by state.transitions a) (is.leads a small);
  }
    where
      by : (a : ℕ) (o : Option ℕ) → MatchOption o (after (key_at keys p) a ≡ None) (LeadsTo after keys firsts p a) → MatchOption o (after (key_at new p) a ≡ None) (LeadsTo after new more p a)
      by a None none = ap (λ k. after k a) (g.same p here) ∙ none
      by a (Some t) leads = LeadsTo-grows letters start after keys new firsts more p a t g h count here leads

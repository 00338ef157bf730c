-- Where words lead automata that read side by side.
use Rattle.std.proofs.Common.{◌≡◌, ℕ, ◌<◌, Bool, true, false, List, [], ◌∷◌, length, map, None, Some, refl, sym, ap, ◌∙◌, arith, if◌then◌else◌}
use Rattle.std.specs.Option.{option_and_then, option_map_or}
use Rattle.std.specs.List.{range_with_len}
use Rattle.std.proofs.lemmas.List.{get_or-map, length-map}
use Rattle.std.proofs.lemmas.List.FromFn.{fill_by_all, length-map-range_with_len, get_or-map-range_with_len}
use Rattle.digit_tuple.specs.Letters.{IsWord}
use Rattle.digit_tuple.specs.Deterministic.{letters_of, accepting_of, accepts_of}
use Rattle.digit_tuple.specs.Keys.{key_run, key_accepts, LeadAlike}
use Rattle.residual_classes.specs.Classes.{next_of, first_of}
use Rattle.digit_tuple.proofs.KeyLemmas.{key_accepts-run}
use Rattle.product_op.specs.declared.rule.Rule.{Rule}
use Rattle.product_op.specs.Readings.{Reading, AreReadings, AreCanonical, AreAlike, no_reading, reading_at, part_read, word_read, state_at, first_key, next_key, flags_at, flags_of, combined}
use Rattle.product_op.specs.SinkKeys.{is_dead_key, live_key, live_key_after}
use Rattle.product_op.proofs.SinkKeyLemmas.{dead_next, dead_one, dead_refuses}
use Rattle.digit_tuple.proofs.RangeLemmas.{map-range-same, map-range-list}
use Rattle.minimise.proofs.LeadLemmas.{lead, accepting_of-lead, accepts_of-first, SameAfter-lead, one_lead}

some_value : (a b : List ℕ) → Some a ≡ Some b → a ≡ b
some_value a b same = cc

module _ (rs : List Reading) where
  -- where a word leads each automaton
  abbrev pub lead_key : List ℕ → List ℕ → List ℕ
  lead_key key w = map (λ i. lead (reading_at rs i).automaton (state_at key i) (word_read (reading_at rs i) w)) (range_with_len 0 (length rs))

  pub length-next_key : (key : List ℕ) (a : ℕ) → length (next_key rs key a) ≡ length rs
  length-next_key key a = length-map-range_with_len (λ i. next_of (reading_at rs i).automaton (state_at key i) (part_read (reading_at rs i) a)) 0 (length rs)

  pub length-first_key : length (first_key rs) ≡ length rs
  length-first_key = length-map rs (λ r. first_of r.automaton)

  pub lead_key-next : (key : List ℕ) (a : ℕ) (w : List ℕ) → lead_key (next_key rs key a) w ≡ lead_key key (a ∷ w)
  lead_key-next key a w = map-range-same
      (λ i. lead (reading_at rs i).automaton (state_at (next_key rs key a) i) (word_read (reading_at rs i) w))
      (λ i. lead (reading_at rs i).automaton (state_at key i) (word_read (reading_at rs i) (a ∷ w)))
      (length rs) 0
      (λ i within. ap (λ q. lead (reading_at rs i).automaton q (word_read (reading_at rs i) w))
      (get_or-map-range_with_len (λ j. next_of (reading_at rs j).automaton (state_at key j) (part_read (reading_at rs j) a)) 0 (length rs) i i 0 within (omega arith)))

  pub lead_key-nil : (key : List ℕ) → length key ≡ length rs → key ≡ lead_key key []
  lead_key-nil key long = fill_by_all (λ i. state_at key i) key (length rs) 0 long (λ k within. refl)

  pub length-lead_key : (key w : List ℕ) → length (lead_key key w) ≡ length rs
  length-lead_key key w = length-map-range_with_len (λ i. lead (reading_at rs i).automaton (state_at key i) (word_read (reading_at rs i) w)) 0 (length rs)

  pub state_at-first : (i : ℕ) → i < length rs → state_at (first_key rs) i ≡ first_of (reading_at rs i).automaton
  state_at-first i within = get_or-map (λ r. first_of r.automaton) rs i no_reading 0 within

  -- the state of one of them
  pub state_at-lead : (i : ℕ) (w : List ℕ) → i < length rs → state_at (lead_key (first_key rs) w) i ≡ lead (reading_at rs i).automaton (first_of (reading_at rs i).automaton) (word_read (reading_at rs i) w)
  state_at-lead i w within =
      get_or-map-range_with_len (λ j. lead (reading_at rs j).automaton (state_at (first_key rs) j) (word_read (reading_at rs j) w)) 0 (length rs) i i 0 within (omega arith)
      ∙ ap (λ q. lead (reading_at rs i).automaton q (word_read (reading_at rs i) w)) (state_at-first i within)

  -- each accepts where its part of the word is accepted
  pub flags_at-lead : (w : List ℕ) → flags_at rs (lead_key (first_key rs) w) ≡ flags_of rs w
  flags_at-lead w =
      map-range-same
      (λ i. accepting_of (reading_at rs i).automaton (state_at (lead_key (first_key rs) w) i))
      (λ i. accepts_of (reading_at rs i).automaton (word_read (reading_at rs i) w))
      (length rs) false
      (λ i within. ap (λ q. accepting_of (reading_at rs i).automaton q) (state_at-lead i w within)
      ∙ sym (accepting_of-lead (reading_at rs i).automaton (word_read (reading_at rs i) w) (first_of (reading_at rs i).automaton))
      ∙ accepts_of-first (reading_at rs i).automaton (word_read (reading_at rs i) w))
      ∙ map-range-list (λ r. accepts_of r.automaton (word_read r w)) rs no_reading false

  module _ (rule : Rule) where
    -- a dead key leads to dead keys
    pub dead_lead : (w key : List ℕ) → length key ≡ length rs → is_dead_key rule rs key ≡ true → is_dead_key rule rs (lead_key key w) ≡ true
    dead_lead [] key long dead = sym (ap (is_dead_key rule rs) (lead_key-nil key long)) ∙ dead
    dead_lead (a ∷ w) key long dead = sym (ap (is_dead_key rule rs) (lead_key-next key a w)) ∙ dead_lead w (next_key rs key a) (length-next_key key a) (dead_next rs rule key a dead)

    live_key-dead : (key : List ℕ) → is_dead_key rule rs key ≡ true → live_key rule rs key ≡ None
    live_key-dead key dead = ap (λ b. if b then None else Some key) dead

    live_key-live : (key : List ℕ) → is_dead_key rule rs key ≡ false → live_key rule rs key ≡ Some key
    live_key-live key live = ap (λ b. if b then None else Some key) live

    key_run-lead : (w key : List ℕ) → length key ≡ length rs → is_dead_key rule rs key ≡ false → key_run (live_key_after rule rs) key w ≡ live_key rule rs (lead_key key w)
    key_run-lead [] key long live = sym (live_key-live key live) ∙ ap (live_key rule rs) (lead_key-nil key long)
    key_run-lead (a ∷ w) key long live = by (is_dead_key rule rs (next_key rs key a)) refl (key_run-lead w (next_key rs key a) (length-next_key key a))
      where
        by : (b : Bool) → is_dead_key rule rs (next_key rs key a) ≡ b → (is_dead_key rule rs (next_key rs key a) ≡ false → key_run (live_key_after rule rs) (next_key rs key a) w ≡ live_key rule rs (lead_key (next_key rs key a) w))
            → option_and_then (λ next. key_run (live_key_after rule rs) next w) (if b then None else Some (next_key rs key a)) ≡ live_key rule rs (lead_key key (a ∷ w))
        by true dead rest = sym (live_key-dead (lead_key key (a ∷ w)) (sym (ap (is_dead_key rule rs) (lead_key-next key a w)) ∙ dead_lead w (next_key rs key a) (length-next_key key a) dead))
        by false live rest = rest live ∙ ap (live_key rule rs) (lead_key-next key a w)

    -- keys that are live alike are one
    live_key-one : (key other : List ℕ) → length key ≡ length rs → length other ≡ length rs → live_key rule rs key ≡ live_key rule rs other → key ≡ other
    live_key-one key other long wide = by (is_dead_key rule rs key) (is_dead_key rule rs other) refl refl
      where
        by : (b c : Bool) → is_dead_key rule rs key ≡ b → is_dead_key rule rs other ≡ c → (if b then None else Some key) ≡ (if c then None else Some other) → key ≡ other
        by true true dead more same = dead_one rs rule key other long wide dead more
        by true false dead live same = cc
        by false true live dead same = cc
        by false false live alive same = some_value key other same

    module _ (live : is_dead_key rule rs (first_key rs) ≡ false) where
      pub run_first : (w : List ℕ) → key_run (live_key_after rule rs) (first_key rs) w ≡ live_key rule rs (lead_key (first_key rs) w)
      run_first w = key_run-lead w (first_key rs) length-first_key live

      -- what the rule says of a word
      pub key_accepts-flags : (w : List ℕ) → key_accepts (live_key_after rule rs) (λ key. combined rule (flags_at rs key)) (first_key rs) w ≡ combined rule (flags_of rs w)
      key_accepts-flags w =
          key_accepts-run (live_key_after rule rs) (λ key. combined rule (flags_at rs key)) w (first_key rs)
          ∙ ap (λ o. option_map_or (λ key. combined rule (flags_at rs key)) o false) (run_first w)
          ∙ by (is_dead_key rule rs (lead_key (first_key rs) w)) refl
          ∙ ap (combined rule) (flags_at-lead w)
        where
          by : (b : Bool) → is_dead_key rule rs (lead_key (first_key rs) w) ≡ b
              → option_map_or (λ key. combined rule (flags_at rs key)) (if b then None else Some (lead_key (first_key rs) w)) false ≡ combined rule (flags_at rs (lead_key (first_key rs) w))
          by true dead = sym (dead_refuses rs rule (lead_key (first_key rs) w) dead)
          by false alive = refl

      pub lead_from_run : (w v : List ℕ) → LeadAlike (live_key_after rule rs) (first_key rs) w v → lead_key (first_key rs) w ≡ lead_key (first_key rs) v
      lead_from_run w v same = live_key-one (lead_key (first_key rs) w) (lead_key (first_key rs) v) (length-lead_key (first_key rs) w) (length-lead_key (first_key rs) v) (sym (run_first w) ∙ same ∙ run_first v)

      pub run_from_lead : (w v : List ℕ) → lead_key (first_key rs) w ≡ lead_key (first_key rs) v → LeadAlike (live_key_after rule rs) (first_key rs) w v
      run_from_lead w v same = run_first w ∙ ap (live_key rule rs) same ∙ sym (run_first v)

  module _ (letters : ℕ) (are : AreReadings letters rs) where
    IsWord-read : (i : ℕ) (w : List ℕ) → i < length rs → IsWord letters w → IsWord (letters_of (reading_at rs i).automaton) (word_read (reading_at rs i) w)
    IsWord-read i [] within over = tt
    IsWord-read i (a ∷ w) within over =
        let is = are i no_reading within in
        (is.within a 0 (omega (arith, is.count, over.0)), IsWord-read i w within over.1)

    -- words that lead to one key have one residual after them in each
    pub alike_from_lead : (w v : List ℕ) → lead_key (first_key rs) w ≡ lead_key (first_key rs) v → AreAlike rs w v
    alike_from_lead w v keys i within =
        SameAfter-lead (reading_at rs i).automaton (word_read (reading_at rs i) w) (word_read (reading_at rs i) v)
        (sym (state_at-lead i w within) ∙ ap (λ key. state_at key i) keys ∙ state_at-lead i v within)

    -- and the other way round
    pub lead_from_alike : AreCanonical rs → (w v : List ℕ) → IsWord letters w → IsWord letters v → AreAlike rs w v → lead_key (first_key rs) w ≡ lead_key (first_key rs) v
    lead_from_alike canonical w v over there alike =
        map-range-same
        (λ i. lead (reading_at rs i).automaton (state_at (first_key rs) i) (word_read (reading_at rs i) w))
        (λ i. lead (reading_at rs i).automaton (state_at (first_key rs) i) (word_read (reading_at rs i) v))
        (length rs) 0
        (λ i within.
        let d = (reading_at rs i).automaton in
        ap (λ q. lead d q (word_read (reading_at rs i) w)) (state_at-first i within)
        ∙ one_lead d (canonical i no_reading within) (word_read (reading_at rs i) w) (word_read (reading_at rs i) v) (IsWord-read i w within over) (IsWord-read i v within there) (alike i within)
        ∙ sym (ap (λ q. lead d q (word_read (reading_at rs i) v)) (state_at-first i within)))

    module _ (rule : Rule) (live : is_dead_key rule rs (first_key rs) ≡ false) where
      pub alike_from_keys : (w v : List ℕ) → LeadAlike (live_key_after rule rs) (first_key rs) w v → AreAlike rs w v
      alike_from_keys w v same = alike_from_lead w v (lead_from_run rule live w v same)

      pub keys_from_alike : AreCanonical rs → (w v : List ℕ) → IsWord letters w → IsWord letters v → AreAlike rs w v → LeadAlike (live_key_after rule rs) (first_key rs) w v
      keys_from_alike canonical w v over there alike = run_from_lead rule live w v (lead_from_alike canonical w v over there alike)

    -- where the first key is dead no word is accepted, and all words are alike
    module _ (rule : Rule) (dead : is_dead_key rule rs (first_key rs) ≡ true) where
      pub dead-flags : (w : List ℕ) → combined rule (flags_of rs w) ≡ false
      dead-flags w = sym (ap (combined rule) (flags_at-lead w)) ∙ dead_refuses rs rule (lead_key (first_key rs) w) (dead_lead rule w (first_key rs) length-first_key dead)

      pub dead-alike : (w v : List ℕ) → AreAlike rs w v
      dead-alike w v =
          alike_from_lead w v (dead_one rs rule (lead_key (first_key rs) w) (lead_key (first_key rs) v) (length-lead_key (first_key rs) w) (length-lead_key (first_key rs) v)
          (dead_lead rule w (first_key rs) length-first_key dead) (dead_lead rule v (first_key rs) length-first_key dead))

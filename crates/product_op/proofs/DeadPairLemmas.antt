-- Pairs of states from which a connective accepts no word, since a state that it needs is a sink.
use Rattle.std.proofs.Common.{◌≡◌, ℕ, ◌<◌, Bool, true, false, not, ◌&&◌, ◌||◌, List, [], ◌∷◌, drop, length, None, Some, unwrap_or, ◌⊎◌, inl, inr, refl, sym, ap, ◌∙◌, true≢false, arith, if◌then◌else◌}
use Rattle.std.specs.Option.{option_and_then, option_map_or}
use Rattle.std.proofs.lemmas.Bool.Decides.{Decides-eqb}
use Rattle.std.proofs.lemmas.List.FromFn.{get_or-map-range_with_len}
use Rattle.digit_tuple.specs.declared.transitions.Transition.{Transition}
use Rattle.digit_tuple.specs.Deterministic.{states_of, target_by}
use Rattle.digit_tuple.specs.Keys.{key_run, key_accepts, LeadAlike}
use Rattle.digit_tuple.proofs.KeyLemmas.{key_accepts-run}
use Rattle.residual_classes.specs.Classes.{next_of}
use Rattle.residual_classes.proofs.SinkLemmas.{no_transitions_past, not_accepting_past}
use Rattle.product_op.specs.declared.op.Op.{Op}
use Rattle.product_op.specs.declared.rule.Rule.TheVariants.{Both}
use Rattle.product_op.specs.Connectives.{connective}
use Rattle.product_op.specs.DeadPairs.{ArePair, is_dead_pair, is_sink_at, live_pair, live_pair_after, needs_first, needs_second, pair_accepts}
use Rattle.product_op.specs.Readings.{Reading, reading_at, part_read, state_at, first_key, next_key, flags_at, flag_at, flags_of, combined, all_true}
use Rattle.product_op.proofs.KeyLemmas.{flags_at-lead, lead_key, lead_key-next, lead_key-nil, length-first_key, length-next_key}
use Rattle.product_op.proofs.ReaderLemmas.{flag_at-is}

both_false : (x y : Bool) → (not x && not y) ≡ true → (x ≡ false) × (y ≡ false)
both_false true y is = absurd (true≢false (sym is))
both_false false true is = absurd (true≢false (sym is))
both_false false false is = (refl, refl)

-- what it means that the connective needs the one or the other
refuses_first : (op : Op) → needs_first op ≡ true → (b : Bool) → connective op false b ≡ false
refuses_first op needs true = (both_false (connective op false true) (connective op false false) needs).0
refuses_first op needs false = (both_false (connective op false true) (connective op false false) needs).1

refuses_second : (op : Op) → needs_second op ≡ true → (b : Bool) → connective op b false ≡ false
refuses_second op needs true = (both_false (connective op true false) (connective op false false) needs).0
refuses_second op needs false = (both_false (connective op true false) (connective op false false) needs).1

module _ (rs : List Reading) where
  -- a sink leads to the sink
  sink_next : (key : List ℕ) (a i : ℕ) → i < length rs → is_sink_at rs key i ≡ true → is_sink_at rs (next_key rs key a) i ≡ true
  sink_next key a i less sink =
      let d = (reading_at rs i).automaton in
      let at : state_at key i ≡ states_of d = (Decides-eqb (state_at key i) (states_of d)).0 sink in
      (Decides-eqb (state_at (next_key rs key a) i) (states_of d)).1
      (get_or-map-range_with_len (λ j. next_of (reading_at rs j).automaton (state_at key j) (part_read (reading_at rs j) a)) 0 (length rs) i i 0 less (omega arith)
      ∙ ap (λ (es : List Transition). unwrap_or (target_by es (part_read (reading_at rs i) a)) (states_of d)) (no_transitions_past d (state_at key i) (omega (arith, at))))

  -- a sink does not accept
  sink_refuses : (key : List ℕ) (i : ℕ) → i < length rs → is_sink_at rs key i ≡ true → flag_at (flags_at rs key) i ≡ false
  sink_refuses key i less sink =
      let d = (reading_at rs i).automaton in
      let at : state_at key i ≡ states_of d = (Decides-eqb (state_at key i) (states_of d)).0 sink in
      flag_at-is rs key i less ∙ not_accepting_past d (state_at key i) (omega (arith, at))

  module _ (op : Op) where
    -- which state is a sink
    pub dead_cases : (key : List ℕ) → is_dead_pair op rs key ≡ true → (is_sink_at rs key 0 ≡ true) ⊎ ((needs_second op ≡ true) × (is_sink_at rs key 1 ≡ true))
    dead_cases key dead = by (is_sink_at rs key 0) (needs_second op) (is_sink_at rs key 1) refl refl refl dead
      where
        by : (b n c : Bool) → is_sink_at rs key 0 ≡ b → needs_second op ≡ n → is_sink_at rs key 1 ≡ c → (b || (n && c)) ≡ true → (is_sink_at rs key 0 ≡ true) ⊎ ((needs_second op ≡ true) × (is_sink_at rs key 1 ≡ true))
        by true n c first needs second is = inl first
        by false true true first needs second is = inr (needs, second)
        by false true false first needs second is = absurd (true≢false (sym is))
        by false false c first needs second is = absurd (true≢false (sym is))

    pub dead_first : (key : List ℕ) → is_sink_at rs key 0 ≡ true → is_dead_pair op rs key ≡ true
    dead_first key sink = ap (λ b. b || (needs_second op && is_sink_at rs key 1)) sink

    pub dead_second : (key : List ℕ) → needs_second op ≡ true → is_sink_at rs key 1 ≡ true → is_dead_pair op rs key ≡ true
    dead_second key needs sink = ap (λ n. is_sink_at rs key 0 || (n && is_sink_at rs key 1)) needs ∙ ap (λ c. is_sink_at rs key 0 || c) sink ∙ by (is_sink_at rs key 0)
      where
        by : (b : Bool) → (b || true) ≡ true
        by true = refl
        by false = refl

    module _ (letters : ℕ) (are : ArePair letters op rs) where
      -- a dead pair leads to dead ones
      pub dead_next : (key : List ℕ) (a : ℕ) → is_dead_pair op rs key ≡ true → is_dead_pair op rs (next_key rs key a) ≡ true
      dead_next key a dead = by (dead_cases key dead)
        where
          by : (is_sink_at rs key 0 ≡ true) ⊎ ((needs_second op ≡ true) × (is_sink_at rs key 1 ≡ true)) → is_dead_pair op rs (next_key rs key a) ≡ true
          by (inl first) = dead_first (next_key rs key a) (sink_next key a 0 (omega (arith, are.count)) first)
          by (inr second) = dead_second (next_key rs key a) second.0 (sink_next key a 1 (omega (arith, are.count)) second.1)

      -- it does not accept
      pub dead_refuses : (key : List ℕ) → is_dead_pair op rs key ≡ true → pair_accepts op rs key ≡ false
      dead_refuses key dead = by (dead_cases key dead)
        where
          refused : connective op (flag_at (flags_at rs key) 0) (flag_at (flags_at rs key) 1) ≡ false → pair_accepts op rs key ≡ false
          refused is = ap (λ b. b && all_true (drop 2 (flags_at rs key))) is

          by : (is_sink_at rs key 0 ≡ true) ⊎ ((needs_second op ≡ true) × (is_sink_at rs key 1 ≡ true)) → pair_accepts op rs key ≡ false
          by (inl first) = refused (ap (λ b. connective op b (flag_at (flags_at rs key) 1)) (sink_refuses key 0 (omega (arith, are.count)) first) ∙ refuses_first op are.needed (flag_at (flags_at rs key) 1))
          by (inr second) = refused (ap (connective op (flag_at (flags_at rs key) 0)) (sink_refuses key 1 (omega (arith, are.count)) second.1) ∙ refuses_second op second.0 (flag_at (flags_at rs key) 0))

      dead_lead : (w key : List ℕ) → length key ≡ length rs → is_dead_pair op rs key ≡ true → is_dead_pair op rs (lead_key rs key w) ≡ true
      dead_lead [] key long dead = sym (ap (is_dead_pair op rs) (lead_key-nil rs key long)) ∙ dead
      dead_lead (a ∷ w) key long dead = sym (ap (is_dead_pair op rs) (lead_key-next rs key a w)) ∙ dead_lead w (next_key rs key a) (length-next_key rs key a) (dead_next key a dead)

      live_pair-dead : (key : List ℕ) → is_dead_pair op rs key ≡ true → live_pair op rs key ≡ None
      live_pair-dead key dead = ap (λ b. if b then None else Some key) dead

      live_pair-live : (key : List ℕ) → is_dead_pair op rs key ≡ false → live_pair op rs key ≡ Some key
      live_pair-live key live = ap (λ b. if b then None else Some key) live

      run_lead : (w key : List ℕ) → length key ≡ length rs → is_dead_pair op rs key ≡ false → key_run (live_pair_after op rs) key w ≡ live_pair op rs (lead_key rs key w)
      run_lead [] key long live = sym (live_pair-live key live) ∙ ap (live_pair op rs) (lead_key-nil rs key long)
      run_lead (a ∷ w) key long live = by (is_dead_pair op rs (next_key rs key a)) refl (run_lead w (next_key rs key a) (length-next_key rs key a))
        where
          by : (b : Bool) → is_dead_pair op rs (next_key rs key a) ≡ b → (is_dead_pair op rs (next_key rs key a) ≡ false → key_run (live_pair_after op rs) (next_key rs key a) w ≡ live_pair op rs (lead_key rs (next_key rs key a) w))
              → option_and_then (λ next. key_run (live_pair_after op rs) next w) (if b then None else Some (next_key rs key a)) ≡ live_pair op rs (lead_key rs key (a ∷ w))
          by true dead rest = sym (live_pair-dead (lead_key rs key (a ∷ w)) (sym (ap (is_dead_pair op rs) (lead_key-next rs key a w)) ∙ dead_lead w (next_key rs key a) (length-next_key rs key a) dead))
          by false live rest = rest live ∙ ap (live_pair op rs) (lead_key-next rs key a w)

      module _ (live : is_dead_pair op rs (first_key rs) ≡ false) where
        -- a word leads to the pair that it leads the automata to, unless that is dead
        pub run_first : (w : List ℕ) → key_run (live_pair_after op rs) (first_key rs) w ≡ live_pair op rs (lead_key rs (first_key rs) w)
        run_first w = run_lead w (first_key rs) (length-first_key rs) live

        pub run_some : (w key : List ℕ) → key_run (live_pair_after op rs) (first_key rs) w ≡ Some key → lead_key rs (first_key rs) w ≡ key
        run_some w key leads = by (is_dead_pair op rs (lead_key rs (first_key rs) w)) (sym (run_first w) ∙ leads)
          where
            by : (b : Bool) → (if b then None else Some (lead_key rs (first_key rs) w)) ≡ Some key → lead_key rs (first_key rs) w ≡ key
            by true none = cc
            by false some = cc

        -- what the connective says of a word
        pub pair_accepts-flags : (w : List ℕ) → key_accepts (live_pair_after op rs) (pair_accepts op rs) (first_key rs) w ≡ combined (Both op) (flags_of rs w)
        pair_accepts-flags w =
            key_accepts-run (live_pair_after op rs) (pair_accepts op rs) w (first_key rs)
            ∙ ap (λ o. option_map_or (pair_accepts op rs) o false) (run_first w)
            ∙ by (is_dead_pair op rs (lead_key rs (first_key rs) w)) refl
            ∙ ap (combined (Both op)) (flags_at-lead rs w)
          where
            by : (b : Bool) → is_dead_pair op rs (lead_key rs (first_key rs) w) ≡ b
                → option_map_or (pair_accepts op rs) (if b then None else Some (lead_key rs (first_key rs) w)) false ≡ pair_accepts op rs (lead_key rs (first_key rs) w)
            by true dead = sym (dead_refuses (lead_key rs (first_key rs) w) dead)
            by false alive = refl

        pub run_from_lead : (w v : List ℕ) → lead_key rs (first_key rs) w ≡ lead_key rs (first_key rs) v → LeadAlike (live_pair_after op rs) (first_key rs) w v
        run_from_lead w v same = run_first w ∙ ap (live_pair op rs) same ∙ sym (run_first v)

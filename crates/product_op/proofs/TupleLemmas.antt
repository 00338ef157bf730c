-- Tuples of states that words lead automata to that read side by side.
use Rattle.std.proofs.Common.{◌≡◌, ℕ, ◌<◌, Bool, true, false, ◌&&◌, List, [], ◌∷◌, Option, None, Some, length, refl, sym, ap, ◌∙◌, subst, arith, if◌then◌else◌}
use Rattle.std.specs.List.{All}
use Rattle.std.specs.Option.{MatchOption}
use Rattle.std.proofs.lemmas.List.Elements.{All-nil, All-cons}
use Rattle.digit_tuple.specs.Deterministic.{Automaton, states_of, run_of}
use Rattle.digit_tuple.specs.Explored.{IsExplored, key_at}
use Rattle.digit_tuple.specs.Keys.{key_run, LeadAlike}
use Rattle.digit_tuple.specs.Letters.{IsWord}
use Rattle.digit_tuple.specs.NoWords.{bare_automaton}
use Rattle.digit_tuple.specs.Width.{HasApart, HasWidth}
use Rattle.digit_tuple.proofs.ExploredLemmas.{run_of-explored}
use Rattle.digit_tuple.proofs.RangeLemmas.{map-range-same, map-range-list}
use Rattle.digit_tuple.proofs.WidthLemmas.{HasApart-same, HasWidth-one, HasWidth-same}
use Rattle.residual_classes.specs.Classes.{first_of}
use Rattle.minimise.proofs.LeadLemmas.{lead}
use Rattle.product_op.specs.declared.rule.Rule.{Rule}
use Rattle.product_op.specs.Readings.{Reading, AreReadings, AreCanonical, AreAlike, AreStates, no_reading, reading_at, word_read, state_at, first_key}
use Rattle.product_op.specs.ReadingLaws.{first_is_key}
use Rattle.product_op.specs.SinkKeys.{are_sinks, refuses_all_sinks, is_dead_key, live_key, live_key_after}
use Rattle.product_op.specs.Tuples.{AreTuples, LeadToOne, tuple_after}
use Rattle.product_op.proofs.KeyLemmas.{lead_key, state_at-first, lead_key-nil, length-lead_key, length-first_key, dead_lead, run_first, lead_from_run, run_from_lead, alike_from_lead, lead_from_alike}
use Rattle.product_op.proofs.SinkKeyLemmas.{dead_one}

module _ (rs : List Reading) where
  pub tuple_after-lead : (w : List ℕ) → lead_key rs (first_key rs) w ≡ tuple_after rs w
  tuple_after-lead w =
      map-range-same
      (λ i. lead (reading_at rs i).automaton (state_at (first_key rs) i) (word_read (reading_at rs i) w))
      (λ i. lead (reading_at rs i).automaton (first_of (reading_at rs i).automaton) (word_read (reading_at rs i) w))
      (length rs) 0
      (λ i within. ap (λ q. lead (reading_at rs i).automaton q (word_read (reading_at rs i) w)) (state_at-first rs i within))
      ∙ map-range-list (λ r. lead r.automaton (first_of r.automaton) (word_read r w)) rs no_reading 0

  -- words that lead each automaton to one state have one residual after them in each, and the other way round
  module _ (letters : ℕ) (are : AreReadings letters rs) where
    pub alike_from_one : (w v : List ℕ) → LeadToOne rs w v → AreAlike rs w v
    alike_from_one w v same = alike_from_lead rs letters are w v (tuple_after-lead w ∙ same ∙ sym (tuple_after-lead v))

    pub one_from_alike : AreCanonical rs → (w v : List ℕ) → IsWord letters w → IsWord letters v → AreAlike rs w v → LeadToOne rs w v
    one_from_alike canonical w v over there alike = sym (tuple_after-lead w) ∙ lead_from_alike rs letters are canonical w v over there alike ∙ tuple_after-lead v

  -- a key that is dead is one of sinks
  dead_sinks : (rule : Rule) (key : List ℕ) → is_dead_key rule rs key ≡ true → are_sinks rs key ≡ true
  dead_sinks rule key dead = by (refuses_all_sinks rule (length rs)) (are_sinks rs key) refl dead
    where
      by : (b c : Bool) → are_sinks rs key ≡ c → (b && c) ≡ true → c ≡ true
      by true c is both = both
      by false c is both = let no : false ≡ true = both in cc

  module _ (rule : Rule) (live : is_dead_key rule rs (first_key rs) ≡ false) where
    abbrev Follows : List ℕ → Option (List ℕ) → Type 0
    Follows key o = MatchOption o (are_sinks rs key ≡ true) (λ k. k ≡ key)

    live_follows : (key : List ℕ) → Follows key (live_key rule rs key)
    live_follows key = by (is_dead_key rule rs key) refl
      where
        by : (b : Bool) → is_dead_key rule rs key ≡ b → Follows key (if b then None else Some key)
        by true dead = dead_sinks rule key dead
        by false alive = refl

    pub run_follows : (w : List ℕ) → Follows (tuple_after rs w) (key_run (live_key_after rule rs) (first_key rs) w)
    run_follows w =
        subst (λ key. Follows key (key_run (live_key_after rule rs) (first_key rs) w)) (tuple_after-lead w)
        (subst (Follows (lead_key rs (first_key rs) w)) (sym (run_first rs rule live w)) (live_follows (lead_key rs (first_key rs) w)))

    pub one_from_run : (w v : List ℕ) → LeadAlike (live_key_after rule rs) (first_key rs) w v → LeadToOne rs w v
    one_from_run w v same = sym (tuple_after-lead w) ∙ lead_from_run rs rule live w v same ∙ tuple_after-lead v

    pub run_from_one : (w v : List ℕ) → LeadToOne rs w v → LeadAlike (live_key_after rule rs) (first_key rs) w v
    run_from_one w v same = run_from_lead rs rule live w v (tuple_after-lead w ∙ same ∙ sym (tuple_after-lead v))

    module _ (letters : ℕ) where
      pub width-live : (k : ℕ) → HasWidth (LeadAlike (live_key_after rule rs) (first_key rs)) letters k → HasWidth (LeadToOne rs) letters k
      width-live k = HasWidth-same (LeadAlike (live_key_after rule rs) (first_key rs)) (LeadToOne rs) letters k (λ w v over there. one_from_run w v) (λ w v over there. run_from_one w v)

      pub apart-live : (k : ℕ) → HasApart (LeadAlike (live_key_after rule rs) (first_key rs)) letters k → HasApart (LeadToOne rs) letters k
      apart-live k = HasApart-same (LeadAlike (live_key_after rule rs) (first_key rs)) (LeadToOne rs) letters k (λ w v over there. run_from_one w v)

      module _ (accepts : List ℕ → Bool) (keys : List (List ℕ)) (d : Automaton) (explored : IsExplored letters (first_key rs) (live_key_after rule rs) accepts keys d) where
        leads_as : (w : List ℕ) → Follows (tuple_after rs w) (key_run (live_key_after rule rs) (key_at keys 0) w) → (o : Option ℕ)
            → MatchOption o (key_run (live_key_after rule rs) (key_at keys 0) w ≡ None) (λ t. (t < states_of d) × (key_run (live_key_after rule rs) (key_at keys 0) w ≡ Some (key_at keys t)))
            → MatchOption o (are_sinks rs (tuple_after rs w) ≡ true) (λ q. (q < states_of d) × (key_at keys q ≡ tuple_after rs w))
        leads_as w follows None none = subst (Follows (tuple_after rs w)) none follows
        leads_as w follows (Some t) some = (some.0, subst (Follows (tuple_after rs w)) some.1 follows)

        pub AreTuples-live : 0 < states_of d → All (AreStates rs) keys → AreTuples letters rs keys d
        AreTuples-live initial states = record {
          count = explored.count;
          states = states;
          leads = λ w over.
              leads_as w (subst (λ key. Follows (tuple_after rs w) (key_run (live_key_after rule rs) key w)) (sym explored.start_is) (run_follows w)) (run_of d 0 w)
              (run_of-explored letters (first_key rs) (live_key_after rule rs) accepts keys d explored w 0 initial over);
        }

  -- where the first key is dead all words lead each automaton to its sink
  module _ (rule : Rule) (dead : is_dead_key rule rs (first_key rs) ≡ true) (letters : ℕ) where
    dead_after : (w : List ℕ) → is_dead_key rule rs (lead_key rs (first_key rs) w) ≡ true
    dead_after w = dead_lead rs rule w (first_key rs) (length-first_key rs) dead

    sinks_after : (w : List ℕ) → are_sinks rs (tuple_after rs w) ≡ true
    sinks_after w = subst (λ key. are_sinks rs key ≡ true) (tuple_after-lead w) (dead_sinks rule (lead_key rs (first_key rs) w) (dead_after w))

    pub width-dead : HasWidth (LeadToOne rs) letters 1
    width-dead = HasWidth-one (LeadToOne rs) letters (λ w over.
        sym (tuple_after-lead w)
        ∙ dead_one rs rule (lead_key rs (first_key rs) w) (lead_key rs (first_key rs) []) (length-lead_key rs (first_key rs) w) (length-lead_key rs (first_key rs) []) (dead_after w) (dead_after [])
        ∙ tuple_after-lead [])

    leads_nowhere : (sizes w : List ℕ)
        → MatchOption (run_of (bare_automaton sizes) 0 w) (are_sinks rs (tuple_after rs w) ≡ true) (λ q. (q < 1) × (key_at (first_key rs ∷ []) q ≡ tuple_after rs w))
    leads_nowhere sizes [] = (omega arith, lead_key-nil rs (first_key rs) (length-first_key rs) ∙ tuple_after-lead [])
    leads_nowhere sizes (a ∷ w) = sinks_after (a ∷ w)

    pub AreTuples-dead : AreReadings letters rs → (sizes : List ℕ) (keys : List (List ℕ)) (d : Automaton) → d ≡ bare_automaton sizes → keys ≡ first_key rs ∷ [] → AreTuples letters rs keys d
    AreTuples-dead are sizes keys d is only =
        subst (λ (x : Automaton). AreTuples letters rs keys x) (sym is)
        (subst (λ ks. AreTuples letters rs ks (bare_automaton sizes)) (sym only)
        (record {
          count = refl;
          states = All-cons (AreStates rs) (first_key rs) [] (first_is_key letters rs are) (All-nil (AreStates rs));
          leads = λ w over. leads_nowhere sizes w;
        }))

-- Keys whose states are all sinks.
use Rattle.std.proofs.Common.{◌≡◌, ◌≢◌, ◌==◌, ℕ, ◌<◌, Bool, true, false, not, ◌&&◌, List, length, replicate, unwrap_or, refl, sym, ap, ◌∙◌, true≢false, arith}
use Rattle.std.specs.List.{list_all, range_with_len}
use Rattle.std.proofs.lemmas.Bool.Decides.{Decides-eqb}
use Rattle.std.proofs.lemmas.List.{ext_get_or, get_or-replicate, length-replicate}
use Rattle.std.proofs.lemmas.List.FromFn.{fill_by_all, length-range_with_len, get_or-range_with_len, get_or-map-range_with_len}
use Rattle.std.proofs.lemmas.List.Sums.{AllPass-from_list_all, list_all-from_AllPass}
use Rattle.digit_tuple.specs.declared.transitions.Transition.{Transition}
use Rattle.digit_tuple.specs.Deterministic.{states_of, accepting_of, target_by}
use Rattle.digit_tuple.proofs.RangeLemmas.{map-range-same}
use Rattle.residual_classes.specs.Classes.{next_of}
use Rattle.residual_classes.proofs.SinkLemmas.{no_transitions_past, not_accepting_past}
use Rattle.product_op.specs.declared.rule.Rule.{Rule}
use Rattle.product_op.specs.Readings.{Reading, reading_at, part_read, state_at, next_key, flags_at, combined}
use Rattle.product_op.specs.SinkKeys.{are_sinks, refuses_all_sinks, is_dead_key}

-- a test of each number below one
list_all-range : (p : ℕ → Bool) (n : ℕ) → ((i : ℕ) → i < n → p i ≡ true) → list_all p (range_with_len 0 n) ≡ true
list_all-range p n each = list_all-from_AllPass p (range_with_len 0 n) (λ k d within.
    let small : k < n = omega (arith, within, length-range_with_len 0 n) in
    ap p (get_or-range_with_len 0 n k d small ∙ omega arith) ∙ each k small)

list_all-range-at : (p : ℕ → Bool) (n i : ℕ) → i < n → list_all p (range_with_len 0 n) ≡ true → p i ≡ true
list_all-range-at p n i less all =
    ap p (omega (arith, get_or-range_with_len 0 n i 0 less)) ∙ AllPass-from_list_all p (range_with_len 0 n) all i 0 (omega (arith, length-range_with_len 0 n, less))

module _ (rs : List Reading) where
  abbrev sink_at : ℕ → ℕ
  sink_at i = states_of (reading_at rs i).automaton

  pub are_sinks-all : (key : List ℕ) → ((i : ℕ) → i < length rs → state_at key i ≡ sink_at i) → are_sinks rs key ≡ true
  are_sinks-all key each = list_all-range (λ i. state_at key i == sink_at i) (length rs) (λ i less. (Decides-eqb (state_at key i) (sink_at i)).1 (each i less))

  pub are_sinks-at : (key : List ℕ) (i : ℕ) → i < length rs → are_sinks rs key ≡ true → state_at key i ≡ sink_at i
  are_sinks-at key i less all = (Decides-eqb (state_at key i) (sink_at i)).0 (list_all-range-at (λ j. state_at key j == sink_at j) (length rs) i less all)

  pub are_sinks-not : (key : List ℕ) (i : ℕ) → i < length rs → state_at key i ≢ sink_at i → are_sinks rs key ≡ false
  are_sinks-not key i less other = by (are_sinks rs key) refl
    where
      by : (b : Bool) → are_sinks rs key ≡ b → b ≡ false
      by true is = absurd (other (are_sinks-at key i less is))
      by false is = refl

  -- sinks lead to sinks
  pub are_sinks-next : (key : List ℕ) (a : ℕ) → are_sinks rs key ≡ true → are_sinks rs (next_key rs key a) ≡ true
  are_sinks-next key a sinks = are_sinks-all (next_key rs key a) (λ i less.
      let d = (reading_at rs i).automaton in
      get_or-map-range_with_len (λ j. next_of (reading_at rs j).automaton (state_at key j) (part_read (reading_at rs j) a)) 0 (length rs) i i 0 less (omega arith)
      ∙ ap (λ (es : List Transition). unwrap_or (target_by es (part_read (reading_at rs i) a)) (states_of d)) (no_transitions_past d (state_at key i) (omega (arith, are_sinks-at key i less sinks))))

  -- there is one key of sinks
  pub are_sinks-one : (key other : List ℕ) → length key ≡ length rs → length other ≡ length rs → are_sinks rs key ≡ true → are_sinks rs other ≡ true → key ≡ other
  are_sinks-one key other long wide sinks more = ext_get_or 0 key other (long ∙ sym wide) (λ i inside.
      let less : i < length rs = omega (arith, inside, long) in
      are_sinks-at key i less sinks ∙ sym (are_sinks-at other i less more))

  -- none of them accepts
  flags_at-sinks : (key : List ℕ) → are_sinks rs key ≡ true → flags_at rs key ≡ replicate (length rs) false
  flags_at-sinks key sinks =
      map-range-same (λ i. accepting_of (reading_at rs i).automaton (state_at key i)) (λ i. false) (length rs) false
      (λ i less. not_accepting_past (reading_at rs i).automaton (state_at key i) (omega (arith, are_sinks-at key i less sinks)))
      ∙ sym (fill_by_all (λ i. false) (replicate (length rs) false) (length rs) false (length-replicate (length rs) false) (λ k less. get_or-replicate (length rs) k false false less))

  module _ (rule : Rule) where
    abbrev refuses : Bool
    refuses = refuses_all_sinks rule (length rs)

    pub dead_sinks : (key : List ℕ) → is_dead_key rule rs key ≡ true → are_sinks rs key ≡ true
    dead_sinks key dead = by refuses dead
      where
        by : (b : Bool) → (b && are_sinks rs key) ≡ true → are_sinks rs key ≡ true
        by true all = all
        by false all = absurd (true≢false (sym all))

    pub dead_refuses : (key : List ℕ) → is_dead_key rule rs key ≡ true → combined rule (flags_at rs key) ≡ false
    dead_refuses key dead = ap (combined rule) (flags_at-sinks key (dead_sinks key dead)) ∙ by (combined rule (replicate (length rs) false)) dead
      where
        by : (b : Bool) → (not b && are_sinks rs key) ≡ true → b ≡ false
        by true all = absurd (true≢false (sym all))
        by false all = refl

    -- a dead key leads to dead keys
    pub dead_next : (key : List ℕ) (a : ℕ) → is_dead_key rule rs key ≡ true → is_dead_key rule rs (next_key rs key a) ≡ true
    dead_next key a dead = by refuses dead
      where
        by : (b : Bool) → (b && are_sinks rs key) ≡ true → (b && are_sinks rs (next_key rs key a)) ≡ true
        by true all = are_sinks-next key a all
        by false all = all

    pub dead_one : (key other : List ℕ) → length key ≡ length rs → length other ≡ length rs → is_dead_key rule rs key ≡ true → is_dead_key rule rs other ≡ true → key ≡ other
    dead_one key other long wide dead more = are_sinks-one key other long wide (dead_sinks key dead) (dead_sinks other more)

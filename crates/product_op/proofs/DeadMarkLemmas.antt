-- Which pairs of a state and a sink are known.
use Rattle.std.proofs.Common.{◌≡◌, ◌≢◌, ◌==◌, ℕ, ◌-◌, ◌<◌, ◌≤◌, Bool, true, false, unwrap_or, List, Option, None, Some, MatchOption, length, get_or, set, ◌⊎◌, inl, inr, refl, sym, ap, ◌∙◌, subst, arith, eq-eqb, get_or-set_other, length-set, if◌then◌else◌}
use Rattle.std.specs.List.{AllWithin, Contains}
use Rattle.std.proofs.lemmas.Bool.{cases_eq, ne_eqb}
use Rattle.std.proofs.lemmas.Bool.Decides.{Decides-eqb}
use Rattle.std.proofs.lemmas.List.{get_or_default}
use Rattle.std.proofs.lemmas.List.FromFn.{get_or-map-range_with_len}
use Rattle.digit_tuple.specs.declared.transitions.Transition.{Transition}
use Rattle.digit_tuple.specs.Deterministic.{Automaton, IsRow, letters_of, states_of, transitions_of, target_by}
use Rattle.digit_tuple.proofs.DfaLemmas.{target_by-at}
use Rattle.digit_tuple.proofs.RangeLemmas.{map-range-same}
use Rattle.residual_classes.specs.Classes.{next_of}
use Rattle.product_op.specs.declared.op.Op.{Op}
use Rattle.product_op.specs.DeadExits.{LeadsOut}
use Rattle.product_op.specs.DeadMarks.{AreMarked, HoldBeside, OtherOut, all_sinks, beside_sinks}
use Rattle.product_op.specs.DeadPairs.{ArePair, is_dead_pair, is_sink_at, needs_second}
use Rattle.product_op.specs.PairLists.{BeginsWith, HoldAfter, HoldLive}
use Rattle.product_op.specs.Readings.{Reading, no_reading, part_read, reading_at, state_at, next_key}
use Rattle.product_op.proofs.DeadPairLemmas.{dead_cases}
use Rattle.product_op.proofs.LetterJoinLemmas.{leads_or_not}
use Rattle.product_op.proofs.PairListLemmas.{Contains-begins}

-- the transition at a place leads where its letter does
pub next_of-at : (d : Automaton) (state : ℕ) (row : List Transition) (i : ℕ) (z : Transition) → row ≡ transitions_of d state → IsRow (letters_of d) (states_of d) row → i < length row
    → next_of d state (get_or row i z).letter ≡ (get_or row i z).target
next_of-at d state row i z is are inside =
    let earlier : AllWithin (λ e. e.letter < (get_or row i z).letter) row 0 i = λ k w low less. ascends k w less in
    ap (λ (es : List Transition). unwrap_or (target_by es (get_or row i z).letter) (states_of d)) (sym is) ∙ ap (λ o. unwrap_or o (states_of d)) (target_by-at row (get_or row i z).letter i z earlier inside refl)
  where
    ascends : (k : ℕ) (w : Transition) → k < i → (get_or row k w).letter < (get_or row i z).letter
    ascends k w less = omega (arith, are.ascending k i w less inside, ap (λ (e : Transition). e.letter) (get_or_default row i w z inside))

-- each of two automata reads a part of each letter
pub length-parts : (letters : ℕ) (op : Op) (rs : List Reading) → ArePair letters op rs → (i : ℕ) → i < 2 → length (reading_at rs i).parts ≡ letters
length-parts letters op rs pair i less = (pair.readings_are i no_reading (omega (arith, less, pair.count))).count

-- what is said of an option, where it is known which
pub match_some : (o : Option ℕ) (x : ℕ) (N : Type 0) (S : ℕ → Type 0) → o ≡ Some x → MatchOption o N S → S x
match_some o x N S is holds = subst (λ p. MatchOption p N S) is holds

pub match_none : (o : Option ℕ) (N : Type 0) (S : ℕ → Type 0) → o ≡ None → MatchOption o N S → N
match_none o N S is holds = subst (λ p. MatchOption p N S) is holds

module _ (rs : List Reading) (two : length rs ≡ 2) (own : ℕ) (small : own < 2) (key : List ℕ) where
  abbrev next_at : ℕ → ℕ → ℕ
  next_at a i = next_of (reading_at rs i).automaton (state_at key i) (part_read (reading_at rs i) a)

  either : (P : ℕ → Type 0) → P own → P (1 - own) → (i : ℕ) → i < 2 → P i
  either P here there i less = by (cases_eq own i)
    where
      by : (own ≡ i) ⊎ (own ≢ i) → P i
      by (inl same) = subst P same here
      by (inr other) = let at : 1 - own ≡ i = omega (arith, less, small, other) in subst P at there

  -- where a letter leads the one to a state, and the other to its sink
  pub next_key-beside : (state a : ℕ) → next_at a own ≡ state → OtherOut rs own key a → next_key rs key a ≡ beside_sinks rs own state
  next_key-beside state a on out = map-range-same (next_at a) beside (length rs) 0 (λ i within. either (λ j. next_at a j ≡ beside j) (on ∙ sym at_own) (out ∙ sym at_other) i (omega (arith, within, two)))
    where
      beside : ℕ → ℕ
      beside i = if i == own then state else states_of (reading_at rs i).automaton

      at_own : beside own ≡ state
      at_own = ap (λ b. if b then state else states_of (reading_at rs own).automaton) (eq-eqb own own refl)

      at_other : beside (1 - own) ≡ states_of (reading_at rs (1 - own)).automaton
      at_other = ap (λ b. if b then state else states_of (reading_at rs (1 - own)).automaton) (ne_eqb (1 - own) own (λ same. absurd (omega (arith, same, small))))

  -- where it leads both to their sinks
  pub next_key-sinks : (a : ℕ) → LeadsOut (reading_at rs own) (state_at key own) a → OtherOut rs own key a → next_key rs key a ≡ all_sinks rs
  next_key-sinks a out gone = map-range-same (next_at a) (λ i. states_of (reading_at rs i).automaton) (length rs) 0 (λ i within. either (λ j. next_at a j ≡ states_of (reading_at rs j).automaton) out gone i (omega (arith, within, two)))

  module _ (letters : ℕ) (keys : List (List ℕ)) (part state : ℕ) (leads : next_of (reading_at rs own).automaton (state_at key own) part ≡ state) where
    -- the letters with a part that leads to the state lead to one pair
    pub HoldBeside-there : Contains keys (beside_sinks rs own state) → HoldBeside letters rs own key part keys
    HoldBeside-there there a low same out = subst (Contains keys) (sym (next_key-beside state a (ap (next_of (reading_at rs own).automaton (state_at key own)) same ∙ leads) out)) there

    pub beside-there : (a : ℕ) → part_read (reading_at rs own) a ≡ part → OtherOut rs own key a → Contains keys (next_key rs key a) → Contains keys (beside_sinks rs own state)
    beside-there a same out there = subst (Contains keys) (next_key-beside state a (ap (next_of (reading_at rs own).automaton (state_at key own)) same ∙ leads) out) there

  -- where those of all transitions are there, so are those of all letters that lead on
  pub HoldBeside-all : (letters : ℕ) (keys : List (List ℕ)) (row : List Transition) (z : Transition) (count : ℕ) → row ≡ transitions_of (reading_at rs own).automaton (state_at key own) → length row ≤ count
      → ((i : ℕ) → i < count → HoldBeside letters rs own key (get_or row i z).letter keys) → (a : ℕ) → a < letters → ¬ LeadsOut (reading_at rs own) (state_at key own) a → OtherOut rs own key a → Contains keys (next_key rs key a)
  HoldBeside-all letters keys row z count is all hold a low on out = by (leads_or_not (reading_at rs own) (state_at key own) (part_read (reading_at rs own) a) row is)
    where
      by : ((i : ℕ) × (i < length row) × ((e : Transition) → (get_or row i e).letter ≡ part_read (reading_at rs own) a)) ⊎ LeadsOut (reading_at rs own) (state_at key own) a → Contains keys (next_key rs key a)
      by (inl found) = hold found.0 (omega (arith, found.1, all)) a low (sym (found.2 z)) out
      by (inr gone) = absurd (on gone)

module _ (rs : List Reading) (own : ℕ) (marks : List Bool) where
  -- marks stay true of more keys
  pub AreMarked-begins : (old new : List (List ℕ)) → BeginsWith old new → AreMarked rs own marks old → AreMarked rs own marks new
  AreMarked-begins old new begins are = record { count = are.count; there = λ state marked. Contains-begins old new (beside_sinks rs own state) begins (are.there state marked) }

  -- one mark more
  pub AreMarked-set : (keys : List (List ℕ)) (state : ℕ) → state < length marks → Contains keys (beside_sinks rs own state) → AreMarked rs own marks keys → AreMarked rs own (set marks state true) keys
  AreMarked-set keys state within there are = record { count = length-set marks state true ∙ are.count; there = λ q marked. by q marked (cases_eq q state) }
    where
      by : (q : ℕ) → get_or (set marks state true) q false ≡ true → (q ≡ state) ⊎ (q ≢ state) → Contains keys (beside_sinks rs own q)
      by q marked (inl same) = subst (λ p. Contains keys (beside_sinks rs own p)) (sym same) there
      by q marked (inr other) = are.there q (sym (get_or-set_other marks state q true false other) ∙ marked)

module _ (letters : ℕ) (op : Op) (rs : List Reading) (two : length rs ≡ 2) (key : List ℕ) (keys : List (List ℕ)) (hold : HoldLive letters op rs keys) (there : Contains keys key) where
  abbrev Out : ℕ → ℕ → Type 0
  Out i a = LeadsOut (reading_at rs i) (state_at key i) a

  out_at : (a i : ℕ) → i < 2 → is_sink_at rs (next_key rs key a) i ≡ true → Out i a
  out_at a i less sink =
      sym (get_or-map-range_with_len (λ j. next_of (reading_at rs j).automaton (state_at key j) (part_read (reading_at rs j) a)) 0 (length rs) i i 0 (omega (arith, two, less)) (omega arith))
      ∙ (Decides-eqb (state_at (next_key rs key a) i) (states_of (reading_at rs i).automaton)).0 sink

  -- all that letters lead to from a key are there: sinks, a state beside a sink, and live pairs
  pub HoldAfter-marked : ((a : ℕ) → a < letters → Out 0 a → Out 1 a → Contains keys (next_key rs key a)) → ((a : ℕ) → a < letters → ¬ Out 0 a → Out 1 a → Contains keys (next_key rs key a))
      → ((a : ℕ) → a < letters → ¬ Out 1 a → Out 0 a → Contains keys (next_key rs key a)) → HoldAfter letters rs key keys
  HoldAfter-marked both first second a low = by (cases_eq (next_of (reading_at rs 0).automaton (state_at key 0) (part_read (reading_at rs 0) a)) (states_of (reading_at rs 0).automaton)) (cases_eq (next_of (reading_at rs 1).automaton (state_at key 1) (part_read (reading_at rs 1) a)) (states_of (reading_at rs 1).automaton))
    where
      neither : ¬ Out 0 a → ¬ Out 1 a → (is_sink_at rs (next_key rs key a) 0 ≡ true) ⊎ ((needs_second op ≡ true) × (is_sink_at rs (next_key rs key a) 1 ≡ true)) → ⊥
      neither on beside (inl sink) = on (out_at a 0 (omega arith) sink)
      neither on beside (inr sink) = beside (out_at a 1 (omega arith) sink.1)

      live : (b : Bool) → is_dead_pair op rs (next_key rs key a) ≡ b → ¬ Out 0 a → ¬ Out 1 a → Contains keys (next_key rs key a)
      live true dead on beside = absurd (neither on beside (dead_cases rs op (next_key rs key a) dead))
      live false alive on beside = hold.live key there a low alive

      by : Out 0 a ⊎ ¬ Out 0 a → Out 1 a ⊎ ¬ Out 1 a → Contains keys (next_key rs key a)
      by (inl out) (inl gone) = both a low out gone
      by (inr on) (inl gone) = first a low on gone
      by (inl out) (inr on) = second a low on out
      by (inr on) (inr beside) = live (is_dead_pair op rs (next_key rs key a)) refl on beside

-- Where runs are before blocks, and the places of lines.
use Rattle.std.proofs.Common.{◌≡◌, ℕ, ◌+◌, ◌*◌, ◌-◌, ◌/◌, ◌<◌, ◌≤◌, Bool, true, false, List, length, drop, get_or, slice_index, not, suc, Option, None, Some, sym, ap, ◌∙◌, get_or-drop, get_or-take, arith}
use Rattle.std.specs.List.{position_or_len}
use Rattle.std.specs.Option.{IfSome}
use Rattle.std.proofs.lemmas.List.FromFn.{get_or-map-range_with_len}
use Rattle.std.proofs.lemmas.List.Sums.{prefix_len_is}
use Rattle.std.proofs.lemmas.Option.{none-some, same_Some}
use Rattle.digit_tuple.specs.Deterministic.{Automaton, letters_of, states_of}
use Rattle.residual_classes.specs.Classes.{next_of}
use Rattle.class_reversal.specs.BackwardClasses.{AreTargets}
use Rattle.transducer_reading.specs.Transducers.{Transducer}
use Rattle.word_output.specs.LetterFunctions.{LetterFunctionValue}
use Rattle.word_transduce.specs.BlockMaps.{at_pairs, map_at, pairs_of, state_before}
use Rattle.word_transduce.proofs.PairLemmas.{at_pairs-at, same_pairs}

-- where a digit leads
pub target_at : (d : Automaton) (targets : List ℕ) (digit q : ℕ) → AreTargets d targets → digit < letters_of d → q < states_of d → slice_index targets (digit * states_of d + q) ≡ next_of d q digit
target_at d targets digit q are small within =
    sym (get_or-drop (digit * states_of d) targets q 0)
    ∙ sym (get_or-take (digit * states_of d + states_of d - digit * states_of d) (drop (digit * states_of d) targets) q 0 (omega arith))
    ∙ ap (λ (xs : List ℕ). slice_index xs q) (are.parts digit small)
    ∙ get_or-map-range_with_len (λ q. next_of d q digit) 0 (states_of d) q q 0 within (omega arith)

module _ (t : Transducer) (f : LetterFunctionValue) (ends old new : List ℕ) (digit : ℕ) (before : old ≡ at_pairs t f (state_before t f ends digit)) where
  before_at : (pair : ℕ) → pair < pairs_of t f → slice_index old pair ≡ state_before t f ends digit pair
  before_at pair within = ap (λ (xs : List ℕ). slice_index xs pair) before ∙ at_pairs-at t f (state_before t f ends digit) pair within

  -- after the block of the digit
  pub advanced : new ≡ at_pairs t f (λ pair. map_at ends t.states (next_of f.automaton (pair / t.states) digit) (slice_index old pair)) → new ≡ at_pairs t f (state_before t f ends (digit + 1))
  advanced is =
      let next : suc digit ≡ digit + 1 = omega arith in
      is ∙ same_pairs t f (λ pair. map_at ends t.states (next_of f.automaton (pair / t.states) digit) (slice_index old pair)) (state_before t f ends (suc digit))
      (λ pair within. ap (map_at ends t.states (next_of f.automaton (pair / t.states) digit)) (before_at pair within))
      ∙ ap (λ n. at_pairs t f (state_before t f ends n)) next

-- a target is a state
pub target_below : (o : Option ℕ) (p n : ℕ) → IfSome o (λ q. q < n) → Some p ≡ o → p < n
target_below None p n below is = absurd (none-some p (sym is))
target_below (Some q) p n below is = let same : p ≡ q = same_Some p q is in omega (arith, same, below)

-- the first place at which one passes, or the length
pub position_is : {X : Type 0} (test : X → Bool) (xs : List X) (k : ℕ) (d : X) → k ≤ length xs → ((i : ℕ) → i < k → test (get_or xs i d) ≡ false) → (k < length xs → test (get_or xs k d) ≡ true) → position_or_len test xs ≡ k
position_is test xs k d least fails passes = prefix_len_is (λ x. not (test x)) xs k d least (λ i less. ap not (fails i less)) (λ less. ap not (passes less))

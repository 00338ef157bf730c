-- Rounds, and what they may cost.
use Rattle.std.proofs.Common.{◌≡◌, ◌==◌, ℕ, zero, suc, ◌+◌, ◌*◌, ◌^◌, ◌<◌, ◌≤◌, ◌⊎◌, inl, inr, Bool, true, false, if◌then◌else◌, List, length, replicate, take, sym, ap, ◌∙◌, arith}
use Rattle.std.specs.List.{count_by}
use Rattle.std.proofs.lemmas.Bool.{cases_lt}
use Rattle.std.proofs.lemmas.List.{get_or-replicate, get_or_default, get_or_past, length-replicate}
use Rattle.std.proofs.lemmas.Nat.{mul-le}
use Rattle.digit_tuple.specs.Deterministic.{Automaton, states_of}
use Rattle.digit_tuple.specs.TransitionCounts.{transition_count}
use Rattle.residual_classes.specs.declared.rounds.Counted.{Counted}
use Rattle.residual_classes.specs.Classes.{class_of}
use Rattle.residual_classes.specs.PaidPartition.{AreAtMost}
use Rattle.residual_classes.specs.RoundCosts.{AreCounted, HasRoom, IsCheap}
use Rattle.residual_classes.specs.Weights.{class_size}
use Rattle.residual_classes.proofs.ClassSumLemmas.{class_size-count, class_sum-within}
use Rattle.residual_classes.proofs.PaidLemmas.{exponent_le}

-- a class has no more than all states
class_size-le : (n : ℕ) (classes : List ℕ) (class : ℕ) → class_size n classes class ≤ n
class_size-le zero classes class = omega arith
class_size-le (suc n) classes class = omega (arith, class_size-le n classes class, by (class_of classes n == class))
  where
    by : (b : Bool) → (if b then 1 else 0) ≤ 1
    by true = omega arith
    by false = omega arith

-- no class that is counted is larger
pub AreAtMost-counted : (states : ℕ) (classes : List ℕ) (largest : ℕ) → states ≤ length classes → ((class : ℕ) → count_by (λ k. k == class) (take states classes) ≤ largest) → AreAtMost states classes largest
AreAtMost-counted states classes largest low most class = omega (arith, class_size-count states classes class low, most class)

-- one class of all states
pub AreCounted-one : (d : Automaton) (outputs : List ℕ) (counted : Counted) → counted.classes.items ≡ replicate (states_of d + 1) 0 → counted.largest ≡ states_of d → AreCounted d outputs counted
AreCounted-one d outputs counted is all = record {
  coarse = record {
    width = ap length is ∙ length-replicate (states_of d + 1) 0;
    below = λ k z within. omega (arith, get_or_default counted.classes.items k z 0 within, alike k);
    coarse = λ p q small low same. alike p ∙ sym (alike q);
  };
  most = λ class. omega (arith, all, class_size-le (states_of d) counted.classes.items class);
}
  where
    alike : (q : ℕ) → class_of counted.classes.items q ≡ 0
    alike q = ap (λ (xs : List ℕ). class_of xs q) is ∙ by (cases_lt q (states_of d + 1))
      where
        by : (q < states_of d + 1) ⊎ (states_of d + 1 ≤ q) → class_of (replicate (states_of d + 1) 0) q ≡ 0
        by (inl less) = get_or-replicate (states_of d + 1) q 0 0 less
        by (inr past) = get_or_past (replicate (states_of d + 1) 0) q 0 (omega (arith, past, length-replicate {A = ℕ} (states_of d + 1) 0))

-- no round costs too much where all states are in one class
pub IsCheap-none : (states digits : ℕ) → 0 < states → states < 2 ^ digits → ((b : ℕ) → states < 2 ^ b → digits ≤ b) → IsCheap states 0 states
IsCheap-none states digits some enough least = by (cases_lt 1 states) (cases_lt digits 2)
  where
    one : (states ≤ 1) → IsCheap states 0 states
    one few = record { digits = 0; within = omega (arith, few); cheap = λ b less. omega (arith, positive b less (cases_lt 0 b)) }
      where
        positive : (b : ℕ) → states < 2 ^ b → (0 < b) ⊎ (b ≤ 0) → 0 < b
        positive b less (inl fine) = fine
        positive b less (inr none) =
            let is : b ≡ 0 = omega (arith, none) in
            absurd (omega (arith, some, less, ap (λ (k : ℕ). 2 ^ k) is))

    by : (1 < states) ⊎ (states ≤ 1) → (digits < 2) ⊎ (2 ≤ digits) → IsCheap states 0 states
    by (inr few) cases = one few
    by (inl more) (inr two) = record { digits = digits; within = omega (arith, enough); cheap = λ b less. omega (arith, two, least b less) }
    by (inl more) (inl few) = absurd (omega (arith, more, enough, exponent_le 2 digits 1 (omega arith) (omega (arith, few))))

-- nor where the largest class is smaller
pub IsCheap-fewer : (states rounds largest fewer : ℕ) → fewer ≤ largest → IsCheap states rounds largest → IsCheap states rounds fewer
IsCheap-fewer states rounds largest fewer le cheap = record { digits = cheap.digits; within = omega (arith, le, cheap.within); cheap = cheap.cheap }

-- with one round more, transitions are looked at no more often than is allowed
pub next_round_within : (e b digits round old mid new : ℕ) → digits ≤ b → round < digits → mid ≤ old + round * e → new ≤ mid + e → new ≤ old + e * b
next_round_within e b digits round old mid new low less spent more = omega (arith, spent, more, mul-le e (round + 1) e b (omega arith) (omega (arith, low, less)), turned)
  where
    turned : e * (round + 1) ≡ round * e + e
    turned = omega arith

-- so many rounds leave room for more looks
pub HasRoom-cheap : (d : Automaton) (outputs : List ℕ) (counted : Counted) (old new rounds : ℕ) → AreCounted d outputs counted → IsCheap (states_of d) rounds counted.largest → new ≤ old + rounds * transition_count d → HasRoom d counted old new
HasRoom-cheap d outputs counted old new rounds are cheap spent = record {
  digits = cheap.digits;
  within = cheap.within;
  most = are.most;
  room = λ b less. room (transition_count d) b cheap.digits (cheap.cheap b less) spent;
}
  where
    room : (e b digits : ℕ) → 2 * (rounds + 1) + digits ≤ 2 * b → new ≤ old + rounds * e → 2 * new + (2 + digits) * e ≤ 2 * old + 2 * (e * b)
    room e b digits le few = omega (arith, few, mul-le e (2 * (rounds + 1) + digits) e (2 * b) (omega arith) le, left, right)
      where
        left : e * (2 * (rounds + 1) + digits) ≡ 2 * (rounds * e) + (2 + digits) * e
        left = omega arith

        right : e * (2 * b) ≡ 2 * (e * b)
        right = omega arith

-- classes that are parted are no larger
pub AreAtMost-finer : (n : ℕ) (classes parts : List ℕ) (largest : ℕ) → ((q : ℕ) → q ≤ n → class_of classes q ≡ class_of classes (class_of parts q)) → AreAtMost n classes largest → AreAtMost n parts largest
AreAtMost-finer n classes parts largest finer most class = omega (arith, most (class_of classes class), class_sum-within n (λ p. 1) parts classes class (class_of classes class) (λ q small is. finer q (omega (arith, small)) ∙ ap (class_of classes) is))

-- looks of rounds and those that come after
pub all_looks : (d : Automaton) (counted : Counted) (old mid new b : ℕ) (room : HasRoom d counted old mid) → states_of d < 2 ^ b → 2 * new ≤ 2 * mid + (2 + room.digits) * transition_count d → new ≤ old + transition_count d * b
all_looks d counted old mid new b room less spent = omega (arith, spent, room.room b less)

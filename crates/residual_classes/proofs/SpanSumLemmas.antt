-- Looks that are paid for while classes are parted.
use Rattle.std.proofs.Common.{◌≡◌, ℕ, ◌+◌, ◌<◌, ◌≤◌, ◌^◌, ◌⊎◌, inl, inr, Bool, true, false, if◌then◌else◌, ◌==◌, List, [], ◌∷◌, ◌++◌, length, get_or, sym, ap, ◌∙◌, subst, arith}
use Rattle.std.specs.List.{Contains, slice_range, sum_by}
use Rattle.std.proofs.lemmas.Bool.{cases_eq}
use Rattle.std.proofs.lemmas.List.Elements.{All-contains}
use Rattle.digit_tuple.specs.Deterministic.{Automaton, states_of}
use Rattle.residual_classes.specs.declared.machine.Machine.{Machine}
use Rattle.residual_classes.specs.declared.partition.ClassSpan.{ClassSpan}
use Rattle.residual_classes.specs.declared.partition.Partition.{Partition}
use Rattle.residual_classes.specs.Classes.{class_of}
use Rattle.residual_classes.specs.Paid.{IsPaid}
use Rattle.residual_classes.specs.PaidPartition.{AreFew, IsCountCut, IsPaidFor}
use Rattle.residual_classes.specs.Partition.{AreParted, IsCut, IsGiven, span_of}
use Rattle.residual_classes.specs.ReversedTransitions.{in_degree}
use Rattle.residual_classes.specs.StateOrder.{AreAtEnd}
use Rattle.residual_classes.specs.Weights.{class_size, class_sum, sum_below}
use Rattle.residual_classes.proofs.ClassSumLemmas.{class_sum-others, class_sum-parts, class_sum-slice}
use Rattle.residual_classes.proofs.PaidCutLemmas.{Choice, IsPaid-cut}
use Rattle.residual_classes.proofs.PartitionLemmas.{cases_contains, place_of}
use Rattle.residual_classes.proofs.SpanLemmas.{Contains-from_slice, Contains-slice}
use Rattle.residual_classes.proofs.WeightLemmas.{sum_below-le}

-- a class's sum is at most that of all states
pub class_sum-le : (n : ℕ) (f : ℕ → ℕ) (classes : List ℕ) (class : ℕ) → class_sum n f classes class ≤ sum_below n f
class_sum-le n f classes class = sum_below-le (λ q. if class_of classes q == class then f q else 0) f n (λ q small. by (class_of classes q == class) (f q))
  where
    by : (b : Bool) (k : ℕ) → (if b then k else 0) ≤ k
    by true k = omega arith
    by false k = omega arith

module _ (d : Automaton) (outputs classes states places : List ℕ) (spans : List ClassSpan) (pending : List ℕ) (parted : AreParted d outputs classes states places spans pending) where
  states_low : (place : ℕ) → place < states_of d → get_or states place 0 < states_of d
  states_low place small = omega (arith, parted.order.states_within place (omega (arith, small, parted.count)), parted.count)

  placed : (place : ℕ) → place < states_of d → get_or places (get_or states place 0) 0 ≡ place
  placed place small = parted.order.placed place (omega (arith, small, parted.count))

  state_back : (q : ℕ) → q < states_of d → get_or states (get_or places q 0) 0 ≡ q
  state_back q small = parted.order.state_back q (omega (arith, small, parted.count))

  -- the sum over a class's span
  pub span_sum : (f : ℕ → ℕ) (class : ℕ) → class < length spans → sum_by f (slice_range states (span_of spans class).start (span_of spans class).end) ≡ class_sum (states_of d) f classes class
  span_sum f class made = class_sum-slice f states places (states_of d) parted.count states_low placed state_back classes class (span_of spans class).start (span_of spans class).end
      (parted.spanned.ordered class made) (omega (arith, parted.spanned.within class made, parted.count))
      (λ q small is.
      let found = place_of d outputs classes states places spans pending parted class made q small is in
      let at : get_or places q 0 ≡ found.0 = ap (λ (k : ℕ). get_or places k 0) (sym found.3) ∙ placed found.0 (omega (arith, found.2, parted.spanned.within class made, parted.count)) in
      (omega (arith, at, found.1), omega (arith, at, found.2)))
      (λ place low high. parted.spanned.inside class place made low high)

-- which part is pending after a cut, by counts of transitions
pub data Decision (pending : List ℕ) (count class next transitions rest : ℕ) : Type 0 where
  at_sink : class ≡ 0 → next ≡ count → Decision pending count class next transitions rest
  both_parts : 0 < class → Contains pending class → next ≡ count → Decision pending count class next transitions rest
  leaving_part : 0 < class → (Contains pending class → ⊥) → next ≡ count → transitions ≤ rest → Decision pending count class next transitions rest
  staying_part : 0 < class → (Contains pending class → ⊥) → next ≡ class → rest ≤ transitions → Decision pending count class next transitions rest

module _ (m : Machine) (p : Partition) (was states places set : List ℕ) (class middle : ℕ) (made : class < length p.spans.items) (parted : AreParted m.dfa.now m.outputs.now p.classes.items states places p.spans.items p.pending)
    (moved : AreAtEnd was states set (span_of p.spans.items class).start middle (span_of p.spans.items class).end) (classes : List ℕ) (given : IsGiven p.classes.items classes (slice_range states middle (span_of p.spans.items class).end) (length p.spans.items)) where
  abbrev n : ℕ
  n = states_of m.dfa.now

  abbrev count : ℕ
  count = length p.spans.items

  abbrev last : ℕ
  last = (span_of p.spans.items class).end

  fits : last ≤ length states
  fits = parted.spanned.within class made

  fresh : (q : ℕ) → q < n → class_of p.classes.items q < count
  fresh q small = parted.below q (omega (arith, small))

  moves : (q : ℕ) → q < n → ((class_of classes q ≡ count) × (class_of p.classes.items q ≡ class)) ⊎ (class_of classes q ≡ class_of p.classes.items q)
  moves q small = by (cases_contains (slice_range states middle last) q)
    where
      by : Contains (slice_range states middle last) q ⊎ (Contains (slice_range states middle last) q → ⊥) → ((class_of classes q ≡ count) × (class_of p.classes.items q ≡ class)) ⊎ (class_of classes q ≡ class_of p.classes.items q)
      by (inl there) =
          let found = Contains-from_slice states middle last q fits there in
          inl (given.there q there, ap (class_of p.classes.items) (sym found.3) ∙ parted.spanned.inside class found.0 made (omega (arith, found.1, moved.after_start)) found.2)
      by (inr none) = inr (given.elsewhere q none)

  -- a state of the new class has left
  left_at : (q : ℕ) → q < n → class_of classes q ≡ count → (place : ℕ) × (middle ≤ place) × (place < last) × (get_or states place 0 ≡ q)
  left_at q small is = by (cases_contains (slice_range states middle last) q)
    where
      by : Contains (slice_range states middle last) q ⊎ (Contains (slice_range states middle last) q → ⊥) → (place : ℕ) × (middle ≤ place) × (place < last) × (get_or states place 0 ≡ q)
      by (inl there) = Contains-from_slice states middle last q fits there
      by (inr none) = absurd (omega (arith, fresh q small, given.elsewhere q none, is))

  leaving_sum : (f : ℕ → ℕ) → sum_by f (slice_range states middle last) ≡ class_sum n f classes count
  leaving_sum f = class_sum-slice f states places n parted.count (states_low m.dfa.now m.outputs.now p.classes.items states places p.spans.items p.pending parted) (placed m.dfa.now m.outputs.now p.classes.items states places p.spans.items p.pending parted) (state_back m.dfa.now m.outputs.now p.classes.items states places p.spans.items p.pending parted)
      classes count middle last moved.before_end (omega (arith, fits, parted.count))
      (λ q small is.
      let found = left_at q small is in
      let at : get_or places q 0 ≡ found.0 = ap (λ (k : ℕ). get_or places k 0) (sym found.3) ∙ placed m.dfa.now m.outputs.now p.classes.items states places p.spans.items p.pending parted found.0 (omega (arith, found.2, fits, parted.count)) in
      (omega (arith, at, found.1), omega (arith, at, found.2)))
      (λ place low high. given.there (get_or states place 0) (Contains-slice states middle last place fits low high))

  module _ (total largest looks : ℕ) (before : IsPaidFor m total largest looks p) (few : class ≡ 0 → AreFew m largest p.classes.items set) where
    abbrev degree : ℕ → ℕ
    degree = in_degree p.reversed

    -- the transitions that lead to the states that leave are counted
    pub leaving_count : (transitions : ℕ) → (sum_by (in_degree p.reversed) (slice_range states middle last) < 2 ^ 32 → transitions ≡ sum_by (in_degree p.reversed) (slice_range states middle last)) → transitions ≡ class_sum n (in_degree p.reversed) classes count
    leaving_count transitions is = is (omega (arith, leaving_sum degree, class_sum-le n degree classes count, before.few, before.small)) ∙ leaving_sum degree

    module _ (spans : List ClassSpan) (waiting : List ℕ) (transitions rest next : ℕ) (cut : IsCut p.spans.items spans class middle) (counts : IsCountCut p.spans.items spans class transitions rest)
        (exact : transitions ≡ class_sum n (in_degree p.reversed) classes count) (pushed : waiting ≡ p.pending ++ next ∷ []) (decision : Decision p.pending count class next transitions rest) where
      parts : class_sum n degree classes class + class_sum n degree classes count ≡ class_sum n degree p.classes.items class
      parts = class_sum-parts n degree classes p.classes.items class count made fresh moves

      staying : 0 < class → rest ≡ class_sum n degree classes class
      staying above = omega (arith, counts.left, before.counted class above made, parts, exact)

      pub counted_cut : (c : ℕ) → 0 < c → c < length spans → (span_of spans c).transitions ≡ class_sum n (in_degree p.reversed) classes c
      counted_cut c above small = by (cases_eq c count) (cases_eq c class)
        where
          by : (c ≡ count) ⊎ (c ≡ count → ⊥) → (c ≡ class) ⊎ (c ≡ class → ⊥) → (span_of spans c).transitions ≡ class_sum n (in_degree p.reversed) classes c
          by (inl is) cases = ap (λ (k : ℕ). (span_of spans k).transitions) is ∙ counts.gone ∙ exact ∙ ap (class_sum n degree classes) (sym is)
          by (inr old) (inl is) = ap (λ (k : ℕ). (span_of spans k).transitions) is ∙ counts.kept ∙ staying (omega (arith, above, is)) ∙ ap (class_sum n degree classes) (sym is)
          by (inr old) (inr other) =
              let before_cut : c < count = omega (arith, small, cut.width, old) in
              ap (λ (span : ClassSpan). span.transitions) (cut.others c before_cut other) ∙ before.counted c above before_cut ∙ sym (class_sum-others n degree classes p.classes.items class count made fresh moves c other old)

      one_of : Decision p.pending count class next transitions rest → (next ≡ count) ⊎ (next ≡ class)
      one_of (at_sink sink is) = inl is
      one_of (both_parts above there is) = inl is
      one_of (leaving_part above none is le) = inl is
      one_of (staying_part above none is le) = inr is

      choice : Decision p.pending count class next transitions rest → Choice p.pending count class next (class_size n classes count) largest (class_sum n degree classes count) (class_sum n degree classes class)
      choice (at_sink sink is) = Choice.off_sink sink is (few sink classes count (λ q small at.
          let found = left_at q small at in
          (subst (Contains set) found.3 (moved.moved found.0 found.1 found.2), ap (class_of p.classes.items) (sym found.3) ∙ parted.spanned.inside class found.0 made (omega (arith, found.1, moved.after_start)) found.2 ∙ sink)))
      choice (both_parts above there is) = Choice.both_wait above there is
      choice (leaving_part above none is le) = Choice.new_smaller above none is (omega (arith, le, exact, staying above))
      choice (staying_part above none is le) = Choice.old_smaller above none is (omega (arith, le, exact, staying above))

      has : 0 < class → (q : ℕ) × (q < n) × (class_of p.classes.items q ≡ class)
      has above =
          let first = (span_of p.spans.items class).start in
          let filled = parted.filled class above made in (
            get_or states first 0,
            states_low m.dfa.now m.outputs.now p.classes.items states places p.spans.items p.pending parted first (omega (arith, filled, fits, parted.count)),
            parted.spanned.inside class first made (omega arith) filled,
          )

      pub paid_cut : IsPaid n (in_degree p.reversed) total largest classes waiting looks
      paid_cut = IsPaid-cut n degree total largest classes p.classes.items p.pending waiting class count next looks made fresh moves
          (λ there. omega (arith, All-contains (λ (k : ℕ). k < count) p.pending count parted.made there)) pushed (one_of decision) before.paid has (choice decision)

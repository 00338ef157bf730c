-- Rows that are kept as decisions are by ascending letters.
use Rattle.std.proofs.Common.{◌≡◌, ℕ, zero, suc, ◌+◌, ◌*◌, ◌<◌, ◌≤◌, List, [], ◌∷◌, ◌++◌, map, take, drop, length, get_or, sym, subst, arith}
use Rattle.std.specs.Bool.{⊤}
use Rattle.std.specs.List.{All, AllPairs, AllByRecursion}
use Rattle.std.proofs.lemmas.Nat.{mul-le}
use Rattle.digit_tuple.specs.Letters.{product}
use Rattle.digit_tuple.specs.Deterministic.{IsByEarlier}
use Rattle.digit_tuple.specs.Decisions.{only_transition, after_digit, joined, joined_rows, rows_in, sizes_in, AreDigitsBelow, IsSound}
use Rattle.digit_tuple.specs.declared.transitions.Transition.{Transition}
use Rattle.digit_tuple.specs.declared.decisions.Decisions.{Decisions}
use Rattle.digit_tuple.specs.declared.decisions.Decisions.TheVariants.{Targets, OnTrack'}
use Rattle.digit_tuple.proofs.DecisionReads.{letters-below}
use Rattle.digit_tuple.proofs.JoinedReads.{AreBelow, all_at, all_take, all_drop}

-- each letter is above the one before it, and the first is at least the bound
abbrev AscendFrom : ℕ → List Transition → Type 0
AscendFrom low [] = ⊤
AscendFrom low (e ∷ es) = (low ≤ e.letter) × AscendFrom (e.letter + 1) es

lower : (low less : ℕ) (es : List Transition) → less ≤ low → AscendFrom low es → AscendFrom less es
lower low less [] order ascend = tt
lower low less (e ∷ es) order ascend = (omega (arith, order, ascend.0), ascend.1)

-- transitions after a digit, and then those from the next digit on
ascend-after_digit : (base low w : ℕ) (es fs : List Transition) → low ≤ w → AreBelow w es → AscendFrom low es → AscendFrom (base + w) fs → AscendFrom (base + low) (map (after_digit base) es ++ fs)
ascend-after_digit base low w [] fs room below ascend more = lower (base + w) (base + low) fs (omega (arith, room)) more
ascend-after_digit base low w (e ∷ es) fs room below ascend more =
    let next : base + (e.letter + 1) ≡ base + e.letter + 1 = omega arith in (
      omega (arith, ascend.0),
      subst (λ n. AscendFrom n (map (after_digit base) es ++ fs)) next (ascend-after_digit base (e.letter + 1) w es fs (omega (arith, below.0)) below.1 ascend.1 more),
    )

ascend-joined : (w low : ℕ) (ds : List ℕ) (rows : List (List Transition)) → All (λ d. low ≤ d) ds → AllPairs (λ d e. d < e) ds → AllByRecursion (AreBelow w) rows → AllByRecursion (AscendFrom 0) rows → AscendFrom (low * w) (joined w ds rows)
ascend-joined w low [] rows from ascending below ascend = tt
ascend-joined w low (d ∷ ds) [] from ascending below ascend = tt
ascend-joined w low (d ∷ ds) (r ∷ rows) from ascending below ascend =
    let rest = ascend-joined w (d + 1) ds rows (λ k z within. let less = ascending 0 (suc k) z (omega arith) (omega arith) in omega (arith, less)) (λ i j z before within. ascending (suc i) (suc j) z (omega arith) (omega arith)) below.1 ascend.1 in
    let next : (d + 1) * w ≡ d * w + w = omega arith in
    let least = mul-le low w d w (from 0 d (omega arith)) (omega arith) in
    lower (d * w + 0) (low * w) (map (after_digit (d * w)) r ++ joined w ds rows) (omega (arith, least))
    (ascend-after_digit (d * w) 0 w r (joined w ds rows) (omega arith) below.0 ascend.0 (subst (λ n. AscendFrom n (joined w ds rows)) next rest))

ascend-rows : (size w : ℕ) (xs : List (List ℕ)) (rows : List (List Transition)) → AllByRecursion (AreDigitsBelow size) xs → AllByRecursion (AreBelow w) rows → AllByRecursion (AscendFrom 0) rows → AllByRecursion (AscendFrom 0) (joined_rows w xs rows)
ascend-rows size w [] rows digits below ascend = tt
ascend-rows size w (x ∷ xs) rows digits below ascend = (
  lower (0 * w) 0 (joined w x (take (length x) rows)) (omega arith)
      (ascend-joined w 0 x (take (length x) rows) (λ k z within. omega arith) digits.0.ascending (all_take (AreBelow w) (length x) rows below) (all_take (AscendFrom 0) (length x) rows ascend)),
  ascend-rows size w xs (drop (length x) rows) digits.1 (all_drop (AreBelow w) (length x) rows below) (all_drop (AscendFrom 0) (length x) rows ascend),
)

ascend-only : (targets : List ℕ) → AllByRecursion (AscendFrom 0) (map only_transition targets)
ascend-only [] = tt
ascend-only (t ∷ ts) = ((omega arith, tt), ascend-only ts)

ascend-all : (d : Decisions) → IsSound d → AllByRecursion (AscendFrom 0) (rows_in d)
ascend-all (Targets targets) sound = ascend-only targets.items
ascend-all (OnTrack' track p below) sound =
    subst (λ w. AllByRecursion (AscendFrom 0) (joined_rows w track.digits (rows_in below))) (sym sound.0.weight)
    (ascend-rows track.size (product (sizes_in below)) track.digits (rows_in below) sound.0.digits (letters-below below sound.1) (ascend-all below sound.1))

at_least : (low : ℕ) (es : List Transition) → AscendFrom low es → (k : ℕ) (d : Transition) → k < length es → low ≤ (get_or es k d).letter
at_least low [] ascend k d within = absurd (omega arith)
at_least low (e ∷ es) ascend zero d within = ascend.0
at_least low (e ∷ es) ascend (suc k) d within = let more = at_least (e.letter + 1) es ascend.1 k d (omega arith) in omega (arith, more, ascend.0)

in_pairs : (low : ℕ) (es : List Transition) → AscendFrom low es → AllPairs IsByEarlier es
in_pairs low es ascend i zero d before within = absurd (omega arith)
in_pairs low [] ascend i (suc j) d before within = absurd (omega arith)
in_pairs low (e ∷ es) ascend zero (suc j) d before within = let more = at_least (e.letter + 1) es ascend.1 j d (omega arith) in omega (arith, more)
in_pairs low (e ∷ es) ascend (suc i) (suc j) d before within = in_pairs (e.letter + 1) es ascend.1 i j d (omega arith) (omega arith)

-- each row is by ascending letters
pub ascending-row : (d : Decisions) (place : ℕ) → IsSound d → place < length (rows_in d) → AllPairs IsByEarlier (get_or (rows_in d) place [])
ascending-row d place sound within = in_pairs 0 (get_or (rows_in d) place []) (all_at (AscendFrom 0) (rows_in d) place [] (ascend-all d sound) within)

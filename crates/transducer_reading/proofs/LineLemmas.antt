-- The lines of a state among all lines, which are in the order of their states.
use Rattle.std.proofs.Common.{◌≡◌, ℕ, ◌+◌, ◌-◌, ◌<◌, ◌≤◌, Bool, ◌&&◌, true, false, cond, eqb, ltb, leb, List, [], ◌∷◌, ◌++◌, length, take, drop, get_or, pos, None, Some, refl, sym, ap, ◌∙◌, arith}
use Rattle.std.specs.List.{All, filter, find}
use Rattle.std.specs.List.Sorted.{IsPartitionPoint}
use Rattle.std.proofs.lemmas.Bool.{ne_eqb, eq-eqb, ltb-false, ltb-true, leb-true, leb-false}
use Rattle.std.proofs.lemmas.List.{take-append-drop, get_or-drop, get_or-take, length-drop, length-take-le, drop-drop, append-nil}
use Rattle.std.proofs.lemmas.List.Elements.{All-head, All-tail, filter-append}
use Rattle.transducer_reading.specs.declared.transducer.TransducerLine.{TransducerLine}

-- a first element by two tests is the first by one among those that pass the other
pub find_filtered : {X : Type 0} (p q : X → Bool) (xs : List X) → find (λ x. p x && q x) xs ≡ find q (filter p xs)
find_filtered p q [] = refl
find_filtered {X = X} p q (x ∷ xs) = by (find_filtered p q xs) (p x)
  where
    by : find (λ y. p y && q y) xs ≡ find q (filter p xs) → (b : Bool) → cond (b && q x) (Some x) (find (λ y. p y && q y) xs) ≡ find q (cond b (x ∷ filter p xs) (filter p xs))
    by rest true = ap (cond (q x) (Some x)) rest
    by rest false = rest

filter_none : {X : Type 0} (p : X → Bool) (xs : List X) → All (λ x. p x ≡ false) xs → filter p xs ≡ []
filter_none p [] none = refl
filter_none p (x ∷ xs) none =
    ap (λ b. cond b (x ∷ filter p xs) (filter p xs)) (All-head (λ y. p y ≡ false) x xs none) ∙ filter_none p xs (All-tail (λ y. p y ≡ false) x xs none)

filter_each : {X : Type 0} (p : X → Bool) (xs : List X) → All (λ x. p x ≡ true) xs → filter p xs ≡ xs
filter_each p [] each = refl
filter_each p (x ∷ xs) each =
    ap (λ b. cond b (x ∷ filter p xs) (filter p xs)) (All-head (λ y. p y ≡ true) x xs each) ∙ ap (λ ys. x ∷ ys) (filter_each p xs (All-tail (λ y. p y ≡ true) x xs each))

-- the part of the list between two places, of which the test passes, and passes nowhere else
pub filter_middle : {X : Type 0} (p : X → Bool) (xs : List X) (first last : ℕ) → first ≤ last → last ≤ length xs
    → ((k : ℕ) (d : X) → k < first → p (get_or xs k d) ≡ false) → ((k : ℕ) (d : X) → first ≤ k → k < last → p (get_or xs k d) ≡ true) → ((k : ℕ) (d : X) → last ≤ k → k < length xs → p (get_or xs k d) ≡ false)
    → take (last - first) (drop first xs) ≡ filter p xs
filter_middle {X = X} p xs first last up within before inside after =
    let none_before : filter p (take first xs) ≡ [] = filter_none p (take first xs) (λ k d lt. let long = length-take-le first xs (omega arith) in rw (get_or-take first xs k d (omega arith)) (before k d (omega arith))) in
    let middle : filter p (take (last - first) (drop first xs)) ≡ take (last - first) (drop first xs) =
    filter_each p (take (last - first) (drop first xs)) (λ k d lt.
    let less : k < last - first = let all = length-drop first xs in let long = length-take-le (last - first) (drop first xs) (omega arith) in omega arith in
    rw (get_or-take (last - first) (drop first xs) k d less, get_or-drop first xs k d) (inside (first + k) d (omega arith) (omega arith))) in
    let rest : filter p (drop last xs) ≡ [] = filter_none p (drop last xs) (λ k d lt. let less = length-drop last xs in rw (get_or-drop last xs k d) (after (last + k) d (omega arith) (omega arith))) in
    let same : drop (last - first) (drop first xs) ≡ drop last xs = drop-drop (last - first) first xs ∙ ap (λ n. drop n xs) (let e : first + (last - first) ≡ last = omega arith in e) in
    sym (ap (filter p) (sym (take-append-drop first xs)) ∙ filter-append p (take first xs) (drop first xs) ∙ ap (λ ys. ys ++ filter p (drop first xs)) none_before
    ∙ ap (filter p) (sym (take-append-drop (last - first) (drop first xs))) ∙ filter-append p (take (last - first) (drop first xs)) (drop (last - first) (drop first xs))
    ∙ ap (λ ys. ys ++ filter p (drop (last - first) (drop first xs))) middle ∙ ap (λ ys. take (last - first) (drop first xs) ++ ys) (ap (filter p) same ∙ rest)
    ∙ append-nil (take (last - first) (drop first xs)))

-- the lines of a state are between two places of a partition
pub lines_between : (lines : List TransducerLine) (state first last : ℕ) → first ≤ length lines → last ≤ length lines
    → IsPartitionPoint (λ (line : TransducerLine). ltb line.state state ≡ true) (λ (line : TransducerLine). ltb line.state state ≡ false) lines first
    → IsPartitionPoint (λ (line : TransducerLine). leb line.state state ≡ true) (λ (line : TransducerLine). leb line.state state ≡ false) lines last
    → (first ≤ last) × (take (last - first) (drop first lines) ≡ filter (λ (line : TransducerLine). eqb line.state state) lines)
lines_between lines state first last short within less upto = (
  up,
  filter_middle (λ (line : TransducerLine). eqb line.state state) lines first last up within
      (λ k d lt. let below = ltb-true (get_or lines k d).state state (less.0 k d (omega arith) lt) in ne_eqb (get_or lines k d).state state (λ e. omega arith))
      (λ k d ge lt. let at = leb-true (get_or lines k d).state state (upto.0 k d (omega arith) lt) in let from = ltb-false (get_or lines k d).state state (less.1 k d ge (omega arith)) in eq-eqb (get_or lines k d).state state (omega arith))
      (λ k d ge lt. let above = leb-false (get_or lines k d).state state (upto.1 k d ge lt) in ne_eqb (get_or lines k d).state state (λ e. omega arith)),
)
  where
    -- a line before the last place, from which on none is at most the state, cannot be below it
    up : first ≤ last
    up =
        let no : last < first → ⊥ = λ lt.
        let d : TransducerLine = record { state = 0; letter = None; target = 0; output = pos 0 } in
        let below = ltb-true (get_or lines last d).state state (less.0 last d (omega arith) lt) in
        let above = leb-false (get_or lines last d).state state (upto.1 last d (omega arith) (omega arith)) in
        omega arith in
        omega arith

-- The rows of all states of an automaton in one list.
use Rattle.std.proofs.Common.{◌≡◌, ◌==◌, ℕ, zero, suc, Bool, false, min, replicate, ◌+◌, ◌*◌, ◌-◌, ◌<◌, ◌≤◌, List, ◌++◌, length, take, drop, refl, sym, ap, ◌∙◌, arith, ◌⊎◌, inl, inr}
use Rattle.std.proofs.lemmas.List.{append-nil, append_assoc, take-append-le, take_all, length-append}
use Rattle.std.proofs.lemmas.List.FromFn.{length-map-range_with_len}
use Rattle.std.proofs.lemmas.Bool.{cases_lt, false≢true}
use Rattle.std.proofs.Math.Nat.{min-eq_left, min-eq_right, mul-le-mul_right}
use Rattle.std.proofs.Math.Seq.{drop-append-add}
use Rattle.std.specs.List.{flat_map, range_with_len, slice_range}
use Rattle.digit_tuple.specs.Deterministic.{Automaton, letters_of, states_of}
use Rattle.residual_classes.specs.Classes.{next_of}
use Rattle.product_op.proofs.NextRowLemmas.{next_list-sink}
use Rattle.product_op.specs.NextTables.{next_list, all_rows, IsKept}

-- one more row
pub rows-more : (f : ℕ → List ℕ) (n a j : ℕ) → a + n ≡ j → flat_map f (range_with_len a (n + 1)) ≡ flat_map f (range_with_len a n) ++ f j
rows-more f zero a j is = append-nil (f a) ∙ ap f (omega (arith, is))
rows-more f (suc n) a j is =
    let count : suc n + 1 ≡ suc (n + 1) = omega arith in
    ap (λ k. flat_map f (range_with_len a k)) count
    ∙ ap (λ xs. f a ++ xs) (rows-more f n (a + 1) j (omega (arith, is)))
    ∙ sym (append_assoc (f a) (flat_map f (range_with_len (a + 1) n)) (f j))

-- rows of one width that are one after another
module _ (f : ℕ → List ℕ) (w : ℕ) (even : (i : ℕ) → length (f i) ≡ w) where
  pub length-rows : (n a : ℕ) → length (flat_map f (range_with_len a n)) ≡ n * w
  length-rows zero a = omega arith
  length-rows (suc n) a = length-append (f a) (flat_map f (range_with_len (a + 1) n)) ∙ omega (arith, even a, length-rows n (a + 1))

  pub row_in : (n a q j at : ℕ) → q < n → a + q ≡ j → at ≡ q * w → slice_range (flat_map f (range_with_len a n)) at (at + w) ≡ f j
  row_in zero a q j at less is starts = absurd (omega (arith, less))
  row_in (suc n) a zero j at less is starts =
      let rest = flat_map f (range_with_len (a + 1) n) in
      let first : at ≡ 0 = omega (arith, starts) in
      let count : 0 + w - 0 ≡ w = omega arith in
      ap (λ k. slice_range (f a ++ rest) k (k + w)) first
      ∙ ap (λ k. take k (f a ++ rest)) count ∙ take-append-le w (f a) rest (omega (arith, even a)) ∙ take_all w (f a) (omega (arith, even a)) ∙ ap f (omega (arith, is))
  row_in (suc n) a (suc q) j at less is starts =
      let rest = flat_map f (range_with_len (a + 1) n) in
      let before = q * w in
      let count : at + w - at ≡ before + w - before = omega arith in
      let past : at ≡ length (f a) + before = omega (arith, even a, starts) in
      ap (λ k. take k (drop at (f a ++ rest))) count
      ∙ ap (take (before + w - before)) (ap (λ k. drop k (f a ++ rest)) past ∙ drop-append-add (f a) rest before)
      ∙ row_in n (a + 1) q j before (omega (arith, less)) (omega (arith, is)) refl

module _ (d : Automaton) where
  even : (q : ℕ) → length (next_list d q) ≡ letters_of d
  even q = length-map-range_with_len (next_of d q) 0 (letters_of d)

  -- how long the rows of all states are
  pub length-all_rows : length (all_rows d) ≡ (states_of d + 1) * letters_of d
  length-all_rows = length-rows (next_list d) (letters_of d) even (states_of d + 1) 0

  -- a row is within them
  pub all_rows-fit : (n w : ℕ) → n ≤ states_of d → w ≡ letters_of d → n * w + w ≤ length (all_rows d)
  all_rows-fit n w within same =
      let part = mul-le-mul_right (letters_of d) within in
      let whole : (states_of d + 1) * letters_of d ≡ states_of d * letters_of d + letters_of d = omega arith in
      let here : n * w ≡ n * letters_of d = ap (λ k. n * k) same in
      omega (arith, length-all_rows, part, whole, here, same)

  -- the row of a state or of the sink
  pub all_rows-row : (q : ℕ) → q ≤ states_of d → slice_range (all_rows d) (q * letters_of d) (q * letters_of d + letters_of d) ≡ next_list d q
  all_rows-row q within = row_in (next_list d) (letters_of d) even (states_of d + 1) 0 q q (q * letters_of d) (omega (arith, within)) (omega arith) refl

  -- past the states each row is that of the sink
  pub next_list-least : (n q : ℕ) → n ≡ min q (states_of d) → next_list d n ≡ next_list d q
  next_list-least n q least = by (cases_lt q (states_of d))
    where
      sinks : List ℕ
      sinks = replicate (letters_of d) (states_of d)

      by : (q < states_of d) ⊎ (states_of d ≤ q) → next_list d n ≡ next_list d q
      by (inl inside) = ap (next_list d) (least ∙ min-eq_left (omega (arith, inside)))
      by (inr past) =
          ap (next_list d) (least ∙ min-eq_right past)
          ∙ sym (next_list-sink d (states_of d) sinks refl (omega arith)) ∙ next_list-sink d q sinks refl past

  -- what is kept, where something is
  pub kept_rows : (next : List ℕ) (len : ℕ) (empty : Bool) → IsKept d next → len ≡ length next → empty ≡ (len == 0) → empty ≡ false → next ≡ all_rows d
  kept_rows next len empty (inl none) same is some = absurd (false≢true (sym some ∙ is ∙ ap (λ n. n == 0) (same ∙ ap length none)))
  kept_rows next len empty (inr rows) same is some = rows

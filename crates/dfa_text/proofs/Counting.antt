-- Lists made over numbers in order.
use Rattle.std.proofs.Common.{◌≡◌, ℕ, zero, suc, ◌+◌, ◌-◌, ◌≤◌, List, [], ◌∷◌, ◌++◌, length, sym, ap, ◌∙◌, arith, append_assoc}
use Rattle.std.specs.List.{flat_map, range_with_len}
use Rattle.std.proofs.lemmas.List.{append-nil, length-append}
use Rattle.std.proofs.lemmas.List.Concat.{flat_map-append}
use Rattle.dfa_text.specs.Parts.{text_of_lines}
use Rattle.dfa_text.proofs.Joins.{text_of_lines-append}

last_number : (a n j : ℕ) → a + n ≡ j → range_with_len a (suc n) ≡ range_with_len a n ++ j ∷ []
last_number a zero j e = let same : a ≡ j = omega arith in ap (λ k. k ∷ []) same
last_number a (suc n) j e = ap (λ l. a ∷ l) (last_number (a + 1) n j (omega arith))

-- one number more
pub numbers_more : (n : ℕ) → range_with_len 0 (n + 1) ≡ range_with_len 0 n ++ n ∷ []
numbers_more n = let on : n + 1 ≡ suc n = omega arith in ap (range_with_len 0) on ∙ last_number 0 n n (omega arith)

pub flat_map-numbers_more : {A : Type 0} (f : ℕ → List A) (n : ℕ) → flat_map f (range_with_len 0 (n + 1)) ≡ flat_map f (range_with_len 0 n) ++ f n
flat_map-numbers_more f n = ap (flat_map f) (numbers_more n) ∙ flat_map-append f (range_with_len 0 n) (n ∷ []) ∙ ap (λ t. flat_map f (range_with_len 0 n) ++ t) (append-nil (f n))

-- a text that grows by the lines of one number more
pub lines_more : (f : ℕ → List (List ℕ)) (out before after : List ℕ) (n : ℕ) → before ≡ out ++ text_of_lines (flat_map f (range_with_len 0 n)) → after ≡ before ++ text_of_lines (f n) → after ≡ out ++ text_of_lines (flat_map f (range_with_len 0 (n + 1)))
lines_more f out before after n h step =
    step ∙ ap (λ t. t ++ text_of_lines (f n)) h ∙ append_assoc out (text_of_lines (flat_map f (range_with_len 0 n))) (text_of_lines (f n))
    ∙ ap (λ t. out ++ t) (sym (text_of_lines-append (flat_map f (range_with_len 0 n)) (f n)) ∙ ap text_of_lines (sym (flat_map-numbers_more f n)))

-- a blank line and a state's line, and then the lines of its letters
pub state_more : (before between after line : List ℕ) (steps : List (List ℕ)) → between ≡ before ++ text_of_lines ([] ∷ line ∷ []) → after ≡ between ++ text_of_lines steps → after ≡ before ++ text_of_lines ([] ∷ line ∷ steps)
state_more before between after line steps h k =
    k ∙ ap (λ t. t ++ text_of_lines steps) h ∙ append_assoc before (text_of_lines ([] ∷ line ∷ [])) (text_of_lines steps)
    ∙ ap (λ t. before ++ t) (sym (text_of_lines-append ([] ∷ line ∷ []) steps))

-- further numbers make no text shorter
pub longer_by_numbers : (f : ℕ → List (List ℕ)) (k n : ℕ) → k ≤ n → length (text_of_lines (flat_map f (range_with_len 0 k))) ≤ length (text_of_lines (flat_map f (range_with_len 0 n)))
longer_by_numbers f k n h = by (n - k) n (omega arith)
  where
    by : (more n : ℕ) → n ≡ k + more → length (text_of_lines (flat_map f (range_with_len 0 k))) ≤ length (text_of_lines (flat_map f (range_with_len 0 n)))
    by zero n e = let same : k ≡ n = omega arith in omega (arith, ap (λ m. length (text_of_lines (flat_map f (range_with_len 0 m)))) same)
    by (suc more) n e =
        let before = by more (k + more) (omega arith) in
        let one : n ≡ k + more + 1 = omega arith in
        let split : text_of_lines (flat_map f (range_with_len 0 n)) ≡ text_of_lines (flat_map f (range_with_len 0 (k + more))) ++ text_of_lines (f (k + more)) =
        ap (λ m. text_of_lines (flat_map f (range_with_len 0 m))) one ∙ ap text_of_lines (flat_map-numbers_more f (k + more)) ∙ text_of_lines-append (flat_map f (range_with_len 0 (k + more))) (f (k + more)) in
        omega (arith, before, ap length split, length-append (text_of_lines (flat_map f (range_with_len 0 (k + more)))) (text_of_lines (f (k + more))))

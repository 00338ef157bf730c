-- Rows that are joined after digits, and what one more digit or transition at their end does.
use Rattle.std.proofs.Common.{◌≡◌, ℕ, suc, ◌*◌, ◌<◌, ◌≤◌, List, [], ◌∷◌, ◌++◌, map, take, drop, length, Some, refl, sym, ap, ◌∙◌, append_assoc, length-append, length-drop, arith}
use Rattle.std.specs.List.{sum_by}
use Rattle.std.proofs.lemmas.List.{take-append-le, drop-append-le, take_all, append-nil}
use Rattle.std.proofs.lemmas.List.Sums.{sum_by-cons}
use Rattle.digit_tuple.specs.NumberLists.{extended, last_of, last_number}
use Rattle.digit_tuple.specs.Decisions.{after_digit, joined, joined_rows}
use Rattle.digit_tuple.specs.declared.transitions.Transition.{Transition}

pub length-joined_rows : (w : ℕ) (xs : List (List ℕ)) (rows : List (List Transition)) → length (joined_rows w xs rows) ≡ length xs
length-joined_rows w [] rows = refl
length-joined_rows w (x ∷ xs) rows = ap suc (length-joined_rows w xs (drop (length x) rows))

-- one more digit with its row
pub joined-push : (w : ℕ) (ds : List ℕ) (rows : List (List Transition)) (d : ℕ) (row : List Transition) → length ds ≡ length rows → joined w (ds ++ d ∷ []) (rows ++ row ∷ []) ≡ joined w ds rows ++ map (after_digit (d * w)) row
joined-push w [] [] d row same = append-nil (map (after_digit (d * w)) row)
joined-push w [] (r ∷ rows) d row same = absurd (omega arith)
joined-push w (c ∷ ds) [] d row same = absurd (omega arith)
joined-push w (c ∷ ds) (r ∷ rows) d row same =
    ap (λ es. map (after_digit (c * w)) r ++ es) (joined-push w ds rows d row (omega arith))
    ∙ sym (append_assoc (map (after_digit (c * w)) r) (joined w ds rows) (map (after_digit (d * w)) row))

-- one more empty list
pub joined_rows-begin : (w : ℕ) (xs : List (List ℕ)) (rows : List (List Transition)) → joined_rows w (xs ++ [] ∷ []) rows ≡ joined_rows w xs rows ++ [] ∷ []
joined_rows-begin w [] rows = refl
joined_rows-begin w (x ∷ xs) rows = ap (λ es. joined w x (take (length x) rows) ∷ es) (joined_rows-begin w xs (drop (length x) rows))

-- one more digit at the end of the last list, with its row
pub joined_rows-extended : (w : ℕ) (xs : List (List ℕ)) (rows : List (List Transition)) (d : ℕ) (row : List Transition) → 0 < length xs → sum_by length xs ≡ length rows
    → joined_rows w (extended xs (d ∷ [])) (rows ++ row ∷ []) ≡ extended (joined_rows w xs rows) (map (after_digit (d * w)) row)
joined_rows-extended w [] rows d row some same = absurd (omega arith)
joined_rows-extended w (x ∷ []) rows d row some same =
    let total = sum_by-cons length x [] in
    let all : length rows ≤ length x = omega (arith, total) in
    let more : length (rows ++ row ∷ []) ≤ length (x ++ d ∷ []) = omega (arith, total, length-append rows (row ∷ []), length-append x (d ∷ [])) in
    ap (λ rs. joined w (x ++ d ∷ []) rs ∷ []) (take_all (length (x ++ d ∷ [])) (rows ++ row ∷ []) more)
    ∙ ap (λ es. es ∷ []) (joined-push w x rows d row (omega (arith, total)))
    ∙ ap (λ rs. (joined w x rs ++ map (after_digit (d * w)) row) ∷ []) (sym (take_all (length x) rows all))
joined_rows-extended w (x ∷ (y ∷ xs)) rows d row some same =
    let total = sum_by-cons length x (y ∷ xs) in
    let fits : length x ≤ length rows = omega (arith, total) in
    let rest : sum_by length (y ∷ xs) ≡ length (drop (length x) rows) = omega (arith, total, length-drop (length x) rows) in
    ap (λ rs. joined w x rs ∷ joined_rows w (extended (y ∷ xs) (d ∷ [])) (drop (length x) (rows ++ row ∷ []))) (take-append-le (length x) rows (row ∷ []) fits)
    ∙ ap (λ rs. joined w x (take (length x) rows) ∷ joined_rows w (extended (y ∷ xs) (d ∷ [])) rs) (drop-append-le (length x) rows (row ∷ []) fits)
    ∙ ap (λ es. joined w x (take (length x) rows) ∷ es) (joined_rows-extended w (y ∷ xs) (drop (length x) rows) d row (omega arith) rest)

pub length-extended : {A : Type 0} (xs : List (List A)) (more : List A) → length (extended xs more) ≡ length xs
length-extended [] more = refl
length-extended (x ∷ []) more = refl
length-extended (x ∷ (y ∷ xs)) more = ap suc (length-extended (y ∷ xs) more)

pub extended-push : {A : Type 0} (xs : List (List A)) (x more : List A) → extended (xs ++ x ∷ []) more ≡ xs ++ (x ++ more) ∷ []
extended-push [] x more = refl
extended-push (y ∷ []) x more = refl
extended-push (y ∷ (z ∷ xs)) x more = ap (λ ys. y ∷ ys) (extended-push (z ∷ xs) x more)

pub last_of-push : {A : Type 0} (xs : List A) (x d : A) → last_of (xs ++ x ∷ []) d ≡ x
last_of-push [] x d = refl
last_of-push (y ∷ xs) x d = last_of-push xs x y

-- the last number of the last list, with one more
last_number-push : (ns : List ℕ) (n : ℕ) → last_number (ns ++ n ∷ []) ≡ Some n
last_number-push [] n = refl
last_number-push (m ∷ ns) n = ap (λ k. Some k) (last_of-push ns n m)

pub last_number-extended : (xs : List (List ℕ)) (n : ℕ) → 0 < length xs → last_number (last_of (extended xs (n ∷ [])) []) ≡ Some n
last_number-extended [] n some = absurd (omega arith)
last_number-extended (x ∷ []) n some = last_number-push x n
last_number-extended (x ∷ (y ∷ [])) n some = last_number-push y n
last_number-extended (x ∷ (y ∷ (z ∷ xs))) n some = last_number-extended (y ∷ (z ∷ xs)) n (omega arith)

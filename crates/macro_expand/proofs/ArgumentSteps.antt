-- The arguments of a call, one after another.
use Rattle.std.proofs.Common.{◌≡◌, refl, sym, ap, ◌∙◌, ℕ, suc, ◌+◌, ◌<◌, ◌≤◌, Bool, true, false, cond, ◌&&◌, List, [], ◌∷◌, ◌++◌, length, take, drop, map, Option, arith, length-drop, append_assoc}
use Rattle.std.specs.Prelude.{◌==◌}
use Rattle.std.specs.Borrow.{Bor}
use Rattle.std.proofs.lemmas.List.{map_push, take_all, drop-drop}
use Rattle.macro_expand.specs.Calls.{parentheses_after}
use Rattle.macro_expand.specs.Arguments.{brackets_after, with_first, cut, first_len, arguments_left}

-- an argument that a comma ends
pub cut_more : (n m : ℕ) (bytes : List ℕ) → first_len n m bytes < length bytes → cut n m bytes ≡ take (first_len n m bytes) bytes ∷ cut 0 0 (drop (first_len n m bytes + 1) bytes)
cut_more n m [] h = absurd (omega arith)
cut_more n m (b ∷ bs) h = by (b == 44 && (n == 0 && m == 0)) h (cut_more (parentheses_after n b) (brackets_after m b) bs)
  where
    by : (t : Bool) → cond t 0 (suc (first_len (parentheses_after n b) (brackets_after m b) bs)) < suc (length bs)
        → (first_len (parentheses_after n b) (brackets_after m b) bs < length bs → cut (parentheses_after n b) (brackets_after m b) bs
        ≡ take (first_len (parentheses_after n b) (brackets_after m b) bs) bs ∷ cut 0 0 (drop (first_len (parentheses_after n b) (brackets_after m b) bs + 1) bs))
        → cond t ([] ∷ cut 0 0 bs) (with_first b (cut (parentheses_after n b) (brackets_after m b) bs))
        ≡ take (cond t 0 (suc (first_len (parentheses_after n b) (brackets_after m b) bs))) (b ∷ bs)
        ∷ cut 0 0 (drop (cond t 0 (suc (first_len (parentheses_after n b) (brackets_after m b) bs)) + 1) (b ∷ bs))
    by true l more = refl
    by false l more =
        let e : suc (first_len (parentheses_after n b) (brackets_after m b) bs) + 1 ≡ suc (first_len (parentheses_after n b) (brackets_after m b) bs + 1) = omega arith in
        rw e (ap (with_first b) (more (omega arith)))

-- the last argument
pub cut_last : (n m : ℕ) (bytes : List ℕ) → length bytes ≤ first_len n m bytes → cut n m bytes ≡ bytes ∷ []
cut_last n m [] h = refl
cut_last n m (b ∷ bs) h = by (b == 44 && (n == 0 && m == 0)) h (cut_last (parentheses_after n b) (brackets_after m b) bs)
  where
    by : (t : Bool) → suc (length bs) ≤ cond t 0 (suc (first_len (parentheses_after n b) (brackets_after m b) bs))
        → (length bs ≤ first_len (parentheses_after n b) (brackets_after m b) bs → cut (parentheses_after n b) (brackets_after m b) bs ≡ bs ∷ [])
        → cond t ([] ∷ cut 0 0 bs) (with_first b (cut (parentheses_after n b) (brackets_after m b) bs)) ≡ (b ∷ bs) ∷ []
    by true l last = absurd (omega arith)
    by false l last = ap (with_first b) (last (omega arith))

-- the first argument, where a comma ends it
pub first_of_more : (bytes argument after left : List ℕ) (len : ℕ) → len ≡ first_len 0 0 bytes → argument ≡ take len bytes → after ≡ drop len bytes → 0 < length after → left ≡ drop 1 after → cut 0 0 bytes ≡ argument ∷ cut 0 0 left
first_of_more bytes argument after left len is prefix rest some last =
    let inside : first_len 0 0 bytes < length bytes = omega (arith, ap length rest, length-drop len bytes) in
    cut_more 0 0 bytes inside
    ∙ (ap (λ n. take n bytes ∷ cut 0 0 (drop (n + 1) bytes)) (sym is)
    ∙ ((λ i. sym prefix i ∷ cut 0 0 (sym (drop-drop 1 len bytes) i))
    ∙ ap (λ bs. argument ∷ cut 0 0 bs) (sym (last ∙ ap (drop 1) rest))))

-- the only argument
pub first_of_one : (bytes argument after : List ℕ) (len : ℕ) → len ≡ first_len 0 0 bytes → argument ≡ take len bytes → after ≡ drop len bytes → length after ≡ 0 → cut 0 0 bytes ≡ argument ∷ []
first_of_one bytes argument after len is prefix rest none =
    let whole : length bytes ≤ len = omega (arith, ap length rest, length-drop len bytes) in
    cut_last 0 0 bytes (omega arith) ∙ ap (λ bs. bs ∷ []) (sym (prefix ∙ take_all len bytes whole))

-- one argument more
pub arguments_more : (old new : List (Bor (List ℕ))) (argument : Bor (List ℕ)) (bytes : List ℕ) (left : Option (List ℕ)) (whole : List (List ℕ))
    → map (λ a. a.now) old ++ cut 0 0 bytes ≡ whole → cut 0 0 bytes ≡ argument.now ∷ arguments_left left → new ≡ old ++ argument ∷ [] → map (λ a. a.now) new ++ arguments_left left ≡ whole
arguments_more old new argument bytes left whole whole_is parted pushed =
    ap (λ (all : List (Bor (List ℕ))). map (λ a. a.now) all ++ arguments_left left) pushed
    ∙ (ap (λ (all : List (List ℕ)). all ++ arguments_left left) (map_push (λ (a : Bor (List ℕ)). a.now) old argument)
    ∙ (append_assoc (map (λ a. a.now) old) (argument.now ∷ []) (arguments_left left)
    ∙ (ap (λ rest. map (λ a. a.now) old ++ rest) (sym parted) ∙ whole_is)))

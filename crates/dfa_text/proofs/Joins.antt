-- Texts joined by a separator.
use Rattle.std.proofs.Common.{◌≡◌, ℕ, ◌+◌, ◌<◌, ◌≤◌, List, [], ◌∷◌, ◌++◌, length, take, drop, get_or, cond, eqb, sym, ap, ◌∙◌, append_assoc, arith, codes}
use Rattle.std.specs.List.{flat_map, join_by}
use Rattle.std.proofs.lemmas.Bool.{ne_eqb}
use Rattle.std.proofs.lemmas.List.{append-nil, take_more, take_all, flat_map_more}
use Rattle.std.proofs.lemmas.List.Concat.{flat_map-append}
use Rattle.dfa_text.specs.Parts.{text_of_lines}

-- one piece more
pub join_push : {X A : Type 0} (f : X → List A) (sep : List A) (xs : List X) (x : X) → join_by f sep (xs ++ x ∷ []) ≡ join_by f sep xs ++ (cond (eqb (length xs) 0) [] sep ++ f x)
join_push f sep [] x = append-nil (f x)
join_push f sep (y ∷ ys) x = rw (ne_eqb (length (y ∷ ys)) 0 (λ e. absurd (omega arith))) (ap (λ t. f y ++ t) (flat_map-append (λ z. sep ++ f z) ys (x ∷ []) ∙ ap (λ t. flat_map (λ z. sep ++ f z) ys ++ t) (append-nil (sep ++ f x))) ∙ sym (append_assoc (f y) (flat_map (λ z. sep ++ f z) ys) (sep ++ f x)))

-- a text that grows by one piece
pub join_more : {X A : Type 0} (f : X → List A) (sep : List A) (out before after : List A) (xs ys : List X) (x : X) (n : ℕ) → length xs ≡ n → ys ≡ xs ++ x ∷ [] → before ≡ out ++ join_by f sep xs → after ≡ before ++ (cond (eqb n 0) [] sep ++ f x) → after ≡ out ++ join_by f sep ys
join_more f sep out before after xs ys x n e more h step = step ∙ ap (λ t. t ++ (cond (eqb n 0) [] sep ++ f x)) h ∙ append_assoc out (join_by f sep xs) (cond (eqb n 0) [] sep ++ f x) ∙ ap (λ t. out ++ t) (ap (λ k. join_by f sep xs ++ (cond (eqb k 0) [] sep ++ f x)) (sym e) ∙ sym (join_push f sep xs x) ∙ ap (join_by f sep) (sym more))

-- a text that grows by the pieces of a list, one after another
pub pieces_more : {X A : Type 0} (f : X → List A) (out before after : List A) (xs : List X) (i : ℕ) (x d : X) → i < length xs → x ≡ get_or xs i d → before ≡ out ++ flat_map f (take i xs) → after ≡ before ++ f x → after ≡ out ++ flat_map f (take (i + 1) xs)
pieces_more f out before after xs i x d lt e h step = step ∙ ap (λ t. t ++ f x) h ∙ flat_map_more f out (take i xs) x ∙ ap (λ ys. out ++ flat_map f ys) (ap (λ y. take i xs ++ y ∷ []) e ∙ sym (take_more xs i d lt))

-- a first piece, and the others with what is between
pub joined_all : {X A : Type 0} (f : X → List A) (sep old start out : List A) (xs others : List X) (i : ℕ) (d : X) → 0 < length xs → others ≡ drop 1 xs → start ≡ old ++ f (get_or xs 0 d) → length others ≤ i → out ≡ start ++ flat_map (λ y. sep ++ f y) (take i others) → out ≡ old ++ join_by f sep xs
joined_all f sep old start out [] others i d some rest first done h = absurd (omega arith)
joined_all f sep old start out (x ∷ xs) others i d some rest first done h =
    h ∙ ap (λ ys. start ++ flat_map (λ y. sep ++ f y) ys) (take_all i others done ∙ rest) ∙ ap (λ t. t ++ flat_map (λ y. sep ++ f y) xs) first ∙ append_assoc old (f x) (flat_map (λ y. sep ++ f y) xs)

-- the lines of two lists, one after the other
pub text_of_lines-append : (xs ys : List (List ℕ)) → text_of_lines (xs ++ ys) ≡ text_of_lines xs ++ text_of_lines ys
text_of_lines-append xs ys = flat_map-append (λ line. line ++ codes "\n") xs ys

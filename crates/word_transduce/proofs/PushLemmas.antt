-- Lists of values that grow by one value.
use Rattle.std.proofs.Common.{◌≡◌, ℕ, ◌+◌, List, [], ◌∷◌, ◌++◌, map, sym, ap, ◌∙◌, append_assoc, arith}
use Rattle.std.specs.List.{range_with_len}
use Rattle.std.proofs.lemmas.List.FromFn.{map-range_with_len_more}

-- after other numbers
pub values_push : (f : ℕ → ℕ) (old now new : List ℕ) (k x : ℕ) → now ≡ old ++ map f (range_with_len 0 k) → new ≡ now ++ x ∷ [] → x ≡ f k → new ≡ old ++ map f (range_with_len 0 (k + 1))
values_push f old now new k x so_far pushed is =
    pushed ∙ ap (λ y. now ++ y ∷ []) is ∙ ap (λ (xs : List ℕ). xs ++ f k ∷ []) so_far
    ∙ append_assoc old (map f (range_with_len 0 k)) (f k ∷ [])
    ∙ ap (λ (xs : List ℕ). old ++ xs) (sym (map-range_with_len_more f 0 k k (omega arith)))

-- the first ones
pub values_more : (f : ℕ → ℕ) (now new : List ℕ) (k x : ℕ) → now ≡ map f (range_with_len 0 k) → new ≡ now ++ x ∷ [] → x ≡ f k → new ≡ map f (range_with_len 0 (k + 1))
values_more f now new k x so_far pushed is = values_push f [] now new k x so_far pushed is

-- Lists by index.
use Rattle.std.proofs.Common.{◌≡◌, ℕ, ◌+◌, ◌<◌, List, [], ◌∷◌, ◌++◌, length, map, get_or, sym, ap, ◌∙◌, arith}
use Rattle.std.specs.List.{All, Contains, range_with_len}
use Rattle.std.proofs.lemmas.List.{length-map, get_or-map, map-id}
use Rattle.std.proofs.lemmas.List.Elements.{All-contains}
use Rattle.std.proofs.lemmas.List.FromFn.{fill_by_all, length-range_with_len, get_or-range_with_len, length-map-range_with_len, get_or-map-range_with_len, map-range_with_len_more}

-- functions that are the same at each index
pub map-range-same : {X : Type 0} (f g : ℕ → X) (n : ℕ) (d : X) → ((i : ℕ) → i < n → f i ≡ g i) → map f (range_with_len 0 n) ≡ map g (range_with_len 0 n)
map-range-same f g n d same =
    fill_by_all g (map f (range_with_len 0 n)) n d (length-map-range_with_len f 0 n) (λ k within. get_or-map-range_with_len f 0 n k k d within (omega arith) ∙ same k within)

-- a function of each element, by index
pub map-range-list : {X Y : Type 0} (f : X → Y) (xs : List X) (d : X) (e : Y) → map (λ i. f (get_or xs i d)) (range_with_len 0 (length xs)) ≡ map f xs
map-range-list f xs d e =
    sym (fill_by_all (λ i. f (get_or xs i d)) (map f xs) (length xs) e (length-map xs f) (λ k within. get_or-map f xs k d e within))

-- the numbers below a number are below it
pub All-range : (n : ℕ) → All (λ p. p < n) (range_with_len 0 n)
All-range n i e within =
    let small : i < n = omega (arith, within, length-range_with_len 0 n) in
    omega (arith, get_or-range_with_len 0 n i e small, small)

-- one number more
pub range_more : (n : ℕ) → range_with_len 0 (n + 1) ≡ range_with_len 0 n ++ n ∷ []
range_more n =
    sym (map-id (range_with_len 0 (n + 1)))
    ∙ map-range_with_len_more (λ (x : ℕ). x) 0 n n (omega arith)
    ∙ ap (λ ns. ns ++ n ∷ []) (map-id (range_with_len 0 n))

-- and no others are in the list
pub Contains-range : (n a : ℕ) → a < n → Contains (range_with_len 0 n) a
Contains-range n a less = (a, omega (arith, length-range_with_len 0 n, less), omega (arith, get_or-range_with_len 0 n a a less))

pub Contains-from_range : (n a : ℕ) → Contains (range_with_len 0 n) a → a < n
Contains-from_range n a there = All-contains (λ p. p < n) (range_with_len 0 n) a (All-range n) there

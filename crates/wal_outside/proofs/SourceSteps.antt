-- What a read of the first bytes leaves.
use Rattle.std.proofs.Common.{◌≡◌, ℕ, ◌+◌, ◌<◌, ◌≤◌, List, [], ◌++◌, length, take, drop, min, arith}
use Rattle.std.proofs.lemmas.List.{take-append-drop, drop-drop, nil_from_length}

-- the bytes that were given, and then what is left
pub drop-given : (xs prefix : List ℕ) (at n : ℕ) → prefix ≡ take n (drop at xs) → drop at xs ≡ prefix ++ drop (at + n) xs
drop-given xs prefix at n given = rw (given, ← drop-drop n at xs, take-append-drop)

-- where none was given though there was room, none is left
pub drop-none : (xs : List ℕ) (at n most room : ℕ) → n ≡ min (min most (length (drop at xs))) room → 1 ≤ most → n ≡ 0 → 0 < room → drop (at + n) xs ≡ []
drop-none xs at n most room count some none roomy =
    let empty : length (drop at xs) ≡ 0 = omega (arith, count, some, none, roomy) in
    let same : at + n ≡ at = omega (arith, none) in
    rw same (nil_from_length (drop at xs) empty)

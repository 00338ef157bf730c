-- Rows that are kept by tracks: the tracks that decide, and transitions before a place.
use Rattle.std.proofs.Common.{◌≡◌, ℕ, suc, zero, ◌+◌, ◌*◌, ◌/◌, ◌<◌, ◌≤◌, inl, inr, List, [], ◌∷◌, take, drop, length, get_or, Some, refl, ap, ◌∙◌, arith}
use Rattle.std.specs.List.{slice_get}
use Rattle.std.proofs.lemmas.Nat.{div-mul-add}
use Rattle.digit_tuple.specs.Letters.{product}
use Rattle.digit_tuple.specs.SparseRows.{DecideRows}
use Rattle.digit_tuple.specs.declared.transitions.Transition.{Transition}
use Rattle.digit_tuple.proofs.LetterLemmas.{positive_left}

-- tracks by which rows are decided have the letters of the alphabet, and there is one at least
pub decide-product : (sizes tracks : List ℕ) → DecideRows sizes tracks → product tracks ≡ product sizes
decide-product sizes tracks (inl same) = ap product same.0
decide-product sizes tracks (inr one) = let letters : product tracks ≡ product sizes * 1 = ap product one in omega (arith, letters)

pub get_or-taken : (es : List Transition) (i k : ℕ) (d : Transition) → k < i → i ≤ length es → get_or (take i es) k d ≡ get_or es k d
get_or-taken [] i k d less within = absurd (omega arith)
get_or-taken (e ∷ es) zero k d less within = absurd (omega arith)
get_or-taken (e ∷ es) (suc i) zero d less within = refl
get_or-taken (e ∷ es) (suc i) (suc k) d less within = get_or-taken es i k d (omega arith) (omega arith)

-- how many letters the later tracks have
pub first_weight : (sizes : List ℕ) (s letters : ℕ) → Some s ≡ slice_get sizes 0 → product sizes ≡ letters → 0 < letters → letters / s ≡ product (drop 1 sizes)
first_weight [] s letters first whole some = absurd (let no : ⊥ = cc in no)
first_weight (r ∷ sizes) s letters first whole some =
    let same : s ≡ r = cc in
    let positive : 0 < r = positive_left r (product sizes) (omega (arith, whole, some)) in
    let turned : letters ≡ product sizes * r + 0 = omega (arith, whole) in
    ap (λ n. letters / n) same ∙ ap (λ n. n / r) turned ∙ div-mul-add (product sizes) r 0 positive

-- Places in lists.
use Rattle.std.proofs.Common.{◌≡◌, List, [], ◌∷◌, ◌++◌, length, None, Some, refl}
use Rattle.std.specs.Prelude.{slice_get}

-- the element after a prefix, and none after all
pub slice_get-prefix : {X : Type 0} (xs : List X) (y : X) (ys : List X) → slice_get (xs ++ y ∷ ys) (length xs) ≡ Some y
slice_get-prefix [] y ys = refl
slice_get-prefix (x ∷ xs) y ys = slice_get-prefix xs y ys

pub slice_get-past : {X : Type 0} (xs : List X) → slice_get xs (length xs) ≡ None
slice_get-past [] = refl
slice_get-past (x ∷ xs) = slice_get-past xs

-- Lists that are related place by place.
use Rattle.std.proofs.Common.{List, [], ◌∷◌, ◌++◌}
use Rattle.std.specs.List.{AllZip}

pub AllZip-append : {A B : Type 0} (R : A → B → Type 0) (xs us : List A) (ys vs : List B) → AllZip R xs ys → AllZip R us vs → AllZip R (xs ++ us) (ys ++ vs)
AllZip-append R [] us [] vs first second = second
AllZip-append R [] us (y ∷ ys) vs first second = absurd first
AllZip-append R (x ∷ xs) us [] vs first second = absurd first
AllZip-append R (x ∷ xs) us (y ∷ ys) vs first second = (first.0, AllZip-append R xs us ys vs first.1 second)

-- What a loop appends, one item after another.
use Rattle.std.proofs.Common.{◌≡◌, ℕ, ◌+◌, ◌<◌, ◌≤◌, List, [], ◌∷◌, ◌++◌, length, map, take, get_or, sym, ap, ◌∙◌, append_assoc}
use Rattle.std.specs.List.{flat_map}
use Rattle.std.proofs.lemmas.List.{flat_map_more, map_more, take_all, take_more}

-- what one item gives, once it is appended
pub map_appended : {A B : Type 0} (f : A → B) (xs : List A) (i : ℕ) (z : A) (before now next : List B) → i < length xs → now ≡ before ++ map f (take i xs) → next ≡ now ++ f (get_or xs i z) ∷ [] → next ≡ before ++ map f (take (i + 1) xs)
map_appended f xs i z before now next less is more =
    more ∙ ap (λ ys. ys ++ f (get_or xs i z) ∷ []) is ∙ append_assoc before (map f (take i xs)) (f (get_or xs i z) ∷ []) ∙ ap (λ ys. before ++ ys) (sym (map_more f xs i z less))

pub all_appended : {A B : Type 0} (f : List A → List B) (xs : List A) (i : ℕ) (before now : List B) → length xs ≤ i → now ≡ before ++ f (take i xs) → now ≡ before ++ f xs
all_appended f xs i before now past is = is ∙ ap (λ ys. before ++ f ys) (take_all i xs past)

-- what one item gives, where it gives a list
pub lists_appended : {A B : Type 0} (f : A → List B) (xs : List A) (i : ℕ) (z : A) (before now next : List B) → i < length xs → now ≡ before ++ flat_map f (take i xs) → next ≡ now ++ f (get_or xs i z) → next ≡ before ++ flat_map f (take (i + 1) xs)
lists_appended f xs i z before now next less is more =
    more ∙ ap (λ ys. ys ++ f (get_or xs i z)) is ∙ flat_map_more f before (take i xs) (get_or xs i z) ∙ ap (λ ys. before ++ flat_map f ys) (sym (take_more xs i z less))

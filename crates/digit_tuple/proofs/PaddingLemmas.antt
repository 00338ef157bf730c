-- Words reversed, and the zeros at their ends.
use Rattle.std.proofs.Common.{◌≡◌, ℕ, zero, suc, ◌+◌, ◌<◌, ◌≤◌, List, [], ◌∷◌, ◌++◌, reverse, map, length, refl, sym, ap, ◌∙◌, subst, arith}
use Rattle.std.proofs.lemmas.List.{reverse-append, reverse-reverse, length-reverse, map_push}
use Rattle.digit_tuple.specs.Letters.{IsWord}
use Rattle.digit_tuple.specs.Paddings.{zeros, without_zeros, in_order, strip}
use Rattle.digit_tuple.specs.declared.direction.Direction.{Direction}
use Rattle.digit_tuple.specs.declared.direction.Direction.TheVariants.{Msd, Lsd}
use Rattle.digit_tuple.proofs.WordLemmas.{IsWord-push}

pub reverse-cons : (a : ℕ) (w : List ℕ) → reverse (a ∷ w) ≡ reverse w ++ a ∷ []
reverse-cons a w = reverse-append (a ∷ []) w

pub IsWord-reverse : (letters : ℕ) (w : List ℕ) → IsWord letters w → IsWord letters (reverse w)
IsWord-reverse letters [] over = tt
IsWord-reverse letters (a ∷ w) over = subst (IsWord letters) (sym (reverse-cons a w)) (IsWord-push letters (reverse w) a (IsWord-reverse letters w over.1) over.0)

pub map-reverse : (f : ℕ → ℕ) (w : List ℕ) → map f (reverse w) ≡ reverse (map f w)
map-reverse f [] = refl
map-reverse f (a ∷ w) = ap (map f) (reverse-append (a ∷ []) w) ∙ map_push f (reverse w) a ∙ ap (λ u. u ++ f a ∷ []) (map-reverse f w) ∙ sym (reverse-append (f a ∷ []) (map f w))

-- a direction twice is none
pub in_order-twice : (direction : Direction) (w : List ℕ) → in_order direction (in_order direction w) ≡ w
in_order-twice Msd w = refl
in_order-twice Lsd w = reverse-reverse w

pub length-in_order : (direction : Direction) (w : List ℕ) → length (in_order direction w) ≡ length w
length-in_order Msd w = refl
length-in_order Lsd w = length-reverse w

pub IsWord-in_order : (direction : Direction) (d : ℕ) (w : List ℕ) → IsWord d w → IsWord d (in_order direction w)
IsWord-in_order Msd d w over = over
IsWord-in_order Lsd d w over = IsWord-reverse d w over

-- letters are mapped in either order
pub in_order-map : (direction : Direction) (f : ℕ → ℕ) (w : List ℕ) → in_order direction (map f w) ≡ map f (in_order direction w)
in_order-map Msd f w = refl
in_order-map Lsd f w = sym (map-reverse f w)

pub IsWord-zeros : (letters k : ℕ) → 0 < letters → IsWord letters (zeros k)
IsWord-zeros letters zero some = tt
IsWord-zeros letters (suc k) some = (some, IsWord-zeros letters k some)

pub IsWord-without_zeros : (letters : ℕ) (w : List ℕ) → IsWord letters w → IsWord letters (without_zeros w)
IsWord-without_zeros letters [] over = tt
IsWord-without_zeros letters (zero ∷ w) over = IsWord-without_zeros letters w over.1
IsWord-without_zeros letters (suc a ∷ w) over = over

-- a word is its leading zeros and the rest
pub zeros_then_rest : (w : List ℕ) → (k : ℕ) × (w ≡ zeros k ++ without_zeros w)
zeros_then_rest [] = (0, refl)
zeros_then_rest (zero ∷ w) = let rest = zeros_then_rest w in (suc rest.0, ap (λ (u : List ℕ). 0 ∷ u) rest.1)
zeros_then_rest (suc a ∷ w) = (0, refl)

pub without_zeros-zeros : (k : ℕ) (w : List ℕ) → without_zeros (zeros k ++ w) ≡ without_zeros w
without_zeros-zeros zero w = refl
without_zeros-zeros (suc k) w = without_zeros-zeros k w

pub without_zeros-twice : (w : List ℕ) → without_zeros (without_zeros w) ≡ without_zeros w
without_zeros-twice [] = refl
without_zeros-twice (zero ∷ w) = without_zeros-twice w
without_zeros-twice (suc a ∷ w) = refl

zeros-push : (k : ℕ) → zeros k ++ 0 ∷ [] ≡ 0 ∷ zeros k
zeros-push zero = refl
zeros-push (suc k) = ap (λ (u : List ℕ). 0 ∷ u) (zeros-push k)

pub reverse-zeros : (k : ℕ) → reverse (zeros k) ≡ zeros k
reverse-zeros zero = refl
reverse-zeros (suc k) = reverse-cons 0 (zeros k) ∙ ap (λ (u : List ℕ). u ++ 0 ∷ []) (reverse-zeros k) ∙ zeros-push k

-- a word is what is left without its trailing zeros, and these
pub zeros_at_end : (w : List ℕ) → (k : ℕ) × (w ≡ strip Lsd w ++ zeros k)
zeros_at_end w =
    let prefix = zeros_then_rest (reverse w) in
    (prefix.0, sym (reverse-reverse w) ∙ ap reverse prefix.1 ∙ reverse-append (zeros prefix.0) (without_zeros (reverse w)) ∙ ap (λ (u : List ℕ). strip Lsd w ++ u) (reverse-zeros prefix.0))

-- trailing zeros do not count
pub strip-zeros : (w : List ℕ) (k : ℕ) → strip Lsd (strip Lsd w ++ zeros k) ≡ strip Lsd w
strip-zeros w k = ap reverse (ap without_zeros turned ∙ without_zeros-zeros k (without_zeros (reverse w)) ∙ without_zeros-twice (reverse w))
  where
    turned : reverse (strip Lsd w ++ zeros k) ≡ zeros k ++ without_zeros (reverse w)
    turned = reverse-append (strip Lsd w) (zeros k) ∙ ap (λ (u : List ℕ). u ++ reverse (strip Lsd w)) (reverse-zeros k) ∙ ap (λ (u : List ℕ). zeros k ++ u) (reverse-reverse (without_zeros (reverse w)))

pub IsWord-strip : (letters : ℕ) (w : List ℕ) → IsWord letters w → IsWord letters (strip Lsd w)
IsWord-strip letters w over = IsWord-reverse letters (without_zeros (reverse w)) (IsWord-without_zeros letters (reverse w) (IsWord-reverse letters w over))

pub IsWord-zeros_before : (d k : ℕ) (w : List ℕ) → 0 < d → IsWord d w → IsWord d (zeros k ++ w)
IsWord-zeros_before d zero w some over = over
IsWord-zeros_before d (suc k) w some over = (some, IsWord-zeros_before d k w some over)

pub length-zeros : (k : ℕ) (w : List ℕ) → length (zeros k ++ w) ≡ k + length w
length-zeros zero w = omega arith
length-zeros (suc k) w = let rest : length (zeros k ++ w) ≡ k + length w = length-zeros k w in omega (arith, rest)

pub without_zeros-short : (w : List ℕ) → length (without_zeros w) ≤ length w
without_zeros-short [] = omega arith
without_zeros-short (zero ∷ w) = let rest : length (without_zeros w) ≤ length w = without_zeros-short w in omega (arith, rest)
without_zeros-short (suc a ∷ w) = omega arith

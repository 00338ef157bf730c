-- Facts on lists that hold whatever their elements are.
use Rattle.std.proofs.Common.{◌≡◌, ℕ, zero, suc, ◌<◌, List, [], ◌∷◌, ◌++◌, length, get_or, ◌⊎◌, inl, inr, refl, sym, ap, ◌∙◌, arith, append_assoc}
use Rattle.std.specs.Prelude.{Contains}
use Rattle.std.specs.List.{AllByRecursion, AllZip}
use Rattle.regex_build.specs.Matches.{joined}

pub middle_is_some : {X : Type 0} (u : List X) (x : X) (v : List X) → u ++ x ∷ v ≡ [] → ⊥
middle_is_some [] x v h = cc
middle_is_some (y ∷ u) x v h = cc

-- a list of one element has it in its middle
pub record IsAlone {X : Type 0} (u : List X) (x : X) (v : List X) (y : X) : Type 0 where
  pub before : u ≡ []
  pub same : x ≡ y
  pub after : v ≡ []

pub middle_of_one : {X : Type 0} (u : List X) (x : X) (v : List X) (y : X) → u ++ x ∷ v ≡ y ∷ [] → IsAlone u x v y
middle_of_one [] x v y h = record { before = refl; same = cc; after = cc }
middle_of_one (z ∷ u) x v y h = let e : u ++ x ∷ v ≡ [] = cc in absurd (middle_is_some u x v e)

-- an element in the first of two lists, or in the second
pub record InFirst {X : Type 0} (u : List X) (x : X) (v a b : List X) : Type 0 where
  pub rest : List X
  pub first : a ≡ u ++ x ∷ rest
  pub after : v ≡ rest ++ b

pub record InSecond {X : Type 0} (u : List X) (x : X) (v a b : List X) : Type 0 where
  pub rest : List X
  pub before : u ≡ a ++ rest
  pub second : b ≡ rest ++ x ∷ v

pub middle-append : {X : Type 0} (u : List X) (x : X) (v a b : List X) → u ++ x ∷ v ≡ a ++ b → InFirst u x v a b ⊎ InSecond u x v a b
middle-append [] x v [] b h = inr (record { rest = []; before = refl; second = sym h })
middle-append [] x v (y ∷ a) b h = inl (record { rest = a; first = cc; after = cc })
middle-append (y ∷ u) x v [] b h = inr (record { rest = y ∷ u; before = refl; second = sym h })
middle-append (y ∷ u) x v (z ∷ a) b h =
    let e : u ++ x ∷ v ≡ a ++ b = cc in
    let s : y ≡ z = cc in
    elim (middle-append u x v a b e) [
      | inl p ↦ inl (record { rest = p.rest; first = let f : a ≡ u ++ x ∷ p.rest = p.first in cc; after = p.after })
      | inr p ↦ inr (record { rest = p.rest; before = let f : u ≡ a ++ p.rest = p.before in cc; second = p.second })
    ]

pub joined-append : {X : Type 0} (xs ys : List (List X)) → joined (xs ++ ys) ≡ joined xs ++ joined ys
joined-append [] ys = refl
joined-append (x ∷ xs) ys = ap (λ w. x ++ w) (joined-append xs ys) ∙ sym (append_assoc x (joined xs) (joined ys))

pub zip-append : {X Y : Type 0} (R : X → Y → Type 0) (xs : List X) (ys : List Y) (us : List X) (vs : List Y) → AllZip R xs ys → AllZip R us vs → AllZip R (xs ++ us) (ys ++ vs)
zip-append R [] [] us vs h k = k
zip-append R [] (y ∷ ys) us vs h k = absurd h
zip-append R (x ∷ xs) [] us vs h k = absurd h
zip-append R (x ∷ xs) (y ∷ ys) us vs h k = (h.0, zip-append R xs ys us vs h.1 k)

pub zip-weaker : {X Y : Type 0} (R S : X → Y → Type 0) → ((x : X) (y : Y) → R x y → S x y) → (xs : List X) (ys : List Y) → AllZip R xs ys → AllZip S xs ys
zip-weaker R S f [] [] h = tt
zip-weaker R S f [] (y ∷ ys) h = absurd h
zip-weaker R S f (x ∷ xs) [] h = absurd h
zip-weaker R S f (x ∷ xs) (y ∷ ys) h = (f x y h.0, zip-weaker R S f xs ys h.1)

-- three lists side by side
pub zip-through : {X Y Z : Type 0} (R : X → Y → Type 0) (S : Z → Y → Type 0) (T : X → Z → Type 0) → ((x : X) (y : Y) (z : Z) → R x y → S z y → T x z)
    → (xs : List X) (ys : List Y) (zs : List Z) → AllZip R xs ys → AllZip S zs ys → AllZip T xs zs
zip-through R S T f [] [] [] h k = tt
zip-through R S T f [] [] (z ∷ zs) h k = absurd k
zip-through R S T f [] (y ∷ ys) zs h k = absurd h
zip-through R S T f (x ∷ xs) [] zs h k = absurd h
zip-through R S T f (x ∷ xs) (y ∷ ys) [] h k = absurd k
zip-through R S T f (x ∷ xs) (y ∷ ys) (z ∷ zs) h k = (f x y z h.0 k.0, zip-through R S T f xs ys zs h.1 k.1)

pub zip-compose : {X Y Z : Type 0} (R : X → Y → Type 0) (S : Y → Z → Type 0) (T : X → Z → Type 0) → ((x : X) (y : Y) (z : Z) → R x y → S y z → T x z)
    → (xs : List X) (ys : List Y) (zs : List Z) → AllZip R xs ys → AllZip S ys zs → AllZip T xs zs
zip-compose R S T f [] [] [] h k = tt
zip-compose R S T f [] [] (z ∷ zs) h k = absurd k
zip-compose R S T f [] (y ∷ ys) zs h k = absurd h
zip-compose R S T f (x ∷ xs) [] zs h k = absurd h
zip-compose R S T f (x ∷ xs) (y ∷ ys) [] h k = absurd k
zip-compose R S T f (x ∷ xs) (y ∷ ys) (z ∷ zs) h k = (f x y z h.0 k.0, zip-compose R S T f xs ys zs h.1 k.1)

pub length_zip : {X Y : Type 0} (R : X → Y → Type 0) (xs : List X) (ys : List Y) → AllZip R xs ys → length xs ≡ length ys
length_zip R [] [] h = refl
length_zip R [] (y ∷ ys) h = absurd h
length_zip R (x ∷ xs) [] h = absurd h
length_zip R (x ∷ xs) (y ∷ ys) h = ap suc (length_zip R xs ys h.1)

pub contains_cons_cases : {X : Type 0} (x : X) (xs : List X) (y : X) → Contains (x ∷ xs) y → (x ≡ y) ⊎ Contains xs y
contains_cons_cases x xs y h = from h.0 h.1 h.2
  where
    from : (k : ℕ) → k < length (x ∷ xs) → get_or (x ∷ xs) k y ≡ y → (x ≡ y) ⊎ Contains xs y
    from zero l e = inl e
    from (suc k) l e = inr (k, (omega arith), e)

pub contains_here : {X : Type 0} (x : X) (xs : List X) (y : X) → x ≡ y → Contains (x ∷ xs) y
contains_here x xs y e = (0, (omega arith), e)

pub contains_later : {X : Type 0} (x : X) (xs : List X) (y : X) → Contains xs y → Contains (x ∷ xs) y
contains_later x xs y h = let l : h.0 < length xs = h.1 in (suc h.0, (omega arith), h.2)

pub contains_none : {X : Type 0} (y : X) → Contains [] y → ⊥
contains_none y h = let l : h.0 < 0 = h.1 in omega arith

pub zip_at : {X Y : Type 0} (R : X → Y → Type 0) (xs : List X) (ys : List Y) (i : ℕ) (x : X) (y : Y) → AllZip R xs ys → i < length xs → R (get_or xs i x) (get_or ys i y)
zip_at R [] [] i x y h l = absurd (omega arith)
zip_at R [] (b ∷ ys) i x y h l = absurd h
zip_at R (a ∷ xs) [] i x y h l = absurd h
zip_at R (a ∷ xs) (b ∷ ys) zero x y h l = h.0
zip_at R (a ∷ xs) (b ∷ ys) (suc i) x y h l = zip_at R xs ys i x y h.1 (omega arith)

-- what is beside two lists, one after the other
pub record ZipParts {X Y : Type 0} (R : X → Y → Type 0) (xs us : List X) (ys : List Y) : Type 0 where
  pub first : List Y
  pub second : List Y
  pub split : ys ≡ first ++ second
  pub firsts : AllZip R xs first
  pub seconds : AllZip R us second

pub zip_parts : {X Y : Type 0} (R : X → Y → Type 0) (xs us : List X) (ys : List Y) → AllZip R (xs ++ us) ys → ZipParts R xs us ys
zip_parts R [] us ys h = record { first = []; second = ys; split = refl; firsts = tt; seconds = h }
zip_parts R (x ∷ xs) us [] h = absurd h
zip_parts R (x ∷ xs) us (y ∷ ys) h =
    let p = zip_parts R xs us ys h.1 in
    record { first = y ∷ p.first; second = p.second; split = ap (λ v. y ∷ v) p.split; firsts = (h.0, p.firsts); seconds = p.seconds }

pub zip_weaker_where : {X Y : Type 0} (P : X → Type 0) (R S : X → Y → Type 0) → ((x : X) (y : Y) → P x → R x y → S x y) → (xs : List X) (ys : List Y) → AllByRecursion P xs → AllZip R xs ys → AllZip S xs ys
zip_weaker_where P R S f [] [] p h = tt
zip_weaker_where P R S f [] (y ∷ ys) p h = absurd h
zip_weaker_where P R S f (x ∷ xs) [] p h = absurd h
zip_weaker_where P R S f (x ∷ xs) (y ∷ ys) p h = (f x y p.0 h.0, zip_weaker_where P R S f xs ys p.1 h.1)

-- two lists that are the same have the same last element, and the same before it
pub record SameEnds {X : Type 0} (xs : List X) (x : X) (ys : List X) (y : X) : Type 0 where
  pub prefix : xs ≡ ys
  pub last : x ≡ y

pub same_ends : {X : Type 0} (xs : List X) (x : X) (ys : List X) (y : X) → xs ++ x ∷ [] ≡ ys ++ y ∷ [] → SameEnds xs x ys y
same_ends [] x [] y h = record { prefix = refl; last = cc }
same_ends [] x (z ∷ ys) y h = let e : [] ≡ ys ++ y ∷ [] = cc in absurd (middle_is_some ys y [] (sym e))
same_ends (z ∷ xs) x [] y h = let e : xs ++ x ∷ [] ≡ [] = cc in absurd (middle_is_some xs x [] e)
same_ends (z ∷ xs) x (t ∷ ys) y h =
    let e : xs ++ x ∷ [] ≡ ys ++ y ∷ [] = cc in
    let s = same_ends xs x ys y e in
    let head : z ≡ t = cc in
    record { prefix = ap (λ w. w ∷ xs) head ∙ ap (λ ws. t ∷ ws) s.prefix; last = s.last }

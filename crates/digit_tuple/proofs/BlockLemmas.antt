-- Blocks of elements: where an element is in them, and blocks with one more.
use Rattle.std.proofs.Common.{◌≡◌, ℕ, suc, zero, ◌+◌, ◌-◌, ◌*◌, ◌/◌, ◌%◌, ◌<◌, ◌≤◌, Some, List, [], ◌∷◌, ◌++◌, map, take, length, get_or, sym, ap, ◌∙◌, subst, length-append, arith}
use Rattle.std.specs.List.{AllByRecursion, flat_map, slice_get}
use Rattle.std.proofs.lemmas.Nat.{div-add-mod', mod_below}
use Rattle.std.proofs.lemmas.List.{get_or_append_left, get_or-append-add, take_all, take_more}
use Rattle.std.proofs.lemmas.Option.{get_or_from_slice_get}
use Rattle.std.proofs.lemmas.List.Folds.{flat_map-map}
use Rattle.digit_tuple.specs.Blocks.{AreBlocks}

-- a block has an element at a place, and it is the one that all blocks have at another
pub record IsInBlock {X A : Type 0} (f : X → List A) (xs : List X) (block place whole : ℕ) : Type 0 where
  pub block_within : block < length xs
  pub place_within : (x : X) → place < length (f (get_or xs block x))
  pub same : (x : X) (d : A) → get_or (flat_map f xs) whole d ≡ get_or (f (get_or xs block x)) place d

first_block : {X A : Type 0} (f : X → List A) (y : X) (ys : List X) (size place : ℕ) → place < length (f y) → IsInBlock f (y ∷ ys) 0 place (0 * size + place)
first_block f y ys size place within = record {
  block_within = omega arith;
  place_within = λ x. within;
  same = λ x d. ap (λ n. get_or (f y ++ flat_map f ys) n d) (let e : 0 * size + place ≡ place = omega arith in e) ∙ get_or_append_left (f y) (flat_map f ys) d place within;
}

-- the place of a block's element among those of all blocks
place_of : {X A : Type 0} (f : X → List A) (xs : List X) (size block place : ℕ) → AreBlocks size (map f xs) → place < size → block * size + place < length (flat_map f xs) → IsInBlock f xs block place (block * size + place)
place_of f [] size block place are less within = absurd (omega arith)
place_of f (y ∷ []) size zero place are less within = first_block f y [] size place (omega (arith, within, length-append (f y) []))
place_of f (y ∷ []) size (suc block) place are less within = absurd (omega (arith, within, are, length-append (f y) []))
place_of f (y ∷ (z ∷ zs)) size zero place are less within = first_block f y (z ∷ zs) size place (omega (arith, are.0))
place_of f (y ∷ (z ∷ zs)) size (suc block) place are less within =
    let rest = flat_map f (z ∷ zs) in
    let whole : suc block * size + place ≡ length (f y) + (block * size + place) = omega (arith, are.0) in
    let later = place_of f (z ∷ zs) size block place are.1 less (omega (arith, within, whole, length-append (f y) rest)) in
    record {
      block_within = omega (arith, later.block_within);
      place_within = later.place_within;
      same = λ x d. ap (λ n. get_or (f y ++ rest) n d) whole ∙ get_or-append-add (f y) rest (block * size + place) d ∙ later.same x d;
    }

-- the block of an element is found by a division, and its place in the block is the rest
pub in_block : {X A : Type 0} (f : X → List A) (xs : List X) (size place : ℕ) → AreBlocks size (map f xs) → 0 < size → place < length (flat_map f xs) → IsInBlock f xs (place / size) (place % size) place
in_block f xs size place are some within =
    let whole : place / size * size + place % size ≡ place = omega (arith, div-add-mod' place size) in
    subst (λ n. IsInBlock f xs (place / size) (place % size) n) whole
    (place_of f xs size (place / size) (place % size) are (mod_below place size some) (subst (λ n. n < length (flat_map f xs)) (sym whole) within))

-- blocks that are full, and one more after them
pub AreBlocks-push : {X A : Type 0} (f : X → List A) (xs : List X) (size : ℕ) (x : X) → AllByRecursion (λ y. length (f y) ≡ size) xs → length (f x) ≤ size → AreBlocks size (map f (xs ++ x ∷ []))
AreBlocks-push f [] size x full short = short
AreBlocks-push f (y ∷ []) size x full short = (full.0, short)
AreBlocks-push f (y ∷ (z ∷ zs)) size x full short = (full.0, AreBlocks-push f (z ∷ zs) size x full.1 short)

-- those before the last are full
pub AreBlocks-full : {X A : Type 0} (f : X → List A) (xs : List X) (size : ℕ) (x : X) → AreBlocks size (map f (xs ++ x ∷ [])) → AllByRecursion (λ y. length (f y) ≡ size) xs
AreBlocks-full f [] size x are = tt
AreBlocks-full f (y ∷ []) size x are = (are.0, tt)
AreBlocks-full f (y ∷ (z ∷ zs)) size x are = (are.0, AreBlocks-full f (z ∷ zs) size x are.1)

pub AreBlocks-short : {X A : Type 0} (f : X → List A) (xs : List X) (size : ℕ) (x : X) → AreBlocks size (map f (xs ++ x ∷ [])) → length (f x) ≤ size
AreBlocks-short f [] size x are = are
AreBlocks-short f (y ∷ []) size x are = are.1
AreBlocks-short f (y ∷ (z ∷ zs)) size x are = AreBlocks-short f (z ∷ zs) size x are.1

-- blocks with the same elements have the same elements in all
pub flat_map-same : {X A : Type 0} (f : X → List A) (xs ys : List X) → map f xs ≡ map f ys → flat_map f xs ≡ flat_map f ys
flat_map-same f xs ys same = sym (flat_map-map (λ (block : List _). block) f xs) ∙ ap (flat_map (λ (block : List _). block)) same ∙ flat_map-map (λ (block : List _). block) f ys

-- a list that is not empty ends with its last element
last_split : {X : Type 0} (xs : List X) (at : ℕ) (last : X) → at + 1 ≡ length xs → last ≡ get_or xs at last → xs ≡ take at xs ++ last ∷ []
last_split xs at last end is =
    sym (take_all (at + 1) xs (omega (arith, end))) ∙ take_more xs at last (omega (arith, end)) ∙ ap (λ x. take at xs ++ x ∷ []) (sym is)

pub last-element : {X : Type 0} (xs : List X) (last : X) → Some last ≡ slice_get xs (length xs - 1) → xs ≡ take (length xs - 1) xs ++ last ∷ []
last-element [] last is = absurd (cc)
last-element (x ∷ xs) last is =
    let at = length (x ∷ xs) - 1 in
    last_split (x ∷ xs) at last (omega arith) (sym (get_or_from_slice_get (x ∷ xs) at last last (sym is)))

-- The numbers of letters.
use Rattle.std.proofs.Common.{◌≡◌, ℕ, ◌+◌, ◌<◌, ◌≤◌, List, [], ◌∷◌, ◌++◌, length, refl, sym, ap, ◌∙◌, subst, arith, take, get_or}
use Rattle.std.specs.Prelude.{ℤ, pos, Contains}
use Rattle.std.proofs.lemmas.List.{take_more, take_all}
use Rattle.digit_tuple.specs.Letters.{AreDigits}
use Rattle.digit_tuple.specs.Sets.{sizes_of, members_at}
use Rattle.regex_build.specs.Codes.{AreIndices}
use Rattle.regex_build.specs.Patterns.{AreMembers}
use Rattle.regex_build.proofs.ListSteps.{length_zip, zip_at}

-- the member at a track is one of its set
pub member_at : (sets : List (List ℤ)) (members : List ℤ) (i : ℕ) (set : List ℤ) (other : ℤ) → AreMembers sets members → i < length sets → set ≡ get_or sets i set → Contains {X = ℤ} set (get_or members i other)
member_at sets members i set other h l e =
    let P : List ℤ → Type 0 = λ s. Contains {X = ℤ} s (get_or members i other) in
    subst P (sym e) (zip_at (Contains {X = ℤ}) sets members i set other h l)

indices_push : (sets : List (List ℤ)) (members : List ℤ) (indices : List ℕ) (set : List ℤ) (member : ℤ) (index : ℕ) → AreIndices sets members indices → index < length set → get_or set index (pos 0) ≡ member
    → AreIndices (sets ++ set ∷ []) (members ++ member ∷ []) (indices ++ index ∷ [])
indices_push [] [] [] set member index h l e = (l, e, tt)
indices_push [] [] (p ∷ ps) set member index h l e = absurd h
indices_push [] (m ∷ ms) ps set member index h l e = absurd h
indices_push (s ∷ ss) [] ps set member index h l e = absurd h
indices_push (s ∷ ss) (m ∷ ms) [] set member index h l e = absurd h
indices_push (s ∷ ss) (m ∷ ms) (p ∷ ps) set member index h l e = (h.0, h.1, indices_push ss ms ps set member index h.2 l e)

-- one track more
pub indices_more : (sets : List (List ℤ)) (members : List ℤ) (indices more : List ℕ) (i : ℕ) (set : List ℤ) (other : ℤ) (index : ℕ) → AreMembers sets members → i < length sets → set ≡ get_or sets i set
    → AreIndices (take i sets) (take i members) indices → index < length set → get_or set index (pos 0) ≡ get_or members i other → more ≡ indices ++ index ∷ []
    → AreIndices (take (i + 1) sets) (take (i + 1) members) more
indices_more sets members indices more i set other index h l e are m f g =
    let n : length sets ≡ length members = length_zip (Contains {X = ℤ}) sets members h in
    let s : take (i + 1) sets ≡ take i sets ++ set ∷ [] = take_more sets i set l ∙ ap (λ x. take i sets ++ x ∷ []) (sym e) in
    let t : take (i + 1) members ≡ take i members ++ get_or members i other ∷ [] = take_more members i other (omega arith) in
    let P : List (List ℤ) → Type 0 = λ x. AreIndices x (take (i + 1) members) more in
    let Q : List ℤ → Type 0 = λ x. AreIndices (take i sets ++ set ∷ []) x more in
    let R : List ℕ → Type 0 = λ x. AreIndices (take i sets ++ set ∷ []) (take i members ++ get_or members i other ∷ []) x in
    subst P (sym s) (subst Q (sym t) (subst R (sym g) (indices_push (take i sets) (take i members) indices set (get_or members i other) index are m f)))

pub indices_all : (sets : List (List ℤ)) (members : List ℤ) (indices : List ℕ) (i : ℕ) → AreMembers sets members → length sets ≤ i → AreIndices (take i sets) (take i members) indices → AreIndices sets members indices
indices_all sets members indices i h l are =
    let n : length sets ≡ length members = length_zip (Contains {X = ℤ}) sets members h in
    let P : List (List ℤ) → Type 0 = λ x. AreIndices x members indices in
    let Q : List ℤ → Type 0 = λ x. AreIndices (take i sets) x indices in
    subst P (take_all i sets l) (subst Q (take_all i members (omega arith)) are)

-- indices are digits, and give back the members
pub digits_from_indices : (sets : List (List ℤ)) (members : List ℤ) (indices : List ℕ) → AreIndices sets members indices → AreDigits (sizes_of sets) indices
digits_from_indices [] [] [] h = tt
digits_from_indices [] [] (p ∷ ps) h = absurd h
digits_from_indices [] (m ∷ ms) ps h = absurd h
digits_from_indices (s ∷ ss) [] ps h = absurd h
digits_from_indices (s ∷ ss) (m ∷ ms) [] h = absurd h
digits_from_indices (s ∷ ss) (m ∷ ms) (p ∷ ps) h = (h.0, digits_from_indices ss ms ps h.2)

pub members_from_indices : (sets : List (List ℤ)) (members : List ℤ) (indices : List ℕ) → AreIndices sets members indices → members ≡ members_at sets indices
members_from_indices [] [] [] h = refl
members_from_indices [] [] (p ∷ ps) h = absurd h
members_from_indices [] (m ∷ ms) ps h = absurd h
members_from_indices (s ∷ ss) [] ps h = absurd h
members_from_indices (s ∷ ss) (m ∷ ms) [] h = absurd h
members_from_indices (s ∷ ss) (m ∷ ms) (p ∷ ps) h =
    let e : get_or s p (pos 0) ≡ m = h.1 in
    let f : ms ≡ members_at ss ps = members_from_indices ss ms ps h.2 in
    ap (λ x. x ∷ ms) (sym e) ∙ ap (λ xs. get_or s p (pos 0) ∷ xs) f

-- The lists of next places, as pairs are added to them.
use Rattle.std.proofs.Common.{◌≡◌, ℕ, ◌+◌, ◌<◌, ◌≤◌, ◌↔◌, ◌==◌, Bool, true, false, List, [], ◌∷◌, ◌++◌, length, ◌⊎◌, inl, inr, refl, sym, ap, ◌∙◌, subst, arith, get_or, set, take, true≢false, get_or-set_same, get_or-set_other}
use Rattle.std.specs.Prelude.{Contains, slice_index_or, Vec}
use Rattle.std.specs.declared.alloc.Global.{Global}
use Rattle.std.proofs.Math.ListN.{length-set}
use Rattle.std.proofs.lemmas.Bool.{cases_eq}
use Rattle.std.proofs.lemmas.Bool.Decides.{nat_tests}
use Rattle.std.proofs.lemmas.List.{length-map, get_or-map, map-set, take_more, take_all}
use Rattle.std.proofs.lemmas.List.Elements.{Contains-append_left, Contains-append_right, Contains-append_cases, Contains-push_cases, Contains-push, Contains-get_or}
use Rattle.regex_build.specs.declared.fragment.Crossing.{Crossing}
use Rattle.regex_build.specs.Fragments.{rows_in, Follows, Crosses, AreLinked, AreSettled}
use Rattle.regex_build.proofs.ListSteps.{contains_none}

pub length-rows_in : (rows : List (Vec ℕ Global)) → length (rows_in rows) ≡ length rows
length-rows_in rows = length-map rows (λ row. row.items)

-- the list of a place, and what a longer list makes of the pairs
pub row_at : (rows : List (Vec ℕ Global)) (p : ℕ) (d : Vec ℕ Global) → p < length rows → slice_index_or (rows_in rows) p [] ≡ (get_or rows p d).items
row_at rows p d l = get_or-map (λ row. row.items) rows p d [] l

pub row_is : (rows given : List (Vec ℕ Global)) (p : ℕ) (row : Vec ℕ Global) → given ≡ rows → p < length given → row ≡ get_or given p row → slice_index_or (rows_in rows) p [] ≡ row.items
row_is rows given p row e l at = ap (λ xs. slice_index_or (rows_in xs) p []) (sym e) ∙ (row_at given p row l ∙ ap (λ v. v.items) (sym at))

pub longer_row : (rows : List (List ℕ)) (place : ℕ) (more : List ℕ) → place < length rows → (p q : ℕ) → Follows (set rows place (get_or rows place [] ++ more)) p q ↔ (Follows rows p q ⊎ ((place ≡ p) × Contains more q))
longer_row rows place more l p q =
    let new : List ℕ = get_or rows place [] ++ more in
    let P : List ℕ → Type 0 = λ xs. Contains xs q in
    elim (cases_eq p place) [
      | inl here ↦
          let there : place ≡ p = sym here in
          let Q : ℕ → Type 0 = λ i. Follows (set rows place new) i q ↔ (Follows rows i q ⊎ ((place ≡ i) × Contains more q)) in
          let at : get_or (set rows place new) place [] ≡ new = get_or-set_same rows place new [] l in
          subst Q there (
            λ h. elim (Contains-append_cases (get_or rows place []) more q (subst P at h)) [ inl x ↦ inl x | inr x ↦ inr (refl, x) ],
            λ h. subst P (sym at) (elim h [ inl x ↦ Contains-append_left (get_or rows place []) more q x | inr x ↦ Contains-append_right (get_or rows place []) more q x.1 ]),
          )
      | inr other ↦
          let at : get_or (set rows place new) p [] ≡ get_or rows p [] = get_or-set_other rows place p new [] other in
          (λ h. inl (subst P at h), λ h. elim h [ inl x ↦ subst P (sym at) x | inr x ↦ absurd (other (sym x.0)) ])
    ]

pub linked_none : (Pair : ℕ → ℕ → Type 0) (rows : List (List ℕ)) → ((p q : ℕ) → Pair p q → ⊥) → AreLinked Pair rows rows
linked_none Pair rows none = record { count = refl; pairs = λ p q. (λ h. inl h, λ h. elim h [ inl x ↦ x | inr x ↦ absurd (none p q x) ]) }

-- pairs, and then other pairs
pub linked_then : (Pair More Both : ℕ → ℕ → Type 0) (start old new : List (List ℕ)) → AreLinked Pair start old → AreLinked More old new → ((p q : ℕ) → Both p q ↔ (Pair p q ⊎ More p q)) → AreLinked Both start new
linked_then Pair More Both start old new a b both = record {
  count = b.count ∙ a.count;
  pairs = λ p q. (
    λ h. elim ((b.pairs p q).0 h) [
      | inl x ↦ elim ((a.pairs p q).0 x) [ inl y ↦ inl y | inr y ↦ inr ((both p q).1 (inl y)) ]
      | inr x ↦ inr ((both p q).1 (inr x))
    ],
    λ h. (b.pairs p q).1 (elim h [
      | inl x ↦ inl ((a.pairs p q).1 (inl x))
      | inr x ↦ elim ((both p q).0 x) [ inl y ↦ inl ((a.pairs p q).1 (inr y)) | inr y ↦ inr y ]
    ]),
  );
}

linked_row : (rows : List (List ℕ)) (place : ℕ) (more : List ℕ) → place < length rows → AreLinked (λ p q. (place ≡ p) × Contains more q) rows (set rows place (get_or rows place [] ++ more))
linked_row rows place more l = record { count = length-set rows place (get_or rows place [] ++ more); pairs = longer_row rows place more l }

-- one of the first i elements more
pub contained_more : {X : Type 0} (xs : List X) (i : ℕ) (x : X) → i < length xs → x ≡ get_or xs i x → (y : X) → Contains (take (i + 1) xs) y ↔ (Contains (take i xs) y ⊎ (x ≡ y))
contained_more {X} xs i x l e y =
    let P : List X → Type 0 = λ ys. Contains ys y in
    let one : take (i + 1) xs ≡ take i xs ++ x ∷ [] = take_more xs i x l ∙ ap (λ z. take i xs ++ z ∷ []) (sym e) in
    let Q : X → Type 0 = λ z. Contains (take i xs ++ x ∷ []) z in
    (λ h. Contains-push_cases (take i xs) x y (subst P one h), λ h. subst P (sym one) (elim h [ inl k ↦ Contains-append_left (take i xs) (x ∷ []) y k | inr k ↦ subst Q k (Contains-push (take i xs) x) ]))

-- one last place more
pub linked_more : (lasts firsts : List ℕ) (i place : ℕ) (start : List (List ℕ)) (old : List (Vec ℕ Global)) (row new : Vec ℕ Global) → i < length lasts → place ≡ get_or lasts i place → place < length old → row ≡ get_or old place row → new.items ≡ row.items ++ firsts
    → AreLinked (λ p q. Contains (take i lasts) p × Contains firsts q) start (rows_in old) → AreLinked (λ p q. Contains (take (i + 1) lasts) p × Contains firsts q) start (rows_in (set old place new))
linked_more lasts firsts i place start old row new l at within is more a =
    let len : length (rows_in old) ≡ length old = length-rows_in old in
    let here : get_or (rows_in old) place [] ≡ row.items = row_at old place row within ∙ ap (λ v. v.items) (sym is) in
    let made : rows_in (set old place new) ≡ set (rows_in old) place (get_or (rows_in old) place [] ++ firsts) =
    map-set (λ v. v.items) old place new ∙ ap (set (rows_in old) place) (more ∙ ap (λ xs. xs ++ firsts) (sym here)) in
    let P : List (List ℕ) → Type 0 = λ rows. AreLinked (λ p q. (place ≡ p) × Contains firsts q) (rows_in old) rows in
    linked_then (λ p q. Contains (take i lasts) p × Contains firsts q) (λ p q. (place ≡ p) × Contains firsts q) (λ p q. Contains (take (i + 1) lasts) p × Contains firsts q) start (rows_in old) (rows_in (set old place new)) a
    (subst P (sym made) (linked_row (rows_in old) place firsts (omega arith)))
    (λ p q. let c = contained_more lasts i place l at p in (
      λ h. elim (c.0 h.0) [ inl x ↦ inl (x, h.1) | inr x ↦ inr (x, h.1) ],
      λ h. elim h [ inl x ↦ (c.1 (inl x.0), x.1) | inr x ↦ (c.1 (inr x.0), x.1) ],
    ))

pub linked_all : (lasts firsts : List ℕ) (i : ℕ) (start new : List (List ℕ)) → length lasts ≤ i → AreLinked (λ p q. Contains (take i lasts) p × Contains firsts q) start new → AreLinked (λ p q. Contains lasts p × Contains firsts q) start new
linked_all lasts firsts i start new l a = let P : List ℕ → Type 0 = λ xs. AreLinked (λ p q. Contains xs p × Contains firsts q) start new in subst P (take_all i lasts l) a

-- one crossing more
pub crossings_more : (owed : List Crossing) (i : ℕ) (c : Crossing) (start old new : List (List ℕ)) → i < length owed → c ≡ get_or owed i c → AreLinked (Crosses (take i owed)) start old
    → AreLinked (λ p q. Contains c.lasts.items p × Contains c.firsts.items q) old new → AreLinked (Crosses (take (i + 1) owed)) start new
crossings_more owed i c start old new l at a b =
    linked_then (Crosses (take i owed)) (λ p q. Contains c.lasts.items p × Contains c.firsts.items q) (Crosses (take (i + 1) owed)) start old new a b
    (λ p q. (
      λ h. elim ((contained_more owed i c l at h.0).0 h.1) [
        | inl x ↦ inl (h.0, x, h.2, h.3)
        | inr x ↦
            let P : Crossing → Type 0 = λ d. Contains d.lasts.items p × Contains d.firsts.items q in
            inr (subst P (sym x) (h.2, h.3))
      ],
      λ h. elim h [
        | inl x ↦ (x.0, (contained_more owed i c l at x.0).1 (inl x.1), x.2, x.3)
        | inr x ↦ (c, (contained_more owed i c l at c).1 (inr refl), x.0, x.1)
      ],
    ))

pub crossings_all : (owed : List Crossing) (i : ℕ) (start new : List (List ℕ)) → length owed ≤ i → AreLinked (Crosses (take i owed)) start new → AreLinked (Crosses owed) start new
crossings_all owed i start new l a = let P : List Crossing → Type 0 = λ xs. AreLinked (Crosses xs) start new in subst P (take_all i owed l) a

pub crosses_at : (owed : List Crossing) (i : ℕ) (c : Crossing) (p q : ℕ) → i < length owed → c ≡ get_or owed i c → Contains c.lasts.items p → Contains c.firsts.items q → Crosses owed p q
crosses_at owed i c p q l at h k = let P : Crossing → Type 0 = λ d. Contains owed d in (c, subst P (sym at) (Contains-get_or owed i c l), h, k)

-- pairs that are owed, and pairs that were listed
pub settled_owed : (Pair : ℕ → ℕ → Type 0) (may_owe : Bool) (left : List Crossing) (rows : List (List ℕ)) → may_owe ≡ true → ((p q : ℕ) → Crosses left p q ↔ Pair p q) → AreSettled Pair may_owe left rows rows
settled_owed Pair may_owe left rows may same = record {
  count = refl;
  kept = λ p q h. h;
  listed = λ p q h. inl h;
  owed = λ p q h. (may, (same p q).0 h);
  whole = λ p q h. inr ((same p q).1 h);
}

pub settled_paid : (Pair : ℕ → ℕ → Type 0) (may_owe : Bool) (left : List Crossing) (old new : List (List ℕ)) → left ≡ [] → AreLinked Pair old new → AreSettled Pair may_owe left old new
settled_paid Pair may_owe left old new none a = record {
  count = a.count;
  kept = λ p q h. (a.pairs p q).1 (inl h);
  listed = λ p q h. (a.pairs p q).0 h;
  owed = λ p q h. let P : List Crossing → Type 0 = λ xs. Contains xs h.0 in absurd (contains_none h.0 (subst P none h.1));
  whole = λ p q h. inl ((a.pairs p q).1 (inr h));
}

-- a list that is empty, and one that isn't
pub none_in_empty : (xs : List ℕ) (q : ℕ) → (length xs == 0) ≡ true → Contains xs q → ⊥
none_in_empty [] q e h = contains_none q h
none_in_empty (x ∷ xs) q e h = let l : length (x ∷ xs) ≡ 0 = grind (arith, nat_tests) in absurd (omega arith)

pub some_in_other : (xs : List ℕ) → (length xs == 0) ≡ false → Contains xs (get_or xs 0 0)
some_in_other [] e = absurd (true≢false e)
some_in_other (x ∷ xs) e = Contains-get_or (x ∷ xs) 0 0 (omega arith)

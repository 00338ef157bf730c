-- The next places of a whole expression.
use Rattle.std.proofs.Common.{◌≡◌, ◌≢◌, ℕ, zero, suc, ◌+◌, ◌-◌, ◌<◌, ◌≤◌, ◌↔◌, Bool, true, false, ℤ, List, [], ◌∷◌, ◌++◌, length, inl, inr, refl, sym, ap, ◌∙◌, subst, arith, get_or, set, take, true≢false, get_or-set_same, get_or-set_other}
use Rattle.std.specs.Prelude.{Contains, IsTrue, slice_index_or, Vec, replicate}
use Rattle.std.specs.declared.alloc.Global.{Global}
use Rattle.std.proofs.lemmas.Bool.{cases_lt, cases_eq}
use Rattle.std.proofs.lemmas.List.{map-append, take_all, get_or_past}
use Rattle.std.proofs.Math.ListN.{length-set}
use Rattle.regex_build.specs.declared.fragment.Fragment.{Fragment}
use Rattle.regex_build.specs.declared.next_places.NextPlaces.{NextPlaces}
use Rattle.regex_build.specs.Expression.{Expression, occurrences_in, placed}
use Rattle.regex_build.specs.Positions.{ComesNext, MayEnd}
use Rattle.regex_build.specs.Fragments.{rows_in, Follows, Crosses, IsFragment, AreLinked}
use Rattle.regex_build.specs.NextPlaces.{AreNextPlaces, FinishesWith}
use Rattle.regex_build.proofs.ListSteps.{contains_none}
use Rattle.regex_build.proofs.LinkSteps.{length-rows_in, contained_more}

-- a list without elements more
pub rows_in-push : (rows more : List (Vec ℕ Global)) (row : Vec ℕ Global) → row.items ≡ [] → more ≡ rows ++ row ∷ [] → rows_in more ≡ rows_in rows ++ [] ∷ []
rows_in-push rows more row e f = ap rows_in f ∙ (map-append (λ v. v.items) rows (row ∷ []) ∙ ap (λ xs. rows_in rows ++ xs ∷ []) e)

-- so many tests, none of them true
get_or-replicate : (n q : ℕ) → get_or (replicate n false) q false ≡ false
get_or-replicate zero q = refl
get_or-replicate (suc n) zero = refl
get_or-replicate (suc n) (suc q) = get_or-replicate n q

take_none : (n : ℕ) → take {A = Bool} n [] ≡ []
take_none zero = refl
take_none (suc n) = refl

pub resized : (n len : ℕ) (start made : List Bool) → start ≡ [] → len ≡ 0 → made ≡ take n start ++ replicate (n - len) false → made ≡ replicate n false
resized n len start made e g f =
    let none : n - len ≡ n = omega arith in
    f ∙ (ap (λ xs. take n xs ++ replicate (n - len) false) e ∙ (ap (λ xs. xs ++ replicate (n - len) false) (take_none n) ∙ ap (λ m. replicate m false) none))

pub no_ends : (n p : ℕ) (made : List Bool) → made ≡ replicate n false → IsTrue (slice_index_or made p false) ↔ Contains [] p
no_ends n p made e = (λ h. absurd (true≢false (sym h ∙ (ap (λ xs. get_or xs p false) e ∙ get_or-replicate n p))), λ h. absurd (contains_none p h))

-- one last place more
pub ends_more : (lasts : List ℕ) (i place : ℕ) (ends : List Bool) → i < length lasts → place ≡ get_or lasts i place → place < length ends → ((p : ℕ) → IsTrue (slice_index_or ends p false) ↔ Contains (take i lasts) p)
    → (p : ℕ) → IsTrue (slice_index_or (set ends place true) p false) ↔ Contains (take (i + 1) lasts) p
ends_more lasts i place ends l at within so p =
    let c = contained_more lasts i place l at p in
    elim (cases_eq p place) [
      | inl here ↦
          let e : get_or (set ends place true) p false ≡ true = ap (λ q. get_or (set ends place true) q false) here ∙ get_or-set_same ends place true false within in
          (λ h. c.1 (inr (sym here)), λ h. e)
      | inr other ↦
          let e : get_or (set ends place true) p false ≡ get_or ends p false = get_or-set_other ends place p true false other in
          (λ h. c.1 (inl ((so p).0 (sym e ∙ h))), λ h. e ∙ (so p).1 (elim (c.0 h) [ inl k ↦ k | inr k ↦ absurd (other (sym k)) ]))
    ]

pub ends_others : (lasts : List ℕ) (i : ℕ) (ends : List Bool) (first : Bool) → length lasts ≤ i → ((p : ℕ) → IsTrue (slice_index_or ends p false) ↔ Contains (take i lasts) p)
    → (p : ℕ) → 0 < p → IsTrue (slice_index_or (set ends 0 first) p false) ↔ Contains lasts p
ends_others lasts i ends first l so p low =
    let other : p ≢ 0 = omega arith in
    let e : get_or (set ends 0 first) p false ≡ get_or ends p false = get_or-set_other ends 0 p first false other in
    let P : List ℕ → Type 0 = λ xs. Contains xs p in
    (λ h. subst P (take_all i lasts l) ((so p).0 (sym e ∙ h)), λ h. e ∙ (so p).1 (subst P (sym (take_all i lasts l)) h))

-- the first places come next at the beginning, and what was owed is listed
module _ (rows paid : List (List ℕ)) (whole : Fragment) (made : NextPlaces) (linked : AreLinked (Crosses whole.owed.items) rows paid) (some : 0 < length rows)
    (next : rows_in made.next.items ≡ set paid 0 whole.firsts.items) (count : length made.ends.items ≡ length made.next.items)
    (first : slice_index_or made.ends.items 0 false ≡ whole.nullable) (others : (p : ℕ) → 0 < p → IsTrue (slice_index_or made.ends.items p false) ↔ Contains whole.lasts.items p)
    (e : Expression (List ℤ)) (places : length rows ≡ length (occurrences_in e) + 1) (a : IsFragment 1 e whole rows) where
  size : length made.next.items ≡ length (occurrences_in e) + 1
  size =
      let l : length (rows_in made.next.items) ≡ length made.next.items = length-rows_in made.next.items in
      let m : length (rows_in made.next.items) ≡ length (set paid 0 whole.firsts.items) = ap length next in
      let n : length (set paid 0 whole.firsts.items) ≡ length paid = length-set paid 0 whole.firsts.items in
      let k : length paid ≡ length rows = linked.count in
      omega arith

  next_from : (q place : ℕ) → Follows (rows_in made.next.items) q place → ComesNext (placed 1 e) q place
  next_from zero place h =
      let k : length paid ≡ length rows = linked.count in
      let within : 0 < length paid = omega arith in
      let P : List (List ℕ) → Type 0 = λ r. Follows r 0 place in
      let Q : List ℕ → Type 0 = λ xs. Contains xs place in
      (a.firsts place).0 (subst Q (get_or-set_same paid 0 whole.firsts.items [] within) (subst P next h))
  next_from (suc q) place h =
      let P : List (List ℕ) → Type 0 = λ r. Follows r (suc q) place in
      let Q : List ℕ → Type 0 = λ xs. Contains xs place in
      let other : suc q ≢ 0 = omega arith in
      let there : Follows paid (suc q) place = subst Q (get_or-set_other paid 0 (suc q) whole.firsts.items [] other) (subst P next h) in
      elim ((linked.pairs (suc q) place).0 there) [
        | inr x ↦ (a.owed (suc q) place x).2
        | inl x ↦ elim (cases_lt (suc q) (length rows)) [
          | inl l ↦ a.listed (suc q) place (omega arith) (omega arith) x
          | inr l ↦ absurd (contains_none place (subst Q (get_or_past rows (suc q) [] l) x))
        ]
      ]

  next_to : (q place : ℕ) → ComesNext (placed 1 e) q place → Follows (rows_in made.next.items) q place
  next_to zero place h =
      let k : length paid ≡ length rows = linked.count in
      let within : 0 < length paid = omega arith in
      let P : List (List ℕ) → Type 0 = λ r. Follows r 0 place in
      let Q : List ℕ → Type 0 = λ xs. Contains xs place in
      subst P (sym next) (subst Q (sym (get_or-set_same paid 0 whole.firsts.items [] within)) ((a.firsts place).1 h))
  next_to (suc q) place h =
      let P : List (List ℕ) → Type 0 = λ r. Follows r (suc q) place in
      let Q : List ℕ → Type 0 = λ xs. Contains xs place in
      let other : suc q ≢ 0 = omega arith in
      subst P (sym next) (subst Q (sym (get_or-set_other paid 0 (suc q) whole.firsts.items [] other)) ((linked.pairs (suc q) place).1 (a.whole (suc q) place h)))

  ends_from : (q : ℕ) → IsTrue (slice_index_or made.ends.items q false) → MayEnd (placed 1 e) q
  ends_from zero h = a.nullable.0 (sym first ∙ h)
  ends_from (suc q) h = (a.lasts (suc q)).0 ((others (suc q) (omega arith)).0 h)

  ends_to : (q : ℕ) → MayEnd (placed 1 e) q → IsTrue (slice_index_or made.ends.items q false)
  ends_to zero h = first ∙ a.nullable.1 h
  ends_to (suc q) h = (others (suc q) (omega arith)).1 ((a.lasts (suc q)).1 h)

  pub finished_places : AreNextPlaces e made
  finished_places = record {
    count = size;
    ends_count = count ∙ size;
    next = λ q place. (next_from q place, next_to q place);
    ends = λ q. (ends_from q, ends_to q);
  }

pub finishes_with : (rows paid : List (List ℕ)) (whole : Fragment) (made : NextPlaces) → AreLinked (Crosses whole.owed.items) rows paid → 0 < length rows → rows_in made.next.items ≡ set paid 0 whole.firsts.items → length made.ends.items ≡ length made.next.items
    → slice_index_or made.ends.items 0 false ≡ whole.nullable → ((p : ℕ) → 0 < p → IsTrue (slice_index_or made.ends.items p false) ↔ Contains whole.lasts.items p) → FinishesWith rows whole made
finishes_with rows paid whole made linked some next count first others e places a = finished_places rows paid whole made linked some next count first others e places a

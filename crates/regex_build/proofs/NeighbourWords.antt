-- Which letters come first, last and next in the words of an expression that is made of others.
use Rattle.std.proofs.Common.{◌≡◌, ◌≢◌, ℕ, List, [], ◌∷◌, ◌++◌, ◌⊎◌, inl, inr, refl, sym, ap, ◌∙◌, subst, append_assoc, append-nil}
use Rattle.std.specs.List.{AllByRecursion}
use Rattle.regex_build.specs.Expression.{Expression, empty, letter, any, either, follow, star, plus, optional}
use Rattle.regex_build.specs.Matches.{Matches, joined}
use Rattle.regex_build.specs.Neighbours.{IsFirst, IsLast, IsNext}
use Rattle.regex_build.proofs.ListSteps.{middle_is_some, middle_of_one, middle-append}
use Rattle.regex_build.proofs.Merging.{in_piece}

-- some word of an expression
pub some_word : (e : Expression ℕ) → (w : List ℕ) × Matches e w
some_word empty = ([], refl)
some_word (letter x) = (x ∷ [], refl)
some_word any = (0 ∷ [], (0, refl))
some_word (either e f) = let a = some_word e in (a.0, inl a.1)
some_word (follow e f) = let a = some_word e in let b = some_word f in (a.0 ++ b.0, (a.0, b.0, refl, a.1, b.1))
some_word (star e) = ([], ([], refl, tt))
some_word (plus e) = let a = some_word e in (a.0 ++ [], (a.0 ∷ [], (λ h. cc), refl, (a.1, tt)))
some_word (optional e) = ([], inl refl)

nothing_left : (u v : List ℕ) → [] ≡ u ++ v → u ≡ []
nothing_left [] v h = refl
nothing_left (x ∷ u) v h = cc

nothing_right : (u v : List ℕ) → [] ≡ u ++ v → v ≡ []
nothing_right [] v h = sym h
nothing_right (x ∷ u) v h = cc

-- a word through two elements, cut after the first
cut : (u : List ℕ) (x y : ℕ) (v : List ℕ) → (u ++ x ∷ []) ++ y ∷ v ≡ u ++ x ∷ y ∷ v
cut u x y v = append_assoc u (x ∷ []) (y ∷ v)

-- one of two expressions
pub first_of_either : (e f : Expression ℕ) (y : ℕ) → IsFirst (either e f) y → IsFirst e y ⊎ IsFirst f y
first_of_either e f y h = elim h.1 [ inl m ↦ inl (h.0, m) | inr m ↦ inr (h.0, m) ]

pub last_of_either : (e f : Expression ℕ) (x : ℕ) → IsLast (either e f) x → IsLast e x ⊎ IsLast f x
last_of_either e f x h = elim h.1 [ inl m ↦ inl (h.0, m) | inr m ↦ inr (h.0, m) ]

pub next_of_either : (e f : Expression ℕ) (x y : ℕ) → IsNext (either e f) x y → IsNext e x y ⊎ IsNext f x y
next_of_either e f x y h = elim h.2 [ inl m ↦ inl (h.0, h.1, m) | inr m ↦ inr (h.0, h.1, m) ]

-- two expressions, one after the other
pub nullable_of_follow : (e f : Expression ℕ) → Matches (follow e f) [] → Matches e [] × Matches f []
nullable_of_follow e f m =
    let P : List ℕ → Type 0 = λ w. Matches e w in
    let Q : List ℕ → Type 0 = λ w. Matches f w in
    (subst P (nothing_left m.0 m.1 m.2) m.3, subst Q (nothing_right m.0 m.1 m.2) m.4)

pub first_of_follow : (e f : Expression ℕ) (y : ℕ) → IsFirst (follow e f) y → IsFirst e y ⊎ (Matches e [] × IsFirst f y)
first_of_follow e f y h = from h.1.0 h.1.1 h.1.2 h.1.3 h.1.4
  where
    from : (u v : List ℕ) → y ∷ h.0 ≡ u ++ v → Matches e u → Matches f v → IsFirst e y ⊎ (Matches e [] × IsFirst f y)
    from [] v s a b = let Q : List ℕ → Type 0 = λ w. Matches f w in inr (a, (h.0, subst Q (sym s) b))
    from (x ∷ u) v s a b = let same : x ≡ y = cc in let P : ℕ → Type 0 = λ z. Matches e (z ∷ u) in inl (u, subst P same a)

pub first_in_left : (e f : Expression ℕ) (y : ℕ) → IsFirst e y → IsFirst (follow e f) y
first_in_left e f y h = let b = some_word f in (h.0 ++ b.0, (y ∷ h.0, b.0, refl, h.1, b.1))

pub first_in_right : (e f : Expression ℕ) (y : ℕ) → Matches e [] → IsFirst f y → IsFirst (follow e f) y
first_in_right e f y m h = (h.0, ([], y ∷ h.0, refl, m, h.1))

pub last_of_follow : (e f : Expression ℕ) (x : ℕ) → IsLast (follow e f) x → IsLast f x ⊎ (Matches f [] × IsLast e x)
last_of_follow e f x h =
    let P : List ℕ → Type 0 = λ w. Matches e w in
    let Q : List ℕ → Type 0 = λ w. Matches f w in
    elim (middle-append h.0 x [] h.1.0 h.1.1 h.1.2) [
      | inl p ↦
          let none : p.rest ≡ [] = nothing_left p.rest h.1.1 p.after in
          inr (subst Q (nothing_right p.rest h.1.1 p.after) h.1.4, (h.0, subst P (p.first ∙ ap (λ r. h.0 ++ x ∷ r) none) h.1.3))
      | inr p ↦ inl (p.rest, subst Q p.second h.1.4)
    ]

pub last_in_right : (e f : Expression ℕ) (x : ℕ) → IsLast f x → IsLast (follow e f) x
last_in_right e f x h = let a = some_word e in (a.0 ++ h.0, (a.0, h.0 ++ x ∷ [], append_assoc a.0 h.0 (x ∷ []), a.1, h.1))

pub last_in_left : (e f : Expression ℕ) (x : ℕ) → Matches f [] → IsLast e x → IsLast (follow e f) x
last_in_left e f x m h = (h.0, (h.0 ++ x ∷ [], [], sym (append-nil (h.0 ++ x ∷ [])), h.1, m))

pub next_of_follow : (e f : Expression ℕ) (x y : ℕ) → IsNext (follow e f) x y → IsNext e x y ⊎ (IsNext f x y ⊎ (IsLast e x × IsFirst f y))
next_of_follow e f x y h =
    let P : List ℕ → Type 0 = λ w. Matches e w in
    let Q : List ℕ → Type 0 = λ w. Matches f w in
    elim (middle-append h.0 x (y ∷ h.1) h.2.0 h.2.1 h.2.2) [
      | inl p ↦ from p.rest (subst P p.first h.2.3) p.after
      | inr p ↦ inr (inl (p.rest, h.1, subst Q p.second h.2.4))
    ]
  where
    from : (rest : List ℕ) → Matches e (h.0 ++ x ∷ rest) → y ∷ h.1 ≡ rest ++ h.2.1 → IsNext e x y ⊎ (IsNext f x y ⊎ (IsLast e x × IsFirst f y))
    from [] a s = let Q : List ℕ → Type 0 = λ w. Matches f w in inr (inr ((h.0, a), (h.1, subst Q (sym s) h.2.4)))
    from (z ∷ rest) a s = let same : z ≡ y = cc in let P : ℕ → Type 0 = λ t. Matches e (h.0 ++ x ∷ t ∷ rest) in inl (h.0, rest, subst P same a)

pub next_in_left : (e f : Expression ℕ) (x y : ℕ) → IsNext e x y → IsNext (follow e f) x y
next_in_left e f x y h = let b = some_word f in (h.0, h.1 ++ b.0, (h.0 ++ x ∷ y ∷ h.1, b.0, sym (append_assoc h.0 (x ∷ y ∷ h.1) b.0), h.2, b.1))

pub next_in_right : (e f : Expression ℕ) (x y : ℕ) → IsNext f x y → IsNext (follow e f) x y
next_in_right e f x y h = let a = some_word e in (a.0 ++ h.0, h.1, (a.0, h.0 ++ x ∷ y ∷ h.1, append_assoc a.0 h.0 (x ∷ y ∷ h.1), a.1, h.2))

pub next_between : (e f : Expression ℕ) (x y : ℕ) → IsLast e x → IsFirst f y → IsNext (follow e f) x y
next_between e f x y h k = (h.0, k.0, (h.0 ++ x ∷ [], y ∷ k.0, sym (cut h.0 x y k.0), h.1, k.1))

-- pieces of an expression, one after the other
first_of_pieces : (e : Expression ℕ) (y : ℕ) (v : List ℕ) (pieces : List (List ℕ)) → AllByRecursion (Matches e) pieces → y ∷ v ≡ joined pieces → IsFirst e y
first_of_pieces e y v [] all s = cc
first_of_pieces e y v ([] ∷ pieces) all s = first_of_pieces e y v pieces all.1 s
first_of_pieces e y v ((x ∷ piece) ∷ pieces) all s = let same : x ≡ y = cc in let P : ℕ → Type 0 = λ z. Matches e (z ∷ piece) in (piece, subst P same all.0)

pub first_of_star : (e : Expression ℕ) (y : ℕ) → IsFirst (star e) y → IsFirst e y
first_of_star e y h = first_of_pieces e y h.0 h.1.0 h.1.2 h.1.1

pub last_of_star : (e : Expression ℕ) (x : ℕ) → IsLast (star e) x → IsLast e x
last_of_star e x h =
    let p = in_piece (Matches e) h.1.0 h.0 x [] h.1.2 h.1.1 in
    let none : p.last ≡ [] = nothing_left p.last (joined p.more) p.after in
    let P : List ℕ → Type 0 = λ w. Matches e (p.first ++ x ∷ w) in
    (p.first, subst P none p.here)

pub next_of_star : (e : Expression ℕ) (x y : ℕ) → IsNext (star e) x y → IsNext e x y ⊎ (IsLast e x × IsFirst e y)
next_of_star e x y h =
    let p = in_piece (Matches e) h.2.0 h.0 x (y ∷ h.1) h.2.2 h.2.1 in
    from p.first p.last p.more p.here p.after p.all_after
  where
    from : (first last : List ℕ) (more : List (List ℕ)) → Matches e (first ++ x ∷ last) → y ∷ h.1 ≡ last ++ joined more → AllByRecursion (Matches e) more → IsNext e x y ⊎ (IsLast e x × IsFirst e y)
    from first [] more here s all = inr ((first, here), first_of_pieces e y h.1 more all s)
    from first (z ∷ last) more here s all = let same : z ≡ y = cc in let P : ℕ → Type 0 = λ t. Matches e (first ++ x ∷ t ∷ last) in inl (first, last, subst P same here)

-- a word that is matched at least once is one that is matched any number of times
pub star_from_plus : (e : Expression ℕ) (w : List ℕ) → Matches (plus e) w → Matches (star e) w
star_from_plus e w m = (m.0, m.2, m.3)

pub plus_from_one : (e : Expression ℕ) (w : List ℕ) → Matches e w → Matches (plus e) w
plus_from_one e w m = (w ∷ [], (λ h. cc), sym (append-nil w), (m, tt))

pub nullable_of_plus : (e : Expression ℕ) → Matches (plus e) [] → Matches e []
nullable_of_plus e m = from m.0 m.1 m.2 m.3
  where
    from : (pieces : List (List ℕ)) → pieces ≢ [] → [] ≡ joined pieces → AllByRecursion (Matches e) pieces → Matches e []
    from [] some s all = absurd (some refl)
    from (piece ∷ pieces) some s all = let P : List ℕ → Type 0 = λ w. Matches e w in subst P (nothing_left piece (joined pieces) s) all.0

pub first_of_plus : (e : Expression ℕ) (y : ℕ) → IsFirst (plus e) y → IsFirst e y
first_of_plus e y h = first_of_star e y (h.0, star_from_plus e (y ∷ h.0) h.1)

pub first_in_plus : (e : Expression ℕ) (y : ℕ) → IsFirst e y → IsFirst (plus e) y
first_in_plus e y h = (h.0, plus_from_one e (y ∷ h.0) h.1)

pub last_of_plus : (e : Expression ℕ) (x : ℕ) → IsLast (plus e) x → IsLast e x
last_of_plus e x h = last_of_star e x (h.0, star_from_plus e (h.0 ++ x ∷ []) h.1)

pub last_in_plus : (e : Expression ℕ) (x : ℕ) → IsLast e x → IsLast (plus e) x
last_in_plus e x h = (h.0, plus_from_one e (h.0 ++ x ∷ []) h.1)

pub next_of_plus : (e : Expression ℕ) (x y : ℕ) → IsNext (plus e) x y → IsNext e x y ⊎ (IsLast e x × IsFirst e y)
next_of_plus e x y h = next_of_star e x y (h.0, h.1, star_from_plus e (h.0 ++ x ∷ y ∷ h.1) h.2)

pub next_in_plus : (e : Expression ℕ) (x y : ℕ) → IsNext e x y → IsNext (plus e) x y
next_in_plus e x y h = (h.0, h.1, plus_from_one e (h.0 ++ x ∷ y ∷ h.1) h.2)

pub next_again : (e : Expression ℕ) (x y : ℕ) → IsLast e x → IsFirst e y → IsNext (plus e) x y
next_again e x y h k =
    let two : h.0 ++ x ∷ y ∷ k.0 ≡ joined ((h.0 ++ x ∷ []) ∷ (y ∷ k.0) ∷ []) =
    sym (cut h.0 x y k.0) ∙ ap (λ w. (h.0 ++ x ∷ []) ++ w) (sym (append-nil (y ∷ k.0))) in
    (h.0, k.0, ((h.0 ++ x ∷ []) ∷ (y ∷ k.0) ∷ [], (λ e. cc), two, (h.1, (k.1, tt))))

-- an expression at most once
pub first_of_optional : (e : Expression ℕ) (y : ℕ) → IsFirst (optional e) y → IsFirst e y
first_of_optional e y h = elim h.1 [ inl m ↦ cc | inr m ↦ (h.0, m) ]

pub last_of_optional : (e : Expression ℕ) (x : ℕ) → IsLast (optional e) x → IsLast e x
last_of_optional e x h = elim h.1 [ inl m ↦ absurd (middle_is_some h.0 x [] m) | inr m ↦ (h.0, m) ]

pub next_of_optional : (e : Expression ℕ) (x y : ℕ) → IsNext (optional e) x y → IsNext e x y
next_of_optional e x y h = elim h.2 [ inl m ↦ absurd (middle_is_some h.0 x (y ∷ h.1) m) | inr m ↦ (h.0, h.1, m) ]

-- the words of a letter
pub first_of_letter : (n y : ℕ) → IsFirst (letter n) y → y ≡ n
first_of_letter n y h = let s : y ∷ h.0 ≡ n ∷ [] = h.1 in cc

pub last_of_letter : (n x : ℕ) → IsLast (letter n) x → x ≡ n
last_of_letter n x h = (middle_of_one h.0 x [] n h.1).same

pub next_of_letter : (n x y : ℕ) → IsNext (letter n) x y → ⊥
next_of_letter n x y h = let s : y ∷ h.1 ≡ [] = (middle_of_one h.0 x (y ∷ h.1) n h.2).after in cc

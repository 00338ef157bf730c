-- The fragments of an expression that is made of others.
use Rattle.std.proofs.Common.{◌≡◌, ℕ, ◌+◌, ◌↔◌, ◌&&◌, ◌||◌, Bool, true, false, ℤ, List, [], ◌∷◌, ◌++◌, length, ◌⊎◌, inl, inr, refl, sym, ap, ◌∙◌, subst, arith, true≢false}
use Rattle.std.specs.Prelude.{Contains, IsTrue, slice_index_or, Result, Ok, Err, IfOk, Vec}
use Rattle.std.specs.declared.alloc.Global.{Global}
use Rattle.std.proofs.lemmas.List.Elements.{Contains-append_left, Contains-append_right, Contains-append_cases}
use Rattle.digit_tuple.specs.declared.faults.OutOfMemory.{OutOfMemory}
use Rattle.std.proofs.lemmas.Bool.{cases_lt}
use Rattle.std.proofs.lemmas.List.{length-append}
use Rattle.regex_build.specs.declared.fragment.Crossing.{Crossing}
use Rattle.regex_build.specs.declared.fragment.Fragment.{Fragment}
use Rattle.regex_build.specs.Expression.{Expression, empty, letter, any, either, follow, star, plus, optional, occurrences_in, placed}
use Rattle.regex_build.specs.Matches.{Matches}
use Rattle.regex_build.specs.Neighbours.{IsFirst, IsLast, IsNext}
use Rattle.regex_build.specs.Fragments.{Follows, Crosses, IsFragment, IsKeptBelow, AreSettled, IsPlace, IsEither, IsFollow, IsPlus, IsOptional}
use Rattle.regex_build.proofs.ListSteps.{contains_cons_cases, contains_here, contains_none}
use Rattle.regex_build.proofs.PlaceWords.{IsWithin, place_within}
use Rattle.regex_build.proofs.NeighbourWords.{first_of_either, last_of_either, next_of_either, nullable_of_follow, first_of_follow, first_in_left, first_in_right, last_of_follow, last_in_right, last_in_left, next_of_follow, next_in_left, next_in_right, next_between, plus_from_one, nullable_of_plus, first_of_plus, first_in_plus, last_of_plus, last_in_plus, next_of_plus, next_in_plus, next_again, first_of_optional, last_of_optional, next_of_optional, first_of_star, last_of_star, next_of_star, star_from_plus, first_of_letter, last_of_letter, next_of_letter}

-- the list contains what either of the two has
abbrev pub AreBoth : {X : Type 0} → List X → List X → List X → Type 0
AreBoth {X} both left right = (x : X) → Contains both x ↔ (Contains left x ⊎ Contains right x)

-- what the first has, and what the second has if it is wanted
abbrev pub AreBothIf : {X : Type 0} → Bool → List X → List X → List X → Type 0
AreBothIf {X} wanted both left right = (x : X) → Contains both x ↔ (Contains left x ⊎ (IsTrue wanted × Contains right x))

not_true : (b : Bool) → b ≡ false → IsTrue b → ⊥
not_true b e h = true≢false (sym h ∙ e)

-- last places are places of the expression
pub last_within : {L : Type 0} (n : ℕ) (e : Expression L) (p : ℕ) → IsLast (placed n e) p → IsWithin n (n + length (occurrences_in e)) p
last_within n e p h = place_within n e h.0 p [] h.1

pub next_within : {L : Type 0} (n : ℕ) (e : Expression L) (p q : ℕ) → IsNext (placed n e) p q → IsWithin n (n + length (occurrences_in e)) p
next_within n e p q h = place_within n e h.0 p (q ∷ h.1) h.2

-- a letter at a place
module _ (n : ℕ) (made : Fragment) (null : made.nullable ≡ false) (rep : made.repeats ≡ false) (fir : made.firsts.items ≡ n ∷ []) (las : made.lasts.items ≡ n ∷ []) (owe : made.owed.items ≡ []) (rows : List (List ℕ)) (row : slice_index_or rows n [] ≡ []) where
  alone : (xs : List ℕ) (q : ℕ) → xs ≡ n ∷ [] → Contains xs q → q ≡ n
  alone xs q e h =
      let P : List ℕ → Type 0 = λ ys. Contains ys q in
      elim (contains_cons_cases n [] q (subst P e h)) [ inl s ↦ sym s | inr k ↦ absurd (contains_none q k) ]

  there : (xs : List ℕ) (q : ℕ) → xs ≡ n ∷ [] → q ≡ n → Contains xs q
  there xs q e s =
      let P : List ℕ → Type 0 = λ ys. Contains ys q in
      subst P (sym e) (contains_here n [] q (sym s))

  place_fragment_of : {L : Type 0} (e : Expression L) → placed n e ≡ letter n → length (occurrences_in e) ≡ 1 → IsFragment n e made rows
  place_fragment_of e is one =
      let F : Expression ℕ → Type 0 = λ t. (q : ℕ) → Contains made.firsts.items q ↔ IsFirst t q in
      let G : Expression ℕ → Type 0 = λ t. (p : ℕ) → Contains made.lasts.items p ↔ IsLast t p in
      let N : Expression ℕ → Type 0 = λ t. IsTrue made.nullable ↔ Matches t [] in
      let W : Expression ℕ → Type 0 = λ t. (p q : ℕ) → IsNext t p q → Follows rows p q ⊎ Crosses made.owed.items p q in
      record {
        nullable = subst N (sym is) (λ h. absurd (not_true made.nullable null h), λ m. cc);
        firsts = subst F (sym is) (λ q. (λ h. ([], ap (λ y. y ∷ []) (alone made.firsts.items q fir h)), λ h. there made.firsts.items q fir (first_of_letter n q h)));
        lasts = subst G (sym is) (λ p. (λ h. ([], ap (λ y. y ∷ []) (alone made.lasts.items p las h)), λ h. there made.lasts.items p las (last_of_letter n p h)));
        repeats = λ h. absurd (not_true made.repeats rep h);
        owed = λ p q h. absurd (contains_none h.0 (let P : List Crossing → Type 0 = λ xs. Contains xs h.0 in subst P owe h.1));
        listed = λ p q low high h.
            let here : p ≡ n = omega arith in
            let P : ℕ → Type 0 = λ i. Contains (slice_index_or rows i []) q in
            let Q : List ℕ → Type 0 = λ xs. Contains xs q in
            absurd (contains_none q (subst Q row (subst P here h)));
        whole = subst W (sym is) (λ p q h. absurd (next_of_letter n p q h));
      }

pub place_fragment : (n : ℕ) (made : Fragment) → made.nullable ≡ false → made.repeats ≡ false → made.firsts.items ≡ n ∷ [] → made.lasts.items ≡ n ∷ [] → made.owed.items ≡ [] → IsPlace n made
place_fragment n made null rep fir las owe empty rows is row = absurd is
place_fragment n made null rep fir las owe (letter x) rows is row = place_fragment_of n made null rep fir las owe rows row (letter x) refl refl
place_fragment n made null rep fir las owe any rows is row = place_fragment_of n made null rep fir las owe rows row {L = List ℤ} any refl refl
place_fragment n made null rep fir las owe (either e f) rows is row = absurd is
place_fragment n made null rep fir las owe (follow e f) rows is row = absurd is
place_fragment n made null rep fir las owe (star e) rows is row = absurd is
place_fragment n made null rep fir las owe (plus e) rows is row = absurd is
place_fragment n made null rep fir las owe (optional e) rows is row = absurd is

-- one of two expressions
pub either_fragment : (left right made : Fragment) → made.nullable ≡ (left.nullable || right.nullable) → made.repeats ≡ false → AreBoth made.firsts.items left.firsts.items right.firsts.items
    → AreBoth made.lasts.items left.lasts.items right.lasts.items → AreBoth made.owed.items left.owed.items right.owed.items → IsEither left right made
either_fragment left right made null rep fir las owe n e f rows a b =
    let i : Expression ℕ = placed n e in
    let j : Expression ℕ = placed (n + length (occurrences_in e)) f in
    let l : length (occurrences_in e ++ occurrences_in f) ≡ length (occurrences_in e) + length (occurrences_in f) = length-append (occurrences_in e) (occurrences_in f) in
    record {
      nullable = (
        λ h. elim (or_from left.nullable right.nullable (sym null ∙ h)) [ inl x ↦ inl (a.nullable.0 x) | inr x ↦ inr (b.nullable.0 x) ],
        λ m. null ∙ or_to left.nullable right.nullable (elim m [ inl x ↦ inl (a.nullable.1 x) | inr x ↦ inr (b.nullable.1 x) ]),
      );
      firsts = λ q. (
        λ h. elim ((fir q).0 h) [ inl x ↦ let r = (a.firsts q).0 x in (r.0, inl r.1) | inr x ↦ let r = (b.firsts q).0 x in (r.0, inr r.1) ],
        λ h. (fir q).1 (elim (first_of_either i j q h) [ inl x ↦ inl ((a.firsts q).1 x) | inr x ↦ inr ((b.firsts q).1 x) ]),
      );
      lasts = λ p. (
        λ h. elim ((las p).0 h) [ inl x ↦ let r = (a.lasts p).0 x in (r.0, inl r.1) | inr x ↦ let r = (b.lasts p).0 x in (r.0, inr r.1) ],
        λ h. (las p).1 (elim (last_of_either i j p h) [ inl x ↦ inl ((a.lasts p).1 x) | inr x ↦ inr ((b.lasts p).1 x) ]),
      );
      repeats = λ h. absurd (not_true made.repeats rep h);
      owed = λ p q h. elim ((owe h.0).0 h.1) [
        | inl x ↦ let r = a.owed p q (h.0, x, h.2, h.3) in ((r.0.0, inl r.0.1), (r.1.0, inl r.1.1), (r.2.0, r.2.1, inl r.2.2))
        | inr x ↦ let r = b.owed p q (h.0, x, h.2, h.3) in ((r.0.0, inr r.0.1), (r.1.0, inr r.1.1), (r.2.0, r.2.1, inr r.2.2))
      ];
      listed = λ p q low high h. elim (cases_lt p (n + length (occurrences_in e))) [
        | inl x ↦ let r = a.listed p q low x h in (r.0, r.1, inl r.2)
        | inr x ↦ let r = b.listed p q x (omega arith) h in (r.0, r.1, inr r.2)
      ];
      whole = λ p q h. elim (next_of_either i j p q h) [
        | inl x ↦ elim (a.whole p q x) [ inl y ↦ inl y | inr y ↦ inr (y.0, (owe y.0).1 (inl y.1), y.2, y.3) ]
        | inr x ↦ elim (b.whole p q x) [ inl y ↦ inl y | inr y ↦ inr (y.0, (owe y.0).1 (inr y.1), y.2, y.3) ]
      ];
    }
  where
    or_from : (x y : Bool) → (x || y) ≡ true → IsTrue x ⊎ IsTrue y
    or_from true y h = inl refl
    or_from false y h = inr h

    or_to : (x y : Bool) → IsTrue x ⊎ IsTrue y → (x || y) ≡ true
    or_to true y h = refl
    or_to false y h = elim h [ inl e ↦ cc | inr e ↦ e ]

and_from : (x y : Bool) → (x && y) ≡ true → IsTrue x × IsTrue y
and_from true y h = (refl, h)
and_from false y h = cc

and_to : (x y : Bool) → IsTrue x → IsTrue y → (x && y) ≡ true
and_to true y h k = k
and_to false y h k = cc

-- two expressions, one after the other
module _ (left right made : Fragment) (between before after_token : List Crossing) (old one two new : List (List ℕ)) where
  -- what the code makes
  pub record AreJoined : Type 0 where
    pub nullable : made.nullable ≡ (left.nullable && right.nullable)
    pub repeats : made.repeats ≡ false
    pub firsts : AreBothIf left.nullable made.firsts.items left.firsts.items right.firsts.items
    pub lasts : AreBothIf right.nullable made.lasts.items right.lasts.items left.lasts.items
    pub owed : (c : Crossing) → Contains made.owed.items c ↔ (Contains between c ⊎ (Contains before c ⊎ Contains after_token c))
    pub crossed : AreSettled (λ p q. Contains left.lasts.items p × Contains right.firsts.items q) (left.nullable && right.nullable) between old one
    pub settles_left : AreSettled (Crosses left.owed.items) right.nullable before one two
    pub settles_right : AreSettled (Crosses right.owed.items) left.nullable after_token two new

  module _ (j : AreJoined) (n : ℕ) (e f : Expression (List ℤ)) (a : IsFragment n e left old) (b : IsFragment (n + length (occurrences_in e)) f right old) where
    abbrev is_e : Expression ℕ
    is_e = placed n e

    abbrev is_f : Expression ℕ
    is_f = placed (n + length (occurrences_in e)) f

    -- a pair that is listed was listed, or is one of those that were to be settled
    listed_from : (p q : ℕ) → Follows new p q → Follows old p q ⊎ (((IsLast is_e p × IsFirst is_f q) ⊎ IsNext is_e p q) ⊎ IsNext is_f p q)
    listed_from p q h =
        elim (j.settles_right.listed p q h) [
          | inr c ↦ inr (inr (b.owed p q c).2)
          | inl h2 ↦ elim (j.settles_left.listed p q h2) [
            | inr c ↦ inr (inl (inr (a.owed p q c).2))
            | inl h1 ↦ elim (j.crossed.listed p q h1) [
              | inr c ↦ inr (inl (inl ((a.lasts p).0 c.0, (b.firsts q).0 c.1)))
              | inl h0 ↦ inl h0
            ]
          ]
        ]

    listed_of : (p q : ℕ) → Follows old p q → Follows new p q
    listed_of p q h = j.settles_right.kept p q (j.settles_left.kept p q (j.crossed.kept p q h))

    owes : (p q : ℕ) → Crosses made.owed.items p q → IsLast (follow is_e is_f) p × IsFirst (follow is_e is_f) q × IsNext (follow is_e is_f) p q
    owes p q h =
        elim ((j.owed h.0).0 h.1) [
          | inl x ↦
              let r = j.crossed.owed p q (h.0, x, h.2, h.3) in
              let nulls = and_from left.nullable right.nullable r.0 in
              let l : IsLast is_e p = (a.lasts p).0 r.1.0 in
              let s : IsFirst is_f q = (b.firsts q).0 r.1.1 in
              (last_in_left is_e is_f p (b.nullable.0 nulls.1) l, first_in_right is_e is_f q (a.nullable.0 nulls.0) s, next_between is_e is_f p q l s)
          | inr y ↦ elim y [
            | inl x ↦
                let r = j.settles_left.owed p q (h.0, x, h.2, h.3) in
                let o = a.owed p q r.1 in
                (last_in_left is_e is_f p (b.nullable.0 r.0) o.0, first_in_left is_e is_f q o.1, next_in_left is_e is_f p q o.2)
            | inr x ↦
                let r = j.settles_right.owed p q (h.0, x, h.2, h.3) in
                let o = b.owed p q r.1 in
                (last_in_right is_e is_f p o.0, first_in_right is_e is_f q (a.nullable.0 r.0) o.1, next_in_right is_e is_f p q o.2)
          ]
        ]

    owed_of : (p q : ℕ) (c : Crossing) → Contains between c ⊎ (Contains before c ⊎ Contains after_token c) → Contains c.lasts.items p → Contains c.firsts.items q → Crosses made.owed.items p q
    owed_of p q c h l s = (c, (j.owed c).1 h, l, s)

    whole_of : (p q : ℕ) → IsNext (follow is_e is_f) p q → Follows new p q ⊎ Crosses made.owed.items p q
    whole_of p q h =
        elim (next_of_follow is_e is_f p q h) [
          | inl x ↦ elim (a.whole p q x) [
            | inl y ↦ inl (listed_of p q y)
            | inr y ↦ elim (j.settles_left.whole p q y) [
              | inl z ↦ inl (j.settles_right.kept p q z)
              | inr z ↦ inr (owed_of p q z.0 (inr (inl z.1)) z.2 z.3)
            ]
          ]
          | inr w ↦ elim w [
            | inl x ↦ elim (b.whole p q x) [
              | inl y ↦ inl (listed_of p q y)
              | inr y ↦ elim (j.settles_right.whole p q y) [
                | inl z ↦ inl z
                | inr z ↦ inr (owed_of p q z.0 (inr (inr z.1)) z.2 z.3)
              ]
            ]
            | inr x ↦ elim (j.crossed.whole p q ((a.lasts p).1 x.0, (b.firsts q).1 x.1)) [
              | inl y ↦ inl (j.settles_right.kept p q (j.settles_left.kept p q y))
              | inr y ↦ inr (owed_of p q y.0 (inl y.1) y.2 y.3)
            ]
          ]
        ]

    pub joined_fragment : IsFragment n (follow e f) made new
    joined_fragment =
        let l : length (occurrences_in e ++ occurrences_in f) ≡ length (occurrences_in e) + length (occurrences_in f) = length-append (occurrences_in e) (occurrences_in f) in
        record {
          nullable = (
            λ h. let nulls = and_from left.nullable right.nullable (sym j.nullable ∙ h) in ([], [], refl, a.nullable.0 nulls.0, b.nullable.0 nulls.1),
            λ m. let nulls = nullable_of_follow is_e is_f m in j.nullable ∙ and_to left.nullable right.nullable (a.nullable.1 nulls.0) (b.nullable.1 nulls.1),
          );
          firsts = λ q. (
            λ h. elim ((j.firsts q).0 h) [ inl x ↦ first_in_left is_e is_f q ((a.firsts q).0 x) | inr x ↦ first_in_right is_e is_f q (a.nullable.0 x.0) ((b.firsts q).0 x.1) ],
            λ h. (j.firsts q).1 (elim (first_of_follow is_e is_f q h) [ inl x ↦ inl ((a.firsts q).1 x) | inr x ↦ inr (a.nullable.1 x.0, (b.firsts q).1 x.1) ]),
          );
          lasts = λ p. (
            λ h. elim ((j.lasts p).0 h) [ inl x ↦ last_in_right is_e is_f p ((b.lasts p).0 x) | inr x ↦ last_in_left is_e is_f p (b.nullable.0 x.0) ((a.lasts p).0 x.1) ],
            λ h. (j.lasts p).1 (elim (last_of_follow is_e is_f p h) [ inl x ↦ inl ((b.lasts p).1 x) | inr x ↦ inr (b.nullable.1 x.0, (a.lasts p).1 x.1) ]),
          );
          repeats = λ h. absurd (not_true made.repeats j.repeats h);
          owed = owes;
          listed = λ p q low high h. elim (listed_from p q h) [
            | inl x ↦ elim (cases_lt p (n + length (occurrences_in e))) [
              | inl y ↦ next_in_left is_e is_f p q (a.listed p q low y x)
              | inr y ↦ next_in_right is_e is_f p q (b.listed p q y (omega arith) x)
            ]
            | inr w ↦ elim w [
              | inr x ↦ next_in_right is_e is_f p q x
              | inl v ↦ elim v [ inl x ↦ next_between is_e is_f p q x.0 x.1 | inr x ↦ next_in_left is_e is_f p q x ]
            ]
          ];
          whole = whole_of;
        }

    pub joined_kept : IsKeptBelow n old new
    joined_kept p q below = (
      λ h. elim (listed_from p q h) [
        | inl x ↦ x
        | inr w ↦ elim w [
          | inr x ↦ let v : IsWithin (n + length (occurrences_in e)) (n + length (occurrences_in e) + length (occurrences_in f)) p = next_within (n + length (occurrences_in e)) f p q x in absurd (omega arith)
          | inl y ↦ elim y [
            | inl x ↦ let v : IsWithin n (n + length (occurrences_in e)) p = last_within n e p x.0 in absurd (omega arith)
            | inr x ↦ let v : IsWithin n (n + length (occurrences_in e)) p = next_within n e p q x in absurd (omega arith)
          ]
        ]
      ],
      λ h. listed_of p q h,
    )

  pub follow_fragment : AreJoined → IsFollow left right made old new
  follow_fragment j = record {
    count = j.settles_right.count ∙ (j.settles_left.count ∙ j.crossed.count);
    fragment = λ n e f a b. joined_fragment j n e f a b;
    kept = λ n e f a b. joined_kept j n e f a b;
  }

-- an expression at least once
pub plus_fragment : (fragment made : Fragment) → made.nullable ≡ fragment.nullable → made.firsts ≡ fragment.firsts → made.lasts ≡ fragment.lasts
    → ((p q : ℕ) → Crosses made.owed.items p q ↔ (Contains fragment.lasts.items p × Contains fragment.firsts.items q)) → IsPlus fragment made
plus_fragment fragment made null fir las owe n e rows a =
    let i : Expression ℕ = placed n e in
    let firsts : made.firsts.items ≡ fragment.firsts.items = ap (λ v. v.items) fir in
    let lasts : made.lasts.items ≡ fragment.lasts.items = ap (λ v. v.items) las in
    record {
      nullable = (λ h. plus_from_one i [] (a.nullable.0 (sym null ∙ h)), λ m. null ∙ a.nullable.1 (nullable_of_plus i m));
      firsts = λ q. let P : List ℕ → Type 0 = λ xs. Contains xs q in (λ h. first_in_plus i q ((a.firsts q).0 (subst P firsts h)), λ h. subst P (sym firsts) ((a.firsts q).1 (first_of_plus i q h)));
      lasts = λ p. let P : List ℕ → Type 0 = λ xs. Contains xs p in (λ h. last_in_plus i p ((a.lasts p).0 (subst P lasts h)), λ h. subst P (sym lasts) ((a.lasts p).1 (last_of_plus i p h)));
      repeats = λ h p q l s. next_again i p q (last_of_plus i p l) (first_of_plus i q s);
      owed = λ p q h.
          let r = (owe p q).0 h in
          let l : IsLast i p = (a.lasts p).0 r.0 in
          let s : IsFirst i q = (a.firsts q).0 r.1 in
          (last_in_plus i p l, first_in_plus i q s, next_again i p q l s);
      listed = λ p q low high h. next_in_plus i p q (a.listed p q low high h);
      whole = λ p q h. elim (next_of_plus i p q h) [
        | inl x ↦ elim (a.whole p q x) [
          | inl y ↦ inl y
          | inr y ↦ let r = a.owed p q y in inr ((owe p q).1 ((a.lasts p).1 r.0, (a.firsts q).1 r.1))
        ]
        | inr x ↦ inr ((owe p q).1 ((a.lasts p).1 x.0, (a.firsts q).1 x.1))
      ];
    }

-- one that is repeated already
pub plus_again : (fragment : Fragment) → IsTrue fragment.repeats → IsPlus fragment fragment
plus_again fragment again n e rows a =
    let i : Expression ℕ = placed n e in
    record {
      nullable = (λ h. plus_from_one i [] (a.nullable.0 h), λ m. a.nullable.1 (nullable_of_plus i m));
      firsts = λ q. (λ h. first_in_plus i q ((a.firsts q).0 h), λ h. (a.firsts q).1 (first_of_plus i q h));
      lasts = λ p. (λ h. last_in_plus i p ((a.lasts p).0 h), λ h. (a.lasts p).1 (last_of_plus i p h));
      repeats = λ h p q l s. next_again i p q (last_of_plus i p l) (first_of_plus i q s);
      owed = λ p q h. let r = a.owed p q h in (last_in_plus i p r.0, first_in_plus i q r.1, next_in_plus i p q r.2);
      listed = λ p q low high h. next_in_plus i p q (a.listed p q low high h);
      whole = λ p q h. elim (next_of_plus i p q h) [ inl x ↦ a.whole p q x | inr x ↦ a.whole p q (a.repeats again p q x.0 x.1) ];
    }

-- an expression at most once
pub optional_fragment : (fragment made : Fragment) → made.nullable ≡ true → made.repeats ≡ fragment.repeats → made.firsts ≡ fragment.firsts → made.lasts ≡ fragment.lasts → made.owed ≡ fragment.owed → IsOptional fragment made
optional_fragment fragment made null rep fir las owe n e rows a =
    let i : Expression ℕ = placed n e in
    let firsts : made.firsts.items ≡ fragment.firsts.items = ap (λ v. v.items) fir in
    let lasts : made.lasts.items ≡ fragment.lasts.items = ap (λ v. v.items) las in
    let owes : made.owed.items ≡ fragment.owed.items = ap (λ v. v.items) owe in
    record {
      nullable = (λ h. inl refl, λ m. null);
      firsts = λ q. let P : List ℕ → Type 0 = λ xs. Contains xs q in (λ h. let r = (a.firsts q).0 (subst P firsts h) in (r.0, inr r.1), λ h. subst P (sym firsts) ((a.firsts q).1 (first_of_optional i q h)));
      lasts = λ p. let P : List ℕ → Type 0 = λ xs. Contains xs p in (λ h. let r = (a.lasts p).0 (subst P lasts h) in (r.0, inr r.1), λ h. subst P (sym lasts) ((a.lasts p).1 (last_of_optional i p h)));
      repeats = λ h p q l s. let r = a.repeats (sym rep ∙ h) p q (last_of_optional i p l) (first_of_optional i q s) in (r.0, r.1, inr r.2);
      owed = λ p q h.
          let P : List Crossing → Type 0 = λ xs. Crosses xs p q in
          let r = a.owed p q (subst P owes h) in
          ((r.0.0, inr r.0.1), (r.1.0, inr r.1.1), (r.2.0, r.2.1, inr r.2.2));
      listed = λ p q low high h. let r = a.listed p q low high h in (r.0, r.1, inr r.2);
      whole = λ p q h. let P : List Crossing → Type 0 = λ xs. Crosses xs p q in elim (a.whole p q (next_of_optional i p q h)) [ inl x ↦ inl x | inr x ↦ inr (subst P (sym owes) x) ];
    }

-- any number of times is at least once, or not at all
pub star_fragment : (made : Fragment) (n : ℕ) (e : Expression (List ℤ)) (rows : List (List ℕ)) → IsFragment n (optional (plus e)) made rows → IsFragment n (star e) made rows
star_fragment made n e rows a =
    let i : Expression ℕ = placed n e in
    record {
      nullable = (λ h. ([], refl, tt), λ m. a.nullable.1 (inl refl));
      firsts = λ q. (λ h. to_first i q ((a.firsts q).0 h), λ h. (a.firsts q).1 (from_first i q h));
      lasts = λ p. (λ h. to_last i p ((a.lasts p).0 h), λ h. (a.lasts p).1 (from_last i p h));
      repeats = λ h p q l s. to_next i p q (a.repeats h p q (from_last i p l) (from_first i q s));
      owed = λ p q h. let r = a.owed p q h in (to_last i p r.0, to_first i q r.1, to_next i p q r.2);
      listed = λ p q low high h. to_next i p q (a.listed p q low high h);
      whole = λ p q h. a.whole p q (from_next i p q h);
    }
  where
    to_first : (i : Expression ℕ) (q : ℕ) → IsFirst (optional (plus i)) q → IsFirst (star i) q
    to_first i q h = let r = first_of_optional (plus i) q h in (r.0, star_from_plus i (q ∷ r.0) r.1)

    from_first : (i : Expression ℕ) (q : ℕ) → IsFirst (star i) q → IsFirst (optional (plus i)) q
    from_first i q h = let r = first_in_plus i q (first_of_star i q h) in (r.0, inr r.1)

    to_last : (i : Expression ℕ) (p : ℕ) → IsLast (optional (plus i)) p → IsLast (star i) p
    to_last i p h = let r = last_of_optional (plus i) p h in (r.0, star_from_plus i (r.0 ++ p ∷ []) r.1)

    from_last : (i : Expression ℕ) (p : ℕ) → IsLast (star i) p → IsLast (optional (plus i)) p
    from_last i p h = let r = last_in_plus i p (last_of_star i p h) in (r.0, inr r.1)

    to_next : (i : Expression ℕ) (p q : ℕ) → IsNext (optional (plus i)) p q → IsNext (star i) p q
    to_next i p q h = let r = next_of_optional (plus i) p q h in (r.0, r.1, star_from_plus i (r.0 ++ p ∷ q ∷ r.1) r.2)

    from_next : (i : Expression ℕ) (p q : ℕ) → IsNext (star i) p q → IsNext (optional (plus i)) p q
    from_next i p q h = elim (next_of_star i p q h) [
      | inl x ↦ let r = next_in_plus i p q x in (r.0, r.1, inr r.2)
      | inr x ↦ let r = next_again i p q x.0 x.1 in (r.0, r.1, inr r.2)
    ]

-- two lists, one after the other
pub both_appended : {X : Type 0} (both left right : List X) → both ≡ left ++ right → AreBoth both left right
both_appended {X} both left right e x = (
  λ h. let P : List X → Type 0 = λ xs. Contains xs x in Contains-append_cases left right x (subst P e h),
  λ h. let P : List X → Type 0 = λ xs. Contains xs x in subst P (sym e) (elim h [ inl k ↦ Contains-append_left left right x k | inr k ↦ Contains-append_right left right x k ]),
)

pub both_turned : {X : Type 0} (both left right : List X) → both ≡ right ++ left → AreBoth both left right
both_turned both left right e x = let b = both_appended both right left e x in (
  λ h. elim (b.0 h) [ inl k ↦ inr k | inr k ↦ inl k ],
  λ h. b.1 (elim h [ inl k ↦ inr k | inr k ↦ inl k ]),
)

pub both_wanted : {X : Type 0} (result : Result (Vec X Global) OutOfMemory) (wanted : Bool) (left right : List X) → wanted ≡ true → IfOk result (λ both. AreBoth both.items left right) → IfOk result (λ both. AreBothIf wanted both.items left right)
both_wanted (Ok both) wanted left right e h = λ x. (
  λ k. elim ((h x).0 k) [ inl y ↦ inl y | inr y ↦ inr (e, y) ],
  λ k. (h x).1 (elim k [ inl y ↦ inl y | inr y ↦ inr y.1 ]),
)
both_wanted (Err fault) wanted left right e h = tt

pub or_is_then : (a b r : Bool) → a ≡ true → r ≡ a → r ≡ (a || b)
or_is_then true b r e f = f
or_is_then false b r e f = cc

pub or_is_else : (a b r : Bool) → a ≡ false → r ≡ b → r ≡ (a || b)
or_is_else true b r e f = cc
or_is_else false b r e f = f

-- the pairs of one crossing
pub one_crossing : (owed start : List Crossing) (c : Crossing) (lasts firsts : List ℕ) → start ≡ [] → owed ≡ start ++ c ∷ [] → c.lasts.items ≡ lasts → c.firsts.items ≡ firsts
    → (p q : ℕ) → Crosses owed p q ↔ (Contains lasts p × Contains firsts q)
one_crossing owed start c lasts firsts e f l s p q = (
  λ h.
      let alone : Contains (c ∷ []) h.0 = let P : List Crossing → Type 0 = λ xs. Contains xs h.0 in subst P (f ∙ ap (λ xs. xs ++ c ∷ []) e) h.1 in
      let same : h.0 ≡ c = elim (contains_cons_cases c [] h.0 alone) [ inl x ↦ sym x | inr x ↦ absurd (contains_none h.0 x) ] in
      let Q : List ℕ → Type 0 = λ xs. Contains xs p in
      let R : List ℕ → Type 0 = λ xs. Contains xs q in
      (subst Q (ap (λ d. d.lasts.items) same ∙ l) h.2, subst R (ap (λ d. d.firsts.items) same ∙ s) h.3),
  λ h.
      let P : List Crossing → Type 0 = λ xs. Contains xs c in
      let Q : List ℕ → Type 0 = λ xs. Contains xs p in
      let R : List ℕ → Type 0 = λ xs. Contains xs q in
      (c, subst P (sym (f ∙ ap (λ xs. xs ++ c ∷ []) e)) (contains_here c [] c refl), subst Q (sym l) h.0, subst R (sym s) h.1),
)

pub and_is_then : (a b r : Bool) → a ≡ true → r ≡ b → r ≡ (a && b)
and_is_then true b r e f = f
and_is_then false b r e f = cc

pub and_is_else : (a b r : Bool) → a ≡ false → r ≡ a → r ≡ (a && b)
and_is_else true b r e f = cc
and_is_else false b r e f = f

pub three_lists : {X : Type 0} (all first two second third : List X) → AreBoth all first two → AreBoth two second third → (x : X) → Contains all x ↔ (Contains first x ⊎ (Contains second x ⊎ Contains third x))
three_lists all first two second third a b x = (
  λ h. elim ((a x).0 h) [ inl y ↦ inl y | inr y ↦ inr ((b x).0 y) ],
  λ h. (a x).1 (elim h [ inl y ↦ inl y | inr y ↦ inr ((b x).1 y) ]),
)

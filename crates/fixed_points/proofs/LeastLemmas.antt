-- The least of letters that lack rules.
use Rattle.std.proofs.Common.{Bor, ◌≡◌, ℕ, ◌+◌, ◌<◌, ◌≤◌, Bool, true, false, List, [], length, get_or, ℤ, pos, ◌≤ℤ◌, ◌⊎◌, inl, inr, Option, None, Some, refl, sym, ap, ◌∙◌, subst, arith}
use Rattle.std.specs.Prelude.{int_lt, if◌then◌else◌, is_some}
use Rattle.std.specs.List.{Contains}
use Rattle.std.specs.Option.{option_copied}
use Rattle.std.specs.Map.{keys_of}
use Rattle.std.proofs.lemmas.Bool.{cases_lt, false≢true}
use Rattle.std.proofs.lemmas.Int.{ints}
use Rattle.std.proofs.lemmas.List.{get_or_default}
use Rattle.morph_words.specs.Rules.{IsMorphism, Rules, has, image_of}
use Rattle.fixed_points.specs.LeastLetters.{LacksAmong, LacksBelow, lesser}
use Rattle.morph_words.specs.MorphismKinds.{AreClosed, IsLacking}
use Rattle.morph_words.proofs.RuleLemmas.{in_order, one_least, place_of_ruled, ruled_at}
use Rattle.morph_words.specs.Images.{image}
use Rattle.morph_words.specs.Uniform.{AreUniform, HasRule, IsLeast, IsLeastOf, IsOdd}

-- the lesser of the least of two kinds of letters is the least of both
pub lesser_least : (P Q R : ℤ → Type 0) (one other : Option ℤ) → ((a : ℤ) → P a → R a) → ((a : ℤ) → Q a → R a) → ((a : ℤ) → R a → P a ⊎ Q a) → IsLeastOf P one → IsLeastOf Q other → IsLeastOf R (lesser one other)
lesser_least P Q R None None first second either one two = λ letter holds. by letter (either letter holds)
  where
    by : (letter : ℤ) → P letter ⊎ Q letter → ⊥
    by letter (inl p) = one letter p
    by letter (inr q) = two letter q
lesser_least P Q R None (Some b) first second either one two = record { holds = second b two.holds; least = λ letter holds. by letter (either letter holds) }
  where
    by : (letter : ℤ) → P letter ⊎ Q letter → b ≤ℤ letter
    by letter (inl p) = absurd (one letter p)
    by letter (inr q) = two.least letter q
lesser_least P Q R (Some a) None first second either one two = record { holds = first a one.holds; least = λ letter holds. by letter (either letter holds) }
  where
    by : (letter : ℤ) → P letter ⊎ Q letter → a ≤ℤ letter
    by letter (inl p) = one.least letter p
    by letter (inr q) = absurd (two letter q)
lesser_least P Q R (Some a) (Some b) first second either one two = by (int_lt b a) refl
  where
    below : (letter : ℤ) → P letter ⊎ Q letter → (c : ℤ) → c ≤ℤ a → c ≤ℤ b → c ≤ℤ letter
    below letter (inl p) c small less = omega (arith, ints, small, one.least letter p)
    below letter (inr q) c small less = omega (arith, ints, less, two.least letter q)

    by : (t : Bool) → int_lt b a ≡ t → IsLeastOf R (if t then Some b else Some a)
    by true is = record { holds = second b two.holds; least = λ letter holds. below letter (either letter holds) b (grind (arith, ints, is)) (omega (arith, ints)) }
    by false is = record { holds = first a one.holds; least = λ letter holds. below letter (either letter holds) a (omega (arith, ints)) (grind (arith, ints, is)) }

-- the same letters have one least
pub IsLeastOf-same : (P Q : ℤ → Type 0) (found : Option ℤ) → ((a : ℤ) → P a → Q a) → ((a : ℤ) → Q a → P a) → IsLeastOf P found → IsLeastOf Q found
IsLeastOf-same P Q None over back none = λ letter holds. none letter (back letter holds)
IsLeastOf-same P Q (Some a) over back least = record { holds = over a least.holds; least = λ other holds. least.least other (back other holds) }

module _ (rules : Rules) where
  module _ (word : List ℤ) (n : ℕ) (found : Option ℤ) where
    -- one letter more, which has no rule
    pub among_more : n < length word → ¬ HasRule rules (get_or word n (pos 0)) → IsLeastOf (LacksAmong rules word n) found → IsLeastOf (LacksAmong rules word (n + 1)) (lesser found (Some (get_or word n (pos 0))))
    among_more within lacks before =
        lesser_least (LacksAmong rules word n) Q (LacksAmong rules word (n + 1)) found (Some last)
        (λ a h. record { place = h.place; before = omega (arith, h.before); within = h.within; letter_is = h.letter_is; lacks = h.lacks })
        (λ a h. record { place = n; before = omega arith; within = within; letter_is = sym h; lacks = λ ruled. lacks (subst (HasRule rules) h ruled) })
        (λ a h. by a h (cases_lt h.place n)) before
        (record { holds = refl; least = λ other h. subst (λ b. last ≤ℤ b) (sym h) (omega (arith, ints)) })
      where
        last : ℤ
        last = get_or word n (pos 0)

        Q : ℤ → Type 0
        Q a = a ≡ last

        by : (a : ℤ) (h : LacksAmong rules word (n + 1) a) → (h.place < n) ⊎ (n ≤ h.place) → LacksAmong rules word n a ⊎ Q a
        by a h (inl less) = inl (record { place = h.place; before = less; within = h.within; letter_is = h.letter_is; lacks = h.lacks })
        by a h (inr more) = let same : n ≡ h.place = omega (arith, more, h.before) in inr (sym h.letter_is ∙ ap (λ i. get_or word i (pos 0)) (sym same))

    -- one letter more, which has a rule
    pub among_stay : HasRule rules (get_or word n (pos 0)) → IsLeastOf (LacksAmong rules word n) found → IsLeastOf (LacksAmong rules word (n + 1)) found
    among_stay ruled before =
        IsLeastOf-same (LacksAmong rules word n) (LacksAmong rules word (n + 1)) found
        (λ a h. record { place = h.place; before = omega (arith, h.before); within = h.within; letter_is = h.letter_is; lacks = h.lacks })
        (λ a h. by a h (cases_lt h.place n)) before
      where
        by : (a : ℤ) (h : LacksAmong rules word (n + 1) a) → (h.place < n) ⊎ (n ≤ h.place) → LacksAmong rules word n a
        by a h (inl less) = record { place = h.place; before = less; within = h.within; letter_is = h.letter_is; lacks = h.lacks }
        by a h (inr more) =
            let same : n ≡ h.place = omega (arith, more, h.before) in
            absurd (h.lacks (subst (HasRule rules) (ap (λ i. get_or word i (pos 0)) same ∙ h.letter_is) ruled))

  -- no letter yet
  pub among_none : (word : List ℤ) → IsLeastOf (LacksAmong rules word 0) None
  among_none word = λ letter h. omega (arith, h.before)

  pub below_none : (letters : List ℤ) → IsLeastOf (LacksBelow rules letters 0) None
  below_none letters = λ letter h. omega (arith, h.before)

  -- the image of one letter more
  pub below_more : (letters : List ℤ) (n : ℕ) (found other : Option ℤ) (word : List ℤ) → n < length letters → word ≡ image rules (get_or letters n (pos 0)) → IsLeastOf (LacksBelow rules letters n) found
      → IsLeastOf (LacksAmong rules word (length word)) other → IsLeastOf (LacksBelow rules letters (n + 1)) (lesser found other)
  below_more letters n found other word inside is before more =
      lesser_least (LacksBelow rules letters n) (LacksAmong rules word (length word)) (LacksBelow rules letters (n + 1)) found other
      (λ a h. record { place = h.place; before = omega (arith, h.before); inside = h.inside; within = h.within; lacks = h.lacks })
      (λ a h. record { place = n; before = omega arith; inside = inside; within = subst (λ xs. Contains xs a) is (Contains-at word h.place (pos 0) a h.within h.letter_is); lacks = h.lacks })
      (λ a h. by a h (cases_lt h.place n)) before more
    where
      Contains-at : (xs : List ℤ) (i : ℕ) (d a : ℤ) → i < length xs → get_or xs i d ≡ a → Contains xs a
      Contains-at xs i d a within at = (i, within, get_or_default xs i a d within ∙ at)

      among : (a : ℤ) → Contains word a → ¬ HasRule rules a → LacksAmong rules word (length word) a
      among a at lacks = record { place = at.0; before = at.1; within = at.1; letter_is = get_or_default word at.0 (pos 0) a at.1 ∙ at.2; lacks = lacks }

      by : (a : ℤ) (h : LacksBelow rules letters (n + 1) a) → (h.place < n) ⊎ (n ≤ h.place) → LacksBelow rules letters n a ⊎ LacksAmong rules word (length word) a
      by a h (inl less) = inl (record { place = h.place; before = less; inside = h.inside; within = h.within; lacks = h.lacks })
      by a h (inr more) =
          let same : h.place ≡ n = omega (arith, more, h.before) in
          inr (among a (subst (λ xs. Contains xs a) (ap (λ i. image rules (get_or letters i (pos 0))) same ∙ sym is) h.within) h.lacks)

  -- a letter more that has no image
  pub below_stay : (letters : List ℤ) (n : ℕ) (found : Option ℤ) → [] ≡ image rules (get_or letters n (pos 0)) → IsLeastOf (LacksBelow rules letters n) found → IsLeastOf (LacksBelow rules letters (n + 1)) found
  below_stay letters n found none before =
      IsLeastOf-same (LacksBelow rules letters n) (LacksBelow rules letters (n + 1)) found
      (λ a h. record { place = h.place; before = omega (arith, h.before); inside = h.inside; within = h.within; lacks = h.lacks })
      (λ a h. by a h (cases_lt h.place n)) before
    where
      by : (a : ℤ) (h : LacksBelow rules letters (n + 1) a) → (h.place < n) ⊎ (n ≤ h.place) → LacksBelow rules letters n a
      by a h (inl less) = record { place = h.place; before = less; inside = h.inside; within = h.within; lacks = h.lacks }
      by a h (inr more) =
          let same : h.place ≡ n = omega (arith, more, h.before) in
          let at : Contains [] a = subst (λ xs. Contains xs a) (ap (λ i. image rules (get_or letters i (pos 0))) same ∙ sym none) h.within in
          absurd (omega (arith, at.1))

  -- the images of all letters
  pub lacking_all : (letters : List ℤ) (n : ℕ) (found : Option ℤ) → letters ≡ keys_of rules → length letters ≤ n → IsLeastOf (LacksBelow rules letters n) found → IsLeastOf (IsLacking rules) found
  lacking_all letters n found are whole = IsLeastOf-same (LacksBelow rules letters n) (IsLacking rules) found over back
    where
      over : (a : ℤ) → LacksBelow rules letters n a → IsLacking rules a
      over a h = record {
        from = get_or letters h.place (pos 0);
        has_rule = subst (λ xs. HasRule rules (get_or xs h.place (pos 0))) (sym are) (ruled_at rules h.place (subst (λ xs. h.place < length xs) are h.inside));
        within = h.within;
        lacks = h.lacks;
      }

      back : (a : ℤ) → IsLacking rules a → LacksBelow rules letters n a
      back a h =
          let place = place_of_ruled rules h.from h.has_rule in
          let inside : place.0 < length letters = subst (λ (xs : List ℤ). place.0 < length xs) (sym are) place.1 in
          let at : get_or letters place.0 (pos 0) ≡ h.from = ap (λ (xs : List ℤ). get_or xs place.0 (pos 0)) are ∙ place.2 in
          record { place = place.0; before = omega (arith, inside, whole); inside = inside; within = subst (λ b. Contains (image rules b) a) (sym at) h.within; lacks = h.lacks }

  -- where none lacks a rule, all have one
  pub closed_from_none : ((letter : ℤ) → ¬ IsLacking rules letter) → AreClosed rules
  closed_from_none none from letter ruled at = by (has rules letter) refl
    where
      by : (b : Bool) → has rules letter ≡ b → HasRule rules letter
      by true is = is
      by false is = absurd (none letter (record { from = from; has_rule = ruled; within = at; lacks = λ there. false≢true (sym is ∙ there) }))

-- an image that is found says that the letter has a rule
copied_there : {X : Type 0} (o : Option (Bor X)) → is_some (option_copied o) ≡ is_some o
copied_there None = refl
copied_there (Some x) = refl

pub copied_has : (o : Option (Bor (List ℤ))) (rules : Rules) (z letter : ℤ) (b : Bool) → option_copied o ≡ image_of rules z → z ≡ letter → is_some o ≡ b → has rules letter ≡ b
copied_has o rules z letter b copied same is = sym (ap is_some (copied ∙ ap (image_of rules) same)) ∙ copied_there o ∙ is

-- A morphism has a fixed point in one base, or is refused as one kind.
use Rattle.std.proofs.Common.{◌≡◌, ℕ, zero, suc, ◌<◌, ◌≤◌, Bool, true, false, List, [], ◌∷◌, length, get_or, ℤ, pos, negsuc, Option, None, Some, ◌⊎◌, inl, inr, refl, sym, ap, ◌∙◌, subst, arith}
use Rattle.std.specs.Map.{keys_of}
use Rattle.std.proofs.lemmas.Bool.{cases_eq, cases_lt, false≢true}
use Rattle.morph_words.specs.Rules.{IsMorphism, Rules, has, image_of}
use Rattle.fixed_points.specs.Laws.{MorphismsArePromotedOrRefused, MorphismsHaveOneKind}
use Rattle.fixed_points.specs.LeastLetters.{LacksAmong, LacksBelow, lesser}
use Rattle.fixed_points.specs.LetterGraphLaws.{zero_ruled}
use Rattle.morph_words.specs.MorphismKinds.{AreClosed, BeginsItself, HasFixedPoint, IsBase, IsLacking, IsRefusedAs}
use Rattle.morph_words.specs.declared.morphism_kind.MorphismKind.{MorphismKind}
use Rattle.morph_words.specs.declared.morphism_kind.MorphismKind.TheVariants.{NotUniform, Length, NotClosed, NotFixed}
use Rattle.fixed_points.proofs.LeastLemmas.{among_more, among_none, among_stay, below_more, below_none, closed_from_none, lacking_all}
use Rattle.morph_words.proofs.RuleLemmas.{first_least, one_least}
use Rattle.morph_words.proofs.UniformLemmas.{not_uniform, one_length, outside_not, uniform_or_odd}
use Rattle.morph_words.specs.Images.{image}
use Rattle.morph_words.specs.Uniform.{AreUniform, HasOtherLength, HasRule, IsLeast, IsLeastOf, IsNotUniform, IsOdd}

module _ (rules : Rules) where
  not_closed : (letter : ℤ) → IsLacking rules letter → AreClosed rules → ⊥
  not_closed letter lacking closed = lacking.lacks (closed lacking.from letter lacking.has_rule lacking.within)

  pub one_base : (j k : ℕ) → HasFixedPoint rules j → HasFixedPoint rules k → j ≡ k
  one_base j k one two = one_length rules (pos 0) j k (zero_ruled rules j one) one.uniform two.uniform

  pub apart : (k : ℕ) (kind : MorphismKind) → HasFixedPoint rules k → IsRefusedAs rules kind → ⊥
  apart k (NotUniform letter) fixed h = not_uniform rules letter k h.holds fixed.uniform
  apart k (Length letter) fixed h = outside_not rules IsBase letter k h fixed.uniform fixed.base
  apart k (NotClosed letter) fixed h = not_closed letter h.lacking.holds fixed.closed
  apart k (NotFixed letter) fixed h = h.begins_not fixed.begins

  pub one_kind : (kind other : MorphismKind) → IsRefusedAs rules kind → IsRefusedAs rules other → kind ≡ other
  one_kind (NotUniform a) (NotUniform b) h g = ap NotUniform (one_least (IsOdd rules) a b h g)
  one_kind (NotUniform a) (Length b) h g = absurd (not_uniform rules a g.k h.holds g.uniform)
  one_kind (NotUniform a) (NotClosed b) h g = absurd (not_uniform rules a g.k h.holds g.uniform)
  one_kind (NotUniform a) (NotFixed b) h g = absurd (not_uniform rules a g.k h.holds g.uniform)
  one_kind (Length a) (NotUniform b) h g = absurd (not_uniform rules b h.k g.holds h.uniform)
  one_kind (Length a) (Length b) h g = ap Length (one_least (HasRule rules) a b h.first g.first)
  one_kind (Length a) (NotClosed b) h g = absurd (outside_not rules IsBase a g.k h g.uniform g.base)
  one_kind (Length a) (NotFixed b) h g = absurd (outside_not rules IsBase a g.k h g.uniform g.base)
  one_kind (NotClosed a) (NotUniform b) h g = absurd (not_uniform rules b h.k g.holds h.uniform)
  one_kind (NotClosed a) (Length b) h g = absurd (outside_not rules IsBase b h.k g h.uniform h.base)
  one_kind (NotClosed a) (NotClosed b) h g = ap NotClosed (one_least (IsLacking rules) a b h.lacking g.lacking)
  one_kind (NotClosed a) (NotFixed b) h g = absurd (not_closed a h.lacking.holds g.closed)
  one_kind (NotFixed a) (NotUniform b) h g = absurd (not_uniform rules b h.k g.holds h.uniform)
  one_kind (NotFixed a) (Length b) h g = absurd (outside_not rules IsBase b h.k g h.uniform h.base)
  one_kind (NotFixed a) (NotClosed b) h g = absurd (not_closed b g.lacking.holds h.closed)
  one_kind (NotFixed a) (NotFixed b) h g = ap NotFixed (h.zero_is ∙ sym g.zero_is)

pub one_kinds : MorphismsHaveOneKind
one_kinds rules = record { one_base = one_base rules; one_kind = one_kind rules; apart = apart rules }

-- a letter is 0 or not
zero_or_not : (a : ℤ) → (a ≡ pos 0) ⊎ ¬ (a ≡ pos 0)
zero_or_not (pos zero) = inl refl
zero_or_not (pos (suc n)) = inr (λ same. let at : suc n ≡ 0 = cc in omega (arith, at))
zero_or_not (negsuc n) = inr (λ same. cc)

-- which it is can be found
module _ (rules : Rules) (is : IsMorphism rules) where
  abbrev letters : List ℤ
  letters = keys_of rules

  abbrev first : ℤ
  first = get_or letters 0 (pos 0)

  abbrev m : ℕ
  m = length (image rules first)

  first_is : IsLeast (HasRule rules) first
  first_is = first_least rules is

  -- the least letter of a word that has no rule
  among : (word : List ℤ) (n : ℕ) → n ≤ length word → (found : Option ℤ) × IsLeastOf (LacksAmong rules word n) found
  among word zero within = (None, among_none rules word)
  among word (suc n) within = by (among word n (omega (arith, within))) (has rules (get_or word n (pos 0))) refl
    where
      by : (found : Option ℤ) × IsLeastOf (LacksAmong rules word n) found → (b : Bool) → has rules (get_or word n (pos 0)) ≡ b → (found : Option ℤ) × IsLeastOf (LacksAmong rules word (suc n)) found
      by before true is = (before.0, subst (λ i. IsLeastOf (LacksAmong rules word i) before.0) (omega arith) (among_stay rules word n before.0 is before.1))
      by before false is = (
        lesser before.0 (Some (get_or word n (pos 0))),
        subst (λ i. IsLeastOf (LacksAmong rules word i) (lesser before.0 (Some (get_or word n (pos 0))))) (omega arith)
            (among_more rules word n before.0 (omega (arith, within)) (λ there. false≢true (sym is ∙ there)) before.1),
      )

  below : (n : ℕ) → n ≤ length letters → (found : Option ℤ) × IsLeastOf (LacksBelow rules letters n) found
  below zero within = (None, below_none rules letters)
  below (suc n) within = by (below n (omega (arith, within))) (among (image rules (get_or letters n (pos 0))) (length (image rules (get_or letters n (pos 0)))) (omega arith))
    where
      by : (found : Option ℤ) × IsLeastOf (LacksBelow rules letters n) found → (found : Option ℤ) × IsLeastOf (LacksAmong rules (image rules (get_or letters n (pos 0))) (length (image rules (get_or letters n (pos 0))))) found
          → (found : Option ℤ) × IsLeastOf (LacksBelow rules letters (suc n)) found
      by before more = (
        lesser before.0 more.0,
        subst (λ i. IsLeastOf (LacksBelow rules letters i) (lesser before.0 more.0)) (omega arith)
            (below_more rules letters n before.0 more.0 (image rules (get_or letters n (pos 0))) (omega (arith, within)) refl before.1 more.1),
      )

  base_or_not : (k : ℕ) → IsBase k ⊎ ¬ IsBase k
  base_or_not k = by (cases_lt k 2) (cases_lt 40 k)
    where
      by : (k < 2) ⊎ (2 ≤ k) → (40 < k) ⊎ (k ≤ 40) → IsBase k ⊎ ¬ IsBase k
      by (inl small) large = inr (λ base. omega (arith, small, base.0))
      by (inr least) (inl large) = inr (λ base. omega (arith, large, base.1))
      by (inr least) (inr most) = inl (least, most)

  begins_or_not : BeginsItself rules ⊎ ¬ BeginsItself rules
  begins_or_not = by (image_of rules (pos 0)) refl
    where
      head : (a : ℤ) (rest : List ℤ) → (a ≡ pos 0) ⊎ ¬ (a ≡ pos 0) → image_of rules (pos 0) ≡ Some (a ∷ rest) → BeginsItself rules ⊎ ¬ BeginsItself rules
      head a rest (inl same) is = inl (rest, is ∙ ap (λ b. Some (b ∷ rest)) same)
      head a rest (inr other) is = inr (λ begins. let same : Some (a ∷ rest) ≡ Some (pos 0 ∷ begins.0) = sym is ∙ begins.1 in other (let at : a ≡ pos 0 = cc in at))

      by : (o : Option (List ℤ)) → image_of rules (pos 0) ≡ o → BeginsItself rules ⊎ ¬ BeginsItself rules
      by None is = inr (λ begins. let same : None ≡ Some (pos 0 ∷ begins.0) = sym is ∙ begins.1 in cc)
      by (Some []) is = inr (λ begins. let same : Some [] ≡ Some (pos 0 ∷ begins.0) = sym is ∙ begins.1 in cc)
      by (Some (a ∷ rest)) is = head a rest (zero_or_not a) is

  abbrev Found : Type 0
  Found = ((k : ℕ) × HasFixedPoint rules k) ⊎ ((kind : MorphismKind) × IsRefusedAs rules kind)

  pub found : Found
  found = by_length (uniform_or_odd rules is)
    where
      by_begin : IsBase m → AreUniform rules m → AreClosed rules → BeginsItself rules ⊎ ¬ BeginsItself rules → Found
      by_begin base uniform closed (inl begins) = inl (m, record { base = base; uniform = uniform; closed = closed; begins = begins })
      by_begin base uniform closed (inr not) = inr (NotFixed (pos 0), record { zero_is = refl; k = m; base = base; uniform = uniform; closed = closed; begins_not = not })

      by_lacking : IsBase m → AreUniform rules m → (o : Option ℤ) → IsLeastOf (IsLacking rules) o → Found
      by_lacking base uniform None none = by_begin base uniform (closed_from_none rules none) begins_or_not
      by_lacking base uniform (Some letter) least = inr (NotClosed letter, record { k = m; base = base; uniform = uniform; lacking = least })

      by_base : AreUniform rules m → IsBase m ⊎ ¬ IsBase m → Found
      by_base uniform (inr not) = inr (Length first, record { first = first_is; k = m; uniform = uniform; outside = not })
      by_base uniform (inl base) =
          let lacking = below (length letters) (omega arith) in
          by_lacking base uniform lacking.0 (lacking_all rules letters (length letters) lacking.0 refl (omega arith) lacking.1)

      by_length : ((letter : ℤ) × IsNotUniform rules letter) ⊎ AreUniform rules m → Found
      by_length (inl odd) = inr (NotUniform odd.0, odd.1)
      by_length (inr uniform) = by_base uniform (base_or_not m)

pub promoted_or_refused : MorphismsArePromotedOrRefused
promoted_or_refused rules is = found rules is

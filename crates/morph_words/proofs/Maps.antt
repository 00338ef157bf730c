-- The rules of a list by ascending letter, one put after another.
use Rattle.std.proofs.Common.{◌≡◌, ℕ, zero, suc, ◌<◌, Bool, true, false, ◌||◌, ◌⊎◌, inl, inr, List, [], ◌∷◌, ◌++◌, length, ℤ, refl, sym, ◌∙◌, ap, subst, arith}
use Rattle.std.specs.Prelude.{⊤, slice_index_or}
use Rattle.std.specs.declared.cmp.Ordering.{Ordering}
use Rattle.std.specs.declared.cmp.Ordering.TheVariants.{Less, Equal, Greater}
use Rattle.std.specs.Ordering.{int_cmp, is_eq, match_ordering, ordering_reverse}
use Rattle.std.specs.List.{AllByRecursion, Contains}
use Rattle.std.specs.List.Sorted.{IsStrictlySortedBy, IsPermutation}
use Rattle.std.specs.Map.{keys_of}
use Rattle.std.proofs.lemmas.Cmp.{int_ranked, int_cmp_total}
use Rattle.std.proofs.lemmas.List.Sorted.{IsPermutation-refl, IsPermutation-cons, IsPermutation-middle, IsPermutation-trans, IsPermutation-sym, IsPermutation-push_more, Contains-permutation}
use Rattle.morph_words.specs.declared.lexeme.Lexeme.{Lexeme}
use Rattle.morph_words.specs.Rules.{Rules, has, put}
use Rattle.morph_words.specs.Grammar.{RuleList, first, next, Text, text_then, letters_of, rules_of, IsOnce, Derives}
use Rattle.morph_words.specs.Laws.{OrderIsFree}
use Rattle.morph_words.proofs.Orders.{has-cons, absent, sorted-put}

-- the rules by ascending letter
abbrev pub map_of : RuleList → Rules
map_of (first rule) = put [] rule.letter (letters_of rule.image)
map_of (next rules divider rule) = put (map_of rules) rule.letter (letters_of rule.image)

abbrev pub MapOnce : RuleList → Type 0
MapOnce (first rule) = ⊤
MapOnce (next rules divider rule) = MapOnce rules × (has (map_of rules) rule.letter ≡ false)

pub record DerivesMap (ts : List Lexeme) (rules : Rules) : Type 0 where
  pub text : Text
  pub derives : text_then text [] ≡ ts
  pub once : MapOnce text.rules
  pub rules_are : map_of text.rules ≡ rules

-- which letters have rules, after one rule more
same_letter : (x y : ℤ) → is_eq (int_cmp x y) ≡ true → x ≡ y
same_letter x y h = by_order (int_cmp x y) refl h
  where
    by_order : (o : Ordering) → o ≡ int_cmp x y → is_eq o ≡ true → x ≡ y
    by_order Less e h = cc
    by_order Equal e h = int_ranked x y Equal e
    by_order Greater e h = cc

swapped : (a b c : Bool) → (a || (b || c)) ≡ (b || (a || c))
swapped true true c = refl
swapped true false c = refl
swapped false true c = refl
swapped false false c = refl

twice : (a b : Bool) → (a || b) ≡ (a || (a || b))
twice true b = refl
twice false b = refl

has-put : (rules : Rules) (letter : ℤ) (image : List ℤ) (k : ℤ) → has (put rules letter image) k ≡ (is_eq (int_cmp k letter) || has rules k)
has-put [] letter image k = has-cons (letter, image) [] k
has-put (rule ∷ rules) letter image k = by_order (has-put rules letter image k) (int_cmp letter rule.0) refl
  where
    by_order : has (put rules letter image) k ≡ (is_eq (int_cmp k letter) || has rules k) → (o : Ordering) → int_cmp letter rule.0 ≡ o →
        has (match_ordering o ((letter, image) ∷ rule ∷ rules) ((rule.0, image) ∷ rules) (rule ∷ put rules letter image)) k ≡ (is_eq (int_cmp k letter) || has (rule ∷ rules) k)
    by_order more Less e = has-cons (letter, image) (rule ∷ rules) k
    by_order more Equal e =
        let same : rule.0 ≡ letter = sym (same_letter letter rule.0 (ap is_eq e)) in
        has-cons (rule.0, image) rules k
        ∙ (twice (is_eq (int_cmp k rule.0)) (has rules k)
        ∙ (ap (λ (t : Bool). is_eq (int_cmp k rule.0) || t) (sym (has-cons rule rules k))
        ∙ ap (λ (z : ℤ). is_eq (int_cmp k z) || has (rule ∷ rules) k) same))
    by_order more Greater e =
        has-cons rule (put rules letter image) k
        ∙ (ap (λ (t : Bool). is_eq (int_cmp k rule.0) || t) more
        ∙ (swapped (is_eq (int_cmp k rule.0)) (is_eq (int_cmp k letter)) (has rules k)
        ∙ ap (λ (t : Bool). is_eq (int_cmp k letter) || t) (sym (has-cons rule rules k))))

has-push : (rules : Rules) (rule : ℤ × List ℤ) (k : ℤ) → has (rules ++ rule ∷ []) k ≡ (is_eq (int_cmp k rule.0) || has rules k)
has-push [] rule k = has-cons rule [] k
has-push (r ∷ rules) rule k =
    has-cons r (rules ++ rule ∷ []) k
    ∙ (ap (λ (t : Bool). is_eq (int_cmp k r.0) || t) (has-push rules rule k)
    ∙ (swapped (is_eq (int_cmp k r.0)) (is_eq (int_cmp k rule.0)) (has rules k)
    ∙ ap (λ (t : Bool). is_eq (int_cmp k rule.0) || t) (sym (has-cons r rules k))))

has_map : (rules : RuleList) (k : ℤ) → has (map_of rules) k ≡ has (rules_of rules) k
has_map (first rule) k = refl
has_map (next rules divider rule) k =
    has-put (map_of rules) rule.letter (letters_of rule.image) k
    ∙ (ap (λ (t : Bool). is_eq (int_cmp k rule.letter) || t) (has_map rules k)
    ∙ sym (has-push (rules_of rules) (rule.letter, letters_of rule.image) k))

once_of_map : (rules : RuleList) → MapOnce rules → IsOnce rules
once_of_map (first rule) h = tt
once_of_map (next rules divider rule) h = (once_of_map rules h.0, sym (has_map rules rule.letter) ∙ h.1)

map_once : (rules : RuleList) → IsOnce rules → MapOnce rules
map_once (first rule) h = tt
map_once (next rules divider rule) h = (map_once rules h.0, has_map rules rule.letter ∙ h.1)

-- a rule at its place leaves the others
put_permutes : (rules : Rules) (letter : ℤ) (image : List ℤ) → has rules letter ≡ false → IsPermutation ((letter, image) ∷ rules) (put rules letter image)
put_permutes [] letter image free = IsPermutation-refl ((letter, image) ∷ [])
put_permutes (rule ∷ rules) letter image free = by_order (put_permutes rules letter image (absent rule rules letter free).1) (int_cmp letter rule.0) refl
  where
    by_order : IsPermutation ((letter, image) ∷ rules) (put rules letter image) → (o : Ordering) → int_cmp letter rule.0 ≡ o →
        IsPermutation ((letter, image) ∷ rule ∷ rules) (match_ordering o ((letter, image) ∷ rule ∷ rules) ((rule.0, image) ∷ rules) (rule ∷ put rules letter image))
    by_order more Less e = IsPermutation-refl ((letter, image) ∷ rule ∷ rules)
    by_order more Equal e = let same : true ≡ false = sym (ap is_eq e) ∙ (absent rule rules letter free).0 in absurd cc
    by_order more Greater e =
        IsPermutation-trans ((letter, image) ∷ rule ∷ rules) (rule ∷ (letter, image) ∷ rules) (rule ∷ put rules letter image)
        (IsPermutation-middle ((letter, image) ∷ []) rule rules)
        (IsPermutation-cons rule ((letter, image) ∷ rules) (put rules letter image) more)

map_permutes : (rules : RuleList) → MapOnce rules → IsPermutation (rules_of rules) (map_of rules)
map_permutes (first rule) h = IsPermutation-refl ((rule.letter, letters_of rule.image) ∷ [])
map_permutes (next rules divider rule) h =
    IsPermutation-push_more (rules_of rules) (map_of rules) (put (map_of rules) rule.letter (letters_of rule.image)) (rule.letter, letters_of rule.image)
    (map_permutes rules h.0) (put_permutes (map_of rules) rule.letter (letters_of rule.image) h.1)

pub sorted_none : IsStrictlySortedBy int_cmp []
unfolding IsStrictlySortedBy
sorted_none = tt

pub map_ascends : (rules : RuleList) → IsStrictlySortedBy int_cmp (keys_of (map_of rules))
map_ascends (first rule) = sorted-put [] rule.letter (letters_of rule.image) sorted_none
map_ascends (next rules divider rule) = sorted-put (map_of rules) rule.letter (letters_of rule.image) (map_ascends rules)

-- rules in ascending order that are among each other are the same
contains_cases : (x : ℤ × List ℤ) (xs : Rules) (y : ℤ × List ℤ) → Contains (x ∷ xs) y → (x ≡ y) ⊎ Contains xs y
contains_cases x xs y h = by_place h.0 h.1 h.2
  where
    by_place : (k : ℕ) → k < length (x ∷ xs) → slice_index_or (x ∷ xs) k y ≡ y → (x ≡ y) ⊎ Contains xs y
    by_place zero l e = inl e
    by_place (suc k) l e = inr (k, omega arith, e)

all_contained : (P : ℤ → Type 0) (xs : Rules) (y : ℤ × List ℤ) → AllByRecursion P (keys_of xs) → Contains xs y → P y.0
all_contained P [] y all h = let l = h.1 in absurd (omega arith)
all_contained P (x ∷ xs) y all h = elim (contains_cases x xs y h) [ inl e ↦ subst (λ (r : ℤ × List ℤ). P r.0) e all.0 | inr g ↦ all_contained P xs y all.1 g ]

-- a rule among some is the first, or after it
first_or_after : (x : ℤ × List ℤ) (xs : Rules) (y : ℤ × List ℤ) → AllByRecursion (λ z. int_cmp x.0 z ≡ Less) (keys_of xs) → Contains (x ∷ xs) y → (x ≡ y) ⊎ (int_cmp x.0 y.0 ≡ Less)
first_or_after x xs y all h = elim (contains_cases x xs y h) [ inl e ↦ inl e | inr g ↦ inr (all_contained (λ z. int_cmp x.0 z ≡ Less) xs y all g) ]

not_both : (x y : ℤ) → int_cmp x y ≡ Less → int_cmp y x ≡ Less → ⊥
not_both x y h k = let e : Less ≡ Greater = sym h ∙ (int_cmp_total.antisymm x y ∙ ap ordering_reverse k) in cc

not_itself : (x : ℤ) → int_cmp x x ≡ Less → ⊥
not_itself x h = not_both x x h h

same_first : (x y : ℤ × List ℤ) → (y ≡ x) ⊎ (int_cmp y.0 x.0 ≡ Less) → (x ≡ y) ⊎ (int_cmp x.0 y.0 ≡ Less) → x ≡ y
same_first x y (inl e) k = sym e
same_first x y (inr h) (inl e) = e
same_first x y (inr h) (inr k) = absurd (not_both x.0 y.0 k h)

contains_first : (x : ℤ × List ℤ) (xs : Rules) → Contains (x ∷ xs) x
contains_first x xs = (0, omega arith, refl)

contains_after : (x : ℤ × List ℤ) (xs : Rules) (y : ℤ × List ℤ) → Contains xs y → Contains (x ∷ xs) y
contains_after x xs y h = let l = h.1 in (suc h.0, omega arith, h.2)

others_too : (x y : ℤ × List ℤ) (xs ys : Rules) → x ≡ y → AllByRecursion (λ z. int_cmp x.0 z ≡ Less) (keys_of xs) → ((r : ℤ × List ℤ) → Contains (x ∷ xs) r → Contains (y ∷ ys) r) → (r : ℤ × List ℤ) → Contains xs r → Contains ys r
others_too x y xs ys same all h r c = elim (contains_cases y ys r (h r (contains_after x xs r c))) [
  | inl e ↦ absurd (not_itself x.0 (subst (λ (z : ℤ × List ℤ). int_cmp x.0 z.0 ≡ Less) (sym (same ∙ e)) (all_contained (λ z. int_cmp x.0 z ≡ Less) xs r all c)))
  | inr g ↦ g
]

same_rules : (xs ys : Rules) → IsStrictlySortedBy int_cmp (keys_of xs) → IsStrictlySortedBy int_cmp (keys_of ys) → ((r : ℤ × List ℤ) → Contains xs r → Contains ys r) → ((r : ℤ × List ℤ) → Contains ys r → Contains xs r) → xs ≡ ys
unfolding IsStrictlySortedBy
same_rules [] [] sx sy h k = refl
same_rules [] (y ∷ ys) sx sy h k = let c = k y (contains_first y ys) in let l = c.1 in absurd (omega arith)
same_rules (x ∷ xs) [] sx sy h k = let c = h x (contains_first x xs) in let l = c.1 in absurd (omega arith)
same_rules (x ∷ xs) (y ∷ ys) sx sy h k =
    let same : x ≡ y = same_first x y (first_or_after y ys x sy.0 (h x (contains_first x xs))) (first_or_after x xs y sx.0 (k y (contains_first y ys))) in
    ap (λ (r : ℤ × List ℤ). r ∷ xs) same
    ∙ ap (λ (l : Rules). y ∷ l) (same_rules xs ys sx.1 sy.1 (others_too x y xs ys same sx.0 h) (others_too y x ys xs (sym same) sy.0 k))

pub derived_map : (ts : List Lexeme) (rules : Rules) → DerivesMap ts rules → Derives ts rules
derived_map ts rules h =
    let P : Rules → Type 0 = λ m. IsPermutation (rules_of h.text.rules) m in
    let Q : Rules → Type 0 = λ m. IsStrictlySortedBy int_cmp (keys_of m) in
    record {
      text = h.text;
      derives = h.derives;
      once = once_of_map h.text.rules h.once;
      same = subst P h.rules_are (map_permutes h.text.rules h.once);
      ascending = subst Q h.rules_are (map_ascends h.text.rules);
    }

pub map_derived : (ts : List Lexeme) (rules : Rules) → Derives ts rules → DerivesMap ts rules
map_derived ts rules h =
    let list = h.text.rules in
    let once = map_once list h.once in
    let moved = map_permutes list once in
    record {
      text = h.text;
      derives = h.derives;
      once = once;
      rules_are =
          same_rules (map_of list) rules (map_ascends list) h.ascending
          (λ r c. Contains-permutation (rules_of list) rules r h.same (Contains-permutation (map_of list) (rules_of list) r (IsPermutation-sym (rules_of list) (map_of list) moved) c))
          (λ r c. Contains-permutation (rules_of list) (map_of list) r moved (Contains-permutation rules (rules_of list) r (IsPermutation-sym (rules_of list) rules h.same) c));
    }

pub order_is_free : OrderIsFree
order_is_free ts us rules others h k moved =
    let first = rules_of h.text.rules in
    let second = rules_of k.text.rules in
    same_rules rules others h.ascending k.ascending
    (λ r c. Contains-permutation second others r k.same (Contains-permutation first second r moved (Contains-permutation rules first r (IsPermutation-sym first rules h.same) c)))
    (λ r c. Contains-permutation first rules r h.same (Contains-permutation second first r (IsPermutation-sym first second moved) (Contains-permutation others second r (IsPermutation-sym second others k.same) c)))

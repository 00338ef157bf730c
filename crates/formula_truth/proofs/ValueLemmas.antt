-- The value of a term depends on the numbers of its variables alone.
use Rattle.std.proofs.Common.{◌≡◌, ℕ, Bool, true, false, ◌||◌, IsTrue, List, Option, Some, refl, sym, ◌∙◌, ap}
use Rattle.std.specs.Option.{option_and_then}
use Rattle.std.proofs.lemmas.Slice.Eq.{bytes_eq-Decides}
use Rattle.formula_parse.specs.Tokens.{Name}
use Rattle.formula_parse.specs.Trees.{Term, variable, numeral, product, sum, Factors, no_factors, factors, times, divided, Terms, no_terms, terms, Addends, no_addends, addends}
use Rattle.formula_truth.specs.Assignments.{Assignment}
use Rattle.formula_truth.specs.Values.{both, by_sign, multiplied, quotient, value, product_value, sum_value, and_value, values}
use Rattle.formula_truth.specs.FreeVariables.{occurs_in, occurs_multiplied, occurs_before, occurs_among}

pub or_left : (p q : Bool) → IsTrue p → IsTrue (p || q)
or_left true q is = refl
or_left false q is = ap (λ p. p || q) is

pub or_right : (p q : Bool) → IsTrue q → IsTrue (p || q)
or_right true q is = refl
or_right false q is = is

-- the assignments give the same numbers to the variables of which a test is true
abbrev pub Agree : (Name → Bool) → Assignment → Assignment → Type 0
Agree test a b = (n : Name) → IsTrue (test n) → a n ≡ b n

pub agree_left : (p q : Name → Bool) (a b : Assignment) → Agree (λ n. p n || q n) a b → Agree p a b
agree_left p q a b agree n is = agree n (or_left (p n) (q n) is)

pub agree_right : (p q : Name → Bool) (a b : Assignment) → Agree (λ n. p n || q n) a b → Agree q a b
agree_right p q a b agree n is = agree n (or_right (p n) (q n) is)

pub agree_back : (p : Name → Bool) (a b : Assignment) → Agree p a b → Agree p b a
agree_back p a b agree n is = sym (agree n is)

both_same : (f : ℕ → ℕ → Option ℕ) (x y u v : Option ℕ) → x ≡ y → u ≡ v → both f x u ≡ both f y v
both_same f x y u v left right = ap (λ z. both f z u) left ∙ ap (λ z. both f y z) right

and_same : (x y : Option (List ℕ)) (u v : Option ℕ) → x ≡ y → u ≡ v → and_value x u ≡ and_value y v
and_same x y u v left right = ap (λ z. and_value z u) left ∙ ap (λ z. and_value y z) right

mutual
  pub value_agrees : (t : Term) (a b : Assignment) → Agree (λ n. occurs_in n t) a b → value t a ≡ value t b
  value_agrees (variable n) a b agree = ap Some (agree n ((bytes_eq-Decides n n).1 refl))
  value_agrees (numeral c) a b agree = refl
  value_agrees (product fs) a b agree = product_agrees fs a b agree
  value_agrees (sum ss t) a b agree =
      sum_agrees ss a b (value t a) (value t b)
      (agree_left (λ n. occurs_before n ss) (λ n. occurs_in n t) a b agree)
      (value_agrees t a b (agree_right (λ n. occurs_before n ss) (λ n. occurs_in n t) a b agree))

  product_agrees : (fs : Factors) (a b : Assignment) → Agree (λ n. occurs_multiplied n fs) a b → product_value fs a ≡ product_value fs b
  product_agrees no_factors a b agree = refl
  product_agrees (factors fs (times t)) a b agree =
      both_same multiplied (product_value fs a) (product_value fs b) (value t a) (value t b)
      (product_agrees fs a b (agree_left (λ n. occurs_multiplied n fs) (λ n. occurs_in n t) a b agree))
      (value_agrees t a b (agree_right (λ n. occurs_multiplied n fs) (λ n. occurs_in n t) a b agree))
  product_agrees (factors fs (divided c)) a b agree = ap (option_and_then (quotient c)) (product_agrees fs a b agree)

  sum_agrees : (ss : Addends) (a b : Assignment) (x y : Option ℕ) → Agree (λ n. occurs_before n ss) a b → x ≡ y → sum_value ss a x ≡ sum_value ss b y
  sum_agrees no_addends a b x y agree same = same
  sum_agrees (addends ss t s) a b x y agree same =
      both_same (by_sign s) (sum_value ss a (value t a)) (sum_value ss b (value t b)) x y
      (sum_agrees ss a b (value t a) (value t b)
      (agree_left (λ n. occurs_before n ss) (λ n. occurs_in n t) a b agree)
      (value_agrees t a b (agree_right (λ n. occurs_before n ss) (λ n. occurs_in n t) a b agree)))
      same

pub values_agree : (ts : Terms) (a b : Assignment) → Agree (λ n. occurs_among n ts) a b → values ts a ≡ values ts b
values_agree no_terms a b agree = refl
values_agree (terms ts t) a b agree =
    and_same (values ts a) (values ts b) (value t a) (value t b)
    (values_agree ts a b (agree_left (λ n. occurs_among n ts) (λ n. occurs_in n t) a b agree))
    (value_agrees t a b (agree_right (λ n. occurs_among n ts) (λ n. occurs_in n t) a b agree))

-- A list of one is its item, and a longer one is kept.
use Rattle.std.proofs.Common.{◌≡◌, refl, sym, ◌∙◌, ap, ℕ, List, [], ◌∷◌, ◌++◌, length, map}
use Rattle.std.specs.Prelude.{Vec, Box}
use Rattle.std.specs.List.{fold}
use Rattle.std.specs.declared.alloc.Global.{Global}
use Rattle.formula_parse.specs.Tokens.{Name}
use Rattle.formula_parse.specs.Trees as trees
use Rattle.formula_parse.specs.Building.{multiplied, summed, chained, under_marks}
use Rattle.formula_parse.specs.Views.{term_view, factor_view, factors_view, addend_view, addends_view, with_addend, formula_view, operand_view, operands_view, with_operand, names_view}
use Rattle.formula_parse.specs.declared.tree.Term.{Term}
use Rattle.formula_parse.specs.declared.tree.Term.TheVariants as term
use Rattle.formula_parse.specs.declared.tree.Factor.{Factor}
use Rattle.formula_parse.specs.declared.tree.Factor.TheVariants as factor
use Rattle.formula_parse.specs.declared.tree.Addend.{Addend}
use Rattle.formula_parse.specs.declared.tree.Formula.{Formula}
use Rattle.formula_parse.specs.declared.tree.Formula.TheVariants as formula
use Rattle.formula_parse.specs.declared.tree.Operand.{Operand}
use Rattle.formula_parse.proofs.ViewSteps.{view_product, view_times, view_divided, view_sum, view_chain, view_marked}

-- the prefix of a list with an item more at its end, and that item
record Snoc {X : Type 0} (xs : List X) : Type 0 where
  prefix : List X
  last : X
  is : xs ≡ prefix ++ last ∷ []

snoc : {X : Type 0} (x : X) (xs : List X) → Snoc (x ∷ xs)
snoc x [] = record { prefix = []; last = x; is = refl }
snoc x (y ∷ ys) =
    let s = snoc y ys in
    record { prefix = x ∷ s.prefix; last = s.last; is = ap (λ zs. x ∷ zs) s.is }

fold_snoc : {X Y : Type 0} (f : Y → X → Y) (a : Y) (xs : List X) (x : X) → fold f a (xs ++ x ∷ []) ≡ f (fold f a xs) x
fold_snoc f a [] x = refl
fold_snoc f a (y ∷ ys) x = fold_snoc f (f a y) ys x

map_snoc : {X Y : Type 0} (f : X → Y) (xs : List X) (x : X) → map f (xs ++ x ∷ []) ≡ map f xs ++ f x ∷ []
map_snoc f [] x = refl
map_snoc f (y ∷ ys) x = ap (λ zs. f y ∷ zs) (map_snoc f ys x)

pub factors_snoc : (ps : List Factor) (p : Factor) → factors_view (ps ++ p ∷ []) ≡ trees.factors (factors_view ps) (factor_view p)
factors_snoc ps p = ap (fold trees.factors trees.no_factors) (map_snoc factor_view ps p) ∙ fold_snoc trees.factors trees.no_factors (map factor_view ps) (factor_view p)

pub factors_more : (all : List Factor) (ps : List Factor) (f : Factor) → all ≡ ps ++ f ∷ [] → factors_view all ≡ trees.factors (factors_view ps) (factor_view f)
factors_more all ps f e = ap factors_view e ∙ factors_snoc ps f

addends_snoc : (ss : List Addend) (a : Addend) → addends_view (ss ++ a ∷ []) ≡ with_addend (addends_view ss) (addend_view a)
addends_snoc ss a = ap (fold with_addend trees.no_addends) (map_snoc addend_view ss a) ∙ fold_snoc with_addend trees.no_addends (map addend_view ss) (addend_view a)

operands_snoc : (os : List Operand) (o : Operand) → operands_view (os ++ o ∷ []) ≡ with_operand (operands_view os) (operand_view o)
operands_snoc os o = ap (fold with_operand trees.no_operands) (map_snoc operand_view os o) ∙ fold_snoc with_operand trees.no_operands (map operand_view os) (operand_view o)

names_snoc : (ns : List Name) (n : Name) → names_view (ns ++ n ∷ []) ≡ trees.names (names_view ns) n
names_snoc ns n = fold_snoc trees.names trees.no_names ns n

pub multiplied_none : (ps : List Factor) (t : trees.Term) → length ps ≡ 0 → t ≡ multiplied (trees.factors (factors_view ps) (trees.times t))
multiplied_none [] t e = refl
multiplied_none (x ∷ xs) t e = absurd cc

pub multiplied_more : (all : Vec Factor Global) (ps : List Factor) (t : Term) → (length ps ≡ 0 → ⊥) → all.items ≡ ps ++ factor.Times t ∷ [] → term_view (term.Product all) ≡ multiplied (trees.factors (factors_view ps) (trees.times (term_view t)))
multiplied_more all [] t h e = absurd (h refl)
multiplied_more all (x ∷ xs) t h e =
    let s = snoc x xs in
    let prefix = ap factors_view s.is ∙ factors_snoc s.prefix s.last in
    let last = trees.times (term_view t) in
    view_product all
    ∙ (ap (λ z. trees.product (factors_view z)) e
    ∙ (ap trees.product (factors_snoc (x ∷ xs) (factor.Times t))
    ∙ (ap (λ z. trees.product (trees.factors (factors_view (x ∷ xs)) z)) (view_times t)
    ∙ (ap (λ z. trees.product (trees.factors z last)) prefix ∙ ap (λ z. multiplied (trees.factors z last)) (sym prefix)))))

-- a divisor stays one, also alone
pub multiplied_divided : (all : Vec Factor Global) (ps : List Factor) (c : ℕ) → all.items ≡ ps ++ factor.Divided c ∷ [] → term_view (term.Product all) ≡ multiplied (trees.factors (factors_view ps) (trees.divided c))
multiplied_divided all ps c e =
    view_product all
    ∙ (ap (λ z. trees.product (factors_view z)) e
    ∙ (ap trees.product (factors_snoc ps (factor.Divided c))
    ∙ (ap (λ z. trees.product (trees.factors (factors_view ps) z)) (view_divided c) ∙ kept (factors_view ps))))
  where
    kept : (fs : trees.Factors) → trees.product (trees.factors fs (trees.divided c)) ≡ multiplied (trees.factors fs (trees.divided c))
    kept trees.no_factors = refl
    kept (trees.factors fs f) = refl

pub summed_none : (ss : List Addend) (t : trees.Term) → length ss ≡ 0 → t ≡ summed (addends_view ss) t
summed_none [] t e = refl
summed_none (x ∷ xs) t e = absurd cc

pub summed_more : (all : Vec Addend Global) (b : Box Term Global) → (length all.items ≡ 0 → ⊥) → term_view (term.Sum all b) ≡ summed (addends_view all.items) (term_view b.value)
summed_more all b h = view_sum all b ∙ summed_list all.items (term_view b.value) h
  where
    summed_list : (ss : List Addend) (t : trees.Term) → (length ss ≡ 0 → ⊥) → trees.sum (addends_view ss) t ≡ summed (addends_view ss) t
    summed_list [] t h = absurd (h refl)
    summed_list (x ∷ xs) t h =
        let s = snoc x xs in
        let prefix = ap addends_view s.is ∙ addends_snoc s.prefix s.last in
        ap (λ z. trees.sum z t) prefix ∙ ap (λ z. summed z t) (sym prefix)

pub chained_none : (os : List Operand) (f : trees.Formula) → length os ≡ 0 → f ≡ chained (operands_view os) f
chained_none [] f e = refl
chained_none (x ∷ xs) f e = absurd cc

pub chained_more : (all : Vec Operand Global) (b : Box Formula Global) → (length all.items ≡ 0 → ⊥) → formula_view (formula.Chain all b) ≡ chained (operands_view all.items) (formula_view b.value)
chained_more all b h = view_chain all b ∙ chained_list all.items (formula_view b.value) h
  where
    chained_list : (os : List Operand) (f : trees.Formula) → (length os ≡ 0 → ⊥) → trees.chain (operands_view os) f ≡ chained (operands_view os) f
    chained_list [] f h = absurd (h refl)
    chained_list (x ∷ xs) f h =
        let s = snoc x xs in
        let prefix = ap operands_view s.is ∙ operands_snoc s.prefix s.last in
        ap (λ z. trees.chain z f) prefix ∙ ap (λ z. chained z f) (sym prefix)

pub marks_none : (ms : List Name) (f : trees.Formula) → length ms ≡ 0 → f ≡ under_marks (names_view ms) f
marks_none [] f e = refl
marks_none (x ∷ xs) f e = absurd cc

pub marks_more : (all : Vec Name Global) (b : Box Formula Global) → (length all.items ≡ 0 → ⊥) → formula_view (formula.Marked all b) ≡ under_marks (names_view all.items) (formula_view b.value)
marks_more all b h = view_marked all b ∙ marks_list all.items (formula_view b.value) h
  where
    marks_list : (ms : List Name) (f : trees.Formula) → (length ms ≡ 0 → ⊥) → trees.marked (names_view ms) f ≡ under_marks (names_view ms) f
    marks_list [] f h = absurd (h refl)
    marks_list (x ∷ xs) f h =
        let s = snoc x xs in
        let prefix = ap names_view s.is ∙ names_snoc s.prefix s.last in
        ap (λ z. trees.marked z f) prefix ∙ ap (λ z. under_marks z f) (sym prefix)

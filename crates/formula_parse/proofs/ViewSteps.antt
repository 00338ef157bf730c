-- What each variant is seen as.
use Rattle.std.proofs.Common.{◌≡◌, refl, sym, ◌∙◌, ap, ℕ, List, [], ◌∷◌, map}
use Rattle.std.specs.Prelude.{Vec, Box}
use Rattle.std.specs.List.{fold}
use Rattle.std.specs.declared.alloc.Global.{Global}
use Rattle.formula_parse.specs.Tokens.{Name}
use Rattle.formula_parse.specs.Trees as trees
use Rattle.formula_parse.specs.Views.{Signed, term_step, factor_step, addend_step, term_view, factor_view, factors_view, addend_view, addends_view, with_addend, Joined, formula_step, operand_step, formula_view, operand_view, operands_view, with_operand, names_view, quantifier_view, atom_view}
use Rattle.formula_parse.specs.declared.tree.Term.{Term}
use Rattle.formula_parse.specs.declared.tree.Term.TheVariants as term
use Rattle.formula_parse.specs.declared.tree.Factor.TheOpen as open_term
use Rattle.formula_parse.specs.declared.tree.Factor.TheFolds.{fold-Term, fold-roll-Term, fold-Factor, fold-roll-Factor, fold-Addend, fold_out-Addend}
use Rattle.formula_parse.specs.declared.tree.Factor.{Factor}
use Rattle.formula_parse.specs.declared.tree.Factor.TheVariants as factor
use Rattle.formula_parse.specs.declared.tree.Addend.{Addend}
use Rattle.formula_parse.specs.declared.tree.Formula.{Formula}
use Rattle.formula_parse.specs.declared.tree.Formula.TheVariants as formula
use Rattle.formula_parse.specs.declared.tree.Formula.TheOpen as open_formula
use Rattle.formula_parse.specs.declared.tree.Formula.TheFolds.{fold-Formula, fold-roll-Formula, fold-Operand, fold_out-Operand}
use Rattle.formula_parse.specs.declared.tree.Operand.{Operand}
use Rattle.formula_parse.specs.declared.tree.Atom.{Atom}
use Rattle.formula_parse.specs.declared.tree.Quantifier.{Quantifier}

map_same : {X Y : Type 0} (f g : X → Y) → ((x : X) → f x ≡ g x) → (xs : List X) → map f xs ≡ map g xs
map_same f g h [] = refl
map_same {X} {Y} f g h (x ∷ xs) = ap (λ (y : Y). y ∷ map f xs) (h x) ∙ ap (λ ys. g x ∷ ys) (map_same f g h xs)

pub view_variable : (n : Name) → term_view (term.Variable n) ≡ trees.variable n
unfolding term_view
view_variable n = ap (fold-Term trees.Factor trees.Term Signed factor_step term_step addend_step) (sym (term.rolls-Variable n)) ∙ fold-roll-Term trees.Factor trees.Term Signed factor_step term_step addend_step (open_term.Variable n)

pub view_numeral : (n : ℕ) → term_view (term.Numeral n) ≡ trees.numeral n
unfolding term_view
view_numeral n = ap (fold-Term trees.Factor trees.Term Signed factor_step term_step addend_step) (sym (term.rolls-Numeral n)) ∙ fold-roll-Term trees.Factor trees.Term Signed factor_step term_step addend_step (open_term.Numeral n)

pub view_product : (ps : Vec Factor Global) → term_view (term.Product ps) ≡ trees.product (factors_view ps.items)
unfolding term_view factor_view
view_product ps =
    ap (fold-Term trees.Factor trees.Term Signed factor_step term_step addend_step) (sym (term.rolls-Product ps))
    ∙ fold-roll-Term trees.Factor trees.Term Signed factor_step term_step addend_step (open_term.Product ps)

pub view_times : (t : Term) → factor_view (factor.Times t) ≡ trees.times (term_view t)
unfolding term_view factor_view
view_times t =
    ap (fold-Factor trees.Factor trees.Term Signed factor_step term_step addend_step) (sym (factor.rolls-Times t))
    ∙ fold-roll-Factor trees.Factor trees.Term Signed factor_step term_step addend_step (open_term.Times t)

pub view_divided : (n : ℕ) → factor_view (factor.Divided n) ≡ trees.divided n
unfolding factor_view
view_divided n =
    ap (fold-Factor trees.Factor trees.Term Signed factor_step term_step addend_step) (sym (factor.rolls-Divided n))
    ∙ fold-roll-Factor trees.Factor trees.Term Signed factor_step term_step addend_step (open_term.Divided n)

fold_addend : (a : Addend) → fold-Addend trees.Factor trees.Term Signed factor_step term_step addend_step a ≡ addend_view a
unfolding term_view
fold_addend a = fold_out-Addend trees.Factor trees.Term Signed factor_step term_step addend_step a

pub view_sum : (ss : Vec Addend Global) (t : Box Term Global) → term_view (term.Sum ss t) ≡ trees.sum (addends_view ss.items) (term_view t.value)
unfolding term_view
view_sum ss t =
    ap (fold-Term trees.Factor trees.Term Signed factor_step term_step addend_step) (sym (term.rolls-Sum ss t))
    ∙ (fold-roll-Term trees.Factor trees.Term Signed factor_step term_step addend_step (open_term.Sum ss t)
    ∙ ap (λ xs. trees.sum (fold with_addend trees.no_addends xs) (term_view t.value)) (map_same _ _ fold_addend ss.items))

pub view_atom : (a : Atom) → formula_view (formula.Atom a) ≡ trees.atom (atom_view a)
unfolding formula_view
view_atom a = ap (fold-Formula trees.Formula Joined formula_step operand_step) (sym (formula.rolls-Atom a)) ∙ fold-roll-Formula trees.Formula Joined formula_step operand_step (open_formula.Atom a)

pub view_negated : (f : Box Formula Global) → formula_view (formula.Negated f) ≡ trees.negated (formula_view f.value)
unfolding formula_view
view_negated f = ap (fold-Formula trees.Formula Joined formula_step operand_step) (sym (formula.rolls-Negated f)) ∙ fold-roll-Formula trees.Formula Joined formula_step operand_step (open_formula.Negated f)

pub view_quantified : (q : Quantifier) (ns : Vec Name Global) (f : Box Formula Global) → formula_view (formula.Quantified q ns f) ≡ trees.quantified (quantifier_view q) (names_view ns.items) (formula_view f.value)
unfolding formula_view
view_quantified q ns f = ap (fold-Formula trees.Formula Joined formula_step operand_step) (sym (formula.rolls-Quantified q ns f)) ∙ fold-roll-Formula trees.Formula Joined formula_step operand_step (open_formula.Quantified q ns f)

pub view_marked : (ms : Vec Name Global) (f : Box Formula Global) → formula_view (formula.Marked ms f) ≡ trees.marked (names_view ms.items) (formula_view f.value)
unfolding formula_view
view_marked ms f = ap (fold-Formula trees.Formula Joined formula_step operand_step) (sym (formula.rolls-Marked ms f)) ∙ fold-roll-Formula trees.Formula Joined formula_step operand_step (open_formula.Marked ms f)

fold_operand : (o : Operand) → fold-Operand trees.Formula Joined formula_step operand_step o ≡ operand_view o
unfolding formula_view
fold_operand o = fold_out-Operand trees.Formula Joined formula_step operand_step o

pub view_chain : (os : Vec Operand Global) (f : Box Formula Global) → formula_view (formula.Chain os f) ≡ trees.chain (operands_view os.items) (formula_view f.value)
unfolding formula_view
view_chain os f =
    ap (fold-Formula trees.Formula Joined formula_step operand_step) (sym (formula.rolls-Chain os f))
    ∙ (fold-roll-Formula trees.Formula Joined formula_step operand_step (open_formula.Chain os f)
    ∙ ap (λ xs. trees.chain (fold with_operand trees.no_operands xs) (formula_view f.value)) (map_same _ _ fold_operand os.items))

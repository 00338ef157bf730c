-- Items of trees, one more at a time, and numbers given one more at a time.
use Rattle.std.proofs.Common.{◌≡◌, ℕ, ◌+◌, ◌<◌, List, [], ◌∷◌, ◌++◌, map, length, take, get_or, fold, sym, ◌∙◌, ap}
use Rattle.std.proofs.lemmas.List.{take_more, map-append, append-nil, append_assoc}
use Rattle.std.proofs.lemmas.List.Sums.{fold-append}
use Rattle.formula_parse.specs.Tokens.{Name}
use Rattle.formula_parse.specs.Trees as trees
use Rattle.formula_parse.specs.Views.{factor_view, factors_view, addend_view, addends_view, with_addend, operand_view, operands_view, with_operand, names_view}
use Rattle.formula_parse.specs.declared.tree.Factor.{Factor}
use Rattle.formula_parse.specs.declared.tree.Addend.{Addend}
use Rattle.formula_parse.specs.declared.tree.Operand.{Operand}
use Rattle.formula_truth.specs.Bounded.{list_of}

pub factors_more : (ps : List Factor) (i : ℕ) (d : Factor) → i < length ps → factors_view (take (i + 1) ps) ≡ trees.factors (factors_view (take i ps)) (factor_view (get_or ps i d))
factors_more ps i d within =
    ap factors_view (take_more ps i d within)
    ∙ ap (fold trees.factors trees.no_factors) (map-append factor_view (take i ps) (get_or ps i d ∷ []))
    ∙ fold-append trees.factors trees.no_factors (map factor_view (take i ps)) (factor_view (get_or ps i d) ∷ [])

pub addends_more : (ss : List Addend) (i : ℕ) (d : Addend) → i < length ss → addends_view (take (i + 1) ss) ≡ with_addend (addends_view (take i ss)) (addend_view (get_or ss i d))
addends_more ss i d within =
    ap addends_view (take_more ss i d within)
    ∙ ap (fold with_addend trees.no_addends) (map-append addend_view (take i ss) (get_or ss i d ∷ []))
    ∙ fold-append with_addend trees.no_addends (map addend_view (take i ss)) (addend_view (get_or ss i d) ∷ [])

pub operands_more : (os : List Operand) (i : ℕ) (d : Operand) → i < length os → operands_view (take (i + 1) os) ≡ with_operand (operands_view (take i os)) (operand_view (get_or os i d))
operands_more os i d within =
    ap operands_view (take_more os i d within)
    ∙ ap (fold with_operand trees.no_operands) (map-append operand_view (take i os) (get_or os i d ∷ []))
    ∙ fold-append with_operand trees.no_operands (map operand_view (take i os)) (operand_view (get_or os i d) ∷ [])

-- names as a list, back from the names of a tree
names_after : (ms : trees.Names) (ns : List Name) → list_of (fold trees.names ms ns) ≡ list_of ms ++ ns
names_after ms [] = sym (append-nil (list_of ms))
names_after ms (n ∷ ns) = names_after (trees.names ms n) ns ∙ append_assoc (list_of ms) (n ∷ []) ns

pub names_back : (ns : List Name) → list_of (names_view ns) ≡ ns
names_back ns = names_after trees.no_names ns

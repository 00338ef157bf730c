-- Formulas decided part by part.
use Rattle.std.proofs.Common.{◌≡◌, ◌↔◌, ℕ, ◌+◌, ◌<◌, ◌≤◌, Bool, true, false, not, IsTrue, List, ◌∷◌, length, take, get_or, Option, Some, Result, IfOk, refl, sym, ◌∙◌, ap, subst}
use Rattle.std.specs.Bool.{beq}
use Rattle.std.proofs.lemmas.List.{take_all}
use Rattle.std.proofs.lemmas.Bool.{false≢true}
use Rattle.formula_parse.specs.Tokens.{Name, Quantifier}
use Rattle.formula_parse.specs.Trees as trees
use Rattle.formula_parse.specs.Views.{formula_view, operand_view, operands_view, with_operand, connective_view, names_view}
use Rattle.formula_parse.specs.declared.tree.Operand.{Operand}
use Rattle.formula_truth.specs.Assignments.{Assignment, with_value}
use Rattle.formula_truth.specs.Truth.{Joins, Holds, ChainHolds}
use Rattle.formula_truth.specs.Bounded.{nothing, bounded, bounded_among, each_below, AfterChain}
use Rattle.formula_truth.specs.declared.deciding.Prefix.{Prefix}
use Rattle.formula_truth.specs.declared.fault.Undecided.{Undecided}
use Rattle.formula_truth.proofs.ChainLemmas.{none_true, chain_more, chain_end}
use Rattle.formula_truth.proofs.ViewLemmas.{operands_more, names_back}
use Rattle.formula_truth.proofs.TrialLemmas.{wants, found_says}

-- the formula, with its quantifiers bounded, is true
abbrev pub IsSo : ℕ → trees.Formula → Assignment → Type 0
IsSo bound f a = Holds nothing (bounded bound f) a

-- the answer is its truth, where there is one
abbrev pub DecidesTruth : ℕ → trees.Formula → Assignment → Result Bool Undecided → Type 0
DecidesTruth bound f a r = IfOk r (λ is. IsTrue is ↔ IsSo bound f a)

pub decides_seen : (bound : ℕ) (f seen : trees.Formula) (a : Assignment) (r : Result Bool Undecided) → f ≡ seen → DecidesTruth bound seen a r → DecidesTruth bound f a r
decides_seen bound f seen a r same decides_bounded = subst (λ s. DecidesTruth bound s a r) (sym same) decides_bounded

pub negated_is : (bound : ℕ) (f g : trees.Formula) (a : Assignment) (is : Bool) → f ≡ trees.negated g → IsTrue is ↔ IsSo bound g a → IsTrue (not is) ↔ IsSo bound f a
negated_is bound f g a is same says =
    subst (λ s. IsTrue (not is) ↔ IsSo bound s a) (sym same)
    (λ h held. (none_true is).0 h (says.1 held), λ denied. (none_true is).1 (λ h. denied (says.0 h)))

-- one operand more
pub operand_more : (bound : ℕ) (os : List Operand) (i : ℕ) (o : Operand) (a : Assignment) (prefix : Option Prefix) (is after : Bool) → i < length os → o ≡ get_or os i o
    → ((p : Bool) → ChainHolds nothing (bounded_among bound (operands_view (take i os))) a (IsTrue p) ↔ AfterChain prefix (IsTrue p))
    → IsTrue is ↔ IsSo bound (formula_view o.formula) a → IsTrue after ↔ AfterChain prefix (IsTrue is)
    → (p : Bool) → ChainHolds nothing (bounded_among bound (operands_view (take (i + 1) os))) a (IsTrue p) ↔ Joins (connective_view o.connective) (IsTrue after) (IsTrue p)
operand_more bound os i o a prefix is after within at so_far here now p =
    subst (λ s. ChainHolds nothing (bounded_among bound s) a (IsTrue p) ↔ Joins (connective_view o.connective) (IsTrue after) (IsTrue p))
    (sym (operands_more os i o within ∙ ap (λ x. with_operand (operands_view (take i os)) (operand_view x)) (sym at)))
    (chain_more nothing (bounded_among bound (operands_view (take i os))) (bounded bound (formula_view o.formula)) (connective_view o.connective) a prefix is after so_far here now p)

-- the last operand
pub chain_is : (bound : ℕ) (f g : trees.Formula) (os qs : List Operand) (i : ℕ) (a : Assignment) (prefix : Option Prefix) (is after : Bool)
    → f ≡ trees.chain (operands_view os) g → qs ≡ os → length qs ≤ i
    → ((p : Bool) → ChainHolds nothing (bounded_among bound (operands_view (take i qs))) a (IsTrue p) ↔ AfterChain prefix (IsTrue p))
    → IsTrue is ↔ IsSo bound g a → IsTrue after ↔ AfterChain prefix (IsTrue is) → IsTrue after ↔ IsSo bound f a
chain_is bound f g os qs i a prefix is after same items long so_far here now =
    subst (λ s. IsTrue after ↔ IsSo bound s a) (sym same)
    (chain_end nothing (bounded_among bound (operands_view os)) (bounded bound g) a prefix is after
    (subst (λ ps. (p : Bool) → ChainHolds nothing (bounded_among bound (operands_view ps)) a (IsTrue p) ↔ AfterChain prefix (IsTrue p)) (take_all i qs long ∙ items) so_far)
    here now)

-- numbers tried for the variables of a list
pub trial_decides : (bound : ℕ) (f : trees.Formula) (q : Quantifier) (ns ms : List Name) (g h : trees.Formula) (a : Assignment) (r : Result Bool Undecided)
    → f ≡ trees.quantified q (names_view ns) g → ms ≡ ns → h ≡ g → IfOk r (λ is. IsTrue is ↔ Holds nothing (each_below q ms bound (bounded bound h)) a) → DecidesTruth bound f a r
trial_decides bound f q ns ms g h a r same names inside decides_bounded =
    decides_seen bound f (trees.quantified q (names_view ns) g) a r same
    (subst (λ l. IfOk r (λ is. IsTrue is ↔ Holds nothing (each_below q l bound (bounded bound g)) a)) (names ∙ sym (names_back ns))
    (subst (λ s. IfOk r (λ is. IsTrue is ↔ Holds nothing (each_below q ms bound (bounded bound s)) a)) inside decides_bounded))

-- a number that decides
pub found_is : (bound : ℕ) (q : Quantifier) (ms ns : List Name) (n : Name) (f : trees.Formula) (a b : Assignment) (k : ℕ) (is wanted : Bool)
    → ms ≡ n ∷ ns → Some wanted ≡ wants q → k < bound → b ≡ with_value n k a → IsTrue is ↔ Holds nothing (each_below q ns bound f) b → is ≡ wanted
    → IsTrue wanted ↔ Holds nothing (each_below q ms bound f) a
found_is bound q ms ns n f a b k is wanted names kind within given says same =
    subst (λ l. IsTrue wanted ↔ Holds nothing (each_below q l bound f) a) (sym names)
    (found_says q n bound (each_below q ns bound f) a k is wanted within (subst (λ c. IsTrue is ↔ Holds nothing (each_below q ns bound f) c) given says) kind same)

pub same_truths : (is wanted : Bool) → beq is wanted ≡ true → is ≡ wanted
same_truths true true same = refl
same_truths true false same = absurd (false≢true same)
same_truths false true same = absurd (false≢true same)
same_truths false false same = refl

-- The trees that values denote.
use Rattle.std.specs.Prelude.{List, map}
use Rattle.std.specs.List.{fold}
use Rattle.formula_parse.specs.Tokens as tokens
use Rattle.formula_parse.specs.Trees as trees
use Rattle.formula_parse.specs.declared.tree.Relation.{Relation}
use Rattle.formula_parse.specs.declared.tree.Relation.TheVariants as relations
use Rattle.formula_parse.specs.declared.tree.Quantifier.{Quantifier}
use Rattle.formula_parse.specs.declared.tree.Quantifier.TheVariants as quantifiers
use Rattle.formula_parse.specs.declared.tree.Sign.{Sign}
use Rattle.formula_parse.specs.declared.tree.Sign.TheVariants as signs
use Rattle.formula_parse.specs.declared.tree.Connective.{Connective}
use Rattle.formula_parse.specs.declared.tree.Connective.TheVariants as connectives
use Rattle.formula_parse.specs.declared.tree.Term.{Term}
use Rattle.formula_parse.specs.declared.tree.Factor.TheOpen as open_term
use Rattle.formula_parse.specs.declared.tree.Factor.TheFolds.{fold-Term, fold-Factor}
use Rattle.formula_parse.specs.declared.tree.Factor.{Factor}
use Rattle.formula_parse.specs.declared.tree.Addend.{Addend}
use Rattle.formula_parse.specs.declared.tree.Index.{Index}
use Rattle.formula_parse.specs.declared.tree.Fact.{Fact}
use Rattle.formula_parse.specs.declared.tree.Fact.TheVariants as facts
use Rattle.formula_parse.specs.declared.tree.Atom.{Atom}
use Rattle.formula_parse.specs.declared.tree.Formula.{Formula}
use Rattle.formula_parse.specs.declared.tree.Formula.TheOpen as open_formula
use Rattle.formula_parse.specs.declared.tree.Formula.TheFolds.{fold-Formula}
use Rattle.formula_parse.specs.declared.tree.Operand.{Operand}

abbrev pub relation_view : Relation → tokens.Relation
relation_view relations.Equal = tokens.equal
relation_view relations.Unequal = tokens.unequal
relation_view relations.Less = tokens.less
relation_view relations.Greater = tokens.greater
relation_view relations.AtMost = tokens.at_most
relation_view relations.AtLeast = tokens.at_least

abbrev pub quantifier_view : Quantifier → tokens.Quantifier
quantifier_view quantifiers.Exists = tokens.some
quantifier_view quantifiers.ForAll = tokens.every
quantifier_view quantifiers.Infinite = tokens.infinite

abbrev pub sign_view : Sign → tokens.Sign
sign_view signs.Plus = tokens.plus
sign_view signs.Minus = tokens.minus

abbrev pub connective_view : Connective → trees.Joint
connective_view connectives.And = trees.and
connective_view connectives.Or = trees.or
connective_view connectives.Xor = trees.xor
connective_view connectives.Implies = trees.implies
connective_view connectives.Iff = trees.iff

-- names in order
abbrev pub names_view : List tokens.Name → trees.Names
names_view ns = fold trees.names trees.no_names ns

-- an addend, and the sign after it
abbrev pub Signed : Type 0
Signed = trees.Term × tokens.Sign

abbrev pub with_addend : trees.Addends → Signed → trees.Addends
with_addend ss a = trees.addends ss a.0 a.1

abbrev pub term_step : open_term.Term-F trees.Factor trees.Term Signed → trees.Term
term_step (open_term.Variable n) = trees.variable n
term_step (open_term.Numeral n) = trees.numeral n
term_step (open_term.Product all) = trees.product (fold trees.factors trees.no_factors all.items)
term_step (open_term.Sum all last) = trees.sum (fold with_addend trees.no_addends all.items) last.value

abbrev pub factor_step : open_term.Factor-F trees.Factor trees.Term Signed → trees.Factor
factor_step (open_term.Times t) = trees.times t
factor_step (open_term.Divided n) = trees.divided n

abbrev pub addend_step : open_term.Addend-F trees.Factor trees.Term Signed → Signed
addend_step a = (a.term, sign_view a.sign)

unfoldable pub term_view : Term → trees.Term
term_view = fold-Term trees.Factor trees.Term Signed factor_step term_step addend_step

unfoldable pub factor_view : Factor → trees.Factor
factor_view = fold-Factor trees.Factor trees.Term Signed factor_step term_step addend_step

abbrev pub factors_view : List Factor → trees.Factors
factors_view ps = fold trees.factors trees.no_factors (map factor_view ps)

abbrev pub terms_view : List Term → trees.Terms
terms_view ts = fold trees.terms trees.no_terms (map term_view ts)

abbrev pub addend_view : Addend → Signed
addend_view a = (term_view a.term, sign_view a.sign)

abbrev pub addends_view : List Addend → trees.Addends
addends_view ss = fold with_addend trees.no_addends (map addend_view ss)

abbrev pub index_view : Index → trees.Index
index_view x = record { word = x.word; places = terms_view x.places.items }

abbrev pub fact_view : Fact → trees.Fact
fact_view (facts.Compare t r u) = trees.compare (term_view t) (relation_view r) (term_view u)
fact_view (facts.Words x r y) = trees.words (index_view x) (relation_view r) (index_view y)
fact_view (facts.WordLetter x r l) = trees.word_letter (index_view x) (relation_view r) l
fact_view (facts.LetterWord l r x) = trees.letter_word l (relation_view r) (index_view x)
fact_view (facts.Call n ts) = trees.call n (terms_view ts.items)

abbrev pub atom_view : Atom → trees.Atom
atom_view a = record { system = a.system; fact = fact_view a.fact }

-- an operand, and the connective after it
abbrev pub Joined : Type 0
Joined = trees.Formula × trees.Joint

abbrev pub with_operand : trees.Operands → Joined → trees.Operands
with_operand os o = trees.operands os o.0 o.1

abbrev pub formula_step : open_formula.Formula-F trees.Formula Joined → trees.Formula
formula_step (open_formula.Atom a) = trees.atom (atom_view a)
formula_step (open_formula.Negated f) = trees.negated f.value
formula_step (open_formula.Chain all last) = trees.chain (fold with_operand trees.no_operands all.items) last.value
formula_step (open_formula.Quantified q ns f) = trees.quantified (quantifier_view q) (names_view ns.items) f.value
formula_step (open_formula.Marked ms f) = trees.marked (names_view ms.items) f.value

abbrev pub operand_step : open_formula.Operand-F trees.Formula Joined → Joined
operand_step o = (o.formula, connective_view o.connective)

unfoldable pub formula_view : Formula → trees.Formula
formula_view = fold-Formula trees.Formula Joined formula_step operand_step

abbrev pub operand_view : Operand → Joined
operand_view o = (formula_view o.formula, connective_view o.connective)

abbrev pub operands_view : List Operand → trees.Operands
operands_view os = fold with_operand trees.no_operands (map operand_view os)

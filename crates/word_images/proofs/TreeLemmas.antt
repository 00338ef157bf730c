-- The trees that are made of their parts are the formulas that are meant.
use Rattle.std.proofs.Common.{◌≡◌, ℕ, ◌+◌, ◌-◌, ℤ, List, [], ◌∷◌, ◌++◌, ap, ◌∙◌}
use Rattle.std.specs.Prelude.{Vec, Box}
use Rattle.std.specs.declared.alloc.Global.{Global}
use Rattle.formula_parse.specs.Tokens as tokens
use Rattle.formula_parse.specs.Trees as trees
use Rattle.formula_parse.specs.Views.{term_view, factors_view, addends_view, formula_view, operands_view, names_view, terms_view}
use Rattle.formula_parse.specs.declared.tree.Relation.TheVariants as relations
use Rattle.formula_parse.specs.declared.tree.Quantifier.TheVariants as quantifiers
use Rattle.formula_parse.specs.declared.tree.Sign.TheVariants as signs
use Rattle.formula_parse.specs.declared.tree.Connective.TheVariants as connectives
use Rattle.formula_parse.specs.declared.tree.Term.{Term}
use Rattle.formula_parse.specs.declared.tree.Term.TheVariants as term
use Rattle.formula_parse.specs.declared.tree.Factor.{Factor}
use Rattle.formula_parse.specs.declared.tree.Factor.TheVariants as factor
use Rattle.formula_parse.specs.declared.tree.Addend.{Addend}
use Rattle.formula_parse.specs.declared.tree.Fact.TheVariants as facts
use Rattle.formula_parse.specs.declared.tree.Formula.{Formula}
use Rattle.formula_parse.specs.declared.tree.Formula.TheVariants as formula
use Rattle.formula_parse.specs.declared.tree.Operand.{Operand}
use Rattle.formula_parse.proofs.ViewSteps.{view_atom, view_chain, view_numeral, view_product, view_quantified, view_sum, view_times, view_variable}
use Rattle.word_images.specs.ImageFormula.{at_place, has_letter, image_formula, is_place, place_term, place_variable, places_before, whole_variable, word_name}

-- lists that are pushed to
pub pushed_first : {X : Type 0} (none one : List X) (x : X) → none ≡ [] → one ≡ none ++ x ∷ [] → one ≡ x ∷ []
pushed_first none one x empty pushed = pushed ∙ ap (λ xs. xs ++ x ∷ []) empty

pub pushed_second : {X : Type 0} (none one two : List X) (x y : X) → none ≡ [] → one ≡ none ++ x ∷ [] → two ≡ one ++ y ∷ [] → two ≡ x ∷ y ∷ []
pushed_second none one two x y empty first second = second ∙ ap (λ xs. xs ++ y ∷ []) (pushed_first none one x empty first)

-- k*q + r
pub term_made : (ps : Vec Factor Global) (ss : Vec Addend Global) (b : Box Term Global) (q : tokens.Name) (k r : ℕ) → ps.items ≡ factor.Times (term.Numeral k) ∷ factor.Times (term.Variable q) ∷ []
    → ss.items ≡ record { term = term.Product ps; sign = signs.Plus } ∷ [] → b.value ≡ term.Numeral r → q ≡ whole_variable → term_view (term.Sum ss b) ≡ place_term k r
term_made ps ss b q k r factors addends last named =
    view_sum ss b ∙ (λ i. trees.sum (addends_view (addends i)) (term_view (last i))) ∙ (λ i. trees.sum (trees.addends trees.no_addends (product i) tokens.plus) (view_numeral r i))
  where
    product : term_view (term.Product ps) ≡ trees.product (trees.factors (trees.factors trees.no_factors (trees.times (trees.numeral k))) (trees.times (trees.variable whole_variable)))
    product =
        view_product ps ∙ ap (λ xs. trees.product (factors_view xs)) factors
        ∙ (λ i. trees.product (trees.factors (trees.factors trees.no_factors ((view_times (term.Numeral k) ∙ ap trees.times (view_numeral k)) i)) ((view_times (term.Variable q) ∙ ap trees.times (view_variable q ∙ ap trees.variable named)) i)))

-- n = k*q + r
pub place_made : (copied s n : tokens.Name) (t : Term) (k r : ℕ) → copied ≡ s → n ≡ place_variable → term_view t ≡ place_term k r → formula_view (formula.Atom (record { system = copied; fact = facts.Compare (term.Variable n) relations.Equal t })) ≡ is_place s k r
place_made copied s n t k r is named reached =
    view_atom (record { system = copied; fact = facts.Compare (term.Variable n) relations.Equal t })
    ∙ (λ i. trees.atom (record { system = is i; fact = trees.compare (term_view (term.Variable n)) tokens.equal (term_view t) }))
    ∙ (λ i. trees.atom (record { system = s; fact = trees.compare ((view_variable n ∙ ap trees.variable named) i) tokens.equal (reached i) }))

-- U[q] = b
pub letter_made : (copied s q w : tokens.Name) (places : Vec Term Global) (r : ℕ) (z b : ℤ) → copied ≡ s → z ≡ b → places.items ≡ term.Variable q ∷ [] → q ≡ whole_variable → w ≡ word_name r
    → formula_view (formula.Atom (record { system = copied; fact = facts.WordLetter (record { word = w; places = places }) relations.Equal z })) ≡ has_letter s r b
letter_made copied s q w places r z b is same items named word =
    view_atom (record { system = copied; fact = facts.WordLetter (record { word = w; places = places }) relations.Equal z })
    ∙ (λ i. trees.atom (record { system = is i; fact = trees.word_letter (record { word = word i; places = terms_view (items i) }) tokens.equal (same i) }))
    ∙ (λ i. trees.atom (record { system = s; fact = trees.word_letter (record { word = word_name r; places = trees.terms trees.no_terms ((view_variable q ∙ ap trees.variable named) i) }) tokens.equal b }))

-- E q (n = k*q + r & U[q] = b)
pub quantified_made : (ns : Vec tokens.Name Global) (os : Vec Operand Global) (body : Box Formula Global) (last : Box Formula Global) (first : Formula) (q s : tokens.Name) (k r : ℕ) (b : ℤ) → ns.items ≡ q ∷ [] → q ≡ whole_variable → body.value ≡ formula.Chain os last
    → os.items ≡ record { formula = first; connective = connectives.And } ∷ [] → formula_view first ≡ is_place s k r → formula_view last.value ≡ has_letter s r b → formula_view (formula.Quantified quantifiers.Exists ns body) ≡ at_place s k b r
quantified_made ns os body last first q s k r b names named body_is operands is_first is_last =
    view_quantified quantifiers.Exists ns body
    ∙ (λ i. trees.quantified tokens.some (names_view (names i)) (formula_view (body_is i)))
    ∙ (λ i. trees.quantified tokens.some (trees.names trees.no_names (named i)) ((view_chain os last ∙ (λ j. trees.chain (operands_view (operands j)) (formula_view last.value)) ∙ (λ j. trees.chain (trees.operands trees.no_operands (is_first j) trees.and) (is_last j))) i))

-- the whole chain
pub chain_made : (s : tokens.Name) (k n : ℕ) (b : ℤ) (os : Vec Operand Global) (last : Box Formula Global) (f : Formula) → operands_view os.items ≡ places_before s k b n → n ≡ k - 1 → last.value ≡ f → formula_view f ≡ at_place s k b (k - 1) → formula_view (formula.Chain os last) ≡ image_formula s k b
chain_made s k n b os last f before all last_is is =
    view_chain os last ∙ (λ i. trees.chain ((before ∙ ap (places_before s k b) all) i) ((ap formula_view last_is ∙ is) i))

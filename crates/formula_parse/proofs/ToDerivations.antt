-- A formula of the grammar, in which quantifiers take all that follows, has a derivation of the same tokens, tree and flaws.
use Rattle.std.proofs.Common.{◌≡◌, refl, subst, ℕ, [], ◌∷◌, ◌++◌}
use Rattle.formula_parse.specs.Tokens as tokens
use Rattle.formula_parse.specs.Tokens.{Name, Connective, Token}
use Rattle.formula_parse.specs.Trees.{Names, no_names, names}
use Rattle.formula_parse.specs.Making.{Binding}
use Rattle.formula_parse.specs.Making as making
use Rattle.formula_parse.proofs.Derivations as derived
use Rattle.formula_parse.specs.Formulas.{Factor, variable, numeral, in_parens, Prod, factor, times, divided, Term, prod, signed, Index, word, further, Terms, term, comma, Atom, compare, words, word_letter, letter_word, call_none, call, Variables, variable_one, variable_more, Binder, some, every, infinite, WrittenFormula, imp, iff, Imp, chain, implies, Chain, operand, joined, Operand, marked, Core, negated, quantified, grouped, atom, IsEnding, FormulaTakes, ImpTakes, ChainTakes, OperandTakes, CoreTakes}
use Rattle.formula_parse.proofs.SameTerms.{SameFactor, SameProd, SameTerm, same_variable, same_numeral, same_parens, same_factor, same_times, same_divided, same_prod, same_signed, Alike, alike, SameTerms, same_one, same_comma, SameIndex, same_word, same_further, AlikeIndex, alike_index, SameAtom, same_compare, same_words, same_word_letter, same_letter_word, same_call_none, same_call}
use Rattle.formula_parse.proofs.SameFormulas as formulas
use Rattle.formula_parse.proofs.SameFormulas.{SameOperand, SameChain, SameImp, SameFormula, same_operand, same_joined, same_chain, same_implies, same_imp, same_iff, same_atom, same_grouped, same_not, SameVariables, same_variable_one, same_variable_more, SameBinder, same_some, same_every, same_infinite, same_quantified, same_tilde}

record OfFactor (f : Factor) : Type 0 where
  to : derived.Factor
  same : SameFactor to f

record OfProd (p : Prod) : Type 0 where
  to : derived.Prod
  same : SameProd to p

record OfTerm (t : Term) : Type 0 where
  before : derived.Addends
  last : derived.Prod
  same : SameTerm before last t

mutual
  factor_of : (f : Factor) → OfFactor f
  factor_of (variable n) = record { to = derived.variable n; same = same_variable n }
  factor_of (numeral n) = record { to = derived.numeral n; same = same_numeral n }
  factor_of (in_parens t) =
      let u = term_of t in
      record { to = derived.in_parens (derived.term u.before u.last); same = same_parens u.before u.last t u.same }

  prod_of : (p : Prod) → OfProd p
  prod_of (factor f) =
      let u = factor_of f in
      record { to = derived.prod derived.no_factors u.to; same = same_factor u.to f u.same }
  prod_of (times p b f) =
      let u = prod_of p in
      let v = factor_of f in
      record { to = derived.prod (derived.factors u.to b) v.to; same = same_times u.to v.to p b f u.same v.same }
  prod_of (divided p c) =
      let u = prod_of p in
      record { to = derived.divided u.to c; same = same_divided u.to p c u.same }

  term_of : (t : Term) → OfTerm t
  term_of (prod p) =
      let u = prod_of p in
      record { before = derived.no_addends; last = u.to; same = same_prod u.to p u.same }
  term_of (signed t s p) =
      let u = term_of t in
      let v = prod_of p in
      record {
        before = derived.addends u.before u.last s;
        last = v.to;
        same = same_signed u.before u.last v.to t s p u.same v.same;
      }

record OfWhole (t : Term) : Type 0 where
  to : derived.Term
  same : Alike to t

whole_of : (t : Term) → OfWhole t
whole_of t =
    let u = term_of t in
    record { to = derived.term u.before u.last; same = alike u.before u.last t u.same }

record OfTerms (ts : Terms) : Type 0 where
  before : derived.Terms
  last : derived.Term
  same : SameTerms before last ts

terms_of : (ts : Terms) → OfTerms ts
terms_of (term t) =
    let u = whole_of t in
    record { before = derived.no_terms; last = u.to; same = same_one u.to t u.same }
terms_of (comma ts t) =
    let u = terms_of ts in
    let v = whole_of t in
    record { before = derived.terms u.before u.last; last = v.to; same = same_comma u.before u.last v.to ts t u.same v.same }

record OfIndex (x : Index) : Type 0 where
  name : Name
  before : derived.Terms
  last : derived.Term
  same : SameIndex name before last x

index_of : (x : Index) → OfIndex x
index_of (word n t) =
    let u = whole_of t in
    record { name = n; before = derived.no_terms; last = u.to; same = same_word n u.to t u.same }
index_of (further x t) =
    let u = index_of x in
    let v = whole_of t in
    record { name = u.name; before = derived.terms u.before u.last; last = v.to; same = same_further u.name u.before u.last v.to x t u.same v.same }

record OfPlaces (x : Index) : Type 0 where
  to : derived.Index
  same : AlikeIndex to x

places_of : (x : Index) → OfPlaces x
places_of x =
    let u = index_of x in
    record { to = derived.index u.name u.before u.last; same = alike_index u.name u.before u.last x u.same }

record OfAtom (a : Atom) : Type 0 where
  to : derived.Core
  same : SameAtom to a

atom_of : (a : Atom) → OfAtom a
atom_of (compare t e u) =
    let g = whole_of t in
    let h = whole_of u in
    record { to = derived.compare g.to e h.to; same = same_compare g.to h.to e t u g.same h.same }
atom_of (words x e z) =
    let g = places_of x in
    let h = places_of z in
    record { to = derived.words g.to e h.to; same = same_words g.to h.to e x z g.same h.same }
atom_of (word_letter x e l) =
    let g = places_of x in
    record { to = derived.word_letter g.to e l; same = same_word_letter g.to e l x g.same }
atom_of (letter_word l e x) =
    let g = places_of x in
    record { to = derived.letter_word l e g.to; same = same_letter_word g.to e l x g.same }
atom_of (call_none n) = record { to = derived.call_none n; same = same_call_none n }
atom_of (call n ts) =
    let g = terms_of ts in
    record { to = derived.call n g.before g.last; same = same_call n g.before g.last ts g.same }

record OfVariables (vs : Variables) : Type 0 where
  before : Names
  last : Name
  same : SameVariables before last vs

variables_of : (vs : Variables) → OfVariables vs
variables_of (variable_one n) = record { before = no_names; last = n; same = same_variable_one n }
variables_of (variable_more vs n) =
    let u = variables_of vs in
    record { before = names u.before u.last; last = n; same = same_variable_more u.before u.last n vs u.same }

record OfBinder (b : Binder) : Type 0 where
  binding : Binding
  last : Name
  same : SameBinder binding last b

binder_of : (b : Binder) → OfBinder b
binder_of (some vs) =
    let u = variables_of vs in
    record { binding = making.some u.before; last = u.last; same = same_some u.before u.last vs u.same }
binder_of (every vs) =
    let u = variables_of vs in
    record { binding = making.every u.before; last = u.last; same = same_every u.before u.last vs u.same }
binder_of (infinite n) = record { binding = making.infinite; last = n; same = same_infinite n }

-- no quantifier's formula ends it
abbrev IsClosed : derived.Last → Type 0
IsClosed (derived.ends c) = Unit {0}
IsClosed (derived.quantified st ms q n f) = ⊥

closed_part : (l : derived.Last) → IsClosed l → (c : derived.Closed) × (l ≡ derived.ends c)
closed_part (derived.ends c) h = (c, refl)
closed_part (derived.quantified st ms q n f) h = absurd h

-- a token that is no ending comes after a closed operand
record OfOperand (o : Operand) (t : Token) : Type 0 where
  last : derived.Last
  same : SameOperand last o
  closed : (IsEnding t → ⊥) → IsClosed last

record OfChain (c : Chain) (t : Token) : Type 0 where
  operands : derived.Operands
  last : derived.Last
  same : SameChain operands last c
  closed : (IsEnding t → ⊥) → IsClosed last

record OfImp (i : Imp) (t : Token) : Type 0 where
  chains : derived.Chains
  operands : derived.Operands
  last : derived.Last
  same : SameImp chains operands last i
  closed : (IsEnding t → ⊥) → IsClosed last

record OfFormula (f : WrittenFormula) (t : Token) : Type 0 where
  implications : derived.Implications
  chains : derived.Chains
  operands : derived.Operands
  last : derived.Last
  same : SameFormula implications chains operands last f
  closed : (IsEnding t → ⊥) → IsClosed last

pub record OfText (f : WrittenFormula) : Type 0 where
  pub to : derived.Formula
  pub same : formulas.Alike to f

text_of : (f : WrittenFormula) (t : Token) → OfFormula f t → OfText f
text_of f t u = record {
  to = derived.formula u.implications u.chains u.operands u.last;
  same = formulas.alike u.implications u.chains u.operands u.last f u.same;
}

not_of : (ms : Names) (o : Operand) (t : Token) (l : derived.Last) → SameOperand l o → ((IsEnding t → ⊥) → IsClosed l) → OfOperand (marked ms (negated o)) t
not_of ms o t (derived.ends e) s h = record { last = derived.ends (derived.marked ms (derived.not_closed e)); same = same_not ms e o s; closed = λ n. tt }
not_of ms o t (derived.quantified st ks q n g) s h = record { last = derived.quantified (st ++ ms ∷ []) ks q n g; same = same_tilde ms st ks q n g o s; closed = h }

quantified_of : (ms : Names) (b : Binder) (f : WrittenFormula) (t : Token) → IsEnding t → OfText f → OfOperand (marked ms (quantified b f)) t
quantified_of ms b f t e u =
    let v = binder_of b in
    record {
      last = derived.quantified [] ms v.binding v.last u.to;
      same = same_quantified ms v.binding v.last b u.to f v.same u.same;
      closed = λ n. n e;
    }

grouped_of : (ms : Names) (f : WrittenFormula) (t : Token) → OfText f → OfOperand (marked ms (grouped f)) t
grouped_of ms f t u = record { last = derived.ends (derived.marked ms (derived.grouped u.to)); same = same_grouped ms u.to f u.same; closed = λ n. tt }

plain_of : (ms : Names) (a : Atom) (t : Token) → OfAtom a → OfOperand (marked ms (atom a)) t
plain_of ms a t u = record { last = derived.ends (derived.marked ms u.to); same = same_atom ms u.to a u.same; closed = λ n. tt }

joined_of : (c : Chain) (k : Connective) (b : ℕ) (o : Operand) (t : Token) → OfChain c (tokens.connective k b) → OfOperand o t → OfChain (joined c k b o) t
joined_of c k b o t u v =
    let e = closed_part u.last (u.closed (λ n. n)) in
    record {
      operands = derived.operands u.operands e.0 k b;
      last = v.last;
      same = same_joined u.operands e.0 v.last c k b o (subst (λ l. SameChain u.operands l c) e.1 u.same) v.same;
      closed = v.closed;
    }

implies_of : (i : Imp) (b : ℕ) (c : Chain) (t : Token) → OfImp i (tokens.implies b) → OfChain c t → OfImp (implies i b c) t
implies_of i b c t u v =
    let e = closed_part u.last (u.closed (λ n. n)) in
    record {
      chains = derived.chains u.chains u.operands e.0 b;
      operands = v.operands;
      last = v.last;
      same = same_implies u.chains u.operands v.operands e.0 v.last i b c (subst (λ l. SameImp u.chains u.operands l i) e.1 u.same) v.same;
      closed = v.closed;
    }

iff_of : (f : WrittenFormula) (i : Imp) (t : Token) → OfFormula f tokens.iff → OfImp i t → OfFormula (iff f i) t
iff_of f i t u v =
    let e = closed_part u.last (u.closed (λ n. n)) in
    record {
      implications = derived.implications u.implications u.chains u.operands e.0;
      chains = v.chains;
      operands = v.operands;
      last = v.last;
      same =
          same_iff
          u.implications
          u.chains
          v.chains
          u.operands
          v.operands
          e.0
          v.last
          f
          i
          (subst (λ l. SameFormula u.implications u.chains u.operands l f) e.1 u.same)
          v.same;
      closed = v.closed;
    }

one_of : (o : Operand) (t : Token) → OfOperand o t → OfChain (operand o) t
one_of o t u = record { operands = derived.no_operands; last = u.last; same = same_operand u.last o u.same; closed = u.closed }

chain_alone : (c : Chain) (t : Token) → OfChain c t → OfImp (chain c) t
chain_alone c t u = record { chains = derived.no_chains; operands = u.operands; last = u.last; same = same_chain u.operands u.last c u.same; closed = u.closed }

imp_alone : (i : Imp) (t : Token) → OfImp i t → OfFormula (imp i) t
imp_alone i t u = record {
  implications = derived.no_implications;
  chains = u.chains;
  operands = u.operands;
  last = u.last;
  same = same_imp u.chains u.operands u.last i u.same;
  closed = u.closed;
}

mutual
  formula_of : (f : WrittenFormula) (t : Token) → FormulaTakes f t → OfFormula f t
  formula_of (imp i) t h = imp_alone i t (imp_of i t h)
  formula_of (iff f i) t h = iff_of f i t (formula_of f tokens.iff h.0) (imp_of i t h.1)

  imp_of : (i : Imp) (t : Token) → ImpTakes i t → OfImp i t
  imp_of (chain c) t h = chain_alone c t (chain_of c t h)
  imp_of (implies i b c) t h = implies_of i b c t (imp_of i (tokens.implies b) h.0) (chain_of c t h.1)

  chain_of : (c : Chain) (t : Token) → ChainTakes c t → OfChain c t
  chain_of (operand o) t h = one_of o t (operand_of o t h)
  chain_of (joined c k b o) t h = joined_of c k b o t (chain_of c (tokens.connective k b) h.0) (operand_of o t h.1)

  operand_of : (o : Operand) (t : Token) → OperandTakes o t → OfOperand o t
  operand_of (marked ms c) t h = core_of c ms t h

  core_of : (c : Core) (ms : Names) (t : Token) → CoreTakes c t → OfOperand (marked ms c) t
  core_of (negated o) ms t h =
      let u = operand_of o t h in
      not_of ms o t u.last u.same u.closed
  core_of (quantified b f) ms t h = quantified_of ms b f t h.0 (text_of f t (formula_of f t h.1))
  core_of (grouped f) ms t h = grouped_of ms f t (text_of f tokens.closing (formula_of f tokens.closing h))
  core_of (atom a) ms t h = plain_of ms a t (atom_of a)

pub derived_of : (f : WrittenFormula) → FormulaTakes f tokens.end → OfText f
derived_of f h = text_of f tokens.end (formula_of f tokens.end h)

-- A derivation has a formula of the grammar with the same tokens, tree and flaws, in which quantifiers take all that follows.
use Rattle.std.proofs.Common.{sym, subst, List, [], ◌∷◌, ◌++◌, append_assoc}
use Rattle.std.proofs.lemmas.List.{append-nil}
use Rattle.formula_parse.specs.Tokens as tokens
use Rattle.formula_parse.specs.Tokens.{Name, Relation, Letter, Token}
use Rattle.formula_parse.specs.Trees.{Names, no_names, names}
use Rattle.formula_parse.specs.Making.{Binding}
use Rattle.formula_parse.specs.Making as making
use Rattle.formula_parse.proofs.Derivations as derived
use Rattle.formula_parse.specs.Formulas.{Factor, variable, numeral, in_parens, Prod, factor, times, divided, Term, prod, signed, Index, word, further, Terms, term, comma, Atom, compare, words, word_letter, letter_word, call_none, call, Variables, variable_one, variable_more, Binder, some, every, infinite, WrittenFormula, imp, iff, Imp, chain, implies, Chain, operand, joined, Operand, marked, negated, quantified, grouped, atom, IsEnding, FormulaTakes, ImpTakes, ChainTakes, OperandTakes}
use Rattle.formula_parse.proofs.SameTerms.{SameFactor, SameProd, SameTerm, same_variable, same_numeral, same_parens, same_factor, same_times, same_divided, same_prod, same_signed, Alike, alike, SameTerms, same_one, same_comma, SameIndex, same_word, same_further, AlikeIndex, alike_index, SameAtom, same_compare, same_words, same_word_letter, same_letter_word, same_call_none, same_call}
use Rattle.formula_parse.proofs.SameFormulas as formulas
use Rattle.formula_parse.proofs.SameFormulas.{SameOperand, SameChain, SameImp, SameFormula, same_operand, same_joined, same_chain, same_implies, same_imp, same_iff, same_atom, same_grouped, same_not, SameVariables, same_variable_one, same_variable_more, SameBinder, same_some, same_every, same_infinite, same_quantified, same_tilde}

record OfFactor (g : derived.Factor) : Type 0 where
  to : Factor
  same : SameFactor g to

record OfProd (m : derived.Prod) : Type 0 where
  to : Prod
  same : SameProd m to

record OfTerm (ss : derived.Addends) (m : derived.Prod) : Type 0 where
  to : Term
  same : SameTerm ss m to

mutual
  factor_of : (g : derived.Factor) → OfFactor g
  factor_of (derived.variable n) = record { to = variable n; same = same_variable n }
  factor_of (derived.numeral n) = record { to = numeral n; same = same_numeral n }
  factor_of (derived.in_parens (derived.term ss m)) =
      let u = term_of ss m (prod_of m) in
      record { to = in_parens u.to; same = same_parens ss m u.to u.same }

  prod_of : (m : derived.Prod) → OfProd m
  prod_of (derived.prod derived.no_factors g) =
      let u = factor_of g in
      record { to = factor u.to; same = same_factor g u.to u.same }
  prod_of (derived.prod (derived.factors m b) g) =
      let v = prod_of m in
      let u = factor_of g in
      record { to = times v.to b u.to; same = same_times m g v.to b u.to v.same u.same }
  prod_of (derived.divided m c) =
      let v = prod_of m in
      record { to = divided v.to c; same = same_divided m v.to c v.same }

  term_of : (ss : derived.Addends) (m : derived.Prod) → OfProd m → OfTerm ss m
  term_of derived.no_addends m u = record { to = prod u.to; same = same_prod m u.to u.same }
  term_of (derived.addends ss k s) m u =
      let v = term_of ss k (prod_of k) in
      record { to = signed v.to s u.to; same = same_signed ss k m v.to s u.to v.same u.same }

record OfWhole (g : derived.Term) : Type 0 where
  to : Term
  same : Alike g to

whole_of : (g : derived.Term) → OfWhole g
whole_of (derived.term ss m) =
    let u = term_of ss m (prod_of m) in
    record { to = u.to; same = alike ss m u.to u.same }

record OfTerms (gs : derived.Terms) (g : derived.Term) : Type 0 where
  to : Terms
  same : SameTerms gs g to

terms_of : (gs : derived.Terms) (g : derived.Term) → OfTerms gs g
terms_of derived.no_terms g =
    let u = whole_of g in
    record { to = term u.to; same = same_one g u.to u.same }
terms_of (derived.terms gs h) g =
    let u = terms_of gs h in
    let v = whole_of g in
    record { to = comma u.to v.to; same = same_comma gs h g u.to v.to u.same v.same }

record OfPlaces (n : Name) (gs : derived.Terms) (g : derived.Term) : Type 0 where
  to : Index
  same : SameIndex n gs g to

places_of : (n : Name) (gs : derived.Terms) (g : derived.Term) → OfPlaces n gs g
places_of n derived.no_terms g =
    let u = whole_of g in
    record { to = word n u.to; same = same_word n g u.to u.same }
places_of n (derived.terms gs h) g =
    let u = places_of n gs h in
    let v = whole_of g in
    record { to = further u.to v.to; same = same_further n gs h g u.to v.to u.same v.same }

record OfIndex (g : derived.Index) : Type 0 where
  to : Index
  same : AlikeIndex g to

index_of : (g : derived.Index) → OfIndex g
index_of (derived.index n gs g) =
    let u = places_of n gs g in
    record { to = u.to; same = alike_index n gs g u.to u.same }

record OfVariables (ns : Names) (n : Name) : Type 0 where
  to : Variables
  same : SameVariables ns n to

variables_of : (ns : Names) (n : Name) → OfVariables ns n
variables_of no_names n = record { to = variable_one n; same = same_variable_one n }
variables_of (names ns m) n =
    let u = variables_of ns m in
    record { to = variable_more u.to n; same = same_variable_more ns m n u.to u.same }

record OfBinder (q : Binding) (n : Name) : Type 0 where
  to : Binder
  same : SameBinder q n to

binder_of : (q : Binding) (n : Name) → OfBinder q n
binder_of (making.some ns) n =
    let u = variables_of ns n in
    record { to = some u.to; same = same_some ns n u.to u.same }
binder_of (making.every ns) n =
    let u = variables_of ns n in
    record { to = every u.to; same = same_every ns n u.to u.same }
binder_of making.infinite n = record { to = infinite n; same = same_infinite n }

-- an operand after which any token may come
record OfClosed (e : derived.Closed) : Type 0 where
  to : Operand
  same : SameOperand (derived.ends e) to
  takes : (t : Token) → OperandTakes to t

plain_of : (ms : Names) (g : derived.Core) (a : Atom) → SameAtom g a → OfClosed (derived.marked ms g)
plain_of ms g a s = record { to = marked ms (atom a); same = same_atom ms g a s; takes = λ t. tt }

compare_of : (ms : Names) (g h : derived.Term) (e : Relation) → OfClosed (derived.marked ms (derived.compare g e h))
compare_of ms g h e =
    let u = whole_of g in
    let v = whole_of h in
    plain_of ms (derived.compare g e h) (compare u.to e v.to) (same_compare g h e u.to v.to u.same v.same)

words_of : (ms : Names) (g h : derived.Index) (e : Relation) → OfClosed (derived.marked ms (derived.words g e h))
words_of ms g h e =
    let u = index_of g in
    let v = index_of h in
    plain_of ms (derived.words g e h) (words u.to e v.to) (same_words g h e u.to v.to u.same v.same)

word_letter_of : (ms : Names) (g : derived.Index) (e : Relation) (l : Letter) → OfClosed (derived.marked ms (derived.word_letter g e l))
word_letter_of ms g e l =
    let u = index_of g in
    plain_of ms (derived.word_letter g e l) (word_letter u.to e l) (same_word_letter g e l u.to u.same)

letter_word_of : (ms : Names) (g : derived.Index) (e : Relation) (l : Letter) → OfClosed (derived.marked ms (derived.letter_word l e g))
letter_word_of ms g e l =
    let u = index_of g in
    plain_of ms (derived.letter_word l e g) (letter_word l e u.to) (same_letter_word g e l u.to u.same)

call_of : (ms : Names) (n : Name) (gs : derived.Terms) (g : derived.Term) → OfClosed (derived.marked ms (derived.call n gs g))
call_of ms n gs g =
    let u = terms_of gs g in
    plain_of ms (derived.call n gs g) (call n u.to) (same_call n gs g u.to u.same)

-- the last operand, at a closing parenthesis or at the end
record OfLast (l : derived.Last) : Type 0 where
  to : Operand
  same : SameOperand l to
  takes : (t : Token) → IsEnding t → OperandTakes to t

record OfChain (os : derived.Operands) (l : derived.Last) (o : Operand) : Type 0 where
  to : Chain
  same : SameChain os l to
  takes : (t : Token) → OperandTakes o t → ChainTakes to t

record OfImp (hs : derived.Chains) (os : derived.Operands) (l : derived.Last) (o : Operand) : Type 0 where
  to : Imp
  same : SameImp hs os l to
  takes : (t : Token) → OperandTakes o t → ImpTakes to t

record OfFormula (is : derived.Implications) (hs : derived.Chains) (os : derived.Operands) (l : derived.Last) (o : Operand) : Type 0 where
  to : WrittenFormula
  same : SameFormula is hs os l to
  takes : (t : Token) → OperandTakes o t → FormulaTakes to t

pub record OfText (g : derived.Formula) : Type 0 where
  pub to : WrittenFormula
  pub same : formulas.Alike g to
  pub takes : (t : Token) → IsEnding t → FormulaTakes to t

not_of : (ms : Names) (e : derived.Closed) → OfClosed e → OfClosed (derived.marked ms (derived.not_closed e))
not_of ms e u = record { to = marked ms (negated u.to); same = same_not ms e u.to u.same; takes = u.takes }

grouped_of : (ms : Names) (g : derived.Formula) → OfText g → OfClosed (derived.marked ms (derived.grouped g))
grouped_of ms g u = record { to = marked ms (grouped u.to); same = same_grouped ms g u.to u.same; takes = λ t. u.takes tokens.closing tt }

-- one more `~` before some
tildes_of : (st ss : List Names) (ms : Names) (q : Binding) (n : Name) (g : derived.Formula) → OfLast (derived.quantified st ms q n g) → OfLast (derived.quantified (st ++ ss) ms q n g)
tildes_of st [] ms q n g u = subst (λ z. OfLast (derived.quantified z ms q n g)) (sym (append-nil st)) u
tildes_of st (k ∷ ss) ms q n g u =
    subst
    (λ z. OfLast (derived.quantified z ms q n g))
    (append_assoc st (k ∷ []) ss)
    (tildes_of
    (st ++ k ∷ [])
    ss
    ms
    q
    n
    g
    (record { to = marked k (negated u.to); same = same_tilde k st ms q n g u.to u.same; takes = u.takes }))

quantified_of : (st : List Names) (ms : Names) (q : Binding) (n : Name) (g : derived.Formula) → OfText g → OfLast (derived.quantified st ms q n g)
quantified_of st ms q n g u =
    let v = binder_of q n in
    tildes_of
    []
    st
    ms
    q
    n
    g
    (record {
      to = marked ms (quantified v.to u.to);
      same = same_quantified ms q n v.to g u.to v.same u.same;
      takes = λ t e. (e, u.takes t e);
    })

mutual
  core_of : (ms : Names) (c : derived.Core) → OfClosed (derived.marked ms c)
  core_of ms (derived.compare g e h) = compare_of ms g h e
  core_of ms (derived.words g e h) = words_of ms g h e
  core_of ms (derived.word_letter g e l) = word_letter_of ms g e l
  core_of ms (derived.letter_word l e g) = letter_word_of ms g e l
  core_of ms (derived.call_none n) = plain_of ms (derived.call_none n) (call_none n) (same_call_none n)
  core_of ms (derived.call n gs g) = call_of ms n gs g
  core_of ms (derived.not_closed e) = not_of ms e (closed_of e)
  core_of ms (derived.grouped g) = grouped_of ms g (formula_of g)

  closed_of : (e : derived.Closed) → OfClosed e
  closed_of (derived.marked ms c) = core_of ms c

  last_of : (l : derived.Last) → OfLast l
  last_of (derived.ends e) =
      let u = closed_of e in
      record { to = u.to; same = u.same; takes = λ t h. u.takes t }
  last_of (derived.quantified st ms q n g) = quantified_of st ms q n g (formula_of g)

  chain_of : (os : derived.Operands) (l : derived.Last) (o : Operand) → SameOperand l o → OfChain os l o
  chain_of derived.no_operands l o s = record { to = operand o; same = same_operand l o s; takes = λ t h. h }
  chain_of (derived.operands os e k b) l o s =
      let u = closed_of e in
      let v = chain_of os (derived.ends e) u.to u.same in
      record {
        to = joined v.to k b o;
        same = same_joined os e l v.to k b o v.same s;
        takes = λ t h. (v.takes (tokens.connective k b) (u.takes (tokens.connective k b)), h);
      }

  imp_of : (hs : derived.Chains) (os : derived.Operands) (l : derived.Last) (o : Operand) → OfChain os l o → OfImp hs os l o
  imp_of derived.no_chains os l o s = record { to = chain s.to; same = same_chain os l s.to s.same; takes = s.takes }
  imp_of (derived.chains hs qs e b) os l o s =
      let u = closed_of e in
      let v = imp_of hs qs (derived.ends e) u.to (chain_of qs (derived.ends e) u.to u.same) in
      record {
        to = implies v.to b s.to;
        same = same_implies hs qs os e l v.to b s.to v.same s.same;
        takes = λ t h. (v.takes (tokens.implies b) (u.takes (tokens.implies b)), s.takes t h);
      }

  iff_of : (is : derived.Implications) (hs : derived.Chains) (os : derived.Operands) (l : derived.Last) (o : Operand) → OfImp hs os l o → OfFormula is hs os l o
  iff_of derived.no_implications hs os l o s = record { to = imp s.to; same = same_imp hs os l s.to s.same; takes = s.takes }
  iff_of (derived.implications is gs qs e) hs os l o s =
      let u = closed_of e in
      let v = iff_of is gs qs (derived.ends e) u.to (imp_of gs qs (derived.ends e) u.to (chain_of qs (derived.ends e) u.to u.same)) in
      record {
        to = iff v.to s.to;
        same = same_iff is gs hs qs os e l v.to s.to v.same s.same;
        takes = λ t h. (v.takes tokens.iff (u.takes tokens.iff), s.takes t h);
      }

  pub formula_of : (g : derived.Formula) → OfText g
  formula_of (derived.formula is hs os l) =
      let u = last_of l in
      let v = iff_of is hs os l u.to (imp_of hs os l u.to (chain_of os l u.to u.same)) in
      record {
        to = v.to;
        same = formulas.alike is hs os l v.to v.same;
        takes = λ t e. v.takes t (u.takes t e);
      }

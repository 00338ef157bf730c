-- Terms of the grammar, and derivations of the same tokens, tree and flaws.
use Rattle.std.proofs.Common.{◌≡◌, refl, ◌∙◌, ap, ℕ, suc, Bool, true, false, not, ◌&&◌, ◌||◌, List, ◌∷◌, Option}
use Rattle.formula_parse.specs.Tokens as tokens
use Rattle.formula_parse.specs.Tokens.{Name, Relation, Sign, Letter, Placed, here}
use Rattle.formula_parse.specs.Trees as shapes
use Rattle.formula_parse.proofs.Derivations as derived
use Rattle.formula_parse.proofs.Systems as systems
use Rattle.formula_parse.proofs.DerivedFlaws as flaws
use Rattle.formula_parse.specs.Flaws.{Flaw, not_linear, noted_if}
use Rattle.formula_parse.proofs.DerivedFlaws.{product_of}
use Rattle.formula_parse.specs.Made.{trees}
use Rattle.formula_parse.specs.Building.{multiplied, summed, letter_of, in_system}
use Rattle.formula_parse.specs.Formulas.{Factor, variable, numeral, in_parens, Prod, factor, times, divided, Term, prod, signed, Index, word, further, Terms, term, comma, Atom, compare, words, word_letter, letter_word, call_none, call, letter_then, factor_then, prod_then, term_then, index_then, terms_then, atom_then}
use Rattle.formula_parse.specs.FormulaTrees.{factor_tree, factors_of, before_prod, last_prod, term_tree, index_word, index_places, index_tree, terms_tree, fact}
use Rattle.formula_parse.specs.FormulaFlaws.{is_numeral, is_numeral_term, is_numeral_prod, has_unknown, factor_flaw, prod_flaw, term_flaw, index_flaw, terms_flaw, atom_flaw}

pub both : {X Y Z : Type 0} (f : X → Y → Z) {a b : X} {c d : Y} → a ≡ b → c ≡ d → f a c ≡ f b d
both f e h = cc

pub record SameFactor (g : derived.Factor) (f : Factor) : Type 0 where
  pub derived_is : (d : ℕ) (r : List Placed) → derived.factor_then g d r ≡ factor_then f d r
  pub tree_is : systems.factor_of trees g ≡ factor_tree f
  pub numeral_is : flaws.is_numeral g ≡ is_numeral f
  pub flaw_is : (w : Option Flaw) → flaws.factor_flaw w g ≡ factor_flaw w f

pub record SameProd (m : derived.Prod) (p : Prod) : Type 0 where
  pub derived_is : (d : ℕ) (r : List Placed) → derived.prod_then m d r ≡ prod_then p d r
  pub tree_is : systems.prod_of trees m ≡ factors_of p
  pub unknown_is : (l : Bool) → ((product_of l m).unknown || not (flaws.ends_in_numeral m)) ≡ has_unknown p
  pub numeral_is : (l : Bool) → ((product_of l m).lone && flaws.ends_in_numeral m) ≡ (l && is_numeral_prod p)
  pub flaw_is : (l : Bool) (w : Option Flaw) → flaws.prod_flaw w l m ≡ prod_flaw w p

-- the products before the last, and the last
pub record SameTerm (ss : derived.Addends) (m : derived.Prod) (t : Term) : Type 0 where
  pub derived_is : (d : ℕ) (r : List Placed) → derived.addends_then ss d (derived.prod_then m d r) ≡ term_then t d r
  pub before_is : systems.addends_of trees ss ≡ before_prod t
  pub last_is : multiplied (systems.prod_of trees m) ≡ last_prod t
  pub numeral_is : flaws.is_numeral_term (derived.term ss m) ≡ is_numeral_term t
  pub flaw_is : (w : Option Flaw) → flaws.term_flaw w (derived.term ss m) ≡ term_flaw w t

pub same_variable : (n : Name) → SameFactor (derived.variable n) (variable n)
same_variable n = record { derived_is = λ d r. refl; tree_is = refl; numeral_is = refl; flaw_is = λ w. refl }

pub same_numeral : (n : ℕ) → SameFactor (derived.numeral n) (numeral n)
same_numeral n = record { derived_is = λ d r. refl; tree_is = refl; numeral_is = refl; flaw_is = λ w. refl }

pub same_parens : (ss : derived.Addends) (m : derived.Prod) (t : Term) → SameTerm ss m t → SameFactor (derived.in_parens (derived.term ss m)) (in_parens t)
same_parens ss m t s = record {
  derived_is = λ d r. ap (λ z. here tokens.opening (suc d) ∷ z) (s.derived_is (suc d) (here tokens.closing d ∷ r));
  tree_is = both summed s.before_is s.last_is;
  numeral_is = s.numeral_is;
  flaw_is = s.flaw_is;
}

pub same_factor : (g : derived.Factor) (f : Factor) → SameFactor g f → SameProd (derived.prod derived.no_factors g) (factor f)
same_factor g f s = record {
  derived_is = s.derived_is;
  tree_is = ap (λ t. shapes.factors shapes.no_factors (shapes.times t)) s.tree_is;
  unknown_is = λ l. ap not s.numeral_is;
  numeral_is = λ l. ap (λ b. l && b) s.numeral_is;
  flaw_is = λ l w. s.flaw_is w;
}

and_false : (l : Bool) → false ≡ (l && false)
and_false true = refl
and_false false = refl

noted_same : {a b c d : Bool} {x y : Option Flaw} (g : Flaw) → a ≡ b → c ≡ d → x ≡ y → noted_if (a && not c) g x ≡ noted_if (b && not d) g y
noted_same {b = b} {d = d} {x = x} g e h k = ap (λ z. noted_if z g x) (both (λ (a c : Bool). a && not c) e h) ∙ ap (noted_if (b && not d) g) k

pub same_times : (m : derived.Prod) (h : derived.Factor) (p : Prod) (b : ℕ) (f : Factor) → SameProd m p → SameFactor h f → SameProd (derived.prod (derived.factors m b) h) (times p b f)
same_times m h p b f s t = record {
  derived_is = λ d r. s.derived_is d (here (tokens.times b) d ∷ derived.factor_then h d r) ∙ ap (λ z. prod_then p d (here (tokens.times b) d ∷ z)) (t.derived_is d r);
  tree_is = both (λ (ps : shapes.Factors) (g : shapes.Term). shapes.factors ps (shapes.times g)) s.tree_is t.tree_is;
  unknown_is = λ l. both (λ (a c : Bool). a || not c) (s.unknown_is l) t.numeral_is;
  numeral_is = λ l. and_false l;
  flaw_is = λ l w.
      noted_same
      (not_linear b)
      (s.unknown_is l)
      t.numeral_is
      (ap (λ z. flaws.factor_flaw z h) (s.flaw_is l w) ∙ t.flaw_is (prod_flaw w p));
}

or_true : (b : Bool) → (b || true) ≡ true
or_true true = refl
or_true false = refl

and_never : (b l : Bool) → (b && false) ≡ (l && false)
and_never true l = and_false l
and_never false l = and_false l

pub same_divided : (m : derived.Prod) (p : Prod) (c : ℕ) → SameProd m p → SameProd (derived.divided m c) (divided p c)
same_divided m p c s = record {
  derived_is = λ d r. s.derived_is d (here tokens.slash d ∷ here (tokens.number (suc c)) d ∷ r);
  tree_is = ap (λ ps. shapes.factors ps (shapes.divided (suc c))) s.tree_is;
  unknown_is = λ l. or_true (product_of l m).unknown;
  numeral_is = λ l. and_never (product_of l m).lone l;
  flaw_is = s.flaw_is;
}

pub same_prod : (m : derived.Prod) (p : Prod) → SameProd m p → SameTerm derived.no_addends m (prod p)
same_prod m p s = record {
  derived_is = s.derived_is;
  before_is = refl;
  last_is = ap multiplied s.tree_is;
  numeral_is = s.numeral_is true;
  flaw_is = λ w. s.flaw_is true w;
}

pub same_signed : (ss : derived.Addends) (m q : derived.Prod) (t : Term) (k : Sign) (p : Prod) → SameTerm ss m t → SameProd q p → SameTerm (derived.addends ss m k) q (signed t k p)
same_signed ss m q t k p s u = record {
  derived_is = λ d r.
      s.derived_is d (here (tokens.sign k) d ∷ derived.prod_then q d r)
      ∙ ap (λ z. term_then t d (here (tokens.sign k) d ∷ z)) (u.derived_is d r);
  before_is = both (λ (a : shapes.Addends) (f : shapes.Term). shapes.addends a f k) s.before_is s.last_is;
  last_is = ap multiplied u.tree_is;
  numeral_is = u.numeral_is false;
  flaw_is = λ w. u.flaw_is false (flaws.term_flaw w (derived.term ss m)) ∙ ap (λ z. prod_flaw z p) (s.flaw_is w);
}

-- a whole term
pub record Alike (g : derived.Term) (t : Term) : Type 0 where
  pub derived_is : (d : ℕ) (r : List Placed) → derived.term_then g d r ≡ term_then t d r
  pub tree_is : systems.term_of trees g ≡ term_tree t
  pub flaw_is : (w : Option Flaw) → flaws.term_flaw w g ≡ term_flaw w t

pub alike : (ss : derived.Addends) (m : derived.Prod) (t : Term) → SameTerm ss m t → Alike (derived.term ss m) t
alike ss m t s = record { derived_is = s.derived_is; tree_is = both summed s.before_is s.last_is; flaw_is = s.flaw_is }

-- the terms before the last, and the last
pub record SameTerms (gs : derived.Terms) (g : derived.Term) (ts : Terms) : Type 0 where
  pub derived_is : (d : ℕ) (r : List Placed) → derived.arguments_then gs d (derived.term_then g d r) ≡ terms_then ts d r
  pub tree_is : shapes.terms (systems.terms_of trees gs) (systems.term_of trees g) ≡ terms_tree ts
  pub flaw_is : (w : Option Flaw) → flaws.term_flaw (flaws.terms_flaw w gs) g ≡ terms_flaw w ts

pub same_one : (g : derived.Term) (t : Term) → Alike g t → SameTerms derived.no_terms g (term t)
same_one g t s = record { derived_is = s.derived_is; tree_is = cc (s.tree_is); flaw_is = s.flaw_is }

pub same_comma : (gs : derived.Terms) (g h : derived.Term) (ts : Terms) (t : Term) → SameTerms gs g ts → Alike h t → SameTerms (derived.terms gs g) h (comma ts t)
same_comma gs g h ts t s u = record {
  derived_is = λ d r.
      s.derived_is d (here tokens.comma d ∷ derived.term_then h d r) ∙ ap (λ z. terms_then ts d (here tokens.comma d ∷ z)) (u.derived_is d r);
  tree_is = cc (s.tree_is, u.tree_is);
  flaw_is = λ w. ap (λ z. flaws.term_flaw z h) (s.flaw_is w) ∙ u.flaw_is (terms_flaw w ts);
}

-- a word, the places before the last, and the last
pub record SameIndex (n : Name) (gs : derived.Terms) (g : derived.Term) (x : Index) : Type 0 where
  pub derived_is : (d : ℕ) (r : List Placed) → derived.index_then (derived.index n gs g) d r ≡ index_then x d r
  pub word_is : n ≡ index_word x
  pub places_are : shapes.terms (systems.terms_of trees gs) (systems.term_of trees g) ≡ index_places x
  pub flaw_is : (w : Option Flaw) → flaws.term_flaw (flaws.terms_flaw w gs) g ≡ index_flaw w x

pub same_word : (n : Name) (g : derived.Term) (t : Term) → Alike g t → SameIndex n derived.no_terms g (word n t)
same_word n g t s = record {
  derived_is = λ d r. ap (λ z. here (tokens.name n) d ∷ here tokens.bracket (suc d) ∷ z) (s.derived_is (suc d) (here tokens.unbracket d ∷ r));
  word_is = refl;
  places_are = cc (s.tree_is);
  flaw_is = s.flaw_is;
}

pub same_further : (n : Name) (gs : derived.Terms) (g h : derived.Term) (x : Index) (t : Term) → SameIndex n gs g x → Alike h t → SameIndex n (derived.terms gs g) h (further x t)
same_further n gs g h x t s u = record {
  derived_is = λ d r.
      s.derived_is d (here tokens.bracket (suc d) ∷ derived.term_then h (suc d) (here tokens.unbracket d ∷ r))
      ∙ ap (λ z. index_then x d (here tokens.bracket (suc d) ∷ z)) (u.derived_is (suc d) (here tokens.unbracket d ∷ r));
  word_is = s.word_is;
  places_are = cc (s.places_are, u.tree_is);
  flaw_is = λ w. ap (λ z. flaws.term_flaw z h) (s.flaw_is w) ∙ u.flaw_is (index_flaw w x);
}

-- a whole index
pub record AlikeIndex (g : derived.Index) (x : Index) : Type 0 where
  pub derived_is : (d : ℕ) (r : List Placed) → derived.index_then g d r ≡ index_then x d r
  pub tree_is : systems.index_of trees g ≡ index_tree x
  pub flaw_is : (w : Option Flaw) → flaws.index_flaw w g ≡ index_flaw w x

pub alike_index : (n : Name) (gs : derived.Terms) (g : derived.Term) (x : Index) → SameIndex n gs g x → AlikeIndex (derived.index n gs g) x
alike_index n gs g x s = record { derived_is = s.derived_is; tree_is = cc (s.word_is, s.places_are); flaw_is = s.flaw_is }

pub record SameAtom (g : derived.Core) (a : Atom) : Type 0 where
  pub derived_is : (d : ℕ) (r : List Placed) → derived.core_then g d r ≡ atom_then a d r
  pub tree_is : (y : Name) → systems.core_of trees y g ≡ in_system y (fact a)
  pub system_is : (y : Name) → systems.core_system y g ≡ y
  pub flaw_is : (w : Option Flaw) → flaws.core_flaw w g ≡ atom_flaw w a

pub same_compare : (g h : derived.Term) (e : Relation) (t u : Term) → Alike g t → Alike h u → SameAtom (derived.compare g e h) (compare t e u)
same_compare g h e t u s v = record {
  derived_is = λ d r.
      s.derived_is d (here (tokens.relation e) d ∷ derived.term_then h d r) ∙ ap (λ z. term_then t d (here (tokens.relation e) d ∷ z)) (v.derived_is d r);
  tree_is = λ y. both (λ (a b : shapes.Term). in_system y (shapes.compare a e b)) s.tree_is v.tree_is;
  system_is = λ y. refl;
  flaw_is = λ w. ap (λ z. flaws.term_flaw z h) (s.flaw_is w) ∙ v.flaw_is (term_flaw w t);
}

pub same_words : (g h : derived.Index) (e : Relation) (x z : Index) → AlikeIndex g x → AlikeIndex h z → SameAtom (derived.words g e h) (words x e z)
same_words g h e x z s v = record {
  derived_is = λ d r.
      s.derived_is d (here (tokens.relation e) d ∷ derived.index_then h d r) ∙ ap (λ q. index_then x d (here (tokens.relation e) d ∷ q)) (v.derived_is d r);
  tree_is = λ y. both (λ (a b : shapes.Index). in_system y (shapes.words a e b)) s.tree_is v.tree_is;
  system_is = λ y. refl;
  flaw_is = λ w. ap (λ q. flaws.index_flaw q h) (s.flaw_is w) ∙ v.flaw_is (index_flaw w x);
}

pub same_word_letter : (g : derived.Index) (e : Relation) (l : Letter) (x : Index) → AlikeIndex g x → SameAtom (derived.word_letter g e l) (word_letter x e l)
same_word_letter g e l x s = record {
  derived_is = λ d r. s.derived_is d (here (tokens.relation e) d ∷ letter_then l d r);
  tree_is = λ y. ap (λ a. in_system y (shapes.word_letter a e (letter_of l))) s.tree_is;
  system_is = λ y. refl;
  flaw_is = s.flaw_is;
}

pub same_letter_word : (g : derived.Index) (e : Relation) (l : Letter) (x : Index) → AlikeIndex g x → SameAtom (derived.letter_word l e g) (letter_word l e x)
same_letter_word g e l x s = record {
  derived_is = λ d r. ap (λ z. letter_then l d (here (tokens.relation e) d ∷ z)) (s.derived_is d r);
  tree_is = λ y. ap (λ a. in_system y (shapes.letter_word (letter_of l) e a)) s.tree_is;
  system_is = λ y. refl;
  flaw_is = s.flaw_is;
}

pub same_call_none : (n : Name) → SameAtom (derived.call_none n) (call_none n)
same_call_none n = record { derived_is = λ d r. refl; tree_is = λ y. refl; system_is = λ y. refl; flaw_is = λ w. refl }

pub same_call : (n : Name) (gs : derived.Terms) (g : derived.Term) (ts : Terms) → SameTerms gs g ts → SameAtom (derived.call n gs g) (call n ts)
same_call n gs g ts s = record {
  derived_is = λ d r.
      ap
      (λ z. here tokens.call_sign d ∷ here (tokens.called n) d ∷ here tokens.opening (suc d) ∷ z)
      (s.derived_is (suc d) (here tokens.closing d ∷ r));
  tree_is = λ y. ap (λ a. in_system y (shapes.call n a)) s.tree_is;
  system_is = λ y. refl;
  flaw_is = s.flaw_is;
}

-- Derivations as the machine reads them, and the tokens that they derive. The last operand of a formula is determined from those before it.
use Rattle.std.specs.Prelude.{ℕ, suc, List, [], ◌∷◌}
use Rattle.formula_parse.specs.Tokens as tokens
use Rattle.formula_parse.specs.Tokens.{Name, Relation, Connective, Sign, Letter, Placed, here, name, number, called, call_sign, negation, quantifier, comma, opening, closing, bracket, unbracket, sign, times, slash, relation, connective, implies, iff, end}
use Rattle.formula_parse.specs.Trees.{Names, no_names, names}
use Rattle.formula_parse.specs.Making.{Binding, some, every, infinite, Kinds, Making}
use Rattle.formula_parse.specs.Machine.{within}
use Rattle.formula_parse.specs.Formulas.{letter_then, marks_then}

-- factor := VAR | NUM | "(" term ")"; prod := [ prod "*" ] factor | prod "/" NUM; term := { prod ("+" | "-") } prod
mutual
  pub data Factor : Type 0 where
    variable : Name → Factor
    numeral : ℕ → Factor
    in_parens : Term → Factor

  pub data Factors : Type 0 where
    no_factors : Factors
    factors : Prod → ℕ → Factors

  pub data Prod : Type 0 where
    prod : Factors → Factor → Prod
    -- the numeral is one more
    divided : Prod → ℕ → Prod

  pub data Addends : Type 0 where
    no_addends : Addends
    addends : Addends → Prod → Sign → Addends

  pub data Term : Type 0 where
    term : Addends → Prod → Term

-- the terms before the last of an index or a call
pub data Terms : Type 0 where
  no_terms : Terms
  terms : Terms → Term → Terms

-- index := WORD "[" { term "]" "[" } term "]"
pub data Index : Type 0 where
  index : Name → Terms → Term → Index

-- An operand that a connective follows has no quantifier at its right end: it is closed. The last of a formula may have one.
-- closed := { "?" SYS } core; core := "~" closed | "(" formula ")" | atom
-- atom := term REL term | index REL index | index REL letter | letter REL index | "$" NAME "(" [ { term "," } term ] ")"
-- last := closed | { { "?" SYS } "~" } { "?" SYS } (("E" | "A") { VAR "," } | "I") VAR formula
-- formula := { imp "<=>" } { chain "=>" } { closed ("&" | "|" | "^") } last; imp := { chain "=>" } chain; chain := { closed ("&" | "|" | "^") } closed
mutual
  pub data Core : Type 0 where
    compare : Term → Relation → Term → Core
    words : Index → Relation → Index → Core
    word_letter : Index → Relation → Letter → Core
    letter_word : Letter → Relation → Index → Core
    call_none : Name → Core
    call : Name → Terms → Term → Core
    not_closed : Closed → Core
    grouped : Formula → Core

  pub data Closed : Type 0 where
    marked : Names → Core → Closed

  pub data Operands : Type 0 where
    no_operands : Operands
    operands : Operands → Closed → Connective → ℕ → Operands

  pub data Chains : Type 0 where
    no_chains : Chains
    chains : Chains → Operands → Closed → ℕ → Chains

  pub data Implications : Type 0 where
    no_implications : Implications
    implications : Implications → Chains → Operands → Closed → Implications

  pub data Last : Type 0 where
    ends : Closed → Last
    -- the marks before each `~`, the last first; the marks, the quantifier and the variables
    quantified : List Names → Names → Binding → Name → Formula → Last

  pub data Formula : Type 0 where
    formula : Implications → Chains → Operands → Last → Formula

-- The tokens that a derivation derives at a nesting, and the rest after them.
abbrev mutual
  pub factor_then : Factor → ℕ → List Placed → List Placed
  factor_then (variable n) d r = here (name n) d ∷ r
  factor_then (numeral n) d r = here (number n) d ∷ r
  factor_then (in_parens t) d r = here opening (suc d) ∷ term_then t (suc d) (here closing d ∷ r)

  pub factors_then : Factors → ℕ → List Placed → List Placed
  factors_then no_factors d r = r
  factors_then (factors m b) d r = prod_then m d (here (times b) d ∷ r)

  pub prod_then : Prod → ℕ → List Placed → List Placed
  prod_then (prod ps f) d r = factors_then ps d (factor_then f d r)
  prod_then (divided m c) d r = prod_then m d (here slash d ∷ here (number (suc c)) d ∷ r)

  pub addends_then : Addends → ℕ → List Placed → List Placed
  addends_then no_addends d r = r
  addends_then (addends ss m s) d r = addends_then ss d (prod_then m d (here (sign s) d ∷ r))

  pub term_then : Term → ℕ → List Placed → List Placed
  term_then (term ss m) d r = addends_then ss d (prod_then m d r)

abbrev pub arguments_then : Terms → ℕ → List Placed → List Placed
arguments_then no_terms d r = r
arguments_then (terms ts t) d r = arguments_then ts d (term_then t d (here comma d ∷ r))

-- each after its bracket, with the bracket of the next
abbrev pub places_then : Terms → ℕ → List Placed → List Placed
places_then no_terms d r = r
places_then (terms ts t) d r = places_then ts d (term_then t (suc d) (here unbracket d ∷ here bracket (suc d) ∷ r))

abbrev pub index_then : Index → ℕ → List Placed → List Placed
index_then (index n ts t) d r = here (name n) d ∷ here bracket (suc d) ∷ places_then ts d (term_then t (suc d) (here unbracket d ∷ r))

abbrev pub variables_then : Names → ℕ → List Placed → List Placed
variables_then no_names d r = r
variables_then (names ns n) d r = variables_then ns d (here (name n) d ∷ here comma d ∷ r)

abbrev pub binding_then : Binding → ℕ → List Placed → List Placed
binding_then (some ns) d r = here (quantifier tokens.some) d ∷ variables_then ns d r
binding_then (every ns) d r = here (quantifier tokens.every) d ∷ variables_then ns d r
binding_then infinite d r = here (quantifier tokens.infinite) d ∷ r

-- some `~`, each with the marks before it, the last first
abbrev pub tildes_then : List Names → ℕ → List Placed → List Placed
tildes_then [] d r = r
tildes_then (ms ∷ st) d r = tildes_then st d (marks_then ms (within st d) (here negation (suc (within st d)) ∷ r))

abbrev mutual
  pub core_then : Core → ℕ → List Placed → List Placed
  core_then (compare t e u) d r = term_then t d (here (relation e) d ∷ term_then u d r)
  core_then (words x e y) d r = index_then x d (here (relation e) d ∷ index_then y d r)
  core_then (word_letter x e l) d r = index_then x d (here (relation e) d ∷ letter_then l d r)
  core_then (letter_word l e x) d r = letter_then l d (here (relation e) d ∷ index_then x d r)
  core_then (call_none n) d r = here call_sign d ∷ here (called n) d ∷ here opening (suc d) ∷ here closing d ∷ r
  core_then (call n ts t) d r = here call_sign d ∷ here (called n) d ∷ here opening (suc d) ∷ arguments_then ts (suc d) (term_then t (suc d) (here closing d ∷ r))
  core_then (not_closed c) d r = here negation (suc d) ∷ closed_then c (suc d) r
  core_then (grouped f) d r = here opening (suc d) ∷ formula_then f (suc d) (here closing d ∷ r)

  pub closed_then : Closed → ℕ → List Placed → List Placed
  closed_then (marked ms c) d r = marks_then ms d (core_then c d r)

  pub operands_then : Operands → ℕ → List Placed → List Placed
  operands_then no_operands d r = r
  operands_then (operands os c k b) d r = operands_then os d (closed_then c d (here (connective k b) d ∷ r))

  pub chains_then : Chains → ℕ → List Placed → List Placed
  chains_then no_chains d r = r
  chains_then (chains hs os c b) d r = chains_then hs d (operands_then os d (closed_then c d (here (implies b) d ∷ r)))

  pub implications_then : Implications → ℕ → List Placed → List Placed
  implications_then no_implications d r = r
  implications_then (implications is hs os c) d r = implications_then is d (chains_then hs d (operands_then os d (closed_then c d (here iff d ∷ r))))

  pub last_then : Last → ℕ → List Placed → List Placed
  last_then (ends c) d r = closed_then c d r
  last_then (quantified st ms q n f) d r =
      tildes_then st d (
      marks_then ms (within st d) (
      binding_then q (suc (within st d)) (here (name n) (suc (within st d)) ∷ formula_then f (suc (within st d)) r)
      )
      )

  pub formula_then : Formula → ℕ → List Placed → List Placed
  formula_then (formula is hs os l) d r = implications_then is d (chains_then hs d (operands_then os d (last_then l d r)))

-- the tokens of a text: those of a formula, and its end
abbrev pub derived_tokens : Formula → List Placed
derived_tokens f = formula_then f 0 (here end 0 ∷ [])

-- derivations themselves are made of derivations
abbrev pub parts : Kinds
parts = record {
  Factor = Factor;
  Factors = Factors;
  Prod = Prod;
  Addends = Addends;
  Term = Term;
  Terms = Terms;
  Index = Index;
  Letter = Letter;
  Core = Core;
  Closed = Closed;
  Operands = Operands;
  Chains = Chains;
  Implications = Implications;
  Last = Last;
  Formula = Formula;
}

abbrev pub derivations : Making parts
derivations = record {
  variable = variable;
  numeral = numeral;
  in_parens = in_parens;
  no_factors = no_factors;
  factors = factors;
  prod = prod;
  divided = divided;
  no_addends = no_addends;
  addends = addends;
  term = term;
  no_terms = no_terms;
  terms = terms;
  index = index;
  letter = λ l. l;
  compare = λ y t e u. compare t e u;
  words = λ y x e z. words x e z;
  word_letter = λ y x e l. word_letter x e l;
  letter_word = λ y l e x. letter_word l e x;
  call_none = λ y n. call_none n;
  call = λ y n ts t. call n ts t;
  not_closed = not_closed;
  grouped = grouped;
  marked = marked;
  no_operands = no_operands;
  operands = operands;
  no_chains = no_chains;
  chains = chains;
  no_implications = no_implications;
  implications = implications;
  ends = ends;
  quantified = quantified;
  formula = formula;
}

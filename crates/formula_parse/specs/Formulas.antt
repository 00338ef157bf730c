-- The grammar of formulas as it is printed: a data type for each line, a constructor for each of its cases, and the tokens that these derive.
-- What repeats, as `prod { ("+" | "-") prod }`, is read from the left: it is one item, or what repeats and an item more.
use Rattle.std.specs.Prelude.{ℕ, suc, Bool, true, false, List, [], ◌∷◌, ⊤}
use Rattle.formula_parse.specs.Tokens as tokens
use Rattle.formula_parse.specs.Tokens.{Name, Relation, Connective, Sign, Letter, Token, Placed, here, value_of}
use Rattle.formula_parse.specs.Trees.{Names, no_names, names}

mutual
  -- factor := VAR | NUM | "(" term ")"
  pub data Factor : Type 0 where
    variable : Name → Factor
    numeral : ℕ → Factor
    in_parens : Term → Factor

  -- prod := factor { "*" factor | "/" NUM }, each `*` with its byte; the numeral after `/` is above 0, and one more than what is kept
  pub data Prod : Type 0 where
    factor : Factor → Prod
    times : Prod → ℕ → Factor → Prod
    divided : Prod → ℕ → Prod

  -- term := prod { ("+" | "-") prod }
  pub data Term : Type 0 where
    prod : Prod → Term
    signed : Term → Sign → Prod → Term

-- index := WORD "[" term "]" { "[" term "]" }
pub data Index : Type 0 where
  word : Name → Term → Index
  further : Index → Term → Index

-- term { "," term }
pub data Terms : Type 0 where
  term : Term → Terms
  comma : Terms → Term → Terms

-- letter := "@" [ "-" ] NUM is a `Letter` of the tokens
-- atom := term REL term | index REL index | index REL letter | letter REL index | "$" NAME "(" [ term { "," term } ] ")"
pub data Atom : Type 0 where
  compare : Term → Relation → Term → Atom
  words : Index → Relation → Index → Atom
  word_letter : Index → Relation → Letter → Atom
  letter_word : Letter → Relation → Index → Atom
  call_none : Name → Atom
  call : Name → Terms → Atom

-- VAR { "," VAR }
pub data Variables : Type 0 where
  variable_one : Name → Variables
  variable_more : Variables → Name → Variables

-- ("E" | "A") VAR { "," VAR } | "I" VAR
pub data Binder : Type 0 where
  some : Variables → Binder
  every : Variables → Binder
  infinite : Name → Binder

mutual
  -- formula := imp { "<=>" imp }
  pub data WrittenFormula : Type 0 where
    imp : Imp → WrittenFormula
    iff : WrittenFormula → Imp → WrittenFormula

  -- imp := chain { "=>" chain }, each `=>` with its byte
  pub data Imp : Type 0 where
    chain : Chain → Imp
    implies : Imp → ℕ → Chain → Imp

  -- chain := operand { ("&" | "|" | "^") operand }, each connective with its byte
  pub data Chain : Type 0 where
    operand : Operand → Chain
    joined : Chain → Connective → ℕ → Operand → Chain

  -- operand := { "?" SYS } core
  pub data Operand : Type 0 where
    marked : Names → Core → Operand

  -- core := "~" operand | ("E" | "A") VAR { "," VAR } formula | "I" VAR formula | "(" formula ")" | atom
  pub data Core : Type 0 where
    negated : Operand → Core
    quantified : Binder → WrittenFormula → Core
    grouped : WrittenFormula → Core
    atom : Atom → Core

-- A quantifier's formula takes all that follows, up to the closing parenthesis or the end: the token after it is one of these.
abbrev pub IsEnding : Token → Type 0
IsEnding tokens.closing = ⊤
IsEnding tokens.end = ⊤
IsEnding _ = ⊥

-- each quantifier in it does, where a token is the next
abbrev mutual
  pub FormulaTakes : WrittenFormula → Token → Type 0
  FormulaTakes (imp i) t = ImpTakes i t
  FormulaTakes (iff f i) t = FormulaTakes f tokens.iff × ImpTakes i t

  pub ImpTakes : Imp → Token → Type 0
  ImpTakes (chain c) t = ChainTakes c t
  ImpTakes (implies i b c) t = ImpTakes i (tokens.implies b) × ChainTakes c t

  pub ChainTakes : Chain → Token → Type 0
  ChainTakes (operand o) t = OperandTakes o t
  ChainTakes (joined c k b o) t = ChainTakes c (tokens.connective k b) × OperandTakes o t

  pub OperandTakes : Operand → Token → Type 0
  OperandTakes (marked ms c) t = CoreTakes c t

  pub CoreTakes : Core → Token → Type 0
  CoreTakes (negated o) t = OperandTakes o t
  CoreTakes (quantified q f) t = IsEnding t × FormulaTakes f t
  CoreTakes (grouped f) t = FormulaTakes f tokens.closing
  CoreTakes (atom a) t = ⊤

-- The tokens of each at a nesting, and the rest after them: parentheses, brackets, `~` and quantifiers nest.
abbrev mutual
  pub factor_then : Factor → ℕ → List Placed → List Placed
  factor_then (variable n) d r = here (tokens.name n) d ∷ r
  factor_then (numeral n) d r = here (tokens.number n) d ∷ r
  factor_then (in_parens t) d r = here tokens.opening (suc d) ∷ term_then t (suc d) (here tokens.closing d ∷ r)

  pub prod_then : Prod → ℕ → List Placed → List Placed
  prod_then (factor f) d r = factor_then f d r
  prod_then (times p b f) d r = prod_then p d (here (tokens.times b) d ∷ factor_then f d r)
  prod_then (divided p c) d r = prod_then p d (here tokens.slash d ∷ here (tokens.number (suc c)) d ∷ r)

  pub term_then : Term → ℕ → List Placed → List Placed
  term_then (prod p) d r = prod_then p d r
  term_then (signed t s p) d r = term_then t d (here (tokens.sign s) d ∷ prod_then p d r)

abbrev pub index_then : Index → ℕ → List Placed → List Placed
index_then (word n t) d r = here (tokens.name n) d ∷ here tokens.bracket (suc d) ∷ term_then t (suc d) (here tokens.unbracket d ∷ r)
index_then (further x t) d r = index_then x d (here tokens.bracket (suc d) ∷ term_then t (suc d) (here tokens.unbracket d ∷ r))

abbrev pub terms_then : Terms → ℕ → List Placed → List Placed
terms_then (term t) d r = term_then t d r
terms_then (comma ts t) d r = terms_then ts d (here tokens.comma d ∷ term_then t d r)

abbrev pub minus_then : Bool → ℕ → List Placed → List Placed
minus_then true d r = here (tokens.sign tokens.minus) d ∷ r
minus_then false d r = r

abbrev pub letter_then : Letter → ℕ → List Placed → List Placed
letter_then l d r = here (tokens.letter_sign l.at) d ∷ minus_then l.negative d (value_of l d ∷ r)

abbrev pub atom_then : Atom → ℕ → List Placed → List Placed
atom_then (compare t e u) d r = term_then t d (here (tokens.relation e) d ∷ term_then u d r)
atom_then (words x e z) d r = index_then x d (here (tokens.relation e) d ∷ index_then z d r)
atom_then (word_letter x e l) d r = index_then x d (here (tokens.relation e) d ∷ letter_then l d r)
atom_then (letter_word l e x) d r = letter_then l d (here (tokens.relation e) d ∷ index_then x d r)
atom_then (call_none n) d r = here tokens.call_sign d ∷ here (tokens.called n) d ∷ here tokens.opening (suc d) ∷ here tokens.closing d ∷ r
atom_then (call n ts) d r =
    here tokens.call_sign d ∷ here (tokens.called n) d ∷ here tokens.opening (suc d) ∷ terms_then ts (suc d) (here tokens.closing d ∷ r)

abbrev pub variables_then : Variables → ℕ → List Placed → List Placed
variables_then (variable_one n) d r = here (tokens.name n) d ∷ r
variables_then (variable_more vs n) d r = variables_then vs d (here tokens.comma d ∷ here (tokens.name n) d ∷ r)

abbrev pub binder_then : Binder → ℕ → List Placed → List Placed
binder_then (some vs) d r = here (tokens.quantifier tokens.some) d ∷ variables_then vs d r
binder_then (every vs) d r = here (tokens.quantifier tokens.every) d ∷ variables_then vs d r
binder_then (infinite n) d r = here (tokens.quantifier tokens.infinite) d ∷ here (tokens.name n) d ∷ r

abbrev pub marks_then : Names → ℕ → List Placed → List Placed
marks_then no_names d r = r
marks_then (names ms n) d r = marks_then ms d (here tokens.mark d ∷ here (tokens.system n) d ∷ r)

abbrev mutual
  pub formula_then : WrittenFormula → ℕ → List Placed → List Placed
  formula_then (imp i) d r = imp_then i d r
  formula_then (iff f i) d r = formula_then f d (here tokens.iff d ∷ imp_then i d r)

  pub imp_then : Imp → ℕ → List Placed → List Placed
  imp_then (chain c) d r = chain_then c d r
  imp_then (implies i b c) d r = imp_then i d (here (tokens.implies b) d ∷ chain_then c d r)

  pub chain_then : Chain → ℕ → List Placed → List Placed
  chain_then (operand o) d r = operand_then o d r
  chain_then (joined c k b o) d r = chain_then c d (here (tokens.connective k b) d ∷ operand_then o d r)

  pub operand_then : Operand → ℕ → List Placed → List Placed
  operand_then (marked ms c) d r = marks_then ms d (core_then c d r)

  pub core_then : Core → ℕ → List Placed → List Placed
  core_then (negated o) d r = here tokens.negation (suc d) ∷ operand_then o (suc d) r
  core_then (quantified q f) d r = binder_then q (suc d) (formula_then f (suc d) r)
  core_then (grouped f) d r = here tokens.opening (suc d) ∷ formula_then f (suc d) (here tokens.closing d ∷ r)
  core_then (atom a) d r = atom_then a d r

-- the tokens of a text: those of a formula, and its end
abbrev pub derived_tokens : WrittenFormula → List Placed
derived_tokens f = formula_then f 0 (here tokens.end 0 ∷ [])

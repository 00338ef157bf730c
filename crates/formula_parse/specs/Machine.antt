-- A machine that reads tokens, over any way of making trees.
use Rattle.std.specs.Prelude.{ℕ, suc, Bool, true, false, ◌&&◌, List, [], ◌∷◌, Option, None, Some}
use Rattle.formula_parse.specs.Tokens as tokens
use Rattle.formula_parse.specs.Tokens.{Name, Relation, Quantifier, Letter, Token, name, number, system, called, mark, call_sign, negation, quantifier, comma, opening, closing, bracket, unbracket, letter_sign, sign, minus, times, slash, relation, connective, implies, iff, end}
use Rattle.formula_parse.specs.Trees.{Names, no_names, names}
use Rattle.formula_parse.specs.Making.{Binding, some, every, infinite, Kinds, Making}
use Rattle.formula_parse.specs.Flaws.{Flaw, mixed_chain, Product, product_start, product_next, noted_if, noted_factor, Came, none_came, came_next, mixes}

-- what comes before the next operand of a formula
pub record Prefix (K : Kinds) : Type 0 where
  pub implications : K.Implications
  pub chains : K.Chains
  pub operands : K.Operands
  pub came : Came
  pub implied : Bool

-- A formula that is being read: its nesting, its prefix, the marks and `~` before the operand that comes; whether anything has come.
pub record Body (K : Kinds) : Type 0 where
  pub base : ℕ
  pub prefix : Prefix K
  pub tildes : List Names
  pub marks : Names
  pub touched : Bool

-- a formula inside of which another one was opened
pub data Frame (K : Kinds) : Type 0 where
  -- by a parenthesis, with the system in force before it
  paren : Body K → Name → Frame K
  scope : Binding → Name → Body K → Frame K

-- a term inside of which a parenthesis was opened
pub record Outer (K : Kinds) : Type 0 where
  pub addends : K.Addends
  pub factors : K.Factors
  pub product : Product

-- what comes before the index on the right
pub data Aim (K : Kinds) : Type 0 where
  left_index : K.Index → Relation → Aim K
  left_letter : K.Letter → Relation → Aim K

-- which of the two indices of an atom
pub data Side (K : Kinds) : Type 0 where
  first : Side K
  second : Aim K → Side K

-- what a term is in its atom
pub data Role (K : Kinds) : Type 0 where
  left_side : Role K
  right_of : K.Term → Relation → Role K
  place_in : Side K → Name → K.Terms → Role K
  argument : Name → K.Terms → Role K

-- where a letter is
pub data Representation (K : Kinds) : Type 0 where
  on_left : Representation K
  on_right : K.Index → Relation → Representation K

pub data Position (K : Kinds) : Type 0 where
  at_operand : Position K
  at_system : Position K
  at_variable : Binding → Position K
  after_operand : K.Core → Position K
  -- a name that begins an operand: a variable or a word
  after_first : Name → Position K
  -- where the term is, the terms around, the products and the factors before, what they are
  at_factor : Role K → List (Outer K) → K.Addends → K.Factors → Product → Position K
  -- and the product so far, what came before its last factor, and whether it ends in a factor that is a numeral
  after_factor : Role K → List (Outer K) → K.Addends → K.Prod → Product → Bool → Position K
  at_divisor : Role K → List (Outer K) → K.Addends → K.Prod → Product → Position K
  after_index : Side K → Name → K.Terms → K.Term → Position K
  at_word : Aim K → Position K
  at_bracket : Aim K → Name → Position K
  at_letter : Representation K → ℕ → Position K
  at_value : Representation K → ℕ → Position K
  after_letter : K.Letter → Position K
  at_called : Position K
  at_call : Name → Position K
  at_argument : Name → Position K
  done : K.Formula → Position K

pub record State (K : Kinds) : Type 0 where
  pub around : List (Frame K)
  pub body : Body K
  pub system : Name
  pub flaw : Option Flaw
  pub position : Position K

-- the nesting after some `~`
abbrev pub within : List Names → ℕ → ℕ
within [] d = d
within (ms ∷ st) d = suc (within st d)

-- the nesting of the operand that comes
abbrev pub operand_nesting : {K : Kinds} → Body K → ℕ
operand_nesting g = within g.tildes g.base

abbrev pub within_role : {K : Kinds} → Role K → ℕ → ℕ
within_role left_side d = d
within_role (right_of t e) d = d
within_role (place_in s n ts) d = suc d
within_role (argument n ts) d = suc d

abbrev pub within_outer : {K : Kinds} → List (Outer K) → ℕ → ℕ
within_outer [] d = d
within_outer (x ∷ o) d = suc (within_outer o d)

abbrev pub within_position : {K : Kinds} → Position K → ℕ → ℕ
within_position (at_variable q) d = suc d
within_position (at_factor h o ss ps p) d = within_outer o (within_role h d)
within_position (after_factor h o ss m p q) d = within_outer o (within_role h d)
within_position (at_divisor h o ss m p) d = within_outer o (within_role h d)
within_position (at_argument n) d = suc d
within_position at_operand d = d
within_position at_system d = d
within_position (after_operand c) d = d
within_position (after_first n) d = d
within_position (after_index s n ts t) d = d
within_position (at_word a) d = d
within_position (at_bracket a n) d = d
within_position (at_letter c b) d = d
within_position (at_value c b) d = d
within_position (after_letter l) d = d
within_position at_called d = d
within_position (at_call n) d = d
within_position (done f) d = d

-- the nesting of a state
abbrev pub depth : {K : Kinds} → State K → ℕ
depth s = within_position s.position (operand_nesting s.body)

-- a quantifier of which no variable has come
abbrev pub begun : Quantifier → Binding
begun tokens.some = some no_names
begun tokens.every = every no_names
begun tokens.infinite = infinite

-- with a variable that is not the last
abbrev pub with_variable : Binding → Name → Option Binding
with_variable (some ns) n = Some (some (names ns n))
with_variable (every ns) n = Some (every (names ns n))
with_variable infinite n = None

module _ {K : Kinds} (A : Making K) where
  abbrev pub empty_prefix : Prefix K
  empty_prefix =
      record { implications = A.no_implications; chains = A.no_chains; operands = A.no_operands; came = none_came; implied = false }

  -- a formula of which nothing has come
  abbrev pub fresh : ℕ → Body K
  fresh d = record { base = d; prefix = empty_prefix; tildes = []; marks = no_names; touched = false }

  -- a formula with a prefix, before the operand that comes
  abbrev pub with_prefix : Body K → Prefix K → Body K
  with_prefix g r = record { base = g.base; prefix = r; tildes = []; marks = no_names; touched = true }

  abbrev pub wrapped : List Names → K.Closed → K.Closed
  wrapped [] c = c
  wrapped (ms ∷ st) c = wrapped st (A.marked ms (A.not_closed c))

  -- an operand with what comes before it
  abbrev pub closed : Body K → K.Core → K.Closed
  closed g c = wrapped g.tildes (A.marked g.marks c)

  abbrev pub whole : Prefix K → K.Last → K.Formula
  whole r l = A.formula r.implications r.chains r.operands l

  abbrev pub moved : State K → Position K → Option (State K)
  moved s p = Some (record s { position = p })

  -- a `)` or the end of the text after a formula
  abbrev pub close : Option Flaw → List (Frame K) → K.Formula → Token → Option (State K)
  close w [] f end = Some (record { around = []; body = fresh 0; system = []; flaw = w; position = done f })
  close w [] f t = None
  close w (paren h y ∷ hs) f closing =
      Some (record { around = hs; body = h; system = y; flaw = w; position = after_operand (A.grouped f) })
  close w (paren h y ∷ hs) f t = None
  close w (scope q n h ∷ hs) f t = close w hs (whole h.prefix (A.quantified h.tildes h.marks q n f)) t

  abbrev pub joined : State K → Prefix K → Option Flaw → Option (State K)
  joined s r w = Some (record { around = s.around; body = with_prefix s.body r; system = s.system; flaw = w; position = at_operand })

  -- a token after a closed operand
  abbrev pub leave_closed : State K → Prefix K → K.Closed → Token → Option (State K)
  leave_closed s r c (connective k b) =
      joined s (record r { operands = A.operands r.operands c k b; came = came_next k r.came }) (noted_if (mixes k r.came) (mixed_chain b) s.flaw)
  leave_closed s r c (implies b) =
      joined
      s
      (record { implications = r.implications; chains = A.chains r.chains r.operands c b; operands = A.no_operands; came = none_came; implied = true })
      (noted_if r.implied (mixed_chain b) s.flaw)
  leave_closed s r c iff =
      joined
      s
      (record {
        implications = A.implications r.implications r.chains r.operands c;
        chains = A.no_chains;
        operands = A.no_operands;
        came = none_came;
        implied = false;
      })
      s.flaw
  leave_closed s r c t = close s.flaw s.around (whole r (A.ends c)) t

  abbrev pub leave : State K → K.Core → Token → Option (State K)
  leave s c t = leave_closed s s.body.prefix (closed s.body c) t

  -- a factor was read
  abbrev pub with_factor : State K → Role K → List (Outer K) → K.Addends → K.Factors → Product → K.Factor → Bool → State K
  with_factor s h o ss ps p f q = record s { flaw = noted_factor p q s.flaw; position = after_factor h o ss (A.prod ps f) p q }

  -- a `)` after a term that is no side of a relation: its parenthesis was a term's
  abbrev pub close_term : State K → List (Frame K) → Bool → K.Term → Bool → Option (State K)
  close_term s (paren h y ∷ hs) false t q =
      Some (
      record {
        around = hs;
        body = h;
        system = y;
        flaw = s.flaw;
        position = after_factor left_side [] A.no_addends (A.prod A.no_factors (A.in_parens t)) (product_start true) q;
      }
      )
  close_term s (paren h y ∷ hs) true t q = None
  close_term s (scope e n h ∷ hs) b t q = None
  close_term s [] b t q = None

  -- a term begins
  abbrev pub at_term : State K → Role K → Option (State K)
  at_term s h = moved s (at_factor h [] A.no_addends A.no_factors (product_start true))

  -- a token after a whole term
  abbrev pub leave_whole : State K → Role K → K.Term → Bool → Token → Option (State K)
  leave_whole s left_side t q (relation e) = at_term s (right_of t e)
  leave_whole s left_side t q closing = close_term s s.around s.body.touched t q
  leave_whole s left_side t q _ = None
  leave_whole s (right_of l e) t q u = leave s (A.compare s.system l e t) u
  leave_whole s (place_in d n ts) t q unbracket = moved s (after_index d n ts t)
  leave_whole s (place_in d n ts) t q _ = None
  leave_whole s (argument n ts) t q comma = at_term s (argument n (A.terms ts t))
  leave_whole s (argument n ts) t q closing = moved s (after_operand (A.call s.system n ts t))
  leave_whole s (argument n ts) t q _ = None

  -- a token after a product
  abbrev pub leave_product : State K → Role K → List (Outer K) → K.Term → Bool → Token → Option (State K)
  leave_product s h [] t q u = leave_whole s h t q u
  leave_product s h (x ∷ o) t q closing = Some (with_factor s h o x.addends x.factors x.product (A.in_parens t) q)
  leave_product s h (x ∷ o) t q _ = None

  -- a token after a factor or a divisor
  abbrev pub leave_factor : State K → Role K → List (Outer K) → K.Addends → K.Prod → Product → Bool → Token → Option (State K)
  leave_factor s h o ss m p q (times b) = moved s (at_factor h o ss (A.factors m b) (product_next p q b))
  leave_factor s h o ss m p q slash = moved s (at_divisor h o ss m p)
  leave_factor s h o ss m p q (sign e) = moved s (at_factor h o (A.addends ss m e) A.no_factors (product_start false))
  leave_factor s h o ss m p q t = leave_product s h o (A.term ss m) (p.lone && q) t

  -- a quotient is no numeral
  abbrev pub enter_divisor : State K → Role K → List (Outer K) → K.Addends → K.Prod → Product → Token → Option (State K)
  enter_divisor s h o ss m p (number (suc c)) = moved s (after_factor h o ss (A.divided m c) p false)
  enter_divisor s h o ss m p _ = None

  abbrev pub leave_first : State K → Name → Token → Option (State K)
  leave_first s n bracket = at_term s (place_in first n A.no_terms)
  leave_first s n t = leave_factor s left_side [] A.no_addends (A.prod A.no_factors (A.variable n)) (product_start true) false t

  abbrev pub leave_side : State K → Side K → K.Index → Token → Option (State K)
  leave_side s first x (relation e) = moved s (at_word (left_index x e))
  leave_side s first x _ = None
  leave_side s (second (left_index z e)) x t = leave s (A.words s.system z e x) t
  leave_side s (second (left_letter l e)) x t = leave s (A.letter_word s.system l e x) t

  abbrev pub leave_index : State K → Side K → Name → K.Terms → K.Term → Token → Option (State K)
  leave_index s d n ts t bracket = at_term s (place_in d n (A.terms ts t))
  leave_index s d n ts t u = leave_side s d (A.index n ts t) u

  abbrev pub enter_word : State K → Aim K → Token → Option (State K)
  enter_word s a (name n) = moved s (at_bracket a n)
  enter_word s (left_index x e) (letter_sign b) = moved s (at_letter (on_right x e) b)
  enter_word s a _ = None

  abbrev pub enter_bracket : State K → Aim K → Name → Token → Option (State K)
  enter_bracket s a n bracket = at_term s (place_in (second a) n A.no_terms)
  enter_bracket s a n _ = None

  abbrev pub with_letter : State K → Representation K → Letter → Option (State K)
  with_letter s on_left l = moved s (after_letter (A.letter l))
  with_letter s (on_right x e) l = moved s (after_operand (A.word_letter s.system x e (A.letter l)))

  abbrev pub enter_letter : State K → Representation K → ℕ → Token → Option (State K)
  enter_letter s c b (number v) = with_letter s c (record { at = b; negative = false; value = v })
  enter_letter s c b (sign minus) = moved s (at_value c b)
  enter_letter s c b _ = None

  abbrev pub enter_value : State K → Representation K → ℕ → Token → Option (State K)
  enter_value s c b (number v) = with_letter s c (record { at = b; negative = true; value = v })
  enter_value s c b _ = None

  abbrev pub leave_letter : State K → K.Letter → Token → Option (State K)
  leave_letter s l (relation e) = moved s (at_word (left_letter l e))
  leave_letter s l _ = None

  abbrev pub enter_called : State K → Token → Option (State K)
  enter_called s (called n) = moved s (at_call n)
  enter_called s _ = None

  abbrev pub enter_call : State K → Name → Token → Option (State K)
  enter_call s n opening = moved s (at_argument n)
  enter_call s n _ = None

  abbrev pub enter_factor : State K → Role K → List (Outer K) → K.Addends → K.Factors → Product → Token → Option (State K)
  enter_factor s h o ss ps p opening =
      moved s (at_factor h (record { addends = ss; factors = ps; product = p } ∷ o) A.no_addends A.no_factors (product_start true))
  enter_factor s h o ss ps p (name n) = Some (with_factor s h o ss ps p (A.variable n) false)
  enter_factor s h o ss ps p (number n) = Some (with_factor s h o ss ps p (A.numeral n) true)
  enter_factor s h o ss ps p _ = None

  abbrev pub enter_argument : State K → Name → Token → Option (State K)
  enter_argument s n closing = moved s (after_operand (A.call_none s.system n))
  enter_argument s n t = enter_factor s (argument n A.no_terms) [] A.no_addends A.no_factors (product_start true) t

  abbrev pub at_next : State K → List (Frame K) → Body K → Option Binding → Option (State K)
  at_next s hs h None = None
  at_next s hs h (Some q) = Some (record { around = hs; body = h; system = s.system; flaw = s.flaw; position = at_variable q })

  -- a `,` directly after a quantifier's variable
  abbrev pub next_variable : State K → List (Frame K) → Bool → Option (State K)
  next_variable s (scope q n h ∷ hs) false = at_next s hs h (with_variable q n)
  next_variable s (scope q n h ∷ hs) true = None
  next_variable s (paren h y ∷ hs) b = None
  next_variable s [] b = None

  -- a token where an operand may begin
  abbrev pub enter : State K → Token → Option (State K)
  enter s mark = moved s at_system
  enter s negation =
      Some (
      record s {
        body = record s.body { tildes = s.body.marks ∷ s.body.tildes; marks = no_names; touched = true };
        position = at_operand;
      }
      )
  enter s (quantifier q) = moved s (at_variable (begun q))
  enter s opening =
      Some (
      record s {
        around = paren s.body s.system ∷ s.around;
        body = fresh (suc (operand_nesting s.body));
        position = at_operand;
      }
      )
  enter s (name n) = moved s (after_first n)
  enter s (number n) = Some (with_factor s left_side [] A.no_addends A.no_factors (product_start true) (A.numeral n) true)
  enter s (letter_sign b) = moved s (at_letter on_left b)
  enter s call_sign = moved s at_called
  enter s comma = next_variable s s.around s.body.touched
  enter s _ = None

  abbrev pub enter_system : State K → Token → Option (State K)
  enter_system s (system n) =
      Some (record s { body = record s.body { marks = names s.body.marks n; touched = true }; system = n; position = at_operand })
  enter_system s _ = None

  abbrev pub enter_variable : State K → Binding → Token → Option (State K)
  enter_variable s q (name n) =
      Some (
      record s {
        around = scope q n s.body ∷ s.around;
        body = fresh (suc (operand_nesting s.body));
        position = at_operand;
      }
      )
  enter_variable s q _ = None

  abbrev pub step_at : State K → Position K → Token → Option (State K)
  step_at s at_operand t = enter s t
  step_at s at_system t = enter_system s t
  step_at s (at_variable q) t = enter_variable s q t
  step_at s (after_operand c) t = leave s c t
  step_at s (after_first n) t = leave_first s n t
  step_at s (at_factor h o ss ps p) t = enter_factor s h o ss ps p t
  step_at s (after_factor h o ss m p q) t = leave_factor s h o ss m p q t
  step_at s (at_divisor h o ss m p) t = enter_divisor s h o ss m p t
  step_at s (after_index d n ts u) t = leave_index s d n ts u t
  step_at s (at_word a) t = enter_word s a t
  step_at s (at_bracket a n) t = enter_bracket s a n t
  step_at s (at_letter c b) t = enter_letter s c b t
  step_at s (at_value c b) t = enter_value s c b t
  step_at s (after_letter l) t = leave_letter s l t
  step_at s at_called t = enter_called s t
  step_at s (at_call n) t = enter_call s n t
  step_at s (at_argument n) t = enter_argument s n t
  step_at s (done f) t = None

  -- one token
  abbrev pub step : State K → Token → Option (State K)
  step s t = step_at s s.position t

  abbrev pub start : Name → State K
  start y = record { around = []; body = fresh 0; system = y; flaw = None; position = at_operand }

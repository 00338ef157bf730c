-- The machine goes on at the same tokens, whatever trees it makes: seen without its trees, it is one machine.
use Rattle.std.proofs.Common.{◌≡◌, refl, ◌∙◌, ap, ℕ, zero, suc, Bool, true, false, List, [], ◌∷◌, Option, None, Some}
use Rattle.formula_parse.specs.Tokens.{Name, Token, name, number, system, called, mark, call_sign, negation, quantifier, comma, opening, closing, bracket, unbracket, letter_sign, sign, minus, times, slash, relation, connective, implies, iff, end}
use Rattle.formula_parse.specs.Making.{Binding, some, every, infinite, Kinds, Making}
use Rattle.formula_parse.specs.Flaws.{Flaw, Product, product_start}
use Rattle.formula_parse.specs.Machine.{Prefix, Body, Frame, Outer, Aim, Side, Role, Representation, Position, State, left_index, left_letter, first, second, left_side, right_of, place_in, argument, on_left, on_right, at_operand, at_system, at_variable, after_operand, after_first, at_factor, after_factor, at_divisor, after_index, at_word, at_bracket, at_letter, at_value, after_letter, at_called, at_call, at_argument, done, paren, scope, close, whole, closed, leave_closed, leave, close_term, leave_whole, leave_product, leave_factor, enter_divisor, leave_first, leave_side, leave_index, enter_word, enter_bracket, enter_letter, enter_value, leave_letter, enter_called, enter_call, enter_factor, enter_argument, with_variable, at_next, next_variable, enter, enter_system, enter_variable, step, step_at, operand_nesting, within_role, within_outer, within_position, depth}
use Rattle.formula_parse.specs.Runs.{placed}

-- nothing is made
abbrev pub nothing : Kinds
nothing = record {
  Factor = Unit {0};
  Factors = Unit {0};
  Prod = Unit {0};
  Addends = Unit {0};
  Term = Unit {0};
  Terms = Unit {0};
  Index = Unit {0};
  Letter = Unit {0};
  Core = Unit {0};
  Closed = Unit {0};
  Operands = Unit {0};
  Chains = Unit {0};
  Implications = Unit {0};
  Last = Unit {0};
  Formula = Unit {0};
}

abbrev pub none : Making nothing
none = record {
  variable = λ n. tt;
  numeral = λ n. tt;
  in_parens = λ t. tt;
  no_factors = tt;
  factors = λ m b. tt;
  prod = λ ps f. tt;
  divided = λ m c. tt;
  no_addends = tt;
  addends = λ ss m s. tt;
  term = λ ss m. tt;
  no_terms = tt;
  terms = λ ts t. tt;
  index = λ n ts t. tt;
  letter = λ l. tt;
  compare = λ y t e u. tt;
  words = λ y x e z. tt;
  word_letter = λ y x e l. tt;
  letter_word = λ y l e x. tt;
  call_none = λ y n. tt;
  call = λ y n ts t. tt;
  not_closed = λ c. tt;
  grouped = λ f. tt;
  marked = λ ms c. tt;
  no_operands = tt;
  operands = λ os c k b. tt;
  no_chains = tt;
  chains = λ hs os c b. tt;
  no_implications = tt;
  implications = λ is hs os c. tt;
  ends = λ c. tt;
  quantified = λ ts ms q n f. tt;
  formula = λ is hs os l. tt;
}

module _ {K : Kinds} where
  abbrev pub bare_prefix : Prefix K → Prefix nothing
  bare_prefix r = record { implications = tt; chains = tt; operands = tt; came = r.came; implied = r.implied }

  abbrev pub bare_body : Body K → Body nothing
  bare_body g = record { base = g.base; prefix = bare_prefix g.prefix; tildes = g.tildes; marks = g.marks; touched = g.touched }

  abbrev pub bare_frames : List (Frame K) → List (Frame nothing)
  bare_frames [] = []
  bare_frames (paren h y ∷ hs) = paren (bare_body h) y ∷ bare_frames hs
  bare_frames (scope q n h ∷ hs) = scope q n (bare_body h) ∷ bare_frames hs

  abbrev pub bare_outer : List (Outer K) → List (Outer nothing)
  bare_outer [] = []
  bare_outer (x ∷ o) = record { addends = tt; factors = tt; product = x.product } ∷ bare_outer o

  abbrev pub bare_aim : Aim K → Aim nothing
  bare_aim (left_index x e) = left_index tt e
  bare_aim (left_letter l e) = left_letter tt e

  abbrev pub bare_side : Side K → Side nothing
  bare_side first = first
  bare_side (second a) = second (bare_aim a)

  abbrev pub bare_role : Role K → Role nothing
  bare_role left_side = left_side
  bare_role (right_of t e) = right_of tt e
  bare_role (place_in a n ts) = place_in (bare_side a) n tt
  bare_role (argument n ts) = argument n tt

  abbrev pub bare_representation : Representation K → Representation nothing
  bare_representation on_left = on_left
  bare_representation (on_right x e) = on_right tt e

  abbrev pub bare_position : Position K → Position nothing
  bare_position at_operand = at_operand
  bare_position at_system = at_system
  bare_position (at_variable q) = at_variable q
  bare_position (after_operand c) = after_operand tt
  bare_position (after_first n) = after_first n
  bare_position (at_factor h o ss ps p) = at_factor (bare_role h) (bare_outer o) tt tt p
  bare_position (after_factor h o ss m p q) = after_factor (bare_role h) (bare_outer o) tt tt p q
  bare_position (at_divisor h o ss m p) = at_divisor (bare_role h) (bare_outer o) tt tt p
  bare_position (after_index a n ts t) = after_index (bare_side a) n tt tt
  bare_position (at_word a) = at_word (bare_aim a)
  bare_position (at_bracket a n) = at_bracket (bare_aim a) n
  bare_position (at_letter c b) = at_letter (bare_representation c) b
  bare_position (at_value c b) = at_value (bare_representation c) b
  bare_position (after_letter l) = after_letter tt
  bare_position at_called = at_called
  bare_position (at_call n) = at_call n
  bare_position (at_argument n) = at_argument n
  bare_position (done f) = done tt

  abbrev pub bare : State K → State nothing
  bare s = record { around = bare_frames s.around; body = bare_body s.body; system = s.system; flaw = s.flaw; position = bare_position s.position }

  abbrev pub bared : Option (State K) → Option (State nothing)
  bared None = None
  bared (Some s) = Some (bare s)

module _ {K : Kinds} (A : Making K) where
  close_same : (w : Option Flaw) (gs : List (Frame K)) (f : K.Formula) (t : Token) → close none w (bare_frames gs) tt t ≡ bared (close A w gs f t)
  close_same w [] f end = refl
  close_same w [] f _ = refl
  close_same w (paren h y ∷ hs) f closing = refl
  close_same w (paren h y ∷ hs) f _ = refl
  close_same w (scope k n h ∷ hs) f t = close_same w hs (whole A h.prefix (A.quantified h.tildes h.marks k n f)) t

  closed_same : (s : State K) (r : Prefix K) (c : K.Closed) (t : Token) → leave_closed none (bare s) (bare_prefix r) tt t ≡ bared (leave_closed A s r c t)
  closed_same s r c (connective k b) = refl
  closed_same s r c (implies b) = refl
  closed_same s r c iff = refl
  closed_same s r c t = close_same s.flaw s.around (whole A r (A.ends c)) t

  leave_same : (s : State K) (c : K.Core) (t : Token) → leave none (bare s) tt t ≡ bared (leave A s c t)
  leave_same s c t = closed_same s s.body.prefix (closed A s.body c) t

  close_term_same : (s : State K) (gs : List (Frame K)) (b : Bool) (t : K.Term) (q : Bool) → close_term none (bare s) (bare_frames gs) b tt q ≡ bared (close_term A s gs b t q)
  close_term_same s (paren h y ∷ hs) false t q = refl
  close_term_same s (paren h y ∷ hs) true t q = refl
  close_term_same s (scope k n h ∷ hs) b t q = refl
  close_term_same s [] b t q = refl

  whole_same : (s : State K) (h : Role K) (t : K.Term) (q : Bool) (u : Token) → leave_whole none (bare s) (bare_role h) tt q u ≡ bared (leave_whole A s h t q u)
  whole_same s left_side t q (relation k) = refl
  whole_same s left_side t q closing = close_term_same s s.around s.body.touched t q
  whole_same s left_side t q _ = refl
  whole_same s (right_of l k) t q u = leave_same s (A.compare s.system l k t) u
  whole_same s (place_in a n ts) t q unbracket = refl
  whole_same s (place_in a n ts) t q _ = refl
  whole_same s (argument n ts) t q comma = refl
  whole_same s (argument n ts) t q closing = refl
  whole_same s (argument n ts) t q _ = refl

  product_same : (s : State K) (h : Role K) (o : List (Outer K)) (t : K.Term) (q : Bool) (u : Token) → leave_product none (bare s) (bare_role h) (bare_outer o) tt q u ≡ bared (leave_product A s h o t q u)
  product_same s h [] t q u = whole_same s h t q u
  product_same s h (x ∷ o) t q closing = refl
  product_same s h (x ∷ o) t q _ = refl

  leave_factor_same : (s : State K) (h : Role K) (o : List (Outer K)) (ss : K.Addends) (m : K.Prod) (p : Product) (q : Bool) (u : Token) → leave_factor none (bare s) (bare_role h) (bare_outer o) tt tt p q u ≡ bared (leave_factor A s h o ss m p q u)
  leave_factor_same s h o ss m p q (times b) = refl
  leave_factor_same s h o ss m p q slash = refl
  leave_factor_same s h o ss m p q (sign k) = refl
  leave_factor_same s h o ss m p q t = product_same s h o (A.term ss m) _ t

  divisor_same : (s : State K) (h : Role K) (o : List (Outer K)) (ss : K.Addends) (m : K.Prod) (p : Product) (u : Token) → enter_divisor none (bare s) (bare_role h) (bare_outer o) tt tt p u ≡ bared (enter_divisor A s h o ss m p u)
  divisor_same s h o ss m p (number (suc c)) = refl
  divisor_same s h o ss m p (number zero) = refl
  divisor_same s h o ss m p _ = refl

  first_same : (s : State K) (n : Name) (u : Token) → leave_first none (bare s) n u ≡ bared (leave_first A s n u)
  first_same s n bracket = refl
  first_same s n t = leave_factor_same s left_side [] A.no_addends (A.prod A.no_factors (A.variable n)) (product_start true) false t

  side_same : (s : State K) (a : Side K) (x : K.Index) (u : Token) → leave_side none (bare s) (bare_side a) tt u ≡ bared (leave_side A s a x u)
  side_same s first x (relation k) = refl
  side_same s first x _ = refl
  side_same s (second (left_index z k)) x u = leave_same s (A.words s.system z k x) u
  side_same s (second (left_letter l k)) x u = leave_same s (A.letter_word s.system l k x) u

  index_same : (s : State K) (a : Side K) (n : Name) (ts : K.Terms) (t : K.Term) (u : Token) → leave_index none (bare s) (bare_side a) n tt tt u ≡ bared (leave_index A s a n ts t u)
  index_same s a n ts t bracket = refl
  index_same s a n ts t u = side_same s a (A.index n ts t) u

  word_same : (s : State K) (a : Aim K) (u : Token) → enter_word none (bare s) (bare_aim a) u ≡ bared (enter_word A s a u)
  word_same s a (name n) = refl
  word_same s (left_index x k) (letter_sign b) = refl
  word_same s (left_letter l k) (letter_sign b) = refl
  word_same s a _ = refl

  bracket_same : (s : State K) (a : Aim K) (n : Name) (u : Token) → enter_bracket none (bare s) (bare_aim a) n u ≡ bared (enter_bracket A s a n u)
  bracket_same s a n bracket = refl
  bracket_same s a n _ = refl

  letter_same : (s : State K) (c : Representation K) (b : ℕ) (u : Token) → enter_letter none (bare s) (bare_representation c) b u ≡ bared (enter_letter A s c b u)
  letter_same s on_left b (number v) = refl
  letter_same s (on_right x k) b (number v) = refl
  letter_same s c b (sign minus) = refl
  letter_same s c b _ = refl

  value_same : (s : State K) (c : Representation K) (b : ℕ) (u : Token) → enter_value none (bare s) (bare_representation c) b u ≡ bared (enter_value A s c b u)
  value_same s on_left b (number v) = refl
  value_same s (on_right x k) b (number v) = refl
  value_same s c b _ = refl

  leave_letter_same : (s : State K) (l : K.Letter) (u : Token) → leave_letter none (bare s) tt u ≡ bared (leave_letter A s l u)
  leave_letter_same s l (relation k) = refl
  leave_letter_same s l _ = refl

  called_same : (s : State K) (u : Token) → enter_called none (bare s) u ≡ bared (enter_called A s u)
  called_same s (called n) = refl
  called_same s _ = refl

  call_same : (s : State K) (n : Name) (u : Token) → enter_call none (bare s) n u ≡ bared (enter_call A s n u)
  call_same s n opening = refl
  call_same s n _ = refl

  factor_same : (s : State K) (h : Role K) (o : List (Outer K)) (ss : K.Addends) (ps : K.Factors) (p : Product) (u : Token) → enter_factor none (bare s) (bare_role h) (bare_outer o) tt tt p u ≡ bared (enter_factor A s h o ss ps p u)
  factor_same s h o ss ps p opening = refl
  factor_same s h o ss ps p (name n) = refl
  factor_same s h o ss ps p (number n) = refl
  factor_same s h o ss ps p _ = refl

  argument_same : (s : State K) (n : Name) (u : Token) → enter_argument none (bare s) n u ≡ bared (enter_argument A s n u)
  argument_same s n closing = refl
  argument_same s n t = factor_same s (argument n A.no_terms) [] A.no_addends A.no_factors (product_start true) t

  begun_same : (s : State K) (hs : List (Frame K)) (h : Body K) (q : Binding) (n : Name) → at_next none (bare s) (bare_frames hs) (bare_body h) (with_variable q n) ≡ bared (at_next A s hs h (with_variable q n))
  begun_same s hs h (some ns) n = refl
  begun_same s hs h (every ns) n = refl
  begun_same s hs h infinite n = refl

  next_same : (s : State K) (gs : List (Frame K)) (b : Bool) → next_variable none (bare s) (bare_frames gs) b ≡ bared (next_variable A s gs b)
  next_same s (scope k n h ∷ hs) false = begun_same s hs h k n
  next_same s (scope k n h ∷ hs) true = refl
  next_same s (paren h y ∷ hs) b = refl
  next_same s [] b = refl

  enter_same : (s : State K) (u : Token) → enter none (bare s) u ≡ bared (enter A s u)
  enter_same s comma = next_same s s.around s.body.touched
  enter_same s mark = refl
  enter_same s negation = refl
  enter_same s (quantifier q) = refl
  enter_same s opening = refl
  enter_same s (name n) = refl
  enter_same s (number n) = refl
  enter_same s (letter_sign b) = refl
  enter_same s call_sign = refl
  enter_same s _ = refl

  system_same : (s : State K) (u : Token) → enter_system none (bare s) u ≡ bared (enter_system A s u)
  system_same s (system n) = refl
  system_same s _ = refl

  variable_same : (s : State K) (q : Binding) (u : Token) → enter_variable none (bare s) q u ≡ bared (enter_variable A s q u)
  variable_same s q (name n) = refl
  variable_same s q _ = refl

  position_same : (s : State K) (p : Position K) (u : Token) → step_at none (bare s) (bare_position p) u ≡ bared (step_at A s p u)
  position_same s at_operand u = enter_same s u
  position_same s at_system u = system_same s u
  position_same s (at_variable q) u = variable_same s q u
  position_same s (after_operand c) u = leave_same s c u
  position_same s (after_first n) u = first_same s n u
  position_same s (at_factor h o ss ps p) u = factor_same s h o ss ps p u
  position_same s (after_factor h o ss m p q) u = leave_factor_same s h o ss m p q u
  position_same s (at_divisor h o ss m p) u = divisor_same s h o ss m p u
  position_same s (after_index a n ts t) u = index_same s a n ts t u
  position_same s (at_word a) u = word_same s a u
  position_same s (at_bracket a n) u = bracket_same s a n u
  position_same s (at_letter c b) u = letter_same s c b u
  position_same s (at_value c b) u = value_same s c b u
  position_same s (after_letter l) u = leave_letter_same s l u
  position_same s at_called u = called_same s u
  position_same s (at_call n) u = call_same s n u
  position_same s (at_argument n) u = argument_same s n u
  position_same s (done f) u = refl

  pub step_same : (s : State K) (u : Token) → step none (bare s) u ≡ bared (step A s u)
  step_same s u = position_same s s.position u

  -- the nesting, and how a token is placed, too
  outer_same : (o : List (Outer K)) (d : ℕ) → within_outer (bare_outer o) d ≡ within_outer o d
  outer_same [] d = refl
  outer_same (x ∷ o) d = ap suc (outer_same o d)

  role_same : (h : Role K) (d : ℕ) → within_role (bare_role h) d ≡ within_role h d
  role_same left_side d = refl
  role_same (right_of t k) d = refl
  role_same (place_in a n ts) d = refl
  role_same (argument n ts) d = refl

  within_same : (p : Position K) (d : ℕ) → within_position (bare_position p) d ≡ within_position p d
  within_same (at_factor h o ss ps p) d = ap (within_outer (bare_outer o)) (role_same h d) ∙ outer_same o _
  within_same (after_factor h o ss m p q) d = ap (within_outer (bare_outer o)) (role_same h d) ∙ outer_same o _
  within_same (at_divisor h o ss m p) d = ap (within_outer (bare_outer o)) (role_same h d) ∙ outer_same o _
  within_same at_operand d = refl
  within_same at_system d = refl
  within_same (at_variable q) d = refl
  within_same (after_operand c) d = refl
  within_same (after_first n) d = refl
  within_same (after_index a n ts t) d = refl
  within_same (at_word a) d = refl
  within_same (at_bracket a n) d = refl
  within_same (at_letter c b) d = refl
  within_same (at_value c b) d = refl
  within_same (after_letter l) d = refl
  within_same at_called d = refl
  within_same (at_call n) d = refl
  within_same (at_argument n) d = refl
  within_same (done f) d = refl

  pub depth_same : (s : State K) → depth (bare s) ≡ depth s
  depth_same s = within_same s.position (operand_nesting s.body)

  pub placed_same : (p : Position K) (t : Token) (d : ℕ) → placed (bare_position p) t d ≡ placed p t d
  placed_same (at_letter c b) (number v) d = refl
  placed_same (at_value c b) (number v) d = refl
  placed_same (at_letter c b) _ d = refl
  placed_same (at_value c b) _ d = refl
  placed_same at_operand t d = refl
  placed_same at_system t d = refl
  placed_same (at_variable q) t d = refl
  placed_same (after_operand c) t d = refl
  placed_same (after_first n) t d = refl
  placed_same (at_factor h o ss ps p) t d = refl
  placed_same (after_factor h o ss m p q) t d = refl
  placed_same (at_divisor h o ss m p) t d = refl
  placed_same (after_index a n ts u) t d = refl
  placed_same (at_word a) t d = refl
  placed_same (at_bracket a n) t d = refl
  placed_same (after_letter l) t d = refl
  placed_same at_called t d = refl
  placed_same (at_call n) t d = refl
  placed_same (at_argument n) t d = refl
  placed_same (done f) t d = refl

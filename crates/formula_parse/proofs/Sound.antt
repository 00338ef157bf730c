-- A state of derivations derives what it has read.
use Rattle.std.proofs.Common.{◌≡◌, refl, sym, ◌∙◌, ap, ℕ, zero, suc, Bool, true, false, List, [], ◌∷◌, Option, None, Some}
use Rattle.formula_parse.specs.Tokens as tokens
use Rattle.formula_parse.specs.Tokens.{Name, Letter, Token, Placed, here, name, number, system, called, mark, call_sign, negation, quantifier, comma, opening, closing, bracket, unbracket, letter_sign, sign, minus, times, slash, relation, connective, implies, iff, end}
use Rattle.formula_parse.specs.Trees.{Names}
use Rattle.formula_parse.specs.Making.{Binding, some, every, infinite}
use Rattle.formula_parse.proofs.Derivations.{variable, Factors, no_factors, Prod, prod, Addends, no_addends, Term, term, Terms, no_terms, index, Core, compare, words, letter_word, not_closed, Closed, marked, ends, quantified, Formula, factors_then, prod_then, addends_then, term_then, arguments_then, places_then, index_then, binding_then, tildes_then, core_then, closed_then, operands_then, chains_then, implications_then, formula_then, parts, derivations}
use Rattle.formula_parse.specs.Formulas.{letter_then, marks_then}
use Rattle.formula_parse.specs.Machine.{within, Prefix, Body, Frame, Outer, Aim, Side, Role, Representation, Position, State, left_index, left_letter, first, second, left_side, right_of, place_in, argument, on_left, on_right, at_operand, at_system, at_variable, after_operand, after_first, at_factor, after_factor, at_divisor, after_index, at_word, at_bracket, at_letter, at_value, after_letter, at_called, at_call, at_argument, done, paren, scope, fresh, close, whole, wrapped, closed, leave_closed, leave, close_term, leave_whole, leave_product, leave_factor, enter_divisor, leave_first, leave_side, leave_index, enter_word, enter_bracket, enter_letter, enter_value, leave_letter, enter_called, enter_call, enter_factor, enter_argument, with_variable, at_next, next_variable, enter, enter_system, enter_variable, step, step_at, within_role, within_outer, within_position}
use Rattle.formula_parse.specs.Flaws.{Flaw, Product, product_start}
use Rattle.formula_parse.specs.Runs.{placed}

-- the nesting of the formula inside of some frames
abbrev pub nesting : List (Frame parts) → ℕ
nesting [] = 0
nesting (paren h y ∷ hs) = suc (within h.tildes (nesting hs))
nesting (scope q n h ∷ hs) = suc (within h.tildes (nesting hs))

abbrev pub prefix_then : Prefix parts → ℕ → List Placed → List Placed
prefix_then r d q = implications_then r.implications d (chains_then r.chains d (operands_then r.operands d q))

abbrev pub body_then : Body parts → ℕ → List Placed → List Placed
body_then g d q = prefix_then g.prefix d (tildes_then g.tildes d (marks_then g.marks (within g.tildes d) q))

abbrev pub frames_then : List (Frame parts) → List Placed → List Placed
frames_then [] q = q
frames_then (paren h y ∷ hs) q = frames_then hs (body_then h (nesting hs) (here opening (suc (within h.tildes (nesting hs))) ∷ q))
frames_then (scope k n h ∷ hs) q =
    let d = suc (within h.tildes (nesting hs)) in
    frames_then hs (body_then h (nesting hs) (binding_then k d (here (name n) d ∷ q)))

abbrev pub aim_then : Aim parts → ℕ → List Placed → List Placed
aim_then (left_index x k) d q = index_then x d (here (relation k) d ∷ q)
aim_then (left_letter l k) d q = letter_then l d (here (relation k) d ∷ q)

abbrev pub side_then : Side parts → ℕ → List Placed → List Placed
side_then first d q = q
side_then (second a) d q = aim_then a d q

abbrev pub role_then : Role parts → ℕ → List Placed → List Placed
role_then left_side d q = q
role_then (right_of t k) d q = term_then t d (here (relation k) d ∷ q)
role_then (place_in s n ts) d q = side_then s d (here (name n) d ∷ here bracket (suc d) ∷ places_then ts d q)
role_then (argument n ts) d q = here call_sign d ∷ here (called n) d ∷ here opening (suc d) ∷ arguments_then ts (suc d) q

abbrev pub outer_then : List (Outer parts) → ℕ → List Placed → List Placed
outer_then [] d q = q
outer_then (x ∷ o) d q =
    outer_then o d (addends_then x.addends (within_outer o d) (factors_then x.factors (within_outer o d) (here opening (suc (within_outer o d)) ∷ q)))

abbrev pub representation_then : Representation parts → ℕ → List Placed → List Placed
representation_then on_left d q = q
representation_then (on_right x k) d q = index_then x d (here (relation k) d ∷ q)

abbrev pub position_then : Position parts → ℕ → List Placed → List Placed
position_then at_operand d q = q
position_then at_system d q = here mark d ∷ q
position_then (at_variable k) d q = binding_then k (suc d) q
position_then (after_operand c) d q = core_then c d q
position_then (after_first n) d q = here (name n) d ∷ q
position_then (at_factor h o ss ps p) d q =
    let e = within_role h d in
    role_then h d (outer_then o e (addends_then ss (within_outer o e) (factors_then ps (within_outer o e) q)))
position_then (after_factor h o ss m p b) d q =
    let e = within_role h d in
    role_then h d (outer_then o e (addends_then ss (within_outer o e) (prod_then m (within_outer o e) q)))
position_then (at_divisor h o ss m p) d q =
    let e = within_role h d in
    role_then h d (outer_then o e (addends_then ss (within_outer o e) (prod_then m (within_outer o e) (here slash (within_outer o e) ∷ q))))
position_then (after_index s n ts t) d q = role_then (place_in s n ts) d (term_then t (suc d) (here unbracket d ∷ q))
position_then (at_word a) d q = aim_then a d q
position_then (at_bracket a n) d q = aim_then a d (here (name n) d ∷ q)
position_then (at_letter c b) d q = representation_then c d (here (letter_sign b) d ∷ q)
position_then (at_value c b) d q = representation_then c d (here (letter_sign b) d ∷ here (sign minus) d ∷ q)
position_then (after_letter l) d q = letter_then l d q
position_then at_called d q = here call_sign d ∷ q
position_then (at_call n) d q = here call_sign d ∷ here (called n) d ∷ q
position_then (at_argument n) d q = here call_sign d ∷ here (called n) d ∷ here opening (suc d) ∷ q
position_then (done f) d q = q

-- what a state at a position has read
abbrev pub at_then : State parts → Position parts → List Placed → List Placed
at_then s (done f) q = formula_then f 0 (here end 0 ∷ q)
at_then s p q = frames_then s.around (body_then s.body (nesting s.around) (position_then p (within s.body.tildes (nesting s.around)) q))

abbrev pub state_then : State parts → List Placed → List Placed
state_then s q = at_then s s.position q

-- the nesting of a state, counted through its frames
abbrev pub deep : State parts → ℕ
deep s = within_position s.position (within s.body.tildes (nesting s.around))

-- a body keeps the nesting of its frames, and has read nothing while it is untouched
pub record IsBodySane (gs : List (Frame parts)) (g : Body parts) : Type 0 where
  pub based : g.base ≡ nesting gs
  pub empty : g.touched ≡ false → g ≡ fresh derivations g.base

abbrev pub AreFramesSane : List (Frame parts) → Type 0
AreFramesSane [] = Unit {0}
AreFramesSane (paren h y ∷ hs) = IsBodySane hs h × AreFramesSane hs
AreFramesSane (scope k n h ∷ hs) = IsBodySane hs h × AreFramesSane hs

pub record Sane (s : State parts) : Type 0 where
  pub body : IsBodySane s.around s.body
  pub frames : AreFramesSane s.around

-- the state that comes has read a token more
pub record ReadsOn (n : State parts) (k : List Placed → List Placed) (c : ℕ → Placed) : Type 0 where
  pub sane : Sane n
  pub derived_is : (q : List Placed) → state_then n q ≡ k (c (deep n) ∷ q)

abbrev pub GoesOn : Option (State parts) → (List Placed → List Placed) → (ℕ → Placed) → Type 0
GoesOn None k c = Unit {0}
GoesOn (Some n) k c = ReadsOn n k c

-- the same formula, with another position
goes : {n : State parts} {k : List Placed → List Placed} {c : ℕ → Placed} → Sane n → ((q : List Placed) → state_then n q ≡ k (c (deep n) ∷ q)) → ReadsOn n k c
goes s h = record { sane = s; derived_is = h }

true_false : {X : Type 0} → true ≡ false → X
true_false e = cc

pub wrapped_then : (ts : List Names) (c : Closed) (d : ℕ) (q : List Placed) → closed_then (wrapped derivations ts c) d q ≡ tildes_then ts d (closed_then c (within ts d) q)
wrapped_then [] c d q = refl
wrapped_then (ms ∷ ts) c d q = wrapped_then ts (marked ms (not_closed c)) d q

close_goes : (w : Option Flaw) (gs : List (Frame parts)) (f : Formula) (t : Token) → AreFramesSane gs → GoesOn (close derivations w gs f t) (λ q. frames_then gs (formula_then f (nesting gs) q)) (here t)
close_goes w [] f end a = goes (record { body = record { based = refl; empty = λ e. refl }; frames = tt }) (λ q. refl)
close_goes w [] f _ a = tt
close_goes w (paren h y ∷ hs) f closing a = goes (record { body = a.0; frames = a.1 }) (λ q. refl)
close_goes w (paren h y ∷ hs) f _ a = tt
close_goes w (scope k n h ∷ hs) f t a = close_goes w hs (whole derivations h.prefix (quantified h.tildes h.marks k n f)) t a.1

-- a state with another position
abbrev pub at : State parts → Position parts → State parts
at s p = record s { position = p }

closed_goes : (s : State parts) (c : Closed) (t : Token) → Sane s → GoesOn (leave_closed derivations s s.body.prefix c t) (λ q. frames_then s.around (prefix_then s.body.prefix (nesting s.around) (closed_then c (nesting s.around) q))) (here t)
closed_goes s c (connective k b) a = goes (record { body = record { based = a.body.based; empty = λ e. true_false e }; frames = a.frames }) (λ q. refl)
closed_goes s c (implies b) a = goes (record { body = record { based = a.body.based; empty = λ e. true_false e }; frames = a.frames }) (λ q. refl)
closed_goes s c iff a = goes (record { body = record { based = a.body.based; empty = λ e. true_false e }; frames = a.frames }) (λ q. refl)
closed_goes s c t a = close_goes s.flaw s.around (whole derivations s.body.prefix (ends c)) t a.frames

-- what was derived before may be derived otherwise
rederived : (o : Option (State parts)) (k j : List Placed → List Placed) (c : ℕ → Placed) → ((q : List Placed) → k q ≡ j q) → GoesOn o k c → GoesOn o j c
rederived None k j c e h = tt
rederived (Some n) k j c e h = goes h.sane (λ q. h.derived_is q ∙ e _)

leave_goes : (s : State parts) (c : Core) (t : Token) → Sane s → GoesOn (leave derivations s c t) (state_then (at s (after_operand c))) (here t)
leave_goes s c t a =
    rederived
    (leave derivations s c t)
    _
    (state_then (at s (after_operand c)))
    (here t)
    (λ q. ap (λ z. frames_then s.around (prefix_then s.body.prefix (nesting s.around) z)) (wrapped_then s.body.tildes (marked s.body.marks c) (nesting s.around) q))
    (closed_goes s (closed derivations s.body c) t a)

-- the body stays as it is
stays : {s : State parts} (p : Position parts) → Sane s → Sane (at s p)
stays p a = record { body = a.body; frames = a.frames }

close_term_goes : (s : State parts) (gs : List (Frame parts)) (g : Body parts) (b : Bool) (t : Term) (q : Bool) → b ≡ g.touched → IsBodySane gs g → AreFramesSane gs → GoesOn (close_term derivations s gs b t q) (λ r. frames_then gs (body_then g (nesting gs) (term_then t (within g.tildes (nesting gs)) r))) (here closing)
close_term_goes s (paren h y ∷ hs) g false t q e a b =
    goes
    (record { body = b.0; frames = b.1 })
    (λ r.
    ap
    (λ (z : Body parts).
    frames_then
    (paren h y ∷ hs)
    (body_then z (nesting (paren h y ∷ hs)) (term_then t (within z.tildes (nesting (paren h y ∷ hs))) (here closing (within h.tildes (nesting hs)) ∷ r))))
    (sym (a.empty (sym e))))
close_term_goes s (paren h y ∷ hs) g true t q e a b = tt
close_term_goes s (scope k n h ∷ hs) g c t q e a b = tt
close_term_goes s [] g c t q e a b = tt

whole_goes : (s : State parts) (h : Role parts) (t : Term) (q : Bool) (u : Token) → Sane s → GoesOn (leave_whole derivations s h t q u) (λ r. frames_then s.around (body_then s.body (nesting s.around) (role_then h (within s.body.tildes (nesting s.around)) (term_then t (within_role h (within s.body.tildes (nesting s.around))) r)))) (here u)
whole_goes s left_side t q (relation k) a = goes (stays _ a) (λ r. refl)
whole_goes s left_side t q closing a = close_term_goes s s.around s.body s.body.touched t q refl a.body a.frames
whole_goes s left_side t q _ a = tt
whole_goes s (right_of l k) t q u a = leave_goes s (compare l k t) u a
whole_goes s (place_in d n ts) t q unbracket a = goes (stays _ a) (λ r. refl)
whole_goes s (place_in d n ts) t q _ a = tt
whole_goes s (argument n ts) t q comma a = goes (stays _ a) (λ r. refl)
whole_goes s (argument n ts) t q closing a = goes (stays _ a) (λ r. refl)
whole_goes s (argument n ts) t q _ a = tt

product_goes : (s : State parts) (h : Role parts) (o : List (Outer parts)) (ss : Addends) (m : Prod) (q : Bool) (u : Token) → Sane s → GoesOn (leave_product derivations s h o (term ss m) q u) (state_then (at s (after_factor h o ss m (product_start true) q))) (here u)
product_goes s h [] ss m q u a = whole_goes s h (term ss m) q u a
product_goes s h (x ∷ o) ss m q closing a = goes (record { body = a.body; frames = a.frames }) (λ r. refl)
product_goes s h (x ∷ o) ss m q _ a = tt

leave_factor_goes : (s : State parts) (h : Role parts) (o : List (Outer parts)) (ss : Addends) (m : Prod) (p : Product) (q : Bool) (u : Token) → Sane s → GoesOn (leave_factor derivations s h o ss m p q u) (state_then (at s (after_factor h o ss m p q))) (here u)
leave_factor_goes s h o ss m p q (times b) a = goes (stays _ a) (λ r. refl)
leave_factor_goes s h o ss m p q slash a = goes (stays _ a) (λ r. refl)
leave_factor_goes s h o ss m p q (sign k) a = goes (stays _ a) (λ r. refl)
leave_factor_goes s h o ss m p q t a = product_goes s h o ss m _ t a

divisor_goes : (s : State parts) (h : Role parts) (o : List (Outer parts)) (ss : Addends) (m : Prod) (p : Product) (u : Token) → Sane s → GoesOn (enter_divisor derivations s h o ss m p u) (state_then (at s (at_divisor h o ss m p))) (here u)
divisor_goes s h o ss m p (number (suc c)) a = goes (stays _ a) (λ r. refl)
divisor_goes s h o ss m p (number zero) a = tt
divisor_goes s h o ss m p _ a = tt

first_goes : (s : State parts) (n : Name) (u : Token) → Sane s → GoesOn (leave_first derivations s n u) (state_then (at s (after_first n))) (here u)
first_goes s n bracket a = goes (stays _ a) (λ r. refl)
first_goes s n t a = leave_factor_goes s left_side [] no_addends (prod no_factors (variable n)) (product_start true) false t a

side_goes : (s : State parts) (d : Side parts) (n : Name) (ts : Terms) (t : Term) (u : Token) → Sane s → GoesOn (leave_side derivations s d (index n ts t) u) (state_then (at s (after_index d n ts t))) (here u)
side_goes s first n ts t (relation k) a = goes (stays _ a) (λ r. refl)
side_goes s first n ts t _ a = tt
side_goes s (second (left_index z k)) n ts t u a = leave_goes s (words z k (index n ts t)) u a
side_goes s (second (left_letter l k)) n ts t u a = leave_goes s (letter_word l k (index n ts t)) u a

index_goes : (s : State parts) (d : Side parts) (n : Name) (ts : Terms) (t : Term) (u : Token) → Sane s → GoesOn (leave_index derivations s d n ts t u) (state_then (at s (after_index d n ts t))) (here u)
index_goes s d n ts t bracket a = goes (stays _ a) (λ r. refl)
index_goes s d n ts t u a = side_goes s d n ts t u a

word_goes : (s : State parts) (m : Aim parts) (u : Token) → Sane s → GoesOn (enter_word derivations s m u) (state_then (at s (at_word m))) (here u)
word_goes s m (name n) a = goes (stays _ a) (λ r. refl)
word_goes s (left_index x k) (letter_sign b) a = goes (stays _ a) (λ r. refl)
word_goes s m _ a = tt

bracket_goes : (s : State parts) (m : Aim parts) (n : Name) (u : Token) → Sane s → GoesOn (enter_bracket derivations s m n u) (state_then (at s (at_bracket m n))) (here u)
bracket_goes s m n bracket a = goes (stays _ a) (λ r. refl)
bracket_goes s m n _ a = tt

letter_goes : (s : State parts) (c : Representation parts) (b : ℕ) (u : Token) → Sane s → GoesOn (enter_letter derivations s c b u) (state_then (at s (at_letter c b))) (placed (at_letter c b) u)
letter_goes s on_left b (number v) a = goes (stays _ a) (λ r. refl)
letter_goes s (on_right x k) b (number v) a = goes (stays _ a) (λ r. refl)
letter_goes s c b (sign minus) a = goes (stays _ a) (λ r. refl)
letter_goes s c b _ a = tt

value_goes : (s : State parts) (c : Representation parts) (b : ℕ) (u : Token) → Sane s → GoesOn (enter_value derivations s c b u) (state_then (at s (at_value c b))) (placed (at_value c b) u)
value_goes s on_left b (number v) a = goes (stays _ a) (λ r. refl)
value_goes s (on_right x k) b (number v) a = goes (stays _ a) (λ r. refl)
value_goes s c b _ a = tt

leave_letter_goes : (s : State parts) (l : Letter) (u : Token) → Sane s → GoesOn (leave_letter derivations s l u) (state_then (at s (after_letter l))) (here u)
leave_letter_goes s l (relation k) a = goes (stays _ a) (λ r. refl)
leave_letter_goes s l _ a = tt

called_goes : (s : State parts) (u : Token) → Sane s → GoesOn (enter_called derivations s u) (state_then (at s at_called)) (here u)
called_goes s (called n) a = goes (stays _ a) (λ r. refl)
called_goes s _ a = tt

call_goes : (s : State parts) (n : Name) (u : Token) → Sane s → GoesOn (enter_call derivations s n u) (state_then (at s (at_call n))) (here u)
call_goes s n opening a = goes (stays _ a) (λ r. refl)
call_goes s n _ a = tt

factor_goes : (s : State parts) (h : Role parts) (o : List (Outer parts)) (ss : Addends) (ps : Factors) (p : Product) (u : Token) → Sane s → GoesOn (enter_factor derivations s h o ss ps p u) (state_then (at s (at_factor h o ss ps p))) (here u)
factor_goes s h o ss ps p opening a = goes (stays _ a) (λ r. refl)
factor_goes s h o ss ps p (name n) a = goes (record { body = a.body; frames = a.frames }) (λ r. refl)
factor_goes s h o ss ps p (number n) a = goes (record { body = a.body; frames = a.frames }) (λ r. refl)
factor_goes s h o ss ps p _ a = tt

argument_goes : (s : State parts) (n : Name) (u : Token) → Sane s → GoesOn (enter_argument derivations s n u) (state_then (at s (at_argument n))) (here u)
argument_goes s n closing a = goes (stays _ a) (λ r. refl)
argument_goes s n t a = factor_goes s (argument n no_terms) [] no_addends no_factors (product_start true) t a

-- the variables with one more, which a `,` precedes
begun_goes : (s : State parts) (q : Binding) (n : Name) (h : Body parts) (hs : List (Frame parts)) → IsBodySane hs h → AreFramesSane hs → GoesOn (at_next derivations s hs h (with_variable q n)) (λ r. frames_then (scope q n h ∷ hs) r) (here comma)
begun_goes s (some ns) n h hs b c = goes (record { body = b; frames = c }) (λ r. refl)
begun_goes s (every ns) n h hs b c = goes (record { body = b; frames = c }) (λ r. refl)
begun_goes s infinite n h hs b c = tt

next_goes : (s : State parts) (gs : List (Frame parts)) (g : Body parts) (b : Bool) → b ≡ g.touched → IsBodySane gs g → AreFramesSane gs → GoesOn (next_variable derivations s gs b) (λ r. frames_then gs (body_then g (nesting gs) r)) (here comma)
next_goes s (scope k n h ∷ hs) g false e a b =
    rederived
    (at_next derivations s hs h (with_variable k n))
    _
    (λ r. frames_then (scope k n h ∷ hs) (body_then g (nesting (scope k n h ∷ hs)) r))
    (here comma)
    (λ r.
    ap
    (λ (z : Body parts). frames_then (scope k n h ∷ hs) (body_then z (nesting (scope k n h ∷ hs)) r))
    (sym (a.empty (sym e))))
    (begun_goes s k n h hs b.0 b.1)
next_goes s (scope k n h ∷ hs) g true e a b = tt
next_goes s (paren h y ∷ hs) g c e a b = tt
next_goes s [] g c e a b = tt

-- a body inside of another one
inside : (gs : List (Frame parts)) (g : Body parts) → IsBodySane gs g → suc (within g.tildes g.base) ≡ suc (within g.tildes (nesting gs))
inside gs g a = ap (λ b. suc (within g.tildes b)) a.based

enter_goes : (s : State parts) (u : Token) → Sane s → GoesOn (enter derivations s u) (state_then (at s at_operand)) (here u)
enter_goes s mark a = goes (stays _ a) (λ r. refl)
enter_goes s negation a = goes (record { body = record { based = a.body.based; empty = λ e. true_false e }; frames = a.frames }) (λ r. refl)
enter_goes s (quantifier tokens.some) a = goes (stays _ a) (λ r. refl)
enter_goes s (quantifier tokens.every) a = goes (stays _ a) (λ r. refl)
enter_goes s (quantifier tokens.infinite) a = goes (stays _ a) (λ r. refl)
enter_goes s opening a =
    goes (record { body = record { based = inside s.around s.body a.body; empty = λ e. refl }; frames = (a.body, a.frames) }) (λ r. refl)
enter_goes s (name n) a = goes (stays _ a) (λ r. refl)
enter_goes s (number n) a = goes (record { body = a.body; frames = a.frames }) (λ r. refl)
enter_goes s (letter_sign b) a = goes (stays _ a) (λ r. refl)
enter_goes s call_sign a = goes (stays _ a) (λ r. refl)
enter_goes s comma a = next_goes s s.around s.body s.body.touched refl a.body a.frames
enter_goes s _ a = tt

system_goes : (s : State parts) (u : Token) → Sane s → GoesOn (enter_system derivations s u) (state_then (at s at_system)) (here u)
system_goes s (system n) a = goes (record { body = record { based = a.body.based; empty = λ e. true_false e }; frames = a.frames }) (λ r. refl)
system_goes s _ a = tt

variable_goes : (s : State parts) (q : Binding) (u : Token) → Sane s → GoesOn (enter_variable derivations s q u) (state_then (at s (at_variable q))) (here u)
variable_goes s q (name n) a =
    goes (record { body = record { based = inside s.around s.body a.body; empty = λ e. refl }; frames = (a.body, a.frames) }) (λ r. refl)
variable_goes s q _ a = tt

position_goes : (s : State parts) (p : Position parts) (u : Token) → Sane s → GoesOn (step_at derivations s p u) (state_then (at s p)) (placed p u)
position_goes s at_operand u a = enter_goes s u a
position_goes s at_system u a = system_goes s u a
position_goes s (at_variable q) u a = variable_goes s q u a
position_goes s (after_operand c) u a = leave_goes s c u a
position_goes s (after_first n) u a = first_goes s n u a
position_goes s (at_factor h o ss ps p) u a = factor_goes s h o ss ps p u a
position_goes s (after_factor h o ss m p q) u a = leave_factor_goes s h o ss m p q u a
position_goes s (at_divisor h o ss m p) u a = divisor_goes s h o ss m p u a
position_goes s (after_index d n ts t) u a = index_goes s d n ts t u a
position_goes s (at_word m) u a = word_goes s m u a
position_goes s (at_bracket m n) u a = bracket_goes s m n u a
position_goes s (at_letter c b) u a = letter_goes s c b u a
position_goes s (at_value c b) u a = value_goes s c b u a
position_goes s (after_letter l) u a = leave_letter_goes s l u a
position_goes s at_called u a = called_goes s u a
position_goes s (at_call n) u a = call_goes s n u a
position_goes s (at_argument n) u a = argument_goes s n u a
position_goes s (done f) u a = tt

pub step_goes : (s : State parts) (u : Token) → Sane s → GoesOn (step derivations s u) (state_then s) (placed s.position u)
step_goes s u a = position_goes s s.position u a

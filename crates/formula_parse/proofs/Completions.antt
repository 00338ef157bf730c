-- Every state can be completed: tokens can follow that end a text.
use Rattle.std.proofs.Common.{◌≡◌, refl, ◌∙◌, ap, ℕ, suc, true, false, List, [], ◌∷◌}
use Rattle.formula_parse.specs.Tokens.{Name, equal, Letter, Placed, here, value_of, name, number, system, called, opening, closing, bracket, unbracket, letter_sign, relation, end}
use Rattle.formula_parse.specs.Trees.{names}
use Rattle.formula_parse.proofs.Derivations.{variable, in_parens, Factors, no_factors, Prod, prod, divided, Addends, no_addends, Term, term, Terms, no_terms, index, Core, compare, words, word_letter, letter_word, call_none, call, grouped, marked, Formula, ends, quantified, formula_then, derived_tokens, parts, derivations}
use Rattle.formula_parse.specs.Machine.{within, Body, Frame, Outer, Aim, Side, Role, Representation, Position, State, left_index, left_letter, first, second, left_side, right_of, place_in, argument, on_left, on_right, at_operand, at_system, at_variable, after_operand, after_first, at_factor, after_factor, at_divisor, after_index, at_word, at_bracket, at_letter, at_value, after_letter, at_called, at_call, at_argument, done, paren, scope, fresh, whole, closed, within_role, within_outer}
use Rattle.formula_parse.specs.Flaws.{Product, product_start}
use Rattle.formula_parse.proofs.Sound.{nesting, prefix_then, body_then, frames_then, state_then, at, wrapped_then}

-- tokens that may follow, and the text that is then whole
pub record Completed (s : State parts) : Type 0 where
  pub more : List Placed
  pub text : Formula
  pub derived_is : derived_tokens text ≡ state_then s more

-- what follows a formula inside of frames
record Closes (gs : List (Frame parts)) (f : Formula) : Type 0 where
  more : List Placed
  text : Formula
  derived_is : derived_tokens text ≡ frames_then gs (formula_then f (nesting gs) more)

close_paren : (h : Body parts) (hs : List (Frame parts)) (f : Formula) (c : Closes hs (whole derivations h.prefix (ends (closed derivations h (grouped f))))) → derived_tokens c.text ≡ frames_then hs (body_then h (nesting hs) (here opening (suc (within h.tildes (nesting hs))) ∷ formula_then f (suc (within h.tildes (nesting hs))) (here closing (within h.tildes (nesting hs)) ∷ c.more)))
close_paren h hs f c =
    c.derived_is ∙ ap (λ z. frames_then hs (prefix_then h.prefix (nesting hs) z)) (wrapped_then h.tildes (marked h.marks (grouped f)) (nesting hs) c.more)

closes : (gs : List (Frame parts)) (f : Formula) → Closes gs f
closes [] f = record { more = here end 0 ∷ []; text = f; derived_is = refl }
closes (paren h y ∷ hs) f =
    let c = closes hs (whole derivations h.prefix (ends (closed derivations h (grouped f)))) in
    record { more = here closing (within h.tildes (nesting hs)) ∷ c.more; text = c.text; derived_is = close_paren h hs f c }
closes (scope k n h ∷ hs) f =
    let c = closes hs (whole derivations h.prefix (quantified h.tildes h.marks k n f)) in
    record { more = c.more; text = c.text; derived_is = c.derived_is }

-- an operand ends the text
operand : (s : State parts) (c : Core) → Completed (at s (after_operand c))
operand s c =
    let f = closes s.around (whole derivations s.body.prefix (ends (closed derivations s.body c))) in
    record {
      more = f.more;
      text = f.text;
      derived_is =
          f.derived_is
          ∙ ap
          (λ z. frames_then s.around (prefix_then s.body.prefix (nesting s.around) z))
          (wrapped_then s.body.tildes (marked s.body.marks c) (nesting s.around) f.more);
    }

-- a token before what completes another state
then_token : {s n : State parts} (p : Placed) → ((q : List Placed) → state_then n q ≡ state_then s (p ∷ q)) → Completed n → Completed s
then_token p e c = record { more = p ∷ c.more; text = c.text; derived_is = c.derived_is ∙ e c.more }

abbrev x_name : Name
x_name = 120 ∷ []

abbrev name_term : Name → Term
name_term n = term no_addends (prod no_factors (variable n))

abbrev x_term : Term
x_term = name_term x_name

abbrev zero_letter : ℕ → Letter
zero_letter b = record { at = b; negative = false; value = 0 }

-- the nesting of the operand at which a state is
abbrev level : State parts → ℕ
level s = within s.body.tildes (nesting s.around)

operand_begins : (s : State parts) → Completed (at s at_operand)
operand_begins s =
    let c = operand s (compare x_term equal x_term) in
    record {
      more = here (name x_name) (level s) ∷ here (relation equal) (level s) ∷ here (name x_name) (level s) ∷ c.more;
      text = c.text;
      derived_is = c.derived_is;
    }

letter_ends : (s : State parts) (c : Representation parts) (l : Letter) → Completed (at s (after_letter l))
letter_ends s c l =
    let c = operand s (letter_word l equal (index x_name no_terms x_term)) in
    let d = level s in
    record {
      more = here (relation equal) d ∷ here (name x_name) d ∷ here bracket (suc d) ∷ here (name x_name) (suc d) ∷ here unbracket d ∷ c.more;
      text = c.text;
      derived_is = c.derived_is;
    }

letter_begins : (s : State parts) (c : Representation parts) (b : ℕ) → Completed (at s (at_letter c b))
letter_begins s on_left b = then_token (value_of (zero_letter b) (level s)) (λ q. refl) (letter_ends s on_left (zero_letter b))
letter_begins s (on_right x k) b = then_token (value_of (zero_letter b) (level s)) (λ q. refl) (operand s (word_letter x k (zero_letter b)))

abbrev minus_letter : ℕ → Letter
minus_letter b = record { at = b; negative = true; value = 0 }

value_begins : (s : State parts) (c : Representation parts) (b : ℕ) → Completed (at s (at_value c b))
value_begins s on_left b = then_token (value_of (minus_letter b) (level s)) (λ q. refl) (letter_ends s on_left (minus_letter b))
value_begins s (on_right x k) b = then_token (value_of (minus_letter b) (level s)) (λ q. refl) (operand s (word_letter x k (minus_letter b)))

index_ends : (s : State parts) (a : Side parts) (n : Name) (ts : Terms) (t : Term) → Completed (at s (after_index a n ts t))
index_ends s first n ts t =
    let c = operand s (word_letter (index n ts t) equal (zero_letter 0)) in
    record {
      more = here (relation equal) (level s) ∷ here (letter_sign 0) (level s) ∷ value_of (zero_letter 0) (level s) ∷ c.more;
      text = c.text;
      derived_is = c.derived_is;
    }
index_ends s (second (left_index z k)) n ts t =
    let c = operand s (words z k (index n ts t)) in
    record { more = c.more; text = c.text; derived_is = c.derived_is }
index_ends s (second (left_letter l k)) n ts t =
    let c = operand s (letter_word l k (index n ts t)) in
    record { more = c.more; text = c.text; derived_is = c.derived_is }

-- a whole term, by where it is
whole_ends : (s : State parts) (h : Role parts) (ss : Addends) (m : Prod) (p : Product) (q : _) → Completed (at s (after_factor h [] ss m p q))
whole_ends s left_side ss m p q =
    let c = operand s (compare (term ss m) equal x_term) in
    record { more = here (relation equal) (level s) ∷ here (name x_name) (level s) ∷ c.more; text = c.text; derived_is = c.derived_is }
whole_ends s (right_of l k) ss m p q =
    let c = operand s (compare l k (term ss m)) in
    record { more = c.more; text = c.text; derived_is = c.derived_is }
whole_ends s (place_in a n ts) ss m p q = then_token (here unbracket (level s)) (λ r. refl) (index_ends s a n ts (term ss m))
whole_ends s (argument n ts) ss m p q = then_token (here closing (level s)) (λ r. refl) (operand s (call n ts (term ss m)))

factor_ends : (s : State parts) (h : Role parts) (o : List (Outer parts)) (ss : Addends) (m : Prod) (p : Product) (q : _) → Completed (at s (after_factor h o ss m p q))
factor_ends s h [] ss m p q = whole_ends s h ss m p q
factor_ends s h (x ∷ o) ss m p q =
    then_token
    (here closing (within_outer o (within_role h (level s))))
    (λ r. refl)
    (factor_ends s h o x.addends (prod x.factors (in_parens (term ss m))) x.product true)

factor_begins : (s : State parts) (h : Role parts) (o : List (Outer parts)) (ss : Addends) (ps : Factors) (p : Product) → Completed (at s (at_factor h o ss ps p))
factor_begins s h o ss ps p =
    then_token (here (name x_name) (within_outer o (within_role h (level s)))) (λ r. refl) (factor_ends s h o ss (prod ps (variable x_name)) p true)

divisor_begins : (s : State parts) (h : Role parts) (o : List (Outer parts)) (ss : Addends) (m : Prod) (p : Product) → Completed (at s (at_divisor h o ss m p))
divisor_begins s h o ss m p =
    then_token (here (number 1) (within_outer o (within_role h (level s)))) (λ r. refl) (factor_ends s h o ss (divided m 0) p false)

bracket_begins : (s : State parts) (a : Aim parts) (n : Name) → Completed (at s (at_bracket a n))
bracket_begins s a n =
    then_token
    (here bracket (suc (level s)))
    (λ r. refl)
    (factor_begins s (place_in (second a) n no_terms) [] no_addends no_factors (product_start true))

word_begins : (s : State parts) (a : Aim parts) → Completed (at s (at_word a))
word_begins s a = then_token (here (name x_name) (level s)) (λ r. refl) (bracket_begins s a x_name)

call_begins : (s : State parts) (n : Name) → Completed (at s (at_call n))
call_begins s n =
    let c = operand s (call_none n) in
    record { more = here opening (suc (level s)) ∷ here closing (level s) ∷ c.more; text = c.text; derived_is = c.derived_is }

position_completed : (s : State parts) (p : Position parts) → Completed (at s p)
position_completed s at_operand = operand_begins s
position_completed s at_system =
    then_token
    {n = record s { body = record s.body { marks = names s.body.marks x_name }; position = at_operand }}
    (here (system x_name) (level s))
    (λ q. refl)
    (operand_begins (record s { body = record s.body { marks = names s.body.marks x_name } }))
position_completed s (at_variable q) =
    then_token
    {n = record s { around = scope q x_name s.body ∷ s.around; body = fresh derivations 0; position = at_operand }}
    (here (name x_name) (suc (level s)))
    (λ q. refl)
    (operand_begins (record s { around = scope q x_name s.body ∷ s.around; body = fresh derivations 0 }))
position_completed s (after_operand c) = operand s c
position_completed s (after_first n) =
    let c = operand s (compare (name_term n) equal x_term) in
    record { more = here (relation equal) (level s) ∷ here (name x_name) (level s) ∷ c.more; text = c.text; derived_is = c.derived_is }
position_completed s (at_factor h o ss ps p) = factor_begins s h o ss ps p
position_completed s (after_factor h o ss m p q) = factor_ends s h o ss m p q
position_completed s (at_divisor h o ss m p) = divisor_begins s h o ss m p
position_completed s (after_index a n ts t) = index_ends s a n ts t
position_completed s (at_word a) = word_begins s a
position_completed s (at_bracket a n) = bracket_begins s a n
position_completed s (at_letter c b) = letter_begins s c b
position_completed s (at_value c b) = value_begins s c b
position_completed s (after_letter l) = letter_ends s on_left l
position_completed s at_called = then_token (here (called x_name) (level s)) (λ q. refl) (call_begins s x_name)
position_completed s (at_call n) = call_begins s n
position_completed s (at_argument n) =
    let c = operand s (call_none n) in
    record { more = here closing (level s) ∷ c.more; text = c.text; derived_is = c.derived_is }
position_completed s (done f) = record { more = []; text = f; derived_is = refl }

pub completed : (s : State parts) → Completed s
completed s = position_completed s s.position

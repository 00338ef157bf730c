-- Where a numeral may be, and where not.
use Rattle.std.proofs.Common.{◌≡◌, refl, ℕ, zero, suc, ◌<◌, Bool, true, false, List, [], ◌∷◌, Option, None, arith}
use Rattle.std.specs.Prelude.{IsSome}
use Rattle.formula_parse.specs.Tokens.{number}
use Rattle.formula_parse.specs.Making.{Kinds, Making}
use Rattle.formula_parse.specs.Flaws.{Flaw, Product}
use Rattle.formula_parse.specs.Machine.{Frame, Outer, Role, Position, State, left_index, left_letter, first, second, left_side, right_of, place_in, argument, at_operand, at_system, at_variable, after_operand, after_first, at_factor, after_factor, at_divisor, after_index, at_word, at_bracket, at_letter, at_value, after_letter, at_called, at_call, at_argument, done, paren, scope, close, step_at, leave_product, leave_whole, enter_divisor}

-- positions at which no numeral goes on; a divisor is above 0
abbrev pub refuses : {K : Kinds} → Position K → Bool
refuses at_operand = false
refuses (at_factor h o ss ps p) = false
refuses (at_divisor h o ss m p) = false
refuses (at_argument n) = false
refuses (at_letter c b) = false
refuses (at_value c b) = false
refuses _ = true

module _ {K : Kinds} (A : Making K) (v : ℕ) where
  close_number : (w : Option Flaw) (gs : List (Frame K)) (f : K.Formula) → close A w gs f (number v) ≡ None
  close_number w [] f = refl
  close_number w (paren h y ∷ hs) f = refl
  close_number w (scope k n h ∷ hs) f = close_number w hs _

  whole_number : (s : State K) (h : Role K) (t : K.Term) (q : Bool) → leave_whole A s h t q (number v) ≡ None
  whole_number s left_side t q = refl
  whole_number s (right_of l k) t q = close_number s.flaw s.around _
  whole_number s (place_in a n ts) t q = refl
  whole_number s (argument n ts) t q = refl

  product_number : (s : State K) (h : Role K) (o : List (Outer K)) (t : K.Term) (q : Bool) → leave_product A s h o t q (number v) ≡ None
  product_number s h [] t q = whole_number s h t q
  product_number s h (x ∷ o) t q = refl

  pub position_number : (s : State K) (p : Position K) → refuses p ≡ true → step_at A s p (number v) ≡ None
  position_number s at_operand e = absurd cc
  position_number s at_system e = refl
  position_number s (at_variable q) e = refl
  position_number s (after_operand c) e = close_number s.flaw s.around _
  position_number s (after_first n) e = refl
  position_number s (at_factor h o ss ps p) e = absurd cc
  position_number s (after_factor h o ss m p q) e = product_number s h o (A.term ss m) _
  position_number s (at_divisor h o ss m p) e = absurd cc
  position_number s (after_index first n ts t) e = refl
  position_number s (after_index (second (left_index z k)) n ts t) e = close_number s.flaw s.around _
  position_number s (after_index (second (left_letter l k)) n ts t) e = close_number s.flaw s.around _
  position_number s (at_word (left_index x k)) e = refl
  position_number s (at_word (left_letter l k)) e = refl
  position_number s (at_bracket a n) e = refl
  position_number s (at_letter c b) e = absurd cc
  position_number s (at_value c b) e = absurd cc
  position_number s (after_letter l) e = refl
  position_number s at_called e = refl
  position_number s (at_call n) e = refl
  position_number s (at_argument n) e = absurd cc
  position_number s (done f) e = refl

module _ {K : Kinds} (A : Making K) (s : State K) (h : Role K) (o : List (Outer K)) (ss : K.Addends) (m : K.Prod) (p : Product) where
  pub divisor_above : (v : ℕ) → 0 < v → IsSome (enter_divisor A s h o ss m p (number v))
  divisor_above zero e = absurd (omega (arith, e))
  divisor_above (suc c) e = refl

-- After the end of the text a state is done.
use Rattle.std.proofs.Common.{Bool, List, [], ◌∷◌, Option, None, Some}
use Rattle.std.specs.Prelude.{⊤}
use Rattle.formula_parse.specs.Tokens.{end}
use Rattle.formula_parse.specs.Making.{Kinds, Making}
use Rattle.formula_parse.specs.Advances.{IsDone}
use Rattle.formula_parse.specs.Flaws.{Flaw}
use Rattle.formula_parse.specs.Machine.{Frame, Outer, Role, Position, State, left_index, left_letter, first, second, left_side, right_of, place_in, argument, at_operand, at_system, at_variable, after_operand, after_first, at_factor, after_factor, at_divisor, after_index, at_word, at_bracket, at_letter, at_value, after_letter, at_called, at_call, at_argument, done, paren, scope, close, step_at, step, leave_product, leave_whole}

abbrev pub EndsDone : {K : Kinds} → Option (State K) → Type 0
EndsDone None = ⊤
EndsDone (Some n) = IsDone n.position

module _ {K : Kinds} (A : Making K) where
  close_done : (w : Option Flaw) (gs : List (Frame K)) (f : K.Formula) → EndsDone (close A w gs f end)
  close_done w [] f = tt
  close_done w (paren h y ∷ hs) f = tt
  close_done w (scope k n h ∷ hs) f = close_done w hs _

  whole_done : (s : State K) (h : Role K) (t : K.Term) (q : Bool) → EndsDone (leave_whole A s h t q end)
  whole_done s left_side t q = tt
  whole_done s (right_of l k) t q = close_done s.flaw s.around _
  whole_done s (place_in a n ts) t q = tt
  whole_done s (argument n ts) t q = tt

  product_done : (s : State K) (h : Role K) (o : List (Outer K)) (t : K.Term) (q : Bool) → EndsDone (leave_product A s h o t q end)
  product_done s h [] t q = whole_done s h t q
  product_done s h (x ∷ o) t q = tt

  position_done : (s : State K) (p : Position K) → EndsDone (step_at A s p end)
  position_done s at_operand = tt
  position_done s at_system = tt
  position_done s (at_variable q) = tt
  position_done s (after_operand c) = close_done s.flaw s.around _
  position_done s (after_first n) = tt
  position_done s (at_factor h o ss ps p) = tt
  position_done s (after_factor h o ss m p q) = product_done s h o (A.term ss m) _
  position_done s (at_divisor h o ss m p) = tt
  position_done s (after_index first n ts t) = tt
  position_done s (after_index (second (left_index z k)) n ts t) = close_done s.flaw s.around _
  position_done s (after_index (second (left_letter l k)) n ts t) = close_done s.flaw s.around _
  position_done s (at_word (left_index x k)) = tt
  position_done s (at_word (left_letter l k)) = tt
  position_done s (at_bracket a n) = tt
  position_done s (at_letter c b) = tt
  position_done s (at_value c b) = tt
  position_done s (after_letter l) = tt
  position_done s at_called = tt
  position_done s (at_call n) = tt
  position_done s (at_argument n) = tt
  position_done s (done f) = tt

  pub step_done : (s : State K) → EndsDone (step A s end)
  step_done s = position_done s s.position

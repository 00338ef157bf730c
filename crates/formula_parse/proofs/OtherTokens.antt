-- A token that no arm before the last takes goes the machine's last way.
use Rattle.std.proofs.Common.{◌≡◌, refl, ℕ, zero, suc, None, Some, List, [], Bool, true, false}
use Rattle.std.specs.Prelude.{◌&&◌}
use Rattle.formula_parse.specs.Tokens.{Name, number}
use Rattle.formula_parse.specs.Trees as trees
use Rattle.formula_parse.specs.Flaws.{Product, product_start}
use Rattle.formula_parse.specs.Made.{made, trees as making}
use Rattle.formula_parse.specs.Machine.{Prefix, Outer, Role, left_side, argument, close, whole, leave_closed, leave_product, leave_factor, enter_divisor, after_factor, leave_first, enter_factor, enter_argument}
use Rattle.formula_parse.specs.StateViews.{Machine, token_view}
use Rattle.formula_parse.specs.declared.tree.Sign.{Sign}
use Rattle.formula_parse.specs.declared.token.ChainSign.{ChainSign}
use Rattle.formula_parse.specs.declared.token.Token.{Token}
use Rattle.formula_parse.specs.declared.token.Token.TheVariants as token

pub leave_closed_other : (s : Machine) (r : Prefix made) (c : trees.Formula) (t : Token) → ((k : ChainSign) (b : ℕ) → t ≡ token.Connective k b → ⊥) → ((b : ℕ) → t ≡ token.Implies b → ⊥) → (t ≡ token.Iff → ⊥) → leave_closed making s r c (token_view t) ≡ close making s.flaw s.around (whole making r c) (token_view t)
leave_closed_other s r c (token.Connective k b) f g h = absurd (f k b refl)
leave_closed_other s r c (token.Implies b) f g h = absurd (g b refl)
leave_closed_other s r c token.Iff f g h = absurd (h refl)
leave_closed_other s r c t f g h = refl

pub leave_factor_other : (s : Machine) (h : Role made) (o : List (Outer made)) (ss : trees.Addends) (m : trees.Factors) (p : Product) (q : Bool) (t : Token) → ((b : ℕ) → t ≡ token.Times b → ⊥) → (t ≡ token.Slash → ⊥) → ((e : Sign) → t ≡ token.Sign e → ⊥) → leave_factor making s h o ss m p q (token_view t) ≡ leave_product making s h o (making.term ss m) (p.lone && q) (token_view t)
leave_factor_other s h o ss m p q (token.Times b) u v w = absurd (u b refl)
leave_factor_other s h o ss m p q token.Slash u v w = absurd (v refl)
leave_factor_other s h o ss m p q (token.Sign e) u v w = absurd (w e refl)
leave_factor_other s h o ss m p q t u v w = refl

-- a divisor is above 0
module _ (s : Machine) (h : Role made) (o : List (Outer made)) (ss : trees.Addends) (m : trees.Factors) (p : Product) where
  pub enter_divisor_zero : (v : ℕ) → v ≡ 0 → enter_divisor making s h o ss m p (number v) ≡ None
  enter_divisor_zero zero e = refl
  enter_divisor_zero (suc c) e = absurd cc

  pub enter_divisor_above : (v : ℕ) → (v ≡ 0 → ⊥) → enter_divisor making s h o ss m p (number v) ≡ Some (record s { position = after_factor h o ss (trees.factors m (trees.divided v)) p false })
  enter_divisor_above zero e = absurd (e refl)
  enter_divisor_above (suc c) e = refl

pub leave_first_other : (s : Machine) (n : Name) (t : Token) → (t ≡ token.Bracket → ⊥) → leave_first making s n (token_view t) ≡ leave_factor making s left_side [] trees.no_addends (making.prod trees.no_factors (trees.variable n)) (product_start true) false (token_view t)
leave_first_other s n token.Bracket f = absurd (f refl)
leave_first_other s n t f = refl

pub enter_argument_other : (s : Machine) (n : Name) (t : Token) → (t ≡ token.Closing → ⊥) → enter_argument making s n (token_view t) ≡ enter_factor making s (argument n trees.no_terms) [] trees.no_addends trees.no_factors (product_start true) (token_view t)
enter_argument_other s n token.Closing f = absurd (f refl)
enter_argument_other s n t f = refl

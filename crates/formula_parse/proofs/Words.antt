-- The machine's words over trees and the grammar's are the same.
use Rattle.std.proofs.Common.{◌≡◌, refl, ◌∙◌, ap, ℕ, suc, ◌+◌, List, [], ◌∷◌, length, arith}
use Rattle.std.specs.Prelude.{Vec}
use Rattle.std.specs.List.{fold}
use Rattle.std.specs.declared.alloc.Global.{Global}
use Rattle.formula_parse.specs.Trees as trees
use Rattle.formula_parse.specs.Trees.{Names}
use Rattle.formula_parse.specs.Machine.{within, Prefix, State, operand_nesting, fresh, wrapped, leave_closed}
use Rattle.formula_parse.specs.Tokens.{Name, Token, connective, implies, iff}
use Rattle.formula_parse.specs.Making.{Kinds, Making}
use Rattle.formula_parse.specs.Made.{trees as making}
use Rattle.formula_parse.specs.Building.{under_marks, under_tildes}
use Rattle.formula_parse.specs.Views.{names_view}
use Rattle.formula_parse.specs.StateViews.{tildes_view, body_view}
use Rattle.formula_parse.specs.declared.state.Body.{Body as Body'}

pub wrapped_trees : (st : List Names) (f : trees.Formula) → wrapped making st f ≡ under_tildes st f
wrapped_trees [] f = refl
wrapped_trees (ms ∷ st) f = wrapped_trees st (under_marks ms (trees.negated f))

-- of the body that an operand is left in, its nesting alone matters
pub leave_based : {K : Kinds} (A : Making K) (s : State K) (r : Prefix K) (c : K.Closed) (t : Token) → leave_closed A (record s { body = fresh A s.body.base }) r c t ≡ leave_closed A s r c t
leave_based A s r c (connective k b) = refl
leave_based A s r c (implies b) = refl
leave_based A s r c iff = refl
leave_based A s r c t = refl

-- the nesting after some `~`
pub within-length : (st : List Names) (d : ℕ) → within st d ≡ d + length st
within-length [] d = omega arith
within-length (ms ∷ st) d = ap suc (within-length st d) ∙ omega arith

stack_length : (ts : List (Vec Name Global)) (st : List Names) → length (fold (λ (st : List Names) (ms : Vec Name Global). names_view ms.items ∷ st) st ts) ≡ length ts + length st
stack_length [] st = omega arith
stack_length (t ∷ ts) st = stack_length ts (names_view t.items ∷ st) ∙ omega arith

pub length-tildes_view : (ts : List (Vec Name Global)) → length (tildes_view ts) ≡ length ts
length-tildes_view ts = stack_length ts [] ∙ omega arith

-- the nesting of the operand that comes
pub inside : (b : Body') → operand_nesting (body_view b) ≡ b.prefix.base + length b.before.tildes.items
inside b =
    within-length (tildes_view b.before.tildes.items) b.prefix.base ∙ ap (λ n. b.prefix.base + n) (length-tildes_view b.before.tildes.items)

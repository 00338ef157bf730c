-- What a rule says where no automaton accepts.
use Rattle.std.proofs.Common.{◌≡◌, ℕ, zero, suc, ◌<◌, Bool, true, false, not, ◌&&◌, nat_lt, refl, arith}
use Rattle.std.proofs.lemmas.Bool.Decides.{Decides-ltb}
use Rattle.product_op.specs.declared.op.Op.{Op}
use Rattle.product_op.specs.declared.rule.Rule.TheVariants.{Both, NotFirst}
use Rattle.product_op.specs.Connectives.{connective}
use Rattle.product_op.specs.SinkKeys.{refuses_all_sinks}

and_false : (b : Bool) → not (b && false) ≡ true
and_false true = refl
and_false false = refl

-- more automata than the two arguments refuse
pub refuses-both_more : (op : Op) (count : ℕ) → 2 < count → refuses_all_sinks (Both op) count ≡ true
refuses-both_more op zero more = absurd (omega (arith, more))
refuses-both_more op (suc zero) more = absurd (omega (arith, more))
refuses-both_more op (suc (suc zero)) more = absurd (omega (arith, more))
refuses-both_more op (suc (suc (suc n))) more = and_false (connective op false false)

-- an automaton more than the first refuses
pub refuses-not_first : (count : ℕ) → nat_lt 1 count ≡ refuses_all_sinks NotFirst count
refuses-not_first zero = refl
refuses-not_first (suc zero) = refl
refuses-not_first (suc (suc n)) = (Decides-ltb 1 (suc (suc n))).1 (omega arith)

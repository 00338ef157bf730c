use Rattle.std.proofs.Common.{take, get_or}
use Rattle.std.proofs.lemmas.List.{get_or_default}
use Rattle.formula_parse.specs.declared.tree.Connective.TheVariants.{And}
use Rattle.formula_plan.specs.FormulaPlanning.{operands_at}
use Rattle.formula_plan.specs.declared.chains.Prefix.{Prefix}
use Rattle.formula_plan.proofs.FormulasMade.{prefix_within, operand_within, prefix_more, prefix_all}
use Rattle.formula_plan.proofs.chains.chained.Goals as goal

first : Prefix
first = record { place = 0; connective = And }

pub joined-requires-clause-prefix : goal.joined-requires-clause-prefix
joined-requires-clause-prefix c = prefix_within (operands_at c.args.planner.now.plans (take c.loop-operand.operand-index c.args.operands.now)) c.args.planner.now c.loop-operand.planner c.loop-operand.prefix c.loop-operand.invariant

pub joined-requires-clause-operand : goal.joined-requires-clause-operand
unfolding first
joined-requires-clause-operand c =
    operand_within (operands_at c.args.planner.now.plans (take c.loop-operand.operand-index c.args.operands.now)) c.args.planner.now c.loop-operand.planner c.loop-operand.prefix c.args.operands.now c.loop-operand.operand-index
    (get_or c.args.operands.now c.loop-operand.operand-index first) c.loop-operand.invariant c.requires.operands c.loop-operand-test.true
    (get_or_default c.args.operands.now c.loop-operand.operand-index first (get_or c.args.operands.now c.loop-operand.operand-index first) c.loop-operand-test.true)

pub loop-operand-preserved : goal.loop-operand-preserved
unfolding first
loop-operand-preserved c =
    prefix_more c.args.operands.now c.loop-operand.operand-index (get_or c.args.operands.now c.loop-operand.operand-index first) c.args.planner.now c.loop-operand.planner c.joined.new.planner c.loop-operand.prefix c.in_ok-place.place
    c.loop-operand-test.true (get_or_default c.args.operands.now c.loop-operand.operand-index first (get_or c.args.operands.now c.loop-operand.operand-index first) c.loop-operand-test.true)
    c.requires.operands c.loop-operand.invariant c.in_ok-place.ensures

pub returns : goal.returns
returns c =
    prefix_all c.args.operands.now c.loop-operand.operand-index c.args.last c.in_ok-place-2.place c.args.planner.now c.loop-operand.planner c.joined-2.new.planner c.loop-operand.prefix
    c.loop-operand-test.false c.requires.last c.loop-operand.invariant c.in_ok-place-2.ensures

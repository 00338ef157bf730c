use Rattle.std.proofs.Common.{◌+◌, sym, ap, subst, ◌∙◌, take, drop, Err, rules}
use Rattle.std.specs.FinMap.{get}
use Rattle.std.specs.Option.{option_or}
use Rattle.formula_resolve.specs.Answers.{Reports}
use Rattle.formula_resolve.specs.Clashes.{clash_with, clash_after, first_clash}
use Rattle.formula_resolve.specs.Firsts.{binding}
use Rattle.formula_resolve.proofs.AnswerLemmas.{reports_prefix}
use Rattle.formula_resolve.proofs.ClashLemmas.{clash_step, firsts_more}
use Rattle.formula_resolve.proofs.clash.check_systems.Goals as goal

pub returns-in_err-check_system : goal.returns-in_err-check_system
returns-in_err-check_system c =
    let here : Reports {X = Unit {0}} (first_clash c.args.occurrences.now) (Err c.in_err-check_system.field-0.0) =
    subst (λ x. Reports {X = Unit {0}} x (Err c.in_err-check_system.field-0.0))
    (sym (clash_step c.args.occurrences.now c.loop-occurrence.occurrence-index c.occurrence-item.result c.loop-occurrence.firsts c.loop-occurrence-test.true c.occurrence-item.is c.loop-occurrence.invariant.firsts c.loop-occurrence.invariant.clash))
    (reports_prefix (Unit {0}) (Unit {0}) (clash_with (get c.loop-occurrence.firsts (binding c.occurrence-item.result)) c.occurrence-item.result)
    (clash_after (take (c.loop-occurrence.occurrence-index + 1) c.args.occurrences.now) (drop (c.loop-occurrence.occurrence-index + 1) c.args.occurrences.now))
    c.in_err-check_system.field-0.0 c.in_err-check_system.ensures.clash_is) in
    search rules

pub loop-occurrence-preserved : goal.loop-occurrence-preserved
loop-occurrence-preserved c = record {
  firsts = firsts_more c.args.occurrences.now c.loop-occurrence.occurrence-index c.occurrence-item.result c.loop-occurrence.firsts c.check_system.new.firsts c.loop-occurrence-test.true c.occurrence-item.is c.loop-occurrence.invariant.firsts c.in_ok-check_system.ensures.firsts;
  clash =
      clash_step c.args.occurrences.now c.loop-occurrence.occurrence-index c.occurrence-item.result c.loop-occurrence.firsts c.loop-occurrence-test.true c.occurrence-item.is c.loop-occurrence.invariant.firsts c.loop-occurrence.invariant.clash
      ∙ ap (λ x. option_or x (clash_after (take (c.loop-occurrence.occurrence-index + 1) c.args.occurrences.now) (drop (c.loop-occurrence.occurrence-index + 1) c.args.occurrences.now))) c.in_ok-check_system.ensures.clash_is;
}

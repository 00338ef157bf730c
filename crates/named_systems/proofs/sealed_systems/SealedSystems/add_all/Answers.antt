use Rattle.std.proofs.Common.{◌≡◌, ◌∙◌, ◌+◌, ◌∷◌, ◌++◌, [], take, sym, ap, subst, arith}
use Rattle.std.specs.List.{AllByRecursion}
use Rattle.std.proofs.lemmas.List.{take_more}
use Rattle.std.proofs.lemmas.Result.{err_from_is_err_and}
use Rattle.named_systems.specs.SealedSystems.{HasBuiltIn}
use Rattle.named_systems.proofs.SealedLemmas.{extends_none, extends_both, all_stay, all_have, default_added}
use Rattle.named_systems.proofs.sealed_systems.SealedSystems.add_all.Goals as goal

pub loop-name-init : goal.loop-name-init
loop-name-init c = (extends_none c.args.systems.now, tt)

pub returns-in_err-add : goal.returns-in_err-add
returns-in_err-add c =
    let p = err_from_is_err_and c.from_residual.result c.from_residual.ensures.1 in
    rw (p.1, p.2) (record { extends = extends_both c.args.systems.now c.loop-name.systems c.add.new.systems c.loop-name.invariant.0 c.in_err-add.ensures.extends; there = tt; default = tt })

pub loop-name-preserved : goal.loop-name-preserved
loop-name-preserved c =
    let names = c.args.names.now in
    let i = c.loop-name.name-index in
    let name = c.name-item.result in
    let mid = c.loop-name.systems in
    let more = c.add.new.systems in
    let prefix : take (i + 1) names ≡ take i names ++ name ∷ [] = take_more names i name c.loop-name-test.true ∙ ap (λ n. take i names ++ n ∷ []) (sym c.name-item.is) in (
      extends_both c.args.systems.now mid more c.loop-name.invariant.0 c.in_ok-add.ensures.extends,
      subst (AllByRecursion (HasBuiltIn more)) (sym prefix) (all_have more (take i names) name (all_stay mid more (take i names) c.in_ok-add.ensures.extends c.loop-name.invariant.1) c.in_ok-add.ensures.there),
    )

pub returns : goal.returns
returns c =
    default_added c.args.names.now c.loop-name.name-index c.in_ok-default.default c.args.systems.now c.loop-name.systems c.add-2.new.systems c.add-2.result (omega (arith, c.loop-name-test.false)) c.in_ok-default.ensures c.loop-name.invariant c.add-2.ensures

use Rattle.std.proofs.Common.{rules, ◌<◌, ℕ, Ok, Err, inl, inr, refl, arith, subst}
use Rattle.num_system.specs.Sealed.{IsSealed}
use Rattle.num_system.proofs.LineLemmas.{handed_on}
use Rattle.number_relations.specs.Multiples.{DoesMultiple}
use Rattle.number_relations.proofs.MultipleLemmas.{double_multiple, equal_multiple}
use Rattle.number_relations.proofs.MultiplesDone.{distinct_exchanged, multiple_grows, multiple_made}
use Rattle.number_relations.proofs.multiple.+multiple_steps.Goals as goal

pub multiple_steps-requires : goal.multiple_steps-requires
multiple_steps-requires t c = (omega (arith, c.lesser_factor.ensures.below, c.decreases), distinct_exchanged c.args.names.number.now c.args.names.multiple.now c.args.names.between.now c.requires)

pub returns-in-0-clause-multiple : goal.returns-in-0-clause-multiple
returns-in-0-clause-multiple t c =
    rw c.in-0.is (multiple_made c.args.system.now.value 0 c.args.names.number.now c.args.names.multiple.now c.args.names.between.now c.args.steps.now c.nothing_steps.new.steps c.nothing_steps.result
    (subst IsSealed c.as_ref.ensures c.is_sealed.ensures) c.requires c.nothing_steps.ensures)

pub returns-in_ok-comparison-in-1-clause-steps : goal.returns-in_ok-comparison-in-1-clause-steps
returns-in_ok-comparison-in-1-clause-steps t c = rw c.in-1.is (inr (c.in_ok-comparison-in-1.field-0, c.in_ok-comparison-in-1.ensures, (refl, refl)))

pub returns-in_ok-comparison-in-1-clause-multiple : goal.returns-in_ok-comparison-in-1-clause-multiple
returns-in_ok-comparison-in-1-clause-multiple t c =
    rw c.in-1.is (equal_multiple c.args.system.now.value c.args.names.number.now c.args.names.multiple.now c.in_ok-comparison-in-1.field-0 c.in_ok-comparison-in-1.ensures)

pub returns-in_ok-sum-in-2-clause-steps : goal.returns-in_ok-sum-in-2-clause-steps
returns-in_ok-sum-in-2-clause-steps t c = rw c.in-2.is (inr (c.in_ok-sum-in-2.field-0, c.in_ok-sum-in-2.ensures, (refl, refl)))

pub returns-in_ok-sum-in-2-clause-multiple : goal.returns-in_ok-sum-in-2-clause-multiple
returns-in_ok-sum-in-2-clause-multiple t c =
    rw c.in-2.is (double_multiple c.args.system.now.value c.args.names.number.now c.args.names.multiple.now c.in_ok-sum-in-2.field-0 c.in_ok-sum-in-2.ensures)

pub returns-in_err-lesser-in_default-clause-steps : goal.returns-in_err-lesser-in_default-clause-steps
returns-in_err-lesser-in_default-clause-steps t c =
    let old = c.args.steps.now in
    let new = c.multiple_steps.new.steps in
    let system = c.args.system.now.value in
    let factor = c.args.factor in
    let x = c.args.names.number.now in
    let y = c.args.names.multiple.now in
    let w = c.args.names.between.now in
    let fault = c.in_err-lesser-in_default.field-0.0 in
    let above : 2 < factor = search rules in
    handed_on (λ r. DoesMultiple system factor x y w old r new) c.from_residual-in_err-lesser-in_default.result fault c.from_residual-in_err-lesser-in_default.ensures.1
    (multiple_grows system factor x y w old new (Err fault) above
    (inr (fault, subst (λ (k : ℕ). DoesMultiple system k x w y old (Err fault) new) c.lesser_factor.ensures.lesser c.in_err-lesser-in_default.ensures.steps, refl)))

pub returns-in_ok-lesser-in_default-clause-steps : goal.returns-in_ok-lesser-in_default-clause-steps
returns-in_ok-lesser-in_default-clause-steps t c =
    let old = c.args.steps.now in
    let mid = c.multiple_steps.new.steps in
    let system = c.args.system.now.value in
    let factor = c.args.factor in
    let x = c.args.names.number.now in
    let y = c.args.names.multiple.now in
    let w = c.args.names.between.now in
    let lesser = c.in_ok-lesser-in_default.lesser in
    let above : 2 < factor = search rules in
    multiple_grows system factor x y w old c.growth_steps.new.steps c.growth_steps.result above
    (inl (lesser, mid, subst (λ (k : ℕ). DoesMultiple system k x w y old (Ok lesser) mid) c.lesser_factor.ensures.lesser c.in_ok-lesser-in_default.ensures.steps, rw c.added_name-added.ensures at c.growth_steps.ensures))

pub returns-in_ok-lesser-in_default-clause-multiple : goal.returns-in_ok-lesser-in_default-clause-multiple
returns-in_ok-lesser-in_default-clause-multiple t c =
    multiple_made c.args.system.now.value c.args.factor c.args.names.number.now c.args.names.multiple.now c.args.names.between.now c.args.steps.now c.growth_steps.new.steps c.growth_steps.result
    (subst IsSealed c.as_ref.ensures c.is_sealed.ensures) c.requires (returns-in_ok-lesser-in_default-clause-steps t c)

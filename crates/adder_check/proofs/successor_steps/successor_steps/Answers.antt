use Rattle.std.proofs.Common.{inl, inr}
use Rattle.std.proofs.lemmas.Result.{IfOk-weaker}
use Rattle.adder_check.proofs.PlanLemmas.{two_of, between_names, between_sizes, next_canonical}
use Rattle.num_system.proofs.SuccessorLemmas.{between_holds}
use Rattle.adder_check.proofs.HandedOn.{handed_on}
use Rattle.adder_check.proofs.successor_steps.successor_steps.Goals as goal

pub chain_step-requires-clause-tracks : goal.chain_step-requires-clause-tracks
chain_step-requires-clause-tracks c = two_of c.args.language.now c.in_ok-less.less c.requires.track c.in_ok-less.ensures.step.made_is.sizes

pub next_step-requires-clause-tracks : goal.next_step-requires-clause-tracks
next_step-requires-clause-tracks c = two_of c.args.language.now c.in_ok-less.less c.requires.track c.in_ok-less.ensures.step.made_is.sizes

pub next_step-requires-clause-names : goal.next_step-requires-clause-names
next_step-requires-clause-names c =
    let two = two_of c.args.language.now c.in_ok-less.less c.requires.track c.in_ok-less.ensures.step.made_is.sizes in
    between_names c.args.direction c.in_ok-less.less c.in_ok-chain.chain c.in_ok-between.between two.0 two.1 c.in_ok-chain.ensures.chain c.in_ok-between.ensures.between

pub next_step-requires-clause-sizes : goal.next_step-requires-clause-sizes
next_step-requires-clause-sizes c =
    let two = two_of c.args.language.now c.in_ok-less.less c.requires.track c.in_ok-less.ensures.step.made_is.sizes in
    between_sizes c.args.direction c.in_ok-less.less c.in_ok-chain.chain c.in_ok-between.between two.0 two.1 c.in_ok-chain.ensures.chain c.in_ok-between.ensures.between

pub returns-in_err-between-clause-steps : goal.returns-in_err-between-clause-steps
returns-in_err-between-clause-steps c =
    inl (
      c.in_ok-less.less,
      c.order_step.new.steps,
      c.in_ok-less.ensures,
      inl (
        c.in_ok-chain.chain,
        c.chain_step.new.steps,
        c.in_ok-chain.ensures.steps,
        inr (c.in_err-between.field-0.0, c.in_err-between.ensures.steps, (handed_on _ c.from_residual-in_err-between.result c.from_residual-in_err-between.ensures.1)),
      ),
    )

pub returns-clause-steps : goal.returns-clause-steps
returns-clause-steps c =
    inl (
      c.in_ok-less.less,
      c.order_step.new.steps,
      c.in_ok-less.ensures,
      inl (
        c.in_ok-chain.chain,
        c.chain_step.new.steps,
        c.in_ok-chain.ensures.steps,
        inl (c.in_ok-between.between, c.between_step.new.steps, c.in_ok-between.ensures.steps, c.next_step.ensures.steps),
      ),
    )

pub returns-clause-successor : goal.returns-clause-successor
returns-clause-successor c =
    IfOk-weaker c.next_step.result _ _ (λ next relation s system is.
    let order = c.in_ok-less.ensures.step.made_is.order s system is in
    relation c.args.direction s order
    (between_holds c.args.direction s c.in_ok-chain.chain c.in_ok-between.between system c.in_ok-chain.ensures.chain.names (c.in_ok-chain.ensures.relation c.args.direction s system order) c.in_ok-between.ensures.between))
    c.next_step.ensures.relation

pub returns-clause-canonical : goal.returns-clause-canonical
returns-clause-canonical c = next_canonical c.between_step.new.steps c.next_step.new.steps c.in_ok-less.less c.in_ok-between.between c.next_step.result c.next_step.ensures.steps

use Rattle.std.proofs.Common.{◌≡◌, length, refl, arith}
use Rattle.minimise.proofs.SameLemmas.{same_states}
use Rattle.minimise.proofs.comparison.have_equal_states.Goals as goal

pub returns : goal.returns
returns c =
    let count : length c.args.a.now.states ≡ length c.args.b.now.states = omega arith in
    let all : c.loop-state.state ≡ length c.args.a.now.states = omega arith in (
      (λ is. same_states c.args.a.now.states c.args.b.now.states count (λ q less. c.loop-state.invariant q (omega arith))),
      (λ same. refl),
    )

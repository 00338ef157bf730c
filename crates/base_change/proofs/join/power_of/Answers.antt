use Rattle.std.proofs.Common.{◌≡◌, ◌*◌, ◌^◌, suc, ap, sym, ◌∙◌, arith}
use Rattle.std.proofs.Math.Nat.{pow-suc}
use Rattle.base_change.proofs.RootLemmas.{pow-up}
use Rattle.base_change.proofs.join.power_of.Goals as goal

pub overflow_mul-power : goal.overflow_mul-power
overflow_mul-power c =
    let base = c.args.base in
    let place = c.loop-place._place in
    let next : base ^ suc place ≡ c.loop-place.power * base = pow-suc base place ∙ ap (λ n. n * base) (sym c.loop-place.invariant) in
    omega (arith, next, c.requires.few, pow-up base (suc place) c.args.exponent (omega arith) (omega (arith, c.loop-place-test.true)))

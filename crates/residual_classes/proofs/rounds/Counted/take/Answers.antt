use Rattle.std.proofs.Common.{◌==◌, ◌≤◌, ℕ, List, take, subst, arith}
use Rattle.std.specs.List.{count_by}
use Rattle.digit_tuple.specs.Deterministic.{states_of}
use Rattle.residual_classes.proofs.RoundLemmas.{AreAtMost-counted}
use Rattle.residual_classes.proofs.rounds.Counted.take.Goals as goal

pub returns-then-largest-self-clause-counted : goal.returns-then-largest-self-clause-counted
returns-then-largest-self-clause-counted c =
    let d = c.args.machine.now.dfa.now in
    let classes = c.args.classes.items in
    let largest = c.in_ok-largest.largest in
    record {
      coarse = c.requires.coarse;
      most = AreAtMost-counted (states_of d) classes largest (omega (arith, c.requires.coarse.width))
          (subst (λ (n : ℕ). (class : ℕ) → count_by (λ k. k == class) (take n classes) ≤ largest) c.states-states.ensures.value
          (subst (λ (xs : List ℕ). (class : ℕ) → count_by (λ k. k == class) (take c.states-states.result xs) ≤ largest) c.deref.ensures.value c.in_ok-largest.ensures));
    }

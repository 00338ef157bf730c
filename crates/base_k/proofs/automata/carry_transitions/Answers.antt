use Rattle.std.proofs.Common.{◌+◌, List, Vec, Global, refl, sym, ap, ◌∙◌, subst}
use Rattle.digit_tuple.specs.declared.transitions.Transition.{Transition}
use Rattle.digit_tuple.specs.TransitionsBy.{AreTransitionsBy}
use Rattle.base_k.specs.Carries.{carry_after}
use Rattle.digit_tuple.proofs.TransitionsByLemmas.{transitions_more, transitions_stay}
use Rattle.base_k.proofs.automata.carry_transitions.Goals as goal
use Rattle.base_k.proofs.automata.carry_transitions.Goals.{in-Some+in_ok-push, in_default}

pub loop-letter-preserved : goal.loop-letter-preserved
loop-letter-preserved c =
    let letter = c.loop-letter.letter in
    let target = carry_after c.args.direction c.args.k c.args.carry in
    let before = c.loop-letter.invariant in
    let is_more = λ (transitions : List Transition). AreTransitionsBy target (letter + 1) 2 transitions in
    elim c.match-next.branch [
      | in-Some+in_ok-push w ↦
          let transition : Transition = record { letter = letter; target = w.in-Some.target } in
          subst is_more (sym (ap (λ (transitions : Vec Transition Global). transitions.items) w.transitions-is ∙ w.in_ok-push.ensures.items))
          (transitions_more target letter 2 w.in-Some.target c.loop-letter.transitions.items transition before refl refl w.in-Some.ensures.carry (sym w.in-Some.ensures.next))
      | in_default w ↦
          subst is_more (sym (ap (λ (transitions : Vec Transition Global). transitions.items) w.transitions-is))
          (transitions_stay target letter 2 c.loop-letter.transitions.items before (sym w.in_default.ensures.next))
    ]

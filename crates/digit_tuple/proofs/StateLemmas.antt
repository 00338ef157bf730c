-- States with equal parts.
use Rattle.std.proofs.Common.{◌≡◌, ◌==◌, ◌&&◌, Bool, List, ap, ◌∙◌}
use Rattle.std.specs.Bool.{Decides}
use Rattle.std.specs.Cmp.Lexicographic.{pointwise}
use Rattle.std.proofs.lemmas.Slice.Eq.{slice_eq-Decides}
use Rattle.digit_tuple.specs.declared.transitions.Transition.{Transition}
use Rattle.digit_tuple.specs.Deterministic.{State}
use Rattle.digit_tuple.proofs.TransitionLemmas.{transitions_decide}

-- what `==` says of rows of transitions
pub rows_decide : (es fs : List Transition) (r : Bool) → r ≡ pointwise (λ e f. (e.letter == f.letter) && (e.target == f.target)) es fs → Decides r (es ≡ fs)
rows_decide es fs r is = slice_eq-Decides transitions_decide es fs r is

-- states with equal parts are equal
pub same_state : (s t : State) → s.accepting ≡ t.accepting → s.transitions ≡ t.transitions → s ≡ t
same_state s t accepting transitions =
    ap (λ (b : Bool). let x : State = record { accepting = b; transitions = s.transitions } in x) accepting
    ∙ ap (λ (es : List Transition). let x : State = record { accepting = t.accepting; transitions = es } in x) transitions

-- The one transition of a state from which words of zeros alone are accepted.
use Rattle.std.proofs.Common.{◌≡◌, ℕ, zero, suc, ◌<◌, true, List, [], ◌∷◌, length, get_or, None, Some, refl, sym, ap, ◌∙◌, subst, arith}
use Rattle.std.specs.List.{AllPairs, Contains}
use Rattle.std.proofs.lemmas.List.{get_or_default}
use Rattle.digit_tuple.specs.declared.transitions.Transition.{Transition}
use Rattle.digit_tuple.specs.Deterministic.{Automaton, IsTable, IsByEarlier, letters_of, states_of, transitions_of, step_of, target_by, accepting_of}
use Rattle.digit_tuple.proofs.DfaLemmas.{row_at}
use Rattle.digit_tuple.proofs.MemberLemmas.{Contains-head, Contains-tail}
use Rattle.endless.specs.Links.{IsEnd}
use Rattle.endless.proofs.LiveLemmas.{step_of_transition, transition_there}

-- in a list of one element all are the same
one_letter : (es : List Transition) → length es ≡ 1 → (e f : Transition) → Contains es e → Contains es f → e.letter ≡ f.letter
one_letter es one e f here there =
    let first : here.0 ≡ 0 = omega (arith, here.1, one) in
    let second : there.0 ≡ 0 = omega (arith, there.1, one) in
    ap (λ (x : Transition). x.letter) (sym here.2 ∙ ap (λ k. get_or es k e) first ∙ get_or_default es 0 e f (omega (arith, one)) ∙ ap (λ k. get_or es k f) (sym second) ∙ there.2)

pub end_from_one : (d : Automaton) (q : ℕ) (row : List Transition) → row ≡ transitions_of d q → length row ≡ 1 → accepting_of d q ≡ true → step_of d q 0 ≡ Some q → IsEnd d q
end_from_one d q row is one accepts loop = record { accepts = accepts; loop = loop; alone = alone }
  where
    alone : (a p : ℕ) → ¬ (step_of d q (suc a) ≡ Some p)
    alone a p leads =
        let zeros = transition_there (transitions_of d q) 0 q loop in
        let other = transition_there (transitions_of d q) (suc a) p leads in
        omega (arith, zeros.2, other.2, one_letter (transitions_of d q) (sym (ap length is) ∙ one) zeros.0 other.0 zeros.1 other.1)

pub one_from_end : (d : Automaton) (q : ℕ) → IsTable (letters_of d) d.states → q < states_of d → IsEnd d q → (row : List Transition) → row ≡ transitions_of d q → length row ≡ 1
one_from_end d q table within end row is = by row is end.loop
  where
    by : (es : List Transition) → es ≡ transitions_of d q → target_by (transitions_of d q) 0 ≡ Some q → length es ≡ 1
    by [] same loop = absurd (let none : None ≡ Some q = ap (λ (fs : List Transition). target_by fs 0) same ∙ loop in cc)
    by (e ∷ []) same loop = refl
    by (e ∷ f ∷ es) same loop = absurd (later f.letter refl)
      where
        less : e.letter < f.letter
        less = subst (AllPairs IsByEarlier) (sym same) (row_at d q table within).ascending 0 1 e (omega arith) (omega arith)

        leads : step_of d q f.letter ≡ Some f.target
        leads = step_of_transition d q table within f (subst (λ (fs : List Transition). Contains fs f) same (Contains-tail e (f ∷ es) f (Contains-head f es)))

        later : (a : ℕ) → f.letter ≡ a → ⊥
        later zero none = omega (arith, less, none)
        later (suc a) more = end.alone a f.target (ap (step_of d q) (sym more) ∙ leads)

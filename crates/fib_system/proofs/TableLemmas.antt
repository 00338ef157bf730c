-- The automaton of the words without 11.
use Rattle.std.proofs.Common.{◌≡◌, ℕ, zero, suc, ◌<◌, Bool, true, false, not, List, [], ◌∷◌, Option, None, Some, refl, sym, ap, ◌∙◌, subst, arith}
use Rattle.std.specs.Option.{option_map_or}
use Rattle.std.proofs.lemmas.Bool.{and_right}
use Rattle.digit_tuple.specs.Deterministic.{Automaton, IsSet, with_state, states_of, accepting_of, step_of, accepts_from}
use Rattle.digit_tuple.specs.declared.direction.Direction.{Direction}
use Rattle.numeration.specs.Relations.{IsLanguageOf}
use Rattle.fib_system.specs.Fibonacci.{is_sparse, begins_with_1, fibonacci}
use Rattle.fib_system.proofs.SparseLemmas.{sparse_in_order}

-- an automaton of two states, which are distinguished by the last digit
pub record KnowsLastDigit (d : Automaton) : Type 0 where
  pub accepting : (q : ℕ) → q < 2 → accepting_of d q ≡ true
  pub zero_stays : step_of d 0 0 ≡ Some 0
  pub one_leads : step_of d 0 1 ≡ Some 1
  pub zero_leads : step_of d 1 0 ≡ Some 0
  pub one_stops : step_of d 1 1 ≡ None
  pub others_stop : (q a : ℕ) → q < 2 → step_of d q (suc (suc a)) ≡ None

-- it accepts the words without 11
sparse_accepted : (d : Automaton) (w : List ℕ) → KnowsLastDigit d → (accepts_from d 0 w ≡ is_sparse w) × (accepts_from d 1 w ≡ is_sparse (1 ∷ w))
sparse_accepted d [] sparse_table = (sparse_table.accepting 0 (omega arith), sparse_table.accepting 1 (omega arith))
sparse_accepted d (a ∷ w) sparse_table = by a (sparse_accepted d w sparse_table)
  where
    to : Option ℕ → Bool
    to o = option_map_or (λ p. accepts_from d p w) o false

    by : (b : ℕ) → (accepts_from d 0 w ≡ is_sparse w) × (accepts_from d 1 w ≡ is_sparse (1 ∷ w)) → (to (step_of d 0 b) ≡ is_sparse (b ∷ w)) × (to (step_of d 1 b) ≡ is_sparse (1 ∷ b ∷ w))
    by zero rest = (ap to sparse_table.zero_stays ∙ rest.0, ap to sparse_table.zero_leads ∙ rest.0)
    by (suc zero) rest = (ap to sparse_table.one_leads ∙ rest.1, ap to sparse_table.one_stops)
    by (suc (suc b)) rest = (
      ap to (sparse_table.others_stop 0 b (omega arith)),
      ap to (sparse_table.others_stop 1 b (omega arith)) ∙ sym (and_right (not (begins_with_1 (suc (suc b) ∷ w))) false refl),
    )

pub language_holds : (direction : Direction) (d : Automaton) → d.sizes ≡ 2 ∷ [] → KnowsLastDigit d → IsLanguageOf direction fibonacci d
language_holds direction d sizes sparse_table = record {
  sizes = sizes;
  accepts = λ w. (sparse_accepted d w sparse_table).0 ∙ sym (sparse_in_order direction w);
}

-- two accepting states without transitions
abbrev pub two_states : List ℕ → Automaton
two_states sizes = with_state (with_state (record { sizes = sizes; states = [] }) true) true

bare : (sizes : List ℕ) (q a : ℕ) → q < 2 → step_of (two_states sizes) q a ≡ None
bare sizes zero a small = refl
bare sizes (suc zero) a small = refl
bare sizes (suc (suc q)) a small = absurd (omega (arith, small))

accept : (sizes : List ℕ) (q : ℕ) → q < 2 → accepting_of (two_states sizes) q ≡ true
accept sizes zero small = refl
accept sizes (suc zero) small = refl
accept sizes (suc (suc q)) small = absurd (omega (arith, small))

-- what two states become that are given three transitions
pub set_transitions : (sizes : List ℕ) (one two made : Automaton) → IsSet (two_states sizes) one 0 0 0 → IsSet one two 0 1 1 → IsSet two made 1 0 0 → KnowsLastDigit made × (made.sizes ≡ sizes)
set_transitions sizes one two made first second third = (
  record {
    accepting = λ q small. third.accepting q ∙ second.accepting q ∙ first.accepting q ∙ accept sizes q small;
    zero_stays = third.elsewhere 0 0 (λ h. absurd (omega (arith, h.0))) ∙ second.elsewhere 0 0 (λ h. absurd (omega (arith, h.1))) ∙ first.there;
    one_leads = third.elsewhere 0 1 (λ h. absurd (omega (arith, h.0))) ∙ second.there;
    zero_leads = third.there;
    one_stops =
        third.elsewhere 1 1 (λ h. absurd (omega (arith, h.1)))
        ∙ second.elsewhere 1 1 (λ h. absurd (omega (arith, h.0)))
        ∙ first.elsewhere 1 1 (λ h. absurd (omega (arith, h.0)))
        ∙ bare sizes 1 1 (omega arith);
    others_stop = λ q a small.
        third.elsewhere q (suc (suc a)) (λ h. absurd (omega (arith, h.1)))
        ∙ second.elsewhere q (suc (suc a)) (λ h. absurd (omega (arith, h.1)))
        ∙ first.elsewhere q (suc (suc a)) (λ h. absurd (omega (arith, h.1)))
        ∙ bare sizes q (suc (suc a)) small;
  },
  third.sizes ∙ second.sizes ∙ first.sizes,
)

-- the same, of what the code has made
pub built : (sizes : List ℕ) (empty one two first second made : Automaton) (zero_state one_state : ℕ) → empty ≡ record { sizes = sizes; states = [] }
    → zero_state ≡ states_of empty → one ≡ with_state empty true → one_state ≡ states_of one → two ≡ with_state one true
    → IsSet two first zero_state 0 zero_state → IsSet first second zero_state 1 one_state → IsSet second made one_state 0 zero_state → KnowsLastDigit made × (made.sizes ≡ sizes)
built sizes empty one two first second made zero_state one_state empty_is zero_is one_is one_state_is two_is set_first set_second set_third =
    let start : zero_state ≡ 0 = zero_is ∙ ap (λ (d : Automaton). states_of d) empty_is in
    let with_one : one ≡ with_state (record { sizes = sizes; states = [] }) true = one_is ∙ ap (λ (d : Automaton). with_state d true) empty_is in
    let other : one_state ≡ 1 = one_state_is ∙ ap (λ (d : Automaton). states_of d) with_one in
    let with_two : two ≡ two_states sizes = two_is ∙ ap (λ (d : Automaton). with_state d true) with_one in
    set_transitions sizes first second made
    (subst (λ (d : Automaton). IsSet d first 0 0 0) with_two (subst (λ (n : ℕ). IsSet two first n 0 n) start set_first))
    (subst (λ (n : ℕ). IsSet first second 0 1 n) other (subst (λ (n : ℕ). IsSet first second n 1 one_state) start set_second))
    (subst (λ (n : ℕ). IsSet second made 1 0 n) start (subst (λ (n : ℕ). IsSet second made n 0 zero_state) other set_third))

-- The tables of base k.
use Rattle.std.proofs.Common.{◌≡◌, ℕ, zero, suc, ◌*◌, ◌<◌, ◌≤◌, Bool, true, false, ◌&&◌, ◌⊎◌, inl, inr, List, [], ◌∷◌, Option, None, Some, refl, sym, ap, ◌∙◌, subst, arith}
use Rattle.std.specs.Option.{option_map_or}
use Rattle.std.proofs.lemmas.Bool.{cases_lt, le-ltb}
use Rattle.std.proofs.lemmas.List.Elements.{All-cons}
use Rattle.digit_tuple.specs.Letters.{product}
use Rattle.digit_tuple.specs.Deterministic.{Automaton, State, IsTable, IsRow, step_of, accepts_from, accepts_of, target_by}
use Rattle.digit_tuple.specs.DfaRows.{state_in, states_in}
use Rattle.digit_tuple.specs.declared.dfa.DfaState.{DfaState}
use Rattle.digit_tuple.specs.declared.transitions.Transition.{Transition}
use Rattle.digit_tuple.specs.declared.direction.Direction.{Direction}
use Rattle.digit_tuple.proofs.DfaLemmas.{target_by-none}
use Rattle.numeration.specs.Representation.{letters_in}
use Rattle.numeration.specs.Relations.{IsLanguageOf, IsAdderOf}
use Rattle.base_k.specs.Positional.{are_digits, base}
use Rattle.digit_tuple.specs.TransitionsBy.{AreTransitionsBy}
use Rattle.base_k.specs.Carries.{next_carry, carry_after}
use Rattle.base_k.specs.BaseLaws.{digits_after}
use Rattle.base_k.proofs.ValueLemmas.{digits_in_order}
use Rattle.base_k.proofs.AdderLemmas.{three, tracks, first_small, second_small, third_small, carries_add}

-- transitions where a function says are those of a state
row_by : (target : ℕ → Option ℕ) (letters states : ℕ) (transitions : List Transition) → AreTransitionsBy target letters states transitions → IsRow letters states transitions
row_by target letters states transitions by = record { in_range = by.in_range; ascending = by.ascending }

-- no letter past the last leads anywhere
past_letters : (target : ℕ → Option ℕ) (letters states : ℕ) (transitions : List Transition) (a : ℕ) → AreTransitionsBy target letters states transitions → letters ≤ a → target_by transitions a ≡ None
past_letters target letters states transitions a by past = target_by-none transitions a (λ i d within at. absurd (omega (arith, (by.in_range i d within).0, at, past)))

-- The adder

-- the states of the adder: one for each carry
pub record AreCarryStates (direction : Direction) (k : ℕ) (none one : DfaState) : Type 0 where
  pub accepts : none.accepting ≡ true
  pub refuses : one.accepting ≡ false
  pub none_transitions : AreTransitionsBy (carry_after direction k 0) (k * (k * k)) 2 none.transitions.items
  pub one_transitions : AreTransitionsBy (carry_after direction k 1) (k * (k * k)) 2 one.transitions.items

cube_is : (k : ℕ) → k * (k * (k * 1)) ≡ k * (k * k)
cube_is k = omega arith

pub adder_table : (direction : Direction) (k : ℕ) (none one : DfaState) → AreCarryStates direction k none one → IsTable (product (k ∷ k ∷ k ∷ [])) (states_in (none ∷ one ∷ []))
adder_table direction k none one states =
    subst (λ (letters : ℕ). IsTable letters (states_in (none ∷ one ∷ []))) (sym (cube_is k)) (record {
      initial = omega arith;
      part = record {
        small = omega arith;
        rows = All-cons Row (state_in none) (state_in one ∷ []) (row_by (carry_after direction k 0) (k * (k * k)) 2 none.transitions.items states.none_transitions)
            (All-cons Row (state_in one) [] (row_by (carry_after direction k 1) (k * (k * k)) 2 one.transitions.items states.one_transitions) (λ i d within. absurd (omega arith)));
      };
    })
  where
    Row : State → Type 0
    Row state = IsRow (k * (k * k)) 2 state.transitions

pub adder_holds : (direction : Direction) (k : ℕ) (none one : DfaState) (d : Automaton) → 2 ≤ k → AreCarryStates direction k none one → d ≡ record { sizes = k ∷ k ∷ k ∷ []; states = states_in (none ∷ one ∷ []) } → IsAdderOf direction (base k) d
adder_holds direction k none one d some states is =
    subst (IsAdderOf direction (base k)) (sym is) (carries_add direction k (record { sizes = k ∷ k ∷ k ∷ []; states = states_in (none ∷ one ∷ []) }) some refl (record {
      none = states.accepts;
      one = states.refuses;
      step = step;
      firsts = λ a within. first_small k a positive within;
      seconds = λ a within. second_small k a positive;
      thirds = λ a within. third_small k a positive;
    }))
  where
    positive : 0 < k
    positive = omega (arith, some)

    table : Automaton
    table = record { sizes = k ∷ k ∷ k ∷ []; states = states_in (none ∷ one ∷ []) }

    step : (c a : ℕ) → c < 2 → a < letters_in (three k) → step_of table c a ≡ next_carry direction k c ((tracks k).first a) ((tracks k).second a) ((tracks k).third a)
    step zero a small within = states.none_transitions.leads a (omega (arith, within, cube_is k))
    step (suc zero) a small within = states.one_transitions.leads a (omega (arith, within, cube_is k))
    step (suc (suc c)) a small within = absurd (omega (arith, small))

-- The language

-- each digit leads back to the one state
abbrev pub home : ℕ → Option ℕ
home digit = Some 0

-- the one state accepts the words over the digits
home_accepts : (k : ℕ) (state : DfaState) (w : List ℕ) → state.accepting ≡ true → AreTransitionsBy home k 1 state.transitions.items
    → accepts_of (record { sizes = k ∷ []; states = states_in (state ∷ []) }) w ≡ are_digits k w
home_accepts k state [] accepts transitions = accepts
home_accepts k state (a ∷ w) accepts transitions = by (cases_lt a k) (home_accepts k state w accepts transitions)
  where
    table : Automaton
    table = record { sizes = k ∷ []; states = states_in (state ∷ []) }

    by : (a < k) ⊎ (k ≤ a) → accepts_of table w ≡ are_digits k w → accepts_of table (a ∷ w) ≡ are_digits k (a ∷ w)
    by (inl small) rest = ap (λ (o : Option ℕ). option_map_or (λ p. accepts_from table p w) o false) (transitions.leads a small) ∙ rest ∙ sym (digits_after k a w small)
    by (inr large) rest = ap (λ (o : Option ℕ). option_map_or (λ p. accepts_from table p w) o false) (past_letters home k 1 state.transitions.items a transitions large)
        ∙ sym (ap (λ (t : Bool). t && are_digits k w) (le-ltb a k large))

pub language_holds : (direction : Direction) (k : ℕ) (state : DfaState) (d : Automaton) → state.accepting ≡ true → AreTransitionsBy home k 1 state.transitions.items → d ≡ record { sizes = k ∷ []; states = states_in (state ∷ []) } → IsLanguageOf direction (base k) d
language_holds direction k state d accepts transitions is =
    subst (IsLanguageOf direction (base k)) (sym is) (record {
      sizes = refl;
      accepts = λ w. home_accepts k state w accepts transitions ∙ sym (digits_in_order direction k w);
    })

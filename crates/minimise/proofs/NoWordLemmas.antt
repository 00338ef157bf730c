-- The automaton of no words.
use Rattle.std.proofs.Common.{◌≡◌, ℕ, ◌<◌, zero, suc, List, [], ◌∷◌, get_or, None, Some, ◌⊎◌, inl, refl, arith}
use Rattle.std.specs.List.{All}
use Rattle.digit_tuple.specs.NoWords.{bare_automaton}
use Rattle.digit_tuple.specs.Deterministic.{State, IsRow, letters_of, states_of, step_of, run_of}
use Rattle.digit_tuple.specs.Letters.{IsWord}
use Rattle.digit_tuple.specs.Shortlex.{IsBefore}
use Rattle.minimise.specs.Canonical.{IsCanonical}

-- it is canonical
pub IsCanonical-bare : (sizes : List ℕ) → IsCanonical (bare_automaton sizes)
IsCanonical-bare sizes = record {
  table = record { initial = omega arith; part = record { small = omega arith; rows = rows } };
  firsts = [] ∷ [];
  numbered = record {
    count = refl;
    over = over;
    lead = lead;
    least = least;
    ordered = λ i j d before within. absurd (omega (arith, before, within));
  };
  distinct = λ p q before within. absurd (omega (arith, before, within));
  live = λ p a q within small leads. absurd (nowhere p a q within leads);
}
  where
    rows : All (λ (state : State). IsRow (letters_of (bare_automaton sizes)) 1 state.transitions) (bare_automaton sizes).states
    rows zero d within = record { in_range = λ k e inside. absurd (omega (arith, inside)); ascending = λ i j e before inside. absurd (omega (arith, inside)) }
    rows (suc k) d within = absurd (omega (arith, within))

    over : (q : ℕ) → q < states_of (bare_automaton sizes) → IsWord (letters_of (bare_automaton sizes)) (get_or ([] ∷ []) q [])
    over zero within = tt
    over (suc q) within = absurd (omega (arith, within))

    lead : (q : ℕ) → q < states_of (bare_automaton sizes) → run_of (bare_automaton sizes) 0 (get_or ([] ∷ []) q []) ≡ Some q
    lead zero within = refl
    lead (suc q) within = absurd (omega (arith, within))

    least : (q : ℕ) (w : List ℕ) → IsWord (letters_of (bare_automaton sizes)) w → run_of (bare_automaton sizes) 0 w ≡ Some q → (get_or ([] ∷ []) q [] ≡ w) ⊎ IsBefore (get_or ([] ∷ []) q []) w
    least zero [] inside leads = inl refl
    least (suc q) [] inside leads = absurd (let no : 0 ≡ suc q = cc in omega (arith, no))
    least q (a ∷ w) inside leads = absurd (let no : None ≡ Some q = leads in cc)

    nowhere : (p a q : ℕ) → p < states_of (bare_automaton sizes) → step_of (bare_automaton sizes) p a ≡ Some q → ⊥
    nowhere zero a q within leads = let no : None ≡ Some q = leads in cc
    nowhere (suc p) a q within leads = omega (arith, within)

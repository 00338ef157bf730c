-- Keys of the steps `split` and `join`: the state that whole groups of digits lead to, which may be the sink, and the digits after them.
-- Nobody has to believe this: it serves the code.
use Rattle.std.specs.Prelude.{◌≡◌, ◌==◌, ℕ, ◌<◌, ◌≤◌, ◌^◌, ℤ, Bool, true, false, not, ◌&&◌, List, [], ◌∷◌, ◌++◌, length, map, Option, None, Some, ⊤, MatchOption, if◌then◌else◌}
use Rattle.std.proofs.Common.{refl, arith}
use Rattle.std.proofs.lemmas.Bool.{eqb-false}
use Rattle.std.proofs.lemmas.List.{length_push}
use Rattle.digit_tuple.specs.Deterministic.{Automaton, IsTable, accepting_of, letters_of, states_of, transitions_of}
use Rattle.digit_tuple.specs.Letters.{IsWord}
use Rattle.digit_tuple.proofs.WordLemmas.{IsWord-push}
use Rattle.residual_classes.specs.Classes.{first_of, next_of}
use Rattle.residual_classes.proofs.SinkLemmas.{next_within}
use Rattle.minimise.proofs.LeadLemmas.{lead}
use Rattle.word_output.specs.LetterFunctions.{LetterFunctionValue}
use Rattle.word_output.specs.StateLetters.{letter_of_state}
use Rattle.base_change.specs.Digits.{lowest_digits, value_lsd}

-- a state or the sink, and fewer than b digits
abbrev pub IsGroupKey : Automaton → ℕ → ℕ → List ℕ → Type 0
IsGroupKey d r b [] = ⊥
IsGroupKey d r b (q ∷ ds) = (q ≤ states_of d) × (length ds < b) × IsWord r ds

-- the key with a whole group read as one digit
abbrev pub without_group : Automaton → ℕ → ℕ → List ℕ → List ℕ
without_group d r b [] = []
without_group d r b (q ∷ ds) = if length ds == b then next_of d q (value_lsd r ds) ∷ [] else q ∷ ds

-- where a digit leads by the step `split`
abbrev pub split_next : Automaton → ℕ → ℕ → List ℕ → ℕ → List ℕ
split_next d r b key digit = without_group d r b (key ++ digit ∷ [])

abbrev pub split_after : Automaton → ℕ → ℕ → List ℕ → ℕ → Option (List ℕ)
split_after d r b key digit = Some (split_next d r b key digit)

-- where a digit leads by the step `join`
abbrev pub join_next : Automaton → ℕ → ℕ → List ℕ → ℕ → List ℕ
join_next d r a [] digit = []
join_next d r a (q ∷ ds) digit = lead d q (lowest_digits r a digit) ∷ []

abbrev pub join_after : Automaton → ℕ → ℕ → List ℕ → ℕ → Option (List ℕ)
join_after d r a key digit = Some (join_next d r a key digit)

-- the letter of a key: that of its state, or of where its digits, as those of one digit, lead from there
abbrev pub key_letter : LetterFunctionValue → ℕ → List ℕ → Option ℤ
key_letter f r [] = None
key_letter f r (q ∷ []) = letter_of_state f q
key_letter f r (q ∷ d ∷ ds) = letter_of_state f (next_of f.automaton q (value_lsd r (d ∷ ds)))

abbrev pub key_letters : LetterFunctionValue → ℕ → List (List ℕ) → List (Option ℤ)
key_letters f r keys = map (key_letter f r) keys

-- the table is one, and its letters are groups of digits: there are two digits at least, in each group one at least
pub record AreGroups (d : Automaton) (r b : ℕ) : Type 0 where
  pub table : IsTable (letters_of d) d.states
  pub base : 2 ≤ r
  pub some : 1 ≤ b
  pub few : r ^ b ≤ 65536

-- the initial state, or the sink
first_within : (d : Automaton) → first_of d ≤ states_of d
first_within d = by (not (accepting_of d 0) && (length (transitions_of d 0) == 0))
  where
    by : (b : Bool) → (if b then states_of d else 0) ≤ states_of d
    by true = omega arith
    by false = omega arith

-- the key of the empty word
pub first_is_key : (d : Automaton) (r b : ℕ) → 1 ≤ b → IsGroupKey d r b (first_of d ∷ [])
first_is_key d r b some = (first_within d, omega (arith, some), tt)

-- what a digit leads to by the step `split`
pub split_after_is_key : (d : Automaton) (r b : ℕ) → AreGroups d r b → (key : List ℕ) (digit : ℕ) → IsGroupKey d r b key → digit < r → MatchOption (split_after d r b key digit) ⊤ (IsGroupKey d r b)
split_after_is_key d r b groups [] digit is small = absurd is
split_after_is_key d r b groups (q ∷ ds) digit is small = by (length (ds ++ digit ∷ []) == b) refl
  where
    by : (whole : Bool) → (length (ds ++ digit ∷ []) == b) ≡ whole → IsGroupKey d r b (if whole then next_of d q (value_lsd r (ds ++ digit ∷ [])) ∷ [] else q ∷ (ds ++ digit ∷ []))
    by true is_whole = (next_within d groups.table q (value_lsd r (ds ++ digit ∷ [])), omega (arith, groups.some), tt)
    by false not_whole = (is.0, omega (arith, is.1, length_push ds digit, eqb-false (length (ds ++ digit ∷ [])) b not_whole), IsWord-push r ds digit is.2 small)

-- and by the step `join`
pub join_after_is_key : (d : Automaton) (r a : ℕ) → IsTable (letters_of d) d.states → (key : List ℕ) (digit : ℕ) → IsGroupKey d r 1 key → MatchOption (join_after d r a key digit) ⊤ (IsGroupKey d r 1)
join_after_is_key d r a table [] digit is = absurd is
join_after_is_key d r a table (q ∷ ds) digit is = (lead_within (lowest_digits r a digit) q is.0, omega arith, tt)
  where
    lead_within : (w : List ℕ) (p : ℕ) → p ≤ states_of d → lead d p w ≤ states_of d
    lead_within [] p within = within
    lead_within (x ∷ w) p within = lead_within w (next_of d p x) (next_within d table p x)

pub first_state_is_key : (d : Automaton) (r : ℕ) → IsGroupKey d r 1 (first_of d ∷ [])
first_state_is_key d r = first_is_key d r 1 (omega arith)

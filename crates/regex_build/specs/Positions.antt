-- The automaton of an expression's letters: state 0 is initial, and each letter of the expression is a state, counted from 1.
use Rattle.std.specs.Prelude.{◌≡◌, ℕ, zero, suc, ◌+◌, ◌↔◌, List, [], ◌∷◌, ◌++◌, length, slice_get, IsSomeAnd, IsTrue, Option, None, Some}
use Rattle.std.specs.Prelude.{ℤ}
use Rattle.digit_tuple.specs.Automaton.{Branching, letters_of, states_of, accepting_of, Leads, Accepts, IsBranchTable}
use Rattle.digit_tuple.specs.Tuples.{IsLetterOf, Codes}
use Rattle.regex_build.specs.Expression.{Expression, occurrences_in, placed}
use Rattle.regex_build.specs.Matches.{Matches}

-- some word over the places begins with the place, or in a state after the first has it right after that state's place
abbrev pub ComesNext : Expression ℕ → ℕ → ℕ → Type 0
ComesNext e zero place = (after : List ℕ) × Matches e (place ∷ after)
ComesNext e (suc state) place = (before : List ℕ) × (after : List ℕ) × Matches e (before ++ suc state ∷ place ∷ after)

-- the empty word is matched, or in a state after the first some word ends with that state's place
abbrev pub MayEnd : Expression ℕ → ℕ → Type 0
MayEnd e zero = Matches e []
MayEnd e (suc state) = (before : List ℕ) × Matches e (before ++ suc state ∷ [])

-- the occurrence is of the letter that is written so, or of any letter
abbrev pub IsOf : {L : Type 0} → (L → ℕ → Type 0) → Option L → ℕ → Type 0
IsOf code (Some x) a = code x a
IsOf {L} code None a = (x : L) × code x a

-- a letter that is written so may be at the place, counted from 1
abbrev pub IsWritten : {L : Type 0} → (L → ℕ → Type 0) → List (Option L) → ℕ → ℕ → Type 0
IsWritten code occurrences zero a = ⊥
IsWritten code occurrences (suc k) a = IsSomeAnd (slice_get occurrences k) (λ occurrence. IsOf code occurrence a)

-- The table of the expression's letters: a state for the beginning and one for each letter, and from state to state each letter
-- that can come next.
pub record IsPositionTable {L : Type 0} (code : L → ℕ → Type 0) (e : Expression L) (n : Branching) : Type 0 where
  pub states : states_of n ≡ length (occurrences_in e) + 1
  pub accepts : (q : ℕ) → IsTrue (accepting_of n q) ↔ MayEnd (placed 1 e) q
  pub leads : (q a place : ℕ) → Leads n q a place ↔ (ComesNext (placed 1 e) q place × IsWritten code (occurrences_in e) place a)

-- the automaton accepts a word of letters if and only if the expression matches the word of tuples that it denotes
abbrev pub AcceptsTheMatches : List (List ℤ) → Expression (List ℤ) → Branching → Type 0
AcceptsTheMatches sets e n = (tuples : List (List ℤ)) (word : List ℕ) → Codes sets tuples word → Accepts n word ↔ Matches e tuples

-- the table of the expression's letters accepts the words that the expression matches, and no others
abbrev pub PositionsAcceptMatches : Type 0
PositionsAcceptMatches = (sets : List (List ℤ)) (e : Expression (List ℤ)) (n : Branching) → IsPositionTable (IsLetterOf sets) e n → AcceptsTheMatches sets e n

-- an expression has one table of its letters
abbrev pub OnePositionTable : Type 0
OnePositionTable = (sets : List (List ℤ)) (e : Expression (List ℤ)) (n m : Branching) → IsPositionTable (IsLetterOf sets) e n → IsPositionTable (IsLetterOf sets) e m
    → n.sizes ≡ m.sizes → IsBranchTable (letters_of n) n.states → IsBranchTable (letters_of m) m.states → n ≡ m

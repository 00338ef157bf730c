-- How many links lead to a state, and states put in order.
use Rattle.std.specs.Prelude.{◌≡◌, ◌≢◌, ◌==◌, ◌&&◌, not, ℕ, zero, suc, ◌+◌, ◌<◌, Bool, true, false, List, [], ◌++◌, length, slice_index_or}
use Rattle.std.specs.List.{count_by, list_any}
use Rattle.digit_tuple.specs.declared.transitions.Transition.{Transition}
use Rattle.digit_tuple.specs.Deterministic.{Automaton, states_of, transitions_of}
use Rattle.endless.specs.Links.{IsLink}

-- the transition is not by 0 where such transitions are left out
abbrev pub is_kept : Bool → Transition → Bool
is_kept without_zero e = not (without_zero && (e.letter == 0))

-- it is kept, and leads to the state
abbrev pub counts : Bool → ℕ → Transition → Bool
counts without_zero q e = is_kept without_zero e && (e.target == q)

-- how many of the transitions do
abbrev pub counted : Bool → List Transition → ℕ → ℕ
counted without_zero es q = count_by (counts without_zero q) es

-- how many links lead from p to q
abbrev pub links : Automaton → ℕ → ℕ → ℕ → ℕ
links d z p q = counted (p == z) (transitions_of d p) q

-- the number is in the list
abbrev pub IsNumberIn : List ℕ → ℕ → Type 0
IsNumberIn xs k = (i : ℕ) × (i < length xs) × (slice_index_or xs i 0 ≡ k)

abbrev pub is_in : List ℕ → ℕ → Bool
is_in xs k = list_any (λ x. x == k) xs

-- the second list begins with the first
abbrev pub Grows : List ℕ → List ℕ → Type 0
Grows old new = (more : List ℕ) × (new ≡ old ++ more)

-- the count, unless it is done with
abbrev pub unless : Bool → ℕ → ℕ
unless true n = 0
unless false n = n

-- how many links lead to q from the states below n that are not done with
abbrev pub links_from : Automaton → ℕ → List ℕ → ℕ → ℕ → ℕ
links_from d z done q zero = 0
links_from d z done q (suc n) = unless (is_in done n) (links d z n q) + links_from d z done q n

-- each state has the number of links that lead to it from the states below n
pub record AreIncoming (d : Automaton) (z : ℕ) (pending : List ℕ) (n : ℕ) : Type 0 where
  pub width : length pending ≡ states_of d
  pub counts : (q : ℕ) → q < states_of d → slice_index_or pending q 0 ≡ links_from d z [] q n

-- the states below n whose count is 0, each once
pub record AreFree (pending order : List ℕ) (n : ℕ) : Type 0 where
  pub within : (i : ℕ) → i < length order → slice_index_or order i 0 < n
  pub apart : (i j : ℕ) → i < j → j < length order → slice_index_or order i 0 ≢ slice_index_or order j 0
  pub placed : (q : ℕ) → q < n → slice_index_or pending q 0 ≡ 0 → IsNumberIn order q
  pub none : (i : ℕ) → i < length order → slice_index_or pending (slice_index_or order i 0) 0 ≡ 0

-- the counts with one more for each transition that counts
pub record AreAdded (without_zero : Bool) (es : List Transition) (old new : List ℕ) : Type 0 where
  pub width : length new ≡ length old
  pub counts : (q : ℕ) → slice_index_or new q 0 ≡ slice_index_or old q 0 + counted without_zero es q

-- and with one less
pub record AreReleased (without_zero : Bool) (es : List Transition) (old new : List ℕ) : Type 0 where
  pub width : length new ≡ length old
  pub counts : (q : ℕ) → slice_index_or new q 0 + counted without_zero es q ≡ slice_index_or old q 0

-- the count of one state is one less
pub record IsOneLess (old new : List ℕ) (q : ℕ) : Type 0 where
  pub width : length new ≡ length old
  pub there : slice_index_or new q 0 + 1 ≡ slice_index_or old q 0
  pub elsewhere : (p : ℕ) → p ≢ q → slice_index_or new p 0 ≡ slice_index_or old p 0

-- to the states whose count is 0 links lead from such states alone, of earlier places; to each of the others one leads from another of them
pub record IsSorted (d : Automaton) (z : ℕ) (pending : List ℕ) : Type 0 where
  pub width : length pending ≡ states_of d
  pub place : ℕ → ℕ
  pub below : (q : ℕ) → q < states_of d → slice_index_or pending q 0 ≡ 0 → place q < states_of d
  pub rises : (p a q : ℕ) → p < states_of d → q < states_of d → slice_index_or pending q 0 ≡ 0 → IsLink d z p a q → place p < place q
  pub from : (q : ℕ) → q < states_of d → 0 < slice_index_or pending q 0 → (p : ℕ) × (a : ℕ) × (p < states_of d) × (0 < slice_index_or pending p 0) × IsLink d z p a q

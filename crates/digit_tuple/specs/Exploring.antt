-- An exploration in progress: keys that are numbered so far, the first words that lead to them, and states of the first keys.
use Rattle.std.specs.Prelude.{◌≡◌, ℕ, ◌<◌, Bool, true, false, List, [], ◌∷◌, ◌++◌, length, Option, None, Some, MatchOption, ◌⊎◌, slice_index_or}
use Rattle.std.specs.List.{All, AllPairs}
use Rattle.digit_tuple.specs.Deterministic.{State, IsByEarlier, no_state, target_by}
use Rattle.digit_tuple.specs.Letters.{IsWord}
use Rattle.digit_tuple.specs.Shortlex.{IsBefore, AreInOrder}
use Rattle.digit_tuple.specs.Keys.{key_run}
use Rattle.digit_tuple.specs.Explored.{AreApart, key_at}

-- the one word is the other or before it
abbrev pub NoLater : List ℕ → List ℕ → Type 0
NoLater w v = (w ≡ v) ⊎ IsBefore w v

-- the keys and their first words, when the letters below a of the key p were tried
pub record IsFrontier (letters : ℕ) (start : List ℕ) (after : List ℕ → ℕ → Option (List ℕ)) (keys firsts : List (List ℕ)) (p a : ℕ) : Type 0 where
  pub count : length firsts ≡ length keys
  pub positive : 0 < length keys
  pub start_is : key_at keys 0 ≡ start
  pub first_word : slice_index_or firsts 0 [] ≡ []
  pub apart : AreApart keys
  pub over : (q : ℕ) → q < length keys → IsWord letters (slice_index_or firsts q [])
  pub lead : (q : ℕ) → q < length keys → key_run after start (slice_index_or firsts q []) ≡ Some (key_at keys q)
  pub ordered : AreInOrder firsts
  pub below : p < length keys → (q : ℕ) → q < length keys → IsBefore (slice_index_or firsts q []) (slice_index_or firsts p [] ++ a ∷ [])

-- the letter a leads from the key p to the key t, whose first word is no later than that of p and a
pub record LeadsTo (after : List ℕ → ℕ → Option (List ℕ)) (keys firsts : List (List ℕ)) (p a t : ℕ) : Type 0 where
  pub within : t < length keys
  pub key_is : after (key_at keys p) a ≡ Some (key_at keys t)
  pub first : NoLater (slice_index_or firsts t []) (slice_index_or firsts p [] ++ a ∷ [])

-- the state is that of the key p
pub record IsStateOf (letters : ℕ) (after : List ℕ → ℕ → Option (List ℕ)) (accepts : List ℕ → Bool) (keys firsts : List (List ℕ)) (p : ℕ) (state : State) : Type 0 where
  pub accepting : state.accepting ≡ accepts (key_at keys p)
  pub in_range : All (λ transition. (transition.letter < letters) × (transition.target < length keys)) state.transitions
  pub ascending : AllPairs IsByEarlier state.transitions
  pub leads : (a : ℕ) → a < letters → MatchOption (target_by state.transitions a) (after (key_at keys p) a ≡ None) (LeadsTo after keys firsts p a)

-- whether a word leads to no key, as far as the states were tried
abbrev pub IsGap : ℕ → List ℕ → (List ℕ → ℕ → Option (List ℕ)) → List State → Bool → Type 0
IsGap letters start after states true = (w : List ℕ) × IsWord letters w × (key_run after start w ≡ None)
IsGap letters start after states false = (p a : ℕ) → p < length states → a < letters → (t : ℕ) × (target_by (slice_index_or states p no_state).transitions a ≡ Some t)

-- the states so far are those of the first keys, and the keys have first words
pub record IsExploring (letters : ℕ) (start : List ℕ) (after : List ℕ → ℕ → Option (List ℕ)) (accepts : List ℕ → Bool) (keys : List (List ℕ)) (states : List State) (gap : Bool) : Type 0 where
  pub firsts : List (List ℕ)
  pub frontier : IsFrontier letters start after keys firsts (length states) 0
  pub rows : (p : ℕ) → p < length states → IsStateOf letters after accepts keys firsts p (slice_index_or states p no_state)
  pub gap_is : IsGap letters start after states gap

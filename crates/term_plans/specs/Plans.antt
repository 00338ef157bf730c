-- Plans: how a relation is made of others. What a plan makes by its last step, or without a step, is a relation over its tracks.
use Rattle.std.specs.Prelude.{ℕ, ℤ, List, [], ◌∷◌, ◌++◌, Bool, true, false}
use Rattle.formula_parse.specs.Tokens.{Name, Relation}
use Rattle.formula_parse.specs.Trees.{Joint}
use Rattle.term_plans.specs.Tracks.{Track, without}

-- A system, an automaton and a word are given by their names.
pub data Plan : Type 0 where
  -- two numbers of a system, compared
  compared : Name → Relation → Track → Track → Plan
  -- the third number is the sum of the others
  added : Name → Track → Track → Track → Plan
  -- any number of a system
  number : Name → Track → Plan
  -- of these numbers an automaton holds
  called : Name → List Track → Plan
  -- a word's letter at these numbers, compared with a letter
  lettered : Name → List Track → Relation → ℤ → Plan
  -- the first track under the name of the second, which may be there already
  renamed : Track → Track → Plan → Plan
  -- by the step `const`: the number
  constant : Name → ℕ → Track → Plan
  -- by the step `product`: both, joined by a connective
  joined : Joint → Plan → Plan → Plan
  -- by the step `product`: the letters of two words, compared
  paired : Name → List Track → Relation → Name → List Track → Plan
  -- by the step `complement`
  complement : Plan → Plan
  -- by the step `project`: some number on the track
  projected : Track → Plan → Plan

-- the tracks of what a plan makes
abbrev pub tracks : Plan → List Track
tracks (compared y r s t) = s ∷ t ∷ []
tracks (added y s t u) = s ∷ t ∷ u ∷ []
tracks (number y t) = t ∷ []
tracks (called n ts) = ts
tracks (lettered n ts r l) = ts
tracks (renamed s t p) = t ∷ without s (tracks p)
tracks (constant y c t) = t ∷ []
tracks (joined j p q) = tracks p ++ tracks q
tracks (paired n ts r w us) = ts ++ us
tracks (complement p) = tracks p
tracks (projected t p) = without t (tracks p)

-- whether it is made by a step
abbrev pub is_step : Plan → Bool
is_step (compared y r s t) = false
is_step (added y s t u) = false
is_step (number y t) = false
is_step (called n ts) = false
is_step (lettered n ts r l) = false
is_step (renamed s t p) = false
is_step (constant y c t) = true
is_step (joined j p q) = true
is_step (paired n ts r w us) = true
is_step (complement p) = true
is_step (projected t p) = true

-- steps in their order, what they make at last, and the number of the next fresh track
pub record Made : Type 0 where
  pub steps : List Plan
  pub last : Plan
  pub next : ℕ

-- The successor of a system's numbers by sums: y follows x where y is x + u for the number u that is 1, and 1 is above 0 and not above a number above 0.
use Rattle.std.specs.Prelude.{◌≡◌, ℕ, ◌<◌, List, [], ◌∷◌}
use Rattle.digit_tuple.specs.Deterministic.{Automaton}
use Rattle.digit_tuple.specs.Names.{joint_names, names_without, places_of}
use Rattle.digit_tuple.specs.Parts.{picked}
use Rattle.digit_tuple.specs.declared.direction.Direction.{Direction}
use Rattle.minimise.specs.Tracked.{NamedAutomaton}
use Rattle.product_op.specs.declared.op.Op.TheVariants.{And}
use Rattle.product_op.specs.Tracks.{joint_sizes}
use Rattle.num_system.specs.Operations.{IsProduct, IsProjection}
use Rattle.num_system.specs.SuccessorSteps.{name_u, name_x, name_y}

-- the number is above 0
abbrev pub IsPositive : List ℕ → Type 0
IsPositive ns = (n : ℕ) × (ns ≡ n ∷ []) × (0 < n)

-- the number is above 1
abbrev pub IsAboveOne : List ℕ → Type 0
IsAboveOne ns = (n : ℕ) × (ns ≡ n ∷ []) × (1 < n)

-- the number is 1
abbrev pub IsOne : List ℕ → Type 0
IsOne ns = ns ≡ 1 ∷ []

-- numbers, their track under the name u
abbrev pub on_u : Automaton → NamedAutomaton
on_u numbers = record { names = name_u ∷ []; automaton = numbers }

-- an adder, its tracks under the names x, u and y
abbrev pub sum_on : Automaton → NamedAutomaton
sum_on adder = record { names = name_x ∷ name_u ∷ name_y ∷ []; automaton = adder }

-- how many digits each track of the two has, but for u
abbrev pub sizes_without_u : NamedAutomaton → NamedAutomaton → List ℕ
sizes_without_u a b = let names = joint_names a.names b.names in picked (places_of names (names_without names name_u)) (joint_sizes a b)

-- some u makes a tuple of which both hold
abbrev pub IsBothForSome : Direction → NamedAutomaton → NamedAutomaton → NamedAutomaton → Type 0
IsBothForSome direction a b c = (both : NamedAutomaton) × IsProduct And a b [] both × IsProjection direction both name_u c

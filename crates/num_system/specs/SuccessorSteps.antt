-- The successor of a system's numbers by three steps from their order: y follows x where x < y and no u has x < u < y.
use Rattle.std.specs.Prelude.{ℕ, ◌+◌, ◌≤◌, List, [], ◌∷◌}
use Rattle.digit_tuple.specs.Deterministic.{Automaton}
use Rattle.digit_tuple.specs.Letters.{product}
use Rattle.digit_tuple.specs.Width.{HasApart, HasWidth}
use Rattle.digit_tuple.specs.declared.direction.Direction.{Direction}
use Rattle.minimise.specs.Tracked.{NamedAutomaton}
use Rattle.product_op.specs.declared.op.Op.TheVariants.{And, AndNot}
use Rattle.product_op.specs.Tracks.{joint_sizes}
use Rattle.product_op.specs.Products.{ProductAlike}
use Rattle.pad_rename.specs.StayingTracks.{staying_places, staying_sizes}
use Rattle.project_close.specs.Projection.{ProjectionAlike}
use Rattle.num_system.specs.Operations.{IsProduct, IsProjection}

-- the names of tracks, u, x and y
abbrev pub name_u : List ℕ
name_u = 117 ∷ []

abbrev pub name_x : List ℕ
name_x = 120 ∷ []

abbrev pub name_y : List ℕ
name_y = 121 ∷ []

-- the order, its tracks under two names
abbrev pub order_on : Automaton → List ℕ → List ℕ → NamedAutomaton
order_on less first second = record { names = first ∷ second ∷ []; automaton = less }

-- x < u and u < y
abbrev pub IsChain : Automaton → NamedAutomaton → Type 0
IsChain less chain = IsProduct And (order_on less name_x name_u) (order_on less name_u name_y) [] chain

-- some u has x < u < y
abbrev pub IsBetween : Direction → Automaton → NamedAutomaton → Type 0
IsBetween direction less between = (chain : NamedAutomaton) × IsChain less chain × IsProjection direction chain name_u between

-- the letters of the first step's tracks
abbrev pub chain_sizes : Automaton → List ℕ
chain_sizes less = joint_sizes (order_on less name_x name_u) (order_on less name_u name_y)

-- which words the steps distinguish
abbrev pub ChainAlike : Automaton → List ℕ → List ℕ → Type 0
ChainAlike less = ProductAlike And (order_on less name_x name_u) (order_on less name_u name_y) []

abbrev pub BetweenAlike : Direction → NamedAutomaton → List ℕ → List ℕ → Type 0
BetweenAlike direction chain = ProjectionAlike chain.automaton (staying_places chain name_u) direction

abbrev pub NextAlike : Automaton → NamedAutomaton → List ℕ → List ℕ → Type 0
NextAlike less between = ProductAlike AndNot (order_on less name_x name_y) between []

-- the widths of the three steps are within the limit
pub record AreWithin (direction : Direction) (less : Automaton) (limit : ℕ) : Type 0 where
  pub chain : NamedAutomaton
  pub between : NamedAutomaton
  pub chain_is : IsChain less chain
  pub between_is : IsProjection direction chain name_u between
  pub first : (n : ℕ) × (n ≤ limit) × HasWidth (ChainAlike less) (product (chain_sizes less)) n
  pub second : (n : ℕ) × (n ≤ limit) × HasWidth (BetweenAlike direction chain) (product (staying_sizes chain name_u)) n
  pub third : (n : ℕ) × (n ≤ limit) × HasWidth (NextAlike less between) (product (joint_sizes (order_on less name_x name_y) between)) n

-- the width of one of the three steps passes the limit
pub data Exceeds (direction : Direction) (less : Automaton) (limit : ℕ) : Type 0 where
  at_chain : HasApart (ChainAlike less) (product (chain_sizes less)) (limit + 1) → Exceeds direction less limit
  at_between : (chain : NamedAutomaton) → IsChain less chain → HasApart (BetweenAlike direction chain) (product (staying_sizes chain name_u)) (limit + 1) → Exceeds direction less limit
  at_next : (between : NamedAutomaton) → IsBetween direction less between → HasApart (NextAlike less between) (product (joint_sizes (order_on less name_x name_y) between)) (limit + 1) → Exceeds direction less limit

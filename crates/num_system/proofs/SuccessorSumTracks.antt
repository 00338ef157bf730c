-- The tracks of the steps of the successor by sums.
use Rattle.std.proofs.Common.{◌≡◌, ℕ, max, List, [], ◌∷◌, ◌∙◌, arith}
use Rattle.digit_tuple.specs.Deterministic.{Automaton}
use Rattle.product_op.specs.Tracks.{joint_sizes}
use Rattle.num_system.specs.SuccessorSteps.{name_u, name_x, order_on}
use Rattle.num_system.specs.SuccessorSums.{on_u, sum_on}

-- the sizes of joint tracks follow from the names and the sizes
sizes_from : (ms ns : List (List ℕ)) (a b : Automaton) (ss ts : List ℕ) → a.sizes ≡ ss → b.sizes ≡ ts
    → joint_sizes (record { names = ms; automaton = a }) (record { names = ns; automaton = b })
    ≡ joint_sizes (record { names = ms; automaton = record { sizes = ss; states = [] } }) (record { names = ns; automaton = record { sizes = ts; states = [] } })
sizes_from ms ns a b ss ts one other =
    λ i. joint_sizes (record { names = ms; automaton = record { sizes = one i; states = [] } }) (record { names = ns; automaton = record { sizes = other i; states = [] } })

max_same : (d : ℕ) → max d d ≡ d
max_same d = omega arith

max_none : (d : ℕ) → max d 0 ≡ d
max_none d = omega arith

-- an order and numbers
pub above_sizes : (less numbers : Automaton) (d : ℕ) → less.sizes ≡ d ∷ d ∷ [] → numbers.sizes ≡ d ∷ [] → joint_sizes (order_on less name_u name_x) (on_u numbers) ≡ d ∷ d ∷ []
above_sizes less numbers d pairs single =
    sizes_from (order_on less name_u name_x).names (on_u numbers).names less numbers (d ∷ d ∷ []) (d ∷ []) pairs single ∙ (λ i. max_same d i ∷ max_none d i ∷ [])

-- numbers and others
pub one_sizes : (first second : Automaton) (d : ℕ) → first.sizes ≡ d ∷ [] → second.sizes ≡ d ∷ [] → joint_sizes (on_u first) (on_u second) ≡ d ∷ []
one_sizes first second d one other = sizes_from (on_u first).names (on_u second).names first second (d ∷ []) (d ∷ []) one other ∙ (λ i. max_same d i ∷ [])

-- an adder and numbers
pub sum_sizes : (adder numbers : Automaton) (d : ℕ) → adder.sizes ≡ d ∷ d ∷ d ∷ [] → numbers.sizes ≡ d ∷ [] → joint_sizes (sum_on adder) (on_u numbers) ≡ d ∷ d ∷ d ∷ []
sum_sizes adder numbers d triples single =
    sizes_from (sum_on adder).names (on_u numbers).names adder numbers (d ∷ d ∷ d ∷ []) (d ∷ []) triples single ∙ (λ i. max_same d i ∷ max_none d i ∷ max_none d i ∷ [])

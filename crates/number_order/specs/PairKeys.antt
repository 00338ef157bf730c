-- Keys of two words that are read side by side: where each leads in the language's automaton, and how they compare so far.
use Rattle.std.specs.Prelude.{◌==◌, ℕ, zero, suc, ◌/◌, ◌%◌, Bool, ◌&&◌, List, [], ◌∷◌, map, slice_index_or}
use Rattle.std.specs.List.{range_with_len}
use Rattle.std.specs.declared.cmp.Ordering.{Ordering}
use Rattle.std.specs.declared.cmp.Ordering.TheVariants.{Less, Equal, Greater}
use Rattle.std.specs.Ordering.{nat_cmp, ordering_then, ordering_index}
use Rattle.digit_tuple.specs.Deterministic.{Automaton, accepting_of}
use Rattle.digit_tuple.specs.declared.direction.Direction.{Direction}
use Rattle.digit_tuple.specs.declared.direction.Direction.TheVariants.{Msd, Lsd}
use Rattle.residual_classes.specs.Classes.{next_of, first_of}

-- the ordering of a number in a key
abbrev pub ordering_at : ℕ → Ordering
ordering_at zero = Less
ordering_at (suc zero) = Equal
ordering_at (suc (suc n)) = Greater

-- the comparison with a digit more on each side, which counts less (msd) or more (lsd) than those before
abbrev pub compared_more : Direction → Ordering → ℕ → ℕ → Ordering
compared_more Msd so_far a b = ordering_then so_far (nat_cmp a b)
compared_more Lsd so_far a b = ordering_then (nat_cmp a b) so_far

abbrev pub at : List ℕ → ℕ → ℕ
at key place = slice_index_or key place 0

abbrev pub first_pair : Automaton → List ℕ
first_pair d = first_of d ∷ first_of d ∷ ordering_index Equal ∷ []

-- where each of so many digits leads from a state or the sink
abbrev pub next_states_of : Automaton → ℕ → ℕ → List ℕ
next_states_of d q digits = map (next_of d q) (range_with_len 0 digits)

-- where a letter of so many digits on each track leads from a key
abbrev pub next_pair : Direction → Automaton → ℕ → List ℕ → ℕ → List ℕ
next_pair direction d digits key letter =
    next_of d (at key 0) (letter / digits)
    ∷ next_of d (at key 1) (letter % digits)
    ∷ ordering_index (compared_more direction (ordering_at (at key 2)) (letter / digits) (letter % digits))
    ∷ []

-- both words are in the language, and they compare as wanted
abbrev pub is_compared_pair : Ordering → Automaton → List ℕ → Bool
is_compared_pair wanted d key = accepting_of d (at key 0) && (accepting_of d (at key 1) && (at key 2 == ordering_index wanted))

-- The tracks that a header gives.
use Rattle.std.specs.Prelude.{ℤ, List}
use Rattle.digit_tuple.specs.Systems.{digit_sets}
use Rattle.digit_tuple.specs.declared.header.Header.{Header}
use Rattle.digit_tuple.specs.declared.header.Header.TheVariants.{Sets, Systems}

-- the sets of a header's tracks; those of systems are their digits
abbrev pub sets_of : Header → List (List ℤ)
sets_of (Sets sets) = sets
sets_of (Systems systems) = digit_sets systems

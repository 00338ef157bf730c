-- What operations on automata of relations hold of. Relations are given by tests, since each is decided by its automaton.
use Rattle.std.specs.Prelude.{◌≡◌, ℕ, Bool, List, [], length, IsTrue}
use Rattle.digit_tuple.specs.Deterministic.{Automaton, accepts_of}
use Rattle.digit_tuple.specs.Names.{places_of, joint_names}
use Rattle.digit_tuple.specs.declared.direction.Direction.{Direction}
use Rattle.minimise.specs.Tracked.{NamedAutomaton}
use Rattle.product_op.specs.declared.op.Op.{Op}
use Rattle.product_op.specs.Connectives.{among_valid}
use Rattle.product_op.specs.Tracks.{joint_sizes}
use Rattle.pad_rename.specs.StayingTracks.{staying_places}
use Rattle.numeration.specs.Systems.{System, AreSystems}
use Rattle.numeration.specs.Representation.{sizes_of}
use Rattle.numeration.specs.Relations.{HoldsOf}
use Rattle.numeration.specs.SomeTracks.{systems_at, completed}
use Rattle.num_system.specs.Joined.{joined, IsBound, AreLanguagesOf}
use Rattle.num_system.specs.Operations.{IsProduct, IsComplement, IsValidPart, IsProjection}
use Rattle.num_system.specs.Representations.{HasRepresentation, IgnoresZeros}

-- the test is passed
abbrev pub Passes : (List ℕ → Bool) → List ℕ → Type 0
Passes test ns = IsTrue (test ns)

-- the automaton holds of the numbers that pass the test, its tracks over the systems of their places among the names
abbrev pub HoldsThere : Direction → List System → List (List ℕ) → NamedAutomaton → (List ℕ → Bool) → Type 0
HoldsThere direction ss names a test = HoldsOf direction (systems_at (places_of names a.names) ss) (Passes test) a.automaton

-- a product holds of what the connective says of the relations
abbrev pub ProductsHold : Type 0
ProductsHold = (direction : Direction) (ss : List System) (op : Op) (p q : List ℕ → Bool) (a b : NamedAutomaton) (languages : List Automaton) (c : NamedAutomaton)
    → length ss ≡ length (joint_names a.names b.names) → joint_sizes a b ≡ sizes_of ss
    → HoldsThere direction ss (joint_names a.names b.names) a p → HoldsThere direction ss (joint_names a.names b.names) b q
    → IsBound op a.names b.names → (IsTrue (among_valid op) → AreLanguagesOf direction ss languages) → IsProduct op a b languages c
    → HoldsOf direction ss (joined op (places_of (joint_names a.names b.names) a.names) (Passes p) (places_of (joint_names a.names b.names) b.names) (Passes q)) c.automaton

-- a complement among the valid words holds of the tuples of which the relation does not hold
abbrev pub ComplementsHold : Type 0
ComplementsHold = (direction : Direction) (ss : List System) (p : List ℕ → Bool) (a : NamedAutomaton) (languages : List Automaton) (c : NamedAutomaton)
    → AreLanguagesOf direction ss languages → HoldsOf direction ss (Passes p) a.automaton → IsComplement a languages c → HoldsOf direction ss (λ ns. ¬ Passes p ns) c.automaton

-- a valid part holds of the same tuples
abbrev pub ValidPartsHold : Type 0
ValidPartsHold = (direction : Direction) (ss : List System) (p : List ℕ → Bool) (a : NamedAutomaton) (languages : List Automaton) (c : NamedAutomaton)
    → AreLanguagesOf direction ss languages → HoldsOf direction ss (Passes p) a.automaton → IsValidPart a languages c → HoldsOf direction ss (Passes p) c.automaton

-- where leading zeros change nothing, a valid part holds of the tuples of which some representation is accepted
abbrev pub ValidPartsRepresent : Type 0
ValidPartsRepresent = (direction : Direction) (ss : List System) (a : NamedAutomaton) (languages : List Automaton) (c : NamedAutomaton)
    → AreSystems ss → AreLanguagesOf direction ss languages → a.automaton.sizes ≡ sizes_of ss → IgnoresZeros direction a.automaton → IsValidPart a languages c
    → HoldsOf direction ss (HasRepresentation direction ss a.automaton) c.automaton

-- a projection holds of the tuples that some number completes
abbrev pub ProjectionsHold : Type 0
ProjectionsHold = (direction : Direction) (ss : List System) (p : List ℕ → Bool) (a : NamedAutomaton) (track : List ℕ) (c : NamedAutomaton)
    → AreSystems ss → length a.names ≡ length ss → HoldsOf direction ss (Passes p) a.automaton → IsProjection direction a track c
    → HoldsOf direction (systems_at (staying_places a track) ss) (completed ss (staying_places a track) (Passes p)) c.automaton

-- without tracks the automaton accepts the empty word if and only if the sentence is true
abbrev pub SentencesHold : Type 0
SentencesHold = (direction : Direction) (p : List ℕ → Bool) (d : Automaton) → HoldsOf direction [] (Passes p) d → accepts_of d [] ≡ p []

-- Products of two automata over the tracks of both.
use Rattle.std.specs.Prelude.{ℕ, Bool, true, ◌&&◌, List, IsTrue, if◌then◌else◌}
use Rattle.digit_tuple.specs.Deterministic.{Automaton, accepts_of}
use Rattle.minimise.specs.Tracked.{NamedAutomaton}
use Rattle.product_op.specs.declared.op.Op.{Op}
use Rattle.product_op.specs.Connectives.{connective, among_valid}
use Rattle.minimise.specs.Residuals.{SameAfter}
use Rattle.digit_tuple.specs.Names.{joint_names}
use Rattle.product_op.specs.Tracks.{joint_sizes, part_on}
use Rattle.product_op.specs.Validity.{is_valid, TracksAlike}

-- the part of a word over the joint tracks of a and b on the tracks of some names
abbrev pub joint_part : NamedAutomaton → NamedAutomaton → List (List ℕ) → List ℕ → List ℕ
joint_part a b some w = part_on (joint_names a.names b.names) (joint_sizes a b) some w

-- whether a word is in the product: as the connective says of its parts, for some connectives among the valid words alone
abbrev pub in_product : Op → NamedAutomaton → NamedAutomaton → List Automaton → List ℕ → Bool
in_product op a b languages w =
    connective op (accepts_of a.automaton (joint_part a b a.names w)) (accepts_of b.automaton (joint_part a b b.names w))
    && (if among_valid op then is_valid (joint_sizes a b) languages w else true)

-- both automata have one residual after their parts of the two words, and where the connective is taken among the valid words, so
-- has each track's language
pub record ProductAlike (op : Op) (a b : NamedAutomaton) (languages : List Automaton) (w v : List ℕ) : Type 0 where
  pub first : SameAfter a.automaton (joint_part a b a.names w) (joint_part a b a.names v)
  pub second : SameAfter b.automaton (joint_part a b b.names w) (joint_part a b b.names v)
  pub tracks : IsTrue (among_valid op) → TracksAlike (joint_sizes a b) languages w v

-- Canonical automata of products, complements among valid words, valid parts and projections.
use Rattle.std.specs.Prelude.{◌≡◌, ℕ, List, IsTrue, ◌↔◌}
use Rattle.digit_tuple.specs.Deterministic.{Automaton, letters_of, accepts_of}
use Rattle.digit_tuple.specs.Letters.{product, IsWord}
use Rattle.digit_tuple.specs.Names.{joint_names, names_without}
use Rattle.digit_tuple.specs.declared.direction.Direction.{Direction}
use Rattle.minimise.specs.Canonical.{IsCanonical}
use Rattle.minimise.specs.Tracked.{NamedAutomaton}
use Rattle.product_op.specs.declared.op.Op.{Op}
use Rattle.product_op.specs.Tracks.{joint_sizes}
use Rattle.product_op.specs.Products.{in_product}
use Rattle.validity.specs.ValidParts.{in_complement, in_valid_part}
use Rattle.pad_rename.specs.StayingTracks.{staying_places, staying_sizes}
use Rattle.project_close.specs.Projection.{InProjection}

-- the canonical automaton of a product
pub record IsProduct (op : Op) (a b : NamedAutomaton) (languages : List Automaton) (c : NamedAutomaton) : Type 0 where
  pub names : c.names ≡ joint_names a.names b.names
  pub sizes : c.automaton.sizes ≡ joint_sizes a b
  pub canonical : IsCanonical c.automaton
  pub language : (w : List ℕ) → IsWord (product (joint_sizes a b)) w → accepts_of c.automaton w ≡ in_product op a b languages w

-- of a complement among the valid words
pub record IsComplement (a : NamedAutomaton) (languages : List Automaton) (c : NamedAutomaton) : Type 0 where
  pub names : c.names ≡ a.names
  pub sizes : c.automaton.sizes ≡ a.automaton.sizes
  pub canonical : IsCanonical c.automaton
  pub language : (w : List ℕ) → IsWord (letters_of a.automaton) w → accepts_of c.automaton w ≡ in_complement a languages w

-- of a valid part
pub record IsValidPart (a : NamedAutomaton) (languages : List Automaton) (c : NamedAutomaton) : Type 0 where
  pub names : c.names ≡ a.names
  pub sizes : c.automaton.sizes ≡ a.automaton.sizes
  pub canonical : IsCanonical c.automaton
  pub language : (w : List ℕ) → IsWord (letters_of a.automaton) w → accepts_of c.automaton w ≡ in_valid_part a languages w

-- and of a projection
pub record IsProjection (direction : Direction) (a : NamedAutomaton) (track : List ℕ) (c : NamedAutomaton) : Type 0 where
  pub names : c.names ≡ names_without a.names track
  pub sizes : c.automaton.sizes ≡ staying_sizes a track
  pub canonical : IsCanonical c.automaton
  pub language : (w : List ℕ) → IsWord (product (staying_sizes a track)) w → IsTrue (accepts_of c.automaton w) ↔ InProjection a.automaton (staying_places a track) direction w

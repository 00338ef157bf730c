-- Relations that have the tracks of the first one are over the systems that were given.
use Rattle.std.proofs.Common.{◌≡◌, ◌<◌, List, [], ◌∷◌, length, get_or, sym, subst, arith}
use Rattle.std.specs.List.{All, AllByRecursion}
use Rattle.std.proofs.lemmas.List.Elements.{All-head}
use Rattle.minimise.specs.Canonical.{IsCanonical}
use Rattle.numeration.specs.Relations.{HoldsOf}
use Rattle.numeration.specs.Representation.{sizes_of}
use Rattle.numeration.specs.Systems.{System}
use Rattle.num_system.specs.Sealed.{IsSealed, SystemValue}
use Rattle.num_system.specs.Tracks.{ShareDirection, systems_of, direction_of}
use Rattle.digit_tuple.specs.declared.direction.Direction.{Direction}
use Rattle.number_relations.specs.Relations.{IsRelation, RelationHolds}
use Rattle.combinations.specs.Parts.{PartValue, systems_at}
use Rattle.combinations.specs.Shapes.{HaveOneShape, HaveSameTracks}
use Rattle.combinations.specs.Combined.{AreSystemsFor}
use Rattle.combinations.proofs.CombinedReadings.{IsOverSizes}
use Rattle.combinations.proofs.TrackLemmas.{systems_at-is, systems_same, direction_same}

-- a relation's automaton is canonical, and holds of its tuples over these systems
pub record FitsSystems (systems : List SystemValue) (part : PartValue) : Type 0 where
  pub canonical : IsCanonical part.relation.automaton
  pub holds : HoldsOf (direction_of systems) (systems_of systems) (RelationHolds part.relation) part.relation.automaton

pub over_sizes : (systems : List SystemValue) (part : PartValue) → FitsSystems systems part → IsOverSizes (sizes_of (systems_of systems)) part
over_sizes systems part fits = record { canonical = fits.canonical; sizes_are = fits.holds.sizes }

-- the first relation is over the systems that were given
given_first : (parts : List PartValue) (systems : List SystemValue) → AreSystemsFor parts systems → 0 < length parts → systems_at parts 0 ≡ systems
given_first [] systems given some = absurd (omega (arith, some))
given_first (part ∷ parts) systems given some = sym given

fits_from : (systems : List SystemValue) (part : PartValue) → AllByRecursion IsSealed systems → IsRelation part.relation → HaveSameTracks systems part.relation.systems → FitsSystems systems part
fits_from systems part sealed is same =
    let r = part.relation in record {
      canonical = is.tracked.canonical;
      holds =
          subst (λ (direction : Direction). HoldsOf direction (systems_of systems) (RelationHolds r) r.automaton) (sym (direction_same systems r.systems same))
          (subst (λ (ss : List System). HoldsOf (direction_of r.systems) ss (RelationHolds r) r.automaton) (sym (systems_same systems r.systems sealed is.sealed same)) is.closed);
    }

module _ (parts : List PartValue) (systems : List SystemValue) (given : AreSystemsFor parts systems) (shape : HaveOneShape parts) (are : All (λ (part : PartValue). IsRelation part.relation) parts) where
  -- and so do the others
  pub parts_fit : AllByRecursion IsSealed systems → All (FitsSystems systems) parts
  parts_fit sealed place default inside =
      let part : PartValue = get_or parts place default in
      let first : systems_at parts 0 ≡ systems = given_first parts systems given (omega (arith, inside)) in
      let same : HaveSameTracks systems part.relation.systems =
      subst (λ (ss : List SystemValue). HaveSameTracks ss part.relation.systems) first
      (subst (λ (ss : List SystemValue). HaveSameTracks (systems_at parts 0) ss) (systems_at-is parts place default inside) (shape place inside).1) in
      fits_from systems part sealed (are place default inside) same

-- there is a track
pub some_track : (parts : List PartValue) (systems : List SystemValue) → AreSystemsFor parts systems → HaveOneShape parts → 0 < length systems
some_track [] systems given shape = given.0
some_track (part ∷ parts) systems given shape = subst (λ (ss : List SystemValue). 0 < length ss) (sym given) (shape 0 (omega arith)).0

-- and one direction
pub one_direction : (parts : List PartValue) (systems : List SystemValue) → AreSystemsFor parts systems → All (λ (part : PartValue). IsRelation part.relation) parts → ShareDirection systems
one_direction [] systems given are = given.1
one_direction (part ∷ parts) systems given are = subst ShareDirection (sym given) (All-head (λ (p : PartValue). IsRelation p.relation) part parts are).shared_direction

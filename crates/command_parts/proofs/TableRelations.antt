-- The relation that is read of a table holds of the numbers of which the table's file does.
use Rattle.std.proofs.Common.{◌≡◌, ◌↔◌, ℕ, ◌<◌, List, [], ◌∷◌, length, Option, Some, Ok, refl, sym, ap, ◌∙◌, subst, arith, Bool, true, false, if◌then◌else◌}
use Rattle.std.specs.List.{AllByRecursion, AllZip}
use Rattle.std.specs.Str.{bytes_eq}
use Rattle.std.proofs.lemmas.Option.{none-some}
use Rattle.digit_tuple.specs.Steps.{StepLog}
use Rattle.digit_tuple.specs.declared.direction.Direction.{Direction}
use Rattle.dfa_reading.specs.Headers.{Header, Truth, Systems, Sets}
use Rattle.dfa_reading.specs.Listed.{Listed}
use Rattle.dfa_reading.specs.Reading.{relation_of}
use Rattle.dfa_loading.specs.declared.loaded.Loaded.{Loaded}
use Rattle.numeration.specs.Systems.{System}
use Rattle.num_system.specs.Sealed.{SystemValue, IsSealed, system_of}
use Rattle.num_system.specs.Tracks as relations
use Rattle.num_system.specs.Tracks.{ShareDirection, direction_of}
use Rattle.number_relations.specs.Relations.{RelationHolds}
use Rattle.plan_relations.specs.Libraries.{NamedRelation}
use Rattle.named_systems.specs.NamedSystems.{NamedSystem, AreSealed, system_named}
use Rattle.definitions.specs.Tracks as tracks
use Rattle.definitions.specs.Tracks.{names_of, systems_of}
use Rattle.definitions.specs.Named.{AreNamed, IsSystemNamed}
use Rattle.definitions.specs.Files.{HasListedWord, HoldsUnder, HoldsBelow, ListedHolds, FileHolds}
use Rattle.definitions.specs.TableLaws.{AreTableSystems, IsRelationOfTable, TablesHold}
use Rattle.definitions.specs.TableSteps.{AreForTracks, HoldsBelowOver, ListedHoldsOver}
use Rattle.system_files.specs.SystemFiles.{Custom}
use Rattle.command_parts.specs.FormulaSteps.{AreMeant}
use Rattle.command_parts.specs.TableReads.{AreSystemsUnder, IsRelationRead}
use Rattle.command_parts.specs.TableReading.{IsReadable}
use Rattle.command_parts.proofs.HeaderLines.{listed_some}
use Rattle.command_parts.proofs.MeantNames.{found_meant}
use Rattle.definitions.proofs.NameLemmas.{one_meaning}

-- what is under each of some names
abbrev pub AreUnder : List NamedSystem → List (List ℕ) → List SystemValue → Type 0
AreUnder systems names found = AllZip (λ name s. system_named systems name ≡ Some s) names found

one_some : {X : Type 0} {o : Option X} (x y : X) → o ≡ Some x → o ≡ Some y → x ≡ y
one_some x y first other = let both : Some x ≡ Some y = sym first ∙ other in cc

-- names determine the systems under them
pub one_under : (systems : List NamedSystem) (names : List (List ℕ)) (found others : List SystemValue) → AreUnder systems names found → AreUnder systems names others → found ≡ others
one_under systems [] [] [] under also = refl
one_under systems [] [] (r ∷ others) under also = absurd also
one_under systems [] (s ∷ found) others under also = absurd under
one_under systems (name ∷ names) [] others under also = absurd under
one_under systems (name ∷ names) (s ∷ found) [] under also = absurd also
one_under systems (name ∷ names) (s ∷ found) (r ∷ others) under also =
    let first : s ≡ r = one_some s r under.0 also.0 in
    let rest : found ≡ others = one_under systems names found others under.1 also.1 in
    λ i. first i ∷ rest i

one_below : (systems : List NamedSystem) (header : Header) (found others : List SystemValue) → AreSystemsUnder systems header found → AreSystemsUnder systems header others → found ≡ others
one_below systems (Truth value) found others under also = under ∙ sym also
one_below systems (Systems names) found others under also = one_under systems names found others under also
one_below systems (Sets sets) found others under also = absurd under

-- sealed systems are found sealed
pub found_sealed : (systems : List NamedSystem) (name : List ℕ) (s : SystemValue) → AreSealed systems → system_named systems name ≡ Some s → IsSealed s
found_sealed [] name s sealed found = absurd (none-some s found)
found_sealed (x ∷ systems) name s sealed found = by (bytes_eq x.name name) (λ (there : system_named systems name ≡ Some s). found_sealed systems name s sealed.1 there) found
  where
    by : (b : Bool) → (system_named systems name ≡ Some s → IsSealed s) → (if b then Some x.system else system_named systems name) ≡ Some s → IsSealed s
    by true rest is = let same : x.system ≡ s = cc in subst IsSealed same sealed.0
    by false rest is = rest is

under_sealed : (systems : List NamedSystem) (names : List (List ℕ)) (found : List SystemValue) → AreSealed systems → AreUnder systems names found → AllByRecursion IsSealed found
under_sealed systems [] [] sealed under = tt
under_sealed systems [] (s ∷ found) sealed under = absurd under
under_sealed systems (name ∷ names) [] sealed under = absurd under
under_sealed systems (name ∷ names) (s ∷ found) sealed under = (found_sealed systems name s sealed under.0, under_sealed systems names found sealed under.1)

pub as_many_under : (systems : List NamedSystem) (names : List (List ℕ)) (found : List SystemValue) → AreUnder systems names found → length found ≡ length names
as_many_under systems [] [] under = refl
as_many_under systems [] (s ∷ found) under = absurd under
as_many_under systems (name ∷ names) [] under = absurd under
as_many_under systems (name ∷ names) (s ∷ found) under = omega (arith, as_many_under systems names found under.1)

pub below_sealed : (systems : List NamedSystem) (header : Header) (found : List SystemValue) → AreSealed systems → AreSystemsUnder systems header found → AllByRecursion IsSealed found
below_sealed systems (Truth value) found sealed under = subst (AllByRecursion IsSealed) (sym under) tt
below_sealed systems (Systems names) found sealed under = under_sealed systems names found sealed under
below_sealed systems (Sets sets) found sealed under = absurd under

pub below_tracks : (systems : List NamedSystem) (header : Header) (found : List SystemValue) → AreSystemsUnder systems header found → ShareDirection found → AreForTracks header found
below_tracks systems (Truth value) found under one = under
below_tracks systems (Systems names) found under one = (as_many_under systems names found under, one)
below_tracks systems (Sets sets) found under one = absurd under

-- the systems that are found, each with its name
abbrev pub with_names : List (List ℕ) → List SystemValue → List tracks.NamedSystem
with_names [] found = []
with_names (name ∷ names) [] = []
with_names (name ∷ names) (s ∷ found) = record { name = name; system = system_of s } ∷ with_names names found

module _ (custom : Custom) (systems : List NamedSystem) (are : AreMeant custom systems) where
  pub names_with : (names : List (List ℕ)) (found : List SystemValue) → AreUnder systems names found → names ≡ names_of (with_names names found)
  names_with [] found under = refl
  names_with (name ∷ names) [] under = absurd under
  names_with (name ∷ names) (s ∷ found) under = ap (λ (ns : List (List ℕ)). name ∷ ns) (names_with names found under.1)

  pub systems_with : (names : List (List ℕ)) (found : List SystemValue) → AreUnder systems names found → systems_of (with_names names found) ≡ relations.systems_of found
  systems_with [] [] under = refl
  systems_with [] (s ∷ found) under = absurd under
  systems_with (name ∷ names) [] under = absurd under
  systems_with (name ∷ names) (s ∷ found) under = ap (λ (ss : List System). system_of s ∷ ss) (systems_with names found under.1)

  pub named_with : (direction : Direction) (names : List (List ℕ)) (found : List SystemValue) → AllByRecursion (λ (s : SystemValue). s.direction ≡ direction) found → AreUnder systems names found → AreNamed custom direction (with_names names found)
  named_with direction [] found directions under = tt
  named_with direction (name ∷ names) [] directions under = absurd under
  named_with direction (name ∷ names) (s ∷ found) directions under =
      (subst (λ (w : Direction). IsSystemNamed custom name w (system_of s)) directions.0 (found_meant custom systems name s are under.0), named_with direction names found directions.1 under.1)

  -- what holds over the systems holds under their names
  named_holds : (names : List (List ℕ)) (found : List SystemValue) (listed : Listed) (ns : List ℕ) → AreUnder systems names found → ShareDirection found → HasListedWord (direction_of found) (relations.systems_of found) listed ns → HoldsUnder custom names listed ns
  named_holds names found listed ns under one word = record {
    direction = direction_of found;
    named = with_names names found;
    names_are = names_with names found under;
    are = named_with (direction_of found) names found one under;
    word = subst (λ (ss : List System). HasListedWord (direction_of found) ss listed ns) (sym (systems_with names found under)) word;
  }

  -- systems that names mean are those that are found under them
  same_systems : (direction : Direction) (named : List tracks.NamedSystem) (found : List SystemValue) → AreNamed custom direction named → AreUnder systems (names_of named) found → systems_of named ≡ relations.systems_of found
  same_systems direction [] [] means under = refl
  same_systems direction [] (s ∷ found) means under = absurd under
  same_systems direction (x ∷ named) [] means under = absurd under
  same_systems direction (x ∷ named) (s ∷ found) means under =
      let first : x.system ≡ system_of s = (one_meaning custom x.name direction s.direction x.system (system_of s) means.0 (found_meant custom systems x.name s are under.0)).1 in
      let rest : systems_of named ≡ relations.systems_of found = same_systems direction named found means.1 under.1 in
      λ i. first i ∷ rest i

  same_direction : (direction : Direction) (named : List tracks.NamedSystem) (found : List SystemValue) → 0 < length (names_of named) → AreNamed custom direction named → AreUnder systems (names_of named) found → direction ≡ direction_of found
  same_direction direction [] found some means under = absurd (omega (arith, some))
  same_direction direction (x ∷ named) [] some means under = absurd under
  same_direction direction (x ∷ named) (s ∷ found) some means under = (one_meaning custom x.name direction s.direction x.system (system_of s) means.0 (found_meant custom systems x.name s are under.0)).0

  -- and what holds under the names holds over the systems
  found_holds : (names : List (List ℕ)) (found : List SystemValue) (listed : Listed) (ns : List ℕ) → 0 < length names → AreUnder systems names found → HoldsUnder custom names listed ns → HasListedWord (direction_of found) (relations.systems_of found) listed ns
  found_holds names found listed ns some under holds =
      let own : AreUnder systems (names_of holds.named) found = subst (λ (xs : List (List ℕ)). AreUnder systems xs found) holds.names_are under in
      let one : direction_of found ≡ holds.direction = sym (same_direction holds.direction holds.named found (subst (λ (xs : List (List ℕ)). 0 < length xs) holds.names_are some) holds.are own) in
      subst (λ (w : Direction). HasListedWord w (relations.systems_of found) listed ns) (sym one)
      (subst (λ (ss : List System). HasListedWord holds.direction ss listed ns) (same_systems holds.direction holds.named found holds.are own) holds.word)

  -- what is listed holds of the same numbers by the names of its header and over the systems under these
  listed_same : (listed : Listed) (found : List SystemValue) (ns : List ℕ) → ((names : List (List ℕ)) → listed.header ≡ Systems names → 0 < length names) → AreSystemsUnder systems listed.header found → ShareDirection found → ListedHolds custom listed ns ↔ ListedHoldsOver found listed ns
  listed_same listed found ns some under one = by listed.header refl under
    where
      by : (header : Header) → listed.header ≡ header → AreSystemsUnder systems header found → HoldsBelow custom header listed ns ↔ HoldsBelowOver header found listed ns
      by (Truth value) is over = ((λ h. h), (λ h. h))
      by (Systems names) is over = (found_holds names found listed ns (some names is) over, named_holds names found listed ns over one)
      by (Sets sets) is over = absurd over

-- a text holds as what it lists
file_same : (custom : Custom) (text : List ℕ) (listed : Listed) (ns : List ℕ) → relation_of text ≡ Ok listed → FileHolds custom text ns ↔ ListedHolds custom listed ns
file_same custom text listed ns lists = (there, λ holds. (listed, lists, holds))
  where
    there : FileHolds custom text ns → ListedHolds custom listed ns
    there (other, also, holds) =
        let same : other ≡ listed = let e : Ok other ≡ Ok listed = sym also ∙ lists in cc in
        subst (λ (l : Listed). ListedHolds custom l ns) same holds

-- the systems of a readable table have one direction
pub read_shared_direction : (systems : List NamedSystem) (table : Loaded) (found : List SystemValue) → IsReadable systems table → AreSystemsUnder systems table.listed.header found → ShareDirection found
read_shared_direction systems table found readable over = subst ShareDirection (one_below systems table.listed.header readable.tracks found readable.over over) readable.shared_direction

-- the relation that is read of a table is one over its systems
pub relation_of_table : TablesHold → (systems : List NamedSystem) → AreSealed systems → (old new : StepLog) (table : Loaded) (r : NamedRelation) → IsReadable systems table → (read : IsRelationRead systems old table r new) → IsRelationOfTable read.tracks table.listed r.relation
relation_of_table hold systems sealed old new table r readable read =
    let one : ShareDirection read.tracks = read_shared_direction systems table read.tracks readable read.over in
    let over : AreTableSystems table.listed read.tracks = record { sealed = below_sealed systems table.listed.header read.tracks sealed read.over; tracks = below_tracks systems table.listed.header read.tracks read.over one } in
    hold read.tracks table.listed old new r.relation over read.done

-- it holds of the numbers of which the text does that lists the table
pub relation_holds : TablesHold → (custom : Custom) (systems : List NamedSystem) → AreSealed systems → AreMeant custom systems → (old new : StepLog) (table : Loaded) (r : NamedRelation) (text : List ℕ) → relation_of text ≡ Ok table.listed
    → IsReadable systems table → IsRelationRead systems old table r new → (ns : List ℕ) → RelationHolds r.relation ns ↔ FileHolds custom text ns
relation_holds hold custom systems sealed are old new table r text lists readable read ns =
    let one : ShareDirection read.tracks = read_shared_direction systems table read.tracks readable read.over in
    let made : IsRelationOfTable read.tracks table.listed r.relation = relation_of_table hold systems sealed old new table r readable read in
    let names : ListedHolds custom table.listed ns ↔ ListedHoldsOver read.tracks table.listed ns = listed_same custom systems are table.listed read.tracks ns (λ names is. listed_some text table.listed names lists is) read.over one in
    let file : FileHolds custom text ns ↔ ListedHolds custom table.listed ns = file_same custom text table.listed ns lists in
    ((λ holds. file.1 (names.1 ((made.holds ns).0 holds))), (λ holds. (made.holds ns).1 (names.0 (file.0 holds))))

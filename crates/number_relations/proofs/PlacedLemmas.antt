-- What automata placed under names hold of.
use Rattle.std.proofs.Common.{◌≡◌, ℕ, ◌<◌, List, [], ◌∷◌, map, length, get_or, refl, sym, ap, ◌∙◌, subst, arith}
use Rattle.std.specs.List.{All, AllByRecursion, Contains}
use Rattle.std.proofs.lemmas.List.{ext_get_or, get_or-map, length-map}
use Rattle.std.proofs.lemmas.List.Elements.{All-from_recursion, All-head, All-map, All-tail, recursion_from_All}
use Rattle.digit_tuple.specs.Deterministic.{Automaton, accepts_of}
use Rattle.digit_tuple.specs.Letters.{product, IsWord}
use Rattle.digit_tuple.specs.Names.{AreDistinct, place_of, places_of}
use Rattle.digit_tuple.specs.Parts.{part, picked}
use Rattle.digit_tuple.specs.declared.direction.Direction.{Direction}
use Rattle.digit_tuple.proofs.MemberLemmas.{Contains-none}
use Rattle.digit_tuple.proofs.NameLemmas.{place_of-at, place_of-contained, places_of-within}
use Rattle.minimise.specs.Canonical.{IsCanonical}
use Rattle.minimise.specs.Tracked.{NamedAutomaton}
use Rattle.numeration.specs.Systems.{System}
use Rattle.numeration.specs.Representation.{letters_in, sizes_of}
use Rattle.numeration.specs.Relations.{HoldsOf}
use Rattle.numeration.specs.SomeTracks.{no_system, system_at, systems_at}
use Rattle.numeration.proofs.ReadingLinks.{reading_holds}
use Rattle.num_system.specs.Sealed.{SystemValue, system_of, IsSealed}
use Rattle.num_system.proofs.NamedLinks.{place_among}
use Rattle.pad_rename.specs.Substitution.{IsSubstitution, sizes_under, word_under}
use Rattle.pad_rename.proofs.SubstitutionLemmas.{size_under, sizes_under-map}
use Rattle.num_system.specs.Tracks.{ShareDirection, systems_of, direction_of, absent_system, system_under, AgreeUnder, systems_under}
use Rattle.number_relations.specs.Relations.{IsRelation, IsClosedOver, HoldsOver, RelationHolds, IsRelationOf, relation_over}
use Rattle.number_relations.specs.Placed.{IsPlaced, each_once}
use Rattle.num_system.proofs.HoldLemmas.{closed_from, holds_representation, representation_holds}
use Rattle.number_relations.proofs.OnceLemmas.{once_distinct, once_others, once_there}
use Rattle.num_system.proofs.SealedLemmas.{are_systems}

-- what holds of each system holds of each name's system
pub all_under : (Q : SystemValue → Type 0) (under : List (List ℕ)) (systems : List SystemValue) → length under ≡ length systems → AllByRecursion Q systems
    → (names : List (List ℕ)) → All (Contains under) names → AllByRecursion Q (systems_under under systems names)
all_under Q under systems count all names there =
    recursion_from_All Q (systems_under under systems names)
    (All-map Q (system_under under systems) names
    (λ i d within. let spot = place_of-contained under (get_or names i d) (there i d within) in
    All-from_recursion Q systems all (place_of under (get_or names i d)) absent_system (omega (arith, spot.0, count))))

-- a name's system has the direction of all
pub direction_under : (under names : List (List ℕ)) (systems : List SystemValue) → length under ≡ length systems → ShareDirection systems → All (Contains names) under → All (Contains under) names
    → direction_of (systems_under under systems names) ≡ direction_of systems
direction_under [] [] [] count shared_direction there others = refl
direction_under (m ∷ under) [] systems count shared_direction there others = absurd (Contains-none m (All-head (Contains []) m under there))
direction_under [] [] (s ∷ systems) count shared_direction there others = absurd (omega (arith, count))
direction_under under (n ∷ names) systems count shared_direction there others =
    let spot = place_of-contained under n (All-head (Contains under) n names others) in
    All-from_recursion (λ (s : SystemValue). s.direction ≡ direction_of systems) systems shared_direction (place_of under n) absent_system (omega (arith, spot.0, count))

-- numbers under some names, at the places of others
pub picked_numbers : (names : List (List ℕ)) (number_of : List ℕ → ℕ) (under : List (List ℕ)) → All (Contains names) under → picked (places_of names under) (map number_of names) ≡ map number_of under
picked_numbers names number_of [] there = refl
picked_numbers names number_of (n ∷ under) there =
    let spot = place_of-contained names n (All-head (Contains names) n under there) in
    ap (λ m. m ∷ picked (places_of names under) (map number_of names)) (get_or-map number_of names (place_of names n) [] 0 spot.0 ∙ ap number_of spot.1)
    ∙ ap (λ ms. number_of n ∷ ms) (picked_numbers names number_of under (All-tail (Contains names) n under there))

-- the digits of a track
track_digits : (systems : List SystemValue) (i : ℕ) → i < length systems → get_or (sizes_of (systems_of systems)) i 0 ≡ (get_or systems i absent_system).digits
track_digits systems i within =
    get_or-map (λ (s : System). s.digits) (systems_of systems) i no_system 0 (omega (arith, within, length-map systems system_of))
    ∙ ap (λ (s : System). s.digits) (get_or-map system_of systems i absent_system no_system within)

length-sizes : (systems : List SystemValue) → length (sizes_of (systems_of systems)) ≡ length systems
length-sizes systems = length-map (systems_of systems) (λ (s : System). s.digits) ∙ length-map systems system_of

-- these names, each once, in any order
pub record AreTheNames (under names : List (List ℕ)) : Type 0 where
  pub distinct : AreDistinct names
  pub there : All (Contains names) under
  pub no_others : All (Contains under) names

pub once_names : (under : List (List ℕ)) → AreTheNames under (each_once under)
once_names under = record { distinct = once_distinct under; there = once_there under; no_others = once_others under }

-- an automaton over systems, and a name for each of its tracks, those of one name over one system
module _ (d : Automaton) (systems : List SystemValue) (under names : List (List ℕ)) (are : AreTheNames under names) (count : length under ≡ length systems) (agree : AgreeUnder under systems)
    (sizes : d.sizes ≡ sizes_of (systems_of systems)) where
  abbrev kept : List SystemValue
  kept = systems_under under systems names

  size_is : (i : ℕ) → i < length under → get_or d.sizes i 0 ≡ (get_or systems i absent_system).digits
  size_is i within = ap (λ (ns : List ℕ). get_or ns i 0) sizes ∙ track_digits systems i (omega (arith, within, count))

  pub substitution : IsSubstitution d.sizes under names
  substitution = record {
    count = count ∙ sym (ap length sizes ∙ length-sizes systems);
    agree = λ i j within inside same. size_is i within ∙ ap (λ (s : SystemValue). s.digits) (agree i j within inside same) ∙ sym (size_is j inside);
    distinct = are.distinct;
    there = are.there;
    no_others = are.no_others;
  }

  -- each name's track has the digits of its system
  pub sizes_kept : sizes_under d.sizes under names ≡ sizes_of (systems_of kept)
  sizes_kept = sizes_under-map d.sizes under names ∙ by names are.no_others
    where
      by : (ns : List (List ℕ)) → All (Contains under) ns → map (size_under d.sizes under) ns ≡ sizes_of (systems_of (systems_under under systems ns))
      by [] there = refl
      by (n ∷ ns) there =
          ap (λ m. m ∷ map (size_under d.sizes under) ns) (size_is (place_of under n) (place_of-contained under n (All-head (Contains under) n ns there)).0)
          ∙ ap (λ ms. (system_under under systems n).digits ∷ ms) (by ns (All-tail (Contains under) n ns there))

  length-kept : length (systems_of kept) ≡ length names
  length-kept = length-map kept system_of ∙ length-map names (system_under under systems)

  abbrev places : List ℕ
  places = places_of names under

  places_inside : All (λ place. place < length (systems_of kept)) places
  places_inside = subst (λ n. All (λ place. place < n) places) (sym length-kept) (places_of-within names under are.there)

  -- the systems at the places of the names are those of the tracks
  systems_read : systems_at places (systems_of kept) ≡ systems_of systems
  systems_read = ext_get_or no_system (systems_at places (systems_of kept)) (systems_of systems) (long ∙ count ∙ sym (length-map systems system_of)) at
    where
      long : length (systems_at places (systems_of kept)) ≡ length under
      long = length-map places (system_at (systems_of kept)) ∙ length-map under (place_of names)

      at : (i : ℕ) → i < length (systems_at places (systems_of kept)) → get_or (systems_at places (systems_of kept)) i no_system ≡ get_or (systems_of systems) i no_system
      at i inside =
          let within : i < length under = omega (arith, inside, long) in
          let name : List ℕ = get_or under i [] in
          let spot = place_of-contained names name (are.there i [] within) in
          let first = place_of-at under name i within refl in
          get_or-map (system_at (systems_of kept)) places i 0 no_system (omega (arith, within, length-map under (place_of names)))
          ∙ ap (system_at (systems_of kept)) (get_or-map (place_of names) under i [] 0 within)
          ∙ get_or-map system_of kept (place_of names name) absent_system no_system (omega (arith, spot.0, length-map names (system_under under systems)))
          ∙ ap system_of (get_or-map (system_under under systems) names (place_of names name) [] absent_system spot.0 ∙ ap (system_under under systems) spot.1 ∙ agree (place_of under name) i first.0 within first.1)
          ∙ sym (get_or-map system_of systems i absent_system no_system (omega (arith, within, count)))

  all_read : (i : ℕ) → i < length (systems_of kept) → Contains places i
  all_read i inside =
      let within : i < length names = omega (arith, inside, length-kept) in
      place_among names under i are.distinct within (are.no_others i [] within)

  -- the automaton under the names
  module _ (shared_direction : ShareDirection systems) (closed : IsClosedOver systems d) (t : NamedAutomaton) (same : t.names ≡ names) (same_sizes : t.automaton.sizes ≡ sizes_under d.sizes under names)
      (language : (w : List ℕ) → IsWord (product (sizes_under d.sizes under names)) w → accepts_of t.automaton w ≡ accepts_of d (word_under d.sizes under names w)) where
    says : (w : List ℕ) → IsWord (letters_in (systems_of kept)) w → accepts_of t.automaton w ≡ accepts_of d (part (sizes_of (systems_of kept)) places w)
    says w over =
        language w (subst (λ (ns : List ℕ). IsWord (product ns) w) (sym sizes_kept) over)
        ∙ ap (λ (ns : List ℕ). accepts_of d (part ns places w)) sizes_kept

    same_direction : direction_of kept ≡ direction_of systems
    same_direction = direction_under under names systems count shared_direction are.there are.no_others

    -- it holds of numbers where the automaton holds of those of its tracks
    table_holds : HoldsOf (direction_of kept) (systems_of kept) (λ ns. HoldsOver systems d (picked places ns)) t.automaton
    table_holds =
        subst (λ (direction : Direction). HoldsOf direction (systems_of kept) (λ ns. HoldsOver systems d (picked places ns)) t.automaton) (sym same_direction)
        (reading_holds (direction_of systems) (systems_of kept) places places_inside (HoldsOver systems d) d
        (subst (λ (ss : List System). HoldsOf (direction_of systems) ss (HoldsOver systems d) d) (sym systems_read) closed)
        t.automaton (same_sizes ∙ sizes_kept) all_read says)

    module _ (sealed : AllByRecursion IsSealed systems) (canonical : IsCanonical t.automaton) where
      kept_sealed : AllByRecursion IsSealed kept
      kept_sealed = all_under IsSealed under systems count sealed names are.no_others

      pub placed_relation : IsRelation (relation_over t kept)
      placed_relation = record {
        tracked = record {
          count = ap length same ∙ sym (ap length (same_sizes ∙ sizes_kept) ∙ length-sizes kept ∙ length-map names (system_under under systems));
          distinct = subst AreDistinct (sym same) are.distinct;
          canonical = canonical;
        };
        count = length-map names (system_under under systems) ∙ sym (ap length same);
        sealed = kept_sealed;
        shared_direction = subst (λ (direction : Direction). AllByRecursion (λ (s : SystemValue). s.direction ≡ direction) kept) (sym same_direction)
            (all_under (λ (s : SystemValue). s.direction ≡ direction_of systems) under systems count shared_direction names are.no_others);
        closed = closed_from (direction_of kept) (systems_of kept) (λ ns. HoldsOver systems d (picked places ns)) t.automaton table_holds;
      }

      there : (number_of : List ℕ → ℕ) → RelationHolds (relation_over t kept) (map number_of names) → HoldsOver systems d (map number_of under)
      there number_of some =
          subst (HoldsOver systems d) (picked_numbers names number_of under are.there)
          (representation_holds (direction_of kept) (systems_of kept) (λ ns. HoldsOver systems d (picked places ns)) t.automaton table_holds (map number_of names) some)

      back : (number_of : List ℕ → ℕ) → HoldsOver systems d (map number_of under) → RelationHolds (relation_over t kept) (map number_of names)
      back number_of some =
          holds_representation (direction_of kept) (systems_of kept) (λ ns. HoldsOver systems d (picked places ns)) t.automaton table_holds (are_systems kept kept_sealed)
          (map number_of names) (length-map names number_of ∙ sym length-kept)
          (subst (HoldsOver systems d) (sym (picked_numbers names number_of under are.there)) some)

      pub placed_holds : IsRelationOf names kept (λ number_of. HoldsOver systems d (map number_of under)) (relation_over t kept)
      placed_holds = record { relation = placed_relation; names_are = same; systems_are = refl; holds_of = λ number_of. (there number_of, back number_of) }

-- a table under these names, and their systems, are the relation of what the automaton holds of
pub placed_as : (d : Automaton) (systems : List SystemValue) (under names : List (List ℕ)) (t : NamedAutomaton) (own : List SystemValue) → AreTheNames under names
    → length under ≡ length systems → AgreeUnder under systems → ShareDirection systems → AllByRecursion IsSealed systems → IsClosedOver systems d
    → t.names ≡ names → t.automaton.sizes ≡ sizes_under d.sizes under names → IsCanonical t.automaton
    → ((w : List ℕ) → IsWord (product (sizes_under d.sizes under names)) w → accepts_of t.automaton w ≡ accepts_of d (word_under d.sizes under names w))
    → own ≡ systems_under under systems names → IsRelationOf names (systems_under under systems names) (λ number_of. HoldsOver systems d (map number_of under)) (relation_over t own)
placed_as d systems under names t own are count agree shared_direction sealed closed same sizes canonical language is =
    subst (λ (ss : List SystemValue). IsRelationOf names (systems_under under systems names) (λ number_of. HoldsOver systems d (map number_of under)) (relation_over t ss)) (sym is)
    (placed_holds d systems under names are count agree closed.sizes shared_direction closed t same sizes language sealed canonical)

-- and so under the names, each once
pub placed_once : (d : Automaton) (systems : List SystemValue) (under names : List (List ℕ)) (t : NamedAutomaton) (own : List SystemValue) → names ≡ each_once under
    → length under ≡ length systems → AgreeUnder under systems → ShareDirection systems → AllByRecursion IsSealed systems → IsClosedOver systems d
    → t.names ≡ names → t.automaton.sizes ≡ sizes_under d.sizes under names → IsCanonical t.automaton
    → ((w : List ℕ) → IsWord (product (sizes_under d.sizes under names)) w → accepts_of t.automaton w ≡ accepts_of d (word_under d.sizes under names w))
    → own ≡ systems_under under systems names → IsPlaced d systems under (relation_over t own)
placed_once d systems under names t own once count agree shared_direction sealed closed same sizes canonical language is =
    subst (λ (ns : List (List ℕ)). IsRelationOf ns (systems_under under systems ns) (λ number_of. HoldsOver systems d (map number_of under)) (relation_over t own)) once
    (placed_as d systems under names t own (subst (AreTheNames under) (sym once) (once_names under)) count agree shared_direction sealed closed same sizes canonical language is)

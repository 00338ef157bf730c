-- What the automaton of a pair of words holds of.
use Rattle.std.proofs.Common.{◌≡◌, ◌⊎◌, inl, inr, ℕ, ◌+◌, ◌-◌, ◌<◌, ℤ, List, [], ◌∷◌, ◌++◌, map, length, get_or, Some, IsTrue, refl, sym, ap, ◌∙◌, subst, arith}
use Rattle.std.specs.List.{All, AllByRecursion, Contains}
use Rattle.std.proofs.lemmas.List.{get_or-append_right, get_or_append_left, length-append, length-map, map-append}
use Rattle.std.proofs.lemmas.List.Elements.{Contains-append_left, Contains-append_right}
use Rattle.std.proofs.lemmas.Simd.{map-map}
use Rattle.digit_tuple.specs.Deterministic.{accepts_of}
use Rattle.digit_tuple.specs.Letters.{IsWord, product}
use Rattle.digit_tuple.specs.Names.{AreDistinct, AreJoint, joint_names, place_of, places_of}
use Rattle.digit_tuple.specs.Paddings.{in_order}
use Rattle.digit_tuple.specs.Parts.{part, picked}
use Rattle.digit_tuple.specs.declared.direction.Direction.{Direction}
use Rattle.digit_tuple.proofs.JointNames.{AreJoint-joint_names}
use Rattle.digit_tuple.proofs.NameLemmas.{places_of-within}
use Rattle.digit_tuple.proofs.PaddingLemmas.{IsWord-in_order}
use Rattle.minimise.specs.Tracked.{NamedAutomaton}
use Rattle.product_op.proofs.SizeLemmas.{AreDistinct-ordered}
use Rattle.numeration.specs.Systems.{System}
use Rattle.numeration.specs.SomeTracks.{system_at, systems_at}
use Rattle.numeration.specs.Representation.{Represents, letters_in, sizes_of}
use Rattle.numeration.proofs.PartRepresentation.{AreValid, IsWord-at, represented_at, valid_represented, ranks, sizes_at}
use Rattle.numeration.proofs.TrackLemmas.{tracks_represent, represents_from_tracks, track}
use Rattle.num_system.specs.Sealed.{SystemValue, system_of}
use Rattle.num_system.specs.Tracks.{AgreeUnder, ShareDirection, absent_system, number_under, system_under, systems_of, systems_under, direction_of}
use Rattle.num_system.specs.declared.comparison.Comparison.{Comparison}
use Rattle.num_system.proofs.NamedLinks.{place_among}
use Rattle.num_system.proofs.ReadTracks.{track_valid}
use Rattle.num_system.proofs.UnderNames.{at_places, systems_again, under_at}
use Rattle.automaton_steps.proofs.DirectionLemmas.{part-in_order}
use Rattle.word_output.specs.Laws.{PairsHold}
use Rattle.word_output.specs.LetterFunctions.{letter_after}
use Rattle.word_output.specs.LetterSets.{ComparesLetters}
use Rattle.word_output.specs.WordPairs.{IsPair, PlacedLetters, letter_read, pair_names, pair_sizes}
use Rattle.word_output.specs.Words.{HasLetter, IsWordValue, RepresentsPlace, WordValue}
use Rattle.word_output.proofs.PlaceLaws.{letter_of_place, place_of_letter}

-- the numbers at the places of names are those under the names
numbers_under : (names some : List (List ℕ)) (ns : List ℕ) → picked (places_of names some) ns ≡ map (number_under names ns) some
numbers_under names some ns = map-map (λ place. get_or ns place 0) (place_of names) some

-- tracks of one direction have that of the first, and so have the last of them
last_directions : (w : Direction) (xs ys : List SystemValue) → AllByRecursion (λ (s : SystemValue). s.direction ≡ w) (xs ++ ys) → AllByRecursion (λ (s : SystemValue). s.direction ≡ w) ys
last_directions w [] ys directions = directions
last_directions w (x ∷ xs) ys directions = last_directions w xs ys directions.1

second_direction : (xs ys : List SystemValue) → 0 < length xs → 0 < length ys → ShareDirection (xs ++ ys) → direction_of ys ≡ direction_of xs
second_direction [] ys some also one = absurd (omega (arith, some))
second_direction (x ∷ xs) [] some also one = absurd (omega (arith, also))
second_direction (x ∷ xs) (y ∷ ys) some also one = (last_directions x.direction xs (y ∷ ys) one.1).0

-- what a word says of its part on some tracks, which are those of systems of their own
module _ (direction : Direction) (ss : List System) (places : List ℕ) (inside : All (λ place. place < length ss) places) (own : List SystemValue)
    (at : systems_at places ss ≡ systems_of own) (own_direction : direction_of own ≡ direction) (w : List ℕ) (over : IsWord (letters_in ss) w) where
  abbrev read : List ℕ
  read = part (sizes_of ss) places w

  turned : IsWord (letters_in ss) (in_order direction w)
  turned = IsWord-in_order direction (letters_in ss) w over

  -- it represents the numbers there
  pub part_represents : (ns : List ℕ) → Represents ss (in_order direction w) ns → RepresentsPlace own (picked places ns) read
  part_represents ns represented =
      let tracks : List System = systems_at places ss in
      let each_represents = represented_at ss places inside (in_order direction w) ns turned (tracks_represent ss (in_order direction w) ns represented) in
      let here : Represents tracks (part (sizes_of ss) places (in_order direction w)) (picked places ns) = represents_from_tracks tracks (part (sizes_of ss) places (in_order direction w)) (picked places ns) each_represents in
      record {
        over = subst (λ (ts : List System). IsWord (letters_in ts) read) at (IsWord-at ss places inside w over);
        represents = subst (λ (d : Direction). Represents (systems_of own) (in_order d read) (picked places ns)) (sym own_direction)
            (subst (λ (ts : List System). Represents ts (in_order direction read) (picked places ns)) at
            (subst (λ (v : List ℕ). Represents tracks v (picked places ns)) (part-in_order direction (sizes_of ss) places w) here));
      }

  -- where it represents numbers, its tracks are valid
  pub part_valid : (ms : List ℕ) → RepresentsPlace own ms read → (i : ℕ) → Contains places i → IsTrue ((system_at ss i).test (track ss i (in_order direction w)))
  part_valid ms represented i found =
      let tracks : List System = systems_at places ss in
      let there : Represents tracks (in_order direction read) ms =
      subst (λ (ts : List System). Represents ts (in_order direction read) ms) (sym at)
      (subst (λ (d : Direction). Represents (systems_of own) (in_order d read) ms) own_direction represented.represents) in
      track_valid ss places inside (in_order direction w) ms turned (subst (λ (v : List ℕ). Represents tracks v ms) (sym (part-in_order direction (sizes_of ss) places w)) there) i found

-- the joint tracks of two lists of tracks under names
module _ (under others : List (List ℕ)) (xs ys : List SystemValue) (count_x : length under ≡ length xs) (count_y : length others ≡ length ys) (agree : AgreeUnder (under ++ others) (xs ++ ys)) where
  abbrev pub names : List (List ℕ)
  names = joint_names under others

  abbrev pub joint : List SystemValue
  joint = systems_under (under ++ others) (xs ++ ys) names

  abbrev joint_under : List ℕ → SystemValue
  joint_under = system_under (under ++ others) (xs ++ ys)

  pub are_joint : AreJoint under others names
  are_joint = AreJoint-joint_names under others

  first_under : (i : ℕ) → i < length under → joint_under (get_or under i []) ≡ get_or xs i absent_system
  first_under i within =
      ap joint_under (sym (get_or_append_left under others [] i within))
      ∙ under_at (under ++ others) (xs ++ ys) i agree (omega (arith, within, length-append under others))
      ∙ get_or_append_left xs ys absent_system i (omega (arith, within, count_x))

  second_under : (i : ℕ) → i < length others → joint_under (get_or others i []) ≡ get_or ys i absent_system
  second_under i within =
      let at : ℕ = length under + i in
      let back : at - length under ≡ i = omega arith in
      ap joint_under (sym (get_or-append_right under others (length under) at [] refl (omega arith) ∙ ap (λ p. get_or others p []) back))
      ∙ under_at (under ++ others) (xs ++ ys) at agree (omega (arith, within, length-append under others))
      ∙ get_or-append_right xs ys (length under) at absent_system (sym count_x) (omega arith)
      ∙ ap (λ p. get_or ys p absent_system) back

  long : length joint ≡ length names
  long = length-map names joint_under

  pub count_joint : length (systems_of joint) ≡ length names
  count_joint = length-map joint system_of ∙ long

  -- the tracks of the one and of the other among them
  pub at_first : systems_at (places_of names under) (systems_of joint) ≡ systems_of xs
  at_first =
      at_places names joint under long are_joint.all_first
      ∙ ap systems_of (systems_again (under ++ others) names (xs ++ ys) xs under (sym count_x) are_joint.all_first first_under)

  pub at_second : systems_at (places_of names others) (systems_of joint) ≡ systems_of ys
  at_second =
      at_places names joint others long are_joint.all_second
      ∙ ap systems_of (systems_again (under ++ others) names (xs ++ ys) ys others (sym count_y) are_joint.all_second second_under)

  within_places : (some : List (List ℕ)) → All (Contains names) some → All (λ place. place < length (systems_of joint)) (places_of names some)
  within_places some there = subst (λ n. All (λ place. place < n) (places_of names some)) (sym count_joint) (places_of-within names some there)

  pub within_first : All (λ place. place < length (systems_of joint)) (places_of names under)
  within_first = within_places under are_joint.all_first

  pub within_second : All (λ place. place < length (systems_of joint)) (places_of names others)
  within_second = within_places others are_joint.all_second

  -- each joint track is one of those
  pub either : (i : ℕ) → i < length (systems_of joint) → Contains (places_of names under) i ⊎ Contains (places_of names others) i
  either i within =
      let inside : i < length names = omega (arith, within, count_joint) in
      let distinct : AreDistinct names = AreDistinct-ordered names are_joint.ordered in
      elim (are_joint.no_others i [] inside) [
        | inl found ↦ inl (place_among names under i distinct inside found)
        | inr found ↦ inr (place_among names others i distinct inside found)
      ]

  there : All (Contains (under ++ others)) names
  there i d inside = elim (are_joint.no_others i d inside) [
    | inl found ↦ Contains-append_left under others (get_or names i d) found
    | inr found ↦ Contains-append_right under others (get_or names i d) found
  ]

  sizes_all : sizes_of (systems_of (xs ++ ys)) ≡ sizes_of (systems_of xs) ++ sizes_of (systems_of ys)
  sizes_all = ap sizes_of (map-append system_of xs ys) ∙ map-append (λ (s : System). s.digits) (systems_of xs) (systems_of ys)

  -- and has the size of the first track of its name
  pub sizes_joint : picked (places_of (under ++ others) names) (sizes_of (systems_of xs) ++ sizes_of (systems_of ys)) ≡ sizes_of (systems_of joint)
  sizes_joint =
      let all : List ℕ = places_of (under ++ others) names in
      let count : length (xs ++ ys) ≡ length (under ++ others) = omega (arith, count_x, count_y, length-append xs ys, length-append under others) in
      let same : length (under ++ others) ≡ length (systems_of (xs ++ ys)) = sym (length-map (xs ++ ys) system_of ∙ count) in
      let inside : All (λ place. place < length (systems_of (xs ++ ys))) all = subst (λ n. All (λ place. place < n) all) same (places_of-within (under ++ others) names there) in
      ap (picked all) (sym sizes_all) ∙ sym (sizes_at (systems_of (xs ++ ys)) all inside) ∙ ap sizes_of (at_places (under ++ others) (xs ++ ys) names count there)

module _ (v u : WordValue) (under others : List (List ℕ)) (comparison : Comparison) (paired : NamedAutomaton) (is_v : IsWordValue v) (is_u : IsWordValue u)
    (count_v : length under ≡ length v.systems) (count_u : length others ≡ length u.systems) (agree : AgreeUnder (under ++ others) (v.systems ++ u.systems)) (one : ShareDirection (v.systems ++ u.systems))
    (made : IsPair comparison (record { function = v.function; under = under }) (record { function = u.function; under = others }) paired) where
  abbrev a : PlacedLetters
  a = record { function = v.function; under = under }

  abbrev b : PlacedLetters
  b = record { function = u.function; under = others }

  abbrev tracks : List (List ℕ)
  tracks = joint_names under others

  abbrev ss : List System
  ss = systems_of (systems_under (under ++ others) (v.systems ++ u.systems) tracks)

  abbrev direction : Direction
  direction = direction_of v.systems

  other_direction : direction_of u.systems ≡ direction
  other_direction = second_direction v.systems u.systems is_v.some is_u.some one

  same_sizes : pair_sizes a b ≡ sizes_of ss
  same_sizes =
      ap (λ (sizes : List ℕ). picked (places_of (under ++ others) tracks) (sizes ++ u.function.automaton.sizes)) is_v.sizes
      ∙ ap (λ (sizes : List ℕ). picked (places_of (under ++ others) tracks) (sizes_of (systems_of v.systems) ++ sizes)) is_u.sizes
      ∙ sizes_joint under others v.systems u.systems count_v count_u agree

  abbrev firsts : List ℕ
  firsts = places_of tracks under

  abbrev seconds : List ℕ
  seconds = places_of tracks others

  -- both words have letters at the numbers that compare so
  abbrev Compare : List ℕ → Type 0
  Compare ns = (x : ℤ) × (y : ℤ) × HasLetter v (map (number_under tracks ns) under) x × HasLetter u (map (number_under tracks ns) others) y × ComparesLetters comparison x y

  module _ (w : List ℕ) (over : IsWord (letters_in ss) w) where
    abbrev first : List ℕ
    first = part (sizes_of ss) firsts w

    abbrev second : List ℕ
    second = part (sizes_of ss) seconds w

    inside_first : All (λ place. place < length ss) firsts
    inside_first = within_first under others v.systems u.systems count_v count_u agree

    inside_second : All (λ place. place < length ss) seconds
    inside_second = within_second under others v.systems u.systems count_v count_u agree

    first_systems : systems_at firsts ss ≡ systems_of v.systems
    first_systems = at_first under others v.systems u.systems count_v count_u agree

    second_systems : systems_at seconds ss ≡ systems_of u.systems
    second_systems = at_second under others v.systems u.systems count_v count_u agree

    here : IsWord (product (pair_sizes a b)) w
    here = subst (λ (sizes : List ℕ). IsWord (product sizes) w) (sym same_sizes) over

    first_read : letter_read (pair_names a b) (pair_sizes a b) a w ≡ letter_after v.function first
    first_read = ap (λ (sizes : List ℕ). letter_after v.function (part sizes firsts w)) same_sizes

    second_read : letter_read (pair_names a b) (pair_sizes a b) b w ≡ letter_after u.function second
    second_read = ap (λ (sizes : List ℕ). letter_after u.function (part sizes seconds w)) same_sizes

    first_over : IsWord (letters_in (systems_of v.systems)) first
    first_over = subst (λ (ts : List System). IsWord (letters_in ts) first) first_systems (IsWord-at ss firsts inside_first w over)

    second_over : IsWord (letters_in (systems_of u.systems)) second
    second_over = subst (λ (ts : List System). IsWord (letters_in ts) second) second_systems (IsWord-at ss seconds inside_second w over)

    -- where the word represents numbers, its parts represent those under the names
    first_represents : (ns : List ℕ) → Represents ss (in_order direction w) ns → RepresentsPlace v.systems (map (number_under tracks ns) under) first
    first_represents ns represented = subst (λ (ms : List ℕ). RepresentsPlace v.systems ms first) (numbers_under tracks under ns) (part_represents direction ss firsts inside_first v.systems first_systems refl w over ns represented)

    second_represents : (ns : List ℕ) → Represents ss (in_order direction w) ns → RepresentsPlace u.systems (map (number_under tracks ns) others) second
    second_represents ns represented = subst (λ (ms : List ℕ). RepresentsPlace u.systems ms second) (numbers_under tracks others ns) (part_represents direction ss seconds inside_second u.systems second_systems other_direction w over ns represented)

    -- where both parts have letters, the word is valid
    both_valid : (x y : ℤ) → letter_after v.function first ≡ Some x → letter_after u.function second ≡ Some y → AreValid ss (in_order direction w)
    both_valid x y first_is second_is i within =
        let one_place = place_of_letter v first x is_v first_over first_is in
        let other_place = place_of_letter u second y is_u second_over second_is in
        elim (either under others v.systems u.systems count_v count_u agree i within) [
          | inl found ↦ part_valid direction ss firsts inside_first v.systems first_systems refl w over one_place.0 one_place.1 i found
          | inr found ↦ part_valid direction ss seconds inside_second u.systems second_systems other_direction w over other_place.0 other_place.1 i found
        ]

    accepted_compares : IsTrue (accepts_of paired.automaton w) → (ns : List ℕ) × Represents ss (in_order direction w) ns × Compare ns
    accepted_compares accepted =
        let (x, y, x_is, y_is, compares) = (made.language w here).0 accepted in
        let first_is : letter_after v.function first ≡ Some x = sym first_read ∙ x_is in
        let second_is : letter_after u.function second ≡ Some y = sym second_read ∙ y_is in
        let ns : List ℕ = ranks ss (in_order direction w) in
        let represented : Represents ss (in_order direction w) ns = represents_from_tracks ss (in_order direction w) ns (valid_represented ss (in_order direction w) (both_valid x y first_is second_is)) in
        (ns, represented, (x, y, (first, first_represents ns represented, first_is), (second, second_represents ns represented, second_is), compares))

    compares_accepted : (ns : List ℕ) × Represents ss (in_order direction w) ns × Compare ns → IsTrue (accepts_of paired.automaton w)
    compares_accepted (ns, represented, (x, y, first_has, second_has, compares)) =
        (made.language w here).1 (
          x,
          y,
          first_read ∙ letter_of_place v (map (number_under tracks ns) under) first x is_v (first_represents ns represented) first_has,
          second_read ∙ letter_of_place u (map (number_under tracks ns) others) second y is_u (second_represents ns represented) second_has,
          compares,
        )

pub pairs : PairsHold
pairs v u under others comparison paired is_v is_u count_v count_u agree one made = record {
  sizes = made.sizes ∙ same_sizes v u under others comparison paired is_v is_u count_v count_u agree one made;
  accepts = λ w over. (
    accepted_compares v u under others comparison paired is_v is_u count_v count_u agree one made w over,
    compares_accepted v u under others comparison paired is_v is_u count_v count_u agree one made w over,
  );
}

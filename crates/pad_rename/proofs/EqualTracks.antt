-- Words of which two tracks are equal, and the words without one of these tracks.
use Rattle.std.proofs.Common.{◌≡◌, ℕ, ◌<◌, Bool, true, false, not, if◌then◌else◌, List, [], ◌∷◌, length, get_or, refl, sym, ap, ◌∙◌, subst, arith}
use Rattle.std.specs.List.{All, Contains, range_with_len}
use Rattle.std.specs.Str.{bytes_eq}
use Rattle.std.proofs.lemmas.Slice.Eq.{bytes_eq-Decides}
use Rattle.std.proofs.lemmas.List.{ext_get_or, get_or-map, length-map}
use Rattle.std.proofs.lemmas.List.Elements.{All-cons, All-nil, Contains-get_or, length_all_zip}
use Rattle.std.proofs.lemmas.List.FromFn.{get_or-range_with_len, length-range_with_len}
use Rattle.digit_tuple.proofs.MemberLemmas.{Contains-from_filter}
use Rattle.digit_tuple.specs.Deterministic.{Automaton, accepts_of}
use Rattle.digit_tuple.specs.Letters.{product, code_of, IsWord}
use Rattle.digit_tuple.specs.Names.{place_of, places_of, names_without}
use Rattle.digit_tuple.specs.Parts.{digits_of, picked, letter_part, part}
use Rattle.digit_tuple.proofs.NameLemmas.{place_of-contained, place_of-is, places_of-within}
use Rattle.digit_tuple.proofs.PartLemmas.{digits_of-fit, code_of-digits_of, part-part, part-all, IsWord-part}
use Rattle.minimise.specs.Tracked.{NamedAutomaton}
use Rattle.pad_rename.specs.Restriction.{name_for, names_for, track_word, word_with, HasEqualTracks}
use Rattle.pad_rename.specs.StayingTracks.{staying_sizes}
use Rattle.pad_rename.proofs.SubstitutionLemmas.{picked_under, track_digit}
use Rattle.pad_rename.proofs.RestrictionLemmas.{HaveTwoTracks, name_for-other, passes, length-names_for, IsSubstitution-restriction, sizes_under-restriction}

-- where names are among names, whose places are given: their places
pub picked_places : (names some all : List (List ℕ)) → All (Contains some) all → picked (places_of some all) (places_of names some) ≡ places_of names all
picked_places names some all there = ext_get_or 0 (picked (places_of some all) (places_of names some)) (places_of names all) (long ∙ sym (length-map all (place_of names))) at
  where
    places : length (places_of some all) ≡ length all
    places = length-map all (place_of some)

    long : length (picked (places_of some all) (places_of names some)) ≡ length all
    long = length-map (places_of some all) (λ p. get_or (places_of names some) p 0) ∙ places

    at : (i : ℕ) → i < length (picked (places_of some all) (places_of names some)) → get_or (picked (places_of some all) (places_of names some)) i 0 ≡ get_or (places_of names all) i 0
    at i inside =
        let within : i < length all = omega (arith, inside, long) in
        let spot = place_of-contained some (get_or all i []) (there i [] within) in
        get_or-map (λ p. get_or (places_of names some) p 0) (places_of some all) i 0 0 (omega (arith, within, places))
        ∙ ap (λ p. get_or (places_of names some) p 0) (get_or-map (place_of some) all i [] 0 within)
        ∙ get_or-map (place_of names) some (place_of some (get_or all i [])) [] 0 spot.0
        ∙ ap (place_of names) spot.1
        ∙ sym (get_or-map (place_of names) all i [] 0 within)

module _ (a : NamedAutomaton) (kept dropped : List ℕ) (two : HaveTwoTracks a kept dropped) where
  abbrev rest : List (List ℕ)
  rest = names_without a.names dropped

  abbrev under : List (List ℕ)
  under = names_for a.names kept dropped

  abbrev sizes : List ℕ
  sizes = a.automaton.sizes

  abbrev place : List ℕ → ℕ
  place name = place_of a.names name

  -- what is the same on both tracks is read again where the kept one takes the place of the dropped one
  picked_for : (vs : List ℕ) → length vs ≡ length a.names → get_or vs (place kept) 0 ≡ get_or vs (place dropped) 0 → picked (places_of a.names under) vs ≡ vs
  picked_for vs count same = ext_get_or 0 (picked (places_of a.names under) vs) vs (long ∙ sym count) at
    where
      places : length (places_of a.names under) ≡ length a.names
      places = length-map under (place_of a.names) ∙ length-names_for a kept dropped two

      long : length (picked (places_of a.names under) vs) ≡ length a.names
      long = length-map (places_of a.names under) (λ p. get_or vs p 0) ∙ places

      by : (name : List ℕ) (b : Bool) → bytes_eq name dropped ≡ b → get_or vs (place (if b then kept else name)) 0 ≡ get_or vs (place name) 0
      by name true is = same ∙ ap (λ n. get_or vs (place n) 0) (sym ((bytes_eq-Decides name dropped).0 is))
      by name false is = refl

      at : (i : ℕ) → i < length (picked (places_of a.names under) vs) → get_or (picked (places_of a.names under) vs) i 0 ≡ get_or vs i 0
      at i inside =
          let within : i < length a.names = omega (arith, inside, long) in
          let name : List ℕ = get_or a.names i [] in
          get_or-map (λ p. get_or vs p 0) (places_of a.names under) i 0 0 (omega (arith, within, places))
          ∙ ap (λ p. get_or vs p 0) (get_or-map (place_of a.names) under i [] 0 (omega (arith, within, length-names_for a kept dropped two)))
          ∙ ap (λ n. get_or vs (place n) 0) (get_or-map (name_for kept dropped) a.names i [] [] within)
          ∙ by name (bytes_eq name dropped) refl
          ∙ ap (λ p. get_or vs p 0) (place_of-is a.names name i two.tracked.distinct within refl)

  -- a letter of which the two tracks are equal
  letter_for : (x : ℕ) → x < product sizes → letter_part sizes (place kept ∷ []) x ≡ letter_part sizes (place dropped ∷ []) x → letter_part sizes (places_of a.names under) x ≡ x
  letter_for x below same =
      let ds : List ℕ = digits_of sizes x in
      let count : length ds ≡ length a.names = sym (length_all_zip (λ size digit. digit < size) sizes ds (digits_of-fit sizes x below)) ∙ sym two.tracked.count in
      ap (λ ss. code_of ss (picked (places_of a.names under) ds)) (picked_for sizes (sym two.tracked.count) two.sizes)
      ∙ ap (code_of sizes) (picked_for ds count (sym (track_digit sizes (place kept) x) ∙ same ∙ track_digit sizes (place dropped) x))
      ∙ code_of-digits_of sizes x below

  word_for : (x : List ℕ) → IsWord (product sizes) x → track_word a kept x ≡ track_word a dropped x → part sizes (places_of a.names under) x ≡ x
  word_for [] over same = refl
  word_for (b ∷ x) over same =
      let first : letter_part sizes (place kept ∷ []) b ≡ letter_part sizes (place dropped ∷ []) b = cc in
      let others : track_word a kept x ≡ track_word a dropped x = cc in
      ap (λ n. n ∷ part sizes (places_of a.names under) x) (letter_for b over.0 first) ∙ ap (λ ns. b ∷ ns) (word_for x over.1 others)

  kept_places : All (λ p. p < length sizes) (places_of a.names rest)
  kept_places = subst (λ n. All (λ p. p < n) (places_of a.names rest)) two.tracked.count
      (places_of-within a.names rest (λ i d within. (Contains-from_filter (λ n. not (bytes_eq n dropped)) a.names (get_or rest i d) (Contains-get_or rest i d within)).0))

  -- the indices of the names that take the place of the tracks'
  read_places : (count : ℕ) → length rest ≡ count → All (λ p. p < count) (places_of rest under)
  read_places count is = subst (λ n. All (λ p. p < n) (places_of rest under)) is (places_of-within rest under (IsSubstitution-restriction a kept dropped two).there)

  -- a word with equal tracks is the one that is read in what stays of it
  pub word_with-only : (w x : List ℕ) → HasEqualTracks a kept dropped w x → word_with a kept dropped w ≡ x
  word_with-only w x has =
      ap (λ v. word_with a kept dropped v) (sym has.without)
      ∙ part-part sizes (places_of a.names rest) kept_places (places_of rest under) x (read_places (length (places_of a.names rest)) (sym (length-map rest (place_of a.names)))) has.over
      ∙ ap (λ ps. part sizes ps x) (picked_places a.names rest under (IsSubstitution-restriction a kept dropped two).there)
      ∙ word_for x has.over has.equal

  length-staying_sizes : length (staying_sizes a dropped) ≡ length rest
  length-staying_sizes = length-map (places_of a.names rest) (λ p. get_or sizes p 0) ∙ length-map rest (place_of a.names)

  -- the place where a track is read
  read_at : (name : List ℕ) → Contains a.names name → get_or (places_of rest under) (place name) 0 ≡ place_of rest (name_for kept dropped name)
  read_at name there =
      let spot = place_of-contained a.names name there in
      get_or-map (place_of rest) under (place name) [] 0 (omega (arith, spot.0, length-names_for a kept dropped two))
      ∙ ap (place_of rest) (get_or-map (name_for kept dropped) a.names (place name) [] [] spot.0 ∙ ap (name_for kept dropped) spot.1)

  -- tracks that stay are read where they are
  picked_rest : picked (places_of a.names rest) (places_of rest under) ≡ range_with_len 0 (length rest)
  picked_rest = ext_get_or 0 (picked (places_of a.names rest) (places_of rest under)) (range_with_len 0 (length rest)) (long ∙ sym (length-range_with_len 0 (length rest))) at
    where
      places : length (places_of a.names rest) ≡ length rest
      places = length-map rest (place_of a.names)

      long : length (picked (places_of a.names rest) (places_of rest under)) ≡ length rest
      long = length-map (places_of a.names rest) (λ p. get_or (places_of rest under) p 0) ∙ places

      at : (i : ℕ) → i < length (picked (places_of a.names rest) (places_of rest under)) → get_or (picked (places_of a.names rest) (places_of rest under)) i 0 ≡ get_or (range_with_len 0 (length rest)) i 0
      at i inside =
          let within : i < length rest = omega (arith, inside, long) in
          let name : List ℕ = get_or rest i [] in
          let found = Contains-from_filter (λ n. not (bytes_eq n dropped)) a.names name (Contains-get_or rest i [] within) in
          get_or-map (λ p. get_or (places_of rest under) p 0) (places_of a.names rest) i 0 0 (omega (arith, within, places))
          ∙ ap (λ p. get_or (places_of rest under) p 0) (get_or-map (place_of a.names) rest i [] 0 within)
          ∙ read_at name found.0
          ∙ ap (place_of rest) (name_for-other kept dropped name found.1)
          ∙ place_of-is rest name i (IsSubstitution-restriction a kept dropped two).distinct within refl
          ∙ sym (get_or-range_with_len 0 (length rest) i 0 within ∙ omega arith)

  read_back : picked (places_of rest under) (staying_sizes a dropped) ≡ sizes
  read_back = ap (picked (places_of rest under)) (sym (sizes_under-restriction a kept dropped two)) ∙ picked_under sizes under rest (IsSubstitution-restriction a kept dropped two)

  module _ (w : List ℕ) (over : IsWord (product (staying_sizes a dropped)) w) where
    -- what is read on some tracks
    read_on : (qs : List ℕ) → All (λ q. q < length (places_of rest under)) qs → part sizes qs (word_with a kept dropped w) ≡ part (staying_sizes a dropped) (picked qs (places_of rest under)) w
    read_on qs inside =
        subst (λ ss. part ss qs (word_with a kept dropped w) ≡ part (staying_sizes a dropped) (picked qs (places_of rest under)) w) read_back
        (part-part (staying_sizes a dropped) (places_of rest under) (read_places (length (staying_sizes a dropped)) (sym length-staying_sizes)) qs w inside over)

    count : length (places_of rest under) ≡ length a.names
    count = length-map under (place_of rest) ∙ length-names_for a kept dropped two

    one_track : (name : List ℕ) → Contains a.names name → track_word a name (word_with a kept dropped w) ≡ part (staying_sizes a dropped) (place_of rest (name_for kept dropped name) ∷ []) w
    one_track name there =
        let spot = place_of-contained a.names name there in
        read_on (place name ∷ []) (All-cons (λ q. q < length (places_of rest under)) (place name) [] (omega (arith, spot.0, count)) (All-nil (λ q. q < length (places_of rest under))))
        ∙ ap (λ p. part (staying_sizes a dropped) (p ∷ []) w) (read_at name there)

    one_name : name_for kept dropped kept ≡ name_for kept dropped dropped
    one_name = name_for-other kept dropped kept (passes kept dropped two.distinct) ∙ ap (λ b. if b then kept else dropped) (sym ((bytes_eq-Decides dropped dropped).1 refl))

    pub HasEqualTracks-with : HasEqualTracks a kept dropped w (word_with a kept dropped w)
    HasEqualTracks-with = record {
      over = subst (λ ss. IsWord (product ss) (word_with a kept dropped w)) read_back
          (IsWord-part (staying_sizes a dropped) (places_of rest under) (read_places (length (staying_sizes a dropped)) (sym length-staying_sizes)) w over);
      equal = one_track kept two.is_kept ∙ ap (λ n. part (staying_sizes a dropped) (place_of rest n ∷ []) w) one_name ∙ sym (one_track dropped two.is_dropped);
      without = read_on (places_of a.names rest) (subst (λ n. All (λ p. p < n) (places_of a.names rest)) (sym two.tracked.count ∙ sym count) kept_places)
          ∙ ap (λ ps. part (staying_sizes a dropped) ps w) picked_rest
          ∙ ap (λ n. part (staying_sizes a dropped) (range_with_len 0 n) w) (sym length-staying_sizes)
          ∙ part-all (staying_sizes a dropped) w over;
    }

  -- an automaton that reads words with the dropped track again says what the other says of words with equal tracks
  pub accepts-equal : (t : Automaton) → ((w : List ℕ) → IsWord (product (staying_sizes a dropped)) w → accepts_of t w ≡ accepts_of a.automaton (word_with a kept dropped w))
      → (w x : List ℕ) → HasEqualTracks a kept dropped w x → accepts_of t w ≡ accepts_of a.automaton x
  accepts-equal t reads w x has =
      reads w (subst (IsWord (product (staying_sizes a dropped))) has.without (IsWord-part sizes (places_of a.names rest) kept_places x has.over))
      ∙ ap (accepts_of a.automaton) (word_with-only w x has)

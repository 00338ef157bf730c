-- Sizes of tracks under other names.
use Rattle.std.proofs.Common.{◌≡◌, ℕ, ◌<◌, ◌≤◌, List, [], ◌∷◌, drop, length, map, get_or, refl, sym, ap, ◌∙◌, subst, arith}
use Rattle.std.specs.List.{All, Contains, range_with_len}
use Rattle.std.proofs.lemmas.List.{ext_get_or, get_or-map, length-map}
use Rattle.std.proofs.lemmas.List.Elements.{All-cons, All-nil, length_all_zip}
use Rattle.std.proofs.lemmas.List.FromFn.{get_or-range_with_len, length-range_with_len}
use Rattle.std.proofs.lemmas.Simd.{map-map}
use Rattle.digit_tuple.specs.Letters.{product, code_of, IsAlphabet, IsWord}
use Rattle.digit_tuple.specs.Names.{AreDistinct, place_of, places_of}
use Rattle.digit_tuple.specs.Parts.{digits_of, letter_part, part, picked}
use Rattle.digit_tuple.proofs.NameLemmas.{place_of-contained, place_of-at, place_of-is, places_of-within}
use Rattle.digit_tuple.proofs.PartLemmas.{IsWord-part, code_of-digits_of, digits_of-fit, length-part, part-all, part-part, picked-all}
use Rattle.pad_rename.specs.Substitution.{IsReadUnder, IsSubstitution, sizes_under, word_under}
use Rattle.pad_rename.proofs.FewerLemmas.{fewer, product-fewer}

-- the size of the first track that has the name
abbrev pub size_under : List ℕ → List (List ℕ) → List ℕ → ℕ
size_under sizes under name = get_or sizes (place_of under name) 0

-- the sizes are those of each name
pub sizes_under-map : (sizes : List ℕ) (under names : List (List ℕ)) → sizes_under sizes under names ≡ map (size_under sizes under) names
sizes_under-map sizes under names = map-map (λ place. get_or sizes place 0) (place_of under) names

-- the digit on one track
pub track_digit : (sizes : List ℕ) (p a : ℕ) → letter_part sizes (p ∷ []) a ≡ get_or (digits_of sizes a) p 0
track_digit sizes p a = omega arith

module _ (sizes : List ℕ) (under names : List (List ℕ)) (is : IsSubstitution sizes under names) where
  -- a track has the size of its name
  size_at : (i : ℕ) → i < length under → size_under sizes under (get_or under i []) ≡ get_or sizes i 0
  size_at i within =
      let spot = place_of-at under (get_or under i []) i within refl in
      is.agree (place_of under (get_or under i [])) i spot.0 within spot.1

  sizes_of_under : map (size_under sizes under) under ≡ sizes
  sizes_of_under =
      ext_get_or 0 (map (size_under sizes under) under) sizes (length-map under (size_under sizes under) ∙ is.count)
      (λ i inside. let within : i < length under = omega (arith, inside, length-map under (size_under sizes under)) in
      get_or-map (size_under sizes under) under i [] 0 within ∙ size_at i within)

  pub few_names : length names ≤ length under
  few_names = (fewer (size_under sizes under) names under is.distinct is.no_others).count

  -- the sizes are those of an alphabet where the tracks' are
  pub IsAlphabet-under : IsAlphabet sizes → IsAlphabet (sizes_under sizes under names)
  IsAlphabet-under alphabet =
      let less = product-fewer (size_under sizes under) names under is.distinct is.no_others is.there in
      record {
        tracks = omega (arith, few_names, is.count, alphabet.tracks, length-map (places_of under names) (λ place. get_or sizes place 0), length-map names (place_of under));
        letters = omega (arith, less, ap product (sizes_under-map sizes under names), ap product sizes_of_under, alphabet.letters);
      }

  -- and the sizes at the places of the tracks' names are the tracks'
  pub picked_under : picked (places_of names under) (sizes_under sizes under names) ≡ sizes
  picked_under = ext_get_or 0 (picked (places_of names under) (sizes_under sizes under names)) sizes (long ∙ is.count) at
    where
      places : length (places_of names under) ≡ length under
      places = length-map under (place_of names)

      long : length (picked (places_of names under) (sizes_under sizes under names)) ≡ length under
      long = length-map (places_of names under) (λ p. get_or (sizes_under sizes under names) p 0) ∙ places

      at : (i : ℕ) → i < length (picked (places_of names under) (sizes_under sizes under names)) → get_or (picked (places_of names under) (sizes_under sizes under names)) i 0 ≡ get_or sizes i 0
      at i inside =
          let within : i < length under = omega (arith, inside, long) in
          let name : List ℕ = get_or under i [] in
          let spot = place_of-contained names name (is.there i [] within) in
          get_or-map (λ p. get_or (sizes_under sizes under names) p 0) (places_of names under) i 0 0 (omega (arith, within, places))
          ∙ ap (λ p. get_or (sizes_under sizes under names) p 0) (get_or-map (place_of names) under i [] 0 within)
          ∙ ap (λ ss. get_or ss (place_of names name) 0) (sizes_under-map sizes under names)
          ∙ get_or-map (size_under sizes under) names (place_of names name) [] 0 spot.0
          ∙ ap (size_under sizes under) spot.1
          ∙ size_at i within

  -- these places are tracks of the names
  pub places_under : All (λ place. place < length (sizes_under sizes under names)) (places_of names under)
  places_under =
      subst (λ n. All (λ place. place < n) (places_of names under))
      (sym (length-map (places_of under names) (λ place. get_or sizes place 0) ∙ length-map names (place_of under)))
      (places_of-within names under is.there)

  abbrev read_places : List ℕ
  read_places = places_of names under

  abbrev named_sizes : List ℕ
  named_sizes = sizes_under sizes under names

  length-read_places : length read_places ≡ length under
  length-read_places = length-map under (place_of names)

  -- where the digit of a track is read
  read_at : (i : ℕ) → i < length under → get_or read_places i 0 ≡ place_of names (get_or under i [])
  read_at i within = get_or-map (place_of names) under i [] 0 within

  -- the word that is read in a word
  pub IsReadUnder-word : (w : List ℕ) → IsWord (product named_sizes) w → IsReadUnder sizes under names w (word_under sizes under names w)
  IsReadUnder-word w over = record {
    of_names = over;
    of_tracks = subst (λ ss. IsWord (product ss) (word_under sizes under names w)) picked_under (IsWord-part named_sizes read_places places_under w over);
    long = length-part named_sizes read_places w;
    tracks = λ i within.
        ap (λ ss. part ss (i ∷ []) (word_under sizes under names w)) (sym picked_under)
        ∙ part-part named_sizes read_places places_under (i ∷ []) w (one i (omega (arith, within, length-read_places))) over
        ∙ ap (λ p. part named_sizes (p ∷ []) w) (read_at i within);
  }
    where
      one : (i : ℕ) → i < length read_places → All (λ q. q < length read_places) (i ∷ [])
      one i within = All-cons (λ q. q < length read_places) i [] within (All-nil (λ q. q < length read_places))

  -- a letter that has on each track the digit on the track of its name is the one that is read
  letter_under : (a b : ℕ) → a < product named_sizes → b < product sizes
      → ((i : ℕ) → i < length under → letter_part sizes (i ∷ []) b ≡ letter_part named_sizes (place_of names (get_or under i []) ∷ []) a) → letter_part named_sizes read_places a ≡ b
  letter_under a b of_names of_tracks tracks =
      ap (λ ss. code_of ss (picked read_places (digits_of named_sizes a))) picked_under
      ∙ ap (code_of sizes) (ext_get_or 0 (picked read_places (digits_of named_sizes a)) (digits_of sizes b) (long ∙ is.count ∙ length_all_zip (λ size digit. digit < size) sizes (digits_of sizes b) (digits_of-fit sizes b of_tracks)) at)
      ∙ code_of-digits_of sizes b of_tracks
    where
      long : length (picked read_places (digits_of named_sizes a)) ≡ length under
      long = length-map read_places (λ p. get_or (digits_of named_sizes a) p 0) ∙ length-read_places

      at : (i : ℕ) → i < length (picked read_places (digits_of named_sizes a)) → get_or (picked read_places (digits_of named_sizes a)) i 0 ≡ get_or (digits_of sizes b) i 0
      at i inside =
          let within : i < length under = omega (arith, inside, long) in
          get_or-map (λ p. get_or (digits_of named_sizes a) p 0) read_places i 0 0 (omega (arith, within, length-read_places))
          ∙ ap (λ p. get_or (digits_of named_sizes a) p 0) (read_at i within)
          ∙ sym (track_digit named_sizes (place_of names (get_or under i [])) a)
          ∙ sym (tracks i within)
          ∙ track_digit sizes i b

  -- no other word is read
  pub word_under-only : (w x : List ℕ) → IsReadUnder sizes under names w x → word_under sizes under names w ≡ x
  word_under-only [] [] read = refl
  word_under-only [] (b ∷ x) read = absurd (let long = read.long in omega arith)
  word_under-only (a ∷ w) [] read = absurd (let long = read.long in omega arith)
  word_under-only (a ∷ w) (b ∷ x) read =
      ap (λ n. n ∷ word_under sizes under names w) (letter_under a b read.of_names.0 read.of_tracks.0 (λ i within. ap (λ v. get_or v 0 0) (read.tracks i within)))
      ∙ ap (λ v. b ∷ v) (word_under-only w x (record {
        of_names = read.of_names.1;
        of_tracks = read.of_tracks.1;
        long = let long = read.long in omega arith;
        tracks = λ i within. ap (λ v. drop 1 v) (read.tracks i within);
      }))

-- names that are distinct are at the places in order
pub places_of-themselves : (names : List (List ℕ)) → AreDistinct names → places_of names names ≡ range_with_len 0 (length names)
places_of-themselves names distinct =
    ext_get_or 0 (places_of names names) (range_with_len 0 (length names)) (length-map names (place_of names) ∙ sym (length-range_with_len 0 (length names)))
    (λ i inside. let within : i < length names = omega (arith, inside, length-map names (place_of names)) in
    get_or-map (place_of names) names i [] 0 within ∙ place_of-is names (get_or names i []) i distinct within refl ∙ sym (get_or-range_with_len 0 (length names) i 0 within ∙ omega arith))

module _ (sizes : List ℕ) (names : List (List ℕ)) (distinct : AreDistinct names) (count : length names ≡ length sizes) where
  places_in_order : places_of names names ≡ range_with_len 0 (length sizes)
  places_in_order = places_of-themselves names distinct ∙ ap (range_with_len 0) count

  -- under distinct names in their order the tracks are as they were
  pub sizes_under-themselves : sizes_under sizes names names ≡ sizes
  sizes_under-themselves = ap (λ ps. picked ps sizes) places_in_order ∙ picked-all sizes

  -- and so are the words
  pub word_under-themselves : (w : List ℕ) → IsWord (product sizes) w → word_under sizes names names w ≡ w
  word_under-themselves w over =
      ap (λ ss. part ss (places_of names names) w) sizes_under-themselves ∙ ap (λ ps. part sizes ps w) places_in_order ∙ part-all sizes w over

-- no two of the names are the same: they may be under themselves in any order
pub IsSubstitution-distinct : (sizes : List ℕ) (under names : List (List ℕ)) → length under ≡ length sizes → AreDistinct under → AreDistinct names
    → All (Contains names) under → All (Contains under) names → IsSubstitution sizes under names
IsSubstitution-distinct sizes under names count apart distinct there no_others = record {
  count = count;
  agree = λ i j within inside same. ap (λ k. get_or sizes k 0) (sym (place_of-is under (get_or under i []) i apart within refl) ∙ place_of-is under (get_or under i []) j apart inside (sym same));
  distinct = distinct;
  there = there;
  no_others = no_others;
}

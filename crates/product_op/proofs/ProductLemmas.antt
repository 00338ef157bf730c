-- Products as automata that read side by side.
use Rattle.std.proofs.Common.{◌≡◌, ℕ, ◌+◌, ◌<◌, Bool, true, false, ◌&&◌, List, [], ◌∷◌, ◌++◌, length, map, refl, sym, ap, ◌∙◌, subst, arith, IsTrue, if◌then◌else◌}
use Rattle.std.specs.List.{All, Contains, range_with_len}
use Rattle.std.proofs.lemmas.List.{length-map, append_assoc}
use Rattle.std.proofs.lemmas.List.FromFn.{map-range_with_len_more}
use Rattle.std.proofs.lemmas.List.Elements.{All-cons}
use Rattle.digit_tuple.specs.Letters.{product, IsWord}
use Rattle.digit_tuple.specs.Deterministic.{Automaton, IsTable, letters_of, accepts_of}
use Rattle.digit_tuple.specs.Width.{HasApart, HasWidth}
use Rattle.digit_tuple.proofs.WidthLemmas.{HasApart-same, HasWidth-same}
use Rattle.digit_tuple.specs.Names.{places_of}
use Rattle.digit_tuple.specs.Parts.{picked}
use Rattle.digit_tuple.proofs.NameLemmas.{places_of-within}
use Rattle.minimise.specs.Canonical.{IsCanonical}
use Rattle.minimise.specs.Tracked.{NamedAutomaton, IsTracked}
use Rattle.product_op.specs.declared.op.Op.{Op}
use Rattle.product_op.specs.declared.rule.Rule.TheVariants.{Both}
use Rattle.product_op.specs.declared.reader.Reader.{Reader}
use Rattle.product_op.specs.Connectives.{connective, among_valid}
use Rattle.digit_tuple.specs.Names.{AreJoint, joint_names}
use Rattle.product_op.specs.Tracks.{AgreeOnShared, joint_size, joint_sizes}
use Rattle.product_op.specs.Validity.{AreLanguages, is_valid, TracksAlike}
use Rattle.product_op.specs.Products.{joint_part, in_product, ProductAlike}
use Rattle.product_op.specs.Readings.{Reading, IsReading, AreReadings, AreCanonical, reading_in, readings_in, AreSideBySide, AreAlike, word_read, flags_of, all_true, combined}
use Rattle.product_op.specs.TrackReadings.{read_on, whole_reading, track_reading, track_readings, counted_of, argument_reading, product_readings, validity_readings, AllFitTracks}
use Rattle.digit_tuple.proofs.JointNames.{AreJoint-joint_names}
use Rattle.product_op.proofs.SizeLemmas.{joint_size-first, joint_size-second, picked_sizes}
use Rattle.product_op.proofs.ReadingLemmas.{AllFitTracks-languages, IsReading-on, IsReading-whole, AreReadings-tracks, AreCanonical-tracks, word_read-part, SameAfter-words, all_true-valid, tracks_from_alike, alike_from_tracks, alike_cons, alike_head, alike_tail}

-- where languages count, they fit the tracks
pub AllFitTracks-counted : (op : Op) (sizes : List ℕ) (languages : List Automaton) → (IsTrue (among_valid op) → AreLanguages sizes languages) → AllFitTracks sizes (counted_of op languages)
AllFitTracks-counted op sizes languages are = by (among_valid op) are
  where
    by : (b : Bool) → (IsTrue b → AreLanguages sizes languages) → AllFitTracks sizes (if b then languages else [])
    by true are_languages = AllFitTracks-languages sizes languages (are_languages refl)
    by false are_languages = λ track less. absurd (omega (arith, less))

module _ (op : Op) (a b : NamedAutomaton) (languages : List Automaton) where
  valid_counted : (w : List ℕ) → IsWord (product (joint_sizes a b)) w → (c : Bool)
      → all_true (flags_of (track_readings (joint_sizes a b) (if c then languages else [])) w) ≡ (if c then is_valid (joint_sizes a b) languages w else true)
  valid_counted w over true = all_true-valid (joint_sizes a b) languages w over
  valid_counted w over false = refl

  argument_read : (t : NamedAutomaton) (w : List ℕ) → IsWord (product (joint_sizes a b)) w → word_read (argument_reading a b t) w ≡ joint_part a b t.names w
  argument_read t w over = word_read-part (joint_sizes a b) (places_of (joint_names a.names b.names) t.names) t.automaton w over

  pub product_flags : (w : List ℕ) → IsWord (product (joint_sizes a b)) w → combined (Both op) (flags_of (product_readings op a b languages) w) ≡ in_product op a b languages w
  product_flags w over =
      let tail = all_true (flags_of (track_readings (joint_sizes a b) (counted_of op languages)) w) in
      ap (λ x. connective op (accepts_of a.automaton x) (accepts_of b.automaton (word_read (argument_reading a b b) w)) && tail) (argument_read a w over)
      ∙ ap (λ x. connective op (accepts_of a.automaton (joint_part a b a.names w)) (accepts_of b.automaton x) && tail) (argument_read b w over)
      ∙ ap (λ z. connective op (accepts_of a.automaton (joint_part a b a.names w)) (accepts_of b.automaton (joint_part a b b.names w)) && z) (valid_counted w over (among_valid op))

  module _ (w v : List ℕ) (over : IsWord (product (joint_sizes a b)) w) (there : IsWord (product (joint_sizes a b)) v) where
    tracks_counted : (c : Bool) → TracksAlike (joint_sizes a b) (if c then languages else []) w v → c ≡ true → TracksAlike (joint_sizes a b) languages w v
    tracks_counted true same is = same
    tracks_counted false same is = absurd (let no : false ≡ true = is in cc)

    counted_tracks : (c : Bool) → (c ≡ true → TracksAlike (joint_sizes a b) languages w v) → TracksAlike (joint_sizes a b) (if c then languages else []) w v
    counted_tracks true same track less = same refl track less
    counted_tracks false same track less = absurd (omega (arith, less))

    pub product_from_alike : AreAlike (product_readings op a b languages) w v → ProductAlike op a b languages w v
    product_from_alike alike =
        let rest = alike_tail (argument_reading a b a) (argument_reading a b b ∷ track_readings (joint_sizes a b) (counted_of op languages)) w v alike in
        let last = alike_tail (argument_reading a b b) (track_readings (joint_sizes a b) (counted_of op languages)) w v rest in
        record {
          first = SameAfter-words a.automaton (word_read (argument_reading a b a) w) (joint_part a b a.names w) (word_read (argument_reading a b a) v) (joint_part a b a.names v) (argument_read a w over) (argument_read a v there)
              (alike_head (argument_reading a b a) (argument_reading a b b ∷ track_readings (joint_sizes a b) (counted_of op languages)) w v alike);
          second = SameAfter-words b.automaton (word_read (argument_reading a b b) w) (joint_part a b b.names w) (word_read (argument_reading a b b) v) (joint_part a b b.names v) (argument_read b w over) (argument_read b v there)
              (alike_head (argument_reading a b b) (track_readings (joint_sizes a b) (counted_of op languages)) w v rest);
          tracks = tracks_counted (among_valid op) (tracks_from_alike (joint_sizes a b) (counted_of op languages) w v over there last);
        }

    pub alike_from_product : ProductAlike op a b languages w v → AreAlike (product_readings op a b languages) w v
    alike_from_product same =
        alike_cons (argument_reading a b a) (argument_reading a b b ∷ track_readings (joint_sizes a b) (counted_of op languages)) w v
        (SameAfter-words a.automaton (joint_part a b a.names w) (word_read (argument_reading a b a) w) (joint_part a b a.names v) (word_read (argument_reading a b a) v) (sym (argument_read a w over)) (sym (argument_read a v there)) same.first)
        (alike_cons (argument_reading a b b) (track_readings (joint_sizes a b) (counted_of op languages)) w v
        (SameAfter-words b.automaton (joint_part a b b.names w) (word_read (argument_reading a b b) w) (joint_part a b b.names v) (word_read (argument_reading a b b) v) (sym (argument_read b w over)) (sym (argument_read b v there)) same.second)
        (alike_from_tracks (joint_sizes a b) (counted_of op languages) w v over there (counted_tracks (among_valid op) same.tracks)))

module _ (a b : NamedAutomaton) (is_a : IsTracked a) (is_b : IsTracked b) (agree : AgreeOnShared a b) where
  joint : AreJoint a.names b.names (joint_names a.names b.names)
  joint = AreJoint-joint_names a.names b.names

  pub length-joint : length (joint_names a.names b.names) ≡ length (joint_sizes a b)
  length-joint = sym (length-map (joint_names a.names b.names) (joint_size a b))

  -- the sizes at the places of an argument's names are its own
  pub picked-first : picked (places_of (joint_names a.names b.names) a.names) (joint_sizes a b) ≡ a.automaton.sizes
  picked-first = picked_sizes a (joint_size a b) (joint_names a.names b.names) is_a.count is_a.distinct (joint_size-first a b is_a.count is_b.count agree) joint.all_first

  pub picked-second : picked (places_of (joint_names a.names b.names) b.names) (joint_sizes a b) ≡ b.automaton.sizes
  picked-second = picked_sizes b (joint_size a b) (joint_names a.names b.names) is_b.count is_b.distinct (joint_size-second a b is_a.count is_b.count agree) joint.all_second

  places_within : (t : NamedAutomaton) → All (Contains (joint_names a.names b.names)) t.names → All (λ p. p < length (joint_sizes a b)) (places_of (joint_names a.names b.names) t.names)
  places_within t there = subst (λ n. All (λ p. p < n) (places_of (joint_names a.names b.names) t.names)) length-joint (places_of-within (joint_names a.names b.names) t.names there)

  -- what a reader of an argument asks for
  pub record ReadsOn (names : List (List ℕ)) (sizes : List ℕ) (t : NamedAutomaton) : Type 0 where
    pub count : length names ≡ length sizes
    pub there : All (Contains names) t.names
    pub sizes_are : picked (places_of names t.names) sizes ≡ t.automaton.sizes

  module _ (names : List (List ℕ)) (sizes : List ℕ) (same_names : names ≡ joint_names a.names b.names) (same_sizes : sizes ≡ joint_sizes a b) where
    moved : (t : NamedAutomaton) → ReadsOn (joint_names a.names b.names) (joint_sizes a b) t → ReadsOn names sizes t
    moved t on = subst (λ ns. ReadsOn ns sizes t) (sym same_names) (subst (λ ss. ReadsOn (joint_names a.names b.names) ss t) (sym same_sizes) on)

    pub reads_first : ReadsOn names sizes a
    reads_first = moved a (record { count = length-joint; there = joint.all_first; sizes_are = picked-first })

    pub reads_second : ReadsOn names sizes b
    reads_second = moved b (record { count = length-joint; there = joint.all_second; sizes_are = picked-second })

  pub AreSideBySide-product : (op : Op) (languages : List Automaton) → AllFitTracks (joint_sizes a b) (counted_of op languages) → AreSideBySide (product (joint_sizes a b)) (product_readings op a b languages) (Both op)
  AreSideBySide-product op languages fit = record {
    readings_are =
        All-cons (IsReading (product (joint_sizes a b))) (argument_reading a b a) (argument_reading a b b ∷ track_readings (joint_sizes a b) (counted_of op languages))
        (IsReading-on (joint_sizes a b) (places_of (joint_names a.names b.names) a.names) a.automaton (places_within a joint.all_first) (sym picked-first) is_a.canonical.table)
        (All-cons (IsReading (product (joint_sizes a b))) (argument_reading a b b) (track_readings (joint_sizes a b) (counted_of op languages))
        (IsReading-on (joint_sizes a b) (places_of (joint_names a.names b.names) b.names) b.automaton (places_within b joint.all_second) (sym picked-second) is_b.canonical.table)
        (AreReadings-tracks (joint_sizes a b) (counted_of op languages) fit));
    enough = omega arith;
  }

  pub AreCanonical-product : (op : Op) (languages : List Automaton) → AllFitTracks (joint_sizes a b) (counted_of op languages) → AreCanonical (product_readings op a b languages)
  AreCanonical-product op languages fit =
      All-cons (λ (r : Reading). IsCanonical r.automaton) (argument_reading a b a) (argument_reading a b b ∷ track_readings (joint_sizes a b) (counted_of op languages)) is_a.canonical
      (All-cons (λ (r : Reading). IsCanonical r.automaton) (argument_reading a b b) (track_readings (joint_sizes a b) (counted_of op languages)) is_b.canonical
      (AreCanonical-tracks (joint_sizes a b) (counted_of op languages) fit))

-- an automaton on all its tracks, and the languages
pub AreReadings-validity : (d : Automaton) → IsTable (letters_of d) d.states → (languages : List Automaton) → AllFitTracks d.sizes languages → AreReadings (product d.sizes) (validity_readings d languages)
AreReadings-validity d table languages fit = All-cons (IsReading (product d.sizes)) (whole_reading d) (track_readings d.sizes languages) (IsReading-whole d table) (AreReadings-tracks d.sizes languages fit)

-- what is known of the readings that the code made, in the words of products
module _ (op : Op) (a b : NamedAutomaton) (languages : List Automaton) (made : List Reading) (sizes : List ℕ) (are : made ≡ product_readings op a b languages) (same : sizes ≡ joint_sizes a b) where
  pub AreSideBySide-made : AreSideBySide (product (joint_sizes a b)) (product_readings op a b languages) (Both op) → AreSideBySide (product sizes) made (Both op)
  AreSideBySide-made side = subst (λ rs. AreSideBySide (product sizes) rs (Both op)) (sym are) (subst (λ ss. AreSideBySide (product ss) (product_readings op a b languages) (Both op)) (sym same) side)

  pub product-language : (accepts : List ℕ → Bool) → ((w : List ℕ) → IsWord (product sizes) w → accepts w ≡ combined (Both op) (flags_of made w))
      → (w : List ℕ) → IsWord (product (joint_sizes a b)) w → accepts w ≡ in_product op a b languages w
  product-language accepts says w over =
      says w (subst (λ ss. IsWord (product ss) w) (sym same) over) ∙ ap (λ rs. combined (Both op) (flags_of rs w)) are ∙ product_flags op a b languages w over

  pub product-width : (k : ℕ) → HasWidth (AreAlike made) (product sizes) k → HasWidth (ProductAlike op a b languages) (product (joint_sizes a b)) k
  product-width k width =
      HasWidth-same (AreAlike (product_readings op a b languages)) (ProductAlike op a b languages) (product (joint_sizes a b)) k (product_from_alike op a b languages) (alike_from_product op a b languages)
      (subst (λ rs. HasWidth (AreAlike rs) (product (joint_sizes a b)) k) are (subst (λ ss. HasWidth (AreAlike made) (product ss) k) same width))

  pub product-apart : (k : ℕ) → HasApart (AreAlike made) (product sizes) k → HasApart (ProductAlike op a b languages) (product (joint_sizes a b)) k
  product-apart k apart =
      HasApart-same (AreAlike (product_readings op a b languages)) (ProductAlike op a b languages) (product (joint_sizes a b)) k (alike_from_product op a b languages)
      (subst (λ rs. HasApart (AreAlike rs) (product (joint_sizes a b)) k) are (subst (λ ss. HasApart (AreAlike made) (product ss) k) same apart))

-- the readers of the code, when those of both arguments and of the languages were added
pub product_readings-made : (a b : NamedAutomaton) (languages : List Automaton) (r s : Reader) (items : List Reader) (made : List Reading) (ns ms : List (List ℕ)) (sizes : List ℕ)
    → ns ≡ joint_names a.names b.names → ms ≡ joint_names a.names b.names → sizes ≡ joint_sizes a b
    → reading_in r ≡ read_on sizes a.automaton (places_of ns a.names) → reading_in s ≡ read_on sizes b.automaton (places_of ms b.names)
    → items ≡ r ∷ s ∷ [] → made ≡ readings_in items ++ track_readings sizes languages
    → made ≡ argument_reading a b a ∷ argument_reading a b b ∷ track_readings (joint_sizes a b) languages
product_readings-made a b languages r s items made ns ms sizes first_names second_names same first second both all =
    let one : reading_in r ≡ argument_reading a b a =
    first ∙ ap (λ n. read_on sizes a.automaton (places_of n a.names)) first_names ∙ ap (λ ss. read_on ss a.automaton (places_of (joint_names a.names b.names) a.names)) same in
    let two : reading_in s ≡ argument_reading a b b =
    second ∙ ap (λ n. read_on sizes b.automaton (places_of n b.names)) second_names ∙ ap (λ ss. read_on ss b.automaton (places_of (joint_names a.names b.names) b.names)) same in
    all ∙ ap (λ rs. readings_in rs ++ track_readings sizes languages) both
    ∙ ap (λ x. x ∷ reading_in s ∷ track_readings sizes languages) one
    ∙ ap (λ x. argument_reading a b a ∷ x ∷ track_readings sizes languages) two
    ∙ ap (λ ss. argument_reading a b a ∷ argument_reading a b b ∷ track_readings ss languages) same

-- and when those of an automaton on all tracks and of the languages were added
pub validity_readings-made : (d : Automaton) (languages : List Automaton) (r : Reader) (items : List Reader) (made : List Reading) (sizes : List ℕ)
    → sizes ≡ d.sizes → reading_in r ≡ whole_reading d → items ≡ r ∷ [] → made ≡ readings_in items ++ track_readings sizes languages → made ≡ validity_readings d languages
validity_readings-made d languages r items made sizes same whole one all =
    all ∙ ap (λ rs. readings_in rs ++ track_readings sizes languages) one
    ∙ ap (λ x. x ∷ track_readings sizes languages) whole
    ∙ ap (λ ss. whole_reading d ∷ track_readings ss languages) same

-- one language more
pub track_readings_more : (prefix : List Reading) (sizes : List ℕ) (languages : List Automaton) (track : ℕ)
    → (prefix ++ map (track_reading sizes languages) (range_with_len 0 track)) ++ track_reading sizes languages track ∷ [] ≡ prefix ++ map (track_reading sizes languages) (range_with_len 0 (track + 1))
track_readings_more prefix sizes languages track =
    append_assoc prefix (map (track_reading sizes languages) (range_with_len 0 track)) (track_reading sizes languages track ∷ [])
    ∙ ap (λ rs. prefix ++ rs) (sym (map-range_with_len_more (track_reading sizes languages) 0 track track (omega arith)))

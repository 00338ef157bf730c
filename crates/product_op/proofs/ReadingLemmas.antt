-- Automata that read their tracks.
use Rattle.std.proofs.Common.{◌≡◌, ℕ, ◌<◌, suc, zero, ◌&&◌, List, [], ◌∷◌, length, map, refl, sym, ap, ◌∙◌, subst, arith}
use Rattle.std.specs.List.{All, list_all, range_with_len}
use Rattle.std.proofs.lemmas.List.FromFn.{length-map-range_with_len, get_or-map-range_with_len}
use Rattle.std.proofs.lemmas.List.Elements.{All-nil, All-cons, All-from_get_or}
use Rattle.digit_tuple.specs.Letters.{product, IsWord}
use Rattle.digit_tuple.specs.Deterministic.{Automaton, IsTable, letters_of, accepts_of}
use Rattle.digit_tuple.specs.Parts.{picked, letter_part, part, parts_of_letters}
use Rattle.digit_tuple.proofs.PartLemmas.{letter_part-below, get_or-parts, part-all, picked-all}
use Rattle.minimise.specs.Canonical.{IsCanonical}
use Rattle.minimise.specs.Residuals.{SameAfter}
use Rattle.digit_tuple.proofs.RangeLemmas.{All-range}
use Rattle.product_op.specs.Readings.{Reading, IsReading, AreReadings, AreCanonical, AreAlike, no_reading, reading_at, word_read, flags_of, all_true}
use Rattle.product_op.specs.Validity.{AreLanguages, language_at, is_valid, TracksAlike}
use Rattle.product_op.specs.TrackReadings.{read_on, whole_reading, track_reading, track_readings, AllFitTracks}

-- a word is read as its part
pub word_read-part : (sizes places : List ℕ) (d : Automaton) (w : List ℕ) → IsWord (product sizes) w → word_read (read_on sizes d places) w ≡ part sizes places w
word_read-part sizes places d [] over = refl
word_read-part sizes places d (a ∷ w) over =
    ap (λ n. n ∷ word_read (read_on sizes d places) w) (get_or-parts sizes places a 0 over.0) ∙ ap (λ ns. letter_part sizes places a ∷ ns) (word_read-part sizes places d w over.1)

-- the parts of letters are letters of the part's tracks
pub parts_within : (sizes places : List ℕ) → All (λ p. p < length sizes) places → All (λ p. p < product (picked places sizes)) (parts_of_letters sizes places)
parts_within sizes places within i e inside =
    let small : i < product sizes = omega (arith, inside, length-map-range_with_len (letter_part sizes places) 0 (product sizes)) in
    subst (λ n. n < product (picked places sizes)) (sym (get_or-map-range_with_len (letter_part sizes places) 0 (product sizes) i i e small (omega arith))) (letter_part-below sizes places within i small)

pub length-parts : (sizes places : List ℕ) → length (parts_of_letters sizes places) ≡ product sizes
length-parts sizes places = length-map-range_with_len (letter_part sizes places) 0 (product sizes)

pub IsReading-on : (sizes places : List ℕ) (d : Automaton) → All (λ p. p < length sizes) places → d.sizes ≡ picked places sizes → IsTable (letters_of d) d.states → IsReading (product sizes) (read_on sizes d places)
IsReading-on sizes places d within same table = record {
  table = table;
  count = length-parts sizes places;
  within = subst (λ ss. All (λ p. p < product ss) (parts_of_letters sizes places)) (sym same) (parts_within sizes places within);
}

-- words that are read differently have residuals as they are read
pub SameAfter-words : (d : Automaton) (w x v y : List ℕ) → w ≡ x → v ≡ y → SameAfter d w v → SameAfter d x y
SameAfter-words d w x v y first second same = subst (λ u. SameAfter d x u) second (subst (λ u. SameAfter d u v) first same)

pub AllFitTracks-languages : (sizes : List ℕ) (languages : List Automaton) → AreLanguages sizes languages → AllFitTracks sizes languages
AllFitTracks-languages sizes languages are track less =
    let within : track < length sizes = omega (arith, less, are.count) in
    let each = are.each track within in
    record { within = within; canonical = each.0; size = each.1 }

AreReadings-range : (sizes : List ℕ) (languages : List Automaton) → AllFitTracks sizes languages → All (IsReading (product sizes)) (track_readings sizes languages)
AreReadings-range sizes languages fit = All-from_get_or (IsReading (product sizes)) (track_readings sizes languages) no_reading (λ i inside.
    let less : i < length languages = omega (arith, inside, length-map-range_with_len (track_reading sizes languages) 0 (length languages)) in
    let f = fit i less in
    subst (λ (r : Reading). IsReading (product sizes) r) (sym (get_or-map-range_with_len (track_reading sizes languages) 0 (length languages) i i no_reading less (omega arith)))
    (IsReading-on sizes (i ∷ []) (language_at languages i) (All-cons (λ p. p < length sizes) i [] f.within (All-nil (λ p. p < length sizes))) f.size f.canonical.table))

pub AreReadings-tracks : (sizes : List ℕ) (languages : List Automaton) → AllFitTracks sizes languages → AreReadings (product sizes) (track_readings sizes languages)
AreReadings-tracks sizes languages fit = AreReadings-range sizes languages fit

pub AreCanonical-tracks : (sizes : List ℕ) (languages : List Automaton) → AllFitTracks sizes languages → AreCanonical (track_readings sizes languages)
AreCanonical-tracks sizes languages fit = All-from_get_or (λ (r : Reading). IsCanonical r.automaton) (track_readings sizes languages) no_reading (λ i inside.
    let less : i < length languages = omega (arith, inside, length-map-range_with_len (track_reading sizes languages) 0 (length languages)) in
    subst (λ (r : Reading). IsCanonical r.automaton) (sym (get_or-map-range_with_len (track_reading sizes languages) 0 (length languages) i i no_reading less (omega arith))) (fit i less).canonical)

all_true-range : (sizes : List ℕ) (languages : List Automaton) (w tracks : List ℕ) → IsWord (product sizes) w
    → all_true (flags_of (map (track_reading sizes languages) tracks) w) ≡ list_all (λ track. accepts_of (language_at languages track) (part sizes (track ∷ []) w)) tracks
all_true-range sizes languages w [] over = refl
all_true-range sizes languages w (t ∷ tracks) over =
    ap (λ v. accepts_of (language_at languages t) v && all_true (flags_of (map (track_reading sizes languages) tracks) w)) (word_read-part sizes (t ∷ []) (language_at languages t) w over)
    ∙ ap (λ b. accepts_of (language_at languages t) (part sizes (t ∷ []) w) && b) (all_true-range sizes languages w tracks over)

-- all languages accept their tracks where the word is valid
pub all_true-valid : (sizes : List ℕ) (languages : List Automaton) (w : List ℕ) → IsWord (product sizes) w → all_true (flags_of (track_readings sizes languages) w) ≡ is_valid sizes languages w
all_true-valid sizes languages w over = all_true-range sizes languages w (range_with_len 0 (length languages)) over

module _ (sizes : List ℕ) (languages : List Automaton) (w v : List ℕ) (over : IsWord (product sizes) w) (there : IsWord (product sizes) v) where
  track_at : (track : ℕ) → track < length languages → reading_at (track_readings sizes languages) track ≡ track_reading sizes languages track
  track_at track less = get_or-map-range_with_len (track_reading sizes languages) 0 (length languages) track track no_reading less (omega arith)

  abbrev SameReading : Reading → Type 0
  SameReading r = SameAfter r.automaton (word_read r w) (word_read r v)

  pub tracks_from_alike : AreAlike (track_readings sizes languages) w v → TracksAlike sizes languages w v
  tracks_from_alike alike track less =
      SameAfter-words (language_at languages track) (word_read (track_reading sizes languages track) w) (part sizes (track ∷ []) w) (word_read (track_reading sizes languages track) v) (part sizes (track ∷ []) v)
      (word_read-part sizes (track ∷ []) (language_at languages track) w over) (word_read-part sizes (track ∷ []) (language_at languages track) v there)
      (subst SameReading (track_at track less) (alike track (omega (arith, less, length-map-range_with_len (track_reading sizes languages) 0 (length languages)))))

  pub alike_from_tracks : TracksAlike sizes languages w v → AreAlike (track_readings sizes languages) w v
  alike_from_tracks same track inside =
      let less : track < length languages = omega (arith, inside, length-map-range_with_len (track_reading sizes languages) 0 (length languages)) in
      subst SameReading (sym (track_at track less))
      (SameAfter-words (language_at languages track) (part sizes (track ∷ []) w) (word_read (track_reading sizes languages track) w) (part sizes (track ∷ []) v) (word_read (track_reading sizes languages track) v)
      (sym (word_read-part sizes (track ∷ []) (language_at languages track) w over)) (sym (word_read-part sizes (track ∷ []) (language_at languages track) v there))
      (same track less))

-- one more automaton before the others
pub alike_cons : (r : Reading) (rs : List Reading) (w v : List ℕ) → SameAfter r.automaton (word_read r w) (word_read r v) → AreAlike rs w v → AreAlike (r ∷ rs) w v
alike_cons r rs w v first rest zero inside = first
alike_cons r rs w v first rest (suc i) inside = rest i (omega (arith, inside))

pub alike_head : (r : Reading) (rs : List Reading) (w v : List ℕ) → AreAlike (r ∷ rs) w v → SameAfter r.automaton (word_read r w) (word_read r v)
alike_head r rs w v alike = alike 0 (omega arith)

pub alike_tail : (r : Reading) (rs : List Reading) (w v : List ℕ) → AreAlike (r ∷ rs) w v → AreAlike rs w v
alike_tail r rs w v alike i inside = alike (suc i) (omega (arith, inside))

-- the whole word is its part on all tracks
pub word_read-all : (d : Automaton) (w : List ℕ) → IsWord (product d.sizes) w → word_read (whole_reading d) w ≡ w
word_read-all d w over = word_read-part d.sizes (range_with_len 0 (length d.sizes)) d w over ∙ part-all d.sizes w over

pub IsReading-whole : (d : Automaton) → IsTable (letters_of d) d.states → IsReading (product d.sizes) (whole_reading d)
IsReading-whole d table = IsReading-on d.sizes (range_with_len 0 (length d.sizes)) d
    (All-range (length d.sizes))
    (sym (picked-all d.sizes)) table

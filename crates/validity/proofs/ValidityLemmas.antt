-- Complements and valid parts as automata that read side by side.
use Rattle.std.proofs.Common.{◌≡◌, ℕ, ◌≤◌, Bool, not, ◌&&◌, List, sym, ap, ◌∙◌, subst, arith}
use Rattle.std.proofs.lemmas.List.Elements.{All-cons}
use Rattle.digit_tuple.specs.Letters.{product, IsWord}
use Rattle.digit_tuple.specs.Deterministic.{Automaton, accepts_of}
use Rattle.digit_tuple.specs.Width.{HasApart, HasWidth}
use Rattle.digit_tuple.proofs.WidthLemmas.{HasApart-same, HasWidth-same}
use Rattle.minimise.specs.Canonical.{IsCanonical}
use Rattle.minimise.specs.Tracked.{NamedAutomaton}
use Rattle.product_op.specs.declared.rule.Rule.{Rule}
use Rattle.product_op.specs.declared.rule.Rule.TheVariants.{NotFirst}
use Rattle.product_op.specs.declared.rule.Rule.TheVariants as rules
use Rattle.product_op.specs.Validity.{AreLanguages}
use Rattle.product_op.specs.Readings.{Reading, AreCanonical, AreSideBySide, AreAlike, word_read, flags_of, all_true, combined, arguments_of}
use Rattle.product_op.specs.TrackReadings.{whole_reading, track_readings, validity_readings, AllFitTracks}
use Rattle.product_op.proofs.ProductLemmas.{AreReadings-validity}
use Rattle.product_op.proofs.ReadingLemmas.{AllFitTracks-languages, AreCanonical-tracks, word_read-all, SameAfter-words, all_true-valid, tracks_from_alike, alike_from_tracks, alike_cons, alike_head, alike_tail}
use Rattle.validity.specs.ValidParts.{in_complement, in_valid_part, ValidityAlike}

module _ (a : NamedAutomaton) (languages : List Automaton) where
  whole_read : (w : List ℕ) → IsWord (product a.automaton.sizes) w → word_read (whole_reading a.automaton) w ≡ w
  whole_read w over = word_read-all a.automaton w over

  pub valid_part_flags : (w : List ℕ) → IsWord (product a.automaton.sizes) w → combined rules.All (flags_of (validity_readings a.automaton languages) w) ≡ in_valid_part a languages w
  valid_part_flags w over =
      ap (λ x. accepts_of a.automaton x && all_true (flags_of (track_readings a.automaton.sizes languages) w)) (whole_read w over)
      ∙ ap (λ z. accepts_of a.automaton w && z) (all_true-valid a.automaton.sizes languages w over)

  pub complement_flags : (w : List ℕ) → IsWord (product a.automaton.sizes) w → combined NotFirst (flags_of (validity_readings a.automaton languages) w) ≡ in_complement a languages w
  complement_flags w over =
      ap (λ x. not (accepts_of a.automaton x) && all_true (flags_of (track_readings a.automaton.sizes languages) w)) (whole_read w over)
      ∙ ap (λ z. not (accepts_of a.automaton w) && z) (all_true-valid a.automaton.sizes languages w over)

  module _ (w v : List ℕ) (over : IsWord (product a.automaton.sizes) w) (there : IsWord (product a.automaton.sizes) v) where
    pub validity_from_alike : AreAlike (validity_readings a.automaton languages) w v → ValidityAlike a languages w v
    validity_from_alike alike = record {
      argument = SameAfter-words a.automaton (word_read (whole_reading a.automaton) w) w (word_read (whole_reading a.automaton) v) v (whole_read w over) (whole_read v there) (alike_head (whole_reading a.automaton) (track_readings a.automaton.sizes languages) w v alike);
      tracks = tracks_from_alike a.automaton.sizes languages w v over there (alike_tail (whole_reading a.automaton) (track_readings a.automaton.sizes languages) w v alike);
    }

    pub alike_from_validity : ValidityAlike a languages w v → AreAlike (validity_readings a.automaton languages) w v
    alike_from_validity same =
        alike_cons (whole_reading a.automaton) (track_readings a.automaton.sizes languages) w v
        (SameAfter-words a.automaton w (word_read (whole_reading a.automaton) w) v (word_read (whole_reading a.automaton) v) (sym (whole_read w over)) (sym (whole_read v there)) same.argument)
        (alike_from_tracks a.automaton.sizes languages w v over there same.tracks)

-- the automaton on all its tracks, and the languages
pub AreCanonical-validity : (d : Automaton) → IsCanonical d → (languages : List Automaton) → AllFitTracks d.sizes languages → AreCanonical (validity_readings d languages)
AreCanonical-validity d canonical languages fit = All-cons (λ (r : Reading). IsCanonical r.automaton) (whole_reading d) (track_readings d.sizes languages) canonical (AreCanonical-tracks d.sizes languages fit)

pub AreSideBySide-validity : (d : Automaton) → IsCanonical d → (languages : List Automaton) (rule : Rule) → AllFitTracks d.sizes languages → arguments_of rule ≤ 1 → AreSideBySide (product d.sizes) (validity_readings d languages) rule
AreSideBySide-validity d canonical languages rule fit few = record {
  readings_are = AreReadings-validity d canonical.table languages fit;
  enough = omega (arith, few);
}

-- languages of all tracks fit these
pub languages_fit : (sizes : List ℕ) (languages : List Automaton) → AreLanguages sizes languages → AllFitTracks sizes languages
languages_fit = AllFitTracks-languages

-- what is known of the readings that the code made, in the words of valid parts
module _ (a : NamedAutomaton) (languages : List Automaton) (rule : Rule) (made : List Reading) (sizes : List ℕ) (are : made ≡ validity_readings a.automaton languages) (same : sizes ≡ a.automaton.sizes) where
  pub AreSideBySide-valid : IsCanonical a.automaton → AllFitTracks a.automaton.sizes languages → arguments_of rule ≤ 1 → AreSideBySide (product sizes) made rule
  AreSideBySide-valid canonical fit few =
      subst (λ rs. AreSideBySide (product sizes) rs rule) (sym are)
      (subst (λ ss. AreSideBySide (product ss) (validity_readings a.automaton languages) rule) (sym same) (AreSideBySide-validity a.automaton canonical languages rule fit few))

  pub validity-language : (accepts : List ℕ → Bool) → ((w : List ℕ) → IsWord (product sizes) w → accepts w ≡ combined rule (flags_of made w))
      → (w : List ℕ) → IsWord (product a.automaton.sizes) w → accepts w ≡ combined rule (flags_of (validity_readings a.automaton languages) w)
  validity-language accepts says w over = says w (subst (λ ss. IsWord (product ss) w) (sym same) over) ∙ ap (λ rs. combined rule (flags_of rs w)) are

  pub validity-width : (k : ℕ) → HasWidth (AreAlike made) (product sizes) k → HasWidth (ValidityAlike a languages) (product a.automaton.sizes) k
  validity-width k width =
      HasWidth-same (AreAlike (validity_readings a.automaton languages)) (ValidityAlike a languages) (product a.automaton.sizes) k (validity_from_alike a languages) (alike_from_validity a languages)
      (subst (λ rs. HasWidth (AreAlike rs) (product a.automaton.sizes) k) are (subst (λ ss. HasWidth (AreAlike made) (product ss) k) same width))

  pub validity-apart : (k : ℕ) → HasApart (AreAlike made) (product sizes) k → HasApart (ValidityAlike a languages) (product a.automaton.sizes) k
  validity-apart k apart =
      HasApart-same (AreAlike (validity_readings a.automaton languages)) (ValidityAlike a languages) (product a.automaton.sizes) k (alike_from_validity a languages)
      (subst (λ rs. HasApart (AreAlike rs) (product a.automaton.sizes) k) are (subst (λ ss. HasApart (AreAlike made) (product ss) k) same apart))

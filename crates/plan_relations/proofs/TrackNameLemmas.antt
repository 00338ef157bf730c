-- Names determine tracks: a name in decimal is none that begins with a letter, and no two numbers have one decimal.
use Rattle.std.proofs.Common.{◌≡◌, ℕ, ◌+◌, ◌%◌, ◌^◌, ◌<◌, Bool, true, false, not, cond, ◌||◌, List, [], ◌∷◌, ◌++◌, decimal, refl, sym, ap, ◌∙◌, subst, arith, if◌then◌else◌}
use Rattle.std.specs.List.{AllByRecursion}
use Rattle.std.specs.Str.{bytes_eq}
use Rattle.std.proofs.lemmas.Bool.{false≢true}
use Rattle.std.proofs.lemmas.Bool.Decides.{nat_tests}
use Rattle.std.proofs.lemmas.Fmt.{decimal_by_steps, decimal_injective}
use Rattle.std.proofs.lemmas.Slice.Eq.{bytes_eq-Decides}
use Rattle.text_grammar.specs.Bytes.{is_digit, is_letter}
use Rattle.term_plans.specs.Tracks.{Track, own, fresh, same_track, with_number, has_track, without}
use Rattle.term_plans.specs.Plans.{Plan, compared, added, number, called, lettered, renamed, constant, joined, paired, complement, projected, tracks}
use Rattle.term_plans.proofs.TrackLemmas.{same_self, same_is}
use Rattle.plan_relations.specs.TrackNames.{track_name, numbers_by, begins_with_letter, IsNamed, AreNamed}
use Rattle.plan_relations.proofs.AllLemmas.{all_both}

abbrev begins_with_digit : List ℕ → Bool
begins_with_digit [] = false
begins_with_digit (b ∷ bytes) = is_digit b

digit_first : (d : ℕ) → d < 10 → is_digit (48 + d) ≡ true
digit_first d h = grind (arith, nat_tests)

longer_begins : (ds more : List ℕ) → begins_with_digit ds ≡ true → begins_with_digit (ds ++ more) ≡ true
longer_begins [] more is = absurd (false≢true is)
longer_begins (d ∷ ds) more is = is

decimal_begins : (n : ℕ) → n < 2 ^ 64 → begins_with_digit (decimal n) ≡ true
decimal_begins = decimal_by_steps (λ n ds. begins_with_digit ds ≡ true) (λ n h. digit_first n h) (λ n ds h is. longer_begins ds ((48 + n % 10) ∷ []) is)

no_letter_digit : (b : ℕ) → is_letter b ≡ true → is_digit b ≡ true → ⊥
no_letter_digit b letter digit = grind (arith, nat_tests)

letters_are_no_digits : (n : List ℕ) → begins_with_letter n ≡ true → begins_with_digit n ≡ true → ⊥
letters_are_no_digits [] letter digit = absurd (false≢true digit)
letters_are_no_digits (b ∷ bytes) letter digit = no_letter_digit b letter digit

-- tracks of one name are one
pub names_determine : (s t : Track) → IsNamed s → IsNamed t → track_name s ≡ track_name t → s ≡ t
names_determine (own m) (own n) first second same = ap own same
names_determine (own m) (fresh k) first second same = absurd (letters_are_no_digits m first (ap begins_with_digit same ∙ decimal_begins k second))
names_determine (fresh j) (own n) first second same = absurd (letters_are_no_digits n second (ap begins_with_digit (sym same) ∙ decimal_begins j first))
names_determine (fresh j) (fresh k) first second same = ap fresh (decimal_injective j k first second same)

all_without : (s : Track) (ts : List Track) → AllByRecursion IsNamed ts → AllByRecursion IsNamed (without s ts)
all_without s [] all = tt
all_without s (t ∷ ts) all = by (not (same_track s t)) (all_without s ts all.1)
  where
    by : (b : Bool) → AllByRecursion IsNamed (without s ts) → AllByRecursion IsNamed (cond b (t ∷ without s ts) (without s ts))
    by true rest = (all.0, rest)
    by false rest = rest

-- the tracks of a plan are among all of it
pub all_tracks : (p : Plan) → AreNamed p → AllByRecursion IsNamed (tracks p)
all_tracks (compared y r s t) named = (named.0, (named.1, tt))
all_tracks (added y s t u) named = (named.0, (named.1, (named.2, tt)))
all_tracks (number y t) named = (named, tt)
all_tracks (called n ts) named = named
all_tracks (lettered n ts r l) named = named
all_tracks (renamed s t p) named = (named.1, all_without s (tracks p) (all_tracks p named.2))
all_tracks (constant y c t) named = (named, tt)
all_tracks (joined j p q) named = all_both IsNamed (tracks p) (tracks q) (all_tracks p named.0) (all_tracks q named.1)
all_tracks (paired n ts r w us) named = all_both IsNamed ts us named.0 named.1
all_tracks (complement p) named = all_tracks p named
all_tracks (projected t p) named = all_without t (tracks p) (all_tracks p named.1)

-- each of the tracks
pub named_among : (ts : List Track) (u : Track) → AllByRecursion IsNamed ts → has_track ts u ≡ true → IsNamed u
named_among [] u all is = absurd (false≢true is)
named_among (t ∷ ts) u all is = by (same_track t u) refl (named_among ts u all.1)
  where
    by : (b : Bool) → same_track t u ≡ b → (has_track ts u ≡ true → IsNamed u) → IsNamed u
    by true same rest = subst IsNamed (same_is t u same) all.0
    by false apart rest = rest (sym (ap (λ c. c || has_track ts u) apart) ∙ is)

pub named_track : (p : Plan) (u : Track) → AreNamed p → has_track (tracks p) u ≡ true → IsNamed u
named_track p u named is = named_among (tracks p) u (all_tracks p named) is

-- a change of the number under a track's name is one of that on the track
pub changed_is : (s u : Track) (x : ℕ) (f : List ℕ → ℕ) → IsNamed s → IsNamed u → (if bytes_eq (track_name u) (track_name s) then x else f (track_name u)) ≡ with_number s x (numbers_by f) u
changed_is s u x f named also = by (same_track s u) refl
  where
    by : (b : Bool) → same_track s u ≡ b → (if bytes_eq (track_name u) (track_name s) then x else f (track_name u)) ≡ (if b then x else f (track_name u))
    by true same = ap (λ c. if c then x else f (track_name u)) ((bytes_eq-Decides (track_name u) (track_name s)).1 (ap track_name (sym (same_is s u same))))
    by false apart = other (bytes_eq (track_name u) (track_name s)) refl
      where
        other : (c : Bool) → bytes_eq (track_name u) (track_name s) ≡ c → (if c then x else f (track_name u)) ≡ f (track_name u)
        other false is = refl
        other true is = absurd (false≢true (sym apart ∙ ap (same_track s) (names_determine u s also named ((bytes_eq-Decides (track_name u) (track_name s)).0 is)) ∙ same_self s))

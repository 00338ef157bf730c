-- Which tracks are among some, and their names.
use Rattle.std.proofs.Common.{◌≡◌, ℕ, Bool, true, false, ◌||◌, cond, not, List, [], ◌∷◌, ◌++◌, map, inl, inr, ◌⊎◌, refl, sym, ap, ◌∙◌, subst}
use Rattle.std.specs.List.{Contains}
use Rattle.std.proofs.lemmas.Bool.{false≢true}
use Rattle.digit_tuple.proofs.MemberLemmas.{Contains-cases, Contains-head, Contains-none, Contains-tail}
use Rattle.term_plans.specs.Tracks.{Track, same_track, has_track, without}
use Rattle.term_plans.proofs.TrackLemmas.{same_is, first_is, later_is}
use Rattle.plan_relations.specs.TrackNames.{track_name}

-- a track among some is the first of them, or a later one
pub has_cases : (u : Track) (ts : List Track) (t : Track) → has_track (u ∷ ts) t ≡ true → (u ≡ t) ⊎ (has_track ts t ≡ true)
has_cases u ts t is = by (same_track u t) refl
  where
    by : (b : Bool) → same_track u t ≡ b → (u ≡ t) ⊎ (has_track ts t ≡ true)
    by true same = inl (same_is u t same)
    by false apart = inr (sym (ap (λ c. c || has_track ts t) apart) ∙ is)

-- the names of tracks that are there
pub has_contains : (ts : List Track) (t : Track) → has_track ts t ≡ true → Contains (map track_name ts) (track_name t)
has_contains [] t is = absurd (false≢true is)
has_contains (u ∷ ts) t is = elim (has_cases u ts t is) [
  | inl same ↦ subst (λ (v : Track). Contains (track_name u ∷ map track_name ts) (track_name v)) same (Contains-head (track_name u) (map track_name ts))
  | inr later ↦ Contains-tail (track_name u) (map track_name ts) (track_name t) (has_contains ts t later)
]

-- a track that is there, of this name
abbrev pub HasTrackNamed : List Track → List ℕ → Type 0
HasTrackNamed ts name = (t : Track) × (has_track ts t ≡ true) × (track_name t ≡ name)

pub track_named_later : (u : Track) (ts : List Track) (name : List ℕ) → HasTrackNamed ts name → HasTrackNamed (u ∷ ts) name
track_named_later u ts name (t, is, same) = (t, later_is u ts t is, same)

pub contains_has : (ts : List Track) (name : List ℕ) → Contains (map track_name ts) name → HasTrackNamed ts name
contains_has [] name found = absurd (Contains-none name found)
contains_has (u ∷ ts) name found = elim (Contains-cases (track_name u) (map track_name ts) name found) [
  | inl same ↦ (u, first_is u ts, same)
  | inr later ↦ track_named_later u ts name (contains_has ts name later)
]

-- the tracks of two lists
pub has_either : (ts us : List Track) (t : Track) → has_track (ts ++ us) t ≡ true → (has_track ts t ≡ true) ⊎ (has_track us t ≡ true)
has_either [] us t is = inr is
has_either (u ∷ ts) us t is = elim (has_cases u (ts ++ us) t is) [
  | inl same ↦ inl (subst (λ (v : Track). has_track (u ∷ ts) v ≡ true) same (first_is u ts))
  | inr later ↦ elim (has_either ts us t later) [ inl first ↦ inl (later_is u ts t first) | inr second ↦ inr second ]
]

pub exchanged : (s t u : Track) → has_track (s ∷ t ∷ []) u ≡ true → has_track (t ∷ s ∷ []) u ≡ true
exchanged s t u is = by (same_track s u) (same_track t u) is
  where
    by : (b c : Bool) → (b || (c || false)) ≡ true → (c || (b || false)) ≡ true
    by true true found = refl
    by true false found = refl
    by false true found = refl
    by false false found = found

-- a track of those without one is another of them
pub stays_apart : (s : Track) (ts : List Track) (t : Track) → has_track (without s ts) t ≡ true → (has_track ts t ≡ true) × (same_track s t ≡ false)
stays_apart s [] t is = absurd (false≢true is)
stays_apart s (u ∷ ts) t is = by (same_track s u) refl is (stays_apart s ts t)
  where
    by : (b : Bool) → same_track s u ≡ b → has_track (cond (not b) (u ∷ without s ts) (without s ts)) t ≡ true
        → (has_track (without s ts) t ≡ true → (has_track ts t ≡ true) × (same_track s t ≡ false)) → (has_track (u ∷ ts) t ≡ true) × (same_track s t ≡ false)
    by true same found rest = let known = rest found in (later_is u ts t known.0, known.1)
    by false apart found rest = elim (has_cases u (without s ts) t found) [
      | inl here ↦ (subst (λ (v : Track). has_track (u ∷ ts) v ≡ true) here (first_is u ts), ap (same_track s) (sym here) ∙ apart)
      | inr later ↦ (let known = rest later in (later_is u ts t known.0, known.1))
    ]

-- and each other track stays
pub other_track_stays : (s : Track) (ts : List Track) (t : Track) → has_track ts t ≡ true → same_track s t ≡ false → has_track (without s ts) t ≡ true
other_track_stays s [] t is apart = absurd (false≢true is)
other_track_stays s (u ∷ ts) t is apart = by (same_track s u) refl (has_cases u ts t is) (λ there. other_track_stays s ts t there apart)
  where
    by : (b : Bool) → same_track s u ≡ b → (u ≡ t) ⊎ (has_track ts t ≡ true) → (has_track ts t ≡ true → has_track (without s ts) t ≡ true)
        → has_track (cond (not b) (u ∷ without s ts) (without s ts)) t ≡ true
    by true same (inl here) rest = absurd (false≢true (sym apart ∙ ap (same_track s) (sym here) ∙ same))
    by true same (inr later) rest = rest later
    by false left (inl here) rest = subst (λ (v : Track). has_track (u ∷ without s ts) v ≡ true) here (first_is u (without s ts))
    by false left (inr later) rest = later_is u (without s ts) t (rest later)

-- Names and sizes of the tracks that stay when one of two equal tracks is dropped.
use Rattle.std.proofs.Common.{◌≡◌, ◌≢◌, ℕ, ◌<◌, ◌≤◌, Bool, true, false, not, if◌then◌else◌, List, [], length, map, get_or, refl, sym, ap, ◌∙◌, subst, arith}
use Rattle.std.specs.List.{All, Contains}
use Rattle.std.specs.Str.{bytes_eq}
use Rattle.std.proofs.lemmas.Slice.Eq.{bytes_eq-Decides}
use Rattle.std.proofs.lemmas.List.{ext_get_or, get_or-map, length-map}
use Rattle.std.proofs.lemmas.List.Elements.{All-map, Contains-get_or}
use Rattle.std.proofs.lemmas.List.Kept.{AllPairs-filter}
use Rattle.digit_tuple.proofs.MemberLemmas.{Contains-filter, Contains-from_filter, Contains-map}
use Rattle.digit_tuple.specs.Deterministic.{Automaton, accepts_of}
use Rattle.digit_tuple.specs.Letters.{product, IsWord}
use Rattle.digit_tuple.specs.Names.{place_of, places_of, names_without}
use Rattle.digit_tuple.specs.Parts.{part}
use Rattle.digit_tuple.proofs.NameLemmas.{place_of-contained, place_of-is}
use Rattle.minimise.specs.Tracked.{NamedAutomaton, IsTracked, size_of}
use Rattle.pad_rename.specs.Substitution.{IsSubstitution, sizes_under, word_under}
use Rattle.pad_rename.specs.Restriction.{name_for, names_for, word_with}
use Rattle.pad_rename.specs.StayingTracks.{staying_sizes}
use Rattle.pad_rename.proofs.SubstitutionLemmas.{size_under, sizes_under-map}

-- a name is another, or passes the test
pub passes : (name dropped : List ℕ) → name ≢ dropped → not (bytes_eq name dropped) ≡ true
passes name dropped other = by (bytes_eq name dropped) refl
  where
    by : (b : Bool) → bytes_eq name dropped ≡ b → not b ≡ true
    by true is = absurd (other ((bytes_eq-Decides name dropped).0 is))
    by false is = refl

-- a name that passes stays
pub name_for-other : (kept dropped name : List ℕ) → not (bytes_eq name dropped) ≡ true → name_for kept dropped name ≡ name
name_for-other kept dropped name = by (bytes_eq name dropped)
  where
    by : (b : Bool) → not b ≡ true → (if b then kept else name) ≡ name
    by true passed = cc
    by false passed = refl

-- two tracks of one size, of an automaton with names for its tracks
pub record HaveTwoTracks (a : NamedAutomaton) (kept dropped : List ℕ) : Type 0 where
  pub tracked : IsTracked a
  pub is_kept : Contains a.names kept
  pub is_dropped : Contains a.names dropped
  pub distinct : kept ≢ dropped
  pub sizes : size_of a kept ≡ size_of a dropped

-- the place of a track of this name
pub record IsTrackAt (a : NamedAutomaton) (name : List ℕ) (place : ℕ) : Type 0 where
  pub there : Contains a.names name
  pub place_is : place ≡ place_of a.names name
  pub within : place < length a.automaton.sizes
  pub few : length a.automaton.sizes ≤ 16

-- a name that was found
pub IsTrackAt-found : (a : NamedAutomaton) (names : List (List ℕ)) (sizes name : List ℕ) (place : ℕ) → IsTracked a → names ≡ a.names → sizes ≡ a.automaton.sizes → length sizes ≤ 16
    → Contains names name → place ≡ place_of names name → IsTrackAt a name place
IsTrackAt-found a names sizes name place tracked same equal few there is =
    let found : Contains a.names name = subst (λ ns. Contains ns name) same there in
    let at : place ≡ place_of a.names name = is ∙ ap (λ ns. place_of ns name) same in
    record { there = found; place_is = at; within = omega (arith, (place_of-contained a.names name found).0, at, tracked.count); few = omega (arith, few, ap length equal) }

-- tracks at one place have one name
pub one_place : (a : NamedAutomaton) (kept dropped : List ℕ) (i j : ℕ) → IsTrackAt a kept i → IsTrackAt a dropped j → i ≡ j → kept ≡ dropped
one_place a kept dropped i j first second same =
    sym (place_of-contained a.names kept first.there).1
    ∙ ap (λ p. get_or a.names p []) (sym first.place_is ∙ same ∙ second.place_is)
    ∙ (place_of-contained a.names dropped second.there).1

module _ (a : NamedAutomaton) (kept dropped : List ℕ) (two : HaveTwoTracks a kept dropped) where
  abbrev rest : List (List ℕ)
  rest = names_without a.names dropped

  abbrev under : List (List ℕ)
  under = names_for a.names kept dropped

  -- the name that takes the place of a track's name is there when the dropped one is not
  name_kept : (name : List ℕ) → Contains a.names name → Contains rest (name_for kept dropped name)
  name_kept name there = by (bytes_eq name dropped) refl
    where
      by : (b : Bool) → bytes_eq name dropped ≡ b → Contains rest (if b then kept else name)
      by true is = Contains-filter (λ n. not (bytes_eq n dropped)) a.names kept two.is_kept (passes kept dropped two.distinct)
      by false is = Contains-filter (λ n. not (bytes_eq n dropped)) a.names name there (ap not is)

  -- its track has the same size
  size_for : (name : List ℕ) → size_of a (name_for kept dropped name) ≡ size_of a name
  size_for name = by (bytes_eq name dropped) refl
    where
      by : (b : Bool) → bytes_eq name dropped ≡ b → size_of a (if b then kept else name) ≡ size_of a name
      by true is = two.sizes ∙ ap (size_of a) (sym ((bytes_eq-Decides name dropped).0 is))
      by false is = refl

  pub length-names_for : length under ≡ length a.names
  length-names_for = length-map a.names (name_for kept dropped)

  size_is : (i : ℕ) → i < length a.names → get_or a.automaton.sizes i 0 ≡ size_of a (get_or under i [])
  size_is i within =
      ap (λ k. get_or a.automaton.sizes k 0) (sym (place_of-is a.names (get_or a.names i []) i two.tracked.distinct within refl))
      ∙ sym (size_for (get_or a.names i []))
      ∙ ap (size_of a) (sym (get_or-map (name_for kept dropped) a.names i [] [] within))

  -- the names that stay take the place of names
  stays : All (Contains under) rest
  stays i d within =
      let found = Contains-from_filter (λ n. not (bytes_eq n dropped)) a.names (get_or rest i d) (Contains-get_or rest i d within) in
      subst (λ n. Contains under n) (name_for-other kept dropped (get_or rest i d) found.1) (Contains-map (name_for kept dropped) a.names (get_or rest i d) found.0)

  pub IsSubstitution-restriction : IsSubstitution a.automaton.sizes under rest
  IsSubstitution-restriction = record {
    count = length-names_for ∙ two.tracked.count;
    agree = λ i j within inside same.
        size_is i (omega (arith, within, length-names_for)) ∙ ap (size_of a) same ∙ sym (size_is j (omega (arith, inside, length-names_for)));
    distinct = AllPairs-filter (λ n m. n ≢ m) (λ n. not (bytes_eq n dropped)) a.names two.tracked.distinct;
    there = All-map (Contains rest) (name_for kept dropped) a.names (λ i d within. name_kept (get_or a.names i d) (Contains-get_or a.names i d within));
    no_others = stays;
  }

  size_same : (name : List ℕ) → Contains under name → size_under a.automaton.sizes under name ≡ size_of a name
  size_same name there =
      let spot = place_of-contained under name there in
      size_is (place_of under name) (omega (arith, spot.0, length-names_for)) ∙ ap (size_of a) spot.1

  -- the tracks that stay have their sizes
  pub sizes_under-restriction : sizes_under a.automaton.sizes under rest ≡ staying_sizes a dropped
  sizes_under-restriction =
      sizes_under-map a.automaton.sizes under rest
      ∙ ext_get_or 0 (map (size_under a.automaton.sizes under) rest) (map (size_of a) rest) (length-map rest (size_under a.automaton.sizes under) ∙ sym (length-map rest (size_of a)))
      (λ i inside. let within : i < length rest = omega (arith, inside, length-map rest (size_under a.automaton.sizes under)) in
      get_or-map (size_under a.automaton.sizes under) rest i [] 0 within
      ∙ size_same (get_or rest i []) (stays i [] within)
      ∙ sym (get_or-map (size_of a) rest i [] 0 within))
      ∙ sym (sizes_under-map a.automaton.sizes a.names rest)

-- the automaton is a's, and the names are those that take the place of a's, and those that stay
pub record IsRead (a : NamedAutomaton) (kept dropped : List ℕ) (d : Automaton) (us rs : List (List ℕ)) : Type 0 where
  pub two : HaveTwoTracks a kept dropped
  pub automaton_is : d ≡ a.automaton
  pub under_is : us ≡ names_for a.names kept dropped
  pub rest_is : rs ≡ names_without a.names dropped

module _ (a : NamedAutomaton) (kept dropped : List ℕ) (d : Automaton) (us rs : List (List ℕ)) (is : IsRead a kept dropped d us rs) where
  -- what holds of them holds of these
  along : (P : Automaton → List (List ℕ) → List (List ℕ) → Type 0) → P d us rs → P a.automaton (names_for a.names kept dropped) (names_without a.names dropped)
  along P holds =
      subst (λ ns. P a.automaton (names_for a.names kept dropped) ns) is.rest_is
      (subst (λ ns. P a.automaton ns rs) is.under_is (subst (λ (e : Automaton). P e us rs) is.automaton_is holds))

  back : (P : Automaton → List (List ℕ) → List (List ℕ) → Type 0) → P a.automaton (names_for a.names kept dropped) (names_without a.names dropped) → P d us rs
  back P holds =
      subst (λ (e : Automaton). P e us rs) (sym is.automaton_is)
      (subst (λ ns. P a.automaton ns rs) (sym is.under_is) (subst (λ ns. P a.automaton (names_for a.names kept dropped) ns) (sym is.rest_is) holds))

  pub IsSubstitution-read : IsSubstitution d.sizes us rs
  IsSubstitution-read = back (λ e ns ms. IsSubstitution e.sizes ns ms) (IsSubstitution-restriction a kept dropped is.two)

  pub sizes-read : sizes_under d.sizes us rs ≡ staying_sizes a dropped
  sizes-read = back (λ e ns ms. sizes_under e.sizes ns ms ≡ staying_sizes a dropped) (sizes_under-restriction a kept dropped is.two)

  -- an automaton that reads words under these names reads the words with the dropped track again
  pub language-read : (t : Automaton) → ((w : List ℕ) → IsWord (product (sizes_under d.sizes us rs)) w → accepts_of t w ≡ accepts_of d (word_under d.sizes us rs w))
      → (w : List ℕ) → IsWord (product (staying_sizes a dropped)) w → accepts_of t w ≡ accepts_of a.automaton (word_with a kept dropped w)
  language-read t reads =
      subst (λ ss. (w : List ℕ) → IsWord (product ss) w → accepts_of t w ≡ accepts_of a.automaton (part ss (places_of (names_without a.names dropped) (names_for a.names kept dropped)) w))
      (sizes_under-restriction a kept dropped is.two)
      (along (λ e ns ms. (w : List ℕ) → IsWord (product (sizes_under e.sizes ns ms)) w → accepts_of t w ≡ accepts_of e (word_under e.sizes ns ms w)) reads)

-- Systems of tracks, one after another.
use Rattle.std.proofs.Common.{◌≡◌, ◌⊎◌, ℕ, zero, suc, ◌+◌, ◌<◌, ◌≤◌, List, [], ◌∷◌, ◌++◌, length, take, get_or, inl, inr, refl, sym, ap, ◌∙◌, subst, arith}
use Rattle.std.specs.List.{All, AllByRecursion}
use Rattle.std.proofs.lemmas.Bool.{cases_lt}
use Rattle.std.proofs.lemmas.List.{get_or_append_left, get_or_push, length-append, length-map}
use Rattle.digit_tuple.specs.Deterministic.{Automaton}
use Rattle.digit_tuple.specs.Systems.{IsDigitCount}
use Rattle.digit_tuple.specs.declared.direction.Direction.{Direction}
use Rattle.digit_tuple.specs.declared.systems.SystemTrack.{SystemTrack}
use Rattle.minimise.specs.Canonical.{IsCanonical}
use Rattle.product_op.specs.Validity.{language_at, no_language}
use Rattle.numeration.specs.Systems.{System}
use Rattle.numeration.specs.Relations.{IsLanguageOf}
use Rattle.reg_steps.specs.Relations.{IsSystemLanguage, AreSystemLanguages}
use Rattle.command_head.specs.Heads as heads
use Rattle.named_systems.specs.BuiltIn.{IsBuiltInSystem}
use Rattle.named_systems.specs.KnownSystems as known
use Rattle.named_systems.specs.NamedSystems as named_systems
use Rattle.named_systems.specs.TrackSystems.{meant_system, meant_direction, system_of, direction_of, names_in, AreTrackSystemsOf, IsIn, IsNameOf, IsFirstApart, RefusesNames}
use Rattle.named_systems.specs.declared.track_system.Meaning.{Meaning}
use Rattle.named_systems.specs.declared.track_system.Meaning.TheVariants.{BuiltIn, Admitted}
use Rattle.named_systems.specs.declared.track_system.TrackSystem.{TrackSystem}
use Rattle.named_systems.specs.declared.track_systems.TrackSystems.{TrackSystems}
use Rattle.named_systems.specs.declared.track_systems.TracksFault.{TracksFault}
use Rattle.named_systems.specs.declared.track_systems.TracksFault.TheVariants as tracks
use Rattle.named_systems.proofs.KnownSteps.{its_name_means}
use Rattle.definitions.specs.Tracks.{names_of, systems_of, track_of, header_tracks}
use Rattle.system_files.specs.SystemFiles.{Custom}
use Rattle.definitions.specs.Named.{IsSystemNamed, IsOf, IsKnown, AreNamed, IsFirstWithout}
use Rattle.system_admission.specs.UserSystems.{AreUsers}
use Rattle.command_parts.specs.Checks.{Pure, Fails}
use Rattle.language_commands.specs.HeadTracks.{AreSystemsOf, PartInDirection}
use Rattle.command_parts.specs.FormulaSteps.{AreMeant}
use Rattle.language_commands.specs.RegOutcomes.{TracksAnswers}
use Rattle.command_parts.specs.TrackSystems.{fault_of_tracks, named_of, named_in}
use Rattle.definitions.proofs.NameLemmas.{one_direction}
use Rattle.command_parts.proofs.MeantNames.{found_meant, named_digits, users_meant}

-- a name means what the system of its track is
means_so : (custom : Custom) (users : List named_systems.NamedSystem) (name : List ℕ) (meaning : Meaning) → AreMeant custom users → IsNameOf users name meaning → IsSystemNamed custom name (meant_direction meaning) (meant_system meaning)
means_so custom users name (BuiltIn s) meant is = inl (subst (λ (n : List ℕ). IsBuiltInSystem n (known.direction_of s) (known.system_of s)) (sym is) (its_name_means s))
means_so custom users name (Admitted s) meant is = found_meant custom users name s.value meant is

-- the systems of tracks have these names
pub names_so : (systems : List TrackSystem) → names_in systems ≡ names_of (named_in systems)
names_so [] = refl
names_so (s ∷ systems) = ap (λ (ns : List (List ℕ)). s.name ∷ ns) (names_so systems)

-- each system of a track is what its name means
abbrev pub AreTheirs : Custom → List TrackSystem → Type 0
AreTheirs custom systems = AllByRecursion (λ (s : TrackSystem). IsSystemNamed custom s.name (direction_of s) (system_of s)) systems

are_theirs : (custom : Custom) (users : List named_systems.NamedSystem) (systems : List TrackSystem) → AreMeant custom users → AllByRecursion (λ (s : TrackSystem). IsNameOf users s.name s.meaning) systems → AreTheirs custom systems
are_theirs custom users [] meant are = tt
are_theirs custom users (s ∷ systems) meant are = (means_so custom users s.name s.meaning meant are.0, are_theirs custom users systems meant are.1)

theirs_known : (custom : Custom) (systems : List TrackSystem) → AreTheirs custom systems → AllByRecursion (IsKnown custom) (names_in systems)
theirs_known custom [] are = tt
theirs_known custom (s ∷ systems) are = ((direction_of s, (system_of s, are.0)), theirs_known custom systems are.1)

named_so : (custom : Custom) (direction : Direction) (s : TrackSystem) → IsIn direction s → IsSystemNamed custom s.name (direction_of s) (system_of s) → IsSystemNamed custom s.name direction (system_of s)
named_so custom direction s is means = let P : Direction → Type 0 = λ d. IsSystemNamed custom s.name d (system_of s) in subst P is means

-- systems in one direction are what their names mean
pub all_named : (custom : Custom) (direction : Direction) (systems : List TrackSystem) → All (IsIn direction) systems → AreTheirs custom systems → AreNamed custom direction (named_in systems)
all_named custom direction [] all are = tt
all_named custom direction (s ∷ systems) all are = (named_so custom direction s (all 0 s (omega arith)) are.0, all_named custom direction systems (λ i d within. all (suc i) d (omega (arith, within))) are.1)

-- one language more
pub languages_push : (direction : Direction) (ss : List System) (languages : List Automaton) (s : System) (d : Automaton) → AreSystemLanguages direction ss languages → IsSystemLanguage direction s d → AreSystemLanguages direction (ss ++ s ∷ []) (languages ++ d ∷ [])
languages_push direction ss languages s d are last = record {
  count = length-append languages (d ∷ []) ∙ ap (λ (n : ℕ). n + 1) are.count ∙ sym (length-append ss (s ∷ []));
  each = λ track x within. by track x within (cases_lt track (length ss));
}
  where
    by : (track : ℕ) (x : System) → track < length (ss ++ s ∷ []) → (track < length ss) ⊎ (length ss ≤ track) → IsSystemLanguage direction (get_or (ss ++ s ∷ []) track x) (language_at (languages ++ d ∷ []) track)
    by track x within (inl small) =
        let one : get_or (ss ++ s ∷ []) track x ≡ get_or ss track x = get_or_append_left ss (s ∷ []) x track small in
        let two : language_at (languages ++ d ∷ []) track ≡ language_at languages track = get_or_append_left languages (d ∷ []) no_language track (omega (arith, small, are.count)) in
        subst (λ (y : System). IsSystemLanguage direction y (language_at (languages ++ d ∷ []) track)) (sym one) (subst (λ (e : Automaton). IsSystemLanguage direction (get_or ss track x) e) (sym two) (are.each track x small))
    by track x within (inr past) =
        let at : length ss ≡ track = omega (arith, past, within, length-append ss (s ∷ [])) in
        let one : get_or (ss ++ s ∷ []) track x ≡ s = get_or_push ss s x track at in
        let two : language_at (languages ++ d ∷ []) track ≡ d = get_or_push languages d no_language track (are.count ∙ at) in
        subst (λ (y : System). IsSystemLanguage direction y (language_at (languages ++ d ∷ []) track)) (sym one) (subst (λ (e : Automaton). IsSystemLanguage direction s e) (sym two) last)

pub systems_push : (systems : List TrackSystem) (s : TrackSystem) → systems_of (named_in (systems ++ s ∷ [])) ≡ systems_of (named_in systems) ++ system_of s ∷ []
systems_push [] s = refl
systems_push (x ∷ systems) s = ap (λ (ss : List System). system_of x ∷ ss) (systems_push systems s)

-- the language of a system that is read in this direction
pub language_in : (direction : Direction) (s : TrackSystem) (d : Automaton) → IsIn direction s → IsLanguageOf (direction_of s) (system_of s) d → IsCanonical d → IsSystemLanguage direction (system_of s) d
language_in direction s d is language canonical = subst (λ (x : Direction). IsSystemLanguage x (system_of s) d) is (record { of_system = language; canonical = canonical })

-- the first system of another direction has the first name of the other direction
first_apart : (custom : Custom) (d : Direction) (systems : List TrackSystem) (j : ℕ) (other : List ℕ) → AreTheirs custom systems → j < length systems → All (IsIn d) (take j systems) → ((x : TrackSystem) → ¬ IsIn d (get_or systems j x)) → other ≡ get_or (names_in systems) j other
    → IsFirstWithout (IsOf custom d) (names_in systems) other
first_apart custom d [] j other are within all apart is = absurd (omega (arith, within))
first_apart custom d (s ∷ systems) zero other are within all apart is =
    inl ((λ of. apart s (one_direction custom (direction_of s) d s.name (system_of s, are.0) of)), is)
first_apart custom d (s ∷ systems) (suc j) other are within all apart is =
    inr ((system_of s, named_so custom d s (all 0 s (omega arith)) are.0), first_apart custom d systems j other are.1 (omega (arith, within)) (λ i x inside. all (suc i) x (omega (arith, inside))) apart is)

parted : (custom : Custom) (names : List (List ℕ)) (systems : List TrackSystem) (d : Direction) (place : ℕ) (first other : List ℕ) → AreTheirs custom systems → names ≡ names_in systems → ((x : TrackSystem) → IsIn d (get_or systems 0 x)) → IsFirstApart d systems place
    → first ≡ get_or names 0 first → other ≡ get_or names place other → PartInDirection custom names first other
parted custom names [] d place first other are named head apart is is' = absurd (omega (arith, apart.within))
parted custom names (s ∷ systems) d zero first other are named head apart is is' = absurd (apart.apart s (head s))
parted custom names (s ∷ systems) d (suc j) first other are named head apart is is' = record {
  known = subst (AllByRecursion (IsKnown custom)) (sym named) (theirs_known custom (s ∷ systems) are);
  direction = d;
  rest = names_in systems;
  names_are = named ∙ ap (λ (n : List ℕ). n ∷ names_in systems) (sym firsts);
  first_of = (system_of s, let P : List ℕ → Type 0 = λ n. IsSystemNamed custom n d (system_of s) in subst P (sym firsts) (named_so custom d s (head s) are.0));
  other_is = first_apart custom d systems j other are.1 (omega (arith, apart.within)) (λ i x inside. apart.before (suc i) x (omega (arith, inside))) apart.apart (is' ∙ ap (λ (ns : List (List ℕ)). get_or ns (suc j) other) named);
}
  where
    firsts : first ≡ s.name
    firsts = is ∙ ap (λ (ns : List (List ℕ)). get_or ns 0 first) named

-- why names mean no tracks, by the check of the direction
pub parted_so : (custom : Custom) (users : List named_systems.NamedSystem) (names : List (List ℕ)) (fault : TracksFault) → AreUsers custom users → RefusesNames users names fault → Fails (Pure (TracksAnswers custom (heads.Systems names))) (fault_of_tracks fault)
parted_so custom users names (tracks.Direction first other) of p = (first, other, refl, parted custom names p.systems p.direction p.place first other (are_theirs custom users p.systems (users_meant custom users of) p.named.are) p.named.names_are p.first_of p.other_of p.first_is p.other_is)
parted_so custom users names tracks.Memory of p = tt

-- each has as many digits as a track may have
pub digits_at : (custom : Custom) (direction : Direction) (systems : List TrackSystem) (i : ℕ) (s : TrackSystem) → i < length systems → s ≡ get_or systems i s → AreNamed custom direction (named_in systems) → IsDigitCount (system_of s).digits
digits_at custom direction [] i s within is are = absurd (omega (arith, within))
digits_at custom direction (x ∷ systems) zero s within is are = named_digits custom s.name direction (system_of s) (subst (λ (t : TrackSystem). IsSystemNamed custom t.name direction (system_of t)) (sym is) are.0)
digits_at custom direction (x ∷ systems) (suc i) s within is are = digits_at custom direction systems i s (omega (arith, within)) is are.1

-- one track more
pub tracks_push : (systems : List TrackSystem) (s : TrackSystem) → header_tracks (named_in (systems ++ s ∷ [])) ≡ header_tracks (named_in systems) ++ (record { name = s.name; digits = (system_of s).digits }) ∷ []
tracks_push [] s = refl
tracks_push (x ∷ systems) s = ap (λ (ts : List SystemTrack). track_of (named_of x) ∷ ts) (tracks_push systems s)

-- the systems of tracks are those that their names mean
pub tracks_so : (custom : Custom) (users : List named_systems.NamedSystem) (t : TrackSystems) (names : List (List ℕ)) → AreUsers custom users → AreTrackSystemsOf users names t → AreSystemsOf custom names t.direction (named_in t.systems.items)
tracks_so custom users t names are of = record {
  names_are = of.named.names_are ∙ names_so t.systems.items;
  are = all_named custom t.direction t.systems.items of.directions (are_theirs custom users t.systems.items (users_meant custom users are) of.named.are);
  some = subst (λ (ns : List (List ℕ)). 0 < length ns) (sym of.named.names_are) (omega (arith, of.some, length-map t.systems.items (λ (s : TrackSystem). s.name)));
}

-- there is a system for each track, so one at least
pub some_named : (systems : List TrackSystem) → 0 < length systems → 0 < length (named_in systems)
some_named systems some = omega (arith, some, length-map systems named_of)

-- Systems that names mean are tracks that a file may have.
use Rattle.std.proofs.Common.{◌≡◌, ℕ, ◌+◌, ◌<◌, ◌≤◌, ◌^◌, ◌%◌, Bool, true, ◌&&◌, List, [], ◌∷◌, ◌++◌, length, slice_index, eqb, inl, inr, refl, sym, ap, ◌∙◌, subst, arith, tests, decimal}
use Rattle.std.specs.List.{AllByRecursion, list_all}
use Rattle.std.proofs.lemmas.Bool.{and_parts, le-leb}
use Rattle.std.proofs.lemmas.Nat.{mod_below}
use Rattle.std.proofs.lemmas.Fmt.{decimal_by_steps, length-decimal-le, decimal_nonempty}
use Rattle.std.proofs.lemmas.List.Elements.{All-from_recursion}
use Rattle.digit_tuple.specs.Systems.{IsDigitCount}
use Rattle.digit_tuple.specs.declared.direction.Direction.{Direction}
use Rattle.digit_tuple.specs.declared.direction.Direction.TheVariants.{Msd, Lsd}
use Rattle.system_names.specs.declared.system_kind.SystemKind.{SystemKind}
use Rattle.system_names.specs.declared.system_kind.SystemKind.TheVariants.{Base, Fibonacci}
use Rattle.system_names.specs.Names.{IsSystemKind, digit_count, kind_part, system_name}
use Rattle.text_grammar.specs.Bytes.{is_alphanumeric}
use Rattle.system_names.specs.UserNames.{user_name}
use Rattle.numeration.specs.Systems.{System}
use Rattle.text_grammar.specs.Systems.{is_system}
use Rattle.dfa_reading.specs.Systems.{directs_as}
use Rattle.dfa_reading.proofs.SystemNames.{digit_limit-built}
use Rattle.dfa_reading.proofs.UserSystems.{users_name_passes, users_digit_limit}
use Rattle.dfa_text.specs.Lists as lists
use Rattle.dfa_text.specs.Lists.{IsSystemTrack, AreTrackSystems}
use Rattle.definitions.specs.Tracks.{NamedSystem, names_of, track_of, header_tracks}
use Rattle.system_files.specs.SystemFiles.{Custom}
use Rattle.definitions.specs.Named.{IsSystemNamed, AreNamed}
use Rattle.named_systems.specs.BuiltIn.{built_in_system}
use Rattle.definitions.proofs.UserDigits.{user_digits}

-- a test of all bytes of a text that is put together
all-append : (test : ℕ → Bool) (xs ys : List ℕ) → list_all test xs ≡ true → list_all test ys ≡ true → list_all test (xs ++ ys) ≡ true
all-append test [] ys first other = other
all-append test (x ∷ xs) ys first other =
    let parts = and_parts (test x) (list_all test xs) first in
    ap (λ (b : Bool). b && list_all test (xs ++ ys)) parts.0 ∙ all-append test xs ys parts.1 other

-- numerals are alphanumeric
digit_passes : (digit : ℕ) → digit < 10 → list_all is_alphanumeric ((48 + digit) ∷ []) ≡ true
digit_passes digit low = grind (arith, tests)

decimal_passes : (k : ℕ) → k < 2 ^ 64 → list_all is_alphanumeric (decimal k) ≡ true
decimal_passes k small =
    decimal_by_steps (λ (n : ℕ) (ds : List ℕ). list_all is_alphanumeric ds ≡ true) (λ n low. digit_passes n low)
    (λ n ds more passes. all-append is_alphanumeric ds ((48 + n % 10) ∷ []) passes (digit_passes (n % 10) (mod_below n 10 (omega arith)))) k small

-- what says the kind: at most three letters and digits
record IsKindPart (part : List ℕ) : Type 0 where
  some : 1 ≤ length part
  few : length part ≤ 3
  passes : list_all is_alphanumeric part ≡ true

kind_is_part : (kind : SystemKind) → IsSystemKind kind → IsKindPart (kind_part kind)
kind_is_part (Base k) is = record {
  some = let h : 0 < length (decimal k) = decimal_nonempty k (omega (arith, is.most)) in omega (arith, h);
  few = length-decimal-le 3 k (omega arith) (omega (arith, is.most)) (omega (arith, is.most));
  passes = decimal_passes k (omega (arith, is.most));
}
kind_is_part Fibonacci is = record { some = omega arith; few = omega arith; passes = refl }

-- a name of a system is one in a file
name_is_system : (direction : Direction) (kind : SystemKind) → IsSystemKind kind → is_system (system_name direction kind) ≡ true
unfolding is_system
name_is_system Msd kind is =
    let part = kind_is_part kind is in
    rw (le-leb 5 (length (system_name Msd kind)) (omega (arith, part.some)), le-leb (length (system_name Msd kind)) 62 (omega (arith, part.few)), part.passes) refl
name_is_system Lsd kind is =
    let part = kind_is_part kind is in
    rw (le-leb 5 (length (system_name Lsd kind)) (omega (arith, part.some)), le-leb (length (system_name Lsd kind)) 62 (omega (arith, part.few)), part.passes) refl

-- a built-in system has as many digits as its kind
digits_by_kind : (kind : SystemKind) → (built_in_system kind).digits ≡ digit_count kind
digits_by_kind (Base k) = refl
digits_by_kind Fibonacci = refl

kind_digits : (kind : SystemKind) → IsSystemKind kind → IsDigitCount (digit_count kind)
kind_digits (Base k) is = record { some = omega (arith, is.least); small = omega (arith, is.most) }
kind_digits Fibonacci is = record { some = omega arith; small = omega arith }

-- a system that a name means has as many digits as a file's track may have
pub named_digits : (custom : Custom) (name : List ℕ) (direction : Direction) (s : System) → IsSystemNamed custom name direction s → IsDigitCount s.digits
named_digits custom name direction s (inl (kind, built, is)) =
    let digits : s.digits ≡ digit_count kind = ap (λ (r : System). r.digits) is ∙ digits_by_kind kind in
    subst IsDigitCount (sym digits) (kind_digits kind built.0)
named_digits custom name direction s (inr user) = user_digits custom name direction s user

-- and is such a track
named_track : (custom : Custom) (direction : Direction) (s : NamedSystem) → IsSystemNamed custom s.name direction s.system → IsSystemTrack (track_of s)
named_track custom direction s (inl (kind, built, is)) =
    let digits : s.system.digits ≡ digit_count kind = ap (λ (r : System). r.digits) is ∙ digits_by_kind kind in
    record {
      name = ap is_system built.1 ∙ name_is_system direction kind built.0;
      count = named_digits custom s.name direction s.system (inl (kind, built, is));
      within = omega (arith, digits, digit_limit-built direction kind s.name built);
    }
named_track custom direction s (inr user) =
    let count : IsDigitCount s.system.digits = named_digits custom s.name direction s.system (inr user) in
    record {
      name = users_name_passes s.name (direction, user.part, user.is_name);
      count = count;
      within = omega (arith, count.small, users_digit_limit s.name (direction, user.part, user.is_name));
    }

named_tracks : (custom : Custom) (direction : Direction) (named : List NamedSystem) → AreNamed custom direction named → AllByRecursion IsSystemTrack (header_tracks named)
named_tracks custom direction [] are = tt
named_tracks custom direction (s ∷ named) are = (named_track custom direction s are.0, named_tracks custom direction named are.1)

-- the first byte of a name determines the direction
abbrev pub first_byte : Direction → ℕ
first_byte Msd = 109
first_byte Lsd = 108

built_in_prefix : (direction : Direction) (kind : SystemKind) → slice_index (system_name direction kind) 0 ≡ first_byte direction
built_in_prefix Msd kind = refl
built_in_prefix Lsd kind = refl

user_prefix : (direction : Direction) (part : List ℕ) → slice_index (user_name direction part) 0 ≡ first_byte direction
user_prefix Msd part = refl
user_prefix Lsd part = refl

pub named_prefix : (custom : Custom) (name : List ℕ) (direction : Direction) (s : System) → IsSystemNamed custom name direction s → slice_index name 0 ≡ first_byte direction
named_prefix custom name direction s (inl (kind, built, is)) = ap (λ (n : List ℕ). slice_index n 0) built.1 ∙ built_in_prefix direction kind
named_prefix custom name direction s (inr user) = ap (λ (n : List ℕ). slice_index n 0) user.is_name.1 ∙ user_prefix direction user.part

one_prefix : (direction : Direction) → eqb (first_byte direction) (first_byte direction) ≡ true
one_prefix Msd = refl
one_prefix Lsd = refl

names_direct : (custom : Custom) (direction : Direction) (s r : NamedSystem) → IsSystemNamed custom s.name direction s.system → IsSystemNamed custom r.name direction r.system → directs_as s.name r.name ≡ true
names_direct custom direction s r one two = (λ i. eqb (named_prefix custom r.name direction r.system two i) (named_prefix custom s.name direction s.system one i)) ∙ one_prefix direction

all_direct : (custom : Custom) (direction : Direction) (s : NamedSystem) (named : List NamedSystem) → IsSystemNamed custom s.name direction s.system → AreNamed custom direction named → list_all (directs_as s.name) (lists.names_of (header_tracks named)) ≡ true
all_direct custom direction s [] is are = refl
all_direct custom direction s (r ∷ named) is are =
    ap (λ (b : Bool). b && list_all (directs_as s.name) (lists.names_of (header_tracks named))) (names_direct custom direction s r is are.0) ∙ all_direct custom direction s named is are.1

-- systems that names mean are tracks that a file may have
pub file_systems : (custom : Custom) (direction : Direction) (named : List NamedSystem) → 0 < length named → AreNamed custom direction named → AreTrackSystems (header_tracks named)
file_systems custom direction [] some are = absurd (omega (arith, some))
file_systems custom direction (s ∷ named) some are = record {
  each = All-from_recursion IsSystemTrack (header_tracks (s ∷ named)) (named_tracks custom direction (s ∷ named) are);
  alike = rw (all_direct custom direction s named are.0 are.1) refl;
}

-- and the tracks have the names
pub track_names : (named : List NamedSystem) → lists.names_of (header_tracks named) ≡ names_of named
track_names [] = refl
track_names (s ∷ named) = ap (λ (names : List (List ℕ)). s.name ∷ names) (track_names named)

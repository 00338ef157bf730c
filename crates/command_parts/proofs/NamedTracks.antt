-- The tracks of names over systems, one after another.
use Rattle.std.proofs.Common.{◌≡◌, ℕ, zero, suc, ◌<◌, List, [], ◌∷◌, ◌++◌, length, take, get_or, refl, sym, ap, ◌∙◌, subst, arith}
use Rattle.std.specs.List.{AllByRecursion}
use Rattle.digit_tuple.specs.Sets.{sizes_of}
use Rattle.digit_tuple.specs.Systems.{IsDigitCount, digit_sets}
use Rattle.digit_tuple.specs.declared.systems.SystemTrack.{SystemTrack}
use Rattle.num_system.specs.Sealed.{SystemValue}
use Rattle.num_system.specs.Tracks.{systems_of}
use Rattle.numeration.specs.Representation as representation
use Rattle.digit_tuple.proofs.SystemLemmas.{length-digit_set}
use Rattle.command_parts.specs.WordPrinting.{tracks_named}

-- the track of a name over a system
abbrev pub named_track : List ℕ → SystemValue → SystemTrack
named_track name s = record { name = name; digits = s.digits }

pub named_more : (names : List (List ℕ)) (systems : List SystemValue) (i : ℕ) (name : List ℕ) (s : SystemValue) → i < length names → i < length systems → name ≡ get_or names i name → s ≡ get_or systems i s
    → tracks_named (take (suc i) names) systems ≡ tracks_named (take i names) systems ++ named_track name s ∷ []
named_more [] systems i name s within also name_is s_is = absurd (omega (arith, within))
named_more (x ∷ names) [] i name s within also name_is s_is = absurd (omega (arith, also))
named_more (x ∷ names) (y ∷ systems) zero name s within also name_is s_is = λ j. named_track (sym name_is j) (sym s_is j) ∷ []
named_more (x ∷ names) (y ∷ systems) (suc i) name s within also name_is s_is = ap (λ (ts : List SystemTrack). named_track x y ∷ ts) (named_more names systems i name s (omega (arith, within)) (omega (arith, also)) name_is s_is)

-- the tracks have as many letters as the systems have digits
pub sizes_named : (names : List (List ℕ)) (systems : List SystemValue) → length names ≡ length systems → sizes_of (digit_sets (tracks_named names systems)) ≡ representation.sizes_of (systems_of systems)
sizes_named [] [] count = refl
sizes_named [] (s ∷ systems) count = absurd (omega (arith, count))
sizes_named (name ∷ names) [] count = absurd (omega (arith, count))
sizes_named (name ∷ names) (s ∷ systems) count =
    ap (λ (n : ℕ). n ∷ sizes_of (digit_sets (tracks_named names systems))) (length-digit_set s.digits) ∙ ap (λ (ns : List ℕ). s.digits ∷ ns) (sizes_named names systems (omega (arith, count)))

-- each system has as many digits as a track may have
pub digits_at : (systems : List SystemValue) (i : ℕ) (s : SystemValue) → AllByRecursion (λ (x : SystemValue). IsDigitCount x.digits) systems → i < length systems → s ≡ get_or systems i s → IsDigitCount s.digits
digits_at [] i s all within is = absurd (omega (arith, within))
digits_at (y ∷ systems) zero s all within is = subst (λ (x : SystemValue). IsDigitCount x.digits) (sym is) all.0
digits_at (y ∷ systems) (suc i) s all within is = digits_at systems i s all.1 (omega (arith, within)) is

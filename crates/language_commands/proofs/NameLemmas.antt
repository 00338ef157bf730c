-- Names determine their systems, and checks of names have one first fault.
use Rattle.std.proofs.Common.{◌≡◌, ℕ, ◌<◌, List, [], ◌∷◌, length, drop, get_or, sym, ap, ◌∙◌, subst, arith}
use Rattle.std.specs.List.{AllByRecursion}
use Rattle.std.proofs.lemmas.List.{length-map}
use Rattle.digit_tuple.specs.declared.direction.Direction.{Direction}
use Rattle.definitions.specs.Tracks.{NamedSystem, names_of}
use Rattle.system_files.specs.SystemFiles.{Custom}
use Rattle.definitions.specs.Named.{IsOf, IsFirstWithout}
use Rattle.language_commands.specs.HeadTracks.{AreSystemsOf, PartInDirection}
use Rattle.definitions.proofs.NameLemmas.{one_direction, one_first, no_first, named_of_direction, same_list, same_direction}

-- names determine the systems of tracks
pub one_list_of_systems : (custom : Custom) (names : List (List ℕ)) (direction other : Direction) (named also : List NamedSystem) → AreSystemsOf custom names direction named → AreSystemsOf custom names other also → (direction ≡ other) × (named ≡ also)
one_list_of_systems custom names direction other named also one two =
    let same : names_of named ≡ names_of also = sym one.names_are ∙ two.names_are in
    let some : 0 < length named = omega (arith, one.some, ap length one.names_are, length-map named (λ (s : NamedSystem). s.name)) in
    (same_direction custom direction other named also some one.are two.are same, same_list custom direction other named also one.are two.are same)

-- none of the names of systems in one direction is of the other
pub not_parted : (custom : Custom) (names : List (List ℕ)) (direction : Direction) (named : List NamedSystem) (first other : List ℕ) → AreSystemsOf custom names direction named → PartInDirection custom names first other → ⊥
not_parted custom names direction named first other are part = by_all (let P : List (List ℕ) → Type 0 = λ xs. AllByRecursion (IsOf custom direction) xs in subst P (sym are.names_are ∙ part.names_are) (named_of_direction custom direction named are.are))
  where
    by_all : AllByRecursion (IsOf custom direction) (first ∷ part.rest) → ⊥
    by_all all =
        let opposed : part.direction ≡ direction = one_direction custom part.direction direction first part.first_of all.0 in
        let P : Direction → Type 0 = λ d. IsFirstWithout (IsOf custom d) part.rest other in
        no_first (IsOf custom direction) part.rest other all.1 (subst P opposed part.other_is)

pub same_part : (custom : Custom) (names : List (List ℕ)) (first other first' other' : List ℕ) → PartInDirection custom names first other → PartInDirection custom names first' other' → (first ≡ first') × (other ≡ other')
same_part custom names first other first' other' one two =
    let lists : first ∷ one.rest ≡ first' ∷ two.rest = sym one.names_are ∙ two.names_are in
    let firsts : first ≡ first' = ap (λ (xs : List (List ℕ)). get_or xs 0 []) lists in
    let rests : one.rest ≡ two.rest = ap (λ (xs : List (List ℕ)). drop 1 xs) lists in
    let directions : one.direction ≡ two.direction = one_direction custom one.direction two.direction first' (let P : List ℕ → Type 0 = λ n. IsOf custom one.direction n in subst P firsts one.first_of) two.first_of in
    let P : Direction → Type 0 = λ d. IsFirstWithout (IsOf custom d) one.rest other in
    let Q : List (List ℕ) → Type 0 = λ xs. IsFirstWithout (IsOf custom two.direction) xs other in
    (firsts, one_first (IsOf custom two.direction) two.rest other other' (subst Q rests (subst P directions one.other_is)) two.other_is)

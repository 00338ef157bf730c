-- A name is that of one base in one direction at most, and means that base.
use Rattle.std.proofs.Common.{◌≡◌, ◌≢◌, ℕ, List, [], ◌∷◌, Option, None, Some, MatchOption, Result, Ok, Err, inl, refl, sym, ap, ◌∙◌, subst}
use Rattle.digit_tuple.specs.declared.direction.Direction.{Direction}
use Rattle.base_k.specs.Positional.{base}
use Rattle.numeration.specs.Systems.{System}
use Rattle.system_names.specs.Names.{IsBuiltIn, IsBuiltInName}
use Rattle.system_names.specs.declared.system_kind.SystemKind.{SystemKind}
use Rattle.system_names.specs.declared.system_kind.SystemKind.TheVariants.{Base}
use Rattle.system_names.proofs.OneSystem.{one_system}
use Rattle.formula_resolve.specs.Headers.{Headers}
use Rattle.definitions.specs.Named.{IsSystemNamed}
use Rattle.definitions.proofs.NameLemmas.{one_meaning}
use Rattle.system_files.specs.SystemFiles.{Custom}
use Rattle.word_commands.specs.declared.base_system.BaseSystem.{BaseSystem}
use Rattle.word_commands.specs.BaseWords.{BaseAnswers, IsBaseOf, IsNameOfBase, name_of_base}

-- kinds that are one are of one base
one_number : (k j : ℕ) → Base k ≡ Base j → k ≡ j
one_number k j same = cc

pub one_base : (name : List ℕ) (s t : BaseSystem) → IsNameOfBase s name → IsNameOfBase t name → s ≡ t
one_base name s t a b =
    let same = one_system s.direction t.direction (Base s.base) (Base t.base) name a b in
    let bases : s.base ≡ t.base = one_number s.base t.base same.1 in
    λ i. record { direction = same.0 i; base = bases i }

-- a name that is that of no built-in system is that of no base
pub none_built_in : (name : List ℕ) → ¬ IsBuiltInName name → (s : BaseSystem) → ¬ IsNameOfBase s name
none_built_in name none s is = none (s.direction, Base s.base, is)

-- the base that a built-in system is, or is not, is the one of its name
pub base_of_kind : (name : List ℕ) (direction : Direction) (kind : SystemKind) → IsBuiltIn direction kind name → (result : Option BaseSystem) → MatchOption result ((k : ℕ) → kind ≢ Base k) (λ s. (s.direction ≡ direction) × (kind ≡ Base s.base))
    → MatchOption result ((s : BaseSystem) → ¬ IsNameOfBase s name) (λ s. IsNameOfBase s name)
base_of_kind name direction kind built None none = λ s is. none s.base (one_system direction s.direction kind (Base s.base) name built is).1
base_of_kind name direction kind built (Some s) (directions, kinds) =
    subst (λ (d : Direction). IsBuiltIn d (Base s.base) name) (sym directions) (subst (λ (k : SystemKind). IsBuiltIn direction k name) kinds built)

-- what the name of a base means is the base, in its direction
pub base_meant : (custom : Custom) (name : List ℕ) (s : BaseSystem) (direction : Direction) (system : System) → IsNameOfBase s name → IsSystemNamed custom name direction system → (direction ≡ s.direction) × (system ≡ base s.base)
base_meant custom name s direction system is meant = one_meaning custom name direction s.direction system (base s.base) meant (inl (Base s.base, is, refl))

first_same : (a b : List ℕ) → a ∷ [] ≡ b ∷ [] → a ≡ b
first_same a b same = cc

-- a word has one base at most
pub one_base_of : (asked : Option Direction) (h : Headers) (word : List ℕ) (s t : BaseSystem) → IsBaseOf asked h word s → IsBaseOf asked h word t → s ≡ t
one_base_of asked h word s t a b = one_base (name_of_base s) s t (a.base_is, refl) (b.base_is, first_same (name_of_base s) (name_of_base t) (sym a.tracks_are ∙ b.tracks_are))

-- and so the check of it has one answer
pub base_one : (asked : Option Direction) (h : Headers) (word : List ℕ) (r s : Result BaseSystem (List ℕ × List (List ℕ))) → BaseAnswers asked h word r → BaseAnswers asked h word s → r ≡ s
base_one asked h word (Ok s) (Ok t) a b = ap (λ (x : BaseSystem). let r : Result BaseSystem (List ℕ × List (List ℕ)) = Ok x in r) (one_base_of asked h word s t a b)
base_one asked h word (Ok s) (Err header) a b = absurd (b.1 s a)
base_one asked h word (Err header) (Ok s) a b = absurd (a.1 s b)
base_one asked h word (Err header) (Err other) a b = ap (λ (x : List ℕ × List (List ℕ)). let r : Result BaseSystem (List ℕ × List (List ℕ)) = Err x in r) (a.0 ∙ sym b.0)

-- Relations on the numbers of some tracks, joined by a connective.
use Rattle.std.specs.Prelude.{◌≡◌, ℕ, ◌<◌, List, length, ◌⊎◌, ◌↔◌, ⊤}
use Rattle.std.specs.List.{All, Contains}
use Rattle.digit_tuple.specs.Deterministic.{Automaton}
use Rattle.digit_tuple.specs.declared.direction.Direction.{Direction}
use Rattle.digit_tuple.specs.Parts.{picked}
use Rattle.product_op.specs.declared.op.Op.{Op}
use Rattle.product_op.specs.declared.op.Op.TheVariants.{And, AndNot, Or, Xor, Implies, Iff}
use Rattle.product_op.specs.Validity.{language_at}
use Rattle.numeration.specs.Systems.{System}
use Rattle.numeration.specs.Relations.{IsLanguageOf}
use Rattle.numeration.specs.SomeTracks.{system_at}

-- what the connective says of two facts
abbrev pub Joined : Op → Type 0 → Type 0 → Type 0
Joined And P Q = P × Q
Joined AndNot P Q = P × ¬ Q
Joined Or P Q = P ⊎ Q
Joined Xor P Q = (P × ¬ Q) ⊎ (¬ P × Q)
Joined Implies P Q = P → Q
Joined Iff P Q = P ↔ Q

-- the connective of a relation on the numbers at some places and a relation on those at others
abbrev pub joined : Op → List ℕ → (List ℕ → Type 0) → List ℕ → (List ℕ → Type 0) → List ℕ → Type 0
joined op ps P qs Q ns = Joined op (P (picked ps ns)) (Q (picked qs ns))

-- for `and not` each name of the second argument is one of the first's
abbrev pub IsBound : Op → List (List ℕ) → List (List ℕ) → Type 0
IsBound AndNot first second = All (Contains first) second
IsBound And first second = ⊤
IsBound Or first second = ⊤
IsBound Xor first second = ⊤
IsBound Implies first second = ⊤
IsBound Iff first second = ⊤

-- a language for each track, that of its system
pub record AreLanguagesOf (direction : Direction) (ss : List System) (languages : List Automaton) : Type 0 where
  pub count : length languages ≡ length ss
  pub each : (i : ℕ) → i < length ss → IsLanguageOf direction (system_at ss i) (language_at languages i)

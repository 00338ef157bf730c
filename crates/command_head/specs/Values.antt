-- The values of automata in a list.
use Rattle.std.specs.Prelude.{◌≡◌, ℕ, suc, ◌+◌, true, false, List, [], ◌∷◌, ◌++◌, length, ℤ, pos, Option, None, Some, ◌⊎◌, ⊤, ◌^◌}
use Rattle.text_grammar.specs.Numbers.{is_number, is_short, number_of}
use Rattle.command_head.specs.declared.fault.HeadFault.{HeadFault}
use Rattle.command_head.specs.declared.fault.HeadFault.TheVariants.{Syntax, Number, Memory}
use Rattle.command_head.specs.Parts.{is_name}

-- the value of an automaton at a place, counted from 0: the one that is given, or its place counted from 1
abbrev pub value_at : ℕ → Option ℤ → ℤ
value_at place (Some n) = n
value_at place None = pos (suc place)

-- what may come after a name in its part, whether the number fits or not
abbrev pub IsValueText : List ℕ → Type 0
IsValueText suffix = (suffix ≡ []) ⊎ ((number : List ℕ) × (suffix ≡ 61 ∷ number) × (is_number number ≡ true))

-- `=` and a number that does not fit 32 bits, signed
pub record IsLongValue (suffix : List ℕ) : Type 0 where
  pub number : List ℕ
  pub after_is : suffix ≡ 61 ∷ number
  pub digits : is_number number ≡ true
  pub long : is_short (2 ^ 31) (number_of number) ≡ false

-- a name, and directly after it a number that does not fit, which begins at this byte of the part
pub record IsLongValued (part : List ℕ) (at : ℕ) : Type 0 where
  pub name : List ℕ
  pub suffix : List ℕ
  pub part_is : part ≡ name ++ suffix
  pub is_named : is_name name ≡ true
  pub value : IsLongValue suffix
  pub place : length name + 1 ≡ at

-- Why a part at this byte is no name with or without a value: it has another form, or its number does not fit.
abbrev pub RefusesValued : List ℕ → ℕ → HeadFault → Type 0
RefusesValued part at (Syntax byte) = (byte ≡ at) × ((name : List ℕ) (suffix : List ℕ) → part ≡ name ++ suffix → is_name name ≡ true → IsValueText suffix → ⊥)
RefusesValued part at (Number byte) = (place : ℕ) × IsLongValued part place × (byte ≡ at + place)
RefusesValued part at Memory = ⊤

-- What holds of the expansions of all texts.
use Rattle.std.specs.Prelude.{◌≡◌, ◌≢◌, ℕ, ◌≤◌, true, List, ◌∷◌, ◌++◌, length, Some, Ok, Result, Err}
use Rattle.std.specs.List.{AllByRecursion}
use Rattle.text_grammar.specs.Bytes.{is_name_byte}
use Rattle.macro_expand.specs.declared.fault.MacroFault.{MacroFault}
use Rattle.macro_expand.specs.declared.fault.MacroFault.TheVariants as faults
use Rattle.macro_expand.specs.Texts.{TextOf}
use Rattle.macro_expand.specs.Calls.{is_name}
use Rattle.macro_expand.specs.Expansion.{expansion}
use Rattle.macro_expand.specs.Views.{Answers}

-- a mark is not in a text
abbrev pub HasNo : ℕ → List ℕ → Type 0
HasNo mark text = AllByRecursion (λ b. b ≢ mark) text

-- a text of at most 65,536 bytes without `#` is its own expansion
abbrev pub KeepsPlainTexts : Type 0
KeepsPlainTexts = (macros : TextOf) (text : List ℕ) → HasNo 35 text → length text ≤ 65536 → expansion macros text ≡ Ok text

-- the name of a macro
pub record IsName (name : List ℕ) : Type 0 where
  pub bytes : AllByRecursion (λ b. is_name_byte b ≡ true) name
  pub form : is_name name ≡ true

-- a macro whose text has neither `#` nor `%`
pub record IsPlainMacro (macros : TextOf) (name text : List ℕ) : Type 0 where
  pub named : IsName name
  pub added : macros name ≡ Some text
  pub no_call : HasNo 35 text
  pub no_place : HasNo 37 text

-- such a macro's text is in the place of its call without arguments, where all is at most 65,536 bytes
abbrev pub GivesPlainTexts : Type 0
GivesPlainTexts = (macros : TextOf) (name text before after : List ℕ) → IsPlainMacro macros name text → HasNo 35 before → HasNo 35 after → length (before ++ (text ++ after)) ≤ 65536
    → expansion macros (before ++ (35 ∷ name ++ 40 ∷ 41 ∷ after)) ≡ Ok (before ++ (text ++ after))

-- an expansion has one answer, apart from out of memory
abbrev pub OneAnswer : Type 0
OneAnswer = (macros : TextOf) (text : List ℕ) (result other : Result (List ℕ) MacroFault) → Answers (λ made. made) result (expansion macros text) → Answers (λ made. made) other (expansion macros text)
    → result ≢ Err faults.Memory → other ≢ Err faults.Memory → result ≡ other

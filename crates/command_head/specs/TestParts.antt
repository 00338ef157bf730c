-- Why a part is no number of words, or no place in quotes. Nobody has to believe this: it serves the code that reads.
use Rattle.std.specs.Prelude.{◌≡◌, ℕ, ◌+◌, ◌≤◌, ◌^◌, true, false, List}
use Rattle.text_grammar.specs.Numbers.{are_digits, value_of}
use Rattle.place_text.specs.declared.fault.PlaceFault.{PlaceFault}
use Rattle.place_text.specs.Faults.{IsFault}
use Rattle.command_head.specs.declared.fault.HeadFault.{HeadFault}
use Rattle.command_head.specs.declared.fault.HeadFault.TheVariants.{Syntax, Number, Memory}
use Rattle.command_head.specs.Parts.{is_quoted, unquoted}
use Rattle.command_head.specs.TestBreaks.{fault_from}

-- it is not digits alone, or the number is too great
pub data RefusesCount (part : List ℕ) (at : ℕ) (fault : HeadFault) : Type 0 where
  NoDigits : are_digits part ≡ false → fault ≡ Syntax at → RefusesCount part at fault
  TooGreat : are_digits part ≡ true → 2 ^ 64 ≤ value_of part → fault ≡ Number at → RefusesCount part at fault

-- it is not in quotes, or what is in them is broken
pub data RefusesPlace (part : List ℕ) (at : ℕ) (fault : HeadFault) : Type 0 where
  NoQuotes : is_quoted part ≡ false → fault ≡ Syntax at → RefusesPlace part at fault
  Broken : is_quoted part ≡ true → (broken : PlaceFault) → IsFault (unquoted part) broken → fault ≡ fault_from (at + 1) broken → RefusesPlace part at fault
  NoMemory : fault ≡ Memory → RefusesPlace part at fault

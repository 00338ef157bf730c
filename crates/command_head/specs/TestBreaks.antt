-- Where a text first breaks off as the head of a `test`, and by which fault.
use Rattle.std.specs.Prelude.{◌≡◌, ◌≢◌, ℕ, ◌+◌, ◌≤◌, ◌^◌, true, List, [], ◌∷◌, ◌++◌, take, Result, Ok, Err, codes, ⊤}
use Rattle.text_grammar.specs.Faults.{Begins}
use Rattle.text_grammar.specs.Numbers.{are_digits, value_of}
use Rattle.place_text.specs.declared.fault.PlaceFault.{PlaceFault}
use Rattle.place_text.specs.declared.fault.PlaceFault.TheVariants as places
use Rattle.place_text.specs.Faults.{IsFault}
use Rattle.command_head.specs.declared.fault.HeadFault.{HeadFault}
use Rattle.command_head.specs.declared.fault.HeadFault.TheVariants.{Syntax, Number, Memory}
use Rattle.command_head.specs.Parts.{parts_of, texts_of}
use Rattle.command_head.specs.Heads.{TestHead}
use Rattle.command_head.specs.Grammar.{AreUnquoted, quoted, DerivesTest}
use Rattle.command_head.specs.Breaks.{BreaksIn, part_at}

-- The part is a number of digits alone, of 2 ^ 64 or more; with another one in its place a head goes on after these parts.
pub record IsLongCount (before : List (List ℕ)) (part : List ℕ) : Type 0 where
  pub digits : are_digits part ≡ true
  pub long : 2 ^ 64 ≤ value_of part
  pub allowed : Begins DerivesTest (before ++ codes "0" ∷ [])

-- The part is a text in quotes that has this fault as a place; with a place in the quotes a head goes on after these parts.
pub record IsBrokenPlace (before : List (List ℕ)) (part : List ℕ) (fault : PlaceFault) : Type 0 where
  pub body : List ℕ
  pub part_is : part ≡ quoted body
  pub unquoted : AreUnquoted body
  pub broken : IsFault body fault
  pub allowed : Begins DerivesTest (before ++ quoted (codes "[]") ∷ [])

-- the fault of a text that begins at this byte of the command
abbrev pub fault_from : ℕ → PlaceFault → HeadFault
fault_from begin (places.Syntax at) = Syntax (begin + at)
fault_from begin (places.Number at) = Number (begin + at)
fault_from begin places.Memory = Memory

-- Why a part is refused that begins at this byte and comes after these parts: it is a number of words that is too great, or a place
-- that is broken inside; or it is neither, and no head goes on with it.
pub data Refuses (before : List (List ℕ)) (part : List ℕ) (begin : ℕ) (fault : HeadFault) : Type 0 where
  LongCount : IsLongCount before part → fault ≡ Number begin → Refuses before part begin fault
  BrokenPlace : (broken : PlaceFault) → IsBrokenPlace before part broken → fault ≡ fault_from (begin + 1) broken → Refuses before part begin fault
  Whole : ¬ IsLongCount before part → ((broken : PlaceFault) → ¬ IsBrokenPlace before part broken) → fault ≡ Syntax begin → Refuses before part begin fault

-- the fault of the first part with which no `test` goes on; where all parts of the text begin one and are none, it is at the text's length
pub record IsTestFault (text : List ℕ) (fault : HeadFault) : Type 0 where
  pub begin : ℕ
  pub first : BreaksIn DerivesTest text begin
  pub refuses : Refuses (take first.count (texts_of (parts_of text))) (part_at (texts_of (parts_of text)) first.count) begin fault

-- what a text has as the head of a `test`: a head, seen by view, that derives its parts, or its fault
abbrev pub HasTest : {X : Type 0} → (X → TestHead) → List ℕ → Result X HeadFault → Type 0
HasTest view text (Ok head) = DerivesTest (texts_of (parts_of text)) (view head)
HasTest view text (Err (Syntax at)) = IsTestFault text (Syntax at)
HasTest view text (Err (Number at)) = IsTestFault text (Number at)
HasTest view text (Err Memory) = ⊤

-- a text has one such head or one fault, apart from out of memory
abbrev pub HasOneTest : Type 0
HasOneTest = (text : List ℕ) (result other : Result TestHead HeadFault) → HasTest (λ head. head) text result → HasTest (λ head. head) text other
    → result ≢ Err Memory → other ≢ Err Memory → result ≡ other

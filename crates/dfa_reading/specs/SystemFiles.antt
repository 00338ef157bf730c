-- The files of a user's system: the one of its language has one track, whose digits are those from 0 on, and the one of its adder has three
-- tracks with the same digits. Else their format is that of an automaton's file.
use Rattle.std.specs.Prelude.{◌≡◌, ℕ, ◌<◌, ◌≤◌, ◌==◌, Bool, true, false, if◌then◌else◌, ℤ, List, [], ◌∷◌, ◌&&◌, length, Option, None, Some, Result, Ok}
use Rattle.std.specs.List.{list_all}
use Rattle.std.specs.Ordering.{int_eq}
use Rattle.digit_tuple.specs.Systems.{digit_set}
use Rattle.dfa_reading.specs.Lines.{◌>>=◌, lines_of, line_after}
use Rattle.dfa_reading.specs.Headers.{Header, Sets}
use Rattle.dfa_reading.specs.Listed.{Listed}
use Rattle.dfa_reading.specs.declared.system_part.SystemPart.{SystemPart}
use Rattle.dfa_reading.specs.declared.system_part.SystemPart.TheVariants.{Language, Adder}
use Rattle.dfa_reading.specs.declared.outputs.Outputs.TheVariants.{Numbers}
use Rattle.dfa_reading.specs.Reading.{Draft, no_draft, add_line, add_lines_by, then_read, finish}

-- whether two sets, each in ascending order, have the same members
abbrev pub is_same_set : List ℤ → List ℤ → Bool
is_same_set [] [] = true
is_same_set (m ∷ set) (n ∷ other) = int_eq m n && is_same_set set other
is_same_set _ _ = false

-- the digits from 0 on, as many as the set has members
abbrev pub is_digits : List ℤ → Bool
is_digits set = is_same_set set (digit_set (length set))

-- one track of digits from 0 on
abbrev pub is_language_header : Header → Bool
is_language_header (Sets (set ∷ [])) = is_digits set
is_language_header _ = false

-- three tracks of so many digits from 0 on
abbrev pub is_adder_header : ℕ → Header → Bool
is_adder_header digits (Sets sets) = list_all (λ set. is_same_set set (digit_set digits)) sets && (length sets == 3)
is_adder_header digits _ = false

-- what was read, where its header may be
abbrev pub is_headed : (Header → Bool) → Option Header → Bool
is_headed may_be None = true
is_headed may_be (Some header) = may_be header

abbrev pub kept_headed : (Header → Bool) → Draft → Option Draft
kept_headed may_be draft = if is_headed may_be draft.header then Some draft else None

-- one line more; none where the line breaks the format, or is another header
abbrev pub add_headed_line : (Header → Bool) → ℕ → Draft → List ℕ → Option Draft
add_headed_line may_be at draft line = add_line Numbers at draft line >>= kept_headed may_be

-- what the bytes list under a header that may be, or the line of the first fault
abbrev pub headed_of : (Header → Bool) → List ℕ → Result Listed ℕ
headed_of may_be text = then_read (add_lines_by (add_headed_line may_be) 1 no_draft (lines_of text)) (finish (line_after (lines_of text)))

-- what the file of a language lists
unfoldable pub language_of : List ℕ → Result Listed ℕ
language_of text = headed_of is_language_header text

-- what the file of an adder lists, over so many digits
unfoldable pub adder_of : ℕ → List ℕ → Result Listed ℕ
adder_of digits text = headed_of (is_adder_header digits) text

-- what the file of this part of a system lists
abbrev pub part_of : SystemPart → List ℕ → Result Listed ℕ
part_of Language text = language_of text
part_of (Adder digits) text = adder_of digits text

-- the header that such a file may have
abbrev pub may_head : SystemPart → Header → Bool
may_head Language = is_language_header
may_head (Adder digits) = is_adder_header digits

-- what a language's file lists has one track of some digits from 0 on, and a state
pub record IsLanguageListed (listed : Listed) : Type 0 where
  pub digits : ℕ
  pub some_digit : 1 ≤ digits
  pub header : listed.header ≡ Sets (digit_set digits ∷ [])
  pub some_state : 0 < length listed.outputs

abbrev pub LanguageFilesListLanguages : Type 0
LanguageFilesListLanguages = (text : List ℕ) (listed : Listed) → language_of text ≡ Ok listed → IsLanguageListed listed

-- what an adder's file lists has three tracks of so many digits from 0 on, and a state
pub record IsAdderListed (digits : ℕ) (listed : Listed) : Type 0 where
  pub header : listed.header ≡ Sets (digit_set digits ∷ digit_set digits ∷ digit_set digits ∷ [])
  pub some_state : 0 < length listed.outputs

abbrev pub AdderFilesListAdders : Type 0
AdderFilesListAdders = (digits : ℕ) (text : List ℕ) (listed : Listed) → adder_of digits text ≡ Ok listed → IsAdderListed digits listed

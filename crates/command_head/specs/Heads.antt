-- The heads of commands. This is what reading a `reg` gives, part by part.
use Rattle.std.specs.Prelude.{ℕ, if◌then◌else◌, List, [], ◌∷◌, ◌++◌, length, ℤ, Option, Result, Ok, Err, codes}
use Rattle.std.specs.Str.{bytes_eq}
use Rattle.command_head.specs.declared.fault.HeadFault.{HeadFault}
use Rattle.command_head.specs.Readings.{Refusal, Form, placed}
use Rattle.text_grammar.specs.Results.{◌>>=◌}
use Rattle.command_head.specs.Members.{with_member}
use Rattle.text_grammar.specs.Systems.{is_system}
use Rattle.command_head.specs.Parts.{Part, parts_of, is_name, is_quoted, unquoted}

-- what the tracks of a `reg` are over: a set each, or a system each
pub data Alphabets : Type 0 where
  Sets : List (List ℤ) → Alphabets
  Systems : List (List ℕ) → Alphabets

-- the parts of a `reg`: the name, the tracks, and the text in quotes
pub record RegHead : Type 0 where
  pub name : List ℕ
  pub alphabets : Alphabets
  pub body : List ℕ

-- the parts of a head that is a word, a name and a quoted text: the name, and the text in quotes
pub record NamedHead : Type 0 where
  pub name : List ℕ
  pub body : List ℕ

-- the parts of a `promote`: the new word, and the morphism
pub record PromoteHead : Type 0 where
  pub word : List ℕ
  pub morphism : List ℕ

-- the parts of a head that maps a word: the new word, what maps the letters, and the old word
pub record ImageHead : Type 0 where
  pub word : List ℕ
  pub mapping : List ℕ
  pub old : List ℕ

-- the parts of a `convert`: the new word, its system, and the old word
pub record ConvertHead : Type 0 where
  pub word : List ℕ
  pub system : List ℕ
  pub old : List ℕ

-- a name of an automaton, and the value that follows it, if one does
pub record ValuedName : Type 0 where
  pub name : List ℕ
  pub value : Option ℤ

-- the parts of a `combine`: the word, and the automata in their order
pub record CombineHead : Type 0 where
  pub word : List ℕ
  pub automata : List ValuedName

-- the parts of a head that makes a language of others: the new name, and the names of the others in their order
pub record LanguagesHead : Type 0 where
  pub name : List ℕ
  pub languages : List (List ℕ)

-- the parts of a `test`: the automaton, the number of words, and the place after which they are listed, if one is given
pub record TestHead : Type 0 where
  pub name : List ℕ
  pub count : ℕ
  pub place : Option (List (List ℤ))

-- What was read of a `reg`, by the place in it.
pub data Stage : Type 0 where
  -- before the first word
  AtWord : Stage
  -- before the name
  AtName : Stage
  -- after the name
  AfterName : List ℕ → Stage
  -- in a set, before a number: the name, the sets before, and the members so far
  AtNumber : List ℕ → List (List ℤ) → List ℤ → Stage
  -- in a set, after a number
  AfterNumber : List ℕ → List (List ℤ) → List ℤ → Stage
  -- after a set
  AfterSet : List ℕ → List (List ℤ) → Stage
  -- after a system
  AfterSystem : List ℕ → List (List ℕ) → Stage
  -- after the text in quotes
  AtEnd : RegHead → Stage

-- how many members were read of the set that is open
abbrev pub open_count : Stage → ℕ
open_count (AtNumber name sets members) = length members
open_count (AfterNumber name sets members) = length members
open_count AtWord = 0
open_count AtName = 0
open_count (AfterName name) = 0
open_count (AfterSet name sets) = 0
open_count (AfterSystem name names) = 0
open_count (AtEnd head) = 0

-- a text in quotes, which ends the head
unfoldable pub body_step : List ℕ → Alphabets → List ℕ → Result Stage Refusal
body_step name alphabets part = if is_quoted part then Ok (AtEnd (record { name = name; alphabets = alphabets; body = unquoted part })) else Err Form

-- the stage after a part
unfoldable pub step : Stage → List ℕ → Result Stage Refusal
step AtWord part = if bytes_eq part (codes "reg") then Ok AtName else Err Form
step AtName part = if is_name part then Ok (AfterName part) else Err Form
step (AfterName name) part =
    if bytes_eq part (codes "{") then Ok (AtNumber name [] []) else if is_system part then Ok (AfterSystem name (part ∷ [])) else Err Form
step (AtNumber name sets members) part = do
  more ← with_member members part
  Ok (AfterNumber name sets more)
step (AfterNumber name sets members) part =
    if bytes_eq part (codes ",") then Ok (AtNumber name sets members)
    else if bytes_eq part (codes "}") then Ok (AfterSet name (sets ++ members ∷ [])) else Err Form
step (AfterSet name sets) part = if bytes_eq part (codes "{") then Ok (AtNumber name sets []) else body_step name (Sets sets) part
step (AfterSystem name names) part = if is_system part then Ok (AfterSystem name (names ++ part ∷ [])) else body_step name (Systems names) part
step (AtEnd head) part = Err Form

-- the head, where the text may end
abbrev pub ended : Stage → Result RegHead Refusal
ended (AtEnd head) = Ok head
ended AtWord = Err Form
ended AtName = Err Form
ended (AfterName name) = Err Form
ended (AtNumber name sets members) = Err Form
ended (AfterNumber name sets members) = Err Form
ended (AfterSet name sets) = Err Form
ended (AfterSystem name names) = Err Form

-- the head of the further parts of a text that has `whole` bytes; or the first fault and its byte
unfoldable pub run : ℕ → Stage → List Part → Result RegHead HeadFault
run whole stage [] = placed whole (ended stage)
run whole stage (part ∷ parts) = do
  next ← placed part.at (step stage part.bytes)
  run whole next parts

-- the head of a text
unfoldable pub reg_at : List ℕ → Result RegHead HeadFault
reg_at text = run (length text) AtWord (parts_of text)

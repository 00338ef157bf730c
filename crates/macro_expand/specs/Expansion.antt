-- The expansion of a text, or the first fault that is met from the left.
--
-- A call's arguments are expanded first, one after another, and then its macro's text with them in its places; both
-- may have calls, one level deeper. The calls of a whole expansion are counted in the order in which they are met: the
-- count so far goes into each expansion, and a new one comes out of it.
use Rattle.std.specs.Prelude.{ℕ, zero, suc, ◌+◌, nat_le, if◌then◌else◌, List, [], ◌∷◌, ◌++◌, length, Option, None, Some, Result, Ok, Err}
use Rattle.text_grammar.specs.Results.{◌>>=◌}
use Rattle.macro_expand.specs.declared.fault.MacroFault.{MacroFault}
use Rattle.macro_expand.specs.declared.fault.MacroFault.TheVariants as faults
use Rattle.macro_expand.specs.Texts.{TextOf}
use Rattle.macro_expand.specs.Calls.{Call}
use Rattle.macro_expand.specs.Pieces.{Piece, byte, call, stray, pieces}
use Rattle.macro_expand.specs.Arguments.{arguments_of}
use Rattle.macro_expand.specs.Filling.{Segment, segments, missing, filled}

-- the bytes that were made, and how many calls were met in the whole expansion
pub record Expanded : Type 0 where
  pub bytes : List ℕ
  pub calls : ℕ

-- the arguments that were expanded, and how many calls were met in the whole expansion
pub record Given : Type 0 where
  pub texts : List (List ℕ)
  pub calls : ℕ

-- some items one after another, each of which changes what was made so far or meets the first fault
abbrev pub each : {X D : Type 0} → (X → D → Result D MacroFault) → List X → D → Result D MacroFault
each step [] done = Ok done
each step (x ∷ xs) done = step x done >>= each step xs

-- a text, unless it has more than 65,536 bytes
abbrev pub limited : List ℕ → Result (List ℕ) MacroFault
limited bytes = if nat_le (length bytes) 65536 then Ok bytes else Err faults.MacroLong

-- what was expanded so far, and more bytes after it
abbrev pub put : List ℕ → List ℕ → ℕ → Result Expanded MacroFault
put done bytes calls = limited (done ++ bytes) >>= λ all. Ok (record { bytes = all; calls = calls })

-- what each call expands to, where some calls were met before it
abbrev pub OfCalls : Type 0
OfCalls = Call → ℕ → Result Expanded MacroFault

-- what each text expands to, where some calls were met before it
abbrev pub OfTexts : Type 0
OfTexts = List ℕ → ℕ → Result Expanded MacroFault

-- what was expanded so far with a piece more
abbrev pub expand_piece : OfCalls → Piece → Expanded → Result Expanded MacroFault
expand_piece of_call (byte b) done = put done.bytes (b ∷ []) done.calls
expand_piece of_call (call c) done = of_call c done.calls >>= λ new. put done.bytes new.bytes new.calls
expand_piece of_call (stray at) done = Err (faults.Syntax at)

-- the expansion of a text whose calls expand so
abbrev pub expand_text : OfCalls → OfTexts
expand_text of_call text calls = each (expand_piece of_call) (pieces text) (record { bytes = []; calls = calls })

-- the arguments that were expanded so far with one more, where texts expand so
abbrev pub expand_argument : OfTexts → List ℕ → Given → Result Given MacroFault
expand_argument of_text text done =
    of_text text done.calls >>= λ new. Ok (record { texts = done.texts ++ new.bytes ∷ []; calls = new.calls })

-- some arguments, where texts expand so
abbrev pub expand_arguments : OfTexts → List (List ℕ) → ℕ → Result Given MacroFault
expand_arguments of_text texts calls = each (expand_argument of_text) texts (record { texts = []; calls = calls })

-- a text with arguments in its places, unless it has a place without an argument
abbrev pub with_arguments : List ℕ → List (List ℕ) → List Segment → Option ℕ → Result (List ℕ) MacroFault
with_arguments name arguments all (Some n) = Err (faults.MacroArgs name n (length arguments))
with_arguments name arguments all None = limited (filled arguments all)

-- a macro's text with arguments in its places, if there is one
abbrev pub filled_text : List ℕ → List (List ℕ) → Option (List ℕ) → Result (List ℕ) MacroFault
filled_text name arguments None = Err (faults.Unknown name)
filled_text name arguments (Some text) = with_arguments name arguments (segments text) (missing (length arguments) (segments text))

-- what a call expands to, where texts one level deeper expand so
abbrev pub expand_call : TextOf → OfTexts → OfCalls
expand_call macros of_text c calls =
    if nat_le 65536 calls then Err faults.MacroLong
    else (expand_arguments of_text (arguments_of c.inside) (calls + 1) >>= λ given.
    filled_text c.name given.texts (macros c.name) >>= λ text.
    of_text text given.calls)

-- what a call expands to, where it and the calls in it may be on so many levels
unfoldable pub expand_call_within : TextOf → ℕ → OfCalls
expand_call_within macros zero = λ c calls. Err (faults.MacroDepth c.name)
expand_call_within macros (suc levels) = expand_call macros (expand_text (expand_call_within macros levels))

-- the bytes that were made
abbrev pub bytes_of : Result Expanded MacroFault → Result (List ℕ) MacroFault
bytes_of result = result >>= λ all. Ok all.bytes

-- the expansion of a text, whose calls may be on 16 levels
abbrev pub expansion : TextOf → List ℕ → Result (List ℕ) MacroFault
expansion macros text = bytes_of (expand_text (expand_call_within macros 16) text 0)

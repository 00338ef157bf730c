-- The lines of steps, of verdicts and of refused commands.
use Rattle.std.specs.Prelude.{ℕ, suc, ℤ, Bool, true, false, List, [], ◌∷◌, ◌++◌, Option, None, Some, codes, decimal}
use Rattle.std.specs.Fmt.{signed_decimal}
use Rattle.std.specs.List.{flat_map}
use Rattle.digit_tuple.specs.Kinds.{kind_name}
use Rattle.digit_tuple.specs.declared.steps.StepLine.{StepLine}
use Rattle.wal_outside.specs.Folders.{folder_text}
use Rattle.adder_check.specs.declared.admit_fault.Law.{Law}
use Rattle.adder_check.specs.declared.admit_fault.Law.TheVariants as laws
use Rattle.dfa_loading.specs.declared.fault.FileFlaw.{FileFlaw}
use Rattle.dfa_loading.specs.declared.fault.FileFlaw.TheVariants as flaws
use Rattle.morph_words.specs.declared.morphism_kind.MorphismKind.{MorphismKind}
use Rattle.morph_words.specs.declared.morphism_kind.MorphismKind.TheVariants as kinds
use Rattle.command_parts.specs.declared.text_refusal.Grammar.{Grammar}
use Rattle.command_parts.specs.declared.text_refusal.Grammar.TheVariants as grammars
use Rattle.command_parts.specs.declared.text_refusal.TextRefusal.{TextRefusal}
use Rattle.command_parts.specs.declared.text_refusal.TextRefusal.TheVariants as text_refusals
use Rattle.command_parts.specs.declared.file_refusal.FileRefusal.{FileRefusal}
use Rattle.command_parts.specs.declared.file_refusal.FileRefusal.TheVariants as file_refusals
use Rattle.command_parts.specs.declared.system_refusal.SystemRefusal.{SystemRefusal}
use Rattle.command_parts.specs.declared.system_refusal.SystemRefusal.TheVariants as system_refusals
use Rattle.command_parts.specs.declared.step_refusal.StepRefusal.{StepRefusal}
use Rattle.command_parts.specs.declared.step_refusal.StepRefusal.TheVariants as step_refusals
use Rattle.command_parts.specs.declared.shape_refusal.ShapeRefusal.{ShapeRefusal}
use Rattle.command_parts.specs.declared.shape_refusal.ShapeRefusal.TheVariants as shape_refusals
use Rattle.command_parts.specs.declared.word_refusal.WordRefusal.{WordRefusal}
use Rattle.command_parts.specs.declared.word_refusal.WordRefusal.TheVariants as word_refusals
use Rattle.command_parts.specs.declared.refusal.Refusal.{Refusal}
use Rattle.command_parts.specs.declared.refusal.Refusal.TheVariants as refusals
use Rattle.command_parts.specs.declared.fault.Fault.{Fault}
use Rattle.command_parts.specs.declared.fault.Fault.TheVariants as faults
use Rattle.command_parts.specs.Accepting.{Success, Said, Accepted, Storing, Saying}

-- the line of a step with its number: its kind, its width, and the number of states of its result
abbrev pub step_line : ℕ → StepLine → List ℕ
step_line number step = ((codes "step " ++ decimal number) ++ (codes " " ++ kind_name step.kind)) ++ ((codes " " ++ decimal step.width) ++ ((codes " " ++ decimal step.size) ++ codes "\n"))

-- the lines of steps, counted from a number on
abbrev pub step_lines : ℕ → List StepLine → List ℕ
step_lines number [] = []
step_lines number (step ∷ steps) = step_line number step ++ step_lines (suc number) steps

-- what is printed of steps: their lines, where they are shown
abbrev pub shown_steps : Bool → List StepLine → List ℕ
shown_steps true steps = step_lines 1 steps
shown_steps false steps = []

-- what is printed of a verdict
abbrev pub verdict_line : Option Bool → List ℕ
verdict_line None = []
verdict_line (Some true) = codes "TRUE\n"
verdict_line (Some false) = codes "FALSE\n"

-- what is printed of a command that stores, and of one that says something
abbrev pub success_text : Bool → Success → List ℕ
success_text shown success = shown_steps shown success.lines ++ verdict_line success.verdict

abbrev pub said_text : Bool → Said → List ℕ
said_text shown said = shown_steps shown said.lines ++ said.text

-- what is printed of an accepted command
abbrev pub accepted_text : Bool → Accepted → List ℕ
accepted_text shown (Storing success) = success_text shown success
accepted_text shown (Saying said) = said_text shown said

abbrev pub grammar_name : Grammar → List ℕ
grammar_name grammars.Command = codes "command"
grammar_name grammars.Regex = codes "regex"
grammar_name grammars.Macro = codes "macro"
grammar_name grammars.Formula = codes "formula"
grammar_name grammars.Rules = codes "rules"

-- what is wrong with a file: a line of it, or that it is too long
abbrev pub flaw_text : FileFlaw → List ℕ
flaw_text (flaws.Line at) = codes " line " ++ decimal at
flaw_text flaws.TooLong = codes " too long"

-- the law of a numeration system or of its adder
abbrev pub law_name : Law → List ℕ
law_name laws.NoZero = codes "NoZero"
law_name laws.Endless = codes "Finite"
law_name laws.ZeroLaw = codes "ZeroLaw"
law_name laws.SuccessorLaw = codes "SuccessorLaw"

-- why no word is made of a morphism, and the letter that decides
abbrev pub refusal_name : MorphismKind → List ℕ
refusal_name (kinds.NotUniform letter) = codes "NotUniform"
refusal_name (kinds.Length letter) = codes "Length"
refusal_name (kinds.NotClosed letter) = codes "NotClosed"
refusal_name (kinds.NotFixed letter) = codes "NotFixed"

abbrev pub refusal_letter : MorphismKind → ℤ
refusal_letter (kinds.NotUniform letter) = letter
refusal_letter (kinds.Length letter) = letter
refusal_letter (kinds.NotClosed letter) = letter
refusal_letter (kinds.NotFixed letter) = letter

-- names, a blank before each
abbrev pub names_text : List (List ℕ) → List ℕ
names_text names = flat_map (λ name. codes " " ++ name) names

-- the number, name and kept values of a refused text
abbrev pub text_detail : TextRefusal → List ℕ
text_detail text_refusals.Command = codes ": F01 Command"
text_detail (text_refusals.Syntax grammar at) = (codes ": F02 Syntax in " ++ grammar_name grammar) ++ (codes " at " ++ decimal at)
text_detail (text_refusals.MixedChain at) = codes ": F03 MixedChain at " ++ decimal at
text_detail (text_refusals.Number grammar at) = (codes ": F04 Number in " ++ grammar_name grammar) ++ (codes " at " ++ decimal at)
text_detail (text_refusals.NotLinear at) = codes ": F05 NotLinear at " ++ decimal at
text_detail (text_refusals.Depth grammar at) = (codes ": F06 Depth in " ++ grammar_name grammar) ++ (codes " at " ++ decimal at)
text_detail (text_refusals.Long bytes) = codes ": F07 Long " ++ decimal bytes
text_detail (text_refusals.MacroArgs name place given) = ((codes ": F08 MacroArgs " ++ name) ++ (codes " " ++ decimal place)) ++ (codes " " ++ decimal given)
text_detail (text_refusals.MacroDepth name) = codes ": F09 MacroDepth " ++ name
text_detail text_refusals.MacroLong = codes ": F10 MacroLong 65536"

-- of a refused file or script
abbrev pub file_detail : FileRefusal → List ℕ
file_detail (file_refusals.Unknown folder name) = (codes ": F11 Unknown " ++ folder_text folder) ++ (codes "/" ++ name)
file_detail (file_refusals.File folder name flaw) = ((codes ": F12 File " ++ folder_text folder) ++ (codes "/" ++ name)) ++ flaw_text flaw
file_detail (file_refusals.LoadDepth name) = codes ": F25 LoadDepth " ++ name
file_detail file_refusals.ScriptLimit = codes ": F28 ScriptLimit"

-- of refused systems
abbrev pub system_detail : SystemRefusal → List ℕ
system_detail (system_refusals.SystemUnknown name) = codes ": F14 SystemUnknown " ++ name
system_detail (system_refusals.NotAdmitted name law) = (codes ": F15 NotAdmitted " ++ name) ++ (codes " " ++ law_name law)
system_detail (system_refusals.Clash name first other) = ((codes ": F16 Clash " ++ name) ++ (codes " " ++ first)) ++ (codes " " ++ other)
system_detail (system_refusals.Direction first other) = (codes ": F17 Direction " ++ first) ++ (codes " " ++ other)

-- of a refused step
abbrev pub step_detail : StepRefusal → List ℕ
step_detail (step_refusals.Letters step) = codes ": F18 Letters step " ++ decimal step
step_detail (step_refusals.States step) = codes ": F19 States step " ++ decimal step

-- of a refused automaton or word
abbrev pub shape_detail : ShapeRefusal → List ℕ
shape_detail (shape_refusals.Arity name tracks given) = ((codes ": F13 Arity " ++ name) ++ (codes " " ++ decimal tracks)) ++ (codes " " ++ decimal given)
shape_detail (shape_refusals.Plain name) = codes ": F21 Plain " ++ name
shape_detail (shape_refusals.CombineShape first other) = (codes ": F24 CombineShape " ++ first) ++ (codes " " ++ other)
shape_detail (shape_refusals.NotPlain name) = codes ": F29 NotPlain " ++ name
shape_detail (shape_refusals.LangShape first other) = (codes ": F30 LangShape " ++ first) ++ (codes " " ++ other)
shape_detail (shape_refusals.Place name) = codes ": F32 Place " ++ name
shape_detail (shape_refusals.BaseNeeded name systems) = (codes ": F33 BaseNeeded " ++ name) ++ names_text systems
shape_detail (shape_refusals.NotRelated first other) = (codes ": F34 NotRelated " ++ first) ++ (codes " " ++ other)

-- of refused letters or words
abbrev pub word_detail : WordRefusal → List ℕ
word_detail (word_refusals.Morphism kind) = (codes ": F22 Morphism " ++ refusal_name kind) ++ (codes " " ++ signed_decimal (refusal_letter kind))
word_detail (word_refusals.LetterMissing letter) = codes ": F23 LetterMissing " ++ signed_decimal letter
word_detail word_refusals.TestLong = codes ": F31 TestLong 16777216"

-- of a cause for which a command is refused
abbrev pub refusal_detail : Refusal → List ℕ
refusal_detail (refusals.Text refusal) = text_detail refusal
refusal_detail (refusals.File refusal) = file_detail refusal
refusal_detail (refusals.System refusal) = system_detail refusal
refusal_detail (refusals.Step refusal) = step_detail refusal
refusal_detail (refusals.Shape refusal) = shape_detail refusal
refusal_detail (refusals.Word refusal) = word_detail refusal

-- of a fault
abbrev pub detail : Fault → List ℕ
detail (faults.Refused refusal) = refusal_detail refusal
detail (faults.Store folder name) = (codes ": F26 Store " ++ folder_text folder) ++ (codes "/" ++ name)
detail faults.Memory = codes ": F27 Memory"

-- the line of a command that begins on a line and is refused by a fault
abbrev pub fault_line : ℕ → Fault → List ℕ
fault_line line fault = (codes "error " ++ decimal line) ++ (detail fault ++ codes "\n")

-- The fault of an expression, as a command's.
use Rattle.regex_build.specs.declared.fault.RegexFault.TheVariants as regexes
use Rattle.command_parts.specs.declared.text_refusal.Grammar.TheVariants as grammars
use Rattle.command_parts.specs.declared.text_refusal.TextRefusal.TheVariants as text_refusals
use Rattle.command_parts.specs.declared.refusal.Refusal.TheVariants as refusals
use Rattle.command_parts.specs.declared.fault.Fault.{Fault}
use Rattle.command_parts.specs.declared.fault.Fault.TheVariants as faults
use Rattle.definitions.specs.Trees.{Regex}
use Rattle.regex_build.specs.declared.fault.RegexFault.{RegexFault}

-- the fault of an expression, as a command's
abbrev pub fault_of_regex : RegexFault → Fault
fault_of_regex (regexes.Syntax at) = faults.Refused (refusals.Text (text_refusals.Syntax grammars.Regex at))
fault_of_regex (regexes.Number at) = faults.Refused (refusals.Text (text_refusals.Number grammars.Regex at))
fault_of_regex (regexes.Depth at) = faults.Refused (refusals.Text (text_refusals.Depth grammars.Regex at))
fault_of_regex regexes.Memory = faults.Memory

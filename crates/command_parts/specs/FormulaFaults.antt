-- The faults of formulas, of the macros that they call and of the files that they name, as a command's.
use Rattle.dfa_loading.specs.declared.fault.LoadFault.{LoadFault}
use Rattle.dfa_loading.specs.declared.fault.LoadFault.TheVariants as loads
use Rattle.formula_parse.specs.declared.fault.ParseFault.{ParseFault}
use Rattle.formula_parse.specs.declared.fault.ParseFault.TheVariants as parses
use Rattle.formula_resolve.specs.declared.fault.ResolveFault.{ResolveFault}
use Rattle.formula_resolve.specs.declared.fault.ResolveFault.TheVariants as resolves
use Rattle.macro_loading.specs.declared.fault.ExpansionFault.{ExpansionFault}
use Rattle.macro_loading.specs.declared.fault.ExpansionFault.TheVariants as expansions
use Rattle.command_parts.specs.declared.text_refusal.Grammar.TheVariants as grammars
use Rattle.command_parts.specs.declared.text_refusal.TextRefusal.TheVariants as text_refusals
use Rattle.command_parts.specs.declared.file_refusal.FileRefusal.TheVariants as file_refusals
use Rattle.command_parts.specs.declared.system_refusal.SystemRefusal.TheVariants as system_refusals
use Rattle.command_parts.specs.declared.shape_refusal.ShapeRefusal.TheVariants as shape_refusals
use Rattle.command_parts.specs.declared.refusal.Refusal.TheVariants as refusals
use Rattle.command_parts.specs.declared.fault.Fault.{Fault}
use Rattle.command_parts.specs.declared.fault.Fault.TheVariants as faults

abbrev pub fault_of_formula : ParseFault → Fault
fault_of_formula (parses.Syntax at) = faults.Refused (refusals.Text (text_refusals.Syntax grammars.Formula at))
fault_of_formula (parses.Number at) = faults.Refused (refusals.Text (text_refusals.Number grammars.Formula at))
fault_of_formula (parses.Depth at) = faults.Refused (refusals.Text (text_refusals.Depth grammars.Formula at))
fault_of_formula (parses.MixedChain at) = faults.Refused (refusals.Text (text_refusals.MixedChain at))
fault_of_formula (parses.NotLinear at) = faults.Refused (refusals.Text (text_refusals.NotLinear at))
fault_of_formula parses.Memory = faults.Memory

abbrev pub fault_of_resolution : ResolveFault → Fault
fault_of_resolution (resolves.Plain name) = faults.Refused (refusals.Shape (shape_refusals.Plain name))
fault_of_resolution (resolves.Arity name tracks given) = faults.Refused (refusals.Shape (shape_refusals.Arity name tracks given))
fault_of_resolution (resolves.Clash name first other) = faults.Refused (refusals.System (system_refusals.Clash name first other))
fault_of_resolution (resolves.Direction first other) = faults.Refused (refusals.System (system_refusals.Direction first other))
fault_of_resolution resolves.Memory = faults.Memory

abbrev pub fault_of_loading : LoadFault → Fault
fault_of_loading (loads.Unknown folder name) = faults.Refused (refusals.File (file_refusals.Unknown folder name))
fault_of_loading (loads.File folder name flaw) = faults.Refused (refusals.File (file_refusals.File folder name flaw))
fault_of_loading (loads.Store folder name) = faults.Store folder name
fault_of_loading loads.Memory = faults.Memory

abbrev pub fault_of_expansion : ExpansionFault → Fault
fault_of_expansion (expansions.Syntax at) = faults.Refused (refusals.Text (text_refusals.Syntax grammars.Macro at))
fault_of_expansion (expansions.MacroArgs name place given) = faults.Refused (refusals.Text (text_refusals.MacroArgs name place given))
fault_of_expansion (expansions.MacroDepth name) = faults.Refused (refusals.Text (text_refusals.MacroDepth name))
fault_of_expansion expansions.MacroLong = faults.Refused (refusals.Text text_refusals.MacroLong)
fault_of_expansion (expansions.Load fault) = fault_of_loading fault

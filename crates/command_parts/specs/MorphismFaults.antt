-- The faults of morphisms, as a command's.
use Rattle.fixed_points.specs.declared.promote_fault.PromoteFault.{PromoteFault}
use Rattle.fixed_points.specs.declared.promote_fault.PromoteFault.TheVariants as promotes
use Rattle.morph_words.specs.declared.fault.RulesFault.{RulesFault}
use Rattle.morph_words.specs.declared.fault.RulesFault.TheVariants as rules
use Rattle.command_parts.specs.declared.text_refusal.Grammar.TheVariants as grammars
use Rattle.command_parts.specs.declared.text_refusal.TextRefusal.TheVariants as text_refusals
use Rattle.command_parts.specs.declared.word_refusal.WordRefusal.TheVariants as word_refusals
use Rattle.command_parts.specs.declared.refusal.Refusal.TheVariants as refusals
use Rattle.command_parts.specs.declared.fault.Fault.{Fault}
use Rattle.command_parts.specs.declared.fault.Fault.TheVariants as faults
use Rattle.command_parts.specs.TrackSystems.{fault_of}

-- of rules in quotes
abbrev pub fault_of_rules : RulesFault → Fault
fault_of_rules (rules.Syntax at) = faults.Refused (refusals.Text (text_refusals.Syntax grammars.Rules at))
fault_of_rules (rules.Number at) = faults.Refused (refusals.Text (text_refusals.Number grammars.Rules at))
fault_of_rules rules.Memory = faults.Memory

-- of a morphism of which no word is made
abbrev pub fault_of_promotion : PromoteFault → Fault
fault_of_promotion (promotes.Morphism kind) = faults.Refused (refusals.Word (word_refusals.Morphism kind))
fault_of_promotion (promotes.Step fault) = fault_of fault

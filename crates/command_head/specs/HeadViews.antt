-- What values mean, without where they lie in memory.
use Rattle.std.specs.Prelude.{ℕ, List, map}
use Rattle.command_head.specs.declared.head.Alphabets.{Alphabets}
use Rattle.command_head.specs.declared.head.Alphabets.TheVariants as alphabets
use Rattle.command_head.specs.declared.head.RegParts.{RegParts}
use Rattle.command_head.specs.declared.head.NamedParts.{NamedParts}
use Rattle.command_head.specs.declared.head.PromoteParts.{PromoteParts}
use Rattle.command_head.specs.declared.head.ImageParts.{ImageParts}
use Rattle.command_head.specs.declared.head.ConvertParts.{ConvertParts}
use Rattle.command_head.specs.declared.head.ValuedName as valued
use Rattle.command_head.specs.declared.head.CombineParts.{CombineParts}
use Rattle.command_head.specs.declared.head.LanguagesParts.{LanguagesParts}
use Rattle.command_head.specs.declared.head.TestParts.{TestParts}
use Rattle.command_head.specs.declared.combining.ValueText.{ValueText}
use Rattle.command_head.specs.declared.combining.ValueText.TheVariants as values
use Rattle.command_head.specs.declared.stage.Stage.{Stage}
use Rattle.command_head.specs.declared.stage.Stage.TheVariants as stages
use Rattle.command_head.specs.Values.{IsValueText, IsLongValue}
use Rattle.command_head.specs.Grammar.{DerivesValue}
use Rattle.command_head.specs.Heads as heads
use Rattle.command_head.specs.Heads.{RegHead, NamedHead, PromoteHead, ImageHead, ConvertHead, ValuedName, CombineHead, LanguagesHead, TestHead, Sets, Systems}

abbrev pub alphabets_of : Alphabets → heads.Alphabets
alphabets_of (alphabets.Sets sets) = Sets sets
alphabets_of (alphabets.Systems names) = Systems names.items

abbrev pub head_view : RegParts → RegHead
head_view parts = record { name = parts.name; alphabets = alphabets_of parts.alphabets; body = parts.body.now }

abbrev pub named_view : NamedParts → NamedHead
named_view parts = record { name = parts.name; body = parts.body.now }

abbrev pub promote_view : PromoteParts → PromoteHead
promote_view parts = record { word = parts.word; morphism = parts.morphism }

abbrev pub image_view : ImageParts → ImageHead
image_view parts = record { word = parts.word; mapping = parts.mapping; old = parts.old }

abbrev pub convert_view : ConvertParts → ConvertHead
convert_view parts = record { word = parts.word; system = parts.system; old = parts.old }

abbrev pub test_view : TestParts → TestHead
test_view parts = record { name = parts.name; count = parts.count; place = parts.place }

abbrev pub valued_view : valued.ValuedName → ValuedName
valued_view name = record { name = name.name; value = name.value }

-- what follows a name is a value, or `=` and a number that does not fit, or neither
abbrev pub IsReadAs : List ℕ → ValueText → Type 0
IsReadAs suffix (values.Given value) = DerivesValue suffix value
IsReadAs suffix values.Long = IsLongValue suffix
IsReadAs suffix values.Other = IsValueText suffix → ⊥

abbrev pub combine_view : CombineParts → CombineHead
combine_view parts = record { word = parts.word; automata = map valued_view parts.automata.items }

abbrev pub languages_view : LanguagesParts → LanguagesHead
languages_view parts = record { name = parts.name; languages = parts.languages.items }

abbrev pub stage_view : Stage → heads.Stage
stage_view stages.AtWord = heads.AtWord
stage_view stages.AtName = heads.AtName
stage_view (stages.AfterName name) = heads.AfterName name
stage_view (stages.AtNumber set) = heads.AtNumber set.name set.sets set.members.keys
stage_view (stages.AfterNumber set) = heads.AfterNumber set.name set.sets set.members.keys
stage_view (stages.AfterSet name sets) = heads.AfterSet name sets
stage_view (stages.AfterSystem name names) = heads.AfterSystem name names.items
stage_view (stages.AtEnd parts) = heads.AtEnd (head_view parts)

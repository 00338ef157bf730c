use Rattle.std.proofs.Common.{refl}
use Rattle.macro_expand.proofs.MapSteps.{text_there, text_absent}
use Rattle.macro_expand.proofs.macros.Macros.text_of.Goals as goal

pub returns-in-Some : goal.returns-in-Some
returns-in-Some c = text_there c.self.inside.texts.entries c.args.self.now c.args.name.now c.get.result c.self.view_is c.get.ensures.value c.in-Some.text c.as_slice.result.now c.in-Some.is c.as_slice.ensures.value

pub returns-in-None : goal.returns-in-None
returns-in-None c = text_absent c.self.inside.texts.entries c.args.self.now c.args.name.now c.get.result c.self.view_is c.get.ensures.value _ c.in-None.is refl

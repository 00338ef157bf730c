-- A group is opened.
use Rattle.std.proofs.Common.{arith}
use Rattle.regex_build.proofs.ReadingSteps.{opens}
use Rattle.regex_build.proofs.reading.Reading.open.Goals as goal

pub returns : goal.returns
returns c = λ sets. opens sets c.args.self.now c.push.new.self c.fresh-self.result c.in_ok-push.ensures.items c.fresh-self.ensures (omega arith)

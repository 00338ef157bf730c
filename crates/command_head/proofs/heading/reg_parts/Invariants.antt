use Rattle.std.proofs.Common.{length}
use Rattle.command_head.specs.HeadViews.{stage_view}
use Rattle.command_head.proofs.HeadShape.{IsLeft}
use Rattle.command_head.proofs.heading.reg_parts.Given as goal

-- what the parts that are left lead to is what is read of the whole
abbrev pub invariant-parts : goal.invariant-parts
invariant-parts l = IsLeft l.text (stage_view l.stage) l.rest.whole l.rest.blank l.rest.bytes.now

abbrev pub decreases-parts : goal.decreases-parts
decreases-parts l = length l.rest.bytes.now

use Rattle.std.specs.Rc.{rc_value}
use Rattle.word_commands.proofs.convert.word_over.Goals as goal

pub returns-clause-letters : goal.returns-clause-letters
returns-clause-letters c =
    c.conversions_keep_letters.ensures c.args.steps.now c.convert.new.steps c.args.word.now c.in_ok-made.made (rc_value c.args.target.now.system) c.args.target.now.common c.systems.ensures.word c.systems-2.ensures.word c.requires c.in_ok-made.ensures

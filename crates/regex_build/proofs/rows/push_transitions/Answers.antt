-- One letter more.
use Rattle.std.proofs.Common.{◌<◌, inl, inr, refl, arith}
use Rattle.regex_build.proofs.RowSteps.{transitions_none, transitions_more, transitions_whole}
use Rattle.regex_build.proofs.rows.push_transitions.Goals as goal

pub loop-letter-init : goal.loop-letter-init
loop-letter-init c = record { within = inl refl; transitions = λ x. transitions_none c.args.transitions.now.items c.args.place c.args.range.first x }

pub loop-letter-preserved : goal.loop-letter-preserved
loop-letter-preserved c = record {
  within = inr (let l : c.loop-letter.letter < c.args.range.end = c.loop-letter-test.true in omega arith);
  transitions = λ x. transitions_more c.args.transitions.now.items c.loop-letter.transitions.items c.push.new.self.items c.args.place c.args.range.first c.loop-letter.letter c.loop-letter.auto.letter c.loop-letter.invariant.transitions c.in_ok-push.ensures.items x;
}

pub returns : goal.returns
returns c x =
    transitions_whole c.args.transitions.now.items c.loop-letter.transitions.items c.args.place c.args.range.first c.loop-letter.letter c.args.range.end c.loop-letter-test.false c.loop-letter.auto.letter c.loop-letter.invariant.within c.loop-letter.invariant.transitions x

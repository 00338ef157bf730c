use Rattle.std.proofs.Common.{None, Some, sym, ◌∙◌, subst, arith}
use Rattle.std.proofs.lemmas.List.{get_or_default}
use Rattle.word_output.proofs.StateLetterLemmas.{AreClassesTo, AreClassesTo-none, AreClassesTo-more, AreClassesTo-all}
use Rattle.word_output.proofs.state_letters.classes_of.Goals as goal

pub class_in-requires-clause-there : goal.class_in-requires-clause-there
class_in-requires-clause-there c b is =
    let at = c.loop-letter.letter-index in
    (c.requires.letters.members b).1 (at, c.loop-letter-test.true, sym (get_or_default c.args.letters.now at None (Some b) c.loop-letter-test.true) ∙ is)

pub loop-letter-init : goal.loop-letter-init
loop-letter-init c = subst (λ cs. AreClassesTo c.args.letters.now c.args.found.now cs 0) (sym c.in_ok-classes.ensures.items) (AreClassesTo-none c.args.letters.now c.args.found.now)

pub loop-letter-preserved : goal.loop-letter-preserved
loop-letter-preserved c =
    AreClassesTo-more c.args.letters.now c.args.found.now c.loop-letter.classes.items c.push.new.self.items c.loop-letter.letter-index c.class_in.result c.loop-letter.invariant c.in_ok-push.ensures.items c.class_in.ensures.within c.class_in.ensures.class

pub returns-clause-count : goal.returns-clause-count
returns-clause-count c = omega (arith, c.loop-letter.invariant.count_is, c.loop-letter-test.false, c.loop-letter.auto.letter-index-end)

pub returns-clause-classes : goal.returns-clause-classes
returns-clause-classes c = AreClassesTo-all c.args.letters.now c.args.found.now c.loop-letter.classes.items c.loop-letter.letter-index c.loop-letter-test.false c.loop-letter.invariant c.loop-letter.auto.letter-index-end

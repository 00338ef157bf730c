use Rattle.std.proofs.Common.{ℕ, List, [], ap, sym, subst, ◌∙◌, arith}
use Rattle.base_change.specs.GroupKeys.{IsGroupKey, key_letter}
use Rattle.word_output.proofs.StateLetterLemmas.{letters_more}
use Rattle.base_change.proofs.key_letters.key_letters.Goals as goal

pub key_letter-requires : goal.key_letter-requires
key_letter-requires c =
    let groups = c.requires in (
      groups.0,
      groups.1,
      groups.2,
      subst (λ (key : List ℕ). IsGroupKey c.args.function.now.automaton c.args.root groups.0 key) (sym c.key.ensures) (groups.3 c.loop-number.number [] (omega (arith, c.loop-number-test.true, c.len-number-end.ensures.len))),
    )

pub loop-number-preserved : goal.loop-number-preserved
loop-number-preserved c =
    letters_more (key_letter c.args.function.now c.args.root) c.args.keys.now c.loop-number.number c.push.new.self.items c.loop-number.letters.items c.key_letter.result
    (omega (arith, c.loop-number-test.true, c.len-number-end.ensures.len)) c.in_ok-push.ensures.items c.loop-number.invariant
    (c.key_letter.ensures ∙ ap (key_letter c.args.function.now c.args.root) c.key.ensures)

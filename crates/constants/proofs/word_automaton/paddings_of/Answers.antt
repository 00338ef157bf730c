use Rattle.std.proofs.Common.{◌≡◌, List, ℕ, sym, ◌∙◌, subst, ◌↔◌, IsTrue}
use Rattle.std.proofs.lemmas.Result.{IfOk-weaker}
use Rattle.digit_tuple.specs.Deterministic.{Automaton, accepts_of}
use Rattle.digit_tuple.specs.Paddings.{in_order, without_zeros}
use Rattle.constants.specs.WordPaths.{IsPaddingPath}
use Rattle.constants.proofs.PathRuns.{accepts_of-path}
use Rattle.constants.proofs.WordPathLemmas.{padding_path}
use Rattle.constants.proofs.word_automaton.paddings_of.Goals as goal

pub returns-clause-paddings : goal.returns-clause-paddings
returns-clause-paddings c =
    let direction = c.args.direction in
    let word = c.args.word.now in
    let path = padding_path direction word c.deref.result.now c.padding_state-padded.result c.len.result c.in_ok-builder.builder c.set.new.self c.requires.plain
    (c.deref.ensures.value ∙ c.in_ok-letters.ensures) (c.len.ensures ∙ sym c.deref.ensures.len) c.in_ok-builder.ensures.path c.padding_state-padded.ensures c.in_ok-set.ensures.set in
    IfOk-weaker c.finish.result _ _
    (λ dfa is. subst (λ (d : Automaton). (w : List ℕ) → IsTrue (accepts_of d w) ↔ (without_zeros (in_order direction w) ≡ word)) (sym is) (accepts_of-path direction word c.set.new.self c.requires.plain path))
    c.finish.ensures

pub returns-clause-path : goal.returns-clause-path
returns-clause-path c =
    let direction = c.args.direction in
    let word = c.args.word.now in
    let path = padding_path direction word c.deref.result.now c.padding_state-padded.result c.len.result c.in_ok-builder.builder c.set.new.self c.requires.plain
    (c.deref.ensures.value ∙ c.in_ok-letters.ensures) (c.len.ensures ∙ sym c.deref.ensures.len) c.in_ok-builder.ensures.path c.padding_state-padded.ensures c.in_ok-set.ensures.set in
    IfOk-weaker c.finish.result _ _ (λ dfa is. subst (IsPaddingPath direction word) (sym is) path) c.finish.ensures

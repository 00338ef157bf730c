use Rattle.std.proofs.Common.{[], ◌∷◌, ap, ◌∙◌}
use Rattle.word_commands.proofs.NamedWords.{headers_more, words_more}
use Rattle.word_images.proofs.TreeLemmas.{pushed_first}
use Rattle.word_commands.proofs.setting.Setting.new.Goals as goal

pub loop-place-preserved : goal.loop-place-preserved
loop-place-preserved c = record {
  headers = headers_more c.args.system.now c.loop-place.place c.loop-place.headers c.add_word.new.self c.in_ok-name.name c.deref.result.now c.in_ok-add_word.ensures.ok c.loop-place.invariant.headers c.in_ok-name.ensures
      (c.deref.ensures.value ∙ pushed_first c.new-tracks.result.items c.push.new.self.items _ c.new-tracks.ensures.items c.in_ok-push.ensures.items ∙ ap (λ name. name ∷ []) c.in_ok-copy.ensures);
  relations = ap (λ l. l.relations) c.in_ok-add_word-2.ensures.ok ∙ c.loop-place.invariant.relations;
  words = words_more c.args.morphism.now c.args.word.now c.loop-place.place c.loop-place.words.words c.add_word-in-loop-place.new.self.words c.in_ok-name.name c.in_ok-new.field-0.value c.in_ok-recoded.recoded (ap (λ l. l.words) c.in_ok-add_word-2.ensures.ok) c.in_ok-name.ensures c.in_ok-new.ensures.ok
      c.loop-place.invariant.words c.in_ok-recoded.ensures;
}

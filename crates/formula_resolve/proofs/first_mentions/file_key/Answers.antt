use Rattle.std.proofs.Common.{◌∷◌, [], sym, ap, ◌∙◌, arith}
use Rattle.std.proofs.lemmas.List.{take_all}
use Rattle.formula_resolve.specs.FirstMentions.{file_key}
use Rattle.formula_resolve.proofs.ListLemmas.{taken_then}
use Rattle.formula_resolve.proofs.first_mentions.file_key.Goals as goal
use Rattle.formula_resolve.proofs.first_mentions.file_key.Goals.{in-Automaton, in-Word}

pub loop-byte-preserved : goal.loop-byte-preserved
loop-byte-preserved c =
    taken_then c.push-in-loop-byte.new.self.items c.loop-byte.key.items (c.match-file.folder.0 ∷ []) c.as_bytes-byte-items.result.now c.loop-byte.byte-index c.from.result c.in_ok-push-2.ensures.items c.loop-byte.invariant c.from.ensures (omega (arith, c.loop-byte-test.true))

pub returns : goal.returns
returns c =
    let whole = take_all c.loop-byte.byte-index c.as_bytes-byte-items.result.now c.loop-byte-test.false ∙ c.as_bytes-byte-items.ensures in
    let key = c.loop-byte.invariant ∙ ap (λ bytes. c.match-file.folder.0 ∷ bytes) whole in
    elim c.match-file.branch [
      | in-Automaton w ↦ key ∙ ap (λ p. p.0 ∷ p.1.now) w.folder-is ∙ ap file_key (sym w.in-Automaton.is)
      | in-Word w ↦ key ∙ ap (λ p. p.0 ∷ p.1.now) w.folder-is ∙ ap file_key (sym w.in-Word.is)
    ]

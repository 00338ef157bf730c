use Rattle.std.proofs.Common.{◌↔◌, ◌<◌, ℕ, Bool, List, IsTrue, false, slice_index_or, ◌∙◌, subst, rules}
use Rattle.std.proofs.lemmas.Int.{to_z-of_z}
use mir.Val.{SFits}
use mir.Syntax.{w32}
use Rattle.digit_tuple.specs.Deterministic.{Automaton, states_of}
use Rattle.digit_tuple.specs.Reflagged.{IsReflagged}
use Rattle.product_op.proofs.ResultLemmas.{IfOk-three}
use Rattle.word_output.specs.LetterSets.{HasComparedLetter}
use Rattle.word_output.proofs.LetterSetLemmas.{IsLetterSet-least}
use Rattle.word_output.proofs.letter_set.letter_set.Goals as goal

pub returns : goal.returns
returns c =
    let f = c.args.function.now in
    let fits : SFits w32 c.args.letter = search rules in
    let flags = c.in_ok-flags.flags.items in
    let flagged : (q : ℕ) → q < states_of f.automaton → IsTrue (slice_index_or flags q false) ↔ HasComparedLetter c.args.comparison c.args.letter f q = simp to_z-of_z at c.in_ok-flags.ensures.flags in
    let reflagged : IsReflagged flags f.automaton c.with_accepting-table.result =
    subst (λ (bs : List Bool). IsReflagged bs f.automaton c.with_accepting-table.result) c.deref.ensures.value
    (subst (λ (d : Automaton). IsReflagged c.deref.result.now d c.with_accepting-table.result) (c.in_ok-copy.ensures ∙ c.dfa.ensures.value) c.with_accepting-table.ensures) in
    IfOk-three c.canonical.result _ _ _ _
    (λ d sizes same canonical. IsLetterSet-least c.args.comparison c.args.letter f c.dfa.ensures.function flags flagged c.with_accepting-table.result reflagged d sizes same canonical)
    c.canonical.ensures.sizes c.canonical.ensures.language c.canonical.ensures.canonical

use Rattle.std.proofs.Common.{sym, ◌∙◌, subst}
use Rattle.std.proofs.lemmas.Result.{IfOk-weaker}
use Rattle.digit_tuple.specs.Deterministic.{states_of}
use Rattle.digit_tuple.specs.DfaRows.{states_in}
use Rattle.pad_rename.specs.PartReading.{AreReading}
use Rattle.pad_rename.proofs.part_reading.states_by_parts.Goals as goal

pub new-requires-clause-own : goal.new-requires-clause-own
new-requires-clause-own c = c.alphabet.ensures.sizes ∙ sym c.requires.sizes

pub returns-clause-reading : goal.returns-clause-reading
returns-clause-reading c =
    let d = c.args.dfa.now in
    IfOk-weaker c.states_reading.result _ _
    (λ states reading. subst (λ ps. AreReading d ps (states_of d) (states_in states.items)) (c.in_ok-list_within.ensures ∙ c.in_ok-parts.ensures) reading)
    c.states_reading.ensures

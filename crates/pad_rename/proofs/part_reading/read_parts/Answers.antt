use Rattle.std.proofs.Common.{◌≡◌, ℕ, List, sym, subst}
use Rattle.std.proofs.lemmas.Result.{IfOk-weaker}
use Rattle.digit_tuple.specs.Deterministic.{Automaton, accepts_of}
use Rattle.digit_tuple.specs.DfaRows.{states_in}
use Rattle.digit_tuple.specs.Letters.{product, IsWord}
use Rattle.digit_tuple.specs.Parts.{part}
use Rattle.pad_rename.proofs.PartReadingLemmas.{IsTable-reading, accepts-reading}
use Rattle.pad_rename.proofs.part_reading.read_parts.Goals as goal

pub from_states-requires : goal.from_states-requires
from_states-requires c =
    let d = c.args.dfa.now in
    let e : Automaton = record { sizes = c.args.alphabet; states = states_in c.in_ok-states.states.items } in
    IsTable-reading d e c.args.alphabet c.args.places.now c.in_ok-states.ensures.table
    c.in_ok-states.ensures.reading

pub returns-clause-language : goal.returns-clause-language
returns-clause-language c =
    let d = c.args.dfa.now in
    let e : Automaton = record { sizes = c.args.alphabet; states = states_in c.in_ok-states.states.items } in
    let reads = accepts-reading d e c.args.alphabet c.args.places.now c.in_ok-states.ensures.table
    c.in_ok-states.ensures.reading in
    IfOk-weaker c.from_states.result _ _
    (λ reader is. subst (λ (r : Automaton). (w : List ℕ) → IsWord (product c.args.alphabet) w → accepts_of r w ≡ accepts_of d (part c.args.alphabet c.args.places.now w)) (sym is) reads)
    c.from_states.ensures

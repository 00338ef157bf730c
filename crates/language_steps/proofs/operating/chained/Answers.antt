use Rattle.std.proofs.Common.{◌≡◌, ◌-◌, length, take, drop, Some, Ok, Err, inr, sym, ap, ◌∙◌, arith}
use Rattle.std.proofs.lemmas.Result.{err_from_is_err_and}
use Rattle.digit_tuple.specs.Deterministic.{Automaton}
use Rattle.language_steps.specs.LanguageSteps.{language_named}
use Rattle.language_steps.proofs.Chains.{chain_done, chain_more, chain_refused, found_over, names_chained, not_chained, same_over}
use Rattle.language_steps.proofs.operating.chained.Goals as goal

pub loop-name-init : goal.loop-name-init
loop-name-init c =
    let made = c.in_ok-made.made in
    let over = found_over c.requires.canonical.0 c.args.languages.now c.first-item.result c.language_under.result.now c.requires.canonical.1 c.language_under.ensures in
    not_chained c.args.op c.args.languages.now made (take (length c.args.names.now - 1) (drop 1 c.args.names.now)) c.args.steps.now made.sizes
    (same_over c.requires.canonical.0 c.language_under.result.now made over c.in_ok-made.ensures)

pub joined-requires-clause-second : goal.joined-requires-clause-second
joined-requires-clause-second c =
    (found_over c.requires.canonical.0 c.args.languages.now c.name-item.result c.language_under-in-loop-name.result.now c.requires.canonical.1 c.language_under-in-loop-name.ensures).canonical

pub joined-requires-clause-sizes : goal.joined-requires-clause-sizes
joined-requires-clause-sizes c =
    let sizes = c.requires.canonical.0 in
    let languages = c.args.languages.now in
    let own = found_over sizes languages c.name-item.result c.language_under-in-loop-name.result.now c.requires.canonical.1 c.language_under-in-loop-name.ensures in
    let first = found_over sizes languages c.first-item.result c.language_under.result.now c.requires.canonical.1 c.language_under.ensures in
    let copy : c.in_ok-made.made.sizes ≡ sizes = ap (λ (d : Automaton). d.sizes) c.in_ok-made.ensures ∙ first.sizes_are in
    own.sizes_are ∙ sym (c.loop-name.invariant.over.sizes_are ∙ copy)

pub returns-in_err-made-2 : goal.returns-in_err-made-2
returns-in_err-made-2 c =
    let p = err_from_is_err_and c.from_residual-in_err-made-2.result c.from_residual-in_err-made-2.ensures.1 in
    let languages = c.args.languages.now in
    let names = c.args.names.now in
    let made = c.in_ok-made.made in
    let others = take (length names - 1) (drop 1 names) in
    let fault = c.in_err-made-2.field-0.0 in
    let found : language_named languages c.first-item.result ≡ Some made = c.language_under.ensures ∙ ap (λ (d : Automaton). Some d) (sym c.in_ok-made.ensures) in
    rw (p.1, p.2) (inr (names_chained c.args.op languages names c.first-item.result made c.requires.some c.first-item.is found c.args.steps.now c.joined.new.steps (Err fault)
    (chain_refused c.args.op languages made others c.args.steps.now made.sizes c.loop-name.name-index c.name-item.result c.language_under-in-loop-name.result.now c.loop-name.made c.loop-name.steps
    c.loop-name-test.true c.name-item.is c.language_under-in-loop-name.ensures c.loop-name.invariant fault c.joined.new.steps c.in_err-made-2.ensures)))

pub loop-name-preserved : goal.loop-name-preserved
loop-name-preserved c =
    let languages = c.args.languages.now in
    let names = c.args.names.now in
    let made = c.in_ok-made.made in
    let others = take (length names - 1) (drop 1 names) in
    chain_more c.args.op languages made others c.args.steps.now made.sizes c.loop-name.name-index c.name-item.result c.language_under-in-loop-name.result.now c.loop-name.made c.loop-name.steps
    c.loop-name-test.true c.name-item.is c.language_under-in-loop-name.ensures c.loop-name.invariant c.in_ok-made-2.made c.joined.new.steps c.in_ok-made-2.ensures

pub returns : goal.returns
returns c =
    let languages = c.args.languages.now in
    let names = c.args.names.now in
    let made = c.in_ok-made.made in
    let others = take (length names - 1) (drop 1 names) in
    let found : language_named languages c.first-item.result ≡ Some made = c.language_under.ensures ∙ ap (λ (d : Automaton). Some d) (sym c.in_ok-made.ensures) in
    inr (names_chained c.args.op languages names c.first-item.result made c.requires.some c.first-item.is found c.args.steps.now c.loop-name.steps (Ok c.loop-name.made)
    (chain_done c.args.op languages made others c.args.steps.now made.sizes c.loop-name.name-index c.loop-name.made c.loop-name.steps (omega (arith, c.loop-name-test.false)) c.loop-name.invariant))

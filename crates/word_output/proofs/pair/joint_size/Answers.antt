use Rattle.std.proofs.Common.{get_or, refl, sym, ap, ◌∙◌, arith}
use Rattle.std.specs.List.{Contains}
use Rattle.std.proofs.lemmas.Bool.{false≢true}
use Rattle.digit_tuple.proofs.NameLemmas.{place_of-contained}
use Rattle.word_output.proofs.PairSizes.{size_first, size_second}
use Rattle.word_output.proofs.pair.joint_size.Goals as goal

pub size_at-requires : goal.size_at-requires
size_at-requires c =
    let found : Contains c.args.first.under.now c.args.name.now = c.in-Some.ensures.there.0 refl in
    omega (arith, (place_of-contained c.args.first.under.now c.args.name.now found).0, c.in-Some.ensures.place, c.requires.first)

pub size_at-requires-in-Some-find_name : goal.size_at-requires-in-Some-find_name
size_at-requires-in-Some-find_name c =
    let found : Contains c.args.second.under.now c.args.name.now = c.in-Some-find_name.ensures.there.0 refl in
    omega (arith, (place_of-contained c.args.second.under.now c.args.name.now found).0, c.in-Some-find_name.ensures.place, c.requires.second)

pub returns-in-Some : goal.returns-in-Some
returns-in-Some c =
    let xs = c.args.first.function.now.automaton.sizes in
    let ys = c.args.second.function.now.automaton.sizes in
    let found : Contains c.args.first.under.now c.args.name.now = c.in-Some.ensures.there.0 refl in
    c.size_at.ensures ∙ ap (λ p. get_or xs p 0) c.in-Some.ensures.place ∙ sym (size_first c.args.first.under.now c.args.second.under.now xs ys c.requires.first c.args.name.now found)

pub returns-in-Some-find_name : goal.returns-in-Some-find_name
returns-in-Some-find_name c =
    let xs = c.args.first.function.now.automaton.sizes in
    let ys = c.args.second.function.now.automaton.sizes in
    c.size_at-in-Some-find_name.ensures
    ∙ ap (λ p. get_or ys p 0) c.in-Some-find_name.ensures.place
    ∙ sym (size_second c.args.first.under.now c.args.second.under.now xs ys c.requires.first c.args.name.now (λ found. false≢true (c.in-None.ensures.there.1 found)))

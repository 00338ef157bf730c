use Rattle.std.proofs.Common.{◌<◌, length, sym, ◌∙◌, arith}
use Rattle.std.proofs.lemmas.Bool.{not-true}
use Rattle.digit_tuple.specs.Deterministic.{Automaton}
use Rattle.word_walk.specs.Levels.{IsLevel}
use Rattle.word_walk.proofs.CodeLemmas.{IsLevel-read}
use Rattle.word_walk.proofs.FlagLemmas.{none_lives}
use Rattle.word_walk.proofs.listing.Listing.is_empty.Goals as goal

pub returns-then-size-len : goal.returns-then-size-len
returns-then-size-len c none q within =
    let d : Automaton = c.args.self.now.dfa in
    let flags = c.index.result.now in
    let inside : c.args.size < length c.args.self.now.levels.items = omega (arith, c.if-size-len.true, c.len.ensures) in
    let level : IsLevel d c.args.size flags = IsLevel-read d c.args.self.now.levels.items c.args.size flags c.args.self.now.are_levels inside c.index.ensures in
    none_lives d c.args.size flags level (sym c.has_any.ensures ∙ not-true c.has_any.result none) q within

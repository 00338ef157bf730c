use Rattle.std.proofs.Common.{ℕ, List, IsTrue, sym, subst}
use Rattle.digit_tuple.specs.Deterministic.{accepts_of}
use Rattle.listings.specs.Listings.{AreOver}
use Rattle.table_listings.proofs.LineLemmas.{lines_of_walk, walk_over}
use Rattle.table_listings.proofs.answering.listed_lines.Goals as goal

pub next_lines-requires-clause-words : goal.next_lines-requires-clause-words
next_lines-requires-clause-words c =
    subst (AreOver (accepts_of c.in_ok-walk.walk.listing)) (sym c.alphabet.ensures.sizes) (walk_over c.args.automaton.now c.args.skip c.args.sets.now c.args.words.now.place c.in_ok-walk.walk c.in_ok-walk.ensures c.alphabet.ensures.table)

pub returns : goal.returns
returns c = lines_of_walk c.args.automaton.now c.args.skip c.args.sets.now c.args.words.now.place c.in_ok-walk.walk c.in_ok-walk.ensures c.args.words.now.count c.next_lines.result c.next_lines.ensures

-- A line of letters, or that of the empty word.
use Rattle.std.proofs.Common.{sym, ◌∙◌}
use Rattle.listings.proofs.WordLineLemmas.{empty_line, other_line}
use Rattle.listings.proofs.word_line.push_line.Goals as goal

pub returns-then-is_empty : goal.returns-then-is_empty
returns-then-is_empty c = empty_line c.args.sets.now c.args.word.now c.args.out.now.items c.extend_from_slice.new.self.items (sym c.is_empty.ensures ∙ c.if-is_empty.true) c.in_ok-extend_from_slice.ensures.items

pub returns : goal.returns
returns c = other_line c.args.sets.now c.args.word.now c.args.out.now.items c.push_letters.new.out.items c.push.new.self.items (sym c.is_empty.ensures ∙ c.if-is_empty.false) c.in_ok-push_letters.ensures c.in_ok-push.ensures.items

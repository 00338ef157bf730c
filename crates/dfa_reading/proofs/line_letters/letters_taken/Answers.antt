use Rattle.std.proofs.Common.{sym, ◌∙◌}
use Rattle.dfa_reading.proofs.Letters.{no_letters}
use Rattle.dfa_reading.proofs.line_letters.letters_taken.Goals as goal

pub returns-then-letters-eq0 : goal.returns-then-letters-eq0
returns-then-letters-eq0 c = c.new.ensures.items ∙ sym (no_letters c.args.alphabet.now c.args.digits.now (sym c.letters.ensures.value ∙ c.if-letters-eq0.true))

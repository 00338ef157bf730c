use Rattle.std.proofs.Common.{ℕ, map, Ok, sym, subst, arith}
use Rattle.std.specs.Rc.{rc_value}
use Rattle.std.proofs.lemmas.Result.{err_from_is_err_and}
use Rattle.word_output.specs.WordReadings.{DoesWord}
use Rattle.word_output.specs.Words.{WordValue}
use Rattle.kept_tables.specs.KeptTables.{IsSourceOf}
use Rattle.kept_tables.proofs.KeptLemmas.{word_longer, word_next, word_refused, word_right}
use Rattle.kept_tables.proofs.kept_tables.KeptTables.word.Goals as goal

pub of-requires : goal.of-requires
of-requires c = omega (arith, c.count-before.ensures, word_longer (map rc_value c.args.systems.now) c.args.table.now.listed c.word_again.new.steps c.read_word_steps.new.steps c.in_ok-made.made c.in_ok-made.ensures)

pub keep_word-requires : goal.keep_word-requires
keep_word-requires c =
    let table = c.args.table.now in
    let systems = map rc_value c.args.systems.now in
    let old = c.word_again.new.steps in
    let new = c.read_word_steps.new.steps in
    let done = subst (λ (x : WordValue). DoesWord systems table.listed old (Ok x) new) (sym c.in_ok-word-2.ensures.ok) c.in_ok-made.ensures in
    word_right table.text systems table.listed old new c.in_ok-word-2.word.value c.in-Ok.source c.requires.text done (subst (λ (n : ℕ). IsSourceOf table.text systems new n c.in-Ok.source) c.count-before.ensures c.in-Ok.ensures)

pub returns-in_err-made-clause-refused : goal.returns-in_err-made-clause-refused
returns-in_err-made-clause-refused c =
    let p = err_from_is_err_and c.from_residual-in_err-made.result c.from_residual-in_err-made.ensures.1 in
    let same = rw c.in_default.is at c.in_ok-word.ensures.made in
    rw (p.1, p.2) (word_refused (map rc_value c.args.systems.now) c.args.table.now.listed c.args.steps.now c.word_again.new.steps c.read_word_steps.new.steps c.in_err-made.field-0.0 same c.in_err-made.ensures)

pub returns-clause-made : goal.returns-clause-made
returns-clause-made c =
    let same = rw c.in_default.is at c.in_ok-word.ensures.made in
    word_next (map rc_value c.args.systems.now) c.args.table.now.listed c.args.steps.now c.word_again.new.steps c.read_word_steps.new.steps c.in_ok-made.made c.in_ok-word-2.word.value same c.in_ok-word-2.ensures.ok c.in_ok-made.ensures

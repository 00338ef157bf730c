use Rattle.std.proofs.Common.{ℕ, map, sym, ap, ◌∙◌, subst}
use Rattle.std.specs.Rc.{rc_value}
use Rattle.digit_tuple.specs.Steps.{with_lines}
use Rattle.word_output.specs.Words.{WordValue}
use Rattle.kept_tables.specs.KeptTables.{IsWordOf}
use Rattle.kept_tables.proofs.KeptLemmas.{word_found}
use Rattle.kept_tables.proofs.kept_tables.KeptTables.word_again.Goals as goal

pub returns-clause-made : goal.returns-clause-made
returns-clause-made c =
    let table = c.args.table.now in
    let systems = map rc_value c.args.systems.now in
    let old = c.args.steps.now in
    let source = c.in-Some.kept.now.source in
    let is = subst (λ (n : ℕ). IsWordOf source c.in-Some.kept.now.word.value table.text systems n) c.limit.ensures c.in-Some.ensures in
    word_found source c.in_ok-word.word.value table.text systems table.listed old c.add_lines.new.steps c.requires (subst (λ (w : WordValue). IsWordOf source w table.text systems old.limit) (sym c.in_ok-word.ensures.cases) is)
    (c.in_ok-add_lines.ensures ∙ ap (with_lines old) c.deref.ensures.value)

use Rattle.std.proofs.Common.{◌≡◌, ◌≤◌, ap, ◌∙◌, subst, arith}
use Rattle.std.specs.Option.{IfSome}
use Rattle.std.proofs.lemmas.Bool.{leb-true}
use Rattle.digit_tuple.specs.Deterministic.{Automaton}
use Rattle.digit_tuple.specs.Letters.{product}
use Rattle.product_op.specs.NextTables.{next_list}
use Rattle.product_op.proofs.DeadExitLemmas.{all_lead_on}
use Rattle.product_op.proofs.reader_at.ReaderAt.new.Goals as goal

pub returns-clause-at : goal.returns-clause-at
returns-clause-at c =
    let d = c.args.reader.now.dfa.now in
    let state = c.args.state in
    record {
      reading = c.requires.reading;
      row = subst (λ (e : Automaton). IfSome c.row.result (λ row. row.now ≡ next_list e state)) c.requires.table c.row.ensures;
      leads_on = λ full.
          let many : c.letters.result ≤ c.len.result = leb-true c.letters.result c.len.result full in
          all_lead_on d state c.read_row.new.row.items c.in_ok-read_row.ensures.row c.in_ok-read_row.ensures.transitions (omega (arith, many, c.len.ensures, c.letters.ensures.value ∙ ap product c.alphabet.ensures.sizes));
    }

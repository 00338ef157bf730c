use Rattle.std.proofs.Common.{◌≡◌, List, ℕ, Option, Bor, ap, ◌∙◌, subst, arith}
use Rattle.std.specs.Option.{IfSome}
use Rattle.residual_classes.specs.Classes.{next_of}
use Rattle.product_op.specs.NextTables.{next_list}
use Rattle.product_op.proofs.NextRowLemmas.{length-next_list, next_list-at}
use Rattle.product_op.proofs.reader_at.ReaderAt.next.Goals as goal

pub bounds-row-part : goal.bounds-row-part
bounds-row-part c =
    let at = c.args.self.now in
    let d = at.reader.now.dfa.now in
    let is : c.in-Some.row.now ≡ next_list d at.state = subst (λ (o : Option (Bor (List ℕ))). IfSome o (λ row. row.now ≡ next_list d at.state)) c.in-Some.is c.requires.at.row in
    omega (arith, length-next_list d at.state c.in-Some.row.now is, c.requires.at.reading.within c.args.letter 0 c.requires.letter, c.part.ensures)

pub returns-in-Some : goal.returns-in-Some
returns-in-Some c =
    let at = c.args.self.now in
    let d = at.reader.now.dfa.now in
    let is : c.in-Some.row.now ≡ next_list d at.state = subst (λ (o : Option (Bor (List ℕ))). IfSome o (λ row. row.now ≡ next_list d at.state)) c.in-Some.is c.requires.at.row in
    next_list-at d at.state c.in-Some.row.now is c.part.result (omega (arith, c.requires.at.reading.within c.args.letter 0 c.requires.letter, c.part.ensures)) ∙ ap (next_of d at.state) c.part.ensures

use Rattle.std.proofs.Common.{◌≡◌, ◌||◌, sym, ap, ◌∙◌, rules}
use Rattle.std.specs.Ordering.{int_eq}
use Rattle.std.proofs.lemmas.Int.{to_z-of_z}
use Rattle.indexmap.specs.IndexMap.{get}
use mir.Val.{SFits}
use mir.Syntax.{w32}
use Rattle.transducer_reading.specs.LastResults.{result_in, differs_from}
use Rattle.transducer_reading.proofs.ResultLemmas.{clash_letter, clash_star, clash_first_star}
use Rattle.transducer_reading.proofs.results.Results.clash.Goals as goal

pub returns-then-differs_from : goal.returns-then-differs_from
returns-then-differs_from c =
    let line = c.args.line in
    let fits : SFits w32 line.output = search rules in
    let first : c.differs_from.result ≡ differs_from (result_in line) c.args.self.now.star = simp to_z-of_z at c.differs_from.ensures in
    c.if-differs_from.true
    ∙ sym (clash_letter line c.args.lines.now c.args.self.now c.requires.results c.requires.agreed c.in-Some.letter c.in-Some.is
    ∙ ap (λ b. b || differs_from (result_in line) (get int_eq c.args.self.now.by_letter c.in-Some.letter)) (sym first ∙ c.if-differs_from.true))

pub returns-else-differs_from : goal.returns-else-differs_from
returns-else-differs_from c =
    let line = c.args.line in
    let letter = c.in-Some.letter in
    let fits : SFits w32 line.output = search rules in
    let small : SFits w32 letter = search rules in
    let first : c.differs_from.result ≡ differs_from (result_in line) c.args.self.now.star = simp to_z-of_z at c.differs_from.ensures in
    let found : c.copied.result ≡ get int_eq c.args.self.now.by_letter letter = simp to_z-of_z at (c.copied.ensures ∙ c.get.ensures.value) in
    let second : c.differs_from-else-differs_from.result ≡ differs_from (result_in line) c.copied.result = simp to_z-of_z at c.differs_from-else-differs_from.ensures in
    second ∙ ap (differs_from (result_in line)) found
    ∙ sym (clash_letter line c.args.lines.now c.args.self.now c.requires.results c.requires.agreed letter c.in-Some.is
    ∙ ap (λ b. b || differs_from (result_in line) (get int_eq c.args.self.now.by_letter letter)) (sym first ∙ c.if-differs_from.false))

pub returns-then-is_some : goal.returns-then-is_some
returns-then-is_some c =
    let line = c.args.line in
    let fits : SFits w32 line.output = search rules in
    let first : c.differs_from-then-is_some.result ≡ differs_from (result_in line) c.args.self.now.star = simp to_z-of_z at c.differs_from-then-is_some.ensures in
    first ∙ clash_star line c.args.lines.now c.args.self.now c.requires.results c.requires.agreed c.in-None.is (sym c.is_some.ensures ∙ c.if-is_some.true)

pub returns-else-is_some : goal.returns-else-is_some
returns-else-is_some c =
    let line = c.args.line in
    let fits : SFits w32 line.output = search rules in
    (simp to_z-of_z at c.differs_from_any.ensures) ∙ clash_first_star line c.args.lines.now c.args.self.now c.requires.results c.requires.agreed c.in-None.is

use Rattle.std.proofs.Common.{◌-◌, ◌<◌, ℕ, List, length, ap, ◌∙◌, arith}
use Rattle.std.proofs.lemmas.List.{get_or_default}
use Rattle.digit_tuple.specs.KeyParts.{start_of}
use Rattle.digit_tuple.proofs.KeyEndLemmas.{length-ends, start_of-even, start_of-other}
use Rattle.digit_tuple.proofs.key_ends.KeyEnds.start.Goals as goal

pub index-requires : goal.index-requires
index-requires c =
    let inside = c.self.inside in
    omega (arith, c.requires, length-ends inside.width inside.even inside.ends.items, ap (λ (es : List ℕ). length es) c.self.view_is, inside.ends.ok, c.if-number-self.false)

pub returns-then-number-self : goal.returns-then-number-self
returns-then-number-self c =
    let inside = c.self.inside in
    start_of-even inside.width inside.even inside.ends.items c.args.number c.if-number-self.true ∙ ap (λ (es : List ℕ). start_of es c.args.number) c.self.view_is

pub returns-else-number-self : goal.returns-else-number-self
returns-else-number-self c =
    let inside = c.self.inside in
    let within : c.args.number - 1 - inside.even < length inside.ends.items = omega (arith, c.requires, length-ends inside.width inside.even inside.ends.items, ap (λ (es : List ℕ). length es) c.self.view_is, c.if-number-self.false) in
    c.index.ensures ∙ get_or_default inside.ends.items (c.args.number - 1 - inside.even) c.index.result.now 0 within
    ∙ start_of-other inside.width inside.even inside.ends.items c.args.number c.if-number-self.false ∙ ap (λ (es : List ℕ). start_of es c.args.number) c.self.view_is

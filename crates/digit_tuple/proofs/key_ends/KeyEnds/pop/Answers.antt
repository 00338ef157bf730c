use Rattle.std.proofs.Common.{◌≡◌, ◌-◌, ◌<◌, ℕ, List, length, take, sym, ap, ◌∙◌, arith}
use Rattle.std.proofs.lemmas.Bool.{eqb-true}
use Rattle.digit_tuple.proofs.KeyEndLemmas.{ends-popped, length-ends}
use Rattle.digit_tuple.proofs.key_ends.KeyEnds.pop.Goals as goal

pub returns-then-is_empty : goal.returns-then-is_empty
returns-then-is_empty c =
    let inside = c.self.inside in
    let count : inside.ends.len ≡ 0 = eqb-true inside.ends.len 0 (sym c.is_empty.ensures ∙ c.if-is_empty.true) in
    let none : length inside.ends.items ≡ 0 = omega (arith, count, inside.ends.ok) in
    let some : 0 < inside.even = omega (arith, c.requires, none, length-ends inside.width inside.even inside.ends.items, ap (λ (es : List ℕ). length es) c.self.view_is) in
    ends-popped inside.width inside.even inside.ends.items none some ∙ ap (λ (es : List ℕ). take (length es - 1) es) c.self.view_is

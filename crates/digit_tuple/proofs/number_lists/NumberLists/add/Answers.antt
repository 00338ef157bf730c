use Rattle.std.proofs.Common.{◌≡◌, ◌<◌, [], ◌∷◌, ◌++◌, length, sum_by, List, ℕ, ◌+◌, subst, sym, ap, ◌∙◌, arith}
use Rattle.digit_tuple.specs.NumberLists.{AreLists, lists_of, extended}
use Rattle.digit_tuple.proofs.NumberListLemmas.{lists_of-add, AreLists-add, AreLists-some}
use Rattle.digit_tuple.proofs.number_lists.NumberLists.add.Goals as goal

some-start : (c : goal.In_ok-push) → 0 < length c.self.inside.starts
some-start c =
    let l = c.self.inside in
    let some : 0 < length (lists_of l.same l.width l.starts l.numbers.items) = omega (arith, c.requires.some, ap length c.self.view_is) in
    AreLists-some l.same l.width l.starts l.numbers.items c.self.invariant some

pub invariant_of-self-2 : goal.invariant_of-self-2
invariant_of-self-2 c =
    let l = c.self.inside in
    let pushed : c.push.new.self.items ≡ l.numbers.items ++ c.args.number ∷ [] = c.in_ok-push.ensures.items in
    let fits : sum_by length (lists_of l.same l.width l.starts l.numbers.items) + 1 < 18446744073709551616 = omega (arith, c.if-count.false, c.count.type_inv, c.count.ensures, ap (λ (ls : List (List ℕ)). sum_by length ls) c.self.view_is) in
    subst (λ (ns : List ℕ). AreLists l.same l.width l.starts ns) (sym pushed) (AreLists-add l.same l.width l.starts l.numbers.items c.args.number c.self.invariant (some-start c) fits)

pub returns : goal.returns
returns c =
    let l = c.self.inside in
    let pushed : c.push.new.self.items ≡ l.numbers.items ++ c.args.number ∷ [] = c.in_ok-push.ensures.items in
    ap (lists_of l.same l.width l.starts) pushed
    ∙ lists_of-add l.same l.width l.starts l.numbers.items c.args.number c.self.invariant.within c.self.invariant.places (some-start c)
    ∙ ap (λ (ls : List (List ℕ)). extended ls (c.args.number ∷ [])) c.self.view_is

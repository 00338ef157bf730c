use Rattle.std.proofs.Common.{◌≡◌, ◌-◌, ◌+◌, ◌<◌, [], ◌∷◌, ◌++◌, length, drop, List, ℕ, subst, sym, ap, ◌∙◌, length-drop, arith}
use Rattle.digit_tuple.specs.NumberLists.{AreLists, lists_of}
use Rattle.digit_tuple.proofs.NumberListLemmas.{AreLists-push, lists_of-push}
use Rattle.digit_tuple.proofs.number_lists.NumberLists.begin.Goals as goal

-- where the new list begins
end-of : (c : goal.In_ok-push) → c.len-4.result - c.self.inside.width ≡ length (drop c.self.inside.width c.self.inside.numbers.items)
end-of c =
    omega (arith, c.len-4.ensures, length-drop c.self.inside.width c.self.inside.numbers.items)

pub invariant_of-self-2 : goal.invariant_of-self-2
invariant_of-self-2 c =
    let l = c.self.inside in
    let pushed : c.push.new.self ≡ l.starts ++ (c.len-4.result - l.width) ∷ [] = c.in_ok-push.ensures.added in
    let few : length (lists_of l.same l.width l.starts l.numbers.items) + 1 < 18446744073709551616 = omega (arith, c.if-len.false, c.len.type_inv, c.len.ensures, ap length c.self.view_is) in
    subst (λ (ss : List ℕ). AreLists l.same l.width ss l.numbers.items) (sym pushed) (AreLists-push l.same l.width l.starts l.numbers.items (c.len-4.result - l.width) (end-of c) c.self.invariant few)

pub returns : goal.returns
returns c =
    let l = c.self.inside in
    let pushed : c.push.new.self ≡ l.starts ++ (c.len-4.result - l.width) ∷ [] = c.in_ok-push.ensures.added in
    ap (λ (ss : List ℕ). lists_of l.same l.width ss l.numbers.items) pushed
    ∙ lists_of-push l.same l.width l.starts l.numbers.items (c.len-4.result - l.width) (end-of c)
    ∙ ap (λ (ls : List (List ℕ)). ls ++ [] ∷ []) c.self.view_is

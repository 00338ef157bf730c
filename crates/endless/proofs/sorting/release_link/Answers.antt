use Rattle.std.proofs.Common.{◌-◌, ◌++◌, ◌∷◌, [], ℕ, List, set, length, sym, ◌∙◌, subst, arith}
use Rattle.std.proofs.lemmas.List.{get_or_default, get_or-set_same}
use Rattle.endless.specs.Counts.{AreFree, IsOneLess}
use Rattle.endless.proofs.OrderLemmas.{AreFree-last, IsOneLess-set}
use Rattle.endless.proofs.sorting.release_link.Goals as goal

pub returns-in_ok-push-clause-free : goal.returns-in_ok-push-clause-free
returns-in_ok-push-clause-free c =
    let old : List ℕ = c.args.pending.now.items in
    let count : ℕ = c.index.result.now - 1 in
    let read = get_or_default old c.args.target c.index.result.now 0 c.requires.within in
    let less : IsOneLess old (set old c.args.target count) c.args.target = IsOneLess-set old c.args.target count c.requires.within (omega (arith, read, c.index.ensures, c.requires.some)) in
    let none = get_or-set_same old c.args.target count 0 c.requires.within ∙ c.if-count-eq0.true in
    subst (λ xs. AreFree (set old c.args.target count) xs (length (set old c.args.target count))) (sym c.in_ok-push.ensures.items)
    (subst (λ n. AreFree (set old c.args.target count) (c.args.order.now.items ++ c.args.target ∷ []) n) (sym less.width) (AreFree-last old (set old c.args.target count) c.args.order.now.items (length old) c.args.target c.requires.free c.requires.within less none))

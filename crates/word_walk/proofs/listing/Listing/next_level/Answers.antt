use Rattle.std.proofs.Common.{◌≡◌, ◌-◌, ◌<◌, ℕ, suc, Bool, List, [], length, get_or, sym, ap, ◌∙◌, subst, arith}
use Rattle.std.proofs.lemmas.Result.{IfOk-weaker}
use Rattle.word_walk.specs.Levels.{IsLevel}
use Rattle.word_walk.proofs.listing.Listing.next_level.Goals as goal

pub returns-in-Some-clause-level : goal.returns-in-Some-clause-level
returns-in-Some-clause-level c =
    let d = c.args.self.now.dfa in
    let levels : List (List Bool) = c.args.self.now.levels.items in
    let n : ℕ = length levels - 1 in
    let size : length c.deref.result.now ≡ length levels = ap (λ (ls : List (List Bool)). length ls) c.deref.ensures.value in
    let some : 0 < length levels = omega (arith, size, c.in-Some.ensures.item.3.0) in
    let here : c.in-Some.level.now ≡ get_or levels n [] = c.in-Some.ensures.item.3.1 [] ∙ ap (λ (ls : List (List Bool)). get_or ls (length ls - 1) []) c.deref.ensures.value in
    let is : IsLevel d n c.in-Some.level.now = subst (IsLevel d n) (sym here) (c.args.self.now.are_levels n (omega (arith, some))) in
    let more : suc n ≡ length levels = omega (arith, some) in
    IfOk-weaker c.next.result _ _ (λ level next. subst (λ (k : ℕ). IsLevel d k level) more (next n is)) c.next.ensures.next

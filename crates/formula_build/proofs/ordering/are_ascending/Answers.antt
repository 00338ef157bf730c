use Rattle.std.proofs.Common.{◌≡◌, ℕ, ◌-◌, List, [], get_or, sym, ◌∙◌, subst, arith}
use Rattle.std.specs.Ordering.{nat_cmp}
use Rattle.std.specs.Cmp.Lexicographic.{slice_cmp}
use Rattle.std.specs.declared.cmp.Ordering.TheVariants.{Less}
use Rattle.std.proofs.lemmas.List.{get_or_default}
use Rattle.digit_tuple.specs.Names.{IsBytesBefore}
use Rattle.formula_build.proofs.OrderedLemmas.{ascend_more}
use Rattle.formula_build.proofs.ordering.are_ascending.Goals as goal

pub loop-place-preserved : goal.loop-place-preserved
loop-place-preserved c =
    let names = c.args.names.now in
    let place = c.loop-place.place in
    let one : c.index-names-place.result ≡ get_or names (place - 1) [] = c.index-names-place.is ∙ get_or_default names (place - 1) c.index-names-place.result [] (omega (arith, c.loop-place-test.true)) in
    let other : c.index-names-place-in-loop-place.result ≡ get_or names place [] = c.index-names-place-in-loop-place.is ∙ get_or_default names place c.index-names-place-in-loop-place.result [] (omega (arith, c.loop-place-test.true)) in
    let last : slice_cmp nat_cmp c.as_bytes.result.now c.as_bytes-in-loop-place.result.now ≡ Less = sym c.cmp.ensures ∙ c.in-Less.is in
    ascend_more names place (omega arith) c.loop-place.invariant
    (subst (λ (m : List ℕ). IsBytesBefore m (get_or names place [])) (c.as_bytes.ensures ∙ one) (subst (IsBytesBefore c.as_bytes.result.now) (c.as_bytes-in-loop-place.ensures ∙ other) last))

pub returns : goal.returns
returns c = λ _ i j d less low.
    let names = c.args.names.now in
    subst (λ n. IsBytesBefore n (get_or names j d)) (get_or_default names i [] d (omega arith))
    (subst (λ n. IsBytesBefore (get_or names i []) n) (get_or_default names j [] d low) (c.loop-place.invariant i j less (omega (arith, c.loop-place-test.false))))

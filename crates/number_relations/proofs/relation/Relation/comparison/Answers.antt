use Rattle.std.proofs.Common.{◌≡◌, length, ap, ◌∙◌, subst}
use Rattle.std.proofs.lemmas.Result.{IfOk-weaker}
use Rattle.num_system.specs.Sealed.{SystemValue, IsSealed}
use Rattle.number_relations.specs.Comparisons.{compared_names}
use Rattle.num_system.specs.declared.comparison.Comparison.TheVariants.{Equal, Unequal, Less, Greater, AtMost, AtLeast}
use Rattle.number_relations.proofs.ArithmeticLemmas.{Fails, Holds, arm, at_least_compared, at_most_compared, compared_two, equal_closed, equal_compared, greater_compared, less_closed, less_compared, two_closed, unequal_compared}
use Rattle.number_relations.proofs.relation.Relation.comparison.Goals as goal

pub over_one-requires-clause-closed : goal.over_one-requires-clause-closed
over_one-requires-clause-closed c =
    let s = c.args.system.now.value in
    let sealed : IsSealed s = subst IsSealed c.as_ref-sealed.ensures c.is_sealed.ensures in
    let same : c.equal.result.now ≡ s.equal = c.equal.ensures.value ∙ ap (λ (v : SystemValue). v.equal) c.as_ref-sealed.ensures in
    let names : c.deref.result.now ≡ compared_names c.args.comparison c.args.first.now c.args.second.now = c.deref.ensures.value ∙ c.in_ok-under.ensures in
    two_closed s c.args.comparison c.args.first.now c.args.second.now c.deref.result.now c.equal.result.now names (equal_closed s sealed c.equal.result.now same)

pub returns-in-Equal : goal.returns-in-Equal
returns-in-Equal c =
    let s = c.args.system.now.value in
    let sealed : IsSealed s = subst IsSealed c.as_ref-sealed.ensures c.is_sealed.ensures in
    let same : c.equal.result.now ≡ s.equal = c.equal.ensures.value ∙ ap (λ (v : SystemValue). v.equal) c.as_ref-sealed.ensures in
    let names : c.deref.result.now ≡ compared_names c.args.comparison c.args.first.now c.args.second.now = c.deref.ensures.value ∙ c.in_ok-under.ensures in
    IfOk-weaker c.over_one.result _ _ (λ r over. arm s c.args.comparison Equal c.args.first.now c.args.second.now r c.deref.result.now (λ d ns. Holds s ns d) c.equal.result.now s.equal c.in-Equal.is names same (equal_compared s sealed c.args.first.now c.args.second.now r) over) c.over_one.ensures

pub over_one-requires-in-Less-clause-closed : goal.over_one-requires-in-Less-clause-closed
over_one-requires-in-Less-clause-closed c =
    let s = c.args.system.now.value in
    let sealed : IsSealed s = subst IsSealed c.as_ref-sealed.ensures c.is_sealed.ensures in
    let same : c.less.result.now ≡ s.less = c.less.ensures.value ∙ ap (λ (v : SystemValue). v.less) c.as_ref-sealed.ensures in
    let names : c.deref-in-Less.result.now ≡ compared_names c.args.comparison c.args.first.now c.args.second.now = c.deref-in-Less.ensures.value ∙ c.in_ok-under.ensures in
    two_closed s c.args.comparison c.args.first.now c.args.second.now c.deref-in-Less.result.now c.less.result.now names (less_closed s sealed c.less.result.now same)

pub returns-in-Less : goal.returns-in-Less
returns-in-Less c =
    let s = c.args.system.now.value in
    let sealed : IsSealed s = subst IsSealed c.as_ref-sealed.ensures c.is_sealed.ensures in
    let same : c.less.result.now ≡ s.less = c.less.ensures.value ∙ ap (λ (v : SystemValue). v.less) c.as_ref-sealed.ensures in
    let names : c.deref-in-Less.result.now ≡ compared_names c.args.comparison c.args.first.now c.args.second.now = c.deref-in-Less.ensures.value ∙ c.in_ok-under.ensures in
    IfOk-weaker c.over_one-in-Less.result _ _ (λ r over. arm s c.args.comparison Less c.args.first.now c.args.second.now r c.deref-in-Less.result.now (λ d ns. Holds s ns d) c.less.result.now s.less c.in-Less.is names same (less_compared s sealed c.args.first.now c.args.second.now r) over) c.over_one-in-Less.ensures

pub over_one-requires-in-Greater-clause-closed : goal.over_one-requires-in-Greater-clause-closed
over_one-requires-in-Greater-clause-closed c =
    let s = c.args.system.now.value in
    let sealed : IsSealed s = subst IsSealed c.as_ref-sealed.ensures c.is_sealed.ensures in
    let same : c.less-in-Greater.result.now ≡ s.less = c.less-in-Greater.ensures.value ∙ ap (λ (v : SystemValue). v.less) c.as_ref-sealed.ensures in
    let names : c.deref-in-Greater.result.now ≡ compared_names c.args.comparison c.args.first.now c.args.second.now = c.deref-in-Greater.ensures.value ∙ c.in_ok-under.ensures in
    two_closed s c.args.comparison c.args.first.now c.args.second.now c.deref-in-Greater.result.now c.less-in-Greater.result.now names (less_closed s sealed c.less-in-Greater.result.now same)

pub returns-in-Greater : goal.returns-in-Greater
returns-in-Greater c =
    let s = c.args.system.now.value in
    let sealed : IsSealed s = subst IsSealed c.as_ref-sealed.ensures c.is_sealed.ensures in
    let same : c.less-in-Greater.result.now ≡ s.less = c.less-in-Greater.ensures.value ∙ ap (λ (v : SystemValue). v.less) c.as_ref-sealed.ensures in
    let names : c.deref-in-Greater.result.now ≡ compared_names c.args.comparison c.args.first.now c.args.second.now = c.deref-in-Greater.ensures.value ∙ c.in_ok-under.ensures in
    IfOk-weaker c.over_one-in-Greater.result _ _ (λ r over. arm s c.args.comparison Greater c.args.first.now c.args.second.now r c.deref-in-Greater.result.now (λ d ns. Holds s ns d) c.less-in-Greater.result.now s.less c.in-Greater.is names same (greater_compared s sealed c.args.first.now c.args.second.now r) over) c.over_one-in-Greater.ensures

pub outside-requires-clause-closed : goal.outside-requires-clause-closed
outside-requires-clause-closed c =
    let s = c.args.system.now.value in
    let sealed : IsSealed s = subst IsSealed c.as_ref-sealed.ensures c.is_sealed.ensures in
    let same : c.equal-in-Unequal.result.now ≡ s.equal = c.equal-in-Unequal.ensures.value ∙ ap (λ (v : SystemValue). v.equal) c.as_ref-sealed.ensures in
    equal_closed s sealed c.equal-in-Unequal.result.now same

pub outside-requires-clause-pair : goal.outside-requires-clause-pair
outside-requires-clause-pair c = ap length (c.deref-in-Unequal.ensures.value ∙ c.in_ok-under.ensures) ∙ compared_two c.args.comparison c.args.first.now c.args.second.now

pub returns-in-Unequal : goal.returns-in-Unequal
returns-in-Unequal c =
    let s = c.args.system.now.value in
    let sealed : IsSealed s = subst IsSealed c.as_ref-sealed.ensures c.is_sealed.ensures in
    let same : c.equal-in-Unequal.result.now ≡ s.equal = c.equal-in-Unequal.ensures.value ∙ ap (λ (v : SystemValue). v.equal) c.as_ref-sealed.ensures in
    let names : c.deref-in-Unequal.result.now ≡ compared_names c.args.comparison c.args.first.now c.args.second.now = c.deref-in-Unequal.ensures.value ∙ c.in_ok-under.ensures in
    IfOk-weaker c.outside.result _ _ (λ r over. arm s c.args.comparison Unequal c.args.first.now c.args.second.now r c.deref-in-Unequal.result.now (λ d ns. Fails s ns d) c.equal-in-Unequal.result.now s.equal c.in-Unequal.is names same (unequal_compared s sealed c.args.first.now c.args.second.now r) over) c.outside.ensures

pub outside-requires-in-AtMost-clause-closed : goal.outside-requires-in-AtMost-clause-closed
outside-requires-in-AtMost-clause-closed c =
    let s = c.args.system.now.value in
    let sealed : IsSealed s = subst IsSealed c.as_ref-sealed.ensures c.is_sealed.ensures in
    let same : c.less-in-AtMost.result.now ≡ s.less = c.less-in-AtMost.ensures.value ∙ ap (λ (v : SystemValue). v.less) c.as_ref-sealed.ensures in
    less_closed s sealed c.less-in-AtMost.result.now same

pub outside-requires-in-AtMost-clause-pair : goal.outside-requires-in-AtMost-clause-pair
outside-requires-in-AtMost-clause-pair c = ap length (c.deref-in-AtMost.ensures.value ∙ c.in_ok-under.ensures) ∙ compared_two c.args.comparison c.args.first.now c.args.second.now

pub returns-in-AtMost : goal.returns-in-AtMost
returns-in-AtMost c =
    let s = c.args.system.now.value in
    let sealed : IsSealed s = subst IsSealed c.as_ref-sealed.ensures c.is_sealed.ensures in
    let same : c.less-in-AtMost.result.now ≡ s.less = c.less-in-AtMost.ensures.value ∙ ap (λ (v : SystemValue). v.less) c.as_ref-sealed.ensures in
    let names : c.deref-in-AtMost.result.now ≡ compared_names c.args.comparison c.args.first.now c.args.second.now = c.deref-in-AtMost.ensures.value ∙ c.in_ok-under.ensures in
    IfOk-weaker c.outside-in-AtMost.result _ _ (λ r over. arm s c.args.comparison AtMost c.args.first.now c.args.second.now r c.deref-in-AtMost.result.now (λ d ns. Fails s ns d) c.less-in-AtMost.result.now s.less c.in-AtMost.is names same (at_most_compared s sealed c.args.first.now c.args.second.now r) over) c.outside-in-AtMost.ensures

pub outside-requires-in-AtLeast-clause-closed : goal.outside-requires-in-AtLeast-clause-closed
outside-requires-in-AtLeast-clause-closed c =
    let s = c.args.system.now.value in
    let sealed : IsSealed s = subst IsSealed c.as_ref-sealed.ensures c.is_sealed.ensures in
    let same : c.less-in-AtLeast.result.now ≡ s.less = c.less-in-AtLeast.ensures.value ∙ ap (λ (v : SystemValue). v.less) c.as_ref-sealed.ensures in
    less_closed s sealed c.less-in-AtLeast.result.now same

pub outside-requires-in-AtLeast-clause-pair : goal.outside-requires-in-AtLeast-clause-pair
outside-requires-in-AtLeast-clause-pair c = ap length (c.deref-in-AtLeast.ensures.value ∙ c.in_ok-under.ensures) ∙ compared_two c.args.comparison c.args.first.now c.args.second.now

pub returns : goal.returns
returns c =
    let s = c.args.system.now.value in
    let sealed : IsSealed s = subst IsSealed c.as_ref-sealed.ensures c.is_sealed.ensures in
    let same : c.less-in-AtLeast.result.now ≡ s.less = c.less-in-AtLeast.ensures.value ∙ ap (λ (v : SystemValue). v.less) c.as_ref-sealed.ensures in
    let names : c.deref-in-AtLeast.result.now ≡ compared_names c.args.comparison c.args.first.now c.args.second.now = c.deref-in-AtLeast.ensures.value ∙ c.in_ok-under.ensures in
    IfOk-weaker c.outside-in-AtLeast.result _ _ (λ r over. arm s c.args.comparison AtLeast c.args.first.now c.args.second.now r c.deref-in-AtLeast.result.now (λ d ns. Fails s ns d) c.less-in-AtLeast.result.now s.less c.in-AtLeast.is names same (at_least_compared s sealed c.args.first.now c.args.second.now r) over) c.outside-in-AtLeast.ensures

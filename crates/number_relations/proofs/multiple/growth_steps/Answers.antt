use Rattle.std.proofs.Common.{ℕ, ◌≡◌, ◌+◌, List, [], ◌∷◌, inl, inr, refl}
use Rattle.std.specs.List.{Contains}
use Rattle.std.proofs.lemmas.List.Elements.{All-contains}
use Rattle.digit_tuple.proofs.MemberLemmas.{Contains-head}
use Rattle.product_op.specs.declared.op.Op.TheVariants.{And}
use Rattle.num_system.proofs.LineLemmas.{handed_on}
use Rattle.number_relations.specs.Multiples.{DoesGrowth}
use Rattle.number_relations.proofs.NamedSteps.{second_there}
use Rattle.number_relations.proofs.OverOne.{agree_over, direction_over, over_named, over_systems}
use Rattle.number_relations.proofs.multiple.growth_steps.Goals as goal

pub join_step-requires-clause-agree : goal.join_step-requires-clause-agree
join_step-requires-clause-agree c =
    let system = c.args.system.now.value in
    let w = c.args.growth.lesser.now in
    let z = c.args.growth.added.now in
    let y = c.args.growth.greater.now in
    let sum = c.in_ok-sum.sum in
    agree_over system c.args.relation.now sum c.requires.relation c.in_ok-sum.ensures.relation c.requires.systems (over_systems system (w ∷ z ∷ y ∷ []) (λ (f : List ℕ → ℕ). f w + f z ≡ f y) sum c.in_ok-sum.ensures)

pub returns-in_err-joined : goal.returns-in_err-joined
returns-in_err-joined c =
    let growth = c.args.growth in
    let new = c.join_step.new.steps in
    let fault = c.in_err-joined.field-0.0 in
    handed_on (λ r. DoesGrowth c.args.system.now.value growth.added.now growth.greater.now growth.lesser.now c.args.relation.now c.args.steps.now r new) c.from_residual-in_err-joined.result fault c.from_residual-in_err-joined.ensures.1
    (inr (c.in_ok-sum.sum, c.in_ok-sum.ensures, inr (fault, c.in_err-joined.ensures, refl)))

pub project_step-requires : goal.project_step-requires
project_step-requires c =
    let system = c.args.system.now.value in
    let w = c.args.growth.lesser.now in
    let z = c.args.growth.added.now in
    let y = c.args.growth.greater.now in
    let a = c.args.relation.now in
    let sum = c.in_ok-sum.sum in
    let joined = c.in_ok-joined.joined in
    let all = over_systems system (w ∷ z ∷ y ∷ []) (λ (f : List ℕ → ℕ). f w + f z ≡ f y) sum c.in_ok-sum.ensures in
    let agree = agree_over system a sum c.requires.relation c.in_ok-sum.ensures.relation c.requires.systems all in
    let direction = direction_over system a sum c.requires.systems all in
    let there = over_named system (w ∷ z ∷ y ∷ []) (λ (f : List ℕ → ℕ). f w + f z ≡ f y) sum c.in_ok-sum.ensures w (Contains-head w (z ∷ y ∷ [])) in
    record { there = All-contains (Contains joined.names) sum.names w (second_there And a sum joined c.requires.relation c.in_ok-sum.ensures.relation agree direction tt c.in_ok-joined.ensures.step.made_is) there }

pub returns : goal.returns
returns c = inr (c.in_ok-sum.sum, c.in_ok-sum.ensures, inl (c.in_ok-joined.joined, c.join_step.new.steps, c.in_ok-joined.ensures, c.project_step.ensures))

use Rattle.plan_relations.specs.KnownViews.{known_value}
use Rattle.std.proofs.Common.{◌≡◌, ◌<◌, List, [], ◌∷◌, ◌++◌, true, false, length, filter, get_or, Ok, Err, inr, subst, sym, ap, ◌∙◌, arith}
use Rattle.std.proofs.lemmas.List.{get_or_default, length-append}
use Rattle.digit_tuple.specs.Steps.{StepLog}
use Rattle.number_relations.specs.Relations.{RelationValue}
use Rattle.num_system.proofs.LineLemmas.{handed_on}
use Rattle.term_plans.specs.Plans.{is_step}
use Rattle.term_plans.specs.Makings.{plan_at}
use Rattle.plan_relations.specs.Building.{Builds, DoesSteps}
use Rattle.plan_relations.specs.MadeOf.{MayMake, DoesMaking, is_marked}
use Rattle.plan_relations.proofs.BuildingLemmas.{IsUnderWay, ends, mark_read, none, turn_made, turn_passed, turn_ready, turn_stopped}
use Rattle.plan_relations.proofs.plan_making.make_plans.Goals.{then-index+in_ok-relation, else-index+in_ok-relation-2}
use Rattle.plan_relations.proofs.plan_making.make_plans.Goals as goal

pub make-requires : goal.make-requires
make-requires c =
    let loop = c.loop-place.invariant in
    let marks = c.in_ok-needed.needed.items in
    let items = c.makings-makings.result.now in
    let i = c.loop-place.place in
    let argument_known : is_marked marks i ≡ true = mark_read marks i c.index.result.now true (omega (arith, c.loop-place-test.true, loop.needed.count, loop.makings.as_many)) c.index.ensures c.if-index.true in
    subst (λ (found : List RelationValue). MayMake (known_value c.args.known) found c.index-makings-place.result) (sym c.deref.ensures.value)
    (turn_ready c.args.steps.now c.loop-place.steps (known_value c.args.known) c.args.plans.now marks c.loop-place.made.items c.args.last items i c.index-makings-place.result loop.so_far loop.count loop.makings loop.needed
    c.loop-place-test.true c.index-makings-place.is c.requires.parts c.requires.ready argument_known)

pub returns-in_err-relation : goal.returns-in_err-relation
returns-in_err-relation c =
    let loop = c.loop-place.invariant in
    let marks = c.in_ok-needed.needed.items in
    let items = c.makings-makings.result.now in
    let i = c.loop-place.place in
    let m = c.index-makings-place.result in
    let l = (known_value c.args.known) in
    let fault = c.in_err-relation.field-0.0 in
    let argument_known : is_marked marks i ≡ true = mark_read marks i c.index.result.now true (omega (arith, c.loop-place-test.true, loop.needed.count, loop.makings.as_many)) c.index.ensures c.if-index.true in
    let does : DoesMaking c.loop-place.steps l c.loop-place.made.items m (Err fault) c.make.new.steps =
    subst (λ (found : List RelationValue). DoesMaking c.loop-place.steps l found m (Err fault) c.make.new.steps) c.deref.ensures.value c.in_err-relation.ensures in
    handed_on (λ r. Builds l (filter is_step c.args.plans.now) (plan_at c.args.plans.now c.args.last) c.args.steps.now r c.make.new.steps) c.from_residual-in_err-relation.result fault c.from_residual-in_err-relation.ensures.1
    (turn_stopped c.args.steps.now c.loop-place.steps l c.args.plans.now marks c.loop-place.made.items c.args.last items i m loop.so_far loop.count loop.makings loop.needed c.loop-place-test.true c.index-makings-place.is
    c.make.new.steps fault argument_known does)

pub loop-place-preserved : goal.loop-place-preserved
loop-place-preserved c =
    let loop = c.loop-place.invariant in
    let marks = c.in_ok-needed.needed.items in
    let items = c.makings-makings.result.now in
    let i = c.loop-place.place in
    let m = c.index-makings-place.result in
    let l = (known_value c.args.known) in
    let plans = c.args.plans.now in
    let rs = c.loop-place.made.items in
    let inside : i < length marks = omega (arith, c.loop-place-test.true, loop.needed.count, loop.makings.as_many) in
    let made = c.if-index.relation in
    let pushed = c.in_ok-push.ensures.items in
    let so_far : IsUnderWay c.args.steps.now l plans (plan_at plans c.args.last) marks (rs ++ made ∷ []) c.if-index.steps = elim c.if-index.branch [
      | then-index+in_ok-relation w ↦ (
          let r = w.in_ok-relation.relation in
          let log = w.make.new.steps in
          let does : DoesMaking c.loop-place.steps l rs m (Ok r) log = subst (λ (found : List RelationValue). DoesMaking c.loop-place.steps l found m (Ok r) log) w.deref.ensures.value w.in_ok-relation.ensures in
          let argument_known : is_marked marks i ≡ true = mark_read marks i c.index.result.now true inside c.index.ensures w.if-index.true in
          subst (λ (found : StepLog). IsUnderWay c.args.steps.now l plans (plan_at plans c.args.last) marks (rs ++ made ∷ []) found) (sym w.steps-is)
          (subst (λ (found : RelationValue). IsUnderWay c.args.steps.now l plans (plan_at plans c.args.last) marks (rs ++ found ∷ []) log) (sym w.relation-is)
          (turn_made c.args.steps.now c.loop-place.steps l plans marks rs c.args.last items i m loop.so_far loop.count loop.makings loop.needed c.loop-place-test.true c.index-makings-place.is log r argument_known does)))
      | else-index+in_ok-relation-2 w ↦ (
          let unmarked : is_marked marks i ≡ false = mark_read marks i c.index.result.now false inside c.index.ensures w.if-index.false in
          subst (λ (found : StepLog). IsUnderWay c.args.steps.now l plans (plan_at plans c.args.last) marks (rs ++ made ∷ []) found) (sym w.steps-is)
          (turn_passed c.args.steps.now c.loop-place.steps l plans marks rs c.args.last items i m loop.so_far loop.count loop.makings loop.needed c.loop-place-test.true c.index-makings-place.is made unmarked))
    ] in
    record {
      so_far = subst (λ (found : List RelationValue). IsUnderWay c.args.steps.now l plans (plan_at plans c.args.last) marks found c.if-index.steps) (sym pushed) so_far;
      count = ap length pushed ∙ (omega (arith, length-append rs (made ∷ []), loop.count));
      makings = loop.makings;
      needed = loop.needed;
    }

pub returns : goal.returns
returns c =
    let loop = c.loop-place.invariant in
    let plans = c.args.plans.now in
    let rs = c.loop-place.made.items in
    let all : length rs ≡ length plans = omega (arith, loop.count, loop.makings.as_many, c.loop-place-test.false, c.loop-place.auto.place-end) in
    let built = ends c.args.steps.now c.loop-place.steps (known_value c.args.known) plans c.in_ok-needed.needed.items rs c.args.last loop.so_far all c.requires.place loop.needed.last_is in
    let found : get_or rs c.args.last none ≡ c.swap_remove.result = get_or_default rs c.args.last none c.swap_remove.result (omega (arith, all, c.requires.place)) ∙ sym c.swap_remove.ensures.value in
    inr (subst (λ (r : RelationValue). DoesSteps (known_value c.args.known) (filter is_step plans) (plan_at plans c.args.last) c.args.steps.now (Ok r) c.loop-place.steps) found built)

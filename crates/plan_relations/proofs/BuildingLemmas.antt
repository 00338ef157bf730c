-- Plans made one after another: what is done from here on is done from the start.
use Rattle.plan_relations.specs.Parts.{IsPart, AreParts}
use Rattle.std.specs.List.{AllByRecursion}
use Rattle.std.proofs.Common.{◌≡◌, ℕ, suc, ◌<◌, Bool, true, false, List, [], ◌∷◌, ◌++◌, length, get_or, drop, filter, cond, Result, Ok, Err, inl, inr, refl, sym, ap, ◌∙◌, subst, arith, zero}
use Rattle.std.proofs.Math.Seq.{drop-cons, drop-length, get_or-append_seam}
use Rattle.std.proofs.lemmas.Bool.{cases_lt, false≢true}
use Rattle.std.proofs.lemmas.List.{get_or_append_left, length-append, get_or_default}
use Rattle.digit_tuple.specs.Steps.{StepLog}
use Rattle.digit_tuple.specs.declared.step_fault.StepFault.{StepFault}
use Rattle.term_plans.specs.Tracks.{fresh}
use Rattle.term_plans.specs.Plans.{Plan, is_step, number}
use Rattle.term_plans.specs.Makings.{plan_at, plan_by, IsMakingAt, AreMakingsOf}
use Rattle.term_plans.specs.declared.making.Making.{Making}
use Rattle.num_system.specs.Tracks.{no_automaton}
use Rattle.number_relations.specs.Relations.{RelationValue}
use Rattle.plan_relations.specs.Libraries.{LibraryValue}
use Rattle.plan_relations.specs.Makings.{Makes, IsReady}
use Rattle.plan_relations.specs.Building.{Builds, DoesLastStep, DoesSteps}
use Rattle.plan_relations.specs.MadeOf.{relation_at, AreMade, DoesMaking, is_marked, AreMarked, IsRooted, AreNeeded, MayMake}
use Rattle.plan_relations.proofs.PartReady.{part_of_part, part_ready}
use Rattle.plan_relations.proofs.MakingLemmas.{bare_by, made_by, step_by, may_make}

-- what is read where no plan is
abbrev absent : Plan
absent = number [] (fresh 0)

abbrev pub none : RelationValue
none = record { names = []; systems = []; automaton = no_automaton }

-- the steps among the plans from one of them on
abbrev steps_from : List Plan → ℕ → List Plan
steps_from plans n = filter is_step (drop n plans)

-- The first plans were made, and what the steps among the others do is what all steps do.
pub record IsUnderWay (old : StepLog) (l : LibraryValue) (plans : List Plan) (last : Plan) (marks : List Bool) (rs : List RelationValue) (now : StepLog) : Type 0 where
  pub made : AreMade l plans marks rs
  pub goes_on : (result : Result RelationValue StepFault) (new : StepLog) → DoesSteps l (steps_from plans (length rs)) last now result new → DoesSteps l (filter is_step plans) last old result new

steps_here : (plans : List Plan) (n : ℕ) → n < length plans → steps_from plans n ≡ cond (is_step (plan_at plans n)) (plan_at plans n ∷ steps_from plans (suc n)) (steps_from plans (suc n))
steps_here plans n inside = ap (filter is_step) (drop-cons plans n absent inside)

module _ (old now : StepLog) (l : LibraryValue) (plans : List Plan) (last : Plan) (marks : List Bool) (rs : List RelationValue) (so_far : IsUnderWay old l plans last marks rs now) (inside : length rs < length plans) where
  abbrev here : Plan
  here = plan_at plans (length rs)

  longer_made : (c : RelationValue) → (is_marked marks (length rs) ≡ true → Makes l here c) → AreMade l plans marks (rs ++ c ∷ [])
  longer_made c makes i within marked = elim (cases_lt i (length rs)) [
    | inl before ↦ subst (Makes l (plan_at plans i)) (sym (get_or_append_left rs (c ∷ []) none i before)) (so_far.made i before marked)
    | inr past ↦
        let at_end : length rs ≡ i = omega (arith, past, within, length-append rs (c ∷ [])) in
        subst (λ (k : ℕ). Makes l (plan_at plans k) (relation_at (rs ++ c ∷ []) k)) at_end
        (subst (Makes l here) (sym (get_or-append_seam rs c [] none)) (makes (subst (λ (k : ℕ). is_marked marks k ≡ true) (sym at_end) marked)))
  ]

  count : (c : RelationValue) → length (rs ++ c ∷ []) ≡ suc (length rs)
  count c = omega (arith, length-append rs (c ∷ []))

  after : (b : Bool) → is_step here ≡ b → steps_from plans (length rs) ≡ cond b (here ∷ steps_from plans (suc (length rs))) (steps_from plans (suc (length rs)))
  after b is = steps_here plans (length rs) inside ∙ ap (λ (c : Bool). cond c (here ∷ steps_from plans (suc (length rs))) (steps_from plans (suc (length rs)))) is

  -- with the steps after this plan
  goes_with : (b : Bool) → is_step here ≡ b → (result : Result RelationValue StepFault) (new : StepLog)
      → DoesSteps l (cond b (here ∷ steps_from plans (suc (length rs))) (steps_from plans (suc (length rs)))) last now result new → DoesSteps l (filter is_step plans) last old result new
  goes_with b is result new does = so_far.goes_on result new (subst (λ (ps : List Plan). DoesSteps l ps last now result new) (sym (after b is)) does)

  -- a plan that is no step
  pub passes : (c : RelationValue) → is_step here ≡ false → (is_marked marks (length rs) ≡ true → Makes l here c) → IsUnderWay old l plans last marks (rs ++ c ∷ []) now
  passes c bare makes = record {
    made = longer_made c makes;
    goes_on = λ result new does. goes_with false bare result new (subst (λ (n : ℕ). DoesSteps l (steps_from plans n) last now result new) (count c) does);
  }

  -- one that is a step
  pub takes : (mid : StepLog) (c : RelationValue) → is_step here ≡ true → Makes l here c → DoesLastStep l here now (Ok c) mid → IsUnderWay old l plans last marks (rs ++ c ∷ []) mid
  takes mid c is makes does = record {
    made = longer_made c (λ marked. makes);
    goes_on = λ result new rest. goes_with true is result new (inl (c, mid, does, subst (λ (n : ℕ). DoesSteps l (steps_from plans n) last mid result new) (count c) rest));
  }

  -- or one that is refused
  pub stops : (new : StepLog) (fault : StepFault) → is_step here ≡ true → DoesLastStep l here now (Err fault) new → DoesSteps l (filter is_step plans) last old (Err fault) new
  stops new fault is refused = goes_with true is (Err fault) new (inr (fault, refused, refl))

-- all plans were made
pub ends : (old now : StepLog) (l : LibraryValue) (plans : List Plan) (marks : List Bool) (rs : List RelationValue) (last : ℕ) → IsUnderWay old l plans (plan_at plans last) marks rs now → length rs ≡ length plans
    → last < length plans → is_marked marks last ≡ true → DoesSteps l (filter is_step plans) (plan_at plans last) old (Ok (relation_at rs last)) now
ends old now l plans marks rs last so_far all inside marked =
    so_far.goes_on (Ok (relation_at rs last)) now
    (subst (λ (ps : List Plan). DoesSteps l (filter is_step ps) (plan_at plans last) now (Ok (relation_at rs last)) now) (sym (ap (λ (n : ℕ). drop n plans) all ∙ drop-length plans))
    (inr (relation_at rs last, so_far.made last (omega (arith, all, inside)) marked, (refl, refl))))

module _ (old now new : StepLog) (l : LibraryValue) (plans : List Plan) (last : Plan) (marks : List Bool) (rs : List RelationValue) (m : Making) (so_far : IsUnderWay old l plans last marks rs now)
    (inside : length rs < length plans) (is : IsMakingAt plans (length rs) m) (are : AreMarked marks m) where
  makes_here : (c : RelationValue) → DoesMaking now l rs m (Ok c) new → Makes l (plan_at plans (length rs)) c
  makes_here c does = subst (λ (p : Plan). Makes l p c) is.makes (made_by now new l plans marks rs so_far.made m c are is.of_earlier does)

  step_here : (result : Result RelationValue StepFault) → is_step (plan_at plans (length rs)) ≡ true → DoesMaking now l rs m result new → DoesLastStep l (plan_at plans (length rs)) now result new
  step_here result step does =
      subst (λ (p : Plan). DoesLastStep l p now result new) is.makes
      (step_by now new l plans marks rs so_far.made m result are is.of_earlier does (ap is_step is.makes ∙ step))

  bare_here : is_step (plan_at plans (length rs)) ≡ false → is_step (plan_by plans m) ≡ false
  bare_here bare = ap is_step is.makes ∙ bare

  made_so : (b : Bool) (c : RelationValue) → is_step (plan_at plans (length rs)) ≡ b → DoesMaking now l rs m (Ok c) new → IsUnderWay old l plans last marks (rs ++ c ∷ []) new
  made_so true c step does = takes old now l plans last marks rs so_far inside new c step (makes_here c does) (step_here (Ok c) step does)
  made_so false c bare does =
      subst (λ (log : StepLog). IsUnderWay old l plans last marks (rs ++ c ∷ []) log) (sym (bare_by now new l plans marks rs so_far.made m (Ok c) does (bare_here bare)).0)
      (passes old now l plans last marks rs so_far inside c bare (λ marked. makes_here c does))

  -- the next one was made
  pub next_made : (c : RelationValue) → DoesMaking now l rs m (Ok c) new → IsUnderWay old l plans last marks (rs ++ c ∷ []) new
  next_made c does = made_so (is_step (plan_at plans (length rs))) c refl does

  stopped_so : (b : Bool) (fault : StepFault) → is_step (plan_at plans (length rs)) ≡ b → DoesMaking now l rs m (Err fault) new → Builds l (filter is_step plans) last old (Err fault) new
  stopped_so true fault step does = inr (stops old now l plans last marks rs so_far inside new fault step (step_here (Err fault) step does))
  stopped_so false fault bare does = inl (ap Err (bare_by now new l plans marks rs so_far.made m (Err fault) does (bare_here bare)).1)

  -- or not
  pub next_stopped : (fault : StepFault) → DoesMaking now l rs m (Err fault) new → Builds l (filter is_step plans) last old (Err fault) new
  next_stopped fault does = stopped_so (is_step (plan_at plans (length rs))) fault refl does

-- the making at the next place
pub making_here : (plans : List Plan) (ms : List Making) (rs : List RelationValue) (i : ℕ) (m : Making) → AreMakingsOf plans ms → length rs ≡ i → i < length ms → m ≡ get_or ms i m
    → IsMakingAt plans (length rs) m
making_here plans ms rs i m makings count within is =
    subst (λ (n : ℕ). IsMakingAt plans n m) (sym count) (subst (IsMakingAt plans i) (sym is) (makings.each i m within))

pub plan_inside : (plans : List Plan) (ms : List Making) (rs : List RelationValue) (i : ℕ) → AreMakingsOf plans ms → length rs ≡ i → i < length ms → length rs < length plans
plan_inside plans ms rs i makings count within = omega (arith, count, within, makings.as_many)

filtered_at : (P : Plan → Type 0) (p : Plan → Bool) (ps : List Plan) (i : ℕ) → AllByRecursion P (filter p ps) → i < length ps → p (plan_at ps i) ≡ true → P (plan_at ps i)
filtered_at P p [] i all within is = absurd (omega (arith, within))
filtered_at P p (q ∷ ps) zero all within is = (subst (λ (b : Bool). AllByRecursion P (cond b (q ∷ filter p ps) (filter p ps))) is all).0
filtered_at P p (q ∷ ps) (suc i) all within is = filtered_at P p ps i (rest (p q) all) (omega (arith, within)) is
  where
    rest : (b : Bool) → AllByRecursion P (cond b (q ∷ filter p ps) (filter p ps)) → AllByRecursion P (filter p ps)
    rest true all = all.1
    rest false all = all

-- each needed plan can be made, where the last one can, and all steps are parts of it
pub needed_ready : (l : LibraryValue) (plans : List Plan) (last : ℕ) (p : Plan) → AreParts (filter is_step plans) (plan_at plans last) → IsReady l (plan_at plans last) → IsRooted plans last p → IsReady l p
needed_ready l plans last p parts ready (inl part) = part_ready l p (plan_at plans last) part ready
needed_ready l plans last p parts ready (inr (i, within, step, part)) =
    part_ready l p (plan_at plans last) (part_of_part p (plan_at plans i) (plan_at plans last) part (filtered_at (λ q. IsPart q (plan_at plans last)) is_step plans i parts within step)) ready

-- one turn of the loop
module _ (old now : StepLog) (l : LibraryValue) (plans : List Plan) (marks : List Bool) (rs : List RelationValue) (last : ℕ) (ms : List Making) (i : ℕ) (m : Making)
    (so_far : IsUnderWay old l plans (plan_at plans last) marks rs now) (count : length rs ≡ i) (makings : AreMakingsOf plans ms) (needed : AreNeeded plans ms last marks) (within : i < length ms) (is : m ≡ get_or ms i m) where
  inside : length rs < length plans
  inside = plan_inside plans ms rs i makings count within

  at_here : IsMakingAt plans (length rs) m
  at_here = making_here plans ms rs i m makings count within is

  are_marked : is_marked marks i ≡ true → AreMarked marks m
  are_marked known = needed.parts i m (omega (arith, within, makings.as_many)) is known

  -- a needed plan can be made
  pub turn_ready : AreParts (filter is_step plans) (plan_at plans last) → IsReady l (plan_at plans last) → is_marked marks i ≡ true → MayMake l rs m
  turn_ready parts ready known =
      may_make l plans marks rs m so_far.made (are_marked known) at_here
      (needed_ready l plans last (plan_at plans (length rs)) parts ready (needed.rooted (length rs) inside (ap (is_marked marks) count ∙ known)))

  -- and is made
  pub turn_made : (new : StepLog) (c : RelationValue) → is_marked marks i ≡ true → DoesMaking now l rs m (Ok c) new → IsUnderWay old l plans (plan_at plans last) marks (rs ++ c ∷ []) new
  turn_made new c known does = next_made old now new l plans (plan_at plans last) marks rs m so_far inside at_here (are_marked known) c does

  pub turn_stopped : (new : StepLog) (fault : StepFault) → is_marked marks i ≡ true → DoesMaking now l rs m (Err fault) new → Builds l (filter is_step plans) (plan_at plans last) old (Err fault) new
  turn_stopped new fault known does = next_stopped old now new l plans (plan_at plans last) marks rs m so_far inside at_here (are_marked known) fault does

  -- another is passed over
  pub turn_passed : (c : RelationValue) → is_marked marks i ≡ false → IsUnderWay old l plans (plan_at plans last) marks (rs ++ c ∷ []) now
  turn_passed c unmarked = passes old now l plans (plan_at plans last) marks rs so_far inside c (no_step (is_step (plan_at plans (length rs))) refl) (λ marked. absurd (false≢true (sym (ap (is_marked marks) count ∙ unmarked) ∙ marked)))
    where
      no_step : (b : Bool) → is_step (plan_at plans (length rs)) ≡ b → b ≡ false
      no_step false known = refl
      no_step true known = absurd (false≢true (sym (ap (is_marked marks) count ∙ unmarked) ∙ needed.steps (length rs) inside known))

-- a mark that was read
pub mark_read : (marks : List Bool) (i : ℕ) (b c : Bool) → i < length marks → b ≡ get_or marks i b → b ≡ c → is_marked marks i ≡ c
mark_read marks i b c within is known = get_or_default marks i false b within ∙ sym is ∙ known

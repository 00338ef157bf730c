-- Multiples made by doubling.
use Rattle.std.proofs.Common.{◌≡◌, ◌≢◌, ℕ, zero, suc, ◌+◌, ◌*◌, ◌/◌, ◌%◌, ◌-◌, ◌<◌, ◌≤◌, Bool, true, false, nat_eq, nat_lt, List, [], ◌∷◌, map, Result, Ok, inl, inr, ◌⊎◌, refl, sym, ap, ◌∙◌, subst, ◌↔◌, arith, one-mul, zero-mul, if◌then◌else◌}
use Rattle.std.specs.Bool.{⊤}
use Rattle.std.specs.List.{AllByRecursion, Contains}
use Rattle.std.proofs.lemmas.Bool.{cases_lt}
use Rattle.std.proofs.lemmas.Bool.Decides.{Decides-eqb, Decides-ltb}
use Rattle.std.proofs.lemmas.List.Elements.{All-contains}
use Rattle.digit_tuple.specs.Names.{AreDistinct, joint_names}
use Rattle.digit_tuple.specs.StepResults.{Then}
use Rattle.digit_tuple.specs.Steps.{StepLog}
use Rattle.digit_tuple.specs.declared.step_fault.StepFault.{StepFault}
use Rattle.digit_tuple.proofs.JointNames.{AreJoint-joint_names}
use Rattle.digit_tuple.proofs.MemberLemmas.{Contains-cases, Contains-head, Contains-none, Contains-tail}
use Rattle.product_op.specs.declared.op.Op.TheVariants.{And}
use Rattle.automaton_steps.specs.Makings.{DoesStep, WithSome}
use Rattle.automaton_steps.proofs.AnswerCases.{both_done}
use Rattle.num_system.specs.Sealed.{SystemValue, IsSealed}
use Rattle.number_relations.specs.Relations.{RelationValue, IsRelation, RelationHolds}
use Rattle.number_relations.specs.Placed.{each_once}
use Rattle.number_relations.specs.Comparisons.{IsAnyNumber, IsComparison, IsSumRelation}
use Rattle.num_system.specs.declared.comparison.Comparison.TheVariants.{Equal}
use Rattle.number_relations.specs.Constants.{IsRelationConstant, relation_constant_step}
use Rattle.number_relations.specs.Joins.{AgreeOnSystems, HaveOneDirection, IsRelationJoin, relation_join_step}
use Rattle.number_relations.specs.Projections.{IsRelationProjection, relation_project_step}
use Rattle.number_relations.specs.Multiples.{addend, DoesGrown, DoesGrowth, DoesMultiple, factors, factors_within, IsMultiple, lesser_factor}
use Rattle.number_relations.proofs.ConstantRelations.{constant_holds, constant_is}
use Rattle.number_relations.proofs.GrowthLemmas.{Grows, growth_multiple}
use Rattle.number_relations.proofs.JoinLemmas.{join_is}
use Rattle.number_relations.proofs.JointSystems.{joint_all}
use Rattle.number_relations.proofs.NamedSteps.{first_there, join_named, own_named, second_there}
use Rattle.number_relations.proofs.SomeMade.{given_made, some_made}
use Rattle.number_relations.proofs.OverOne.{agree_over, direction_over, over_among, over_named, over_systems}

-- two names are these
either_of : (x y name : List ℕ) → Contains (x ∷ y ∷ []) name → (name ≡ x) ⊎ (name ≡ y)
either_of x y name found = elim (Contains-cases x (y ∷ []) name found) [
  | inl is_x ↦ inl (sym is_x)
  | inr later ↦ elim (Contains-cases y [] name later) [
    | inl is_y ↦ inr (sym is_y)
    | inr none ↦ absurd (Contains-none name none)
  ]
]

both_of : (x y name : List ℕ) → (name ≡ x) ⊎ (name ≡ y) → Contains (x ∷ y ∷ []) name
both_of x y name (inl is_x) = subst (Contains (x ∷ y ∷ [])) (sym is_x) (Contains-head x (y ∷ []))
both_of x y name (inr is_y) = subst (Contains (x ∷ y ∷ [])) (sym is_y) (Contains-tail x (y ∷ []) y (Contains-head y []))

-- equality is the multiple by 1
pub equal_multiple : (system : SystemValue) (x y : List ℕ) (r : RelationValue) → IsComparison system Equal x y r → IsMultiple system 1 x y r
equal_multiple system x y r is = record {
  relation = is.relation;
  names = λ name. (λ found. either_of x y name (over_among system (x ∷ y ∷ []) Same r is name found), λ one. over_named system (x ∷ y ∷ []) Same r is name (both_of x y name one));
  systems = over_systems system (x ∷ y ∷ []) Same r is;
  holds_of = λ f.
      let here = own_named (each_once (x ∷ y ∷ [])) (map (λ name. system) (each_once (x ∷ y ∷ []))) Same r is f in
      (λ holds. sym (here.0 holds) ∙ sym (one-mul (f x)), λ equal. here.1 (sym (equal ∙ one-mul (f x))));
}
  where
    Same : (List ℕ → ℕ) → Type 0
    Same f = f x ≡ f y

-- the sum of a number with itself is the multiple by 2
pub double_multiple : (system : SystemValue) (x y : List ℕ) (r : RelationValue) → IsSumRelation system x x y r → IsMultiple system 2 x y r
double_multiple system x y r is = record {
  relation = is.relation;
  names = λ name. (λ found. among name (over_among system (x ∷ x ∷ y ∷ []) Twice r is name found), λ one. over_named system (x ∷ x ∷ y ∷ []) Twice r is name (Contains-tail x (x ∷ y ∷ []) name (both_of x y name one)));
  systems = over_systems system (x ∷ x ∷ y ∷ []) Twice r is;
  holds_of = λ f.
      let here = own_named (each_once (x ∷ x ∷ y ∷ [])) (map (λ name. system) (each_once (x ∷ x ∷ y ∷ []))) Twice r is f in
      (λ holds. let sum : f x + f x ≡ f y = here.0 holds in omega (arith, sum), λ double. here.1 (omega (arith, double)));
}
  where
    Twice : (List ℕ → ℕ) → Type 0
    Twice f = f x + f x ≡ f y

    among : (name : List ℕ) → Contains (x ∷ x ∷ y ∷ []) name → (name ≡ x) ⊎ (name ≡ y)
    among name found = elim (Contains-cases x (x ∷ y ∷ []) name found) [
      | inl is_x ↦ inl (sym is_x)
      | inr later ↦ either_of x y name later
    ]

-- a factor above 2 comes from the lesser one
even_step : (c : ℕ) (x w : List ℕ) (b : Bool) → nat_eq (c % 2) 0 ≡ b → 2 < c
    → Grows (if b then c / 2 else c - 1) c x w (if b then w else x) × (1 < (if b then c / 2 else c - 1)) × ((if b then c / 2 else c - 1) < c)
even_step c x w true even above =
    let none : c % 2 ≡ 0 = (Decides-eqb (c % 2) 0).0 even in
    (inl (refl, omega (arith, none)), omega (arith, none, above), omega (arith, above))
even_step c x w false odd above = (inr (refl, omega (arith, above)), omega (arith, above), omega (arith, above))

pub lesser_step : (c : ℕ) (x w : List ℕ) → 2 < c → Grows (lesser_factor c) c x w (addend c x w) × (1 < lesser_factor c) × (lesser_factor c < c)
lesser_step c x w above = even_step c x w (nat_eq (c % 2) 0) refl above

-- the factors from one on, whatever the most of them is
within_above : (few c : ℕ) → 2 < c → factors_within (suc few) c ≡ c ∷ factors_within few (lesser_factor c)
within_above few c above = ap (λ b. if b then c ∷ factors_within few (lesser_factor c) else []) ((Decides-ltb 2 c).1 above)

within_below : (few c : ℕ) → c ≤ 2 → factors_within (suc few) c ≡ []
within_below few c below = by (nat_lt 2 c) refl
  where
    by : (b : Bool) → nat_lt 2 c ≡ b → (if b then c ∷ factors_within few (lesser_factor c) else []) ≡ []
    by true above = absurd (let more : 2 < c = (Decides-ltb 2 c).0 above in omega (arith, more, below))
    by false above = refl

within_enough : (m n c : ℕ) → c ≤ m + 2 → c ≤ n + 2 → factors_within m c ≡ factors_within n c
within_enough zero zero c first second = refl
within_enough zero (suc n) c first second = sym (within_below n c (omega (arith, first)))
within_enough (suc m) zero c first second = within_below m c (omega (arith, second))
within_enough (suc m) (suc n) c first second = elim (cases_lt 2 c) [
  | inl above ↦ (let step = lesser_step c [] [] above in
      within_above m c above ∙ ap (λ cs. c ∷ cs) (within_enough m n (lesser_factor c) (omega (arith, first, step.2)) (omega (arith, second, step.2))) ∙ sym (within_above n c above))
  | inr below ↦ within_below m c below ∙ sym (within_below n c below)
]

-- so they are the factor and those from its lesser one on
pub factors_above : (c : ℕ) → 2 < c → factors c ≡ c ∷ factors (lesser_factor c)
factors_above zero above = absurd (omega (arith, above))
factors_above (suc c) above =
    let step = lesser_step (suc c) [] [] above in
    within_above c (suc c) above ∙ ap (λ cs. suc c ∷ cs) (within_enough c (lesser_factor (suc c)) (lesser_factor (suc c)) (omega (arith, step.2)) (omega arith))

-- the steps of a factor above 1
pub steps_above : (system : SystemValue) (c : ℕ) (x y w : List ℕ) (old new : StepLog) (result : Result RelationValue StepFault) → 1 < c
    → DoesMultiple system c x y w old result new ↔ DoesGrown system (factors c) x y w old result new
steps_above system zero x y w old new result above = absurd (omega (arith, above))
steps_above system (suc zero) x y w old new result above = absurd (omega (arith, above))
steps_above system (suc (suc c)) x y w old new result above = (λ is. is, λ is. is)

module _ (system : SystemValue) where
  -- what a growth made
  growth_made : (z y w : List ℕ) (lesser r : RelationValue) (old new : StepLog) → DoesGrowth system z y w lesser old (Ok r) new
      → (sum : RelationValue) × (joined : RelationValue) × IsSumRelation system w z y sum × IsRelationJoin And lesser sum joined × IsRelationProjection w joined r
  growth_made z y w lesser r old new grows =
      let Next : RelationValue → RelationValue → StepLog → Result RelationValue StepFault → StepLog → Type 0 = λ sum joined. DoesStep (relation_project_step w joined) in
      let some = some_made (IsSumRelation system w z y) (λ sum. Then (DoesStep (relation_join_step And lesser sum)) (Next sum)) old new r grows in
      let made = both_done (DoesStep (relation_join_step And lesser some.0)) (Next some.0) old new r some.2 in
      (some.0, made.0, some.1, made.2.step.made_is, made.3.step.made_is)

  grown_step : (c : ℕ) (x y w : List ℕ) (old new : StepLog) (lesser r : RelationValue) → x ≢ y → x ≢ w → y ≢ w → 2 < c → IsMultiple system (lesser_factor c) x w lesser
      → DoesGrowth system (addend c x w) y w lesser old (Ok r) new → IsMultiple system c x y r
  grown_step c x y w old new lesser r apart apart_x apart_y above lesser_is grows =
      let made = growth_made (addend c x w) y w lesser r old new grows in
      growth_multiple system x y w (addend c x w) apart apart_x apart_y (lesser_factor c) c (lesser_step c x w above).0 lesser made.0 made.1 r lesser_is made.2 made.3 made.4

  doubled_made : (x y w : List ℕ) (old new : StepLog) (r : RelationValue) → DoesGrown system [] x y w old (Ok r) new → IsMultiple system 2 x y r
  doubled_made x y w old new r grown = double_multiple system x y r (given_made (IsSumRelation system x x y) old new r grown)

  -- the steps from the double on make the multiple
  grown_multiple : (few c : ℕ) (x y w : List ℕ) (old new : StepLog) (r : RelationValue) → x ≢ y → x ≢ w → y ≢ w → 1 < c → c ≤ few + 2
      → DoesGrown system (factors_within few c) x y w old (Ok r) new → IsMultiple system c x y r
  grown_multiple zero c x y w old new r apart apart_x apart_y above few grown =
      let two : 2 ≡ c = omega (arith, above, few) in
      subst (λ n. IsMultiple system n x y r) two (doubled_made x y w old new r grown)
  grown_multiple (suc few) c x y w old new r apart apart_x apart_y above most grown = elim (cases_lt 2 c) [
    | inl more ↦ (let step = lesser_step c x w more in
        let cs : List ℕ = factors_within few (lesser_factor c) in
        let made = both_done (DoesGrown system cs x w y) (DoesGrowth system (addend c x w) y w) old new r (subst (λ cs. DoesGrown system cs x y w old (Ok r) new) (within_above few c more) grown) in
        grown_step c x y w made.1 new made.0 r apart apart_x apart_y more
        (grown_multiple few (lesser_factor c) x w y old made.1 made.0 apart_x apart (λ same. apart_y (sym same)) step.1 (omega (arith, most, step.2)) made.2) made.3)
    | inr least ↦ (let two : 2 ≡ c = omega (arith, above, least) in
        subst (λ n. IsMultiple system n x y r) two (doubled_made x y w old new r (subst (λ cs. DoesGrown system cs x y w old (Ok r) new) (within_below few c least) grown)))
  ]

  -- the constant 0 with any number is the multiple by 0
  joined_zero : (x y : List ℕ) (zero_is number r : RelationValue) → IsSealed system → IsRelationConstant system 0 y zero_is → IsAnyNumber system x number → IsRelationJoin And zero_is number r
      → IsMultiple system 0 x y r
  joined_zero x y zero_is number r sealed zero_made number_made joins = record {
    relation = join_is zero_is number zero_relation number_made.relation agree direction And r tt joins;
    names = λ name. (named name, there name);
    systems = subst (λ (ss : List SystemValue). AllByRecursion (λ (s : SystemValue). s ≡ system) ss) (sym joins.systems)
        (joint_all zero_is number zero_relation number_made.relation agree (λ (s : SystemValue). s ≡ system) zero_systems number_systems);
    holds_of = holds;
  }
    where
      zero_relation : IsRelation zero_is
      zero_relation = constant_is system 0 y zero_is sealed zero_made

      zero_systems : AllByRecursion (λ (s : SystemValue). s ≡ system) zero_is.systems
      zero_systems = subst (λ (ss : List SystemValue). AllByRecursion (λ (s : SystemValue). s ≡ system) ss) (sym zero_made.systems) (refl, tt)

      Any : (List ℕ → ℕ) → Type 0
      Any f = ⊤

      number_systems : AllByRecursion (λ (s : SystemValue). s ≡ system) number.systems
      number_systems = over_systems system (x ∷ []) Any number number_made

      agree : AgreeOnSystems zero_is number
      agree = agree_over system zero_is number zero_relation number_made.relation zero_systems number_systems

      direction : HaveOneDirection zero_is number
      direction = direction_over system zero_is number zero_systems number_systems

      one_of : (n name : List ℕ) → Contains (n ∷ []) name → name ≡ n
      one_of n name found = elim (Contains-cases n [] name found) [
        | inl is ↦ sym is
        | inr none ↦ absurd (Contains-none name none)
      ]

      named : (name : List ℕ) → Contains r.names name → (name ≡ x) ⊎ (name ≡ y)
      named name found =
          let joint : Contains (joint_names zero_is.names number.names) name = subst (λ (ns : List (List ℕ)). Contains ns name) joins.join.names found in
          elim (All-contains (λ n. Contains zero_is.names n ⊎ Contains number.names n) (joint_names zero_is.names number.names) name (AreJoint-joint_names zero_is.names number.names).no_others joint) [
            | inl first ↦ inr (one_of y name (subst (λ (ns : List (List ℕ)). Contains ns name) zero_made.names first))
            | inr second ↦ inl (one_of x name (over_among system (x ∷ []) Any number number_made name second))
          ]

      there : (name : List ℕ) → (name ≡ x) ⊎ (name ≡ y) → Contains r.names name
      there name (inl is_x) =
          All-contains (Contains r.names) number.names name (second_there And zero_is number r zero_relation number_made.relation agree direction tt joins)
          (subst (Contains number.names) (sym is_x) (over_named system (x ∷ []) Any number number_made x (Contains-head x [])))
      there name (inr is_y) =
          All-contains (Contains r.names) zero_is.names name (first_there And zero_is number r zero_relation number_made.relation agree direction tt joins)
          (subst (Contains zero_is.names) (sym is_y) (subst (λ (ns : List (List ℕ)). Contains ns y) (sym zero_made.names) (Contains-head y [])))

      holds : (f : List ℕ → ℕ) → RelationHolds r (map f r.names) ↔ (f y ≡ 0 * f x)
      holds f = (
        λ is. zero_holds.0 (both.0 is).0 ∙ sym (zero-mul (f x)),
        λ is. both.1 (zero_holds.1 (is ∙ zero-mul (f x)), (own_named (x ∷ []) (system ∷ []) Any number number_made f).1 tt),
      )
        where
          both : RelationHolds r (map f r.names) ↔ (RelationHolds zero_is (map f zero_is.names) × RelationHolds number (map f number.names))
          both = join_named And zero_is number r zero_relation number_made.relation agree direction tt joins f

          zero_holds : RelationHolds zero_is (map f zero_is.names) ↔ (f y ≡ 0)
          zero_holds = subst (λ (ns : List (List ℕ)). RelationHolds zero_is (map f ns) ↔ (f y ≡ 0)) (sym zero_made.names) (constant_holds system 0 y zero_is sealed zero_made (f y))

  -- the steps of each factor make its multiple
  pub steps_multiple : (factor : ℕ) (x y w : List ℕ) (old new : StepLog) (r : RelationValue) → IsSealed system → AreDistinct (x ∷ y ∷ w ∷ []) → DoesMultiple system factor x y w old (Ok r) new
      → IsMultiple system factor x y r
  steps_multiple zero x y w old new r sealed distinct does =
      let Next : RelationValue → RelationValue → StepLog → Result RelationValue StepFault → StepLog → Type 0 = λ zero_is number. DoesStep (relation_join_step And zero_is number) in
      let made = both_done (DoesStep (relation_constant_step system 0 y)) (λ zero_is. WithSome (IsAnyNumber system x) (Next zero_is)) old new r does in
      let some = some_made (IsAnyNumber system x) (Next made.0) made.1 new r made.3 in
      joined_zero x y made.0 some.0 r sealed made.2.step.made_is some.1 some.2.step.made_is
  steps_multiple (suc zero) x y w old new r sealed distinct does = equal_multiple system x y r (given_made (IsComparison system Equal x y) old new r does)
  steps_multiple (suc (suc c)) x y w old new r sealed distinct does =
      grown_multiple (suc (suc c)) (suc (suc c)) x y w old new r (distinct 0 1 [] (omega arith) (omega arith)) (distinct 0 2 [] (omega arith) (omega arith)) (distinct 1 2 [] (omega arith) (omega arith)) (omega arith) (omega arith) does

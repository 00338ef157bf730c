-- A multiple grows from a lesser one by a product and a projection.
use Rattle.std.proofs.Common.{◌≡◌, ◌≢◌, ℕ, ◌+◌, ◌*◌, List, [], ◌∷◌, map, inl, inr, ◌⊎◌, refl, sym, ap, ◌∙◌, subst, ◌↔◌, add-mul, one-mul}
use Rattle.std.specs.List.{AllByRecursion, Contains}
use Rattle.std.proofs.lemmas.List.Elements.{All-contains}
use Rattle.digit_tuple.specs.Names.{joint_names, names_without}
use Rattle.digit_tuple.proofs.JointNames.{AreJoint-joint_names}
use Rattle.digit_tuple.proofs.MemberLemmas.{Contains-cases, Contains-head, Contains-none, Contains-tail}
use Rattle.product_op.specs.declared.op.Op.TheVariants.{And}
use Rattle.project_close.proofs.ProjectionLemmas.{names_without-there}
use Rattle.num_system.specs.Sealed.{SystemValue}
use Rattle.number_relations.specs.Relations.{RelationValue, IsRelation, RelationHolds}
use Rattle.number_relations.specs.Placed.{each_once}
use Rattle.number_relations.specs.Comparisons.{IsSumRelation}
use Rattle.number_relations.specs.Joins.{AgreeOnSystems, HaveOneDirection, IsRelationJoin}
use Rattle.number_relations.specs.Projections.{IsRelationProjection}
use Rattle.number_relations.specs.Multiples.{IsMultiple}
use Rattle.number_relations.proofs.JoinLemmas.{join_is}
use Rattle.number_relations.proofs.JointSystems.{joint_all}
use Rattle.number_relations.proofs.NamedSteps.{changed, changed_other, changed_there, first_there, join_named, other_stays, own_named, projection_named, second_there, stays_other}
use Rattle.number_relations.proofs.OverOne.{agree_over, direction_over, over_among, over_named, over_systems}
use Rattle.number_relations.proofs.PlacedLemmas.{all_under}
use Rattle.number_relations.proofs.ProjectLemmas.{projection_is}

-- twice so many times a number, and once more
doubled : (k c n m : ℕ) → c ≡ k + k → m ≡ k * n → m + m ≡ c * n
doubled k c n m twice is = ap (λ q. q + q) is ∙ sym (add-mul k k n) ∙ ap (λ d. d * n) (sym twice)

increased : (k c n m : ℕ) → c ≡ k + 1 → m ≡ k * n → m + n ≡ c * n
increased k c n m more is = ap (λ q. q + n) is ∙ ap (λ q. k * n + q) (sym (one-mul n)) ∙ sym (add-mul k 1 n) ∙ ap (λ d. d * n) (sym more)

-- the multiple by c of x comes from that by k, which is under w, by adding the number under z to it
abbrev pub Grows : ℕ → ℕ → List ℕ → List ℕ → List ℕ → Type 0
Grows k c x w z = ((z ≡ w) × (c ≡ k + k)) ⊎ ((z ≡ x) × (c ≡ k + 1))

module _ (system : SystemValue) (x y w z : List ℕ) (apart : x ≢ y) (apart_x : x ≢ w) (apart_y : y ≢ w) (k c : ℕ) (grows : Grows k c x w z)
    (lesser sum joined r : RelationValue) (lesser_is : IsMultiple system k x w lesser) (sum_is : IsSumRelation system w z y sum)
    (joins : IsRelationJoin And lesser sum joined) (projects : IsRelationProjection w joined r) where
  abbrev addends : List (List ℕ)
  addends = w ∷ z ∷ y ∷ []

  abbrev Adds : (List ℕ → ℕ) → Type 0
  Adds f = f w + f z ≡ f y

  sum_systems : AllByRecursion (λ (s : SystemValue). s ≡ system) sum.systems
  sum_systems = over_systems system addends Adds sum sum_is

  agree : AgreeOnSystems lesser sum
  agree = agree_over system lesser sum lesser_is.relation sum_is.relation lesser_is.systems sum_systems

  direction : HaveOneDirection lesser sum
  direction = direction_over system lesser sum lesser_is.systems sum_systems

  joined_is : IsRelation joined
  joined_is = join_is lesser sum lesser_is.relation sum_is.relation agree direction And joined tt joins

  joined_systems : AllByRecursion (λ (s : SystemValue). s ≡ system) joined.systems
  joined_systems = subst (λ (ss : List SystemValue). AllByRecursion (λ (s : SystemValue). s ≡ system) ss) (sym joins.systems)
      (joint_all lesser sum lesser_is.relation sum_is.relation agree (λ (s : SystemValue). s ≡ system) lesser_is.systems sum_systems)

  -- the names of the result are x and y
  among : (name : List ℕ) → Contains addends name → name ≢ w → (name ≡ x) ⊎ (name ≡ y)
  among name found other = elim (Contains-cases w (z ∷ y ∷ []) name found) [
    | inl is_w ↦ absurd (other (sym is_w))
    | inr later ↦ elim (Contains-cases z (y ∷ []) name later) [
      | inl is_z ↦ elim grows [
        | inl twice ↦ absurd (other (sym is_z ∙ twice.0))
        | inr more ↦ inl (sym is_z ∙ more.0)
      ]
      | inr last ↦ elim (Contains-cases y [] name last) [
        | inl is_y ↦ inr (sym is_y)
        | inr none ↦ absurd (Contains-none name none)
      ]
    ]
  ]

  of_lesser : (name : List ℕ) → (name ≡ x) ⊎ (name ≡ w) → name ≢ w → (name ≡ x) ⊎ (name ≡ y)
  of_lesser name (inl is_x) other = inl is_x
  of_lesser name (inr is_w) other = absurd (other is_w)

  named : (name : List ℕ) → Contains r.names name → (name ≡ x) ⊎ (name ≡ y)
  named name found =
      let here : Contains (names_without joined.names w) name = subst (λ (ns : List (List ℕ)). Contains ns name) projects.projection.names found in
      let other : name ≢ w = stays_other joined.names w name here in
      let joint : Contains (joint_names lesser.names sum.names) name = subst (λ (ns : List (List ℕ)). Contains ns name) joins.join.names (All-contains (Contains joined.names) (names_without joined.names w) name (names_without-there joined.names w) here) in
      elim (All-contains (λ n. Contains lesser.names n ⊎ Contains sum.names n) (joint_names lesser.names sum.names) name (AreJoint-joint_names lesser.names sum.names).no_others joint) [
        | inl first ↦ of_lesser name ((lesser_is.names name).0 first) other
        | inr second ↦ among name (over_among system addends Adds sum sum_is name second) other
      ]

  stays : (name : List ℕ) → Contains joined.names name → name ≢ w → Contains r.names name
  stays name found other = subst (λ (ns : List (List ℕ)). Contains ns name) (sym projects.projection.names) (other_stays joined.names w name found other)

  x_there : Contains r.names x
  x_there = stays x (All-contains (Contains joined.names) lesser.names x (first_there And lesser sum joined lesser_is.relation sum_is.relation agree direction tt joins) ((lesser_is.names x).1 (inl refl))) apart_x

  y_there : Contains r.names y
  y_there =
      stays y (All-contains (Contains joined.names) sum.names y (second_there And lesser sum joined lesser_is.relation sum_is.relation agree direction tt joins)
      (over_named system addends Adds sum sum_is y (Contains-tail w (z ∷ y ∷ []) y (Contains-tail z (y ∷ []) y (Contains-head y []))))) apart_y

  there : (name : List ℕ) → (name ≡ x) ⊎ (name ≡ y) → Contains r.names name
  there name (inl is_x) = subst (Contains r.names) (sym is_x) x_there
  there name (inr is_y) = subst (Contains r.names) (sym is_y) y_there

  -- what is added under z, with a number m under w
  added : (f : List ℕ → ℕ) (m : ℕ) → m ≡ k * f x → m + changed f w m z ≡ c * f x
  added f m is = elim grows [
    | inl twice ↦ ap (λ n. m + n) (ap (changed f w m) twice.0 ∙ changed_there f w m) ∙ doubled k c (f x) m twice.1 is
    | inr more ↦ ap (λ n. m + n) (ap (changed f w m) more.0 ∙ changed_other f w m x apart_x) ∙ increased k c (f x) m more.1 is
  ]

  holds : (f : List ℕ → ℕ) → RelationHolds r (map f r.names) ↔ (f y ≡ c * f x)
  holds f = (forth, back)
    where
      both : (g : List ℕ → ℕ) → RelationHolds joined (map g joined.names) ↔ (RelationHolds lesser (map g lesser.names) × RelationHolds sum (map g sum.names))
      both g = join_named And lesser sum joined lesser_is.relation sum_is.relation agree direction tt joins g

      sums : (g : List ℕ → ℕ) → RelationHolds sum (map g sum.names) ↔ Adds g
      sums g = own_named (each_once addends) (map (λ name. system) (each_once addends)) Adds sum sum_is g

      forth : RelationHolds r (map f r.names) → f y ≡ c * f x
      forth is =
          let found = (projection_named w joined r joined_is projects f).0 is in
          let m : ℕ = found.0 in
          let g : List ℕ → ℕ = changed f w m in
          let parts = (both g).0 found.1 in
          let one : g w ≡ k * g x = (lesser_is.holds_of g).0 parts.0 in
          let lesser_one : m ≡ k * f x = sym (changed_there f w m) ∙ one ∙ ap (λ n. k * n) (changed_other f w m x apart_x) in
          let whole : g w + g z ≡ g y = (sums g).0 parts.1 in
          sym (changed_other f w m y apart_y) ∙ sym whole ∙ ap (λ n. n + g z) (changed_there f w m) ∙ added f m lesser_one

      back : f y ≡ c * f x → RelationHolds r (map f r.names)
      back is =
          let m : ℕ = k * f x in
          let g : List ℕ → ℕ = changed f w m in
          let one : g w ≡ k * g x = changed_there f w m ∙ ap (λ n. k * n) (sym (changed_other f w m x apart_x)) in
          let whole : g w + g z ≡ g y = ap (λ n. n + g z) (changed_there f w m) ∙ added f m refl ∙ sym is ∙ sym (changed_other f w m y apart_y) in
          (projection_named w joined r joined_is projects f).1 (m, (both g).1 ((lesser_is.holds_of g).1 one, (sums g).1 whole))

  pub growth_multiple : IsMultiple system c x y r
  growth_multiple = record {
    relation = projection_is w joined r joined_is projects;
    names = λ name. (named name, there name);
    systems = subst (λ (ss : List SystemValue). AllByRecursion (λ (s : SystemValue). s ≡ system) ss) (sym projects.systems)
        (all_under (λ (s : SystemValue). s ≡ system) joined.names joined.systems (sym joined_is.count) joined_systems (names_without joined.names w) (names_without-there joined.names w));
    holds_of = holds;
  }

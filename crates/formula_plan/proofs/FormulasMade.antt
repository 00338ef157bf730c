-- Plans of formulas, made part by part.
use Rattle.std.specs.List.{fold}
use Rattle.std.proofs.Common.{◌≡◌, ℕ, suc, ◌+◌, ◌<◌, ◌≤◌, Bool, true, false, if◌then◌else◌, List, [], ◌∷◌, ◌++◌, map, length, get_or, take, Option, None, Some, Result, Ok, Err, IfOk, refl, sym, ◌∙◌, ap, subst, arith, append-nil, append_assoc, length-append, below_more}
use Rattle.std.proofs.lemmas.List.{take_more, take_all, map-append, get_or_append_left}
use Rattle.std.proofs.Math.Seq.{get_or-append_seam}
use Rattle.std.proofs.lemmas.List.Sums.{fold-append}
use Rattle.formula_parse.specs.Tokens.{Name, Quantifier, some, every, infinite}
use Rattle.formula_parse.specs.Tokens as tokens
use Rattle.formula_parse.specs.Trees.{Names, no_names, names, no_operands, Joint, and, Formula, negated, chain, quantified}
use Rattle.formula_parse.specs.Views.{formula_view, operand_view, operands_view, with_operand, names_view, connective_view}
use Rattle.formula_parse.specs.declared.tree.Operand.{Operand}
use Rattle.formula_truth.proofs.ViewLemmas.{operands_more}
use Rattle.term_plans.specs.Tracks.{own, fresh, has_track, without}
use Rattle.term_plans.specs.Plans.{Plan, compared, joined, complement, projected, tracks, Made}
use Rattle.formula_plan.specs.FactPlans.{Headers}
use Rattle.formula_plan.specs.FormulaPlans.{MadeOperands, none_made, made, chained, chaining, OperandPlans, kept, projected_all, projecting, for_some, for_every, for_infinitely, for_infinitely_many, quantified_made, plan_of, operand_plans}
use Rattle.formula_plan.specs.OwnNames.{has_name, has_any, without_name, without_all, own_of, own_operands, HaveSame}
use Rattle.term_plans.specs.Makings.{plan_at}
use Rattle.term_plans.specs.Planning.{Adds, Does, linked_at, base_made, step_made}
use Rattle.formula_plan.specs.FormulaPlanning.{with_made, operand_at, operands_at, AreOperandsWithin, IsPrefixWithin, joined_prefix, chained_made, IsPrefixOf, DoesOperands, AgreeOn, projected_where, infinitely_if}
use Rattle.term_plans.specs.declared.planner.Planner.{Planner}
use Rattle.formula_plan.specs.declared.chains.Prefix.{Prefix}
use Rattle.term_plans.proofs.PlanningLemmas.{adds_none, adds_then, adds_more, at_later, does_none, does_then}
use Rattle.formula_plan.proofs.OwnTracks.{without_none}
use Rattle.formula_plan.proofs.SameNames.{same_after, same_without_all, added_then, agrees_same}
use Rattle.formula_plan.proofs.OwnFormulas.{projected_agrees, infinitely_agrees, kept_none, kept_some, formula_own}

-- chains
operands_at_more : (plans : List Plan) (fs : List Prefix) (i : ℕ) (f : Prefix) → i < length fs → f ≡ get_or fs i f
    → operands_at plans (take (i + 1) fs) ≡ made (operands_at plans (take i fs)) (plan_at plans f.place) (connective_view f.connective)
operands_at_more plans fs i f within at =
    ap (operands_at plans) (take_more fs i f within)
    ∙ ap (fold with_made none_made) (map-append (operand_at plans) (take i fs) (get_or fs i f ∷ []))
    ∙ fold-append with_made none_made (map (operand_at plans) (take i fs)) (operand_at plans (get_or fs i f) ∷ [])
    ∙ ap (λ (g : Prefix). made (operands_at plans (take i fs)) (plan_at plans g.place) (connective_view g.connective)) (sym at)

pub prefix_within : (os : MadeOperands) (old mid : Planner) (prefix : Option Prefix) → IsPrefixOf os old mid prefix → IsPrefixWithin mid.plans prefix
prefix_within os old mid None is = tt
prefix_within os old mid (Some f) is = is.3.last.within

prefix_adds : (os : MadeOperands) (old mid : Planner) (prefix : Option Prefix) → IsPrefixOf os old mid prefix → (ss : List Plan) × Adds old.plans mid.plans ss
prefix_adds os old mid None is = ([], subst (λ (m : Planner). Adds old.plans m.plans []) (sym is.1) (adds_none old.plans))
prefix_adds os old mid (Some f) is = (chaining is.0 is.1, is.3.adds)

pub place_within : (os : MadeOperands) (old mid : Planner) (prefix : Option Prefix) (i : ℕ) → IsPrefixOf os old mid prefix → i < length old.plans → i < length mid.plans
place_within os old mid prefix i is within = let adds = prefix_adds os old mid prefix is in let more = adds_more old.plans mid.plans adds.0 adds.1 in omega (arith, more, within)

pub operand_within : (os : MadeOperands) (old mid : Planner) (prefix : Option Prefix) (fs : List Prefix) (i : ℕ) (f : Prefix) → IsPrefixOf os old mid prefix → AreOperandsWithin old.plans fs → i < length fs → f ≡ get_or fs i f → f.place < length mid.plans
operand_within os old mid prefix fs i f is are within at = place_within os old mid prefix f.place is (subst (λ (g : Prefix). g.place < length old.plans) (sym at) (are i f within))

pub prefix_then : (os : MadeOperands) (old mid new : Planner) (prefix : Option Prefix) (i j : ℕ) → i < length old.plans → IsPrefixOf os old mid prefix
    → Does mid new j (joined_prefix mid.plans prefix (plan_at mid.plans i) mid.next) → Does old new j (chained_made old.next os (plan_at old.plans i))
prefix_then os old mid new None i j within is second =
    subst (λ x. Does old new j (chained_made old.next x (plan_at old.plans i))) (sym is.0) (subst (λ (m : Planner). Does m new j (base_made (plan_at m.plans i) m.next)) is.1 second)
prefix_then os old mid new (Some f) i j within is second =
    let prefix : MadeOperands = is.0 in
    let p : Plan = is.1 in
    let first : Does old mid f.place (chained_made old.next prefix p) = is.3 in
    let later : plan_at mid.plans i ≡ plan_at old.plans i = at_later old.plans mid.plans (chaining prefix p) i first.adds within in
    let whole : Plan = joined (connective_view f.connective) (chained prefix p) (plan_at old.plans i) in
    let here : Does mid new j (step_made whole old.next) =
    subst (λ k. Does mid new j (step_made whole k)) first.next
    (subst (λ q. Does mid new j (step_made (joined (connective_view f.connective) (chained prefix p) q) mid.next)) later
    (subst (λ q. Does mid new j (step_made (joined (connective_view f.connective) q (plan_at mid.plans i)) mid.next)) first.last.is second)) in
    subst (λ x. Does old new j (chained_made old.next x (plan_at old.plans i))) (sym is.2)
    (does_then old mid new f.place j (chained_made old.next prefix p) (step_made whole old.next) first here)

pub prefix_more : (fs : List Prefix) (i : ℕ) (f : Prefix) (old mid new : Planner) (prefix : Option Prefix) (j : ℕ) → i < length fs → f ≡ get_or fs i f → AreOperandsWithin old.plans fs
    → IsPrefixOf (operands_at old.plans (take i fs)) old mid prefix → Does mid new j (joined_prefix mid.plans prefix (plan_at mid.plans f.place) mid.next)
    → IsPrefixOf (operands_at old.plans (take (i + 1) fs)) old new (Some (record { place = j; connective = f.connective }))
prefix_more fs i f old mid new prefix j within at are is second = (
  operands_at old.plans (take i fs),
  plan_at old.plans f.place,
  operands_at_more old.plans fs i f within at,
  prefix_then (operands_at old.plans (take i fs)) old mid new prefix f.place j (subst (λ (g : Prefix). g.place < length old.plans) (sym at) (are i f within)) is second,
)

pub prefix_all : (fs : List Prefix) (i last j : ℕ) (old mid new : Planner) (prefix : Option Prefix) → length fs ≤ i → last < length old.plans
    → IsPrefixOf (operands_at old.plans (take i fs)) old mid prefix → Does mid new j (joined_prefix mid.plans prefix (plan_at mid.plans last) mid.next)
    → Does old new j (chained_made old.next (operands_at old.plans fs) (plan_at old.plans last))
prefix_all fs i last j old mid new prefix far within is second =
    subst (λ l. Does old new j (chained_made old.next (operands_at old.plans l) (plan_at old.plans last))) (take_all i fs far)
    (prefix_then (operands_at old.plans (take i fs)) old mid new prefix last j within is second)

-- the operands of a chain
operands_later : (xs ys ss : List Plan) (fs : List Prefix) → Adds xs ys ss → AreOperandsWithin xs fs → operands_at ys fs ≡ operands_at xs fs
operands_later xs ys ss fs adds are = ap (fold with_made none_made) (same fs are)
  where
    same : (gs : List Prefix) → AreOperandsWithin xs gs → map (operand_at ys) gs ≡ map (operand_at xs) gs
    same [] inside = refl
    same (g ∷ gs) inside =
        ap (λ p. let o : Plan × Joint = (p, connective_view g.connective) in o ∷ map (operand_at ys) gs) (at_later xs ys ss g.place adds (inside 0 g (omega arith)))
        ∙ ap (λ l. operand_at xs g ∷ l) (same gs (λ i d below. inside (suc i) d (omega (arith, below))))

operands_within_later : (xs ys ss : List Plan) (fs : List Prefix) → Adds xs ys ss → AreOperandsWithin xs fs → AreOperandsWithin ys fs
operands_within_later xs ys ss fs adds are = λ i d below. let more = adds_more xs ys ss adds in let here = are i d below in omega (arith, more, here)

operands_within_more : (plans : List Plan) (fs : List Prefix) (f : Prefix) → AreOperandsWithin plans fs → f.place < length plans → AreOperandsWithin plans (fs ++ f ∷ [])
operands_within_more plans fs f are here i d below =
    below_more (λ j. (e : Prefix) → (get_or (fs ++ f ∷ []) j e).place < length plans) (length fs)
    (λ j inside e. subst (λ (g : Prefix). g.place < length plans) (sym (get_or_append_left fs (f ∷ []) e j inside)) (are j e inside))
    (λ e. subst (λ (g : Prefix). g.place < length plans) (sym (get_or-append_seam fs f [] e)) here)
    i (omega (arith, length-append fs (f ∷ []), below)) d

operands_end : (plans : List Plan) (fs : List Prefix) (f : Prefix) → operands_at plans (fs ++ f ∷ []) ≡ made (operands_at plans fs) (plan_at plans f.place) (connective_view f.connective)
operands_end plans fs f = ap (fold with_made none_made) (map-append (operand_at plans) fs (f ∷ [])) ∙ fold-append with_made none_made (map (operand_at plans) fs) (operand_at plans f ∷ [])

pub operands_none : (h : Headers) (old : Planner) (fs : List Prefix) → fs ≡ [] → DoesOperands old old fs (operand_plans h no_operands old.next)
operands_none h old fs none = subst (λ l. DoesOperands old old l (operand_plans h no_operands old.next)) (sym none) (record {
  adds = adds_none old.plans;
  within = λ i d below. absurd (omega (arith, below));
  operands_are = refl;
  next = refl;
})

pub operands_then : (h : Headers) (os : List Operand) (i : ℕ) (o : Operand) (old mid new : Planner) (fs gs : List Prefix) (j : ℕ) → i < length os → o ≡ get_or os i o
    → DoesOperands old mid fs (operand_plans h (operands_view (take i os)) old.next) → Does mid new j (plan_of h (formula_view o.formula) mid.next)
    → gs ≡ fs ++ record { place = j; connective = o.connective } ∷ [] → DoesOperands old new gs (operand_plans h (operands_view (take (i + 1) os)) old.next)
operands_then h os i o old mid new fs gs j within at first second more =
    let ps : OperandPlans = operand_plans h (operands_view (take i os)) old.next in
    let m : Made = plan_of h (formula_view o.formula) ps.next in
    let f : Prefix = record { place = j; connective = o.connective } in
    let here : Does mid new j m = subst (λ k. Does mid new j (plan_of h (formula_view o.formula) k)) first.next second in
    let whole : DoesOperands old new (fs ++ f ∷ []) (record { steps = ps.steps ++ m.steps; operands = made ps.operands m.last (connective_view o.connective); next = m.next }) = record {
      adds = adds_then old.plans mid.plans new.plans ps.steps m.steps first.adds here.adds;
      within = operands_within_more new.plans fs f (operands_within_later mid.plans new.plans m.steps fs here.adds first.within) here.last.within;
      operands_are = operands_end new.plans fs f
          ∙ ap (λ q. made q (plan_at new.plans j) (connective_view o.connective)) (operands_later mid.plans new.plans m.steps fs here.adds first.within ∙ first.operands_are)
          ∙ ap (λ q. made ps.operands q (connective_view o.connective)) here.last.is;
      next = here.next;
    } in
    subst (λ l. DoesOperands old new l (operand_plans h (operands_view (take (i + 1) os)) old.next)) (sym more)
    (subst (λ x. DoesOperands old new (fs ++ f ∷ []) (operand_plans h x old.next)) (sym (operands_more os i o within ∙ ap (λ x. with_operand (operands_view (take i os)) (operand_view x)) (sym at))) whole)

pub chain_does : (h : Headers) (whole f : Formula) (os qs : List Operand) (i j k : ℕ) (old mid last new : Planner) (fs ds : List Prefix)
    → whole ≡ chain (operands_view qs) f → os ≡ qs → length os ≤ i → ds ≡ fs
    → DoesOperands old mid fs (operand_plans h (operands_view (take i os)) old.next) → Does mid last j (plan_of h f mid.next)
    → Does last new k (chained_made last.next (operands_at last.plans ds) (plan_at last.plans j)) → Does old new k (plan_of h whole old.next)
chain_does h whole f os qs i j k old mid last new fs ds seen same far same_ds so_far second third =
    let ps : OperandPlans = operand_plans h (operands_view qs) old.next in
    let first : DoesOperands old mid fs ps = subst (λ l. DoesOperands old mid fs (operand_plans h (operands_view l) old.next)) (take_all i os far ∙ same) so_far in
    let m : Made = plan_of h f ps.next in
    let here : Does mid last j m = subst (λ n. Does mid last j (plan_of h f n)) first.next second in
    let there : operands_at last.plans ds ≡ ps.operands = ap (operands_at last.plans) same_ds ∙ operands_later mid.plans last.plans m.steps fs here.adds first.within ∙ first.operands_are in
    let products : Does last new k (chained_made m.next ps.operands m.last) =
    subst (λ n. Does last new k (chained_made n ps.operands m.last)) here.next
    (subst (λ p. Does last new k (chained_made last.next ps.operands p)) here.last.is
    (subst (λ q. Does last new k (chained_made last.next q (plan_at last.plans j))) there third)) in
    subst (λ x. Does old new k (plan_of h x old.next)) (sym seen) (record {
      adds = adds_then old.plans mid.plans new.plans ps.steps (m.steps ++ chaining ps.operands m.last) first.adds
          (adds_then mid.plans last.plans new.plans m.steps (chaining ps.operands m.last) here.adds products.adds);
      last = products.last;
      next = products.next;
    })

pub chain_within : (h : Headers) (old mid last : Planner) (fs ds : List Prefix) (i : ℕ) (ps : OperandPlans) (m : Made) → ds ≡ fs → DoesOperands old mid fs ps → Does mid last i m → AreOperandsWithin last.plans ds
chain_within h old mid last fs ds i ps m same first second = subst (AreOperandsWithin last.plans) (sym same) (operands_within_later mid.plans last.plans m.steps fs second.adds first.within)

-- quantified variables
abbrev pub IsProjectedSoFar : Planner → Planner → ℕ → Plan → Names → Names → List Name → List Name → Type 0
IsProjectedSoFar old new to p all rest ms ns =
    (m : Made) × Does old new to m × (for_some (kept rest (tracks m.last)) m ≡ for_some (kept all (tracks p)) (base_made p old.next)) × AgreeOn m.last ns × HaveSame (without_all rest ns) (without_all all ms)

pub projected_none : (old : Planner) (to : ℕ) (all : Names) (ms : List Name) → to < length old.plans → AgreeOn (plan_at old.plans to) ms → IsProjectedSoFar old old to (plan_at old.plans to) all all ms ms
projected_none old to all ms within on = (base_made (plan_at old.plans to) old.next, does_none old to within, refl, on, λ n. refl)

projected_does : (old mid new : Planner) (to up : ℕ) (m : Made) (n : Name) (b : Bool) → Does old mid to m → Does mid new up (projected_where b n (plan_at mid.plans to) mid.next)
    → Does old new up (if b then record { steps = m.steps ++ projected (own n) m.last ∷ []; last = projected (own n) m.last; next = m.next } else record { steps = m.steps ++ []; last = m.last; next = m.next })
projected_does old mid new to up m n true first second =
    let here : Does mid new up (step_made (projected (own n) m.last) m.next) =
    subst (λ k. Does mid new up (step_made (projected (own n) m.last) k)) first.next (subst (λ p. Does mid new up (step_made (projected (own n) p) mid.next)) first.last.is second) in
    does_then old mid new to up m (step_made (projected (own n) m.last) m.next) first here
projected_does old mid new to up m n false first second =
    let here : Does mid new up (base_made m.last m.next) =
    subst (λ k. Does mid new up (base_made m.last k)) first.next (subst (λ p. Does mid new up (base_made p mid.next)) first.last.is second) in
    does_then old mid new to up m (base_made m.last m.next) first here

names_end : (vs : List Name) (n : Name) → names_view (vs ++ n ∷ []) ≡ names (names_view vs) n
names_end vs n = fold-append names no_names vs (n ∷ [])

pub projected_more : (old mid new : Planner) (to up : ℕ) (p : Plan) (all : Names) (rest prefix : List Name) (n : Name) (ms ns ls : List Name) → rest ≡ prefix ++ n ∷ []
    → IsProjectedSoFar old mid to p all (names_view rest) ms ns → Does mid new up (projected_where (has_name ns n) n (plan_at mid.plans to) mid.next) → HaveSame ls (without_name n ns)
    → IsProjectedSoFar old new up p all (names_view prefix) ms ls
projected_more old mid new to up p all rest prefix n ms ns ls same so_far second less =
    by (has_name ns n) (so_far.3.agree n) (projected_does old mid new to up m n (has_name ns n) so_far.1 second)
  where
    m : Made
    m = so_far.0

    seen : names_view rest ≡ names (names_view prefix) n
    seen = ap names_view same ∙ names_end prefix n

    names_left : HaveSame (without_all (names_view prefix) ls) (without_all all ms)
    names_left k = same_without_all (names_view prefix) ls (without_name n ns) less k ∙ ap (λ v. has_name (without_all v ns) k) (sym seen) ∙ so_far.4 k

    by : (b : Bool) → has_track (tracks m.last) (own n) ≡ b
        → Does old new up (if b then record { steps = m.steps ++ projected (own n) m.last ∷ []; last = projected (own n) m.last; next = m.next } else record { steps = m.steps ++ []; last = m.last; next = m.next })
        → IsProjectedSoFar old new up p all (names_view prefix) ms ls
    by true has does =
        let q : Plan = projected (own n) m.last in
        let left : List Name = kept (names_view prefix) (without (own n) (tracks m.last)) in
        let keeps : kept (names_view rest) (tracks m.last) ≡ n ∷ left =
        ap (λ v. kept v (tracks m.last)) seen ∙ ap (λ b. if b then n ∷ left else kept (names_view prefix) (tracks m.last)) has in (
          record { steps = m.steps ++ q ∷ []; last = q; next = m.next },
          does,
          ap (λ l. let x : Made = record { steps = l; last = projected_all left q; next = m.next } in x) (append_assoc m.steps (q ∷ []) (projecting left q)) ∙ sym (ap (λ k. for_some k m) keeps) ∙ so_far.2,
          agrees_same q (without_name n ns) ls less (projected_agrees m.last ns n so_far.3),
          names_left,
        )
    by false none does =
        let left : List Name = kept (names_view prefix) (tracks m.last) in
        let keeps : kept (names_view rest) (tracks m.last) ≡ left =
        ap (λ v. kept v (tracks m.last)) seen ∙ ap (λ b. if b then n ∷ kept (names_view prefix) (without (own n) (tracks m.last)) else left) none in (
          record { steps = m.steps ++ []; last = m.last; next = m.next },
          does,
          ap (λ l. let x : Made = record { steps = l ++ projecting left m.last; last = projected_all left m.last; next = m.next } in x) (append-nil m.steps) ∙ sym (ap (λ k. for_some k m) keeps) ∙ so_far.2,
          agrees_same m.last ns ls (λ k. less k ∙ ap (λ l. has_name l k) (without_none n ns (sym (so_far.3.agree n) ∙ none))) so_far.3,
          names_left,
        )

-- `A` where no variable is free, and where one is
pub bare_answers : {E : Type 0} (r : Result ℕ E) (old new : Planner) (p : Plan) (vs : Names) (ms : List Name) → AgreeOn p ms → has_any vs ms ≡ false
    → IfOk r (λ i. Does old new i (for_some (kept vs (tracks p)) (base_made p old.next))) → IfOk r (λ i. Does old new i (for_every (kept vs (tracks p)) (base_made p old.next)))
bare_answers (Ok i) old new p vs ms on none does =
    subst (λ l. Does old new i (for_every l (base_made p old.next))) (sym (kept_none vs p ms on none))
    (subst (λ l. Does old new i (for_some l (base_made p old.next))) (kept_none vs p ms on none) does)
bare_answers (Err e) old new p vs ms on none does = does

pub every_does : (old one two new : Planner) (i j k : ℕ) (p : Plan) (vs : Names) (ms : List Name) → AgreeOn p ms → has_any vs ms ≡ true → Does old one i (step_made (complement p) old.next)
    → Does one two j (for_some (kept vs (tracks (plan_at one.plans i))) (base_made (plan_at one.plans i) one.next)) → Does two new k (step_made (complement (plan_at two.plans j)) two.next)
    → Does old new k (for_every (kept vs (tracks p)) (base_made p old.next))
every_does old one two new i j k p vs ms on has first second third =
    let keeps = kept_some vs p ms on has in
    let left : List Name = keeps.0 ∷ keeps.1 in
    let inside : Plan = complement p in
    let mid : Does one two j (for_some left (base_made inside one.next)) =
    subst (λ l. Does one two j (for_some l (base_made inside one.next))) keeps.2
    (subst (λ q. Does one two j (for_some (kept vs (tracks q)) (base_made q one.next))) first.last.is second) in
    let outside : Does two new k (step_made (complement (projected_all left inside)) two.next) = subst (λ q. Does two new k (step_made (complement q) two.next)) mid.last.is third in
    subst (λ l. Does old new k (for_every l (base_made p old.next))) (sym keeps.2) (record {
      adds = adds_then old.plans one.plans new.plans (inside ∷ []) (projecting left inside ++ complement (projected_all left inside) ∷ []) first.adds
          (adds_then one.plans two.plans new.plans (projecting left inside) (complement (projected_all left inside) ∷ []) mid.adds outside.adds);
      last = outside.last;
      next = outside.next ∙ mid.next ∙ first.next;
    })

-- `I`
infinitely_steps : (s n : Name) (m : Made) → (for_infinitely s n m).steps ≡ m.steps ++ (for_infinitely s n (base_made m.last m.next)).steps
infinitely_steps s n m =
    let base : Plan = compared s tokens.less (fresh m.next) (own n) in
    let both : Plan = joined and m.last base in
    let above : Plan = projected (own n) both in
    let none_above : Plan = complement above in
    let bounded : Plan = projected (fresh m.next) none_above in
    let unbounded : Plan = complement bounded in
    append_assoc ((m.steps ++ both ∷ above ∷ []) ++ none_above ∷ []) (bounded ∷ []) (unbounded ∷ [])
    ∙ append_assoc (m.steps ++ both ∷ above ∷ []) (none_above ∷ []) (bounded ∷ unbounded ∷ [])
    ∙ append_assoc m.steps (both ∷ above ∷ []) (none_above ∷ bounded ∷ unbounded ∷ [])

-- what is made after this
abbrev after : Made → Made → Made
after m n = record { steps = m.steps ++ n.steps; last = n.last; next = n.next }

infinitely_prefix : (s n : Name) (m : Made) → for_infinitely s n m ≡ after m (for_infinitely s n (base_made m.last m.next))
infinitely_prefix s n m = ap (λ l. let x : Made = record { steps = l; last = (for_infinitely s n m).last; next = (for_infinitely s n m).next } in x) (infinitely_steps s n m)

many_prefix : (on : Name → Name) (ns : Names) (m : Made) → for_infinitely_many on ns m ≡ after m (for_infinitely_many on ns (base_made m.last m.next))
many_prefix on no_names m = ap (λ l. let x : Made = record { steps = l; last = m.last; next = m.next } in x) (sym (append-nil m.steps))
many_prefix on (names ns n) m =
    by (has_track (tracks m.last) (own n)) (many_prefix on ns (for_infinitely (on n) n m)) (many_prefix on ns (for_infinitely (on n) n (base_made m.last m.next))) (many_prefix on ns m)
  where
    whole : Made
    whole = for_infinitely (on n) n m

    part : Made
    part = for_infinitely (on n) n (base_made m.last m.next)

    rest : Made
    rest = for_infinitely_many on ns (base_made part.last part.next)

    by : (b : Bool) → for_infinitely_many on ns whole ≡ after whole rest → for_infinitely_many on ns part ≡ after part rest → for_infinitely_many on ns m ≡ after m (for_infinitely_many on ns (base_made m.last m.next))
        → for_infinitely_many on ns (if b then whole else m) ≡ after m (for_infinitely_many on ns (if b then part else base_made m.last m.next))
    by true of_whole of_part bare =
        of_whole
        ∙ ap (λ l. let x : Made = record { steps = l; last = rest.last; next = rest.next } in x) (ap (λ l. l ++ rest.steps) (infinitely_steps (on n) n m) ∙ append_assoc m.steps part.steps rest.steps)
        ∙ sym (ap (after m) of_part)
    by false of_whole of_part bare = bare

pub infinitely_does : (old taken one two three four new : Planner) (place i j k l o r : ℕ) (s n : Name) → place < length old.plans
    → r ≡ old.next → taken.next ≡ old.next + 1 → taken.plans ≡ old.plans
    → Does taken one i (base_made (compared s tokens.less (fresh r) (own n)) taken.next)
    → Does one two j (linked_at (plan_at one.plans place) (plan_at one.plans i) (own n) one.next)
    → Does two three k (step_made (complement (plan_at two.plans j)) two.next)
    → Does three four l (step_made (projected (fresh r) (plan_at three.plans k)) three.next)
    → Does four new o (step_made (complement (plan_at four.plans l)) four.next)
    → Does old new o (for_infinitely s n (base_made (plan_at old.plans place) old.next))
infinitely_does old taken one two three four new place i j k l o r s n within here next same first second third fourth fifth =
    let p : Plan = plan_at old.plans place in
    let base : Plan = compared s tokens.less (fresh old.next) (own n) in
    let above : Plan = projected (own n) (joined and p base) in
    let bounded : Plan = projected (fresh old.next) (complement above) in
    let bare : Adds old.plans one.plans [] = subst (λ x. Adds x one.plans []) same first.adds in
    let base_is : plan_at one.plans i ≡ base = first.last.is ∙ ap (λ x. compared s tokens.less (fresh x) (own n)) here in
    let one_two : Does one two j (linked_at p base (own n) one.next) =
    subst (λ x. Does one two j (linked_at p x (own n) one.next)) base_is
    (subst (λ x. Does one two j (linked_at x (plan_at one.plans i) (own n) one.next)) (at_later old.plans one.plans [] place bare within) second) in
    let two_three : Does two three k (step_made (complement above) two.next) = subst (λ x. Does two three k (step_made (complement x) two.next)) one_two.last.is third in
    let three_four : Does three four l (step_made bounded three.next) =
    subst (λ x. Does three four l (step_made (projected (fresh x) (complement above)) three.next)) here
    (subst (λ x. Does three four l (step_made (projected (fresh r) x) three.next)) two_three.last.is fourth) in
    let four_new : Does four new o (step_made (complement bounded) four.next) = subst (λ x. Does four new o (step_made (complement x) four.next)) three_four.last.is fifth in
    record {
      adds = adds_then old.plans one.plans new.plans [] (joined and p base ∷ above ∷ complement above ∷ bounded ∷ complement bounded ∷ []) bare
          (adds_then one.plans two.plans new.plans (joined and p base ∷ above ∷ []) (complement above ∷ bounded ∷ complement bounded ∷ []) one_two.adds
          (adds_then two.plans three.plans new.plans (complement above ∷ []) (bounded ∷ complement bounded ∷ []) two_three.adds
          (adds_then three.plans four.plans new.plans (bounded ∷ []) (complement bounded ∷ []) three_four.adds four_new.adds)));
      last = four_new.last;
      next = four_new.next ∙ three_four.next ∙ two_three.next ∙ one_two.next ∙ first.next ∙ next;
    }

-- a place of a planner before others
pub still_within : (old taken one : Planner) (place i : ℕ) (m : Made) → taken.plans ≡ old.plans → place < length old.plans → Does taken one i m → place < length one.plans
still_within old taken one place i m same within does = let more = adds_more taken.plans one.plans m.steps does.adds in let long = ap length same in omega (arith, more, long, within)

-- the variables of `I`
abbrev pub IsInfiniteSoFar : (Name → Name) → Planner → Planner → ℕ → Plan → Names → Names → List Name → List Name → Type 0
IsInfiniteSoFar on old new to p all rest ms ns =
    (m : Made) × Does old new to m × (for_infinitely_many on rest m ≡ for_infinitely_many on all (base_made p old.next)) × AgreeOn m.last ns × HaveSame (without_all rest ns) (without_all all ms)

pub infinite_none : (on : Name → Name) (old : Planner) (to : ℕ) (all : Names) (ms : List Name) → to < length old.plans → AgreeOn (plan_at old.plans to) ms → IsInfiniteSoFar on old old to (plan_at old.plans to) all all ms ms
infinite_none on old to all ms within agree = (base_made (plan_at old.plans to) old.next, does_none old to within, refl, agree, λ n. refl)

infinite_does : (old mid new : Planner) (to up : ℕ) (m : Made) (s n : Name) (b : Bool) → Does old mid to m → Does mid new up (infinitely_if b s n (plan_at mid.plans to) mid.next)
    → Does old new up (after m (infinitely_if b s n m.last m.next))
infinite_does old mid new to up m s n b first second =
    does_then old mid new to up m (infinitely_if b s n m.last m.next) first
    (subst (λ k. Does mid new up (infinitely_if b s n m.last k)) first.next (subst (λ p. Does mid new up (infinitely_if b s n p mid.next)) first.last.is second))

pub infinite_more : (on : Name → Name) (old mid new : Planner) (to up : ℕ) (p : Plan) (all : Names) (rest prefix : List Name) (n : Name) (ms ns ls : List Name) → rest ≡ prefix ++ n ∷ []
    → IsInfiniteSoFar on old mid to p all (names_view rest) ms ns → Does mid new up (infinitely_if (has_name ns n) (on n) n (plan_at mid.plans to) mid.next) → HaveSame ls (without_name n ns)
    → IsInfiniteSoFar on old new up p all (names_view prefix) ms ls
infinite_more on old mid new to up p all rest prefix n ms ns ls same so_far second less =
    by (has_name ns n) (so_far.3.agree n) (infinite_does old mid new to up m (on n) n (has_name ns n) so_far.1 second)
  where
    m : Made
    m = so_far.0

    seen : names_view rest ≡ names (names_view prefix) n
    seen = ap names_view same ∙ names_end prefix n

    names_left : HaveSame (without_all (names_view prefix) ls) (without_all all ms)
    names_left k = same_without_all (names_view prefix) ls (without_name n ns) less k ∙ ap (λ v. has_name (without_all v ns) k) (sym seen) ∙ so_far.4 k

    many_is : (b : Bool) → has_track (tracks m.last) (own n) ≡ b → for_infinitely_many on (names_view prefix) (if b then for_infinitely (on n) n m else m) ≡ for_infinitely_many on all (base_made p old.next)
    many_is b is =
        sym (ap (λ v. for_infinitely_many on v m) seen ∙ ap (λ x. for_infinitely_many on (names_view prefix) (if x then for_infinitely (on n) n m else m)) is) ∙ so_far.2

    by : (b : Bool) → has_track (tracks m.last) (own n) ≡ b → Does old new up (after m (infinitely_if b (on n) n m.last m.next)) → IsInfiniteSoFar on old new up p all (names_view prefix) ms ls
    by true has does = (
      for_infinitely (on n) n m,
      subst (λ x. Does old new up x) (sym (infinitely_prefix (on n) n m)) does,
      many_is true has,
      agrees_same (for_infinitely (on n) n m).last (without_name n ns) ls less (infinitely_agrees (on n) n m ns so_far.3),
      names_left,
    )
    by false none does = (
      m,
      subst (λ l. Does old new up (record { steps = l; last = m.last; next = m.next })) (append-nil m.steps) does,
      many_is false none,
      agrees_same m.last ns ls (λ k. less k ∙ ap (λ l. has_name l k) (without_none n ns (sym (so_far.3.agree n) ∙ none))) so_far.3,
      names_left,
    )

-- a quantifier after what it takes
every_prefix : (ns : List Name) (m : Made) → for_every ns m ≡ after m (for_every ns (base_made m.last m.next))
every_prefix [] m = ap (λ l. let x : Made = record { steps = l; last = m.last; next = m.next } in x) (sym (append-nil m.steps))
every_prefix (n ∷ ns) m =
    let inside : Plan = complement m.last in
    let middle : List Plan = projecting (n ∷ ns) inside in
    let outside : Plan = complement (projected_all (n ∷ ns) inside) in
    ap (λ l. let x : Made = record { steps = l; last = outside; next = m.next } in x)
    (append_assoc (m.steps ++ inside ∷ []) middle (outside ∷ []) ∙ append_assoc m.steps (inside ∷ []) (middle ++ outside ∷ []))

quantified_prefix : (q : Quantifier) (on : Name → Name) (ns : Names) (m : Made) → quantified_made q on ns m ≡ after m (quantified_made q on ns (base_made m.last m.next))
quantified_prefix some on ns m = refl
quantified_prefix every on ns m = every_prefix (kept ns (tracks m.last)) m
quantified_prefix infinite on ns m = many_prefix on ns m

pub quantified_does : (h : Headers) (whole f g : Formula) (q : Quantifier) (vs ws : List Name) (old mid new : Planner) (i j : ℕ) → whole ≡ quantified q (names_view vs) f → ws ≡ vs → g ≡ f
    → Does old mid i (plan_of h f old.next) → Does mid new j (quantified_made q (h.of_variable g) (names_view ws) (base_made (plan_at mid.plans i) mid.next))
    → Does old new j (plan_of h whole old.next)
quantified_does h whole f g q vs ws old mid new i j seen same formula first second =
    let m : Made = plan_of h f old.next in
    let on : Name → Name = h.of_variable f in
    let here : Does mid new j (quantified_made q on (names_view vs) (base_made m.last m.next)) =
    subst (λ k. Does mid new j (quantified_made q on (names_view vs) (base_made m.last k))) first.next
    (subst (λ p. Does mid new j (quantified_made q on (names_view vs) (base_made p mid.next))) first.last.is
    (subst (λ l. Does mid new j (quantified_made q on (names_view l) (base_made (plan_at mid.plans i) mid.next))) same
    (subst (λ x. Does mid new j (quantified_made q (h.of_variable x) (names_view ws) (base_made (plan_at mid.plans i) mid.next))) formula second))) in
    subst (λ x. Does old new j (plan_of h x old.next)) (sym seen)
    (subst (λ x. Does old new j x) (sym (quantified_prefix q on (names_view vs) m))
    (does_then old mid new i j m (quantified_made q on (names_view vs) (base_made m.last m.next)) first here))

pub formula_agrees : (h : Headers) (f : Formula) (old mid : Planner) (i : ℕ) (ms : List Name) → Does old mid i (plan_of h f old.next) → HaveSame ms (own_of f) → AgreeOn (plan_at mid.plans i) ms
formula_agrees h f old mid i ms does are = subst (λ p. AgreeOn p ms) (sym does.last.is) (agrees_same (plan_of h f old.next).last (own_of f) ms are (formula_own h f old.next))

-- a formula that is seen so
pub formula_seen : (h : Headers) (whole seen : Formula) (old new : Planner) (i : ℕ) → whole ≡ seen → Does old new i (plan_of h seen old.next) → Does old new i (plan_of h whole old.next)
formula_seen h whole seen old new i same does = subst (λ x. Does old new i (plan_of h x old.next)) (sym same) does

pub negated_does : (h : Headers) (whole f : Formula) (old mid new : Planner) (i j : ℕ) → whole ≡ negated f → Does old mid i (plan_of h f old.next)
    → Does mid new j (step_made (complement (plan_at mid.plans i)) mid.next) → Does old new j (plan_of h whole old.next)
negated_does h whole f old mid new i j seen first second =
    let m : Made = plan_of h f old.next in
    let here : Does mid new j (step_made (complement m.last) m.next) =
    subst (λ k. Does mid new j (step_made (complement m.last) k)) first.next (subst (λ p. Does mid new j (step_made (complement p) mid.next)) first.last.is second) in
    subst (λ x. Does old new j (plan_of h x old.next)) (sym seen) (does_then old mid new i j m (step_made (complement m.last) m.next) first here)

-- free variables, added part by part
pub names_seen : (whole seen : Formula) (old new : List Name) → whole ≡ seen → HaveSame new (old ++ own_of seen) → HaveSame new (old ++ own_of whole)
names_seen whole seen old new same is n = is n ∙ ap (λ f. has_name (old ++ own_of f) n) (sym same)

pub names_more : (os : List Operand) (i : ℕ) (o : Operand) (old mid new : List Name) → i < length os → o ≡ get_or os i o → HaveSame mid (old ++ own_operands (operands_view (take i os)))
    → HaveSame new (mid ++ own_of (formula_view o.formula)) → HaveSame new (old ++ own_operands (operands_view (take (i + 1) os)))
names_more os i o old mid new within at so_far is n =
    added_then old mid new (own_operands (operands_view (take i os))) (own_of (formula_view o.formula)) so_far is n
    ∙ ap (λ x. has_name (old ++ own_operands x) n) (sym (operands_more os i o within ∙ ap (λ x. with_operand (operands_view (take i os)) (operand_view x)) (sym at)))

pub names_chained : (whole f : Formula) (os qs : List Operand) (i : ℕ) (old mid new : List Name) → whole ≡ chain (operands_view qs) f → os ≡ qs → length os ≤ i
    → HaveSame mid (old ++ own_operands (operands_view (take i os))) → HaveSame new (mid ++ own_of f) → HaveSame new (old ++ own_of whole)
names_chained whole f os qs i old mid new seen same far so_far is n =
    added_then old mid new (own_operands (operands_view (take i os))) (own_of f) so_far is n
    ∙ ap (λ l. has_name (old ++ (own_operands (operands_view l) ++ own_of f)) n) (take_all i os far ∙ same) ∙ ap (λ x. has_name (old ++ own_of x) n) (sym seen)

pub names_quantified : (whole f : Formula) (q : Quantifier) (vs ws : List Name) (old none inner left new : List Name) → whole ≡ quantified q (names_view vs) f → ws ≡ vs → none ≡ [] → HaveSame inner (none ++ own_of f)
    → HaveSame left (without_all (names_view ws) inner) → HaveSame new (old ++ left) → HaveSame new (old ++ own_of whole)
names_quantified whole f q vs ws old none inner left new seen same bare first second is n =
    is n ∙ same_after old left (without_all (names_view vs) (own_of f)) rest n ∙ ap (λ x. has_name (old ++ own_of x) n) (sym seen)
  where
    rest : HaveSame left (without_all (names_view vs) (own_of f))
    rest k =
        second k ∙ ap (λ l. has_name (without_all (names_view l) inner) k) same
        ∙ same_without_all (names_view vs) inner (own_of f) (λ j. first j ∙ ap (λ l. has_name (l ++ own_of f) j) bare) k

-- Plans of atoms, made part by part.
use Rattle.std.proofs.Common.{◌≡◌, ℕ, ◌+◌, List, [], ◌∷◌, ◌++◌, refl, sym, ◌∙◌, ap, subst, append-nil, append_assoc}
use Rattle.formula_parse.specs.Tokens.{Name, Relation}
use Rattle.formula_parse.specs.Trees.{Term}
use Rattle.term_plans.specs.Tracks.{Track}
use Rattle.term_plans.specs.Plans.{Plan, compared, Made}
use Rattle.term_plans.specs.TermPlans.{Placed, TermPlan, closed, closing, term_plan}
use Rattle.term_plans.specs.ArgumentPlans.{Places, no_places, places, tracks_of, all_places, closed_all, closing_all, TermPlans}
use Rattle.formula_plan.specs.FactPlans.{over_terms, named, named_by, long, compare_by}
use Rattle.term_plans.specs.Makings.{track_view, plan_at}
use Rattle.term_plans.specs.Planning.{Adds, IsAt, Does, DoesTerm, DoesTerms, base_made, step_made, closed_made, closed_all_made, placed_at, places_at, AreWithin, tracks_in}
use Rattle.term_plans.specs.declared.planner.Planner.{Planner}
use Rattle.term_plans.specs.declared.planner.Placed as found
use Rattle.term_plans.proofs.PlanningLemmas.{adds_then, within_later, placed_later}
use Rattle.term_plans.proofs.ArgumentsMade.{places_later, are_within_later, tracks_there}

-- a value under a variable's name
pub named_does : (old mid new : Planner) (v : found.Placed) (i : ℕ) (s n : Name) (p : TermPlan) → DoesTerm old mid v p
    → Does mid new i (base_made (named_by s n (placed_at mid.plans v).track (placed_at mid.plans v).relation) mid.next) → Does old new i (named s n p)
named_does old mid new v i s n p first second =
    let last : Does mid new i (base_made (named_by s n p.placed.track p.placed.relation) mid.next) =
    subst (λ (z : Placed). Does mid new i (base_made (named_by s n z.track z.relation) mid.next)) first.placed_is second in
    record {
      adds = subst (λ l. Adds old.plans new.plans l) (append-nil p.steps) (adds_then old.plans mid.plans new.plans p.steps [] first.adds last.adds);
      last = last.last;
      next = last.next ∙ first.next;
    }

-- two values compared
pub compared_does : (old left right base half new : Planner) (v w : found.Placed) (i j k : ℕ) (s : Name) (r : Relation) (t u : Term) → DoesTerm old left v (term_plan s t old.next) → DoesTerm left right w (term_plan s u left.next)
    → Does right base i (base_made (compared s r (track_view v.track) (track_view w.track)) right.next) → Does base half j (closed_made base.next (placed_at base.plans v) (plan_at base.plans i))
    → Does half new k (closed_made half.next (placed_at half.plans w) (plan_at half.plans j))
    → Does old new k (compare_by long s t r u old.next)
compared_does old left right base half new v w i j k s r t u first second third fourth fifth =
    let p : TermPlan = term_plan s t old.next in
    let q : TermPlan = term_plan s u p.next in
    let other : DoesTerm left right w q = subst (λ l. DoesTerm left right w (term_plan s u l)) first.next second in
    let ground : Plan = compared s r p.placed.track q.placed.track in
    let made : Does right base i (base_made ground right.next) =
    subst (λ x. Does right base i (base_made (compared s r p.placed.track x) right.next)) (ap (λ (z : Placed). z.track) other.placed_is)
    (subst (λ x. Does right base i (base_made (compared s r x (track_view w.track)) right.next)) (ap (λ (z : Placed). z.track) first.placed_is) third) in
    let left_there : placed_at base.plans v ≡ p.placed =
    placed_later right.plans base.plans [] v made.adds (within_later left.plans right.plans q.steps v.relation other.adds first.within)
    ∙ placed_later left.plans right.plans q.steps v other.adds first.within ∙ first.placed_is in
    let closes : Does base half j (closed_made base.next p.placed ground) =
    subst (λ x. Does base half j (closed_made base.next x ground)) left_there
    (subst (λ x. Does base half j (closed_made base.next (placed_at base.plans v) x)) made.last.is fourth) in
    let up : Adds right.plans half.plans (closing p.placed ground) = adds_then right.plans base.plans half.plans [] (closing p.placed ground) made.adds closes.adds in
    let right_there : placed_at half.plans w ≡ q.placed = placed_later right.plans half.plans (closing p.placed ground) w up other.within ∙ other.placed_is in
    let last : Does half new k (closed_made half.next q.placed (closed p.placed ground)) =
    subst (λ x. Does half new k (closed_made half.next x (closed p.placed ground))) right_there
    (subst (λ x. Does half new k (closed_made half.next (placed_at half.plans w) x)) closes.last.is fifth) in
    record {
      adds = adds_then old.plans right.plans new.plans (p.steps ++ q.steps) (closing p.placed ground ++ closing q.placed (closed p.placed ground))
          (adds_then old.plans left.plans right.plans p.steps q.steps first.adds other.adds)
          (adds_then right.plans half.plans new.plans (closing p.placed ground) (closing q.placed (closed p.placed ground)) up last.adds);
      last = last.last;
      next = last.next ∙ closes.next ∙ made.next ∙ other.next;
    }

-- a base over several values, whose tracks are closed then
over_does : (old mid base new : Planner) (ps : List found.Placed) (i j : ℕ) (qs : TermPlans) (ground : Plan) → DoesTerms old mid ps qs → Does mid base i (base_made ground mid.next)
    → Does base new j (closed_all_made base.next (places_at base.plans ps) (plan_at base.plans i)) → Does old new j (over_terms qs [] ground)
over_does old mid base new ps i j qs ground first second third =
    let there : places_at base.plans ps ≡ qs.placed = places_later mid.plans base.plans [] ps second.adds first.within ∙ first.places_are in
    let closes : Does base new j (closed_all_made base.next qs.placed ground) =
    subst (λ x. Does base new j (closed_all_made base.next x ground)) there
    (subst (λ x. Does base new j (closed_all_made base.next (places_at base.plans ps) x)) second.last.is third) in
    record {
      adds = adds_then old.plans mid.plans new.plans qs.steps (closing_all qs.placed ground) first.adds
          (adds_then mid.plans base.plans new.plans [] (closing_all qs.placed ground) second.adds closes.adds);
      last = closes.last;
      next = closes.next ∙ second.next ∙ first.next;
    }

pub base_does : (old mid base new : Planner) (ps ds es : List found.Placed) (i j : ℕ) (qs : TermPlans) (f : List Track → Plan) → ds ≡ ps → es ≡ ps → DoesTerms old mid ps qs
    → Does mid base i (base_made (f (tracks_in ds)) mid.next) → Does base new j (closed_all_made base.next (places_at base.plans es) (plan_at base.plans i)) → Does old new j (over_terms qs [] (f (tracks_of qs.placed)))
base_does old mid base new ps ds es i j qs f same_ds same_es first second third =
    over_does old mid base new ps i j qs (f (tracks_of qs.placed)) first
    (subst (λ ts. Does mid base i (base_made (f ts) mid.next)) (ap tracks_in same_ds ∙ sym (tracks_there mid.plans ps) ∙ ap tracks_of first.places_are) second)
    (subst (λ l. Does base new j (closed_all_made base.next (places_at base.plans l) (plan_at base.plans i))) same_es third)

-- values are there after more was made
pub still_there : (mid new : Planner) (ps ds : List found.Placed) (i : ℕ) (m : Made) → ds ≡ ps → AreWithin mid.plans ps → Does mid new i m → AreWithin new.plans ds
still_there mid new ps ds i m same within does = subst (AreWithin new.plans) (sym same) (are_within_later mid.plans new.plans m.steps ps does.adds within)

-- the values of two words
closed_both : (ps qs : Places) (base : Plan) → closed_all (all_places ps qs) base ≡ closed_all qs (closed_all ps base)
closed_both ps no_places base = refl
closed_both ps (places qs q) base = ap (closed q) (closed_both ps qs base)

closing_both : (ps qs : Places) (base : Plan) → closing_all (all_places ps qs) base ≡ closing_all ps base ++ closing_all qs (closed_all ps base)
closing_both ps no_places base = sym (append-nil (closing_all ps base))
closing_both ps (places qs q) base =
    ap (λ l. l ++ closing q (closed_all (all_places ps qs) base)) (closing_both ps qs base)
    ∙ ap (λ b. (closing_all ps base ++ closing_all qs (closed_all ps base)) ++ closing q b) (closed_both ps qs base)
    ∙ append_assoc (closing_all ps base) (closing_all qs (closed_all ps base)) (closing q (closed_all qs (closed_all ps base)))

both_does : (old left right base half new : Planner) (ps qs : List found.Placed) (i j k : ℕ) (xs ys : TermPlans) (ground : Plan) → DoesTerms old left ps xs → DoesTerms left right qs ys
    → Does right base i (record { steps = ground ∷ []; last = ground; next = right.next }) → Does base half j (closed_all_made base.next (places_at base.plans ps) (plan_at base.plans i))
    → Does half new k (closed_all_made half.next (places_at half.plans qs) (plan_at half.plans j))
    → Does old new k (over_terms (record { steps = xs.steps ++ ys.steps; placed = all_places xs.placed ys.placed; next = ys.next }) (ground ∷ []) ground)
both_does old left right base half new ps qs i j k xs ys ground first second third fourth fifth =
    let left_there : places_at base.plans ps ≡ xs.placed =
    places_later right.plans base.plans (ground ∷ []) ps third.adds (are_within_later left.plans right.plans ys.steps ps second.adds first.within)
    ∙ places_later left.plans right.plans ys.steps ps second.adds first.within ∙ first.places_are in
    let closes : Does base half j (closed_all_made base.next xs.placed ground) =
    subst (λ x. Does base half j (closed_all_made base.next x ground)) left_there
    (subst (λ x. Does base half j (closed_all_made base.next (places_at base.plans ps) x)) third.last.is fourth) in
    let up : Adds right.plans half.plans (ground ∷ closing_all xs.placed ground) = adds_then right.plans base.plans half.plans (ground ∷ []) (closing_all xs.placed ground) third.adds closes.adds in
    let right_there : places_at half.plans qs ≡ ys.placed = places_later right.plans half.plans (ground ∷ closing_all xs.placed ground) qs up second.within ∙ second.places_are in
    let last : Does half new k (closed_all_made half.next ys.placed (closed_all xs.placed ground)) =
    subst (λ x. Does half new k (closed_all_made half.next x (closed_all xs.placed ground))) right_there
    (subst (λ x. Does half new k (closed_all_made half.next (places_at half.plans qs) x)) closes.last.is fifth) in
    let rest : List Plan = closing_all ys.placed (closed_all xs.placed ground) in
    record {
      adds = subst (λ l. Adds old.plans new.plans ((xs.steps ++ ys.steps) ++ (ground ∷ l))) (sym (closing_both xs.placed ys.placed ground))
          (adds_then old.plans right.plans new.plans (xs.steps ++ ys.steps) (ground ∷ (closing_all xs.placed ground ++ rest))
          (adds_then old.plans left.plans right.plans xs.steps ys.steps first.adds second.adds)
          (adds_then right.plans half.plans new.plans (ground ∷ closing_all xs.placed ground) rest up last.adds));
      last = subst (λ p. IsAt new.plans k p) (sym (closed_both xs.placed ys.placed ground)) last.last;
      next = last.next ∙ closes.next ∙ third.next ∙ second.next;
    }

pub pair_does : (old left right base half new : Planner) (ps ds es qs fs gs : List found.Placed) (i j k : ℕ) (xs ys : TermPlans) (f : List Track → List Track → Plan)
    → ds ≡ ps → es ≡ ps → fs ≡ qs → gs ≡ qs → DoesTerms old left ps xs → DoesTerms left right qs ys
    → Does right base i (step_made (f (tracks_in ds) (tracks_in fs)) right.next) → Does base half j (closed_all_made base.next (places_at base.plans es) (plan_at base.plans i))
    → Does half new k (closed_all_made half.next (places_at half.plans gs) (plan_at half.plans j))
    → Does old new k (over_terms (record { steps = xs.steps ++ ys.steps; placed = all_places xs.placed ys.placed; next = ys.next }) (f (tracks_of xs.placed) (tracks_of ys.placed) ∷ []) (f (tracks_of xs.placed) (tracks_of ys.placed)))
pair_does old left right base half new ps ds es qs fs gs i j k xs ys f same_ds same_es same_fs same_gs first second third fourth fifth =
    both_does old left right base half new ps qs i j k xs ys (f (tracks_of xs.placed) (tracks_of ys.placed)) first second
    (subst (λ ts. Does right base i (step_made (f (tracks_of xs.placed) ts) right.next)) (ap tracks_in same_fs ∙ sym (tracks_there right.plans qs) ∙ ap tracks_of second.places_are)
    (subst (λ ts. Does right base i (step_made (f ts (tracks_in fs)) right.next)) (ap tracks_in same_ds ∙ sym (tracks_there left.plans ps) ∙ ap tracks_of first.places_are) third))
    (subst (λ l. Does base half j (closed_all_made base.next (places_at base.plans l) (plan_at base.plans i))) same_es fourth)
    (subst (λ l. Does half new k (closed_all_made half.next (places_at half.plans l) (plan_at half.plans j))) same_gs fifth)

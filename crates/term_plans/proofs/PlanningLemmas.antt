-- What a planner does, one thing after another.
use Rattle.std.specs.List.{fold}
use Rattle.std.proofs.Common.{◌≡◌, ℕ, ◌+◌, ◌<◌, ◌≤◌, List, [], ◌∷◌, ◌++◌, map, filter, length, get_or, take, Option, None, Some, Result, Ok, Err, IfOk, refl, sym, ◌∙◌, ap, subst, arith, length-append, append_assoc}
use Rattle.std.proofs.lemmas.List.{take_more, map-append, append-nil}
use Rattle.std.proofs.lemmas.List.Sums.{fold-append}
use Rattle.std.proofs.lemmas.List.Elements.{filter-append}
use Rattle.formula_parse.specs.Trees.{and}
use Rattle.formula_parse.specs.declared.tree.Connective.TheVariants.{And}
use Rattle.term_plans.specs.Plans.{Plan, joined, projected, is_step, Made}
use Rattle.term_plans.specs.TermPlans.{Placed}
use Rattle.term_plans.specs.ArgumentPlans.{Places, no_places, places, closed_all, closing_all}
use Rattle.term_plans.specs.Makings.{track_view, plan_at}
use Rattle.term_plans.specs.Planning.{Adds, IsAt, Does, made_by, linked_at, step_made, relation_at, placed_at, places_at, IsWithin, AreWithin, closed_made, closed_all_made}
use Rattle.term_plans.specs.PlanLists.{IsPlanOf}
use Rattle.term_plans.specs.declared.making.Making.TheVariants.{Joined, Projected}
use Rattle.term_plans.specs.declared.track.Track.{Track}
use Rattle.term_plans.specs.declared.planner.Planner.{Planner}
use Rattle.term_plans.specs.declared.planner.Placed as found
use Rattle.term_plans.proofs.MakingLemmas.{at_grown}

pub adds_none : (xs : List Plan) → Adds xs xs []
adds_none xs = record { more = []; grown = sym (append-nil xs); are_steps = refl }

pub adds_then : (xs ys zs ss ts : List Plan) → Adds xs ys ss → Adds ys zs ts → Adds xs zs (ss ++ ts)
adds_then xs ys zs ss ts one two = record {
  more = one.more ++ two.more;
  grown = two.grown ∙ ap (λ l. l ++ two.more) one.grown ∙ append_assoc xs one.more two.more;
  are_steps = filter-append is_step one.more two.more ∙ ap (λ l. l ++ filter is_step two.more) one.are_steps ∙ ap (λ l. ss ++ l) two.are_steps;
}

pub adds_more : (xs ys ss : List Plan) → Adds xs ys ss → length xs ≤ length ys
adds_more xs ys ss adds = let long = ap length adds.grown ∙ length-append xs adds.more in omega (arith, long)

-- what is at a place stays there
pub at_later : (xs ys ss : List Plan) (i : ℕ) → Adds xs ys ss → i < length xs → plan_at ys i ≡ plan_at xs i
at_later xs ys ss i adds within = ap (λ l. plan_at l i) adds.grown ∙ at_grown xs adds.more i within

pub is_at_later : (xs ys ss : List Plan) (i : ℕ) (p : Plan) → Adds xs ys ss → IsAt xs i p → IsAt ys i p
is_at_later xs ys ss i p adds at = record {
  within = let more = adds_more xs ys ss adds in let here = at.within in omega (arith, more, here);
  is = at_later xs ys ss i adds at.within ∙ at.is;
}

pub within_later : (xs ys ss : List Plan) (r : Option ℕ) → Adds xs ys ss → IsWithin xs r → IsWithin ys r
within_later xs ys ss None adds within = tt
within_later xs ys ss (Some i) adds within = let more = adds_more xs ys ss adds in omega (arith, more, within)

pub relation_later : (xs ys ss : List Plan) (r : Option ℕ) → Adds xs ys ss → IsWithin xs r → relation_at ys r ≡ relation_at xs r
relation_later xs ys ss None adds within = refl
relation_later xs ys ss (Some i) adds within = ap Some (at_later xs ys ss i adds within)

pub placed_later : (xs ys ss : List Plan) (p : found.Placed) → Adds xs ys ss → IsWithin xs p.relation → placed_at ys p ≡ placed_at xs p
placed_later xs ys ss p adds within = ap (λ (r : Option Plan). let q : Placed = record { track = track_view p.track; relation = r } in q) (relation_later xs ys ss p.relation adds within)

-- nothing more
pub does_none : (old : Planner) (place : ℕ) → place < length old.plans → Does old old place (record { steps = []; last = plan_at old.plans place; next = old.next })
does_none old place within = record { adds = adds_none old.plans; last = record { within = within; is = refl }; next = refl }

-- one thing after another
pub does_then : (old mid new : Planner) (i j : ℕ) (m n : Made) → Does old mid i m → Does mid new j n → Does old new j (record { steps = m.steps ++ n.steps; last = n.last; next = n.next })
does_then old mid new i j m n one two = record {
  adds = adds_then old.plans mid.plans new.plans m.steps n.steps one.adds two.adds;
  last = two.last;
  next = two.next;
}

-- two relations joined on a track
pub link_answers : {E : Type 0} (r : Result ℕ E) (old mid new : Planner) (i a b : ℕ) (t u : Track) → t ≡ u → Does old mid i (made_by old (Joined And a b))
    → IfOk r (λ j. Does mid new j (made_by mid (Projected t i))) → IfOk r (λ j. Does old new j (linked_at (plan_at old.plans a) (plan_at old.plans b) (track_view u) old.next))
link_answers (Err e) old mid new i a b t u same first second = second
link_answers (Ok j) old mid new i a b t u same first second =
    let both : Plan = joined and (plan_at old.plans a) (plan_at old.plans b) in
    let last : Does mid new j (step_made (projected (track_view u) both) mid.next) =
    subst (λ p. Does mid new j (step_made (projected (track_view u) p) mid.next)) first.last.is (subst (λ (v : Track). Does mid new j (made_by mid (Projected v i))) same second) in
    record {
      adds = adds_then old.plans mid.plans new.plans (both ∷ []) (projected (track_view u) both ∷ []) first.adds last.adds;
      last = last.last;
      next = last.next ∙ first.next;
    }

-- one track closed after others
pub places_more : (plans : List Plan) (ps : List found.Placed) (i : ℕ) (p : found.Placed) → i < length ps → p ≡ get_or ps i p
    → places_at plans (take (i + 1) ps) ≡ places (places_at plans (take i ps)) (placed_at plans p)
places_more plans ps i p within at =
    ap (places_at plans) (take_more ps i p within)
    ∙ ap (fold places no_places) (map-append (placed_at plans) (take i ps) (get_or ps i p ∷ []))
    ∙ fold-append places no_places (map (placed_at plans) (take i ps)) (placed_at plans (get_or ps i p) ∷ [])
    ∙ ap (λ q. places (places_at plans (take i ps)) (placed_at plans q)) (sym at)

pub close_more : (old mid new : Planner) (ps : List found.Placed) (i b j : ℕ) (p : found.Placed) (base : Plan) → i < length ps → p ≡ get_or ps i p → AreWithin old.plans ps
    → Does old mid b (closed_all_made old.next (places_at old.plans (take i ps)) base)
    → Does mid new j (closed_made mid.next (placed_at mid.plans p) (plan_at mid.plans b))
    → Does old new j (closed_all_made old.next (places_at old.plans (take (i + 1) ps)) base)
close_more old mid new ps i b j p base within at are one two =
    let prefix : Places = places_at old.plans (take i ps) in
    let inside : IsWithin old.plans p.relation = subst (λ (q : found.Placed). IsWithin old.plans q.relation) (sym at) (are i p within) in
    let place = placed_later old.plans mid.plans (closing_all prefix base) p one.adds inside in
    let second : Does mid new j (closed_made old.next (placed_at old.plans p) (closed_all prefix base)) =
    subst (λ k. Does mid new j (closed_made k (placed_at old.plans p) (closed_all prefix base))) one.next
    (subst (λ q. Does mid new j (closed_made mid.next q (closed_all prefix base))) place
    (subst (λ q. Does mid new j (closed_made mid.next (placed_at mid.plans p) q)) one.last.is two)) in
    subst (λ qs. Does old new j (closed_all_made old.next qs base)) (sym (places_more old.plans ps i p within at))
    (does_then old mid new b j (closed_all_made old.next prefix base) (closed_made old.next (placed_at old.plans p) (closed_all prefix base)) one second)

-- the value of a later planner is within
pub close_within : (old mid : Planner) (ps : List found.Placed) (i : ℕ) (p : found.Placed) (ss : List Plan) → i < length ps → p ≡ get_or ps i p → AreWithin old.plans ps
    → Adds old.plans mid.plans ss → IsWithin mid.plans p.relation
close_within old mid ps i p ss within at are adds =
    within_later old.plans mid.plans ss p.relation adds (subst (λ (q : found.Placed). IsWithin old.plans q.relation) (sym at) (are i p within))

-- what is made in a list that was empty
pub plan_there : (old new : Planner) (place : ℕ) (m : Made) → old.plans ≡ [] → Does old new place m → IsPlanOf new.plans place m
plan_there old new place m none does = record {
  steps = ap (filter is_step) (does.adds.grown ∙ ap (λ l. l ++ does.adds.more) none) ∙ does.adds.are_steps;
  within = does.last.within;
  last_is = does.last.is;
}

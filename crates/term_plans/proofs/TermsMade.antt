-- Plans of terms, made part by part.
use Rattle.std.proofs.Common.{◌≡◌, ℕ, ◌+◌, ◌<◌, ◌≤◌, List, [], ◌∷◌, ◌++◌, length, map, get_or, take, Option, None, Some, Result, Ok, Err, IfOk, refl, sym, ◌∙◌, ap, subst, append-nil, arith}
use Rattle.std.proofs.lemmas.List.{take_all, map-append}
use Rattle.std.proofs.lemmas.Option.{none-some, same_Some}
use Rattle.formula_parse.specs.Tokens.{Name}
use Rattle.formula_parse.specs.Trees.{Term, variable, numeral, product, sum, Factors, no_factors, factors, Factor, times, divided, Addends}
use Rattle.formula_parse.specs.Views.{term_view, factor_view, factors_view, addend_view, addends_view, with_addend as addend_added, sign_view}
use Rattle.formula_parse.specs.declared.tree.Factor as parsed
use Rattle.formula_parse.specs.declared.tree.Addend as parsed_addend
use Rattle.formula_truth.proofs.ViewLemmas.{factors_more, addends_more}
use Rattle.term_plans.specs.Tracks.{own, fresh}
use Rattle.term_plans.specs.Plans.{Plan}
use Rattle.term_plans.specs.TermPlans.{Placed, TermPlan, closed, closing, begun, factor_plans, with_addend, sum_plan, sum_relation, term_plan, numeral_plan, Scaling, by_numeral, by_divisor, scaled_all}
use Rattle.term_plans.specs.Makings.{plan_at}
use Rattle.term_plans.specs.Planning.{Adds, Does, DoesTerm, base_made, closed_made, placed_plan, placed_at, IsWithin}
use Rattle.term_plans.specs.TermPlanning.{term_of, scaling_in, scaling_view, Begins, other_of, sum_of, IsSumSoFar}
use Rattle.term_plans.specs.declared.planner.Planner.{Planner}
use Rattle.term_plans.specs.declared.planner.Placed as found
use Rattle.term_plans.specs.declared.multiples.Scaling as parsed_scaling
use Rattle.term_plans.specs.declared.multiples.Scaling.TheVariants as scalings
use Rattle.term_plans.specs.declared.terms.Before.{Before}
use Rattle.term_plans.proofs.PlanningLemmas.{adds_none, adds_then, placed_later}
use Rattle.term_plans.proofs.MultiplesMade.{scaled_after}

scalings_new : (s : Name) (fs : Factors) (f : Factor) (x : Scaling) → scaling_in f ≡ Some x → (factor_plans s (factors fs f)).scalings ≡ (factor_plans s fs).scalings ++ x ∷ []
scalings_new s fs (times (numeral d)) x is = ap (λ y. (factor_plans s fs).scalings ++ y ∷ []) (same_Some (by_numeral d) x is)
scalings_new s fs (times (variable n)) x is = absurd (none-some x is)
scalings_new s fs (times (product gs)) x is = absurd (none-some x is)
scalings_new s fs (times (sum ss t)) x is = absurd (none-some x is)
scalings_new s fs (divided d) x is = ap (λ y. (factor_plans s fs).scalings ++ y ∷ []) (same_Some (by_divisor d) x is)

scalings_kept : (s : Name) (fs : Factors) (f : Factor) → scaling_in f ≡ None → (factor_plans s (factors fs f)).scalings ≡ (factor_plans s fs).scalings
scalings_kept s fs (times (numeral d)) is = absurd (none-some (by_numeral d) (sym is))
scalings_kept s fs (times (variable n)) is = refl
scalings_kept s fs (times (product gs)) is = refl
scalings_kept s fs (times (sum ss t)) is = refl
scalings_kept s fs (divided d) is = absurd (none-some (by_divisor d) (sym is))

pub scalings_more : (s : Name) (fs : List parsed.Factor) (i : ℕ) (x : parsed_scaling.Scaling) (f : parsed.Factor) (xs ys : List parsed_scaling.Scaling) → i < length fs → f ≡ get_or fs i f → scaling_in (factor_view f) ≡ Some (scaling_view x)
    → (factor_plans s (factors_view (take i fs))).scalings ≡ map scaling_view xs → ys ≡ xs ++ x ∷ [] → (factor_plans s (factors_view (take (i + 1) fs))).scalings ≡ map scaling_view ys
scalings_more s fs i x f xs ys within at is so_far more =
    ap (λ gs. (factor_plans s gs).scalings) (factors_more fs i f within ∙ ap (λ g. factors (factors_view (take i fs)) (factor_view g)) (sym at))
    ∙ scalings_new s (factors_view (take i fs)) (factor_view f) (scaling_view x) is ∙ ap (λ l. l ++ scaling_view x ∷ []) so_far
    ∙ sym (map-append scaling_view xs (x ∷ [])) ∙ ap (map scaling_view) (sym more)

pub scalings_same : (s : Name) (fs : List parsed.Factor) (i : ℕ) (f : parsed.Factor) (xs : List parsed_scaling.Scaling) → i < length fs → f ≡ get_or fs i f → scaling_in (factor_view f) ≡ None
    → (factor_plans s (factors_view (take i fs))).scalings ≡ map scaling_view xs → (factor_plans s (factors_view (take (i + 1) fs))).scalings ≡ map scaling_view xs
scalings_same s fs i f xs within at is so_far =
    ap (λ gs. (factor_plans s gs).scalings) (factors_more fs i f within ∙ ap (λ g. factors (factors_view (take i fs)) (factor_view g)) (sym at))
    ∙ scalings_kept s (factors_view (take i fs)) (factor_view f) is ∙ so_far

-- the index so far
abbrev pub IsOtherSoFar : List parsed.Factor → ℕ → Option ℕ → Type 0
IsOtherSoFar fs i None = other_of (factors_view (take i fs)) ≡ None
IsOtherSoFar fs i (Some j) = (j < length fs) × ((d : parsed.Factor) → other_of (factors_view (take i fs)) ≡ Some (term_of (factor_view (get_or fs j d))))

-- what a product without another factor begins with
pub begins_none : (all : List parsed_scaling.Scaling) → length all ≡ 0 → Begins all 1 all
begins_none [] none s k = refl
begins_none (x ∷ xs) none s k = absurd (omega (arith, none))

pub begins_numeral : (all rest : List parsed_scaling.Scaling) (x : parsed_scaling.Scaling) (c : ℕ) → all ≡ x ∷ rest → x ≡ scalings.Times c → Begins all c rest
begins_numeral all rest x c is numeral_is s k = ap (λ l. begun s None (map scaling_view l) k) (is ∙ ap (λ y. y ∷ rest) numeral_is)

pub begins_divisor : (all rest : List parsed_scaling.Scaling) (x : parsed_scaling.Scaling) (c : ℕ) → all ≡ x ∷ rest → x ≡ scalings.Over c → Begins all 1 all
begins_divisor all rest x c is divisor_is s k =
    let same : all ≡ scalings.Over c ∷ rest = is ∙ ap (λ y. y ∷ rest) divisor_is in
    ap (λ l. begun s None (map scaling_view l) k) same ∙ sym (ap (λ l. scaled_all s (numeral_plan s 1 k) (map scaling_view l)) same)

pub begun_answers : {E : Type 0} (r : Result found.Placed E) (old mid new : Planner) (v : found.Placed) (s : Name) (all rest : List parsed_scaling.Scaling) (c : ℕ) → Begins all c rest
    → DoesTerm old mid v (numeral_plan s c old.next) → IfOk r (λ w. DoesTerm mid new w (scaled_all s (placed_plan (placed_at mid.plans v) mid.next) (map scaling_view rest)))
    → IfOk r (λ w. DoesTerm old new w (begun s None (map scaling_view all) old.next))
begun_answers (Ok w) old mid new v s all rest c begins first second =
    subst (λ p. DoesTerm old new w p) (sym (begins s old.next)) (scaled_after old mid new v w s (numeral_plan s c old.next) (map scaling_view rest) first second)
begun_answers (Err e) old mid new v s all rest c begins first second = second

-- two values joined
pub sum_does : (old taken one two new : Planner) (b : Before) (v w : found.Placed) (i j k r : ℕ) (s : Name) → IsWithin old.plans b.sum.relation → IsWithin old.plans v.relation
    → r ≡ old.next → taken.next ≡ old.next + 1 → taken.plans ≡ old.plans
    → Does taken one i (base_made (sum_relation s (sign_view b.sign) (placed_at old.plans b.sum).track (placed_at old.plans v).track (fresh r)) taken.next)
    → Does one two j (closed_made one.next (placed_at one.plans b.sum) (plan_at one.plans i))
    → Does two new k (closed_made two.next (placed_at two.plans v) (plan_at two.plans j))
    → IsWithin new.plans w.relation → placed_at new.plans w ≡ record { track = fresh r; relation = Some (plan_at new.plans k) }
    → DoesTerm old new w (with_addend s (sign_view b.sign) (placed_plan (placed_at old.plans b.sum) old.next) (placed_plan (placed_at old.plans v) old.next))
sum_does old taken one two new b v w i j k r s inside within here next same first second third fits value_placed =
    let p : Placed = placed_at old.plans b.sum in
    let q : Placed = placed_at old.plans v in
    let base : Plan = sum_relation s (sign_view b.sign) p.track q.track (fresh old.next) in
    let made : Does taken one i (base_made base taken.next) = subst (λ x. Does taken one i (base_made (sum_relation s (sign_view b.sign) p.track q.track (fresh x)) taken.next)) here first in
    let adds : Adds old.plans one.plans [] = subst (λ l. Adds l one.plans []) same made.adds in
    let half : Does one two j (closed_made one.next p base) =
    subst (λ x. Does one two j (closed_made one.next x base)) (placed_later old.plans one.plans [] b.sum adds inside)
    (subst (λ x. Does one two j (closed_made one.next (placed_at one.plans b.sum) x)) made.last.is second) in
    let prefix : Adds old.plans two.plans (closing p base) = adds_then old.plans one.plans two.plans [] (closing p base) adds half.adds in
    let whole : Does two new k (closed_made two.next q (closed p base)) =
    subst (λ x. Does two new k (closed_made two.next x (closed p base))) (placed_later old.plans two.plans (closing p base) v prefix within)
    (subst (λ x. Does two new k (closed_made two.next (placed_at two.plans v) x)) half.last.is third) in
    record {
      adds = adds_then old.plans two.plans new.plans (closing p base) (closing q (closed p base)) prefix whole.adds;
      within = fits;
      placed_is = value_placed ∙ ap (λ x. let z : Placed = record { track = fresh x; relation = Some (plan_at new.plans k) } in z) here
          ∙ ap (λ x. let z : Placed = record { track = fresh old.next; relation = Some x } in z) whole.last.is;
      next = whole.next ∙ half.next ∙ made.next ∙ next;
    }

pub sum_answers : (s : Name) (plans : List Plan) (before : Option Before) (b : Before) (p : Placed) (k : ℕ) (old new : Planner) (w : found.Placed) → before ≡ Some b
    → DoesTerm old new w (sum_of s plans (Some b) p k) → DoesTerm old new w (sum_of s plans before p k)
sum_answers s plans before b p k old new w same does = subst (λ x. DoesTerm old new w (sum_of s plans x p k)) (sym same) does

-- a value after a sum so far
pub sum_then : (s : Name) (ss : Addends) (old mid one new : Planner) (before : Option Before) (v w : found.Placed) (q : ℕ → TermPlan) → IsSumSoFar s ss old mid before
    → DoesTerm mid one v (q mid.next) → DoesTerm one new w (sum_of s one.plans before (placed_at one.plans v) one.next) → DoesTerm old new w (sum_plan s ss q old.next)
sum_then s ss old mid one new None v w q so_far value after =
    let here : DoesTerm old one v (q old.next) = subst (λ (m : Planner). DoesTerm m one v (q m.next)) so_far.1 value in
    subst (λ x. DoesTerm old new w (sum_plan s x q old.next)) (sym so_far.0) (record {
      adds = subst (λ l. Adds old.plans new.plans l) (append-nil (q old.next).steps) (adds_then old.plans one.plans new.plans (q old.next).steps [] here.adds after.adds);
      within = after.within;
      placed_is = after.placed_is ∙ here.placed_is;
      next = after.next ∙ here.next;
    })
sum_then s ss old mid one new (Some b) v w q so_far value after =
    let p : TermPlan = so_far.0 in
    let first : DoesTerm old mid b.sum p = so_far.1 in
    let r : TermPlan = q p.next in
    let here : DoesTerm mid one v r = subst (λ k. DoesTerm mid one v (q k)) first.next value in
    let sum_track : placed_at one.plans b.sum ≡ p.placed = placed_later mid.plans one.plans r.steps b.sum here.adds first.within ∙ first.placed_is in
    let last : DoesTerm one new w (with_addend s (sign_view b.sign) (placed_plan p.placed r.next) (placed_plan r.placed r.next)) =
    subst (λ k. DoesTerm one new w (with_addend s (sign_view b.sign) (placed_plan p.placed k) (placed_plan r.placed k))) here.next
    (subst (λ x. DoesTerm one new w (with_addend s (sign_view b.sign) (placed_plan p.placed one.next) (placed_plan x one.next))) here.placed_is
    (subst (λ x. DoesTerm one new w (with_addend s (sign_view b.sign) (placed_plan x one.next) (placed_plan (placed_at one.plans v) one.next))) sum_track after)) in
    let rest : List Plan = (with_addend s (sign_view b.sign) (placed_plan p.placed r.next) (placed_plan r.placed r.next)).steps in
    subst (λ x. DoesTerm old new w x) (sym (so_far.2 q)) (record {
      adds = adds_then old.plans mid.plans new.plans p.steps (r.steps ++ rest) first.adds (adds_then mid.plans one.plans new.plans r.steps rest here.adds last.adds);
      within = last.within;
      placed_is = last.placed_is;
      next = last.next;
    })

-- one addend more
pub sum_more : (s : Name) (ss : List parsed_addend.Addend) (i : ℕ) (a : parsed_addend.Addend) (old mid one new : Planner) (before : Option Before) (v w : found.Placed) → i < length ss → a ≡ get_or ss i a
    → IsSumSoFar s (addends_view (take i ss)) old mid before → DoesTerm mid one v (term_plan s (term_view a.term) mid.next)
    → DoesTerm one new w (sum_of s one.plans before (placed_at one.plans v) one.next)
    → IsSumSoFar s (addends_view (take (i + 1) ss)) old new (Some (record { sum = w; sign = a.sign }))
sum_more s ss i a old mid one new before v w within at so_far value after =
    subst (λ x. IsSumSoFar s x old new (Some (record { sum = w; sign = a.sign }))) (sym (addends_more ss i a within ∙ ap (λ b. addend_added (addends_view (take i ss)) (addend_view b)) (sym at))) (
      sum_plan s (addends_view (take i ss)) (term_plan s (term_view a.term)) old.next,
      sum_then s (addends_view (take i ss)) old mid one new before v w (term_plan s (term_view a.term)) so_far value after,
      λ last. refl,
    )

-- all addends, and the last one
pub sum_answers_all : {E : Type 0} (r : Result found.Placed E) (s : Name) (whole t : Term) (ss ts : List parsed_addend.Addend) (i : ℕ) (old mid one new : Planner) (before : Option Before) (v : found.Placed)
    → whole ≡ sum (addends_view ts) t → ss ≡ ts → length ss ≤ i
    → IsSumSoFar s (addends_view (take i ss)) old mid before → DoesTerm mid one v (term_plan s t mid.next)
    → IfOk r (λ w. DoesTerm one new w (sum_of s one.plans before (placed_at one.plans v) one.next)) → IfOk r (λ w. DoesTerm old new w (term_plan s whole old.next))
sum_answers_all (Ok w) s whole t ss ts i old mid one new before v seen same long so_far value after =
    subst (λ x. DoesTerm old new w (term_plan s x old.next)) (sym seen)
    (sum_then s (addends_view ts) old mid one new before v w (term_plan s t) (subst (λ l. IsSumSoFar s (addends_view l) old mid before) (take_all i ss long ∙ same) so_far) value after)
sum_answers_all (Err e) s whole t ss ts i old mid one new before v seen same long so_far value after = after

-- a variable's value is at its own track
pub variable_does : (s : Name) (whole : Term) (old : Planner) (w : found.Placed) (n : Name) → whole ≡ variable n → w.relation ≡ None → placed_at old.plans w ≡ record { track = own n; relation = None }
    → DoesTerm old old w (term_plan s whole old.next)
variable_does s whole old w n seen bare value_placed =
    subst (λ x. DoesTerm old old w (term_plan s x old.next)) (sym seen)
    (record { adds = adds_none old.plans; within = subst (λ r. IsWithin old.plans r) (sym bare) tt; placed_is = value_placed; next = refl })

pub seen_answers : {E : Type 0} (r : Result found.Placed E) (s : Name) (whole seen : Term) (old new : Planner) → whole ≡ seen → IfOk r (λ w. DoesTerm old new w (term_plan s seen old.next))
    → IfOk r (λ w. DoesTerm old new w (term_plan s whole old.next))
seen_answers (Ok w) s whole seen old new same does = subst (λ x. DoesTerm old new w (term_plan s x old.next)) (sym same) does
seen_answers (Err e) s whole seen old new same does = does

-- the numeral of a divisor
pub divisor_does : {E : Type 0} (r : Result found.Placed E) (s : Name) (f : Factor) (c : ℕ) (old new : Planner) → f ≡ divided c → IfOk r (λ w. DoesTerm old new w (numeral_plan s c old.next))
    → IfOk r (λ w. DoesTerm old new w (term_plan s (term_of f) old.next))
divisor_does (Ok w) s f c old new same does = subst (λ g. DoesTerm old new w (term_plan s (term_of g) old.next)) (sym same) does
divisor_does (Err e) s f c old new same does = does

-- the plan of the factor that is no numeral
abbrev plan_of_other : Name → Option Term → Option (ℕ → TermPlan)
plan_of_other s None = None
plan_of_other s (Some t) = Some (term_plan s t)

other_plan : (s : Name) (fs : Factors) → (factor_plans s fs).other ≡ plan_of_other s (other_of fs)
other_plan s no_factors = refl
other_plan s (factors fs (times (numeral c))) = other_plan s fs
other_plan s (factors fs (divided c)) = other_plan s fs
other_plan s (factors fs (times (variable n))) = refl
other_plan s (factors fs (times (product gs))) = refl
other_plan s (factors fs (times (sum ss t))) = refl

pub product_answers : {E : Type 0} (r : Result found.Placed E) (s : Name) (fs : Factors) (t : Term) (xs : List Scaling) (old mid new : Planner) (v : found.Placed)
    → DoesTerm old mid v (term_plan s t old.next) → other_of fs ≡ Some t → (factor_plans s fs).scalings ≡ xs
    → IfOk r (λ w. DoesTerm mid new w (scaled_all s (placed_plan (placed_at mid.plans v) mid.next) xs)) → IfOk r (λ w. DoesTerm old new w (term_plan s (product fs) old.next))
product_answers (Ok w) s fs t xs old mid new v first other found_are second =
    subst (λ o. DoesTerm old new w (begun s o (factor_plans s fs).scalings old.next)) (sym (other_plan s fs ∙ ap (plan_of_other s) other))
    (subst (λ l. DoesTerm old new w (begun s (Some (term_plan s t)) l old.next)) (sym found_are) (scaled_after old mid new v w s (term_plan s t old.next) xs first second))
product_answers (Err e) s fs t xs old mid new v first other found_are second = second

pub numerals_answers : {E : Type 0} (r : Result found.Placed E) (s : Name) (fs : Factors) (xs : List Scaling) (old new : Planner)
    → other_of fs ≡ None → (factor_plans s fs).scalings ≡ xs → IfOk r (λ w. DoesTerm old new w (begun s None xs old.next)) → IfOk r (λ w. DoesTerm old new w (term_plan s (product fs) old.next))
numerals_answers (Ok w) s fs xs old new other found_are does =
    subst (λ o. DoesTerm old new w (begun s o (factor_plans s fs).scalings old.next)) (sym (other_plan s fs ∙ ap (plan_of_other s) other))
    (subst (λ l. DoesTerm old new w (begun s None l old.next)) (sym found_are) does)
numerals_answers (Err e) s fs xs old new other found_are does = does

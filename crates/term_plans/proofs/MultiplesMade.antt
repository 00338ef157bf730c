-- Plans of multiples, made part by part.
use Rattle.std.proofs.Common.{◌≡◌, ◌≢◌, ℕ, zero, suc, ◌+◌, ◌-◌, ◌/◌, ◌%◌, ◌<◌, ◌≤◌, ◌==◌, true, false, List, [], ◌∷◌, ◌++◌, length, map, get_or, take, Some, Result, Ok, Err, IfOk, refl, sym, ◌∙◌, ap, subst, arith, append-nil, append_assoc}
use Rattle.std.proofs.lemmas.Bool.{false_from_ne_true, eqb-true}
use Rattle.std.proofs.lemmas.List.{take_more, map-append}
use Rattle.formula_parse.specs.Tokens.{Name, equal, less}
use Rattle.formula_parse.specs.Trees.{and}
use Rattle.term_plans.specs.Tracks.{Track, fresh}
use Rattle.term_plans.specs.Plans.{Plan, compared, added, number, constant, joined, Made}
use Rattle.term_plans.specs.TermPlans.{Placed, TermPlan, no_times, linked, multiple, parted, below, quotient_made, Scaling, scaling_made, closing, scaled, scaled_all}
use Rattle.term_plans.specs.Makings.{plan_at}
use Rattle.term_plans.specs.Planning.{Adds, IsAt, Does, DoesTerm, linked_at, base_made, constant_made, closed_made, placed_plan, placed_at, IsWithin}
use Rattle.term_plans.specs.TermPlanning.{scaling_view}
use Rattle.term_plans.specs.declared.multiples.Scaling as parsed_scaling
use Rattle.term_plans.specs.declared.multiples.Scaling.TheVariants as scalings
use Rattle.term_plans.specs.declared.planner.Planner.{Planner}
use Rattle.term_plans.specs.declared.planner.Placed as found
use Rattle.term_plans.proofs.PlanningLemmas.{adds_then, at_later, is_at_later, placed_later}

pub no_times_does : (old one two new : Planner) (i j k : ℕ) (s : Name) (x y : Track)
    → Does old one i (constant_made s 0 y old.next) → Does one two j (base_made (number s x) one.next)
    → Does two new k (record { steps = joined and (plan_at two.plans i) (plan_at two.plans j) ∷ []; last = joined and (plan_at two.plans i) (plan_at two.plans j); next = two.next })
    → Does old new k (no_times s x y old.next)
no_times_does old one two new i j k s x y first second third =
    let left : plan_at two.plans i ≡ constant s 0 y = at_later one.plans two.plans [] i second.adds first.last.within ∙ first.last.is in
    let both : joined and (plan_at two.plans i) (plan_at two.plans j) ≡ joined and (constant s 0 y) (number s x) = ap (λ p. joined and p (plan_at two.plans j)) left ∙ ap (joined and (constant s 0 y)) second.last.is in
    record {
      adds = adds_then old.plans one.plans new.plans (constant s 0 y ∷ []) (joined and (constant s 0 y) (number s x) ∷ []) first.adds
          (adds_then one.plans two.plans new.plans [] (joined and (constant s 0 y) (number s x) ∷ []) second.adds (subst (λ p. Adds two.plans new.plans (p ∷ [])) both third.adds));
      last = subst (λ p. IsAt new.plans k p) both third.last;
      next = third.next ∙ second.next ∙ first.next;
    }

pub linked_does : (old taken one two new : Planner) (i j k : ℕ) (m : Made) (t : Track) (base : Plan) → taken.plans ≡ old.plans
    → Does taken one i m → Does one two j (base_made base one.next) → Does two new k (linked_at (plan_at two.plans i) (plan_at two.plans j) t two.next)
    → Does old new k (linked m t base)
linked_does old taken one two new i j k m t base same first second third =
    let left : plan_at two.plans i ≡ m.last = at_later one.plans two.plans [] i second.adds first.last.within ∙ first.last.is in
    let whole : Does two new k (linked_at m.last base t two.next) =
    subst (λ p. Does two new k (linked_at m.last p t two.next)) second.last.is (subst (λ p. Does two new k (linked_at p (plan_at two.plans j) t two.next)) left third) in
    record {
      adds = adds_then old.plans one.plans new.plans m.steps (linked_at m.last base t two.next).steps (subst (λ l. Adds l one.plans m.steps) same first.adds)
          (adds_then one.plans two.plans new.plans [] (linked_at m.last base t two.next).steps second.adds whole.adds);
      last = whole.last;
      next = whole.next ∙ second.next ∙ first.next;
    }

no_one : (n c : ℕ) → n ≢ c → (n == c) ≡ false
no_one n c apart = false_from_ne_true (n == c) (λ same. apart (eqb-true n c same))

pub multiple_none : (most : ℕ) (s : Name) (c : ℕ) (x y : Track) (k : ℕ) → c ≡ 0 → multiple most s c x y k ≡ no_times s x y k
multiple_none zero s c x y k none = refl
multiple_none (suc most) s c x y k none = ap (λ d. multiple (suc most) s d x y k) none

pub multiple_once : (most : ℕ) (s : Name) (c : ℕ) (x y : Track) (k : ℕ) → c ≡ 1 → c ≤ most → multiple most s c x y k ≡ base_made (compared s equal x y) k
multiple_once zero s c x y k one within = absurd (omega (arith, one, within))
multiple_once (suc most) s c x y k one within = ap (λ d. multiple (suc most) s d x y k) one

pub multiple_twice : (most : ℕ) (s : Name) (c : ℕ) (x y : Track) (k : ℕ) → c ≡ 2 → c ≤ most → multiple most s c x y k ≡ base_made (added s x x y) k
multiple_twice zero s c x y k two within = absurd (omega (arith, two, within))
multiple_twice (suc most) s c x y k two within = ap (λ d. multiple (suc most) s d x y k) two

multiple_even : (most : ℕ) (s : Name) (c : ℕ) (x y : Track) (k : ℕ) → 2 < c → c % 2 ≡ 0
    → multiple (suc most) s c x y k ≡ linked (multiple most s (c / 2) x (fresh k) (k + 1)) (fresh k) (added s (fresh k) (fresh k) y)
multiple_even most s c x y k large even =
    let zero_no : (c == 0) ≡ false = no_one c 0 (λ is. let e : c ≡ 0 = is in omega (arith, large, e)) in
    let one_no : (c == 1) ≡ false = no_one c 1 (λ is. let e : c ≡ 1 = is in omega (arith, large, e)) in
    let two_no : (c == 2) ≡ false = no_one c 2 (λ is. let e : c ≡ 2 = is in omega (arith, large, e)) in
    let parity : (c % 2 == 0) ≡ true = ap (λ d. d == 0) even in
    rw (zero_no, one_no, two_no, parity)

multiple_odd : (most : ℕ) (s : Name) (c : ℕ) (x y : Track) (k : ℕ) → 2 < c → c % 2 ≢ 0
    → multiple (suc most) s c x y k ≡ linked (multiple most s (c - 1) x (fresh k) (k + 1)) (fresh k) (added s (fresh k) x y)
multiple_odd most s c x y k large odd =
    let zero_no : (c == 0) ≡ false = no_one c 0 (λ is. let e : c ≡ 0 = is in omega (arith, large, e)) in
    let one_no : (c == 1) ≡ false = no_one c 1 (λ is. let e : c ≡ 1 = is in omega (arith, large, e)) in
    let two_no : (c == 2) ≡ false = no_one c 2 (λ is. let e : c ≡ 2 = is in omega (arith, large, e)) in
    let parity : (c % 2 == 0) ≡ false = no_one (c % 2) 0 odd in
    rw (zero_no, one_no, two_no, parity)

pub even_does : (old taken one two new : Planner) (i j k r : ℕ) (s : Name) (c : ℕ) (x y : Track) → r ≡ old.next → taken.next ≡ old.next + 1 → taken.plans ≡ old.plans → 2 < c → c % 2 ≡ 0
    → ((most : ℕ) → c / 2 ≤ most → Does taken one i (multiple most s (c / 2) x (fresh r) taken.next))
    → Does one two j (base_made (added s (fresh r) (fresh r) y) one.next) → Does two new k (linked_at (plan_at two.plans i) (plan_at two.plans j) (fresh r) two.next)
    → (most : ℕ) → c ≤ most → Does old new k (multiple most s c x y old.next)
even_does old taken one two new i j k r s c x y here next same large even first second third zero within = absurd (omega (arith, large, within))
even_does old taken one two new i j k r s c x y here next same large even first second third (suc most) within =
    subst (λ m. Does old new k m)
    (ap (λ q. linked (multiple most s (c / 2) x (fresh q) taken.next) (fresh q) (added s (fresh q) (fresh q) y)) here
    ∙ ap (λ l. linked (multiple most s (c / 2) x (fresh old.next) l) (fresh old.next) (added s (fresh old.next) (fresh old.next) y)) next
    ∙ sym (multiple_even most s c x y old.next large even))
    (linked_does old taken one two new i j k (multiple most s (c / 2) x (fresh r) taken.next) (fresh r) (added s (fresh r) (fresh r) y) same (first most (omega (arith, large, within))) second third)

pub odd_does : (old taken one two new : Planner) (i j k r : ℕ) (s : Name) (c : ℕ) (x y : Track) → r ≡ old.next → taken.next ≡ old.next + 1 → taken.plans ≡ old.plans → 2 < c → c % 2 ≢ 0
    → ((most : ℕ) → c - 1 ≤ most → Does taken one i (multiple most s (c - 1) x (fresh r) taken.next))
    → Does one two j (base_made (added s (fresh r) x y) one.next) → Does two new k (linked_at (plan_at two.plans i) (plan_at two.plans j) (fresh r) two.next)
    → (most : ℕ) → c ≤ most → Does old new k (multiple most s c x y old.next)
odd_does old taken one two new i j k r s c x y here next same large odd first second third zero within = absurd (omega (arith, large, within))
odd_does old taken one two new i j k r s c x y here next same large odd first second third (suc most) within =
    subst (λ m. Does old new k m)
    (ap (λ q. linked (multiple most s (c - 1) x (fresh q) taken.next) (fresh q) (added s (fresh q) x y)) here
    ∙ ap (λ l. linked (multiple most s (c - 1) x (fresh old.next) l) (fresh old.next) (added s (fresh old.next) x y)) next
    ∙ sym (multiple_odd most s c x y old.next large odd))
    (linked_does old taken one two new i j k (multiple most s (c - 1) x (fresh r) taken.next) (fresh r) (added s (fresh r) x y) same (first most (omega (arith, large, within))) second third)

-- a number parted, and one below a divisor
pub parted_does : (old one two new : Planner) (i j k : ℕ) (s : Name) (c : ℕ) (x y part rest : Track)
    → ((most : ℕ) → c ≤ most → Does old one i (multiple most s c y part old.next)) → Does one two j (base_made (added s part rest x) one.next)
    → Does two new k (linked_at (plan_at two.plans i) (plan_at two.plans j) part two.next) → Does old new k (parted s c x y part rest old.next)
parted_does old one two new i j k s c x y part rest first second third =
    linked_does old old one two new i j k (multiple c s c y part old.next) part (added s part rest x) refl (first c (omega arith)) second third

pub below_does : (old one two new : Planner) (i j k : ℕ) (s : Name) (c : ℕ) (rest bound : Track)
    → Does old one i (constant_made s c bound old.next) → Does one two j (base_made (compared s less rest bound) one.next)
    → Does two new k (linked_at (plan_at two.plans i) (plan_at two.plans j) bound two.next) → Does old new k (below s c rest bound old.next)
below_does old one two new i j k s c rest bound first second third =
    linked_does old old one two new i j k (constant_made s c bound old.next) bound (compared s less rest bound) refl first second third

-- quotients
pub quotient_once : {E : Type 0} (r : Result ℕ E) (old new : Planner) (s : Name) (c : ℕ) (x y : Track) → c ≡ 1 → IfOk r (λ place. Does old new place (base_made (compared s equal x y) old.next))
    → IfOk r (λ place. Does old new place (quotient_made s c x y old.next))
quotient_once (Ok place) old new s c x y one does = subst (λ m. Does old new place m) (sym (ap (λ d. quotient_made s d x y old.next) one)) does
quotient_once (Err e) old new s c x y one does = does

abbrev quotient_parts : Name → ℕ → Track → Track → ℕ → Made
quotient_parts s c x y k =
    let whole = parted s c x y (fresh k) (fresh (k + 1)) (k + 3) in
    let small = below s c (fresh (k + 1)) (fresh (k + 2)) whole.next in
    linked (record { steps = whole.steps ++ small.steps; last = small.last; next = small.next }) (fresh (k + 1)) whole.last

quotient_more : (s : Name) (c : ℕ) (x y : Track) (k : ℕ) → c ≢ 1 → quotient_made s c x y k ≡ quotient_parts s c x y k
quotient_more s c x y k more = let not_one : (c == 1) ≡ false = no_one c 1 more in rw not_one

pub quotient_does : (old taken one two new : Planner) (i j k p q r : ℕ) (s : Name) (c : ℕ) (x y : Track) → c ≢ 1
    → p ≡ old.next → q ≡ old.next + 1 → r ≡ old.next + 2 → taken.next ≡ old.next + 3 → taken.plans ≡ old.plans
    → Does taken one i (parted s c x y (fresh p) (fresh q) taken.next) → Does one two j (below s c (fresh q) (fresh r) one.next)
    → Does two new k (linked_at (plan_at two.plans j) (plan_at two.plans i) (fresh q) two.next) → Does old new k (quotient_made s c x y old.next)
quotient_does old taken one two new i j k p q r s c x y more part_is rest_is bound_is next same first second third =
    let n : ℕ = old.next in
    let whole : Made = parted s c x y (fresh n) (fresh (n + 1)) (n + 3) in
    let small : Made = below s c (fresh (n + 1)) (fresh (n + 2)) whole.next in
    let one_does : Does taken one i whole =
    subst (λ l. Does taken one i (parted s c x y (fresh n) (fresh (n + 1)) l)) next
    (subst (λ l. Does taken one i (parted s c x y (fresh n) (fresh l) taken.next)) rest_is
    (subst (λ l. Does taken one i (parted s c x y (fresh l) (fresh q) taken.next)) part_is first)) in
    let two_does : Does one two j small =
    subst (λ l. Does one two j (below s c (fresh (n + 1)) (fresh (n + 2)) l)) one_does.next
    (subst (λ l. Does one two j (below s c (fresh (n + 1)) (fresh l) one.next)) bound_is
    (subst (λ l. Does one two j (below s c (fresh l) (fresh r) one.next)) rest_is second)) in
    let left : plan_at two.plans i ≡ whole.last = at_later one.plans two.plans small.steps i two_does.adds one_does.last.within ∙ one_does.last.is in
    let last : Does two new k (linked_at small.last whole.last (fresh (n + 1)) two.next) =
    subst (λ l. Does two new k (linked_at small.last whole.last (fresh l) two.next)) rest_is
    (subst (λ l. Does two new k (linked_at small.last l (fresh q) two.next)) left
    (subst (λ l. Does two new k (linked_at l (plan_at two.plans i) (fresh q) two.next)) two_does.last.is third)) in
    subst (λ m. Does old new k m) (sym (quotient_more s c x y n more)) (record {
      adds = adds_then old.plans two.plans new.plans (whole.steps ++ small.steps) (linked_at small.last whole.last (fresh (n + 1)) two.next).steps
          (adds_then old.plans one.plans two.plans whole.steps small.steps (subst (λ l. Adds l one.plans whole.steps) same one_does.adds) two_does.adds) last.adds;
      last = last.last;
      next = last.next ∙ two_does.next;
    })

-- a scaling that is seen so
pub times_answers : {E : Type 0} (r : Result ℕ E) (old new : Planner) (s : Name) (f : parsed_scaling.Scaling) (c : ℕ) (x y : Track) → f ≡ scalings.Times c
    → IfOk r (λ place. (most : ℕ) → c ≤ most → Does old new place (multiple most s c x y old.next)) → IfOk r (λ place. Does old new place (scaling_made s (scaling_view f) x y old.next))
times_answers (Ok place) old new s f c x y is does = subst (λ g. Does old new place (scaling_made s (scaling_view g) x y old.next)) (sym is) (does c (omega arith))
times_answers (Err e) old new s f c x y is does = does

pub over_answers : {E : Type 0} (r : Result ℕ E) (old new : Planner) (s : Name) (f : parsed_scaling.Scaling) (c : ℕ) (x y : Track) → f ≡ scalings.Over c
    → IfOk r (λ place. Does old new place (quotient_made s c x y old.next)) → IfOk r (λ place. Does old new place (scaling_made s (scaling_view f) x y old.next))
over_answers (Ok place) old new s f c x y is does = subst (λ g. Does old new place (scaling_made s (scaling_view g) x y old.next)) (sym is) does
over_answers (Err e) old new s f c x y is does = does

-- a value scaled
pub scaled_does : (old taken one new : Planner) (v w : found.Placed) (i j r : ℕ) (s : Name) (f : Scaling) → IsWithin old.plans v.relation
    → r ≡ old.next → taken.next ≡ old.next + 1 → taken.plans ≡ old.plans
    → Does taken one i (scaling_made s f (placed_at old.plans v).track (fresh r) taken.next)
    → Does one new j (closed_made one.next (placed_at one.plans v) (plan_at one.plans i))
    → IsWithin new.plans w.relation → placed_at new.plans w ≡ record { track = fresh r; relation = Some (plan_at new.plans j) }
    → DoesTerm old new w (scaled s (placed_plan (placed_at old.plans v) old.next) f)
scaled_does old taken one new v w i j r s f inside here next same first second within value_placed =
    let p : Placed = placed_at old.plans v in
    let ours : Does old one i (scaling_made s f p.track (fresh old.next) (old.next + 1)) =
    subst (λ l. Does old one i (scaling_made s f p.track (fresh old.next) l)) next
    (subst (λ q. Does old one i (scaling_made s f p.track (fresh q) taken.next)) here
    (record { adds = subst (λ l. Adds l one.plans (scaling_made s f p.track (fresh r) taken.next).steps) same first.adds; last = first.last; next = first.next })) in
    let m : Made = scaling_made s f p.track (fresh old.next) (old.next + 1) in
    let closes : Does one new j (closed_made one.next p m.last) =
    subst (λ q. Does one new j (closed_made one.next q m.last)) (placed_later old.plans one.plans m.steps v ours.adds inside)
    (subst (λ q. Does one new j (closed_made one.next (placed_at one.plans v) q)) ours.last.is second) in
    record {
      adds = adds_then old.plans one.plans new.plans m.steps (closing p m.last) ours.adds closes.adds;
      within = within;
      placed_is = value_placed ∙ ap (λ q. let z : Placed = record { track = fresh q; relation = Some (plan_at new.plans j) } in z) here
          ∙ ap (λ q. let z : Placed = record { track = fresh old.next; relation = Some q } in z) closes.last.is;
      next = closes.next ∙ ours.next;
    }

-- one scaling more
scaled_end : (s : Name) (p : TermPlan) (fs : List Scaling) (f : Scaling) → scaled_all s p (fs ++ f ∷ []) ≡ scaled s (scaled_all s p fs) f
scaled_end s p [] f = refl
scaled_end s p (g ∷ fs) f = scaled_end s (scaled s p g) fs f

pub scaled_more : (old mid new : Planner) (v w : found.Placed) (s : Name) (p : TermPlan) (xs : List parsed_scaling.Scaling) (i : ℕ) (x : parsed_scaling.Scaling) → i < length xs → x ≡ get_or xs i x
    → DoesTerm old mid v (scaled_all s p (map scaling_view (take i xs))) → DoesTerm mid new w (scaled s (placed_plan (placed_at mid.plans v) mid.next) (scaling_view x))
    → DoesTerm old new w (scaled_all s p (map scaling_view (take (i + 1) xs)))
scaled_more old mid new v w s p xs i x within at first second =
    let f : Scaling = scaling_view x in
    let q : TermPlan = scaled_all s p (map scaling_view (take i xs)) in
    let later : DoesTerm mid new w (scaled s (placed_plan q.placed q.next) f) =
    subst (λ l. DoesTerm mid new w (scaled s (placed_plan q.placed l) f)) first.next
    (subst (λ z. DoesTerm mid new w (scaled s (placed_plan z mid.next) f)) first.placed_is second) in
    let whole : DoesTerm old new w (scaled s q f) = record {
      adds = adds_then old.plans mid.plans new.plans q.steps (scaled s (placed_plan q.placed q.next) f).steps first.adds later.adds;
      within = later.within;
      placed_is = later.placed_is;
      next = later.next;
    } in
    subst (λ r. DoesTerm old new w r)
    (sym (ap (λ l. scaled_all s p (map scaling_view l)) (take_more xs i x within ∙ ap (λ d. take i xs ++ d ∷ []) (sym at))
    ∙ ap (scaled_all s p) (map-append scaling_view (take i xs) (x ∷ [])) ∙ scaled_end s p (map scaling_view (take i xs)) f)) whole

-- what is made at last is in a list with more plans
pub within_after : (old mid new : Planner) (i j : ℕ) (m n : Made) → Does old mid i m → Does mid new j n → i < length new.plans
within_after old mid new i j m n one two = (is_at_later mid.plans new.plans n.steps i m.last two.adds one.last).within

-- the answers at 0, 1 and 2
pub none_answers : {E : Type 0} (r : Result ℕ E) (old new : Planner) (s : Name) (c : ℕ) (x y : Track) → c ≡ 0 → IfOk r (λ place. Does old new place (no_times s x y old.next))
    → IfOk r (λ place. (most : ℕ) → c ≤ most → Does old new place (multiple most s c x y old.next))
none_answers (Ok place) old new s c x y none does = λ most within. subst (λ m. Does old new place m) (sym (multiple_none most s c x y old.next none)) does
none_answers (Err e) old new s c x y none does = does

pub once_answers : {E : Type 0} (r : Result ℕ E) (old new : Planner) (s : Name) (c : ℕ) (x y : Track) → c ≡ 1 → IfOk r (λ place. Does old new place (base_made (compared s equal x y) old.next))
    → IfOk r (λ place. (most : ℕ) → c ≤ most → Does old new place (multiple most s c x y old.next))
once_answers (Ok place) old new s c x y one does = λ most within. subst (λ m. Does old new place m) (sym (multiple_once most s c x y old.next one within)) does
once_answers (Err e) old new s c x y one does = does

pub twice_answers : {E : Type 0} (r : Result ℕ E) (old new : Planner) (s : Name) (c : ℕ) (x y : Track) → c ≡ 2 → IfOk r (λ place. Does old new place (base_made (added s x x y) old.next))
    → IfOk r (λ place. (most : ℕ) → c ≤ most → Does old new place (multiple most s c x y old.next))
twice_answers (Ok place) old new s c x y two does = λ most within. subst (λ m. Does old new place m) (sym (multiple_twice most s c x y old.next two within)) does
twice_answers (Err e) old new s c x y two does = does

-- a product of a value that is made first
scaled_prefix : (s : Name) (p : TermPlan) (cs : List Scaling)
    → scaled_all s p cs ≡ record { steps = p.steps ++ (scaled_all s (placed_plan p.placed p.next) cs).steps; placed = (scaled_all s (placed_plan p.placed p.next) cs).placed; next = (scaled_all s (placed_plan p.placed p.next) cs).next }
scaled_prefix s p [] = ap (λ l. let q : TermPlan = record { steps = l; placed = p.placed; next = p.next } in q) (sym (append-nil p.steps))
scaled_prefix s p (c ∷ cs) =
    let one : TermPlan = scaled s (placed_plan p.placed p.next) c in
    let rest : TermPlan = scaled_all s (placed_plan one.placed one.next) cs in
    let whole : TermPlan = scaled_all s one cs in
    let from : whole ≡ record { steps = one.steps ++ rest.steps; placed = rest.placed; next = rest.next } = scaled_prefix s one cs in
    scaled_prefix s (scaled s p c) cs
    ∙ ap (λ l. let q : TermPlan = record { steps = l; placed = rest.placed; next = rest.next } in q) (append_assoc p.steps one.steps rest.steps)
    ∙ sym (ap (λ (w : TermPlan). let q : TermPlan = record { steps = p.steps ++ w.steps; placed = w.placed; next = w.next } in q) from)

pub scaled_after : (old mid new : Planner) (v w : found.Placed) (s : Name) (p : TermPlan) (cs : List Scaling)
    → DoesTerm old mid v p → DoesTerm mid new w (scaled_all s (placed_plan (placed_at mid.plans v) mid.next) cs) → DoesTerm old new w (scaled_all s p cs)
scaled_after old mid new v w s p cs first second =
    let later : DoesTerm mid new w (scaled_all s (placed_plan p.placed p.next) cs) =
    subst (λ l. DoesTerm mid new w (scaled_all s (placed_plan p.placed l) cs)) first.next
    (subst (λ z. DoesTerm mid new w (scaled_all s (placed_plan z mid.next) cs)) first.placed_is second) in
    subst (λ r. DoesTerm old new w r) (sym (scaled_prefix s p cs)) (record {
      adds = adds_then old.plans mid.plans new.plans p.steps (scaled_all s (placed_plan p.placed p.next) cs).steps first.adds later.adds;
      within = later.within;
      placed_is = later.placed_is;
      next = later.next;
    })

-- Each step of a formula's plan is a part of what the plan makes at last.
use Rattle.std.specs.Prelude.{⊤}
use Rattle.std.proofs.Common.{◌≡◌, ℕ, ℤ, zero, suc, ◌+◌, ◌-◌, ◌/◌, ◌%◌, ◌==◌, Bool, true, false, if◌then◌else◌, List, [], ◌∷◌, ◌++◌, slice_index_or, Option, None, Some, inl, inr, refl, sym, ap, subst}
use Rattle.formula_parse.specs.Tokens.{Name, Sign, Relation, equal, less, some, every, infinite, Quantifier}
use Rattle.formula_parse.specs.Trees.{Names, no_names, names, Term, variable, numeral, product, sum, Factors, no_factors, factors, times, divided, Terms, no_terms, terms, Addends, no_addends, addends, Index, Fact, compare, words, word_letter, letter_word, call, and, Formula, atom, negated, chain, quantified, marked, Operands, no_operands, operands}
use Rattle.term_plans.specs.Tracks.{Track, own, fresh, has_track}
use Rattle.term_plans.specs.Plans.{Plan, compared, added, constant, called, lettered, renamed, joined, paired, complement, projected, tracks, Made}
use Rattle.term_plans.specs.TermPlans.{TermPlan, closed_by, closed, closing_by, closing, no_times, linked, multiple, parted, below, quotient_made, Scaling, by_numeral, by_divisor, scaling_made, scaled, scaled_all, sum_relation, with_addend, numeral_plan, begun, term_plan, factor_plans, sum_plan}
use Rattle.term_plans.specs.ArgumentPlans.{Places, no_places, places, tracks_of, all_places, closed_all, closing_all, TermPlans, count, argument_plans}
use Rattle.formula_plan.specs.FactPlans.{Headers, over_terms, Form, long, variable_left, variable_right, form_by, is_equal, as_variable, named_by, compared_values, compare_by, mirrored, letter_plan, words_plan, fact_plan}
use Rattle.formula_plan.specs.FormulaPlans.{MadeOperands, none_made, made, chained, chaining, kept, projected_all, projecting, for_some, for_every, above_bound, for_infinitely, for_infinitely_many, quantified_made, plan_of, operand_plans}
use Rattle.plan_relations.specs.Parts.{IsPart, AreParts}

pub parts_both : (ps qs : List Plan) (q : Plan) → AreParts ps q → AreParts qs q → AreParts (ps ++ qs) q
parts_both [] qs q first second = second
parts_both (p ∷ ps) qs q first second = (first.0, parts_both ps qs q first.1 second)

pub parts_within : (ps : List Plan) (q r : Plan) → ((p : Plan) → IsPart p q → IsPart p r) → AreParts ps q → AreParts ps r
parts_within [] q r within parts = tt
parts_within (p ∷ ps) q r within parts = (within p parts.0, parts_within ps q r within parts.1)

-- a plan that is made of another
in_projected : (t : Track) (q p : Plan) → IsPart p q → IsPart p (projected t q)
in_projected t q p is = inr is

in_complement : (q p : Plan) → IsPart p q → IsPart p (complement q)
in_complement q p is = inr is

-- what is made, of its steps
abbrev AreOwnParts : Made → Type 0
AreOwnParts m = AreParts m.steps m.last

-- the steps of a value are parts of its relation, and none where it has none
abbrev AreValueParts : List Plan → Option Plan → Type 0
AreValueParts ps None = ps ≡ []
AreValueParts ps (Some r) = AreParts ps r

abbrev AreTermParts : TermPlan → Type 0
AreTermParts p = AreValueParts p.steps p.placed.relation

value_closed : (ps : List Plan) (t : Track) (r : Option Plan) (base : Plan) → AreValueParts ps r → AreParts ps (closed_by t r base)
value_closed ps t None base parts = subst (λ qs. AreParts qs base) (sym parts) tt
value_closed ps t (Some r) base parts = parts_within ps r (projected t (joined and r base)) (λ p is. inr (inr (inl is))) parts

base_closed : (t : Track) (r : Option Plan) (base p : Plan) → IsPart p base → IsPart p (closed_by t r base)
base_closed t None base p is = is
base_closed t (Some r) base p is = inr (inr (inr is))

closing_parts : (t : Track) (r : Option Plan) (base : Plan) → AreParts (closing_by t r base) (closed_by t r base)
closing_parts t None base = tt
closing_parts t (Some r) base = (inr (inl refl), (inl refl, tt))

linked_parts : (m : Made) (t : Track) (base : Plan) → AreOwnParts m → AreOwnParts (linked m t base)
linked_parts m t base parts =
    let last : Plan = projected t (joined and m.last base) in
    parts_both m.steps (joined and m.last base ∷ last ∷ []) last (parts_within m.steps m.last last (λ p is. inr (inr (inl is))) parts) (inr (inl refl), (inl refl, tt))

no_times_parts : (s : Name) (x y : Track) (k : ℕ) → AreOwnParts (no_times s x y k)
no_times_parts s x y k = (inr (inl refl), (inl refl, tt))

if_parts : (b : Bool) (m n : Made) → AreOwnParts m → AreOwnParts n → AreOwnParts (if b then m else n)
if_parts true m n first second = first
if_parts false m n first second = second

multiple_parts : (most : ℕ) (s : Name) (c : ℕ) (x y : Track) (k : ℕ) → AreOwnParts (multiple most s c x y k)
multiple_parts zero s c x y k = no_times_parts s x y k
multiple_parts (suc most) s c x y k =
    if_parts (c == 0) (no_times s x y k) (if c == 1 then one else (if c == 2 then two else (if c % 2 == 0 then even else odd))) (no_times_parts s x y k)
    (if_parts (c == 1) one (if c == 2 then two else (if c % 2 == 0 then even else odd)) tt
    (if_parts (c == 2) two (if c % 2 == 0 then even else odd) tt
    (if_parts (c % 2 == 0) even odd
    (linked_parts (multiple most s (c / 2) x (fresh k) (k + 1)) (fresh k) (added s (fresh k) (fresh k) y) (multiple_parts most s (c / 2) x (fresh k) (k + 1)))
    (linked_parts (multiple most s (c - 1) x (fresh k) (k + 1)) (fresh k) (added s (fresh k) x y) (multiple_parts most s (c - 1) x (fresh k) (k + 1))))))
  where
    one : Made
    one = record { steps = []; last = compared s equal x y; next = k }

    two : Made
    two = record { steps = []; last = added s x x y; next = k }

    even : Made
    even = linked (multiple most s (c / 2) x (fresh k) (k + 1)) (fresh k) (added s (fresh k) (fresh k) y)

    odd : Made
    odd = linked (multiple most s (c - 1) x (fresh k) (k + 1)) (fresh k) (added s (fresh k) x y)

quotient_parts : (s : Name) (c : ℕ) (x y : Track) (k : ℕ) → AreOwnParts (quotient_made s c x y k)
quotient_parts s c x y k =
    if_parts (c == 1) (record { steps = []; last = compared s equal x y; next = k })
    (linked (record { steps = whole.steps ++ small.steps; last = small.last; next = small.next }) (fresh (k + 1)) whole.last) tt
    (parts_both (whole.steps ++ small.steps) (joined and small.last whole.last ∷ last ∷ []) last
    (parts_both whole.steps small.steps last (parts_within whole.steps whole.last last (λ p is. inr (inr (inr is))) whole_parts) (parts_within small.steps small.last last (λ p is. inr (inr (inl is))) small_parts))
    (inr (inl refl), (inl refl, tt)))
  where
    whole : Made
    whole = parted s c x y (fresh k) (fresh (k + 1)) (k + 3)

    small : Made
    small = below s c (fresh (k + 1)) (fresh (k + 2)) whole.next

    last : Plan
    last = projected (fresh (k + 1)) (joined and small.last whole.last)

    bound : Made
    bound = record { steps = constant s c (fresh (k + 2)) ∷ []; last = constant s c (fresh (k + 2)); next = whole.next }

    whole_parts : AreOwnParts whole
    whole_parts = linked_parts (multiple c s c y (fresh k) (k + 3)) (fresh k) (added s (fresh k) (fresh (k + 1)) x) (multiple_parts c s c y (fresh k) (k + 3))

    small_parts : AreOwnParts small
    small_parts = linked_parts bound (fresh (k + 2)) (compared s less (fresh (k + 1)) (fresh (k + 2))) (refl, tt)

scaling_parts : (s : Name) (f : Scaling) (x y : Track) (k : ℕ) → AreOwnParts (scaling_made s f x y k)
scaling_parts s (by_numeral c) x y k = multiple_parts c s c x y k
scaling_parts s (by_divisor c) x y k = quotient_parts s c x y k

scaled_parts : (s : Name) (p : TermPlan) (f : Scaling) → AreTermParts p → AreTermParts (scaled s p f)
scaled_parts s p f parts =
    let m = scaling_made s f p.placed.track (fresh p.next) (p.next + 1) in
    let last = closed p.placed m.last in
    parts_both p.steps (m.steps ++ closing p.placed m.last) last (value_closed p.steps p.placed.track p.placed.relation m.last parts)
    (parts_both m.steps (closing p.placed m.last) last
    (parts_within m.steps m.last last (base_closed p.placed.track p.placed.relation m.last) (scaling_parts s f p.placed.track (fresh p.next) (p.next + 1)))
    (closing_parts p.placed.track p.placed.relation m.last))

all_scaled_parts : (s : Name) (p : TermPlan) (fs : List Scaling) → AreTermParts p → AreTermParts (scaled_all s p fs)
all_scaled_parts s p [] parts = parts
all_scaled_parts s p (f ∷ fs) parts = all_scaled_parts s (scaled s p f) fs (scaled_parts s p f parts)

addend_parts : (s : Name) (sign : Sign) (p q : TermPlan) → AreTermParts p → AreTermParts q → AreTermParts (with_addend s sign p q)
addend_parts s sign p q first second =
    let base = sum_relation s sign p.placed.track q.placed.track (fresh q.next) in
    let inside = closed p.placed base in
    let last = closed q.placed inside in
    let outwards = base_closed q.placed.track q.placed.relation inside in
    parts_both p.steps (q.steps ++ (closing p.placed base ++ closing q.placed inside)) last
    (parts_within p.steps inside last outwards (value_closed p.steps p.placed.track p.placed.relation base first))
    (parts_both q.steps (closing p.placed base ++ closing q.placed inside) last (value_closed q.steps q.placed.track q.placed.relation inside second)
    (parts_both (closing p.placed base) (closing q.placed inside) last
    (parts_within (closing p.placed base) inside last outwards (closing_parts p.placed.track p.placed.relation base))
    (closing_parts q.placed.track q.placed.relation inside)))

numeral_parts : (s : Name) (c k : ℕ) → AreTermParts (numeral_plan s c k)
numeral_parts s c k = (refl, tt)

-- the plan of a product's factor that is no numeral, if there is one
abbrev AreOtherParts : Option (ℕ → TermPlan) → Type 0
AreOtherParts None = ⊤
AreOtherParts (Some plan) = (k : ℕ) → AreTermParts (plan k)

begun_parts : (s : Name) (other : Option (ℕ → TermPlan)) (fs : List Scaling) (k : ℕ) → AreOtherParts other → AreTermParts (begun s other fs k)
begun_parts s (Some plan) fs k parts = all_scaled_parts s (plan k) fs (parts k)
begun_parts s None [] k parts = numeral_parts s 1 k
begun_parts s None (by_numeral c ∷ fs) k parts = all_scaled_parts s (numeral_plan s c k) fs (numeral_parts s c k)
begun_parts s None (by_divisor c ∷ fs) k parts = all_scaled_parts s (numeral_plan s 1 k) (by_divisor c ∷ fs) (numeral_parts s 1 k)

mutual
  term_parts : (s : Name) (t : Term) (k : ℕ) → AreTermParts (term_plan s t k)
  term_parts s (variable n) k = refl
  term_parts s (numeral c) k = numeral_parts s c k
  term_parts s (product fs) k = begun_parts s (factor_plans s fs).other (factor_plans s fs).scalings k (factor_parts s fs)
  term_parts s (sum ss t) k = sum_parts s ss (term_plan s t) (term_parts s t) k

  factor_parts : (s : Name) (fs : Factors) → AreOtherParts (factor_plans s fs).other
  factor_parts s no_factors = tt
  factor_parts s (factors fs (times (numeral c))) = factor_parts s fs
  factor_parts s (factors fs (divided c)) = factor_parts s fs
  factor_parts s (factors fs (times (variable n))) = term_parts s (variable n)
  factor_parts s (factors fs (times (product gs))) = term_parts s (product gs)
  factor_parts s (factors fs (times (sum ss t))) = term_parts s (sum ss t)

  sum_parts : (s : Name) (ss : Addends) (last : ℕ → TermPlan) → ((k : ℕ) → AreTermParts (last k)) → (k : ℕ) → AreTermParts (sum_plan s ss last k)
  sum_parts s no_addends last parts k = parts k
  sum_parts s (addends ss t sign) last parts k =
      let p = sum_plan s ss (term_plan s t) k in
      addend_parts s sign p (last p.next) (sum_parts s ss (term_plan s t) (term_parts s t) k) (parts p.next)

-- the steps of several values are parts of each base over them, once it is closed
abbrev ArePlacedParts : List Plan → Places → Type 0
ArePlacedParts qs ps = (base : Plan) → AreParts qs (closed_all ps base)

all_base_closed : (ps : Places) (base p : Plan) → IsPart p base → IsPart p (closed_all ps base)
all_base_closed no_places base p is = is
all_base_closed (places ps q) base p is = base_closed q.track q.relation (closed_all ps base) p (all_base_closed ps base p is)

all_closing_parts : (ps : Places) (base : Plan) → AreParts (closing_all ps base) (closed_all ps base)
all_closing_parts no_places base = tt
all_closing_parts (places ps q) base =
    let inside = closed_all ps base in
    let last = closed q inside in
    parts_both (closing_all ps base) (closing q inside) last
    (parts_within (closing_all ps base) inside last (base_closed q.track q.relation inside) (all_closing_parts ps base))
    (closing_parts q.track q.relation inside)

one_more_parts : (qs : List Plan) (ps : Places) (p : TermPlan) → ArePlacedParts qs ps → AreTermParts p → ArePlacedParts (qs ++ p.steps) (places ps p.placed)
one_more_parts qs ps p prefix parts base =
    let inside = closed_all ps base in
    let last = closed p.placed inside in
    parts_both qs p.steps last
    (parts_within qs inside last (base_closed p.placed.track p.placed.relation inside) (prefix base))
    (value_closed p.steps p.placed.track p.placed.relation inside parts)

argument_parts : (ss : List Name) (ts : Terms) (k : ℕ) → ArePlacedParts (argument_plans ss ts k).steps (argument_plans ss ts k).placed
argument_parts ss no_terms k = λ base. tt
argument_parts ss (terms ts t) k =
    let prefix = argument_plans ss ts k in
    one_more_parts prefix.steps prefix.placed (term_plan (slice_index_or ss (count ts) []) t prefix.next) (argument_parts ss ts k)
    (term_parts (slice_index_or ss (count ts) []) t prefix.next)

over_terms_parts : (ps : TermPlans) (qs : List Plan) (base : Plan) → ArePlacedParts ps.steps ps.placed → AreParts qs base → AreOwnParts (over_terms ps qs base)
over_terms_parts ps qs base parts also =
    let last = closed_all ps.placed base in
    parts_both ps.steps (qs ++ closing_all ps.placed base) last (parts base)
    (parts_both qs (closing_all ps.placed base) last (parts_within qs base last (all_base_closed ps.placed base) also) (all_closing_parts ps.placed base))

-- the places of both are closed one after the other
pub all_closed : (ps qs : Places) (base : Plan) → closed_all (all_places ps qs) base ≡ closed_all qs (closed_all ps base)
all_closed ps no_places base = refl
all_closed ps (places qs q) base = ap (closed q) (all_closed ps qs base)

all_placed_parts : (rs us : List Plan) (ps qs : Places) → ArePlacedParts rs ps → ArePlacedParts us qs → ArePlacedParts (rs ++ us) (all_places ps qs)
all_placed_parts rs us ps qs first second base =
    let inside = closed_all ps base in
    let last = closed_all qs inside in
    subst (λ (p : Plan). AreParts (rs ++ us) p) (sym (all_closed ps qs base))
    (parts_both rs us last (parts_within rs inside last (all_base_closed qs inside) (first base)) (second inside))

named_parts : (s n : Name) (ps : List Plan) (t : Track) (r : Option Plan) → AreValueParts ps r → AreParts ps (named_by s n t r)
named_parts s n ps t None parts = subst (λ qs. AreParts qs (compared s equal t (own n))) (sym parts) tt
named_parts s n ps t (Some r) parts = parts_within ps r (renamed t (own n) r) (λ p is. inr is) parts

compared_parts : (s : Name) (r : Relation) (p q : TermPlan) → AreTermParts p → AreTermParts q → AreOwnParts (compared_values s r p q)
compared_parts s r p q first second =
    over_terms_parts (record { steps = p.steps ++ q.steps; placed = places (places no_places p.placed) q.placed; next = q.next }) []
    (compared s r p.placed.track q.placed.track)
    (one_more_parts p.steps (places no_places p.placed) q (one_more_parts [] no_places p (λ base. tt) first) second) tt

compare_parts : (form : Form) (s : Name) (t : Term) (r : Relation) (u : Term) (k : ℕ) → AreOwnParts (compare_by form s t r u k)
compare_parts long s t r u k =
    let p = term_plan s t k in
    compared_parts s r p (term_plan s u p.next) (term_parts s t k) (term_parts s u p.next)
compare_parts (variable_left n) s t r u k =
    let p = term_plan s u k in
    named_parts s n p.steps p.placed.track p.placed.relation (term_parts s u k)
compare_parts (variable_right n) s t r u k =
    let p = term_plan s t k in
    named_parts s n p.steps p.placed.track p.placed.relation (term_parts s t k)

letter_parts : (h : Headers) (x : Index) (r : Relation) (l : ℤ) (k : ℕ) → AreOwnParts (letter_plan h x r l k)
letter_parts h x r l k =
    let ps = argument_plans (h.of_word x.word) x.places k in
    over_terms_parts ps [] (lettered x.word (tracks_of ps.placed) r l) (argument_parts (h.of_word x.word) x.places k) tt

words_parts : (h : Headers) (x : Index) (r : Relation) (y : Index) (k : ℕ) → AreOwnParts (words_plan h x r y k)
words_parts h x r y k =
    let ps = argument_plans (h.of_word x.word) x.places k in
    let qs = argument_plans (h.of_word y.word) y.places ps.next in
    let base = paired x.word (tracks_of ps.placed) r y.word (tracks_of qs.placed) in
    over_terms_parts (record { steps = ps.steps ++ qs.steps; placed = all_places ps.placed qs.placed; next = qs.next }) (base ∷ []) base
    (all_placed_parts ps.steps qs.steps ps.placed qs.placed (argument_parts (h.of_word x.word) x.places k) (argument_parts (h.of_word y.word) y.places ps.next))
    (refl, tt)

fact_parts : (h : Headers) (s : Name) (x : Fact) (k : ℕ) → AreOwnParts (fact_plan h s x k)
fact_parts h s (compare t r u) k = compare_parts (form_by (is_equal r) (as_variable t) (as_variable u)) s t r u k
fact_parts h s (call n ts) k =
    let ps = argument_plans (h.of_automaton n) ts k in
    over_terms_parts ps [] (called n (tracks_of ps.placed)) (argument_parts (h.of_automaton n) ts k) tt
fact_parts h s (word_letter x r l) k = letter_parts h x r l k
fact_parts h s (letter_word l r x) k = letter_parts h x (mirrored r) l k
fact_parts h s (words x r y) k = words_parts h x r y k

-- a chain's operands, and its products
last_chained : (os : MadeOperands) (q p : Plan) → IsPart p q → IsPart p (chained os q)
last_chained none_made q p is = is
last_chained (made os r j) q p is = inr (inr is)

chaining_parts : (os : MadeOperands) (q : Plan) → AreParts (chaining os q) (chained os q)
chaining_parts none_made q = tt
chaining_parts (made os r j) q =
    let last = joined j (chained os r) q in
    parts_both (chaining os r) (last ∷ []) last (parts_within (chaining os r) (chained os r) last (λ p is. inr (inl is)) (chaining_parts os r)) (inl refl, tt)

-- one step more, which makes a complement
complement_parts : (m : Made) → AreOwnParts m → AreParts (m.steps ++ complement m.last ∷ []) (complement m.last)
complement_parts m parts = parts_both m.steps (complement m.last ∷ []) (complement m.last) (parts_within m.steps m.last (complement m.last) (in_complement m.last) parts) (inl refl, tt)

in_projections : (ns : List Name) (q p : Plan) → IsPart p q → IsPart p (projected_all ns q)
in_projections [] q p is = is
in_projections (n ∷ ns) q p is = in_projections ns (projected (own n) q) p (in_projected (own n) q p is)

projecting_parts : (ns : List Name) (q : Plan) → AreParts (projecting ns q) (projected_all ns q)
projecting_parts [] q = tt
projecting_parts (n ∷ ns) q = (in_projections ns (projected (own n) q) (projected (own n) q) (inl refl), projecting_parts ns (projected (own n) q))

some_parts : (ns : List Name) (m : Made) → AreOwnParts m → AreOwnParts (for_some ns m)
some_parts ns m parts =
    let last = projected_all ns m.last in
    parts_both m.steps (projecting ns m.last) last (parts_within m.steps m.last last (in_projections ns m.last) parts) (projecting_parts ns m.last)

every_parts : (ns : List Name) (m : Made) → AreOwnParts m → AreOwnParts (for_every ns m)
every_parts [] m parts = parts
every_parts (n ∷ ns) m parts =
    let inside : Made = record { steps = m.steps ++ complement m.last ∷ []; last = complement m.last; next = m.next } in
    complement_parts (for_some (n ∷ ns) inside) (some_parts (n ∷ ns) inside (complement_parts m parts))

projected_parts : (t : Track) (m : Made) → AreOwnParts m → AreParts (m.steps ++ projected t m.last ∷ []) (projected t m.last)
projected_parts t m parts = parts_both m.steps (projected t m.last ∷ []) (projected t m.last) (parts_within m.steps m.last (projected t m.last) (in_projected t m.last) parts) (inl refl, tt)

infinitely_parts : (s n : Name) (m : Made) → AreOwnParts m → AreOwnParts (for_infinitely s n m)
infinitely_parts s n m parts =
    let above = above_bound s n m in
    let none_above : Made = record { steps = above.steps ++ complement above.last ∷ []; last = complement above.last; next = above.next } in
    let bounded : Made = record { steps = none_above.steps ++ projected (fresh m.next) none_above.last ∷ []; last = projected (fresh m.next) none_above.last; next = above.next } in
    complement_parts bounded (projected_parts (fresh m.next) none_above (complement_parts above
    (linked_parts (record { steps = m.steps; last = m.last; next = m.next + 1 }) (own n) (compared s less (fresh m.next) (own n)) parts)))

many_parts : (on : Name → Name) (ns : Names) (m : Made) → AreOwnParts m → AreOwnParts (for_infinitely_many on ns m)
many_parts on no_names m parts = parts
many_parts on (names ns n) m parts =
    many_parts on ns (if has_track (tracks m.last) (own n) then for_infinitely (on n) n m else m)
    (if_parts (has_track (tracks m.last) (own n)) (for_infinitely (on n) n m) m (infinitely_parts (on n) n m parts) parts)

quantified_parts : (q : Quantifier) (on : Name → Name) (ns : Names) (m : Made) → AreOwnParts m → AreOwnParts (quantified_made q on ns m)
quantified_parts some on ns m parts = some_parts (kept ns (tracks m.last)) m parts
quantified_parts every on ns m parts = every_parts (kept ns (tracks m.last)) m parts
quantified_parts infinite on ns m parts = many_parts on ns m parts

mutual
  pub steps_are_parts : (h : Headers) (f : Formula) (k : ℕ) → AreParts (plan_of h f k).steps (plan_of h f k).last
  steps_are_parts h (atom x) k = fact_parts h x.system x.fact k
  steps_are_parts h (negated f) k = complement_parts (plan_of h f k) (steps_are_parts h f k)
  steps_are_parts h (chain os f) k =
      let ps = operand_plans h os k in
      let m = plan_of h f ps.next in
      let last = chained ps.operands m.last in
      parts_both ps.steps (m.steps ++ chaining ps.operands m.last) last (operand_parts h os k m.last)
      (parts_both m.steps (chaining ps.operands m.last) last
      (parts_within m.steps m.last last (last_chained ps.operands m.last) (steps_are_parts h f ps.next))
      (chaining_parts ps.operands m.last))
  steps_are_parts h (quantified q ns f) k =
      quantified_parts q (h.of_variable f) ns (plan_of h f k) (steps_are_parts h f k)
  steps_are_parts h (marked ms f) k = steps_are_parts h f k

  -- whatever the last operand makes
  operand_parts : (h : Headers) (os : Operands) (k : ℕ) (q : Plan) → AreParts (operand_plans h os k).steps (chained (operand_plans h os k).operands q)
  operand_parts h no_operands k q = tt
  operand_parts h (operands os f j) k q =
      let ps = operand_plans h os k in
      let m = plan_of h f ps.next in
      let inside = chained ps.operands m.last in
      let last = joined j inside q in
      parts_both ps.steps m.steps last
      (parts_within ps.steps inside last (λ p is. inr (inl is)) (operand_parts h os k m.last))
      (parts_within m.steps m.last last (λ p is. inr (inl (last_chained ps.operands m.last p is))) (steps_are_parts h f ps.next))

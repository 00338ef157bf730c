-- Where variables' names begin with letters, and there is room for the numbers of fresh tracks, the tracks of a formula's plan have names
-- that distinguish them.
use Rattle.std.specs.Prelude.{⊤}
use Rattle.std.proofs.Common.{◌≡◌, ℕ, ℤ, zero, suc, ◌+◌, ◌-◌, ◌/◌, ◌%◌, ◌^◌, ◌==◌, ◌≤◌, Bool, true, false, if◌then◌else◌, List, [], ◌∷◌, ◌++◌, slice_index_or, Option, None, Some, refl, arith}
use Rattle.std.specs.List.{AllByRecursion}
use Rattle.formula_parse.specs.Tokens.{Name, Sign, plus, minus, Relation, equal, Quantifier, some, every, infinite}
use Rattle.formula_parse.specs.Trees.{Term, variable, numeral, product, sum, Factors, no_factors, factors, times, divided, Terms, no_terms, terms, Addends, no_addends, addends, Names, no_names, names, Index, Fact, compare, words, word_letter, letter_word, call, Formula, atom, negated, chain, quantified, marked, Operands, no_operands, operands}
use Rattle.term_plans.specs.Tracks.{Track, own, fresh, has_track, without}
use Rattle.term_plans.specs.Plans.{Plan, compared, added, called, lettered, paired, complement, projected, tracks, Made}
use Rattle.term_plans.specs.TermPlans.{TermPlan, closed_by, closed, no_times, linked, multiple, parted, below, quotient_made, Scaling, by_numeral, by_divisor, scaling_made, scaled, scaled_all, sum_relation, with_addend, numeral_plan, begun, term_plan, factor_plans, sum_plan}
use Rattle.term_plans.specs.ArgumentPlans.{Places, no_places, places, tracks_of, all_places, closed_all, count, argument_plans}
use Rattle.formula_plan.specs.FactPlans.{Headers, Form, long, variable_left, variable_right, form_by, is_equal, as_variable, named_by, compare_by, mirrored, letter_plan, fact_plan}
use Rattle.formula_plan.specs.FormulaPlans.{chained, kept, projected_all, for_every, for_infinitely, for_infinitely_many, quantified_made, plan_of, operand_plans}
use Rattle.plan_relations.specs.TrackNames.{begins_with_letter, IsNamed, AreNamed}
use Rattle.formula_build.specs.VariableNames.{IsNamedTerm, AreNamedFactors, AreNamedAddends, AreNamedTerms, IsNamedFact, AreNamedIn, AreNamedAmong}
use Rattle.plan_relations.proofs.TrackNameLemmas.{named_track}
use Rattle.formula_build.proofs.GrowthLemmas.{multiple_up, scaled_up, term_up, arguments_up, many_up, quantified_up, plan_up}

abbrev AreNamedOption : Option Plan → Type 0
AreNamedOption None = ⊤
AreNamedOption (Some r) = AreNamed r

abbrev IsValueNamed : Track → Option Plan → Type 0
IsValueNamed t r = IsNamed t × AreNamedOption r

-- as far as there is room
abbrev IsMadeNamed : Made → Type 0
IsMadeNamed m = m.next ≤ 2 ^ 64 → AreNamed m.last

abbrev IsPlanNamed : TermPlan → Type 0
IsPlanNamed p = p.next ≤ 2 ^ 64 → IsValueNamed p.placed.track p.placed.relation

closed_named : (t : Track) (r : Option Plan) (base : Plan) → IsValueNamed t r → AreNamed base → AreNamed (closed_by t r base)
closed_named t None base value named = named
closed_named t (Some r) base value named = (value.0, (value.1, named))

no_times_named : (s : Name) (x y : Track) (k : ℕ) → IsNamed x → IsNamed y → AreNamed (no_times s x y k).last
no_times_named s x y k first second = (second, first)

if_named : (b : Bool) (m n : Made) → IsMadeNamed m → IsMadeNamed n → IsMadeNamed (if b then m else n)
if_named true m n first second = first
if_named false m n first second = second

multiple_named : (most : ℕ) (s : Name) (c : ℕ) (x y : Track) (k : ℕ) → IsNamed x → IsNamed y → IsMadeNamed (multiple most s c x y k)
multiple_named zero s c x y k first second = λ room. no_times_named s x y k first second
multiple_named (suc most) s c x y k first second =
    if_named (c == 0) (no_times s x y k) (if c == 1 then one else (if c == 2 then two else (if c % 2 == 0 then even else odd))) (λ room. no_times_named s x y k first second)
    (if_named (c == 1) one (if c == 2 then two else (if c % 2 == 0 then even else odd)) (λ room. (first, second))
    (if_named (c == 2) two (if c % 2 == 0 then even else odd) (λ room. (first, first, second))
    (if_named (c % 2 == 0) even odd
    (even_named (λ here. multiple_named most s (c / 2) x (fresh k) (k + 1) first here))
    (odd_named (λ here. multiple_named most s (c - 1) x (fresh k) (k + 1) first here)))))
  where
    one : Made
    one = record { steps = []; last = compared s equal x y; next = k }

    two : Made
    two = record { steps = []; last = added s x x y; next = k }

    half : Made
    half = multiple most s (c / 2) x (fresh k) (k + 1)

    less : Made
    less = multiple most s (c - 1) x (fresh k) (k + 1)

    even : Made
    even = linked half (fresh k) (added s (fresh k) (fresh k) y)

    odd : Made
    odd = linked less (fresh k) (added s (fresh k) x y)

    below_half : half.next ≤ 2 ^ 64 → IsNamed (fresh k)
    below_half room = let up = multiple_up most s (c / 2) x (fresh k) (k + 1) in omega (arith, up, room)

    below_less : less.next ≤ 2 ^ 64 → IsNamed (fresh k)
    below_less room = let up = multiple_up most s (c - 1) x (fresh k) (k + 1) in omega (arith, up, room)

    even_named : (IsNamed (fresh k) → IsMadeNamed half) → IsMadeNamed even
    even_named former room = let here = below_half room in (here, (former here room, (here, here, second)))

    odd_named : (IsNamed (fresh k) → IsMadeNamed less) → IsMadeNamed odd
    odd_named former room = let here = below_less room in (here, (former here room, (here, first, second)))

quotient_named : (s : Name) (c : ℕ) (x y : Track) (k : ℕ) → IsNamed x → IsNamed y → IsMadeNamed (quotient_made s c x y k)
quotient_named s c x y k first second = if_named (c == 1) (record { steps = []; last = compared s equal x y; next = k }) parts (λ room. (first, second)) more
  where
    whole : Made
    whole = parted s c x y (fresh k) (fresh (k + 1)) (k + 3)

    small : Made
    small = below s c (fresh (k + 1)) (fresh (k + 2)) whole.next

    parts : Made
    parts = linked (record { steps = whole.steps ++ small.steps; last = small.last; next = small.next }) (fresh (k + 1)) whole.last

    more : IsMadeNamed parts
    more room =
        let up = multiple_up c s c y (fresh k) (k + 3) in
        let part_named : IsNamed (fresh k) = omega (arith, up, room) in
        let rest_named : IsNamed (fresh (k + 1)) = omega (arith, up, room) in
        let bound_named : IsNamed (fresh (k + 2)) = omega (arith, up, room) in
        (rest_named, ((bound_named, (bound_named, (rest_named, bound_named))), (part_named, (multiple_named c s c y (fresh k) (k + 3) second part_named room, (part_named, rest_named, first)))))

scaling_named : (s : Name) (f : Scaling) (x y : Track) (k : ℕ) → IsNamed x → IsNamed y → IsMadeNamed (scaling_made s f x y k)
scaling_named s (by_numeral c) x y k first second = multiple_named c s c x y k first second
scaling_named s (by_divisor c) x y k first second = quotient_named s c x y k first second

scaled_named : (s : Name) (p : TermPlan) (f : Scaling) → IsPlanNamed p → IsPlanNamed (scaled s p f)
scaled_named s p f named room =
    let up = scaled_up s p f in
    let here : IsNamed (fresh p.next) = omega (arith, up, room) in
    let value = named (omega (arith, up, room)) in
    let m = scaling_made s f p.placed.track (fresh p.next) (p.next + 1) in
    (here, closed_named p.placed.track p.placed.relation m.last value (scaling_named s f p.placed.track (fresh p.next) (p.next + 1) value.0 here room))

all_scaled_named : (s : Name) (p : TermPlan) (fs : List Scaling) → IsPlanNamed p → IsPlanNamed (scaled_all s p fs)
all_scaled_named s p [] named = named
all_scaled_named s p (f ∷ fs) named = all_scaled_named s (scaled s p f) fs (scaled_named s p f named)

sum_named : (s : Name) (sign : Sign) (x y z : Track) → IsNamed x → IsNamed y → IsNamed z → AreNamed (sum_relation s sign x y z)
sum_named s plus x y z first second third = (first, second, third)
sum_named s minus x y z first second third = (second, third, first)

addend_named : (s : Name) (sign : Sign) (p q : TermPlan) → p.next ≤ q.next → IsPlanNamed p → IsPlanNamed q → IsPlanNamed (with_addend s sign p q)
addend_named s sign p q up first second room =
    let here : IsNamed (fresh q.next) = omega (arith, room) in
    let one = first (omega (arith, up, room)) in
    let two = second (omega (arith, room)) in
    let base = sum_relation s sign p.placed.track q.placed.track (fresh q.next) in (
      here,
      closed_named q.placed.track q.placed.relation (closed p.placed base) two
          (closed_named p.placed.track p.placed.relation base one (sum_named s sign p.placed.track q.placed.track (fresh q.next) one.0 two.0 here)),
    )

numeral_named : (s : Name) (c k : ℕ) → IsPlanNamed (numeral_plan s c k)
numeral_named s c k room = let here : IsNamed (fresh k) = omega (arith, room) in (here, here)

abbrev IsOtherNamed : Option (ℕ → TermPlan) → Type 0
IsOtherNamed None = ⊤
IsOtherNamed (Some plan) = (k : ℕ) → IsPlanNamed (plan k)

begun_named : (s : Name) (other : Option (ℕ → TermPlan)) (fs : List Scaling) (k : ℕ) → IsOtherNamed other → IsPlanNamed (begun s other fs k)
begun_named s (Some plan) fs k named = all_scaled_named s (plan k) fs (named k)
begun_named s None [] k named = numeral_named s 1 k
begun_named s None (by_numeral c ∷ fs) k named = all_scaled_named s (numeral_plan s c k) fs (numeral_named s c k)
begun_named s None (by_divisor c ∷ fs) k named = all_scaled_named s (numeral_plan s 1 k) (by_divisor c ∷ fs) (numeral_named s 1 k)

mutual
  term_named : (s : Name) (t : Term) → IsNamedTerm t → (k : ℕ) → IsPlanNamed (term_plan s t k)
  term_named s (variable n) named k = λ room. (named, tt)
  term_named s (numeral c) named k = numeral_named s c k
  term_named s (product fs) named k = begun_named s (factor_plans s fs).other (factor_plans s fs).scalings k (factors_named s fs named)
  term_named s (sum ss t) named k = sums_named s ss named.0 (term_plan s t) (term_up s t) (term_named s t named.1) k

  factors_named : (s : Name) (fs : Factors) → AreNamedFactors fs → IsOtherNamed (factor_plans s fs).other
  factors_named s no_factors named = tt
  factors_named s (factors fs (times (numeral c))) named = factors_named s fs named.0
  factors_named s (factors fs (divided c)) named = factors_named s fs named
  factors_named s (factors fs (times (variable n))) named = term_named s (variable n) named.1
  factors_named s (factors fs (times (product gs))) named = term_named s (product gs) named.1
  factors_named s (factors fs (times (sum ss t))) named = term_named s (sum ss t) named.1

  sums_named : (s : Name) (ss : Addends) → AreNamedAddends ss → (last : ℕ → TermPlan) → ((k : ℕ) → k ≤ (last k).next) → ((k : ℕ) → IsPlanNamed (last k)) → (k : ℕ) → IsPlanNamed (sum_plan s ss last k)
  sums_named s no_addends named last up each k = each k
  sums_named s (addends ss t sign) named last up each k =
      let p = sum_plan s ss (term_plan s t) k in
      addend_named s sign p (last p.next) (up p.next) (sums_named s ss named.0 (term_plan s t) (term_up s t) (term_named s t named.1) k) (each p.next)

abbrev ArePlacesNamed : Places → Type 0
ArePlacesNamed no_places = ⊤
ArePlacesNamed (places ps p) = ArePlacesNamed ps × IsValueNamed p.track p.relation

named_after : (ts : List Track) (t : Track) → AllByRecursion IsNamed ts → IsNamed t → AllByRecursion IsNamed (ts ++ t ∷ [])
named_after [] t all named = (named, tt)
named_after (u ∷ ts) t all named = (all.0, named_after ts t all.1 named)

places_named : (ps : Places) → ArePlacesNamed ps → AllByRecursion IsNamed (tracks_of ps)
places_named no_places named = tt
places_named (places ps p) named = named_after (tracks_of ps) p.track (places_named ps named.0) named.1.0

all_closed_named : (ps : Places) (base : Plan) → ArePlacesNamed ps → AreNamed base → AreNamed (closed_all ps base)
all_closed_named no_places base values named = named
all_closed_named (places ps p) base values named = closed_named p.track p.relation (closed_all ps base) values.1 (all_closed_named ps base values.0 named)

both_places_named : (ps qs : Places) → ArePlacesNamed ps → ArePlacesNamed qs → ArePlacesNamed (all_places ps qs)
both_places_named ps no_places first second = first
both_places_named ps (places qs q) first second = (both_places_named ps qs first second.0, second.1)

arguments_named : (ss : List Name) (ts : Terms) (k : ℕ) → AreNamedTerms ts → (argument_plans ss ts k).next ≤ 2 ^ 64 → ArePlacesNamed (argument_plans ss ts k).placed
arguments_named ss no_terms k named room = tt
arguments_named ss (terms ts t) k named room =
    let next = (argument_plans ss ts k).next in
    let s = slice_index_or ss (count ts) [] in
    let up = term_up s t next in
    (arguments_named ss ts k named.0 (omega (arith, up, room)), term_named s t named.1 next room)

left_named : (s n : Name) (t : Track) (r : Option Plan) → begins_with_letter n ≡ true → IsValueNamed t r → AreNamed (named_by s n t r)
left_named s n t None letter value = (value.0, letter)
left_named s n t (Some r) letter value = (value.0, letter, value.1)

-- a term that is a variable has its name
abbrev IsNameOf : Option Name → Type 0
IsNameOf None = ⊤
IsNameOf (Some n) = begins_with_letter n ≡ true

variable_named : (t : Term) → IsNamedTerm t → IsNameOf (as_variable t)
variable_named (variable n) named = named
variable_named (numeral c) named = tt
variable_named (product fs) named = tt
variable_named (sum ss t) named = tt

abbrev IsFormNamed : Form → Type 0
IsFormNamed long = ⊤
IsFormNamed (variable_left n) = begins_with_letter n ≡ true
IsFormNamed (variable_right n) = begins_with_letter n ≡ true

form_named : (b : Bool) (x y : Option Name) → IsNameOf x → IsNameOf y → IsFormNamed (form_by b x y)
form_named true (Some n) None first second = first
form_named true None (Some n) first second = second
form_named true None None first second = tt
form_named true (Some m) (Some n) first second = tt
form_named false x y first second = tt

compare_named : (form : Form) (s : Name) (t : Term) (r : Relation) (u : Term) (k : ℕ) → IsFormNamed form → IsNamedTerm t → IsNamedTerm u → IsMadeNamed (compare_by form s t r u k)
compare_named long s t r u k of_form first second room =
    let p = term_plan s t k in
    let q = term_plan s u p.next in
    let up = term_up s u p.next in
    let one = term_named s t first k (omega (arith, up, room)) in
    let two = term_named s u second p.next room in
    all_closed_named (places (places no_places p.placed) q.placed) (compared s r p.placed.track q.placed.track) ((tt, one), two) (one.0, two.0)
compare_named (variable_left n) s t r u k of_form first second room =
    let p = term_plan s u k in left_named s n p.placed.track p.placed.relation of_form (term_named s u second k room)
compare_named (variable_right n) s t r u k of_form first second room =
    let p = term_plan s t k in left_named s n p.placed.track p.placed.relation of_form (term_named s t first k room)

letter_named : (h : Headers) (x : Index) (r : Relation) (l : ℤ) (k : ℕ) → AreNamedTerms x.places → IsMadeNamed (letter_plan h x r l k)
letter_named h x r l k named room =
    let ps = argument_plans (h.of_word x.word) x.places k in
    let values = arguments_named (h.of_word x.word) x.places k named room in
    all_closed_named ps.placed (lettered x.word (tracks_of ps.placed) r l) values (places_named ps.placed values)

fact_named : (h : Headers) (s : Name) (x : Fact) (k : ℕ) → IsNamedFact x → IsMadeNamed (fact_plan h s x k)
fact_named h s (compare t r u) k named =
    compare_named (form_by (is_equal r) (as_variable t) (as_variable u)) s t r u k
    (form_named (is_equal r) (as_variable t) (as_variable u) (variable_named t named.0) (variable_named u named.1)) named.0 named.1
fact_named h s (call n ts) k named = λ room.
    let ps = argument_plans (h.of_automaton n) ts k in
    let values = arguments_named (h.of_automaton n) ts k named room in
    all_closed_named ps.placed (called n (tracks_of ps.placed)) values (places_named ps.placed values)
fact_named h s (word_letter x r l) k named = letter_named h x r l k named
fact_named h s (letter_word l r x) k named = letter_named h x (mirrored r) l k named
fact_named h s (words x r y) k named = λ room.
    let ps = argument_plans (h.of_word x.word) x.places k in
    let qs = argument_plans (h.of_word y.word) y.places ps.next in
    let up = arguments_up (h.of_word y.word) y.places ps.next in
    let first = arguments_named (h.of_word x.word) x.places k named.0 (omega (arith, up, room)) in
    let second = arguments_named (h.of_word y.word) y.places ps.next named.1 room in
    all_closed_named (all_places ps.placed qs.placed) (paired x.word (tracks_of ps.placed) r y.word (tracks_of qs.placed))
    (both_places_named ps.placed qs.placed first second) (places_named ps.placed first, places_named qs.placed second)

-- projections of tracks that are there
kept_named : (ns : Names) (p : Plan) → AreNamed p → AreNamed (projected_all (kept ns (tracks p)) p)
kept_named no_names p named = named
kept_named (names ns n) p named = by (has_track (tracks p) (own n)) refl (kept_named ns (projected (own n) p)) (kept_named ns p named)
  where
    by : (b : Bool) → has_track (tracks p) (own n) ≡ b
        → (AreNamed (projected (own n) p) → AreNamed (projected_all (kept ns (without (own n) (tracks p))) (projected (own n) p)))
        → AreNamed (projected_all (kept ns (tracks p)) p)
        → AreNamed (projected_all (if b then n ∷ kept ns (without (own n) (tracks p)) else kept ns (tracks p)) p)
    by true there first second = first (named_track p (own n) named there, named)
    by false apart first second = second

every_named : (ks : List Name) (m : Made) → AreNamed m.last → AreNamed (projected_all ks (complement m.last)) → AreNamed (for_every ks m).last
every_named [] m named inside = named
every_named (n ∷ ks) m named inside = inside

many_named : (on : Name → Name) (ns : Names) (m : Made) → AreNamed m.last → (for_infinitely_many on ns m).next ≤ 2 ^ 64 → AreNamed (for_infinitely_many on ns m).last
many_named on no_names m named room = named
many_named on (names ns n) m named room =
    let up = many_up on ns step in
    many_named on ns step (by (has_track (tracks m.last) (own n)) refl (omega (arith, up, room))) room
  where
    step : Made
    step = if has_track (tracks m.last) (own n) then for_infinitely (on n) n m else m

    by : (b : Bool) → has_track (tracks m.last) (own n) ≡ b → (if b then for_infinitely (on n) n m else m).next ≤ 2 ^ 64 → AreNamed (if b then for_infinitely (on n) n m else m).last
    by true there low =
        let bound : IsNamed (fresh m.next) = omega (arith, low) in
        let variable_named : IsNamed (own n) = named_track m.last (own n) named there in
        (bound, (variable_named, (named, (bound, variable_named))))
    by false apart low = named

quantified_named : (q : Quantifier) (on : Name → Name) (ns : Names) (m : Made) → AreNamed m.last → (quantified_made q on ns m).next ≤ 2 ^ 64 → AreNamed (quantified_made q on ns m).last
quantified_named some on ns m named room = kept_named ns m.last named
quantified_named every on ns m named room = every_named (kept ns (tracks m.last)) m named (kept_named ns (complement m.last) named)
quantified_named infinite on ns m named room = many_named on ns m named room

mutual
  pub named_plans : (h : Headers) (f : Formula) (k : ℕ) → AreNamedIn f → (plan_of h f k).next ≤ 2 ^ 64 → AreNamed (plan_of h f k).last
  named_plans h (atom x) k named room = fact_named h x.system x.fact k named room
  named_plans h (negated f) k named room = named_plans h f k named room
  named_plans h (chain os f) k named room =
      let next = (operand_plans h os k).next in
      let up = plan_up h f next in
      operands_named h os k (plan_of h f next).last named.0 (omega (arith, up, room)) (named_plans h f next named.1 room)
  named_plans h (quantified q ns f) k named room =
      let m = plan_of h f k in
      let up = quantified_up q (h.of_variable f) ns m in
      quantified_named q (h.of_variable f) ns m (named_plans h f k named (omega (arith, up, room))) room
  named_plans h (marked ms f) k named room = named_plans h f k named room

  operands_named : (h : Headers) (os : Operands) (k : ℕ) (q : Plan) → AreNamedAmong os → (operand_plans h os k).next ≤ 2 ^ 64 → AreNamed q → AreNamed (chained (operand_plans h os k).operands q)
  operands_named h no_operands k q named room last = last
  operands_named h (operands os f j) k q named room last =
      let next = (operand_plans h os k).next in
      let up = plan_up h f next in
      (operands_named h os k (plan_of h f next).last named.0 (omega (arith, up, room)) (named_plans h f next named.1 room), last)

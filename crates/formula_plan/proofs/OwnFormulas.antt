-- The own tracks of the plans of atoms and formulas are those of their free variables.
use Rattle.std.specs.Str.{bytes_eq}
use Rattle.std.proofs.Common.{◌≡◌, ℕ, Bool, true, false, ◌||◌, ◌&&◌, not, if◌then◌else◌, List, [], ◌∷◌, ◌++◌, Option, None, Some, refl, sym, ◌∙◌, ap, subst, append_assoc}
use Rattle.std.proofs.lemmas.Option.{none-some, same_Some}
use Rattle.std.proofs.lemmas.Bool.{false≢true}
use Rattle.formula_parse.specs.Tokens.{Name, Relation, Quantifier, some, every, infinite}
use Rattle.formula_parse.specs.Trees.{Names, no_names, names, Term, variable, numeral, product, sum, Terms, no_terms, terms, Fact, compare, words, word_letter, letter_word, call, Formula, atom, negated, chain, quantified, marked, Operands, no_operands, operands}
use Rattle.term_plans.specs.Tracks.{Track, own, fresh, same_track, has_track, without}
use Rattle.term_plans.specs.Plans.{Plan, compared, called, paired, complement, projected, tracks, Made}
use Rattle.term_plans.specs.TermPlans.{Placed, TermPlan, closed, term_plan}
use Rattle.term_plans.specs.ArgumentPlans.{Places, no_places, places, tracks_of, all_places, closed_all, TermPlans, argument_plans}
use Rattle.formula_plan.specs.FactPlans.{Headers, as_variable, is_equal, form_by, named_by, compare_by, fact_plan}
use Rattle.formula_plan.specs.FormulaPlans.{chained, kept, projected_all, for_every, for_infinitely, for_infinitely_many, quantified_made, plan_of, operand_plans}
use Rattle.formula_plan.specs.OwnNames.{own_names, own_among, own_there, without_name, without_all, has_name, has_any, own_of, own_operands}
use Rattle.formula_plan.specs.FormulaPlanning.{AgreeOn}
use Rattle.formula_plan.proofs.OwnTracks.{or_assoc, or_false, or_comm, has_both, named_both, without_fresh, without_own, without_named, without_none, first_no, second_no, IsClosable, in_relation, closed_own, in_placed, IsOwn, both_closed, term_own}

-- two values compared
compared_bool : (rq rp sx sy : Bool) → (rq || (rp || (sx || (sy || false)))) ≡ ((sx || rp) || (sy || rq))
compared_bool true true true sy = refl
compared_bool true true false true = refl
compared_bool true true false false = refl
compared_bool true false true sy = refl
compared_bool true false false true = refl
compared_bool true false false false = refl
compared_bool false true true sy = refl
compared_bool false true false sy = refl
compared_bool false false true sy = refl
compared_bool false false false true = refl
compared_bool false false false false = refl

compared_own : (s : Name) (r : Relation) (p q : Placed) (ms ns : List Name) (n : Name) → IsOwn p ms → IsOwn q ns → has_track (tracks (closed q (closed p (compared s r p.track q.track)))) (own n) ≡ has_name (ms ++ ns) n
compared_own s r p q ms ns n first second =
    both_closed p q (compared s r p.track q.track) n first.closable second.closable
    ∙ compared_bool (in_relation q.relation n) (in_relation p.relation n) (same_track p.track (own n)) (same_track q.track (own n))
    ∙ ap (λ b. b || in_placed q n) (first.has n) ∙ ap (λ b. has_name ms n || b) (second.has n) ∙ sym (named_both ms ns n)

named_own : (s m : Name) (t : Track) (o : Option Plan) (n : Name) → IsClosable t o → has_track (tracks (named_by s m t o)) (own n) ≡ (bytes_eq m n || (same_track t (own n) || in_relation o n))
named_own s m (own l) None n is = ap (λ b. bytes_eq l n || b) (or_false (bytes_eq m n)) ∙ or_comm (bytes_eq l n) (bytes_eq m n) ∙ ap (λ b. bytes_eq m n || b) (sym (or_false (bytes_eq l n)))
named_own s m (own l) (Some r) n is = absurd is
named_own s m (fresh j) None n is = refl
named_own s m (fresh j) (Some r) n is = ap (λ b. bytes_eq m n || b) (without_fresh j (tracks r) n)

as_own : (t : Term) (m : Name) → as_variable t ≡ Some m → own_names t ≡ m ∷ []
as_own (variable n) m is = ap (λ k. k ∷ []) (same_Some n m is)
as_own (numeral c) m is = absurd (none-some m is)
as_own (product fs) m is = absurd (none-some m is)
as_own (sum ss u) m is = absurd (none-some m is)

comparison_own : (s : Name) (r : Relation) (t u : Term) (k : ℕ) (n : Name) (b : Bool) (x y : Option Name) → as_variable t ≡ x → as_variable u ≡ y
    → has_track (tracks (compare_by (form_by b x y) s t r u k).last) (own n) ≡ has_name (own_names t ++ own_names u) n
comparison_own s r t u k n true (Some m) None left right =
    let p : TermPlan = term_plan s u k in
    let is = term_own s u k in
    named_own s m p.placed.track p.placed.relation n is.closable ∙ ap (λ b. bytes_eq m n || b) (is.has n) ∙ ap (λ l. has_name (l ++ own_names u) n) (sym (as_own t m left))
comparison_own s r t u k n true None (Some m) left right =
    let p : TermPlan = term_plan s t k in
    let is = term_own s t k in
    named_own s m p.placed.track p.placed.relation n is.closable ∙ ap (λ b. bytes_eq m n || b) (is.has n)
    ∙ or_comm (bytes_eq m n) (has_name (own_names t) n) ∙ ap (λ b. has_name (own_names t) n || b) (sym (or_false (bytes_eq m n))) ∙ sym (named_both (own_names t) (m ∷ []) n)
    ∙ ap (λ l. has_name (own_names t ++ l) n) (sym (as_own u m right))
comparison_own s r t u k n true None None left right = compared_own s r (term_plan s t k).placed (term_plan s u (term_plan s t k).next).placed (own_names t) (own_names u) n (term_own s t k) (term_own s u (term_plan s t k).next)
comparison_own s r t u k n true (Some m) (Some l) left right = compared_own s r (term_plan s t k).placed (term_plan s u (term_plan s t k).next).placed (own_names t) (own_names u) n (term_own s t k) (term_own s u (term_plan s t k).next)
comparison_own s r t u k n false x y left right = compared_own s r (term_plan s t k).placed (term_plan s u (term_plan s t k).next).placed (own_names t) (own_names u) n (term_own s t k) (term_own s u (term_plan s t k).next)

-- several values
abbrev ArePlaced : Places → List Name → Type 0
ArePlaced no_places ms = ms ≡ []
ArePlaced (places ps p) ms = (xs : List Name) × (ys : List Name) × ArePlaced ps xs × IsOwn p ys × (ms ≡ xs ++ ys)

abbrev in_relations : Places → Name → Bool
in_relations no_places n = false
in_relations (places ps p) n = in_relation p.relation n || in_relations ps n

closed_all_own : (ps : Places) (ms : List Name) (base : Plan) (n : Name) → ArePlaced ps ms → has_track (tracks (closed_all ps base)) (own n) ≡ (in_relations ps n || has_track (tracks base) (own n))
closed_all_own no_places ms base n are = refl
closed_all_own (places ps p) ms base n are =
    closed_own p.track p.relation (closed_all ps base) n are.3.closable
    ∙ ap (λ b. in_relation p.relation n || b) (closed_all_own ps are.0 base n are.2)
    ∙ sym (or_assoc (in_relation p.relation n) (in_relations ps n) (has_track (tracks base) (own n)))

all_bool : (rp rs ts sp : Bool) → ((rp || rs) || (ts || (sp || false))) ≡ ((rs || ts) || (sp || rp))
all_bool true true ts sp = refl
all_bool true false true sp = refl
all_bool true false false true = refl
all_bool true false false false = refl
all_bool false true ts sp = refl
all_bool false false true sp = refl
all_bool false false false true = refl
all_bool false false false false = refl

all_own : (ps : Places) (ms : List Name) (n : Name) → ArePlaced ps ms → (in_relations ps n || has_track (tracks_of ps) (own n)) ≡ has_name ms n
all_own no_places ms n are = ap (λ l. has_name l n) (sym are)
all_own (places ps p) ms n are =
    ap (λ b. (in_relation p.relation n || in_relations ps n) || b) (has_both (tracks_of ps) (p.track ∷ []) (own n))
    ∙ all_bool (in_relation p.relation n) (in_relations ps n) (has_track (tracks_of ps) (own n)) (same_track p.track (own n))
    ∙ ap (λ b. b || in_placed p n) (all_own ps are.0 n are.2) ∙ ap (λ b. has_name are.0 n || b) (are.3.has n)
    ∙ sym (named_both are.0 are.1 n) ∙ ap (λ l. has_name l n) (sym are.4)

arguments_own : (ss : List Name) (ts : Terms) (k : ℕ) → ArePlaced (argument_plans ss ts k).placed (own_among ts)
arguments_own ss no_terms k = refl
arguments_own ss (terms ts t) k = (own_among ts, own_names t, arguments_own ss ts k, term_own _ t (argument_plans ss ts k).next, refl)

base_own : (ss : List Name) (ts : Terms) (k : ℕ) (base : Plan) (n : Name) → tracks base ≡ tracks_of (argument_plans ss ts k).placed
    → has_track (tracks (closed_all (argument_plans ss ts k).placed base)) (own n) ≡ has_name (own_among ts) n
base_own ss ts k base n same =
    closed_all_own (argument_plans ss ts k).placed (own_among ts) base n (arguments_own ss ts k)
    ∙ ap (λ l. in_relations (argument_plans ss ts k).placed n || has_track l (own n)) same
    ∙ all_own (argument_plans ss ts k).placed (own_among ts) n (arguments_own ss ts k)

tracks_both : (ps qs : Places) → tracks_of (all_places ps qs) ≡ tracks_of ps ++ tracks_of qs
tracks_both ps no_places = sym (append_nil_of (tracks_of ps))
  where
    append_nil_of : (xs : List Track) → xs ++ [] ≡ xs
    append_nil_of [] = refl
    append_nil_of (x ∷ xs) = ap (λ l. x ∷ l) (append_nil_of xs)
tracks_both ps (places qs q) = ap (λ l. l ++ q.track ∷ []) (tracks_both ps qs) ∙ append_assoc (tracks_of ps) (tracks_of qs) (q.track ∷ [])

both_placed : (ps qs : Places) (ms ns : List Name) → ArePlaced ps ms → ArePlaced qs ns → ArePlaced (all_places ps qs) (ms ++ ns)
both_placed ps no_places ms ns first second = subst (ArePlaced ps) (sym (append_nil_of ms) ∙ ap (λ l. ms ++ l) (sym second)) first
  where
    append_nil_of : (xs : List Name) → xs ++ [] ≡ xs
    append_nil_of [] = refl
    append_nil_of (x ∷ xs) = ap (λ l. x ∷ l) (append_nil_of xs)
both_placed ps (places qs q) ms ns first second =
    (ms ++ second.0, second.1, both_placed ps qs ms second.0 first second.2, second.3, ap (λ l. ms ++ l) second.4 ∙ sym (append_assoc ms second.0 second.1))

-- what an atom says
fact_own : (h : Headers) (s : Name) (f : Fact) (k : ℕ) (n : Name) → has_track (tracks (fact_plan h s f k).last) (own n) ≡ has_name (own_there f) n
fact_own h s (compare t r u) k n = comparison_own s r t u k n (is_equal r) (as_variable t) (as_variable u) refl refl
fact_own h s (call m ts) k n = base_own (h.of_automaton m) ts k (called m (tracks_of (argument_plans (h.of_automaton m) ts k).placed)) n refl
fact_own h s (word_letter x r l) k n = base_own (h.of_word x.word) x.places k _ n refl
fact_own h s (letter_word l r x) k n = base_own (h.of_word x.word) x.places k _ n refl
fact_own h s (words x r y) k n =
    let ps : TermPlans = argument_plans (h.of_word x.word) x.places k in
    let qs : TermPlans = argument_plans (h.of_word y.word) y.places ps.next in
    let base : Plan = paired x.word (tracks_of ps.placed) r y.word (tracks_of qs.placed) in
    let are : ArePlaced (all_places ps.placed qs.placed) (own_among x.places ++ own_among y.places) =
    both_placed ps.placed qs.placed (own_among x.places) (own_among y.places) (arguments_own (h.of_word x.word) x.places k) (arguments_own (h.of_word y.word) y.places ps.next) in
    closed_all_own (all_places ps.placed qs.placed) (own_among x.places ++ own_among y.places) base n are
    ∙ ap (λ l. in_relations (all_places ps.placed qs.placed) n || has_track l (own n)) (sym (tracks_both ps.placed qs.placed))
    ∙ all_own (all_places ps.placed qs.placed) (own_among x.places ++ own_among y.places) n are

-- a variable projected
pub projected_agrees : (p : Plan) (ms : List Name) (m : Name) → AgreeOn p ms → AgreeOn (projected (own m) p) (without_name m ms)
projected_agrees p ms m on = record { agree = λ n. without_own m (tracks p) n ∙ ap (λ b. not (bytes_eq m n) && b) (on.agree n) ∙ sym (without_named m ms n) }

all_agree : (ns : Names) (p : Plan) (ms : List Name) → AgreeOn p ms → AgreeOn (projected_all (kept ns (tracks p)) p) (without_all ns ms)
all_agree no_names p ms on = on
all_agree (names ns m) p ms on = by (has_track (tracks p) (own m)) refl (all_agree ns (projected (own m) p) (without_name m ms) (projected_agrees p ms m on)) (all_agree ns p ms on)
  where
    by : (b : Bool) → has_track (tracks p) (own m) ≡ b → AgreeOn (projected_all (kept ns (without (own m) (tracks p))) (projected (own m) p)) (without_all ns (without_name m ms))
        → AgreeOn (projected_all (kept ns (tracks p)) p) (without_all ns ms)
        → AgreeOn (projected_all (if b then m ∷ kept ns (without (own m) (tracks p)) else kept ns (tracks p)) p) (without_all ns (without_name m ms))
    by true has there bare = there
    by false none there bare = subst (λ l. AgreeOn (projected_all (kept ns (tracks p)) p) (without_all ns l)) (sym (without_none m ms (sym (on.agree m) ∙ none))) bare

projected_same : (ns : List Name) (p q : Plan) → tracks p ≡ tracks q → tracks (projected_all ns p) ≡ tracks (projected_all ns q)
projected_same [] p q same = same
projected_same (n ∷ ns) p q same = projected_same ns (projected (own n) p) (projected (own n) q) (ap (without (own n)) same)

every_same : (ns : List Name) (m : Made) → tracks (for_every ns m).last ≡ tracks (projected_all ns m.last)
every_same [] m = refl
every_same (n ∷ ns) m = projected_same (n ∷ ns) (complement m.last) m.last refl

-- the fresh bound of `I` goes, and the variable with it
infinitely_bool : (b h : Bool) → (not b && (h || (false || (b || false)))) ≡ (not b && h)
infinitely_bool true h = refl
infinitely_bool false true = refl
infinitely_bool false false = refl

pub infinitely_agrees : (s n : Name) (m : Made) (ms : List Name) → AgreeOn m.last ms → AgreeOn (for_infinitely s n m).last (without_name n ms)
infinitely_agrees s n m ms on = record {
  agree = λ v.
      without_fresh m.next (without (own n) (tracks m.last ++ (fresh m.next ∷ own n ∷ []))) v
      ∙ without_own n (tracks m.last ++ (fresh m.next ∷ own n ∷ [])) v
      ∙ ap (λ b. not (bytes_eq n v) && b) (has_both (tracks m.last) (fresh m.next ∷ own n ∷ []) (own v))
      ∙ infinitely_bool (bytes_eq n v) (has_track (tracks m.last) (own v))
      ∙ ap (λ b. not (bytes_eq n v) && b) (on.agree v) ∙ sym (without_named n ms v);
}

many_agree : (on : Name → Name) (ns : Names) (m : Made) (ms : List Name) → AgreeOn m.last ms → AgreeOn (for_infinitely_many on ns m).last (without_all ns ms)
many_agree on no_names m ms agree = agree
many_agree on (names ns n) m ms agree =
    many_agree on ns (if has_track (tracks m.last) (own n) then for_infinitely (on n) n m else m) (without_name n ms) (by (has_track (tracks m.last) (own n)) refl)
  where
    by : (b : Bool) → has_track (tracks m.last) (own n) ≡ b → AgreeOn (if b then for_infinitely (on n) n m else m).last (without_name n ms)
    by true has = infinitely_agrees (on n) n m ms agree
    by false none = subst (λ l. AgreeOn m.last l) (sym (without_none n ms (sym (agree.agree n) ∙ none))) agree

quantified_agrees : (q : Quantifier) (on : Name → Name) (ns : Names) (m : Made) (ms : List Name) → AgreeOn m.last ms → AgreeOn (quantified_made q on ns m).last (without_all ns ms)
quantified_agrees some on ns m ms agree = all_agree ns m.last ms agree
quantified_agrees every on ns m ms agree =
    let all = all_agree ns m.last ms agree in
    record { agree = λ n. ap (λ l. has_track l (own n)) (every_same (kept ns (tracks m.last)) m) ∙ all.agree n }
quantified_agrees infinite on ns m ms agree = many_agree on ns m ms agree

mutual
  pub formula_own : (h : Headers) (f : Formula) (k : ℕ) → AgreeOn (plan_of h f k).last (own_of f)
  formula_own h (atom x) k = record { agree = λ n. fact_own h x.system x.fact k n }
  formula_own h (negated f) k = record { agree = λ n. (formula_own h f k).agree n }
  formula_own h (chain os f) k =
      let next = (operand_plans h os k).next in
      operands_own h os k (plan_of h f next).last (own_of f) (formula_own h f next)
  formula_own h (quantified q ns f) k =
      quantified_agrees q (h.of_variable f) ns (plan_of h f k) (own_of f) (formula_own h f k)
  formula_own h (marked ms f) k = formula_own h f k

  operands_own : (h : Headers) (os : Operands) (k : ℕ) (p : Plan) (ms : List Name) → AgreeOn p ms → AgreeOn (chained (operand_plans h os k).operands p) (own_operands os ++ ms)
  operands_own h no_operands k p ms on = on
  operands_own h (operands os f j) k p ms on =
      let ps = operand_plans h os k in
      let q : Plan = (plan_of h f ps.next).last in
      let prefix = operands_own h os k q (own_of f) (formula_own h f ps.next) in
      record {
        agree = λ n. has_both (tracks (chained ps.operands q)) (tracks p) (own n) ∙ ap (λ b. b || has_track (tracks p) (own n)) (prefix.agree n)
            ∙ ap (λ b. has_name (own_operands os ++ own_of f) n || b) (on.agree n) ∙ sym (named_both (own_operands os ++ own_of f) ms n);
      }

-- where none of the variables is free, none is kept
pub kept_none : (ns : Names) (p : Plan) (ms : List Name) → AgreeOn p ms → has_any ns ms ≡ false → kept ns (tracks p) ≡ []
kept_none no_names p ms on none = refl
kept_none (names ns n) p ms on none =
    ap (λ b. if b then n ∷ kept ns (without (own n) (tracks p)) else kept ns (tracks p)) (on.agree n ∙ second_no (has_any ns ms) (has_name ms n) none)
    ∙ kept_none ns p ms on (first_no (has_any ns ms) (has_name ms n) none)

-- and where one is, some
pub kept_some : (ns : Names) (p : Plan) (ms : List Name) → AgreeOn p ms → has_any ns ms ≡ true → (m : Name) × (rest : List Name) × (kept ns (tracks p) ≡ m ∷ rest)
kept_some no_names p ms on has = absurd (false≢true has)
kept_some (names ns n) p ms on has = by (has_name ms n) refl (kept_some ns p ms on)
  where
    by : (b : Bool) → has_name ms n ≡ b → (has_any ns ms ≡ true → (m : Name) × (rest : List Name) × (kept ns (tracks p) ≡ m ∷ rest))
        → (m : Name) × (rest : List Name) × (kept (names ns n) (tracks p) ≡ m ∷ rest)
    by true here later = (n, kept ns (without (own n) (tracks p)), ap (λ b. if b then n ∷ kept ns (without (own n) (tracks p)) else kept ns (tracks p)) (on.agree n ∙ here))
    by false none later =
        let one = later (sym (or_false (has_any ns ms)) ∙ ap (λ b. has_any ns ms || b) (sym none) ∙ has) in
        (one.0, one.1, ap (λ b. if b then n ∷ kept ns (without (own n) (tracks p)) else kept ns (tracks p)) (on.agree n ∙ none) ∙ one.2)

-- What the plan of an atom means is what the atom says.
use Rattle.std.specs.Prelude.{⊤}
use Rattle.std.proofs.Common.{◌≡◌, ◌↔◌, ℕ, ℤ, ◌≤◌, Bool, true, false, List, [], ◌∷◌, ◌++◌, map, slice_index_or, Option, None, Some, refl, sym, ◌∙◌, ap, subst, arith}
use Rattle.std.proofs.lemmas.Option.{none-some, same_Some}
use Rattle.std.proofs.lemmas.List.{map-append}
use Rattle.std.proofs.lemmas.Bool.{false≢true}
use Rattle.formula_parse.specs.Tokens.{Name, Relation, equal, unequal, less, greater, at_most, at_least}
use Rattle.formula_parse.specs.Trees.{Term, variable, numeral, product, sum, Terms, Index, Fact, compare, words, word_letter, letter_word, call}
use Rattle.formula_truth.specs.Values.{value, values}
use Rattle.formula_truth.specs.Truth.{Meanings, Compares, ComparesLetters, HasLetterAt, FactHolds}
use Rattle.term_plans.specs.Tracks.{Track, own, fresh, Numbers, with_number, of_variables}
use Rattle.term_plans.specs.Plans.{Plan, compared, called, lettered, paired}
use Rattle.term_plans.specs.TermPlans.{TermPlan, term_plan}
use Rattle.term_plans.specs.ArgumentPlans.{Places, no_places, places, tracks_of, all_places, closed_all, argument_plans}
use Rattle.formula_plan.specs.FactPlans.{Headers, as_variable, is_equal, Form, long, variable_left, variable_right, form_by, named_by, compared_values, compare_by, mirrored, letter_plan, words_plan, fact_plan}
use Rattle.term_plans.specs.Linear.{IsLinear, AreLinear, IsLinearFact}
use Rattle.term_plans.specs.Means.{Means}
use Rattle.term_plans.proofs.TrackLemmas.{with_number_here}
use Rattle.term_plans.proofs.PlacedValues.{Value, IsPlaced, IsValueAt, IsValuePlaced, Values, no_values, listed, read_all, AreValuesPlaced, values_placed_up, Reads, set_on, all_there, all_back, reads_at, reads_variables, reads_values, reads_exist, list_there, list_back}
use Rattle.term_plans.proofs.TermLemmas.{two_read, read_two, term_is_placed, values_of, values_are, arguments_are_placed}

-- A base over the values of some terms, closed: it says of the values what it says of the numbers at the tracks.
over_there : (m : Meanings) (ss : List Name) (ts : Terms) → AreLinear ts → (k : ℕ) (base : Plan) (P : List ℕ → Type 0)
    → ((b : Numbers) → Means m base b → P (map b (tracks_of (argument_plans ss ts k).placed))) → (a : Numbers)
    → Means m (closed_all (argument_plans ss ts k).placed base) a → (ns : List ℕ) × (values ts (of_variables a) ≡ Some ns) × P ns
over_there m ss ts linear k base P says a h =
    let ps = argument_plans ss ts k in
    let read = list_there m (values_of ts) ps.placed k ps.next (arguments_are_placed m ss ts linear k) base P a (λ b reads held. says b held) h in
    (read.0, sym (values_are ts (of_variables a)) ∙ read.1, read.2)

over_back : (m : Meanings) (ss : List Name) (ts : Terms) → AreLinear ts → (k : ℕ) (base : Plan) (P : List ℕ → Type 0)
    → ((b : Numbers) → P (map b (tracks_of (argument_plans ss ts k).placed)) → Means m base b) → (a : Numbers)
    → (ns : List ℕ) → values ts (of_variables a) ≡ Some ns → P ns → Means m (closed_all (argument_plans ss ts k).placed base) a
over_back m ss ts linear k base P says a ns is h =
    let ps = argument_plans ss ts k in
    list_back m (values_of ts) ps.placed k ps.next (arguments_are_placed m ss ts linear k) base P a (λ b reads held. says b held) ns (values_are ts (of_variables a) ∙ is) h

-- the short form of an equation
named_there : (m : Meanings) (s n : Name) (v : Value) (t : Track) (r : Option Plan) (k next : ℕ) → IsValueAt m v t r k next → (a : Numbers)
    → Means m (named_by s n t r) a → v (of_variables a) ≡ Some (a (own n))
named_there m s n v (own x) None k next value_placed a h = value_placed.there a tt ∙ ap Some h
named_there m s n v (fresh j) (Some r) k next value_placed a h = value_placed.there (with_number (fresh j) (a (own n)) a) h ∙ ap Some (with_number_here (fresh j) (a (own n)) a)
named_there m s n v (own x) (Some r) k next value_placed a h = absurd value_placed.placed
named_there m s n v (fresh j) None k next value_placed a h = absurd value_placed.placed

named_back : (m : Meanings) (s n : Name) (v : Value) (t : Track) (r : Option Plan) (k next : ℕ) → IsValueAt m v t r k next → (a : Numbers)
    → v (of_variables a) ≡ Some (a (own n)) → Means m (named_by s n t r) a
named_back m s n v (own x) None k next value_placed a is = same_Some (a (own x)) (a (own n)) (sym (value_placed.there a tt) ∙ is)
named_back m s n v (fresh j) (Some r) k next value_placed a is = value_placed.back (with_number (fresh j) (a (own n)) a) (is ∙ sym (ap Some (with_number_here (fresh j) (a (own n)) a)))
named_back m s n v (own x) (Some r) k next value_placed a is = absurd value_placed.placed
named_back m s n v (fresh j) None k next value_placed a is = absurd value_placed.placed

-- the form says what is beside the relation
abbrev IsForm : Form → Term → Relation → Term → Type 0
IsForm long t r u = ⊤
IsForm (variable_left n) t r u = (t ≡ variable n) × (r ≡ equal)
IsForm (variable_right n) t r u = (u ≡ variable n) × (r ≡ equal)

variable_is : (t : Term) (n : Name) → as_variable t ≡ Some n → t ≡ variable n
variable_is (variable x) n is = ap variable (same_Some x n is)
variable_is (numeral c) n is = absurd (none-some n is)
variable_is (product fs) n is = absurd (none-some n is)
variable_is (sum ss t) n is = absurd (none-some n is)

equal_is : (r : Relation) → is_equal r ≡ true → r ≡ equal
equal_is equal is = refl
equal_is unequal is = absurd (false≢true is)
equal_is less is = absurd (false≢true is)
equal_is greater is = absurd (false≢true is)
equal_is at_most is = absurd (false≢true is)
equal_is at_least is = absurd (false≢true is)

form_is : (t : Term) (r : Relation) (u : Term) (b : Bool) (x y : Option Name) → is_equal r ≡ b → as_variable t ≡ x → as_variable u ≡ y → IsForm (form_by b x y) t r u
form_is t r u true (Some n) None of_r of_t of_u = (variable_is t n of_t, equal_is r of_r)
form_is t r u true None (Some n) of_r of_t of_u = (variable_is u n of_u, equal_is r of_r)
form_is t r u true None None of_r of_t of_u = tt
form_is t r u true (Some x) (Some y) of_r of_t of_u = tt
form_is t r u false x y of_r of_t of_u = tt

-- two values compared
compared_is : (m : Meanings) (s : Name) (r : Relation) (v w : Value) (p q : TermPlan) (k : ℕ) → IsValuePlaced m v p.placed k p.next → IsValuePlaced m w q.placed p.next q.next → (a : Numbers)
    → Means m (compared_values s r p q).last a ↔ ((x : ℕ) × (y : ℕ) × (v (of_variables a) ≡ Some x) × (w (of_variables a) ≡ Some y) × Compares r x y)
compared_is m s r v w p q k first second a = (
  λ h. let read = list_there m vs ps k q.next all_placed base Says a (λ b reads held. held) h in
      let two = read_two v w (of_variables a) read.0 read.1 in
      (two.0, two.1, two.2, two.3, subst Says two.4 read.2),
  λ h. list_back m vs ps k q.next all_placed base Says a (λ b reads held. held) (h.0 ∷ h.1 ∷ []) (two_read v w (of_variables a) h.0 h.1 h.2 h.3) h.4,
)
  where
    vs : Values
    vs = listed (listed no_values v) w

    ps : Places
    ps = places (places no_places p.placed) q.placed

    base : Plan
    base = compared s r p.placed.track q.placed.track

    all_placed : AreValuesPlaced m vs ps k q.next
    all_placed = (p.next, (k, omega arith, first), second)

    Says : List ℕ → Type 0
    Says ns = Compares r (slice_index_or ns 0 0) (slice_index_or ns 1 0)

-- an equation of a value with a variable's number
equation_left : (n : Name) (t u : Term) (r : Relation) (a : Numbers) → (t ≡ variable n) × (r ≡ equal)
    → (value u (of_variables a) ≡ Some (a (own n))) ↔ ((x : ℕ) × (y : ℕ) × (value t (of_variables a) ≡ Some x) × (value u (of_variables a) ≡ Some y) × Compares r x y)
equation_left n t u r a is = (
  λ same. (a (own n), a (own n), ap (λ z. value z (of_variables a)) is.0, same, subst (λ z. Compares z (a (own n)) (a (own n))) (sym is.1) refl),
  λ h. let equation : h.0 ≡ h.1 = subst (λ z. Compares z h.0 h.1) is.1 h.4 in
      let left : a (own n) ≡ h.0 = same_Some (a (own n)) h.0 (sym (ap (λ z. value z (of_variables a)) is.0) ∙ h.2) in
      h.3 ∙ ap Some (sym equation ∙ sym left),
)

equation_right : (n : Name) (t u : Term) (r : Relation) (a : Numbers) → (u ≡ variable n) × (r ≡ equal)
    → (value t (of_variables a) ≡ Some (a (own n))) ↔ ((x : ℕ) × (y : ℕ) × (value t (of_variables a) ≡ Some x) × (value u (of_variables a) ≡ Some y) × Compares r x y)
equation_right n t u r a is = (
  λ same. (a (own n), a (own n), same, ap (λ z. value z (of_variables a)) is.0, subst (λ z. Compares z (a (own n)) (a (own n))) (sym is.1) refl),
  λ h. let equation : h.0 ≡ h.1 = subst (λ z. Compares z h.0 h.1) is.1 h.4 in
      let right : a (own n) ≡ h.1 = same_Some (a (own n)) h.1 (sym (ap (λ z. value z (of_variables a)) is.0) ∙ h.3) in
      h.2 ∙ ap Some (equation ∙ sym right),
)

compare_is : (m : Meanings) (form : Form) (s : Name) (t : Term) (r : Relation) (u : Term) (k : ℕ) → IsLinear t → IsLinear u → IsForm form t r u → (a : Numbers)
    → Means m (compare_by form s t r u k).last a ↔ ((x : ℕ) × (y : ℕ) × (value t (of_variables a) ≡ Some x) × (value u (of_variables a) ≡ Some y) × Compares r x y)
compare_is m long s t r u k first second is a =
    let p = term_plan s t k in
    compared_is m s r (value t) (value u) p (term_plan s u p.next) k (term_is_placed m s t first k) (term_is_placed m s u second p.next) a
compare_is m (variable_left n) s t r u k first second is a =
    let p = term_plan s u k in
    let same = equation_left n t u r a is in (
      λ h. same.0 (named_there m s n (value u) p.placed.track p.placed.relation k p.next (term_is_placed m s u second k) a h),
      λ h. named_back m s n (value u) p.placed.track p.placed.relation k p.next (term_is_placed m s u second k) a (same.1 h),
    )
compare_is m (variable_right n) s t r u k first second is a =
    let p = term_plan s t k in
    let same = equation_right n t u r a is in (
      λ h. same.0 (named_there m s n (value t) p.placed.track p.placed.relation k p.next (term_is_placed m s t first k) a h),
      λ h. named_back m s n (value t) p.placed.track p.placed.relation k p.next (term_is_placed m s t first k) a (same.1 h),
    )

letter_is : (m : Meanings) (h : Headers) (x : Index) (r : Relation) (l : ℤ) (k : ℕ) → AreLinear x.places → (a : Numbers)
    → Means m (letter_plan h x r l k).last a ↔ ((b : ℤ) × HasLetterAt m x (of_variables a) b × ComparesLetters r b l)
letter_is m h x r l k linear a = (
  λ held. let read = over_there m ss x.places linear k base Says (λ b is. is) a held in (read.2.0, (read.0, read.1, read.2.1), read.2.2),
  λ held. over_back m ss x.places linear k base Says (λ b is. is) a held.1.0 held.1.1 (held.0, held.1.2, held.2),
)
  where
    ss : List Name
    ss = h.of_word x.word

    base : Plan
    base = lettered x.word (tracks_of (argument_plans ss x.places k).placed) r l

    Says : List ℕ → Type 0
    Says ns = (b : ℤ) × m.has_letter x.word ns b × ComparesLetters r b l

mirrored_there : (r : Relation) (b c : ℤ) → ComparesLetters (mirrored r) b c → ComparesLetters r c b
mirrored_there equal b c h = sym h
mirrored_there unequal b c h = λ same. h (sym same)
mirrored_there less b c h = h
mirrored_there greater b c h = h
mirrored_there at_most b c h = h
mirrored_there at_least b c h = h

mirrored_back : (r : Relation) (b c : ℤ) → ComparesLetters r c b → ComparesLetters (mirrored r) b c
mirrored_back equal b c h = sym h
mirrored_back unequal b c h = λ same. h (sym same)
mirrored_back less b c h = h
mirrored_back greater b c h = h
mirrored_back at_most b c h = h
mirrored_back at_least b c h = h

-- values after values
abbrev all_values : Values → Values → Values
all_values vs no_values = vs
all_values vs (listed ws w) = listed (all_values vs ws) w

placed_more : (t : Track) (r : Option Plan) (i k n l : ℕ) → i ≤ k → n ≤ l → IsPlaced t r k n → IsPlaced t r i l
placed_more (own x) None i k n l low high is = omega (arith, low, high, is)
placed_more (fresh j) (Some r) i k n l low high is = (omega (arith, low, is.0), omega (arith, high, is.1))
placed_more (own x) (Some r) i k n l low high is = absurd is
placed_more (fresh j) None i k n l low high is = absurd is

values_placed_more : (m : Meanings) (vs : Values) (ps : Places) (k n l : ℕ) → n ≤ l → AreValuesPlaced m vs ps k n → AreValuesPlaced m vs ps k l
values_placed_more m no_values no_places k n l up all_placed = omega (arith, up, all_placed)
values_placed_more m (listed vs v) (places ps p) k n l up all_placed = (
  all_placed.0,
  all_placed.1,
  record {
    there = all_placed.2.there;
    back = all_placed.2.back;
    placed = placed_more p.track p.relation all_placed.0 all_placed.0 n l (omega arith) up all_placed.2.placed;
  },
)
values_placed_more m no_values (places ps p) k n l up all_placed = absurd all_placed
values_placed_more m (listed vs v) no_places k n l up all_placed = absurd all_placed

all_are_placed : (m : Meanings) (vs ws : Values) (ps qs : Places) (k mid next : ℕ) → AreValuesPlaced m vs ps k mid → AreValuesPlaced m ws qs mid next → AreValuesPlaced m (all_values vs ws) (all_places ps qs) k next
all_are_placed m vs no_values ps no_places k mid next first second = values_placed_more m vs ps k mid next second first
all_are_placed m vs (listed ws w) ps (places qs q) k mid next first second = (second.0, all_are_placed m vs ws ps qs k mid second.0 first second.1, second.2)
all_are_placed m vs no_values ps (places qs q) k mid next first second = absurd second
all_are_placed m vs (listed ws w) ps no_places k mid next first second = absurd second

-- the second values are set first
reads_parted : (m : Meanings) (vs ws : Values) (ps qs : Places) (mid next : ℕ) → AreValuesPlaced m ws qs mid next → (a b : Numbers)
    → Reads (all_values vs ws) (all_places ps qs) a b → (c : Numbers) × Reads ws qs a c × Reads vs ps c b
reads_parted m vs no_values ps no_places mid next second a b reads = (a, refl, reads)
reads_parted m vs (listed ws w) ps (places qs q) mid next second a b reads =
    let rest = reads_parted m vs ws ps qs mid second.0 second.1 (set_on q reads.0 a) b reads.2 in
    (rest.0, (reads.0, reads.1, rest.1), rest.2)
reads_parted m vs no_values ps (places qs q) mid next second a b reads = absurd second
reads_parted m vs (listed ws w) ps no_places mid next second a b reads = absurd second

reads_together : (m : Meanings) (vs ws : Values) (ps qs : Places) (mid next : ℕ) → AreValuesPlaced m ws qs mid next → (a c b : Numbers)
    → Reads ws qs a c → Reads vs ps c b → Reads (all_values vs ws) (all_places ps qs) a b
reads_together m vs no_values ps no_places mid next second a c b later former = subst (λ d. Reads vs ps d b) later former
reads_together m vs (listed ws w) ps (places qs q) mid next second a c b later former =
    (later.0, later.1, reads_together m vs ws ps qs mid second.0 second.1 (set_on q later.0 a) c b later.2 former)
reads_together m vs no_values ps (places qs q) mid next second a c b later former = absurd second
reads_together m vs (listed ws w) ps no_places mid next second a c b later former = absurd second

-- numbers that are the same at all tracks that are placed from a number on
same_numbers : (m : Meanings) (ws : Values) (qs : Places) (mid next : ℕ) → AreValuesPlaced m ws qs mid next → (b c : Numbers)
    → ((t : Track) (r : Option Plan) (n : ℕ) → IsPlaced t r mid n → b t ≡ c t) → map b (tracks_of qs) ≡ map c (tracks_of qs)
same_numbers m no_values no_places mid next all_placed b c same = refl
same_numbers m (listed ws w) (places qs q) mid next all_placed b c same =
    map-append b (tracks_of qs) (q.track ∷ [])
    ∙ ap (λ ns. ns ++ b q.track ∷ []) (same_numbers m ws qs mid all_placed.0 all_placed.1 b c same)
    ∙ ap (λ n. map c (tracks_of qs) ++ n ∷ []) (same q.track q.relation next (placed_more q.track q.relation mid all_placed.0 next next (values_placed_up m ws qs mid all_placed.0 all_placed.1) (omega arith) all_placed.2.placed))
    ∙ sym (map-append c (tracks_of qs) (q.track ∷ []))
same_numbers m no_values (places qs q) mid next all_placed b c same = absurd all_placed
same_numbers m (listed ws w) no_places mid next all_placed b c same = absurd all_placed

words_is : (m : Meanings) (h : Headers) (x : Index) (r : Relation) (y : Index) (k : ℕ) → AreLinear x.places → AreLinear y.places → (a : Numbers)
    → Means m (words_plan h x r y k).last a
    ↔ ((b : ℤ) × (c : ℤ) × HasLetterAt m x (of_variables a) b × HasLetterAt m y (of_variables a) c × ComparesLetters r b c)
words_is m h x r y k first second a = (there, back)
  where
    ps : Places
    ps = (argument_plans (h.of_word x.word) x.places k).placed

    mid : ℕ
    mid = (argument_plans (h.of_word x.word) x.places k).next

    qs : Places
    qs = (argument_plans (h.of_word y.word) y.places mid).placed

    next : ℕ
    next = (argument_plans (h.of_word y.word) y.places mid).next

    vs : Values
    vs = values_of x.places

    ws : Values
    ws = values_of y.places

    base : Plan
    base = paired x.word (tracks_of ps) r y.word (tracks_of qs)

    placed_x : AreValuesPlaced m vs ps k mid
    placed_x = arguments_are_placed m (h.of_word x.word) x.places first k

    placed_y : AreValuesPlaced m ws qs mid next
    placed_y = arguments_are_placed m (h.of_word y.word) y.places second mid

    all_placed : AreValuesPlaced m (all_values vs ws) (all_places ps qs) k next
    all_placed = all_are_placed m vs ws ps qs k mid next placed_x placed_y

    there : Means m (closed_all (all_places ps qs) base) a
        → (b : ℤ) × (c : ℤ) × HasLetterAt m x (of_variables a) b × HasLetterAt m y (of_variables a) c × ComparesLetters r b c
    there held =
        let all = all_there m (all_values vs ws) (all_places ps qs) k next all_placed base a held in
        let b : Numbers = all.0 in
        let parts = reads_parted m vs ws ps qs mid next placed_y a b all.1 in
        let c : Numbers = parts.0 in
        let of_x = sym (values_are x.places (of_variables a)) ∙ ap (read_all vs) (sym (reads_variables m ws qs mid next placed_y a c parts.1)) ∙ reads_values m vs ps k mid placed_x c b parts.2 in
        let same = same_numbers m ws qs mid next placed_y b c (λ t r n is. reads_at m vs ps k mid placed_x c b parts.2 t r n is) in
        let of_y = sym (values_are y.places (of_variables a)) ∙ reads_values m ws qs mid next placed_y a c parts.1 ∙ ap Some (sym same) in
        (all.2.0, all.2.1, (map b (tracks_of ps), of_x, all.2.2), (map b (tracks_of qs), of_y, all.2.3), all.2.4)

    back : (b : ℤ) × (c : ℤ) × HasLetterAt m x (of_variables a) b × HasLetterAt m y (of_variables a) c × ComparesLetters r b c
        → Means m (closed_all (all_places ps qs) base) a
    back held =
        let later = reads_exist m ws qs mid next placed_y a held.3.0 (values_are y.places (of_variables a) ∙ held.3.1) in
        let c : Numbers = later.0 in
        let variables = reads_variables m ws qs mid next placed_y a c later.1 in
        let former = reads_exist m vs ps k mid placed_x c held.2.0 (ap (read_all vs) variables ∙ values_are x.places (of_variables a) ∙ held.2.1) in
        let b : Numbers = former.0 in
        let same = same_numbers m ws qs mid next placed_y b c (λ t r n is. reads_at m vs ps k mid placed_x c b former.1 t r n is) in
        let of_x : held.2.0 ≡ map b (tracks_of ps) = same_Some held.2.0 (map b (tracks_of ps))
        (sym held.2.1 ∙ sym (values_are x.places (of_variables a)) ∙ ap (read_all vs) (sym variables) ∙ reads_values m vs ps k mid placed_x c b former.1) in
        let of_y : held.3.0 ≡ map b (tracks_of qs) = same_Some held.3.0 (map c (tracks_of qs))
        (sym held.3.1 ∙ sym (values_are y.places (of_variables a)) ∙ reads_values m ws qs mid next placed_y a c later.1) ∙ sym same in
        all_back m (all_values vs ws) (all_places ps qs) k next all_placed base a b
        (reads_together m vs ws ps qs mid next placed_y a c b later.1 former.1)
        (held.0, held.1, subst (λ ns. m.has_letter x.word ns held.0) of_x held.2.2, subst (λ ns. m.has_letter y.word ns held.1) of_y held.3.2, held.4)

pub fact_is : (m : Meanings) (h : Headers) (s : Name) (x : Fact) (k : ℕ) → IsLinearFact x → (a : Numbers)
    → Means m (fact_plan h s x k).last a ↔ FactHolds m x (of_variables a)
fact_is m h s (compare t r u) k linear a =
    compare_is m (form_by (is_equal r) (as_variable t) (as_variable u)) s t r u k linear.0 linear.1
    (form_is t r u (is_equal r) (as_variable t) (as_variable u) refl refl refl) a
fact_is m h s (call n ts) k linear a = (
  λ held. over_there m (h.of_automaton n) ts linear k (called n (tracks_of (argument_plans (h.of_automaton n) ts k).placed)) (m.holds_of n) (λ b is. is) a held,
  λ held. over_back m (h.of_automaton n) ts linear k (called n (tracks_of (argument_plans (h.of_automaton n) ts k).placed)) (m.holds_of n) (λ b is. is) a held.0 held.1 held.2,
)
fact_is m h s (word_letter x r l) k linear a = letter_is m h x r l k linear a
fact_is m h s (letter_word l r x) k linear a =
    let same = letter_is m h x (mirrored r) l k linear a in (
      λ held. let is = same.0 held in (is.0, is.1, mirrored_there r is.0 l is.2),
      λ held. same.1 (held.0, held.1, mirrored_back r held.0 l held.2),
    )
fact_is m h s (words x r y) k linear a = words_is m h x r y k linear.0 linear.1 a

-- Where values are: at a variable's own track, or at a fresh one with a relation that holds where the value is there. A base over such
-- tracks, once they are closed, says of the values what it said of the tracks.
use Rattle.std.specs.Prelude.{⊤}
use Rattle.std.proofs.Common.{◌≡◌, ℕ, ◌<◌, ◌≤◌, List, [], ◌∷◌, ◌++◌, map, Option, None, Some, refl, sym, ◌∙◌, ap, subst, arith}
use Rattle.std.proofs.lemmas.Option.{same_Some}
use Rattle.std.proofs.lemmas.List.{map-append}
use Rattle.formula_truth.specs.Assignments.{Assignment}
use Rattle.formula_truth.specs.Values.{and_value}
use Rattle.formula_truth.specs.Truth.{Meanings}
use Rattle.term_plans.specs.Tracks.{Track, own, fresh, Numbers, with_number, of_variables}
use Rattle.term_plans.specs.Plans.{Plan}
use Rattle.term_plans.specs.TermPlans.{Placed, closed_by}
use Rattle.term_plans.specs.ArgumentPlans.{Places, no_places, places, tracks_of, closed_all}
use Rattle.term_plans.specs.Means.{Means}
use Rattle.term_plans.proofs.OptionLemmas.{and_some, and_at}
use Rattle.term_plans.proofs.TrackLemmas.{with_number_here, with_number_apart, fresh_apart}

-- a number that variables give, or none
abbrev pub Value : Type 0
Value = Assignment → Option ℕ

-- a variable's own track has no relation, and a fresh one is one of these
abbrev pub IsPlaced : Track → Option Plan → ℕ → ℕ → Type 0
IsPlaced (own n) None k next = k ≤ next
IsPlaced (fresh j) (Some r) k next = (k ≤ j) × (j < next)
IsPlaced (own n) (Some r) k next = ⊥
IsPlaced (fresh j) None k next = ⊥

pub placed_up : (t : Track) (r : Option Plan) (k next : ℕ) → IsPlaced t r k next → k ≤ next
placed_up (own n) None k next is = is
placed_up (fresh j) (Some r) k next is = omega (arith, is.0, is.1)
placed_up (own n) (Some r) k next is = absurd is
placed_up (fresh j) None k next is = absurd is

abbrev pub Relates : Meanings → Option Plan → Numbers → Type 0
Relates m None a = ⊤
Relates m (Some r) a = Means m r a

-- the value is at the track
pub record IsValueAt (m : Meanings) (v : Value) (t : Track) (r : Option Plan) (k next : ℕ) : Type 0 where
  pub there : (a : Numbers) → Relates m r a → v (of_variables a) ≡ Some (a t)
  pub back : (a : Numbers) → v (of_variables a) ≡ Some (a t) → Relates m r a
  pub placed : IsPlaced t r k next

abbrev pub IsValuePlaced : Meanings → Value → Placed → ℕ → ℕ → Type 0
IsValuePlaced m v p k next = IsValueAt m v p.track p.relation k next

pub value_placed_same : (m : Meanings) (v w : Value) (p : Placed) (k next : ℕ) → ((b : Assignment) → v b ≡ w b) → IsValuePlaced m v p k next → IsValuePlaced m w p k next
value_placed_same m v w p k next same value_placed = record {
  there = λ a relates. sym (same (of_variables a)) ∙ value_placed.there a relates;
  back = λ a is. value_placed.back a (same (of_variables a) ∙ is);
  placed = value_placed.placed;
}

-- the numbers with a value at its track, where that is fresh
abbrev pub set_at : Track → Option Plan → ℕ → Numbers → Numbers
set_at t None x a = a
set_at t (Some r) x a = with_number t x a

abbrev pub set_on : Placed → ℕ → Numbers → Numbers
set_on p x a = set_at p.track p.relation x a

set_variables : (t : Track) (r : Option Plan) (k next : ℕ) → IsPlaced t r k next → (x : ℕ) (a : Numbers) → of_variables (set_at t r x a) ≡ of_variables a
set_variables (own n) None k next is x a = refl
set_variables (fresh j) (Some r) k next is x a = refl
set_variables (own n) (Some r) k next is x a = absurd is
set_variables (fresh j) None k next is x a = absurd is

set_outside : (t : Track) (r : Option Plan) (k next : ℕ) → IsPlaced t r k next → (x : ℕ) (a : Numbers) (i : ℕ) → next ≤ i → set_at t r x a (fresh i) ≡ a (fresh i)
set_outside (own n) None k next is x a i past = refl
set_outside (fresh j) (Some r) k next is x a i past = with_number_apart (fresh j) (fresh i) x a (fresh_apart j i (λ same. let s : j ≡ i = same in omega (arith, is.1, past, s)))
set_outside (own n) (Some r) k next is x a i past = absurd is
set_outside (fresh j) None k next is x a i past = absurd is

-- a closed base holds where the value is there and the base holds with it
closed_there : (m : Meanings) (v : Value) (t : Track) (r : Option Plan) (k next : ℕ) → IsValueAt m v t r k next → (base : Plan) (a : Numbers)
    → Means m (closed_by t r base) a → (x : ℕ) × (v (of_variables a) ≡ Some x) × Means m base (set_at t r x a)
closed_there m v (own n) None k next value_placed base a h = (a (own n), value_placed.there a tt, h)
closed_there m v (fresh j) (Some r) k next value_placed base a h = (h.0, value_placed.there (with_number (fresh j) h.0 a) h.1.0 ∙ ap Some (with_number_here (fresh j) h.0 a), h.1.1)
closed_there m v (own n) (Some r) k next value_placed base a h = absurd value_placed.placed
closed_there m v (fresh j) None k next value_placed base a h = absurd value_placed.placed

closed_back : (m : Meanings) (v : Value) (t : Track) (r : Option Plan) (k next : ℕ) → IsValueAt m v t r k next → (base : Plan) (a : Numbers) (x : ℕ)
    → v (of_variables a) ≡ Some x → Means m base (set_at t r x a) → Means m (closed_by t r base) a
closed_back m v (own n) None k next value_placed base a x is h = h
closed_back m v (fresh j) (Some r) k next value_placed base a x is h = (x, (value_placed.back (with_number (fresh j) x a) (is ∙ sym (ap Some (with_number_here (fresh j) x a))), h))
closed_back m v (own n) (Some r) k next value_placed base a x is h = absurd value_placed.placed
closed_back m v (fresh j) None k next value_placed base a x is h = absurd value_placed.placed

-- the number at the track, once the value is set there
set_here : (m : Meanings) (v : Value) (t : Track) (r : Option Plan) (k next : ℕ) → IsValueAt m v t r k next → (a : Numbers) (x : ℕ)
    → v (of_variables a) ≡ Some x → set_at t r x a t ≡ x
set_here m v (own n) None k next value_placed a x is = same_Some (a (own n)) x (sym (value_placed.there a tt) ∙ is)
set_here m v (fresh j) (Some r) k next value_placed a x is = with_number_here (fresh j) x a
set_here m v (own n) (Some r) k next value_placed a x is = absurd value_placed.placed
set_here m v (fresh j) None k next value_placed a x is = absurd value_placed.placed

-- several values, in their order
pub data Values : Type 0 where
  no_values : Values
  listed : Values → Value → Values

abbrev pub read_all : Values → Assignment → Option (List ℕ)
read_all no_values b = Some []
read_all (listed vs v) b = and_value (read_all vs b) (v b)

-- each is at its place, and their fresh tracks come one after another
abbrev pub AreValuesPlaced : Meanings → Values → Places → ℕ → ℕ → Type 0
AreValuesPlaced m no_values no_places k next = k ≤ next
AreValuesPlaced m (listed vs v) (places ps p) k next = (mid : ℕ) × AreValuesPlaced m vs ps k mid × IsValuePlaced m v p mid next
AreValuesPlaced m no_values (places ps p) k next = ⊥
AreValuesPlaced m (listed vs v) no_places k next = ⊥

-- the second numbers are the first with each value set, the last first
abbrev pub Reads : Values → Places → Numbers → Numbers → Type 0
Reads no_values no_places a b = b ≡ a
Reads (listed vs v) (places ps p) a b = (y : ℕ) × (v (of_variables a) ≡ Some y) × Reads vs ps (set_on p y a) b
Reads no_values (places ps p) a b = ⊥
Reads (listed vs v) no_places a b = ⊥

pub all_there : (m : Meanings) (vs : Values) (ps : Places) (k next : ℕ) → AreValuesPlaced m vs ps k next → (base : Plan) (a : Numbers)
    → Means m (closed_all ps base) a → (b : Numbers) × Reads vs ps a b × Means m base b
all_there m no_values no_places k next all_placed base a h = (a, refl, h)
all_there m (listed vs v) (places ps p) k next all_placed base a h =
    let one = closed_there m v p.track p.relation all_placed.0 next all_placed.2 (closed_all ps base) a h in
    let rest = all_there m vs ps k all_placed.0 all_placed.1 base (set_on p one.0 a) one.2 in
    (rest.0, (one.0, one.1, rest.1), rest.2)
all_there m no_values (places ps p) k next all_placed base a h = absurd all_placed
all_there m (listed vs v) no_places k next all_placed base a h = absurd all_placed

pub all_back : (m : Meanings) (vs : Values) (ps : Places) (k next : ℕ) → AreValuesPlaced m vs ps k next → (base : Plan) (a b : Numbers)
    → Reads vs ps a b → Means m base b → Means m (closed_all ps base) a
all_back m no_values no_places k next all_placed base a b reads h = subst (λ c. Means m base c) reads h
all_back m (listed vs v) (places ps p) k next all_placed base a b reads h =
    closed_back m v p.track p.relation all_placed.0 next all_placed.2 (closed_all ps base) a reads.0 reads.1 (all_back m vs ps k all_placed.0 all_placed.1 base (set_on p reads.0 a) b reads.2 h)
all_back m no_values (places ps p) k next all_placed base a b reads h = absurd all_placed
all_back m (listed vs v) no_places k next all_placed base a b reads h = absurd all_placed

pub values_placed_up : (m : Meanings) (vs : Values) (ps : Places) (k next : ℕ) → AreValuesPlaced m vs ps k next → k ≤ next
values_placed_up m no_values no_places k next all_placed = all_placed
values_placed_up m (listed vs v) (places ps p) k next all_placed =
    let first = values_placed_up m vs ps k all_placed.0 all_placed.1 in
    let second = placed_up p.track p.relation all_placed.0 next all_placed.2.placed in
    omega (arith, first, second)
values_placed_up m no_values (places ps p) k next all_placed = absurd all_placed
values_placed_up m (listed vs v) no_places k next all_placed = absurd all_placed

-- setting values changes no variable
pub reads_variables : (m : Meanings) (vs : Values) (ps : Places) (k next : ℕ) → AreValuesPlaced m vs ps k next → (a b : Numbers) → Reads vs ps a b → of_variables b ≡ of_variables a
reads_variables m no_values no_places k next all_placed a b reads = ap of_variables reads
reads_variables m (listed vs v) (places ps p) k next all_placed a b reads =
    reads_variables m vs ps k all_placed.0 all_placed.1 (set_on p reads.0 a) b reads.2 ∙ set_variables p.track p.relation all_placed.0 next all_placed.2.placed reads.0 a
reads_variables m no_values (places ps p) k next all_placed a b reads = absurd all_placed
reads_variables m (listed vs v) no_places k next all_placed a b reads = absurd all_placed

-- and no later fresh track
pub reads_outside : (m : Meanings) (vs : Values) (ps : Places) (k next : ℕ) → AreValuesPlaced m vs ps k next → (a b : Numbers) → Reads vs ps a b
    → (i : ℕ) → next ≤ i → b (fresh i) ≡ a (fresh i)
reads_outside m no_values no_places k next all_placed a b reads i past = ap (λ c. c (fresh i)) reads
reads_outside m (listed vs v) (places ps p) k next all_placed a b reads i past =
    let up = placed_up p.track p.relation all_placed.0 next all_placed.2.placed in
    reads_outside m vs ps k all_placed.0 all_placed.1 (set_on p reads.0 a) b reads.2 i (omega (arith, up, past))
    ∙ set_outside p.track p.relation all_placed.0 next all_placed.2.placed reads.0 a i past
reads_outside m no_values (places ps p) k next all_placed a b reads i past = absurd all_placed
reads_outside m (listed vs v) no_places k next all_placed a b reads i past = absurd all_placed

-- what is set stays at a track that is placed after these
pub reads_at : (m : Meanings) (vs : Values) (ps : Places) (k mid : ℕ) → AreValuesPlaced m vs ps k mid → (a b : Numbers) → Reads vs ps a b
    → (t : Track) (r : Option Plan) (next : ℕ) → IsPlaced t r mid next → b t ≡ a t
reads_at m vs ps k mid all_placed a b reads (own n) None next is = ap (λ c. c n) (reads_variables m vs ps k mid all_placed a b reads)
reads_at m vs ps k mid all_placed a b reads (fresh j) (Some r) next is = reads_outside m vs ps k mid all_placed a b reads j is.0
reads_at m vs ps k mid all_placed a b reads (own n) (Some r) next is = absurd is
reads_at m vs ps k mid all_placed a b reads (fresh j) None next is = absurd is

-- the values are the numbers that then are at the tracks
pub reads_values : (m : Meanings) (vs : Values) (ps : Places) (k next : ℕ) → AreValuesPlaced m vs ps k next → (a b : Numbers) → Reads vs ps a b
    → read_all vs (of_variables a) ≡ Some (map b (tracks_of ps))
reads_values m no_values no_places k next all_placed a b reads = refl
reads_values m (listed vs v) (places ps p) k next all_placed a b reads =
    let prefix : read_all vs (of_variables a) ≡ Some (map b (tracks_of ps)) =
    ap (read_all vs) (sym (set_variables p.track p.relation all_placed.0 next all_placed.2.placed reads.0 a)) ∙ reads_values m vs ps k all_placed.0 all_placed.1 (set_on p reads.0 a) b reads.2 in
    let here : b p.track ≡ reads.0 =
    reads_at m vs ps k all_placed.0 all_placed.1 (set_on p reads.0 a) b reads.2 p.track p.relation next all_placed.2.placed
    ∙ set_here m v p.track p.relation all_placed.0 next all_placed.2 a reads.0 reads.1 in
    and_at (read_all vs (of_variables a)) (v (of_variables a)) (map b (tracks_of ps)) reads.0 prefix reads.1
    ∙ ap Some (ap (λ x. map b (tracks_of ps) ++ x ∷ []) (sym here) ∙ sym (map-append b (tracks_of ps) (p.track ∷ [])))
reads_values m no_values (places ps p) k next all_placed a b reads = absurd all_placed
reads_values m (listed vs v) no_places k next all_placed a b reads = absurd all_placed

-- where there are values they can be set
pub reads_exist : (m : Meanings) (vs : Values) (ps : Places) (k next : ℕ) → AreValuesPlaced m vs ps k next → (a : Numbers) (xs : List ℕ)
    → read_all vs (of_variables a) ≡ Some xs → (b : Numbers) × Reads vs ps a b
reads_exist m no_values no_places k next all_placed a xs is = (a, refl)
reads_exist m (listed vs v) (places ps p) k next all_placed a xs is =
    let parts = and_some (read_all vs (of_variables a)) (v (of_variables a)) xs is in
    let rest = reads_exist m vs ps k all_placed.0 all_placed.1 (set_on p parts.1 a) parts.0
    (ap (read_all vs) (set_variables p.track p.relation all_placed.0 next all_placed.2.placed parts.1 a) ∙ parts.2) in
    (rest.0, (parts.1, parts.3, rest.1))
reads_exist m no_values (places ps p) k next all_placed a xs is = absurd all_placed
reads_exist m (listed vs v) no_places k next all_placed a xs is = absurd all_placed

-- A base that says something of the numbers at the tracks, closed: it says this of the values.
pub list_there : (m : Meanings) (vs : Values) (ps : Places) (k next : ℕ) → AreValuesPlaced m vs ps k next → (base : Plan) (P : List ℕ → Type 0) (a : Numbers)
    → ((b : Numbers) → Reads vs ps a b → Means m base b → P (map b (tracks_of ps)))
    → Means m (closed_all ps base) a → (ns : List ℕ) × (read_all vs (of_variables a) ≡ Some ns) × P ns
list_there m vs ps k next all_placed base P a says h =
    let all = all_there m vs ps k next all_placed base a h in
    (map all.0 (tracks_of ps), reads_values m vs ps k next all_placed a all.0 all.1, says all.0 all.1 all.2)

pub list_back : (m : Meanings) (vs : Values) (ps : Places) (k next : ℕ) → AreValuesPlaced m vs ps k next → (base : Plan) (P : List ℕ → Type 0) (a : Numbers)
    → ((b : Numbers) → Reads vs ps a b → P (map b (tracks_of ps)) → Means m base b)
    → (ns : List ℕ) → read_all vs (of_variables a) ≡ Some ns → P ns → Means m (closed_all ps base) a
list_back m vs ps k next all_placed base P a says ns is h =
    let some = reads_exist m vs ps k next all_placed a ns is in
    let same : ns ≡ map some.0 (tracks_of ps) = same_Some ns (map some.0 (tracks_of ps)) (sym is ∙ reads_values m vs ps k next all_placed a some.0 some.1) in
    all_back m vs ps k next all_placed base a some.0 some.1 (says some.0 some.1 (subst P same h))

-- Numbers put one after another to the members of a set.
use Rattle.std.proofs.Common.{◌≡◌, Bool, true, false, ◌||◌, List, [], ◌∷◌, ℤ, refl, sym, ◌∙◌, ap, subst}
use Rattle.std.specs.Ordering.{int_cmp, is_eq, eq_by_cmp}
use Rattle.std.specs.List.{AllByRecursion, IsDistinct}
use Rattle.std.specs.List.Sorted.{IsStrictlySortedBy}
use Rattle.std.proofs.lemmas.Bool.{false≢true, or_right, or_left, or_from}
use Rattle.std.proofs.lemmas.Map.Made.{AllPairs-from_IsDistinct, IsDistinct-from_AllPairs}
use Rattle.command_head.specs.Members.{has, put}
use Rattle.command_head.specs.Grammar.{IsSetOf}
use Rattle.command_head.proofs.SetShape.{IsAscending-from_sorted}
use Rattle.command_head.proofs.OrderSteps.{same_number, number_is_one, is_itself, has-put, sorted-put, same_set, sorted_from_ascending}

-- each of the mentions is put to the members before it, and is none of them
abbrev pub Gathers : List ℤ → List ℤ → List ℤ → Type 0
Gathers members [] all = members ≡ all
Gathers members (n ∷ ns) all = (has members n ≡ false) × Gathers (put members n) ns all

-- what the members that were gathered are
gathered_sorted : (members mentions all : List ℤ) → IsStrictlySortedBy int_cmp members → Gathers members mentions all → IsStrictlySortedBy int_cmp all
gathered_sorted members [] all sorted g = subst (IsStrictlySortedBy int_cmp) g sorted
gathered_sorted members (n ∷ ns) all sorted g = gathered_sorted (put members n) ns all (sorted-put members n sorted) g.1

gathered_has : (members mentions all : List ℤ) → Gathers members mentions all → (k : ℤ) → has all k ≡ (has members k || has mentions k)
gathered_has members [] all g k = ap (λ (l : List ℤ). has l k) (sym g) ∙ sym (or_false (has members k))
  where
    or_false : (a : Bool) → (a || false) ≡ a
    or_false true = refl
    or_false false = refl
gathered_has members (n ∷ ns) all g k = gathered_has (put members n) ns all g.1 k ∙ ap (λ (t : Bool). t || has ns k) (has-put members n k) ∙ regrouped (is_eq (int_cmp k n)) (has members k) (has ns k)
  where
    regrouped : (a b c : Bool) → ((a || b) || c) ≡ (b || (a || c))
    regrouped true true c = refl
    regrouped true false c = refl
    regrouped false true c = refl
    regrouped false false c = refl

-- no mention is a member before
none_again : (members mentions all : List ℤ) → Gathers members mentions all → (k : ℤ) → has members k ≡ true → AllByRecursion (λ y. is_eq (int_cmp k y) ≡ false) mentions
none_again members [] all g k in_it = tt
none_again members (n ∷ ns) all g k in_it = (other (is_eq (int_cmp k n)) refl, none_again (put members n) ns all g.1 k (has-put members n k ∙ or_right _ (has members k) in_it))
  where
    other : (t : Bool) → is_eq (int_cmp k n) ≡ t → is_eq (int_cmp k n) ≡ false
    other false h = h
    other true h = absurd (false≢true (sym g.0 ∙ sym (ap (has members) (same_number k n h)) ∙ in_it))

gathered_once : (members mentions all : List ℤ) → Gathers members mentions all → IsDistinct (eq_by_cmp int_cmp) mentions
unfolding IsDistinct
gathered_once members [] all g = tt
gathered_once members (n ∷ ns) all g = (none_again (put members n) ns all g.1 n (has-put members n n ∙ or_left _ (has members n) (is_itself n)), gathered_once (put members n) ns all g.1)

-- numbers that differ from one another and from the members can be gathered
gather : (members mentions : List ℤ) → IsDistinct (eq_by_cmp int_cmp) mentions → AllByRecursion (λ y. has members y ≡ false) mentions → (all : List ℤ) × Gathers members mentions all
unfolding IsDistinct
gather members [] once new = (members, refl)
gather members (n ∷ ns) once new =
    let rest = gather (put members n) ns once.1 (still_new ns once.0 new.1) in
    (rest.0, (new.0, rest.1))
  where
    unlike : (y : ℤ) (t : Bool) → is_eq (int_cmp y n) ≡ t → is_eq (int_cmp n y) ≡ false → is_eq (int_cmp y n) ≡ false
    unlike y false h apart = h
    unlike y true h apart = absurd (false≢true (sym apart ∙ subst (λ (z : ℤ). is_eq (int_cmp n z) ≡ true) (sym (same_number y n h)) (is_itself n)))

    still_new : (ys : List ℤ) → AllByRecursion (λ y. is_eq (int_cmp n y) ≡ false) ys → AllByRecursion (λ y. has members y ≡ false) ys → AllByRecursion (λ y. has (put members n) y ≡ false) ys
    still_new [] apart before = tt
    still_new (y ∷ ys) apart before = (has-put members n y ∙ or_from _ (has members y) (unlike y (is_eq (int_cmp y n)) refl apart.0) before.0, still_new ys apart.1 before.1)

none_there : (mentions : List ℤ) → AllByRecursion (λ y. has [] y ≡ false) mentions
none_there [] = tt
none_there (n ∷ ns) = (refl, none_there ns)

pub sorted_none : IsStrictlySortedBy int_cmp []
unfolding IsStrictlySortedBy
sorted_none = tt

-- what is gathered is the set of the mentions, and no other list is
pub gathered_set : (mentions set : List ℤ) → Gathers [] mentions set → IsSetOf mentions set
gathered_set mentions set g = record {
  ascending = IsAscending-from_sorted set (gathered_sorted [] mentions set sorted_none g);
  members = gathered_has [] mentions set g;
  once = AllPairs-from_IsDistinct number_is_one mentions (gathered_once [] mentions set g);
}

pub set_gathered : (mentions set : List ℤ) → IsSetOf mentions set → Gathers [] mentions set
set_gathered mentions set s =
    let found = gather [] mentions (IsDistinct-from_AllPairs number_is_one mentions s.once) (none_there mentions) in
    let same : found.0 ≡ set = same_set found.0 set (gathered_sorted [] mentions found.0 sorted_none found.1) (sorted_from_ascending set s.ascending)
    (λ k. gathered_has [] mentions found.0 found.1 k ∙ sym (s.members k)) in
    subst (Gathers [] mentions) same found.1

-- Names in byte order, with more of them.
use Rattle.std.proofs.Common.{◌≡◌, ℕ, ◌<◌, suc, zero, ◌⊎◌, inl, inr, List, [], ◌∷◌, length, get_or, refl, ap, ◌∙◌, subst, arith}
use Rattle.std.specs.List.{All, AllPairs, Contains}
use Rattle.std.specs.Ordering.{nat_cmp, ordering_reverse}
use Rattle.std.specs.Cmp.Lexicographic.{slice_cmp}
use Rattle.std.specs.declared.cmp.Ordering.{Ordering}
use Rattle.std.specs.declared.cmp.Ordering.TheVariants.{Less, Equal, Greater}
use Rattle.std.proofs.lemmas.Cmp.{nat_list_cmp_total}
use Rattle.std.proofs.lemmas.Map.Lookups.{exact_bytes}
use Rattle.std.proofs.lemmas.List.Elements.{All-nil, All-cons, All-head, All-tail, All-contains_itself}
use Rattle.std.proofs.lemmas.List.Kept.{AllPairs-cons}
use Rattle.digit_tuple.specs.Names.{IsBytesBefore, placed, with_name, with_names, joint_names, AreJoint}

contains_head : (x : List ℕ) (xs : List (List ℕ)) → Contains (x ∷ xs) x
contains_head x xs = (0, omega arith, refl)

contains_tail : (y : List ℕ) (xs : List (List ℕ)) (x : List ℕ) → Contains xs x → Contains (y ∷ xs) x
contains_tail y xs x found = (suc found.0, omega (arith, found.1), found.2)

contains_at : (y : List ℕ) (xs : List (List ℕ)) (x : List ℕ) (k : ℕ) → k < length (y ∷ xs) → get_or (y ∷ xs) k x ≡ x → (y ≡ x) ⊎ Contains xs x
contains_at y xs x zero within is = inl is
contains_at y xs x (suc k) within is = inr (k, omega (arith, within), is)

contains_cases : (y : List ℕ) (xs : List (List ℕ)) (x : List ℕ) → Contains (y ∷ xs) x → (y ≡ x) ⊎ Contains xs x
contains_cases y xs x found = contains_at y xs x found.0 found.1 found.2

-- the name is there
contains_new : (names : List (List ℕ)) (name : List ℕ) → Contains (with_name names name) name
contains_new [] name = contains_head name []
contains_new (n ∷ names) name = by (slice_cmp nat_cmp n name) refl (contains_new names name)
  where
    by : (o : Ordering) → slice_cmp nat_cmp n name ≡ o → Contains (with_name names name) name → Contains (placed o n names name (with_name names name)) name
    by Less is rest = contains_tail n (with_name names name) name rest
    by Equal is rest = (0, omega arith, exact_bytes n name is)
    by Greater is rest = contains_head name (n ∷ names)

-- so are the others
contains_old : (names : List (List ℕ)) (name x : List ℕ) → Contains names x → Contains (with_name names name) x
contains_old [] name x found = absurd (omega (arith, found.1))
contains_old (n ∷ names) name x found = by (slice_cmp nat_cmp n name) (contains_cases n names x found) (λ there. contains_old names name x there)
  where
    by : (o : Ordering) → (n ≡ x) ⊎ Contains names x → (Contains names x → Contains (with_name names name) x) → Contains (placed o n names name (with_name names name)) x
    by Less (inl is) rest = (0, omega arith, is)
    by Less (inr there) rest = contains_tail n (with_name names name) x (rest there)
    by Equal (inl is) rest = (0, omega arith, is)
    by Equal (inr there) rest = contains_tail n names x there
    by Greater (inl is) rest = contains_tail name (n ∷ names) x (0, omega arith, is)
    by Greater (inr there) rest = contains_tail name (n ∷ names) x (contains_tail n names x there)

-- and no more
contains_only : (names : List (List ℕ)) (name x : List ℕ) → Contains (with_name names name) x → Contains names x ⊎ (name ≡ x)
contains_only [] name x found = by (contains_cases name [] x found)
  where
    by : (name ≡ x) ⊎ Contains [] x → Contains [] x ⊎ (name ≡ x)
    by (inl is) = inr is
    by (inr there) = inl there
contains_only (n ∷ names) name x found = by (slice_cmp nat_cmp n name) found (λ there. contains_only names name x there)
  where
    more : Contains names x ⊎ (name ≡ x) → Contains (n ∷ names) x ⊎ (name ≡ x)
    more (inl there) = inl (contains_tail n names x there)
    more (inr is) = inr is

    after : (Contains (with_name names name) x → Contains names x ⊎ (name ≡ x)) → (n ≡ x) ⊎ Contains (with_name names name) x → Contains (n ∷ names) x ⊎ (name ≡ x)
    after rest (inl is) = inl (0, omega arith, is)
    after rest (inr there) = more (rest there)

    before : (name ≡ x) ⊎ Contains (n ∷ names) x → Contains (n ∷ names) x ⊎ (name ≡ x)
    before (inl is) = inr is
    before (inr there) = inl there

    by : (o : Ordering) → Contains (placed o n names name (with_name names name)) x → (Contains (with_name names name) x → Contains names x ⊎ (name ≡ x)) → Contains (n ∷ names) x ⊎ (name ≡ x)
    by Less there rest = after rest (contains_cases n (with_name names name) x there)
    by Equal there rest = inl there
    by Greater there rest = before (contains_cases name (n ∷ names) x there)

-- what is before the names and the new one is before all
above : (m : List ℕ) (names : List (List ℕ)) (name : List ℕ) → All (IsBytesBefore m) names → IsBytesBefore m name → All (IsBytesBefore m) (with_name names name)
above m [] name all new = All-cons (IsBytesBefore m) name [] new all
above m (n ∷ names) name all new = by (slice_cmp nat_cmp n name) (above m names name (All-tail (IsBytesBefore m) n names all) new)
  where
    by : (o : Ordering) → All (IsBytesBefore m) (with_name names name) → All (IsBytesBefore m) (placed o n names name (with_name names name))
    by Less rest = All-cons (IsBytesBefore m) n (with_name names name) (All-head (IsBytesBefore m) n names all) rest
    by Equal rest = all
    by Greater rest = All-cons (IsBytesBefore m) name (n ∷ names) new all

-- the names stay in order
ordered_more : (names : List (List ℕ)) (name : List ℕ) → AllPairs IsBytesBefore names → AllPairs IsBytesBefore (with_name names name)
ordered_more [] name up = AllPairs-cons IsBytesBefore name [] (All-nil (IsBytesBefore name)) up
ordered_more (n ∷ names) name up = by (slice_cmp nat_cmp n name) refl (ordered_more names name tail)
  where
    heads : All (IsBytesBefore n) names
    heads i d within = up 0 (suc i) d (omega arith) (omega (arith, within))

    tail : AllPairs IsBytesBefore names
    tail i j d before within = up (suc i) (suc j) d (omega (arith, before)) (omega (arith, within))

    by : (o : Ordering) → slice_cmp nat_cmp n name ≡ o → AllPairs IsBytesBefore (with_name names name) → AllPairs IsBytesBefore (placed o n names name (with_name names name))
    by Less is rest = AllPairs-cons IsBytesBefore n (with_name names name) (above n names name heads is) rest
    by Equal is rest = up
    by Greater is rest =
        let first : IsBytesBefore name n = nat_list_cmp_total.antisymm name n ∙ ap ordering_reverse is in
        AllPairs-cons IsBytesBefore name (n ∷ names) (All-cons (IsBytesBefore name) n names first (λ i d within. nat_list_cmp_total.trans name n (get_or names i d) first (heads i d within))) up

-- all that is known of names with more
pub record AreMore (names more all : List (List ℕ)) : Type 0 where
  pub ordered : AllPairs IsBytesBefore all
  pub old : (x : List ℕ) → Contains names x → Contains all x
  pub new : (x : List ℕ) → Contains more x → Contains all x
  pub only : (x : List ℕ) → Contains all x → Contains names x ⊎ Contains more x

pub AreMore-with_names : (names more : List (List ℕ)) → AllPairs IsBytesBefore names → AreMore names more (with_names names more)
AreMore-with_names names [] up = record { ordered = up; old = λ x found. found; new = λ x found. absurd (omega (arith, found.1)); only = λ x found. inl found }
AreMore-with_names names (n ∷ more) up =
    let rest = AreMore-with_names (with_name names n) more (ordered_more names n up) in
    record {
      ordered = rest.ordered;
      old = λ x found. rest.old x (contains_old names n x found);
      new = λ x found. elim (contains_cases n more x found) [
        | inl is ↦ rest.old x (subst (λ y. Contains (with_name names n) y) is (contains_new names n))
        | inr there ↦ rest.new x there
      ];
      only = λ x found. elim (rest.only x found) [
        | inl there ↦ elim (contains_only names n x there) [
          | inl old ↦ inl old
          | inr is ↦ inr (0, omega arith, is)
        ]
        | inr there ↦ inr (contains_tail n more x there)
      ];
    }

-- the joint names are those of both, in order
pub AreJoint-joint_names : (first second : List (List ℕ)) → AreJoint first second (joint_names first second)
AreJoint-joint_names first second =
    let one = AreMore-with_names [] first (λ i j d before within. absurd (omega (arith, within))) in
    let two = AreMore-with_names (with_names [] first) second one.ordered in
    record {
      ordered = two.ordered;
      all_first = λ i d within. two.old (get_or first i d) (one.new (get_or first i d) (All-contains_itself first i d within));
      all_second = λ i d within. two.new (get_or second i d) (All-contains_itself second i d within);
      no_others = λ i d within. elim (two.only (get_or (joint_names first second) i d) (All-contains_itself (joint_names first second) i d within)) [
        | inl there ↦ elim (one.only (get_or (joint_names first second) i d) there) [
          | inl none ↦ absurd (omega (arith, none.1))
          | inr found ↦ inl found
        ]
        | inr found ↦ inr found
      ];
    }

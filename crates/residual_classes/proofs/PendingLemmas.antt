-- Classes that are pending, with flags.
use Rattle.std.proofs.Common.{◌≡◌, ◌≢◌, ℕ, ◌<◌, ◌≤◌, ◌⊎◌, inl, inr, Bool, true, false, List, [], ◌∷◌, ◌++◌, set, length, get_or, refl, sym, ap, ◌∙◌, subst, true≢false, arith, get_or-set_same, get_or-set_other}
use Rattle.std.specs.List.{AllPairs, Contains}
use Rattle.std.proofs.lemmas.Bool.{cases_eq, cases_lt}
use Rattle.std.proofs.lemmas.List.{get_or_append_left, get_or_past, get_or_push, length_push}
use Rattle.std.proofs.lemmas.List.Elements.{Contains-append_left, Contains-push, Contains-push_cases}
use Rattle.digit_tuple.proofs.MemberLemmas.{AllPairs-append, Contains-cases, Contains-none}
use Rattle.residual_classes.specs.Pending.{AreMarked}

-- with equal flags
pub AreMarked-same : (classes : List ℕ) (flags new : List Bool) → AreMarked classes flags → ((class : ℕ) → get_or new class false ≡ get_or flags class false) → AreMarked classes new
AreMarked-same classes flags new are same = record {
  apart = are.apart;
  marked = λ class. ((λ is. (are.marked class).0 (sym (same class) ∙ is)), (λ there. same class ∙ (are.marked class).1 there));
}

-- one more
pub AreMarked-push : (classes : List ℕ) (flags : List Bool) (class : ℕ) → AreMarked classes flags → (Contains classes class → ⊥) → class < length flags → AreMarked (classes ++ class ∷ []) (set flags class true)
AreMarked-push classes flags class are new room = record {
  apart = AllPairs-append (λ c k. c ≢ k) classes (class ∷ []) are.apart (λ i j z before within. absurd (omega arith)) (λ x y there one same. new (subst (Contains classes) (same ∙ sym (only y one)) there));
  marked = λ k. (to k (cases_eq k class), from k (cases_eq k class));
}
  where
    only : (y : ℕ) → Contains (class ∷ []) y → class ≡ y
    only y one = by (Contains-cases class [] y one)
      where
        by : (class ≡ y) ⊎ Contains [] y → class ≡ y
        by (inl is) = is
        by (inr there) = absurd (Contains-none y there)

    to : (k : ℕ) → (k ≡ class) ⊎ (k ≡ class → ⊥) → get_or (set flags class true) k false ≡ true → Contains (classes ++ class ∷ []) k
    to k (inl is) flag = subst (Contains (classes ++ class ∷ [])) (sym is) (Contains-push classes class)
    to k (inr other) flag = Contains-append_left classes (class ∷ []) k ((are.marked k).0 (sym (get_or-set_other flags class k true false other) ∙ flag))

    from : (k : ℕ) → (k ≡ class) ⊎ (k ≡ class → ⊥) → Contains (classes ++ class ∷ []) k → get_or (set flags class true) k false ≡ true
    from k (inl is) there = ap (λ (n : ℕ). get_or (set flags class true) n false) is ∙ get_or-set_same flags class true false room
    from k (inr other) there = get_or-set_other flags class k true false other ∙ (are.marked k).1 (by (Contains-push_cases classes class k there))
      where
        by : Contains classes k ⊎ (class ≡ k) → Contains classes k
        by (inl before) = before
        by (inr is) = absurd (other (sym is))

-- the last is taken
module _ (classes rest : List ℕ) (flags : List Bool) (class : ℕ) (are : AreMarked classes flags) (last : classes ≡ rest ++ class ∷ []) where
  pub marked_room : class < length flags
  marked_room = by (cases_lt class (length flags))
    where
      by : (class < length flags) ⊎ (length flags ≤ class) → class < length flags
      by (inl less) = less
      by (inr past) = absurd (true≢false (sym ((are.marked class).1 (subst (λ (xs : List ℕ). Contains xs class) (sym last) (Contains-push rest class))) ∙ get_or_past flags class false past))

  before : AllPairs (λ c k. c ≢ k) (rest ++ class ∷ [])
  before = subst (AllPairs (λ c k. c ≢ k)) last are.apart

  pub taken_once : Contains rest class → ⊥
  taken_once there = before there.0 (length rest) class there.1 (omega (arith, length_push rest class))
      (get_or_append_left rest (class ∷ []) class there.0 there.1 ∙ there.2 ∙ sym (get_or_push rest class class (length rest) refl))

  pub AreMarked-pop : AreMarked rest (set flags class false)
  AreMarked-pop = record {
    apart = λ i j z less within same. before i j z less (omega (arith, within, length_push rest class))
        (get_or_append_left rest (class ∷ []) z i (omega (arith, less, within)) ∙ same ∙ sym (get_or_append_left rest (class ∷ []) z j within));
    marked = λ k. (to k (cases_eq k class), from k (cases_eq k class));
  }
    where
      to : (k : ℕ) → (k ≡ class) ⊎ (k ≡ class → ⊥) → get_or (set flags class false) k false ≡ true → Contains rest k
      to k (inl is) flag = absurd (true≢false (sym flag ∙ ap (λ (n : ℕ). get_or (set flags class false) n false) is ∙ get_or-set_same flags class false false marked_room))
      to k (inr other) flag = by (Contains-push_cases rest class k (subst (λ (xs : List ℕ). Contains xs k) last ((are.marked k).0 (sym (get_or-set_other flags class k false false other) ∙ flag))))
        where
          by : Contains rest k ⊎ (class ≡ k) → Contains rest k
          by (inl there) = there
          by (inr is) = absurd (other (sym is))

      from : (k : ℕ) → (k ≡ class) ⊎ (k ≡ class → ⊥) → Contains rest k → get_or (set flags class false) k false ≡ true
      from k (inl is) there = absurd (taken_once (subst (Contains rest) is there))
      from k (inr other) there = get_or-set_other flags class k false false other ∙ (are.marked k).1 (subst (λ (xs : List ℕ). Contains xs k) (sym last) (Contains-append_left rest (class ∷ []) k there))

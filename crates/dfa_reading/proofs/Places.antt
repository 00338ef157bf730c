-- Places of members in a set.
use Rattle.std.proofs.Common.{◌≡◌, inl, inr, ℕ, ◌<◌, Bool, ◌⊎◌, true, false, cond, ltb, List, length, get_or, ℤ, pos, Option, None, Some, IsSome, IfSome, ◌↔◌, refl, sym, ap, ◌∙◌, subst, arith, true≢false}
use Rattle.std.specs.List.{Contains, position_or_len}
use Rattle.std.specs.Ordering.{int_eq}
use Rattle.std.proofs.lemmas.Bool.Decides.{nat_tests, Decides-int_eq}
use Rattle.std.proofs.lemmas.List.Elements.{Contains-get_or}
use Rattle.std.proofs.lemmas.List.Sums.{position_or_len_is}
use Rattle.digit_tuple.specs.Sets.{IsAscending}
use Rattle.digit_tuple.proofs.SetLemmas.{one_place}
use Rattle.dfa_reading.specs.Entries.{place_in}

bool_cases : (b : Bool) → (b ≡ true) ⊎ (b ≡ false)
bool_cases true = inl refl
bool_cases false = inr refl

place_none : (set : List ℤ) (z : ℤ) → ¬ Contains set z → place_in set z ≡ None
place_none set z none =
    let is : position_or_len (λ m. int_eq m z) set ≡ length set = position_or_len_is (λ m. int_eq m z) set (length set) (pos 0) (omega arith) (λ k lt. other k lt) (λ lt. absurd (omega arith)) in
    let past : ltb (position_or_len (λ m. int_eq m z) set) (length set) ≡ false = grind (arith, nat_tests) in
    ap (λ b. cond b (Some (position_or_len (λ m. int_eq m z) set)) None) past
  where
    other : (k : ℕ) → k < length set → int_eq (get_or set k (pos 0)) z ≡ false
    other k lt = elim (bool_cases (int_eq (get_or set k (pos 0)) z)) [
      | inl same ↦ absurd (none (subst (Contains set) ((Decides-int_eq (get_or set k (pos 0)) z).0 same) (Contains-get_or set k (pos 0) lt)))
      | inr apart ↦ apart
    ]

pub place_some : (set : List ℤ) (z : ℤ) (i : ℕ) → IsAscending set → i < length set → get_or set i (pos 0) ≡ z → place_in set z ≡ Some i
place_some set z i ascending lt at =
    let is : position_or_len (λ m. int_eq m z) set ≡ i = position_or_len_is (λ m. int_eq m z) set i (pos 0) (omega arith) (λ k less. other k less) (λ low. (Decides-int_eq (get_or set i (pos 0)) z).1 at) in
    let inside : ltb (position_or_len (λ m. int_eq m z) set) (length set) ≡ true = grind (arith, nat_tests) in
    ap (λ b. cond b (Some (position_or_len (λ m. int_eq m z) set)) None) inside ∙ ap Some is
  where
    other : (k : ℕ) → k < i → int_eq (get_or set k (pos 0)) z ≡ false
    other k less = elim (bool_cases (int_eq (get_or set k (pos 0)) z)) [
      | inl same ↦ let one : k ≡ i = one_place set k i ascending (omega arith) lt ((Decides-int_eq (get_or set k (pos 0)) z).0 same ∙ sym at) in absurd (omega arith)
      | inr apart ↦ apart
    ]

-- what a search in a set finds is the place of the member
pub place_is : (set : List ℤ) (z : ℤ) (found : Option ℕ) → IsAscending set → IsSome found ↔ Contains set z → IfSome found (λ place. (place < length set) × (get_or set place (pos 0) ≡ z)) → found ≡ place_in set z
place_is set z None ascending there at = sym (place_none set z (λ h. let no : false ≡ true = there.1 h in absurd (true≢false (sym no))))
place_is set z (Some i) ascending there at = sym (place_some set z i ascending at.0 at.1)

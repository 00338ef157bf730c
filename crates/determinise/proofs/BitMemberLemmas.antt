-- Numbers read from bits.
use Rattle.std.proofs.Common.{◌≡◌, ℕ, ◌+◌, ◌-◌, ◌*◌, ◌/◌, ◌%◌, ◌^◌, ◌<◌, ◌≤◌, List, [], ◌∷◌, ◌++◌, length, get_or, ◌↔◌, ◌⊎◌, inl, inr, sym, ap, ◌∙◌, subst, arith}
use Rattle.std.specs.Int.{bit_at}
use Rattle.std.specs.List.{All, AllPairs, Contains, range_with_len}
use Rattle.std.specs.Prelude.{◌==◌}
use Rattle.std.proofs.lemmas.Bool.{cases_eq, cases_lt, cases_order}
use Rattle.std.proofs.lemmas.List.Elements.{All-push, All-weaker, All-contains_itself, Contains-append_left, Contains-push, Contains-push_cases}
use Rattle.std.proofs.lemmas.List.Kept.{AllPairs-filter}
use Rattle.std.proofs.lemmas.List.Quantifiers.{all_pairs_push}
use Rattle.std.proofs.lemmas.Nat.{div-mul-add, mod-mul-add}
use Rattle.std.proofs.lemmas.Nat.Bits.{bit_at-zero}
use Rattle.digit_tuple.proofs.MemberLemmas.{Contains-none, same_ascending}
use Rattle.determinise.specs.Bits.{HasBit, HasMember, AddsMembers, members_in}
use Rattle.determinise.specs.SubsetLaws.{AllPairs-range}
use Rattle.determinise.proofs.BitRowLemmas.{without_bit, without_bit-part, without_bit-none, without_bit-other, without_bit-same, below_32, member_at, member_below}
use Rattle.determinise.proofs.BitSetLemmas.{members_of-iff}

-- the new list has beside the old numbers those for the word's bits but for what is left of it, and those come later
pub record IsAdding (old : List ℕ) (first word rest : ℕ) (new : List ℕ) : Type 0 where
  pub part : (k : ℕ) → bit_at rest k ≡ 1 → bit_at word k ≡ 1
  pub members : (q : ℕ) → Contains new q ↔ (Contains old q ⊎ ((k : ℕ) × (bit_at word k ≡ 1) × (bit_at rest k ≡ 0) × (first + k ≡ q)))
  pub above : (k : ℕ) → bit_at rest k ≡ 1 → All (λ q. q < first + k) new
  pub ascending : AllPairs (λ p q. p < q) new

pub IsAdding-none : (old : List ℕ) (first word : ℕ) → All (λ q. q < first) old → AllPairs (λ p q. p < q) old → IsAdding old first word word old
IsAdding-none old first word below ascending = record {
  part = λ k is. is;
  members = λ q. ((λ there. inl there), back q);
  above = λ k is. All-weaker (λ q. q < first) (λ q. q < first + k) (λ q low. omega (arith, low)) old below;
  ascending = ascending;
}
  where
    back : (q : ℕ) → Contains old q ⊎ ((k : ℕ) × (bit_at word k ≡ 1) × (bit_at word k ≡ 0) × (first + k ≡ q)) → Contains old q
    back q (inl there) = there
    back q (inr there) = absurd (omega (arith, there.1, there.2))

-- the lowest bit of what is left
pub IsAdding-more : (old : List ℕ) (first word rest low : ℕ) (new : List ℕ) → rest < 2 ^ 32 → low < 32 → bit_at rest low ≡ 1 → ((i : ℕ) → i < low → bit_at rest i ≡ 0) → IsAdding old first word rest new
    → IsAdding old first word (without_bit rest low) (new ++ (first + low) ∷ [])
IsAdding-more old first word rest low new small within is none adding = record {
  part = λ k one. adding.part k (without_bit-part rest low k one);
  members = λ q. ((λ there. forth q (Contains-push_cases new (first + low) q there)), back q);
  above = λ k one. All-push (λ q. q < first + k) new (first + low) (adding.above k (without_bit-part rest low k one)) (omega (arith, later k one (cases_order low k)));
  ascending = all_pairs_push (λ p q. p < q) new (first + low) adding.ascending (λ k d inside. adding.above low is k d inside);
}
  where
    later : (k : ℕ) → bit_at (without_bit rest low) k ≡ 1 → (low ≡ k) ⊎ ((low < k) ⊎ (k < low)) → low < k
    later k one (inl same) = absurd (omega (arith, one, ap (λ i. bit_at (without_bit rest low) i) (sym same) ∙ without_bit-same rest low within))
    later k one (inr (inl less)) = less
    later k one (inr (inr more)) = absurd (omega (arith, none k more, without_bit-part rest low k one))

    forth : (q : ℕ) → Contains new q ⊎ (first + low ≡ q) → Contains old q ⊎ ((k : ℕ) × (bit_at word k ≡ 1) × (bit_at (without_bit rest low) k ≡ 0) × (first + k ≡ q))
    forth q (inr same) = inr (low, adding.part low is, without_bit-same rest low within, same)
    forth q (inl there) = by ((adding.members q).0 there)
      where
        by : Contains old q ⊎ ((k : ℕ) × (bit_at word k ≡ 1) × (bit_at rest k ≡ 0) × (first + k ≡ q)) → Contains old q ⊎ ((k : ℕ) × (bit_at word k ≡ 1) × (bit_at (without_bit rest low) k ≡ 0) × (first + k ≡ q))
        by (inl was) = inl was
        by (inr one) = inr (one.0, one.1, without_bit-none rest low one.0 one.2, one.3)

    back : (q : ℕ) → Contains old q ⊎ ((k : ℕ) × (bit_at word k ≡ 1) × (bit_at (without_bit rest low) k ≡ 0) × (first + k ≡ q)) → Contains (new ++ (first + low) ∷ []) q
    back q (inl was) = Contains-append_left new ((first + low) ∷ []) q ((adding.members q).1 (inl was))
    back q (inr one) = by (cases_eq one.0 low)
      where
        by : (one.0 ≡ low) ⊎ (one.0 ≡ low → ⊥) → Contains (new ++ (first + low) ∷ []) q
        by (inl same) = subst (Contains (new ++ (first + low) ∷ [])) (ap (λ k. first + k) (sym same) ∙ one.3) (Contains-push new (first + low))
        by (inr other) = Contains-append_left new ((first + low) ∷ []) q ((adding.members q).1 (inr (one.0, one.1, without_bit-other rest low one.0 small within other one.2, one.3)))

pub AddsMembers-all : (old : List ℕ) (first word rest : ℕ) (new : List ℕ) → rest ≡ 0 → IsAdding old first word rest new → AddsMembers old first word new
AddsMembers-all old first word rest new none adding = record { members = λ q. ((λ there. forth q ((adding.members q).0 there)), back q); ascending = adding.ascending }
  where
    forth : (q : ℕ) → Contains old q ⊎ ((k : ℕ) × (bit_at word k ≡ 1) × (bit_at rest k ≡ 0) × (first + k ≡ q)) → Contains old q ⊎ ((k : ℕ) × (bit_at word k ≡ 1) × (first + k ≡ q))
    forth q (inl was) = inl was
    forth q (inr one) = inr (one.0, one.1, one.3)

    back : (q : ℕ) → Contains old q ⊎ ((k : ℕ) × (bit_at word k ≡ 1) × (first + k ≡ q)) → Contains new q
    back q (inl was) = (adding.members q).1 (inl was)
    back q (inr one) = (adding.members q).1 (inr (one.0, one.1, ap (λ n. bit_at n one.0) none ∙ bit_at-zero one.0, one.2))

-- the members that are in the first words, in order
pub record AreMembersBelow (words : List ℕ) (place : ℕ) (list : List ℕ) : Type 0 where
  pub members : (q : ℕ) → Contains list q ↔ ((q < place * 32) × HasMember words q)
  pub ascending : AllPairs (λ p q. p < q) list

pub AreMembersBelow-none : (words : List ℕ) → AreMembersBelow words 0 []
AreMembersBelow-none words = record { members = λ q. ((λ there. absurd (Contains-none q there)), (λ both. absurd (omega (arith, both.0)))); ascending = λ i j d before within. absurd (omega arith) }

pub all_below : (words : List ℕ) (place : ℕ) (list : List ℕ) → AreMembersBelow words place list → All (λ q. q < place * 32) list
all_below words place list are k d within = ((are.members (get_or list k d)).0 (All-contains_itself list k d within)).0

-- those of one word more
pub AreMembersBelow-more : (words : List ℕ) (place : ℕ) (old new : List ℕ) → get_or words place 0 < 2 ^ 32 → AreMembersBelow words place old → AddsMembers old (place * 32) (get_or words place 0) new → AreMembersBelow words (place + 1) new
AreMembersBelow-more words place old new small are adds = record { members = λ q. ((λ there. forth q ((adds.members q).0 there)), (λ both. (adds.members q).1 (back q both (cases_lt q (place * 32))))); ascending = adds.ascending }
  where
    forth : (q : ℕ) → Contains old q ⊎ ((k : ℕ) × (bit_at (get_or words place 0) k ≡ 1) × (place * 32 + k ≡ q)) → (q < (place + 1) * 32) × HasMember words q
    forth q (inl was) = let both = (are.members q).0 was in (omega (arith, both.0), both.1)
    forth q (inr one) =
        let low = below_32 (get_or words place 0) one.0 small one.1 in
        (omega (arith, low, one.2), subst (HasMember words) one.2 (member_at words place one.0 small one.1))

    back : (q : ℕ) → (q < (place + 1) * 32) × HasMember words q → (q < place * 32) ⊎ (place * 32 ≤ q) → Contains old q ⊎ ((k : ℕ) × (bit_at (get_or words place 0) k ≡ 1) × (place * 32 + k ≡ q))
    back q both (inl early) = inl ((are.members q).1 (early, both.1))
    back q both (inr late) =
        let k : ℕ = q - place * 32 in
        let low : k < 32 = omega (arith, both.0, late) in
        let is : q ≡ place * 32 + k = omega (arith, late) in
        let row : q / 32 ≡ place = ap (λ x. x / 32) is ∙ div-mul-add place 32 k low in
        let column : q % 32 ≡ k = ap (λ x. x % 32) is ∙ mod-mul-add place 32 k low in
        inr (k, subst (λ b. HasBit words place b) column (subst (λ p. HasBit words p (q % 32)) row both.1), sym is)

-- all of them
pub members_in_all : (words : List ℕ) (place : ℕ) (list : List ℕ) → length words ≤ place → AreMembersBelow words place list → list ≡ members_in words
members_in_all words place list whole are =
    same_ascending list (members_in words) are.ascending
    (AllPairs-filter (λ p q. p < q) (λ q. bit_at (get_or words (q / 32) 0) (q % 32) == 1) (range_with_len 0 (32 * length words)) (AllPairs-range (32 * length words)))
    (λ q there. let both = (are.members q).0 there in (members_of-iff (32 * length words) words q).1 (omega (arith, member_below words (length words) q (omega arith) both.1), both.1))
    (λ q there. let both = (members_of-iff (32 * length words) words q).0 there in (are.members q).1 (member_below words place q whole both.1, both.1))

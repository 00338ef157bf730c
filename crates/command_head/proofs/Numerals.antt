-- Each number from 0 on has a part that denotes it, and one of the first is not among few members.
use Rattle.std.proofs.Common.{◌≡◌, ◌≢◌, ℕ, zero, suc, ◌+◌, ◌*◌, ◌-◌, ◌/◌, ◌%◌, ◌<◌, ◌≤◌, Bool, true, false, not, ◌==◌, ◌&&◌, List, [], ◌∷◌, ◌++◌, ℤ, pos, negsuc, neg_ℤ, ◌<ℤ◌, length, refl, sym, ◌∙◌, ap, subst, arith, tests}
use Rattle.std.specs.declared.cmp.Ordering.{Ordering}
use Rattle.std.specs.declared.cmp.Ordering.TheVariants.{Less, Equal, Greater}
use Rattle.std.specs.Ordering.{int_cmp, is_eq}
use Rattle.std.specs.List.{AllByRecursion}
use Rattle.std.specs.List.Sorted.{IsStrictlySortedBy}
use Rattle.std.proofs.lemmas.Bool.{ne_eqb, or_from}
use Rattle.std.proofs.lemmas.Bool.Decides.{Decides-ltb}
use Rattle.std.proofs.lemmas.Cmp.{int_ranked}
use Rattle.std.proofs.lemmas.Int.{ints}
use Rattle.text_grammar.specs.Bytes.{is_digit}
use Rattle.text_grammar.specs.declared.class.Class.TheVariants.{Digit}
use Rattle.text_grammar.specs.Prefixes.{all_in, prefix_len}
use Rattle.text_grammar.specs.Numbers.{begins_with, signed, unsigned, value_after, value_of}
use Rattle.command_head.specs.Members.{has}
use Rattle.command_head.specs.Grammar.{DerivesNumber}
use Rattle.command_head.proofs.OrderSteps.{same_number, below_all, all_above}

value-append : (so_far : ℕ) (digits : List ℕ) (digit : ℕ) → value_after so_far (digits ++ digit ∷ []) ≡ 10 * value_after so_far digits + (digit - 48)
value-append so_far [] digit = refl
value-append so_far (d ∷ ds) digit = value-append (10 * so_far + (d - 48)) ds digit

-- digits that denote a number
record IsNumeral (n : ℕ) : Type 0 where
  digits : List ℕ
  all : AllByRecursion (λ b. is_digit b ≡ true) digits
  some : digits ≢ []
  value : value_of digits ≡ n

digit_is : (n : ℕ) → n < 10 → is_digit (48 + n) ≡ true
digit_is n h = grind (arith, tests)

all_more : (P : ℕ → Type 0) (xs : List ℕ) (x : ℕ) → AllByRecursion P xs → P x → AllByRecursion P (xs ++ x ∷ [])
all_more P [] x all h = (h, tt)
all_more P (y ∷ ys) x all h = (all.0, all_more P ys x all.1 h)

some_more : (xs : List ℕ) (x : ℕ) → xs ++ x ∷ [] ≢ []
some_more [] x e = cc
some_more (y ∷ ys) x e = cc

-- a digit more
numeral_more : (q r n : ℕ) → r < 10 → 10 * q + r ≡ n → IsNumeral q → IsNumeral n
numeral_more q r n small is numeral = record {
  digits = numeral.digits ++ (48 + r) ∷ [];
  all = all_more (λ b. is_digit b ≡ true) numeral.digits (48 + r) numeral.all (digit_is r small);
  some = some_more numeral.digits (48 + r);
  value = value-append 0 numeral.digits (48 + r) ∙ (let value = numeral.value in omega arith);
}

numeral_within : (bound n : ℕ) → n ≤ bound → IsNumeral n
numeral_within zero n h = record { digits = 48 ∷ []; all = (refl, tt); some = some_more [] 48; value = omega arith }
numeral_within (suc bound) n h = numeral_more (n / 10) (n % 10) n (omega arith) (omega arith) (numeral_within bound (n / 10) (omega arith))

all_digits : (digits : List ℕ) → AllByRecursion (λ b. is_digit b ≡ true) digits → prefix_len Digit digits ≡ length digits
all_digits [] all = refl
all_digits (d ∷ ds) all = rw (all.0, all_digits ds all.1) refl

-- digits begin with no sign
no_sign : (digits : List ℕ) → AllByRecursion (λ b. is_digit b ≡ true) digits → begins_with 45 digits ≡ false
no_sign [] all = refl
no_sign (d ∷ ds) all = ne_eqb d 45 (λ e. absurd (sign_digit d all.0 e))
  where
    sign_digit : (d : ℕ) → is_digit d ≡ true → d ≡ 45 → ⊥
    sign_digit d h e = cc (subst (λ (x : ℕ). is_digit x ≡ true) e h)

length_some : (digits : List ℕ) → digits ≢ [] → (length digits == 0) ≡ false
length_some [] some = absurd (some refl)
length_some (d ∷ ds) some = ne_eqb (suc (length ds)) 0 (λ e. omega arith)

eqb_self : (n m : ℕ) → n ≡ m → (n == m) ≡ true
eqb_self n m e = grind (arith, tests)

-- a part that denotes a number
pub number_part : (n : ℕ) → n < 2147483648 → (part : List ℕ) × DerivesNumber part (pos n) × (begins_with 45 part ≡ false)
number_part n small =
    let numeral = numeral_within n n (omega arith) in
    let digits = numeral.digits in
    let plain : unsigned digits ≡ digits = unsigned_plain digits (begins_with 45 digits) refl (no_sign digits numeral.all) in (
      digits,
      record {
        number = number_is digits (unsigned digits) plain (length_some digits numeral.some) (all_digits digits numeral.all);
        value = value_is digits (begins_with 45 digits) (unsigned digits) (no_sign digits numeral.all) plain ∙ ap pos numeral.value;
        short = (Decides-ltb n 2147483648).1 small;
      },
      no_sign digits numeral.all,
    )
  where
    unsigned_plain : (bytes : List ℕ) (t : Bool) → begins_with 45 bytes ≡ t → t ≡ false → unsigned bytes ≡ bytes
    unsigned_plain bytes t e h = rw (e ∙ h) refl

    number_is : (digits suffix : List ℕ) → suffix ≡ digits → (length digits == 0) ≡ false → prefix_len Digit digits ≡ length digits → (not (length suffix == 0) && all_in Digit suffix) ≡ true
    number_is digits suffix e some all = rw (e, some) (eqb_self (prefix_len Digit digits) (length digits) all)

    value_is : (digits : List ℕ) (t : Bool) (suffix : List ℕ) → t ≡ false → suffix ≡ digits → signed t (value_of suffix) ≡ pos (value_of digits)
    value_is digits t suffix e h = rw (e, h) refl

-- and one with a sign
pub negative_part : (n : ℕ) → n < 2147483648 → (part : List ℕ) × DerivesNumber part (negsuc n) × (begins_with 45 part ≡ true)
negative_part n small =
    let numeral = numeral_within (suc n) (suc n) (omega arith) in
    let digits = numeral.digits in (
      45 ∷ digits,
      record {
        number = rw (length_some digits numeral.some) (eqb_self (prefix_len Digit digits) (length digits) (all_digits digits numeral.all));
        value = ap (λ (k : ℕ). neg_ℤ (pos k)) numeral.value;
        short = (Decides-ltb n 2147483648).1 small;
      },
      refl,
    )

-- a number that is not among the members, from c on
pub record IsFresh (members : List ℤ) (c : ℕ) : Type 0 where
  pub k : ℕ
  pub from : c ≤ k
  pub few : k ≤ c + length members
  pub new : has members (pos k) ≡ false

unlike : (x y : ℤ) → (x ≡ y → ⊥) → is_eq (int_cmp x y) ≡ false
unlike x y apart = by_test (is_eq (int_cmp x y)) refl
  where
    by_test : (t : Bool) → is_eq (int_cmp x y) ≡ t → t ≡ false
    by_test false e = refl
    by_test true e = absurd (apart (same_number x y e))

pos_same : (m n : ℕ) → pos m ≡ pos n → m ≡ n
pos_same m n e = cc

later : (m : ℤ) (ms : List ℤ) (c d : ℕ) → c ≤ d → d ≤ c + 1 → ((k : ℕ) → d ≤ k → pos k ≡ m → ⊥) → IsFresh ms d → IsFresh (m ∷ ms) c
later m ms c d low high apart fresh = record {
  k = fresh.k;
  from = let from = fresh.from in omega arith;
  few = let few = fresh.few in omega arith;
  new = or_from (is_eq (int_cmp (pos fresh.k) m)) (has ms (pos fresh.k)) (unlike (pos fresh.k) m (apart fresh.k fresh.from)) fresh.new;
}

pub fresh : (members : List ℤ) (c : ℕ) → IsStrictlySortedBy int_cmp members → IsFresh members c
unfolding IsStrictlySortedBy
fresh [] c sorted = record { k = c; from = omega arith; few = omega arith; new = refl }
fresh (m ∷ ms) c sorted = by_order (fresh ms (c + 1) sorted.1) (fresh ms c sorted.1) (int_cmp (pos c) m) refl
  where
    above : (k : ℕ) → int_cmp (pos c) m ≡ Greater → c ≤ k → pos k ≡ m → ⊥
    above k e low same = let less : pos k <ℤ pos c = int_ranked (pos c) (pos k) Greater (sym (ap (λ (z : ℤ). int_cmp (pos c) z) same ∙ e)) in omega (arith, ints)

    by_order : IsFresh ms (c + 1) → IsFresh ms c → (o : Ordering) → int_cmp (pos c) m ≡ o → IsFresh (m ∷ ms) c
    by_order next same Less e = record { k = c; from = omega arith; few = omega arith; new = below_all (pos c) (m ∷ ms) (e, all_above (pos c) m ms e sorted.0) }
    by_order next same Equal e = later m ms c (c + 1) (omega arith) (omega arith) (λ k low is. absurd (let one : c ≡ k = pos_same c k (same_number (pos c) m (ap is_eq e) ∙ sym is) in omega arith)) next
    by_order next same Greater e = later m ms c c (omega arith) (omega arith) (λ k low is. above k e low is) same

-- a negative number that is not among the members, from that at c on upwards
pub record IsFreshBelow (members : List ℤ) (c : ℕ) : Type 0 where
  pub k : ℕ
  pub most : k ≤ c
  pub few : c ≤ k + length members
  pub new : has members (negsuc k) ≡ false

neg_same : (m n : ℕ) → negsuc m ≡ negsuc n → m ≡ n
neg_same m n e = cc

later_below : (m : ℤ) (ms : List ℤ) (c d : ℕ) → d ≤ c → c ≤ d + 1 → ((k : ℕ) → k ≤ d → negsuc k ≡ m → ⊥) → IsFreshBelow ms d → IsFreshBelow (m ∷ ms) c
later_below m ms c d low high apart fresh = record {
  k = fresh.k;
  most = let most = fresh.most in omega arith;
  few = let few = fresh.few in omega arith;
  new = or_from (is_eq (int_cmp (negsuc fresh.k) m)) (has ms (negsuc fresh.k)) (unlike (negsuc fresh.k) m (apart fresh.k fresh.most)) fresh.new;
}

pub fresh_below : (members : List ℤ) (c : ℕ) → length members ≤ c → IsStrictlySortedBy int_cmp members → IsFreshBelow members c
unfolding IsStrictlySortedBy
fresh_below [] c room sorted = record { k = c; most = omega arith; few = omega arith; new = refl }
fresh_below (m ∷ ms) zero room sorted = absurd (omega arith)
fresh_below (m ∷ ms) (suc c) room sorted = by_order (fresh_below ms c (omega arith) sorted.1) (fresh_below ms (suc c) (omega arith) sorted.1) (int_cmp (negsuc (suc c)) m) refl
  where
    above : (k : ℕ) → int_cmp (negsuc (suc c)) m ≡ Greater → k ≤ suc c → negsuc k ≡ m → ⊥
    above k e low same = let less : negsuc k <ℤ negsuc (suc c) = int_ranked (negsuc (suc c)) (negsuc k) Greater (sym (ap (λ (z : ℤ). int_cmp (negsuc (suc c)) z) same ∙ e)) in omega (arith, ints)

    by_order : IsFreshBelow ms c → IsFreshBelow ms (suc c) → (o : Ordering) → int_cmp (negsuc (suc c)) m ≡ o → IsFreshBelow (m ∷ ms) (suc c)
    by_order next same Less e = record { k = suc c; most = omega arith; few = omega arith; new = below_all (negsuc (suc c)) (m ∷ ms) (e, all_above (negsuc (suc c)) m ms e sorted.0) }
    by_order next same Equal e =
        later_below m ms (suc c) c (omega arith) (omega arith) (λ k low is. absurd (let one : suc c ≡ k = neg_same (suc c) k (same_number (negsuc (suc c)) m (ap is_eq e) ∙ sym is) in omega arith)) next
    by_order next same Greater e = later_below m ms (suc c) (suc c) (omega arith) (omega arith) (λ k low is. above k e low is) same

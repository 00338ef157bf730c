-- Lines below the set, as the reader reads them.
use Rattle.std.proofs.Common.{◌≡◌, ℕ, zero, suc, ◌<◌, Bool, ◌||◌, true, false, eqb, List, [], ◌∷◌, length, get_or, ℤ, Option, None, IsSome, ◌↔◌, refl, sym, ap, ◌∙◌, true≢false, arith}
use Rattle.std.specs.Prelude.{is_some}
use Rattle.std.specs.List.{slice_split, Contains}
use Rattle.std.specs.Ordering.{int_eq}
use Rattle.std.proofs.lemmas.Bool.Decides.{Decides-int_eq}
use Rattle.transducer_reading.specs.Transducers.{is_member}
use Rattle.transducer_reading.specs.Entries.{two_of}

-- texts between slashes
pub two_pieces : (text before rest after : List ℕ) (pieces : List (List ℕ)) → slice_split (λ b. eqb b 47) text ≡ before ∷ slice_split (λ b. eqb b 47) rest → slice_split (λ b. eqb b 47) rest ≡ after ∷ pieces → two_of (slice_split (λ b. eqb b 47) text) ≡ two_of (before ∷ after ∷ pieces)
two_pieces text before rest after pieces first second = ap two_of (first ∙ ap (λ t. before ∷ t) second)

pub not_two : (before after : List ℕ) (pieces : List (List ℕ)) → 0 < length pieces → two_of (before ∷ after ∷ pieces) ≡ None
not_two before after [] some = absurd (omega arith)
not_two before after (piece ∷ pieces) some = refl

-- what is found in a set is a member
any_from_Contains : (set : List ℤ) (letter : ℤ) (k : ℕ) → k < length set → (d : ℤ) → get_or set k d ≡ letter → is_member set letter ≡ true
any_from_Contains [] letter k lt d at = absurd (omega arith)
any_from_Contains (m ∷ set) letter zero lt d at = rw ((Decides-int_eq m letter).1 at) refl
any_from_Contains (m ∷ set) letter (suc k) lt d at = or_true (int_eq m letter) (any_from_Contains set letter k (omega arith) d at)
  where
    or_true : (b : Bool) {c : Bool} → c ≡ true → (b || c) ≡ true
    or_true true h = refl
    or_true false h = h

Contains_from_any : (set : List ℤ) (letter : ℤ) → is_member set letter ≡ true → Contains set letter
Contains_from_any [] letter h = absurd (true≢false (sym h))
Contains_from_any (m ∷ set) letter h = by (Contains_from_any set letter) (int_eq m letter) refl h
  where
    by : (is_member set letter ≡ true → Contains set letter) → (b : Bool) → int_eq m letter ≡ b → (b || is_member set letter) ≡ true → Contains (m ∷ set) letter
    by later true e p = (0, omega arith, (Decides-int_eq m letter).0 e)
    by later false e p = let rest = later p in (suc rest.0, (let lt = rest.1 in omega arith), rest.2)

pub member_is : (set : List ℤ) (letter : ℤ) (found : Option ℕ) → IsSome found ↔ Contains set letter → is_some found ≡ is_member set letter
member_is set letter found there = by (is_some found) (is_member set letter) refl refl
  where
    by : (b c : Bool) → is_some found ≡ b → is_member set letter ≡ c → b ≡ c
    by true true e f = refl
    by false false e f = refl
    by true false e f = let in_set = there.0 e in absurd (true≢false (sym (any_from_Contains set letter in_set.0 in_set.1 letter in_set.2) ∙ f))
    by false true e f = absurd (true≢false (sym (there.1 (Contains_from_any set letter f)) ∙ e))

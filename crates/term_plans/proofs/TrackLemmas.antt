-- Tracks, and numbers on them.
use Rattle.std.proofs.Common.{◌≡◌, ◌≢◌, ℕ, Bool, true, false, ◌||◌, ◌==◌, if◌then◌else◌, List, ◌∷◌, refl, ap, arith, tests}
use Rattle.std.proofs.lemmas.Slice.Eq.{bytes_eq-Decides}
use Rattle.std.proofs.lemmas.Bool.{false≢true, eqb-true, false_from_ne_true}
use Rattle.term_plans.specs.Tracks.{Track, own, fresh, same_track, has_track, Numbers, with_number}

eqb_same : (n : ℕ) → (n == n) ≡ true
eqb_same n = grind (arith, tests)

pub same_self : (t : Track) → same_track t t ≡ true
same_self (own n) = (bytes_eq-Decides n n).1 refl
same_self (fresh j) = eqb_same j

pub same_is : (s t : Track) → same_track s t ≡ true → s ≡ t
same_is (own m) (own n) same = ap own ((bytes_eq-Decides m n).0 same)
same_is (own m) (fresh j) same = absurd (false≢true same)
same_is (fresh i) (own n) same = absurd (false≢true same)
same_is (fresh i) (fresh j) same = ap fresh (eqb-true i j same)

pub with_number_here : (t : Track) (k : ℕ) (a : Numbers) → with_number t k a t ≡ k
with_number_here t k a = ap (λ b. if b then k else a t) (same_self t)

pub with_number_apart : (t u : Track) (k : ℕ) (a : Numbers) → same_track t u ≡ false → with_number t k a u ≡ a u
with_number_apart t u k a apart = ap (λ b. if b then k else a u) apart

pub fresh_apart : (i j : ℕ) → i ≢ j → same_track (fresh i) (fresh j) ≡ false
fresh_apart i j apart = false_from_ne_true (i == j) (λ same. apart (eqb-true i j same))

-- a track among others, the first or a later one
pub or_left : (p q : Bool) → p ≡ true → (p || q) ≡ true
or_left true q is = refl
or_left false q is = absurd (false≢true is)

pub or_right : (p q : Bool) → q ≡ true → (p || q) ≡ true
or_right true q is = refl
or_right false q is = is

pub first_is : (t : Track) (ts : List Track) → has_track (t ∷ ts) t ≡ true
first_is t ts = or_left (same_track t t) (has_track ts t) (same_self t)

pub later_is : (u : Track) (ts : List Track) (t : Track) → has_track ts t ≡ true → has_track (u ∷ ts) t ≡ true
later_is u ts t is = or_right (same_track u t) (has_track ts t) is

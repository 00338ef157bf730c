-- What the steps of sealing a system say.
use Rattle.std.proofs.Common.{◌≡◌, ℕ, ◌+◌, ◌<◌, List, [], ◌∷◌, length, Err, ap, arith}
use Rattle.std.specs.Result.{IsErrOf}
use Rattle.digit_tuple.specs.Letters.{IsWord, product}
use Rattle.digit_tuple.specs.Width.{HasApart}
use Rattle.digit_tuple.specs.Deterministic.{Automaton, letters_of}
use Rattle.digit_tuple.specs.declared.direction.Direction.{Direction}
use Rattle.numeration.specs.Systems.{System, IsSystem}
use Rattle.number_order.specs.Orders.{OrderAlike, pair_letters}
use Rattle.number_order.proofs.OrderWidthLemmas.{order_width_excludes}
use Rattle.num_system.specs.Sealing.{IsOrderWithin}

-- a fault is the same whatever else a call gives
pub same_fault : {T U E : Type 0} (e f : E) → IsErrOf {T = T} (Err e) f → IsErrOf {T = U} (Err e) f
same_fault e f is = let same : e ≡ f = cc in ap Err same

-- no more words are apart than the limit that the order keeps to
pub none_beyond : (direction : Direction) (d : Automaton) (limit : ℕ) → IsOrderWithin direction d limit → ¬ HasApart (OrderAlike direction d) (pair_letters d) (limit + 1)
none_beyond direction d limit within apart = order_width_excludes direction d (limit + 1) within.width.0 (omega (arith, within.width.1)) within.width.2 apart

-- a system has a digit
has_digit : (s : System) → IsSystem s → 0 < s.digits
has_digit s is = let long = is.endless 0 in by long.0 long.1 (is.over long.0 long.2)
  where
    by : (w : List ℕ) → 0 < length w → IsWord s.digits w → 0 < s.digits
    by [] more over = absurd (omega (arith, more))
    by (a ∷ w) more over = omega (arith, over.0)

pub has_letter : (s : System) (d : Automaton) → IsSystem s → d.sizes ≡ s.digits ∷ [] → 0 < letters_of d
has_letter s d is sizes =
    let letters : letters_of d ≡ product (s.digits ∷ []) = ap product sizes in
    omega (arith, letters, has_digit s is)

-- Words without leading zero.
use Rattle.std.proofs.Common.{◌≡◌, ℕ, zero, suc, List, [], ◌∷◌, refl, IsTrue}
use Rattle.std.proofs.lemmas.Bool.{false≢true}
use Rattle.digit_tuple.specs.Paddings.{without_zeros}
use Rattle.numeration.specs.Words.{is_plain}

pub without_zeros-plain : (w : List ℕ) → IsTrue (is_plain (without_zeros w))
without_zeros-plain [] = refl
without_zeros-plain (zero ∷ w) = without_zeros-plain w
without_zeros-plain (suc a ∷ w) = refl

pub plain_is : (w : List ℕ) → IsTrue (is_plain w) → without_zeros w ≡ w
plain_is [] plain = refl
plain_is (zero ∷ w) plain = absurd (false≢true plain)
plain_is (suc a ∷ w) plain = refl

-- Words without leading zeros, in either direction.
use Rattle.std.proofs.Common.{◌≡◌, ℕ, List, reverse, refl, ap, ◌∙◌}
use Rattle.std.proofs.lemmas.List.{reverse-reverse}
use Rattle.digit_tuple.specs.Letters.{IsWord}
use Rattle.digit_tuple.specs.Paddings.{in_order, strip, without_zeros}
use Rattle.digit_tuple.specs.declared.direction.Direction.{Direction}
use Rattle.digit_tuple.specs.declared.direction.Direction.TheVariants.{Msd, Lsd}
use Rattle.digit_tuple.proofs.PaddingLemmas.{IsWord-strip, IsWord-without_zeros, without_zeros-twice}

pub IsWord-stripped : (direction : Direction) (letters : ℕ) (w : List ℕ) → IsWord letters w → IsWord letters (strip direction w)
IsWord-stripped Msd letters w over = IsWord-without_zeros letters w over
IsWord-stripped Lsd letters w over = IsWord-strip letters w over

-- the word in order is without its leading zeros
pub in_order-strip : (direction : Direction) (w : List ℕ) → in_order direction (strip direction w) ≡ without_zeros (in_order direction w)
in_order-strip Msd w = refl
in_order-strip Lsd w = reverse-reverse (without_zeros (reverse w))

-- and has none left
pub strip-twice : (direction : Direction) (w : List ℕ) → strip direction (strip direction w) ≡ strip direction w
strip-twice Msd w = without_zeros-twice w
strip-twice Lsd w = ap (λ (v : List ℕ). reverse (without_zeros v)) (reverse-reverse (without_zeros (reverse w))) ∙ ap reverse (without_zeros-twice (reverse w))

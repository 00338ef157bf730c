-- Words of digits over one base, the most significant digit first, and the places that they represent.
use Rattle.std.proofs.Common.{◌≡◌, ℕ, ◌*◌, ◌^◌, ◌<◌, ◌≤◌, zero, suc, List, [], ◌∷◌, refl, sym, ap, ◌∙◌, subst, arith}
use Rattle.std.proofs.Math.Nat.{div-one, pow-zero, pow-suc}
use Rattle.std.proofs.lemmas.Nat.{mul-le}
use Rattle.digit_tuple.specs.Letters.{IsWord, product}
use Rattle.digit_tuple.specs.Paddings.{in_order}
use Rattle.digit_tuple.specs.declared.direction.Direction.{Direction}
use Rattle.digit_tuple.specs.declared.direction.Direction.TheVariants.{Msd}
use Rattle.numeration.specs.Representation.{Represents, first_track, letters_in, sizes_of}
use Rattle.numeration.specs.Systems.{IsRepresentation, System}
use Rattle.base_k.specs.Positional.{RankIsPositional, base, value}
use Rattle.base_k.specs.BaseLaws as laws
use Rattle.num_system.specs.Sealed.{SystemValue}
use Rattle.num_system.specs.Tracks.{direction_of, systems_of}
use Rattle.word_output.specs.Words.{RepresentsPlace}

-- the digits on the only track
only_track : (w : List ℕ) → first_track [] w ≡ w
only_track [] = refl
only_track (a ∷ w) = ap (λ b. b ∷ first_track [] w) (div-one a) ∙ ap (λ (u : List ℕ). a ∷ u) (only_track w)

pub first_same : (a b : ℕ) → a ∷ [] ≡ b ∷ [] → a ≡ b
first_same a b same = cc

module _ (positional : RankIsPositional) (systems : List SystemValue) (k : ℕ) (some : 2 ≤ k) (are : systems_of systems ≡ base k ∷ []) (direction : direction_of systems ≡ Msd) where
  moved : (P : List System → Direction → Type 0) → P (systems_of systems) (direction_of systems) → P (base k ∷ []) Msd
  moved P p = subst (λ ss. P ss Msd) are (subst (P (systems_of systems)) direction p)

  back : (P : List System → Direction → Type 0) → P (base k ∷ []) Msd → P (systems_of systems) (direction_of systems)
  back P p = subst (P (systems_of systems)) (sym direction) (subst (λ ss. P ss Msd) (sym are) p)

  one_times : k * 1 ≡ k
  one_times = omega arith

  -- words over the one track are words over the digits
  pub over_digits : (w : List ℕ) → IsWord (letters_in (systems_of systems)) w → IsWord k w
  over_digits w over = subst (λ n. IsWord n w) one_times (moved (λ ss d. IsWord (letters_in ss) w) over)

  digits_over_track : (w : List ℕ) → IsWord k w → IsWord (letters_in (systems_of systems)) w
  digits_over_track w over = back (λ ss d. IsWord (letters_in ss) w) (subst (λ n. IsWord n w) (sym one_times) over)

  -- a word represents its value alone
  value_from : (ns w : List ℕ) → IsWord k w → Represents (base k ∷ []) w ns → ns ≡ value k w ∷ []
  value_from [] w over represents = absurd represents
  value_from (n ∷ []) w over represents = ap (λ m. m ∷ []) (sym (let representation : IsRepresentation (base k) w n = subst (λ u. IsRepresentation (base k) u n) (only_track w) represents.0 in sym (positional k w some over) ∙ representation.1))
  value_from (n ∷ m ∷ ns) w over represents = absurd represents.1

  pub represented_value : (ns w : List ℕ) → RepresentsPlace systems ns w → ns ≡ value k w ∷ []
  represented_value ns w represented = value_from ns w (over_digits w represented.over) (moved (λ ss d. Represents ss (in_order d w) ns) represented.represents)

  pub value_represented : (w : List ℕ) → IsWord k w → RepresentsPlace systems (value k w ∷ []) w
  value_represented w over = record {
    over = digits_over_track w over;
    represents = back (λ ss d. Represents ss (in_order d w) (value k w ∷ [])) (subst (λ u. IsRepresentation (base k) u (value k w)) (sym (only_track w)) (laws.over_digits k w over, positional k w some over), tt);
  }

  -- the letters of a function over these systems are the digits
  pub letters_are : (sizes : List ℕ) → sizes ≡ sizes_of (systems_of systems) → product sizes ≡ k
  letters_are sizes is = ap product (is ∙ ap sizes_of are) ∙ one_times

-- a number is below the power of a base by itself
pub below_power : (k n : ℕ) → 2 ≤ k → n < k ^ n
below_power k zero some = omega (arith, pow-zero k)
below_power k (suc n) some =
    let rest = below_power k n some in
    let twice = mul-le (k ^ n) 2 (k ^ n) k (omega arith) some in
    omega (arith, pow-suc k n, rest, twice)

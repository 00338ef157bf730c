-- The shortest word that represents numbers is the one whose most significant letter is not zero.
use Rattle.std.proofs.Common.{◌≡◌, ℕ, zero, suc, ◌≤◌, List, [], ◌∷◌, length, refl, sym, ap, ◌∙◌, subst, arith, IsTrue}
use Rattle.digit_tuple.specs.Letters.{IsWord}
use Rattle.digit_tuple.specs.Paddings.{in_order, without_zeros}
use Rattle.digit_tuple.specs.declared.direction.Direction.{Direction}
use Rattle.digit_tuple.proofs.PaddingLemmas.{in_order-twice, length-in_order, IsWord-in_order, IsWord-without_zeros, without_zeros-short}
use Rattle.numeration.specs.Representation.{Represents, letters_in}
use Rattle.numeration.specs.Systems.{System, AreSystems}
use Rattle.numeration.specs.Words.{is_plain}
use Rattle.numeration.proofs.PlainLemmas.{plain_is}
use Rattle.numeration.proofs.RepresentLemmas.{representations, represents-without_zeros}
use Rattle.definitions.specs.Listings.{IsShortestOf}

-- a word that is no longer than what is left without its leading zeros has none
short_plain : (u : List ℕ) → length u ≤ length (without_zeros u) → IsTrue (is_plain u)
short_plain [] short = refl
short_plain (zero ∷ u) short = absurd (omega (arith, short, without_zeros-short u))
short_plain (suc a ∷ u) short = refl

module _ (direction : Direction) (ss : List System) (ns w : List ℕ) (are : AreSystems ss) (over : IsWord (letters_in ss) w) (represents : Represents ss (in_order direction w) ns) where
  pub plain_shortest : IsTrue (is_plain (in_order direction w)) → IsShortestOf direction ss ns w
  plain_shortest plain = record { over = over; represents = represents; least = least }
    where
      least : (v : List ℕ) → IsWord (letters_in ss) v → Represents ss (in_order direction v) ns → length w ≤ length v
      least v v_over also =
          let letters : ℕ = letters_in ss in
          let u : List ℕ = in_order direction w in
          let x : List ℕ = in_order direction v in
          let same : without_zeros x ≡ without_zeros u = (representations ss u x ns are (IsWord-in_order direction letters w over) (IsWord-in_order direction letters v v_over) represents).0 also in
          let whole : length (without_zeros x) ≡ length u = ap length (same ∙ plain_is u plain) in
          omega (arith, whole, without_zeros-short x, length-in_order direction w, length-in_order direction v)

  pub shortest_plain : IsShortestOf direction ss ns w → IsTrue (is_plain (in_order direction w))
  shortest_plain shortest =
      let u : List ℕ = in_order direction w in
      let v : List ℕ = in_order direction (without_zeros u) in
      let there : Represents ss (in_order direction v) ns = subst (λ (x : List ℕ). Represents ss x ns) (sym (in_order-twice direction (without_zeros u))) ((represents-without_zeros ss u ns are).0 represents) in
      let v_over : IsWord (letters_in ss) v = IsWord-in_order direction (letters_in ss) (without_zeros u) (IsWord-without_zeros (letters_in ss) u (IsWord-in_order direction (letters_in ss) w over)) in
      short_plain u (omega (arith, shortest.least v v_over there, length-in_order direction w, length-in_order direction (without_zeros u)))

-- An automaton of which it is known that it adds numbers does.
use Rattle.std.proofs.Common.{◌≡◌, ℕ, ◌+◌, List, [], ◌∷◌, get_or, ap, sym, ◌∙◌, subst, IsTrue}
use Rattle.std.specs.Coded.{Coded-set, coded_ℕ, coded_list, Π_prop}
use Rattle.std.proofs.Math.Logic.{∥∥₁_elim}
use Rattle.digit_tuple.specs.Deterministic.{Automaton, accepts_of}
use Rattle.digit_tuple.specs.Letters.{IsWord}
use Rattle.digit_tuple.specs.Paddings.{in_order}
use Rattle.digit_tuple.specs.declared.direction.Direction.{Direction}
use Rattle.numeration.specs.Systems.{System}
use Rattle.numeration.specs.Representation.{Represents, letters_in, sizes_of}
use Rattle.numeration.specs.Relations.{IsAdderOf, IsSum}
use Rattle.numeration.proofs.TrackLemmas.{tracks_represent, represents_from_tracks}
use Rattle.numeration.proofs.PartRepresentation.{AreValid, represented_valid, valid_represented, represented_only, ranks}
use Rattle.adder_check.specs.AdderRelation.{three_of}
use mathlib.Core.Bool.{Bool-set}

lists_set : (xs ys : List ℕ) → IsProp (xs ≡ ys)
lists_set xs ys = Coded-set (coded_list coded_ℕ) xs ys

-- three numbers of which the third is the sum, by their places
abbrev sum_of : List ℕ → List ℕ
sum_of ns = get_or ns 0 0 ∷ get_or ns 1 0 ∷ (get_or ns 0 0 + get_or ns 1 0) ∷ []

placed : (ns : List ℕ) → IsSum ns → ns ≡ sum_of ns
placed ns (x, y, is) = is ∙ sym (ap sum_of is)

pub surely_adder : (direction : Direction) (s : System) (d : Automaton) → ∥ IsAdderOf direction s d ∥₁ → IsAdderOf direction s d
surely_adder direction s d known = record {
  sizes = ∥∥₁_elim known (lists_set d.sizes (sizes_of (three_of s))) (λ is. is.sizes);
  accepts = λ w over. (there w over, λ found. ∥∥₁_elim known (Bool-set _ _) (λ is. (is.accepts w over).1 found));
}
  where
    valid : (w : List ℕ) → IsWord (letters_in (three_of s)) w → IsTrue (accepts_of d w) → AreValid (three_of s) (in_order direction w)
    valid w over accepted =
        ∥∥₁_elim known (Π_prop (λ i. Π_prop (λ within. Bool-set _ _)))
        (λ is. let found = (is.accepts w over).0 accepted in represented_valid (three_of s) (in_order direction w) found.0 (tracks_represent (three_of s) (in_order direction w) found.0 found.1))

    there : (w : List ℕ) → IsWord (letters_in (three_of s)) w → IsTrue (accepts_of d w) → (ns : List ℕ) × Represents (three_of s) (in_order direction w) ns × IsSum ns
    there w over accepted =
        let ns : List ℕ = ranks (three_of s) (in_order direction w) in
        let are = valid_represented (three_of s) (in_order direction w) (valid w over accepted) in
        let same : ns ≡ sum_of ns =
        ∥∥₁_elim known (lists_set ns (sum_of ns)) (λ is.
        let found = (is.accepts w over).0 accepted in
        placed ns (subst IsSum (represented_only (three_of s) (in_order direction w) found.0 ns (tracks_represent (three_of s) (in_order direction w) found.0 found.1) are) found.2)) in
        (ns, represents_from_tracks (three_of s) (in_order direction w) ns are, (get_or ns 0 0, get_or ns 1 0, same))

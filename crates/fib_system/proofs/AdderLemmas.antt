-- Automata that add in the Fibonacci system.
use Rattle.std.proofs.Common.{◌≡◌, ℕ, ◌+◌, ◌/◌, ◌%◌, List, [], ◌∷◌, map, reverse, refl, sym, ◌∙◌, subst, arith, IsTrue, ◌↔◌}
use Rattle.std.proofs.lemmas.Simd.{map-map}
use Rattle.digit_tuple.specs.Letters.{IsWord, product}
use Rattle.digit_tuple.specs.Keys.{key_accepts}
use Rattle.digit_tuple.specs.Deterministic.{Automaton, accepts_of, letters_of}
use Rattle.digit_tuple.specs.declared.direction.Direction.TheVariants.{Msd, Lsd}
use Rattle.digit_tuple.proofs.PaddingLemmas.{IsWord-reverse}
use Rattle.digit_tuple.proofs.TruthLemmas.{true_by, iff_trans}
use Rattle.numeration.specs.Systems.{System, IsRepresentation}
use Rattle.numeration.specs.Representation.{Represents, letters_in, first_track, other_tracks}
use Rattle.numeration.specs.Relations.{HoldsOf, IsSum, IsAdderOf}
use Rattle.fib_system.specs.Fibonacci.{is_sparse, fibonacci, weight_sum}
use Rattle.fib_system.specs.Additions.{first_digit, second_digit, third_digit, key_after, no_digits, is_sum, start_is_addition_key}
use Rattle.fib_system.proofs.WeightLemmas.{sum_represents, represented_sum}
use Rattle.fib_system.proofs.SumLemmas.{AreSparse, Makes, key_accepts_sums}

-- three tracks
abbrev pub three : List System
three = fibonacci ∷ fibonacci ∷ fibonacci ∷ []

second_is : (w : List ℕ) → first_track (fibonacci ∷ []) (other_tracks (fibonacci ∷ fibonacci ∷ []) w) ≡ map second_digit w
second_is w = map-map (λ a. a / 2) (λ a. a % 4) w

third_is : (w : List ℕ) → first_track [] (other_tracks (fibonacci ∷ []) (other_tracks (fibonacci ∷ fibonacci ∷ []) w)) ≡ map third_digit w
third_is w = map-map (λ a. a / 1) (λ a. a % 2) (map (λ a. a % 4) w) ∙ map-map (λ a. a % 2 / 1) (λ a. a % 4) w ∙ (λ i. map (λ a. last a i) w)
  where
    last : (a : ℕ) → a % 4 % 2 / 1 ≡ a % 2
    last a = omega arith

-- a track represents its sum
represents_on : (v u : List ℕ) (n : ℕ) → v ≡ u → IsTrue (is_sparse u) → weight_sum u ≡ n → IsRepresentation fibonacci v n
represents_on v u n same valid is = subst (λ (x : List ℕ). IsRepresentation fibonacci x n) (sym same) (sum_represents u n valid is)

sum_on : (v u : List ℕ) (n : ℕ) → v ≡ u → IsRepresentation fibonacci v n → IsTrue (is_sparse u) × (weight_sum u ≡ n)
sum_on v u n same representation =
    let there : IsRepresentation fibonacci u n = subst (λ (x : List ℕ). IsRepresentation fibonacci x n) same representation in
    (there.0, represented_sum u n there)

-- a word represents two numbers and their sum if and only if its tracks are words of the system that make x + y = z
represents_sum : (w : List ℕ) → (AreSparse 0 w × Makes 2 1 w) ↔ ((ns : List ℕ) × Represents three w ns × IsSum ns)
represents_sum w = (λ both. forth both.0 both.1, λ all. back all.0 all.1 all.2.0 all.2.1 all.2.2)
  where
    x : ℕ
    x = weight_sum (map first_digit w)

    y : ℕ
    y = weight_sum (map second_digit w)

    forth : AreSparse 0 w → Makes 2 1 w → (ns : List ℕ) × Represents three w ns × IsSum ns
    forth are makes = (
      x ∷ y ∷ (x + y) ∷ [],
      (
        represents_on _ (map first_digit w) x refl are.first refl,
        (
          represents_on _ (map second_digit w) y (second_is w) are.second refl,
          (represents_on _ (map third_digit w) (x + y) (third_is w) are.third (omega (arith, makes)), tt),
        ),
      ),
      (x, y, refl),
    )

    represented : (m n : ℕ) → Represents three w (m ∷ n ∷ (m + n) ∷ []) → AreSparse 0 w × Makes 2 1 w
    represented m n represents =
        let one = sum_on _ (map first_digit w) m refl represents.0 in
        let two = sum_on _ (map second_digit w) n (second_is w) represents.1.0 in
        let sum = sum_on _ (map third_digit w) (m + n) (third_is w) represents.1.1.0 in
        (record { first = one.0; second = two.0; third = sum.0 }, omega (arith, one.1, two.1, sum.1))

    back : (ns : List ℕ) → Represents three w ns → (m n : ℕ) → ns ≡ m ∷ n ∷ (m + n) ∷ [] → AreSparse 0 w × Makes 2 1 w
    back ns represents m n is = represented m n (subst (Represents three w) is represents)

-- an automaton that accepts what the keys accept adds
pub keys_add : (d : Automaton) → d.sizes ≡ 2 ∷ 2 ∷ 2 ∷ [] → ((w : List ℕ) → IsWord 8 w → accepts_of d w ≡ key_accepts key_after is_sum no_digits w) → IsAdderOf Msd fibonacci d
keys_add d sizes same = record {
  sizes = sizes;
  accepts = λ w over. true_by (accepts_of d w) (key_accepts key_after is_sum no_digits w) _ (same w over) (iff_trans _ _ _ (key_accepts_sums 2 1 0 w start_is_addition_key over) (represents_sum w));
}

-- an automaton over the reversed words holds of the same tuples in the other direction
pub reversed_holds : (ss : List System) (holds : List ℕ → Type 0) (d r : Automaton) → HoldsOf Msd ss holds d → r.sizes ≡ d.sizes
    → ((w : List ℕ) → IsWord (letters_of d) w → accepts_of r w ≡ accepts_of d (reverse w)) → HoldsOf Lsd ss holds r
reversed_holds ss holds d r is sizes same = record {
  sizes = sizes ∙ is.sizes;
  accepts = λ w over. true_by (accepts_of r w) (accepts_of d (reverse w)) _ (same w (subst (λ (counts : List ℕ). IsWord (product counts) w) (sym is.sizes) over)) (is.accepts (reverse w) (IsWord-reverse (letters_in ss) w over));
}

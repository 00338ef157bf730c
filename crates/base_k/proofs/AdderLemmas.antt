-- Carry automata accept the words that represent two numbers and their sum.
use Rattle.std.proofs.Common.{◌≡◌, ℕ, ◌+◌, ◌*◌, ◌/◌, ◌%◌, ◌<◌, ◌≤◌, IsTrue, ◌↔◌, List, [], ◌∷◌, map, refl, sym, ap, ◌∙◌, subst, arith}
use Rattle.std.proofs.lemmas.Simd.{map-map}
use Rattle.std.proofs.Math.Nat.{div-lt_iff_lt-mul}
use Rattle.digit_tuple.specs.Letters.{IsWord}
use Rattle.digit_tuple.specs.Paddings.{in_order}
use Rattle.digit_tuple.specs.Deterministic.{Automaton, accepts_of}
use Rattle.digit_tuple.specs.declared.direction.Direction.{Direction}
use Rattle.digit_tuple.specs.declared.direction.Direction.TheVariants.{Msd, Lsd}
use Rattle.numeration.specs.Systems.{System, IsRepresentation}
use Rattle.numeration.specs.Representation.{Represents, letters_in, first_track, other_tracks}
use Rattle.numeration.specs.Relations.{IsSum, IsAdderOf}
use Rattle.digit_tuple.proofs.PaddingLemmas.{IsWord-in_order}
use Rattle.base_k.specs.Positional.{base, value}
use Rattle.base_k.specs.Carries.{next_carry}
use Rattle.digit_tuple.proofs.TruthLemmas.{iff_trans}
use Rattle.base_k.proofs.ValueLemmas.{value_represents, represented_value, value_reverse}
use Rattle.base_k.proofs.CarryLemmas.{Tracks, IsCarrying, msd_accepts, lsd_accepts}

-- three tracks in base k
abbrev pub three : ℕ → List System
three k = base k ∷ base k ∷ base k ∷ []

-- the digits of a letter on them
abbrev pub tracks : ℕ → Tracks
tracks k = record { first = λ a. a / (k * k); second = λ a. a % (k * k) / k; third = λ a. a % (k * k) % k }

first_is : (k : ℕ) (w : List ℕ) → first_track (base k ∷ base k ∷ []) w ≡ map (tracks k).first w
first_is k w = ap (λ (p : ℕ). map (λ a. a / p) w) (let square : k * (k * 1) ≡ k * k = omega arith in square)

second_is : (k : ℕ) (w : List ℕ) → first_track (base k ∷ []) (other_tracks (base k ∷ base k ∷ []) w) ≡ map (tracks k).second w
second_is k w =
    map-map (λ a. a / (k * 1)) (λ a. a % (k * (k * 1))) w
    ∙ ap (λ (p : ℕ). map (λ a. a % p / (k * 1)) w) (let square : k * (k * 1) ≡ k * k = omega arith in square)
    ∙ ap (λ (p : ℕ). map (λ a. a % (k * k) / p) w) (let one : k * 1 ≡ k = omega arith in one)

third_is : (k : ℕ) (w : List ℕ) → first_track [] (other_tracks (base k ∷ []) (other_tracks (base k ∷ base k ∷ []) w)) ≡ map (tracks k).third w
third_is k w =
    map-map (λ a. a / 1) (λ a. a % (k * 1)) (map (λ a. a % (k * (k * 1))) w)
    ∙ map-map (λ a. a % (k * 1) / 1) (λ a. a % (k * (k * 1))) w
    ∙ (λ i. map (λ a. whole (a % (k * (k * 1)) % (k * 1)) i) w)
    ∙ ap (λ (p : ℕ). map (λ a. a % p % (k * 1)) w) (let square : k * (k * 1) ≡ k * k = omega arith in square)
    ∙ ap (λ (p : ℕ). map (λ a. a % (k * k) % p) w) (let one : k * 1 ≡ k = omega arith in one)
  where
    whole : (m : ℕ) → m / 1 ≡ m
    whole m = omega arith

-- a track of a word is a word over its digits
track_over : (k letters : ℕ) (f : ℕ → ℕ) (w : List ℕ) → ((a : ℕ) → a < letters → f a < k) → IsWord letters w → IsWord k (map f w)
track_over k letters f [] small over = tt
track_over k letters f (a ∷ w) small over = (small a over.0, track_over k letters f w small over.1)

square_positive : (m : ℕ) → 0 < m → 0 < m * m
square_positive m some = grind arith

-- digits below k
pub first_small : (k a : ℕ) → 0 < k → a < letters_in (three k) → (tracks k).first a < k
first_small k a some within =
    let square : 0 < k * k = square_positive k some in
    (div-lt_iff_lt-mul {k = k * k} {x = a} {y = k} square).1 (omega (arith, within))

pub second_small : (k a : ℕ) → 0 < k → (tracks k).second a < k
second_small k a some =
    let square : 0 < k * k = square_positive k some in
    let rest : a % (k * k) < k * k = omega (arith, square) in
    (div-lt_iff_lt-mul {k = k} {x = a % (k * k)} {y = k} some).1 rest

pub third_small : (k a : ℕ) → 0 < k → (tracks k).third a < k
third_small k a some = omega (arith, some)

-- tracks of a word represent their values
represents_on : (k : ℕ) (v u : List ℕ) (n : ℕ) → 2 ≤ k → v ≡ u → IsWord k u → value k u ≡ n → IsRepresentation (base k) v n
represents_on k v u n some same over is = subst (λ (x : List ℕ). IsRepresentation (base k) x n) (sym same) (value_represents k u n some over is)

value_on : (k : ℕ) (v u : List ℕ) (n : ℕ) → 2 ≤ k → v ≡ u → IsWord k u → IsRepresentation (base k) v n → value k u ≡ n
value_on k v u n some same over representation = represented_value k u n some over (subst (λ (x : List ℕ). IsRepresentation (base k) x n) same representation)

-- the values of a word's tracks
abbrev pub ValuesAdd : ℕ → List ℕ → Type 0
ValuesAdd k w = value k (map (tracks k).third w) ≡ value k (map (tracks k).first w) + value k (map (tracks k).second w)

-- a word represents two numbers and their sum if and only if the values of its tracks are such numbers
pub represents_sum : (k : ℕ) (w : List ℕ) → 2 ≤ k → IsWord (letters_in (three k)) w → ValuesAdd k w ↔ ((ns : List ℕ) × Represents (three k) w ns × IsSum ns)
represents_sum k w some over = (forth, λ all. back all.0 all.1 all.2.0 all.2.1 all.2.2)
  where
    positive : 0 < k
    positive = omega (arith, some)

    first_over : IsWord k (map (tracks k).first w)
    first_over = track_over k (letters_in (three k)) (tracks k).first w (λ a within. first_small k a positive within) over

    second_over : IsWord k (map (tracks k).second w)
    second_over = track_over k (letters_in (three k)) (tracks k).second w (λ a within. second_small k a positive) over

    third_over : IsWord k (map (tracks k).third w)
    third_over = track_over k (letters_in (three k)) (tracks k).third w (λ a within. third_small k a positive) over

    forth : ValuesAdd k w → (ns : List ℕ) × Represents (three k) w ns × IsSum ns
    forth adds =
        let x = value k (map (tracks k).first w) in
        let y = value k (map (tracks k).second w) in (
          x ∷ y ∷ (x + y) ∷ [],
          (
            represents_on k _ _ x some (first_is k w) first_over refl,
            (
              represents_on k _ _ y some (second_is k w) second_over refl,
              (represents_on k _ _ (x + y) some (third_is k w) third_over adds, tt),
            ),
          ),
          (x, y, refl),
        )

    represented : (x y z : ℕ) → Represents (three k) w (x ∷ y ∷ z ∷ []) → (value k (map (tracks k).first w) ≡ x) × (value k (map (tracks k).second w) ≡ y) × (value k (map (tracks k).third w) ≡ z)
    represented x y z represents = (
      value_on k _ _ x some (first_is k w) first_over represents.0,
      value_on k _ _ y some (second_is k w) second_over represents.1.0,
      value_on k _ _ z some (third_is k w) third_over represents.1.1.0,
    )

    back : (ns : List ℕ) → Represents (three k) w ns → (x y : ℕ) → ns ≡ x ∷ y ∷ (x + y) ∷ [] → ValuesAdd k w
    back ns represents x y is =
        let values = represented x y (x + y) (subst (Represents (three k) w) is represents) in
        omega (arith, values.0, values.1, values.2)

-- a carry automaton accepts if and only if the values of the tracks add up
values_add : (direction : Direction) (k : ℕ) (d : Automaton) (w : List ℕ) → IsCarrying k (letters_in (three k)) (next_carry direction k) (tracks k) d → IsWord (letters_in (three k)) w → IsTrue (accepts_of d w) ↔ ValuesAdd k (in_order direction w)
values_add Msd k d w carrying over =
    let t = tracks k in
    iff_trans _ _ _ (msd_accepts k (letters_in (three k)) t d 0 w carrying (omega arith) over) (λ h. omega (arith, h), λ h. omega (arith, h))
values_add Lsd k d w carrying over =
    let t = tracks k in
    let x = value_reverse k t.first w in
    let y = value_reverse k t.second w in
    let z = value_reverse k t.third w in
    iff_trans _ _ _ (lsd_accepts k (letters_in (three k)) t d 0 w carrying (omega arith) over) (λ h. omega (arith, h, x, y, z), λ h. omega (arith, h, x, y, z))

-- the carry automaton adds
pub carries_add : (direction : Direction) (k : ℕ) (d : Automaton) → 2 ≤ k → d.sizes ≡ k ∷ k ∷ k ∷ [] → IsCarrying k (letters_in (three k)) (next_carry direction k) (tracks k) d → IsAdderOf direction (base k) d
carries_add direction k d some sizes carrying = record {
  sizes = sizes;
  accepts = λ w over. iff_trans _ _ _ (values_add direction k d w carrying over) (represents_sum k (in_order direction w) some (IsWord-in_order direction (letters_in (three k)) w over));
}

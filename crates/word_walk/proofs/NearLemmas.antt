-- A next word is longer than the place by at most twice the number of states.
use Rattle.std.proofs.Common.{◌≡◌, ◌&&◌, ℕ, zero, suc, ◌+◌, ◌*◌, ◌<◌, ◌≤◌, Bool, true, false, List, [], ◌∷◌, ◌++◌, reverse, length, Option, None, Some, ◌⊎◌, inl, inr, refl, sym, ap, ◌∙◌, arith}
use Rattle.std.proofs.lemmas.Bool.{and_parts, cases_order}
use Rattle.std.proofs.lemmas.List.{reverse-append}
use Rattle.digit_tuple.specs.Deterministic.{Automaton, IsTable, letters_of, states_of, accepts_of}
use Rattle.digit_tuple.specs.Shortlex.{IsBefore}
use Rattle.digit_tuple.specs.declared.direction.Direction.{Direction}
use Rattle.digit_tuple.specs.declared.direction.Direction.TheVariants.{Msd, Lsd}
use Rattle.numeration.specs.Words.{is_plain}
use Rattle.word_walk.specs.Listed.{is_listed, is_shortest}
use Rattle.word_walk.specs.Walks.{NextWordsAreNear}
use Rattle.word_walk.proofs.CutLemmas.{HasKinds, near}
use Rattle.word_walk.proofs.LengthLemmas.{state_kind, states_are_kinds}

abbrev bit : Bool → ℕ
bit true = 0
bit false = 1

-- what a prefix says of the letter 0 at the end that is left out
abbrev zero_kind : Option Direction → List ℕ → ℕ
zero_kind None u = 0
zero_kind (Some Msd) [] = 0
zero_kind (Some Msd) (a ∷ u) = 1
zero_kind (Some Lsd) u = bit (is_plain (reverse u))

zero_kind-small : (skip : Option Direction) (u : List ℕ) → zero_kind skip u < 2
zero_kind-small None u = omega arith
zero_kind-small (Some Msd) [] = omega arith
zero_kind-small (Some Msd) (a ∷ u) = omega arith
zero_kind-small (Some Lsd) u = by (is_plain (reverse u))
  where
    by : (b : Bool) → bit b < 2
    by true = omega arith
    by false = omega arith

plain_begun : (u x y : List ℕ) → 0 < length u → is_plain (u ++ x) ≡ true → is_plain (u ++ y) ≡ true
plain_begun [] x y some plain = absurd (omega (arith, some))
plain_begun (zero ∷ u) x y some plain = plain
plain_begun (suc a ∷ u) x y some plain = plain

shortest_alike : (skip : Option Direction) (u v x y : List ℕ) → zero_kind skip u ≡ zero_kind skip v → is_shortest skip (u ++ x) ≡ true → is_shortest skip (v ++ y) ≡ true → is_shortest skip (u ++ y) ≡ true
shortest_alike None u v x y same first second = refl
shortest_alike (Some Msd) [] [] x y same first second = second
shortest_alike (Some Msd) [] (b ∷ v) x y same first second = absurd (omega (arith, same))
shortest_alike (Some Msd) (a ∷ u) v x y same first second = plain_begun (a ∷ u) x y (omega arith) first
shortest_alike (Some Lsd) u v x y same first second = ap is_plain (reverse-append u y) ∙ by (reverse y) (sym (ap is_plain (reverse-append v y)) ∙ second)
  where
    flags : (b c : Bool) → bit b ≡ bit c → c ≡ true → b ≡ true
    flags true c is plain = refl
    flags false true is plain = absurd (omega (arith, is))
    flags false false is plain = plain

    by : (r : List ℕ) → is_plain (r ++ reverse v) ≡ true → is_plain (r ++ reverse u) ≡ true
    by [] plain = flags (is_plain (reverse u)) (is_plain (reverse v)) same plain
    by (zero ∷ r) plain = plain
    by (suc a ∷ r) plain = plain

-- numbers with a last binary digit that are equal
halves : (x y a b : ℕ) → a < 2 → b < 2 → 2 * x + a ≡ 2 * y + b → x ≡ y
halves x y a b small low same = by (cases_order x y)
  where
    by : (x ≡ y) ⊎ ((x < y) ⊎ (y < x)) → x ≡ y
    by (inl is) = is
    by (inr (inl less)) = absurd (omega (arith, less, small, low, same))
    by (inr (inr more)) = absurd (omega (arith, more, small, low, same))

and_true : (b c : Bool) → b ≡ true → c ≡ true → (b && c) ≡ true
and_true b c one two = ap (λ x. x && c) one ∙ two

module _ (d : Automaton) (table : IsTable (letters_of d) d.states) (skip : Option Direction) where
  pub listed_kinds : HasKinds (is_listed d skip) (2 * states_of d) (λ u. 2 * state_kind d u + zero_kind skip u)
  listed_kinds = record {
    small = λ u v listed. let parts = and_parts (accepts_of d (u ++ v)) (is_shortest skip (u ++ v)) listed in omega (arith, (states_are_kinds d table).small u v parts.0, zero_kind-small skip u);
    alike = λ u v x y same first second.
        let one = and_parts (accepts_of d (u ++ x)) (is_shortest skip (u ++ x)) first in
        let two = and_parts (accepts_of d (v ++ y)) (is_shortest skip (v ++ y)) second in
        let states : state_kind d u ≡ state_kind d v = halves (state_kind d u) (state_kind d v) (zero_kind skip u) (zero_kind skip v) (zero_kind-small skip u) (zero_kind-small skip v) same in
        and_true (accepts_of d (u ++ y)) (is_shortest skip (u ++ y)) ((states_are_kinds d table).alike u v x y states one.0 two.0) (shortest_alike skip u v x y (omega (arith, same, states)) one.1 two.1);
  }

no_longer : (w v : List ℕ) → (w ≡ v) ⊎ IsBefore w v → length w ≤ length v
no_longer w v (inl same) = omega (arith, ap length same)
no_longer w v (inr (inl shorter)) = omega (arith, shorter)
no_longer w v (inr (inr same)) = omega (arith, same.0)

pub next_words_are_near : NextWordsAreNear
next_words_are_near d skip None w table next =
    let found = near (is_listed d skip) (2 * states_of d) (λ u. 2 * state_kind d u + zero_kind skip u) (listed_kinds d table skip) 0 w next.listed (omega arith) in
    omega (arith, found.3, no_longer w found.0 (next.least found.0 found.1 tt))
next_words_are_near d skip (Some place) w table next = by next.after
  where
    by : IsBefore place w → length w ≤ length place + 2 * states_of d
    by (inr same) = omega (arith, same.0)
    by (inl longer) =
        let found = near (is_listed d skip) (2 * states_of d) (λ u. 2 * state_kind d u + zero_kind skip u) (listed_kinds d table skip) (length place + 1) w next.listed (omega (arith, longer)) in
        omega (arith, found.3, no_longer w found.0 (next.least found.0 found.1 (inl (omega (arith, found.2)))))

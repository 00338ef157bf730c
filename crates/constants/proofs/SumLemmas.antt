-- Sums over the numbers below a bound, over the transitions of a state, and counts by where words lead.
use Rattle.std.proofs.Common.{◌≡◌, ◌≢◌, ℕ, zero, suc, ◌+◌, ◌<◌, Bool, true, false, cond, nat_eq, List, [], ◌∷◌, Option, None, Some, ◌⊎◌, inl, inr, refl, ap, sym, ◌∙◌, arith, count_by}
use Rattle.std.specs.List.{All, AllPairs, sum_by}
use Rattle.std.specs.Option.{option_map_or, IfSome}
use Rattle.std.proofs.lemmas.Bool.{cases_eq, eq-eqb, ne_eqb}
use Rattle.std.proofs.lemmas.List.Sums.{sum_by-cons}
use Rattle.digit_tuple.specs.declared.transitions.Transition.{Transition}
use Rattle.digit_tuple.specs.Deterministic.{IsByEarlier, target_by}
use Rattle.digit_tuple.proofs.DfaLemmas.{target_by-other, target_by-first}
use Rattle.residual_classes.proofs.TransitionLemmas.{rest_pairs, target_by-early}
use Rattle.numeration.proofs.CountLemmas.{sum_below, sum_below-same, sum_below-stops, count_by-cons}

pub sum_below-none : (f : ℕ → ℕ) (n : ℕ) → ((k : ℕ) → k < n → f k ≡ 0) → sum_below f n ≡ 0
sum_below-none f zero none = refl
sum_below-none f (suc n) none =
    let rest : sum_below f n ≡ 0 = sum_below-none f n (λ k below. none k (omega (arith, below))) in
    let last : f n ≡ 0 = none n (omega arith) in
    omega (arith, rest, last)

pub sum_below-add : (f g : ℕ → ℕ) (n : ℕ) → sum_below (λ k. f k + g k) n ≡ sum_below f n + sum_below g n
sum_below-add f g zero = refl
sum_below-add f g (suc n) =
    let rest : sum_below (λ k. f k + g k) n ≡ sum_below f n + sum_below g n = sum_below-add f g n in
    omega (arith, rest)

-- the order of two sums
pub sum_below-swap : (f : ℕ → ℕ → ℕ) (m n : ℕ) → sum_below (λ i. sum_below (λ j. f i j) n) m ≡ sum_below (λ j. sum_below (λ i. f i j) m) n
sum_below-swap f zero n = sym (sum_below-none (λ j. 0) n (λ k below. refl))
sum_below-swap f (suc m) n =
    let rest : sum_below (λ i. sum_below (λ j. f i j) n) m ≡ sum_below (λ j. sum_below (λ i. f i j) m) n = sum_below-swap f m n in
    ap (λ k. k + sum_below (λ j. f m j) n) rest ∙ sym (sum_below-add (λ j. sum_below (λ i. f i j) m) (λ j. f m j) n)

-- the one term that is not 0
pub sum_below-one : (f : ℕ → ℕ) (p n : ℕ) → p < n → ((k : ℕ) → k ≢ p → f k ≡ 0) → sum_below f n ≡ f p
sum_below-one f p n within none =
    let stops : sum_below f n ≡ sum_below f p + f p = sum_below-stops f p n within (λ k above. none k (λ same. omega (arith, above, same))) in
    let before : sum_below f p ≡ 0 = sum_below-none f p (λ k below. none k (λ same. omega (arith, below, same))) in
    omega (arith, stops, before)

-- a sum over the transitions of a state is one over the letters
pub sum-transitions : (f : ℕ → ℕ) (d : ℕ) (es : List Transition) → AllPairs IsByEarlier es → All (λ e. e.letter < d) es
    → sum_by (λ e. f e.target) es ≡ sum_below (λ b. option_map_or f (target_by es b) 0) d
sum-transitions f d [] up small = sym (sum_below-none (λ b. 0) d (λ b below. refl))
sum-transitions f d (e ∷ es) up small = whole (sum-transitions f d es (rest_pairs e es up) (λ k x within. small (suc k) x (omega arith)))
  where
    first : ℕ → ℕ
    first b = cond {A = ℕ} (nat_eq e.letter b) (f e.target) 0

    others : ℕ → ℕ
    others b = option_map_or f (target_by es b) 0

    by : (b : ℕ) → (b ≡ e.letter) ⊎ (b ≡ e.letter → ⊥) → option_map_or f (target_by (e ∷ es) b) 0 ≡ first b + others b
    by b (inl same) =
        let here : option_map_or f (target_by (e ∷ es) b) 0 ≡ f e.target = ap (λ o. option_map_or f o 0) (target_by-first e es b (sym same)) in
        let counted : first b ≡ f e.target = ap (λ t. cond {A = ℕ} t (f e.target) 0) (eq-eqb e.letter b (sym same)) in
        let none : others b ≡ 0 = ap (λ o. option_map_or f o 0) (target_by-early e es b up (omega (arith, same))) in
        omega (arith, here, counted, none)
    by b (inr apart) =
        let there : option_map_or f (target_by (e ∷ es) b) 0 ≡ others b = ap (λ o. option_map_or f o 0) (target_by-other e es b (λ is. apart (sym is))) in
        let none : first b ≡ 0 = ap (λ t. cond {A = ℕ} t (f e.target) 0) (ne_eqb e.letter b (λ is. apart (sym is))) in
        omega (arith, there, none)

    head : sum_by (λ x. f x.target) (e ∷ es) ≡ f e.target + sum_by (λ x. f x.target) es
    head = sum_by-cons (λ (x : Transition). f x.target) e es

    split : sum_below (λ b. option_map_or f (target_by (e ∷ es) b) 0) d ≡ sum_below (λ b. first b + others b) d
    split = sum_below-same (λ b. option_map_or f (target_by (e ∷ es) b) 0) (λ b. first b + others b) d (λ b below. by b (cases_eq b e.letter))

    both : sum_below (λ b. first b + others b) d ≡ sum_below first d + sum_below others d
    both = sum_below-add first others d

    one : sum_below first d ≡ f e.target
    one = sum_below-one first e.letter d (small 0 e (omega arith)) (λ b apart. ap (λ t. cond {A = ℕ} t (f e.target) 0) (ne_eqb e.letter b (λ is. apart (sym is))))
        ∙ ap (λ t. cond {A = ℕ} t (f e.target) 0) (eq-eqb e.letter e.letter refl)

    whole : sum_by (λ x. f x.target) es ≡ sum_below others d → sum_by (λ x. f x.target) (e ∷ es) ≡ sum_below (λ b. option_map_or f (target_by (e ∷ es) b) 0) d
    whole rest = omega (arith, rest, head, split, both, one)

cond-zero : (b : Bool) → cond {A = ℕ} b 0 0 ≡ 0
cond-zero true = refl
cond-zero false = refl

cond-add : (b : Bool) (m n : ℕ) → cond {A = ℕ} b (m + n) 0 ≡ cond {A = ℕ} b m 0 + cond {A = ℕ} b n 0
cond-add true m n = refl
cond-add false m n = refl

-- those that lead to states with a mark, state by state
pub count-apart : {X : Type 0} (f : X → Option ℕ) (g : ℕ → Bool) (k : ℕ) (xs : List X) → ((x : X) → IfSome (f x) (λ p. p < k))
    → count_by (λ x. option_map_or g (f x) false) xs ≡ sum_below (λ q. cond {A = ℕ} (g q) (count_by (λ x. option_map_or (λ p. nat_eq p q) (f x) false) xs) 0) k
count-apart f g k [] small = sym (sum_below-none (λ q. cond {A = ℕ} (g q) 0 0) k (λ q below. cond-zero (g q)))
count-apart f g k (x ∷ xs) small = whole (count-apart f g k xs small)
  where
    ends_at : ℕ → Bool
    ends_at q = option_map_or (λ p. nat_eq p q) (f x) false

    others : ℕ → ℕ
    others q = count_by (λ y. option_map_or (λ p. nat_eq p q) (f y) false) xs

    head : count_by (λ y. option_map_or g (f y) false) (x ∷ xs) ≡ cond {A = ℕ} (option_map_or g (f x) false) 1 0 + count_by (λ y. option_map_or g (f y) false) xs
    head = count_by-cons (λ y. option_map_or g (f y) false) x xs

    each : sum_below (λ q. cond {A = ℕ} (g q) (count_by (λ y. option_map_or (λ p. nat_eq p q) (f y) false) (x ∷ xs)) 0) k
        ≡ sum_below (λ q. cond {A = ℕ} (g q) (cond {A = ℕ} (ends_at q) 1 0) 0 + cond {A = ℕ} (g q) (others q) 0) k
    each = sum_below-same (λ q. cond {A = ℕ} (g q) (count_by (λ y. option_map_or (λ p. nat_eq p q) (f y) false) (x ∷ xs)) 0)
        (λ q. cond {A = ℕ} (g q) (cond {A = ℕ} (ends_at q) 1 0) 0 + cond {A = ℕ} (g q) (others q) 0) k
        (λ q below. ap (λ m. cond {A = ℕ} (g q) m 0) (count_by-cons (λ y. option_map_or (λ p. nat_eq p q) (f y) false) x xs) ∙ cond-add (g q) (cond {A = ℕ} (ends_at q) 1 0) (others q))

    both : sum_below (λ q. cond {A = ℕ} (g q) (cond {A = ℕ} (ends_at q) 1 0) 0 + cond {A = ℕ} (g q) (others q) 0) k
        ≡ sum_below (λ q. cond {A = ℕ} (g q) (cond {A = ℕ} (ends_at q) 1 0) 0) k + sum_below (λ q. cond {A = ℕ} (g q) (others q) 0) k
    both = sum_below-add (λ q. cond {A = ℕ} (g q) (cond {A = ℕ} (ends_at q) 1 0) 0) (λ q. cond {A = ℕ} (g q) (others q) 0) k

    by : (o : Option ℕ) → IfSome o (λ p. p < k)
        → sum_below (λ q. cond {A = ℕ} (g q) (cond {A = ℕ} (option_map_or (λ p. nat_eq p q) o false) 1 0) 0) k ≡ cond {A = ℕ} (option_map_or g o false) 1 0
    by None within = sum_below-none (λ q. cond {A = ℕ} (g q) 0 0) k (λ q below. cond-zero (g q))
    by (Some p) within =
        sum_below-one (λ q. cond {A = ℕ} (g q) (cond {A = ℕ} (nat_eq p q) 1 0) 0) p k within
        (λ q apart. ap (λ t. cond {A = ℕ} (g q) (cond {A = ℕ} t 1 0) 0) (ne_eqb p q (λ is. apart (sym is))) ∙ cond-zero (g q))
        ∙ ap (λ t. cond {A = ℕ} (g p) (cond {A = ℕ} t 1 0) 0) (eq-eqb p p refl)

    one : sum_below (λ q. cond {A = ℕ} (g q) (cond {A = ℕ} (ends_at q) 1 0) 0) k ≡ cond {A = ℕ} (option_map_or g (f x) false) 1 0
    one = by (f x) (small x)

    whole : count_by (λ y. option_map_or g (f y) false) xs ≡ sum_below (λ q. cond {A = ℕ} (g q) (others q) 0) k
        → count_by (λ y. option_map_or g (f y) false) (x ∷ xs) ≡ sum_below (λ q. cond {A = ℕ} (g q) (count_by (λ y. option_map_or (λ p. nat_eq p q) (f y) false) (x ∷ xs)) 0) k
    whole rest = omega (arith, rest, head, each, both, one)

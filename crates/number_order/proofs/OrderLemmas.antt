-- Comparisons of words of one length.
use Rattle.std.proofs.Common.{◌≡◌, ◌==◌, ℕ, Bool, true, cond, List, [], ◌∷◌, ◌++◌, reverse, length, refl, ap, sym, ◌∙◌, subst, arith, ◌⊎◌, inl, inr, ◌↔◌, IsTrue, Ordering, Less, Equal, Greater, nat_cmp, is_lt}
use Rattle.std.specs.Ordering.{ordering_then, ordering_index, ordering_reverse}
use Rattle.std.specs.Cmp.Lexicographic.{slice_cmp}
use Rattle.std.proofs.lemmas.Bool.{false≢true, le-ltb, eq-eqb, eqb-true}
use Rattle.std.proofs.lemmas.Cmp.{nat_list_cmp_total}
use Rattle.std.proofs.lemmas.List.{reverse-append, length-reverse}
use Rattle.digit_tuple.specs.Paddings.{in_order}
use Rattle.digit_tuple.specs.declared.direction.Direction.{Direction}
use Rattle.digit_tuple.specs.declared.direction.Direction.TheVariants.{Msd, Lsd}
use Rattle.numeration.specs.Words.{is_less, rank, IsLanguage}
use Rattle.numeration.specs.Relations.{IsCompared}
use Rattle.numeration.proofs.BelowLemmas.{word_order}
use Rattle.numeration.proofs.RankLemmas.{less_is_rank}
use Rattle.number_order.specs.PairKeys.{ordering_at, compared_more}

pub then_assoc : (o p q : Ordering) → ordering_then (ordering_then o p) q ≡ ordering_then o (ordering_then p q)
then_assoc Less p q = refl
then_assoc Equal p q = refl
then_assoc Greater p q = refl

pub then_equal : (o : Ordering) → ordering_then o Equal ≡ o
then_equal Less = refl
then_equal Equal = refl
then_equal Greater = refl

-- an ordering is that of its number
pub ordering_at-index : (o : Ordering) → ordering_at (ordering_index o) ≡ o
ordering_at-index Less = refl
ordering_at-index Equal = refl
ordering_at-index Greater = refl

-- a digit more after each word
pub comparison-push : (w v : List ℕ) (a b : ℕ) → length w ≡ length v → slice_cmp nat_cmp (w ++ a ∷ []) (v ++ b ∷ []) ≡ ordering_then (slice_cmp nat_cmp w v) (nat_cmp a b)
comparison-push [] [] a b long = then_equal (nat_cmp a b)
comparison-push [] (e ∷ v) a b long = absurd (omega (arith, long))
comparison-push (c ∷ w) [] a b long = absurd (omega (arith, long))
comparison-push (c ∷ w) (e ∷ v) a b long =
    ap (ordering_then (nat_cmp c e)) (comparison-push w v a b (omega (arith, long))) ∙ sym (then_assoc (nat_cmp c e) (slice_cmp nat_cmp w v) (nat_cmp a b))

-- the comparison of the words read so far with that of those that follow
abbrev pub joined : Direction → Ordering → List ℕ → List ℕ → Ordering
joined Msd so_far x y = ordering_then so_far (slice_cmp nat_cmp x y)
joined Lsd so_far x y = ordering_then (slice_cmp nat_cmp (reverse x) (reverse y)) so_far

pub joined-nil : (direction : Direction) (o : Ordering) → joined direction o [] [] ≡ o
joined-nil Msd o = then_equal o
joined-nil Lsd o = refl

pub joined-step : (direction : Direction) (o : Ordering) (a b : ℕ) (x y : List ℕ) → length x ≡ length y → joined direction (compared_more direction o a b) x y ≡ joined direction o (a ∷ x) (b ∷ y)
joined-step Msd o a b x y long = then_assoc o (nat_cmp a b) (slice_cmp nat_cmp x y)
joined-step Lsd o a b x y long =
    sym (then_assoc (slice_cmp nat_cmp (reverse x) (reverse y)) (nat_cmp a b) o)
    ∙ ap (λ (p : Ordering). ordering_then p o) (sym (comparison-push (reverse x) (reverse y) a b (length-reverse x ∙ long ∙ sym (length-reverse y))))
    ∙ ap (λ z. ordering_then (slice_cmp nat_cmp z (reverse y ++ b ∷ [])) o) (sym (reverse-append (a ∷ []) x))
    ∙ ap (λ z. ordering_then (slice_cmp nat_cmp (reverse (a ∷ x)) z) o) (sym (reverse-append (b ∷ []) y))

pub joined-all : (direction : Direction) (x y : List ℕ) → joined direction Equal x y ≡ slice_cmp nat_cmp (in_order direction x) (in_order direction y)
joined-all Msd x y = refl
joined-all Lsd x y = then_equal (slice_cmp nat_cmp (reverse x) (reverse y))

comparison-self : (w : List ℕ) → slice_cmp nat_cmp w w ≡ Equal
comparison-self [] = refl
comparison-self (a ∷ w) = ap (λ (o : Ordering). ordering_then o (slice_cmp nat_cmp w w)) same ∙ comparison-self w
  where
    same : nat_cmp a a ≡ Equal
    same = ap (λ (l : Bool). cond l Less (cond (a == a) Equal Greater)) (le-ltb a a (omega arith)) ∙ ap (λ (e : Bool). cond e Equal Greater) (eq-eqb a a refl)

is_lt-less : (o : Ordering) → is_lt o ≡ true → o ≡ Less
is_lt-less Less lt = refl
is_lt-less Equal lt = absurd (false≢true lt)
is_lt-less Greater lt = absurd (false≢true lt)

-- words of one length in the language compare as their ranks do
pub comparison-ranks : (d : ℕ) (test : List ℕ → Bool) (w v : List ℕ) → IsLanguage d test → IsTrue (test w) → IsTrue (test v) → length w ≡ length v → IsCompared (slice_cmp nat_cmp w v) (rank d test w) (rank d test v)
comparison-ranks d test w v language valid also long = by (word_order w v long)
  where
    by : (w ≡ v) ⊎ (IsTrue (is_less w v) ⊎ IsTrue (is_less v w)) → IsCompared (slice_cmp nat_cmp w v) (rank d test w) (rank d test v)
    by (inl same) =
        subst (λ (o : Ordering). IsCompared o (rank d test w) (rank d test v)) (sym (ap (λ u. slice_cmp nat_cmp u v) same ∙ comparison-self v)) (ap (rank d test) same)
    by (inr (inl less)) =
        subst (λ (o : Ordering). IsCompared o (rank d test w) (rank d test v)) (sym (is_lt-less (slice_cmp nat_cmp w v) less)) ((less_is_rank d test w v language valid also long).0 less)
    by (inr (inr more)) =
        let turned : slice_cmp nat_cmp v w ≡ Less = is_lt-less (slice_cmp nat_cmp v w) more in
        subst (λ (o : Ordering). IsCompared o (rank d test w) (rank d test v)) (sym (nat_list_cmp_total.antisymm w v ∙ ap ordering_reverse turned)) ((less_is_rank d test v w language also valid (sym long)).0 more)

-- numbers compare in one way
one_comparison : (o p : Ordering) (m n : ℕ) → IsCompared o m n → IsCompared p m n → o ≡ p
one_comparison Less Less m n first second = refl
one_comparison Less Equal m n first second = absurd (omega (arith, first, second))
one_comparison Less Greater m n first second = absurd (omega (arith, first, second))
one_comparison Equal Less m n first second = absurd (omega (arith, first, second))
one_comparison Equal Equal m n first second = refl
one_comparison Equal Greater m n first second = absurd (omega (arith, first, second))
one_comparison Greater Less m n first second = absurd (omega (arith, first, second))
one_comparison Greater Equal m n first second = absurd (omega (arith, first, second))
one_comparison Greater Greater m n first second = refl

pub wanted_is : (o p : Ordering) (m n : ℕ) → IsCompared o m n → IsTrue (ordering_index o == ordering_index p) ↔ IsCompared p m n
wanted_is o p m n compared = (λ h. subst (λ (q : Ordering). IsCompared q m n) (numbers h) compared, λ h. eq-eqb (ordering_index o) (ordering_index p) (ap ordering_index (one_comparison o p m n compared h)))
  where
    numbers : IsTrue (ordering_index o == ordering_index p) → o ≡ p
    numbers h = sym (ordering_at-index o) ∙ ap ordering_at (eqb-true (ordering_index o) (ordering_index p) h) ∙ ordering_at-index p

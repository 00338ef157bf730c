-- Names, each once in order of first occurrence.
use Rattle.std.proofs.Common.{◌≡◌, ◌≢◌, ℕ, ◌+◌, ◌<◌, ◌≤◌, Bool, true, false, not, cond, ◌⊎◌, inl, inr, List, [], ◌∷◌, ◌++◌, filter, length, get_or, take, refl, sym, ap, ◌∙◌, subst, true≢false, arith}
use Rattle.std.specs.List.{All, Contains}
use Rattle.std.specs.Str.{bytes_eq}
use Rattle.std.proofs.lemmas.Slice.Eq.{bytes_eq-Decides}
use Rattle.std.proofs.lemmas.List.{append-nil, take_more}
use Rattle.std.proofs.lemmas.List.Elements.{All-nil, All-cons, All-filter, All-weaker, Contains-get_or, filter-append, filter_passes}
use Rattle.std.proofs.lemmas.List.Kept.{AllPairs-cons}
use Rattle.digit_tuple.specs.Names.{AreDistinct, names_without}
use Rattle.digit_tuple.proofs.MemberLemmas.{Contains-cases, Contains-filter, Contains-from_filter, Contains-head, Contains-none, Contains-tail}
use Rattle.project_close.proofs.ProjectionLemmas.{names_without-distinct}
use Rattle.number_relations.specs.Placed.{each_once}

-- each is one of the names
pub once_others : (names : List (List ℕ)) → All (Contains names) (each_once names)
once_others [] = All-nil (Contains [])
once_others (n ∷ names) =
    All-cons (Contains (n ∷ names)) n (names_without (each_once names) n) (Contains-head n names)
    (All-filter (λ m. not (bytes_eq m n)) (Contains (n ∷ names)) (each_once names)
    (All-weaker (Contains names) (Contains (n ∷ names)) (λ m there. Contains-tail n names m there) (each_once names) (once_others names)))

-- each of the names is there
pub once_contains : (names : List (List ℕ)) (m : List ℕ) → Contains names m → Contains (each_once names) m
once_contains [] m there = absurd (Contains-none m there)
once_contains (n ∷ names) m there = by (bytes_eq m n) refl (Contains-cases n names m there) (once_contains names m)
  where
    by : (b : Bool) → bytes_eq m n ≡ b → (n ≡ m) ⊎ Contains names m → (Contains names m → Contains (each_once names) m) → Contains (n ∷ names_without (each_once names) n) m
    by true is either rest = subst (Contains (n ∷ names_without (each_once names) n)) (sym ((bytes_eq-Decides m n).0 is)) (Contains-head n (names_without (each_once names) n))
    by false is (inl same) rest = absurd (true≢false (sym ((bytes_eq-Decides m n).1 (sym same)) ∙ is))
    by false is (inr later) rest = Contains-tail n (names_without (each_once names) n) m (Contains-filter (λ k. not (bytes_eq k n)) (each_once names) m (rest later) (ap not is))

pub once_there : (names : List (List ℕ)) → All (Contains (each_once names)) names
once_there names i d within = once_contains names (get_or names i d) (Contains-get_or names i d within)

-- no two are the same
pub once_distinct : (names : List (List ℕ)) → AreDistinct (each_once names)
once_distinct [] = λ i j d before within. absurd (omega (arith, within))
once_distinct (n ∷ names) =
    AllPairs-cons (λ k m. k ≢ m) n (names_without (each_once names) n)
    (All-weaker (λ m. not (bytes_eq m n) ≡ true) (λ m. n ≢ m) differ (names_without (each_once names) n) (filter_passes (λ m. not (bytes_eq m n)) (each_once names)))
    (names_without-distinct (each_once names) n (once_distinct names))
  where
    differ : (m : List ℕ) → not (bytes_eq m n) ≡ true → n ≢ m
    differ m passed same = true≢false (sym passed ∙ ap not ((bytes_eq-Decides m n).1 (sym same)))

-- a filter that keeps as many as there are keeps all
filter_short : {X : Type 0} (p : X → Bool) (xs : List X) → length (filter p xs) ≤ length xs
filter_short p [] = omega arith
filter_short p (x ∷ xs) = by (p x) (filter_short p xs)
  where
    by : (b : Bool) → length (filter p xs) ≤ length xs → length (cond b (x ∷ filter p xs) (filter p xs)) ≤ length (x ∷ xs)
    by true short = omega (arith, short)
    by false short = omega (arith, short)

filter_full : {X : Type 0} (p : X → Bool) (xs : List X) → length xs ≤ length (filter p xs) → filter p xs ≡ xs
filter_full p [] full = refl
filter_full p (x ∷ xs) full = by (p x) full (filter_full p xs)
  where
    by : (b : Bool) → length (x ∷ xs) ≤ length (cond b (x ∷ filter p xs) (filter p xs)) → (length xs ≤ length (filter p xs) → filter p xs ≡ xs) → cond b (x ∷ filter p xs) (filter p xs) ≡ x ∷ xs
    by true long rest = ap (λ ys. x ∷ ys) (rest (omega (arith, long)))
    by false long rest = absurd (omega (arith, long, filter_short p xs))

once_short : (names : List (List ℕ)) → length (each_once names) ≤ length names
once_short [] = omega arith
once_short (n ∷ names) = omega (arith, filter_short (λ m. not (bytes_eq m n)) (each_once names), once_short names)

-- where as many are left as there are, these are all of them
pub once_full : (names : List (List ℕ)) → length names ≤ length (each_once names) → each_once names ≡ names
once_full [] full = refl
once_full (n ∷ names) full =
    let short = filter_short (λ m. not (bytes_eq m n)) (each_once names) in
    let rest : each_once names ≡ names = once_full names (omega (arith, full, short)) in
    ap (λ ns. n ∷ ns) (filter_full (λ m. not (bytes_eq m n)) (each_once names) (omega (arith, full, once_short names)) ∙ rest)

pub once_all : (under names : List (List ℕ)) (count : ℕ) → names ≡ each_once under → count ≡ length names → length under ≤ count → names ≡ under
once_all under names count once is long = once ∙ once_full under (omega (arith, long, is, ap length once))

-- one more name: it is there, or comes after the others
abbrev IsOneMore : List (List ℕ) → List ℕ → Type 0
IsOneMore names m =
    (Contains (each_once names) m × (each_once (names ++ m ∷ []) ≡ each_once names))
    ⊎ ((Contains (each_once names) m → ⊥) × (each_once (names ++ m ∷ []) ≡ each_once names ++ m ∷ []))

without_one : (n m : List ℕ) (ns : List (List ℕ)) (b : Bool) → bytes_eq m n ≡ b → names_without (ns ++ m ∷ []) n ≡ names_without ns n ++ cond (not b) (m ∷ []) []
without_one n m ns b is =
    filter-append (λ k. not (bytes_eq k n)) ns (m ∷ []) ∙ ap (λ c. names_without ns n ++ cond (not c) (m ∷ []) []) is

once_push : (names : List (List ℕ)) (m : List ℕ) → IsOneMore names m
once_push [] m = inr (Contains-none m, refl)
once_push (n ∷ names) m = by (bytes_eq m n) refl (once_push names m)
  where
    by : (b : Bool) → bytes_eq m n ≡ b → IsOneMore names m → IsOneMore (n ∷ names) m
    by true is (inl found) = inl (subst (Contains (each_once (n ∷ names))) (sym ((bytes_eq-Decides m n).0 is)) (Contains-head n (names_without (each_once names) n)), ap (λ ns. n ∷ names_without ns n) found.1)
    by true is (inr none) =
        inl (
          subst (Contains (each_once (n ∷ names))) (sym ((bytes_eq-Decides m n).0 is)) (Contains-head n (names_without (each_once names) n)),
          ap (λ ns. n ∷ names_without ns n) none.1 ∙ ap (λ ns. n ∷ ns) (without_one n m (each_once names) true is ∙ append-nil (names_without (each_once names) n)),
        )
    by false is (inl found) =
        inl (Contains-tail n (names_without (each_once names) n) m (Contains-filter (λ k. not (bytes_eq k n)) (each_once names) m found.0 (ap not is)), ap (λ ns. n ∷ names_without ns n) found.1)
    by false is (inr none) =
        inr (
          apart,
          ap (λ ns. n ∷ names_without ns n) none.1 ∙ ap (λ ns. n ∷ ns) (without_one n m (each_once names) false is),
        )
      where
        apart : Contains (n ∷ names_without (each_once names) n) m → ⊥
        apart there = elim (Contains-cases n (names_without (each_once names) n) m there) [
          | inl same ↦ true≢false (sym ((bytes_eq-Decides m n).1 (sym same)) ∙ is)
          | inr later ↦ none.0 (Contains-from_filter (λ k. not (bytes_eq k n)) (each_once names) m later).0
        ]

-- the next name is added unless it is there
pub once_step : (names : List (List ℕ)) (i : ℕ) (x : List ℕ) → i < length names → x ≡ get_or names i x → (old new : List (List ℕ)) → old ≡ each_once (take i names)
    → (Contains old x → new ≡ old) → ((Contains old x → ⊥) → new ≡ old ++ x ∷ []) → new ≡ each_once (take (i + 1) names)
once_step names i x within is old new kept known unknown =
    by (once_push (take i names) x) ∙ sym (ap each_once (take_more names i x within ∙ ap (λ n. take i names ++ n ∷ []) (sym is)))
  where
    by : IsOneMore (take i names) x → new ≡ each_once (take i names ++ x ∷ [])
    by (inl found) = known (subst (λ ns. Contains ns x) (sym kept) found.0) ∙ kept ∙ sym found.1
    by (inr none) = unknown (λ there. none.0 (subst (λ ns. Contains ns x) kept there)) ∙ ap (λ ns. ns ++ x ∷ []) kept ∙ sym none.1

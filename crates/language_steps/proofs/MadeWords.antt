-- Which words the automata accept that steps make.
use Rattle.std.proofs.Common.{◌≡◌, ◌⊎◌, ℕ, ℤ, Bool, true, false, List, [], ◌∷◌, ◌++◌, reverse, inl, inr, refl, sym, ap, ◌∙◌, subst}
use Rattle.std.specs.List.{All, AllByRecursion, concat, flat_map}
use Rattle.std.proofs.lemmas.List.{reverse-reverse}
use Rattle.digit_tuple.specs.Deterministic.{Automaton, accepts_of}
use Rattle.digit_tuple.specs.Sets.{IsAscending}
use Rattle.digit_tuple.specs.Tuples.{Codes}
use Rattle.automaton_steps.specs.ReverseSteps.{IsReversed}
use Rattle.product_op.specs.Connectives.{connective}
use Rattle.product_op.specs.declared.op.Op.TheVariants.{And, Or}
use Rattle.lang_ops.specs.ConcatSteps.{IsConcatAutomaton}
use Rattle.lang_ops.specs.ProductSteps.{IsCombination}
use Rattle.lang_ops.specs.StarSteps.{IsStarAutomaton}
use Rattle.language_steps.proofs.Coded.{codes_join, codes_divide, codes_reverse, is_word, Accepted, IsOf, accepted_at, pieces_divide, pieces_join}

either_true : (x y : Bool) → connective Or x y ≡ true → (x ≡ true) ⊎ (y ≡ true)
either_true true true is = inl refl
either_true true false is = inl refl
either_true false true is = inr refl
either_true false false is = absurd (cc)

first_true : (x y : Bool) → x ≡ true → connective Or x y ≡ true
first_true true true is = refl
first_true true false is = refl
first_true false y is = absurd (cc)

second_true : (x y : Bool) → y ≡ true → connective Or x y ≡ true
second_true true true is = refl
second_true false true is = refl
second_true x false is = absurd (cc)

both_true : (x y : Bool) → connective And x y ≡ true → (x ≡ true) × (y ≡ true)
both_true true true is = (refl, refl)
both_true true false is = absurd (cc)
both_true false true is = absurd (cc)
both_true false false is = absurd (cc)

true_both : (x y : Bool) → x ≡ true → y ≡ true → connective And x y ≡ true
true_both true true one other = refl
true_both true false one other = absurd (cc)
true_both false y one other = absurd (cc)

all_of : {X : Type 0} (P Q : X → Type 0) → ((x : X) → P x → Q x) → (xs : List X) → AllByRecursion P xs → AllByRecursion Q xs
all_of P Q so [] all = tt
all_of P Q so (x ∷ xs) all = (so x all.0, all_of P Q so xs all.1)

module _ (sets : List (List ℤ)) (up : All IsAscending sets) where
  module _ (L M : List (List ℤ) → Type 0) (a b made : Automaton) (one : IsOf sets L a) (other : IsOf sets M b) where
    -- in one of them
    pub union_of : IsCombination Or a b made → IsOf sets (λ tuples. L tuples ⊎ M tuples) made
    union_of is = record { sizes = is.sizes ∙ one.sizes; canonical = is.canonical; fits = fits; has = has }
      where
        language : (tuples : List (List ℤ)) (word : List ℕ) → Codes sets tuples word → accepts_of made word ≡ connective Or (accepts_of a word) (accepts_of b word)
        language tuples word codes = is.language word (is_word sets a one.sizes tuples word codes)

        fits : (tuples : List (List ℤ)) → L tuples ⊎ M tuples → Accepted sets made tuples
        fits tuples (inl l) = let (word, codes, accepts) = one.fits tuples l in (word, codes, language tuples word codes ∙ first_true (accepts_of a word) (accepts_of b word) accepts)
        fits tuples (inr m) = let (word, codes, accepts) = other.fits tuples m in (word, codes, language tuples word codes ∙ second_true (accepts_of a word) (accepts_of b word) accepts)

        has : (tuples : List (List ℤ)) → Accepted sets made tuples → L tuples ⊎ M tuples
        has tuples (word, codes, accepts) = elim (either_true (accepts_of a word) (accepts_of b word) (sym (language tuples word codes) ∙ accepts)) [
          | inl first ↦ inl (one.has tuples (word, codes, first))
          | inr second ↦ inr (other.has tuples (word, codes, second))
        ]

    -- in both
    pub intersection_of : IsCombination And a b made → IsOf sets (λ tuples. L tuples × M tuples) made
    intersection_of is = record { sizes = is.sizes ∙ one.sizes; canonical = is.canonical; fits = fits; has = has }
      where
        language : (tuples : List (List ℤ)) (word : List ℕ) → Codes sets tuples word → accepts_of made word ≡ connective And (accepts_of a word) (accepts_of b word)
        language tuples word codes = is.language word (is_word sets a one.sizes tuples word codes)

        fits : (tuples : List (List ℤ)) → L tuples × M tuples → Accepted sets made tuples
        fits tuples (l, m) =
            let (word, codes, accepts) = one.fits tuples l in
            (word, codes, language tuples word codes ∙ true_both (accepts_of a word) (accepts_of b word) accepts (accepted_at sets up b tuples word codes (other.fits tuples m)))

        has : (tuples : List (List ℤ)) → Accepted sets made tuples → L tuples × M tuples
        has tuples (word, codes, accepts) =
            let both = both_true (accepts_of a word) (accepts_of b word) (sym (language tuples word codes) ∙ accepts) in
            (one.has tuples (word, codes, both.0), other.has tuples (word, codes, both.1))

    -- one after the other
    pub concatenation_of : IsConcatAutomaton a b made → IsOf sets (λ tuples. (us : List (List ℤ)) × (vs : List (List ℤ)) × (tuples ≡ us ++ vs) × L us × M vs) made
    concatenation_of is = record { sizes = is.sizes ∙ one.sizes; canonical = is.canonical; fits = fits; has = has }
      where
        fits : (tuples : List (List ℤ)) → (us : List (List ℤ)) × (vs : List (List ℤ)) × (tuples ≡ us ++ vs) × L us × M vs → Accepted sets made tuples
        fits tuples (us, vs, are, l, m) =
            let (u, first, accepts) = one.fits us l in
            let (v, second, also) = other.fits vs m in
            let codes : Codes sets tuples (u ++ v) = subst (λ (ts : List (List ℤ)). Codes sets ts (u ++ v)) (sym are) (codes_join sets us vs u v first second) in
            (u ++ v, codes, (is.language (u ++ v) (is_word sets a one.sizes tuples (u ++ v) codes)).1 (u, v, refl, accepts, also))

        has : (tuples : List (List ℤ)) → Accepted sets made tuples → (us : List (List ℤ)) × (vs : List (List ℤ)) × (tuples ≡ us ++ vs) × L us × M vs
        has tuples (word, codes, accepts) =
            let (u, v, cut, first, second) = (is.language word (is_word sets a one.sizes tuples word codes)).0 accepts in
            let parts = codes_divide sets tuples u v (subst (Codes sets tuples) cut codes) in
            (parts.0, parts.1, parts.2, one.has parts.0 (u, parts.3, first), other.has parts.1 (v, parts.4, second))

  module _ (L : List (List ℤ) → Type 0) (a made : Automaton) (one : IsOf sets L a) where
    -- any number of words
    pub star_of : IsStarAutomaton a made → IsOf sets (λ tuples. (parts : List (List (List ℤ))) × (tuples ≡ flat_map (λ part. part) parts) × AllByRecursion L parts) made
    star_of is = record { sizes = is.sizes ∙ one.sizes; canonical = is.canonical; fits = fits; has = has }
      where
        fits : (tuples : List (List ℤ)) → (parts : List (List (List ℤ))) × (tuples ≡ flat_map (λ part. part) parts) × AllByRecursion L parts → Accepted sets made tuples
        fits tuples (parts, are, all) =
            let joined = pieces_join sets a parts (all_of L (Accepted sets a) one.fits parts all) in
            let codes : Codes sets tuples (concat joined.0) = subst (λ (ts : List (List ℤ)). Codes sets ts (concat joined.0)) (sym are) joined.1 in
            (concat joined.0, codes, (is.language (concat joined.0) (is_word sets a one.sizes tuples (concat joined.0) codes)).1 (joined.0, refl, joined.2))

        has : (tuples : List (List ℤ)) → Accepted sets made tuples → (parts : List (List (List ℤ))) × (tuples ≡ flat_map (λ part. part) parts) × AllByRecursion L parts
        has tuples (word, codes, accepts) =
            let (pieces, are, all) = (is.language word (is_word sets a one.sizes tuples word codes)).0 accepts in
            let divided = pieces_divide sets a tuples pieces (subst (Codes sets tuples) are codes) all in
            (divided.0, divided.1, all_of (Accepted sets a) L one.has divided.0 divided.2)

    -- reversed words
    pub reversal_of : IsReversed a made → IsOf sets (λ tuples. L (reverse tuples)) made
    reversal_of is = record { sizes = is.sizes ∙ one.sizes; canonical = is.canonical; fits = fits; has = has }
      where
        language : (tuples : List (List ℤ)) (word : List ℕ) → Codes sets tuples word → accepts_of made word ≡ accepts_of a (reverse word)
        language tuples word codes = is.language word (is_word sets a one.sizes tuples word codes)

        fits : (tuples : List (List ℤ)) → L (reverse tuples) → Accepted sets made tuples
        fits tuples l =
            let (word, own, accepts) = one.fits (reverse tuples) l in
            let codes : Codes sets tuples (reverse word) = subst (λ (ts : List (List ℤ)). Codes sets ts (reverse word)) (reverse-reverse tuples) (codes_reverse sets (reverse tuples) word own) in
            (reverse word, codes, language tuples (reverse word) codes ∙ (ap (accepts_of a) (reverse-reverse word) ∙ accepts))

        has : (tuples : List (List ℤ)) → Accepted sets made tuples → L (reverse tuples)
        has tuples (word, codes, accepts) = one.has (reverse tuples) (reverse word, codes_reverse sets tuples word codes, sym (language tuples word codes) ∙ accepts)

-- The word at a place among those of its length, digit by digit, and the word of a number.
use Rattle.std.proofs.Common.{◌≡◌, ℕ, zero, suc, ◌+◌, ◌<◌, ◌≤◌, Bool, true, false, cond, List, [], ◌∷◌, ◌++◌, length, refl, ap, sym, ◌∙◌, subst, arith, ◌⊎◌, inl, inr, count_by, append_assoc, IsTrue, mul-one}
use Rattle.std.proofs.lemmas.Bool.{cases_Bool, cases_lt, and_right}
use Rattle.std.proofs.lemmas.List.{append-nil}
use Rattle.digit_tuple.specs.Deterministic.{Automaton, letters_of}
use Rattle.digit_tuple.specs.Letters.{IsWord, product}
use Rattle.digit_tuple.specs.Paddings.{in_order}
use Rattle.digit_tuple.specs.declared.direction.Direction.{Direction}
use Rattle.digit_tuple.proofs.PaddingLemmas.{in_order-twice}
use Rattle.digit_tuple.proofs.WordLemmas.{IsWord-push}
use Rattle.numeration.specs.Words.{led, words, rank, is_plain, IsLanguage}
use Rattle.numeration.specs.Systems.{System, IsSystem, IsRep}
use Rattle.numeration.specs.Relations.{IsLanguageOf}
use Rattle.numeration.proofs.CountLemmas.{count_by-append, count_by-map, count_by-led}
use Rattle.numeration.proofs.BelowLemmas.{size, below, after, led_below, below-cons, below-less}
use Rattle.numeration.proofs.RankLemmas.{rank_is_below, rank-zero, rep_exists}
use Rattle.constants.specs.Continuations.{read, continuations, continuations_below}
use Rattle.constants.specs.Places.{IsAtPlace}

-- the language of what goes on after a word
abbrev pub onward : (List ℕ → Bool) → List ℕ → List ℕ → Bool
onward test w u = test (w ++ u)

joined : (test : List ℕ → Bool) (w : List ℕ) (a : ℕ) → onward test (w ++ a ∷ []) ≡ after (onward test w) a
joined test w a = λ i u. test (append_assoc w (a ∷ []) u i)

-- one digit more
pub below-suc : (d : ℕ) (test : List ℕ → Bool) (w : List ℕ) (n a : ℕ)
    → continuations_below d test w n (suc a) ≡ continuations_below d test w n a + continuations d test (w ++ a ∷ []) n
below-suc d test w n a =
    count_by-append (onward test w) (led (words d n) a) _
    ∙ ap (λ k. continuations_below d test w n a + k) (count_by-map (onward test w) (λ u. a ∷ u) (words d n) ∙ ap (λ (t : List ℕ → Bool). count_by t (words d n)) (sym (joined test w a)))

-- a word that may be the prefix of the one at the place
pub record IsPart (d : ℕ) (test : List ℕ → Bool) (place : ℕ) (w : List ℕ) (n rest : ℕ) : Type 0 where
  pub over : IsWord d w
  pub within : rest < continuations d test w n
  pub placed : (u : List ℕ) → length u ≡ n → IsWord d u → below d test (w ++ u) + rest ≡ place + below d (onward test w) u

pub part-first : (d : ℕ) (test : List ℕ → Bool) (place n : ℕ) → place < continuations d test [] n → IsPart d test place [] n place
part-first d test place n within = record {
  over = tt;
  within = within;
  placed = λ u long over. omega arith;
}

pub part-more : (d : ℕ) (test : List ℕ → Bool) (place n a rest left : ℕ) (w : List ℕ) → IsPart d test place w (suc n) rest → a < d
    → continuations_below d test w n a + left ≡ rest → left < continuations d test (w ++ a ∷ []) n → IsPart d test place (w ++ a ∷ []) n left
part-more d test place n a rest left w part small before within = record {
  over = IsWord-push d w a part.over small;
  within = within;
  placed = goes_on;
}
  where
    goes_on : (u : List ℕ) → length u ≡ n → IsWord d u → below d test ((w ++ a ∷ []) ++ u) + left ≡ place + below d (onward test (w ++ a ∷ [])) u
    goes_on u long over =
        let whole : below d test (w ++ a ∷ u) + rest ≡ place + below d (onward test w) (a ∷ u) = part.placed (a ∷ u) (ap suc long) (small, over) in
        let same : below d test ((w ++ a ∷ []) ++ u) ≡ below d test (w ++ a ∷ u) = ap (λ v. below d test v) (append_assoc w (a ∷ []) u) in
        let split : below d (onward test w) (a ∷ u) ≡ led_below d (onward test w) (length u) a + below d (after (onward test w) a) u = below-cons d (onward test w) a u small in
        let length_is : led_below d (onward test w) (length u) a ≡ led_below d (onward test w) n a = ap (λ m. led_below d (onward test w) m a) long in
        let led_is : continuations_below d test w n a ≡ led_below d (onward test w) n a = count_by-led (onward test w) (words d n) a in
        let next : below d (onward test (w ++ a ∷ [])) u ≡ below d (after (onward test w) a) u = ap (λ (t : List ℕ → Bool). below d t u) (joined test w a) in
        omega (arith, whole, same, split, length_is, led_is, next, before)

pub part-last : (d : ℕ) (test : List ℕ → Bool) (place rest n : ℕ) (w : List ℕ) → length w ≡ n → IsPart d test place w 0 rest → IsAtPlace d test n place w
part-last d test place rest n w long part = by (cases_Bool (test (w ++ [])))
  where
    by : (test (w ++ []) ≡ true) ⊎ (test (w ++ []) ≡ false) → IsAtPlace d test n place w
    by (inl valid) =
        let one : continuations d test w 0 ≡ 1 = ap (λ b. 0 + cond {A = ℕ} b 1 0) valid in
        let none : below d (onward test w) [] ≡ 0 = ap (λ b. 0 + cond {A = ℕ} b 1 0) (and_right (test (w ++ [])) false refl) in
        let whole : below d test (w ++ []) + rest ≡ place + below d (onward test w) [] = part.placed [] refl tt in
        let same : below d test (w ++ []) ≡ below d test w = ap (λ v. below d test v) (append-nil w) in
        let few : rest < continuations d test w 0 = part.within in
        let placed : below d test w ≡ place = omega (arith, one, none, whole, same, few) in
        record { over = part.over; long = long; valid = subst (λ v. IsTrue (test v)) (append-nil w) valid; placed = placed }
    by (inr invalid) = absurd (let none : continuations d test w 0 ≡ 0 = ap (λ b. 0 + cond {A = ℕ} b 1 0) invalid in let few : rest < continuations d test w 0 = part.within in omega (arith, none, few))

-- the word at the number's place, where fewer words are shorter, is that of the number
pub place-rep : (d : ℕ) (test : List ℕ → Bool) (number n : ℕ) (w : List ℕ) → IsLanguage d test → IsAtPlace d test n number w
    → ((m : ℕ) → m < n → continuations d test [] m ≤ number) → IsRep d test number w
place-rep d test number n w language at least = record { valid = at.valid; plain = by w at; ranked = ranked w at }
  where
    ranked : (v : List ℕ) → IsAtPlace d test n number v → rank d test v ≡ number
    ranked v is = rank_is_below d test v language is.over ∙ is.placed

    by : (v : List ℕ) → IsAtPlace d test n number v → IsTrue (is_plain v)
    by [] is = refl
    by (suc a ∷ v) is = refl
    by (zero ∷ v) is =
        let valid : IsTrue (test v) = (language.zeros v).0 is.valid in
        let less : below d test v < size d test (length v) = below-less d test v is.over.1 valid in
        let same : rank d test (0 ∷ v) ≡ rank d test v = rank-zero d test v in
        let placed : rank d test (0 ∷ v) ≡ number = ranked (0 ∷ v) is in
        let is_below : rank d test v ≡ below d test v = rank_is_below d test v language is.over.1 in
        let few : size d test (length v) ≤ number = least (length v) (omega (arith, is.long)) in
        absurd (omega (arith, less, same, placed, is_below, few))

-- where no more words are as long, the word of the number is longer
pub longer-rep : (d : ℕ) (test : List ℕ → Bool) (number longest : ℕ) → IsLanguage d test
    → ((m : ℕ) → m ≤ longest → continuations d test [] m ≤ number) → (w : List ℕ) × IsRep d test number w × (longest < length w)
longer-rep d test number longest language few =
    let found = rep_exists d test number language in
    let w : List ℕ = found.0 in
    let less : below d test w < size d test (length w) = below-less d test w (language.over w found.1.valid) found.1.valid in
    let placed : below d test w ≡ number = sym (rank_is_below d test w language (language.over w found.1.valid)) ∙ found.1.ranked in
    (w, found.1, by w less placed (cases_lt longest (length w)))
  where
    by : (w : List ℕ) → below d test w < size d test (length w) → below d test w ≡ number → (longest < length w) ⊎ (length w ≤ longest) → longest < length w
    by w less placed (inl long) = long
    by w less placed (inr short) = absurd (let most : size d test (length w) ≤ number = few (length w) short in omega (arith, less, placed, most))

-- the automaton of a system's language has its digits and its test
language-digits : (s : System) (direction : Direction) (a : Automaton) → IsLanguageOf direction s a → letters_of a ≡ s.digits
language-digits s direction a language = ap product language.sizes ∙ mul-one s.digits

language-test : (s : System) (direction : Direction) (a : Automaton) → IsLanguageOf direction s a → read direction a ≡ s.test
language-test s direction a language = λ i w. (let same : read direction a w ≡ s.test w = language.accepts (in_order direction w) ∙ ap s.test (in_order-twice direction w) in same) i

-- the word at the number's place, for a system
pub system-rep : (s : System) (direction : Direction) (a : Automaton) (number n : ℕ) (w : List ℕ) → IsSystem s → IsLanguageOf direction s a
    → IsAtPlace (letters_of a) (read direction a) n number w → ((m : ℕ) → m < n → continuations (letters_of a) (read direction a) [] m ≤ number)
    → IsRep s.digits s.test number w
system-rep s direction a number n w laws language at least =
    place-rep s.digits s.test number n w laws
    (subst (λ d. IsAtPlace d s.test n number w) digits (subst (λ (t : List ℕ → Bool). IsAtPlace (letters_of a) t n number w) test at))
    (subst (λ d. (m : ℕ) → m < n → continuations d s.test [] m ≤ number) digits
    (subst (λ (t : List ℕ → Bool). (m : ℕ) → m < n → continuations (letters_of a) t [] m ≤ number) test least))
  where
    digits : letters_of a ≡ s.digits
    digits = language-digits s direction a language

    test : read direction a ≡ s.test
    test = language-test s direction a language

pub system-longer : (s : System) (direction : Direction) (a : Automaton) (number longest : ℕ) → IsSystem s → IsLanguageOf direction s a
    → ((m : ℕ) → m ≤ longest → continuations (letters_of a) (read direction a) [] m ≤ number)
    → (w : List ℕ) × IsRep s.digits s.test number w × (longest < length w)
system-longer s direction a number longest laws language few =
    longer-rep s.digits s.test number longest laws
    (subst (λ d. (m : ℕ) → m ≤ longest → continuations d s.test [] m ≤ number) digits
    (subst (λ (t : List ℕ → Bool). (m : ℕ) → m ≤ longest → continuations (letters_of a) t [] m ≤ number) test few))
  where
    digits : letters_of a ≡ s.digits
    digits = language-digits s direction a language

    test : read direction a ≡ s.test
    test = language-test s direction a language

-- Widths: by relations that are the same on words, and by equivalences.
use Rattle.std.proofs.Common.{◌≡◌, ◌≢◌, ℕ, zero, suc, ◌<◌, ◌≤◌, List, [], ◌∷◌, length, get_or, Option, ◌↔◌, refl, sym, ◌∙◌, subst, arith}
use Rattle.std.specs.List.{All}
use Rattle.std.proofs.lemmas.List.{get_or_default}
use Rattle.std.proofs.lemmas.List.Elements.{All-contains}
use Rattle.digit_tuple.specs.Letters.{IsWord}
use Rattle.digit_tuple.specs.Keys.{key_run, LeadAlike}
use Rattle.digit_tuple.specs.Width.{HasApart, HasWidth, IsEquivalence, IsOneWidth}
use Rattle.digit_tuple.proofs.PigeonLemmas.{choose, few_below}

module _ (R S : List ℕ → List ℕ → Type 0) (letters : ℕ) where
  pub HasApart-same : (k : ℕ) → ((w v : List ℕ) → IsWord letters w → IsWord letters v → S w v → R w v) → HasApart R letters k → HasApart S letters k
  HasApart-same k back apart = record {
    words = apart.words;
    count = apart.count;
    over = apart.over;
    apart = λ i j d before within alike. apart.apart i j d before within (back (get_or apart.words i d) (get_or apart.words j d) (apart.over i d (omega arith)) (apart.over j d within) alike);
  }

  pub HasWidth-same : (k : ℕ) → ((w v : List ℕ) → IsWord letters w → IsWord letters v → R w v → S w v) → ((w v : List ℕ) → IsWord letters w → IsWord letters v → S w v → R w v) → HasWidth R letters k → HasWidth S letters k
  HasWidth-same k over back width = record {
    some = record {
      words = width.some.words;
      count = width.some.count;
      over = width.some.over;
      apart = λ i j d before within alike. width.some.apart i j d before within (back (get_or width.some.words i d) (get_or width.some.words j d) (width.some.over i d (omega arith)) (width.some.over j d within) alike);
    };
    whole = λ w inside. let found = width.whole w inside in
        (found.0, found.1, found.2, found.3, over w found.1 inside (All-contains (IsWord letters) width.some.words found.1 width.some.over (found.0, found.2, found.3)) found.4);
  }

-- one word
pub HasApart-one : (R : List ℕ → List ℕ → Type 0) (letters : ℕ) → HasApart R letters 1
HasApart-one R letters = record { words = [] ∷ []; count = refl; over = over; apart = λ i j d before within. absurd (omega arith) }
  where
    over : All (IsWord letters) ([] ∷ [])
    over zero d within = tt
    over (suc k) d within = absurd (omega arith)

-- where all words are alike
pub HasWidth-one : (R : List ℕ → List ℕ → Type 0) (letters : ℕ) → ((w : List ℕ) → IsWord letters w → R w []) → HasWidth R letters 1
HasWidth-one R letters alike = record {
  some = record { words = [] ∷ []; count = refl; over = over; apart = λ i j d before within. absurd (omega arith) };
  whole = λ w inside. (0, [], omega arith, refl, alike w inside);
}
  where
    over : All (IsWord letters) ([] ∷ [])
    over zero d within = tt
    over (suc k) d within = absurd (omega arith)

-- words that are apart are no more than those of a width, by a relation of one value
pub apart_within_width : (R : List ℕ → List ℕ → Type 0) (letters k m : ℕ) → ((w v u : List ℕ) → R w u → R v u → R w v) → HasApart R letters k → HasWidth R letters m → k ≤ m
apart_within_width R letters k m shared apart width =
    let P : ℕ → ℕ → Type 0 = λ q j. (j < m) × R (get_or apart.words q []) (get_or width.some.words j []) in
    let xs = choose P k found in
    omega (arith, xs.1, few_below m xs.0 (λ i within. (xs.2 i (omega (arith, xs.1))).0) (λ i j before within same. by xs.0 xs.1 xs.2 i j before within same))
  where
    found : (q : ℕ) → q < k → (j : ℕ) × ((j < m) × R (get_or apart.words q []) (get_or width.some.words j []))
    found q within =
        let any = width.whole (get_or apart.words q []) (apart.over q [] (omega (arith, apart.count))) in
        let at : get_or width.some.words any.0 [] ≡ any.1 = get_or_default width.some.words any.0 [] any.1 any.2 ∙ any.3 in
        (any.0, (omega (arith, any.2, width.some.count), subst (R (get_or apart.words q [])) (sym at) any.4))

    by : (xs : List ℕ) → length xs ≡ k → ((q : ℕ) → q < k → (get_or xs q 0 < m) × R (get_or apart.words q []) (get_or width.some.words (get_or xs q 0) []))
        → (i j : ℕ) → i < j → j < length xs → get_or xs i 0 ≢ get_or xs j 0
    by xs count are i j before within same =
        let one = (are i (omega (arith, count))).1 in
        let two = (are j (omega (arith, count))).1 in
        let Q : ℕ → Type 0 = λ p. R (get_or apart.words i []) (get_or width.some.words p []) in
        apart.apart i j [] before (omega (arith, count, apart.count)) (shared (get_or apart.words i []) (get_or apart.words j []) (get_or width.some.words (get_or xs j 0) []) (subst Q same one) two)

module _ (alike : List ℕ → List ℕ → Type 0) (letters : ℕ) (equivalence : IsEquivalence alike) where
  -- no more words are apart than a width counts
  pub HasApart-within : (j k : ℕ) → HasApart alike letters j → HasWidth alike letters k → j ≤ k
  HasApart-within j k = apart_within_width alike letters j k (λ w v u one two. equivalence.transitive w u v one (equivalence.symmetric v u two))

  -- there is one width
  pub HasWidth-unique : (j k : ℕ) → HasWidth alike letters j → HasWidth alike letters k → j ≡ k
  HasWidth-unique j k one two = omega (arith, HasApart-within j k one.some two, HasApart-within k j two.some one)

  -- a width excludes that more words are apart
  pub HasWidth-excludes : (j k : ℕ) → k < j → HasWidth alike letters k → HasApart alike letters j → ⊥
  HasWidth-excludes j k more width apart = omega (arith, HasApart-within j k apart width)

  pub IsOneWidth-equivalence : IsOneWidth alike letters
  IsOneWidth-equivalence = record { one = HasWidth-unique; excludes = HasWidth-excludes }

-- words that have one value are alike
pub IsEquivalence-value : {X : Type 0} (f : List ℕ → X) → IsEquivalence (λ w v. f w ≡ f v)
IsEquivalence-value f = record { reflexive = λ w. refl; symmetric = λ w v same. sym same; transitive = λ u v w one two. one ∙ two }

-- words that have the same values at all others are alike
pub IsEquivalence-values : {X : Type 0} (P : List ℕ → Type 0) (f : List ℕ → List ℕ → X) → IsEquivalence (λ w v. (u : List ℕ) → P u → f w u ≡ f v u)
IsEquivalence-values P f = record { reflexive = λ w u over. refl; symmetric = λ w v same u over. sym (same u over); transitive = λ u v w one two x over. one x over ∙ two x over }

-- words of which the same holds are alike
pub IsEquivalence-facts : {X : Type 0} (P : List ℕ → X → Type 0) → IsEquivalence (λ w v. (x : X) → P w x ↔ P v x)
IsEquivalence-facts P = record {
  reflexive = λ w x. ((λ holds. holds), (λ holds. holds));
  symmetric = λ w v same x. ((same x).1, (same x).0);
  transitive = λ u v w one two x. ((λ holds. (two x).0 ((one x).0 holds)), (λ holds. (one x).1 ((two x).1 holds)));
}

pub IsEquivalence-lead : (after : List ℕ → ℕ → Option (List ℕ)) (start : List ℕ) → IsEquivalence (LeadAlike after start)
IsEquivalence-lead after start = IsEquivalence-value (key_run after start)

-- Letters by their parts, and chains of them.
use Rattle.std.proofs.Common.{◌≡◌, ◌≢◌, ◌==◌, ℕ, ◌+◌, ◌-◌, ◌<◌, ◌≤◌, suc, zero, Bool, true, false, cond, List, [], ◌∷◌, ◌++◌, length, filter, get_or, set, take, drop, ◌⊎◌, inl, inr, refl, sym, ap, ◌∙◌, subst, arith}
use Rattle.std.specs.List.{All, Contains, range_with_len}
use Rattle.std.proofs.lemmas.Bool.{cases_eq}
use Rattle.std.proofs.lemmas.Bool.Decides.{Decides-eqb}
use Rattle.std.proofs.lemmas.List.{length-append, length-set, length_push, get_or-set_same, get_or-set_other, get_or_append_left, get_or_push, take-append-le, drop-append-le, length-drop, drop_at, take_all}
use Rattle.digit_tuple.specs.PartIndex.{letters_from, letters_with, IsBlock}
use Rattle.digit_tuple.specs.PartChains.{IsChain, AreChains}
use Rattle.digit_tuple.proofs.MemberLemmas.{Contains-filter, Contains-from_filter}
use Rattle.digit_tuple.proofs.RangeLemmas.{Contains-range, Contains-from_range}

-- the letters from one on, and it before them if it has the part
letters_from-step : (parts : List ℕ) (part from n : ℕ) → from < length parts → length parts - from ≡ n
    → filter (λ a. get_or parts a 0 == part) (range_with_len from n) ≡ cond (get_or parts from 0 == part) (from ∷ letters_from parts part (from + 1)) (letters_from parts part (from + 1))
letters_from-step parts part from zero less count = absurd (omega (arith, less, count))
letters_from-step parts part from (suc n) less count =
    let rest : n ≡ length parts - (from + 1) = omega (arith, less, count) in
    ap (λ m. cond (get_or parts from 0 == part) (from ∷ filter (λ a. get_or parts a 0 == part) (range_with_len (from + 1) m)) (filter (λ a. get_or parts a 0 == part) (range_with_len (from + 1) m))) rest

pub letters_from-same : (parts : List ℕ) (part from : ℕ) → from < length parts → get_or parts from 0 ≡ part → letters_from parts part from ≡ from ∷ letters_from parts part (from + 1)
letters_from-same parts part from less same =
    letters_from-step parts part from (length parts - from) less refl
    ∙ ap (λ b. cond b (from ∷ letters_from parts part (from + 1)) (letters_from parts part (from + 1))) ((Decides-eqb (get_or parts from 0) part).1 same)

pub letters_from-other : (parts : List ℕ) (part from : ℕ) → from < length parts → get_or parts from 0 ≢ part → letters_from parts part from ≡ letters_from parts part (from + 1)
letters_from-other parts part from less other =
    letters_from-step parts part from (length parts - from) less refl
    ∙ ap (λ b. cond b (from ∷ letters_from parts part (from + 1)) (letters_from parts part (from + 1))) (no (get_or parts from 0 == part) refl)
  where
    no : (b : Bool) → (get_or parts from 0 == part) ≡ b → b ≡ false
    no true is = absurd (other ((Decides-eqb (get_or parts from 0) part).0 is))
    no false is = refl

-- a letter before a chain is not in it
pub IsChain-kept : (next : List ℕ) (a v at : ℕ) (list : List ℕ) → a < at → IsChain next at list → IsChain (set next a v) at list
IsChain-kept next a v at [] before chain = omega (arith, length-set next a v, chain)
IsChain-kept next a v at (x ∷ list) before chain =
    let same : get_or (set next a v) at 0 ≡ get_or next at 0 = get_or-set_other next a at v 0 (λ is. omega (arith, is, before)) in (
      omega (arith, length-set next a v, chain.0),
      chain.1,
      omega (arith, same, chain.2),
      subst (λ m. IsChain (set next a v) m list) (sym same) (IsChain-kept next a v (get_or next at 0) list (omega (arith, before, chain.2)) chain.3),
    )

-- a chain that begins with a letter
pub IsChain-letter : (next : List ℕ) (at : ℕ) (list : List ℕ) → at < length next → IsChain next at list → (rest : List ℕ) × (list ≡ at ∷ rest) × (at < get_or next at 0) × IsChain next (get_or next at 0) rest
IsChain-letter next at [] less chain = absurd (omega (arith, less, chain))
IsChain-letter next at (x ∷ list) less chain = (list, ap (λ y. y ∷ list) chain.1, chain.2, chain.3)

-- and one that is over
pub IsChain-end : (next : List ℕ) (at : ℕ) (list : List ℕ) → length next ≤ at → IsChain next at list → list ≡ []
IsChain-end next at [] past chain = refl
IsChain-end next at (x ∷ list) past chain = absurd (omega (arith, past, chain.0))

-- the chain of a letter is one
pub IsChain-one : (next : List ℕ) (at : ℕ) (some more : List ℕ) → IsChain next at some → IsChain next at more → some ≡ more
IsChain-one next at [] [] first second = refl
IsChain-one next at [] (y ∷ ys) first second = absurd (omega (arith, first, second.0))
IsChain-one next at (x ∷ xs) [] first second = absurd (omega (arith, second, first.0))
IsChain-one next at (x ∷ xs) (y ∷ ys) first second =
    let same : x ≡ y = first.1 ∙ sym second.1 in
    ap (λ z. z ∷ xs) same ∙ ap (λ zs. y ∷ zs) (IsChain-one next (get_or next at 0) xs ys first.3 second.3)

module _ (parts : List ℕ) (count : ℕ) where
  -- one letter more, before those that have chains
  pub AreChains-more : (first next : List ℕ) (a : ℕ) → a < length parts → get_or parts a 0 < count → AreChains parts count first next (a + 1)
      → AreChains parts count (set first (get_or parts a 0) a) (set next a (get_or first (get_or parts a 0) 0)) a
  AreChains-more first next a less small are = record {
    count_is = length-set first own a ∙ are.count_is;
    long = length-set next a head ∙ are.long;
    beyond = λ part within. beyond part within (cases_eq part own);
    chains = λ part within. chains part within (cases_eq part own);
  }
    where
      own : ℕ
      own = get_or parts a 0

      head : ℕ
      head = get_or first own 0

      beyond : (part : ℕ) → part < count → (part ≡ own) ⊎ (part ≢ own) → a ≤ get_or (set first own a) part 0
      beyond part within (inl same) = omega (arith, ap (λ p. get_or (set first own a) p 0) same, get_or-set_same first own a 0 (omega (arith, are.count_is, small)))
      beyond part within (inr other) = omega (arith, get_or-set_other first own part a 0 other, are.beyond part within)

      chains : (part : ℕ) → part < count → (part ≡ own) ⊎ (part ≢ own) → IsChain (set next a head) (get_or (set first own a) part 0) (letters_from parts part a)
      chains part within (inl same) =
          let here : get_or (set first own a) part 0 ≡ a = ap (λ p. get_or (set first own a) p 0) same ∙ get_or-set_same first own a 0 (omega (arith, are.count_is, small)) in
          let after : get_or (set next a head) a 0 ≡ head = get_or-set_same next a head 0 (omega (arith, are.long, less)) in
          let late : a < head = omega (arith, are.beyond own small) in
          let rest : IsChain (set next a head) head (letters_from parts own (a + 1)) = IsChain-kept next a head head (letters_from parts own (a + 1)) late (are.chains own small) in
          let all : IsChain (set next a head) a (a ∷ letters_from parts own (a + 1)) =
          (omega (arith, length-set next a head, are.long, less), refl, omega (arith, after, late), subst (λ m. IsChain (set next a head) m (letters_from parts own (a + 1))) (sym after) rest) in
          subst (λ m. IsChain (set next a head) m (letters_from parts part a)) (sym here)
          (subst (IsChain (set next a head) a) (sym (ap (λ p. letters_from parts p a) same ∙ letters_from-same parts own a less refl)) all)
      chains part within (inr other) =
          let apart : get_or parts a 0 ≢ part = λ is. other (sym is) in
          let there : get_or (set first own a) part 0 ≡ get_or first part 0 = get_or-set_other first own part a 0 other in
          let late : a < get_or first part 0 = omega (arith, are.beyond part within) in
          subst (λ m. IsChain (set next a head) m (letters_from parts part a)) (sym there)
          (subst (IsChain (set next a head) (get_or first part 0)) (sym (letters_from-other parts part a less apart))
          (IsChain-kept next a head (get_or first part 0) (letters_from parts part (a + 1)) late (are.chains part within)))

-- the letters of the first so many parts are in the list
pub record AreBlocksTo (parts letters starts : List ℕ) (count : ℕ) : Type 0 where
  pub long : length starts ≡ count + 1
  pub last : get_or starts count 0 ≡ length letters
  pub blocks : (part : ℕ) → part < count → IsBlock parts letters starts part

module _ (parts : List ℕ) where
  -- the letters of one part more
  pub AreBlocksTo-more : (letters starts : List ℕ) (count : ℕ) → AreBlocksTo parts letters starts count
      → AreBlocksTo parts (letters ++ letters_with parts count) (starts ++ length (letters ++ letters_with parts count) ∷ []) (count + 1)
  AreBlocksTo-more letters starts count are = record {
    long = length_push starts total ∙ ap (λ n. n + 1) are.long;
    last = get_or_push starts total 0 (count + 1) are.long;
    blocks = λ part within. block part (cases_eq part count) within;
  }
    where
      all : List ℕ
      all = letters ++ letters_with parts count

      total : ℕ
      total = length all

      before : (k : ℕ) → k < count + 1 → get_or (starts ++ total ∷ []) k 0 ≡ get_or starts k 0
      before k less = get_or_append_left starts (total ∷ []) 0 k (omega (arith, are.long, less))

      between : (s e : ℕ) → s ≤ e → e ≤ length letters → take (e - s) (drop s all) ≡ take (e - s) (drop s letters)
      between s e begins ends =
          ap (take (e - s)) (drop-append-le s letters (letters_with parts count) (omega (arith, begins, ends)))
          ∙ take-append-le (e - s) (drop s letters) (letters_with parts count) (omega (arith, length-drop s letters, begins, ends))

      block : (part : ℕ) → (part ≡ count) ⊎ (part ≢ count) → part < count + 1 → IsBlock parts all (starts ++ total ∷ []) part
      block part (inl same) within =
          let first : get_or (starts ++ total ∷ []) part 0 ≡ length letters = ap (λ p. get_or (starts ++ total ∷ []) p 0) same ∙ before count (omega arith) ∙ are.last in
          let end : get_or (starts ++ total ∷ []) (part + 1) 0 ≡ total = ap (λ p. get_or (starts ++ total ∷ []) (p + 1) 0) same ∙ get_or_push starts total 0 (count + 1) are.long in
          let long : total ≡ length letters + length (letters_with parts count) = length-append letters (letters_with parts count) in
          let whole : take (total - length letters) (drop (length letters) all) ≡ letters_with parts count =
          ap (take (total - length letters)) (drop_at letters (letters_with parts count) (length letters) refl) ∙ take_all (total - length letters) (letters_with parts count) (omega (arith, long)) in
          record {
            begins = omega (arith, first, end, long);
            ends = omega (arith, end);
            letters_are = ap (λ s. take (get_or (starts ++ total ∷ []) (part + 1) 0 - s) (drop s all)) first ∙ ap (λ e. take (e - length letters) (drop (length letters) all)) end ∙ whole ∙ ap (letters_with parts) (sym same);
          }
      block part (inr other) within =
          let less : part < count = omega (arith, within, other) in
          let old = are.blocks part less in
          let first : get_or (starts ++ total ∷ []) part 0 ≡ get_or starts part 0 = before part (omega (arith, less)) in
          let end : get_or (starts ++ total ∷ []) (part + 1) 0 ≡ get_or starts (part + 1) 0 = before (part + 1) (omega (arith, less)) in
          record {
            begins = omega (arith, first, end, old.begins);
            ends = omega (arith, end, old.ends, length-append letters (letters_with parts count));
            letters_are = ap (λ s. take (get_or (starts ++ total ∷ []) (part + 1) 0 - s) (drop s all)) first ∙ ap (λ e. take (e - get_or starts part 0) (drop (get_or starts part 0) all)) end
                ∙ between (get_or starts part 0) (get_or starts (part + 1) 0) old.begins old.ends ∙ old.letters_are;
          }

-- a part that no letter has
pub letters_with-none : (parts : List ℕ) (part bound : ℕ) → All (λ p. p + 1 < bound) parts → bound ≤ part + 1 → letters_with parts part ≡ []
letters_with-none parts part bound within past = none (length parts - 0) 0 (omega arith)
  where
    none : (n from : ℕ) → from + n ≤ length parts → filter (λ a. get_or parts a 0 == part) (range_with_len from n) ≡ []
    none zero from inside = refl
    none (suc n) from inside = step (get_or parts from 0 == part) refl (none n (from + 1) (omega (arith, inside)))
      where
        step : (b : Bool) → (get_or parts from 0 == part) ≡ b → filter (λ a. get_or parts a 0 == part) (range_with_len (from + 1) n) ≡ []
            → cond b (from ∷ filter (λ a. get_or parts a 0 == part) (range_with_len (from + 1) n)) (filter (λ a. get_or parts a 0 == part) (range_with_len (from + 1) n)) ≡ []
        step true is rest = absurd (omega (arith, (Decides-eqb (get_or parts from 0) part).0 is, within from 0 (omega (arith, inside)), past))
        step false is rest = rest

-- the letters that have a part
pub Contains-letters : (parts : List ℕ) (part a : ℕ) → a < length parts → get_or parts a 0 ≡ part → Contains (letters_with parts part) a
Contains-letters parts part a less same =
    Contains-filter (λ b. get_or parts b 0 == part) (range_with_len 0 (length parts - 0)) a (Contains-range (length parts - 0) a (omega (arith, less))) ((Decides-eqb (get_or parts a 0) part).1 same)

pub Contains-from_letters : (parts : List ℕ) (part a : ℕ) → Contains (letters_with parts part) a → (a < length parts) × (get_or parts a 0 ≡ part)
Contains-from_letters parts part a there =
    let found = Contains-from_filter (λ b. get_or parts b 0 == part) (range_with_len 0 (length parts - 0)) a there in
    let inside : a < length parts - 0 = Contains-from_range (length parts - 0) a found.0 in
    (omega (arith, inside), (Decides-eqb (get_or parts a 0) part).0 found.1)

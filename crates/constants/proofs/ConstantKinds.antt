-- The kinds of words that the representations of one number distinguish: the prefixes of its word, and the words after which none is left.
use Rattle.std.proofs.Common.{◌≡◌, ℕ, suc, ◌+◌, ◌-◌, ◌<◌, ◌≤◌, false, List, [], ◌∷◌, ◌++◌, map, take, drop, length, get_or, Option, ap, sym, ◌∙◌, subst, arith, ◌↔◌, ◌⊎◌, inl, inr, IsTrue}
use Rattle.std.specs.List.{Any, range_with_len}
use Rattle.std.specs.Option.{option_map_or}
use Rattle.std.proofs.lemmas.Bool.{cases_lt}
use Rattle.std.proofs.lemmas.List.{append_assoc, length-append, length-take-le, length-drop, take-append-drop, take_all, take-append-le}
use Rattle.std.proofs.lemmas.List.FromFn.{length-map-range_with_len, get_or-map-range_with_len}
use Rattle.digit_tuple.specs.Letters.{IsWord}
use Rattle.digit_tuple.specs.Paddings.{in_order}
use Rattle.digit_tuple.specs.Deterministic.{Automaton, run_of, accepts_from, accepts_of}
use Rattle.digit_tuple.specs.Width.{HasApart, HasWidth}
use Rattle.digit_tuple.specs.declared.direction.Direction.{Direction}
use Rattle.digit_tuple.proofs.PaddingLemmas.{length-in_order, IsWord-in_order}
use Rattle.digit_tuple.proofs.WordLemmas.{IsWord-push, IsWord-prefix, IsWord-back, accepts_from-append}
use Rattle.digit_tuple.proofs.WidthLemmas.{HasApart-same, HasWidth-same}
use Rattle.numeration.specs.Words.{is_plain}
use Rattle.numeration.specs.Systems.{System, IsSystem, IsRep}
use Rattle.numeration.proofs.RankLemmas.{two_digits}
use Rattle.numeration.proofs.ConstantLemmas.{represented_word}
use Rattle.constants.specs.Constants.{ConstantAlike}
use Rattle.constants.specs.WordPaths.{IsPaddingPath}
use Rattle.constants.proofs.ConstantWords.{Pads, pads_long, pads_self, never_after}
use Rattle.constants.proofs.PathRuns.{accepts_of-path, run_of-prefix, run_of-suffix, Reached, nowhere, at_prefix, reached}

module _ (direction : Direction) (letters : ℕ) (r : List ℕ) where
  -- what follows the one word and makes it a padding follows the other
  abbrev pub PadsAlike : List ℕ → List ℕ → Type 0
  PadsAlike w v = (u : List ℕ) → IsWord letters u → Pads direction r (w ++ u) ↔ Pads direction r (v ++ u)

  -- the word as it is read
  abbrev read : List ℕ
  read = in_order direction r

  -- a prefix of the word, or the word and a letter 1
  abbrev prefix : ℕ → List ℕ
  prefix q = take q (read ++ 1 ∷ [])

  abbrev prefixes : ℕ → List (List ℕ)
  prefixes k = map prefix (range_with_len 0 k)

  prefix_at : (k q : ℕ) (v : List ℕ) → q < k → get_or (prefixes k) q v ≡ prefix q
  prefix_at k q v within = get_or-map-range_with_len prefix 0 k q q v within (omega arith)

  same_length : length read ≡ length r
  same_length = length-in_order direction r

  prefix_is : (q : ℕ) → q ≤ length r → prefix q ≡ take q read
  prefix_is q few = take-append-le q read (1 ∷ []) (omega (arith, few, same_length))

  last_is : (q : ℕ) → length r < q → prefix q ≡ read ++ 1 ∷ []
  last_is q more = take_all q (read ++ 1 ∷ []) (let e : length (read ++ 1 ∷ []) ≡ length read + 1 = length-append read (1 ∷ []) in omega (arith, e, more, same_length))

  module _ (some : 1 < letters) (over : IsWord letters r) (plain : IsTrue (is_plain r)) where
    read_over : IsWord letters read
    read_over = IsWord-in_order direction letters r over

    prefix_over : (q : ℕ) → IsWord letters (prefix q)
    prefix_over q = IsWord-prefix letters (prefix q) (drop q (read ++ 1 ∷ []))
        (subst (IsWord letters) (sym (take-append-drop q (read ++ 1 ∷ []))) (IsWord-push letters read 1 read_over some))

    rest_over : (q : ℕ) → IsWord letters (drop q read)
    rest_over q = IsWord-back letters (take q read) (drop q read) (subst (IsWord letters) (sym (take-append-drop q read)) read_over)

    completed : (q : ℕ) → q ≤ length r → Pads direction r (prefix q ++ drop q read)
    completed q few = subst (Pads direction r) (sym (ap (λ v. v ++ drop q read) (prefix_is q few) ∙ take-append-drop q read)) (pads_self direction r plain)

    -- two prefixes are not alike
    apart : (p q : ℕ) → p < q → q ≤ suc (length r) → ¬ PadsAlike (prefix p) (prefix q)
    apart p q before last alike = by (cases_lt (length r) q)
      where
        by : (length r < q) ⊎ (q ≤ length r) → ⊥
        by (inl more) =
            let pads : Pads direction r (prefix q ++ drop p read) = (alike (drop p read) (rest_over p)).0 (completed p (omega (arith, before, last))) in
            let word : prefix q ++ drop p read ≡ read ++ 1 ∷ drop p read = ap (λ v. v ++ drop p read) (last_is q more) ∙ append_assoc read (1 ∷ []) (drop p read) in
            never_after direction r (drop p read) plain (subst (Pads direction r) word pads)
        by (inr few) =
            let pads : Pads direction r (prefix p ++ drop q read) = (alike (drop q read) (rest_over q)).1 (completed q few) in
            let long : length r ≤ length (prefix p ++ drop q read) = pads_long direction r (prefix p ++ drop q read) pads in
            let whole : length (prefix p ++ drop q read) ≡ length (prefix p) + length (drop q read) = length-append (prefix p) (drop q read) in
            let short : length (prefix p) ≡ p = ap length (prefix_is p (omega (arith, before, few))) ∙ length-take-le p read (omega (arith, before, few, same_length)) in
            let rest : length (drop q read) ≡ length read - q = length-drop q read in
            absurd (omega (arith, long, whole, short, rest, same_length, before, few))

    -- as many prefixes as there are
    pub prefixes_apart : (k : ℕ) → k ≤ length r + 2 → HasApart PadsAlike letters k
    prefixes_apart k few = record {
      words = prefixes k;
      count = count;
      over = λ q v within. subst (IsWord letters) (sym (prefix_at k q v (omega (arith, within, count)))) (prefix_over q);
      apart = λ p q v before within alike. apart p q before (omega (arith, within, count, few))
          (subst (λ w. PadsAlike w (prefix q)) (prefix_at k p v (omega (arith, before, within, count)))
          (subst (PadsAlike (get_or (prefixes k) p v)) (prefix_at k q v (omega (arith, within, count))) alike));
    }
      where
        count : length (prefixes k) ≡ k
        count = length-map-range_with_len prefix 0 k

    module _ (d : Automaton) (path : IsPaddingPath direction r d) where
      -- words that lead to one state, or both to none
      alike_from_runs : (w v : List ℕ) → run_of d 0 w ≡ run_of d 0 v → PadsAlike w v
      alike_from_runs w v same u inside =
          let equal : accepts_of d (w ++ u) ≡ accepts_of d (v ++ u) =
          accepts_from-append d 0 w u ∙ ap (λ (o : Option ℕ). option_map_or (λ p. accepts_from d p u) o false) same ∙ sym (accepts_from-append d 0 v u) in
          let one = accepts_of-path direction r d plain path (w ++ u) in
          let two = accepts_of-path direction r d plain path (v ++ u) in
          (λ h. two.0 (sym equal ∙ one.1 h), λ h. one.0 (equal ∙ two.1 h))

      -- each word is alike to a prefix
      alike_to_prefix : (w : List ℕ) → Any (PadsAlike w) (prefixes (length r + 2))
      alike_to_prefix w = by (reached direction r d plain path w 0 (omega arith))
        where
          at : (q : ℕ) → q < length r + 2 → PadsAlike w (prefix q) → Any (PadsAlike w) (prefixes (length r + 2))
          at q within alike = (q, prefix q, omega (arith, within, length-map-range_with_len prefix 0 (length r + 2)), prefix_at (length r + 2) q (prefix q) within, alike)

          by : Reached direction r d plain path (run_of d 0 w) → Any (PadsAlike w) (prefixes (length r + 2))
          by (nowhere is) = at (length r + 1) (omega arith)
              (alike_from_runs w (prefix (length r + 1)) (is ∙ sym (ap (run_of d 0) (last_is (length r + 1) (omega arith)) ∙ run_of-suffix direction r d plain path)))
          by (at_prefix p few is) = at p (omega (arith, few))
              (alike_from_runs w (prefix p) (is ∙ sym (ap (run_of d 0) (prefix_is p few) ∙ run_of-prefix direction r d plain path p few)))

      pub prefixes_width : HasWidth PadsAlike letters (length r + 2)
      unfolding prefixes_apart
      prefixes_width = record { some = prefixes_apart (length r + 2) (omega arith); whole = λ w inside. alike_to_prefix w }

module _ (direction : Direction) (s : System) (n : ℕ) (r : List ℕ) (is : IsSystem s) (rep : IsRep s.digits s.test n r) where
  pads_from_constant : (w v : List ℕ) → ConstantAlike direction s n w v → PadsAlike direction s.digits r w v
  pads_from_constant w v alike u inside =
      let both = alike u inside in
      let one = represented_word s n r (in_order direction (w ++ u)) is rep in
      let two = represented_word s n r (in_order direction (v ++ u)) is rep in
      (λ h. two.0 (both.0 (one.1 h)), λ h. one.0 (both.1 (two.1 h)))

  constant_from_pads : (w v : List ℕ) → PadsAlike direction s.digits r w v → ConstantAlike direction s n w v
  constant_from_pads w v alike u inside =
      let both = alike u inside in
      let one = represented_word s n r (in_order direction (w ++ u)) is rep in
      let two = represented_word s n r (in_order direction (v ++ u)) is rep in
      (λ h. two.1 (both.0 (one.0 h)), λ h. one.1 (both.1 (two.0 h)))

  rep_over : IsWord s.digits r
  rep_over = is.over r rep.valid

  -- a number distinguishes two kinds of words more than its word has digits
  pub constant_apart : (k : ℕ) → k ≤ length r + 2 → HasApart (ConstantAlike direction s n) s.digits k
  constant_apart k few = HasApart-same (PadsAlike direction s.digits r) (ConstantAlike direction s n) s.digits k
      (λ w v over there alike. pads_from_constant w v alike)
      (prefixes_apart direction s.digits r (two_digits s.digits s.test is) rep_over rep.plain k few)

  -- and no more
  pub constant_width : (d : Automaton) → IsPaddingPath direction r d → HasWidth (ConstantAlike direction s n) s.digits (length r + 2)
  constant_width d path = HasWidth-same (PadsAlike direction s.digits r) (ConstantAlike direction s n) s.digits (length r + 2)
      (λ w v over there alike. constant_from_pads w v alike)
      (λ w v over there alike. pads_from_constant w v alike)
      (prefixes_width direction s.digits r (two_digits s.digits s.test is) rep_over rep.plain d path)

-- Where words lead in the automaton of one word, and which are accepted.
use Rattle.std.proofs.Common.{◌≡◌, ℕ, zero, suc, ◌<◌, ◌≤◌, false, List, [], ◌∷◌, ◌++◌, take, length, get_or, append-nil, Option, None, Some, refl, ap, sym, ◌∙◌, subst, arith, ◌↔◌, ◌⊎◌, inl, inr, IsTrue}
use Rattle.std.specs.Option.{option_map_or, option_and_then}
use Rattle.std.proofs.lemmas.Bool.{false≢true, cases_lt, cases_eq, eqb-true, eq-eqb}
use Rattle.std.proofs.lemmas.List.{append_assoc, length-take-le, take_all}
use Rattle.std.proofs.Math.Seq.{take-suc}
use Rattle.digit_tuple.specs.Paddings.{in_order}
use Rattle.digit_tuple.specs.Deterministic.{Automaton, accepting_of, step_of, run_of, accepts_from, accepts_of}
use Rattle.digit_tuple.specs.declared.direction.Direction.{Direction}
use Rattle.digit_tuple.proofs.PaddingLemmas.{length-in_order}
use Rattle.digit_tuple.proofs.WordLemmas.{run_of-push}
use Rattle.numeration.specs.Words.{is_plain}
use Rattle.constants.specs.WordPaths.{IsNextLetter, IsPaddingZero, IsPaddingPath, padding_prefix}
use Rattle.constants.proofs.ConstantWords.{Pads, pads_long, pads_self, stopped, padding_same}

-- where a letter leads from a prefix: on with the word, nowhere else by a padding zero, or to no state
data Step (direction : Direction) (r : List ℕ) (d : Automaton) (q letter : ℕ) : Type 0 where
  next : IsNextLetter (in_order direction r) (length r) q letter → step_of d q letter ≡ Some (suc q) → Step direction r d q letter
  padding : IsPaddingZero direction r q letter → step_of d q letter ≡ Some q → Step direction r d q letter
  stop : ¬ IsNextLetter (in_order direction r) (length r) q letter → ¬ IsPaddingZero direction r q letter → step_of d q letter ≡ None → Step direction r d q letter

module _ (direction : Direction) (r : List ℕ) (d : Automaton) (plain : IsTrue (is_plain r)) (path : IsPaddingPath direction r d) where
  abbrev x : List ℕ
  x = in_order direction r

  same_length : length x ≡ length r
  same_length = length-in_order direction r

  step : (q letter : ℕ) → Step direction r d q letter
  step q letter = by (cases_lt q (length r)) (cases_eq letter (get_or x q 0))
    where
      rest : ¬ IsNextLetter x (length r) q letter → (q ≡ padding_prefix direction (length r)) ⊎ (¬ (q ≡ padding_prefix direction (length r))) → (letter ≡ 0) ⊎ (¬ (letter ≡ 0)) → Step direction r d q letter
      rest other (inl at) (inl none) = padding (at, none) (ap (step_of d q) none ∙ subst (λ p. step_of d p 0 ≡ Some p) (sym at) path.stays)
      rest other (inl at) (inr some) = stop other (λ is. some is.1) (path.stops q letter other (λ is. some is.1))
      rest other (inr off) none = stop other (λ is. off is.0) (path.stops q letter other (λ is. off is.0))

      other_cases : ¬ IsNextLetter x (length r) q letter → Step direction r d q letter
      other_cases other = rest other (cases_eq q (padding_prefix direction (length r))) (cases_eq letter 0)

      by : (q < length r) ⊎ (length r ≤ q) → (letter ≡ get_or x q 0) ⊎ (¬ (letter ≡ get_or x q 0)) → Step direction r d q letter
      by (inl less) (inl same) = next (less, same) (ap (step_of d q) same ∙ path.along q less)
      by (inl less) (inr off) = other_cases (λ is. off is.1)
      by (inr more) same = other_cases (λ is. absurd (omega (arith, more, is.0)))

  -- a prefix and a letter more
  take_next : (q : ℕ) → q < length r → take (suc q) x ≡ take q x ++ get_or x q 0 ∷ []
  take_next q less = take-suc x q 0 (omega (arith, less, same_length))

  whole_prefix : take (length r) x ≡ x
  whole_prefix = take_all (length r) x (omega (arith, same_length))

  -- from a prefix the words are accepted that make it a padding
  pub accepts_from-prefix : (w : List ℕ) (q : ℕ) → q ≤ length r → IsTrue (accepts_from d q w) ↔ Pads direction r (take q x ++ w)
  accepts_from-prefix [] q few = (there, back)
    where
      there : IsTrue (accepting_of d q) → Pads direction r (take q x ++ [])
      there accepted =
          let last : q ≡ length r = eqb-true q (length r) (sym (path.accepting q few) ∙ accepted) in
          subst (Pads direction r) (sym (append-nil (take q x) ∙ ap (λ p. take p x) last ∙ whole_prefix)) (pads_self direction r plain)

      back : Pads direction r (take q x ++ []) → IsTrue (accepting_of d q)
      back pads =
          let long : length r ≤ length (take q x ++ []) = pads_long direction r (take q x ++ []) pads in
          let none : length (take q x ++ []) ≡ length (take q x) = ap length (append-nil (take q x)) in
          let prefix : length (take q x) ≡ q = length-take-le q x (omega (arith, few, same_length)) in
          path.accepting q few ∙ eq-eqb q (length r) (omega (arith, long, none, prefix, few))
  accepts_from-prefix (a ∷ w) q few = by (step q a) (accepts_from-prefix w)
    where
      leads : (p : ℕ) → step_of d q a ≡ Some p → accepts_from d q (a ∷ w) ≡ accepts_from d p w
      leads p is = ap (λ (o : Option ℕ). option_map_or (λ p. accepts_from d p w) o false) is

      by : Step direction r d q a → ((p : ℕ) → p ≤ length r → IsTrue (accepts_from d p w) ↔ Pads direction r (take p x ++ w)) → IsTrue (accepts_from d q (a ∷ w)) ↔ Pads direction r (take q x ++ a ∷ w)
      by (next is to) others =
          let rest = others (suc q) (omega (arith, is.0)) in
          let more : take (suc q) x ++ w ≡ take q x ++ a ∷ w =
          ap (λ v. v ++ w) (take_next q is.0) ∙ append_assoc (take q x) (get_or x q 0 ∷ []) w ∙ ap (λ b. take q x ++ b ∷ w) (sym is.1) in
          (λ h. subst (Pads direction r) more (rest.0 (sym (leads (suc q) to) ∙ h)), λ h. leads (suc q) to ∙ rest.1 (subst (Pads direction r) (sym more) h))
      by (padding is to) others =
          let rest = others q few in
          let same : Pads direction r (take q x ++ a ∷ w) ↔ Pads direction r (take q x ++ w) =
          subst (λ b. Pads direction r (take q x ++ b ∷ w) ↔ Pads direction r (take q x ++ w)) (sym is.1)
          (subst (λ p. Pads direction r (take p x ++ 0 ∷ w) ↔ Pads direction r (take p x ++ w)) (sym is.0) (padding_same direction r w)) in
          (λ h. same.1 (rest.0 (sym (leads q to) ∙ h)), λ h. leads q to ∙ rest.1 (same.0 h))
      by (stop other off to) others = (
        λ h. absurd (false≢true (sym (ap (λ (o : Option ℕ). option_map_or (λ p. accepts_from d p w) o false) to) ∙ h)),
        λ h. absurd (stopped direction r w q a plain few other off h),
      )

  -- the paddings of the word are accepted
  pub accepts_of-path : (w : List ℕ) → IsTrue (accepts_of d w) ↔ Pads direction r w
  accepts_of-path w = accepts_from-prefix w 0 (omega arith)

  -- a prefix leads to its state
  pub run_of-prefix : (q : ℕ) → q ≤ length r → run_of d 0 (take q x) ≡ Some q
  run_of-prefix zero few = refl
  run_of-prefix (suc q) few =
      ap (run_of d 0) (take_next q (omega (arith, few)))
      ∙ run_of-push d 0 q (take q x) (get_or x q 0) (run_of-prefix q (omega (arith, few)))
      ∙ path.along q (omega (arith, few))

  -- a letter 1 after the word leads nowhere
  pub run_of-suffix : run_of d 0 (x ++ 1 ∷ []) ≡ None
  run_of-suffix =
      run_of-push d 0 (length r) x 1 (ap (run_of d 0) (sym whole_prefix) ∙ run_of-prefix (length r) (omega arith))
      ∙ path.stops (length r) 1 (λ is. absurd (omega (arith, is.0))) (λ is. absurd (omega (arith, is.1)))

  -- a word leads to a prefix's state, or to none
  pub data Reached (o : Option ℕ) : Type 0 where
    nowhere : o ≡ None → Reached o
    at_prefix : (p : ℕ) → p ≤ length r → o ≡ Some p → Reached o

  pub reached : (w : List ℕ) (q : ℕ) → q ≤ length r → Reached (run_of d q w)
  reached [] q few = at_prefix q few refl
  reached (a ∷ w) q few = by (step q a) (reached w)
    where
      run : Option ℕ → Option ℕ
      run o = option_and_then (λ p. run_of d p w) o

      by : Step direction r d q a → ((p : ℕ) → p ≤ length r → Reached (run_of d p w)) → Reached (run (step_of d q a))
      by (next is to) others = subst (λ (o : Option ℕ). Reached (run o)) (sym to) (others (suc q) (omega (arith, is.0)))
      by (padding is to) others = subst (λ (o : Option ℕ). Reached (run o)) (sym to) (others q few)
      by (stop other off to) others = nowhere (ap run to)

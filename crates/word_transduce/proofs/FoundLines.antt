-- Lines of transducers that are found, and the numbers of outputs.
use Rattle.std.proofs.Common.{◌≡◌, ◌==◌, ◌&&◌, ℕ, ℤ, suc, ◌+◌, ◌<◌, Bool, true, false, List, [], ◌∷◌, Option, None, Some, ◌⊎◌, inl, inr, cond, eq-eqb, refl, sym, ap, ◌∙◌, subst, true≢false, arith}
use Rattle.std.specs.List.{Contains, find, position_or_len, slice_get}
use Rattle.std.specs.Option.{IfSome, option_map}
use Rattle.std.specs.Ordering.{int_eq}
use Rattle.std.proofs.lemmas.Bool.{and_parts, eqb-true}
use Rattle.std.proofs.lemmas.Bool.Decides.{Decides-int_eq}
use Rattle.std.proofs.lemmas.List.Elements.{All-contains}
use Rattle.std.proofs.lemmas.List.Folds.{find_at}
use Rattle.std.proofs.lemmas.Option.{none-some, same_Some}
use Rattle.digit_tuple.proofs.MemberLemmas.{Contains-cases, Contains-head, Contains-none, Contains-tail}
use Rattle.transducer_reading.specs.declared.transducer.TransducerLine.{TransducerLine}
use Rattle.transducer_reading.specs.Transducers.{IsTransducer, IsTransducerLine, Transducer, is_line_from, line_from, takes_letter, target_of}
use Rattle.word_transduce.specs.BlockMaps.{is_output, numbered_output, output_number}
use Rattle.word_transduce.specs.Runs.{made_of}

-- what is found passes, and is in the list
pub find_passes : {X : Type 0} (p : X → Bool) (xs : List X) (x : X) → find p xs ≡ Some x → (p x ≡ true) × Contains xs x
find_passes p [] x found = absurd (none-some x found)
find_passes {X} p (y ∷ xs) x found = by (p y) refl found (find_passes p xs x)
  where
    by : (b : Bool) → p y ≡ b → cond b (Some y) (find p xs) ≡ Some x → (find p xs ≡ Some x → (p x ≡ true) × Contains xs x) → (p x ≡ true) × Contains (y ∷ xs) x
    by true passes is rest = let same : y ≡ x = same_Some y x is in (ap p (sym same) ∙ passes, subst (Contains (y ∷ xs)) same (Contains-head y xs))
    by false fails is rest = let there = rest is in (there.0, Contains-tail y xs x there.1)

-- where one passes, one is found
pub find_some : {X : Type 0} (p : X → Bool) (xs : List X) (x : X) → Contains xs x → p x ≡ true → (y : X) × (find p xs ≡ Some y)
find_some p [] x there passes = absurd (Contains-none x there)
find_some {X} p (y ∷ xs) x there passes = by (p y) refl (Contains-cases y xs x there) (λ inside. find_some p xs x inside passes)
  where
    by : (b : Bool) → p y ≡ b → (y ≡ x) ⊎ Contains xs x → (Contains xs x → (z : X) × (find p xs ≡ Some z)) → (z : X) × (cond b (Some y) (find p xs) ≡ Some z)
    by true is cases rest = (y, refl)
    by false fails (inl same) rest = absurd (true≢false (sym passes ∙ ap p (sym same) ∙ fails))
    by false fails (inr inside) rest = rest inside

-- an output with its state is that of a line
abbrev pub IsOfLine : List TransducerLine → Option (ℕ × ℤ) → Type 0
IsOfLine lines o = IfSome o (λ p. (line : TransducerLine) × Contains lines line × (line.state ≡ p.0) × (line.output ≡ p.1))

module _ (lines : List TransducerLine) where
  -- the line that is found for an output with its state
  output_line : (p : ℕ × ℤ) → (line : TransducerLine) × Contains lines line × (line.state ≡ p.0) × (line.output ≡ p.1)
      → (line : TransducerLine) × (slice_get lines (position_or_len (is_output p.0 p.1) lines) ≡ Some line) × (line.state ≡ p.0) × (line.output ≡ p.1)
  output_line p found =
      let test : TransducerLine → Bool = is_output p.0 p.1 in
      let passes : is_output p.0 p.1 found.0 ≡ true =
      ap (λ (s : ℕ). (s == p.0) && int_eq found.0.output p.1) found.2 ∙ ap (λ (b : ℤ). (p.0 == p.0) && int_eq b p.1) found.3 ∙ both (p.0 == p.0) (int_eq p.1 p.1) (eq-eqb p.0 p.0 refl) ((Decides-int_eq p.1 p.1).1 refl) in
      let one = find_some test lines found.0 found.1 passes in
      let is = (find_passes test lines one.0 one.1).0 in
      let parts = and_parts (one.0.state == p.0) (int_eq one.0.output p.1) is in
      (one.0, sym (find_at test lines) ∙ one.1, eqb-true one.0.state p.0 parts.0, (Decides-int_eq one.0.output p.1).0 parts.1)
    where
      both : (a b : Bool) → a ≡ true → b ≡ true → (a && b) ≡ true
      both a b one two = ap (λ x. x && b) one ∙ two

  -- the output of its number
  pub numbered-number : (o : Option (ℕ × ℤ)) → IsOfLine lines o → numbered_output lines (output_number lines o) ≡ option_map (λ p. p.1) o
  numbered-number None is = refl
  numbered-number (Some p) is =
      let line = output_line p is in
      let next : position_or_len (is_output p.0 p.1) lines + 1 ≡ suc (position_or_len (is_output p.0 p.1) lines) = omega arith in
      ap (numbered_output lines) next ∙ ap (option_map (λ (l : TransducerLine). l.output)) line.1 ∙ ap Some line.3

  -- outputs with one number are one
  pub one_output : (o r : Option (ℕ × ℤ)) → IsOfLine lines o → IsOfLine lines r → output_number lines o ≡ output_number lines r → o ≡ r
  one_output None None is too same = refl
  one_output None (Some r) is too same = absurd (omega (arith, same))
  one_output (Some p) None is too same = absurd (omega (arith, same))
  one_output (Some p) (Some r) is too same =
      let one = output_line p is in
      let two = output_line r too in
      let places : position_or_len (is_output p.0 p.1) lines ≡ position_or_len (is_output r.0 r.1) lines = omega (arith, same) in
      let line : one.0 ≡ two.0 = same_Some one.0 two.0 (sym one.1 ∙ ap (slice_get lines) places ∙ two.1) in
      ap Some (pair (sym one.2 ∙ ap (λ (l : TransducerLine). l.state) line ∙ two.2) (sym one.3 ∙ ap (λ (l : TransducerLine). l.output) line ∙ two.3))
    where
      pair : {a c : ℕ} {b d : ℤ} → a ≡ c → b ≡ d → ◌≡◌ {A = ℕ × ℤ} (a, b) (c, d)
      pair first second = λ i. (first i, second i)

module _ (t : Transducer) where
  -- what is made is the output of a line
  pub made_of-line : (q : ℕ) (letter : Option ℤ) → IsOfLine t.lines (made_of t q letter)
  made_of-line q None = tt
  made_of-line q (Some a) = by (line_from t q a) (λ line found. find_passes (is_line_from t q a) t.lines line found)
    where
      by : (o : Option TransducerLine) → ((line : TransducerLine) → o ≡ Some line → (is_line_from t q a line ≡ true) × Contains t.lines line) → IsOfLine t.lines (option_map (λ b. (q, b)) (option_map (λ (line : TransducerLine). line.output) o))
      by None found = tt
      by (Some line) found =
          let there = found line refl in
          (line, there.1, eqb-true line.state q (and_parts (line.state == q) (takes_letter t.set line.letter a) there.0).0, refl)

  -- a letter leads to a state
  pub target_within : IsTransducer t → (q : ℕ) (a : ℤ) → IfSome (target_of t q a) (λ p. p < t.states)
  target_within is q a = by (line_from t q a) (λ line found. find_passes (is_line_from t q a) t.lines line found)
    where
      by : (o : Option TransducerLine) → ((line : TransducerLine) → o ≡ Some line → (is_line_from t q a line ≡ true) × Contains t.lines line) → IfSome (option_map (λ (line : TransducerLine). line.target) o) (λ p. p < t.states)
      by None found = tt
      by (Some line) found = (All-contains (IsTransducerLine t.set t.states) t.lines line is.lines (found line refl).1).target

-- Runs over letters, part by part.
use Rattle.std.proofs.Common.{◌≡◌, ℕ, ℤ, zero, suc, ◌+◌, ◌<◌, ◌≤◌, Option, None, Some, refl, ap, ◌∙◌, arith}
use Rattle.std.specs.Option.{IfSome, option_and_then}
use Rattle.transducer_reading.specs.Transducers.{IsTransducer, Transducer, target_of}
use Rattle.word_transduce.specs.Runs.{made, made_of, run}
use Rattle.word_transduce.proofs.FoundLines.{IsOfLine, made_of-line, target_within}

module _ (t : Transducer) where
  -- one letter more
  abbrev pub next_state : Option ℤ → Option ℕ → Option ℕ
  next_state letter state = option_and_then (λ q. option_and_then (λ a. target_of t q a) letter) state

  abbrev pub make : Option ℤ → Option ℕ → Option (ℕ × ℤ)
  make letter state = option_and_then (λ q. made_of t q letter) state

  -- a run that has stopped does not go on
  pub run-stopped : (letter : ℕ → Option ℤ) (n : ℕ) → run t letter n None ≡ None
  run-stopped letter zero = refl
  run-stopped letter (suc n) = ap (next_state (letter n)) (run-stopped letter n)

  -- over letters, and then over the next ones
  pub run-sum : (letter : ℕ → Option ℤ) (x y : ℕ) (s : Option ℕ) → run t letter (x + y) s ≡ run t (λ i. letter (x + i)) y (run t letter x s)
  run-sum letter x zero s = let none : x + 0 ≡ x = omega arith in ap (λ n. run t letter n s) none
  run-sum letter x (suc y) s =
      let more : x + suc y ≡ suc (x + y) = omega arith in
      ap (λ n. run t letter n s) more ∙ ap (next_state (letter (x + y))) (run-sum letter x y s)

  pub made-sum : (letter : ℕ → Option ℤ) (x y : ℕ) (s : Option ℕ) → made t letter (x + y) s ≡ made t (λ i. letter (x + i)) y (run t letter x s)
  made-sum letter x y s = ap (make (letter (x + y))) (run-sum letter x y s)

  -- the same letters make one run
  pub run-same : (l m : ℕ → Option ℤ) (n : ℕ) (s : Option ℕ) → ((i : ℕ) → i < n → l i ≡ m i) → run t l n s ≡ run t m n s
  run-same l m zero s same = refl
  run-same l m (suc n) s same = ap (λ o. next_state o (run t l n s)) (same n (omega arith)) ∙ ap (next_state (m n)) (run-same l m n s (λ i less. same i (omega (arith, less))))

  pub made-same : (l m : ℕ → Option ℤ) (n : ℕ) (s : Option ℕ) → ((i : ℕ) → i ≤ n → l i ≡ m i) → made t l n s ≡ made t m n s
  made-same l m n s same = ap (λ o. make o (run t l n s)) (same n (omega arith)) ∙ ap (make (m n)) (run-same l m n s (λ i less. same i (omega (arith, less))))

  -- where there are no letters, a run stops at once, and makes nothing
  pub run-silent : (n : ℕ) (s : Option ℕ) → 0 < n → run t (λ i. None) n s ≡ None
  run-silent zero s some = absurd (omega (arith, some))
  run-silent (suc n) s some = by (run t (λ i. None) n s)
    where
      by : (o : Option ℕ) → next_state None o ≡ None
      by None = refl
      by (Some q) = refl

  pub made-silent : (n : ℕ) (s : Option ℕ) → made t (λ i. None) n s ≡ None
  made-silent n s = by (run t (λ i. None) n s)
    where
      by : (o : Option ℕ) → make None o ≡ None
      by None = refl
      by (Some q) = refl

  pub made-stopped : (letter : ℕ → Option ℤ) (n : ℕ) → made t letter n None ≡ None
  made-stopped letter n = ap (make (letter n)) (run-stopped letter n)

  -- what is made is the output of a line
  pub made-line : (letter : ℕ → Option ℤ) (n : ℕ) (s : Option ℕ) → IsOfLine t.lines (made t letter n s)
  made-line letter n s = by (run t letter n s)
    where
      by : (o : Option ℕ) → IsOfLine t.lines (make (letter n) o)
      by None = tt
      by (Some q) = made_of-line t q (letter n)

  -- a run leads to states
  pub run-within : IsTransducer t → (letter : ℕ → Option ℤ) (n : ℕ) (s : Option ℕ) → IfSome s (λ q. q < t.states) → IfSome (run t letter n s) (λ q. q < t.states)
  run-within is letter zero s within = within
  run-within is letter (suc n) s within = by (run t letter n s) (letter n)
    where
      by : (o : Option ℕ) (l : Option ℤ) → IfSome (next_state l o) (λ q. q < t.states)
      by None l = tt
      by (Some q) None = tt
      by (Some q) (Some a) = target_within t is q a

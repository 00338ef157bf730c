-- Rows of transitions by their letters.
use Rattle.std.proofs.Common.{◌≡◌, ℕ, suc, ◌+◌, ◌<◌, List, [], ◌∷◌, get_or, None, Some, ◌⊎◌, inl, inr, refl, sym, ap, ◌∙◌, arith}
use Rattle.std.specs.List.{All, AllPairs}
use Rattle.std.proofs.lemmas.Bool.{cases_order}
use Rattle.std.proofs.lemmas.Option.{none-some, same_Some}
use Rattle.digit_tuple.specs.declared.transitions.Transition.{Transition}
use Rattle.digit_tuple.specs.Deterministic.{IsByEarlier, target_by}
use Rattle.digit_tuple.proofs.DfaLemmas.{target_by-other, target_by-first, target_by-none}

pub rest_pairs : (e : Transition) (es : List Transition) → AllPairs IsByEarlier (e ∷ es) → AllPairs IsByEarlier es
rest_pairs e es pairs i j d before within = pairs (suc i) (suc j) d (omega arith) (omega arith)

-- after the first transition there is none by its letter or an earlier one
pub target_by-early : (e : Transition) (es : List Transition) (letter : ℕ) → AllPairs IsByEarlier (e ∷ es) → letter < e.letter + 1 → target_by es letter ≡ None
target_by-early e es letter pairs low = target_by-none es letter (λ k d within same. let later : e.letter < (get_or es k d).letter = pairs 0 (suc k) d (omega arith) (omega arith) in omega (arith, later, low, same))

-- two rows by which the same letters lead to the same targets are the same
pub same_transitions : (letters : ℕ) (es fs : List Transition) → AllPairs IsByEarlier es → AllPairs IsByEarlier fs → All (λ e. e.letter < letters) es → All (λ e. e.letter < letters) fs
    → ((a : ℕ) → a < letters → target_by es a ≡ target_by fs a) → es ≡ fs
same_transitions letters [] [] up vp small low same = refl
same_transitions letters [] (f ∷ fs) up vp small low same = absurd (none-some f.target (same f.letter (low 0 f (omega arith)) ∙ target_by-first f fs f.letter refl))
same_transitions letters (e ∷ es) [] up vp small low same = absurd (none-some e.target (sym (same e.letter (small 0 e (omega arith))) ∙ target_by-first e es e.letter refl))
same_transitions letters (e ∷ es) (f ∷ fs) up vp small low same =
    let one : e.letter ≡ f.letter = letter (cases_order e.letter f.letter) in
    let there : Some e.target ≡ Some f.target = sym (target_by-first e es e.letter refl) ∙ same e.letter (small 0 e (omega arith)) ∙ target_by-first f fs e.letter (sym one) in
    let two : e.target ≡ f.target = same_Some e.target f.target there in
    let head : e ≡ f = ap (λ (x : ℕ). let g : Transition = record { letter = x; target = e.target } in g) one ∙ ap (λ (x : ℕ). let g : Transition = record { letter = f.letter; target = x } in g) two in
    let rest : es ≡ fs = same_transitions letters es fs (rest_pairs e es up) (rest_pairs f fs vp) (λ k d within. small (suc k) d (omega arith)) (λ k d within. low (suc k) d (omega arith)) (λ a inside. later one a inside (cases_order a e.letter)) in
    ap (λ (g : Transition). g ∷ es) head ∙ ap (λ (gs : List Transition). f ∷ gs) rest
  where
    letter : (e.letter ≡ f.letter) ⊎ ((e.letter < f.letter) ⊎ (f.letter < e.letter)) → e.letter ≡ f.letter
    letter (inl is) = is
    letter (inr (inl less)) = absurd (none-some e.target (sym (target_by-other f fs e.letter (λ is. omega (arith, is, less)) ∙ target_by-early f fs e.letter vp (omega arith)) ∙ sym (same e.letter (small 0 e (omega arith))) ∙ target_by-first e es e.letter refl))
    letter (inr (inr more)) = absurd (none-some f.target (sym (target_by-other e es f.letter (λ is. omega (arith, is, more)) ∙ target_by-early e es f.letter up (omega arith)) ∙ same f.letter (low 0 f (omega arith)) ∙ target_by-first f fs f.letter refl))

    later : e.letter ≡ f.letter → (a : ℕ) → a < letters → (a ≡ e.letter) ⊎ ((a < e.letter) ⊎ (e.letter < a)) → target_by es a ≡ target_by fs a
    later one a inside (inl is) = target_by-early e es a up (omega arith) ∙ sym (target_by-early f fs a vp (omega arith))
    later one a inside (inr (inl less)) = target_by-early e es a up (omega arith) ∙ sym (target_by-early f fs a vp (omega arith))
    later one a inside (inr (inr more)) = sym (target_by-other e es a (λ is. omega (arith, is, more))) ∙ same a inside ∙ target_by-other f fs a (λ is. omega (arith, is, one, more))

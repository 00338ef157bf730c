-- Rows by ascending letters are equal where each leads as the transitions of the other do.
use Rattle.std.proofs.Common.{◌≡◌, ◌≢◌, ℕ, zero, suc, ◌+◌, ◌*◌, ◌<◌, ◌⊎◌, inl, inr, List, [], ◌∷◌, ◌++◌, map, length, get_or, None, Some, refl, sym, ap, ◌∙◌, subst, arith}
use Rattle.std.specs.List.{AllPairs, AllByRecursion}
use Rattle.std.proofs.lemmas.Bool.{cases_order}
use Rattle.std.proofs.lemmas.List.{map-append}
use Rattle.std.proofs.lemmas.Option.{same_Some}
use Rattle.digit_tuple.specs.Reversed.{transition_to}
use Rattle.digit_tuple.specs.Deterministic.{IsByEarlier, target_by}
use Rattle.digit_tuple.specs.Decisions.{after_digit, joined, LeadsAs}
use Rattle.digit_tuple.specs.declared.transitions.Transition.{Transition}
use Rattle.digit_tuple.proofs.DfaLemmas.{target_by-first, target_by-other, target_by-none}
use Rattle.digit_tuple.proofs.JoinedReads.{map-after_digit}

ascending-tail : (e : Transition) (es : List Transition) → AllPairs IsByEarlier (e ∷ es) → AllPairs IsByEarlier es
ascending-tail e es ascending i j d before within = ascending (suc i) (suc j) d (omega arith) (omega arith)

-- an earlier letter than all has no transition
none-earlier : (f : Transition) (fs : List Transition) (a : ℕ) → AllPairs IsByEarlier (f ∷ fs) → a < f.letter → target_by (f ∷ fs) a ≡ None
none-earlier f fs a ascending less = target_by-none (f ∷ fs) a (λ k d within. other k d within)
  where
    other : (k : ℕ) (d : Transition) → k < length (f ∷ fs) → (get_or (f ∷ fs) k d).letter ≢ a
    other zero d within same = omega (arith, same, less)
    other (suc k) d within same = let later = ascending 0 (suc k) d (omega arith) within in omega (arith, same, less, later)

-- transitions after the first lead by the rest of the row
leads-rest : (f : Transition) (fs es : List Transition) (e : Transition) → e.letter ≡ f.letter → AllPairs IsByEarlier (e ∷ es) → AllByRecursion (LeadsAs (f ∷ fs)) es → AllByRecursion (LeadsAs fs) es
leads-rest f fs es e same ascending leads = by es (λ k d within. let later = ascending 0 (suc k) d (omega arith) (omega arith) in omega (arith, later, same)) leads
  where
    by : (gs : List Transition) → ((k : ℕ) (d : Transition) → k < length gs → f.letter < (get_or gs k d).letter) → AllByRecursion (LeadsAs (f ∷ fs)) gs → AllByRecursion (LeadsAs fs) gs
    by [] later all = tt
    by (g ∷ gs) later all = (
      sym (target_by-other f fs g.letter (λ is. let less = later 0 g (omega arith) in omega (arith, less, is))) ∙ all.0,
      by gs (λ k d within. later (suc k) d (omega arith)) all.1,
    )

pub same_rows : (es fs : List Transition) → AllPairs IsByEarlier es → AllPairs IsByEarlier fs → AllByRecursion (LeadsAs fs) es → AllByRecursion (LeadsAs es) fs → es ≡ fs
same_rows [] [] first second there back = refl
same_rows [] (f ∷ fs) first second there back = absurd (let none : None ≡ Some f.target = back.0 in let no : ⊥ = cc in no)
same_rows (e ∷ es) [] first second there back = absurd (let none : None ≡ Some e.target = there.0 in let no : ⊥ = cc in no)
same_rows (e ∷ es) (f ∷ fs) first second there back =
    by (cases_order e.letter f.letter)
    (λ same. same_rows es fs (ascending-tail e es first) (ascending-tail f fs second) (leads-rest f fs es e same first there.1) (leads-rest e es fs f (sym same) second back.1))
  where
    by : (e.letter ≡ f.letter) ⊎ ((e.letter < f.letter) ⊎ (f.letter < e.letter)) → (e.letter ≡ f.letter → es ≡ fs) → (e ∷ es) ≡ (f ∷ fs)
    by (inl same) rest =
        let target : f.target ≡ e.target = same_Some f.target e.target (sym (target_by-first f fs e.letter (sym same)) ∙ there.0) in
        ap (λ n. transition_to n e.target ∷ es) same ∙ ap (λ n. transition_to f.letter n ∷ es) (sym target) ∙ ap (λ gs. f ∷ gs) (rest same)
    by (inr (inl less)) rest = absurd (let none = none-earlier f fs e.letter second less in let some = there.0 in let no : ⊥ = cc in no)
    by (inr (inr more)) rest = absurd (let none = none-earlier e es f.letter first more in let some = back.0 in let no : ⊥ = cc in no)

-- a row leads as its transitions do
leads-more : (f : Transition) (fs es : List Transition) → ((k : ℕ) (d : Transition) → k < length es → f.letter < (get_or es k d).letter) → AllByRecursion (LeadsAs fs) es → AllByRecursion (LeadsAs (f ∷ fs)) es
leads-more f fs [] later all = tt
leads-more f fs (e ∷ es) later all = (
  target_by-other f fs e.letter (λ is. let less = later 0 e (omega arith) in omega (arith, less, is)) ∙ all.0,
  leads-more f fs es (λ k d within. later (suc k) d (omega arith)) all.1,
)

pub leads-itself : (es : List Transition) → AllPairs IsByEarlier es → AllByRecursion (LeadsAs es) es
leads-itself [] ascending = tt
leads-itself (e ∷ es) ascending = (
  target_by-first e es e.letter refl,
  leads-more e es es (λ k d within. ascending 0 (suc k) d (omega arith) (omega arith)) (leads-itself es (ascending-tail e es ascending)),
)

all-prefix : (P : Transition → Type 0) (es fs : List Transition) → AllByRecursion P (es ++ fs) → AllByRecursion P es
all-prefix P [] fs all = tt
all-prefix P (e ∷ es) fs all = (all.0, all-prefix P es fs all.1)

all-back : (P : Transition → Type 0) (es fs : List Transition) → AllByRecursion P (es ++ fs) → AllByRecursion P fs
all-back P [] fs all = all
all-back P (e ∷ es) fs all = all-back P es fs all.1

-- what holds of all transitions holds of those after one digit
pub all-joined : (P : Transition → Type 0) (b w : ℕ) (ds : List ℕ) (rows : List (List Transition)) (k z : ℕ) → k < length ds → k < length rows
    → AllByRecursion P (map (after_digit b) (joined w ds rows)) → AllByRecursion P (map (after_digit (b + get_or ds k z * w)) (get_or rows k []))
all-joined P b w [] rows k z within there all = absurd (omega arith)
all-joined P b w (d ∷ ds) [] k z within there all = absurd (omega arith)
all-joined P b w (d ∷ ds) (r ∷ rows) zero z within there all =
    subst (AllByRecursion P) (map-after_digit b (d * w) r)
    (all-prefix P (map (after_digit b) (map (after_digit (d * w)) r)) (map (after_digit b) (joined w ds rows)) (subst (AllByRecursion P) (map-append (after_digit b) (map (after_digit (d * w)) r) (joined w ds rows)) all))
all-joined P b w (d ∷ ds) (r ∷ rows) (suc k) z within there all =
    all-joined P b w ds rows k z (omega arith) (omega arith)
    (all-back P (map (after_digit b) (map (after_digit (d * w)) r)) (map (after_digit b) (joined w ds rows)) (subst (AllByRecursion P) (map-append (after_digit b) (map (after_digit (d * w)) r) (joined w ds rows)) all))

use Rattle.std.proofs.Common.{◌≡◌, ◌<◌, ◌≤◌, set, length, get_or, sym, ap, ◌∙◌, subst, arith, List}
use Rattle.std.proofs.lemmas.List.{get_or_default}
use Rattle.std.specs.List.{AllWithin}
use Rattle.digit_tuple.specs.declared.transitions.Transition.{Transition}
use Rattle.digit_tuple.specs.Deterministic.{IsTransitionSet, KeepsRow}
use Rattle.digit_tuple.proofs.BuilderLemmas.{IsTransitionSet-set, KeepsRow-put, IsTransitionSet-put, after_gap}
use Rattle.digit_tuple.proofs.dfa_builder.set_transition.Goals as goal
use Rattle.digit_tuple.proofs.dfa_builder.set_transition.Goals.{else-place-len-via-then-place-len+else-index-letter, else-place-len-via-else-place-len}

pub returns-then-index-letter-clause-set : goal.returns-then-index-letter-clause-set
returns-then-index-letter-clause-set c =
    let es = c.args.transitions.now.items in
    let place = c.place_in-place.result in
    let v : Transition = record { letter = c.index_mut.result.now.letter; target = c.args.target } in
    let within : place < length es = omega arith in
    let here : c.index.result.now.letter ≡ c.args.letter = c.if-index-letter.true in
    let letter : v.letter ≡ c.args.letter = ap (λ (e : Transition). e.letter) (c.index_mut.ensures.value ∙ get_or_default es place _ c.index.result.now within ∙ sym c.index.ensures) ∙ here in
    let same : (d : Transition) → (get_or es place d).letter ≡ v.letter = λ d. ap (λ (e : Transition). e.letter) (get_or_default es place d c.index.result.now within ∙ sym c.index.ensures) ∙ here ∙ sym letter in
    let before : AllWithin (λ e. e.letter < v.letter) es 0 place = subst (λ l. AllWithin (λ e. e.letter < l) es 0 place) (sym letter) (subst (λ (fs : List Transition). AllWithin (λ e. e.letter < c.args.letter) fs 0 c.place_in-place.result) c.deref.ensures.value c.place_in-place.ensures.before) in
    subst (λ l. IsTransitionSet es (set es place v) l c.args.target) letter (IsTransitionSet-set es place v c.requires within same before)

pub returns-in_ok-insert-clause-row : goal.returns-in_ok-insert-clause-row
returns-in_ok-insert-clause-row c =
    let es = c.args.transitions.now.items in
    let place = c.place_in-place.result in
    let x : Transition = record { letter = c.args.letter; target = c.args.target } in
    subst (λ (fs : List Transition). KeepsRow es fs c.args.letter c.args.target) (sym c.in_ok-insert.ensures.items)
    (KeepsRow-put x es place (subst (λ (fs : List Transition). c.place_in-place.result ≤ length fs) c.deref.ensures.value c.place_in-place.ensures.within) c.requires (subst (λ (fs : List Transition). AllWithin (λ e. e.letter < c.args.letter) fs 0 c.place_in-place.result) c.deref.ensures.value c.place_in-place.ensures.before)
    (after_gap es c.args.letter place c.requires (subst (λ (fs : List Transition). AllWithin (λ e. c.args.letter ≤ e.letter) fs c.place_in-place.result (length fs)) c.deref.ensures.value c.place_in-place.ensures.after)
    (λ within d same. elim c.else-place-len.branch [
      | else-place-len-via-then-place-len+else-index-letter w ↦ w.if-index-letter.false (ap (λ (e : Transition). e.letter) (w.index.ensures ∙ get_or_default es place w.index.result.now d within) ∙ same)
      | else-place-len-via-else-place-len w ↦ absurd (omega arith)
    ])))

pub returns-in_ok-insert-clause-set : goal.returns-in_ok-insert-clause-set
returns-in_ok-insert-clause-set c =
    let x : Transition = record { letter = c.args.letter; target = c.args.target } in
    subst (λ (fs : List Transition). IsTransitionSet c.args.transitions.now.items fs c.args.letter c.args.target) (sym c.in_ok-insert.ensures.items)
    (IsTransitionSet-put x c.args.transitions.now.items c.place_in-place.result (subst (λ (fs : List Transition). c.place_in-place.result ≤ length fs) c.deref.ensures.value c.place_in-place.ensures.within) (subst (λ (fs : List Transition). AllWithin (λ e. e.letter < c.args.letter) fs 0 c.place_in-place.result) c.deref.ensures.value c.place_in-place.ensures.before))

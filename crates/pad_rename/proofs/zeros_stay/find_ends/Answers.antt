use Rattle.std.proofs.Common.{◌≡◌, ◌<◌, ◌≤◌, true, false, List, length, ◌⊎◌, inl, inr, sym, ap, ◌∙◌, arith}
use Rattle.std.specs.List.{list_any}
use Rattle.digit_tuple.specs.Deterministic.{letters_of}
use Rattle.digit_tuple.specs.Letters.{product}
use Rattle.digit_tuple.specs.declared.transitions.Transition.{Transition}
use Rattle.pad_rename.proofs.FoundEnds.{AreEnds-more, AreEnds-none, is_return}
use Rattle.pad_rename.proofs.zeros_stay.find_ends.Goals as goal
use Rattle.pad_rename.proofs.zeros_stay.find_ends.Goals.{then-has_return, else-has_return, then-len-letters, else-len-letters}

pub loop-state-init : goal.loop-state-init
loop-state-init c = AreEnds-none c.args.a.now

pub loop-state-preserved : goal.loop-state-preserved
loop-state-preserved c =
    let d = c.args.a.now in
    let q = c.loop-state.state in
    let row = c.transitions_into.new.row.items in
    let any : c.has_return.result ≡ list_any (is_return q) row = c.has_return.ensures ∙ ap (list_any (is_return q)) c.deref.ensures.value in
    let letters : c.letters-letters.result ≡ letters_of d = c.letters-letters.ensures.value ∙ ap product c.alphabet.ensures.sizes in
    let size : length row ≡ c.len.result = ap (λ (es : List Transition). length es) (sym c.deref.ensures.value) ∙ c.deref.ensures.len ∙ sym c.len.ensures in
    let here : ((list_any (is_return q) row ≡ true) × (c.if-has_return.returns ≡ true)) ⊎ ((list_any (is_return q) row ≡ false) × (c.if-has_return.returns ≡ c.loop-state.returns)) =
    elim c.if-has_return.branch [
      | then-has_return w ↦ inl (sym any ∙ w.if-has_return.true, w.returns-is)
      | else-has_return w ↦ inr (sym any ∙ w.if-has_return.false, w.returns-is)
    ] in
    let short : ((length row < letters_of d) × (c.if-len-letters.gap ≡ true)) ⊎ ((letters_of d ≤ length row) × (c.if-len-letters.gap ≡ c.loop-state.gap)) =
    elim c.if-len-letters.branch [
      | then-len-letters w ↦ inl (omega (arith, w.if-len-letters.true, size, letters), w.gap-is)
      | else-len-letters w ↦ inr (omega (arith, w.if-len-letters.false, size, letters), w.gap-is)
    ] in
    AreEnds-more d q row c.in_ok-transitions_into.ensures.transitions c.in_ok-transitions_into.ensures.row c.loop-state.returns c.loop-state.gap c.if-has_return.returns c.if-len-letters.gap c.loop-state.invariant here short

use Rattle.std.proofs.Common.{◌≡◌, ◌≢◌, ◌+◌, ◌/◌, ◌%◌, ◌<◌, ℕ, List, [], drop, length, get_or, subst, sym, ap, ◌∙◌, arith}
use Rattle.std.proofs.lemmas.Bool.{eqb-false}
use Rattle.std.proofs.lemmas.List.{get_or-drop}
use Rattle.std.proofs.lemmas.Bool.Decides.{Decides-eqb}
use Rattle.std.specs.List.{All, AllPairs}
use Rattle.digit_tuple.specs.Reversed.{transition_to}
use Rattle.digit_tuple.specs.Deterministic.{target_by}
use Rattle.digit_tuple.specs.declared.transitions.Transition.{Transition}
use Rattle.digit_tuple.specs.declared.decisions.Decisions.{Decisions}
use Rattle.digit_tuple.specs.Decisions.{rows_in, sizes_in, joined, only_transition, IsSound}
use Rattle.digit_tuple.proofs.JoinedReads.{joined-at, joined-none}
use Rattle.digit_tuple.proofs.DecisionReads.{IsRowOn-sound, digits_at, start_at, letters-after_digit, filled-after_digit, only_transition-at, length-only_transitions, empty-digits, positive_weight}
use Rattle.digit_tuple.proofs.DfaLemmas.{target_by-other}
use Rattle.digit_tuple.proofs.decisions.Decisions.+step.Goals as goal

pub list-digits-requires : goal.list-digits-requires
list-digits-requires t c = (IsRowOn-sound _ c.in-OnTrack.track _ c.in-OnTrack.below.value c.args.place c.in-OnTrack.is c.requires.sound c.requires.place).at.within

pub returns-then-is_empty : goal.returns-then-is_empty
returns-then-is_empty t c =
    let track = c.in-OnTrack.track in
    let below = c.in-OnTrack.below.value in
    let on = IsRowOn-sound _ track _ below c.args.place c.in-OnTrack.is c.requires.sound c.requires.place in
    let rows : List (List Transition) = drop (start_at track c.args.place) (rows_in below) in
    let none : digits_at track c.args.place ≡ [] = empty-digits (digits_at track c.args.place) (ap length (sym c.list-digits.ensures) ∙ (Decides-eqb (length c.list-digits.result.now) 0).0 (sym c.is_empty.ensures ∙ c.if-is_empty.true)) in
    sym (ap (λ (d : Decisions). target_by (get_or (rows_in d) c.args.place []) c.args.letter) c.in-OnTrack.is ∙ ap (λ (es : List Transition). target_by es c.args.letter) (on.at.row ∙ ap (λ (ns : List ℕ). joined track.weight ns rows) none))

pub nonzero_div-letter : goal.nonzero_div-letter
nonzero_div-letter t c =
    let track = c.in-OnTrack.track in
    let below = c.in-OnTrack.below.value in
    let on = IsRowOn-sound _ track _ below c.args.place c.in-OnTrack.is c.requires.sound c.requires.place in
    let some : length c.list-digits.result.now ≢ 0 = eqb-false (length c.list-digits.result.now) 0 (sym c.is_empty.ensures ∙ c.if-is_empty.false) in
    positive_weight track.weight (drop (start_at track c.args.place) (rows_in below)) 0 (omega (arith, some, ap length c.list-digits.ensures, on.at.room)) (letters-after_digit track below c.args.place on) (filled-after_digit track below c.args.place on)

pub nonzero_rem-letter : goal.nonzero_rem-letter
nonzero_rem-letter t c =
    let track = c.in-OnTrack.track in
    let below = c.in-OnTrack.below.value in
    let on = IsRowOn-sound _ track _ below c.args.place c.in-OnTrack.is c.requires.sound c.requires.place in
    let some : length c.list-digits.result.now ≢ 0 = eqb-false (length c.list-digits.result.now) 0 (sym c.is_empty.ensures ∙ c.if-is_empty.false) in
    positive_weight track.weight (drop (start_at track c.args.place) (rows_in below)) 0 (omega (arith, some, ap length c.list-digits.ensures, on.at.room)) (letters-after_digit track below c.args.place on) (filled-after_digit track below c.args.place on)

pub index_of-requires : goal.index_of-requires
index_of-requires t c =
    let track = c.in-OnTrack.track in
    let below = c.in-OnTrack.below.value in
    let on = IsRowOn-sound _ track _ below c.args.place c.in-OnTrack.is c.requires.sound c.requires.place in
    subst (AllPairs (λ d e. d < e)) (sym c.list-digits.ensures) on.at.digits.ascending

pub overflow_add-start : goal.overflow_add-start
overflow_add-start t c =
    let found = c.in-Some.ensures.found in
    omega (arith, c.start.ensures.fits, found.0, ap length c.list-digits.ensures)

pub step-requires : goal.step-requires
step-requires t c = (
  omega (arith, c.decreases, ap (λ (d : Decisions). length (sizes_in d)) c.deref.ensures, ap (λ (d : Decisions). length (sizes_in d)) c.in-OnTrack.is),
  let track = c.in-OnTrack.track in
      let below = c.in-OnTrack.below.value in
      let on = IsRowOn-sound _ track _ below c.args.place c.in-OnTrack.is c.requires.sound c.requires.place in
      let found = c.in-Some.ensures.found in
      let same = sym c.deref.ensures in (
        subst IsSound same on.below_is,
        subst (λ (d : Decisions). c.start.result + c.in-Some.count < length (rows_in d)) same (omega (arith, on.at.fits, c.start.ensures.value, found.0, ap length c.list-digits.ensures)),
      ),
)

pub returns-else-letter-eq0 : goal.returns-else-letter-eq0
returns-else-letter-eq0 t c =
    let targets = c.in-Targets.targets.items in
    let within : c.args.place < length targets = omega (arith, subst (λ (d : Decisions). c.args.place < length (rows_in d)) c.in-Targets.is c.requires.place, length-only_transitions targets) in
    let row : get_or (rows_in c.args.self.now) c.args.place [] ≡ only_transition (get_or targets c.args.place 0) = ap (λ (d : Decisions). get_or (rows_in d) c.args.place []) c.in-Targets.is ∙ only_transition-at targets c.args.place 0 within in
    let other : 0 ≢ c.args.letter = λ same. c.if-letter-eq0.false (sym same) in
    sym (ap (λ (es : List Transition). target_by es c.args.letter) row ∙ target_by-other (transition_to 0 (get_or targets c.args.place 0)) [] c.args.letter other)

pub returns-in-Some : goal.returns-in-Some
returns-in-Some t c =
    let track = c.in-OnTrack.track in
    let below = c.in-OnTrack.below.value in
    let on = IsRowOn-sound _ track _ below c.args.place c.in-OnTrack.is c.requires.sound c.requires.place in
    let digits : List ℕ = digits_at track c.args.place in
    let rows : List (List Transition) = drop (start_at track c.args.place) (rows_in below) in
    let count = c.in-Some.count in
    let found = c.in-Some.ensures.found in
    let inside : count < length digits = omega (arith, found.0, ap length c.list-digits.ensures) in
    let there : get_or (rows_in c.deref.result.now) (c.start.result + count) [] ≡ get_or rows count [] =
    ap (λ (d : Decisions). get_or (rows_in d) (c.start.result + count) []) c.deref.ensures ∙ ap (λ n. get_or (rows_in below) (n + count) []) c.start.ensures.value ∙ sym (get_or-drop (start_at track c.args.place) (rows_in below) count []) in
    let at = joined-at track.weight c.args.letter digits rows count 0 (letters-after_digit track below c.args.place on) on.at.digits.ascending inside (omega (arith, inside, on.at.room)) (ap (λ (ns : List ℕ). get_or ns count 0) (sym c.list-digits.ensures) ∙ found.1) in
    c.step.ensures ∙ ap (λ (es : List Transition). target_by es (c.args.letter % track.weight)) there ∙ sym at ∙ ap (λ (es : List Transition). target_by es c.args.letter) (sym on.at.row)
    ∙ ap (λ (d : Decisions). target_by (get_or (rows_in d) c.args.place []) c.args.letter) (sym c.in-OnTrack.is)

pub returns-in-None : goal.returns-in-None
returns-in-None t c =
    let track = c.in-OnTrack.track in
    let below = c.in-OnTrack.below.value in
    let on = IsRowOn-sound _ track _ below c.args.place c.in-OnTrack.is c.requires.sound c.requires.place in
    let others = subst (All (λ d. d ≢ c.args.letter / track.weight)) c.list-digits.ensures c.in-None.ensures.none in
    sym (ap (λ (d : Decisions). target_by (get_or (rows_in d) c.args.place []) c.args.letter) c.in-OnTrack.is ∙ ap (λ (es : List Transition). target_by es c.args.letter) on.at.row
    ∙ joined-none track.weight c.args.letter (digits_at track c.args.place) (drop (start_at track c.args.place) (rows_in below)) (letters-after_digit track below c.args.place on) others)

use Rattle.std.proofs.Common.{◌≡◌, ◌==◌, ◌<◌, ℕ, List, [], drop, length, get_or, refl, subst, sym, ap, ◌∙◌, arith, false}
use Rattle.std.proofs.lemmas.Bool.Decides.{Decides-eqb}
use Rattle.digit_tuple.specs.declared.transitions.Transition.{Transition}
use Rattle.digit_tuple.specs.declared.decisions.Decisions.{Decisions}
use Rattle.digit_tuple.specs.Decisions.{rows_in, joined, only_transition}
use Rattle.digit_tuple.proofs.TruthLemmas.{never_true}
use Rattle.digit_tuple.proofs.JoinedReads.{joined-empty}
use Rattle.digit_tuple.proofs.DecisionReads.{IsRowOn-sound, digits_at, start_at, filled-after_digit, only_transition-at, length-only_transitions, empty-digits}
use Rattle.digit_tuple.proofs.decisions.Decisions.is_bare.Goals as goal

pub list-requires : goal.list-requires
list-requires c = (IsRowOn-sound _ c.in-OnTrack.track _ c.in-OnTrack.field-1.value c.args.place c.in-OnTrack.is c.requires.sound c.requires.place).at.within

pub returns-in-Targets : goal.returns-in-Targets
returns-in-Targets c =
    let targets = c.in-Targets.field-0.items in
    let within : c.args.place < length targets = omega (arith, subst (λ (d : Decisions). c.args.place < length (rows_in d)) c.in-Targets.is c.requires.place, length-only_transitions targets) in
    let row : get_or (rows_in c.args.self.now) c.args.place [] ≡ only_transition (get_or targets c.args.place 0) = ap (λ (d : Decisions). get_or (rows_in d) c.args.place []) c.in-Targets.is ∙ only_transition-at targets c.args.place 0 within in
    never_true false (get_or (rows_in c.args.self.now) c.args.place [] ≡ []) refl (λ none. absurd (omega (arith, ap length (sym row ∙ none))))

pub returns-in-OnTrack : goal.returns-in-OnTrack
returns-in-OnTrack c =
    let track = c.in-OnTrack.track in
    let below = c.in-OnTrack.field-1.value in
    let on = IsRowOn-sound _ track _ below c.args.place c.in-OnTrack.is c.requires.sound c.requires.place in
    let digits : List ℕ = digits_at track c.args.place in
    let rows : List (List Transition) = drop (start_at track c.args.place) (rows_in below) in
    let row : get_or (rows_in c.args.self.now) c.args.place [] ≡ joined track.weight digits rows = ap (λ (d : Decisions). get_or (rows_in d) c.args.place []) c.in-OnTrack.is ∙ on.at.row in
    let truth : c.is_empty.result ≡ (length digits == 0) = c.is_empty.ensures ∙ ap (λ (ns : List ℕ). length ns == 0) c.list.ensures in (
      λ yes. row ∙ ap (λ (ns : List ℕ). joined track.weight ns rows) (empty-digits digits ((Decides-eqb (length digits) 0).0 (sym truth ∙ yes))),
      λ none. truth ∙ (Decides-eqb (length digits) 0).1 (ap length (joined-empty track.weight digits rows on.at.room (filled-after_digit track below c.args.place on) (sym row ∙ none))),
    )

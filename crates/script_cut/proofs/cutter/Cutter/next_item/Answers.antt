use Rattle.std.proofs.Common.{◌≡◌, ℕ, Bool, ◌≤◌, true, false, ◌∙◌, Ok, Err, sym, ap, subst}
use Rattle.std.proofs.lemmas.Result.{err_from_is_err_and}
use Rattle.wal_outside.specs.Causes.{CountsFault}
use Rattle.script_cut.specs.Asking.{is_failed_cut}
use Rattle.script_cut.specs.Kept.{Kept}
use Rattle.script_cut.specs.Passing.{PassesGaps}
use Rattle.script_cut.specs.Cutting.{HasCut}
use Rattle.script_cut.specs.declared.cut.Cut.TheVariants as cuts
use Rattle.script_cut.proofs.CallEnds.{open_ends, stops_end, still_gaps}
use Rattle.script_cut.proofs.CutSteps.{cut_end, still_both, cut_gaps_stop, cut_text_stop, cut_too_long, cut_command, cut_syntax, found_terminated, found_unterminated}
use Rattle.script_cut.proofs.cutter.Cutter.next_item.Goals as goal

pub returns-then-not-branch-clause-cut : goal.returns-then-not-branch-clause-cut
returns-then-not-branch-clause-cut g c =
    let is : c.in_ok-pass_gaps.field-0 ≡ false = c.if-not-branch.true in
    let gaps : PassesGaps c.args.self.now (g.S.Source.view c.args.from.now) (Ok false) c.pass_gaps.new.self (g.S.Source.view c.pass_gaps.new.from) = rw is at c.in_ok-pass_gaps.ensures.gaps in
    cut_end c.args.self.now c.pass_gaps.new.self (g.S.Source.view c.args.from.now) (g.S.Source.view c.pass_gaps.new.from) c.requires.begun gaps

pub returns-in_err-scanned-clause-still : goal.returns-in_err-scanned-clause-still
returns-in_err-scanned-clause-still g c =
    let is : c.in_ok-pass_gaps.field-0 ≡ true = c.if-not-branch.false in
    let gaps : PassesGaps c.args.self.now (g.S.Source.view c.args.from.now) (Ok true) c.pass_gaps.new.self (g.S.Source.view c.pass_gaps.new.from) = rw is at c.in_ok-pass_gaps.ensures.gaps in
    still_both (c.pass_gaps.new.from ≡ c.args.from.now) (c.pass_text.new.from ≡ c.pass_gaps.new.from) (c.pass_text.new.from ≡ c.args.from.now) c.args.self.now c.pass_gaps.new.self (λ p q. q ∙ p) (rw is at c.in_ok-pass_gaps.ensures.still) gaps.stops.starts c.pass_text.ensures.still

pub returns-then-scanned-gt-TEXT_LIMIT-clause-still : goal.returns-then-scanned-gt-TEXT_LIMIT-clause-still
returns-then-scanned-gt-TEXT_LIMIT-clause-still g c =
    let is : c.in_ok-pass_gaps.field-0 ≡ true = c.if-not-branch.false in
    let gaps : PassesGaps c.args.self.now (g.S.Source.view c.args.from.now) (Ok true) c.pass_gaps.new.self (g.S.Source.view c.pass_gaps.new.from) = rw is at c.in_ok-pass_gaps.ensures.gaps in
    still_both (c.pass_gaps.new.from ≡ c.args.from.now) (c.pass_text.new.from ≡ c.pass_gaps.new.from) (c.pass_text.new.from ≡ c.args.from.now) c.args.self.now c.pass_gaps.new.self (λ p q. q ∙ p) (rw is at c.in_ok-pass_gaps.ensures.still) gaps.stops.starts c.pass_text.ensures.still

pub returns-in_err-pass_gaps-clause-cut : goal.returns-in_err-pass_gaps-clause-cut
returns-in_err-pass_gaps-clause-cut g c =
    let p = err_from_is_err_and c.from_residual.result c.from_residual.ensures.1 in
    rw (p.1, p.2) (cut_gaps_stop c.args.self.now c.pass_gaps.new.self (g.S.Source.view c.args.from.now) (g.S.Source.view c.pass_gaps.new.from) c.in_err-pass_gaps.field-0.0 c.requires.begun c.in_err-pass_gaps.ensures.gaps)

pub returns-in_err-scanned-clause-cut : goal.returns-in_err-scanned-clause-cut
returns-in_err-scanned-clause-cut g c =
    let is : c.in_ok-pass_gaps.field-0 ≡ true = c.if-not-branch.false in
    let gaps : PassesGaps c.args.self.now (g.S.Source.view c.args.from.now) (Ok true) c.pass_gaps.new.self (g.S.Source.view c.pass_gaps.new.from) = rw is at c.in_ok-pass_gaps.ensures.gaps in
    let p = err_from_is_err_and c.from_residual-in_err-scanned.result c.from_residual-in_err-scanned.ensures.1 in
    rw (p.1, p.2) (cut_text_stop c.args.self.now c.pass_gaps.new.self c.pass_text.new.self (g.S.Source.view c.args.from.now) (g.S.Source.view c.pass_gaps.new.from) (g.S.Source.view c.pass_text.new.from) c.in_err-scanned.field-0.0 c.requires.begun gaps c.in_err-scanned.ensures.text)

pub returns-then-scanned-gt-TEXT_LIMIT-clause-cut :
    goal.returns-then-scanned-gt-TEXT_LIMIT-clause-cut
returns-then-scanned-gt-TEXT_LIMIT-clause-cut g c =
    let is : c.in_ok-pass_gaps.field-0 ≡ true = c.if-not-branch.false in
    let gaps : PassesGaps c.args.self.now (g.S.Source.view c.args.from.now) (Ok true) c.pass_gaps.new.self (g.S.Source.view c.pass_gaps.new.from) = rw is at c.in_ok-pass_gaps.ensures.gaps in
    let line : c.self.inside.line ≡ c.pass_gaps.new.self.line = ap (λ (k : Kept). k.line) c.self.view_is in
    rw line (cut_too_long c.args.self.now c.pass_gaps.new.self c.pass_text.new.self (g.S.Source.view c.args.from.now) (g.S.Source.view c.pass_gaps.new.from) (g.S.Source.view c.pass_text.new.from) c.in_ok-scanned.scanned c.requires.begun gaps c.in_ok-scanned.ensures.text c.if-scanned-gt-TEXT_LIMIT.true)

pub returns-in-Some-clause-cut : goal.returns-in-Some-clause-cut
returns-in-Some-clause-cut g c =
    let is : c.in_ok-pass_gaps.field-0 ≡ true = c.if-not-branch.false in
    let gaps : PassesGaps c.args.self.now (g.S.Source.view c.args.from.now) (Ok true) c.pass_gaps.new.self (g.S.Source.view c.pass_gaps.new.from) = rw is at c.in_ok-pass_gaps.ensures.gaps in
    let line : c.self.inside.line ≡ c.pass_gaps.new.self.line = ap (λ (k : Kept). k.line) c.self.view_is in
    let text : c.replace-text.result.items ≡ c.pass_text.new.self.text = rw c.replace-text.ensures.value (ap (λ (k : Kept). k.text) c.self-2.view_is) in
    let few : c.in_ok-scanned.scanned.len ≤ 65536 = c.if-scanned-gt-TEXT_LIMIT.false in
    let P : Kept → Type 0 = λ k. HasCut c.args.self.now (g.S.Source.view c.args.from.now) (Ok (cuts.Command c.replace-text.result c.in-Some.shown c.self.inside.line)) (record k { text = c.replace-text.new.dest.items }) (g.S.Source.view c.pass_text.new.from) in
    subst P (sym c.self-2.view_is) (rw line (cut_command c.args.self.now c.pass_text.new.self (g.S.Source.view c.args.from.now) (g.S.Source.view c.pass_text.new.from) c.in-Some.shown c.pass_gaps.new.self.line c.in_ok-scanned.scanned.len c.replace-text.result c.replace-text.new.dest.items
    (found_terminated c.args.self.now c.pass_gaps.new.self c.pass_text.new.self (g.S.Source.view c.args.from.now) (g.S.Source.view c.pass_gaps.new.from) (g.S.Source.view c.pass_text.new.from) c.in_ok-scanned.scanned c.in-Some.shown c.requires.begun gaps c.in_ok-scanned.ensures.text c.in-Some.is) few text))

pub returns-in-None-clause-cut : goal.returns-in-None-clause-cut
returns-in-None-clause-cut g c =
    let is : c.in_ok-pass_gaps.field-0 ≡ true = c.if-not-branch.false in
    let gaps : PassesGaps c.args.self.now (g.S.Source.view c.args.from.now) (Ok true) c.pass_gaps.new.self (g.S.Source.view c.pass_gaps.new.from) = rw is at c.in_ok-pass_gaps.ensures.gaps in
    let line : c.self.inside.line ≡ c.pass_gaps.new.self.line = ap (λ (k : Kept). k.line) c.self.view_is in
    let few : c.in_ok-scanned.scanned.len ≤ 65536 = c.if-scanned-gt-TEXT_LIMIT.false in
    rw line (cut_syntax c.args.self.now c.pass_text.new.self (g.S.Source.view c.args.from.now) (g.S.Source.view c.pass_text.new.from) c.pass_gaps.new.self.line c.in_ok-scanned.scanned.len
    (found_unterminated c.args.self.now c.pass_gaps.new.self c.pass_text.new.self (g.S.Source.view c.args.from.now) (g.S.Source.view c.pass_gaps.new.from) (g.S.Source.view c.pass_text.new.from) c.in_ok-scanned.scanned c.requires.begun gaps c.in_ok-scanned.ensures.text c.in-None.is) few)

pub pass_text-requires-clause-empty : goal.pass_text-requires-clause-empty
pass_text-requires-clause-empty g c = c.pass_gaps.ensures.text ∙ c.requires.empty

pub pass_text-requires-clause-begun : goal.pass_text-requires-clause-begun
pass_text-requires-clause-begun g c =
    let gaps : PassesGaps c.args.self.now (g.S.Source.view c.args.from.now) (Ok true) c.pass_gaps.new.self (g.S.Source.view c.pass_gaps.new.from) = rw c.if-not-branch.false at c.in_ok-pass_gaps.ensures.gaps in
    gaps.stops.over

pub returns-in_err-pass_gaps-clause-last : goal.returns-in_err-pass_gaps-clause-last
returns-in_err-pass_gaps-clause-last g c =
    let p = err_from_is_err_and c.from_residual.result c.from_residual.ensures.1 in
    rw (p.1, p.2) (stops_end c.in_err-pass_gaps.field-0.0 c.pass_gaps.new.self c.in_err-pass_gaps.ensures.gaps.stops)

pub returns-in_err-pass_gaps-clause-still : goal.returns-in_err-pass_gaps-clause-still
returns-in_err-pass_gaps-clause-still g c = still_gaps (c.pass_gaps.new.from ≡ c.args.from.now) c.args.self.now.held c.in_err-pass_gaps.ensures.still

pub returns-in_err-pass_gaps-clause-faults : goal.returns-in_err-pass_gaps-clause-faults
returns-in_err-pass_gaps-clause-faults g c =
    let p = err_from_is_err_and c.from_residual.result c.from_residual.ensures.1 in
    rw (p.1, p.2) c.in_err-pass_gaps.ensures.faults

pub returns-then-not-branch-clause-last : goal.returns-then-not-branch-clause-last
returns-then-not-branch-clause-last g c =
    let gaps : PassesGaps c.args.self.now (g.S.Source.view c.args.from.now) (Ok false) c.pass_gaps.new.self (g.S.Source.view c.pass_gaps.new.from) = rw c.if-not-branch.true at c.in_ok-pass_gaps.ensures.gaps in
    gaps.stops.over

pub returns-then-not-branch-clause-still : goal.returns-then-not-branch-clause-still
returns-then-not-branch-clause-still g c = still_gaps (c.pass_gaps.new.from ≡ c.args.from.now) c.args.self.now.held (rw c.if-not-branch.true at c.in_ok-pass_gaps.ensures.still)

pub returns-then-not-branch-clause-faults : goal.returns-then-not-branch-clause-faults
returns-then-not-branch-clause-faults g c = c.in_ok-pass_gaps.ensures.faults

pub returns-in_err-scanned-clause-last : goal.returns-in_err-scanned-clause-last
returns-in_err-scanned-clause-last g c =
    let p = err_from_is_err_and c.from_residual-in_err-scanned.result c.from_residual-in_err-scanned.ensures.1 in
    rw (p.1, p.2) (stops_end c.in_err-scanned.field-0.0 c.pass_text.new.self c.in_err-scanned.ensures.text.stops.1)

pub returns-in_err-scanned-clause-faults : goal.returns-in_err-scanned-clause-faults
returns-in_err-scanned-clause-faults g c =
    let p = err_from_is_err_and c.from_residual-in_err-scanned.result c.from_residual-in_err-scanned.ensures.1 in
    let P : ℕ → Type 0 = λ before. CountsFault (is_failed_cut {T = Bool} (Err c.in_err-scanned.field-0.0)) before (g.S.Source.view c.pass_text.new.from).faults in
    rw (p.1, p.2) (subst P c.in_ok-pass_gaps.ensures.faults c.in_err-scanned.ensures.faults)

pub returns-then-scanned-gt-TEXT_LIMIT-clause-last : goal.returns-then-scanned-gt-TEXT_LIMIT-clause-last
returns-then-scanned-gt-TEXT_LIMIT-clause-last g c = tt

pub returns-then-scanned-gt-TEXT_LIMIT-clause-faults : goal.returns-then-scanned-gt-TEXT_LIMIT-clause-faults
returns-then-scanned-gt-TEXT_LIMIT-clause-faults g c = c.in_ok-scanned.ensures.faults ∙ c.in_ok-pass_gaps.ensures.faults

pub returns-in-Some-clause-last : goal.returns-in-Some-clause-last
returns-in-Some-clause-last g c = tt

pub returns-in-Some-clause-still : goal.returns-in-Some-clause-still
returns-in-Some-clause-still g c =
    let gaps : PassesGaps c.args.self.now (g.S.Source.view c.args.from.now) (Ok true) c.pass_gaps.new.self (g.S.Source.view c.pass_gaps.new.from) = rw c.if-not-branch.false at c.in_ok-pass_gaps.ensures.gaps in
    still_both (c.pass_gaps.new.from ≡ c.args.from.now) (c.pass_text.new.from ≡ c.pass_gaps.new.from) (c.pass_text.new.from ≡ c.args.from.now) c.args.self.now c.pass_gaps.new.self (λ p q. q ∙ p) (rw c.if-not-branch.false at c.in_ok-pass_gaps.ensures.still) gaps.stops.starts c.pass_text.ensures.still

pub returns-in-Some-clause-faults : goal.returns-in-Some-clause-faults
returns-in-Some-clause-faults g c = c.in_ok-scanned.ensures.faults ∙ c.in_ok-pass_gaps.ensures.faults

pub returns-in-None-clause-last : goal.returns-in-None-clause-last
returns-in-None-clause-last g c = open_ends c.pass_gaps.new.self (g.S.Source.view c.pass_gaps.new.from) c.in_ok-scanned.scanned c.pass_text.new.self (g.S.Source.view c.pass_text.new.from) c.in_ok-scanned.ensures.text c.in-None.is

pub returns-in-None-clause-still : goal.returns-in-None-clause-still
returns-in-None-clause-still g c =
    let gaps : PassesGaps c.args.self.now (g.S.Source.view c.args.from.now) (Ok true) c.pass_gaps.new.self (g.S.Source.view c.pass_gaps.new.from) = rw c.if-not-branch.false at c.in_ok-pass_gaps.ensures.gaps in
    still_both (c.pass_gaps.new.from ≡ c.args.from.now) (c.pass_text.new.from ≡ c.pass_gaps.new.from) (c.pass_text.new.from ≡ c.args.from.now) c.args.self.now c.pass_gaps.new.self (λ p q. q ∙ p) (rw c.if-not-branch.false at c.in_ok-pass_gaps.ensures.still) gaps.stops.starts c.pass_text.ensures.still

pub returns-in-None-clause-faults : goal.returns-in-None-clause-faults
returns-in-None-clause-faults g c = c.in_ok-scanned.ensures.faults ∙ c.in_ok-pass_gaps.ensures.faults

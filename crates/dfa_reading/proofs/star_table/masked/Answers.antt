use Rattle.std.proofs.Common.{ℕ, List, ◌++◌, Option, None, drop, get_or, sym, ap, ◌∙◌, append-nil}
use Rattle.std.proofs.lemmas.List.{drop_all}
use Rattle.dfa_reading.specs.StarTables.{kept_digit, masked}
use Rattle.dfa_reading.proofs.StarTableLemmas.{masked_more}
use Rattle.dfa_reading.proofs.star_table.masked.Goals as goal

pub loop-track-preserved : goal.loop-track-preserved
loop-track-preserved c =
    masked_more c.args.digits.now c.args.pattern.now c.loop-track.masked.items c.push.new.self.items c.loop-track.track None c.kept.result _ c.loop-track-test.true
    (c.kept.ensures ∙ ap (kept_digit (get_or c.args.digits.now c.loop-track.track None)) c.digit_at.ensures) c.in_ok-push.ensures.items c.loop-track.invariant

pub loop-track-init : goal.loop-track-init
loop-track-init c = ap (λ (done : List (Option ℕ)). done ++ masked c.args.digits.now c.args.pattern.now) c.in_ok-masked.ensures.items

pub returns : goal.returns
returns c =
    let done = c.loop-track.masked.items in
    let pattern = drop c.loop-track.track c.args.pattern.now in
    sym (append-nil done) ∙ sym (ap (λ (digits : List (Option ℕ)). done ++ masked digits pattern) (drop_all c.loop-track.track c.args.digits.now c.loop-track-test.false)) ∙ c.loop-track.invariant

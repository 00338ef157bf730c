use Rattle.std.proofs.Common.{◌-◌, [], ◌∷◌, ◌++◌, map, get_or, sym, ap, ◌∙◌}
use Rattle.std.proofs.lemmas.List.{map-append}
use Rattle.digit_tuple.specs.declared.transitions.Transition.{Transition}
use Rattle.digit_tuple.specs.Decisions.{only_transition}
use Rattle.digit_tuple.proofs.RowGrowthLemmas.{IsGrown-begin, IsGrown-more, IsRun-one, row-one}
use Rattle.digit_tuple.proofs.decisions.Track.add_last_row.Goals as goal

pub loop-transition-init : goal.loop-transition-init
loop-transition-init c = IsGrown-begin c.args.base c.args.transitions.now c.args.self.now (map only_transition c.args.targets.now.items) 1 c.begin.new.self c.requires.track c.in_ok-begin.ensures

pub loop-transition-preserved : goal.loop-transition-preserved
loop-transition-preserved c =
    let transitions = c.args.transitions.now in
    let i = c.loop-transition.transition-index in
    let z : Transition = record { letter = 0; target = 0 } in
    let transition = get_or transitions i z in
    let run = IsRun-one c.args.base transitions c.args.self.now i z c.requires.track.weight c.loop-transition-test.true c.requires.ascending c.requires.letters in
    IsGrown-more c.args.base transitions c.args.self.now (map only_transition c.args.targets.now.items) i 1 c.loop-transition.self (map only_transition c.loop-transition.targets.items) 1 (transition.letter - c.args.base) transition.letter c.add.new.self (map only_transition c.push.new.self.items)
    c.loop-transition.invariant run c.in_ok-add.ensures
    (ap (map only_transition) c.in_ok-push.ensures.items ∙ map-append only_transition c.loop-transition.targets.items (transition.target ∷ []) ∙ ap (λ row. map only_transition c.loop-transition.targets.items ++ row ∷ []) (sym (row-one transitions i z c.loop-transition-test.true)))

use Rattle.std.proofs.Common.{◌≡◌, ◌++◌, ℕ, List, ap, sym, ◌∙◌, arith}
use Rattle.std.proofs.lemmas.List.{append-nil}
use Rattle.made_script.specs.Scripts.{commands, first_commands}
use Rattle.made_script.proofs.DrawnCommands.{command_drawn, commands_more}
use Rattle.made_script.proofs.script.generated_script.Goals as goal

pub loop-count-init : goal.loop-count-init
loop-count-init c = (c.in_ok-extend_from_slice.ensures.items ∙ (ap (λ (xs : List ℕ). xs ++ first_commands) c.new-text.ensures.items ∙ sym (append-nil first_commands)), c.new-draws.ensures)

pub loop-count-preserved : goal.loop-count-preserved
loop-count-preserved c =
    let drawn = command_drawn c.args.seed c.loop-count.count c.loop-count.draws.state c.draw-kind.new.self.state c.draw-one.new.self.state c.draw-two.new.self.state c.draw-kind.result c.draw-one.result c.draw-two.result
    c.loop-count.invariant.1 c.draw-kind.ensures.state c.draw-kind.ensures.value c.draw-one.ensures.state c.draw-one.ensures.value c.draw-two.ensures.state c.draw-two.ensures.value in
    (c.in_ok-push_command.ensures ∙ commands_more c.args.seed c.loop-count.count c.loop-count.text.items _ c.loop-count.invariant.0 drawn.0, drawn.1)

pub returns : goal.returns
returns c =
    let all : c.loop-count.count ≡ 196 = omega (arith, c.loop-count-test.false, c.loop-count.auto.count-end) in
    c.loop-count.invariant.0 ∙ ap (λ (n : ℕ). first_commands ++ commands c.args.seed n) all

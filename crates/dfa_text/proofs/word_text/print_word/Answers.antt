use Rattle.std.proofs.Common.{◌≡◌, ◌++◌, [], ◌∷◌, get_or, ℤ, Option, None, subst}
use Rattle.digit_tuple.specs.Headers.{sets_of}
use Rattle.dfa_text.specs.Parts.{state_text, text_of_lines}
use Rattle.dfa_text.specs.RelationText.{steps_lines, state_lines}
use Rattle.dfa_text.proofs.Counting.{lines_more, state_more}
use Rattle.dfa_text.proofs.word_text.print_word.Goals as goal

pub loop-state-preserved : goal.loop-state-preserved
loop-state-preserved c =
    let sets = sets_of c.args.header.now in
    let d = c.args.d.now in
    let outputs = c.args.outputs.now in
    let state = c.loop-state.state in record {
      text = lines_more (state_lines sets d outputs) c.push_header.new.out.items c.loop-state.out.items c.push_lines.new.out.items state c.loop-state.invariant.text
          (state_more c.loop-state.out.items c.push_output.new.out.items c.push_lines.new.out.items (state_text state (get_or outputs state None)) (steps_lines sets d state) (subst (λ (output : Option ℤ). c.push_output.new.out.items ≡ c.loop-state.out.items ++ text_of_lines ([] ∷ state_text state output ∷ [])) c.output_at.ensures c.in_ok-push_output.ensures) c.in_ok-push_lines.ensures.text);
      tracks = c.in_ok-push_lines.ensures.tracks;
      prefixes = c.in_ok-push_lines.ensures.prefixes;
    }

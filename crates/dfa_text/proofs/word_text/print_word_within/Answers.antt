use Rattle.std.proofs.Common.{◌≡◌, ◌++◌, [], ◌∷◌, ◌<◌, length, sym, ap, arith, codes, true≢false, get_or, ℤ, Option, None, subst}
use Rattle.std.specs.List.{flat_map, range_with_len}
use Rattle.std.proofs.lemmas.List.{length-append}
use Rattle.digit_tuple.specs.Deterministic.{states_of}
use Rattle.digit_tuple.specs.Headers.{sets_of}
use Rattle.dfa_text.specs.Parts.{state_text, text_of_lines}
use Rattle.dfa_text.specs.RelationText.{header_line, steps_lines, state_lines, word_text}
use Rattle.dfa_text.proofs.Counting.{lines_more, state_more, longer_by_numbers}
use Rattle.dfa_text.proofs.word_text.print_word_within.Goals as goal

pub loop-state-preserved : goal.loop-state-preserved
loop-state-preserved c =
    let sets = sets_of c.args.header.now in
    let d = c.args.d.now in
    let outputs = c.args.outputs.now in
    let state = c.loop-state.state in record {
      text = lines_more (state_lines sets d outputs) c.push_header.new.out.items c.loop-state.out.items c.push_lines.new.out.items state c.loop-state.invariant.text
          (state_more c.loop-state.out.items c.push_output.new.out.items c.push_lines.new.out.items (state_text state (get_or outputs state None)) (steps_lines sets d state) (subst (λ (output : Option ℤ). c.push_output.new.out.items ≡ c.loop-state.out.items ++ text_of_lines ([] ∷ state_text state output ∷ [])) c.output_at.ensures c.in_ok-push_output.ensures) c.in_ok-push_lines.ensures.text);
      tracks = c.in_ok-push_lines.ensures.tracks;
      prefixes = c.in_ok-push_lines.ensures.prefixes;
    }

-- what was printed is already too long
pub returns-then-len-most-clause-within : goal.returns-then-len-most-clause-within
unfolding word_text
returns-then-len-most-clause-within c =
    let f = state_lines (sets_of c.args.header.now) c.args.d.now c.args.outputs.now in
    let head = header_line c.args.header.now ++ codes "\n" in
    let states = states_of c.args.d.now in
    let so_far = text_of_lines (flat_map f (range_with_len 0 c.loop-state.state)) in
    let all = text_of_lines (flat_map f (range_with_len 0 states)) in
    let more = longer_by_numbers f c.loop-state.state states (omega (arith, c.loop-state-test.true, c.states-state-end.ensures.value)) in
    let long : c.args.most < length (head ++ all) = omega (arith, more, ap length c.loop-state.invariant.text, length-append c.push_header.new.out.items so_far, ap length c.in_ok-push_header.ensures, ap length c.in_ok-out.ensures, length-append c.in_ok-out.out.items head, length-append head all, c.if-len-most.true, c.len.ensures) in
    ((λ e. absurd (true≢false (sym e))), (λ h. absurd (omega (arith, long, h))))

use Rattle.std.proofs.Common.{◌≡◌, ℕ, ◌+◌, ◌*◌, ◌/◌, ◌%◌, ◌<◌, ◌≤◌, true, ◌⊎◌, inl, inr, slice_index, sym, ap, ◌∙◌, arith}
use Rattle.std.proofs.lemmas.Bool.{cases_lt}
use Rattle.std.proofs.lemmas.List.FromFn.{fill_by_all}
use Rattle.word_transduce.specs.PackedOutputs.{key_output, output_of}
use Rattle.word_transduce.proofs.packed_outputs.unpack_groups.Goals as goal

pub loop-at-preserved : goal.loop-at-preserved
loop-at-preserved c = record {
  count = c.write_group.ensures.count ∙ c.loop-at.invariant.count;
  passed = λ place within. by place within (cases_lt place (4 * at));
}
  where
    at : ℕ
    at = c.loop-at.at

    by : (place : ℕ) → place < 4 * (at + 1) → (place < 4 * at) ⊎ (4 * at ≤ place) → slice_index c.write_group.new.outputs place ≡ key_output true c.args.key.now place
    by place within (inl less) = c.write_group.ensures.before place less ∙ c.loop-at.invariant.passed place less
    by place within (inr past) =
        let group : place / 4 ≡ at = omega (arith, within, past) in
        let whole : 4 * at + place % 4 ≡ place = omega (arith, within, past) in
        ap (slice_index c.write_group.new.outputs) (sym whole)
        ∙ c.write_group.ensures.written (place % 4) (omega arith)
        ∙ ap (λ number. output_of number (place % 4)) (c.number_at.ensures ∙ ap (slice_index c.args.key.now) (sym group))

pub returns : goal.returns
returns c =
    fill_by_all (key_output true c.args.key.now) c.loop-at.outputs (4 * c.args.groups) 0 (c.loop-at.invariant.count ∙ c.requires)
    (λ place within. c.loop-at.invariant.passed place (omega (arith, within, c.loop-at-test.false)))

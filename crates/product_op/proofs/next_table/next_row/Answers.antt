use Rattle.std.proofs.Common.{◌≡◌, length, get_or, replicate, unwrap_or, ap, ◌∙◌, arith}
use Rattle.std.proofs.lemmas.List.{with_items_is}
use Rattle.digit_tuple.specs.Letters.{product}
use Rattle.digit_tuple.specs.Deterministic.{letters_of, states_of, transitions_of, target_by}
use Rattle.product_op.proofs.NextRowLemmas.{next_list-written, next_list-sink}
use Rattle.product_op.proofs.next_table.next_row.Goals as goal
use Rattle.product_op.proofs.next_table.next_row.Goals.{then-state-sink+in_ok-transitions_into, else-state-sink}

pub returns : goal.returns
returns c =
    let d = c.args.dfa.now in
    let state = c.args.state in
    let old = c.in_ok-next.next.items in
    let sinks : old ≡ replicate (letters_of d) (states_of d) = c.in_ok-next.ensures.items_if_clones_equal (λ y same. same)
    ∙ ap (λ n. replicate n c.states-sink.result) (c.letters-letters.ensures.value ∙ ap product c.alphabet.ensures.sizes)
    ∙ ap (replicate (letters_of d)) c.states-sink.ensures.value in
    elim c.if-state-sink.branch [
      | then-state-sink+in_ok-transitions_into w ↦ ap (λ (v : _). v.items) w.next-is
          ∙ with_items_is c.in_ok-next.next w.write_targets.new.next (omega (arith, w.write_targets.auto.next, w.deref_mut.ensures.len))
          ∙ next_list-written d state old w.write_targets.new.next sinks
          (omega (arith, w.write_targets.auto.next, ap length w.deref_mut.ensures.value))
          (λ letter. w.write_targets.ensures letter
          ∙ ap (λ es. unwrap_or (target_by es letter) (get_or w.deref_mut.result.now letter 0)) (w.deref.ensures.value ∙ w.in_ok-transitions_into.ensures.transitions)
          ∙ ap (λ xs. unwrap_or (target_by (transitions_of d state) letter) (get_or xs letter 0)) w.deref_mut.ensures.value)
      | else-state-sink w ↦ ap (λ (v : _). v.items) w.next-is ∙ next_list-sink d state old sinks (omega (arith, c.states-sink.ensures.value, w.if-state-sink.false))
    ]

use Rattle.std.proofs.Common.{ℕ, List, length, ap, ◌∙◌, subst}
use Rattle.std.specs.Result.{OnOk}
use Rattle.digit_tuple.specs.Keys.{AreKeyTransitions, part_of, some_nonzero}
use Rattle.digit_tuple.specs.KeySpans.{AreSpans, transitions_in}
use Rattle.digit_tuple.proofs.key_transitions.KeyTransitions.lead_to_parts.Goals as goal

pub add_parts-requires-clause-room : goal.add_parts-requires-clause-room
add_parts-requires-clause-room c = ap length (c.deref.ensures.value ∙ ap (λ v. v.items) c.replace.ensures.after) ∙ c.requires.room

pub invariant_of-self : goal.invariant_of-self
invariant_of-self c = subst (λ (numbers : List ℕ). AreSpans (length numbers) c.add_parts.new.spans.items) c.deref.ensures.value c.add_parts.ensures.within

pub returns : goal.returns
returns c =
    let spans = c.add_parts.new.spans.items in
    let result = λ (kept numbers : List ℕ). OnOk c.add_parts.result (AreKeyTransitions c.args.letters (λ letter. some_nonzero (part_of numbers c.args.width letter)) (transitions_in kept spans)) in
    subst (result c.replace.new.dest.items) (ap (λ v. v.items) c.replace.ensures.after) (subst (λ (numbers : List ℕ). result numbers numbers) c.deref.ensures.value c.add_parts.ensures.parts)

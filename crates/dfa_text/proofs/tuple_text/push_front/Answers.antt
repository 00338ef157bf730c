use Rattle.std.proofs.Common.{◌++◌, ◌∙◌, ap, append_assoc, codes}
use Rattle.std.specs.Fmt.{signed_decimal}
use Rattle.std.specs.List.{join_by}
use Rattle.digit_tuple.specs.Headers.{sets_of}
use Rattle.digit_tuple.specs.Sets.{members_at}
use Rattle.dfa_text.proofs.TupleSteps.{tuple_of_code}
use Rattle.dfa_text.proofs.tuple_text.push_front.Goals as goal

pub returns : goal.returns
returns c =
    rw (tuple_of_code (sets_of c.args.header.now) c.args.alphabet.now c.digits_of.new.out c.args.letter c.requires.sizes c.digits_of.ensures.digits c.digits_of.ensures.letter)
    (c.in_ok-extend_from_slice.ensures.items ∙ ap (λ t. t ++ codes " -> ") c.in_ok-push_tuple.ensures ∙ append_assoc c.args.out.now.items (join_by signed_decimal (codes " ") (members_at (sets_of c.args.header.now) c.digits_of.new.out)) (codes " -> "))

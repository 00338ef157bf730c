-- The letter's digits between brackets.
use Rattle.std.proofs.Common.{List, ℕ, codes, subst}
use Rattle.std.specs.Fmt.{signed_decimal}
use Rattle.std.specs.List.{join_by}
use Rattle.digit_tuple.specs.Letters.{AreDigits}
use Rattle.digit_tuple.specs.Sets.{members_at}
use Rattle.dfa_text.proofs.TupleSteps.{tuple_of_code}
use Rattle.listings.proofs.WordLineLemmas.{letter_pushed}
use Rattle.listings.proofs.word_line.push_letter.Goals as goal

pub push_digits-requires : goal.push_digits-requires
push_digits-requires c = subst (λ (sizes : List ℕ). AreDigits sizes c.digits_of.new.out) c.requires.sizes c.digits_of.ensures.digits

pub returns : goal.returns
returns c =
    let sets = c.args.sets.now in
    rw (tuple_of_code sets c.args.alphabet.now c.digits_of.new.out c.args.letter c.requires.sizes c.digits_of.ensures.digits c.digits_of.ensures.letter)
    (letter_pushed c.args.out.now.items c.push.new.self.items c.push_digits.new.out.items c.push-2.new.self.items (join_by signed_decimal (codes ",") (members_at sets c.digits_of.new.out)) c.in_ok-push.ensures.items c.in_ok-push_digits.ensures c.in_ok-push-2.ensures.items)

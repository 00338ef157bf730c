-- The indices are the digits of the letter.
use Rattle.std.proofs.Common.{List, ℕ, sym, subst, ap, ◌∙◌}
use Rattle.digit_tuple.specs.Letters.{AreDigits, code_of}
use Rattle.digit_tuple.specs.Sets.{sizes_of}
use Rattle.regex_build.proofs.CodeSteps.{digits_from_indices, members_from_indices}
use Rattle.regex_build.proofs.codes.number_of.Goals as goal

pub letter_of-requires : goal.letter_of-requires
letter_of-requires c =
    let P : List ℕ → Type 0 = λ sizes. AreDigits sizes c.as_slice.result.now in
    let Q : List ℕ → Type 0 = λ digits. AreDigits (sizes_of c.args.sets.now) digits in
    subst P (sym c.requires.sizes) (subst Q (sym c.as_slice.ensures) (digits_from_indices c.args.sets.now c.members.result.now c.in_ok-indices.indices.items c.in_ok-indices.ensures))

pub returns-clause-letter : goal.returns-clause-letter
returns-clause-letter c = record {
  digits = c.in_ok-indices.indices.items;
  fit = digits_from_indices c.args.sets.now c.members.result.now c.in_ok-indices.indices.items c.in_ok-indices.ensures;
  tuple_is = sym c.members.ensures ∙ members_from_indices c.args.sets.now c.members.result.now c.in_ok-indices.indices.items c.in_ok-indices.ensures;
  letter_is = c.letter_of.ensures.letter ∙ (ap (λ digits. code_of c.args.alphabet.now digits) c.as_slice.ensures ∙ ap (λ sizes. code_of sizes c.in_ok-indices.indices.items) c.requires.sizes);
}

-- The range of a letter, of any letter, or none.
use Rattle.std.proofs.Common.{[], ◌∷◌, ◌+◌, sym, subst, ◌∙◌, ap}
use Rattle.std.specs.List.{AllZip}
use Rattle.digit_tuple.specs.Letters.{product}
use Rattle.regex_build.specs.declared.codes.LetterRange.{LetterRange}
use Rattle.regex_build.specs.declared.postfix_symbol.PostfixSymbol.{PostfixSymbol}
use Rattle.regex_build.specs.Codes.{IsRangeOf, occurrence_in}
use Rattle.regex_build.proofs.RangeSteps.{range_of_letter, range_of_any, no_occurrence}
use Rattle.regex_build.proofs.codes.range_of.Goals as goal

pub returns-in_ok-first-in-Letter : goal.returns-in_ok-first-in-Letter
returns-in_ok-first-in-Letter c =
    let made : LetterRange = record { first = c.in_ok-first-in-Letter.first; end = c.in_ok-first-in-Letter.first + 1 } in
    let P : PostfixSymbol → Type 0 = λ s. AllZip (IsRangeOf c.args.sets.now) (occurrence_in s) (made ∷ []) in
    subst P (sym c.in-Letter.is) (range_of_letter c.args.sets.now c.in-Letter.letter c.in_ok-first-in-Letter.first c.requires.sets c.in_ok-first-in-Letter.ensures.letter, tt)

pub returns-in-Any : goal.returns-in-Any
returns-in-Any c =
    let made : LetterRange = record { first = 0; end = c.letters-letters.result } in
    let P : PostfixSymbol → Type 0 = λ s. AllZip (IsRangeOf c.args.sets.now) (occurrence_in s) (made ∷ []) in
    subst P (sym c.in-Any.is) (range_of_any c.args.sets.now c.letters-letters.result (c.letters-letters.ensures.value ∙ ap product c.requires.sizes), tt)

pub returns-in_default : goal.returns-in_default
returns-in_default c = no_occurrence (IsRangeOf c.args.sets.now) c.args.symbol.now c.in_default.not-Letter c.in_default.not-Any

-- The token at the first byte that is no blank.
use Rattle.std.proofs.Common.{◌<◌, ◌+◌, ◌∷◌, ◌∙◌, ap, sym, length, get_or, arith}
use Rattle.std.proofs.lemmas.List.{take_rest}
use Rattle.regex_build.proofs.SpotSteps.{next_token, rest_cons}
use Rattle.regex_build.proofs.lexing.next_spot.Goals as goal

pub returns : goal.returns
returns c =
    let less : c.blanks_end-at.result < length c.args.text.now = omega arith in
    next_token
    c.args.inside
    c.args.text.now
    c.args.start
    c.blanks_end-at.result
    c.lexeme_of_text-lexeme.result
    c.blanks_end-at.ensures.from
    less
    (c.blanks_end-at.ensures.spots c.args.inside)
    (c.blanks_end-at.ensures.stops less)
    (rw take_rest at c.lexeme_of_text-lexeme.ensures.is)
    (rw take_rest at c.lexeme_of_text-lexeme.ensures.within)
    c.lexeme_of_text-lexeme.ensures.written

pub lexeme_of_text-lexeme-requires : goal.lexeme_of_text-lexeme-requires
lexeme_of_text-lexeme-requires c =
    let less : c.blanks_end-at.result < length c.args.text.now = omega arith in
    take_rest c.args.text.now c.blanks_end-at.result
    ∙ rest_cons c.args.text.now c.blanks_end-at.result less
    ∙ ap (λ bs. get_or c.args.text.now c.blanks_end-at.result 0 ∷ bs) (sym (take_rest c.args.text.now (c.blanks_end-at.result + 1)))

use Rattle.std.proofs.Common.{◌+◌, ◌≤◌, ◌∙◌, ℕ, List, length, get_or, refl, ap, subst, arith}
use Rattle.std.proofs.lemmas.List.{take_rest, length-drop}
use Rattle.text_grammar.proofs.SpotLemmas.{spots_token}
use Rattle.morph_words.specs.Lexemes.{lexeme, lexing}
use Rattle.morph_words.specs.Readings.{piece_view}
use Rattle.morph_words.proofs.lexing.spot_at.Goals as goal

pub returns-clause-rest : goal.returns-clause-rest
returns-clause-rest c =
    let text = c.args.text.now in
    let p = c.lexeme-piece.result in
    let rest = take_rest text (c.args.at + 1) in
    let within = subst (λ (bytes : List ℕ). p.len ≤ length bytes + 1) rest c.lexeme-piece.ensures.within in
    let inside = c.requires in
    spots_token lexing tt text c.args.at (piece_view p) inside refl (c.lexeme-piece.ensures.is ∙ ap (lexeme (get_or text c.args.at 0)) rest) c.lexeme-piece.ensures.begins (omega (arith, within, length-drop (c.args.at + 1) text))

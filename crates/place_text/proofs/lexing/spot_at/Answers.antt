use Rattle.std.proofs.Common.{suc, ◌+◌, ◌≤◌, ◌∙◌, ◌≡◌, ◌∷◌, ℕ, List, length, drop, get_or, refl, ap, subst, arith}
use Rattle.std.proofs.Math.Seq.{drop-cons}
use Rattle.std.proofs.lemmas.List.{take_rest, length-drop}
use Rattle.text_grammar.proofs.SpotLemmas.{spots_token}
use Rattle.place_text.specs.Lexemes.{lexeme, lexing}
use Rattle.place_text.specs.Readings.{piece_view}
use Rattle.place_text.proofs.lexing.spot_at.Goals as goal

pub returns-clause-rest : goal.returns-clause-rest
returns-clause-rest c =
    let text = c.args.text.now in
    let at = c.args.at in
    let p = c.lexeme-piece.result in
    let rest = take_rest text at in
    let inside = c.requires in
    let next : suc at ≡ at + 1 = omega arith in
    let cons : drop at text ≡ get_or text at 0 ∷ drop (at + 1) text = drop-cons text at 0 inside ∙ ap (λ k. get_or text at 0 ∷ drop k text) next in
    let within = subst (λ (bytes : List ℕ). p.len ≤ length bytes) rest c.lexeme-piece.ensures.within in
    spots_token lexing tt text at (piece_view p) inside refl (c.lexeme-piece.ensures.is ∙ ap lexeme (rest ∙ cons)) c.lexeme-piece.ensures.begins (omega (arith, within, length-drop at text))

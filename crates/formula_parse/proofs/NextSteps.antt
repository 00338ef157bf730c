-- The next token of a text.
use Rattle.std.proofs.Common.{◌≡◌, refl, sym, ◌∙◌, ap, subst, ℕ, suc, ◌+◌, ◌<◌, ◌≤◌, false, List, [], ◌∷◌, drop, length, get_or, arith}
use Rattle.std.proofs.Math.Seq.{drop-length}
use Rattle.std.proofs.lemmas.List.{length-drop}
use Rattle.text_grammar.specs.Bytes.{is_blank}
use Rattle.formula_parse.specs.Tokens.{Token}
use Rattle.text_grammar.specs.Spots.{Lexeme, spot_of, spots_from}
use Rattle.formula_parse.specs.Spots.{Mode, mode_after, lexeme, lexing}
use Rattle.formula_parse.specs.LexemeViews.{lexed_view, lexeme_view, IsNext}
use Rattle.formula_parse.specs.declared.lexing.Lexeme.{Lexeme as Lexeme'}
use Rattle.formula_parse.specs.declared.lexing.Lexed.TheVariants as lexeds
use Rattle.formula_parse.specs.declared.token.Token.TheVariants as token
use Rattle.formula_parse.proofs.SpotSteps.{NotEnd, rest_fine, spots_next, unless_end_token}

pub next_end : (m : Mode) (text : List ℕ) (start at : ℕ) → at ≡ length text → spots_from lexing m start 0 (drop start text) ≡ spots_from lexing m at 0 (drop at text) → IsNext m text start (record { lexed = lexeds.Token token.End; at = at; end = at })
next_end m text start at e h =
    let all : drop at text ≡ [] = ap (λ k. drop k text) e ∙ drop-length text in
    record {
      within = omega arith;
      spots_are = h ∙ ap (spots_from lexing m at 0) all;
      moves = λ k. absurd (k refl);
    }

-- a token lies within the text
pub next_within : (m : Mode) (text : List ℕ) (at : ℕ) (l : Lexeme') → at < length text → lexeme_view l ≡ lexeme m at (drop at text) → at + l.len ≤ length text
next_within m text at l h e =
    let fine = rest_fine m text at h in
    let less = fine.within in
    let len = ap (λ (x : Lexeme Token). x.len) e in
    let left = length-drop (suc at) text in
    omega (arith, h, less, len, left)

pub next_token : (m : Mode) (text : List ℕ) (start at : ℕ) (l : Lexeme') → start ≤ at → at < length text → spots_from lexing m start 0 (drop start text) ≡ spots_from lexing m at 0 (drop at text) → is_blank (get_or text at 0) ≡ false → lexeme_view l ≡ lexeme m at (drop at text) → IsNext m text start (record { lexed = l.lexed; at = at; end = at + l.len })
next_token m text start at l from less h b e =
    let fine = rest_fine m text at less in
    let not_end : NotEnd (lexed_view l.lexed) = subst (λ (x : Lexeme Token). NotEnd x.token) (sym e) fine.not_end in
    let begins = fine.begins in
    let len = ap (λ (x : Lexeme Token). x.len) e in
    record {
      within = next_within m text at l less e;
      spots_are =
          h
          ∙ (spots_next m text at less b
          ∙ (ap
          (λ (x : Lexeme Token). spot_of at x ∷ spots_from lexing (mode_after x.token) (at + x.len) 0 (drop (at + x.len) text))
          (sym e)
          ∙ ap
          (λ ss. spot_of at (lexeme_view l) ∷ ss)
          (sym (unless_end_token (lexed_view l.lexed) _ not_end))));
      moves = λ k. omega (arith, from, begins, len);
    }

-- The tokens of a text that values denote.
use Rattle.std.specs.Prelude.{◌≡◌, ℕ, ◌<◌, ◌≤◌, ◌^◌, Bool, true, false, List, [], ◌∷◌, drop, length}
use Rattle.formula_parse.specs.Tokens as tokens
use Rattle.formula_parse.specs.Spots as spots
use Rattle.text_grammar.specs.Spots as cut
use Rattle.formula_parse.specs.StateViews.{token_view}
use Rattle.formula_parse.specs.declared.lexing.Mode.{Mode}
use Rattle.formula_parse.specs.declared.lexing.Mode.TheVariants as modes
use Rattle.formula_parse.specs.declared.lexing.Lexed.{Lexed}
use Rattle.formula_parse.specs.declared.lexing.Lexed.TheVariants as lexeds
use Rattle.formula_parse.specs.declared.lexing.Lexeme.{Lexeme}
use Rattle.formula_parse.specs.declared.lexing.Spot.{Spot}

abbrev pub mode_view : Mode → spots.Mode
mode_view modes.Plain = spots.plain
mode_view modes.AfterMark = spots.after_mark
mode_view modes.AfterCall = spots.after_call

abbrev pub lexed_view : Lexed → tokens.Token
lexed_view (lexeds.Token t) = token_view t
lexed_view lexeds.Big = tokens.number (2 ^ 64)

abbrev pub lexeme_view : Lexeme → cut.Lexeme tokens.Token
lexeme_view l = record { token = lexed_view l.lexed; len = l.len }

abbrev pub name_maker : Bool → tokens.Name → tokens.Token
name_maker true n = tokens.called n
name_maker false n = tokens.name n

-- nothing follows the end
abbrev pub unless_end : tokens.Token → List (cut.Spot tokens.Token) → List (cut.Spot tokens.Token)
unless_end tokens.end ss = []
unless_end _ ss = ss

-- the next token of a text from a byte on
pub record IsNext (m : spots.Mode) (text : List ℕ) (start : ℕ) (s : Spot) : Type 0 where
  pub within : s.end ≤ length text
  pub spots_are : cut.spots_from spots.lexing m start 0 (drop start text) ≡ record { token = lexed_view s.lexed; at = s.at; after = s.end } ∷ unless_end (lexed_view s.lexed) (cut.spots_from spots.lexing (spots.mode_after (lexed_view s.lexed)) s.end 0 (drop s.end text))
  pub moves : (lexed_view s.lexed ≡ tokens.end → ⊥) → start < s.end

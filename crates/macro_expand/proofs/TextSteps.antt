-- The expansion of a text, piece after piece.
use Rattle.std.proofs.Common.{◌≡◌, sym, ap, subst, ◌∙◌, ℕ, ◌+◌, ◌≤◌, List, ◌++◌, length, drop, Result, Ok, Err, arith}
use Rattle.std.proofs.lemmas.List.{drop-drop, drop_all, length-drop}
use Rattle.macro_expand.specs.declared.fault.MacroFault.{MacroFault}
use Rattle.macro_expand.specs.declared.piece.Piece.{Piece as Piece'}
use Rattle.macro_expand.specs.Pieces.{pieces_from}
use Rattle.text_grammar.specs.Results.{◌>>=◌}
use Rattle.macro_expand.specs.Expansion.{each, Expanded, OfCalls, expand_piece}
use Rattle.macro_expand.specs.Views.{pieces_view, piece_len, IsFirstPiece}
use Rattle.macro_expand.proofs.EachSteps.{each-append}

module _ (of_call : OfCalls) (text : List ℕ) (at len : ℕ) (first : Piece') (rest : List ℕ) (follows : rest ≡ drop at text) (seen : IsFirstPiece at rest first) (l : len ≡ piece_len first) where
  is : IsFirstPiece at (drop at text) first
  is = subst (λ bs. IsFirstPiece at bs first) follows seen

  -- what is left is the first piece and what follows it
  left : (done : Expanded) → each (expand_piece of_call) (pieces_from at 0 (drop at text)) done ≡ (each (expand_piece of_call) (pieces_view first) done >>= each (expand_piece of_call) (pieces_from (at + len) 0 (drop (at + len) text)))
  left done =
      ap (λ ps. each (expand_piece of_call) ps done)
      (is.pieces_are ∙ (ap (λ n. pieces_view first ++ pieces_from (at + n) 0 (drop n (drop at text))) (sym l) ∙ ap (λ bs. pieces_view first ++ pieces_from (at + len) 0 bs) (drop-drop len at text)))
      ∙ each-append (expand_piece of_call) (pieces_view first) (pieces_from (at + len) 0 (drop (at + len) text)) done

  -- the first piece is expanded
  pub left_after : (done new : Expanded) (whole : Result Expanded MacroFault) → each (expand_piece of_call) (pieces_from at 0 (drop at text)) done ≡ whole → each (expand_piece of_call) (pieces_view first) done ≡ Ok new
      → each (expand_piece of_call) (pieces_from (at + len) 0 (drop (at + len) text)) new ≡ whole
  left_after done new whole whole_is h = sym (left done ∙ ap (λ r. r >>= each (expand_piece of_call) (pieces_from (at + len) 0 (drop (at + len) text))) h) ∙ whole_is

  -- the first piece lies within the text
  pub left_within : at ≤ length text → at + len ≤ length text
  left_within h = omega (arith, is.within, length-drop at text)

  -- the first piece has a fault
  pub left_refused_so : (done : Expanded) (e : MacroFault) → each (expand_piece of_call) (pieces_view first) done ≡ Err e → each (expand_piece of_call) (pieces_from at 0 (drop at text)) done ≡ Err e
  left_refused_so done e h = left done ∙ ap (λ r. r >>= each (expand_piece of_call) (pieces_from (at + len) 0 (drop (at + len) text))) h

-- nothing is left after the last byte
pub nothing_left : (of_call : OfCalls) (text : List ℕ) (at : ℕ) (done : Expanded) → length text ≤ at → each (expand_piece of_call) (pieces_from at 0 (drop at text)) done ≡ Ok done
nothing_left of_call text at done h = ap (λ bs. each (expand_piece of_call) (pieces_from at 0 bs) done) (drop_all at text h)

use Rattle.std.proofs.Common.{◌+◌, ◌*◌, ◌-◌, ◌≤◌, length, map, drop}
use Rattle.macro_expand.specs.Pieces.{pieces_from}
use Rattle.macro_expand.specs.Expansion.{each, expand_piece, expand_text, expand_argument, expand_arguments, expand_call_within}
use Rattle.macro_expand.specs.Views.{expanded_view, given_view}
use Rattle.macro_expand.proofs.SourceSteps.{IsLeft}
use Rattle.macro_expand.proofs.expanding.+expansion.Given as goal

-- what is left, after what was expanded, expands to what the whole does
abbrev pub invariant-expand_text-pieces : goal.invariant-expand_text-pieces
invariant-expand_text-pieces g l = record {
  whole_is : IsLeft g.M.MacroTexts.found g.M.MacroTexts.becomes (λ texts. each (expand_piece (expand_call_within texts l.levels)) (pieces_from l.at 0 (drop l.at l.text)) (expanded_view l.done)) (λ texts. expand_text (expand_call_within texts l.levels) l.text l.calls) l.initial.macros l.macros;
  short : length l.done.bytes.items ≤ 65536;
  within : l.at ≤ length l.text;
}

abbrev pub decreases-expand_text-pieces : goal.decreases-expand_text-pieces
decreases-expand_text-pieces g l = length l.text - l.at

-- the arguments that are left, after those that were expanded, expand to what all do
abbrev pub invariant-expand_arguments-arguments : goal.invariant-expand_arguments-arguments
invariant-expand_arguments-arguments g l =
    IsLeft g.M.MacroTexts.found g.M.MacroTexts.becomes (λ texts. each (expand_argument (expand_text (expand_call_within texts l.levels))) (map (λ argument. argument.now) l.left) (given_view l.given))
    (λ texts. expand_arguments (expand_text (expand_call_within texts l.levels)) (map (λ argument. argument.now) l.arguments) l.calls) l.initial.macros l.macros

abbrev pub decreases-expand_arguments-arguments : goal.decreases-expand_arguments-arguments
decreases-expand_arguments-arguments g l = length l.left

abbrev pub decreases-expand_text : goal.decreases-expand_text
decreases-expand_text g l = 4 * l.levels + 2

abbrev pub decreases-expand_piece : goal.decreases-expand_piece
decreases-expand_piece g l = 4 * l.levels + 1

abbrev pub decreases-expand_call : goal.decreases-expand_call
decreases-expand_call g l = 4 * l.levels

abbrev pub decreases-expand_arguments : goal.decreases-expand_arguments
decreases-expand_arguments g l = 4 * l.levels + 3

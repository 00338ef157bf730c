use Rattle.std.proofs.Common.{sym, ◌∙◌}
use Rattle.std.proofs.lemmas.Result.{IfOk-from_err}
use Rattle.class_reversal.proofs.FaultLemmas.{no_letters, no_states}
use Rattle.class_reversal.proofs.reached.reverse_reached.Goals as goal

pub returns-in_err-alphabet-clause-sizes : goal.returns-in_err-alphabet-clause-sizes
returns-in_err-alphabet-clause-sizes c = IfOk-from_err c.from_residual.result _ c.from_residual.ensures.0

pub returns-in_err-alphabet-clause-canonical : goal.returns-in_err-alphabet-clause-canonical
returns-in_err-alphabet-clause-canonical c = IfOk-from_err c.from_residual.result _ c.from_residual.ensures.0

pub returns-in_err-alphabet-clause-function : goal.returns-in_err-alphabet-clause-function
returns-in_err-alphabet-clause-function c = IfOk-from_err c.from_residual.result _ c.from_residual.ensures.0

pub returns-in_err-alphabet-clause-width : goal.returns-in_err-alphabet-clause-width
returns-in_err-alphabet-clause-width c = IfOk-from_err c.from_residual.result _ c.from_residual.ensures.0

pub returns-in_err-alphabet-clause-size : goal.returns-in_err-alphabet-clause-size
returns-in_err-alphabet-clause-size c = IfOk-from_err c.from_residual.result _ c.from_residual.ensures.0

pub returns-in_err-alphabet-clause-within : goal.returns-in_err-alphabet-clause-within
returns-in_err-alphabet-clause-within c = IfOk-from_err c.from_residual.result _ c.from_residual.ensures.0

pub returns-in_err-alphabet-clause-states : goal.returns-in_err-alphabet-clause-states
returns-in_err-alphabet-clause-states c refused = absurd (no_states c.from_residual.result c.from_residual.ensures.1 refused)

pub returns-in_err-alphabet-clause-letters : goal.returns-in_err-alphabet-clause-letters
returns-in_err-alphabet-clause-letters c refused = no_letters c.from_residual.result c.from_residual.ensures.1 refused

pub explore_backwards-requires-clause-alphabet : goal.explore_backwards-requires-clause-alphabet
explore_backwards-requires-clause-alphabet c = c.in_ok-alphabet.ensures ∙ c.alphabet.ensures.sizes

pub explore_backwards-requires-clause-count : goal.explore_backwards-requires-clause-count
explore_backwards-requires-clause-count c = c.requires.count

pub explore_backwards-requires-clause-some : goal.explore_backwards-requires-clause-some
explore_backwards-requires-clause-some c = sym c.has_some_class.ensures ∙ c.if-has_some_class.true

pub explore_backwards-requires-clause-reached : goal.explore_backwards-requires-clause-reached
explore_backwards-requires-clause-reached c = c.requires.reached

pub returns-then-has_some_class-clause-sizes : goal.returns-then-has_some_class-clause-sizes
returns-then-has_some_class-clause-sizes c = c.explore_backwards.ensures.sizes

pub returns-then-has_some_class-clause-canonical : goal.returns-then-has_some_class-clause-canonical
returns-then-has_some_class-clause-canonical c = c.explore_backwards.ensures.canonical

pub returns-then-has_some_class-clause-function : goal.returns-then-has_some_class-clause-function
returns-then-has_some_class-clause-function c = c.explore_backwards.ensures.function

pub returns-then-has_some_class-clause-width : goal.returns-then-has_some_class-clause-width
returns-then-has_some_class-clause-width c = c.explore_backwards.ensures.width

pub returns-then-has_some_class-clause-size : goal.returns-then-has_some_class-clause-size
returns-then-has_some_class-clause-size c = c.explore_backwards.ensures.size

pub returns-then-has_some_class-clause-within : goal.returns-then-has_some_class-clause-within
returns-then-has_some_class-clause-within c = c.explore_backwards.ensures.within

pub returns-then-has_some_class-clause-states : goal.returns-then-has_some_class-clause-states
returns-then-has_some_class-clause-states c = c.explore_backwards.ensures.states

pub returns-then-has_some_class-clause-letters : goal.returns-then-has_some_class-clause-letters
returns-then-has_some_class-clause-letters c = c.explore_backwards.ensures.letters

pub no_classes-requires-clause-alphabet : goal.no_classes-requires-clause-alphabet
no_classes-requires-clause-alphabet c = c.in_ok-alphabet.ensures ∙ c.alphabet.ensures.sizes

pub no_classes-requires-clause-count : goal.no_classes-requires-clause-count
no_classes-requires-clause-count c = c.requires.count

pub no_classes-requires-clause-none : goal.no_classes-requires-clause-none
no_classes-requires-clause-none c = sym c.has_some_class.ensures ∙ c.if-has_some_class.false

pub returns-else-has_some_class-clause-sizes : goal.returns-else-has_some_class-clause-sizes
returns-else-has_some_class-clause-sizes c = c.no_classes.ensures.sizes

pub returns-else-has_some_class-clause-canonical : goal.returns-else-has_some_class-clause-canonical
returns-else-has_some_class-clause-canonical c = c.no_classes.ensures.canonical

pub returns-else-has_some_class-clause-function : goal.returns-else-has_some_class-clause-function
returns-else-has_some_class-clause-function c = c.no_classes.ensures.function

pub returns-else-has_some_class-clause-width : goal.returns-else-has_some_class-clause-width
returns-else-has_some_class-clause-width c = c.no_classes.ensures.width

pub returns-else-has_some_class-clause-size : goal.returns-else-has_some_class-clause-size
returns-else-has_some_class-clause-size c = c.no_classes.ensures.size

pub returns-else-has_some_class-clause-within : goal.returns-else-has_some_class-clause-within
returns-else-has_some_class-clause-within c = c.no_classes.ensures.within

pub returns-else-has_some_class-clause-states : goal.returns-else-has_some_class-clause-states
returns-else-has_some_class-clause-states c = c.no_classes.ensures.states

pub returns-else-has_some_class-clause-letters : goal.returns-else-has_some_class-clause-letters
returns-else-has_some_class-clause-letters c = c.no_classes.ensures.letters

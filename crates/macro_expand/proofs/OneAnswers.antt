-- An answer is what is defined.
use Rattle.std.proofs.Common.{◌≡◌, ◌≢◌, ℕ, List, Result, Ok, Err, refl, sym, ◌∙◌}
use Rattle.macro_expand.specs.declared.fault.MacroFault.{MacroFault}
use Rattle.macro_expand.specs.declared.fault.MacroFault.TheVariants as faults
use Rattle.macro_expand.specs.Expansion.{expansion}
use Rattle.macro_expand.specs.Views.{Answers}
use Rattle.macro_expand.specs.Laws.{OneAnswer}

defined_is : (result defined : Result (List ℕ) MacroFault) → Answers (λ made. made) result defined → result ≢ Err faults.Memory → defined ≡ result
defined_is (Ok bytes) defined answers left = answers
defined_is (Err faults.Memory) defined answers left = absurd (left refl)
defined_is (Err (faults.Syntax at)) defined answers left = answers
defined_is (Err (faults.Unknown name)) defined answers left = answers
defined_is (Err (faults.MacroArgs name n given)) defined answers left = answers
defined_is (Err (faults.MacroDepth name)) defined answers left = answers
defined_is (Err faults.MacroLong) defined answers left = answers

pub one_answer : OneAnswer
one_answer macros text result other first second left more = sym (defined_is result (expansion macros text) first left) ∙ defined_is other (expansion macros text) second more

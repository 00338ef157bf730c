use Rattle.std.specs.Prelude.{IsTrue}
use Rattle.adder_check.proofs.AdditionLemmas.{laws_are_addition}
use Rattle.adder_check.proofs.laws.laws_determine_addition.Goals as goal

pub returns : goal.returns
returns c = λ test. laws_are_addition (λ x y z. IsTrue (test x y z))

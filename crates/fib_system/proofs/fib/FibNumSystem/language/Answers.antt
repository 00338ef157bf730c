use Rattle.std.proofs.lemmas.Result.{IfOk-weaker}
use Rattle.digit_tuple.specs.declared.direction.Direction.{Direction}
use Rattle.numeration.specs.Relations.{IsLanguageOf}
use Rattle.fib_system.specs.Fibonacci.{fibonacci}
use Rattle.fib_system.proofs.fib.FibNumSystem.language.Goals as goal

pub returns : goal.returns
returns c = IfOk-weaker c.language_of.result (λ dfa. (direction : Direction) → IsLanguageOf direction fibonacci dfa) (λ dfa. IsLanguageOf c.args.self.now.direction fibonacci dfa) (λ dfa each. each c.args.self.now.direction) c.language_of.ensures

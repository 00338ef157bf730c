use Rattle.std.proofs.Common.{◌≡◌, sym, ◌∙◌, subst}
use Rattle.std.proofs.lemmas.Result.{IfOk-weaker}
use Rattle.digit_tuple.specs.Deterministic.{Automaton}
use Rattle.digit_tuple.specs.declared.direction.Direction.{Direction}
use Rattle.numeration.specs.Relations.{IsLanguageOf}
use Rattle.fib_system.specs.Fibonacci.{fibonacci}
use Rattle.fib_system.proofs.TableLemmas.{built, language_holds}
use Rattle.fib_system.proofs.automata.language_of.Goals as goal

pub returns : goal.returns
returns c =
    let made : Automaton = c.set-3.new.self in
    let both =
    built c.in_ok-alphabet.alphabet c.in_ok-builder.builder c.add_state.new.self c.add_state-2.new.self c.set.new.self c.set-2.new.self made c.in_ok-first.first c.in_ok-after_1.after_1
    c.in_ok-builder.ensures c.in_ok-first.ensures.number c.in_ok-first.ensures.state c.in_ok-after_1.ensures.number c.in_ok-after_1.ensures.state
    c.in_ok-set.ensures.set c.in_ok-set-2.ensures.set c.in_ok-set-3.ensures.set in
    IfOk-weaker c.finish.result (λ dfa. dfa ≡ made) (λ dfa. (direction : Direction) → IsLanguageOf direction fibonacci dfa)
    (λ dfa is direction. subst (IsLanguageOf direction fibonacci) (sym is) (language_holds direction made (both.1 ∙ c.in_ok-alphabet.ensures) both.0))
    c.finish.ensures

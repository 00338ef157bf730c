use Rattle.std.proofs.lemmas.Result.{IfOk-weaker}
use Rattle.digit_tuple.specs.declared.direction.Direction.{Direction}
use Rattle.numeration.specs.Relations.{IsLanguageOf}
use Rattle.base_k.specs.Positional.{base}
use Rattle.base_k.proofs.base_k.BaseKNumSystem.language.Goals as goal

pub returns : goal.returns
returns c =
    let s = c.args.self.now in
    IfOk-weaker c.language_in.result (λ dfa. (direction : Direction) → IsLanguageOf direction (base s.base) dfa) (λ dfa. IsLanguageOf s.direction (base s.base) dfa)
    (λ dfa each. each s.direction)
    c.language_in.ensures

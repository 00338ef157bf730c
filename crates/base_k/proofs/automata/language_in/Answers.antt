use Rattle.std.proofs.Common.{◌≡◌, [], ◌∷◌, refl, ◌∙◌, true}
use Rattle.std.proofs.lemmas.Result.{IfOk-weaker}
use Rattle.digit_tuple.specs.Deterministic.{Automaton}
use Rattle.digit_tuple.specs.DfaRows.{states_in}
use Rattle.digit_tuple.specs.declared.dfa.DfaState.{DfaState}
use Rattle.digit_tuple.specs.declared.direction.Direction.{Direction}
use Rattle.numeration.specs.Relations.{IsLanguageOf}
use Rattle.base_k.specs.Positional.{base}
use Rattle.base_k.proofs.TableLemmas.{language_holds}
use Rattle.base_k.proofs.automata.language_in.Goals as goal

pub returns : goal.returns
returns c =
    let k = c.args.k in
    let state : DfaState = record { accepting = true; transitions = c.in_ok-transitions_home.field-0 } in
    let sizes : c.alphabet.inside.digit_counts.items ≡ k ∷ [] = cc (c.alphabet.view_is, c.in_ok-alphabet.ensures) in
    let same : (let d : Automaton = record { sizes = c.alphabet.inside.digit_counts.items; states = states_in c.in_ok-vec.field-0.items } in d) ≡ record { sizes = k ∷ []; states = states_in (state ∷ []) } =
    λ i. record { sizes = sizes i; states = states_in (c.in_ok-vec.ensures.items i) } in
    IfOk-weaker c.from_states.result (λ dfa. dfa ≡ record { sizes = c.alphabet.inside.digit_counts.items; states = states_in c.in_ok-vec.field-0.items }) (λ dfa. (direction : Direction) → IsLanguageOf direction (base k) dfa)
    (λ dfa is direction. language_holds direction k state dfa refl c.in_ok-transitions_home.ensures (is ∙ same))
    c.from_states.ensures

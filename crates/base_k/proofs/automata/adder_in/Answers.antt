use Rattle.std.proofs.Common.{◌≡◌, ℕ, List, [], ◌∷◌, sym, ◌∙◌, subst}
use Rattle.std.proofs.lemmas.Result.{IfOk-weaker}
use Rattle.digit_tuple.specs.Letters.{product}
use Rattle.digit_tuple.specs.Deterministic.{Automaton, IsTable}
use Rattle.digit_tuple.specs.DfaRows.{states_in}
use Rattle.digit_tuple.specs.declared.dfa.DfaState.{DfaState}
use Rattle.numeration.specs.Relations.{IsAdderOf}
use Rattle.base_k.specs.Positional.{base}
use Rattle.base_k.proofs.TableLemmas.{AreCarryStates, adder_table, adder_holds}
use Rattle.base_k.proofs.automata.adder_in.Goals as goal

pub from_states-requires : goal.from_states-requires
from_states-requires c =
    let k = c.args.k in
    let states : AreCarryStates c.args.direction k c.in_ok-none.none c.in_ok-one.one = record {
      accepts = c.in_ok-none.ensures.accepting;
      refuses = c.in_ok-one.ensures.accepting;
      none_transitions = c.in_ok-none.ensures.transitions;
      one_transitions = c.in_ok-one.ensures.transitions;
    } in
    let sizes : c.alphabet.inside.digit_counts.items ≡ k ∷ k ∷ k ∷ [] = cc (c.alphabet.view_is, c.in_ok-alphabet.ensures) in
    subst (λ (sizes : List ℕ). IsTable (product sizes) (states_in c.in_ok-vec.field-0.items)) (sym sizes)
    (subst (λ (rows : List DfaState). IsTable (product (k ∷ k ∷ k ∷ [])) (states_in rows)) (sym c.in_ok-vec.ensures.items)
    (adder_table c.args.direction k c.in_ok-none.none c.in_ok-one.one states))

pub returns : goal.returns
returns c =
    let k = c.args.k in
    let states : AreCarryStates c.args.direction k c.in_ok-none.none c.in_ok-one.one = record {
      accepts = c.in_ok-none.ensures.accepting;
      refuses = c.in_ok-one.ensures.accepting;
      none_transitions = c.in_ok-none.ensures.transitions;
      one_transitions = c.in_ok-one.ensures.transitions;
    } in
    let sizes : c.alphabet.inside.digit_counts.items ≡ k ∷ k ∷ k ∷ [] = cc (c.alphabet.view_is, c.in_ok-alphabet.ensures) in
    let same : (let d : Automaton = record { sizes = c.alphabet.inside.digit_counts.items; states = states_in c.in_ok-vec.field-0.items } in d) ≡ record { sizes = k ∷ k ∷ k ∷ []; states = states_in (c.in_ok-none.none ∷ c.in_ok-one.one ∷ []) } =
    λ i. record { sizes = sizes i; states = states_in (c.in_ok-vec.ensures.items i) } in
    IfOk-weaker c.from_states.result (λ dfa. dfa ≡ record { sizes = c.alphabet.inside.digit_counts.items; states = states_in c.in_ok-vec.field-0.items }) (λ dfa. IsAdderOf c.args.direction (base k) dfa)
    (λ dfa is. adder_holds c.args.direction k c.in_ok-none.none c.in_ok-one.one dfa c.requires.some states (is ∙ same))
    c.from_states.ensures

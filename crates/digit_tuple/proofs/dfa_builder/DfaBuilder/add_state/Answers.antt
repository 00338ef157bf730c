use Rattle.std.proofs.Common.{◌≡◌, [], ◌∷◌, ◌++◌, List, sym, ap, ◌∙◌, subst, arith}
use Rattle.std.proofs.lemmas.List.{map-append, length-map}
use Rattle.digit_tuple.specs.declared.transitions.Transition.{Transition}
use Rattle.digit_tuple.specs.Deterministic.{IsPartTable}
use Rattle.digit_tuple.specs.DfaRows.{state_in, states_in}
use Rattle.digit_tuple.specs.Letters.{product}
use Rattle.digit_tuple.proofs.BuilderLemmas.{IsPartTable-push}
use Rattle.digit_tuple.proofs.dfa_builder.DfaBuilder.add_state.Goals as goal

pub invariant_of-self-2 : goal.invariant_of-self-2
invariant_of-self-2 c =
    let old = c.self.inside.rows.items in
    let size = length-map old state_in in
    let none : [] ≡ c.new-transitions.result.items = sym c.new-transitions.ensures.items in
    let pushed : states_in c.push.new.self.items ≡ states_in old ++ (record { accepting = c.args.accepting; transitions = c.new-transitions.result.items }) ∷ [] = ap states_in c.in_ok-push.ensures.items ∙ map-append state_in old _ in
    subst (IsPartTable (product c.self.inside.tracks)) (sym pushed)
    (subst (λ (es : List Transition). IsPartTable (product c.self.inside.tracks) (states_in old ++ (record { accepting = c.args.accepting; transitions = es }) ∷ [])) none
    (IsPartTable-push (product c.self.inside.tracks) (states_in old) c.args.accepting (omega (arith, size, c.self.inside.rows.ok, c.len-number.ensures, c.if-number.false)) c.self.invariant))

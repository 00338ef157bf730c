use Rattle.std.proofs.Common.{◌≡◌, ◌+◌, ◌++◌, ◌∷◌, [], List, Option, ℕ, take, sym, ap, ◌∙◌, subst}
use Rattle.std.proofs.lemmas.List.{take_more, map-append}
use Rattle.dfa_reading.specs.StarTables.{StarTable, masked, with_target}
use Rattle.dfa_reading.specs.Transitions.{Transition, transition_view, transitions_in, IsTableOf}
use Rattle.dfa_reading.proofs.TransitionLemmas.{IsTableOf-push}
use Rattle.dfa_reading.proofs.transitions.table_of.Goals as goal

pub loop-transition-preserved : goal.loop-transition-preserved
loop-transition-preserved c =
    let old = c.loop-transition.table in
    let t = c.transition-item.result in
    let i = c.loop-transition.transition-index in
    let list = c.args.list.now in
    let key : c.in_ok-key.key.items ≡ masked t.digits.items old.pattern =
    c.in_ok-key.ensures ∙ ap (λ (ds : List (Option ℕ)). masked ds c.args.digits.now) c.deref.ensures.value ∙ ap (masked t.digits.items) (sym c.loop-transition.invariant.pattern) in
    let added : c.add.new.self ≡ with_target old (masked t.digits.items old.pattern) t.target = c.in_ok-add.ensures ∙ ap (λ (ds : List (Option ℕ)). with_target old ds t.target) key in
    let more : transitions_in (take (i + 1) list) ≡ transitions_in (take i list) ++ transition_view t ∷ [] =
    ap transitions_in (take_more list i t c.loop-transition-test.true ∙ ap (λ x. take i list ++ x ∷ []) (sym c.transition-item.is)) ∙ map-append transition_view (take i list) (t ∷ []) in
    record {
      pattern = ap (λ (u : StarTable). u.pattern) added ∙ c.loop-transition.invariant.pattern;
      table = subst (λ (u : StarTable). IsTableOf (transitions_in (take (i + 1) list)) u) (sym added)
          (subst (λ (l : List Transition). IsTableOf l (with_target old (masked t.digits.items old.pattern) t.target)) (sym more)
          (IsTableOf-push (transitions_in (take i list)) old (transition_view t) c.loop-transition.invariant.table));
    }

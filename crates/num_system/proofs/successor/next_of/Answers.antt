use Rattle.std.proofs.Common.{◌≡◌, ℕ, List, [], ◌∷◌, sym, ap, ◌∙◌, subst}
use Rattle.digit_tuple.specs.Deterministic.{Automaton}
use Rattle.digit_tuple.specs.Names.{joint_names}
use Rattle.minimise.specs.Tracked.{NamedAutomaton}
use Rattle.product_op.specs.declared.op.Op.TheVariants.{AndNot}
use Rattle.num_system.specs.Operations.{IsProduct}
use Rattle.num_system.specs.SuccessorSteps.{order_on, name_x, name_y}
use Rattle.num_system.proofs.SuccessorLemmas.{next_holds, under_names}
use Rattle.num_system.proofs.successor.next_of.Goals as goal

pub returns-clause-next : goal.returns-clause-next
returns-clause-next c =
    let order = order_on c.args.less.now name_x name_y in
    let between = c.args.between.now in
    let next = c.in_ok-next.next.result in
    let made : IsProduct AndNot c.in_ok-order.order between [] next =
    record { names = c.in_ok-next.ensures.names; sizes = c.in_ok-next.ensures.sizes; canonical = c.in_ok-next.ensures.canonical; language = c.in_ok-next.ensures.language } in
    let here : IsProduct AndNot order between [] next = subst (λ (a : NamedAutomaton). IsProduct AndNot a between [] next) c.in_ok-order.ensures made in
    let names : next.names ≡ name_x ∷ name_y ∷ [] = here.names ∙ ap (λ (ns : List (List ℕ)). joint_names (name_x ∷ name_y ∷ []) ns) c.requires.names in
    subst (λ (c : NamedAutomaton). IsProduct AndNot order between [] c) (under_names next (name_x ∷ name_y ∷ []) names ∙ ap (λ (d : Automaton). order_on d name_x name_y) (sym c.into_dfa.ensures.value)) here

pub returns-clause-relation : goal.returns-clause-relation
returns-clause-relation c direction s order holds =
    next_holds direction s c.args.less.now c.args.between.now (order_on c.into_dfa.result name_x name_y) order c.requires.names holds (returns-clause-next c)

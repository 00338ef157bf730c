use Rattle.std.proofs.Common.{◌≡◌, ◌+◌, ◌++◌, List, [], ◌∷◌, Some, get_or, take, sym, ap, ◌∙◌, subst, rules}
use Rattle.std.proofs.lemmas.Int.{to_z-of_z}
use mir.Val.{SFits}
use mir.Syntax.{w32}
use Rattle.combinations.specs.Parts.{PartValue}
use Rattle.command_head.specs.Values.{value_at}
use Rattle.command_head.specs.declared.head.ValuedName.{ValuedName}
use Rattle.plan_relations.specs.Libraries.{relation_named}
use Rattle.word_commands.specs.CombineMakes.{automata_in}
use Rattle.word_commands.specs.CombineSteps.{ArePartsFrom}
use Rattle.word_commands.proofs.ListedChecks.{parts_more, relation_at}
use Rattle.word_commands.proofs.combine.parts_of.Goals as goal
use Rattle.word_commands.proofs.combine.parts_of.Goals.{in-Some+in_ok-clone+in_ok-push, in_default}

pub loop-place-preserved : goal.loop-place-preserved
loop-place-preserved c =
    let relations = c.args.library.now.relations in
    let automata = c.args.automata.now in
    let place = c.loop-place.place in
    let item = c.index-automata-place.result in
    elim c.match-relation.branch [
      | in-Some+in_ok-clone+in_ok-push w ↦
          let items : c.match-relation.parts.items ≡ c.loop-place.parts.items ++ w.new.result ∷ [] = ap (λ v. v.items) w.parts-is ∙ w.in_ok-push.ensures.items in
          let shared = sym w.in_ok-clone.ensures.cases ∙ ap (λ (p : PartValue). p.relation) (sym w.new.ensures) in
          let is : relation_named relations (get_or automata place item).name ≡ Some w.new.result.relation = ap (λ (v : ValuedName). relation_named relations v.name) (sym c.index-automata-place.is) ∙ (w.in-Some.ensures.found ∙ ap Some shared) in
          let fits : SFits w32 w.value_at.result = search rules in
          let made = simp to_z-of_z at w.new.ensures in
          let value = ap (λ (p : PartValue). p.value) made ∙ (w.value_at.ensures ∙ ap (λ (v : ValuedName). value_at place v.value) c.index-automata-place.is) in
          subst (λ (ps : List PartValue). ArePartsFrom relations 0 (automata_in (take (place + 1) automata)) ps) (sym items)
          (parts_more relations automata place item c.loop-place.parts.items w.new.result c.loop-place-test.true c.loop-place.invariant is value)
      | in_default w ↦ absurd (relation_at relations automata place item c.loop-place-test.true c.requires.named (ap (λ (v : ValuedName). relation_named relations v.name) (sym c.index-automata-place.is) ∙ w.in_default.ensures.found))
    ]

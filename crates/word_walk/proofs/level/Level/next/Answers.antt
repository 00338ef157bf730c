use Rattle.std.proofs.Common.{◌≡◌, Bool, List, Option, sym, ap, ◌∙◌, subst}
use Rattle.std.specs.Option.{IfSome}
use Rattle.std.proofs.lemmas.Result.{IfOk-weaker}
use Rattle.word_walk.specs.LevelStates.{flags_in}
use Rattle.word_walk.specs.Levels.{IsLevel}
use Rattle.word_walk.specs.Sources.{AreSources}
use Rattle.word_walk.proofs.FlagLemmas.{IsLevel-next}
use Rattle.word_walk.proofs.level.Level.next.Goals as goal

pub returns-in-Some-clause-next : goal.returns-in-Some-clause-next
returns-in-Some-clause-next c m level =
    let d = c.args.d.now in
    let few : List Bool = c.in-Few.few in
    let same : c.args.self.now ≡ few = sym c.self.view_is ∙ ap flags_in c.in-Few.is in
    IsLevel-next d m few c.in-Some.states c.states-states.ensures.table
    (subst (λ (o : Option (List Bool)). IfSome o (AreSources d few)) c.in-Some.is c.in_ok-states-in-Few.ensures.sources)
    (subst (IsLevel d m) same level)

pub returns-in_ok-flags-in-None-clause-next : goal.returns-in_ok-flags-in-None-clause-next
returns-in_ok-flags-in-None-clause-next c =
    let d = c.args.d.now in
    let flags : List Bool = c.deref.result.now in
    let same : c.args.self.now ≡ flags = sym c.self.view_is ∙ ap flags_in c.in-Few.is ∙ sym (c.deref.ensures.value ∙ c.in_ok-flags-in-None.ensures) in
    IfOk-weaker c.before-in-None.result _ _ (λ next sources m level. IsLevel-next d m flags next c.states-states.ensures.table sources (subst (IsLevel d m) same level)) c.before-in-None.ensures

pub returns-in-Flags-clause-next : goal.returns-in-Flags-clause-next
returns-in-Flags-clause-next c =
    let d = c.args.d.now in
    let flags : List Bool = c.deref-in-Flags.result.now in
    let same : c.args.self.now ≡ flags = sym c.self.view_is ∙ ap flags_in c.in-Flags.is ∙ sym c.deref-in-Flags.ensures.value in
    IfOk-weaker c.before-in-Flags.result _ _ (λ next sources m level. IsLevel-next d m flags next c.states-states.ensures.table sources (subst (IsLevel d m) same level)) c.before-in-Flags.ensures

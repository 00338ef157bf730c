use Rattle.std.proofs.Common.{ℕ, List, MatchOption, subst}
use Rattle.word_commands.specs.declared.base_system.BaseSystem.{BaseSystem}
use Rattle.word_commands.specs.BaseWords.{IsNameOfBase}
use Rattle.word_commands.proofs.BaseNames.{base_of_kind, none_built_in}
use Rattle.word_commands.proofs.base_system.base_named.Goals as goal

pub returns-in-Some : goal.returns-in-Some
returns-in-Some c =
    let system = c.in-Some.system in
    subst (λ (name : List ℕ). MatchOption c.base_in.result ((s : BaseSystem) → ¬ IsNameOfBase s name) (λ s. IsNameOfBase s name)) c.as_bytes.ensures
    (base_of_kind c.as_bytes.result.now system.direction system.kind c.in-Some.ensures c.base_in.result c.base_in.ensures)

pub returns-in-None : goal.returns-in-None
returns-in-None c = subst (λ (name : List ℕ). (s : BaseSystem) → ¬ IsNameOfBase s name) c.as_bytes.ensures (none_built_in c.as_bytes.result.now c.in-None.ensures)

use Rattle.std.proofs.Common.{take}
use Rattle.system_admission.proofs.UserSteps.{AreSoFar}
use Rattle.system_admission.proofs.user_systems.UserSystems.admitted.Given as goal

-- the systems of the names before it are admitted
abbrev pub invariant-loop-name : goal.invariant-loop-name
invariant-loop-name g l = AreSoFar l.limit (take l.name-index l.names) l.users (g.T.Store.view l.initial.store) (g.T.Store.view l.store)

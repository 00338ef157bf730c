use Rattle.std.proofs.Common.{[], ◌∷◌, ◌++◌, map, ap, ◌∙◌}
use Rattle.std.specs.Rc.{rc_value}
use Rattle.numeration.specs.Systems.{System}
use Rattle.num_system.specs.Sealed.{SystemValue, system_of}
use Rattle.num_system.specs.Tracks.{systems_of}
use Rattle.base_k.proofs.BaseAlphabets.{three_fit}
use Rattle.fixed_points.proofs.msd_base.msd_base.Goals as goal

pub seal_built_in-requires : goal.seal_built_in-requires
seal_built_in-requires c = three_fit c.args.k c.requires.1

pub returns-clause-systems : goal.returns-clause-systems
returns-clause-systems c =
    ap (λ xs. systems_of (map rc_value xs)) (c.in_ok-push.ensures.items ∙ ap (λ ys. ys ++ c.in_ok-new.field-0 ∷ []) c.new-systems.ensures.items)
    ∙ ap (λ (s : SystemValue). system_of s ∷ []) c.in_ok-new.ensures.ok
    ∙ ap (λ (s : System). s ∷ []) c.in_ok-sealed.ensures.system

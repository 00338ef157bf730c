use Rattle.std.proofs.Common.{ℕ, List, [], ◌∷◌, ap, sym, subst}
use Rattle.std.specs.Rc.{rc_value}
use Rattle.word_commands.specs.ConvertSteps.{IsSealedBase}
use Rattle.word_commands.proofs.SealedBases.{sealed_base_is, sealed_base_there}
use Rattle.word_commands.proofs.convert.sealed_base.Goals as goal

pub unreachable-requires : goal.unreachable-requires
unreachable-requires c =
    sealed_base_there c.args.name.now c.requires.0 c.requires.1 c.new-named.result c.add_all.new.systems c.new-named.ensures _ (ap (λ (n : List ℕ). n ∷ []) c.in_ok-copy.ensures) c.in_ok-add_all.ensures.there c.in-None.ensures.found

pub returns : goal.returns
returns c = λ s is.
    subst (IsSealedBase s) (sym c.in_ok-clone-in-Some.ensures.cases)
    (sealed_base_is c.args.name.now s is c.new-named.result c.add_all.new.systems c.new-named.ensures (rc_value c.in-Some.system.now) c.in_ok-add_all.ensures.extends c.in-Some.ensures.sealed c.in-Some.ensures.found)

use Rattle.dfa_loading.specs.declared.fault.LoadFault.TheVariants as loads
use Rattle.std.proofs.Common.{refl}
use Rattle.std.proofs.lemmas.Result.{err_from_is_err_and}
use Rattle.command_parts.proofs.SameMentions.{same_loads}
use Rattle.command_parts.proofs.StoreReads.{from_none}
use Rattle.formula_commands.proofs.formula.load_tables.Goals as goal

pub returns-in_err-mentions : goal.returns-in_err-mentions
returns-in_err-mentions g c =
    let p = err_from_is_err_and c.from_residual.result c.from_residual.ensures.1 in
    rw (p.1, p.2) (from_none _ _ _ refl (λ found. (loads.Memory, refl, tt)))

pub returns : goal.returns
returns g c = same_loads c.in_ok-mentions.ensures c.load_mentioned.ensures

use Rattle.dfa_loading.specs.declared.fault.LoadFault.TheVariants as loads
use Rattle.std.proofs.Common.{refl, sym, ap, ◌∙◌}
use Rattle.std.proofs.lemmas.Result.{err_from_is_err_and}
use Rattle.word_commands.specs.ImageOutcomes.{old_mentions}
use Rattle.command_parts.proofs.SameMentions.{same_loads}
use Rattle.command_parts.proofs.StoreReads.{from_none, from_read, from_refused}
use Rattle.word_commands.proofs.old_word.load_old.Goals as goal

pub returns-in_err-copy : goal.returns-in_err-copy
returns-in_err-copy g c =
    let p = err_from_is_err_and c.from_residual.result c.from_residual.ensures.1 in
    rw (p.1, p.2) (from_none _ _ _ refl (λ found. (loads.Memory, refl, tt)))

pub returns-in_err-mentions : goal.returns-in_err-mentions
returns-in_err-mentions g c =
    let p = err_from_is_err_and c.from_residual-in_err-mentions.result c.from_residual-in_err-mentions.ensures.1 in
    rw (p.1, p.2) (from_none _ _ _ refl (λ found. (loads.Memory, refl, tt)))

pub returns-in_err-mentioned : goal.returns-in_err-mentioned
returns-in_err-mentioned g c =
    let p = err_from_is_err_and c.from_residual-in_err-mentioned.result c.from_residual-in_err-mentioned.ensures.1 in
    let loads = same_loads c.in_ok-mentions.ensures c.in_err-mentioned.ensures in
    rw (p.1, p.2) (from_refused _ _ _ _ c.in_err-mentioned.field-0.0 loads (λ found refused. refused))

pub returns : goal.returns
returns g c =
    let loads = same_loads (c.in_ok-mentions.ensures ∙ ap old_mentions (sym c.in_ok-copy.ensures)) c.in_ok-mentioned.ensures in
    from_read _ _ _ _ c.in_ok-mentioned.mentioned _ tt loads (λ found there. record { name_is = c.in_ok-copy.ensures; there = there })

use Rattle.std.proofs.Common.{ℕ, List, IsAscii, take, sym, ap, ◌∙◌, subst}
use Rattle.macro_expand.proofs.PrefixSteps.{IsAscii-prefix}
use Rattle.macro_expand.proofs.call.call_after.Goals as goal

pub returns-clause-named : goal.returns-clause-named
returns-clause-named c =
    subst (λ (name : List ℕ). IsAscii name) (sym (c.split_at.ensures.front ∙ ap (λ n. take n c.args.bytes.now) c.prefix_len.ensures.len)) (IsAscii-prefix c.args.bytes.now)

use Rattle.std.proofs.Common.{◌<◌, List, Bool, length, reverse, sym, ◌∙◌, subst}
use Rattle.std.specs.Option.{IfSome}
use Rattle.constants.specs.Prefixes.{IsPrefix, AreMarks, Fits}
use Rattle.constants.specs.declared.prefix.Prefix.{Prefix}
use Rattle.constants.proofs.PrefixLemmas.{prefix-state, prefix-marks}
use Rattle.constants.proofs.prefix.Prefix.count.Goals as goal

pub returns-in-After : goal.returns-in-After
returns-in-After c = λ direction a w n table prefix are.
    let fits : IfSome c.in-After.state (λ q. q < length c.args.row.now) = subst (λ (f : Prefix). Fits (length c.args.row.now) f) c.in-After.is c.requires in
    c.count_at.ensures ∙ prefix-state direction a w c.args.row.now n c.in-After.state fits (subst (λ (f : Prefix). IsPrefix direction a w f) c.in-After.is prefix) are

pub returns-in-Before : goal.returns-in-Before
returns-in-Before c = λ direction a w n table prefix are.
    prefix-marks direction a w c.args.row.now n c.sum_at.result c.in-Before.marks (subst (λ (f : Prefix). IsPrefix direction a w f) c.in-Before.is prefix) are
    (λ marked counted. c.sum_at.ensures a w n table (subst (λ (marks : List Bool). AreMarks a (reverse w) marks) (sym c.deref.ensures.value) marked) counted)

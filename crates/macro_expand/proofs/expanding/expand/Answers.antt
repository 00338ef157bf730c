use Rattle.std.proofs.Common.{◌≡◌, subst, Some}
use Rattle.macro_expand.specs.Texts.{Texts, text_in}
use Rattle.macro_expand.proofs.AddedTexts.{added_stay}
use Rattle.macro_expand.proofs.expanding.expand.Goals as goal

pub returns : goal.returns
returns c =
    let both = added_stay (λ added. added.macros.now) (record { macros = c.args.macros }) c.expand_from.new.macros c.expand_from.result c.expand_from.ensures.came in
    c.expand_from.ensures.gives (text_in c.args.macros.now) (λ name text e. subst (λ (m : Texts). text_in m name ≡ Some text) both.0 e) both.1

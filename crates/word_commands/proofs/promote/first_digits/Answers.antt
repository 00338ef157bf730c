use Rattle.std.proofs.Common.{◌≡◌, map, get_or, ap, sym, ◌∙◌}
use Rattle.std.specs.Rc.{rc_value}
use Rattle.std.proofs.lemmas.List.{get_or-map}
use Rattle.num_system.specs.Sealed.{SystemValue}
use Rattle.word_commands.proofs.BaseTexts.{digits_there}
use Rattle.word_commands.proofs.promote.first_digits.Goals as goal

pub returns : goal.returns
returns c = λ k is.
    let items = c.args.systems.now in
    let s : SystemValue = c.index-systems-0.result.value in
    let here : s ≡ get_or (map rc_value items) 0 s = ap rc_value c.index-systems-0.is ∙ sym (get_or-map rc_value items 0 c.index-systems-0.result s c.requires) in
    c.digits.ensures.value ∙ ap (λ (x : SystemValue). x.digits) c.deref.ensures ∙ digits_there k (map rc_value items) s is here

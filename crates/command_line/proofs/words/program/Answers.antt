use Rattle.std.proofs.Common.{◌≡◌, rules, true, ap, ap₂, ◌∙◌}
use Rattle.clap.specs.Walk.{rule_of}
use Rattle.clap.specs.Simple.{app_of, app_of_fields, on_top, with_rule}
use Rattle.command_line.specs.Program.{states_arg, stop_arg, make_arg, bare_app}
use Rattle.command_line.proofs.words.program.Goals as goal

pub returns : goal.returns
returns c =
    let states_are : rule_of c.action-states.result ≡ states_arg = search rules in
    let stop_is : rule_of c.action-stop.result ≡ stop_arg = search rules in
    let make_is : rule_of c.action-make.result ≡ make_arg = search rules in
    let help : app_of c.disable_help_flag.result ≡ on_top (λ s. record s { disable_help_flag = true }) (app_of c.new-4.result) = ap app_of_fields c.disable_help_flag.ensures in
    let version : app_of c.disable_version_flag.result ≡ on_top (λ s. record s { disable_version_flag = true }) (app_of c.disable_help_flag.result) = ap app_of_fields c.disable_version_flag.ensures in
    let bare : app_of c.disable_version_flag.result ≡ bare_app = version ∙ ap (on_top (λ s. record s { disable_version_flag = true })) (help ∙ ap (on_top (λ s. record s { disable_help_flag = true })) c.new-4.ensures.app) in
    let one : app_of c.in_ok-arg.field-0 ≡ with_rule bare_app states_arg = c.in_ok-arg.ensures.shape (search rules) ∙ ap₂ with_rule bare states_are in
    let two : app_of c.in_ok-arg-2.field-0 ≡ with_rule (with_rule bare_app states_arg) stop_arg = c.in_ok-arg-2.ensures.shape (search rules) ∙ ap₂ with_rule one stop_is in
    c.in_ok-command.ensures.shape (search rules) ∙ ap₂ with_rule two make_is

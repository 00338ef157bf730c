-- The program's command, as clap has it: the options `--states` and `--make`, which have a value, and the flag `--stop`.
use Rattle.std.specs.Prelude.{Some, true, codes}
use Rattle.clap.specs.declared.builder.action.ArgAction.TheVariants.{Set, SetTrue}
use Rattle.clap.specs.Walk.{Rule}
use Rattle.clap.specs.Simple.{App, new_app, new_rule, on_top, with_rule}

abbrev pub states_arg : Rule
states_arg = record (new_rule (codes "states")) { long = Some (codes "states"); action = Some Set }

abbrev pub stop_arg : Rule
stop_arg = record (new_rule (codes "stop")) { long = Some (codes "stop"); action = Some SetTrue }

abbrev pub make_arg : Rule
make_arg = record (new_rule (codes "make")) { long = Some (codes "make"); action = Some Set }

-- no flag asks for help or the version
abbrev pub bare_app : App
bare_app = on_top (λ s. record s { disable_version_flag = true }) (on_top (λ s. record s { disable_help_flag = true }) (new_app (codes "walnut")))

abbrev pub walnut_app : App
walnut_app = with_rule (with_rule (with_rule bare_app states_arg) stop_arg) make_arg

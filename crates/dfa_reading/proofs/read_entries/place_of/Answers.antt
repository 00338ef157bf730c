use Rattle.std.proofs.Common.{◌≡◌, ap, ◌∙◌, rules}
use Rattle.std.specs.Prelude.{option_and_then}
use Rattle.std.proofs.lemmas.Int.{to_z-of_z}
use mir.Val.{SFits}
use mir.Syntax.{w32}
use Rattle.dfa_reading.specs.Entries.{place_in}
use Rattle.dfa_reading.proofs.read_entries.place_of.Goals as goal

pub returns : goal.returns
returns c =
    let member = c.in_ok-member.member in
    let fits : SFits w32 member = search rules in
    let found : c.place_of_member.result ≡ place_in c.args.set.now member = simp to_z-of_z at c.place_of_member.ensures in
    found ∙ ap (option_and_then (place_in c.args.set.now)) c.in_ok-member.ensures

use Rattle.std.proofs.Common.{◌≡◌, ◌<◌, length, get_or, pos, IsSome, IfSome, ◌↔◌}
use Rattle.std.specs.List.{Contains}
use Rattle.std.proofs.lemmas.Int.{to_z-of_z}
use mir.Val.{SFits}
use mir.Syntax.{w32}
use Rattle.dfa_reading.proofs.Places.{place_is}
use Rattle.dfa_reading.proofs.read_entries.place_of_member.Goals as goal

pub returns : goal.returns
returns c =
    let set = c.args.set.now in
    let fits : SFits w32 c.args.member = c.ranges.member in
    let there : IsSome c.place_of.result ↔ Contains set c.args.member = simp to_z-of_z at c.place_of.ensures.member in
    let at : IfSome c.place_of.result (λ place. (place < length set) × (get_or set place (pos 0) ≡ c.args.member)) = simp to_z-of_z at c.place_of.ensures.place in
    place_is set c.args.member c.place_of.result c.members-members.ensures.set.ascending there at

use Rattle.std.proofs.Common.{◌≡◌, false, cond, None, Some, IsSome, ◌↔◌, sym, ap, ◌∙◌, rules}
use Rattle.std.specs.Prelude.{option_and_then}
use Rattle.std.specs.List.{Contains}
use Rattle.std.proofs.lemmas.Int.{to_z-of_z}
use mir.Val.{SFits}
use mir.Syntax.{w32}
use Rattle.transducer_reading.specs.Transducers.{is_member}
use Rattle.transducer_reading.specs.Entries.{within_set}
use Rattle.transducer_reading.proofs.EntryLemmas.{member_is}
use Rattle.transducer_reading.proofs.read_entry.member.Goals as goal

pub returns-else-is_some : goal.returns-else-is_some
returns-else-is_some c =
    let set = c.args.set.now in
    let letter = c.in_ok-letter.letter in
    let fits : SFits w32 letter = search rules in
    let there : IsSome c.place_of.result ↔ Contains set letter = simp to_z-of_z at c.place_of.ensures.member in
    let outside : is_member set letter ≡ false = sym (member_is set letter c.place_of.result there) ∙ sym c.is_some.ensures ∙ c.if-is_some.false in
    sym (ap (option_and_then (within_set set)) (sym c.in_ok-letter.ensures) ∙ ap (λ b. cond b (Some letter) None) outside)

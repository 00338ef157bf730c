use Rattle.std.proofs.Common.{◌≡◌, Bool, eqb, IsSome, ◌↔◌, sym, ap, ◌∙◌, rules}
use Rattle.std.specs.List.{Contains, filter, find}
use Rattle.std.proofs.lemmas.Int.{to_z-of_z}
use mir.Val.{SFits}
use mir.Syntax.{w32}
use Rattle.transducer_reading.specs.declared.transducer.TransducerLine.{TransducerLine}
use Rattle.transducer_reading.specs.Transducers.{Transducer, is_member, takes_by, line_from}
use Rattle.transducer_reading.proofs.EntryLemmas.{member_is}
use Rattle.transducer_reading.proofs.LineLemmas.{find_filtered}
use Rattle.transducer_reading.proofs.transducer.Transducer.line_from.Goals as goal

pub returns : goal.returns
returns c =
    let letter = c.args.letter in
    let state = c.args.state in
    let fits : SFits w32 letter = search rules in
    let set = c.self.inside.set in
    let lines = c.self.inside.lines.items in
    let there : IsSome c.place_of.result ↔ Contains set letter = simp to_z-of_z at c.place_of.ensures.member in
    let member : c.is_some-member.result ≡ is_member set letter = c.is_some-member.ensures ∙ member_is set letter c.place_of.result there in
    let found : c.first_with.result ≡ find (λ (line : TransducerLine). takes_by c.is_some-member.result line.letter letter) c.lines_from-lines.result.now = simp to_z-of_z at c.first_with.ensures in
    let own : c.lines_from-lines.result.now ≡ filter (λ (line : TransducerLine). eqb line.state state) lines = c.lines_from-lines.ensures ∙ ap (filter (λ (line : TransducerLine). eqb line.state state)) c.deref.ensures.value in
    found ∙ ap (find (λ (line : TransducerLine). takes_by c.is_some-member.result line.letter letter)) own
    ∙ ap (λ (b : Bool). find (λ (line : TransducerLine). takes_by b line.letter letter) (filter (λ (line : TransducerLine). eqb line.state state) lines)) member
    ∙ sym (find_filtered (λ (line : TransducerLine). eqb line.state state) (λ (line : TransducerLine). takes_by (is_member set letter) line.letter letter) lines)
    ∙ ap (λ (t : Transducer). line_from t state letter) c.self.view_is

use Rattle.std.proofs.Common.{◌≡◌, ℕ, length, Ok, sym, ap, ◌∙◌, subst, true≢false}
use Rattle.transducer_reading.specs.Transducers.{IsTransducer}
use Rattle.transducer_reading.specs.Reading.{placed_lines}
use Rattle.transducer_reading.specs.Drafts.{draft_view}
use Rattle.transducer_reading.proofs.PlacedLemmas.{IsTransducer-placed}
use Rattle.transducer_reading.proofs.draft.Draft.finish.Goals as goal

pub new-requires : goal.new-requires
new-requires c =
    let numbers = c.args.self.numbers.keys in
    let set = c.in-Some.set in
    let lines = c.in_ok-lines.lines.items in
    let some : length numbers ≡ 0 → ⊥ = λ none. absurd (true≢false (sym (c.is_empty.ensures.1 none) ∙ c.if-is_empty.false)) in
    let made : placed_lines numbers c.args.self.lines.items ≡ Ok lines = ap (placed_lines numbers) (sym c.deref.ensures.value) ∙ c.in_ok-lines.ensures in
    subst (λ (n : ℕ). IsTransducer (record { set = set; states = n; lines = lines })) (sym c.len.ensures.len)
    (IsTransducer-placed (draft_view c.args.self) set lines c.in-Some.is some c.requires.draft_is made)

use Rattle.std.proofs.Common.{◌<◌, ℕ, List, length, get_or, [], ◌∷◌, sym, ap, ◌∙◌, arith}
use Rattle.std.specs.List.{slice_range}
use Rattle.digit_tuple.proofs.KeyPartLemmas.{AreEnds-at, length-parts, part_at}
use Rattle.digit_tuple.proofs.key_arena.KeyArena.key.Goals as goal

pub start-start-requires : goal.start-start-requires
start-start-requires c = omega (arith, c.requires, length-parts c.self.inside.numbers.items 0 c.self.inside.ends, ap length c.self.view_is)

pub end-end-requires : goal.end-end-requires
end-end-requires c = omega (arith, c.requires, length-parts c.self.inside.numbers.items 0 c.self.inside.ends, ap length c.self.view_is)

pub offset_bounds-deref-start : goal.offset_bounds-deref-start
offset_bounds-deref-start c =
    let numbers = c.self.inside.numbers.items in
    let ends = c.self.inside.ends in
    let within : c.args.number < length ends = omega (arith, c.requires, length-parts numbers 0 ends, ap length c.self.view_is) in
    omega (arith, c.start-start.ensures, AreEnds-at (length numbers) 0 ends c.args.number c.self.invariant within, ap length c.deref.ensures.value, c.deref.type_inv)

pub slice_bounds-result-count : goal.slice_bounds-result-count
slice_bounds-result-count c =
    let numbers = c.self.inside.numbers.items in
    let ends = c.self.inside.ends in
    let within : c.args.number < length ends = omega (arith, c.requires, length-parts numbers 0 ends, ap length c.self.view_is) in
    omega (arith, c.start-start.ensures, c.end-end.ensures, AreEnds-at (length numbers) 0 ends c.args.number c.self.invariant within)

pub slice_bounds-result-start : goal.slice_bounds-result-start
slice_bounds-result-start c =
    let numbers = c.self.inside.numbers.items in
    let ends = c.self.inside.ends in
    let within : c.args.number < length ends = omega (arith, c.requires, length-parts numbers 0 ends, ap length c.self.view_is) in
    omega (arith, c.start-start.ensures, c.end-end.ensures, AreEnds-at (length numbers) 0 ends c.args.number c.self.invariant within)

pub slice_bounds-result-end : goal.slice_bounds-result-end
slice_bounds-result-end c =
    let numbers = c.self.inside.numbers.items in
    let ends = c.self.inside.ends in
    let within : c.args.number < length ends = omega (arith, c.requires, length-parts numbers 0 ends, ap length c.self.view_is) in
    omega (arith, c.end-end.ensures, AreEnds-at (length numbers) 0 ends c.args.number c.self.invariant within, ap length c.deref.ensures.value)

pub returns : goal.returns
returns c =
    let numbers = c.self.inside.numbers.items in
    let ends = c.self.inside.ends in
    let within : c.args.number < length ends = omega (arith, c.requires, length-parts numbers 0 ends, ap length c.self.view_is) in
    ap (λ (ns : List ℕ). slice_range ns c.start-start.result c.end-end.result) c.deref.ensures.value
    ∙ ap (λ i. slice_range numbers i c.end-end.result) c.start-start.ensures ∙ ap (slice_range numbers (get_or (0 ∷ ends) c.args.number 0)) c.end-end.ensures
    ∙ sym (part_at numbers 0 ends c.args.number within) ∙ ap (λ (ks : List (List ℕ)). get_or ks c.args.number []) c.self.view_is

use Rattle.std.proofs.Common.{◌<◌, ℕ, List, length, get_or, [], ◌∷◌, sym, ap, ◌∙◌, arith}
use Rattle.std.specs.List.{slice_range}
use Rattle.digit_tuple.proofs.KeyPartLemmas.{AreEnds-at, length-parts, part_at}
use Rattle.dfa_text.proofs.line_prefixes.LinePrefixes.prefix.Goals as goal

pub start-start-requires : goal.start-start-requires
start-start-requires c = omega (arith, c.requires, length-parts c.self.inside.bytes.items 0 c.self.inside.ends, ap length c.self.view_is)

pub end-end-requires : goal.end-end-requires
end-end-requires c = omega (arith, c.requires, length-parts c.self.inside.bytes.items 0 c.self.inside.ends, ap length c.self.view_is)

pub slice_bounds-result-count : goal.slice_bounds-result-count
slice_bounds-result-count c =
    let bytes = c.self.inside.bytes.items in
    let ends = c.self.inside.ends in
    let within : c.args.letter < length ends = omega (arith, c.requires, length-parts bytes 0 ends, ap length c.self.view_is) in
    omega (arith, c.start-start.ensures, c.end-end.ensures, AreEnds-at (length bytes) 0 ends c.args.letter c.self.invariant within)

pub slice_bounds-result-start : goal.slice_bounds-result-start
slice_bounds-result-start c =
    let bytes = c.self.inside.bytes.items in
    let ends = c.self.inside.ends in
    let within : c.args.letter < length ends = omega (arith, c.requires, length-parts bytes 0 ends, ap length c.self.view_is) in
    omega (arith, c.start-start.ensures, c.end-end.ensures, AreEnds-at (length bytes) 0 ends c.args.letter c.self.invariant within)

pub slice_bounds-result-end : goal.slice_bounds-result-end
slice_bounds-result-end c =
    let bytes = c.self.inside.bytes.items in
    let ends = c.self.inside.ends in
    let within : c.args.letter < length ends = omega (arith, c.requires, length-parts bytes 0 ends, ap length c.self.view_is) in
    omega (arith, c.end-end.ensures, AreEnds-at (length bytes) 0 ends c.args.letter c.self.invariant within, ap length c.deref.ensures.value)

pub returns : goal.returns
returns c =
    let bytes = c.self.inside.bytes.items in
    let ends = c.self.inside.ends in
    let within : c.args.letter < length ends = omega (arith, c.requires, length-parts bytes 0 ends, ap length c.self.view_is) in
    ap (λ (bs : List ℕ). slice_range bs c.start-start.result c.end-end.result) c.deref.ensures.value
    ∙ ap (λ i. slice_range bytes i c.end-end.result) c.start-start.ensures ∙ ap (slice_range bytes (get_or (0 ∷ ends) c.args.letter 0)) c.end-end.ensures
    ∙ sym (part_at bytes 0 ends c.args.letter within) ∙ ap (λ (fs : List (List ℕ)). get_or fs c.args.letter []) c.self.view_is

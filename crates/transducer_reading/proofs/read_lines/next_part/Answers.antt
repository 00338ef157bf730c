use Rattle.std.proofs.Common.{◌≡◌, ◌-◌, length, take, drop, sym, ap, ◌∙◌, arith}
use Rattle.std.proofs.lemmas.Bool.{eqb-true, eqb-false}
use Rattle.std.proofs.lemmas.List.{take_rest, length-drop}
use Rattle.dfa_reading.proofs.ReadLines.{first_part_is, no_part_is}
use Rattle.transducer_reading.proofs.read_lines.next_part.Goals as goal

pub returns-then-is_empty : goal.returns-then-is_empty
returns-then-is_empty c =
    let begun = take (length c.args.line.now - c.prefix_len.result) (drop c.prefix_len.result c.args.line.now) in
    no_part_is c.args.line.now begun c.prefix_len.result c.prefix_len.ensures.len (take_rest c.args.line.now c.prefix_len.result) (eqb-true (length begun) 0 (sym c.is_empty.ensures ∙ c.if-is_empty.true))

pub returns : goal.returns
returns c =
    let begun = take (length c.args.line.now - c.prefix_len.result) (drop c.prefix_len.result c.args.line.now) in
    let full : length begun ≡ 0 → ⊥ = eqb-false (length begun) 0 (sym c.is_empty.ensures ∙ c.if-is_empty.false) in
    let first = first_part_is c.args.line.now begun c.split_at.result.0.now c.split_at.result.1.now c.prefix_len.result c.part_len.result c.prefix_len.ensures.len (take_rest c.args.line.now c.prefix_len.result) (omega arith) c.part_len.ensures.len c.split_at.ensures.front c.split_at.ensures.back in
    let same : length begun ≡ length c.args.line.now - c.prefix_len.result = omega (arith, length-drop c.prefix_len.result c.args.line.now, ap length (take_rest c.args.line.now c.prefix_len.result)) in
    (first.0, omega (arith, first.1, c.split_at.ensures.back_len))

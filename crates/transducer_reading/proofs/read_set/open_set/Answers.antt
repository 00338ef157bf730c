use Rattle.std.proofs.Common.{◌≡◌, inl, inr, ◌-◌, length, take, drop, sym, ◌∙◌, arith}
use Rattle.std.proofs.lemmas.Bool.{eqb-true, eqb-false}
use Rattle.std.proofs.lemmas.List.{take_rest}
use Rattle.dfa_reading.proofs.ReadHeaders.{open_brace, no_brace}
use Rattle.transducer_reading.proofs.read_set.open_set.Goals as goal
use Rattle.transducer_reading.proofs.read_set.open_set.Goals.{then-is_empty-via-then-is_empty, then-is_empty-via-else-is_empty+then-begun-ne123}

pub returns-then-is_empty : goal.returns-then-is_empty
returns-then-is_empty c =
    let begun = take (length c.args.bytes.now - c.prefix_len.result) (drop c.prefix_len.result c.args.bytes.now) in
    no_brace c.args.bytes.now begun c.prefix_len.result c.prefix_len.ensures.len (take_rest c.args.bytes.now c.prefix_len.result)
    (elim c.then-is_empty.branch [ then-is_empty-via-then-is_empty w ↦ inl (let none : length begun ≡ 0 = eqb-true (length begun) 0 (sym c.is_empty.ensures ∙ w.if-is_empty.true) in omega arith) | then-is_empty-via-else-is_empty+then-begun-ne123 w ↦ inr w.if-begun-ne123.true ])

pub returns : goal.returns
returns c =
    let begun = take (length c.args.bytes.now - c.prefix_len.result) (drop c.prefix_len.result c.args.bytes.now) in
    let full : length begun ≡ 0 → ⊥ = eqb-false (length begun) 0 (sym c.is_empty.ensures ∙ c.if-is_empty.false) in
    let rest : take (length begun - 1) (drop 1 begun) ≡ drop 1 begun = take_rest begun 1 in
    rw (open_brace c.args.bytes.now begun (take (length begun - 1) (drop 1 begun)) c.prefix_len.result c.prefix_len.ensures.len (take_rest c.args.bytes.now c.prefix_len.result) (omega arith) c.if-begun-ne123.false rest) c.members.ensures

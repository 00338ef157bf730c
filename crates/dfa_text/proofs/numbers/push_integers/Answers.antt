use Rattle.std.proofs.Common.{◌-◌, ◌∷◌, length, get_or, take, drop, codes, pos, refl, arith, rules}
use Rattle.std.proofs.lemmas.List.{take_rest}
use Rattle.std.proofs.lemmas.Int.{to_z-of_z}
use Rattle.std.specs.Fmt.{signed_decimal}
use mir.Val.{SFits}
use mir.Syntax.{w32}
use Rattle.dfa_text.proofs.Joins.{pieces_more, joined_all}
use Rattle.dfa_text.proofs.numbers.push_integers.Goals as goal

pub loop-number-preserved : goal.loop-number-preserved
loop-number-preserved c =
    let others = take (length c.args.numbers.now - 1) (drop 1 c.args.numbers.now) in
    let m = get_or others c.loop-number.number-index (pos 0) in
    let fits : SFits w32 m = search rules in
    pieces_more (λ y. 44 ∷ signed_decimal y) c.push_integer.new.out.items c.loop-number.out.items c.push_after.new.out.items others c.loop-number.number-index m (pos 0) (omega arith) refl c.loop-number.invariant (simp to_z-of_z at c.in_ok-push_after.ensures)

pub returns-after-loop-number : goal.returns-after-loop-number
returns-after-loop-number c =
    let others = take (length c.args.numbers.now - 1) (drop 1 c.args.numbers.now) in
    let fits : SFits w32 (get_or c.args.numbers.now 0 (pos 0)) = search rules in
    joined_all signed_decimal (codes ",") c.args.out.now.items c.push_integer.new.out.items c.loop-number.out.items c.args.numbers.now others c.loop-number.number-index (pos 0) (omega arith) (take_rest c.args.numbers.now 1) (simp to_z-of_z at c.in_ok-push_integer.ensures) (omega arith) c.loop-number.invariant

use Rattle.std.proofs.Common.{◌≡◌, ◌-◌, length, take, drop, sym, ◌∙◌}
use Rattle.std.proofs.lemmas.Bool.Decides.{Decides-eqb}
use Rattle.std.proofs.lemmas.List.{take_rest}
use Rattle.std.proofs.lemmas.Slice.Eq.{slice_eq-Decides}
use Rattle.digit_tuple.proofs.number_lists.are_twice.Goals as goal

pub returns : goal.returns
returns c =
    let numbers = c.args.numbers.now in
    let width = c.args.width in
    let rest : take (length numbers - width) (drop width numbers) ≡ drop width numbers = take_rest numbers width in
    let decides = slice_eq-Decides Decides-eqb (take (length numbers - width) (drop width numbers)) (take width numbers) c.eq.result c.eq.ensures in
    (λ is. sym rest ∙ decides.0 is, λ same. decides.1 (rest ∙ same))

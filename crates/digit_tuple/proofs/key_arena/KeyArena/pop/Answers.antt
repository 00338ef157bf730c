use Rattle.std.proofs.Common.{◌≡◌, ◌-◌, ℕ, List, take, length, sym, ap, ◌∙◌, subst, arith}
use Rattle.digit_tuple.specs.KeyParts.{AreEnds, parts_from}
use Rattle.digit_tuple.proofs.KeyPartLemmas.{AreEnds-take, length-parts, parts_from-take}
use Rattle.digit_tuple.proofs.key_arena.KeyArena.pop.Goals as goal

pub pop-requires : goal.pop-requires
pop-requires c = omega (arith, c.requires, length-parts c.self.inside.numbers.items 0 c.self.inside.ends, ap length c.self.view_is)

pub invariant_of-self : goal.invariant_of-self
invariant_of-self c =
    let inside = c.self.inside in
    subst (λ (ends : List ℕ). AreEnds (length inside.numbers.items) 0 ends) (sym c.pop.ensures) (AreEnds-take (length inside.numbers.items) 0 (length inside.ends - 1) inside.ends c.self.invariant)

pub returns : goal.returns
returns c =
    let inside = c.self.inside in
    let count : length inside.ends ≡ length c.args.self.now = omega (arith, length-parts inside.numbers.items 0 inside.ends, ap length c.self.view_is) in
    ap (parts_from inside.numbers.items 0) c.pop.ensures
    ∙ parts_from-take inside.numbers.items 0 (length inside.ends - 1) inside.ends
    ∙ ap (λ n. take (n - 1) (parts_from inside.numbers.items 0 inside.ends)) count
    ∙ ap (take (length c.args.self.now - 1)) c.self.view_is

use Rattle.std.proofs.Common.{◌≡◌, ◌==◌, ℕ, Bool, not, List, length, vec_len, ap, ◌∙◌, arith}
use Rattle.std.specs.List.{list_any}
use Rattle.word_walk.proofs.FewStateLemmas.{any_flag}
use Rattle.word_walk.proofs.few_states.FewStates.has_any.Goals as goal

pub returns : goal.returns
returns c =
    let size : vec_len c.self.inside.states ≡ length c.self.inside.states.items = omega (arith, c.self.inside.states.ok) in
    ap not (c.is_empty.ensures ∙ ap (λ (n : ℕ). n == 0) size)
    ∙ any_flag c.self.inside.count c.self.inside.states.items c.self.invariant
    ∙ ap (λ (flags : List Bool). list_any (λ has. has) flags) c.self.view_is

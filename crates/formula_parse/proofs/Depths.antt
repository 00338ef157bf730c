-- The nesting of a state, counted by lengths.
use Rattle.std.proofs.Common.{◌≡◌, ◌∙◌, ap, ℕ, suc, ◌+◌, List, [], ◌∷◌, length, arith}
use Rattle.std.specs.List.{fold}
use Rattle.formula_parse.specs.Machine as machine
use Rattle.formula_parse.specs.Machine.{within_outer}
use Rattle.formula_parse.specs.Made.{made}
use Rattle.formula_parse.specs.StateViews.{outer_view, outers_view}
use Rattle.formula_parse.specs.declared.state.Sum.{Sum}

outer-length : (o : List (machine.Outer made)) (d : ℕ) → within_outer o d ≡ d + length o
outer-length [] d = omega arith
outer-length (x ∷ o) d = ap suc (outer-length o d) ∙ omega arith

stack_length : (os : List Sum) (gs : List (machine.Outer made)) → length (fold (λ (hs : List (machine.Outer made)) (o : Sum). outer_view o ∷ hs) gs os) ≡ length os + length gs
stack_length [] gs = omega arith
stack_length (x ∷ os) gs = stack_length os (outer_view x ∷ gs) ∙ omega arith

pub term_depth : (os : List Sum) (d : ℕ) → within_outer (outers_view os) d ≡ d + length os
term_depth os d =
    let n = stack_length os [] in
    outer-length (outers_view os) d ∙ omega (arith, n)

use Rattle.std.proofs.Common.{◌≡◌, ℕ, ◌+◌, ◌-◌, ◌<◌, List, [], ◌∷◌, length, sym, ap, ◌∙◌, subst, arith, rules, ◌↔◌, IsTrue}
use Rattle.digit_tuple.specs.Deterministic.{accepts_of}
use Rattle.digit_tuple.specs.Paddings.{in_order, without_zeros}
use Rattle.digit_tuple.specs.Width.{HasWidth}
use Rattle.numeration.specs.Systems.{IsRep}
use Rattle.constants.specs.Constants.{ConstantAlike}
use Rattle.constants.specs.WordPaths.{IsPaddingPath}
use Rattle.constants.proofs.ConstantKinds.{constant_apart, constant_width}
use Rattle.constants.proofs.ConstantLinks.{constant_is, two_apart}
use Rattle.constants.proofs.ConstantWidthLemmas.{constant_size}
use Rattle.constants.proofs.constant.constant.Goals as goal

pub returns-then-limit-lt2-clause-states : goal.returns-then-limit-lt2-clause-states
returns-then-limit-lt2-clause-states c refused s laws language = two_apart c.args.direction s c.args.number c.args.limit.most laws c.if-limit-lt2.true

pub returns-in_err-word-clause-states : goal.returns-in_err-word-clause-states
returns-in_err-word-clause-states c refused s laws language =
    let e = c.from_residual.ensures in
    let k = c.in_err-word.ensures.states in
    let long : (word : List ℕ) × IsRep s.digits s.test c.args.number word × (c.args.limit.most - 2 < length word) = k (search rules) s laws language in
    constant_apart c.args.direction s c.args.number long.0 laws long.1 (c.args.limit.most + 1) (omega (arith, long.2))

pub returns-clause-constant : goal.returns-clause-constant
returns-clause-constant c s laws language =
    let direction = c.args.direction in
    let d = c.in_ok-paddings.paddings in
    let word = c.in_ok-word.word.items in
    let paddings : (w : List ℕ) → IsTrue (accepts_of d w) ↔ (without_zeros (in_order direction w) ≡ word) =
    subst (λ v. (w : List ℕ) → IsTrue (accepts_of d w) ↔ (without_zeros (in_order direction w) ≡ v)) c.deref.ensures.value c.in_ok-paddings.ensures.paddings in
    let sizes : d.sizes ≡ s.digits ∷ [] = c.in_ok-paddings.ensures.sizes ∙ c.in_ok-alphabet.ensures ∙ c.alphabet.ensures.sizes ∙ language.sizes in
    constant_is direction s c.args.number word d c.in_ok-canonical.field-0 laws (c.in_ok-word.ensures.word s laws language) sizes paddings c.in_ok-canonical.ensures.sizes c.in_ok-canonical.ensures.language

pub returns-clause-width : goal.returns-clause-width
returns-clause-width c s laws language =
    let direction = c.args.direction in
    let d = c.in_ok-paddings.paddings in
    let word = c.in_ok-word.word.items in
    let path : IsPaddingPath direction word d = subst (λ v. IsPaddingPath direction v d) c.deref.ensures.value c.in_ok-paddings.ensures.path in
    let long : length word ≡ c.len.result = ap length (sym c.deref.ensures.value) ∙ c.deref.ensures.len ∙ sym c.len.ensures in
    subst (λ n. HasWidth (ConstantAlike direction s c.args.number) s.digits (n + 2)) long
    (constant_width direction s c.args.number word laws (c.in_ok-word.ensures.word s laws language) d path)

pub returns-clause-size : goal.returns-clause-size
returns-clause-size c =
    let system = c.requires.system in
    constant_size c.args.direction system.0 c.args.number c.in_ok-canonical.field-0 (returns-clause-constant c system.0 system.1 system.2) (c.len.result + 2) c.in_ok-canonical.ensures.canonical
    (returns-clause-width c system.0 system.1 system.2)

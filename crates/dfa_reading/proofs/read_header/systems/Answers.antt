use Rattle.std.proofs.Common.{◌≡◌, ℕ, Bool, true, List, [], ◌∷◌, ◌++◌, Option, Some, None, cond, sym, ap, ◌∙◌}
use Rattle.dfa_reading.specs.Lines.{◌>>=◌, each_of, parts_of}
use Rattle.dfa_reading.specs.Systems.{of_one_direction, system_of, systems_of}
use Rattle.dfa_reading.proofs.Options.{each_missing, each_next}
use Rattle.dfa_reading.proofs.ReadHeaders.{with_prefix, with_prefix-none}
use Rattle.dfa_reading.proofs.read_header.systems.Goals as goal

pub parts-init : goal.parts-init
parts-init c =
    let read = each_of system_of (parts_of c.args.line.now) in
    ap (λ (done : List (List ℕ)). with_prefix done read) c.new-systems.ensures.items ∙ with_prefix-none read

pub parts-preserved : goal.parts-preserved
parts-preserved c =
    let part = c.in-Some.part.now in
    each_next system_of (parts_of c.parts.rest.now) (parts_of c.in-Some.after.now) part part c.parts.systems.items c.push.new.self.items _ c.in-Some.ensures.0
    (ap (λ (b : Bool). cond b (Some part) None) (sym c.is_system.ensures ∙ c.if-not-is_system.false))
    (c.in_ok-push.ensures.items ∙ ap (λ (name : List ℕ). c.parts.systems.items ++ name ∷ []) c.in_ok-system.ensures) c.parts.invariant

pub returns-then-not-is_system : goal.returns-then-not-is_system
unfolding systems_of
returns-then-not-is_system c =
    let part = c.in-Some.part.now in
    ap (λ (o : Option (List (List ℕ))). o >>= of_one_direction)
    (each_missing system_of (parts_of c.parts.rest.now) (parts_of c.in-Some.after.now) part c.parts.systems.items _ c.in-Some.ensures.0
    (ap (λ (b : Bool). cond b (Some part) None) (sym c.is_system.ensures ∙ c.if-not-is_system.true)) c.parts.invariant)

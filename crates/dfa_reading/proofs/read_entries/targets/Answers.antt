use Rattle.std.proofs.Common.{◌≡◌, ◌<◌, ℕ, List, length, sym, ap, ◌∙◌, arith}
use Rattle.dfa_reading.specs.Lines.{each_of, parts_of}
use Rattle.dfa_reading.specs.Entries.{state_number}
use Rattle.dfa_reading.proofs.Options.{each_all, each_missing, each_next}
use Rattle.dfa_reading.proofs.ReadEntries.{targets_all, targets_none}
use Rattle.dfa_reading.proofs.ReadHeaders.{with_prefix, with_prefix-none}
use Rattle.std.proofs.lemmas.Bool.{eqb-false}
use Rattle.dfa_reading.proofs.read_entries.targets.Goals as goal

pub targets-init : goal.targets-init
targets-init c =
    let read = each_of state_number (parts_of c.args.text.now) in
    ap (λ (done : List ℕ). with_prefix done read) c.new-targets.ensures.items ∙ with_prefix-none read

pub targets-preserved : goal.targets-preserved
targets-preserved c =
    each_next state_number (parts_of c.targets.rest.now) (parts_of c.in-Some.after.now) c.in-Some.part.now c.in-Some-state_number.target c.targets.targets.items c.push.new.self.items _ c.in-Some.ensures.0
    (sym c.state_number.ensures ∙ c.in-Some-state_number.is) c.in_ok-push.ensures.items c.targets.invariant

pub returns-in_default-state_number : goal.returns-in_default-state_number
returns-in_default-state_number c =
    targets_none (parts_of c.args.text.now)
    (each_missing state_number (parts_of c.targets.rest.now) (parts_of c.in-Some.after.now) c.in-Some.part.now c.targets.targets.items _ c.in-Some.ensures.0 (sym c.state_number.ensures ∙ c.in_default-state_number.is) c.targets.invariant)

pub returns : goal.returns
returns c =
    let done = c.targets.targets.items in
    let full : c.targets.targets.len ≡ 0 → ⊥ = eqb-false c.targets.targets.len 0 (sym c.is_empty.ensures ∙ c.if-is_empty.false) in
    let some : 0 < length done = omega (arith, c.targets.targets.ok.0) in
    targets_all (parts_of c.args.text.now) done some (each_all state_number (parts_of c.targets.rest.now) done _ c.in_default.ensures c.targets.invariant)

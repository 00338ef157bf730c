use Rattle.std.proofs.Common.{ℕ, sym, ap, ◌∙◌, is_some, Vec, Global}
use Rattle.std.specs.Ordering.{nat_cmp}
use Rattle.std.specs.Cmp.Lexicographic.{slice_cmp}
use Rattle.std.specs.BTreeMap.{is_at}
use Rattle.std.specs.Map.{lookup}
use Rattle.formula_resolve.proofs.VariableLemmas.{kept_again, kept_more}
use Rattle.formula_resolve.proofs.variable.add_variable.Goals as goal

pub returns-then-contains_key : goal.returns-then-contains_key
returns-then-contains_key c = λ os kept. kept_again os c.args.occurrence.now c.args.variables.now.entries
    (ap (λ n. is_some (lookup (is_at (λ (k : Vec ℕ Global). slice_cmp nat_cmp n k.items)) c.args.variables.now.entries)) (sym c.as_bytes.ensures) ∙ sym c.if-contains_key.ensures) kept

pub returns : goal.returns
returns c = λ os kept. kept_more os c.args.occurrence.now c.args.variables.now.entries c.insert.new.self.entries c.in_ok-key.key (record { name = c.in_ok-copy.field-0; system = c.in_ok-copy-2.field-0 })
    (ap (λ n. is_some (lookup (is_at (λ (k : Vec ℕ Global). slice_cmp nat_cmp n k.items)) c.args.variables.now.entries)) (sym c.as_bytes.ensures) ∙ sym c.if-contains_key.ensures)
    (c.in_ok-key.ensures.items ∙ c.as_bytes-2.ensures) (λ i. record { name = c.in_ok-copy.ensures i; system = c.in_ok-copy-2.ensures i }) c.in_ok-insert.ensures.entries kept

use Rattle.std.proofs.Common.{◌≡◌, List, Bool, length, ap, subst, refl, arith}
use Rattle.digit_tuple.specs.Letters.{product}
use Rattle.digit_tuple.specs.Deterministic.{Automaton}
use Rattle.digit_tuple.specs.DfaRows.{flagged}
use Rattle.digit_tuple.specs.Reflagged.{IsReflagged}
use Rattle.digit_tuple.proofs.FlaggedLemmas.{AreReflagged-flags}
use Rattle.digit_tuple.proofs.KeptLemmas.{kept-count}
use Rattle.digit_tuple.proofs.ReflaggedLemmas.{IsTable-reflagged}
use Rattle.digit_tuple.proofs.dfa.Dfa.with_accepting.Goals as goal

pub copy_from_slice-requires : goal.copy_from_slice-requires
copy_from_slice-requires c =
    let count = kept-count c.self.inside.flags.items c.self.inside.table c.args.self c.self.invariant.0 c.self.view_is in
    omega (arith, count, c.requires, c.self.inside.flags.ok, c.self.invariant.0)

pub invariant_of-self : goal.invariant_of-self
invariant_of-self c =
    let old = c.self.inside.flags.items in
    let new = c.copy_from_slice.new.self.items in
    let rows = c.self.inside.table.rows in
    let count = kept-count old c.self.inside.table c.args.self c.self.invariant.0 c.self.view_is in
    let size : length new ≡ length rows = omega (arith, ap length c.copy_from_slice.ensures.items, c.requires, count) in
    (size, IsTable-reflagged (product c.self.inside.table.sizes) new (flagged old rows) (flagged new rows) (AreReflagged-flags old new rows c.self.invariant.0 size) c.self.invariant.1)

pub returns : goal.returns
returns c =
    let old = c.self.inside.flags.items in
    let new = c.copy_from_slice.new.self.items in
    let table = c.self.inside.table in
    let count = kept-count old table c.args.self c.self.invariant.0 c.self.view_is in
    let size : length new ≡ length table.rows = omega (arith, ap length c.copy_from_slice.ensures.items, c.requires, count) in
    let made : Automaton = record { sizes = table.sizes; states = flagged new table.rows } in
    let from : Automaton = record { sizes = table.sizes; states = flagged old table.rows } in
    let by_new : IsReflagged new from made = record { sizes = refl; states = AreReflagged-flags old new table.rows c.self.invariant.0 size } in
    subst (λ (d : Automaton). IsReflagged c.args.flags.now d made) c.self.view_is
    (subst (λ (flags : List Bool). IsReflagged flags from made) c.copy_from_slice.ensures.items by_new)

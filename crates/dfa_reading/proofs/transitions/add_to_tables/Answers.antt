use Rattle.std.proofs.Common.{◌≡◌, ◌<◌, length, set, get_or, List, Option, ℕ, ap, ◌∙◌, arith}
use Rattle.std.proofs.lemmas.List.{get_or_default}
use Rattle.dfa_reading.specs.StarTables.{StarTable, masked, with_target, no_table}
use Rattle.dfa_reading.proofs.TransitionLemmas.{set_prefix, get_or-prefix, length-prefix}
use Rattle.dfa_reading.proofs.transitions.add_to_tables.Goals as goal

pub loop-place-preserved : goal.loop-place-preserved
loop-place-preserved c =
    let xs = c.args.tables.now.items in
    let tables = c.loop-place.tables.items in
    let place = c.loop-place.place in
    let digits = c.args.digits.now in
    let target = c.args.target in
    let f = λ (table : StarTable). with_target table (masked digits table.pattern) target in
    let within : place < length xs = omega (arith, c.len-place-end.ensures, c.args.tables.now.ok.0, c.loop-place-test.true) in
    let inside : place < length tables = omega (arith, within, ap length c.loop-place.invariant, length-prefix f xs place) in
    let old : get_or tables place no_table ≡ get_or xs place no_table = ap (λ (ts : List StarTable). get_or ts place no_table) c.loop-place.invariant ∙ get_or-prefix f xs place no_table in
    let read : c.index.result.now ≡ get_or xs place no_table = c.index.ensures ∙ get_or_default tables place _ no_table inside ∙ old in
    let written : c.index_mut.result.now ≡ get_or xs place no_table = c.index_mut.ensures.value ∙ get_or_default tables place _ no_table inside ∙ old in
    let key : c.in_ok-key.key.items ≡ masked digits (get_or xs place no_table).pattern = c.in_ok-key.ensures ∙ ap (masked digits) (c.pattern.ensures ∙ ap (λ (t : StarTable). t.pattern) read) in
    ap (λ (ts : List StarTable). set ts place c.add.new.self) c.loop-place.invariant
    ∙ set_prefix f xs place no_table c.add.new.self within
    (c.in_ok-add.ensures ∙ ap (λ (t : StarTable). with_target t c.in_ok-key.key.items target) written ∙ ap (λ (ds : List (Option ℕ)). with_target (get_or xs place no_table) ds target) key)

use Rattle.std.proofs.Common.{List, sym, subst}
use Rattle.std.proofs.lemmas.Result.{err_from_is_err_and}
use Rattle.named_systems.specs.NamedSystems.{NamedSystem, HasSystemIn}
use Rattle.named_systems.specs.SealedSystems.{Extends}
use Rattle.named_systems.proofs.NamedLemmas.{last_is_found}
use Rattle.named_systems.proofs.SealedLemmas.{extends_none, extends_one}
use Rattle.named_systems.proofs.sealed_systems.SealedSystems.add.Goals as goal

pub returns-in_err-system : goal.returns-in_err-system
returns-in_err-system c =
    let p = err_from_is_err_and c.from_residual.result c.from_residual.ensures.1 in
    rw (p.1, p.2) (record { extends = extends_none c.args.systems.now; there = tt })

pub returns-in_err-add : goal.returns-in_err-add
returns-in_err-add c =
    let before = c.args.systems.now in
    let p = err_from_is_err_and c.from_residual-in_err-add.result c.from_residual-in_err-add.ensures.1 in
    rw (p.1, p.2) (record { extends = subst (Extends before) (sym c.in_err-add.ensures.err) (extends_none before); there = tt })

pub returns-in_ok-add : goal.returns-in_ok-add
returns-in_ok-add c =
    let before = c.args.systems.now in
    let name = c.args.name.now in
    let s = c.in-Some.system.value in
    let is = rw c.in-Some.is at c.in_ok-system.ensures in
    record {
      extends = subst (Extends before) (sym c.in_ok-add.ensures.ok) (extends_one before name s is);
      there = λ built. subst (λ (systems : List NamedSystem). HasSystemIn systems name) (sym c.in_ok-add.ensures.ok) (last_is_found before name s);
    }

use Rattle.std.proofs.Common.{refl}
use Rattle.std.proofs.lemmas.Result.{err_from_is_err_and}
use Rattle.store_writes.proofs.actions.written.Goals as goal

pub returns-in_err-write_text : goal.returns-in_err-write_text
returns-in_err-write_text g c =
    let p = err_from_is_err_and c.from_residual.result c.from_residual.ensures.1 in
    let w = rw c.deref.ensures.value at c.in_err-write_text.ensures in
    rw (p.1, p.2) (record { files = w.files; later = w.later; cause = w.cause }, tt)

pub returns : goal.returns
returns g c =
    let w = rw c.deref.ensures.value at c.in_ok-write_text.ensures in
    (record { files = w.files; later = w.later; cause = w.cause }, refl)

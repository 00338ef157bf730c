-- What the exit of a `?` gives.
use Rattle.std.proofs.Common.{◌≡◌, Result, Err, ap, ◌∙◌}
use Rattle.std.specs.Result.{IsErrAnd}
use Rattle.std.proofs.lemmas.Result.{err_from_is_err_and}

pub handed_on : {T E : Type 0} (fault : E) (r : Result T E) → IsErrAnd r (λ y. y ≡ fault) → r ≡ Err fault
handed_on fault r is = let p = err_from_is_err_and r is in p.1 ∙ ap Err p.2

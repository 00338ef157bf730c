-- How a fault is handed on.
use Rattle.std.proofs.Common.{◌≡◌, Result, Err, ap, sym, ◌∙◌, subst}
use Rattle.std.specs.Prelude.{IsErrAnd}
use Rattle.std.proofs.lemmas.Result.{err_from_is_err_and}

-- a fault that was handed on
pub handed_on : {X E : Type 0} (D : Result X E → Type 0) (r : Result X E) (fault : E) → IsErrAnd r (λ e. e ≡ fault) → D (Err fault) → D r
handed_on D r fault given does = let out = err_from_is_err_and r given in subst D (sym (out.1 ∙ ap Err out.2)) does

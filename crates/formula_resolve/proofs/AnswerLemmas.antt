-- What answers report of the first of several faults.
use Rattle.std.proofs.Common.{◌≡◌, ap, Option, Err, refl, None, Some}
use Rattle.std.specs.Option.{option_or}
use Rattle.formula_resolve.specs.Answers.{Reports}
use Rattle.formula_resolve.specs.declared.fault.ResolveFault.{ResolveFault}
use Rattle.formula_resolve.specs.declared.fault.ResolveFault.TheVariants as faults

-- a fault that is reported first is reported of all
pub reports_prefix : (X Y : Type 0) (x y : Option ResolveFault) (e : ResolveFault) → Reports {X = X} x (Err e) → Reports {X = Y} (option_or x y) (Err e)
reports_prefix X Y x y (faults.Plain n) known = ap (λ o. option_or o y) known
reports_prefix X Y x y (faults.Arity n tracks given) known = ap (λ o. option_or o y) known
reports_prefix X Y x y (faults.Clash n s t) known = ap (λ o. option_or o y) known
reports_prefix X Y x y (faults.Direction s t) known = ap (λ o. option_or o y) known
reports_prefix X Y x y faults.Memory known = known

-- where neither of two faults is there
pub none_of_both : (x y : Option ResolveFault) → option_or x y ≡ None → (x ≡ None) × (y ≡ None)
none_of_both None y none = (refl, none)
none_of_both (Some e) y none = absurd (some_is e none)
  where
    some_is : (f : ResolveFault) → Some f ≡ None → ⊥
    some_is f same = cc

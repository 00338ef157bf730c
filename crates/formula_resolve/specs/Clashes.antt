-- One variable over two systems: where all occurrences under one binding do not have one system.
use Rattle.std.specs.Prelude.{◌==◌, Bool, ◌&&◌, List, [], ◌∷◌, ◌++◌, Option, None, Some, if◌then◌else◌}
use Rattle.std.specs.Option.{option_or}
use Rattle.std.specs.Str.{bytes_eq}
use Rattle.formula_parse.specs.Tokens.{Name}
use Rattle.formula_resolve.specs.declared.occurrence.Occurrence.{Occurrence}
use Rattle.formula_resolve.specs.declared.fault.ResolveFault.{ResolveFault}
use Rattle.formula_resolve.specs.declared.fault.ResolveFault.TheVariants.{Clash}

-- whether both are occurrences of one variable under one binding
abbrev pub is_same_binding : Occurrence → Occurrence → Bool
is_same_binding o p = (p.binder == o.binder) && bytes_eq p.name o.name

-- the system of the first occurrence under the binding of this one
abbrev pub first_system : List Occurrence → Occurrence → Option Name
first_system [] p = None
first_system (o ∷ os) p = if is_same_binding o p then Some o.system else first_system os p

-- an occurrence after a first one over this system, or after none
abbrev pub clash_with : Option Name → Occurrence → Option ResolveFault
clash_with None p = None
clash_with (Some s) p = if bytes_eq s p.system then None else Some (Clash p.name s p.system)

-- after these occurrences the first that differs from the first one under its binding
abbrev pub clash_after : List Occurrence → List Occurrence → Option ResolveFault
clash_after prefix [] = None
clash_after prefix (o ∷ os) = option_or (clash_with (first_system prefix o) o) (clash_after (prefix ++ o ∷ []) os)

abbrev pub first_clash : List Occurrence → Option ResolveFault
first_clash os = clash_after [] os

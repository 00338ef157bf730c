use Rattle.std.proofs.Common.{◌++◌, ◌∷◌, [], sym, ap, ◌∙◌, map, string_bytes}
use Rattle.std.proofs.lemmas.List.{map-append}
use Rattle.formula_plan.specs.OwnNames.{has_name}
use Rattle.formula_plan.proofs.SameNames.{added_then}
use Rattle.formula_plan.proofs.free_names.FreeNames.add_all.Goals as goal

pub loop-text-preserved : goal.loop-text-preserved
loop-text-preserved c n =
    added_then c.args.self.now c.loop-text.self c.insert.new.self (map string_bytes c.loop-text.yielded) (string_bytes c.in-Some.text ∷ []) c.loop-text.invariant c.in_ok-insert.ensures n
    ∙ ap (λ l. has_name (c.args.self.now ++ l) n) (sym (map-append string_bytes c.loop-text.yielded (c.in-Some.text ∷ [])))

use Rattle.std.proofs.Common.{◌≡◌, rules, List, ℕ, Result, Err, sym, subst}
use Rattle.command_line.specs.declared.options.Options.{Options}
use Rattle.command_line.specs.declared.words.WordsFault.{WordsFault}
use Rattle.command_line.specs.declared.words.WordsFault.TheVariants as faults
use Rattle.command_line.specs.Words.{GivesNone}
use Rattle.command_line.specs.WordReading.{ReadsOptions}
use Rattle.command_line.proofs.OneOptions.{no_limit, no_seed}
use Rattle.command_line.proofs.options.options_of.Goals as goal

refused : (words : List (List ℕ)) (answer : Result Options WordsFault) → answer ≡ Err faults.Refused → GivesNone words → ReadsOptions words answer
refused words answer is none = let P : Result Options WordsFault → Type 0 = λ r. ReadsOptions words r in subst P (sym is) none

pub returns-in_err-limit-in-Some : goal.returns-in_err-limit-in-Some
returns-in_err-limit-in-Some c = refused _ c.from_residual-in_err-limit-in-Some.result (let e = c.from_residual-in_err-limit-in-Some.ensures in search rules)
    (no_limit _ _ _ _ c.in-Some.text c.limit_in.result c.in_ok-named.ensures c.in-Some.is c.limit_in.ensures (sym c.in_err-limit-in-Some.ensures.variant))

pub returns-in_err-ok_or-in-Some-seed : goal.returns-in_err-ok_or-in-Some-seed
returns-in_err-ok_or-in-Some-seed c = refused _ c.from_residual-in_err-ok_or-in-Some-seed.result (let e = c.from_residual-in_err-ok_or-in-Some-seed.ensures in search rules)
    (no_seed _ _ _ _ c.in-Some-seed.text c.number_in.result c.in_ok-named.ensures c.in-Some-seed.is c.number_in.ensures (sym c.in_err-ok_or-in-Some-seed.ensures.variant))

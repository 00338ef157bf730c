use Rattle.std.proofs.Common.{◌≡◌, ℤ, cond, Some, refl, rules}
use Rattle.std.specs.Ordering.{int_eq}
use Rattle.std.proofs.lemmas.Int.{to_z-of_z}
use Rattle.indexmap.specs.IndexMap.{get}
use mir.Val.{SFits}
use mir.Syntax.{w32}
use Rattle.transducer_reading.specs.LastResults.{result_in}
use Rattle.transducer_reading.proofs.ResultLemmas.{add_star, add_letter}
use Rattle.transducer_reading.proofs.results.Results.add.Goals as goal

pub returns-in-None : goal.returns-in-None
returns-in-None c lines at is none =
    let fits : SFits w32 c.args.line.output = search rules in
    simp to_z-of_z (add_star c.args.line lines at c.args.self.now is none c.in-None.is)

pub returns-in_ok-insert-in-Some : goal.returns-in_ok-insert-in-Some
returns-in_ok-insert-in-Some c lines at is none =
    let line = c.args.line in
    let letter = c.in-Some.letter in
    let fits : SFits w32 line.output = search rules in
    let small : SFits w32 letter = search rules in
    let updates : (a : ℤ) → get int_eq c.insert.new.self a ≡ cond (int_eq letter a) (Some (result_in line)) (get int_eq c.args.self.now.by_letter a) = λ a. simp to_z-of_z at (c.in_ok-insert-in-Some.ensures.updates.0 a) in
    add_letter line lines at c.args.self.now is none letter (record { star = c.args.self.now.star; by_letter = c.insert.new.self }) c.in-Some.is refl updates

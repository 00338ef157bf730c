use Rattle.std.proofs.Common.{rules, ℤ, w32, refl, sym, ap, ◌∙◌, subst}
use Rattle.std.proofs.lemmas.Int.{to_z-of_z}
use mir.Val.{SFits}
use Rattle.formula_parse.specs.Views.{formula_view}
use Rattle.formula_resolve.specs.Headers.{Headers}
use Rattle.formula_build.specs.Resolved.{AreDirections}
use Rattle.formula_build.specs.ResolvedViews.{formula_of, library_of}
use Rattle.formula_build.specs.Solutions.{IsFormed, IsSolution, direction_named}
use Rattle.formula_build.specs.VariableTracks.{IsOverVariables}
use Rattle.formula_build.specs.declared.resolving.Resolved.{Resolved}
use Rattle.word_images.specs.ImageFormula.{image_formula}
use Rattle.word_commands.specs.LetterParts.{IsLetterRelation}
use Rattle.word_commands.proofs.NamedWords.{directions}
use Rattle.word_commands.proofs.LetterRelations.{built_here, fits_here, if_ok_both, known_here, not_refused, relation_here}
use Rattle.word_commands.proofs.LetterResolution.{formed}
use Rattle.word_commands.proofs.letter_parts.letter_relation.Goals as goal

pub resolve-requires-clause-formed : goal.resolve-requires-clause-formed
resolve-requires-clause-formed c =
    let fits : SFits w32 c.args.letter = search rules in
    let s = c.args.formulas.system.now in
    let k = c.args.formulas.length in
    let is = c.in_ok-formula.ensures ∙ ap (λ (b : ℤ). image_formula s k b) (to_z-of_z w32 c.args.letter fits) in
    subst IsFormed (sym is) (formed s k c.args.letter c.requires.few)

pub resolve-requires-clause-directions : goal.resolve-requires-clause-directions
resolve-requires-clause-directions c = subst (λ (h : Headers). AreDirections h direction_named) (sym c.requires.setting.headers) (directions c.args.formulas.system.now c.args.formulas.length)

pub build-requires-clause-fits : goal.build-requires-clause-fits
build-requires-clause-fits c =
    let fits : SFits w32 c.args.letter = search rules in
    let s = c.args.formulas.system.now in
    let k = c.args.formulas.length in
    let is = ap formula_view c.in-Ok.ensures.formula ∙ c.in_ok-formula.ensures ∙ ap (λ (b : ℤ). image_formula s k b) (to_z-of_z w32 c.args.letter fits) in
    fits_here c.args.formulas.setting.now s k c.args.letter c.requires c.in-Ok.resolved c.in-Ok.ensures.names is

pub build-requires-clause-known : goal.build-requires-clause-known
build-requires-clause-known c =
    let fits : SFits w32 c.args.letter = search rules in
    let s = c.args.formulas.system.now in
    let k = c.args.formulas.length in
    let is = ap formula_view c.in-Ok.ensures.formula ∙ c.in_ok-formula.ensures ∙ ap (λ (b : ℤ). image_formula s k b) (to_z-of_z w32 c.args.letter fits) in
    known_here c.args.formulas.setting.now s k c.args.letter c.requires c.in-Ok.resolved c.in-Ok.ensures.names is

pub returns-in-Ok-clause-steps : goal.returns-in-Ok-clause-steps
returns-in-Ok-clause-steps c =
    let fits : SFits w32 c.args.letter = search rules in
    let s = c.args.formulas.system.now in
    let k = c.args.formulas.length in
    let is = ap formula_view c.in-Ok.ensures.formula ∙ c.in_ok-formula.ensures ∙ ap (λ (b : ℤ). image_formula s k b) (to_z-of_z w32 c.args.letter fits) in
    built_here c.args.formulas.setting.now s k c.args.letter c.requires c.in-Ok.resolved c.in-Ok.ensures.names is c.args.steps.now c.build.new.steps c.build.result c.build.ensures.steps

pub returns-in-Ok-clause-relation : goal.returns-in-Ok-clause-relation
returns-in-Ok-clause-relation c =
    let fits : SFits w32 c.args.letter = search rules in
    let t = c.args.formulas.setting.now in
    let s = c.args.formulas.system.now in
    let k = c.args.formulas.length in
    let r = c.in-Ok.resolved in
    let is = ap formula_view c.in-Ok.ensures.formula ∙ c.in_ok-formula.ensures ∙ ap (λ (b : ℤ). image_formula s k b) (to_z-of_z w32 c.args.letter fits) in
    if_ok_both (IsOverVariables (library_of r t.words) r.variables.items) (IsSolution (library_of r t.words) (formula_of r)) (IsLetterRelation t s k c.args.letter) c.build.result c.build.ensures.tracks c.build.ensures.solution
    (λ a over solution. relation_here t s k c.args.letter c.requires r c.in-Ok.ensures.names is a c.in-Ok.ensures.planned over solution)

pub unreachable-requires : goal.unreachable-requires
unreachable-requires c =
    let fits : SFits w32 c.args.letter = search rules in
    let s = c.args.formulas.system.now in
    let k = c.args.formulas.length in
    let is = c.in_ok-formula.ensures ∙ ap (λ (b : ℤ). image_formula s k b) (to_z-of_z w32 c.args.letter fits) in
    not_refused c.args.formulas.setting.now s k c.args.letter c.requires Resolved c.args.formulas.setting.now.names.headers (formula_view c.in_ok-formula.formula) c.in-Err-Plain.field-0 _ refl is c.in-Err-Plain.field-0-is tt c.in-Err-Plain.ensures.reported

pub unreachable-requires-in-Err-Arity : goal.unreachable-requires-in-Err-Arity
unreachable-requires-in-Err-Arity c =
    let fits : SFits w32 c.args.letter = search rules in
    let s = c.args.formulas.system.now in
    let k = c.args.formulas.length in
    let is = c.in_ok-formula.ensures ∙ ap (λ (b : ℤ). image_formula s k b) (to_z-of_z w32 c.args.letter fits) in
    not_refused c.args.formulas.setting.now s k c.args.letter c.requires Resolved c.args.formulas.setting.now.names.headers (formula_view c.in_ok-formula.formula) c.in-Err-Arity.field-0 _ refl is c.in-Err-Arity.field-0-is tt c.in-Err-Arity.ensures.reported

pub unreachable-requires-in-Err-Clash : goal.unreachable-requires-in-Err-Clash
unreachable-requires-in-Err-Clash c =
    let fits : SFits w32 c.args.letter = search rules in
    let s = c.args.formulas.system.now in
    let k = c.args.formulas.length in
    let is = c.in_ok-formula.ensures ∙ ap (λ (b : ℤ). image_formula s k b) (to_z-of_z w32 c.args.letter fits) in
    not_refused c.args.formulas.setting.now s k c.args.letter c.requires Resolved c.args.formulas.setting.now.names.headers (formula_view c.in_ok-formula.formula) c.in-Err-Clash.field-0 _ refl is c.in-Err-Clash.field-0-is tt c.in-Err-Clash.ensures.reported

pub unreachable-requires-in-Err-Direction : goal.unreachable-requires-in-Err-Direction
unreachable-requires-in-Err-Direction c =
    let fits : SFits w32 c.args.letter = search rules in
    let s = c.args.formulas.system.now in
    let k = c.args.formulas.length in
    let is = c.in_ok-formula.ensures ∙ ap (λ (b : ℤ). image_formula s k b) (to_z-of_z w32 c.args.letter fits) in
    not_refused c.args.formulas.setting.now s k c.args.letter c.requires Resolved c.args.formulas.setting.now.names.headers (formula_view c.in_ok-formula.formula) c.in-Err-Direction.field-0 _ refl is c.in-Err-Direction.field-0-is tt c.in-Err-Direction.ensures.reported

use Rattle.std.proofs.Common.{map, sym, subst}
use Rattle.std.specs.Rc.{rc_value}
use Rattle.std.proofs.lemmas.Result.{err_from_is_err_and}
use Rattle.digit_tuple.specs.Sets.{sizes_of}
use Rattle.product_op.specs.Validity.{AreLanguages}
use Rattle.command_parts.specs.TrackSystems.{named_in}
use Rattle.language_commands.proofs.RegexWrites.{made_over_systems, refused_over_systems, languages_fit}
use Rattle.language_commands.proofs.TrackSystemSteps.{some_named}
use Rattle.language_commands.proofs.reg.regex_over_systems.Goals as goal

pub relation_steps-requires : goal.relation_steps-requires
relation_steps-requires c =
    record {
      languages =
          subst (λ ls. AreLanguages (sizes_of c.in_ok-regex.regex.sets) (map rc_value ls)) (sym c.deref.ensures.value)
          (languages_fit c.args.systems.now.direction (named_in c.args.systems.now.systems.items) (map rc_value c.in_ok-languages.languages.items) c.args.body.now c.in_ok-regex.regex c.in_ok-languages.ensures (rw c.in_ok-tracks.ensures at c.in_ok-regex.ensures));
    }

pub returns-in_err-relation : goal.returns-in_err-relation
returns-in_err-relation c =
    let p = err_from_is_err_and c.from_residual-in_err-relation.result c.from_residual-in_err-relation.ensures.1 in
    λ custom name are. rw (p.1, p.2) (refused_over_systems custom c.args.steps.now name c.args.systems.now.direction (named_in c.args.systems.now.systems.items) (map rc_value c.in_ok-languages.languages.items) c.args.body.now c.in_ok-regex.regex c.in_err-relation.field-0.0 c.relation_steps.new.steps
    c.in_ok-languages.ensures (rw c.in_ok-tracks.ensures at c.in_ok-regex.ensures) (rw c.deref.ensures.value at c.in_err-relation.ensures))

pub returns : goal.returns
returns c =
    λ custom name are. made_over_systems custom c.args.steps.now name c.args.systems.now.direction (named_in c.args.systems.now.systems.items) (map rc_value c.in_ok-languages.languages.items) c.args.body.now c.args.shown c.in_ok-regex.regex c.in_ok-relation.relation
    c.relation_steps.new.steps (some_named c.args.systems.now.systems.items c.requires.some) are c.in_ok-languages.ensures (rw c.in_ok-tracks.ensures at c.in_ok-regex.ensures) (rw c.deref.ensures.value at c.in_ok-relation.ensures) c.made_of.result
    (rw (c.in_ok-tracks.ensures, c.dfa.ensures.value) at c.made_of.ensures)

use Rattle.std.proofs.Common.{◌∙◌, map, get_or, ap, sym, subst}
use Rattle.std.specs.Rc.{rc_value}
use Rattle.std.proofs.lemmas.List.{get_or-map}
use Rattle.digit_tuple.specs.Deterministic.{Automaton}
use Rattle.product_op.specs.Validity.{no_language}
use Rattle.product_op.proofs.LanguageLemmas.{IsLanguage, AreLanguagesTo-more}
use Rattle.product_op.proofs.languages.are_languages.Goals as goal

pub loop-track-preserved : goal.loop-track-preserved
loop-track-preserved c =
    let sizes = c.args.sizes.now in
    let languages = map rc_value c.args.valid.now in
    let track = c.loop-track.track in
    let at = c.as_ref.ensures ∙ sym (get_or-map rc_value c.args.valid.now track c.index-valid-track.result no_language c.loop-track-test.true ∙ ap rc_value (sym c.index-valid-track.is)) in
    AreLanguagesTo-more sizes languages track c.loop-track.invariant
    (subst (λ (d : Automaton). IsLanguage (get_or sizes track 0) d) at (c.in_ok-is_language.ensures.0 c.if-not-branch.false))

use Rattle.std.proofs.Common.{◌+◌, List, ℕ, length, map, ap, sym, ◌∙◌, subst}
use Rattle.std.specs.Rc.{rc_value}
use Rattle.std.proofs.lemmas.Result.{IfOk-weaker}
use Rattle.digit_tuple.specs.Deterministic.{Automaton, accepts_of}
use Rattle.digit_tuple.specs.Names.{AreDistinct}
use Rattle.product_op.specs.Readings.{readings_in, AreCanonical}
use Rattle.product_op.specs.TrackReadings.{AllFitTracks, validity_readings}
use Rattle.validity.proofs.ValidityLemmas.{AreSideBySide-valid, AreCanonical-validity, validity-language, validity-width, validity-apart}
use Rattle.validity.proofs.valid_words.among_valid.Goals as goal

pub validity_readers-requires-clause-languages : goal.validity_readers-requires-clause-languages
validity_readers-requires-clause-languages c =
    let languages = map rc_value c.args.languages.now in
    subst (λ (d : Automaton). AllFitTracks d.sizes languages) (sym c.dfa-dfa.ensures.value) c.requires.fit

pub tracked_side_by_side-requires-clause-readers : goal.tracked_side_by_side-requires-clause-readers
tracked_side_by_side-requires-clause-readers c =
    let a = c.args.a.now in
    let languages = map rc_value c.args.languages.now in
    let are = ap readings_in c.deref.ensures.value ∙ c.in_ok-readers.ensures ∙ ap (λ (x : Automaton). validity_readings x languages) c.dfa-dfa.ensures.value in
    let sizes = c.in_ok-alphabet.ensures ∙ c.alphabet.ensures.sizes ∙ ap (λ (x : Automaton). x.sizes) c.dfa-dfa.ensures.value in
    AreSideBySide-valid a languages c.args.rule (readings_in c.deref.result.now) c.in_ok-alphabet.alphabet are sizes c.names.ensures.tracked.canonical c.requires.fit c.requires.enough

pub tracked_side_by_side-requires-clause-canonical : goal.tracked_side_by_side-requires-clause-canonical
tracked_side_by_side-requires-clause-canonical c =
    let a = c.args.a.now in
    let languages = map rc_value c.args.languages.now in
    let are = ap readings_in c.deref.ensures.value ∙ c.in_ok-readers.ensures ∙ ap (λ (x : Automaton). validity_readings x languages) c.dfa-dfa.ensures.value in
    subst AreCanonical (sym are) (AreCanonical-validity a.automaton c.names.ensures.tracked.canonical languages c.requires.fit)

pub tracked_side_by_side-requires-clause-count : goal.tracked_side_by_side-requires-clause-count
tracked_side_by_side-requires-clause-count c =
    let sizes = c.in_ok-alphabet.ensures ∙ c.alphabet.ensures.sizes ∙ ap (λ (x : Automaton). x.sizes) c.dfa-dfa.ensures.value in
    ap (λ (ns : List (List ℕ)). length ns) (c.in_ok-names.ensures ∙ c.names.ensures.value) ∙ c.names.ensures.tracked.count ∙ ap (λ (ss : List ℕ). length ss) (sym sizes)

pub tracked_side_by_side-requires-clause-distinct : goal.tracked_side_by_side-requires-clause-distinct
tracked_side_by_side-requires-clause-distinct c = subst AreDistinct (sym (c.in_ok-names.ensures ∙ c.names.ensures.value)) c.names.ensures.tracked.distinct

pub returns-clause-language : goal.returns-clause-language
returns-clause-language c =
    let languages = map rc_value c.args.languages.now in
    let are = ap readings_in c.deref.ensures.value ∙ c.in_ok-readers.ensures ∙ ap (λ (x : Automaton). validity_readings x languages) c.dfa-dfa.ensures.value in
    let sizes = c.in_ok-alphabet.ensures ∙ c.alphabet.ensures.sizes ∙ ap (λ (x : Automaton). x.sizes) c.dfa-dfa.ensures.value in
    IfOk-weaker c.tracked_side_by_side.result _ _
    (λ stepped. validity-language c.args.a.now languages c.args.rule (readings_in c.deref.result.now) c.in_ok-alphabet.alphabet are sizes (accepts_of stepped.result.automaton))
    c.tracked_side_by_side.ensures.language

pub returns-clause-width : goal.returns-clause-width
returns-clause-width c =
    let languages = map rc_value c.args.languages.now in
    let are = ap readings_in c.deref.ensures.value ∙ c.in_ok-readers.ensures ∙ ap (λ (x : Automaton). validity_readings x languages) c.dfa-dfa.ensures.value in
    let sizes = c.in_ok-alphabet.ensures ∙ c.alphabet.ensures.sizes ∙ ap (λ (x : Automaton). x.sizes) c.dfa-dfa.ensures.value in
    IfOk-weaker c.tracked_side_by_side.result _ _
    (λ stepped. validity-width c.args.a.now languages c.args.rule (readings_in c.deref.result.now) c.in_ok-alphabet.alphabet are sizes stepped.width)
    c.tracked_side_by_side.ensures.width

pub returns-clause-states : goal.returns-clause-states
returns-clause-states c refused =
    let languages = map rc_value c.args.languages.now in
    let are = ap readings_in c.deref.ensures.value ∙ c.in_ok-readers.ensures ∙ ap (λ (x : Automaton). validity_readings x languages) c.dfa-dfa.ensures.value in
    let sizes = c.in_ok-alphabet.ensures ∙ c.alphabet.ensures.sizes ∙ ap (λ (x : Automaton). x.sizes) c.dfa-dfa.ensures.value in
    validity-apart c.args.a.now languages c.args.rule (readings_in c.deref.result.now) c.in_ok-alphabet.alphabet are sizes (c.args.limit.most + 1) (c.tracked_side_by_side.ensures.states refused)

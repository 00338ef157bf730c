use Rattle.std.proofs.Common.{◌∙◌, ap}
use Rattle.std.proofs.lemmas.Result.{IfOk-weaker}
use Rattle.pad_rename.specs.Restriction.{names_for}
use Rattle.digit_tuple.specs.Names.{names_without}
use Rattle.pad_rename.proofs.RestrictionLemmas.{IsRead, IsSubstitution-read, sizes-read, language-read}
use Rattle.pad_rename.proofs.EqualTracks.{HasEqualTracks-with, accepts-equal}
use Rattle.pad_rename.proofs.restriction.restrict.Goals as goal
use Rattle.pad_rename.proofs.restriction.restrict.Goals.{After-deref-2}

-- what is read under which names
read : (c : After-deref-2) → IsRead c.args.a.now c.args.kept.now c.args.dropped.now c.dfa.result.now c.deref.result.now c.deref-2.result.now
read c = record {
  two = record { tracked = c.names-names.ensures.tracked; is_kept = c.requires.first; is_dropped = c.requires.second; distinct = c.requires.distinct; sizes = c.requires.sizes };
  automaton_is = c.dfa.ensures.value;
  under_is = c.deref.ensures.value ∙ c.in_ok-under.ensures ∙ ap (λ ns. names_for ns c.args.kept.now c.args.dropped.now) c.names-names.ensures.value;
  rest_is = c.deref-2.ensures.value ∙ c.in_ok-rest.ensures ∙ ap (λ ns. names_without ns c.args.dropped.now) c.names-names.ensures.value;
}

pub substitute-requires : goal.substitute-requires
substitute-requires c =
    IsSubstitution-read c.args.a.now c.args.kept.now c.args.dropped.now c.dfa.result.now c.deref.result.now c.deref-2.result.now (read (goal.at.substitute-requires c).After-deref-2)

pub returns-clause-sizes : goal.returns-clause-sizes
returns-clause-sizes c =
    IfOk-weaker c.substitute.result _ _
    (λ t sizes. sizes ∙ sizes-read c.args.a.now c.args.kept.now c.args.dropped.now c.dfa.result.now c.deref.result.now c.deref-2.result.now (read (goal.at.returns-clause-sizes c).After-deref-2))
    c.substitute.ensures.sizes

pub returns-clause-language : goal.returns-clause-language
returns-clause-language c =
    IfOk-weaker c.substitute.result _ _
    (λ t reads. language-read c.args.a.now c.args.kept.now c.args.dropped.now c.dfa.result.now c.deref.result.now c.deref-2.result.now (read (goal.at.returns-clause-language c).After-deref-2) t.automaton reads)
    c.substitute.ensures.language

pub returns-clause-equal_tracks : goal.returns-clause-equal_tracks
returns-clause-equal_tracks c =
    let is = read (goal.at.returns-clause-equal_tracks c).After-deref-2 in
    IfOk-weaker c.substitute.result _ _
    (λ t reads. accepts-equal c.args.a.now c.args.kept.now c.args.dropped.now is.two t.automaton
    (language-read c.args.a.now c.args.kept.now c.args.dropped.now c.dfa.result.now c.deref.result.now c.deref-2.result.now is t.automaton reads))
    c.substitute.ensures.language

pub returns-clause-each_word : goal.returns-clause-each_word
returns-clause-each_word c =
    IfOk-weaker c.substitute.result _ _
    (λ t reads. HasEqualTracks-with c.args.a.now c.args.kept.now c.args.dropped.now (read (goal.at.returns-clause-each_word c).After-deref-2).two)
    c.substitute.ensures.language

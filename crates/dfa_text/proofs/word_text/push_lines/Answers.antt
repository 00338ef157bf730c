use Rattle.std.proofs.Common.{◌≡◌, ◌<◌, ◌++◌, ◌∙◌, List, length, OnOk, IfSome, sym, ap, subst, arith}
use Rattle.std.specs.List.{All, flat_map}
use Rattle.std.proofs.lemmas.List.FromFn.{length-map-range_with_len}
use Rattle.digit_tuple.specs.Deterministic.{IsRow, transitions_of, letters_of, states_of}
use Rattle.digit_tuple.specs.Headers.{sets_of}
use Rattle.digit_tuple.specs.Letters.{product}
use Rattle.digit_tuple.specs.Sets.{sizes_of}
use Rattle.digit_tuple.specs.declared.transitions.Transition.{Transition}
use Rattle.dfa_text.specs.LinePrefixes.{letter_prefix, prefixes_of, prefixed_text}
use Rattle.dfa_text.specs.RelationText.{transition_text}
use Rattle.dfa_text.proofs.LinePrefixLemmas.{prefixed_lines}
use Rattle.dfa_text.proofs.RelationSteps.{steps_text}
use Rattle.dfa_text.proofs.word_text.push_lines.Goals as goal

pub push_prefixed-requires : goal.push_prefixed-requires
push_prefixed-requires c =
    let sets = sets_of c.args.header.now in
    let known : c.in-Some.prefixes ≡ prefixes_of sets = subst (λ o. IfSome o (λ prefixes. prefixes ≡ prefixes_of sets)) c.in-Some.is c.requires.prefixes in
    let count : length c.in-Some.prefixes ≡ letters_of c.args.d.now = ap length known ∙ length-map-range_with_len (letter_prefix sets) 0 (product (sizes_of sets)) ∙ sym (ap product c.requires.sizes) in
    subst (λ (es : List Transition). All (λ e. e.letter < length c.in-Some.prefixes) es) (sym c.deref.ensures.value)
    (λ k e lt. omega (arith, count, (c.in_ok-transitions_into.ensures.row.in_range k e lt).0))

pub returns-in-Some-clause-text : goal.returns-in-Some-clause-text
returns-in-Some-clause-text c =
    let sets = sets_of c.args.header.now in
    let d = c.args.d.now in
    let known : c.in-Some.prefixes ≡ prefixes_of sets = subst (λ o. IfSome o (λ prefixes. prefixes ≡ prefixes_of sets)) c.in-Some.is c.requires.prefixes in
    let row = subst (λ (es : List Transition). IsRow (letters_of d) (states_of d) es) c.in_ok-transitions_into.ensures.transitions c.in_ok-transitions_into.ensures.row in
    let below : All (λ e. e.letter < product (sizes_of sets)) (transitions_of d c.args.state) = λ k e lt. omega (arith, ap product c.requires.sizes, (row.in_range k e lt).0) in
    let same = ap (λ es. flat_map (prefixed_text c.in-Some.prefixes) es) (c.deref.ensures.value ∙ c.in_ok-transitions_into.ensures.transitions)
    ∙ ap (λ prefixes. flat_map (prefixed_text prefixes) (transitions_of d c.args.state)) known
    ∙ prefixed_lines sets (transitions_of d c.args.state) below ∙ steps_text sets d c.args.state (states_of d) row in
    subst (λ t. OnOk c.push_prefixed.result (c.push_prefixed.new.out.items ≡ c.args.out.now.items ++ t)) same c.push_prefixed.ensures

pub returns-in-None-clause-text : goal.returns-in-None-clause-text
returns-in-None-clause-text c =
    let sets = sets_of c.args.header.now in
    let d = c.args.d.now in
    let row = subst (λ (es : List Transition). IsRow (letters_of d) (states_of d) es) c.in_ok-transitions_into.ensures.transitions c.in_ok-transitions_into.ensures.row in
    let same = ap (λ es. flat_map (transition_text sets) es) (c.deref-in-None.ensures.value ∙ c.in_ok-transitions_into.ensures.transitions) ∙ steps_text sets d c.args.state (states_of d) row in
    subst (λ t. OnOk c.push_transitions.result (c.push_transitions.new.out.items ≡ c.args.out.now.items ++ t)) same c.push_transitions.ensures

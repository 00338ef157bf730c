use Rattle.std.proofs.Common.{◌≡◌, ◌+◌, ◌≤◌, ℕ, List, sym, ap, ◌∙◌, subst, arith}
use Rattle.std.specs.List.{All, Contains}
use Rattle.std.specs.Result.{IsErrOf}
use Rattle.digit_tuple.specs.Deterministic.{states_of}
use Rattle.digit_tuple.specs.Letters.{IsAlphabet, IsTooLarge}
use Rattle.digit_tuple.specs.Names.{places_of}
use Rattle.digit_tuple.specs.Parts.{picked}
use Rattle.digit_tuple.specs.StepResults.{ExceedsWidth}
use Rattle.digit_tuple.specs.declared.faults.OpFault.TheVariants as faults
use Rattle.minimise.specs.Tracked.{NamedAutomaton}
use Rattle.product_op.proofs.SizeLemmas.{AreDistinct-ordered}
use Rattle.num_system.proofs.LineLemmas.{handed_on}
use Rattle.word_output.specs.WordPairs.{IsPair, PlacedLetters, pair_names, pair_sizes, pair_step}
use Rattle.word_output.proofs.OptionLemmas.{same_fault}
use Rattle.word_output.proofs.PairSizes.{fit_first, fit_second, joint_sizes_are, pair_apart, pair_is, pair_small, pair_width, reads_over}
use Rattle.word_output.proofs.pair.paired.Goals as goal

pub returns-in_err-tracks-clause-letters : goal.returns-in_err-tracks-clause-letters
returns-in_err-tracks-clause-letters c =
    let a : PlacedLetters = record { function = c.args.first.function.now; under = c.args.first.under.now } in
    let b : PlacedLetters = record { function = c.args.second.function.now; under = c.args.second.under.now } in
    let sizes : c.deref-2.result.now ≡ pair_sizes a b = c.deref-2.ensures.value ∙ joint_sizes_are a b c.deref.result.now c.in_ok-sizes.sizes.items (c.deref.ensures.value ∙ c.in_ok-names.ensures.names) c.in_ok-sizes.ensures in
    handed_on (λ r. IsErrOf r faults.Letters → IsTooLarge (pair_sizes a b)) c.from_residual-in_err-tracks.result c.in_err-tracks.field-0.0 c.from_residual-in_err-tracks.ensures.1
    (λ refused. subst (λ (ss : List ℕ). IsTooLarge ss) sizes (c.in_err-tracks.ensures.letters.0 (same_fault c.in_err-tracks.field-0.0 faults.Letters refused)))

pub letters_on-requires-clause-there : goal.letters_on-requires-clause-there
letters_on-requires-clause-there c = subst (λ (ns : List (List ℕ)). All (Contains ns) c.args.first.under.now) (sym c.deref-3.ensures.value) c.in_ok-names.ensures.joint.all_first

pub letters_on-requires-clause-sizes : goal.letters_on-requires-clause-sizes
letters_on-requires-clause-sizes c =
    let a : PlacedLetters = record { function = c.args.first.function.now; under = c.args.first.under.now } in
    let b : PlacedLetters = record { function = c.args.second.function.now; under = c.args.second.under.now } in
    let sizes : c.deref-2.result.now ≡ pair_sizes a b = c.deref-2.ensures.value ∙ joint_sizes_are a b c.deref.result.now c.in_ok-sizes.sizes.items (c.deref.ensures.value ∙ c.in_ok-names.ensures.names) c.in_ok-sizes.ensures in
    let tracks : c.in_ok-tracks.tracks ≡ pair_sizes a b = c.in_ok-tracks.ensures.value ∙ sizes in
    ap (λ (ns : List (List ℕ)). picked (places_of ns a.under) c.in_ok-tracks.tracks) (c.deref-3.ensures.value ∙ c.in_ok-names.ensures.names)
    ∙ ap (λ (ss : List ℕ). picked (places_of (pair_names a b) a.under) ss) tracks ∙ fit_first a b c.requires

pub letters_on-requires-2-clause-there : goal.letters_on-requires-2-clause-there
letters_on-requires-2-clause-there c = subst (λ (ns : List (List ℕ)). All (Contains ns) c.args.second.under.now) (sym c.deref-4.ensures.value) c.in_ok-names.ensures.joint.all_second

pub letters_on-requires-2-clause-sizes : goal.letters_on-requires-2-clause-sizes
letters_on-requires-2-clause-sizes c =
    let a : PlacedLetters = record { function = c.args.first.function.now; under = c.args.first.under.now } in
    let b : PlacedLetters = record { function = c.args.second.function.now; under = c.args.second.under.now } in
    let sizes : c.deref-2.result.now ≡ pair_sizes a b = c.deref-2.ensures.value ∙ joint_sizes_are a b c.deref.result.now c.in_ok-sizes.sizes.items (c.deref.ensures.value ∙ c.in_ok-names.ensures.names) c.in_ok-sizes.ensures in
    let tracks : c.in_ok-tracks.tracks ≡ pair_sizes a b = c.in_ok-tracks.ensures.value ∙ sizes in
    ap (λ (ns : List (List ℕ)). picked (places_of ns b.under) c.in_ok-tracks.tracks) (c.deref-4.ensures.value ∙ c.in_ok-names.ensures.names)
    ∙ ap (λ (ss : List ℕ). picked (places_of (pair_names a b) b.under) ss) tracks ∙ fit_second a b c.requires

pub returns-in_err-result-clause-states : goal.returns-in_err-result-clause-states
returns-in_err-result-clause-states c =
    let a : PlacedLetters = record { function = c.args.first.function.now; under = c.args.first.under.now } in
    let b : PlacedLetters = record { function = c.args.second.function.now; under = c.args.second.under.now } in
    let sizes : c.deref-2.result.now ≡ pair_sizes a b = c.deref-2.ensures.value ∙ joint_sizes_are a b c.deref.result.now c.in_ok-sizes.sizes.items (c.deref.ensures.value ∙ c.in_ok-names.ensures.names) c.in_ok-sizes.ensures in
    let tracks : c.in_ok-tracks.tracks ≡ pair_sizes a b = c.in_ok-tracks.ensures.value ∙ sizes in
    let f = c.in_ok-one.one in
    let g = c.in_ok-other.other in
    let f_sizes : f.automaton.sizes ≡ pair_sizes a b = c.in_ok-one.ensures.sizes ∙ tracks in
    let g_sizes : g.automaton.sizes ≡ pair_sizes a b = c.in_ok-other.ensures.sizes ∙ tracks in
    let reads_f = reads_over a b a f c.deref-3.result.now c.in_ok-tracks.tracks (c.deref-3.ensures.value ∙ c.in_ok-names.ensures.names) tracks c.in_ok-one.ensures.letters in
    let reads_g = reads_over a b b g c.deref-4.result.now c.in_ok-tracks.tracks (c.deref-4.ensures.value ∙ c.in_ok-names.ensures.names) tracks c.in_ok-other.ensures.letters in
    handed_on (λ r. IsErrOf r faults.States → ExceedsWidth c.args.limit.most (pair_step c.args.comparison a b).step) c.from_residual-in_err-result.result c.in_err-result.field-0.0 c.from_residual-in_err-result.ensures.1
    (λ refused. record {
      alphabet = subst (λ (ss : List ℕ). IsAlphabet ss) sizes c.in_ok-tracks.ensures.fits;
      apart = pair_apart a b f g f_sizes g_sizes reads_f reads_g (c.args.limit.most + 1) (c.in_err-result.ensures.states (same_fault c.in_err-result.field-0.0 faults.States refused));
    })

pub of_canonical-requires-clause-distinct : goal.of_canonical-requires-clause-distinct
of_canonical-requires-clause-distinct c = AreDistinct-ordered c.in_ok-names.names.items c.in_ok-names.ensures.joint.ordered

pub returns-clause-pair : goal.returns-clause-pair
returns-clause-pair c =
    let a : PlacedLetters = record { function = c.args.first.function.now; under = c.args.first.under.now } in
    let b : PlacedLetters = record { function = c.args.second.function.now; under = c.args.second.under.now } in
    let sizes : c.deref-2.result.now ≡ pair_sizes a b = c.deref-2.ensures.value ∙ joint_sizes_are a b c.deref.result.now c.in_ok-sizes.sizes.items (c.deref.ensures.value ∙ c.in_ok-names.ensures.names) c.in_ok-sizes.ensures in
    let tracks : c.in_ok-tracks.tracks ≡ pair_sizes a b = c.in_ok-tracks.ensures.value ∙ sizes in
    let f = c.in_ok-one.one in
    let g = c.in_ok-other.other in
    let f_sizes : f.automaton.sizes ≡ pair_sizes a b = c.in_ok-one.ensures.sizes ∙ tracks in
    let g_sizes : g.automaton.sizes ≡ pair_sizes a b = c.in_ok-other.ensures.sizes ∙ tracks in
    let reads_f = reads_over a b a f c.deref-3.result.now c.in_ok-tracks.tracks (c.deref-3.ensures.value ∙ c.in_ok-names.ensures.names) tracks c.in_ok-one.ensures.letters in
    let reads_g = reads_over a b b g c.deref-4.result.now c.in_ok-tracks.tracks (c.deref-4.ensures.value ∙ c.in_ok-names.ensures.names) tracks c.in_ok-other.ensures.letters in
    let e = c.in_ok-result.field-0.result in
    let named : c.of_canonical.result ≡ record { names = pair_names a b; automaton = e } = c.of_canonical.ensures ∙ ap (λ (ns : List (List ℕ)). record { names = ns; automaton = e }) c.in_ok-names.ensures.names in
    subst (λ (t : NamedAutomaton). IsPair c.args.comparison a b t) (sym named)
    (pair_is a b f g f_sizes g_sizes reads_f reads_g c.args.comparison e c.in_ok-result.ensures.sizes c.in_ok-result.ensures.canonical c.in_ok-result.ensures.language)

pub returns-clause-alphabet : goal.returns-clause-alphabet
returns-clause-alphabet c =
    let a : PlacedLetters = record { function = c.args.first.function.now; under = c.args.first.under.now } in
    let b : PlacedLetters = record { function = c.args.second.function.now; under = c.args.second.under.now } in
    let sizes : c.deref-2.result.now ≡ pair_sizes a b = c.deref-2.ensures.value ∙ joint_sizes_are a b c.deref.result.now c.in_ok-sizes.sizes.items (c.deref.ensures.value ∙ c.in_ok-names.ensures.names) c.in_ok-sizes.ensures in
    subst (λ (ss : List ℕ). IsAlphabet ss) sizes c.in_ok-tracks.ensures.fits

pub returns-clause-width : goal.returns-clause-width
returns-clause-width c =
    let a : PlacedLetters = record { function = c.args.first.function.now; under = c.args.first.under.now } in
    let b : PlacedLetters = record { function = c.args.second.function.now; under = c.args.second.under.now } in
    let sizes : c.deref-2.result.now ≡ pair_sizes a b = c.deref-2.ensures.value ∙ joint_sizes_are a b c.deref.result.now c.in_ok-sizes.sizes.items (c.deref.ensures.value ∙ c.in_ok-names.ensures.names) c.in_ok-sizes.ensures in
    let tracks : c.in_ok-tracks.tracks ≡ pair_sizes a b = c.in_ok-tracks.ensures.value ∙ sizes in
    let f = c.in_ok-one.one in
    let g = c.in_ok-other.other in
    let f_sizes : f.automaton.sizes ≡ pair_sizes a b = c.in_ok-one.ensures.sizes ∙ tracks in
    let g_sizes : g.automaton.sizes ≡ pair_sizes a b = c.in_ok-other.ensures.sizes ∙ tracks in
    let reads_f = reads_over a b a f c.deref-3.result.now c.in_ok-tracks.tracks (c.deref-3.ensures.value ∙ c.in_ok-names.ensures.names) tracks c.in_ok-one.ensures.letters in
    let reads_g = reads_over a b b g c.deref-4.result.now c.in_ok-tracks.tracks (c.deref-4.ensures.value ∙ c.in_ok-names.ensures.names) tracks c.in_ok-other.ensures.letters in
    pair_width a b f g f_sizes g_sizes reads_f reads_g c.in_ok-result.field-0.width c.in_ok-result.ensures.width

pub returns-clause-size : goal.returns-clause-size
returns-clause-size c =
    let a : PlacedLetters = record { function = c.args.first.function.now; under = c.args.first.under.now } in
    let b : PlacedLetters = record { function = c.args.second.function.now; under = c.args.second.under.now } in
    let sizes : c.deref-2.result.now ≡ pair_sizes a b = c.deref-2.ensures.value ∙ joint_sizes_are a b c.deref.result.now c.in_ok-sizes.sizes.items (c.deref.ensures.value ∙ c.in_ok-names.ensures.names) c.in_ok-sizes.ensures in
    let tracks : c.in_ok-tracks.tracks ≡ pair_sizes a b = c.in_ok-tracks.ensures.value ∙ sizes in
    let f = c.in_ok-one.one in
    let g = c.in_ok-other.other in
    let f_sizes : f.automaton.sizes ≡ pair_sizes a b = c.in_ok-one.ensures.sizes ∙ tracks in
    let g_sizes : g.automaton.sizes ≡ pair_sizes a b = c.in_ok-other.ensures.sizes ∙ tracks in
    let reads_f = reads_over a b a f c.deref-3.result.now c.in_ok-tracks.tracks (c.deref-3.ensures.value ∙ c.in_ok-names.ensures.names) tracks c.in_ok-one.ensures.letters in
    let reads_g = reads_over a b b g c.deref-4.result.now c.in_ok-tracks.tracks (c.deref-4.ensures.value ∙ c.in_ok-names.ensures.names) tracks c.in_ok-other.ensures.letters in
    let e = c.in_ok-result.field-0.result in
    let width = c.in_ok-result.field-0.width in
    let same : states_of c.of_canonical.result.automaton ≡ states_of e = ap (λ (t : NamedAutomaton). states_of t.automaton) c.of_canonical.ensures in
    let small : states_of e ≤ width =
    pair_small a b f g f_sizes g_sizes reads_f reads_g c.args.comparison e c.in_ok-result.ensures.sizes c.in_ok-result.ensures.canonical c.in_ok-result.ensures.language width
    (pair_width a b f g f_sizes g_sizes reads_f reads_g width c.in_ok-result.ensures.width) in
    omega (arith, same, small)

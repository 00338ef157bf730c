use Rattle.std.proofs.Common.{◌≡◌, inl, inr, rules, ℕ, List, Ok, Err, map, sym, ◌∙◌, subst}
use Rattle.std.specs.Rc.{rc_value}
use Rattle.digit_tuple.specs.Deterministic.{Automaton}
use Rattle.digit_tuple.specs.declared.direction.Direction.{Direction}
use Rattle.dfa_reading.specs.Branching.{sizes_in}
use Rattle.product_op.specs.Validity.{AreLanguages}
use Rattle.numeration.specs.Representation.{sizes_of}
use Rattle.num_system.specs.Tracks.{languages_of, systems_of, direction_of}
use Rattle.num_system.proofs.SealedLemmas.{languages_fit}
use Rattle.automaton_steps.specs.Makings.{DoesStep}
use Rattle.word_output.specs.LetterPaddings.{letter_pad_step}
use Rattle.word_output.specs.LetterReadings.{letter_read_step}
use Rattle.word_output.specs.ValidLetters.{valid_letters_step}
use Rattle.word_output.proofs.WordHeaders.{word_sizes}
use Rattle.word_output.proofs.word_reading.letter_steps.Goals as goal

pub valid_letters-requires : goal.valid_letters-requires
valid_letters-requires c =
    let systems = map rc_value c.args.systems.now in
    let listed = c.args.listed.now in
    let digits = c.deref.result.now in
    let same : sizes_in listed.header digits ≡ sizes_of (systems_of systems) = word_sizes listed c.requires.word digits ∙ c.deref.ensures.value ∙ c.in_ok-digits.ensures in
    let sizes = c.in_ok-padded.ensures.step.made_is.sizes ∙ c.in_ok-read.ensures.step.made_is.sizes_are ∙ same in
    subst (λ (s : List ℕ). AreLanguages s (map rc_value c.args.languages.now)) (sym sizes)
    (subst (λ (ls : List Automaton). AreLanguages (sizes_of (systems_of systems)) ls) (sym c.requires.languages) (languages_fit systems c.requires.sealed))

pub returns-in_err-padded : goal.returns-in_err-padded
returns-in_err-padded c =
    let systems = map rc_value c.args.systems.now in
    let listed = c.args.listed.now in
    let digits = c.deref.result.now in
    let read = c.in_ok-read.read in
    let fault = c.in_err-padded.field-0.0 in
    let mid = c.read_letters.new.steps in
    let same : sizes_in listed.header digits ≡ sizes_of (systems_of systems) = word_sizes listed c.requires.word digits ∙ c.deref.ensures.value ∙ c.in_ok-digits.ensures in
    let first = subst (λ (s : List ℕ). DoesStep (letter_read_step s listed) c.args.steps.now (Ok read) mid) same c.in_ok-read.ensures in
    let second = subst (λ (w : Direction). DoesStep (letter_pad_step w read) mid (Err fault) c.pad_letters.new.steps) c.direction_of.ensures c.in_err-padded.ensures in
    inl (read, mid, first, inr (fault, second, (let e = c.from_residual-in_err-padded.ensures in search rules)))

pub returns : goal.returns
returns c =
    let systems = map rc_value c.args.systems.now in
    let old = c.args.steps.now in
    let listed = c.args.listed.now in
    let digits = c.deref.result.now in
    let read = c.in_ok-read.read in
    let padded = c.in_ok-padded.padded in
    let mid = c.read_letters.new.steps in
    let late = c.pad_letters.new.steps in
    let new = c.valid_letters.new.steps in
    let same : sizes_in listed.header digits ≡ sizes_of (systems_of systems) = word_sizes listed c.requires.word digits ∙ c.deref.ensures.value ∙ c.in_ok-digits.ensures in
    let first : DoesStep (letter_read_step (sizes_of (systems_of systems)) listed) old (Ok read) mid =
    subst (λ (s : List ℕ). DoesStep (letter_read_step s listed) old (Ok read) mid) same c.in_ok-read.ensures in
    let second : DoesStep (letter_pad_step (direction_of systems) read) mid (Ok padded) late =
    subst (λ (w : Direction). DoesStep (letter_pad_step w read) mid (Ok padded) late) c.direction_of.ensures c.in_ok-padded.ensures in
    let third : DoesStep (valid_letters_step (languages_of systems) padded) late c.valid_letters.result new =
    subst (λ (ls : List Automaton). DoesStep (valid_letters_step ls padded) late c.valid_letters.result new) c.requires.languages c.valid_letters.ensures in
    inl (read, mid, first, inl (padded, late, second, third))

use Rattle.std.proofs.Common.{◌≡◌, List, ℕ, map, Ok, Err, inl, inr, refl, sym, ap, ◌∙◌, subst}
use Rattle.std.specs.Rc.{rc_value}
use Rattle.digit_tuple.specs.Deterministic.{Automaton}
use Rattle.digit_tuple.specs.declared.direction.Direction.{Direction}
use Rattle.minimise.specs.Tracked.{NamedAutomaton}
use Rattle.product_op.specs.Validity.{AreLanguages}
use Rattle.numeration.specs.Representation.{sizes_of}
use Rattle.automaton_steps.specs.Makings.{DoesStep}
use Rattle.automaton_steps.specs.Numbered.{numbered}
use Rattle.automaton_steps.specs.PadSteps.{pad_step}
use Rattle.automaton_steps.specs.ValiditySteps.{valid_step}
use Rattle.num_system.specs.Sealed.{SystemValue}
use Rattle.num_system.specs.Tracks.{direction_of, systems_of, languages_of}
use Rattle.num_system.proofs.LineLemmas.{handed_on}
use Rattle.num_system.proofs.SealedLemmas.{languages_fit}
use Rattle.number_relations.specs.Relations.{IsRelation, relation_over}
use Rattle.number_relations.specs.Readings.{DoesReading}
use Rattle.number_relations.proofs.ReadingLemmas.{readings_are, valid_read}
use Rattle.number_relations.proofs.reading.reading_steps.Goals as goal

pub valid_step-requires : goal.valid_step-requires
valid_step-requires c =
    let systems = map rc_value c.args.systems.now in
    let are : map rc_value c.deref.result.now ≡ languages_of systems = ap (map rc_value) c.deref.ensures.value ∙ c.in_ok-languages.ensures in
    let sizes = ap (λ (a : NamedAutomaton). a.automaton.sizes) c.in_ok-relation.ensures ∙ c.in_ok-closed.ensures.step.made_is.sizes ∙ c.in_ok-read.ensures.step.made_is.sizes ∙ c.requires.sizes in
    record {
      languages = subst (λ (s : List ℕ). AreLanguages s (map rc_value c.deref.result.now)) (sym sizes)
          (subst (λ (ls : List Automaton). AreLanguages (sizes_of (systems_of systems)) ls) (sym are) (languages_fit systems c.are_sealed.ensures));
    }

pub returns-in_err-closed : goal.returns-in_err-closed
returns-in_err-closed c =
    let systems = map rc_value c.args.systems.now in
    let fault = c.in_err-closed.field-0.0 in
    let read = c.in_ok-read.read in
    let mid = c.read_step.new.steps in
    let new = c.pad_step.new.steps in
    let does : DoesStep (pad_step (direction_of systems) read) mid (Err fault) new = subst (λ (w : Direction). DoesStep (pad_step w read) mid (Err fault) new) c.direction_of.ensures c.in_err-closed.ensures in
    handed_on (λ r. DoesReading systems c.args.listed.now c.args.steps.now r new) c.from_residual-in_err-closed.result fault c.from_residual-in_err-closed.ensures.1
    (inl (read, mid, c.in_ok-read.ensures, inr (fault, does, refl)))

pub returns-in_err-valid : goal.returns-in_err-valid
returns-in_err-valid c =
    let systems = map rc_value c.args.systems.now in
    let fault = c.in_err-valid.field-0.0 in
    let read = c.in_ok-read.read in
    let closed = c.in_ok-closed.closed in
    let mid = c.read_step.new.steps in
    let late = c.pad_step.new.steps in
    let new = c.valid_step.new.steps in
    let are : map rc_value c.deref.result.now ≡ languages_of systems = ap (map rc_value) c.deref.ensures.value ∙ c.in_ok-languages.ensures in
    let second : DoesStep (pad_step (direction_of systems) read) mid (Ok closed) late = subst (λ (w : Direction). DoesStep (pad_step w read) mid (Ok closed) late) c.direction_of.ensures c.in_ok-closed.ensures in
    let third : DoesStep (valid_step (languages_of systems) (numbered closed)) late (Err fault) new =
    subst (λ (a : NamedAutomaton). DoesStep (valid_step (languages_of systems) a) late (Err fault) new) c.in_ok-relation.ensures
    (subst (λ (ls : List Automaton). DoesStep (valid_step ls c.in_ok-relation.relation) late (Err fault) new) are c.in_err-valid.ensures) in
    handed_on (λ r. DoesReading systems c.args.listed.now c.args.steps.now r new) c.from_residual-in_err-valid.result fault c.from_residual-in_err-valid.ensures.1
    (inl (read, mid, c.in_ok-read.ensures, inl (closed, late, second, third)))

pub from_parts-requires : goal.from_parts-requires
from_parts-requires c =
    let systems = map rc_value c.args.systems.now in
    let read = c.in_ok-read.read in
    let closed = c.in_ok-closed.closed in
    let mid = c.read_step.new.steps in
    let late = c.pad_step.new.steps in
    let new = c.valid_step.new.steps in
    let valid = c.in_ok-valid.valid in
    let are : map rc_value c.deref.result.now ≡ languages_of systems = ap (map rc_value) c.deref.ensures.value ∙ c.in_ok-languages.ensures in
    let second : DoesStep (pad_step (direction_of systems) read) mid (Ok closed) late = subst (λ (w : Direction). DoesStep (pad_step w read) mid (Ok closed) late) c.direction_of.ensures c.in_ok-closed.ensures in
    let third : DoesStep (valid_step (languages_of systems) (numbered closed)) late (Ok valid) new =
    subst (λ (a : NamedAutomaton). DoesStep (valid_step (languages_of systems) a) late (Ok valid) new) c.in_ok-relation.ensures
    (subst (λ (ls : List Automaton). DoesStep (valid_step ls c.in_ok-relation.relation) late (Ok valid) new) are c.in_ok-valid.ensures) in
    subst (λ (ss : List SystemValue). IsRelation (relation_over valid ss)) (sym c.in_ok-kept.ensures)
    (readings_are systems c.args.listed.now c.args.steps.now new (relation_over valid systems) c.are_sealed.ensures c.requires.direction c.requires.sizes
    (inl (read, mid, c.in_ok-read.ensures, inl (closed, late, second, valid_read systems closed valid late new third))))

pub returns : goal.returns
returns c =
    let systems = map rc_value c.args.systems.now in
    let read = c.in_ok-read.read in
    let closed = c.in_ok-closed.closed in
    let mid = c.read_step.new.steps in
    let late = c.pad_step.new.steps in
    let new = c.valid_step.new.steps in
    let valid = c.in_ok-valid.valid in
    let are : map rc_value c.deref.result.now ≡ languages_of systems = ap (map rc_value) c.deref.ensures.value ∙ c.in_ok-languages.ensures in
    let second : DoesStep (pad_step (direction_of systems) read) mid (Ok closed) late = subst (λ (w : Direction). DoesStep (pad_step w read) mid (Ok closed) late) c.direction_of.ensures c.in_ok-closed.ensures in
    let third : DoesStep (valid_step (languages_of systems) (numbered closed)) late (Ok valid) new =
    subst (λ (a : NamedAutomaton). DoesStep (valid_step (languages_of systems) a) late (Ok valid) new) c.in_ok-relation.ensures
    (subst (λ (ls : List Automaton). DoesStep (valid_step ls c.in_ok-relation.relation) late (Ok valid) new) are c.in_ok-valid.ensures) in
    subst (λ r. DoesReading systems c.args.listed.now c.args.steps.now (Ok r) new) (sym (c.from_parts.ensures ∙ ap (relation_over valid) c.in_ok-kept.ensures))
    (inl (read, mid, c.in_ok-read.ensures, inl (closed, late, second, valid_read systems closed valid late new third)))

use Rattle.std.proofs.Common.{inl, inr, refl, ap, length}
use Rattle.std.proofs.lemmas.Result.{err_from_is_err_and}
use Rattle.adder_check.specs.Admission.{IsFirstFaultOfFiles}
use Rattle.adder_check.specs.Faults.{fault_of}
use Rattle.endless.specs.LanguageLaws.{system_of}
use Rattle.adder_check.proofs.FileSystems.{own_language, refused_by, sizes_of_one}
use Rattle.adder_check.proofs.FileUsers.{AreParts, adder_fault, are_parts, letters_are, silent_of_files, three_tracks}
use Rattle.adder_check.proofs.HandedOn.{handed_on}
use Rattle.adder_check.proofs.admit.admit.Goals as goal

pub returns-in_err-language-clause-steps : goal.returns-in_err-language-clause-steps
returns-in_err-language-clause-steps c = inr (c.in_err-language.field-0.0, c.in_err-language.ensures.steps, (handed_on _ c.from_residual.result c.from_residual.ensures.1))

pub returns-in_err-language-clause-refused : goal.returns-in_err-language-clause-refused
returns-in_err-language-clause-refused c =
    refused_by (IsFirstFaultOfFiles c.args.direction c.args.files.language.now c.args.files.adder.now c.args.files.reversed) c.from_residual.result c.in_err-language.field-0.0 (handed_on _ c.from_residual.result c.from_residual.ensures.1)
    (c.in_err-language.ensures.refused c.args.files.adder.now)

pub returns-in_err-next-clause-steps : goal.returns-in_err-next-clause-steps
returns-in_err-next-clause-steps c =
    inl (
      c.in_ok-language.language,
      c.language_of.new.steps,
      c.in_ok-language.ensures.steps,
      inr (fault_of c.in_err-next.field-0.0, (c.in_err-next.field-0.0, c.in_err-next.ensures.steps, refl), (handed_on _ c.from_residual-in_err-next.result c.from_residual-in_err-next.ensures.1)),
    )

pub returns-in_err-adder-clause-steps : goal.returns-in_err-adder-clause-steps
returns-in_err-adder-clause-steps c =
    inl (
      c.in_ok-language.language,
      c.language_of.new.steps,
      c.in_ok-language.ensures.steps,
      inl (
        c.in_ok-next.next,
        c.successor_steps.new.steps,
        c.in_ok-next.ensures.steps,
        inr (fault_of c.in_err-adder.field-0.0, (c.in_err-adder.field-0.0, c.in_err-adder.ensures.steps, refl), (handed_on _ c.from_residual-in_err-adder.result c.from_residual-in_err-adder.ensures.1)),
      ),
    )

pub check_adder-requires-clause-successor : goal.check_adder-requires-clause-successor
check_adder-requires-clause-successor c =
    let d = c.in_ok-language.language in
    let one = sizes_of_one c.args.direction c.args.files.language.now c.args.files.reversed d c.in_ok-language.ensures.file c.requires.0 c.requires.1 in
    c.in_ok-next.ensures.successor (system_of c.args.direction d) c.in_ok-language.ensures.system (own_language c.args.direction d c.requires.0 one)

pub returns-in_err-check_adder-clause-steps : goal.returns-in_err-check_adder-clause-steps
returns-in_err-check_adder-clause-steps c =
    inl (
      c.in_ok-language.language,
      c.language_of.new.steps,
      c.in_ok-language.ensures.steps,
      inl (
        c.in_ok-next.next,
        c.successor_steps.new.steps,
        c.in_ok-next.ensures.steps,
        inl (
          c.in_ok-adder.adder,
          c.adder_of.new.steps,
          c.in_ok-adder.ensures.steps,
          inr (c.in_err-check_adder.field-0.0, c.in_err-check_adder.ensures.steps, (handed_on _ c.from_residual-in_err-check_adder.result c.from_residual-in_err-check_adder.ensures.1)),
        ),
      ),
    )

pub returns-in_err-check_adder-clause-refused : goal.returns-in_err-check_adder-clause-refused
returns-in_err-check_adder-clause-refused c =
    refused_by (IsFirstFaultOfFiles c.args.direction c.args.files.language.now c.args.files.adder.now c.args.files.reversed) c.from_residual-in_err-check_adder.result c.in_err-check_adder.field-0.0
    (handed_on _ c.from_residual-in_err-check_adder.result c.from_residual-in_err-check_adder.ensures.1)
    (adder_fault c.args.direction c.args.files.language.now c.args.files.adder.now c.args.files.reversed c.in_ok-language.language c.in_ok-adder.adder.automaton c.in_ok-language.ensures.file c.requires.0 c.requires.1
    c.in_ok-language.ensures.system (c.in_ok-adder.ensures.relation c.in_ok-language.ensures.system) c.in_err-check_adder.field-0.0 c.in_err-check_adder.ensures.laws)

pub invariant_of-result : goal.invariant_of-result
invariant_of-result c =
    let d = c.in_ok-language.language in
    let one = sizes_of_one c.args.direction c.args.files.language.now c.args.files.reversed d c.in_ok-language.ensures.file c.requires.0 c.requires.1 in
    let parts : AreParts c.args.direction c.args.files.language.now c.args.files.adder.now c.args.files.reversed c.letters.result d c.into_dfa.result =
    are_parts c.args.direction c.args.files.language.now c.args.files.adder.now c.args.files.reversed d c.in_ok-adder.adder.automaton c.in_ok-language.ensures.file c.requires.0 c.requires.1
    c.in_ok-language.ensures.system (c.in_ok-adder.ensures.relation c.in_ok-language.ensures.system) c.letters.result c.into_dfa.result
    (letters_are d c.requires.0 c.letters.result c.alphabet.result.now one c.alphabet.ensures.sizes c.letters.ensures.value) c.into_dfa.ensures.value c.in_ok-check_adder.ensures.laws in
    record { sizes = parts.sizes; is_system = ∣ parts.system ∣₁; adds = ∣ parts.adder_is ∣₁ }

pub returns-clause-steps : goal.returns-clause-steps
returns-clause-steps c =
    inl (
      c.in_ok-language.language,
      c.language_of.new.steps,
      c.in_ok-language.ensures.steps,
      inl (
        c.in_ok-next.next,
        c.successor_steps.new.steps,
        c.in_ok-next.ensures.steps,
        inl (
          c.in_ok-adder.adder,
          c.adder_of.new.steps,
          c.in_ok-adder.ensures.steps,
          inl (c.in_ok-check_adder.field-0, c.check_adder.new.steps, c.in_ok-check_adder.ensures.steps, (refl, (refl, refl, c.into_dfa.ensures.value))),
        ),
      ),
    )

pub returns-clause-admitted : goal.returns-clause-admitted
returns-clause-admitted c =
    let d = c.in_ok-language.language in
    let one = sizes_of_one c.args.direction c.args.files.language.now c.args.files.reversed d c.in_ok-language.ensures.file c.requires.0 c.requires.1 in
    let parts : AreParts c.args.direction c.args.files.language.now c.args.files.adder.now c.args.files.reversed c.letters.result d c.into_dfa.result =
    are_parts c.args.direction c.args.files.language.now c.args.files.adder.now c.args.files.reversed d c.in_ok-adder.adder.automaton c.in_ok-language.ensures.file c.requires.0 c.requires.1
    c.in_ok-language.ensures.system (c.in_ok-adder.ensures.relation c.in_ok-language.ensures.system) c.letters.result c.into_dfa.result
    (letters_are d c.requires.0 c.letters.result c.alphabet.result.now one c.alphabet.ensures.sizes c.letters.ensures.value) c.into_dfa.ensures.value c.in_ok-check_adder.ensures.laws in
    record { direction = refl; words = parts.words; system = parts.system; sums = parts.sums; adder_is = parts.adder_is }

pub returns-in_err-language-clause-admitted : goal.returns-in_err-language-clause-admitted
returns-in_err-language-clause-admitted c = let p = err_from_is_err_and c.from_residual.result c.from_residual.ensures.1 in rw p.1 tt

pub returns-in_err-next-clause-admitted : goal.returns-in_err-next-clause-admitted
returns-in_err-next-clause-admitted c = let p = err_from_is_err_and c.from_residual-in_err-next.result c.from_residual-in_err-next.ensures.1 in rw p.1 tt

pub returns-in_err-adder-clause-admitted : goal.returns-in_err-adder-clause-admitted
returns-in_err-adder-clause-admitted c = let p = err_from_is_err_and c.from_residual-in_err-adder.result c.from_residual-in_err-adder.ensures.1 in rw p.1 tt

pub returns-in_err-check_adder-clause-admitted : goal.returns-in_err-check_adder-clause-admitted
returns-in_err-check_adder-clause-admitted c = let p = err_from_is_err_and c.from_residual-in_err-check_adder.result c.from_residual-in_err-check_adder.ensures.1 in rw p.1 tt

pub returns-in_err-next-clause-refused : goal.returns-in_err-next-clause-refused
returns-in_err-next-clause-refused c =
    refused_by (IsFirstFaultOfFiles c.args.direction c.args.files.language.now c.args.files.adder.now c.args.files.reversed) c.from_residual-in_err-next.result (fault_of c.in_err-next.field-0.0) (handed_on _ c.from_residual-in_err-next.result c.from_residual-in_err-next.ensures.1)
    (silent_of_files c.args.direction c.args.files.language.now c.args.files.adder.now c.args.files.reversed c.in_err-next.field-0.0)

pub returns-in_err-adder-clause-refused : goal.returns-in_err-adder-clause-refused
returns-in_err-adder-clause-refused c =
    refused_by (IsFirstFaultOfFiles c.args.direction c.args.files.language.now c.args.files.adder.now c.args.files.reversed) c.from_residual-in_err-adder.result (fault_of c.in_err-adder.field-0.0) (handed_on _ c.from_residual-in_err-adder.result c.from_residual-in_err-adder.ensures.1)
    (silent_of_files c.args.direction c.args.files.language.now c.args.files.adder.now c.args.files.reversed c.in_err-adder.field-0.0)

pub successor_steps-requires-clause-track : goal.successor_steps-requires-clause-track
successor_steps-requires-clause-track c = ap length (sizes_of_one c.args.direction c.args.files.language.now c.args.files.reversed c.in_ok-language.language c.in_ok-language.ensures.file c.requires.0 c.requires.1)

pub adder_of-requires-clause-tracks : goal.adder_of-requires-clause-tracks
adder_of-requires-clause-tracks c = (c.requires.0, c.requires.2, sizes_of_one c.args.direction c.args.files.language.now c.args.files.reversed c.in_ok-language.language c.in_ok-language.ensures.file c.requires.0 c.requires.1)

pub check_adder-requires-clause-tracks : goal.check_adder-requires-clause-tracks
check_adder-requires-clause-tracks c =
    let one = sizes_of_one c.args.direction c.args.files.language.now c.args.files.reversed c.in_ok-language.language c.in_ok-language.ensures.file c.requires.0 c.requires.1 in
    (c.requires.0, three_tracks c.in_ok-language.language c.in_ok-adder.adder.automaton c.requires.0 one (c.in_ok-adder.ensures.relation c.in_ok-language.ensures.system).sizes, one)

pub check_adder-requires-clause-system : goal.check_adder-requires-clause-system
check_adder-requires-clause-system c = c.in_ok-language.ensures.system

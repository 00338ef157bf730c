use Rattle.digit_tuple.specs.Automaton.{Branching}
use Rattle.adder_check.specs.Admission.{IsFirstFaultOfFiles}
use Rattle.adder_check.proofs.FileSystems.{language_fault, refused_by, system_from_laws}
use Rattle.adder_check.proofs.HandedOn.{handed_on}
use Rattle.adder_check.proofs.admit.language_of.Goals as goal

pub returns-in_err-check_language-clause-refused : goal.returns-in_err-check_language-clause-refused
returns-in_err-check_language-clause-refused c =
    refused_by (λ fault. (adder : Branching) → IsFirstFaultOfFiles c.args.direction c.args.file.listed.now adder c.args.file.reversed fault) c.from_residual-in_err-check_language.result c.in_err-check_language.field-0.0
    (handed_on _ c.from_residual-in_err-check_language.result c.from_residual-in_err-check_language.ensures.1)
    (language_fault c.args.direction c.args.file.listed.now c.args.file.reversed c.in_ok-language.language c.in_ok-language.ensures.file c.requires.0 c.requires.1 c.in_err-check_language.field-0.0 c.in_err-check_language.ensures)

pub returns-clause-system : goal.returns-clause-system
returns-clause-system c =
    system_from_laws c.args.direction c.args.file.listed.now c.args.file.reversed c.in_ok-language.language c.in_ok-language.ensures.file c.requires.0 c.requires.1 c.in_ok-check_language.ensures.0 c.in_ok-check_language.ensures.1

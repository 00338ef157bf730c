use Rattle.std.proofs.Common.{Bool, [], ◌∷◌, inl, inr, rules, subst}
use Rattle.std.proofs.lemmas.Result.{IfOk-weaker}
use Rattle.digit_tuple.specs.Letters.{IsAlphabet, IsTooLarge}
use Rattle.adder_check.specs.Admission.{DoesAdmission, IsAdmitted, IsFirstFaultOfFiles}
use Rattle.system_admission.specs.Admissions.{IsFirstFaultIn, IsSystemIn, IsTableOf}
use Rattle.system_admission.proofs.FileMeanings.{defined, first_in_files}
use Rattle.system_admission.proofs.FileTables.{on_ok, refused_weaker, sizes_same, table_of, three_tracks}
use Rattle.system_admission.proofs.admission.admit_language.Goals as goal
use Rattle.system_admission.proofs.admission.admit_language.Goals.{In-Ok}

-- the automaton of the adder
adder_table : (c : In-Ok) → IsTableOf (c.args.files.now.digits ∷ c.args.files.now.digits ∷ c.args.files.now.digits ∷ []) c.args.files.now.adder c.in-Ok.sums
adder_table c =
    table_of c.adder.result.now c.args.files.now.adder c.adder.ensures _ (c.args.files.now.digits ∷ c.args.files.now.digits ∷ c.args.files.now.digits ∷ [])
    (three_tracks c.args.files.now c.digits-digits_from_zero.ensures.files _) c.in-Ok.sums c.in-Ok.ensures.fits c.in-Ok.ensures.branching c.in-Ok.ensures.table

pub admit-requires : goal.admit-requires
admit-requires c = (c.args.files.now.digits, c.requires.table.is_branching.sizes_are, (adder_table (goal.at.admit-requires c).In-Ok).is_branching.sizes_are)

pub refusal-requires-clause-too_large : goal.refusal-requires-clause-too_large
refusal-requires-clause-too_large c =
    subst IsTooLarge
    (sizes_same c.adder.result.now c.args.files.now.adder c.adder.ensures _ (c.args.files.now.digits ∷ c.args.files.now.digits ∷ c.args.files.now.digits ∷ []) (three_tracks c.args.files.now c.digits-digits_from_zero.ensures.files _))
    (c.in-Err-Letters.ensures.too_large (search rules))

pub returns-in-Ok-clause-steps : goal.returns-in-Ok-clause-steps
returns-in-Ok-clause-steps c =
    let table = adder_table (goal.at.returns-in-Ok-clause-steps c).In-Ok in
    let does = subst (λ (b : Bool). DoesAdmission c.args.direction c.args.language.now c.in-Ok.sums b c.args.steps.now c.admit.result c.admit.new.steps) c.reversed.ensures c.admit.ensures.steps in
    inr (inr (c.in-Ok.sums, table, does))

pub returns-in-Ok-clause-defined : goal.returns-in-Ok-clause-defined
returns-in-Ok-clause-defined c =
    let table = adder_table (goal.at.returns-in-Ok-clause-defined c).In-Ok in
    IfOk-weaker c.admit.result (IsAdmitted c.args.direction c.args.language.now c.in-Ok.sums c.reversed.result) (IsSystemIn c.args.direction c.args.files.now)
    (λ user is.
    defined c.args.direction c.args.files.now c.args.language.now c.requires.table.is_branching c.in-Ok.sums table.is_branching user
    (subst (λ (b : Bool). IsAdmitted c.args.direction c.args.language.now c.in-Ok.sums b user) c.reversed.ensures is)) c.admit.ensures.admitted

pub returns-in-Ok-clause-fits : goal.returns-in-Ok-clause-fits
returns-in-Ok-clause-fits c =
    on_ok c.admit.result (IsAlphabet (c.args.files.now.digits ∷ c.args.files.now.digits ∷ c.args.files.now.digits ∷ [])) (adder_table (goal.at.returns-in-Ok-clause-fits c).In-Ok).fits

pub returns-in-Ok-clause-refused : goal.returns-in-Ok-clause-refused
returns-in-Ok-clause-refused c =
    let table = adder_table (goal.at.returns-in-Ok-clause-refused c).In-Ok in
    refused_weaker c.admit.result (IsFirstFaultOfFiles c.args.direction c.args.language.now c.in-Ok.sums c.reversed.result) (IsFirstFaultIn c.args.direction c.args.files.now)
    (λ fault wrong.
    first_in_files c.args.direction c.args.files.now c.args.language.now c.requires.table.is_branching c.in-Ok.sums table.is_branching fault
    (subst (λ (b : Bool). IsFirstFaultOfFiles c.args.direction c.args.language.now c.in-Ok.sums b fault) c.reversed.ensures wrong)) c.admit.ensures.refused

pub returns-in-Err-Letters-clause-steps : goal.returns-in-Err-Letters-clause-steps
returns-in-Err-Letters-clause-steps c =
    let large =
    subst IsTooLarge
    (sizes_same c.adder.result.now c.args.files.now.adder c.adder.ensures _ (c.args.files.now.digits ∷ c.args.files.now.digits ∷ c.args.files.now.digits ∷ []) (three_tracks c.args.files.now c.digits-digits_from_zero.ensures.files _))
    (c.in-Err-Letters.ensures.too_large (search rules)) in
    inr (inl (large, c.refusal.ensures.steps))

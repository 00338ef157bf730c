use Rattle.std.proofs.Common.{ℕ, [], ◌∷◌, Err, inl, inr, refl, rules, ap, subst}
use Rattle.digit_tuple.specs.Letters.{IsTooLarge}
use Rattle.adder_check.specs.declared.admit_fault.AdmitFault.TheVariants as faults
use Rattle.system_admission.specs.Admissions.{IsTableOf}
use Rattle.system_admission.proofs.FileTables.{one_track, sizes_same, table_of}
use Rattle.system_admission.proofs.admission.admit_files.Goals as goal
use Rattle.system_admission.proofs.admission.admit_files.Goals.{In-Ok}

-- the automaton of the language
language_table : (c : In-Ok) → IsTableOf (c.args.files.now.digits ∷ []) c.args.files.now.language c.in-Ok.words
language_table c =
    table_of c.language.result.now c.args.files.now.language c.language.ensures _ (c.args.files.now.digits ∷ []) (one_track c.args.files.now c.digits-digits_from_zero.ensures.files _) c.in-Ok.words
    c.in-Ok.ensures.fits c.in-Ok.ensures.branching c.in-Ok.ensures.table

pub admit_language-requires : goal.admit_language-requires
admit_language-requires c = record { table = language_table (goal.at.admit_language-requires c).In-Ok }

pub returns-in-Ok-clause-steps : goal.returns-in-Ok-clause-steps
returns-in-Ok-clause-steps c =
    elim c.admit_language.ensures.steps [
      | inl ran_out ↦ inl ran_out
      | inr admits ↦ inr (inr (c.in-Ok.words, language_table (goal.at.returns-in-Ok-clause-steps c).In-Ok, admits))
    ]

pub returns-in-Err-Letters-clause-steps : goal.returns-in-Err-Letters-clause-steps
returns-in-Err-Letters-clause-steps c =
    let large =
    subst IsTooLarge (sizes_same c.language.result.now c.args.files.now.language c.language.ensures _ (c.args.files.now.digits ∷ []) (one_track c.args.files.now c.digits-digits_from_zero.ensures.files _))
    (c.in-Err-Letters.ensures.too_large (search rules)) in
    inr (inl (large, (ap (λ (n : ℕ). Err (faults.Letters n)) c.next_number.ensures, refl)))

-- What is kept of an admission is right for all folders in which the name has the same files.
use Rattle.std.proofs.Common.{◌≡◌, ℕ, ◌≤◌, Bool, true, false, List, ◌++◌, length, drop, Option, Some, Ok, if◌then◌else◌, refl, sym, ap, ◌∙◌, subst, arith}
use Rattle.std.proofs.lemmas.List.{length-append}
use Rattle.std.proofs.Math.Seq.{drop-append_seam}
use Rattle.digit_tuple.specs.Steps.{StepLog, with_lines}
use Rattle.digit_tuple.specs.declared.direction.Direction.{Direction}
use Rattle.digit_tuple.specs.declared.direction.Direction.TheVariants.{Msd, Lsd}
use Rattle.digit_tuple.specs.declared.steps.StepLine.{StepLine}
use Rattle.dfa_reading.specs.SystemFiles.{language_of}
use Rattle.num_system.specs.Sealed.{SystemValue}
use Rattle.system_names.specs.UserNames.{IsUserName, adder_name, opposite, user_name}
use Rattle.system_names.proofs.UserSystems.{none_is_built_in, one_user_name}
use Rattle.system_files.specs.SystemFiles.{Custom, SystemFiles, AreFilesOf, is_reversed, taken_name}
use Rattle.system_admission.specs.Admissions.{AdmitsFiles}
use Rattle.system_admission.specs.KeptSystems.{Pair, IsPairOf, CanBeKept}
use Rattle.system_admission.specs.NameAdmissions.{IsNamedSystem, SealsFiles}
use Rattle.system_admission.proofs.NameAnswers.{is_named}
use Rattle.system_admission.proofs.ShiftedSteps.{files_shift}

-- the name of the language says what the system is called, and whether its words are those of the other direction
not_opposite : (direction : Direction) → direction ≡ opposite direction → ⊥
not_opposite Msd same = cc
not_opposite Lsd same = cc

abbrev name_of : Direction → List ℕ → Bool → List ℕ
name_of direction part reversed = if reversed then user_name (opposite direction) part else user_name direction part

one_name_of : (direction : Direction) (part another : List ℕ) (reversed other : Bool) → name_of direction part reversed ≡ name_of direction another other → (part ≡ another) × (reversed ≡ other)
one_name_of direction part another true true same = ((one_user_name (opposite direction) (opposite direction) part another same).1, refl)
one_name_of direction part another false false same = ((one_user_name direction direction part another same).1, refl)
one_name_of direction part another true false same = absurd (not_opposite direction (sym (one_user_name (opposite direction) direction part another same).0))
one_name_of direction part another false true same = absurd (not_opposite direction (one_user_name direction (opposite direction) part another same).0)

same_text : (there : Option (List ℕ)) (text other : List ℕ) → there ≡ Some text → there ≡ Some other → text ≡ other
same_text there text other is also = let same : Some text ≡ Some other = sym is ∙ also in cc

language_text : (custom : Custom) (part : List ℕ) (pair : Pair) (files : SystemFiles) (found : AreFilesOf custom pair.direction part files) → IsPairOf custom part pair → found.language.text ≡ pair.language
language_text custom part pair files found is = same_text (custom (taken_name custom pair.direction part)) found.language.text pair.language found.language.there (ap custom (sym is.name) ∙ is.language)

-- where a name has the files of another, it has what they list
module _ (custom other : Custom) (part another : List ℕ) (pair : Pair) (files : SystemFiles) (found : AreFilesOf custom pair.direction part files) (is : IsPairOf custom part pair) (also : IsPairOf other another pair) where
  same_files : AreFilesOf other pair.direction another files
  same_files =
      let one = one_name_of pair.direction part another (is_reversed custom pair.direction part) (is_reversed other pair.direction another) (sym is.name ∙ also.name) in
      let language = language_text custom part pair files found is in
      let adder : found.adder.text ≡ pair.adder = same_text (custom (adder_name (taken_name custom pair.direction part))) found.adder.text pair.adder found.adder.there (ap (λ (n : List ℕ). custom (adder_name n)) (sym is.name) ∙ is.adder) in
      record {
        reversed = found.reversed ∙ one.1;
        language = record {
          text = found.language.text;
          there = ap other (sym also.name) ∙ also.language ∙ ap (λ (t : List ℕ). Some t) (sym language);
          short = found.language.short;
          lists = found.language.lists;
          header = found.language.header;
        };
        adder = record {
          text = found.adder.text;
          there = ap (λ (n : List ℕ). other (adder_name n)) (sym also.name) ∙ also.adder ∙ ap (λ (t : List ℕ). Some t) (sym adder);
          short = found.adder.short;
          lists = found.adder.lists;
        };
      }

-- what is sealed of the files of a name is what it means
pub seals_named : (custom : Custom) (name part : List ℕ) (direction : Direction) (files : SystemFiles) (old new : StepLog) (s : SystemValue) → IsUserName direction part name → AreFilesOf custom direction part files → SealsFiles direction files old new s → IsNamedSystem custom name old new s
seals_named custom name part direction files old new s named found seals =
    is_named custom name (none_is_built_in name (direction, part, named)) old new direction files (record { part = part; is_name = named; found = found }) seals.user s seals.admits seals.defined seals.sealed seals.system seals.read_direction

-- what was sealed of the files of a name may be kept
pub can_be_kept : (custom : Custom) (part : List ℕ) (pair : Pair) (files : SystemFiles) (old new : StepLog) (s : SystemValue) → AreFilesOf custom pair.direction part files → IsPairOf custom part pair → SealsFiles pair.direction files old new s → CanBeKept pair (length old.lines) new s
can_be_kept custom part pair files old new s found is seals = record {
  language = (files.language, ap language_of (sym (language_text custom part pair files found is)) ∙ found.language.lists);
  admits = λ later limit other name takes.
      let shifted = files_shift pair.direction files old new seals.user seals.admits in
      let all : new.lines ≡ old.lines ++ shifted.lines = ap (λ (log : StepLog). log.lines) shifted.new_is in
      let lines = drop (length old.lines) new.lines in
      let same : shifted.lines ≡ lines = sym (ap (drop (length old.lines)) all ∙ drop-append_seam old.lines shifted.lines) in
      let limits : later.limit ≡ old.limit = limit ∙ ap (λ (log : StepLog). log.limit) shifted.new_is in
      let admits = subst (λ (ls : List StepLine). AdmitsFiles pair.direction files later (Ok seals.user) (with_lines later ls)) same (shifted.shift later limits) in
      seals_named other name takes.part pair.direction files later (with_lines later lines) s takes.is_name (same_files custom other part takes.part pair files found is takes.is_pair)
      (record { user = seals.user; admits = admits; defined = seals.defined; sealed = seals.sealed; system = seals.system; read_direction = seals.read_direction });
}

-- sealing adds steps
pub seals_more : (direction : Direction) (files : SystemFiles) (old new : StepLog) (s : SystemValue) → SealsFiles direction files old new s → length old.lines ≤ length new.lines
seals_more direction files old new s seals =
    let shifted = files_shift direction files old new seals.user seals.admits in
    let all : new.lines ≡ old.lines ++ shifted.lines = ap (λ (log : StepLog). log.lines) shifted.new_is in
    omega (arith, ap (λ (ls : List StepLine). length ls) all, length-append old.lines shifted.lines)

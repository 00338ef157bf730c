-- The steps by which the image of a word is made, and why they are refused, from what the code of each part answers.
use Rattle.std.proofs.Common.{ℕ, List, Ok, Err, inl, inr, refl, sym, subst}
use Rattle.digit_tuple.specs.Steps.{StepLog}
use Rattle.digit_tuple.specs.declared.step_fault.StepFault.{StepFault}
use Rattle.digit_tuple.specs.declared.step_fault.StepFault.TheVariants as step_faults
use Rattle.dfa_loading.specs.declared.loaded.Loaded.{Loaded}
use Rattle.morph_words.specs.Rules.{Rules}
use Rattle.morph_words.specs.Uniform.{HasLength, IsImageLength, IsLengthRefused}
use Rattle.morph_words.specs.declared.morphism_kind.MorphismKind.{MorphismKind}
use Rattle.morph_words.specs.declared.morphism_kind.MorphismKind.TheVariants as kinds
use Rattle.morph_words.proofs.UniformLemmas.{not_uniform, one_length}
use Rattle.word_commands.specs.ImageSteps.{DoesImage}
use Rattle.word_images.specs.ImageWords.{IsImageWord}
use Rattle.word_commands.specs.declared.image_fault.ImageFault.{ImageFault}
use Rattle.word_commands.specs.declared.image_fault.ImageFault.TheVariants as images
use Rattle.word_output.specs.Words.{WordValue}
use Rattle.system_files.specs.SystemFiles.{Custom}
use Rattle.command_parts.specs.Checks.{Pure, Fails}
use Rattle.command_parts.specs.FormulaSteps.{IsUnread}
use Rattle.word_commands.specs.ImageFaults.{fault_of_imaging}
use Rattle.word_commands.specs.ImageMakes.{IsImaged, old_system_of}
use Rattle.word_commands.specs.ImageOutcomes.{AreImageStepsRefused, ImagedAnswers}
use Rattle.word_commands.specs.declared.image.ReadImage.{ReadImage}
use Rattle.word_commands.specs.OldWordMakes.{IsOldRead, before_of}
use Rattle.command_parts.specs.TrackSystems.{fault_of}

-- images of one length that is allowed are of no other kind
pub of_one_kind : (rules : Rules) (k : ℕ) (kind : MorphismKind) → HasLength IsImageLength rules k → IsLengthRefused IsImageLength rules kind → ⊥
of_one_kind rules k (kinds.NotUniform letter) has refused = not_uniform rules letter k refused.holds has.uniform
of_one_kind rules k (kinds.Length letter) has refused = refused.outside (subst IsImageLength (one_length rules letter k refused.k refused.first.holds has.uniform refused.uniform) has.allowed)
of_one_kind rules k (kinds.NotClosed letter) has refused = refused
of_one_kind rules k (kinds.NotFixed letter) has refused = refused

module _ (admitted : StepLog) (custom : Custom) (tables : List Loaded) (old name : List ℕ) (rules : Rules) where
  -- a step passes a limit
  unimaged : (fault : StepFault) → AreImageStepsRefused admitted custom tables old name rules (images.Step fault) → Fails (Pure (ImagedAnswers admitted custom tables old name rules)) (fault_of fault)
  unimaged (step_faults.Letters step) refused = (images.Step (step_faults.Letters step), refl, refused)
  unimaged (step_faults.States step) refused = (images.Step (step_faults.States step), refl, refused)
  unimaged step_faults.Memory refused = tt

  -- one that reads the table does, or memory runs out there
  pub unread_old : (fault : StepFault) → IsUnread admitted custom tables fault → Fails (Pure (ImagedAnswers admitted custom tables old name rules)) (fault_of fault)
  unread_old fault (inl memory) = subst (λ (f : StepFault). Fails (Pure (ImagedAnswers admitted custom tables old name rules)) (fault_of f)) (sym memory) tt
  unread_old fault (inr stopped) = unimaged fault (inl stopped)

module _ {admitted reading : StepLog} {custom : Custom} {read : ReadImage} {word : WordValue} (is : IsOldRead admitted custom read.old word reading) where
  -- the steps are refused
  pub steps_unimaged : (k : ℕ) → HasLength IsImageLength read.morphism k → (fault : ImageFault) (log : StepLog) → DoesImage read.morphism word (old_system_of read) reading (Err fault) log
      → Fails (Pure (ImagedAnswers admitted custom read.old.mentioned.tables.items read.old.name (old_system_of read) read.morphism)) (fault_of_imaging fault)
  steps_unimaged k has (images.Morphism kind) log (refused, same) = absurd (of_one_kind read.morphism k kind has refused)
  steps_unimaged k has (images.Missing letter) log refused = (images.Missing letter, refl, record { before = before_of is; log = log; refused = refused })
  steps_unimaged k has (images.Step fault) log (inl memory) =
      subst (λ (f : StepFault). Fails (Pure (ImagedAnswers admitted custom read.old.mentioned.tables.items read.old.name (old_system_of read) read.morphism)) (fault_of f)) (sym memory) tt
  steps_unimaged k has (images.Step fault) log (inr stopped) =
      unimaged admitted custom read.old.mentioned.tables.items read.old.name (old_system_of read) read.morphism fault (inr (record { before = before_of is; log = log; refused = inr stopped }))

  -- the image is made over systems that the names that the old word mentions mean
  pub imaged_here : (v : WordValue) (log : StepLog) → DoesImage read.morphism word (old_system_of read) reading (Ok v) log → IsImageWord read.morphism word v → IsImaged admitted custom read v log.lines
  imaged_here v log done image = record { steps = record { before = before_of is; log = log; done = done; lines_are = refl }; image = image; has = is.has }

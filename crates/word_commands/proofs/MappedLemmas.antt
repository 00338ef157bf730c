-- The relations of all letters, combined.
use Rattle.std.proofs.Common.{◌≡◌, ℕ, List, [], ◌∷◌, length, ℤ, None, Ok, Err, ◌⊎◌, inl, inr, refl, sym, ap, ◌∙◌, subst, arith}
use Rattle.std.specs.Prelude.{slice_index_or}
use Rattle.digit_tuple.specs.Steps.{StepLog}
use Rattle.digit_tuple.specs.declared.step_fault.StepFault.{StepFault}
use Rattle.digit_tuple.specs.declared.step_fault.StepFault.TheVariants.{Memory}
use Rattle.num_system.specs.Sealed.{SystemValue}
use Rattle.num_system.specs.Tracks.{absent_system, direction_of}
use Rattle.morph_words.specs.Rules.{Rules}
use Rattle.word_output.specs.Words.{IsWordValue, WordValue}
use Rattle.formula_parse.specs.Tokens.{Name}
use Rattle.formula_build.specs.Solutions.{direction_named}
use Rattle.combinations.specs.CombineSteps.{DoesCombine}
use Rattle.combinations.specs.Parts.{PartValue}
use Rattle.combinations.specs.declared.combine_fault.CombineFault.{CombineFault}
use Rattle.combinations.specs.declared.combine_fault.CombineFault.TheVariants.{Shape, Step}
use Rattle.word_commands.specs.ImageSteps.{DoesMapped}
use Rattle.word_images.specs.ImageWords.{AreOutputs, IsImageWord, IsMapped}
use Rattle.word_commands.specs.LetterParts.{AreBuilt, AreLetterParts, IsLetterStopped, IsUsable}
use Rattle.word_commands.specs.LetterSettings.{IsSetting, library_in}
use Rattle.word_commands.specs.declared.setting.Setting.{Setting}
use Rattle.word_commands.proofs.LetterPlaces.{image_word, no_shape_fault}
use Rattle.word_commands.proofs.PartLemmas.{built_values, letters_done, letters_stopped}

one_track : (ss : List SystemValue) → length ss ≡ 1 → ss ≡ slice_index_or ss 0 absent_system ∷ []
one_track [] one = absurd (omega (arith, one))
one_track (v ∷ []) one = refl
one_track (v ∷ w ∷ ss) one = absurd (omega (arith, one))

module _ (rules : Rules) (word : WordValue) (s : Name) (k : ℕ) (t : Setting) (track : length word.systems ≡ 1) (mapped : IsMapped rules word k) (setting : IsSetting rules word s k t) where
  abbrev system : SystemValue
  system = slice_index_or word.systems 0 absent_system

  -- the setting serves the formulas of letters
  pub usable : direction_of word.systems ≡ direction_named s → IsUsable t s k
  usable direction = record {
    rules = rules;
    word = word;
    setting = setting;
    system = system;
    systems = one_track word.systems track;
    direction = sym (ap direction_of (one_track word.systems track)) ∙ direction;
    some = mapped.length_is.allowed.0;
    few = mapped.length_is.allowed.1;
  }

  -- the steps of a letter were refused
  pub letters_unmapped : (letters given : List ℤ) → AreOutputs rules word letters → given ≡ letters → (old new : StepLog) (fault : StepFault) → (fault ≡ Memory) ⊎ IsLetterStopped (library_in t) s k old given fault new
      → (fault ≡ Memory) ⊎ DoesMapped rules word s old (Err fault) new
  letters_unmapped letters given outputs given_are old new fault (inl memory) = inl memory
  letters_unmapped letters given outputs given_are old new fault (inr stopped) =
      let here : IsLetterStopped (library_in t) s k old letters fault new = subst (λ (bs : List ℤ). IsLetterStopped (library_in t) s k old bs fault new) given_are stopped in
      inr (k, mapped, inr (library_in t, setting.library, inr (letters, outputs, inr (fault, letters_stopped (library_in t) s k letters old new fault here, refl))))

  module _ (is : IsWordValue word) (letters given : List ℤ) (outputs : AreOutputs rules word letters) (given_are : given ≡ letters) (parts read : List PartValue) (read_are : read ≡ parts) (ss : List SystemValue) (ss_are : ss ≡ word.systems) (old middle : StepLog)
      (built : AreBuilt (library_in t) s k old given parts middle) (are : AreLetterParts t s k parts) where
    built_here : AreBuilt (library_in t) s k old letters read middle
    built_here = subst (λ (bs : List ℤ). AreBuilt (library_in t) s k old bs read middle) given_are (subst (λ (ps : List PartValue). AreBuilt (library_in t) s k old given ps middle) (sym read_are) built)

    are_here : AreLetterParts t s k read
    are_here = subst (AreLetterParts t s k) (sym read_are) are

    pub one_shape : (f : CombineFault) (i j : ℕ) (new : StepLog) → f ≡ Shape i j → DoesCombine None read ss middle (Err f) new → ⊥
    one_shape f i j new is_shape refused =
        no_shape_fault t s k system read i j setting.library.systems are_here (subst (λ e. DoesCombine None read ss middle (Err e) new) is_shape refused).0

    -- what is combined is the image
    pub image_made : (v : WordValue) (new : StepLog) → DoesCombine None read ss middle (Ok v) new → IsImageWord rules word v
    image_made v new done =
        let moved = subst (λ (ts : List SystemValue). DoesCombine None read ts middle (Ok v) new) ss_are done in
        image_word rules word s k t is track mapped setting.library letters outputs read are_here (built_values (library_in t) s k letters read old middle built_here) v moved.1.step.made_is

    -- the steps are those of the image
    pub image_done : (v : WordValue) (new : StepLog) → DoesCombine None read ss middle (Ok v) new → DoesMapped rules word s old (Ok v) new
    image_done v new done =
        let moved = subst (λ (ts : List SystemValue). DoesCombine None read ts middle (Ok v) new) ss_are done in
        (k, mapped, inr (library_in t, setting.library, inr (letters, outputs, inl (read, middle, letters_done (library_in t) s k letters read old middle built_here, moved.1))))

    -- or the one that combines them is refused
    pub combining_stopped : (f : CombineFault) (fault : StepFault) (new : StepLog) → f ≡ Step fault → DoesCombine None read ss middle (Err f) new → DoesMapped rules word s old (Err fault) new
    combining_stopped f fault new is_step refused =
        let moved = subst (λ (ts : List SystemValue). DoesCombine None read ts middle (Err (Step fault)) new) ss_are (subst (λ e. DoesCombine None read ss middle (Err e) new) is_step refused) in
        (k, mapped, inr (library_in t, setting.library, inr (letters, outputs, inl (read, middle, letters_done (library_in t) s k letters read old middle built_here, moved.1))))

-- What is proved of each command: its word is its own, and its checks are sound.
use Rattle.std.proofs.Common.{◌≡◌, ℕ, ◌+◌, List, get_or, refl, sym, ap, ◌∙◌, ◌*◌, ◌==◌, if◌then◌else◌}
use Rattle.wal_outside.specs.declared.folder.Folder.TheVariants.{Automata, Results}
use Rattle.session_cli.specs.declared.actions.CommandWord.{CommandWord}
use Rattle.session_cli.specs.declared.actions.CommandWord.TheVariants as words
use Rattle.definitions.specs.Trees.{Ledger}
use Rattle.language_steps.specs.declared.op.LanguageOp.TheVariants.{Pair, One}
use Rattle.language_steps.specs.declared.op.OneOp.TheVariants.{Star, Reversal}
use Rattle.language_steps.specs.declared.op.PairOp.TheVariants.{Union, Intersection, Concatenation}
use Rattle.language_commands.specs.RegOutcomes.{reg_checks}
use Rattle.session_cli.specs.Outcomes.{word_text, checks_by}
use Rattle.formula_commands.specs.FormulaOutcomes.{formula_checks}
use Rattle.session_cli.specs.TextOutcomes.{macro_checks, morphism_checks}
use Rattle.word_commands.specs.PromoteOutcomes.{promote_checks}
use Rattle.word_commands.specs.CombineOutcomes.{combine_checks}
use Rattle.word_commands.specs.ImageOutcomes.{image_checks}
use Rattle.language_commands.specs.LanguageOutcomes.{language_checks}
use Rattle.listing_commands.specs.ListingOutcomes.{inf_checks, test_checks}
use Rattle.word_commands.specs.TransduceOutcomes.{transduce_checks}
use Rattle.word_commands.specs.ConvertOutcomes.{convert_checks}
use Rattle.command_parts.specs.Accepting.{Accepted}
use Rattle.command_parts.proofs.SoundChecks.{AreSound, AcceptedMayBeStored, storing_sound, saying_sound, automata_no_base, automata_no_word, results_no_base, results_no_word}
use Rattle.formula_commands.proofs.FormulaSoundness.{formula_sound}
use Rattle.word_commands.proofs.PromoteSoundness.{promote_sound}
use Rattle.word_commands.proofs.CombineSoundness.{combine_sound}
use Rattle.word_commands.proofs.ImageSoundness.{image_sound}
use Rattle.word_commands.proofs.TransduceSoundness.{transduce_sound}
use Rattle.word_commands.proofs.ConvertSoundness.{convert_sound}
use Rattle.language_commands.proofs.RegSoundness.{reg_sound}
use Rattle.language_commands.proofs.LanguageSoundness.{language_sound}
use Rattle.listing_commands.proofs.ListingSoundness.{inf_sound, test_sound}
use Rattle.session_cli.specs.TextSoundness.{macro_sound, morphism_sound}

-- the words of commands differ in their first three letters, but for `concat` and `convert`, which differ in the fourth
abbrev letters_of_word : List ℕ → ℕ
letters_of_word xs = 1000000 * get_or xs 0 0 + (1000 * get_or xs 1 0 + get_or xs 2 0)

abbrev fourth_letter : List ℕ → ℕ
fourth_letter xs = get_or xs 3 0

abbrev word_by_letters : ℕ → ℕ → CommandWord
word_by_letters n fourth =
    if n == 114101103 then words.Reg
    else if n == 101118097 then words.Eval
    else if n == 100101102 then words.Def
    else if n == 109097099 then words.Macro
    else if n == 109111114 then words.Morphism
    else if n == 112114111 then words.Promote
    else if n == 105109097 then words.Image
    else if n == 117110105 then words.Language (Pair Union)
    else if n == 105110116 then words.Language (Pair Intersection)
    else if n == 99111110 then (if fourth == 118 then words.Convert else words.Language (Pair Concatenation))
    else if n == 115116097 then words.Language (One Star)
    else if n == 114101118 then words.Language (One Reversal)
    else if n == 116114097 then words.Transduce
    else if n == 116101115 then words.Test
    else if n == 105110102 then words.Inf
    else words.Combine

word_again : (word : CommandWord) → word_by_letters (letters_of_word (word_text word)) (fourth_letter (word_text word)) ≡ word
word_again words.Reg = refl
word_again words.Eval = refl
word_again words.Def = refl
word_again words.Macro = refl
word_again words.Morphism = refl
word_again words.Promote = refl
word_again words.Combine = refl
word_again words.Image = refl
word_again (words.Language (Pair Union)) = refl
word_again (words.Language (Pair Intersection)) = refl
word_again (words.Language (Pair Concatenation)) = refl
word_again (words.Language (One Star)) = refl
word_again (words.Language (One Reversal)) = refl
word_again words.Transduce = refl
word_again words.Test = refl
word_again words.Inf = refl
word_again words.Convert = refl

pub one_word : (text : List ℕ) (v w : CommandWord) → text ≡ word_text v → text ≡ word_text w → v ≡ w
one_word text v w a b = sym (word_again v) ∙ (ap (λ (xs : List ℕ). word_by_letters (letters_of_word xs) (fourth_letter xs)) (sym a ∙ b) ∙ word_again w)

-- what is proved of the checks of each command
pub sound_by_word : (word : CommandWord) (limit : ℕ) (ledger : Ledger) (text : List ℕ) → AreSound Accepted AcceptedMayBeStored limit ledger (checks_by word limit ledger text)
sound_by_word words.Reg limit ledger text = storing_sound limit ledger (reg_checks limit ledger text) (reg_sound limit ledger text)
sound_by_word words.Eval limit ledger text = storing_sound limit ledger (formula_checks (word_text words.Eval) Results limit ledger text) (formula_sound (word_text words.Eval) Results results_no_word results_no_base limit ledger text)
sound_by_word words.Def limit ledger text = storing_sound limit ledger (formula_checks (word_text words.Def) Automata limit ledger text) (formula_sound (word_text words.Def) Automata automata_no_word automata_no_base limit ledger text)
sound_by_word words.Macro limit ledger text = storing_sound limit ledger (macro_checks ledger text) (macro_sound limit ledger text)
sound_by_word words.Morphism limit ledger text = storing_sound limit ledger (morphism_checks ledger text) (morphism_sound limit ledger text)
sound_by_word words.Promote limit ledger text = storing_sound limit ledger (promote_checks limit ledger text) (promote_sound limit ledger text)
sound_by_word words.Combine limit ledger text = storing_sound limit ledger (combine_checks limit ledger text) (combine_sound limit ledger text)
sound_by_word words.Image limit ledger text = storing_sound limit ledger (image_checks limit ledger text) (image_sound limit ledger text)
sound_by_word (words.Language op) limit ledger text = storing_sound limit ledger (language_checks op limit ledger text) (language_sound op limit ledger text)
sound_by_word words.Test limit ledger text = saying_sound limit ledger (test_checks limit ledger text) (test_sound limit ledger text)
sound_by_word words.Inf limit ledger text = saying_sound limit ledger (inf_checks limit ledger text) (inf_sound limit ledger text)
sound_by_word words.Transduce limit ledger text = storing_sound limit ledger (transduce_checks limit ledger text) (transduce_sound limit ledger text)
sound_by_word words.Convert limit ledger text = storing_sound limit ledger (convert_checks limit ledger text) (convert_sound limit ledger text)

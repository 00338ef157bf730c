-- An entry has one text, and so it is stored in one way.
use Rattle.std.proofs.Common.{◌≡◌, ℕ, ◌<◌, ◌≤◌, ◌⊎◌, List, length, Result, Ok, Err, sym, ap, ◌∙◌, inl, inr, arith}
use Rattle.command_parts.specs.declared.text_refusal.TextRefusal.TheVariants as text_refusals
use Rattle.command_parts.specs.declared.refusal.Refusal.{Refusal}
use Rattle.command_parts.specs.declared.refusal.Refusal.TheVariants as refusals
use Rattle.definitions.specs.Texts.{HasText}
use Rattle.system_files.specs.SystemFiles.{Custom}
use Rattle.command_parts.specs.Accepting.{Success, StoredAnswers, stored}
use Rattle.command_parts.specs.Checks.{IsSingle}
use Rattle.definitions.proofs.OneTexts.{one_text_of}

-- what is stored
abbrev IsStored : Success → List ℕ → Result Success Refusal → Type 0
IsStored made text r = ((length text ≤ 16777216) × (r ≡ Ok made)) ⊎ ((16777216 < length text) × (r ≡ Err (refusals.Text (text_refusals.Long 16777216))))

stored_is : (custom : Custom) (made : Success) (text : List ℕ) → HasText custom made.entry text → (r : Result Success Refusal) → StoredAnswers custom made r → IsStored made text r
stored_is custom made text has (Ok success) (is, (other, has', fits)) = inl (rw (one_text_of custom made.entry text other has has') fits, ap (λ (s : Success). let a : Result Success Refusal = Ok s in a) is)
stored_is custom made text has (Err refusal) (is, (other, has', long)) = inr (rw (one_text_of custom made.entry text other has has') long, ap (λ (why : Refusal). let a : Result Success Refusal = Err why in a) is)

some_text : (custom : Custom) (made : Success) (r : Result Success Refusal) → StoredAnswers custom made r → (text : List ℕ) × HasText custom made.entry text
some_text custom made (Ok success) (is, (text, has, fits)) = (text, has)
some_text custom made (Err refusal) (is, (text, has, long)) = (text, has)

pub stored_single : (custom : Custom) (made : Success) → IsSingle (stored custom made)
stored_single custom made r s a b =
    let there : (text : List ℕ) × HasText custom made.entry text = some_text custom made r a in
    by_length there.0 (stored_is custom made there.0 there.1 r a) (stored_is custom made there.0 there.1 s b)
  where
    by_length : (text : List ℕ) → IsStored made text r → IsStored made text s → r ≡ s
    by_length text (inl (fits, is)) (inl (fits', is')) = is ∙ sym is'
    by_length text (inl (fits, is)) (inr (long, is')) = absurd (omega arith)
    by_length text (inr (long, is)) (inl (fits, is')) = absurd (omega arith)
    by_length text (inr (long, is)) (inr (long', is')) = is ∙ sym is'

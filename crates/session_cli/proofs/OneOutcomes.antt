-- A command has one proper outcome.
use Rattle.std.proofs.Common.{◌≡◌, ◌≢◌, ℕ, ◌<◌, ◌≤◌, ◌⊎◌, List, length, Result, Ok, Err, refl, sym, ap, ◌∙◌, inl, inr, arith}
use Rattle.command_head.specs.Parts.{first_word_of}
use Rattle.command_parts.specs.declared.text_refusal.TextRefusal.TheVariants as text_refusals
use Rattle.command_parts.specs.declared.refusal.Refusal.{Refusal}
use Rattle.command_parts.specs.declared.refusal.Refusal.TheVariants as refusals
use Rattle.session_cli.specs.declared.actions.CommandWord.{CommandWord}
use Rattle.command_parts.specs.Checks.{Pure, IsSingle}
use Rattle.definitions.specs.Trees.{Ledger}
use Rattle.command_parts.specs.Accepting.{Accepted}
use Rattle.session_cli.specs.SoundCommands.{one_word, sound_by_word}
use Rattle.session_cli.specs.Outcomes.{LengthAnswers, WordAnswers, word_text, checks_by, after_length, Outcome}
use Rattle.command_parts.proofs.CheckSteps.{then_single}

-- the length, and the first word
pub length_single : (text : List ℕ) → IsSingle (Pure (LengthAnswers text))
length_single text r s a b = by_length (length_is r a) (length_is s b)
  where
    length_is : (x : Result (Unit {0}) Refusal) → LengthAnswers text x → ((length text ≤ 65536) × (x ≡ Ok tt)) ⊎ ((65536 < length text) × (x ≡ Err (refusals.Text (text_refusals.Long 65536))))
    length_is (Ok short) a = inl (a, refl)
    length_is (Err refusal) (is, long) = inr (long, ap (λ (why : Refusal). let x : Result (Unit {0}) Refusal = Err why in x) is)

    by_length : ((length text ≤ 65536) × (r ≡ Ok tt)) ⊎ ((65536 < length text) × (r ≡ Err (refusals.Text (text_refusals.Long 65536)))) → ((length text ≤ 65536) × (s ≡ Ok tt)) ⊎ ((65536 < length text) × (s ≡ Err (refusals.Text (text_refusals.Long 65536)))) → r ≡ s
    by_length (inl (short, is)) (inl (short', is')) = is ∙ sym is'
    by_length (inl (short, is)) (inr (long, is')) = absurd (omega arith)
    by_length (inr (long, is)) (inl (short, is')) = absurd (omega arith)
    by_length (inr (long, is)) (inr (long', is')) = is ∙ sym is'

word_single : (text : List ℕ) → IsSingle (Pure (WordAnswers text))
word_single text r s a b = by_word (word_is r a) (word_is s b)
  where
    word_is : (x : Result CommandWord Refusal) → WordAnswers text x → ((word : CommandWord) × (first_word_of text ≡ word_text word) × (x ≡ Ok word)) ⊎ (((word : CommandWord) → first_word_of text ≢ word_text word) × (x ≡ Err (refusals.Text text_refusals.Command)))
    word_is (Ok word) a = inl (word, a, refl)
    word_is (Err refusal) (is, none) = inr (none, ap (λ (why : Refusal). let x : Result CommandWord Refusal = Err why in x) is)

    by_word : ((word : CommandWord) × (first_word_of text ≡ word_text word) × (r ≡ Ok word)) ⊎ (((word : CommandWord) → first_word_of text ≢ word_text word) × (r ≡ Err (refusals.Text text_refusals.Command)))
        → ((word : CommandWord) × (first_word_of text ≡ word_text word) × (s ≡ Ok word)) ⊎ (((word : CommandWord) → first_word_of text ≢ word_text word) × (s ≡ Err (refusals.Text text_refusals.Command))) → r ≡ s
    by_word (inl (v, is, at)) (inl (w, is', at')) = at ∙ (ap (λ (x : CommandWord). let y : Result CommandWord Refusal = Ok x in y) (one_word (first_word_of text) v w is is') ∙ sym at')
    by_word (inl (v, is, at)) (inr (none, at')) = absurd (none v is)
    by_word (inr (none, at)) (inl (w, is', at')) = absurd (none w is')
    by_word (inr (none, at)) (inr (none', at')) = at ∙ sym at'

pub after_length_single : (limit : ℕ) (ledger : Ledger) (text : List ℕ) → IsSingle (after_length limit ledger text)
after_length_single limit ledger text =
    then_single (Pure (WordAnswers text)) (λ word. checks_by word limit ledger text) (word_single text) (λ word is. (sound_by_word word limit ledger text).single)

pub one_answer : (limit : ℕ) (ledger : Ledger) (text : List ℕ) (answer other : Result Accepted Refusal) → Outcome limit ledger text answer → Outcome limit ledger text other → answer ≡ other
one_answer limit ledger text =
    then_single (Pure (LengthAnswers text)) (λ done. after_length limit ledger text) (length_single text) (λ done short. after_length_single limit ledger text)

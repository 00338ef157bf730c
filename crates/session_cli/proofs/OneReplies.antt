-- A command of a script has one reply that is neither the store's nor memory's.
use Rattle.std.proofs.Common.{◌≡◌, ℕ, ◌<◌, ◌≤◌, ◌==◌, ◌⊎◌, if◌then◌else◌, List, get_or, Option, None, Some, Result, Ok, Err, refl, sym, ap, ◌∙◌, subst, inl, inr, arith, codes}
use Rattle.wal_outside.specs.declared.folder.Folder.TheVariants.{Commands}
use Rattle.command_head.specs.Parts.{first_word_of}
use Rattle.command_head.specs.Grammar.{DerivesLoad, DerivesAlone}
use Rattle.command_head.proofs.OneFault.{one_head}
use Rattle.command_head.proofs.RunHeads.{one_load, one_alone}
use Rattle.script_runs.specs.Languages.{Enters, Loads, Ends}
use Rattle.command_parts.specs.declared.file_refusal.FileRefusal.TheVariants as file_refusals
use Rattle.command_parts.specs.declared.refusal.Refusal.{Refusal}
use Rattle.command_parts.specs.declared.refusal.Refusal.TheVariants as refusals
use Rattle.session_cli.specs.declared.run_word.RunWord.{RunWord}
use Rattle.session_cli.specs.declared.run_word.RunWord.TheVariants as words
use Rattle.command_parts.specs.Checks.{Pure, Passing, Then, IsSingle}
use Rattle.command_parts.specs.HeadAnswers.{HeadAnswers}
use Rattle.session_cli.specs.Outcomes.{LengthAnswers, after_length}
use Rattle.session_cli.specs.RunOutcomes.{run_word_text, RunWordAnswers, DepthAnswers, TextIn, text_read, load_checks, checks_by_word, run_checks}
use Rattle.definitions.specs.Trees.{Ledger}
use Rattle.command_parts.proofs.CheckSteps.{then_single, passing_single}
use Rattle.command_parts.proofs.OneHeads.{head_single}
use Rattle.command_parts.proofs.OneLoadings.{same_there}
use Rattle.session_cli.proofs.OneOutcomes.{length_single, after_length_single}

-- one of two answers, of which each excludes the other
one_of_two : {X : Type 0} (P Q : Type 0) (x y r s : X) → (P → Q → ⊥) → (P × (r ≡ x)) ⊎ (Q × (r ≡ y)) → (P × (s ≡ x)) ⊎ (Q × (s ≡ y)) → r ≡ s
one_of_two P Q x y r s not_both (inl (p, is)) (inl (p', is')) = is ∙ sym is'
one_of_two P Q x y r s not_both (inl (p, is)) (inr (q, is')) = absurd (not_both p q)
one_of_two P Q x y r s not_both (inr (q, is)) (inl (p, is')) = absurd (not_both p q)
one_of_two P Q x y r s not_both (inr (q, is)) (inr (q', is')) = is ∙ sym is'

depth_single : (depth : ℕ) (name : List ℕ) → IsSingle (Pure (DepthAnswers depth name))
depth_single depth name r s a b = one_of_two (depth < 8) (8 ≤ depth) (Ok tt) (Err (refusals.File (file_refusals.LoadDepth name))) r s (λ less more. omega arith) a b

text_in_single : (name : List ℕ) (there : Option (List ℕ)) (r s : Result (List ℕ) Refusal) → TextIn name there r → TextIn name there s → r ≡ s
text_in_single name None r s a b = a ∙ sym b
text_in_single name (Some text) r s a b = one_of_two _ _ _ _ r s (λ short long. omega arith) a b

text_single : (ledger : Ledger) (name : List ℕ) → IsSingle (text_read ledger name)
text_single ledger name r s (files, stores, a) (others, also, b) =
    let P : Option (List ℕ) → Type 0 = λ there. TextIn name there s in
    text_in_single name (files Commands name) r s a (subst P (sym (same_there ledger files others stores also Commands name)) b)

load_single : (depth : ℕ) (ledger : Ledger) (text : List ℕ) → IsSingle (load_checks depth ledger text)
load_single depth ledger text =
    then_single (Pure (HeadAnswers DerivesLoad text)) (λ name. Then (Pure (DepthAnswers depth name)) (λ few. text_read ledger name)) (head_single DerivesLoad (one_head DerivesLoad one_load) text) (λ name head.
    then_single (Pure (DepthAnswers depth name)) (λ few. text_read ledger name) (depth_single depth name) (λ few less. text_single ledger name))

-- the words differ in their first letter
abbrev word_by_letter : ℕ → RunWord
word_by_letter n = if n == 108 then words.Load else if n == 101 then words.Exit else words.Quit

word_again : (word : RunWord) → word_by_letter (get_or (run_word_text word) 0 0) ≡ word
word_again words.Load = refl
word_again words.Exit = refl
word_again words.Quit = refl

one_word : (text : List ℕ) (v w : RunWord) → text ≡ run_word_text v → text ≡ run_word_text w → v ≡ w
one_word text v w a b = sym (word_again v) ∙ (ap (λ (xs : List ℕ). word_by_letter (get_or xs 0 0)) (sym a ∙ b) ∙ word_again w)

word_single : (text : List ℕ) → IsSingle (Pure (RunWordAnswers text))
word_single text r s (inl (v, is, at)) (inl (w, is', at')) = at ∙ (ap (λ (x : RunWord). let y : Result (Option RunWord) Refusal = Ok (Some x) in y) (one_word (first_word_of text) v w is is') ∙ sym at')
word_single text r s (inl (v, is, at)) (inr (none, at')) = absurd (none v is)
word_single text r s (inr (none, at)) (inl (w, is', at')) = absurd (none w is')
word_single text r s (inr (none, at)) (inr (none', at')) = at ∙ sym at'

single_by_word : (word : Option RunWord) (limit depth : ℕ) (ledger : Ledger) (text : List ℕ) → IsSingle (checks_by_word word limit depth ledger text)
single_by_word None limit depth ledger text =
    then_single (after_length limit ledger text) (λ accepted. Passing (λ deed. deed ≡ Enters accepted)) (after_length_single limit ledger text) (λ accepted made. passing_single (Enters accepted))
single_by_word (Some words.Load) limit depth ledger text =
    then_single (load_checks depth ledger text) (λ loaded. Passing (λ deed. deed ≡ Loads loaded)) (load_single depth ledger text) (λ loaded read. passing_single (Loads loaded))
single_by_word (Some words.Exit) limit depth ledger text =
    then_single (Pure (HeadAnswers (DerivesAlone (codes "exit")) text)) (λ done. Passing (λ deed. deed ≡ Ends)) (head_single (DerivesAlone (codes "exit")) (one_head (DerivesAlone (codes "exit")) (one_alone (codes "exit"))) text) (λ done head. passing_single Ends)
single_by_word (Some words.Quit) limit depth ledger text =
    then_single (Pure (HeadAnswers (DerivesAlone (codes "quit")) text)) (λ done. Passing (λ deed. deed ≡ Ends)) (head_single (DerivesAlone (codes "quit")) (one_head (DerivesAlone (codes "quit")) (one_alone (codes "quit"))) text) (λ done head. passing_single Ends)

pub one_reply : (limit depth : ℕ) (ledger : Ledger) (text : List ℕ) → IsSingle (run_checks limit depth ledger text)
one_reply limit depth ledger text =
    then_single (Pure (LengthAnswers text)) (λ short. Then (Pure (RunWordAnswers text)) (λ word. checks_by_word word limit depth ledger text)) (length_single text) (λ done short.
    then_single (Pure (RunWordAnswers text)) (λ word. checks_by_word word limit depth ledger text) (word_single text) (λ word is. single_by_word word limit depth ledger text))

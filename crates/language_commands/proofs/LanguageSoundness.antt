-- What is proved of the checks of a command that makes a language of others.
use Rattle.std.proofs.Common.{ℕ, List, Ok, Err, sym, subst, inl, inr}
use Rattle.adder_check.specs.declared.admit_fault.Law.{Law}
use Rattle.definitions.specs.Trees.{Ledger}
use Rattle.command_parts.specs.Accepting.{Success}
use Rattle.language_steps.specs.declared.op.LanguageOp.{LanguageOp}
use Rattle.language_commands.specs.LanguageOutcomes.{language_checks}
use Rattle.command_parts.proofs.SoundChecks.{AreSound, MayBeStored, RefusesSystem, by_law, no_step, no_load, no_head, automata_no_base, automata_no_word}
use Rattle.language_commands.proofs.OneLanguages.{language_single}

-- what it stores is no word
language_may_be_stored : (op : LanguageOp) (limit : ℕ) (ledger : Ledger) (text : List ℕ) (success : Success) → (language_checks op limit ledger text).answers (Ok success) → MayBeStored success
language_may_be_stored op limit ledger text success (head, h, (tables, t, (plain, p, (sets, s, (lines, l, (is, fits)))))) = subst MayBeStored (sym is) (automata_no_base, (automata_no_word, automata_no_base))

-- no system is refused
by_language : (limit : ℕ) (ledger : Ledger) (name : List ℕ) (law : Law) → (op : LanguageOp) (command : List ℕ) → (language_checks op limit ledger command).answers (Err (by_law name law)) → RefusesSystem limit ledger name law
by_language limit ledger name law op command (inl (own, is, refused)) = absurd (no_head name law own is)
by_language limit ledger name law op command (inr (head, h, inl (own, is, refused))) = absurd (no_load name law own is)
by_language limit ledger name law op command (inr (head, h, inr (tables, t, inl (own, is, refused)))) = absurd cc
by_language limit ledger name law op command (inr (head, h, inr (tables, t, inr (plain, p, inl (own, is, refused))))) = absurd cc
by_language limit ledger name law op command (inr (head, h, inr (tables, t, inr (plain, p, inr (sets, o, inl (own, is, refused)))))) = absurd (no_step name law own is)
by_language limit ledger name law op command (inr (head, h, inr (tables, t, inr (plain, p, inr (sets, o, inr (lines, l, (is, long))))))) = absurd cc

-- what is proved of its checks
pub language_sound : (op : LanguageOp) (limit : ℕ) (ledger : Ledger) (text : List ℕ) → AreSound Success MayBeStored limit ledger (language_checks op limit ledger text)
language_sound op limit ledger text = record {
  single = language_single op limit ledger text;
  may_be_stored = λ success made. language_may_be_stored op limit ledger text success made;
  refused = λ at law refused. by_language limit ledger at law op text refused;
}

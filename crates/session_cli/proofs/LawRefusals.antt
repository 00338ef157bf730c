-- Which check refuses a command by a law of a user's system: that of the systems.
use Rattle.std.proofs.Common.{ℕ, List, Err, inl, inr}
use Rattle.adder_check.specs.declared.admit_fault.Law.{Law}
use Rattle.definitions.specs.Trees.{Ledger}
use Rattle.session_cli.specs.Outcomes.{checks_of}
use Rattle.command_parts.proofs.SoundChecks.{RefusesSystem, by_law}
use Rattle.session_cli.specs.SoundCommands.{sound_by_word}

pub refused_by_law : (limit : ℕ) (ledger : Ledger) (name : List ℕ) (law : Law) (command : List ℕ) → (checks_of limit ledger command).answers (Err (by_law name law)) → RefusesSystem limit ledger name law
refused_by_law limit ledger name law command (inl (is, long)) = absurd cc
refused_by_law limit ledger name law command (inr (done, short, inl (is, none))) = absurd cc
refused_by_law limit ledger name law command (inr (done, short, inr (word, is_word, refused))) = (sound_by_word word limit ledger command).refused name law refused

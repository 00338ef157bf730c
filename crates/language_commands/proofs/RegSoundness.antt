-- What is proved of the checks of a `reg`.
use Rattle.std.proofs.Common.{◌≡◌, ℕ, List, Ok, Err, sym, subst, inl, inr}
use Rattle.adder_check.specs.declared.admit_fault.Law.{Law}
use Rattle.system_files.specs.SystemFiles.{Custom}
use Rattle.definitions.specs.Trees.{Ledger, custom_of}
use Rattle.command_parts.specs.declared.fault.Fault.TheVariants as faults
use Rattle.command_parts.specs.Accepting.{Success}
use Rattle.command_head.specs.Heads as heads
use Rattle.language_commands.specs.RegOutcomes.{TracksAnswers, reg_checks, systems_named}
use Rattle.command_parts.specs.RegexFaults.{fault_of_regex}
use Rattle.regex_build.specs.declared.fault.RegexFault.{RegexFault}
use Rattle.regex_build.specs.declared.fault.RegexFault.TheVariants as regexes
use Rattle.command_parts.proofs.SoundChecks.{AreSound, MayBeStored, RefusesSystem, by_law, no_step, no_head, automata_no_base, automata_no_word}
use Rattle.language_commands.proofs.OneRegs.{reg_single}

no_regex : (name : List ℕ) (law : Law) → (fault : RegexFault) → fault_of_regex fault ≡ faults.Refused (by_law name law) → ⊥
no_regex name law (regexes.Syntax at) is = cc
no_regex name law (regexes.Number at) is = cc
no_regex name law (regexes.Depth at) is = cc
no_regex name law regexes.Memory is = cc

no_track : (name : List ℕ) (law : Law) → (custom : Custom) (of_head : heads.Alphabets) → TracksAnswers custom of_head (Err (by_law name law)) → ⊥
no_track name law custom (heads.Sets sets) refused = refused
no_track name law custom (heads.Systems names) (first, other, is, part) = cc

-- what it stores is no word
reg_may_be_stored : (limit : ℕ) (ledger : Ledger) (text : List ℕ) (success : Success) → (reg_checks limit ledger text).answers (Ok success) → MayBeStored success
reg_may_be_stored limit ledger text success (head, h, (admitted, a, (tracks, t, (pattern, p, (lines, l, (is, fits)))))) = subst MayBeStored (sym is) (automata_no_base, (automata_no_word, automata_no_base))

-- a refusal by a law is one of its systems
by_reg : (limit : ℕ) (ledger : Ledger) (name : List ℕ) (law : Law) → (command : List ℕ) → (reg_checks limit ledger command).answers (Err (by_law name law)) → RefusesSystem limit ledger name law
by_reg limit ledger name law command (inl (own, is, refused)) = absurd (no_head name law own is)
by_reg limit ledger name law command (inr (head, h, inl refused)) = (systems_named head.alphabets, refused)
by_reg limit ledger name law command (inr (head, h, inr (admitted, a, inl refused))) = absurd (no_track name law (custom_of ledger) head.alphabets refused)
by_reg limit ledger name law command (inr (head, h, inr (admitted, a, inr (tracks, t, inl (own, is, refused))))) = absurd (no_regex name law own is)
by_reg limit ledger name law command (inr (head, h, inr (admitted, a, inr (tracks, t, inr (pattern, p, inl (own, is, refused)))))) = absurd (no_step name law own is)
by_reg limit ledger name law command (inr (head, h, inr (admitted, a, inr (tracks, t, inr (pattern, p, inr (lines, l, (is, long))))))) = absurd cc

-- what is proved of its checks
pub reg_sound : (limit : ℕ) (ledger : Ledger) (text : List ℕ) → AreSound Success MayBeStored limit ledger (reg_checks limit ledger text)
reg_sound limit ledger text = record {
  single = reg_single limit ledger text;
  may_be_stored = λ success made. reg_may_be_stored limit ledger text success made;
  refused = λ at law refused. by_reg limit ledger at law text refused;
}

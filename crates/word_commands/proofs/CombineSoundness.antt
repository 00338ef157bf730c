-- What is proved of the checks of a `combine`.
use Rattle.std.proofs.Common.{ℕ, List, Ok, Err, refl, sym, subst, inl, inr}
use Rattle.adder_check.specs.declared.admit_fault.Law.{Law}
use Rattle.definitions.specs.Trees.{Ledger}
use Rattle.command_parts.specs.Accepting.{Success}
use Rattle.word_commands.specs.CombineOutcomes.{combine_checks, listed_systems}
use Rattle.command_parts.proofs.SoundChecks.{AreSound, MayBeStored, RefusesSystem, by_law, no_step, no_load, no_head, words_no_base}
use Rattle.word_commands.proofs.OneCombines.{combine_single}

-- what it stores is among words
combine_may_be_stored : (limit : ℕ) (ledger : Ledger) (text : List ℕ) (success : Success) → (combine_checks limit ledger text).answers (Ok success) → MayBeStored success
combine_may_be_stored limit ledger text success (head, h, (tables, t, (admitted, a, (none, p, (one, s, (lines, l, (tracks, u, (is, fits)))))))) = subst MayBeStored (sym is) (words_no_base, refl)

-- a refusal by a law is one of its systems
by_combine : (limit : ℕ) (ledger : Ledger) (name : List ℕ) (law : Law) → (command : List ℕ) → (combine_checks limit ledger command).answers (Err (by_law name law)) → RefusesSystem limit ledger name law
by_combine limit ledger name law command (inl (own, is, refused)) = absurd (no_head name law own is)
by_combine limit ledger name law command (inr (head, h, inl (own, is, refused))) = absurd (no_load name law own is)
by_combine limit ledger name law command (inr (head, h, inr (tables, t, inl refused))) = (listed_systems tables head.automata, refused)
by_combine limit ledger name law command (inr (head, h, inr (tables, t, inr (admitted, a, inl (own, is, refused))))) = absurd cc
by_combine limit ledger name law command (inr (head, h, inr (tables, t, inr (admitted, a, inr (none, p, inl (first, other, is, refused)))))) = absurd cc
by_combine limit ledger name law command (inr (head, h, inr (tables, t, inr (admitted, a, inr (none, p, inr (shape, s, inl (own, is, refused))))))) = absurd (no_step name law own is)
by_combine limit ledger name law command (inr (head, h, inr (tables, t, inr (admitted, a, inr (none, p, inr (shape, s, inr (lines, l, inl refused))))))) = absurd refused
by_combine limit ledger name law command (inr (head, h, inr (tables, t, inr (admitted, a, inr (none, p, inr (shape, s, inr (lines, l, inr (tracks, u, (is, long))))))))) = absurd cc

-- what is proved of its checks
pub combine_sound : (limit : ℕ) (ledger : Ledger) (text : List ℕ) → AreSound Success MayBeStored limit ledger (combine_checks limit ledger text)
combine_sound limit ledger text = record {
  single = combine_single limit ledger text;
  may_be_stored = λ success made. combine_may_be_stored limit ledger text success made;
  refused = λ at law refused. by_combine limit ledger at law text refused;
}

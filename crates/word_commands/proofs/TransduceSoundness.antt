-- What is proved of the checks of a `transduce`.
use Rattle.std.proofs.Common.{ℕ, List, Ok, Err, refl, sym, subst, inl, inr}
use Rattle.adder_check.specs.declared.admit_fault.Law.{Law}
use Rattle.definitions.specs.Trees.{Ledger}
use Rattle.command_parts.specs.Accepting.{Success}
use Rattle.dfa_loading.specs.Headers.{headers_of}
use Rattle.formula_resolve.specs.FirstMentions.{first_systems}
use Rattle.word_commands.specs.ImageOutcomes.{old_mentions}
use Rattle.word_commands.specs.TransduceOutcomes.{transduce_checks}
use Rattle.command_parts.proofs.SoundChecks.{AreSound, MayBeStored, RefusesSystem, by_law, no_step, no_load, no_head, words_no_base}
use Rattle.word_commands.proofs.OneTransduces.{transduce_single}

-- what it stores is among words
transduce_may_be_stored : (limit : ℕ) (ledger : Ledger) (text : List ℕ) (success : Success) → (transduce_checks limit ledger text).answers (Ok success) → MayBeStored success
transduce_may_be_stored limit ledger text success (head, h, (t, r, (tables, f, (admitted, a, (over, o, (lines, l, (entry, e, (is, fits)))))))) = subst MayBeStored (sym is) (words_no_base, refl)

-- a refusal by a law is one of its systems
by_transduce : (limit : ℕ) (ledger : Ledger) (name : List ℕ) (law : Law) → (command : List ℕ) → (transduce_checks limit ledger command).answers (Err (by_law name law)) → RefusesSystem limit ledger name law
by_transduce limit ledger name law command (inl (own, is, refused)) = absurd (no_head name law own is)
by_transduce limit ledger name law command (inr (head, h, inl (own, is, refused))) = absurd (no_load name law own is)
by_transduce limit ledger name law command (inr (head, h, inr (t, r, inl (own, is, refused)))) = absurd (no_load name law own is)
by_transduce limit ledger name law command (inr (head, h, inr (t, r, inr (tables, l, inl refused)))) = (first_systems (headers_of tables) (old_mentions head.old), refused)
by_transduce limit ledger name law command (inr (head, h, inr (t, r, inr (tables, l, inr (admitted, a, inl (own, is, refused)))))) = absurd cc
by_transduce limit ledger name law command (inr (head, h, inr (t, r, inr (tables, l, inr (admitted, a, inr (over, o, inl (own, is, refused))))))) = absurd (no_step name law own is)
by_transduce limit ledger name law command (inr (head, h, inr (t, r, inr (tables, l, inr (admitted, a, inr (over, o, inr (lines, d, inl refused))))))) = absurd refused
by_transduce limit ledger name law command (inr (head, h, inr (t, r, inr (tables, l, inr (admitted, a, inr (over, o, inr (lines, d, inr (entry, e, (is, long))))))))) = absurd cc

-- what is proved of its checks
pub transduce_sound : (limit : ℕ) (ledger : Ledger) (text : List ℕ) → AreSound Success MayBeStored limit ledger (transduce_checks limit ledger text)
transduce_sound limit ledger text = record {
  single = transduce_single limit ledger text;
  may_be_stored = λ success made. transduce_may_be_stored limit ledger text success made;
  refused = λ at law refused. by_transduce limit ledger at law text refused;
}

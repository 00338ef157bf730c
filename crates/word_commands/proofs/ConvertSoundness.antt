-- What is proved of the checks of a `convert`.
use Rattle.std.proofs.Common.{ℕ, List, Ok, Err, refl, sym, subst, inl, inr}
use Rattle.adder_check.specs.declared.admit_fault.Law.{Law}
use Rattle.definitions.specs.Trees.{Ledger}
use Rattle.command_parts.specs.Accepting.{Success}
use Rattle.dfa_loading.specs.Headers.{headers_of}
use Rattle.formula_resolve.specs.FirstMentions.{first_systems}
use Rattle.word_commands.specs.ConvertOutcomes.{convert_checks}
use Rattle.word_commands.specs.ImageOutcomes.{old_mentions}
use Rattle.command_parts.proofs.SoundChecks.{AreSound, MayBeStored, RefusesSystem, by_law, no_step, no_load, no_head, words_no_base}
use Rattle.word_commands.proofs.OneConverts.{convert_single}

-- what it stores is among words
convert_may_be_stored : (limit : ℕ) (ledger : Ledger) (text : List ℕ) (success : Success) → (convert_checks limit ledger text).answers (Ok success) → MayBeStored success
convert_may_be_stored limit ledger text success (head, h, (tables, f, (other, u, (admitted, a, (over, o, (change, c, (lines, l, (entry, e, (is, fits))))))))) = subst MayBeStored (sym is) (words_no_base, refl)

-- a refusal by a law is one of its systems
by_convert : (limit : ℕ) (ledger : Ledger) (name : List ℕ) (law : Law) → (command : List ℕ) → (convert_checks limit ledger command).answers (Err (by_law name law)) → RefusesSystem limit ledger name law
by_convert limit ledger name law command (inl (own, is, refused)) = absurd (no_head name law own is)
by_convert limit ledger name law command (inr (head, h, inl (own, is, refused))) = absurd (no_load name law own is)
by_convert limit ledger name law command (inr (head, h, inr (tables, t, inl (own, is, refused)))) = absurd cc
by_convert limit ledger name law command (inr (head, h, inr (tables, t, inr (known, k, inl refused)))) = (first_systems (headers_of tables) (old_mentions head.old), refused)
by_convert limit ledger name law command (inr (head, h, inr (tables, t, inr (known, k, inr (admitted, a, inl (own, is, refused)))))) = absurd cc
by_convert limit ledger name law command (inr (head, h, inr (tables, t, inr (known, k, inr (admitted, a, inr (over, o, inl (own, is, refused))))))) = absurd cc
by_convert limit ledger name law command (inr (head, h, inr (tables, t, inr (known, k, inr (admitted, a, inr (over, o, inr (change, c, inl (own, is, refused)))))))) = absurd (no_step name law own is)
by_convert limit ledger name law command (inr (head, h, inr (tables, t, inr (known, k, inr (admitted, a, inr (over, o, inr (change, c, inr (lines, d, inl refused)))))))) = absurd refused
by_convert limit ledger name law command (inr (head, h, inr (tables, t, inr (known, k, inr (admitted, a, inr (over, o, inr (change, c, inr (lines, d, inr (entry, e, (is, long)))))))))) = absurd cc

-- what is proved of its checks
pub convert_sound : (limit : ℕ) (ledger : Ledger) (text : List ℕ) → AreSound Success MayBeStored limit ledger (convert_checks limit ledger text)
convert_sound limit ledger text = record {
  single = convert_single limit ledger text;
  may_be_stored = λ success made. convert_may_be_stored limit ledger text success made;
  refused = λ at law refused. by_convert limit ledger at law text refused;
}

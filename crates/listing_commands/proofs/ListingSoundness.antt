-- What is proved of the checks of a `test` and an `inf`.
use Rattle.std.proofs.Common.{ℕ, List, Err, inl, inr}
use Rattle.std.specs.Prelude.{⊤}
use Rattle.adder_check.specs.declared.admit_fault.Law.{Law}
use Rattle.definitions.specs.Trees.{Ledger}
use Rattle.command_parts.specs.Accepting.{Said}
use Rattle.table_listings.specs.declared.question.Question.{Question}
use Rattle.table_listings.specs.declared.question.Question.TheVariants.{Infinity}
use Rattle.listing_commands.specs.ListingOutcomes.{after_listing_head, inf_checks, listing_systems, test_checks, words_asked}
use Rattle.command_parts.proofs.SoundChecks.{AreSound, RefusesSystem, by_law, no_step, no_load, no_head}
use Rattle.listing_commands.proofs.OneListings.{inf_single, test_single}

-- a refusal by a law is one of the systems of the automaton
by_listing : (limit : ℕ) (ledger : Ledger) (name : List ℕ) (law : Law) → (of : List ℕ) (question : Question) → (after_listing_head limit ledger of question).answers (Err (by_law name law)) → RefusesSystem limit ledger name law
by_listing limit ledger name law of question (inl (own, is, refused)) = absurd (no_load name law own is)
by_listing limit ledger name law of question (inr (tables, t, inl refused)) = (listing_systems tables of, refused)
by_listing limit ledger name law of question (inr (tables, t, inr (admitted, a, inl refused))) = absurd refused
by_listing limit ledger name law of question (inr (tables, t, inr (admitted, a, inr (tracks, u, inl (own, is, refused))))) = absurd cc
by_listing limit ledger name law of question (inr (tables, t, inr (admitted, a, inr (tracks, u, inr (on, p, inl (own, is, refused)))))) = absurd (no_step name law own is)
by_listing limit ledger name law of question (inr (tables, t, inr (admitted, a, inr (tracks, u, inr (on, p, inr (lines, l, inl (own, is, refused))))))) = absurd cc
by_listing limit ledger name law of question (inr (tables, t, inr (admitted, a, inr (tracks, u, inr (on, p, inr (lines, l, inr (reply, r, refused))))))) = absurd refused

by_test : (limit : ℕ) (ledger : Ledger) (name : List ℕ) (law : Law) → (command : List ℕ) → (test_checks limit ledger command).answers (Err (by_law name law)) → RefusesSystem limit ledger name law
by_test limit ledger name law command (inl (own, is, refused)) = absurd (no_head name law own is)
by_test limit ledger name law command (inr (head, h, refused)) = by_listing limit ledger name law head.name (words_asked head) refused

by_inf : (limit : ℕ) (ledger : Ledger) (name : List ℕ) (law : Law) → (command : List ℕ) → (inf_checks limit ledger command).answers (Err (by_law name law)) → RefusesSystem limit ledger name law
by_inf limit ledger name law command (inl (own, is, refused)) = absurd (no_head name law own is)
by_inf limit ledger name law command (inr (of, h, refused)) = by_listing limit ledger name law of Infinity refused

-- what is proved of the checks of a `test`
pub test_sound : (limit : ℕ) (ledger : Ledger) (text : List ℕ) → AreSound Said (λ said. ⊤) limit ledger (test_checks limit ledger text)
test_sound limit ledger text = record {
  single = test_single limit ledger text;
  may_be_stored = λ said made. tt;
  refused = λ at law refused. by_test limit ledger at law text refused;
}

-- what is proved of the checks of an `inf`
pub inf_sound : (limit : ℕ) (ledger : Ledger) (text : List ℕ) → AreSound Said (λ said. ⊤) limit ledger (inf_checks limit ledger text)
inf_sound limit ledger text = record {
  single = inf_single limit ledger text;
  may_be_stored = λ said made. tt;
  refused = λ at law refused. by_inf limit ledger at law text refused;
}

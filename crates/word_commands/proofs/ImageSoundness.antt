-- What is proved of the checks of an `image`.
use Rattle.std.proofs.Common.{◌≡◌, ℕ, List, Ok, Err, sym, subst, inl, inr}
use Rattle.wal_outside.specs.declared.folder.Folder.TheVariants.{Words}
use Rattle.adder_check.specs.declared.admit_fault.Law.{Law}
use Rattle.definitions.specs.Trees.{Ledger}
use Rattle.command_parts.specs.declared.fault.Fault.TheVariants as faults
use Rattle.command_parts.specs.Accepting.{Success}
use Rattle.dfa_loading.specs.Headers.{headers_of}
use Rattle.formula_resolve.specs.FirstMentions.{first_systems}
use Rattle.word_commands.specs.ImageOutcomes.{image_checks, old_mentions}
use Rattle.word_commands.specs.ImageFaults.{fault_of_imaging}
use Rattle.word_commands.specs.declared.image_fault.ImageFault.{ImageFault}
use Rattle.word_commands.specs.declared.image_fault.ImageFault.TheVariants as images
use Rattle.command_parts.proofs.SoundChecks.{AreSound, MayBeStored, RefusesSystem, by_law, no_step, no_load, no_head, words_no_base}
use Rattle.word_commands.proofs.OneImages.{image_single}

no_image : (name : List ℕ) (law : Law) → (fault : ImageFault) → fault_of_imaging fault ≡ faults.Refused (by_law name law) → ⊥
no_image name law (images.Morphism kind) is = cc
no_image name law (images.Missing letter) is = cc
no_image name law (images.Step fault) is = no_step name law fault is

-- what it stores is among words
image_may_be_stored : (limit : ℕ) (ledger : Ledger) (text : List ℕ) (success : Success) → (image_checks limit ledger text).answers (Ok success) → MayBeStored success
image_may_be_stored limit ledger text success (head, h, (rules, m, (tables, t, (admitted, a, (one, o, (uniform, u, (track, w, (lines, l, (entry, e, (is, fits)))))))))) = subst MayBeStored (sym is) (words_no_base, (λ i. Words))

-- a refusal by a law is one of its systems
by_image : (limit : ℕ) (ledger : Ledger) (name : List ℕ) (law : Law) → (command : List ℕ) → (image_checks limit ledger command).answers (Err (by_law name law)) → RefusesSystem limit ledger name law
by_image limit ledger name law command (inl (own, is, refused)) = absurd (no_head name law own is)
by_image limit ledger name law command (inr (head, h, inl (own, is, refused))) = absurd (no_load name law own is)
by_image limit ledger name law command (inr (head, h, inr (rules, r, inl (own, is, refused)))) = absurd (no_load name law own is)
by_image limit ledger name law command (inr (head, h, inr (rules, r, inr (tables, t, inl refused)))) = (first_systems (headers_of tables) (old_mentions head.old), refused)
by_image limit ledger name law command (inr (head, h, inr (rules, r, inr (tables, t, inr (admitted, a, inl (other, is)))))) = absurd cc
by_image limit ledger name law command (inr (head, h, inr (rules, r, inr (tables, t, inr (admitted, a, inr (one, o, inl (own, is, refused))))))) = absurd cc
by_image limit ledger name law command (inr (head, h, inr (rules, r, inr (tables, t, inr (admitted, a, inr (one, o, inr (uniform, u, inl refused))))))) = absurd refused
by_image limit ledger name law command (inr (head, h, inr (rules, r, inr (tables, t, inr (admitted, a, inr (one, o, inr (uniform, u, inr (track, w, inl (own, is, refused))))))))) = absurd (no_image name law own is)
by_image limit ledger name law command (inr (head, h, inr (rules, r, inr (tables, t, inr (admitted, a, inr (one, o, inr (uniform, u, inr (track, w, inr (lines, l, inl refused))))))))) = absurd refused
by_image limit ledger name law command (inr (head, h, inr (rules, r, inr (tables, t, inr (admitted, a, inr (one, o, inr (uniform, u, inr (track, w, inr (lines, l, inr (entry, e, (is, long))))))))))) = absurd cc

-- what is proved of its checks
pub image_sound : (limit : ℕ) (ledger : Ledger) (text : List ℕ) → AreSound Success MayBeStored limit ledger (image_checks limit ledger text)
image_sound limit ledger text = record {
  single = image_single limit ledger text;
  may_be_stored = λ success made. image_may_be_stored limit ledger text success made;
  refused = λ at law refused. by_image limit ledger at law text refused;
}

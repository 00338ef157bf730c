-- What a command stores may be in its folder, which is not that of users' systems: no expression, no formula and no language is among
-- words, and what a word means is there.
use Rattle.std.proofs.Common.{◌≡◌, ℕ, true, eqb, ◌==◌, if◌then◌else◌, List, Ok, bytes_eq, refl, sym, ap, ◌∙◌, subst}
use Rattle.std.proofs.lemmas.Bool.{and_parts, eqb-true}
use Rattle.wal_outside.specs.Files.{same_file}
use Rattle.wal_outside.specs.Folders.{folder_index}
use Rattle.wal_outside.specs.declared.folder.Folder.{Folder}
use Rattle.wal_outside.specs.declared.folder.Folder.TheVariants.{Automata, Words, Bases, Macros, Morphisms, Transducers, Results, Commands}
use Rattle.definitions.specs.Trees.{Tree, MayBeIn, Ledger}
use Rattle.command_parts.specs.Accepting.{Accepted}
use Rattle.command_parts.proofs.SoundChecks.{AcceptedMayBeStored}
use Rattle.session_cli.specs.Outcomes.{checks_of}
use Rattle.session_cli.specs.SoundCommands.{sound_by_word}

-- what an accepted command stores may be in its folder
pub accepted_may_be_stored : (limit : ℕ) (ledger : Ledger) (text : List ℕ) (accepted : Accepted) → (checks_of limit ledger text).answers (Ok accepted) → AcceptedMayBeStored accepted
accepted_may_be_stored limit ledger text accepted (short, s, (word, w, is)) = (sound_by_word word limit ledger text).may_be_stored accepted is

-- folders with one place among the eight are one
abbrev folder_at : ℕ → Folder
folder_at n =
    if n == 0 then Automata
    else if n == 1 then Words
    else if n == 2 then Bases
    else if n == 3 then Macros
    else if n == 4 then Morphisms
    else if n == 5 then Transducers
    else if n == 6 then Results
    else Commands

folder_again : (folder : Folder) → folder_at (folder_index folder) ≡ folder
folder_again Automata = refl
folder_again Words = refl
folder_again Bases = refl
folder_again Macros = refl
folder_again Morphisms = refl
folder_again Transducers = refl
folder_again Results = refl
folder_again Commands = refl

-- so a definition may be under the same place
pub may_be_there : (at folder : Folder) (under name : List ℕ) (tree : Tree) → same_file at under folder name ≡ true → MayBeIn at tree → MayBeIn folder tree
may_be_there at folder under name tree same may = subst (λ (f : Folder). MayBeIn f tree) one may
  where
    places : folder_index at ≡ folder_index folder
    places = eqb-true (folder_index at) (folder_index folder) (and_parts (eqb (folder_index at) (folder_index folder)) (bytes_eq under name) same).0

    one : at ≡ folder
    one = sym (folder_again at) ∙ (ap folder_at places ∙ folder_again folder)

-- Files of which one more is known.
use Rattle.std.proofs.Common.{◌≡◌, Bool, true, false, cond, if◌then◌else◌, ℕ, List, Option, None, Some, refl, sym, ap, ◌∙◌, bytes_eq}
use Rattle.std.specs.Option.{IfSome}
use Rattle.std.proofs.lemmas.Slice.Eq.{bytes_eq-Decides}
use Rattle.wal_outside.specs.Files.{Files, same_file}
use Rattle.wal_outside.specs.declared.folder.Folder.{Folder}
use Rattle.wal_outside.specs.declared.folder.Folder.TheVariants.{Automata, Words}
use Rattle.formula_resolve.specs.FirstMentions.{is_same_file}
use Rattle.formula_resolve.specs.declared.file.File.{File}
use Rattle.formula_resolve.specs.declared.file.File.TheVariants.{Automaton, Word}
use Rattle.dfa_loading.specs.Places.{place_of}

-- what is at the place of a file
abbrev pub at_file : Files → File → Option (List ℕ)
at_file files file = files (place_of file).0 (place_of file).1

abbrev is_under : File → Folder → List ℕ → Bool
is_under file folder at = same_file folder at (place_of file).0 (place_of file).1

-- files with what is in others under the name of one file
abbrev with_file : Files → Files → File → Files
with_file found there file = λ folder name. if is_under file folder name then there folder name else found folder name

-- files that have one file as others have it, and are else as they were; the reported ones, where files are reported
pub record IsMore (reported : Option Files) (found there : Files) (file : File) (more : Files) : Type 0 where
  pub reported_is : IfSome reported (λ files. more ≡ files)
  pub new_is : at_file more file ≡ at_file there file
  pub kept : (other : File) → is_same_file other file ≡ false → at_file more other ≡ at_file found other

same_name : (name : List ℕ) → bytes_eq name name ≡ true
same_name name = (bytes_eq-Decides name name).1 refl

new_there : (found there : Files) (file : File) → at_file (with_file found there file) file ≡ at_file there file
new_there found there (Automaton name) = ap (λ b. cond b (there Automata name) (found Automata name)) (same_name name)
new_there found there (Word name) = ap (λ b. cond b (there Words name) (found Words name)) (same_name name)

others_kept : (found there : Files) (file other : File) → is_same_file other file ≡ false → at_file (with_file found there file) other ≡ at_file found other
others_kept found there (Automaton name) (Automaton other) apart = ap (λ b. cond b (there Automata other) (found Automata other)) apart
others_kept found there (Automaton name) (Word other) apart = refl
others_kept found there (Word name) (Automaton other) apart = refl
others_kept found there (Word name) (Word other) apart = ap (λ b. cond b (there Words other) (found Words other)) apart

pub one_more_file : (reported : Option Files) (found there : Files) (file : File) → IfSome reported (λ files. found ≡ files) → IfSome reported (λ files. there ≡ files) → (more : Files) × IsMore reported found there file more
one_more_file None found there file is is' = (with_file found there file, record { reported_is = tt; new_is = new_there found there file; kept = others_kept found there file })
one_more_file (Some files) found there file is is' = (found, record { reported_is = is; new_is = ap (λ (fs : Files). at_file fs file) (is ∙ sym is'); kept = λ other apart. refl })

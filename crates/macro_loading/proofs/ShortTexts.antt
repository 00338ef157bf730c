-- Texts that are short enough to be read.
use Rattle.std.proofs.Common.{◌≡◌, refl, ap, ◌∙◌, ℕ, ◌≤◌, List, length, None, Some}
use Rattle.std.proofs.lemmas.Bool.{le-leb, lt-leb}
use Rattle.wal_outside.specs.Files.{Files}
use Rattle.wal_outside.specs.declared.folder.Folder.TheVariants.{Macros}
use Rattle.wal_outside.specs.declared.store.TheConstants.{TEXT_LIMIT}
use Rattle.macro_loading.specs.MacroFiles.{short_text, macros_of, IsTooLong}

pub macro_short : (files : Files) (name text : List ℕ) → files Macros name ≡ Some text → length text ≤ TEXT_LIMIT → macros_of files name ≡ Some text
macro_short files name text e short = ap short_text e ∙ rw (le-leb (length text) TEXT_LIMIT short) refl

pub macro_absent : (files : Files) (name : List ℕ) → files Macros name ≡ None → macros_of files name ≡ None
macro_absent files name e = ap short_text e

pub macro_long : (files : Files) (name : List ℕ) → IsTooLong (files Macros name) → macros_of files name ≡ None
macro_long files name h = ap short_text h.1 ∙ rw (lt-leb (length h.0) TEXT_LIMIT h.2) refl

-- A text before a list, in place of the one that it replaces.
use Rattle.std.proofs.Common.{◌≡◌, ℕ, suc, zero, ◌+◌, ◌==◌, Bool, true, false, cond, ◌&&◌, List, [], ◌∷◌, Option, Some, refl, ap, arith, add-one}
use Rattle.std.specs.List.{remove}
use Rattle.std.specs.Str.{bytes_eq}
use Rattle.std.specs.String.{string_bytes}
use Rattle.std.proofs.lemmas.Bool.{eqb-true}
use Rattle.std.proofs.lemmas.Slice.Eq.{bytes_eq-Decides}
use Rattle.wal_outside.specs.declared.folder.Folder.{Folder}
use Rattle.wal_outside.specs.declared.shelf.Text.{Text}
use Rattle.wal_outside.specs.Folders.{folder_index}
use Rattle.wal_outside.specs.Files.{same_file, put}
use Rattle.wal_outside.specs.Shelves.{is_at, lookup, HasAt}

-- both parts of a test that holds
and_parts : (x y : Bool) → (x && y) ≡ true → (x ≡ true) × (y ≡ true)
and_parts true y h = (refl, h)
and_parts false y h = cc

-- what is the same as a file is the same as no other
pub same_file-false : (f g h : Folder) (n m p : List ℕ) → same_file f n g m ≡ true → same_file g m h p ≡ false → same_file f n h p ≡ false
same_file-false f g h n m p same other =
    let parts = and_parts (folder_index f == folder_index g) (bytes_eq n m) same in
    let folder : folder_index f ≡ folder_index g = eqb-true (folder_index f) (folder_index g) parts.0 in
    let name : n ≡ m = (bytes_eq-Decides n m).0 parts.1 in
    rw (folder, name) other

-- the other texts are found without the one that was taken out
pub lookup-remove : (texts : List Text) (i : ℕ) (g h : Folder) (m p : List ℕ) → HasAt texts i g m → same_file g m h p ≡ false → lookup (remove texts i) h p ≡ lookup texts h p
lookup-remove [] i g h m p has other = absurd (omega (arith, has.0))
lookup-remove (text ∷ texts) zero g h m p has other =
    let no : is_at text h p ≡ false = same_file-false text.folder g h (string_bytes text.name) m p has.1 other in
    rw no
lookup-remove (text ∷ texts) (suc i) g h m p has other =
    ap (λ rest. cond (is_at text h p) (Some text.bytes.items) rest) (lookup-remove texts i g h m p (omega (arith, has.0), has.1) other)

-- two choices by one test agree where the second values agree
cond_same : (b : Bool) (x y z : Option (List ℕ)) → (b ≡ false → y ≡ z) → cond b x y ≡ cond b x z
cond_same true x y z same = refl
cond_same false x y z same = same refl

-- a new text before the list, and the one that it replaces taken out, at one name
replaced_at : (text : Text) (texts : List Text) (i : ℕ) (g : Folder) (m bytes : List ℕ) → text.folder ≡ g → string_bytes text.name ≡ m → text.bytes.items ≡ bytes → HasAt texts i g m → (h : Folder) (p : List ℕ) → lookup (remove (text ∷ texts) (i + 1)) h p ≡ put (lookup texts) g m bytes h p
replaced_at text texts i g m bytes folder name is has h p =
    let prefix : remove (text ∷ texts) (i + 1) ≡ text ∷ remove texts i = rw add-one in
    rw (prefix, folder, name, is) (cond_same (same_file g m h p) (Some bytes) (lookup (remove texts i) h p) (lookup texts h p) (λ other. lookup-remove texts i g h m p has other))

-- and so at every name
pub lookup-replaced : (text : Text) (texts : List Text) (i : ℕ) (g : Folder) (m bytes : List ℕ) → text.folder ≡ g → string_bytes text.name ≡ m → text.bytes.items ≡ bytes → HasAt texts i g m → lookup (remove (text ∷ texts) (i + 1)) ≡ put (lookup texts) g m bytes
lookup-replaced text texts i g m bytes folder name is has = λ j h p. replaced_at text texts i g m bytes folder name is has h p j

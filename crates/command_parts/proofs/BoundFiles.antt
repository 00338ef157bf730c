-- What the file of a name is bound to, and what was read of files: both mean the same.
use Rattle.std.proofs.Common.{◌≡◌, ◌≢◌, ◌↔◌, ◌⊎◌, inl, inr, ℕ, suc, Bool, true, false, List, [], ◌∷◌, Option, None, Some, refl, sym, ap, ◌∙◌, subst, arith}
use Rattle.std.specs.List.{AllByRecursion, fold}
use Rattle.wal_outside.specs.Files.{same_file}
use Rattle.wal_outside.specs.declared.folder.Folder.{Folder}
use Rattle.dfa_loading.specs.Places.{place_of}
use Rattle.formula_resolve.specs.FirstMentions.{is_same_file, IsOnce}
use Rattle.formula_resolve.specs.declared.file.File as formula_file
use Rattle.formula_resolve.specs.declared.file.File.TheVariants.{Automaton, Word}
use Rattle.definitions.specs.TreeMeanings.{chosen}
use Rattle.definitions.specs.Trees.{Tree, Entry, Ledger, Bindings, bound, tree_of, with_entry, with_file}
use Rattle.command_parts.specs.TableReads.{TableRead, ARelation, AWord}
use Rattle.command_parts.proofs.TableFiles.{same_itself, IsOther, once_other, once_rest}
use Rattle.formula_build.proofs.ReadFormulas.{same_file as same_files}

-- the file under whose name something was read
abbrev pub file_of : TableRead → formula_file.File
file_of (ARelation r) = Automaton r.name
file_of (AWord w) = Word w.name

-- what was read of each file has its name, and means what it is to mean
abbrev pub AreMeantAs : (TableRead → Type 0) → List formula_file.File → List TableRead → Type 0
AreMeantAs Means [] [] = Unit {0}
AreMeantAs Means [] (r ∷ reads) = ⊥
AreMeantAs Means (file ∷ named) [] = ⊥
AreMeantAs Means (file ∷ named) (r ∷ reads) = (file_of r ≡ file) × Means r × AreMeantAs Means named reads

-- none of the files is this one
abbrev pub AreOthers : formula_file.File → List formula_file.File → Type 0
AreOthers f named = AllByRecursion (λ (g : formula_file.File). g ≢ f) named

-- each file is named once
abbrev pub AreUnlike : List formula_file.File → Type 0
AreUnlike [] = Unit {0}
AreUnlike (file ∷ named) = AreOthers file named × AreUnlike named

are_others : (f : formula_file.File) (named : List formula_file.File) → IsOther f named → AreOthers f named
are_others f [] other = tt
are_others f (g ∷ named) other = (apart, are_others f named (λ i at within is. other (suc i) at (omega (arith, within)) is))
  where
    apart : g ≢ f
    apart same =
        let yes : is_same_file f g ≡ true = subst (λ (h : formula_file.File). is_same_file f h ≡ true) (sym same) (same_itself f) in
        let no : is_same_file f g ≡ false = other 0 g (omega arith) refl in
        cc

pub are_unlike : (named : List formula_file.File) → IsOnce named → AreUnlike named
are_unlike [] once = tt
are_unlike (file ∷ named) once = (are_others file named (once_other file named once), are_unlike named (once_rest file named once))

differ : (g f : formula_file.File) → g ≢ f → is_same_file g f ≡ false
differ g f apart = by (is_same_file g f) refl
  where
    by : (b : Bool) → is_same_file g f ≡ b → b ≡ false
    by true same = absurd (apart (same_files g f same))
    by false other = refl

same_place : (g f : formula_file.File) → same_file (place_of g).0 (place_of g).1 (place_of f).0 (place_of f).1 ≡ is_same_file g f
same_place (Automaton m) (Automaton n) = refl
same_place (Automaton m) (Word n) = refl
same_place (Word m) (Automaton n) = refl
same_place (Word m) (Word n) = refl

with_file_is : (ledger : Ledger) (bindings : Bindings) (g : formula_file.File) → with_file ledger bindings g ≡ with_entry bindings (place_of g).0 (place_of g).1 (ledger (place_of g).0 (place_of g).1)
with_file_is ledger bindings (Automaton name) = refl
with_file_is ledger bindings (Word name) = refl

-- A property of bindings that looks at one file: a binding of it counts by its definition, and others do not count.
module _ (ledger : Ledger) (f : formula_file.File) (Bound : Bindings → Type 0) (Own : Tree → Type 0)
    (law : (bindings : Bindings) (at : Folder) (under : List ℕ) (tree : Tree) → Bound (bound bindings at under tree) ≡ chosen (same_file at under (place_of f).0 (place_of f).1) (Own tree) (Bound bindings)) where
  own_bound : (bindings : Bindings) (entry : Entry) → ledger (place_of f).0 (place_of f).1 ≡ Some entry → Bound (with_file ledger bindings f) ≡ Own (tree_of entry)
  own_bound bindings entry there =
      ap Bound (with_file_is ledger bindings f ∙ ap (λ (e : Option Entry). with_entry bindings (place_of f).0 (place_of f).1 e) there)
      ∙ law bindings (place_of f).0 (place_of f).1 (tree_of entry)
      ∙ ap (λ (b : Bool). chosen b (Own (tree_of entry)) (Bound bindings)) (same_place f f ∙ same_itself f)

  other_bound : (bindings : Bindings) (g : formula_file.File) → g ≢ f → Bound (with_file ledger bindings g) ≡ Bound bindings
  other_bound bindings g apart = ap Bound (with_file_is ledger bindings g) ∙ by (ledger (place_of g).0 (place_of g).1)
    where
      by : (entry : Option Entry) → Bound (with_entry bindings (place_of g).0 (place_of g).1 entry) ≡ Bound bindings
      by None = refl
      by (Some e) = law bindings (place_of g).0 (place_of g).1 (tree_of e) ∙ ap (λ (b : Bool). chosen b (Own (tree_of e)) (Bound bindings)) (same_place g f ∙ differ g f apart)

  bound_after : (named : List formula_file.File) (bindings : Bindings) → AreOthers f named → Bound (fold (with_file ledger) bindings named) ≡ Bound bindings
  bound_after [] bindings none = refl
  bound_after (g ∷ named) bindings none = bound_after named (with_file ledger bindings g) none.1 ∙ other_bound bindings g none.0

  -- the first file is bound to its definition, where it is the one that is looked at
  first_bound : (named : List formula_file.File) (bindings : Bindings) (g : formula_file.File) (entry : Entry) → ledger (place_of f).0 (place_of f).1 ≡ Some entry → g ≡ f → AreOthers g named
      → Bound (fold (with_file ledger) (with_file ledger bindings g) named) ≡ Own (tree_of entry)
  first_bound named bindings g entry there at none =
      bound_after named (with_file ledger bindings g) (subst (λ (h : formula_file.File). AreOthers h named) at none) ∙ ap (λ (h : formula_file.File). Bound (with_file ledger bindings h)) at ∙ own_bound bindings entry there

  -- A property of what was read that looks at one file too: what was read of it counts, as the ledger's entry of it says, and nothing else does.
  module _ (Means : TableRead → Type 0) (Found : List TableRead → Type 0) (none : Found [] → ⊥)
      (first : (r : TableRead) (reads : List TableRead) → file_of r ≡ f → Means r → (entry : Entry) × (ledger (place_of f).0 (place_of f).1 ≡ Some entry) × (Found (r ∷ reads) ↔ Own (tree_of entry)))
      (other : (r : TableRead) (reads : List TableRead) → file_of r ≢ f → Found (r ∷ reads) ↔ Found reads) where
    -- what is found of the file is what it is bound to
    pub bound_there : (named : List formula_file.File) (reads : List TableRead) (bindings : Bindings) → AreUnlike named → AreMeantAs Means named reads → Found reads → Bound (fold (with_file ledger) bindings named)
    bound_there [] [] bindings apart like found = absurd (none found)
    bound_there [] (r ∷ reads) bindings apart like found = absurd like
    bound_there (file ∷ named) [] bindings apart like found = absurd like
    bound_there (file ∷ named) (r ∷ reads) bindings apart like found =
        by (is_same_file (file_of r) f) refl (λ rest. bound_there named reads (with_file ledger bindings file) apart.1 like.2 rest)
      where
        by : (b : Bool) → is_same_file (file_of r) f ≡ b → (Found reads → Bound (fold (with_file ledger) (with_file ledger bindings file) named)) → Bound (fold (with_file ledger) (with_file ledger bindings file) named)
        by true same later =
            let is : file_of r ≡ f = same_files (file_of r) f same in
            let own = first r reads is like.1 in
            subst (λ (X : Type 0). X) (sym (first_bound named bindings file own.0 own.1 (sym like.0 ∙ is) apart.0)) (own.2.0 found)
        by false differs later =
            let unlike : file_of r ≢ f = λ is. let yes : is_same_file (file_of r) f ≡ true = subst (λ (h : formula_file.File). is_same_file (file_of r) h ≡ true) is (same_itself (file_of r)) in cc in
            later ((other r reads unlike).0 found)

    -- and what it is bound to is found, or it was bound before
    pub bound_back : (named : List formula_file.File) (reads : List TableRead) (bindings : Bindings) → AreUnlike named → AreMeantAs Means named reads → Bound (fold (with_file ledger) bindings named) → Found reads ⊎ Bound bindings
    bound_back [] [] bindings apart like holds = inr holds
    bound_back [] (r ∷ reads) bindings apart like holds = absurd like
    bound_back (file ∷ named) [] bindings apart like holds = absurd like
    bound_back (file ∷ named) (r ∷ reads) bindings apart like holds = by (is_same_file (file_of r) f) refl (bound_back named reads (with_file ledger bindings file) apart.1 like.2 holds)
      where
        later : file_of r ≢ f → Found reads ⊎ Bound (with_file ledger bindings file) → Found (r ∷ reads) ⊎ Bound bindings
        later unlike (inl found) = inl ((other r reads unlike).1 found)
        later unlike (inr old) = inr (subst (λ (X : Type 0). X) (other_bound bindings file (λ same. unlike (like.0 ∙ same))) old)

        by : (b : Bool) → is_same_file (file_of r) f ≡ b → Found reads ⊎ Bound (with_file ledger bindings file) → Found (r ∷ reads) ⊎ Bound bindings
        by true same before =
            let is : file_of r ≡ f = same_files (file_of r) f same in
            let own = first r reads is like.1 in
            inl (own.2.1 (subst (λ (X : Type 0). X) (first_bound named bindings file own.0 own.1 (sym like.0 ∙ is) apart.0) holds))
        by false differs before =
            later (λ is. let yes : is_same_file (file_of r) f ≡ true = subst (λ (h : formula_file.File). is_same_file (file_of r) h ≡ true) is (same_itself (file_of r)) in cc) before

-- A name of a formula is bound to the definition that is under it.
use Rattle.std.proofs.Common.{◌≡◌, ◌↔◌, ◌⊎◌, ℕ, zero, suc, ℤ, Bool, true, false, List, [], ◌∷◌, Option, None, Some, refl, sym, ap, ◌∙◌, subst, inl, inr, arith, bytes_eq}
use Rattle.std.specs.Prelude.{Contains}
use Rattle.std.specs.List.{fold}
use Rattle.std.proofs.lemmas.Slice.Eq.{bytes_eq-Decides}
use Rattle.wal_outside.specs.declared.folder.Folder.TheVariants.{Automata, Words}
use Rattle.formula_resolve.specs.FirstMentions.{first_files}
use Rattle.formula_resolve.specs.Mentions.{mentions}
use Rattle.formula_resolve.specs.declared.file.File.{File}
use Rattle.formula_resolve.specs.declared.file.File.TheVariants.{Automaton, Word}
use Rattle.definitions.specs.TreeMeanings.{tree_holds, tree_letter, bound_holds, bound_letter, chosen}
use Rattle.definitions.specs.Trees.{Entry, Ledger, Bindings, unbound, with_entry, with_file, custom_of, tree_of}
use Rattle.headlines.specs.Names.{Names}

-- an element is the first, or one after it
first_or_later : (f g : File) (named : List File) → Contains (g ∷ named) f → (g ≡ f) ⊎ Contains named f
first_or_later f g named (zero, within, is) = inl is
first_or_later f g named (suc k, within, is) = inr (k, omega (arith, within), is)

-- what two entries of one name are
one_entry : (x y : Entry) (ledger : Option Entry) → ledger ≡ Some x → ledger ≡ Some y → x ≡ y
one_entry x y ledger one other = let same : Some x ≡ Some y = sym one ∙ other in cc

chosen_own : (b : Bool) (P Q R : Type 0) → (b ≡ true → P ↔ R) → Q ↔ R → chosen b P Q ↔ R
chosen_own true P Q R own rest = own refl
chosen_own false P Q R own rest = rest

chosen_first : (b : Bool) (P Q R : Type 0) → b ≡ true → P ↔ R → chosen b P Q ↔ R
chosen_first true P Q R is own = own
chosen_first false P Q R is own = absurd cc

module _ (ledger : Ledger) (name : List ℕ) (entry : Entry) (ns : List ℕ) where
  same_name : bytes_eq name name ≡ true
  same_name = (bytes_eq-Decides name name).1 refl

  module _ (there : ledger Automata name ≡ Some entry) where
    abbrev Own : Type 0
    Own = tree_holds (custom_of ledger) (tree_of entry) ns

    abbrev Means : Bindings → Type 0
    Means bindings = bound_holds (custom_of ledger) bindings Automata name ns ↔ Own

    -- another binding changes nothing
    kept : (bindings : Bindings) (g : File) → Means bindings → Means (with_file ledger bindings g)
    kept bindings (Word other) means = by (ledger Words other)
      where
        by : (o : Option Entry) → Means (with_entry bindings Words other o)
        by None = means
        by (Some e) = means
    kept bindings (Automaton other) means = by (ledger Automata other) refl
      where
        by : (o : Option Entry) → ledger Automata other ≡ o → Means (with_entry bindings Automata other o)
        by None is = means
        by (Some e) is = chosen_own (bytes_eq other name) (tree_holds (custom_of ledger) (tree_of e) ns) (bound_holds (custom_of ledger) bindings Automata name ns) Own own means
          where
            own : bytes_eq other name ≡ true → tree_holds (custom_of ledger) (tree_of e) ns ↔ Own
            own same =
                let names : other ≡ name = (bytes_eq-Decides other name).0 same in
                let entries : e ≡ entry = one_entry e entry (ledger Automata name) (ap (ledger Automata) (sym names) ∙ is) there in
                subst (λ (x : Entry). tree_holds (custom_of ledger) (tree_of x) ns ↔ Own) (sym entries) (λ h. h, λ h. h)

    all_kept : (named : List File) (bindings : Bindings) → Means bindings → Means (fold (with_file ledger) bindings named)
    all_kept [] bindings means = means
    all_kept (g ∷ named) bindings means = all_kept named (with_file ledger bindings g) (kept bindings g means)

    bound_here : (bindings : Bindings) → Means (with_file ledger bindings (Automaton name))
    bound_here bindings = subst (λ (o : Option Entry). Means (with_entry bindings Automata name o)) (sym there) (chosen_first (bytes_eq name name) Own (bound_holds (custom_of ledger) bindings Automata name ns) Own same_name (λ h. h, λ h. h))

    called : (named : List File) (bindings : Bindings) → Contains named (Automaton name) → Means (fold (with_file ledger) bindings named)
    called [] bindings (k, within, is) = absurd (omega (arith, within))
    called (g ∷ named) bindings among = by (called named (with_file ledger bindings g)) (first_or_later (Automaton name) g named among)
      where
        by : (Contains named (Automaton name) → Means (fold (with_file ledger) (with_file ledger bindings g) named)) → (g ≡ Automaton name) ⊎ Contains named (Automaton name) → Means (fold (with_file ledger) (with_file ledger bindings g) named)
        by rest (inl is) = all_kept named (with_file ledger bindings g) (subst (λ (f : File). Means (with_file ledger bindings f)) (sym is) (bound_here bindings))
        by rest (inr later) = rest later

  module _ (letter : ℤ) (there : ledger Words name ≡ Some entry) where
    abbrev OwnLetter : Type 0
    OwnLetter = tree_letter (custom_of ledger) (tree_of entry) ns letter

    abbrev HasLetter : Bindings → Type 0
    HasLetter bindings = bound_letter (custom_of ledger) bindings Words name ns letter ↔ OwnLetter

    letter_kept : (bindings : Bindings) (g : File) → HasLetter bindings → HasLetter (with_file ledger bindings g)
    letter_kept bindings (Automaton other) means = by (ledger Automata other)
      where
        by : (o : Option Entry) → HasLetter (with_entry bindings Automata other o)
        by None = means
        by (Some e) = means
    letter_kept bindings (Word other) means = by (ledger Words other) refl
      where
        by : (o : Option Entry) → ledger Words other ≡ o → HasLetter (with_entry bindings Words other o)
        by None is = means
        by (Some e) is = chosen_own (bytes_eq other name) (tree_letter (custom_of ledger) (tree_of e) ns letter) (bound_letter (custom_of ledger) bindings Words name ns letter) OwnLetter own means
          where
            own : bytes_eq other name ≡ true → tree_letter (custom_of ledger) (tree_of e) ns letter ↔ OwnLetter
            own same =
                let names : other ≡ name = (bytes_eq-Decides other name).0 same in
                let entries : e ≡ entry = one_entry e entry (ledger Words name) (ap (ledger Words) (sym names) ∙ is) there in
                subst (λ (x : Entry). tree_letter (custom_of ledger) (tree_of x) ns letter ↔ OwnLetter) (sym entries) (λ h. h, λ h. h)

    letters_kept : (named : List File) (bindings : Bindings) → HasLetter bindings → HasLetter (fold (with_file ledger) bindings named)
    letters_kept [] bindings means = means
    letters_kept (g ∷ named) bindings means = letters_kept named (with_file ledger bindings g) (letter_kept bindings g means)

    letter_here : (bindings : Bindings) → HasLetter (with_file ledger bindings (Word name))
    letter_here bindings = subst (λ (o : Option Entry). HasLetter (with_entry bindings Words name o)) (sym there) (chosen_first (bytes_eq name name) OwnLetter (bound_letter (custom_of ledger) bindings Words name ns letter) OwnLetter same_name (λ h. h, λ h. h))

    indexed : (named : List File) (bindings : Bindings) → Contains named (Word name) → HasLetter (fold (with_file ledger) bindings named)
    indexed [] bindings (k, within, is) = absurd (omega (arith, within))
    indexed (g ∷ named) bindings among = by (indexed named (with_file ledger bindings g)) (first_or_later (Word name) g named among)
      where
        by : (Contains named (Word name) → HasLetter (fold (with_file ledger) (with_file ledger bindings g) named)) → (g ≡ Word name) ⊎ Contains named (Word name) → HasLetter (fold (with_file ledger) (with_file ledger bindings g) named)
        by rest (inl is) = letters_kept named (with_file ledger bindings g) (subst (λ (f : File). HasLetter (with_file ledger bindings f)) (sym is) (letter_here bindings))
        by rest (inr later) = rest later

pub names : Names
names ledger formula = record {
  automata = λ name entry among there ns. called ledger name entry ns there (first_files (mentions formula)) unbound among;
  words = λ name entry among there ns letter. indexed ledger name entry ns letter there (first_files (mentions formula)) unbound among;
}

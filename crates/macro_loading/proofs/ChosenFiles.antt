-- Files by which an expansion is what it is: the store's where it reports them, and else some among whose macros all are that were read.
use Rattle.std.proofs.Common.{◌≡◌, refl, ap, ◌∙◌, ℕ, Bool, true, false, cond, List, Option, None, Some}
use Rattle.std.specs.Prelude.{IfSome, ⊤}
use Rattle.std.specs.Str.{bytes_eq}
use Rattle.std.proofs.lemmas.Slice.Eq.{bytes_eq-Decides}
use Rattle.wal_outside.specs.Files.{Files}
use Rattle.wal_outside.specs.Views.{StoreView}
use Rattle.wal_outside.specs.declared.folder.Folder.TheVariants.{Macros}
use Rattle.wal_outside.specs.declared.store.TheConstants.{TEXT_LIMIT}
use Rattle.macro_expand.specs.Texts.{TextOf}
use Rattle.macro_expand.specs.Sources.{AreAmong}
use Rattle.dfa_loading.specs.Places.{AreReported}
use Rattle.dfa_loading.proofs.PlaceSteps.{text_past}
use Rattle.macro_loading.specs.MacroFiles.{macros_of, without, IsTooLong}
use Rattle.macro_loading.specs.Reading.{AreRead}
use Rattle.macro_loading.proofs.ShortTexts.{macro_short}

-- files that are the store's, where it reports them, among whose macros these texts are
pub record Chosen (store : StoreView) (texts : TextOf) (Holds : Files → Type 0) : Type 0 where
  pub files : Files
  pub reported : AreReported store files
  pub among : AreAmong (macros_of files) texts
  pub holds : Holds files

-- the same texts in each folder
abbrev in_each : TextOf → Files
in_each there = λ folder. there

module _ (store : StoreView) (texts : TextOf) (read : AreRead store texts) where
  chosen : (Holds : Files → Type 0) (there : TextOf) → IfSome store.files Holds → AreAmong there texts → Holds (in_each there) → Chosen store texts Holds
  chosen Holds there reported among holds = by store.files read.reported reported refl
    where
      by : (files : Option Files) → IfSome files (λ (f : Files). AreAmong (macros_of f) texts) → IfSome files Holds → store.files ≡ files → Chosen store texts Holds
      by None all so is = record {
        files = in_each there;
        reported = rw is tt;
        among = λ name text e. macro_short (in_each there) name text (among name text e) (read.short name text e);
        holds = holds;
      }
      by (Some files) all so is = record { files = files; reported = rw is refl; among = all; holds = so }

  -- nothing is asked of a list of files
  nothing : (files : Option Files) → IfSome files (λ _. ⊤)
  nothing None = tt
  nothing (Some files) = tt

  -- some files
  pub chosen_plain : Chosen store texts (λ _. ⊤)
  chosen_plain = chosen (λ _. ⊤) texts (nothing store.files) (λ name text e. e) tt

  -- and so where nothing is under a name
  pub chosen_absent : (name : List ℕ) → texts name ≡ None → IfSome store.files (λ files. files Macros name ≡ None) → Chosen store texts (λ files. files Macros name ≡ None)
  chosen_absent name none reported = chosen (λ files. files Macros name ≡ None) texts reported (λ name' text e. e) none

  -- the texts with one more under a name that has none
  abbrev with_text : List ℕ → List ℕ → TextOf
  with_text name more = λ other. cond (bytes_eq other name) (Some more) (texts other)

  with_among : (name more : List ℕ) → texts name ≡ None → AreAmong (with_text name more) texts
  with_among name more none other text e = by (bytes_eq other name) refl
    where
      by : (same : Bool) → bytes_eq other name ≡ same → with_text name more other ≡ Some text
      by true is =
          let n : texts other ≡ None = ap texts ((bytes_eq-Decides other name).0 is) ∙ none in
          absurd (cc (n, e))
      by false is = rw is e

  with_there : (name more : List ℕ) → with_text name more name ≡ Some more
  with_there name more = rw ((bytes_eq-Decides name name).1 refl) refl

  -- and where a text is there that is too long
  pub chosen_long : (name : List ℕ) → texts name ≡ None → IfSome store.files (λ files. IsTooLong (files Macros name)) → Chosen store texts (λ files. IsTooLong (files Macros name))
  chosen_long name none reported =
      let past = text_past TEXT_LIMIT in
      chosen (λ files. IsTooLong (files Macros name)) (with_text name past.0) reported (with_among name past.0 none) (past.0, with_there name past.0, past.1)

-- the others are all that are not of this name
pub without_among : (macros texts : TextOf) (name : List ℕ) → AreAmong macros texts → texts name ≡ None → AreAmong (without name macros) texts
without_among macros texts name among none other text e = by (bytes_eq other name) refl
  where
    by : (same : Bool) → bytes_eq other name ≡ same → without name macros other ≡ Some text
    by true is =
        let n : texts other ≡ None = ap texts ((bytes_eq-Decides other name).0 is) ∙ none in
        absurd (cc (n, e))
    by false is = rw is (among other text e)

pub without_lacks : (macros : TextOf) (name : List ℕ) → without name macros name ≡ None
without_lacks macros name = rw ((bytes_eq-Decides name name).1 refl) refl

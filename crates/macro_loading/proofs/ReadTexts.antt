-- A text that was read beside those that were read before.
use Rattle.std.proofs.Common.{◌≡◌, refl, sym, ap, subst, ◌∙◌, ℕ, ◌≤◌, Bool, true, false, cond, List, length, Option, None, Some, Result, Ok, Err}
use Rattle.std.specs.Prelude.{IfSome, OnOk, OnErr, MatchOption}
use Rattle.std.specs.Str.{bytes_eq}
use Rattle.std.specs.FinMap.{insert, get-insert}
use Rattle.std.specs.Cmp.Lexicographic.{nat_list_cmp_total}
use Rattle.std.proofs.lemmas.Map.Text.{is_eq-slice_cmp}
use Rattle.std.proofs.lemmas.Slice.Eq.{bytes_eq-Decides}
use Rattle.wal_outside.specs.Answers.{Finds}
use Rattle.wal_outside.specs.Files.{Files}
use Rattle.wal_outside.specs.Views.{StoreView}
use Rattle.wal_outside.specs.declared.folder.Folder.TheVariants.{Macros}
use Rattle.wal_outside.specs.declared.store.Found.TheVariants as answers
use Rattle.wal_outside.specs.declared.store.TheConstants.{TEXT_LIMIT}
use Rattle.macro_expand.specs.Texts.{Texts, text_in}
use Rattle.macro_expand.specs.Sources.{AreAmong}
use Rattle.macro_loading.specs.MacroFiles.{macros_of}
use Rattle.macro_loading.specs.Reading.{Held, AreRead, GoesOn, IsStill}
use Rattle.macro_loading.specs.declared.macro_files.Want.{Want}
use Rattle.macro_loading.proofs.ShortTexts.{macro_short}

-- what holds of some files, where these are reported
pub both_reported : {X : Type 0} (reported : Option X) (P Q R : X → Type 0) → ((x : X) → P x → Q x → R x) → IfSome reported P → IfSome reported Q → IfSome reported R
both_reported None P Q R both p q = tt
both_reported (Some x) P Q R both p q = both x p q

-- so far each one was found
pub still_so : (old new : Held) → old.want ≡ None → IsStill old new
still_so old new none want e = absurd (cc (none, e))

-- a call that went well has this value
pub on_ok : {X E : Type 0} (result : Result X E) (P Q : Type 0) → (P → Q) → OnOk result P → OnOk result Q
on_ok (Ok x) P Q more h = more h
on_ok (Err e) P Q more h = tt

-- there is a text
pub there_is : (there : Option (List ℕ)) (text : List ℕ) (P Q : Type 0) → there ≡ Some text → Q → MatchOption there P (λ _. Q)
there_is None text P Q e q = absurd (cc)
there_is (Some other) text P Q e q = q

module _ (texts : Texts) (name text : List ℕ) where
  -- the text of each name, with one more
  text_added : (other : List ℕ) → text_in (insert texts name text) other ≡ cond (bytes_eq other name) (Some text) (text_in texts other)
  text_added other = get-insert nat_list_cmp_total texts name text other ∙ ap (λ same. cond same (Some text) (text_in texts other)) (is_eq-slice_cmp other name)

  added_so : (other : List ℕ) (same : Bool) → bytes_eq other name ≡ same → text_in (insert texts name text) other ≡ cond same (Some text) (text_in texts other)
  added_so other same is = text_added other ∙ ap (λ t. cond t (Some text) (text_in texts other)) is

  -- it is found
  pub added_there : text_in (insert texts name text) name ≡ Some text
  added_there = added_so name true ((bytes_eq-Decides name name).1 refl)

  -- what was there is there still
  pub added_among : text_in texts name ≡ None → AreAmong (text_in (insert texts name text)) (text_in texts)
  added_among none other there e = by (bytes_eq other name) refl
    where
      by : (same : Bool) → bytes_eq other name ≡ same → text_in (insert texts name text) other ≡ Some there
      by true is =
          let n : other ≡ name = (bytes_eq-Decides other name).0 is in
          let no : text_in texts other ≡ None = ap (text_in texts) n ∙ none in
          absurd (cc (no, e))
      by false is = added_so other false is ∙ e

  -- each text is the one more, or was there
  each_added : (P : List ℕ → List ℕ → Type 0) → P name text → ((other there : List ℕ) → text_in texts other ≡ Some there → P other there) → (other there : List ℕ) → text_in (insert texts name text) other ≡ Some there → P other there
  each_added P new old other there e = by (bytes_eq other name) refl
    where
      by : (same : Bool) → bytes_eq other name ≡ same → P other there
      by true is =
          let n : other ≡ name = (bytes_eq-Decides other name).0 is in
          let some : Some text ≡ Some there = sym (added_so other true is) ∙ e in
          let t : text ≡ there = cc (some) in
          subst (λ (x : List ℕ). P x there) (sym n) (subst (λ (x : List ℕ). P name x) t new)
      by false is = old other there (sym (added_so other false is) ∙ e)

  -- all were read from the store
  added_read : (store : StoreView) → AreRead store (text_in texts) → Finds store.files Macros name answers.Found text → length text ≤ TEXT_LIMIT → AreRead store (text_in (insert texts name text))
  added_read store read answer size = record {
    short = each_added (λ other there. length there ≤ TEXT_LIMIT) size read.short;
    reported = both_reported store.files (λ (files : Files). AreAmong (macros_of files) (text_in texts)) (λ (files : Files). (files Macros name ≡ Some text) × (length text ≤ TEXT_LIMIT)) (λ (files : Files). AreAmong (macros_of files) (text_in (insert texts name text)))
        (λ files among new. each_added (λ other there. macros_of files other ≡ Some there) (macro_short files name text new.0 new.1) among) read.reported answer;
  }

  same_store : (old new : StoreView) → new.files ≡ old.files → new.faults ≡ old.faults → new.failed ≡ old.failed → new ≡ old
  same_store old new files faults failed = λ i. record { files = files i; faults = faults i; failed = failed i }

  -- the source goes on
  pub added_goes_on : (old new : StoreView) (want : Option Want) → Finds old.files Macros name answers.Found text → length text ≤ TEXT_LIMIT → new.files ≡ old.files → new.faults ≡ old.faults → new.failed ≡ old.failed
      → GoesOn (record { store = old; texts = texts; want = want }) (record { store = new; texts = insert texts name text; want = want })
  added_goes_on old new want answer size files faults failed ready =
      let same = same_store old new files faults failed in
      (record { read = subst (λ (store : StoreView). AreRead store (text_in (insert texts name text))) (sym same) (added_read old ready.read answer size); all_found = ready.all_found }, same)

  -- with the same name and text
  pub added_so_goes_on : (other there : List ℕ) (added : Texts) (old new : StoreView) (want : Option Want) → added ≡ insert texts other there → other ≡ name → there ≡ text → Finds old.files Macros name answers.Found text → length text ≤ TEXT_LIMIT
      → new.files ≡ old.files → new.faults ≡ old.faults → new.failed ≡ old.failed → GoesOn (record { store = old; texts = texts; want = want }) (record { store = new; texts = added; want = want })
  added_so_goes_on other there added old new want is same_name same_text answer size files faults failed =
      subst (λ (now : Texts). GoesOn (record { store = old; texts = texts; want = want }) (record { store = new; texts = now; want = want }))
      (sym (is ∙ (ap (λ (n : List ℕ). insert texts n there) same_name ∙ ap (λ (t : List ℕ). insert texts name t) same_text))) (added_goes_on old new want answer size files faults failed)

  -- a text that is added, or not, leaves those that were there
  pub kept_so : {X E : Type 0} (result : Result X E) (added : Texts) → text_in texts name ≡ None → OnOk result (added ≡ insert texts name text) → OnErr result (added ≡ texts) → AreAmong (text_in added) (text_in texts)
  kept_so (Ok x) added none ok err = rw ok (added_among none)
  kept_so (Err e) added none ok err = rw err (λ other there is. is)

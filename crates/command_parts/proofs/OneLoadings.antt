-- The files that a command names give one list of tables, or one fault.
use Rattle.std.proofs.Common.{◌≡◌, ℕ, List, [], ◌∷◌, Option, None, Some, Result, Ok, Err, inl, inr, refl, sym, ap, ◌∙◌, subst, arith}
use Rattle.wal_outside.specs.Files.{Files}
use Rattle.wal_outside.specs.declared.folder.Folder.{Folder}
use Rattle.dfa_loading.specs.Loading.{AreListedBy, FirstRefuses}
use Rattle.dfa_loading.specs.Places.{place_of, lists_of, IsListedBy, HasFlaw, Refuses}
use Rattle.dfa_loading.specs.declared.fault.FileFlaw.{FileFlaw}
use Rattle.dfa_loading.specs.declared.fault.FileFlaw.TheVariants.{Line, TooLong}
use Rattle.dfa_loading.specs.declared.fault.LoadFault.{LoadFault}
use Rattle.dfa_loading.specs.declared.fault.LoadFault.TheVariants as loads
use Rattle.dfa_loading.specs.declared.loaded.Loaded.{Loaded}
use Rattle.formula_resolve.specs.declared.file.File.{File}
use Rattle.definitions.specs.Texts.{HasTextAt, Stores}
use Rattle.definitions.specs.Trees.{Entry, Ledger, custom_of}
use Rattle.definitions.proofs.OneTexts.{one_text_of}
use Rattle.system_files.specs.SystemFiles.{Custom}
use Rattle.command_parts.specs.declared.refusal.Refusal.{Refusal}
use Rattle.command_parts.specs.FileChecks.{FilesAnswers, files_loaded}
use Rattle.command_parts.specs.FormulaFaults.{fault_of_loading}
use Rattle.command_parts.specs.Checks.{IsSingle}
use Rattle.command_parts.proofs.CheckSteps.{single_so}
use Rattle.command_parts.proofs.RefusingSteps.{refusing_single}
use Rattle.command_parts.specs.RefusingChecks.{Refusing}

-- files that are the texts of one ledger have the same texts
same_text_at : (custom : Custom) (folder : Folder) (entry : Option Entry) (text other : Option (List ℕ)) → HasTextAt custom folder entry text → HasTextAt custom folder entry other → text ≡ other
same_text_at custom folder None None None a b = refl
same_text_at custom folder None None (Some other) a b = absurd b
same_text_at custom folder None (Some text) other a b = absurd a
same_text_at custom folder (Some entry) None other a b = absurd a
same_text_at custom folder (Some entry) (Some text) None a b = absurd b
same_text_at custom folder (Some entry) (Some text) (Some other) a b = ap Some (one_text_of custom entry text other a.1 b.1)

module _ (ledger : Ledger) (files others : Files) (stores : Stores ledger files) (also : Stores ledger others) where
  pub same_there : (folder : Folder) (name : List ℕ) → files folder name ≡ others folder name
  same_there folder name = same_text_at (custom_of ledger) folder (ledger folder name) (files folder name) (others folder name) (stores folder name) (also folder name)

  -- a file has one text
  one_at : (file : File) (text other : List ℕ) → files (place_of file).0 (place_of file).1 ≡ Some text → others (place_of file).0 (place_of file).1 ≡ Some other → text ≡ other
  one_at file text other a b = let e : Some text ≡ Some other = sym a ∙ (same_there (place_of file).0 (place_of file).1 ∙ b) in cc

  one_by : (file : File) (t u : Loaded) → IsListedBy files file t → IsListedBy others file u → t ≡ u
  one_by file t u a b =
      let texts : a.text ≡ b.text = one_at file a.text b.text a.there b.there in
      let read : Ok t.listed ≡ Ok u.listed = sym a.lists.lists ∙ (ap (lists_of file) texts ∙ b.lists.lists) in
      let listed : t.listed ≡ u.listed = cc in
      let same : t.file ≡ u.file = a.lists.file_is ∙ sym b.lists.file_is in
      let bytes : t.text ≡ u.text = a.lists.text_is ∙ (texts ∙ sym b.lists.text_is) in
      λ i. record { file = same i; text = bytes i; listed = listed i }

  one_flaw : (file : File) (text : List ℕ) (flaw other : FileFlaw) → HasFlaw file text flaw → HasFlaw file text other → flaw ≡ other
  one_flaw file text (Line at) (Line by) a b = let e : Err at ≡ Err by = sym a.1 ∙ b.1 in ap Line cc
  one_flaw file text (Line at) TooLong a b = absurd (omega (arith, a.0, b))
  one_flaw file text TooLong (Line by) a b = absurd (omega (arith, a, b.0))
  one_flaw file text TooLong TooLong a b = refl

  none_by : (file : File) (t : Loaded) (f : LoadFault) → IsListedBy files file t → Refuses others file f → ⊥
  none_by file t (loads.Unknown folder name) a b = let e : Some a.text ≡ None = sym a.there ∙ (same_there (place_of file).0 (place_of file).1 ∙ b.1) in cc
  none_by file t (loads.File folder name flaw) a (at, (text, there, flawed)) = by_flaw flaw (subst (λ (x : List ℕ). HasFlaw file x flaw) (sym (one_at file a.text text a.there there)) flawed)
    where
      by_flaw : (w : FileFlaw) → HasFlaw file a.text w → ⊥
      by_flaw (Line by) is = let e : Ok t.listed ≡ Err by = sym a.lists.lists ∙ is.1 in cc
      by_flaw TooLong is = omega (arith, a.short, is)
  none_by file t (loads.Store folder name) a b = b
  none_by file t loads.Memory a b = b

  fault_by : (file : File) (f g : LoadFault) → Refuses files file f → Refuses others file g → f ≡ g
  fault_by file (loads.Unknown folder name) (loads.Unknown d n) a b = λ i. loads.Unknown ((a.0.0 ∙ sym b.0.0) i) ((a.0.1 ∙ sym b.0.1) i)
  fault_by file (loads.Unknown folder name) (loads.File d n flaw) a (at, (text, there, flawed)) = let e : None ≡ Some text = sym a.1 ∙ (same_there (place_of file).0 (place_of file).1 ∙ there) in absurd cc
  fault_by file (loads.File folder name flaw) (loads.Unknown d n) (at, (text, there, flawed)) b = let e : Some text ≡ None = sym there ∙ (same_there (place_of file).0 (place_of file).1 ∙ b.1) in absurd cc
  fault_by file (loads.File folder name flaw) (loads.File d n w) (at, (text, there, flawed)) (at', (text', there', flawed')) =
      let same : flaw ≡ w = one_flaw file text flaw w flawed (subst (λ (x : List ℕ). HasFlaw file x w) (sym (one_at file text text' there there')) flawed') in
      λ i. loads.File ((at.0 ∙ sym at'.0) i) ((at.1 ∙ sym at'.1) i) (same i)
  fault_by file (loads.Unknown folder name) (loads.Store d n) a b = absurd b
  fault_by file (loads.Unknown folder name) loads.Memory a b = absurd b
  fault_by file (loads.File folder name flaw) (loads.Store d n) a b = absurd b
  fault_by file (loads.File folder name flaw) loads.Memory a b = absurd b
  fault_by file (loads.Store folder name) g a b = absurd a
  fault_by file loads.Memory g a b = absurd a

  pub one_list : (named : List File) (ts us : List Loaded) → AreListedBy files named ts → AreListedBy others named us → ts ≡ us
  one_list [] [] [] a b = refl
  one_list [] [] (u ∷ us) a b = absurd b
  one_list [] (t ∷ ts) us a b = absurd a
  one_list (file ∷ named) [] us a b = absurd a
  one_list (file ∷ named) (t ∷ ts) [] a b = absurd b
  one_list (file ∷ named) (t ∷ ts) (u ∷ us) a b =
      let first : t ≡ u = one_by file t u a.0 b.0 in
      let rest : ts ≡ us = one_list named ts us a.1 b.1 in
      λ i. first i ∷ rest i

  not_refused : (named : List File) (ts : List Loaded) (f : LoadFault) → AreListedBy files named ts → FirstRefuses others named f → ⊥
  not_refused [] ts f a b = b
  not_refused (file ∷ named) [] f a b = a
  not_refused (file ∷ named) (t ∷ ts) f a (inl refused) = none_by file t f a.0 refused
  not_refused (file ∷ named) (t ∷ ts) f a (inr (u, listed, later)) = not_refused named ts f a.1 later

module _ (ledger : Ledger) (files others : Files) (stores : Stores ledger files) (also : Stores ledger others) where
  one_fault : (named : List File) (f g : LoadFault) → FirstRefuses files named f → FirstRefuses others named g → f ≡ g
  one_fault [] f g a b = absurd a
  one_fault (file ∷ named) f g (inl a) (inl b) = fault_by ledger files others stores also file f g a b
  one_fault (file ∷ named) f g (inl a) (inr (t, b, later)) = absurd (none_by ledger others files also stores file t f b a)
  one_fault (file ∷ named) f g (inr (t, a, later)) (inl b) = absurd (none_by ledger files others stores also file t g a b)
  one_fault (file ∷ named) f g (inr (t, a, later)) (inr (u, b, after)) = one_fault named f g later after

-- the tables, or the fault
abbrev IsLoading : Ledger → List File → Result (List Loaded) LoadFault → Type 0
IsLoading ledger named (Ok tables) = (files : Files) × Stores ledger files × AreListedBy files named tables
IsLoading ledger named (Err fault) = (files : Files) × Stores ledger files × FirstRefuses files named fault

files_is : (ledger : Ledger) (named : List File) (r : Result (List Loaded) Refusal) → FilesAnswers ledger named r → (Refusing fault_of_loading (IsLoading ledger named)).answers r
files_is ledger named (Ok tables) a = a
files_is ledger named (Err refusal) a = a

files_one : (ledger : Ledger) (named : List File) (r s : Result (List Loaded) LoadFault) → IsLoading ledger named r → IsLoading ledger named s → r ≡ s
files_one ledger named (Ok ts) (Ok us) (files, stores, are) (others, also, are') = ap (λ (xs : List Loaded). let x : Result (List Loaded) LoadFault = Ok xs in x) (one_list ledger files others stores also named ts us are are')
files_one ledger named (Ok ts) (Err fault) (files, stores, are) (others, also, first) = absurd (not_refused ledger files others stores also named ts fault are first)
files_one ledger named (Err fault) (Ok us) (files, stores, first) (others, also, are) = absurd (not_refused ledger others files also stores named us fault are first)
files_one ledger named (Err fault) (Err other) (files, stores, first) (others, also, first') = ap (λ (f : LoadFault). let x : Result (List Loaded) LoadFault = Err f in x) (one_fault ledger files others stores also named fault other first first')

pub files_single : (ledger : Ledger) (named : List File) → IsSingle (files_loaded ledger named)
files_single ledger named = single_so (files_loaded ledger named) (Refusing fault_of_loading (IsLoading ledger named)) (files_is ledger named) (refusing_single fault_of_loading (IsLoading ledger named) (files_one ledger named))

-- Files loaded one after another.
use Rattle.std.proofs.Common.{◌≡◌, ℕ, suc, ◌+◌, ◌<◌, List, [], ◌∷◌, ◌++◌, length, take, drop, get_or, Option, Result, Ok, Err, Vec, Global, sym, ap, ◌∙◌, subst}
use Rattle.std.specs.Option.{IfSome}
use Rattle.std.specs.Result.{IsErrAnd}
use Rattle.std.proofs.lemmas.List.{take_more, take-append-drop}
use Rattle.std.proofs.Math.Seq.{drop-cons}
use Rattle.wal_outside.specs.Files.{Files}
use Rattle.wal_outside.specs.Views.{StoreView}
use Rattle.formula_resolve.specs.FirstMentions.{IsOnce}
use Rattle.formula_resolve.specs.declared.file.File.{File}
use Rattle.dfa_loading.specs.declared.fault.LoadFault.{LoadFault}
use Rattle.dfa_loading.specs.declared.loaded.Loaded.{Loaded}
use Rattle.dfa_loading.specs.Places.{IsLoadedFile}
use Rattle.dfa_loading.specs.Loading.{IsLoaded, AreListedBy, FirstFails}
use Rattle.dfa_loading.proofs.ReadSteps.{nothing_read, reads_both, reads_ok, reads_so}
use Rattle.dfa_loading.proofs.PlaceSteps.{some_files}
use Rattle.dfa_loading.proofs.FoundSteps.{IsMore, one_more_file}
use Rattle.dfa_loading.proofs.FileSteps.{listed_moved, fails_moved, all_moved, listed_more, fails_first}

-- before the first file
pub none_loaded : (store : StoreView) (tables : Vec Loaded Global) → tables.items ≡ [] → IsLoaded [] store (Ok tables) store
none_loaded store tables empty =
    let some : (found : Files) × IfSome store.files (λ files. found ≡ files) = some_files store.files in
    record {
      found = some.0;
      reported = some.1;
      gives = subst (λ (ts : List Loaded). AreListedBy some.0 [] ts) (sym empty) tt;
      has_read = nothing_read store tables;
    }

-- the files that were found before, and one more
found_next : (named : List File) (file : File) (old mid new : StoreView) (tables : Vec Loaded Global) (result : Result Loaded LoadFault) → (prefix : IsLoaded named old (Ok tables) mid) → (next : IsLoadedFile file mid result new)
    → (more : Files) × IsMore old.files prefix.found next.found file more
found_next named file old mid new tables result prefix next =
    one_more_file old.files prefix.found next.found file prefix.reported (subst (λ (reported : Option Files). IfSome reported (λ files. next.found ≡ files)) prefix.has_read.files next.reported)

-- one file more gives its table
pub loaded_more : (files : List File) (i : ℕ) (file : File) (old mid new : StoreView) (tables more : Vec Loaded Global) (table : Loaded) → i < length files → file ≡ get_or files i file → IsOnce files → more.items ≡ tables.items ++ table ∷ []
    → IsLoaded (take i files) old (Ok tables) mid → IsLoadedFile file mid (Ok table) new → IsLoaded (take (i + 1) files) old (Ok more) new
loaded_more files i file old mid new tables more table within is once pushed prefix next =
    let found : (found : Files) × IsMore old.files prefix.found next.found file found = found_next (take i files) file old mid new tables (Ok table) prefix next in
    let before : AreListedBy found.0 (take i files) tables.items = all_moved prefix.found found.0 file (take i files) tables.items (once i file within is) found.1.kept prefix.gives in
    let all : AreListedBy found.0 (take i files ++ file ∷ []) (tables.items ++ table ∷ []) = listed_more found.0 (take i files) tables.items file table before (listed_moved next.found found.0 file table found.1.new_is next.gives) in
    let named : take (i + 1) files ≡ take i files ++ file ∷ [] = take_more files i file within ∙ ap (λ (f : File). take i files ++ f ∷ []) (sym is) in
    record {
      found = found.0;
      reported = found.1.reported_is;
      gives = subst (λ (fs : List File). AreListedBy found.0 fs more.items) (sym named) (subst (λ (ts : List Loaded). AreListedBy found.0 (take i files ++ file ∷ []) ts) (sym pushed) all);
      has_read = reads_both old mid new tables (Ok more) prefix.has_read (reads_ok mid new table more next.has_read);
    }

-- one file more fails
stopped : (files : List File) (i : ℕ) (file : File) (old mid new : StoreView) (tables : Vec Loaded Global) (fault : LoadFault) → i < length files → file ≡ get_or files i file → IsOnce files
    → IsLoaded (take i files) old (Ok tables) mid → IsLoadedFile file mid (Err fault) new → IsLoaded files old (Err fault) new
stopped files i file old mid new tables fault within is once prefix next =
    let found : (found : Files) × IsMore old.files prefix.found next.found file found = found_next (take i files) file old mid new tables (Err fault) prefix next in
    let before : AreListedBy found.0 (take i files) tables.items = all_moved prefix.found found.0 file (take i files) tables.items (once i file within is) found.1.kept prefix.gives in
    let first : FirstFails found.0 (take i files ++ file ∷ drop (suc i) files) fault = fails_first found.0 (take i files) tables.items file (drop (suc i) files) fault before (fails_moved next.found found.0 file fault found.1.new_is next.gives) in
    let suffix : drop i files ≡ file ∷ drop (suc i) files = drop-cons files i file within ∙ ap (λ (f : File). f ∷ drop (suc i) files) (sym is) in
    let named : take i files ++ file ∷ drop (suc i) files ≡ files = ap (λ (fs : List File). take i files ++ fs) (sym suffix) ∙ take-append-drop i files in
    record {
      found = found.0;
      reported = found.1.reported_is;
      gives = subst (λ (fs : List File). FirstFails found.0 fs fault) named first;
      has_read = reads_both old mid new tables (Err fault) prefix.has_read (reads_so mid new fault next.has_read);
    }

pub loading_stops : (files : List File) (i : ℕ) (file : File) (old mid new : StoreView) (tables : Vec Loaded Global) (fault : LoadFault) (result : Result (Vec Loaded Global) LoadFault) → i < length files → file ≡ get_or files i file → IsOnce files
    → IsLoaded (take i files) old (Ok tables) mid → IsLoadedFile file mid (Err fault) new → IsErrAnd result (λ e. e ≡ fault) → IsLoaded files old result new
loading_stops files i file old mid new tables fault (Ok loaded) within is once prefix next same = absurd same
loading_stops files i file old mid new tables fault (Err e) within is once prefix next same =
    subst (λ (f : LoadFault). IsLoaded files old (Err f) new) (sym same) (stopped files i file old mid new tables fault within is once prefix next)

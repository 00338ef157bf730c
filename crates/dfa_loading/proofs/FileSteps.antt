-- What files list, and why they don't, as one more is known.
use Rattle.std.proofs.Common.{◌≡◌, ℕ, Bool, true, false, ◌||◌, List, [], ◌∷◌, ◌++◌, Result, Ok, Err, refl, sym, subst, ◌∙◌, inl, inr}
use Rattle.std.proofs.lemmas.Bool.{false≢true}
use Rattle.std.specs.Option.{IfSome}
use Rattle.std.specs.Result.{IsErrAnd}
use Rattle.wal_outside.specs.Files.{Files}
use Rattle.wal_outside.specs.Views.{StoreView}
use Rattle.wal_outside.specs.declared.folder.Folder.{Folder}
use Rattle.formula_resolve.specs.FirstMentions.{has, is_same_file}
use Rattle.formula_resolve.specs.declared.file.File.{File}
use Rattle.dfa_loading.specs.declared.fault.LoadFault.{LoadFault}
use Rattle.dfa_loading.specs.declared.fault.LoadFault.TheVariants as faults
use Rattle.dfa_loading.specs.declared.loaded.Loaded.{Loaded}
use Rattle.dfa_loading.specs.Places.{IsListedBy, Refuses, IsReadAt, Fails, IsLoadedFile}
use Rattle.dfa_loading.specs.Loading.{AreListedBy, FirstRefuses, ReadsAt, FirstFails}
use Rattle.dfa_loading.proofs.ReadSteps.{nothing_refused}
use Rattle.dfa_loading.proofs.PlaceSteps.{some_files}
use Rattle.dfa_loading.proofs.FoundSteps.{at_file}

-- only what is at its place counts
pub listed_moved : (found more : Files) (file : File) (table : Loaded) → at_file more file ≡ at_file found file → IsListedBy found file table → IsListedBy more file table
listed_moved found more file table same listed = record { text = listed.text; there = same ∙ listed.there; short = listed.short; lists = listed.lists }

pub fails_moved : (found more : Files) (file : File) (fault : LoadFault) → at_file more file ≡ at_file found file → Fails found file fault → Fails more file fault
fails_moved found more file (faults.Unknown folder at) same fails = (fails.0, same ∙ fails.1)
fails_moved found more file (faults.File folder at flaw) same fails = (fails.0, (fails.1.0, same ∙ fails.1.1, fails.1.2))
fails_moved found more file (faults.Store folder at) same fails = fails
fails_moved found more file faults.Memory same fails = tt

or_parts : (a b : Bool) → (a || b) ≡ false → (a ≡ false) × (b ≡ false)
or_parts true b none = absurd (false≢true (sym none))
or_parts false b none = (refl, none)

-- files that are none of one that was read list what they listed
pub all_moved : (found more : Files) (file : File) (named : List File) (tables : List Loaded) → has is_same_file named file ≡ false
    → ((other : File) → is_same_file other file ≡ false → at_file more other ≡ at_file found other) → AreListedBy found named tables → AreListedBy more named tables
all_moved found more file [] [] apart kept are = tt
all_moved found more file [] (table ∷ tables) apart kept are = absurd are
all_moved found more file (first ∷ named) [] apart kept are = absurd are
all_moved found more file (first ∷ named) (table ∷ tables) apart kept are =
    let parts : (is_same_file first file ≡ false) × (has is_same_file named file ≡ false) = or_parts (is_same_file first file) (has is_same_file named file) apart in
    (listed_moved found more first table (kept first parts.0) are.0, all_moved found more file named tables parts.1 kept are.1)

-- one more lists its table
pub listed_more : (found : Files) (named : List File) (tables : List Loaded) (file : File) (table : Loaded) → AreListedBy found named tables → IsListedBy found file table → AreListedBy found (named ++ file ∷ []) (tables ++ table ∷ [])
listed_more found [] [] file table are listed = (listed, tt)
listed_more found [] (first ∷ tables) file table are listed = absurd are
listed_more found (first ∷ named) [] file table are listed = absurd are
listed_more found (first ∷ named) (prefix ∷ tables) file table are listed = (are.0, listed_more found named tables file table are.1 listed)

-- a refusal after files that list tables is the first
refuses_first : (found : Files) (named : List File) (tables : List Loaded) (file : File) (rest : List File) (fault : LoadFault) → AreListedBy found named tables → Refuses found file fault → FirstRefuses found (named ++ file ∷ rest) fault
refuses_first found [] [] file rest fault are refuses = inl refuses
refuses_first found [] (table ∷ tables) file rest fault are refuses = absurd are
refuses_first found (first ∷ named) [] file rest fault are refuses = absurd are
refuses_first found (first ∷ named) (table ∷ tables) file rest fault are refuses = inr (table, are.0, refuses_first found named tables file rest fault are.1 refuses)

reads_first : (found : Files) (named : List File) (tables : List Loaded) (file : File) (rest : List File) (folder : Folder) (at : List ℕ) → AreListedBy found named tables → IsReadAt file folder at → ReadsAt found (named ++ file ∷ rest) folder at
reads_first found [] [] file rest folder at are reads = inl reads
reads_first found [] (table ∷ tables) file rest folder at are reads = absurd are
reads_first found (first ∷ named) [] file rest folder at are reads = absurd are
reads_first found (first ∷ named) (table ∷ tables) file rest folder at are reads = inr (table, are.0, reads_first found named tables file rest folder at are.1 reads)

-- the first file that fails
pub fails_first : (found : Files) (named : List File) (tables : List Loaded) (file : File) (rest : List File) (fault : LoadFault) → AreListedBy found named tables → Fails found file fault → FirstFails found (named ++ file ∷ rest) fault
fails_first found named tables file rest (faults.Unknown folder at) are fails = refuses_first found named tables file rest (faults.Unknown folder at) are fails
fails_first found named tables file rest (faults.File folder at flaw) are fails = refuses_first found named tables file rest (faults.File folder at flaw) are fails
fails_first found named tables file rest (faults.Store folder at) are fails = reads_first found named tables file rest folder at are fails
fails_first found named tables file rest faults.Memory are fails = tt

-- memory runs out before a file is read
pub no_memory : (file : File) (store : StoreView) (result : Result Loaded LoadFault) → IsErrAnd result (λ e. e ≡ faults.Memory) → IsLoadedFile file store result store
no_memory file store (Ok table) same = absurd same
no_memory file store (Err fault) same =
    let some : (found : Files) × IfSome store.files (λ files. found ≡ files) = some_files store.files in
    subst (λ (f : LoadFault). IsLoadedFile file store (Err f) store) (sym same) (record {
      found = some.0;
      reported = some.1;
      gives = tt;
      has_read = nothing_refused store faults.Memory refl;
    })

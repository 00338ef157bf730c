-- A morphism or a transducer and then tables, each read by files that are found: they are found together, since they are in other folders.
use Rattle.std.proofs.Common.{◌≡◌, ℕ, List, [], ◌∷◌, Option, None, Some, IfSome, Result, Ok, inl, inr, sym, ◌∙◌, subst}
use Rattle.wal_outside.specs.Files.{Files}
use Rattle.wal_outside.specs.Views.{StoreView}
use Rattle.wal_outside.specs.declared.folder.Folder.{Folder}
use Rattle.wal_outside.specs.declared.folder.Folder.TheVariants.{Automata, Words, Bases, Macros, Morphisms, Transducers, Results, Commands}
use Rattle.dfa_loading.specs.Loading.{AreListedBy, FirstFails, FirstRefuses, ReadsAt}
use Rattle.dfa_loading.specs.Places.{IsListedBy, Refuses}
use Rattle.dfa_loading.specs.declared.fault.LoadFault.{LoadFault}
use Rattle.dfa_loading.specs.declared.fault.LoadFault.TheVariants as loads
use Rattle.dfa_loading.specs.declared.loaded.Loaded.{Loaded}
use Rattle.formula_resolve.specs.declared.file.File.{File}
use Rattle.formula_resolve.specs.declared.file.File.TheVariants.{Automaton, Word}
use Rattle.morph_words.specs.Rules.{Rules}
use Rattle.morphism_loading.specs.MorphismFiles.{IsMorphismIn}
use Rattle.transducer_loading.specs.TransducerFiles.{IsTransducerIn}
use Rattle.transducer_reading.specs.Transducers.{Transducer}
use Rattle.command_parts.specs.declared.fault.Fault.{Fault}
use Rattle.command_parts.specs.FormulaLoads.{AreUnloaded}
use Rattle.command_parts.specs.FormulaLoads.{AreUnloaded}
use Rattle.command_parts.specs.StoreReads.{FromFiles}
use Rattle.command_parts.proofs.TextReads.{reads_both}

-- the files with the morphisms and the transducers of others
abbrev pub with_maps : Files → Files → Files
with_maps files others Automata = files Automata
with_maps files others Words = files Words
with_maps files others Bases = files Bases
with_maps files others Macros = files Macros
with_maps files others Morphisms = others Morphisms
with_maps files others Transducers = others Transducers
with_maps files others Results = files Results
with_maps files others Commands = files Commands

module _ (files others : Files) where
  -- the morphism is the same there
  pub morphism_with : (name : List ℕ) (rules : Rules) → IsMorphismIn others name rules → IsMorphismIn (with_maps files others) name rules
  morphism_with name rules is = record { text = is.text; there = is.there; short = is.short; derives = is.derives }

  -- and so is a transducer
  pub transducer_with : (name : List ℕ) (t : Transducer) → IsTransducerIn others name t → IsTransducerIn (with_maps files others) name t
  transducer_with name t is = record { text = is.text; there = is.there; short = is.short; gives = is.gives }

  -- and so are tables
  one_with : (file : File) (table : Loaded) → IsListedBy files file table → IsListedBy (with_maps files others) file table
  one_with (Automaton name) table l = record { text = l.text; there = l.there; short = l.short; lists = l.lists }
  one_with (Word name) table l = record { text = l.text; there = l.there; short = l.short; lists = l.lists }

  pub listed_with : (named : List File) (tables : List Loaded) → AreListedBy files named tables → AreListedBy (with_maps files others) named tables
  listed_with [] [] all = tt
  listed_with [] (table ∷ tables) all = all
  listed_with (file ∷ named) [] all = all
  listed_with (file ∷ named) (table ∷ tables) all = (one_with file table all.0, listed_with named tables all.1)

  refused_with : (file : File) (fault : LoadFault) → Refuses files file fault → Refuses (with_maps files others) file fault
  refused_with (Automaton name) (loads.Unknown folder at) is = is
  refused_with (Word name) (loads.Unknown folder at) is = is
  refused_with (Automaton name) (loads.File folder at flaw) is = is
  refused_with (Word name) (loads.File folder at flaw) is = is
  refused_with file (loads.Store folder at) is = absurd is
  refused_with file loads.Memory is = absurd is

  first_with : (named : List File) (fault : LoadFault) → FirstRefuses files named fault → FirstRefuses (with_maps files others) named fault
  first_with [] fault first = first
  first_with (file ∷ named) fault (inl refused) = inl (refused_with file fault refused)
  first_with (file ∷ named) fault (inr (table, listed, rest)) = inr (table, one_with file table listed, first_with named fault rest)

  reads_with : (named : List File) (folder : Folder) (name : List ℕ) → ReadsAt files named folder name → ReadsAt (with_maps files others) named folder name
  reads_with [] folder name at = at
  reads_with (file ∷ named) folder name (inl at) = inl at
  reads_with (file ∷ named) folder name (inr (table, listed, rest)) = inr (table, one_with file table listed, reads_with named folder name rest)

  fails_with : (named : List File) (load : LoadFault) → FirstFails files named load → FirstFails (with_maps files others) named load
  fails_with named (loads.Unknown folder name) first = first_with named (loads.Unknown folder name) first
  fails_with named (loads.File folder name flaw) first = first_with named (loads.File folder name flaw) first
  fails_with named (loads.Store folder name) at = reads_with named folder name at
  fails_with named loads.Memory out = tt

  pub unloaded_with : (named : List File) (fault : Fault) → AreUnloaded files named fault → AreUnloaded (with_maps files others) named fault
  unloaded_with named fault (own, is, fails) = (own, is, fails_with named own fails)

-- files that are the store's where it reports them, of which both properties are known
record AreBoth (P Q : Files → Type 0) (reported : Option Files) : Type 0 where
  found : Files
  reported_so : IfSome reported (λ (files : Files). found ≡ files)
  first : P found
  second : Q found

both : (P Q : Files → Type 0) (reported : Option Files) (a b : Files) → IfSome reported (λ (t : Files). a ≡ t) → IfSome reported (λ (t : Files). b ≡ t) → P a → Q b → P (with_maps b a) → Q (with_maps b a) → AreBoth P Q reported
both P Q None a b here there p q pp qq = record { found = with_maps b a; reported_so = tt; first = pp; second = qq }
both P Q (Some t) a b here there p q pp qq = record { found = a; reported_so = here; first = p; second = subst Q (there ∙ sym here) q }

-- what was read in other folders, and then what was read after it
pub then_files : {X Y : Type 0} (First : Files → Result X Fault → Type 0) (Second : Files → Result Y Fault → Type 0) (old mid new : StoreView) (x : X) (r : Result Y Fault) → ((files others : Files) → First others (Ok x) → First (with_maps files others) (Ok x))
    → ((files others : Files) → Second files r → Second (with_maps files others) r) → FromFiles First old (Ok x) mid → FromFiles Second mid r new → FromFiles (λ files s. First files (Ok x) × Second files s) old r new
then_files First Second old mid new x r first_with second_with first second =
    let there : IfSome old.files (λ (t : Files). second.found ≡ t) = subst (λ (o : Option Files). IfSome o (λ (t : Files). second.found ≡ t)) first.has_read.files second.reported in
    let c = both (λ (files : Files). First files (Ok x)) (λ (files : Files). Second files r) old.files first.found second.found first.reported there first.gives second.gives
    (first_with second.found first.found first.gives) (second_with second.found first.found second.gives) in
    record { found = c.found; reported = c.reported_so; gives = (c.first, c.second); has_read = reads_both old mid new x r first.has_read second.has_read }

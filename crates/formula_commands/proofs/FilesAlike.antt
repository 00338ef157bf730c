-- Files of automata and words are loaded alike whatever macros are beside them.
use Rattle.std.proofs.Common.{◌≡◌, ◌≢◌, ℕ, List, [], ◌∷◌, inl, inr, ◌∙◌}
use Rattle.wal_outside.specs.Files.{Files}
use Rattle.wal_outside.specs.declared.folder.Folder.{Folder}
use Rattle.wal_outside.specs.declared.folder.Folder.TheVariants.{Automata, Words, Bases, Macros}
use Rattle.dfa_loading.specs.Loading.{AreListedBy, FirstFails, FirstRefuses, ReadsAt}
use Rattle.dfa_loading.specs.Places.{IsListedBy, Refuses}
use Rattle.dfa_loading.specs.declared.fault.LoadFault.{LoadFault}
use Rattle.dfa_loading.specs.declared.fault.LoadFault.TheVariants as loads
use Rattle.dfa_loading.specs.declared.loaded.Loaded.{Loaded}
use Rattle.formula_resolve.specs.declared.file.File.{File}
use Rattle.formula_resolve.specs.declared.file.File.TheVariants.{Automaton, Word}
use Rattle.command_parts.specs.declared.fault.Fault.{Fault}
use Rattle.command_parts.specs.FormulaLoads.{AreUnloaded}
use Rattle.formula_commands.specs.MacroMakes.{SameButMacros}

no_automata : Automata ≢ Macros
no_automata is = cc

no_words : Words ≢ Macros
no_words is = cc

no_bases : Bases ≢ Macros
no_bases is = cc

module _ (files others : Files) (same : SameButMacros files others) where
  -- the texts of users' systems are the same
  pub bases_alike : files Bases ≡ others Bases
  bases_alike = λ i name. same Bases name no_bases i

  one_alike : (file : File) (table : Loaded) → IsListedBy others file table → IsListedBy files file table
  one_alike (Automaton name) table l = record { text = l.text; there = same Automata name no_automata ∙ l.there; short = l.short; lists = l.lists }
  one_alike (Word name) table l = record { text = l.text; there = same Words name no_words ∙ l.there; short = l.short; lists = l.lists }

  pub listed_alike : (named : List File) (tables : List Loaded) → AreListedBy others named tables → AreListedBy files named tables
  listed_alike [] [] all = tt
  listed_alike [] (table ∷ tables) all = all
  listed_alike (file ∷ named) [] all = all
  listed_alike (file ∷ named) (table ∷ tables) all = (one_alike file table all.0, listed_alike named tables all.1)

  refuses_alike : (file : File) (f : LoadFault) → Refuses others file f → Refuses files file f
  refuses_alike (Automaton of) (loads.Unknown folder name) (at, none) = (at, same Automata of no_automata ∙ none)
  refuses_alike (Automaton of) (loads.File folder name flaw) (at, (text, there, flawed)) = (at, (text, same Automata of no_automata ∙ there, flawed))
  refuses_alike (Automaton of) (loads.Store folder name) is = is
  refuses_alike (Automaton of) loads.Memory is = is
  refuses_alike (Word of) (loads.Unknown folder name) (at, none) = (at, same Words of no_words ∙ none)
  refuses_alike (Word of) (loads.File folder name flaw) (at, (text, there, flawed)) = (at, (text, same Words of no_words ∙ there, flawed))
  refuses_alike (Word of) (loads.Store folder name) is = is
  refuses_alike (Word of) loads.Memory is = is

  first_alike : (named : List File) (f : LoadFault) → FirstRefuses others named f → FirstRefuses files named f
  first_alike [] f is = is
  first_alike (file ∷ named) f (inl refused) = inl (refuses_alike file f refused)
  first_alike (file ∷ named) f (inr (table, listed, more)) = inr (table, one_alike file table listed, first_alike named f more)

  reads_alike : (named : List File) (folder : Folder) (name : List ℕ) → ReadsAt others named folder name → ReadsAt files named folder name
  reads_alike [] folder name is = is
  reads_alike (file ∷ named) folder name (inl here) = inl here
  reads_alike (file ∷ named) folder name (inr (table, listed, more)) = inr (table, one_alike file table listed, reads_alike named folder name more)

  fails_alike : (named : List File) (load : LoadFault) → FirstFails others named load → FirstFails files named load
  fails_alike named (loads.Unknown folder name) is = first_alike named (loads.Unknown folder name) is
  fails_alike named (loads.File folder name flaw) is = first_alike named (loads.File folder name flaw) is
  fails_alike named (loads.Store folder name) is = reads_alike named folder name is
  fails_alike named loads.Memory is = tt

  pub unloaded_alike : (named : List File) (fault : Fault) → AreUnloaded others named fault → AreUnloaded files named fault
  unloaded_alike named fault (own, is, fails) = (own, is, fails_alike named own fails)

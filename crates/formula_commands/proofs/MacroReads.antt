-- What calls of macros read: texts among macros, beside whatever is read of other folders after them.
use Rattle.std.proofs.Common.{◌≡◌, ℕ, List, Option, None, Some, IfSome, Result, Ok, refl, sym, ap, ◌∙◌, subst}
use Rattle.wal_outside.specs.Files.{Files}
use Rattle.wal_outside.specs.Views.{StoreView}
use Rattle.wal_outside.specs.declared.folder.Folder.TheVariants.{Automata, Words, Bases, Macros, Morphisms, Transducers, Results, Commands}
use Rattle.macro_expand.specs.Expansion.{expansion}
use Rattle.macro_expand.specs.Texts.{TextOf}
use Rattle.dfa_loading.specs.declared.fault.LoadFault.TheVariants as loads
use Rattle.macro_loading.specs.MacroFiles as macros
use Rattle.macro_loading.specs.MacroFiles.{macros_of, short_text}
use Rattle.macro_loading.specs.declared.fault.ExpansionFault.{ExpansionFault}
use Rattle.macro_loading.specs.declared.fault.ExpansionFault.TheVariants as expansions
use Rattle.definitions.specs.Trees.{Ledger}
use Rattle.definitions.specs.Texts.{Stores}
use Rattle.command_parts.specs.declared.fault.Fault.{Fault}
use Rattle.command_parts.specs.Checks.{Fails}
use Rattle.command_parts.specs.FormulaFaults.{fault_of_expansion}
use Rattle.formula_commands.specs.MacroChecks.{expanded}
use Rattle.formula_commands.specs.MacroMakes.{IsUnexpanded, SameButMacros}
use Rattle.command_parts.specs.StoreReads.{FromFiles}
use Rattle.command_parts.proofs.TextReads.{reads_both}

-- a text that is not expanded refuses a command
pub unexpanded : (ledger : Ledger) (files : Files) (body : List ℕ) (fault : Fault) → Stores ledger files → IsUnexpanded files body fault → Fails (expanded ledger body) fault
unexpanded ledger files body fault stores (own, is, fails) = subst (Fails (expanded ledger body)) is (by own fails)
  where
    by : (f : ExpansionFault) → macros.Fails files body f → Fails (expanded ledger body) (fault_of_expansion f)
    by (expansions.Syntax at) is = (expansions.Syntax at, refl, (files, stores, is))
    by (expansions.MacroArgs of n given) is = (expansions.MacroArgs of n given, refl, (files, stores, is))
    by (expansions.MacroDepth of) is = (expansions.MacroDepth of, refl, (files, stores, is))
    by expansions.MacroLong is = (expansions.MacroLong, refl, (files, stores, is))
    by (expansions.Load (loads.Unknown folder name)) is = (expansions.Load (loads.Unknown folder name), refl, (files, stores, is))
    by (expansions.Load (loads.File folder name flaw)) is = (expansions.Load (loads.File folder name flaw), refl, (files, stores, is))
    by (expansions.Load (loads.Store folder name)) is = (files, stores, is)
    by (expansions.Load loads.Memory) is = tt

-- the expansion is that by other files where the macros are the same
pub expanded_alike : (files others : Files) (body text : List ℕ) → ((name : List ℕ) → files Macros name ≡ others Macros name) → expansion (macros_of others) body ≡ Ok text → expansion (macros_of files) body ≡ Ok text
expanded_alike files others body text same is =
    let alike : macros_of files ≡ macros_of others = λ i name. short_text (same name i) in
    ap (λ (texts : TextOf). expansion texts body) alike ∙ is

-- the files with the macros of others
with_macros : Files → Files → Files
with_macros files others Automata = files Automata
with_macros files others Words = files Words
with_macros files others Bases = files Bases
with_macros files others Macros = others Macros
with_macros files others Morphisms = files Morphisms
with_macros files others Transducers = files Transducers
with_macros files others Results = files Results
with_macros files others Commands = files Commands

same_others : (files others : Files) → SameButMacros (with_macros files others) files
unfolding with_macros
same_others files others Automata name other = refl
same_others files others Words name other = refl
same_others files others Bases name other = refl
same_others files others Macros name other = absurd (other refl)
same_others files others Morphisms name other = refl
same_others files others Transducers name other = refl
same_others files others Results name other = refl
same_others files others Commands name other = refl

-- files that are the store's where it reports them, with the macros of one and all else of the other
record AreJoined (reported : Option Files) (one two : Files) : Type 0 where
  found : Files
  reported_so : IfSome reported (λ (files : Files). found ≡ files)
  same_macros : (name : List ℕ) → found Macros name ≡ one Macros name
  others : SameButMacros found two

joined : (reported : Option Files) (one two : Files) → IfSome reported (λ (files : Files). one ≡ files) → IfSome reported (λ (files : Files). two ≡ files) → AreJoined reported one two
unfolding with_macros
joined None one two a b = record { found = with_macros two one; reported_so = tt; same_macros = λ name. refl; others = same_others two one }
joined (Some files) one two a b = record { found = one; reported_so = a; same_macros = λ name. refl; others = λ folder name other. ap (λ (f : Files). f folder name) (a ∙ sym b) }

-- what is read of other folders after the macros is read beside them
pub then_macros : {X Y : Type 0} (First : Files → Result X Fault → Type 0) (Second : Files → Result Y Fault → Type 0) (Gives : Files → Result Y Fault → Type 0) (old mid new : StoreView) (x : X) (r : Result Y Fault) → FromFiles First old (Ok x) mid → FromFiles Second mid r new
    → ((one two found : Files) → ((name : List ℕ) → found Macros name ≡ one Macros name) → SameButMacros found two → First one (Ok x) → Second two r → Gives found r) → FromFiles Gives old r new
then_macros First Second Gives old mid new x r first second so =
    let there : IfSome old.files (λ (files : Files). second.found ≡ files) = subst (λ (o : Option Files). IfSome o (λ (files : Files). second.found ≡ files)) first.has_read.files second.reported in
    let j = joined old.files first.found second.found first.reported there in
    record { found = j.found; reported = j.reported_so; gives = so first.found second.found j.found j.same_macros j.others first.gives second.gives; has_read = reads_both old mid new x r first.has_read second.has_read }

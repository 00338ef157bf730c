-- What is proved of the checks of an `eval` and a `def`.
use Rattle.std.proofs.Common.{◌≡◌, ◌≢◌, ℕ, List, Ok, Err, sym, subst, inl, inr}
use Rattle.wal_outside.specs.declared.folder.Folder.{Folder}
use Rattle.wal_outside.specs.declared.folder.Folder.TheVariants.{Words, Bases}
use Rattle.adder_check.specs.declared.admit_fault.Law.{Law}
use Rattle.definitions.specs.Trees.{Ledger}
use Rattle.command_parts.specs.declared.fault.Fault.TheVariants as faults
use Rattle.command_parts.specs.Accepting.{Success}
use Rattle.command_parts.specs.FormulaFaults.{fault_of_formula, fault_of_expansion, fault_of_resolution}
use Rattle.dfa_loading.specs.Headers.{headers_of}
use Rattle.formula_resolve.specs.FirstMentions.{first_systems}
use Rattle.formula_resolve.specs.Mentions.{mentions}
use Rattle.formula_commands.specs.FormulaOutcomes.{formula_checks}
use Rattle.formula_parse.specs.declared.fault.ParseFault.{ParseFault}
use Rattle.macro_loading.specs.declared.fault.ExpansionFault.{ExpansionFault}
use Rattle.formula_resolve.specs.declared.fault.ResolveFault.{ResolveFault}
use Rattle.formula_parse.specs.declared.fault.ParseFault.TheVariants as parses
use Rattle.macro_loading.specs.declared.fault.ExpansionFault.TheVariants as expansions
use Rattle.formula_resolve.specs.declared.fault.ResolveFault.TheVariants as resolves
use Rattle.command_parts.proofs.SoundChecks.{AreSound, MayBeStored, RefusesSystem, by_law, no_step, no_load, no_head}
use Rattle.formula_commands.proofs.OneFormulas.{formula_single}

no_parse : (name : List ℕ) (law : Law) → (fault : ParseFault) → fault_of_formula fault ≡ faults.Refused (by_law name law) → ⊥
no_parse name law (parses.Syntax at) is = cc
no_parse name law (parses.Number at) is = cc
no_parse name law (parses.Depth at) is = cc
no_parse name law (parses.MixedChain at) is = cc
no_parse name law (parses.NotLinear at) is = cc
no_parse name law parses.Memory is = cc

no_expansion : (name : List ℕ) (law : Law) → (fault : ExpansionFault) → fault_of_expansion fault ≡ faults.Refused (by_law name law) → ⊥
no_expansion name law (expansions.Syntax at) is = cc
no_expansion name law (expansions.MacroArgs of n given) is = cc
no_expansion name law (expansions.MacroDepth of) is = cc
no_expansion name law expansions.MacroLong is = cc
no_expansion name law (expansions.Load fault) is = no_load name law fault is

no_resolution : (name : List ℕ) (law : Law) → (fault : ResolveFault) → fault_of_resolution fault ≡ faults.Refused (by_law name law) → ⊥
no_resolution name law (resolves.Plain of) is = cc
no_resolution name law (resolves.Arity of tracks given) is = cc
no_resolution name law (resolves.Clash of one two) is = cc
no_resolution name law (resolves.Direction one two) is = cc
no_resolution name law resolves.Memory is = cc

-- what it stores is no word
formula_may_be_stored : (word : List ℕ) (folder : Folder) (limit : ℕ) (ledger : Ledger) (text : List ℕ) (success : Success) → folder ≢ Words → folder ≢ Bases → (formula_checks word folder limit ledger text).answers (Ok success) → MayBeStored success
formula_may_be_stored word folder limit ledger text success no_word no_base (head, h, (expansion, e, (formula, f, (tables, t, (admitted, a, (resolved, r, (lines, b, (variables, v, (verdict, d, (is, fits)))))))))) = subst MayBeStored (sym is) (no_base, (no_word, no_base))

-- a refusal by a law is one of its systems
by_formula : (limit : ℕ) (ledger : Ledger) (name : List ℕ) (law : Law) → (word : List ℕ) (folder : Folder) (command : List ℕ) → (formula_checks word folder limit ledger command).answers (Err (by_law name law)) → RefusesSystem limit ledger name law
by_formula limit ledger name law word folder command (inl (own, is, refused)) = absurd (no_head name law own is)
by_formula limit ledger name law word folder command (inr (head, h, inl (own, is, refused))) = absurd (no_expansion name law own is)
by_formula limit ledger name law word folder command (inr (head, h, inr (text, e, inl (own, is, refused)))) = absurd (no_parse name law own is)
by_formula limit ledger name law word folder command (inr (head, h, inr (text, e, inr (formula, f, inl (own, is, refused))))) = absurd (no_load name law own is)
by_formula limit ledger name law word folder command (inr (head, h, inr (text, e, inr (formula, f, inr (tables, t, inl refused))))) = (first_systems (headers_of tables) (mentions formula), refused)
by_formula limit ledger name law word folder command (inr (head, h, inr (text, e, inr (formula, f, inr (tables, t, inr (admitted, a, inl (own, is, refused))))))) = absurd (no_resolution name law own is)
by_formula limit ledger name law word folder command (inr (head, h, inr (text, e, inr (formula, f, inr (tables, t, inr (admitted, a, inr (resolved, r, inl (own, is, refused)))))))) = absurd (no_step name law own is)
by_formula limit ledger name law word folder command (inr (head, h, inr (text, e, inr (formula, f, inr (tables, t, inr (admitted, a, inr (resolved, r, inr (lines, b, inl refused)))))))) = absurd refused
by_formula limit ledger name law word folder command (inr (head, h, inr (text, e, inr (formula, f, inr (tables, t, inr (admitted, a, inr (resolved, r, inr (lines, b, inr (variables, v, inl refused))))))))) = absurd refused
by_formula limit ledger name law word folder command (inr (head, h, inr (text, e, inr (formula, f, inr (tables, t, inr (admitted, a, inr (resolved, r, inr (lines, b, inr (variables, v, inr (verdict, d, (is, long))))))))))) = absurd cc

-- what is proved of its checks
pub formula_sound : (word : List ℕ) (folder : Folder) → folder ≢ Words → folder ≢ Bases → (limit : ℕ) (ledger : Ledger) (text : List ℕ) → AreSound Success MayBeStored limit ledger (formula_checks word folder limit ledger text)
formula_sound word folder no_word no_base limit ledger text = record {
  single = formula_single word folder limit ledger text;
  may_be_stored = λ success made. formula_may_be_stored word folder limit ledger text success no_word no_base made;
  refused = λ at law refused. by_formula limit ledger at law word folder text refused;
}

use Rattle.dfa_loading.specs.declared.fault.LoadFault.TheVariants as loads
use Rattle.std.proofs.Common.{◌≡◌, List, refl, sym, ap, ◌∙◌, subst}
use Rattle.std.proofs.lemmas.Result.{err_from_is_err_and}
use Rattle.dfa_loading.specs.Loading.{AreListedBy, FirstFails}
use Rattle.formula_resolve.specs.FirstMentions.{IsOnce, first_files}
use Rattle.formula_resolve.specs.declared.file.File.{File}
use Rattle.formula_resolve.proofs.FirstLemmas.{first_once}
use Rattle.command_parts.proofs.LoadedFiles.{caused_so, unloaded_so}
use Rattle.command_parts.proofs.StoreReads.{from_none}
use Rattle.command_parts.proofs.mentioned_tables.load_mentioned.Goals as goal

pub returns-in_err-files : goal.returns-in_err-files
returns-in_err-files g c =
    let p = err_from_is_err_and c.from_residual.result c.from_residual.ensures.1 in
    rw (p.1, p.2) (from_none _ _ _ refl (λ found. (loads.Memory, refl, tt)))

pub load-requires : goal.load-requires
load-requires g c = subst IsOnce (sym (c.deref-2.ensures.value ∙ (c.in_ok-files.ensures ∙ ap first_files c.deref.ensures.value))) (first_once c.args.mentions.items)

pub returns-in_err-tables : goal.returns-in_err-tables
returns-in_err-tables g c =
    let p = err_from_is_err_and c.from_residual-in_err-tables.result c.from_residual-in_err-tables.ensures.1 in
    let fault = c.in_err-tables.field-0.0 in
    let names : c.deref-2.result.now ≡ first_files c.args.mentions.items = c.deref-2.ensures.value ∙ (c.in_ok-files.ensures ∙ ap first_files c.deref.ensures.value) in
    let loads = c.in_err-tables.ensures in
    rw (p.1, p.2)
    (record {
      found = loads.found;
      reported = loads.reported;
      gives = unloaded_so fault loads.found (first_files c.args.mentions.items) (subst (λ (fs : List File). FirstFails loads.found fs fault) names loads.gives);
      has_read = record { files = loads.has_read.files; later = loads.has_read.later; cause = caused_so fault _ _ loads.has_read.cause };
    })

pub returns : goal.returns
returns g c =
    let names : c.deref-2.result.now ≡ first_files c.args.mentions.items = c.deref-2.ensures.value ∙ (c.in_ok-files.ensures ∙ ap first_files c.deref.ensures.value) in
    let loads = c.in_ok-tables.ensures in
    record {
      found = loads.found;
      reported = loads.reported;
      gives = record { mentions_are = refl; listed = subst (λ (fs : List File). AreListedBy loads.found fs c.in_ok-tables.tables.items) names loads.gives };
      has_read = record { files = loads.has_read.files; later = loads.has_read.later; cause = loads.has_read.cause };
    }

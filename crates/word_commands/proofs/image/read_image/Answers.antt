use Rattle.std.proofs.Common.{Ok, Err, sym, subst}
use Rattle.std.proofs.lemmas.Result.{err_from_is_err_and}
use Rattle.command_head.specs.HeadViews.{image_view}
use Rattle.formula_resolve.specs.FirstMentions.{first_files}
use Rattle.command_parts.specs.declared.fault.Fault.{Fault}
use Rattle.command_parts.specs.Checks.{Fails}
use Rattle.command_parts.specs.FormulaFaults.{fault_of_loading}
use Rattle.word_commands.specs.ImageOutcomes.{old_mentions}
use Rattle.word_commands.specs.OldWordMakes.{LoadsOld}
use Rattle.word_commands.specs.MorphismChecks.{morphism_loaded}
use Rattle.word_commands.proofs.ImageReads.{then_files, morphism_with}
use Rattle.command_parts.proofs.LoadedFiles.{unloaded}
use Rattle.word_commands.proofs.LoadedMorphisms.{GivesMorphism, morphism_not_there, morphism_there}
use Rattle.word_commands.proofs.LoadedMorphisms.{morphism_unloaded as morphism_gone}
use Rattle.word_commands.proofs.OldWordReads.{old_with}
use Rattle.command_parts.proofs.StoreReads.{from_read, from_refused}
use Rattle.word_commands.proofs.ImageChains.{morphism_unloaded, old_unloaded}
use Rattle.word_commands.proofs.image.read_image.Goals as goal

pub returns-in_err-morphism : goal.returns-in_err-morphism
returns-in_err-morphism g c =
    let p = err_from_is_err_and c.from_residual.result c.from_residual.ensures.1 in
    let fault = c.in_err-morphism.field-0.0 in
    let head = image_view c.args.head.now in
    rw (p.1, p.2) (from_refused _ _ _ _ (fault_of_loading fault) (morphism_not_there head.mapping _ _ fault c.in_err-morphism.ensures)
    (λ found refused limit ledger stores. morphism_unloaded limit ledger head (fault_of_loading fault)
    (subst (λ (f : Fault). Fails (morphism_loaded ledger head.mapping) f) (sym refused.2) (morphism_gone ledger found head.mapping refused.0 stores refused.1))))

pub returns-in_err-old : goal.returns-in_err-old
returns-in_err-old g c =
    let p = err_from_is_err_and c.from_residual-in_err-old.result c.from_residual-in_err-old.ensures.1 in
    let fault = c.in_err-old.field-0.0 in
    let head = image_view c.args.head.now in
    let t = c.in_ok-morphism.morphism in
    rw (p.1, p.2) (from_refused _ _ _ _ fault
    (then_files (GivesMorphism head.mapping) (LoadsOld head.old) _ _ _ t (Err fault) (λ files others is. morphism_with files others head.mapping t is) (λ files others loads. old_with files others head.old (Err fault) loads)
    (morphism_there head.mapping _ _ t c.in_ok-morphism.ensures) c.in_err-old.ensures)
    (λ found both limit ledger stores. old_unloaded limit ledger head t fault (found, stores, both.0) (unloaded ledger found (first_files (old_mentions head.old)) fault stores both.1)))

pub returns : goal.returns
returns g c =
    let head = image_view c.args.head.now in
    let t = c.in_ok-morphism.morphism in
    let old = c.in_ok-old.old in
    from_read _ _ _ _ old _ tt
    (then_files (GivesMorphism head.mapping) (LoadsOld head.old) _ _ _ t (Ok old) (λ files others is. morphism_with files others head.mapping t is) (λ files others loads. old_with files others head.old (Ok old) loads)
    (morphism_there head.mapping _ _ t c.in_ok-morphism.ensures) c.in_ok-old.ensures)
    (λ found both. record { rules = both.0; old = both.1 })

use Rattle.std.proofs.Common.{◌≡◌, ℕ, ◌≤◌, Bool, List, length, Ok, Err, ap, ◌∙◌, rules, sym, subst}
use Rattle.digit_tuple.specs.Steps.{StepLog}
use Rattle.digit_tuple.specs.declared.direction.Direction.{Direction}
use Rattle.num_system.specs.Sealed.{SystemValue}
use Rattle.wal_outside.specs.Views.{StoreView}
use Rattle.dfa_loading.proofs.ReadSteps.{reads_ok}
use Rattle.system_names.specs.UserNames.{IsUserName}
use Rattle.system_files.specs.SystemFiles.{AreFilesOf, is_reversed}
use Rattle.system_files.specs.SystemLoading.{FailsFiles}
use Rattle.system_admission.specs.KeptSystems.{CanBeKept}
use Rattle.system_admission.specs.KeptViews.{pair_view}
use Rattle.system_admission.specs.NameAdmissions.{AdmitsUnder, FailsName, IsNamedSystem, SealsFiles, as_loading}
use Rattle.system_admission.specs.declared.system_fault.SystemFault.TheVariants as faults
use Rattle.system_admission.proofs.KeptLemmas.{can_be_kept, seals_more, seals_named}
use Rattle.system_admission.proofs.NameAnswers.{failing, not_admitted, not_loaded, read_before, read_failed, under_loading}
use Rattle.system_admission.proofs.ReadPairs.{admits_named, loaded_after}
use Rattle.system_admission.proofs.named_system.admit_system.Goals as goal

pub returns-in_err-reversed-clause-gives : goal.returns-in_err-reversed-clause-gives
returns-in_err-reversed-clause-gives g c = λ custom agrees.
    let name = c.args.name.now in
    let load = c.in_err-reversed.field-0.0 in
    let is_name = subst (λ (n : List ℕ). IsUserName c.in-Some.user.direction c.in-Some.user.part.now n) c.as_str.ensures c.in-Some.ensures in
    failing (λ s. IsNamedSystem custom name c.args.steps.now c.args.steps.now s.value) (FailsName custom name c.args.steps.now c.args.steps.now) c.from_residual-in_err-reversed.result (faults.Load load)
    (let e = c.from_residual-in_err-reversed.ensures in search rules)
    (not_loaded custom name c.requires c.args.steps.now c.in-Some.user.direction c.in-Some.user.part.now load is_name (c.in_err-reversed.ensures.gives custom agrees))

pub returns-in-Some-2-clause-gives : goal.returns-in-Some-2-clause-gives
returns-in-Some-2-clause-gives g c = λ custom agrees.
    let is_name = subst (λ (n : List ℕ). IsUserName c.in-Some.user.direction c.in-Some.user.part.now n) c.as_str.ensures c.in-Some.ensures in
    admits_named custom c.args.name.now c.in-Some.user.part.now c.in-Some.user.direction c.in_ok-reversed.reversed c.read_pair.new.texts c.pair_of-pair.result c.args.steps.now c.admit.new.steps c.in-Some-2.system.value is_name agrees
    (c.in_ok-reversed.ensures.gives custom agrees) c.pair_of-pair.ensures.direction c.pair_of-pair.ensures.pair (rw c.in-Some-2.is at c.in_ok-system.ensures)

pub returns-in_err-files-clause-gives : goal.returns-in_err-files-clause-gives
returns-in_err-files-clause-gives g c = λ custom agrees.
    let name = c.args.name.now in
    let load = c.in_err-files.field-0.0 in
    let same : c.admit.new.steps ≡ c.args.steps.now = rw c.in_default-2.is at c.in_ok-system.ensures in
    let is_name = subst (λ (n : List ℕ). IsUserName c.in-Some.user.direction c.in-Some.user.part.now n) c.as_str.ensures c.in-Some.ensures in
    failing (λ s. IsNamedSystem custom name c.args.steps.now c.admit.new.steps s.value) (FailsName custom name c.args.steps.now c.admit.new.steps) c.from_residual-in_err-files.result (faults.Load load)
    (let e = c.from_residual-in_err-files.ensures in search rules)
    (subst (λ (new : StepLog). FailsName custom name c.args.steps.now new (faults.Load load)) (sym same)
    (not_loaded custom name c.requires c.args.steps.now c.in-Some.user.direction c.in-Some.user.part.now load is_name (c.in_err-files.ensures.gives custom agrees)))

pub returns-in_err-files-clause-found : goal.returns-in_err-files-clause-found
returns-in_err-files-clause-found g c =
    let old : StoreView = g.T.Store.view c.args.store.now in
    let mid : StoreView = g.T.Store.view c.read_pair.new.store in
    let later : StoreView = g.T.Store.view c.load_system.new.store in
    let loaded =
    loaded_after (λ custom found (reversed : Bool). reversed ≡ is_reversed custom c.in-Some.user.direction c.in-Some.user.part.now) (λ custom fault. FailsFiles custom c.in-Some.user.direction c.in-Some.user.part.now fault) c.in-Some.user.direction c.in-Some.user.part.now c.args.texts.now c.read_pair.new.texts
    c.load_system.new.texts old mid later c.in_ok-reversed.reversed (Err c.in_err-files.field-0.0) c.in_ok-reversed.ensures c.in_err-files.ensures in
    loaded.found

pub returns-in_err-files-clause-read : goal.returns-in_err-files-clause-read
returns-in_err-files-clause-read g c =
    let old : StoreView = g.T.Store.view c.args.store.now in
    let mid : StoreView = g.T.Store.view c.read_pair.new.store in
    let later : StoreView = g.T.Store.view c.load_system.new.store in
    let loaded =
    loaded_after (λ custom found (reversed : Bool). reversed ≡ is_reversed custom c.in-Some.user.direction c.in-Some.user.part.now) (λ custom fault. FailsFiles custom c.in-Some.user.direction c.in-Some.user.part.now fault) c.in-Some.user.direction c.in-Some.user.part.now c.args.texts.now c.read_pair.new.texts
    c.load_system.new.texts old mid later c.in_ok-reversed.reversed (Err c.in_err-files.field-0.0) c.in_ok-reversed.ensures c.in_err-files.ensures in
    read_failed old later c.in_err-files.field-0.0 c.from_residual-in_err-files.result (let e = c.from_residual-in_err-files.ensures in search rules) loaded.has_read

pub returns-in_err-system-2-clause-gives : goal.returns-in_err-system-2-clause-gives
returns-in_err-system-2-clause-gives g c = λ custom agrees.
    let name = c.args.name.now in
    let new = c.sealed_system.new.steps in
    let fault = c.in_err-system-2.field-0.0 in
    let files = c.in_ok-files.files in
    let same : c.admit.new.steps ≡ c.args.steps.now = rw c.in_default-2.is at c.in_ok-system.ensures in
    let is_name = subst (λ (n : List ℕ). IsUserName c.in-Some.user.direction c.in-Some.user.part.now n) c.as_str.ensures c.in-Some.ensures in
    let under = subst (λ (log : StepLog). AdmitsUnder name c.in-Some.user.direction files log new (Err fault)) same c.in_err-system-2.ensures in
    failing (λ s. IsNamedSystem custom name c.args.steps.now new s.value) (FailsName custom name c.args.steps.now new) c.from_residual-in_err-system-2.result fault (let e = c.from_residual-in_err-system-2.ensures in search rules)
    (not_admitted custom name c.requires c.args.steps.now new c.in-Some.user.direction files (record { part = c.in-Some.user.part.now; is_name = is_name; found = c.in_ok-files.ensures.gives custom agrees }) fault under)

pub returns-in_err-system-2-clause-found : goal.returns-in_err-system-2-clause-found
returns-in_err-system-2-clause-found g c =
    let old : StoreView = g.T.Store.view c.args.store.now in
    let mid : StoreView = g.T.Store.view c.read_pair.new.store in
    let later : StoreView = g.T.Store.view c.load_system.new.store in
    let loaded =
    loaded_after (λ custom found (reversed : Bool). reversed ≡ is_reversed custom c.in-Some.user.direction c.in-Some.user.part.now) (λ custom fault. FailsFiles custom c.in-Some.user.direction c.in-Some.user.part.now fault) c.in-Some.user.direction c.in-Some.user.part.now c.args.texts.now c.read_pair.new.texts
    c.load_system.new.texts old mid later c.in_ok-reversed.reversed (Ok c.in_ok-files.files) c.in_ok-reversed.ensures c.in_ok-files.ensures in
    loaded.found

pub returns-in_err-system-2-clause-read : goal.returns-in_err-system-2-clause-read
returns-in_err-system-2-clause-read g c =
    let fault = c.in_err-system-2.field-0.0 in
    let answer : c.from_residual-in_err-system-2.result ≡ Err fault = (let e = c.from_residual-in_err-system-2.ensures in search rules) in
    let old : StoreView = g.T.Store.view c.args.store.now in
    let mid : StoreView = g.T.Store.view c.read_pair.new.store in
    let later : StoreView = g.T.Store.view c.load_system.new.store in
    let loaded =
    loaded_after (λ custom found (reversed : Bool). reversed ≡ is_reversed custom c.in-Some.user.direction c.in-Some.user.part.now) (λ custom fault. FailsFiles custom c.in-Some.user.direction c.in-Some.user.part.now fault) c.in-Some.user.direction c.in-Some.user.part.now c.args.texts.now c.read_pair.new.texts
    c.load_system.new.texts old mid later c.in_ok-reversed.reversed (Ok c.in_ok-files.files) c.in_ok-reversed.ensures c.in_ok-files.ensures in
    read_before old later c.in_ok-files.files c.from_residual-in_err-system-2.result
    (ap as_loading answer ∙ under_loading c.args.name.now c.in-Some.user.direction c.in_ok-files.files c.admit.new.steps c.sealed_system.new.steps fault c.in_err-system-2.ensures) loaded.has_read

pub keep-requires-clause-first : goal.keep-requires-clause-first
keep-requires-clause-first g c =
    let new = c.sealed_system.new.steps in
    subst (λ (first : ℕ). first ≤ length new.lines) (sym c.count-first.ensures) (seals_more c.in-Some.user.direction c.in_ok-files.files c.admit.new.steps new c.in_ok-system-2.system.value c.in_ok-system-2.ensures)

pub keep-requires-clause-right : goal.keep-requires-clause-right
keep-requires-clause-right g c =
    let custom = c.are_in_some_folder.ensures.0 in
    let agrees = c.are_in_some_folder.ensures.1 in
    let part = c.in-Some.user.part.now in
    let pair = pair_view c.in-Some-pair_of.pair in
    let old = c.admit.new.steps in
    let new = c.sealed_system.new.steps in
    let files = c.in_ok-files.files in
    let s : SystemValue = c.in_ok-system-2.system.value in
    let direction = sym c.in-Some-pair_of.ensures.direction in
    let found = c.in_ok-files.ensures.gives custom agrees in
    let reversed = c.in_ok-reversed.ensures.gives custom (c.in_ok-files.ensures.found.kept custom agrees) in
    let seals = subst (λ (d : Direction). SealsFiles d files old new s) direction c.in_ok-system-2.ensures in
    subst (λ (first : ℕ). CanBeKept pair first new s) (sym c.count-first.ensures)
    (can_be_kept custom part pair files old new s (subst (λ (d : Direction). AreFilesOf custom d part files) direction found) (c.in-Some-pair_of.ensures.pair custom agrees reversed) seals)

pub returns-clause-gives : goal.returns-clause-gives
returns-clause-gives g c = λ custom agrees.
    let new = c.sealed_system.new.steps in
    let s : SystemValue = c.in_ok-system-2.system.value in
    let files = c.in_ok-files.files in
    let same : c.admit.new.steps ≡ c.args.steps.now = rw c.in_default-2.is at c.in_ok-system.ensures in
    let is_name = subst (λ (n : List ℕ). IsUserName c.in-Some.user.direction c.in-Some.user.part.now n) c.as_str.ensures c.in-Some.ensures in
    seals_named custom c.args.name.now c.in-Some.user.part.now c.in-Some.user.direction files c.args.steps.now new s is_name (c.in_ok-files.ensures.gives custom agrees)
    (subst (λ (log : StepLog). SealsFiles c.in-Some.user.direction files log new s) same c.in_ok-system-2.ensures)

pub returns-clause-found : goal.returns-clause-found
returns-clause-found g c =
    let old : StoreView = g.T.Store.view c.args.store.now in
    let mid : StoreView = g.T.Store.view c.read_pair.new.store in
    let later : StoreView = g.T.Store.view c.load_system.new.store in
    let loaded =
    loaded_after (λ custom found (reversed : Bool). reversed ≡ is_reversed custom c.in-Some.user.direction c.in-Some.user.part.now) (λ custom fault. FailsFiles custom c.in-Some.user.direction c.in-Some.user.part.now fault) c.in-Some.user.direction c.in-Some.user.part.now c.args.texts.now c.read_pair.new.texts
    c.load_system.new.texts old mid later c.in_ok-reversed.reversed (Ok c.in_ok-files.files) c.in_ok-reversed.ensures c.in_ok-files.ensures in
    loaded.found

pub returns-clause-read : goal.returns-clause-read
returns-clause-read g c =
    let old : StoreView = g.T.Store.view c.args.store.now in
    let mid : StoreView = g.T.Store.view c.read_pair.new.store in
    let later : StoreView = g.T.Store.view c.load_system.new.store in
    let loaded =
    loaded_after (λ custom found (reversed : Bool). reversed ≡ is_reversed custom c.in-Some.user.direction c.in-Some.user.part.now) (λ custom fault. FailsFiles custom c.in-Some.user.direction c.in-Some.user.part.now fault) c.in-Some.user.direction c.in-Some.user.part.now c.args.texts.now c.read_pair.new.texts
    c.load_system.new.texts old mid later c.in_ok-reversed.reversed (Ok c.in_ok-files.files) c.in_ok-reversed.ensures c.in_ok-files.ensures in
    reads_ok old later c.in_ok-files.files tt loaded.has_read

-- The systems of users among some names, admitted one after another.
use Rattle.std.proofs.Common.{◌≡◌, ℕ, zero, suc, ◌+◌, ◌<◌, ◌≤◌, List, [], ◌∷◌, ◌++◌, length, map, take, get_or, Bool, true, false, not, Option, None, Some, IfSome, Result, Ok, Err, inl, inr, refl, sym, ap, ◌∙◌, subst, arith}
use Rattle.std.specs.Prelude.{⊤, MatchOption}
use Rattle.std.specs.Option.{is_some}
use Rattle.std.specs.Str.{bytes_eq}
use Rattle.std.specs.List.{AllByRecursion, flat_map}
use Rattle.std.proofs.lemmas.List.{take_all, take_more}
use Rattle.digit_tuple.specs.Steps.{StepLog}
use Rattle.digit_tuple.specs.declared.step_fault.StepFault.TheVariants as steps
use Rattle.adder_check.specs.declared.admit_fault.AdmitFault.{AdmitFault}
use Rattle.adder_check.specs.declared.admit_fault.AdmitFault.TheVariants as admits
use Rattle.dfa_loading.specs.Places.{HasRead}
use Rattle.dfa_loading.proofs.ReadSteps.{reads_both}
use Rattle.dfa_loading.specs.declared.fault.LoadFault.TheVariants as loads
use Rattle.wal_outside.specs.Files.{Files}
use Rattle.wal_outside.specs.Views.{StoreView}
use Rattle.wal_outside.specs.declared.folder.Folder.{Folder}
use Rattle.wal_outside.specs.declared.folder.Folder.TheVariants.{Bases}
use Rattle.named_systems.specs.NamedSystems.{NamedSystem, HasSystemIn, IsThere, with_system}
use Rattle.named_systems.proofs.NamedLemmas.{stays, last_is_found}
use Rattle.formula_resolve.specs.FirstMentions.{each_once, mentioned_systems, first_systems}
use Rattle.formula_resolve.specs.Headers.{Headers}
use Rattle.formula_resolve.specs.declared.mention.Mention.{Mention}
use Rattle.formula_resolve.specs.declared.mention.Mention.TheVariants.{Marked}
use Rattle.num_system.specs.Sealed.{SystemValue, system_of}
use Rattle.system_names.specs.Names.{IsBuiltInName}
use Rattle.system_files.specs.SystemFiles.{Custom, RefusesFiles}
use Rattle.system_files.specs.SystemTexts.{FoundText, Agrees, HasFound, AreInSomeFolder}
use Rattle.system_files.specs.UserSystems.{IsUserSystem}
use Rattle.system_admission.specs.NameAdmissions.{IsNamedSystem, FailsName, as_loading}
use Rattle.system_admission.specs.SystemSteps.{fault_of, AdmitsName, AdmitsNames, IsReadFor, ReadsFor, no_steps}
use Rattle.system_admission.specs.UserSystems.{AreUsers, AreAdmitted, FailsNames, AdmitsUsers, AdmitsUser}
use Rattle.system_admission.specs.declared.system_fault.SystemFault.{SystemFault}
use Rattle.system_admission.specs.declared.system_fault.SystemFault.TheVariants as systems
use Rattle.system_admission.specs.declared.user_systems.UserSystems.{UserSystems}

-- one more name
names_more : (custom : Custom) (names : List (List ℕ)) (name : List ℕ) (old mid new : StepLog) → AdmitsNames custom names old (Ok tt) mid → AdmitsName custom name mid (Ok tt) new → AdmitsNames custom (names ++ name ∷ []) old (Ok tt) new
names_more custom [] name old mid new (is, same) last = inl (tt, new, subst (λ (log : StepLog). AdmitsName custom name log (Ok tt) new) same last, (refl, refl))
names_more custom (n ∷ names) name old mid new (inl (a, first, one, rest)) last = inl (a, first, one, names_more custom names name first mid new rest last)
names_more custom (n ∷ names) name old mid new (inr (fault, one, is)) last = absurd cc

-- the first name that is refused
stops_at : (custom : Custom) (names : List (List ℕ)) (i : ℕ) (name : List ℕ) (old mid new : StepLog) (fault : SystemFault) → i < length names → name ≡ get_or names i name → AdmitsNames custom (take i names) old (Ok tt) mid → AdmitsName custom name mid (Err fault) new
    → AdmitsNames custom names old (Err fault) new
stops_at custom [] i name old mid new fault within at prefix stops = absurd (omega (arith, within))
stops_at custom (n ∷ names) zero name old mid new fault within at (is, same) stops =
    inr (fault, subst (λ (x : List ℕ). AdmitsName custom x old (Err fault) new) at (subst (λ (log : StepLog). AdmitsName custom name log (Err fault) new) same stops), refl)
stops_at custom (n ∷ names) (suc i) name old mid new fault within at (inl (a, first, one, rest)) stops = inl (a, first, one, stops_at custom names i name first mid new fault (omega (arith, within)) at rest stops)
stops_at custom (n ∷ names) (suc i) name old mid new fault within at (inr (other, one, is)) stops = absurd cc

-- and the first whose files are not read
reads_at : (custom : Custom) (names : List (List ℕ)) (i : ℕ) (name : List ℕ) (old mid : StepLog) (folder : Folder) (at : List ℕ) → i < length names → name ≡ get_or names i name → AdmitsNames custom (take i names) old (Ok tt) mid → IsReadFor custom name folder at
    → ReadsFor custom names old folder at
reads_at custom [] i name old mid folder at within is prefix read = absurd (omega (arith, within))
reads_at custom (n ∷ names) zero name old mid folder at within is prefix read = inl (subst (λ (x : List ℕ). IsReadFor custom x folder at) is read)
reads_at custom (n ∷ names) (suc i) name old mid folder at within is (inl (a, first, one, rest)) read = inr (first, one, reads_at custom names i name first mid folder at (omega (arith, within)) is rest read)
reads_at custom (n ∷ names) (suc i) name old mid folder at within is (inr (other, one, same)) read = absurd cc

-- what is unknown would be among users' systems
unknown_there : (custom : Custom) (name : List ℕ) (old new : StepLog) (folder : Folder) (at : List ℕ) → AdmitsName custom name old (Err (systems.Load (loads.Unknown folder at))) new → folder ≡ Bases
unknown_there custom name old new folder at (inl (built, is, same)) = absurd cc
unknown_there custom name old new folder at (inr (other, inl (none, is, same))) = cc
unknown_there custom name old new folder at (inr (other, inr (inl (direction, part, named, (load, refused, is), same)))) =
    let loaded : load ≡ loads.Unknown folder at = cc in
    let r : RefusesFiles custom direction part (loads.Unknown folder at) = subst (RefusesFiles custom direction part) loaded refused in
    r.0
unknown_there custom name old new folder at (inr (other, inr (inr not))) = absurd (by not.refusal not.fault_is)
  where
    by : (refusal : AdmitFault) → systems.Load (loads.Unknown folder at) ≡ fault_of name refusal → ⊥
    by (admits.NotAdmitted law) is = cc
    by (admits.Letters step) is = cc
    by (admits.States step) is = cc
    by admits.Memory is = cc

-- why the systems are not admitted
refused_at : (custom : Custom) (names : List (List ℕ)) (i : ℕ) (name : List ℕ) (old mid new : StepLog) (fault : SystemFault) → i < length names → name ≡ get_or names i name → AdmitsNames custom (take i names) old (Ok tt) mid → FailsName custom name mid new fault
    → FailsNames custom names old fault
refused_at custom names i name old mid new (systems.Load (loads.Store folder at)) within is prefix fails = reads_at custom names i name old mid folder at within is prefix fails.0
refused_at custom names i name old mid new (systems.Load loads.Memory) within is prefix fails = tt
refused_at custom names i name old mid new (systems.Step steps.Memory) within is prefix fails = tt
refused_at custom names i name old mid new (systems.Load (loads.Unknown folder at)) within is prefix fails = (unknown_there custom name mid new folder at fails, new, stops_at custom names i name old mid new (systems.Load (loads.Unknown folder at)) within is prefix fails)
refused_at custom names i name old mid new (systems.Load (loads.File folder at flaw)) within is prefix fails = (new, stops_at custom names i name old mid new (systems.Load (loads.File folder at flaw)) within is prefix fails)
refused_at custom names i name old mid new (systems.NotAdmitted system law) within is prefix fails = (new, stops_at custom names i name old mid new (systems.NotAdmitted system law) within is prefix fails)
refused_at custom names i name old mid new (systems.Step (steps.Letters step)) within is prefix fails = (new, stops_at custom names i name old mid new (systems.Step (steps.Letters step)) within is prefix fails)
refused_at custom names i name old mid new (systems.Step (steps.States step)) within is prefix fails = (new, stops_at custom names i name old mid new (systems.Step (steps.States step)) within is prefix fails)

-- what is read is read whatever would be given
read_so : (X Y : Type 0) (old new : StoreView) (fault : SystemFault) → HasRead old (as_loading (let bad : Result X SystemFault = Err fault in bad)) new → HasRead old (as_loading (let bad : Result Y SystemFault = Err fault in bad)) new
read_so X Y old new (systems.Load fault) was = record { files = was.files; later = was.later; cause = was.cause }
read_so X Y old new (systems.NotAdmitted name law) was = record { files = was.files; later = was.later; cause = was.cause }
read_so X Y old new (systems.Step fault) was = record { files = was.files; later = was.later; cause = was.cause }

-- one more is admitted
pub user_added : (name : List ℕ) (before after : UserSystems) (old new : StoreView) (s : SystemValue) → ((custom : Custom) → Agrees custom after.texts → IsNamedSystem custom name before.steps after.steps s) → after.named ≡ with_system before.named name s → HasFound before.texts old after.texts
    → AreInSomeFolder after.texts → HasRead old (as_loading {X = SystemValue} (Ok s)) new → AdmitsUser name before old (Ok tt) after new
user_added name before after old new s gives named found in_some_folder read = record {
  gives = λ custom all. let is = gives custom all in record { admits = is.admits; system = s; defined = is.means; named = named };
  found = found;
  in_some_folder = in_some_folder;
  has_read = record { files = read.files; later = read.later; cause = read.cause };
}

-- it is not, or there is no memory to keep it
pub user_refused : (name : List ℕ) (before after : UserSystems) (old new : StoreView) (fault : SystemFault) → ((custom : Custom) → Agrees custom after.texts → FailsName custom name before.steps after.steps fault) → HasFound before.texts old after.texts → AreInSomeFolder after.texts
    → HasRead old (as_loading {X = SystemValue} (Err fault)) new → AdmitsUser name before old (Err fault) after new
user_refused name before after old new fault gives found in_some_folder read = record { gives = gives; found = found; in_some_folder = in_some_folder; has_read = read_so SystemValue (Unit {0}) old new fault read }

pub user_unkept : (name : List ℕ) (before after : UserSystems) (old new : StoreView) (s : SystemValue) → HasFound before.texts old after.texts → AreInSomeFolder after.texts → HasRead old (as_loading {X = SystemValue} (Ok s)) new → AdmitsUser name before old (Err (systems.Step steps.Memory)) after new
user_unkept name before after old new s found in_some_folder read = record { gives = λ custom all. tt; found = found; in_some_folder = in_some_folder; has_read = record { files = read.files; later = read.later; cause = read.cause } }

-- something is there, or nothing
pub something : {B : Type 0} (N : Type 0) (Q : B → Type 0) (o : Option B) (none : Bool) → MatchOption o N Q → is_some o ≡ not none → none ≡ false → (b : B) × Q b
something N Q None none there is isnt = absurd cc
something N Q (Some b) none there is isnt = (b, there)

pub nothing : {B : Type 0} (N : Type 0) (Q : B → Type 0) (o : Option B) (none : Bool) → MatchOption o N Q → is_some o ≡ not none → none ≡ true → N
nothing N Q None none there is isnt = there
nothing N Q (Some b) none there is isnt = absurd cc

-- names, each once, as the systems of marks
marked : (h : Headers) (names : List (List ℕ)) → flat_map (mentioned_systems h) (map Marked names) ≡ names
marked h [] = refl
marked h (name ∷ names) = ap (λ (ns : List (List ℕ)). name ∷ ns) (marked h names)

pub first_marks : (h : Headers) (marks : List Mention) (names : List (List ℕ)) → marks ≡ map Marked names → first_systems h marks ≡ each_once bytes_eq names
first_marks h marks names is = ap (first_systems h) is ∙ ap (each_once bytes_eq) (marked h names)

-- the systems of the names before it are admitted
pub record AreSoFar (limit : ℕ) (prefix : List (List ℕ)) (users : UserSystems) (old now : StoreView) : Type 0 where
  pub gives : (custom : Custom) → Agrees custom users.texts → AreAdmitted limit prefix custom users
  pub in_some_folder : AreInSomeFolder users.texts
  pub reported : IfSome old.files (λ (files : Files). Agrees (files Bases) users.texts)
  pub has_read : HasRead {X = ⊤} old (Ok tt) now

-- no text was read
pub none_reported : (reported : Option Files) → IfSome reported (λ (files : Files). Agrees (files Bases) [])
none_reported None = tt
none_reported (Some files) = tt

-- at first there is none
pub none_so_far : (limit : ℕ) (users : UserSystems) (store : StoreView) → users.named ≡ [] → users.texts ≡ [] → users.steps ≡ no_steps limit → AreSoFar limit [] users store store
none_so_far limit users store named texts log = record {
  gives = λ custom all. record { admits = (refl, log); meant = subst (AreUsers custom) (sym named) tt; there = tt };
  in_some_folder = ((λ name. None), subst (Agrees (λ name. None)) (sym texts) tt);
  reported = subst (λ (found : List FoundText). IfSome store.files (λ (files : Files). Agrees (files Bases) found)) (sym texts) (none_reported store.files);
  has_read = record { files = refl; later = omega arith; cause = refl };
}

-- one more is the system that its name means
users_push : (custom : Custom) (systems : List NamedSystem) (name : List ℕ) (s : SystemValue) → AreUsers custom systems → IsUserSystem custom name s.direction (system_of s) → AreUsers custom (with_system systems name s)
users_push custom [] name s are is = (is, tt)
users_push custom (x ∷ systems) name s are is = (are.0, users_push custom systems name s are.1 is)

-- those that are there stay there
there_stay : (systems more : List NamedSystem) (names : List (List ℕ)) → ((other : List ℕ) → HasSystemIn systems other → HasSystemIn more other) → AllByRecursion (IsThere systems) names → AllByRecursion (IsThere more) names
there_stay systems more [] stay all = tt
there_stay systems more (name ∷ names) stay all = (by all.0, there_stay systems more names stay all.1)
  where
    by : IsThere systems name → IsThere more name
    by (inl built) = inl built
    by (inr has) = inr (stay name has)

there_more : (systems : List NamedSystem) (names : List (List ℕ)) (name : List ℕ) → AllByRecursion (IsThere systems) names → IsThere systems name → AllByRecursion (IsThere systems) (names ++ name ∷ [])
there_more systems [] name all one = (one, tt)
there_more systems (n ∷ names) name all one = (all.0, there_more systems names name all.1 one)

module _ (limit : ℕ) (names : List (List ℕ)) (i : ℕ) (name : List ℕ) (within : i < length names) (is : name ≡ get_or names i name) where
  prefix_is : take (i + 1) names ≡ take i names ++ name ∷ []
  prefix_is = take_more names i name within ∙ ap (λ (n : List ℕ). take i names ++ n ∷ []) (sym is)

  -- a name that is built in takes no step
  pub built_in_so_far : (users : UserSystems) (old now : StoreView) → AreSoFar limit (take i names) users old now → IsBuiltInName name → AreSoFar limit (take (i + 1) names) users old now
  built_in_so_far users old now so built = record {
    gives = λ custom all.
        let before = so.gives custom all in
        subst (λ (prefix : List (List ℕ)). AreAdmitted limit prefix custom users) (sym prefix_is)
        (record {
          admits = names_more custom (take i names) name (no_steps limit) users.steps users.steps before.admits (inl (built, refl, refl));
          meant = before.meant;
          there = there_more users.named (take i names) name before.there (inl built);
        });
    in_some_folder = so.in_some_folder;
    reported = so.reported;
    has_read = so.has_read;
  }

  reported_more : (reported mid : Option Files) (before after : List FoundText) → mid ≡ reported → IfSome mid (λ (files : Files). Agrees (files Bases) before → Agrees (files Bases) after) → IfSome reported (λ (files : Files). Agrees (files Bases) before)
      → IfSome reported (λ (files : Files). Agrees (files Bases) after)
  reported_more None mid before after same found there = tt
  reported_more (Some files) mid before after same found there = (subst (λ (o : Option Files). IfSome o (λ (f : Files). Agrees (f Bases) before → Agrees (f Bases) after)) same found) there

  -- a user's system is admitted after them
  pub admitted_so_far : (users more : UserSystems) (old mid new : StoreView) → AreSoFar limit (take i names) users old mid → AdmitsUser name users mid (Ok tt) more new → AreSoFar limit (take (i + 1) names) more old new
  admitted_so_far users more old mid new so one = record {
    gives = λ custom all.
        let before = so.gives custom (one.found.kept custom all) in
        let adds = one.gives custom all in
        let stay : (other : List ℕ) → HasSystemIn users.named other → HasSystemIn more.named other = λ other has. subst (λ (ss : List NamedSystem). HasSystemIn ss other) (sym adds.named) (stays users.named (record { name = name; system = adds.system } ∷ []) other has) in
        subst (λ (prefix : List (List ℕ)). AreAdmitted limit prefix custom more) (sym prefix_is)
        (record {
          admits = names_more custom (take i names) name (no_steps limit) users.steps more.steps before.admits adds.admits;
          meant = subst (AreUsers custom) (sym adds.named) (users_push custom users.named name adds.system before.meant adds.defined);
          there = there_more more.named (take i names) name (there_stay users.named more.named (take i names) stay before.there) (inr (subst (λ (ss : List NamedSystem). HasSystemIn ss name) (sym adds.named) (last_is_found users.named name adds.system)));
        });
    in_some_folder = one.in_some_folder;
    reported = reported_more old.files mid.files users.texts more.texts so.has_read.files one.found.reported so.reported;
    has_read = reads_both old mid new tt (Ok tt) so.has_read one.has_read;
  }

  -- or not
  pub refused_so_far : (users more : UserSystems) (old mid new : StoreView) (fault : SystemFault) → AreSoFar limit (take i names) users old mid → AdmitsUser name users mid (Err fault) more new → AdmitsUsers limit names old (Err fault) new
  refused_so_far users more old mid new fault so one = record {
    found = more.texts;
    in_some_folder = one.in_some_folder;
    reported = reported_more old.files mid.files users.texts more.texts so.has_read.files one.found.reported so.reported;
    gives = λ custom all. refused_at custom names i name (no_steps limit) users.steps more.steps fault within is (so.gives custom (one.found.kept custom all)).admits (one.gives custom all);
    has_read = reads_both old mid new tt (as_loading {X = UserSystems} (Err fault)) so.has_read (read_so (Unit {0}) UserSystems mid new fault one.has_read);
  }

-- at the end all are admitted
pub all_so_far : (limit : ℕ) (names : List (List ℕ)) (i : ℕ) (users : UserSystems) (old now : StoreView) → length names ≤ i → AreSoFar limit (take i names) users old now → AdmitsUsers limit names old (Ok users) now
all_so_far limit names i users old now end so = record {
  found = users.texts;
  in_some_folder = so.in_some_folder;
  reported = so.reported;
  gives = λ custom all. subst (λ (ns : List (List ℕ)). AreAdmitted limit ns custom users) (take_all i names end) (so.gives custom all);
  has_read = record { files = so.has_read.files; later = so.has_read.later; cause = so.has_read.cause };
}

-- Which language a name takes, by what was looked up.
use Rattle.std.proofs.Common.{◌≡◌, ℕ, Bool, true, false, not, cond, List, None, Some, Result, Ok, Err, inl, inr, refl, sym, ap, ◌∙◌, subst}
use Rattle.std.specs.Prelude.{slice_get}
use Rattle.dfa_loading.specs.declared.fault.LoadFault.{LoadFault}
use Rattle.dfa_loading.specs.declared.fault.LoadFault.TheVariants as faults
use Rattle.digit_tuple.specs.declared.direction.Direction.{Direction}
use Rattle.wal_outside.specs.Views.{StoreView}
use Rattle.wal_outside.specs.declared.folder.Folder.TheVariants.{Bases}
use Rattle.system_names.specs.UserNames.{user_name, opposite}
use Rattle.system_files.specs.SystemFiles.{Custom, is_there, taken_name}
use Rattle.system_files.specs.SystemTexts.{FoundText, IsFoundAs, Agrees}
use Rattle.system_files.specs.SystemLoading.{FailsFiles}
use Rattle.system_files.specs.Looks.{IsAt, is_text, FailsLook, Loads}
use Rattle.system_files.specs.Taking.{IsTaken}
use Rattle.system_files.specs.declared.taking.Taken.{Taken}
use Rattle.system_files.proofs.LoadSteps.{loads_so, fails_so, refused_so, loads_both, fails_both}
use Rattle.system_files.proofs.FoundLemmas.{found_at, text_is_found, none_is_found}

-- what was found at the place has the name
pub named_so : (found : List FoundText) (name : List ℕ) (place : ℕ) (one : FoundText) → IsAt found name place → slice_get found place ≡ Some one → one.name ≡ name
named_so found name place one at there =
    let e : Some one ≡ Some (record { name = name; finding = at.finding }) = sym there ∙ at.there in
    let same : one ≡ record { name = name; finding = at.finding } = cc in
    ap (λ (f : FoundText). f.name) same

-- what is under the name that was looked up
pub named_is_found : (custom : Custom) (found : List FoundText) (name : List ℕ) (place : ℕ) (one : FoundText) → Agrees custom found → IsAt found name place → slice_get found place ≡ Some one → IsFoundAs (custom name) one.finding
named_is_found custom found name place one agrees at there = subst (λ (n : List ℕ). IsFoundAs (custom n) one.finding) (named_so found name place one at there) (found_at custom found place one agrees there)

module _ (direction : Direction) (part : List ℕ) where
  -- where a text is under the name itself
  taken_here : (custom : Custom) (found : List FoundText) (place : ℕ) → is_there (custom (user_name direction part)) ≡ true → IsAt found (user_name direction part) place → IsTaken direction part custom found (record { place = place; reversed = false })
  taken_here custom found place there at =
      let name : taken_name custom direction part ≡ user_name direction part = ap (λ (b : Bool). cond (not b) (user_name (opposite direction) part) (user_name direction part)) there in
      record {
        reversed = sym (ap not there);
        at = subst (λ (n : List ℕ). IsAt found n place) (sym name) at;
        there = ap (λ (n : List ℕ). is_there (custom n)) name ∙ there;
      }

  -- where none does, the one of the other direction is taken
  opposite_name : (custom : Custom) → custom (user_name direction part) ≡ None → taken_name custom direction part ≡ user_name (opposite direction) part
  opposite_name custom none = ap (λ o. cond (not (is_there o)) (user_name (opposite direction) part) (user_name direction part)) none

  taken_there : (custom : Custom) (found : List FoundText) (place : ℕ) → custom (user_name direction part) ≡ None → is_there (custom (user_name (opposite direction) part)) ≡ true → IsAt found (user_name (opposite direction) part) place → IsTaken direction part custom found (record { place = place; reversed = true })
  taken_there custom found place none there at =
      let name = opposite_name custom none in
      record {
        reversed = sym (ap (λ o. not (is_there o)) none);
        at = subst (λ (n : List ℕ). IsAt found n place) (sym name) at;
        there = ap (λ (n : List ℕ). is_there (custom n)) name ∙ there;
      }

  first_fails : (custom : Custom) (fault : LoadFault) → FailsLook (user_name direction part) fault → FailsFiles custom direction part fault
  first_fails custom (faults.Store folder name) fails = (fails.0, inl fails.1)
  first_fails custom faults.Memory fails = tt
  first_fails custom (faults.Unknown folder name) fails = absurd fails
  first_fails custom (faults.File folder name flaw) fails = absurd fails

  second_fails : (custom : Custom) (fault : LoadFault) → custom (user_name direction part) ≡ None → FailsLook (user_name (opposite direction) part) fault → FailsFiles custom direction part fault
  second_fails custom (faults.Store folder name) none fails = (fails.0, inr (inl (none, fails.1)))
  second_fails custom faults.Memory none fails = tt
  second_fails custom (faults.Unknown folder name) none fails = absurd fails
  second_fails custom (faults.File folder name flaw) none fails = absurd fails

  -- a look-up of a name
  abbrev pub Looks : List ℕ → List FoundText → StoreView → Result ℕ LoadFault → List FoundText → StoreView → Type 0
  Looks name before old result after new = Loads (λ custom found place. IsAt found name place) (λ custom fault. FailsLook name fault) before old result after new

  -- one after another that found nothing
  abbrev pub LooksTwice : List FoundText → StoreView → Result ℕ LoadFault → List FoundText → StoreView → Type 0
  LooksTwice before old result after new =
      Loads (λ custom found place. (custom (user_name direction part) ≡ None) × IsAt found (user_name (opposite direction) part) place) (λ custom fault. FailsFiles custom direction part fault) before old result after new

  -- which language the name takes
  abbrev pub Takes : List FoundText → StoreView → Result Taken LoadFault → List FoundText → StoreView → Type 0
  Takes before old result after new = Loads (IsTaken direction part) (λ custom fault. FailsFiles custom direction part fault) before old result after new

  pub fails_first : (name : List ℕ) (before after : List FoundText) (old new : StoreView) (fault : LoadFault) → name ≡ user_name direction part → Looks name before old (Err fault) after new → Takes before old (Err fault) after new
  fails_first name before after old new fault named looks =
      fails_so (λ custom found place. IsAt found name place) (λ custom fault. FailsLook name fault) (IsTaken direction part) (λ custom fault. FailsFiles custom direction part fault) before after old new fault looks
      (λ custom agrees fails. first_fails custom fault (subst (λ (n : List ℕ). FailsLook n fault) named fails))

  pub takes_first : (name : List ℕ) (before after : List FoundText) (old new : StoreView) (place : ℕ) (one : FoundText) → name ≡ user_name direction part → slice_get after place ≡ Some one → is_text one.finding ≡ true → Looks name before old (Ok place) after new
      → Takes before old (Ok (record { place = place; reversed = false })) after new
  takes_first name before after old new place one named there text looks =
      loads_so (λ custom found place. IsAt found name place) (λ custom fault. FailsLook name fault) (IsTaken direction part) (λ custom fault. FailsFiles custom direction part fault) before after old new place (record { place = place; reversed = false }) looks
      (λ custom agrees at.
      let here = subst (λ (n : List ℕ). IsAt after n place) named at in
      taken_here custom after place (text_is_found (custom (user_name direction part)) one.finding (named_is_found custom after (user_name direction part) place one agrees here there) ∙ text) here)

  module _ (name second : List ℕ) (before mid after : List FoundText) (old later new : StoreView) (place : ℕ) (one : FoundText) (named : name ≡ user_name direction part) (also : second ≡ user_name (opposite direction) part) (there : slice_get mid place ≡ Some one) (none : is_text one.finding ≡ false)
      (first : Looks name before old (Ok place) mid later) where
    none_there : (custom : Custom) → Agrees custom mid → IsAt mid name place → custom (user_name direction part) ≡ None
    none_there custom agrees at =
        let here = subst (λ (n : List ℕ). IsAt mid n place) named at in
        none_is_found (custom (user_name direction part)) one.finding (named_is_found custom mid (user_name direction part) place one agrees here there) none

    pub fails_second : (fault : LoadFault) → Looks second mid later (Err fault) after new → Takes before old (Err fault) after new
    fails_second fault looks =
        fails_both (λ custom found place. IsAt found name place) (λ custom fault. FailsLook name fault) (λ custom found place. IsAt found second place) (λ custom fault. FailsLook second fault) (IsTaken direction part) (λ custom fault. FailsFiles custom direction part fault)
        before mid after old later new place first fault looks
        (λ custom agrees at fails. second_fails custom fault (none_there custom agrees at) (subst (λ (n : List ℕ). FailsLook n fault) also fails))

    pub looks_twice : (other : ℕ) → Looks second mid later (Ok other) after new → LooksTwice before old (Ok other) after new
    looks_twice other looks =
        loads_both (λ custom found place. IsAt found name place) (λ custom fault. FailsLook name fault) (λ custom found place. IsAt found second place) (λ custom fault. FailsLook second fault)
        (λ custom found place. (custom (user_name direction part) ≡ None) × IsAt found (user_name (opposite direction) part) place) (λ custom fault. FailsFiles custom direction part fault)
        before mid after old later new place first other other looks
        (λ custom agrees later at found. (none_there custom agrees at, subst (λ (n : List ℕ). IsAt after n other) also found))

  module _ (before after : List FoundText) (old new : StoreView) (place : ℕ) (one : FoundText) (there : slice_get after place ≡ Some one) (looks : LooksTwice before old (Ok place) after new) where
    pub takes_second : is_text one.finding ≡ true → Takes before old (Ok (record { place = place; reversed = true })) after new
    takes_second text =
        loads_so (λ custom found place. (custom (user_name direction part) ≡ None) × IsAt found (user_name (opposite direction) part) place) (λ custom fault. FailsFiles custom direction part fault) (IsTaken direction part) (λ custom fault. FailsFiles custom direction part fault)
        before after old new place (record { place = place; reversed = true }) looks
        (λ custom agrees is. taken_there custom after place is.0
        (text_is_found (custom (user_name (opposite direction) part)) one.finding (named_is_found custom after (user_name (opposite direction) part) place one agrees is.1 there) ∙ text) is.1)

    pub takes_none : (name : List ℕ) → name ≡ user_name direction part → is_text one.finding ≡ false → Takes before old (Err (faults.Unknown Bases name)) after new
    takes_none name named none =
        refused_so (λ custom found place. (custom (user_name direction part) ≡ None) × IsAt found (user_name (opposite direction) part) place) (λ custom fault. FailsFiles custom direction part fault) (IsTaken direction part) (λ custom fault. FailsFiles custom direction part fault)
        before after old new place (faults.Unknown Bases name) tt looks
        (λ custom agrees is.
        let missing = none_is_found (custom (user_name (opposite direction) part)) one.finding (named_is_found custom after (user_name (opposite direction) part) place one agrees is.1 there) none in
        (refl, inl (ap custom (opposite_name custom is.0) ∙ missing, named)))

    pub takes_no_memory : Takes before old (Err faults.Memory) after new
    takes_no_memory =
        refused_so (λ custom found place. (custom (user_name direction part) ≡ None) × IsAt found (user_name (opposite direction) part) place) (λ custom fault. FailsFiles custom direction part fault) (IsTaken direction part) (λ custom fault. FailsFiles custom direction part fault)
        before after old new place faults.Memory tt looks (λ custom agrees is. tt)

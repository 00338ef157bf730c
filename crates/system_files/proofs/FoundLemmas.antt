-- What was found, and what it says of a folder in which it is.
use Rattle.std.proofs.Common.{◌≡◌, ◌≢◌, ℕ, zero, suc, ◌+◌, ◌<◌, Bool, true, false, cond, List, [], ◌∷◌, ◌++◌, length, get_or, bytes_eq, inl, inr, true≢false, Option, None, Some, Result, Ok, Err, refl, sym, ap, ◌∙◌, subst, arith}
use Rattle.std.specs.Prelude.{slice_get}
use Rattle.std.specs.Option.{IfSome}
use Rattle.std.specs.Result.{MatchResult, IfOk}
use Rattle.std.proofs.lemmas.List.{length-map}
use Rattle.std.proofs.lemmas.Option.{slice_get_read}
use Rattle.std.proofs.lemmas.Bool.{cases_lt}
use Rattle.std.proofs.lemmas.Slice.Eq.{bytes_eq-Decides}
use Rattle.dfa_loading.specs.declared.fault.FileFlaw.{FileFlaw}
use Rattle.dfa_loading.specs.declared.fault.FileFlaw.TheVariants as flaws
use Rattle.dfa_loading.specs.declared.fault.LoadFault.{LoadFault}
use Rattle.dfa_loading.specs.declared.fault.LoadFault.TheVariants as faults
use Rattle.dfa_reading.specs.Listed.{Listed}
use Rattle.dfa_reading.specs.declared.system_part.SystemPart.{SystemPart}
use Rattle.wal_outside.specs.Files.{Files}
use Rattle.wal_outside.specs.Views.{StoreView}
use Rattle.wal_outside.specs.declared.folder.Folder.TheVariants.{Bases}
use Rattle.wal_outside.specs.declared.store.TheConstants.{TEXT_LIMIT}
use Rattle.dfa_loading.specs.Places.{HasRead}
use Rattle.dfa_loading.proofs.PlaceSteps.{text_past}
use Rattle.dfa_loading.proofs.ReadSteps.{reads_ok}
use Rattle.system_files.proofs.LoadSteps.{IsQuiet, loads_so, refused_so}
use Rattle.system_files.specs.SystemFiles.{Custom, is_there}
use Rattle.system_files.specs.SystemTexts.{Finding, Absent, Text, TooLong, FoundText, IsFoundAs, Agrees, AreInSomeFolder, HasFound}
use Rattle.system_files.specs.TextViews.{found_view, texts_in}
use Rattle.system_files.specs.declared.texts.FoundText.{FoundText as TextKept}
use Rattle.system_files.specs.Looks.{IsNew, IsAt, is_text, CanBeFound, ListsPart, ListsNoPart, HasFlaw, IsListedPart, IsPartAt, IsNoPart, FailsPart, FailsLook, Loads}

-- what was found at a place is under its name
pub found_at : (custom : Custom) (found : List FoundText) (place : ℕ) (one : FoundText) → Agrees custom found → slice_get found place ≡ Some one → IsFoundAs (custom one.name) one.finding
found_at custom [] place one agrees at = absurd (cc)
found_at custom (f ∷ found) zero one agrees at = let same : f ≡ one = let e : Some f ≡ Some one = at in cc in subst (λ (o : FoundText). IsFoundAs (custom o.name) o.finding) same agrees.0
found_at custom (f ∷ found) (suc place) one agrees at = found_at custom found place one agrees.1 at

-- a text is there where one was found
pub text_is_found : (there : Option (List ℕ)) (finding : Finding) → IsFoundAs there finding → is_there there ≡ is_text finding
text_is_found there Absent h = ap is_there h
text_is_found there (Text text) h = ap is_there h.0
text_is_found there TooLong h = ap is_there h.1

-- and nothing where none was
pub none_is_found : (there : Option (List ℕ)) (finding : Finding) → IsFoundAs there finding → is_text finding ≡ false → there ≡ None
none_is_found there Absent h none = h
none_is_found there (Text text) h none = absurd (true≢false none)
none_is_found there TooLong h none = absurd (true≢false none)

-- one more that was found
pub agrees_before : (custom : Custom) (found more : List FoundText) → Agrees custom (found ++ more) → Agrees custom found
agrees_before custom [] more agrees = tt
agrees_before custom (f ∷ found) more agrees = (agrees.0, agrees_before custom found more agrees.1)

pub agrees_more : (custom : Custom) (found : List FoundText) (one : FoundText) → Agrees custom found → IsFoundAs (custom one.name) one.finding → Agrees custom (found ++ one ∷ [])
agrees_more custom [] one agrees found_as = (found_as, tt)
agrees_more custom (f ∷ found) one agrees found_as = (agrees.0, agrees_more custom found one agrees.1 found_as)

-- the folder with this under a name
abbrev with_text : Custom → List ℕ → Option (List ℕ) → Custom
with_text custom name there other = cond (bytes_eq other name) there (custom other)

same_text : (custom : Custom) (name : List ℕ) (there : Option (List ℕ)) → with_text custom name there name ≡ there
same_text custom name there = ap (λ b. cond b there (custom name)) ((bytes_eq-Decides name name).1 refl)

other_text : (custom : Custom) (name other : List ℕ) (there : Option (List ℕ)) → (other ≡ name → ⊥) → with_text custom name there other ≡ custom other
other_text custom name other there apart = by (bytes_eq other name) refl
  where
    by : (b : Bool) → bytes_eq other name ≡ b → cond b there (custom other) ≡ custom other
    by true e = absurd (apart ((bytes_eq-Decides other name).0 e))
    by false e = refl

agrees_with : (custom : Custom) (found : List FoundText) (name : List ℕ) (there : Option (List ℕ)) → IsNew found name → Agrees custom found → Agrees (with_text custom name there) found
agrees_with custom [] name there new agrees = tt
agrees_with custom (f ∷ found) name there new agrees = (
  subst (λ (o : Option (List ℕ)). IsFoundAs o f.finding) (sym (other_text custom name f.name there (new 0 f refl))) agrees.0,
  agrees_with custom found name there (λ place one at. new (suc place) one at) agrees.1,
)

-- what is found under a new name can be beside what was
pub in_some_folder_more : (found : List FoundText) (one : FoundText) → IsNew found one.name → CanBeFound one.finding → AreInSomeFolder found → AreInSomeFolder (found ++ one ∷ [])
in_some_folder_more found one new (there, found_as) (custom, agrees) = (
  with_text custom one.name there,
  agrees_more (with_text custom one.name there) found one (agrees_with custom found one.name there new agrees)
      (subst (λ (o : Option (List ℕ)). IsFoundAs o one.finding) (sym (same_text custom one.name there)) found_as),
)

-- a text that is too long
pub long_text : CanBeFound TooLong
long_text = let past = text_past TEXT_LIMIT in (Some past.0, (past.0, refl, past.1))

-- what is at a place, as the code keeps it
pub kept_at : (found : List TextKept) (place : ℕ) (one : TextKept) → place < length found → one ≡ get_or found place one → slice_get (texts_in found) place ≡ Some (found_view one)
kept_at found place one within at =
    slice_get_read (texts_in found) (length (texts_in found)) place (found_view one) refl (omega (arith, within, length-map found found_view)) (by found place within at)
  where
    by : (some : List TextKept) (place : ℕ) → place < length some → one ≡ get_or some place one → found_view one ≡ get_or (texts_in some) place (found_view one)
    by [] place less same = refl
    by (f ∷ some) zero less same = ap found_view same
    by (f ∷ some) (suc place) less same = by some place (omega (arith, less)) same

-- none of the earlier ones has the name, nor has the next
pub none_in_prefix : (found : List TextKept) (place : ℕ) (one : TextKept) (name : List ℕ) → ((k : ℕ) (f : FoundText) → k < place → slice_get (texts_in found) k ≡ Some f → f.name ≢ name) → place < length found → one ≡ get_or found place one → one.name ≢ name
    → (k : ℕ) (f : FoundText) → k < place + 1 → slice_get (texts_in found) k ≡ Some f → f.name ≢ name
none_in_prefix found place one name prefix within at apart k f less there = elim (cases_lt k place) [
  | inl before ↦ prefix k f before there
  | inr past ↦ (let here : k ≡ place = omega (arith, less, past) in
      let same : Some (found_view one) ≡ Some f = sym (kept_at found place one within at) ∙ ap (slice_get (texts_in found)) (sym here) ∙ there in
      let text : found_view one ≡ f = cc in
      λ named. apart (ap (λ (g : FoundText). g.name) text ∙ named))
]

-- what was found lists a part, or nothing
pub lists_at : (part : SystemPart) (custom : Custom) (name : List ℕ) (finding : Finding) (listed : Listed) → IsFoundAs (custom name) finding → ListsPart part finding listed → IsPartAt part custom name listed
lists_at part custom name finding listed found_as lists =
    let text : IsFoundAs (custom name) (Text lists.text) = subst (IsFoundAs (custom name)) lists.is_text found_as in
    record { text = lists.text; there = text.0; short = text.1; lists = lists.lists }

flaw_at : (part : SystemPart) (custom : Custom) (name : List ℕ) (finding : Finding) (flaw : FileFlaw) → IsFoundAs (custom name) finding → HasFlaw part finding flaw → (text : List ℕ) × (custom name ≡ Some text) × IsNoPart part text flaw
flaw_at part custom name Absent flaw found_as has = absurd has
flaw_at part custom name (Text text) (flaws.Line at) found_as has = (text, found_as.0, (found_as.1, has))
flaw_at part custom name (Text text) flaws.TooLong found_as has = absurd has
flaw_at part custom name TooLong (flaws.Line at) found_as has = absurd has
flaw_at part custom name TooLong flaws.TooLong found_as has = found_as

pub fails_at : (part : SystemPart) (custom : Custom) (one : FoundText) (fault : LoadFault) → IsFoundAs (custom one.name) one.finding → ListsNoPart part one fault → FailsPart part custom one.name fault
fails_at part custom one (faults.Unknown folder name) found_as (place, named, absent) = (place, named, subst (IsFoundAs (custom one.name)) absent found_as)
fails_at part custom one (faults.File folder name flaw) found_as (place, named, has) = (place, named, flaw_at part custom one.name one.finding flaw found_as has)
fails_at part custom one (faults.Store folder name) found_as fails = absurd fails
fails_at part custom one faults.Memory found_as fails = tt

-- a text that was read is one more that was found
pub found_more : (found : List FoundText) (one : FoundText) (store : StoreView) → IfSome store.files (λ (files : Files). IsFoundAs (files Bases one.name) one.finding) → HasFound found store (found ++ one ∷ [])
found_more found one store found_as = record { kept = λ custom agrees. agrees_before custom found (one ∷ []) agrees; reported = by store.files found_as }
  where
    by : (reported : Option Files) → IfSome reported (λ (files : Files). IsFoundAs (files Bases one.name) one.finding) → IfSome reported (λ (files : Files). Agrees (files Bases) found → Agrees (files Bases) (found ++ one ∷ []))
    by None found_as = tt
    by (Some files) found_as = λ agrees. agrees_more (files Bases) found one agrees found_as

pub at_end : (found : List FoundText) (one : FoundText) → slice_get (found ++ one ∷ []) (length found) ≡ Some one
at_end [] one = refl
at_end (f ∷ found) one = at_end found one

-- a name that was looked up is read, and kept
pub added_at : (name : List ℕ) (before : List FoundText) (one : FoundText) → one.name ≡ name → IsAt (before ++ one ∷ []) name (length before)
added_at name before one named = record { finding = one.finding; there = at_end before one ∙ ap (λ (n : List ℕ). Some (record { name = n; finding = one.finding })) named }

pub looked : (name : List ℕ) (before : List FoundText) (one : FoundText) (old new : StoreView) {X : Type 0} (x : X) → one.name ≡ name → IfSome old.files (λ (files : Files). IsFoundAs (files Bases name) one.finding) → HasRead old (Ok x) new
    → Loads (λ custom found place. IsAt found name place) (λ custom fault. FailsLook name fault) before old (Ok (length before)) (before ++ one ∷ []) new
looked name before one old new x named found_as read =
    let reported : IfSome old.files (λ (files : Files). IsFoundAs (files Bases one.name) one.finding) = subst (λ (n : List ℕ). IfSome old.files (λ (files : Files). IsFoundAs (files Bases n) one.finding)) (sym named) found_as in
    record {
      gives = λ custom agrees. added_at name before one named;
      found = found_more before one old reported;
      has_read = reads_ok old new x (length before) read;
    }

-- what was looked up lists a part, or nothing
pub listed_here : (part : SystemPart) (name : List ℕ) (before found : List FoundText) (old new : StoreView) (place : ℕ) (one : FoundText) (result : Result Listed LoadFault) → slice_get found place ≡ Some one → IsAt found name place → MatchResult result (ListsPart part one.finding) (ListsNoPart part one)
    → Loads (λ custom found place. IsAt found name place) (λ custom fault. FailsLook name fault) before old (Ok place) found new → Loads (λ custom found listed. IsPartAt part custom name listed) (λ custom fault. FailsPart part custom name fault) before old result found new
listed_here part name before found old new place one result at named lists loads = by result lists
  where
    same : one.name ≡ name
    same = let e : Some one ≡ Some (record { name = name; finding = named.finding }) = sym at ∙ named.there in let f : one ≡ record { name = name; finding = named.finding } = cc in ap (λ (g : FoundText). g.name) f

    found_as : (custom : Custom) → Agrees custom found → IsFoundAs (custom one.name) one.finding
    found_as custom agrees = found_at custom found place one agrees at

    fails : (fault : LoadFault) → ListsNoPart part one fault → (custom : Custom) → Agrees custom found → FailsPart part custom name fault
    fails fault refuses custom agrees = subst (λ (n : List ℕ). FailsPart part custom n fault) same (fails_at part custom one fault (found_as custom agrees) refuses)

    refuse : (fault : LoadFault) → IsQuiet fault → ListsNoPart part one fault → Loads (λ custom found listed. IsPartAt part custom name listed) (λ custom fault. FailsPart part custom name fault) before old (Err fault) found new
    refuse fault quiet refuses =
        refused_so (λ custom found place. IsAt found name place) (λ custom fault. FailsLook name fault) (λ custom found listed. IsPartAt part custom name listed) (λ custom fault. FailsPart part custom name fault)
        before found old new place fault quiet loads (λ custom agrees was. fails fault refuses custom agrees)

    by : (result : Result Listed LoadFault) → MatchResult result (ListsPart part one.finding) (ListsNoPart part one) → Loads (λ custom found listed. IsPartAt part custom name listed) (λ custom fault. FailsPart part custom name fault) before old result found new
    by (Ok listed) lists =
        loads_so (λ custom found place. IsAt found name place) (λ custom fault. FailsLook name fault) (λ custom found listed. IsPartAt part custom name listed) (λ custom fault. FailsPart part custom name fault)
        before found old new place listed loads (λ custom agrees was. lists_at part custom name one.finding listed (subst (λ (n : List ℕ). IsFoundAs (custom n) one.finding) same (found_as custom agrees)) lists)
    by (Err (faults.Unknown folder other)) refuses = refuse (faults.Unknown folder other) tt refuses
    by (Err (faults.File folder other flaw)) refuses = refuse (faults.File folder other flaw) tt refuses
    by (Err (faults.Store folder other)) refuses = absurd refuses
    by (Err faults.Memory) refuses = refuse faults.Memory tt refuses

-- a failed look-up fails the part
pub look_fails : (part : SystemPart) (custom : Custom) (name : List ℕ) (fault : LoadFault) → FailsLook name fault → FailsPart part custom name fault
look_fails part custom name (faults.Store folder other) fails = fails
look_fails part custom name faults.Memory fails = tt
look_fails part custom name (faults.Unknown folder other) fails = absurd fails
look_fails part custom name (faults.File folder other flaw) fails = absurd fails

-- what a text lists
pub listed_so : (part : SystemPart) (one : FoundText) (result : Result Listed LoadFault) → MatchResult result (ListsPart part one.finding) (ListsNoPart part one) → IfOk result (IsListedPart part)
listed_so part one (Ok listed) lists = (lists.text, lists.lists)
listed_so part one (Err fault) refuses = tt

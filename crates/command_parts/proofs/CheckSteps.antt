-- Checks one after another: they have one answer, and what refuses a check refuses all of them.
use Rattle.std.proofs.Common.{◌≡◌, Bool, Result, Ok, Err, sym, ap, ◌∙◌, subst, inl, inr}
use Rattle.wal_outside.specs.Places.{Place}
use Rattle.command_parts.specs.declared.refusal.Refusal.{Refusal}
use Rattle.command_parts.specs.declared.fault.Fault.{Fault}
use Rattle.command_parts.specs.declared.fault.Fault.TheVariants as faults
use Rattle.command_parts.specs.declared.file_change.Made.{Made}
use Rattle.command_parts.specs.declared.file_change.FileChange.{FileChange}
use Rattle.system_files.specs.SystemFiles.{Custom}
use Rattle.command_parts.specs.Checks.{Check, Passing, Then, Fails, IsSingle}
use Rattle.command_parts.specs.Accepting.{Success}
use Rattle.command_parts.specs.FileChanges.{Makes, ChangesFile}

-- a chain of checks answers in one way, where each of them does after those before it
module _ {Y Z : Type 0} (first : Check Y) (rest : Y → Check Z) (one : IsSingle first) (each : (y : Y) → first.answers (Ok y) → IsSingle (rest y)) where
  same_value : (y z : Y) → first.answers (Ok y) → first.answers (Ok z) → y ≡ z
  same_value y z a b = let e : Ok y ≡ Ok z = one (Ok y) (Ok z) a b in cc

  not_both : (y : Y) (f : Refusal) → first.answers (Ok y) → first.answers (Err f) → ⊥
  not_both y f a b = let e : Ok y ≡ Err f = one (Ok y) (Err f) a b in cc

  same_refusal : (f g : Refusal) → first.answers (Err f) → first.answers (Err g) → f ≡ g
  same_refusal f g a b = let e : Err f ≡ Err g = one (Err f) (Err g) a b in cc

  pub then_single : IsSingle (Then first rest)
  then_single (Ok x) (Ok z) (y, a, b) (y', a', b') = let P : Y → Type 0 = λ w. (rest w).answers (Ok z) in each y a (Ok x) (Ok z) b (subst P (same_value y' y a' a) b')
  then_single (Ok x) (Err f) (y, a, b) (inl refused) = absurd (not_both y f a refused)
  then_single (Ok x) (Err f) (y, a, b) (inr (y', a', b')) = let P : Y → Type 0 = λ w. (rest w).answers (Err f) in each y a (Ok x) (Err f) b (subst P (same_value y' y a' a) b')
  then_single (Err f) (Ok z) (inl refused) (y, a, b) = absurd (not_both y f a refused)
  then_single (Err f) (Ok z) (inr (y, a, b)) (y', a', b') = let P : Y → Type 0 = λ w. (rest w).answers (Ok z) in each y a (Err f) (Ok z) b (subst P (same_value y' y a' a) b')
  then_single (Err f) (Err g) (inl refused) (inl refused') = let e : f ≡ g = same_refusal f g refused refused' in cc
  then_single (Err f) (Err g) (inl refused) (inr (y, a, b)) = absurd (not_both y f a refused)
  then_single (Err f) (Err g) (inr (y, a, b)) (inl refused) = absurd (not_both y g a refused)
  then_single (Err f) (Err g) (inr (y, a, b)) (inr (y', a', b')) = let P : Y → Type 0 = λ w. (rest w).answers (Err g) in each y a (Err f) (Err g) b (subst P (same_value y' y a' a) b')

-- a check whose answers are among those of another has one answer where that has one
pub single_so : {Y : Type 0} (check other : Check Y) → ((r : Result Y Refusal) → check.answers r → other.answers r) → IsSingle other → IsSingle check
single_so check other so one = λ r s a b. one r s (so r a) (so s b)

-- a check that passes on one value has one answer
pub passing_single : {Y : Type 0} (made : Y) → IsSingle (Passing (λ (y : Y). y ≡ made))
passing_single {Y} made (Ok y) (Ok other) a b = ap (λ (z : Y). let r : Result Y Refusal = Ok z in r) (a ∙ sym b)
passing_single {Y} made (Ok y) (Err fault) a b = absurd b
passing_single {Y} made (Err fault) other a b = absurd a

-- what refuses the first check refuses all
pub fails_first : {Y Z : Type 0} (first : Check Y) (rest : Y → Check Z) (f : Fault) → Fails first f → Fails (Then first rest) f
fails_first first rest (faults.Store folder name) refused = inl refused
fails_first first rest faults.Memory refused = tt
fails_first first rest (faults.Refused refusal) refused = inl refused

-- and so does what refuses those after it
pub fails_after : {Y Z : Type 0} (first : Check Y) (rest : Y → Check Z) (y : Y) (f : Fault) → first.answers (Ok y) → Fails (rest y) f → Fails (Then first rest) f
fails_after first rest y (faults.Store folder name) passed refused = inr (y, passed, refused)
fails_after first rest y faults.Memory passed refused = tt
fails_after first rest y (faults.Refused refusal) passed refused = inr (y, passed, refused)

-- what the checks after the first make all of them make
pub makes_after : {Y : Type 0} (custom : Custom) (first : Check Y) (rest : Y → Check Success) (y : Y) (shown : Bool) (r : Result Made Fault) → first.answers (Ok y) → Makes custom (rest y) shown r → Makes custom (Then first rest) shown r
makes_after custom first rest y shown (Ok made) passed m = record { success = m.success; answers = (y, passed, m.answers); has_text = m.has_text; printed_is = m.printed_is }
makes_after custom first rest y shown (Err f) passed refused = fails_after first rest y f passed refused

pub changes_after : {Y : Type 0} (custom : Custom) (first : Check Y) (rest : Y → Check Success) (y : Y) (shown : Bool) (r : Result FileChange Fault) → first.answers (Ok y) → ChangesFile custom (rest y) shown r → ChangesFile custom (Then first rest) shown r
changes_after custom first rest y shown (Ok change) passed p = record {
  made = record { success = p.made.success; answers = (y, passed, p.made.answers); has_text = p.made.has_text; printed_is = p.made.printed_is };
  folder_is = p.folder_is;
  name_is = p.name_is;
}
changes_after custom first rest y shown (Err f) passed refused = fails_after first rest y f passed refused

-- what refuses a check refuses another one that reads at least as much and has its faults
pub fails_wider : {Y Z : Type 0} (check : Check Y) (wider : Check Z) → ((f : Refusal) → check.answers (Err f) → wider.answers (Err f)) → ((place : Place) → check.reads place → wider.reads place) → (f : Fault) → Fails check f → Fails wider f
fails_wider check wider answers reads (faults.Store folder name) refused = reads (folder, name) refused
fails_wider check wider answers reads faults.Memory refused = tt
fails_wider check wider answers reads (faults.Refused refusal) refused = answers refusal refused

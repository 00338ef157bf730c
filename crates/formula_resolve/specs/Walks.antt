-- What a walk through a formula has found.
use Rattle.std.specs.Prelude.{◌≡◌, ◌++◌}
use Rattle.std.specs.Option.{option_or}
use Rattle.formula_parse.specs.Trees.{Formula, Operands}
use Rattle.formula_resolve.specs.Headers.{Headers}
use Rattle.formula_resolve.specs.Scopes.{binders_of}
use Rattle.formula_resolve.specs.Occurrences.{occurrences, occurrences_among}
use Rattle.formula_resolve.specs.Directions.{conflict_in, conflict_in_operands, parts_among}
use Rattle.formula_resolve.specs.Meetings.{HasMet}
use Rattle.formula_resolve.specs.declared.meeting.Meeting.{Meeting}
use Rattle.formula_resolve.specs.declared.walk.Walk.{Walk}

-- a formula was walked through: what it holds comes after what was there, and variables are bound as before
pub record Walked (h : Headers) (f : Formula) (old new : Walk) : Type 0 where
  pub scope : binders_of new.scope ≡ binders_of old.scope
  pub found : new.occurrences.items ≡ old.occurrences.items ++ (occurrences h (binders_of old.scope) old.next f).list
  pub next : new.next ≡ (occurrences h (binders_of old.scope) old.next f).next
  pub conflict : new.conflict ≡ option_or old.conflict (conflict_in h (binders_of old.scope) old.next f)

-- some operands of a chain were
pub record WalkedAmong (h : Headers) (os : Operands) (old new : Walk) (m : Meeting) : Type 0 where
  pub scope : binders_of new.scope ≡ binders_of old.scope
  pub found : new.occurrences.items ≡ old.occurrences.items ++ (occurrences_among h (binders_of old.scope) old.next os).list
  pub next : new.next ≡ (occurrences_among h (binders_of old.scope) old.next os).next
  pub conflict : new.conflict ≡ option_or old.conflict (conflict_in_operands h (binders_of old.scope) old.next os)
  pub met : HasMet (parts_among h (binders_of old.scope) old.next os) m

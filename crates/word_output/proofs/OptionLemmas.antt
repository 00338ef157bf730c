-- Values that may be missing, and faults.
use Rattle.std.proofs.Common.{◌≡◌, ◌↔◌, Bool, true, false, Option, None, Some, Result, Err, refl, sym, ap, if◌then◌else◌}
use Rattle.std.specs.Prelude.{IsSome}
use Rattle.std.specs.Option.{is_some}
use Rattle.std.proofs.lemmas.Bool.{false≢true}
use Rattle.std.proofs.lemmas.Option.{none-some}

-- two are equal where they have the same value
pub same_option : {X : Type 0} (a b : Option X) → ((x : X) → (a ≡ Some x) ↔ (b ≡ Some x)) → a ≡ b
same_option None None same = refl
same_option None (Some y) same = absurd (none-some y ((same y).1 refl))
same_option (Some x) b same = sym ((same x).0 refl)

-- what is there is a value
pub some_value : {X : Type 0} (o : Option X) → IsSome o → (x : X) × (o ≡ Some x)
some_value None there = absurd (false≢true there)
some_value (Some x) there = (x, refl)

pub some_there : {X : Type 0} (o : Option X) (x : X) → o ≡ Some x → IsSome o
some_there o x is = ap is_some is

-- a value that is kept by a test passes it
pub kept_passes : {X : Type 0} (test : Bool) (o : Option X) → IsSome (if test then o else None) → test ≡ true
kept_passes true o there = refl
kept_passes false o there = absurd (false≢true there)

-- a fault is the same whatever there would be without it
pub same_fault : {X Y E : Type 0} (fault other : E) → ◌≡◌ {A = Result X E} (Err fault) (Err other) → ◌≡◌ {A = Result Y E} (Err fault) (Err other)
same_fault fault other same = let is : fault ≡ other = cc in ap Err is

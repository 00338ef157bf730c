-- What holds at each stage: how many parts it took at least, and what the tracks so far are.
use Rattle.std.proofs.Common.{◌≡◌, ℕ, ◌+◌, ◌*◌, ◌<◌, ◌≤◌, true, List, [], ◌∷◌, ◌++◌, ℤ, length, Ok, refl, ap, subst, arith, ⊎_elim, length-append, ◌^◌}
use Rattle.std.specs.List.{AllByRecursion}
use Rattle.std.specs.List.Sorted.{IsStrictlySortedBy}
use Rattle.std.specs.Ordering.{int_cmp}
use Rattle.command_head.specs.Readings.{Form, placed}
use Rattle.text_grammar.specs.Numbers.{is_short}
use Rattle.text_grammar.specs.Systems.{is_system}
use Rattle.command_head.specs.Parts.{Part, is_quoted, unquoted}
use Rattle.command_head.specs.Heads.{Alphabets, Sets, Systems, RegHead, Stage, AtWord, AtName, AfterName, AtNumber, AfterNumber, AfterSet, AfterSystem, AtEnd, body_step, step, ended, run}
use Rattle.command_head.specs.Formed.{IsSmallSet, IsSystemName, AreFormed}
use Rattle.command_head.proofs.ReadingSteps.{bind_ok, then_ok, ok_is}
use Rattle.command_head.proofs.PartShape.{IsAscii-system}
use Rattle.command_head.proofs.SetShape.{IsAscending-from_sorted, put-length, put-some}
use Rattle.command_head.proofs.OrderSteps.{all_put, sorted-put}
use Rattle.command_head.proofs.Gathering.{sorted_none}
use Rattle.command_head.proofs.Walks.{came, placed_ok}
use Rattle.command_head.proofs.ReadHeads.{member_derived, word_step, first_name_step, name_step, number_step, divider_step, set_step, system_step}

-- how many parts a stage took at least
abbrev pub spent : Stage → ℕ
spent (AtNumber name sets members) = 1 + 2 * length members
spent (AfterNumber name sets members) = 2 * length members
spent AtWord = 0
spent AtName = 0
spent (AfterName name) = 0
spent (AfterSet name sets) = 0
spent (AfterSystem name names) = 0
spent (AtEnd head) = 0

-- numbers of 32 bits in order
pub record AreMembers (members : List ℤ) : Type 0 where
  pub sorted : IsStrictlySortedBy int_cmp members
  pub short : AllByRecursion (λ n. is_short (2 ^ 31) n ≡ true) members

abbrev pub Sane : ℕ → Stage → Type 0
Sane limit (AtNumber name sets members) = AllByRecursion (IsSmallSet limit) sets × AreMembers members
Sane limit (AfterNumber name sets members) = AllByRecursion (IsSmallSet limit) sets × AreMembers members × (0 < length members)
Sane limit (AfterSet name sets) = AreFormed limit (Sets sets)
Sane limit (AfterSystem name names) = AreFormed limit (Systems names)
Sane limit (AtEnd head) = AreFormed limit head.alphabets
Sane limit AtWord = Unit {0}
Sane limit AtName = Unit {0}
Sane limit (AfterName name) = Unit {0}

pub record Keeps (limit : ℕ) (stage next : Stage) : Type 0 where
  pub spends : spent next ≤ spent stage + 1
  pub sane : Sane limit next

no_members : AreMembers []
no_members = record { sorted = sorted_none; short = tt }

all_more : {X : Type 0} (P : X → Type 0) (xs : List X) (x : X) → AllByRecursion P xs → P x → AllByRecursion P (xs ++ x ∷ [])
all_more P [] x all h = (h, tt)
all_more P (y ∷ ys) x all h = (all.0, all_more P ys x all.1 h)

at_next : (limit : ℕ) (stage known next : Stage) → came known ≡ Ok next → Keeps limit stage known → Keeps limit stage next
at_next limit stage known next e keeps = subst (Keeps limit stage) (ok_is (came known) known next refl e) keeps

body_keeps : (limit : ℕ) (stage : Stage) (name : List ℕ) (alphabets : Alphabets) (part : List ℕ) (next : Stage) → AreFormed limit alphabets → body_step name alphabets part ≡ Ok next → Keeps limit stage next
unfolding body_step
body_keeps limit stage name alphabets part next formed h =
    let end : RegHead = record { name = name; alphabets = alphabets; body = unquoted part } in
    let t = then_ok (is_quoted part) Form (Ok (AtEnd end)) next h in
    at_next limit stage (AtEnd end) next t.1 record { spends = omega arith; sane = formed }

system_name : (part : List ℕ) → is_system part ≡ true → IsSystemName part
system_name part h = record { system = h; ascii = IsAscii-system part h }

-- no part goes on at the end
pub end_refused : (head : RegHead) (part : List ℕ) (next : Stage) → step (AtEnd head) part ≡ Ok next → ⊥
unfolding step
end_refused head part next h = cc

-- a part more keeps this
pub step_keeps : (limit : ℕ) (stage : Stage) (part : List ℕ) (next : Stage) → spent stage < limit → Sane limit stage → step stage part ≡ Ok next → Keeps limit stage next
step_keeps limit AtWord part next room sane h = at_next limit AtWord AtName next (word_step part next h).1 record { spends = omega arith; sane = tt }
step_keeps limit AtName part next room sane h = at_next limit AtName (AfterName part) next (first_name_step part next h).1 record { spends = omega arith; sane = tt }
step_keeps limit (AfterName name) part next room sane h =
    ⊎_elim (λ g. at_next limit (AfterName name) (AtNumber name [] []) next g.1 record { spends = omega arith; sane = (tt, no_members) })
    (λ g. at_next limit (AfterName name) (AfterSystem name (part ∷ [])) next g.1 record { spends = omega arith; sane = (omega arith, (system_name part g.0, tt)) })
    (name_step name part next h)
step_keeps limit (AtNumber name sets members) part next room sane h =
    let m = number_step name sets members part next h in
    let read = member_derived members part m.0 m.1 in
    let more = put-length members read.n in
    let same = ap length read.more_is in
    at_next limit (AtNumber name sets members) (AfterNumber name sets m.0) next m.2 record {
      spends = omega arith;
      sane = (
        sane.0,
        subst AreMembers read.more_is record {
          sorted = sorted-put members read.n sane.1.sorted;
          short = all_put (λ n. is_short (2 ^ 31) n ≡ true) members read.n read.derives.short sane.1.short;
        },
        subst (λ (l : List ℤ). 0 < length l) read.more_is (put-some members read.n),
      );
    }
step_keeps limit (AfterNumber name sets members) part next room sane h =
    ⊎_elim (λ g. at_next limit (AfterNumber name sets members) (AtNumber name sets members) next g.1 record { spends = omega arith; sane = (sane.0, sane.1) })
    (λ g. at_next limit (AfterNumber name sets members) (AfterSet name (sets ++ members ∷ [])) next g.1 record {
      spends = omega arith;
      sane = (
        omega (arith, length-append sets (members ∷ [])),
        all_more (IsSmallSet limit) sets members sane.0
            record { some = sane.2; few = omega arith; ascending = IsAscending-from_sorted members sane.1.sorted; short = sane.1.short },
      );
    })
    (divider_step name sets members part next h)
step_keeps limit (AfterSet name sets) part next room sane h =
    ⊎_elim (λ g. at_next limit (AfterSet name sets) (AtNumber name sets []) next g.1 record { spends = omega arith; sane = (sane.1, no_members) })
    (λ g. body_keeps limit (AfterSet name sets) name (Sets sets) part next sane g)
    (set_step name sets part next h)
step_keeps limit (AfterSystem name names) part next room sane h =
    ⊎_elim (λ g. at_next limit (AfterSystem name names) (AfterSystem name (names ++ part ∷ [])) next g.1 record {
      spends = omega arith;
      sane = (omega (arith, length-append names (part ∷ [])), all_more IsSystemName names part sane.1 (system_name part g.0));
    })
    (λ g. body_keeps limit (AfterSystem name names) name (Systems names) part next sane g.1)
    (system_step name names part next h)
step_keeps limit (AtEnd head) part next room sane h = absurd (end_refused head part next h)

ended_sane : (limit : ℕ) (stage : Stage) (head : RegHead) → Sane limit stage → ended stage ≡ Ok head → AreFormed limit head.alphabets
ended_sane limit (AtEnd end) head sane h = subst (λ (r : RegHead). AreFormed limit r.alphabets) (ok_is (ended (AtEnd end)) end head refl h) sane
ended_sane limit (AtNumber name sets members) head sane h = cc
ended_sane limit (AfterNumber name sets members) head sane h = cc
ended_sane limit AtWord head sane h = cc
ended_sane limit AtName head sane h = cc
ended_sane limit (AfterName name) head sane h = cc
ended_sane limit (AfterSet name sets) head sane h = cc
ended_sane limit (AfterSystem name names) head sane h = cc

-- the tracks of a head that was read are well formed
pub run_sane : (limit whole : ℕ) (stage : Stage) (parts : List Part) (head : RegHead) → spent stage + length parts ≤ limit → Sane limit stage → run whole stage parts ≡ Ok head → AreFormed limit head.alphabets
unfolding run
run_sane limit whole stage [] head room sane h = ended_sane limit stage head sane (placed_ok whole (ended stage) head h)
run_sane limit whole stage (part ∷ parts) head room sane h =
    let n = bind_ok (placed part.at (step stage part.bytes)) (λ next. run whole next parts) head h in
    let keeps = step_keeps limit stage part.bytes n.0 (omega arith) sane (placed_ok part.at (step stage part.bytes) n.0 n.1) in
    let spends = keeps.spends in
    run_sane limit whole n.0 parts head (omega arith) keeps.sane n.2

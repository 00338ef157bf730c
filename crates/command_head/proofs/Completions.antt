-- Each stage leads to a head, and a number is read at one alone.
use Rattle.std.proofs.Common.{◌≡◌, ℕ, ◌^◌, ◌≤◌, Bool, true, false, ◌==◌, ◌&&◌, nat_le, List, [], ◌∷◌, ◌++◌, ℤ, pos, negsuc, length, take, drop, get_or, Ok, refl, sym, ◌∙◌, ap, subst, arith, codes, bytes_eq, ⊎_elim}
use Rattle.std.specs.List.{AllByRecursion}
use Rattle.std.proofs.lemmas.Bool.{and_parts, eqb-true, leb-true, false≢true}
use Rattle.text_grammar.specs.Faults.{Begins}
use Rattle.text_grammar.specs.declared.class.Class.TheVariants.{Digit, NameByte, Unquoted}
use Rattle.text_grammar.specs.Bytes.{is_letter, is_digit}
use Rattle.text_grammar.specs.Prefixes.{all_in, after_prefix, is_in}
use Rattle.command_head.specs.Readings.{Form}
use Rattle.command_head.specs.Members.{has, put}
use Rattle.command_head.specs.Grammar.{DerivesNumber}
use Rattle.text_grammar.specs.Numbers.{begins_with, is_number, unsigned}
use Rattle.text_grammar.specs.Systems.{is_system}
use Rattle.command_head.specs.Parts.{is_name, is_quoted, unquoted}
use Rattle.command_head.specs.Heads.{Alphabets, Sets, Systems, RegHead, Stage, AtWord, AtName, AfterName, AtNumber, AfterNumber, AfterSet, AfterSystem, AtEnd, body_step, step}
use Rattle.command_head.proofs.ReadingSteps.{then_ok}
use Rattle.command_head.proofs.PartShape.{letter-high, all_in-all, system_read, direction_is}
use Rattle.command_head.proofs.Numerals.{number_part, negative_part, fresh, fresh_below}
use Rattle.command_head.proofs.Walks.{goes}
use Rattle.command_head.proofs.ReadHeads.{word_step, first_name_step, name_step, divider_step, set_step, system_step}
use Rattle.command_head.proofs.DerivedHeads.{member_read, last_number}
use Rattle.command_head.proofs.Sane.{spent, Sane, end_refused}

-- a stage, as a grammar of what may come after it
abbrev pub GoesAs : Stage → List (List ℕ) → RegHead → Type 0
GoesAs stage parts head = goes stage parts ≡ Ok head

-- the empty text in quotes
abbrev empty : List ℕ
empty = 34 ∷ 34 ∷ []

-- a number comes in a set
abbrev pub IsAtNumber : Stage → Type 0
IsAtNumber (AtNumber name sets members) = Unit {0}
IsAtNumber AtWord = ⊥
IsAtNumber AtName = ⊥
IsAtNumber (AfterName name) = ⊥
IsAtNumber (AfterNumber name sets members) = ⊥
IsAtNumber (AfterSet name sets) = ⊥
IsAtNumber (AfterSystem name names) = ⊥
IsAtNumber (AtEnd head) = ⊥

set_ends : (name : List ℕ) (sets : List (List ℤ)) → goes (AfterSet name sets) (empty ∷ []) ≡ Ok (record { name = name; alphabets = Sets sets; body = [] })
unfolding step body_step
set_ends name sets = refl

-- a number, with a sign or without, that goes on in a set
pub record IsAllowed (stage : Stage) (sign : Bool) : Type 0 where
  pub other : List ℕ
  pub number : is_number other ≡ true
  pub sign_is : begins_with 45 other ≡ sign
  pub begins : Begins (GoesAs stage) (other ∷ [])

member_allowed : (name : List ℕ) (sets : List (List ℤ)) (members : List ℤ) (sign : Bool) (z : ℤ) → has members z ≡ false → (number : List ℕ) × DerivesNumber number z × (begins_with 45 number ≡ sign) → IsAllowed (AtNumber name sets members) sign
member_allowed name sets members sign z new number =
    let more = put members z in
    record {
      other = number.0;
      number = number.1.number;
      sign_is = number.2;
      begins = (
        codes "}" ∷ empty ∷ [],
        record { name = name; alphabets = Sets (sets ++ more ∷ []); body = [] },
        last_number name sets members more number.0 (empty ∷ []) (member_read members number.0 z number.1 new) ∙ set_ends name (sets ++ more ∷ []),
      );
    }

pub allowed : (limit : ℕ) (stage : Stage) (sign : Bool) → spent stage ≤ limit → limit ≤ 2 ^ 32 → Sane limit stage → IsAtNumber stage → IsAllowed stage sign
allowed limit (AtNumber name sets members) false room low sane at_number =
    let new = fresh members 0 sane.1.sorted in
    let few = new.few in
    member_allowed name sets members false (pos new.k) new.new (number_part new.k (omega arith))
allowed limit (AtNumber name sets members) true room low sane at_number =
    let new = fresh_below members (length members) (omega arith) sane.1.sorted in
    let few = new.few in
    member_allowed name sets members true (negsuc new.k) new.new (negative_part new.k (omega arith))
allowed limit AtWord sign room low sane at_number = absurd at_number
allowed limit AtName sign room low sane at_number = absurd at_number
allowed limit (AfterName name) sign room low sane at_number = absurd at_number
allowed limit (AfterNumber name sets members) sign room low sane at_number = absurd at_number
allowed limit (AfterSet name sets) sign room low sane at_number = absurd at_number
allowed limit (AfterSystem name names) sign room low sane at_number = absurd at_number
allowed limit (AtEnd head) sign room low sane at_number = absurd at_number

-- each stage leads to a head
pub completes : (limit : ℕ) (stage : Stage) → spent stage ≤ limit → limit ≤ 2 ^ 32 → Sane limit stage → Begins (GoesAs stage) []
unfolding step body_step is_system
completes limit AtWord room low sane = (codes "reg" ∷ codes "a" ∷ codes "msd_2" ∷ empty ∷ [], record { name = codes "a"; alphabets = Systems (codes "msd_2" ∷ []); body = [] }, refl)
completes limit AtName room low sane = (codes "a" ∷ codes "msd_2" ∷ empty ∷ [], record { name = codes "a"; alphabets = Systems (codes "msd_2" ∷ []); body = [] }, refl)
completes limit (AfterName name) room low sane = (codes "msd_2" ∷ empty ∷ [], record { name = name; alphabets = Systems (codes "msd_2" ∷ []); body = [] }, refl)
completes limit (AtNumber name sets members) room low sane =
    let a = allowed limit (AtNumber name sets members) false room low sane tt in
    let b = a.begins in
    (a.other ∷ b.0, b.1, b.2)
completes limit (AfterNumber name sets members) room low sane = (codes "}" ∷ empty ∷ [], record { name = name; alphabets = Sets (sets ++ members ∷ []); body = [] }, refl)
completes limit (AfterSet name sets) room low sane = (empty ∷ [], record { name = name; alphabets = Sets sets; body = [] }, refl)
completes limit (AfterSystem name names) room low sane = (empty ∷ [], record { name = name; alphabets = Systems names; body = [] }, refl)
completes limit (AtEnd head) room low sane = ([], head, refl)

-- the first byte of a number
abbrev pub FirstOfNumber : List ℕ → Type 0
FirstOfNumber [] = ⊥
FirstOfNumber (b ∷ bs) = (45 ≤ b) × (b ≤ 57)

digit_first : (b : ℕ) → is_digit b ≡ true → (45 ≤ b) × (b ≤ 57)
digit_first b h =
    let p = and_parts (nat_le 48 b) (nat_le b 57) h in
    let from : 48 ≤ b = leb-true 48 b p.0 in
    (omega arith, leb-true b 57 p.1)

pub number_first : (part : List ℕ) → is_number part ≡ true → FirstOfNumber part
number_first [] h = absurd (false≢true h)
number_first (b ∷ bs) h = by_sign (b == 45) refl
  where
    plain : (t : Bool) (suffix : List ℕ) → suffix ≡ b ∷ bs → (t && all_in Digit suffix) ≡ true → (45 ≤ b) × (b ≤ 57)
    plain t suffix e g =
        let all = subst (λ (l : List ℕ). AllByRecursion (λ x. is_in Digit x ≡ true) l) e (all_in-all Digit suffix (and_parts t (all_in Digit suffix) g).1) in
        digit_first b all.0

    by_sign : (t : Bool) → (b == 45) ≡ t → (45 ≤ b) × (b ≤ 57)
    by_sign true e = let sign = eqb-true b 45 e in (omega arith, omega arith)
    by_sign false e = plain _ (unsigned (b ∷ bs)) (rw e refl) h

pub name_first : (part : List ℕ) → is_name part ≡ true → FirstOfNumber part → ⊥
name_first [] h first = first
name_first (b ∷ bs) h first =
    let high = letter-high b (and_parts (is_letter b) (all_in NameByte (b ∷ bs) && nat_le (length (b ∷ bs)) 64) h).0 in
    let low = first.1 in omega arith

pub system_first : (part : List ℕ) → is_system part ≡ true → FirstOfNumber part → ⊥
system_first [] h first = first
system_first (b ∷ bs) h first =
    let low = first.1 in
    ⊎_elim (λ e. let is : b ≡ 109 = ap (λ (l : List ℕ). get_or l 0 0) e in omega arith) (λ e. let is : b ≡ 108 = ap (λ (l : List ℕ). get_or l 0 0) e in omega arith)
    (direction_is (take 4 (b ∷ bs)) (system_read (b ∷ bs) h).direction)

pub quoted_first : (part : List ℕ) → is_quoted part ≡ true → FirstOfNumber part → ⊥
quoted_first [] h first = first
quoted_first (b ∷ bs) h first =
    let is = eqb-true b 34 (and_parts (b == 34) (bytes_eq (after_prefix Unquoted (drop 1 (b ∷ bs))) (codes "\"")) h).0 in
    let from = first.0 in omega arith

text_first : (part text : List ℕ) → part ≡ text → is_number text ≡ false → is_number part ≡ true → ⊥
text_first part text e h g = false≢true (sym h ∙ subst (λ (l : List ℕ). is_number l ≡ true) e g)

body_first : (name : List ℕ) (alphabets : Alphabets) (part : List ℕ) (next : Stage) → body_step name alphabets part ≡ Ok next → FirstOfNumber part → ⊥
unfolding body_step
body_first name alphabets part next h first =
    quoted_first part (then_ok (is_quoted part) Form (Ok (AtEnd (record { name = name; alphabets = alphabets; body = unquoted part }))) next h).0 first

pub number_stage : (stage : Stage) (part : List ℕ) (next : Stage) → is_number part ≡ true → step stage part ≡ Ok next → IsAtNumber stage
number_stage AtWord part next number h = text_first part (codes "reg") (word_step part next h).0 refl number
number_stage AtName part next number h = name_first part (first_name_step part next h).0 (number_first part number)
number_stage (AfterName name) part next number h =
    ⊎_elim (λ g. text_first part (codes "{") g.0 refl number) (λ g. system_first part g.0 (number_first part number)) (name_step name part next h)
number_stage (AtNumber name sets members) part next number h = tt
number_stage (AfterNumber name sets members) part next number h =
    ⊎_elim (λ g. text_first part (codes ",") g.0 refl number) (λ g. text_first part (codes "}") g.0 refl number) (divider_step name sets members part next h)
number_stage (AfterSet name sets) part next number h =
    ⊎_elim (λ g. text_first part (codes "{") g.0 refl number) (λ g. body_first name (Sets sets) part next g (number_first part number)) (set_step name sets part next h)
number_stage (AfterSystem name names) part next number h =
    ⊎_elim (λ g. system_first part g.0 (number_first part number)) (λ g. body_first name (Systems names) part next g.1 (number_first part number)) (system_step name names part next h)
number_stage (AtEnd head) part next number h = end_refused head part next h

-- A head that was read derives what it was read from.
use Rattle.std.proofs.Common.{◌≡◌, ◌≢◌, ℕ, zero, suc, ◌<◌, ◌≤◌, true, false, List, [], ◌∷◌, ◌++◌, ℤ, length, Result, Ok, Err, refl, sym, ◌∙◌, ap, subst, arith, codes, bytes_eq, ⊎_elim, ◌⊎◌, inl, inr, ◌^◌}
use Rattle.std.specs.List.{AllByRecursion}
use Rattle.std.proofs.lemmas.List.{append_assoc}
use Rattle.std.proofs.lemmas.Slice.Eq.{bytes_eq-Decides}
use Rattle.command_head.specs.Readings.{Refusal, Form, Range}
use Rattle.text_grammar.specs.Numbers.{is_number, is_short, number_of}
use Rattle.command_head.specs.Members.{has, put, with_member}
use Rattle.text_grammar.specs.Systems.{is_system}
use Rattle.command_head.specs.Parts.{is_name, is_quoted, unquoted}
use Rattle.command_head.specs.Heads.{Alphabets, Sets, Systems, RegHead, Stage, AtWord, AtName, AfterName, AtNumber, AfterNumber, AfterSet, AfterSystem, AtEnd, body_step, step}
use Rattle.command_head.specs.Grammar.{DerivesNumber, DerivesMentions, DerivesSet, DeriveSets, DeriveAlphabets, AreUnquoted, quoted, DerivesReg}
use Rattle.command_head.proofs.ReadingSteps.{bind_ok, then_ok, else_ok, chosen, ok_is}
use Rattle.command_head.proofs.PartShape.{is_quoted-part}
use Rattle.command_head.proofs.Gathering.{Gathers, gathered_set}
use Rattle.command_head.proofs.Walks.{goes, came, goes_first, goes_at}

-- what is known of a number that was put to the members
pub record IsMemberRead (members : List ℤ) (part : List ℕ) (more : List ℤ) : Type 0 where
  pub n : ℤ
  pub derives : DerivesNumber part n
  pub new : has members n ≡ false
  pub more_is : put members n ≡ more

pub member_derived : (members : List ℤ) (part : List ℕ) (more : List ℤ) → with_member members part ≡ Ok more → IsMemberRead members part more
unfolding with_member
member_derived members part more h =
    let a = then_ok (is_number part) Form _ more h in
    let b = then_ok (is_short (2 ^ 31) (number_of part)) Range _ more a.1 in
    let c = else_ok (has members (number_of part)) Form (Ok (put members (number_of part))) more b.1 in
    record { n = number_of part; derives = record { number = a.0; value = refl; short = b.0 }; new = c.0; more_is = ok_is _ _ _ refl c.1 }

is_part : (part text : List ℕ) → bytes_eq part text ≡ true → part ≡ text
is_part part text h = (bytes_eq-Decides part text).0 h

-- after the text in quotes nothing comes
end_derived : (parts : List (List ℕ)) (end head : RegHead) → goes (AtEnd end) parts ≡ Ok head → (parts ≡ []) × (end ≡ head)
unfolding step
end_derived [] end head h = (refl, ok_is _ _ _ refl h)
end_derived (part ∷ parts) end head h = cc

record IsBodyRead (name : List ℕ) (alphabets : Alphabets) (parts : List (List ℕ)) (head : RegHead) : Type 0 where
  body : List ℕ
  parts_are : parts ≡ quoted body ∷ []
  all : AreUnquoted body
  head_is : record { name = name; alphabets = alphabets; body = body } ≡ head

body_derived : (name : List ℕ) (alphabets : Alphabets) (part : List ℕ) (parts : List (List ℕ)) (head : RegHead) (next : Stage) → body_step name alphabets part ≡ Ok next → goes next parts ≡ Ok head → IsBodyRead name alphabets (part ∷ parts) head
unfolding body_step
body_derived name alphabets part parts head next step_is h =
    let end : RegHead = record { name = name; alphabets = alphabets; body = unquoted part } in
    let t = then_ok (is_quoted part) Form (Ok (AtEnd end)) next step_is in
    let q = is_quoted-part part t.0 in
    let e = end_derived parts end head (goes_at (AtEnd end) next parts head t.1 h) in
    record { body = unquoted part; parts_are = ap (λ (l : List (List ℕ)). part ∷ l) e.0 ∙ ap (λ (l : List ℕ). l ∷ []) q.0; all = q.1; head_is = e.1 }

record AreSystemsRead (name : List ℕ) (names : List (List ℕ)) (parts : List (List ℕ)) (head : RegHead) : Type 0 where
  more : List (List ℕ)
  body : List ℕ
  parts_are : parts ≡ more ++ quoted body ∷ []
  systems : AllByRecursion (λ n. is_system n ≡ true) more
  all : AreUnquoted body
  head_is : record { name = name; alphabets = Systems (names ++ more); body = body } ≡ head

pub system_step : (name : List ℕ) (names : List (List ℕ)) (part : List ℕ) (next : Stage) → step (AfterSystem name names) part ≡ Ok next →
    ((is_system part ≡ true) × (came (AfterSystem name (names ++ part ∷ [])) ≡ Ok next)) ⊎ ((is_system part ≡ false) × (body_step name (Systems names) part ≡ Ok next))
unfolding step
system_step name names part next h = chosen (is_system part) _ _ _ h

systems_derived : (parts : List (List ℕ)) (name : List ℕ) (names : List (List ℕ)) (head : RegHead) → goes (AfterSystem name names) parts ≡ Ok head → AreSystemsRead name names parts head
systems_derived [] name names head h = cc
systems_derived (part ∷ parts) name names head h =
    let f = goes_first (AfterSystem name names) part parts head h in
    ⊎_elim
    (λ g. let read = systems_derived parts name (names ++ part ∷ []) head (goes_at (AfterSystem name (names ++ part ∷ [])) f.0 parts head g.1 f.2) in
    record {
      more = part ∷ read.more;
      body = read.body;
      parts_are = ap (λ (l : List (List ℕ)). part ∷ l) read.parts_are;
      systems = (g.0, read.systems);
      all = read.all;
      head_is = ap (λ (l : List (List ℕ)). record { name = name; alphabets = Systems l; body = read.body }) (sym (append_assoc names (part ∷ []) read.more)) ∙ read.head_is;
    })
    (λ g. let read = body_derived name (Systems names) part parts head f.0 g.1 f.2 in
    record {
      more = [];
      body = read.body;
      parts_are = read.parts_are;
      systems = tt;
      all = read.all;
      head_is = ap (λ (l : List (List ℕ)). record { name = name; alphabets = Systems l; body = read.body }) (append_nil names) ∙ read.head_is;
    })
    (system_step name names part f.0 f.1)
  where
    append_nil : (xs : List (List ℕ)) → xs ++ [] ≡ xs
    append_nil [] = refl
    append_nil (x ∷ xs) = ap (λ (l : List (List ℕ)). x ∷ l) (append_nil xs)

-- the numbers of a set up to its brace, and what is left
record IsSetRead (name : List ℕ) (sets : List (List ℤ)) (members : List ℤ) (parts : List (List ℕ)) (head : RegHead) : Type 0 where
  inside : List (List ℕ)
  mentions : List ℤ
  out : List ℤ
  rest : List (List ℕ)
  parts_are : parts ≡ inside ++ codes "}" ∷ rest
  derived : DerivesMentions inside mentions
  gathers : Gathers members mentions out
  goes_on : goes (AfterSet name (sets ++ out ∷ [])) rest ≡ Ok head
  shorter : length rest < length parts

pub number_step : (name : List ℕ) (sets : List (List ℤ)) (members : List ℤ) (part : List ℕ) (next : Stage) → step (AtNumber name sets members) part ≡ Ok next →
    (more : List ℤ) × (with_member members part ≡ Ok more) × (came (AfterNumber name sets more) ≡ Ok next)
unfolding step
number_step name sets members part next h = bind_ok (with_member members part) (λ more. Ok (AfterNumber name sets more)) next h

pub divider_step : (name : List ℕ) (sets : List (List ℤ)) (members : List ℤ) (part : List ℕ) (next : Stage) → step (AfterNumber name sets members) part ≡ Ok next →
    ((part ≡ codes ",") × (came (AtNumber name sets members) ≡ Ok next)) ⊎ ((part ≡ codes "}") × (came (AfterSet name (sets ++ members ∷ [])) ≡ Ok next))
unfolding step
divider_step name sets members part next h =
    ⊎_elim (λ g. inl (is_part part (codes ",") g.0, g.1))
    (λ g. let t = then_ok (bytes_eq part (codes "}")) Form (Ok (AfterSet name (sets ++ members ∷ []))) next g.1 in inr (is_part part (codes "}") t.0, t.1))
    (chosen (bytes_eq part (codes ",")) _ _ _ h)

-- a number before others
mentions_more : (number : List ℕ) (others : List (List ℕ)) (n : ℤ) (ns : List ℤ) → DerivesNumber number n → DerivesMentions others ns → DerivesMentions (number ∷ codes "," ∷ others) (n ∷ ns)
mentions_more number others n [] first rest = absurd rest
mentions_more number others n (m ∷ ns) first rest = (number, others, refl, first, rest)

with_others : (part mark : List ℕ) (parts inside rest : List (List ℕ)) → mark ≡ codes "," → parts ≡ inside ++ codes "}" ∷ rest → part ∷ mark ∷ parts ≡ (part ∷ codes "," ∷ inside) ++ codes "}" ∷ rest
with_others part mark parts inside rest e h = ap (λ (l : List ℕ). part ∷ l ∷ parts) e ∙ ap (λ (l : List (List ℕ)). part ∷ codes "," ∷ l) h

set_derived : (parts : List (List ℕ)) (name : List ℕ) (sets : List (List ℤ)) (members : List ℤ) (head : RegHead) → goes (AtNumber name sets members) parts ≡ Ok head → IsSetRead name sets members parts head
set_derived [] name sets members head h = cc
set_derived (part ∷ []) name sets members head h =
    let f = goes_first (AtNumber name sets members) part [] head h in
    let m = number_step name sets members part f.0 f.1 in
    absurd (none (goes (AfterNumber name sets m.0) []) refl (goes_at (AfterNumber name sets m.0) f.0 [] head m.2 f.2))
  where
    none : (r : Result RegHead Refusal) → r ≡ Err Form → r ≡ Ok head → ⊥
    none r e g = cc
set_derived (part ∷ mark ∷ parts) name sets members head h =
    let f = goes_first (AtNumber name sets members) part (mark ∷ parts) head h in
    let m = number_step name sets members part f.0 f.1 in
    let d = goes_first (AfterNumber name sets m.0) mark parts head (goes_at (AfterNumber name sets m.0) f.0 (mark ∷ parts) head m.2 f.2) in
    let member = member_derived members part m.0 m.1 in
    ⊎_elim
    (λ g. let read = set_derived parts name sets m.0 head (goes_at (AtNumber name sets m.0) d.0 parts head g.1 d.2) in
    record {
      inside = part ∷ codes "," ∷ read.inside;
      mentions = member.n ∷ read.mentions;
      out = read.out;
      rest = read.rest;
      parts_are = with_others part mark parts read.inside read.rest g.0 read.parts_are;
      derived = mentions_more part read.inside member.n read.mentions member.derives read.derived;
      gathers = (member.new, subst (λ (l : List ℤ). Gathers l read.mentions read.out) (sym member.more_is) read.gathers);
      goes_on = read.goes_on;
      shorter = let less = read.shorter in omega arith;
    })
    (λ g. record {
      inside = part ∷ [];
      mentions = member.n ∷ [];
      out = m.0;
      rest = parts;
      parts_are = ap (λ (l : List ℕ). part ∷ l ∷ parts) g.0;
      derived = (part, refl, member.derives);
      gathers = (member.new, member.more_is);
      goes_on = goes_at (AfterSet name (sets ++ m.0 ∷ [])) d.0 parts head g.1 d.2;
      shorter = omega arith;
    })
    (divider_step name sets m.0 mark d.0 d.1)

-- a set that was read
set_is : (name : List ℕ) (sets : List (List ℤ)) (parts : List (List ℕ)) (head : RegHead) (read : IsSetRead name sets [] parts head) → DerivesSet (codes "{" ∷ (read.inside ++ codes "}" ∷ [])) read.out
set_is name sets parts head read = record { inside = read.inside; mentions = read.mentions; parts_are = refl; derived = read.derived; members = gathered_set read.mentions read.out read.gathers }

record AreSetsRead (name : List ℕ) (sets : List (List ℤ)) (parts : List (List ℕ)) (head : RegHead) : Type 0 where
  alphabets : List (List ℕ)
  more : List (List ℤ)
  body : List ℕ
  parts_are : parts ≡ alphabets ++ quoted body ∷ []
  derived : DeriveSets alphabets more
  all : AreUnquoted body
  head_is : record { name = name; alphabets = Sets (sets ++ more); body = body } ≡ head

pub set_step : (name : List ℕ) (sets : List (List ℤ)) (part : List ℕ) (next : Stage) → step (AfterSet name sets) part ≡ Ok next →
    ((part ≡ codes "{") × (came (AtNumber name sets []) ≡ Ok next)) ⊎ (body_step name (Sets sets) part ≡ Ok next)
unfolding step
set_step name sets part next h = ⊎_elim (λ g. inl (is_part part (codes "{") g.0, g.1)) (λ g. inr g.1) (chosen (bytes_eq part (codes "{")) _ _ _ h)

-- the parts of a set, and then those of others
regrouped : (parts rest inside alphabets end : List (List ℕ)) → parts ≡ inside ++ codes "}" ∷ rest → rest ≡ alphabets ++ end →
    codes "{" ∷ parts ≡ ((codes "{" ∷ (inside ++ codes "}" ∷ [])) ++ alphabets) ++ end
regrouped parts rest inside alphabets end parts_are rest_is =
    ap (λ (l : List (List ℕ)). codes "{" ∷ l) (parts_are ∙ ap (λ (l : List (List ℕ)). inside ++ codes "}" ∷ l) rest_is ∙ sym (append_assoc inside (codes "}" ∷ []) (alphabets ++ end)))
    ∙ sym (append_assoc (codes "{" ∷ (inside ++ codes "}" ∷ [])) alphabets end)

sets_derived : (bound : ℕ) (parts : List (List ℕ)) (name : List ℕ) (sets : List (List ℤ)) (head : RegHead) → length parts ≤ bound → goes (AfterSet name sets) parts ≡ Ok head → AreSetsRead name sets parts head
sets_derived bound [] name sets head room h = cc
sets_derived zero (part ∷ parts) name sets head room h = absurd (omega arith)
sets_derived (suc bound) (part ∷ parts) name sets head room h =
    let f = goes_first (AfterSet name sets) part parts head h in
    ⊎_elim
    (λ g. let set = set_derived parts name sets [] head (goes_at (AtNumber name sets []) f.0 parts head g.1 f.2) in
    let others = sets_derived bound set.rest name (sets ++ set.out ∷ []) head (let less = set.shorter in omega arith) set.goes_on in
    record {
      alphabets = (codes "{" ∷ (set.inside ++ codes "}" ∷ [])) ++ others.alphabets;
      more = set.out ∷ others.more;
      body = others.body;
      parts_are = ap (λ (l : List ℕ). l ∷ parts) g.0 ∙ regrouped parts set.rest set.inside others.alphabets (quoted others.body ∷ []) set.parts_are others.parts_are;
      derived = (codes "{" ∷ (set.inside ++ codes "}" ∷ []), others.alphabets, refl, set_is name sets parts head set, others.derived);
      all = others.all;
      head_is = ap (λ (l : List (List ℤ)). record { name = name; alphabets = Sets l; body = others.body }) (sym (append_assoc sets (set.out ∷ []) others.more)) ∙ others.head_is;
    })
    (λ g. let read = body_derived name (Sets sets) part parts head f.0 g f.2 in
    record {
      alphabets = [];
      more = [];
      body = read.body;
      parts_are = read.parts_are;
      derived = refl;
      all = read.all;
      head_is = ap (λ (l : List (List ℤ)). record { name = name; alphabets = Sets l; body = read.body }) (append_nil sets) ∙ read.head_is;
    })
    (set_step name sets part f.0 f.1)
  where
    append_nil : (xs : List (List ℤ)) → xs ++ [] ≡ xs
    append_nil [] = refl
    append_nil (x ∷ xs) = ap (λ (l : List (List ℤ)). x ∷ l) (append_nil xs)

record AreTracksRead (name : List ℕ) (parts : List (List ℕ)) (head : RegHead) : Type 0 where
  alphabets : List (List ℕ)
  over : Alphabets
  body : List ℕ
  parts_are : parts ≡ alphabets ++ quoted body ∷ []
  derived : DeriveAlphabets alphabets over
  all : AreUnquoted body
  head_is : record { name = name; alphabets = over; body = body } ≡ head

pub name_step : (name part : List ℕ) (next : Stage) → step (AfterName name) part ≡ Ok next →
    ((part ≡ codes "{") × (came (AtNumber name [] []) ≡ Ok next)) ⊎ ((is_system part ≡ true) × (came (AfterSystem name (part ∷ [])) ≡ Ok next))
unfolding step
name_step name part next h =
    ⊎_elim (λ g. inl (is_part part (codes "{") g.0, g.1)) (λ g. inr (then_ok (is_system part) Form (Ok (AfterSystem name (part ∷ []))) next g.1))
    (chosen (bytes_eq part (codes "{")) _ _ _ h)

some : {X : Type 0} (x : X) (xs : List X) → x ∷ xs ≢ []
some x xs e = cc

alphabets_derived : (parts : List (List ℕ)) (name : List ℕ) (head : RegHead) → goes (AfterName name) parts ≡ Ok head → AreTracksRead name parts head
alphabets_derived [] name head h = cc
alphabets_derived (part ∷ parts) name head h =
    let f = goes_first (AfterName name) part parts head h in
    ⊎_elim
    (λ g. let set = set_derived parts name [] [] head (goes_at (AtNumber name [] []) f.0 parts head g.1 f.2) in
    let others = sets_derived (length set.rest) set.rest name (set.out ∷ []) head (omega arith) set.goes_on in
    record {
      alphabets = (codes "{" ∷ (set.inside ++ codes "}" ∷ [])) ++ others.alphabets;
      over = Sets (set.out ∷ others.more);
      body = others.body;
      parts_are = ap (λ (l : List ℕ). l ∷ parts) g.0 ∙ regrouped parts set.rest set.inside others.alphabets (quoted others.body ∷ []) set.parts_are others.parts_are;
      derived = (some set.out others.more, (codes "{" ∷ (set.inside ++ codes "}" ∷ []), others.alphabets, refl, set_is name [] parts head set, others.derived));
      all = others.all;
      head_is = others.head_is;
    })
    (λ g. let read = systems_derived parts name (part ∷ []) head (goes_at (AfterSystem name (part ∷ [])) f.0 parts head g.1 f.2) in
    record {
      alphabets = part ∷ read.more;
      over = Systems (part ∷ read.more);
      body = read.body;
      parts_are = ap (λ (l : List (List ℕ)). part ∷ l) read.parts_are;
      derived = (some part read.more, refl, (g.0, read.systems));
      all = read.all;
      head_is = read.head_is;
    })
    (name_step name part f.0 f.1)

pub word_step : (part : List ℕ) (next : Stage) → step AtWord part ≡ Ok next → (part ≡ codes "reg") × (came AtName ≡ Ok next)
unfolding step
word_step part next h = let t = then_ok (bytes_eq part (codes "reg")) Form (Ok AtName) next h in (is_part part (codes "reg") t.0, t.1)

pub first_name_step : (part : List ℕ) (next : Stage) → step AtName part ≡ Ok next → (is_name part ≡ true) × (came (AfterName part) ≡ Ok next)
unfolding step
first_name_step part next h = then_ok (is_name part) Form (Ok (AfterName part)) next h

record IsNameRead (parts : List (List ℕ)) (head : RegHead) : Type 0 where
  name : List ℕ
  alphabets : List (List ℕ)
  over : Alphabets
  body : List ℕ
  parts_are : parts ≡ name ∷ (alphabets ++ quoted body ∷ [])
  name_is : is_name name ≡ true
  derived : DeriveAlphabets alphabets over
  all : AreUnquoted body
  head_is : record { name = name; alphabets = over; body = body } ≡ head

name_derived : (parts : List (List ℕ)) (head : RegHead) → goes AtName parts ≡ Ok head → IsNameRead parts head
name_derived [] head h = cc
name_derived (part ∷ parts) head h =
    let f = goes_first AtName part parts head h in
    let n = first_name_step part f.0 f.1 in
    let t = alphabets_derived parts part head (goes_at (AfterName part) f.0 parts head n.1 f.2) in
    record { name = part; alphabets = t.alphabets; over = t.over; body = t.body; parts_are = ap (λ (l : List (List ℕ)). part ∷ l) t.parts_are; name_is = n.0; derived = t.derived; all = t.all; head_is = t.head_is }

-- parts that lead to a head derive from it
pub reg_derived : (parts : List (List ℕ)) (head : RegHead) → goes AtWord parts ≡ Ok head → DerivesReg parts head
reg_derived [] head h = cc
reg_derived (part ∷ parts) head h =
    let f = goes_first AtWord part parts head h in
    let w = word_step part f.0 f.1 in
    let n = name_derived parts head (goes_at AtName f.0 parts head w.1 f.2) in
    subst (DerivesReg (part ∷ parts)) n.head_is record {
      alphabets = n.alphabets;
      parts_are = ap (λ (l : List ℕ). l ∷ parts) w.0 ∙ ap (λ (l : List (List ℕ)). codes "reg" ∷ l) n.parts_are;
      name = n.name_is;
      derived = n.derived;
      body = n.all;
    }

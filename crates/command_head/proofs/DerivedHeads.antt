-- A head is read from what it derives.
use Rattle.std.proofs.Common.{◌≡◌, ℕ, Bool, true, false, cond, List, [], ◌∷◌, ◌++◌, ℤ, Ok, refl, sym, ◌∙◌, ap, subst, codes, bytes_eq, ◌^◌}
use Rattle.std.specs.List.{AllByRecursion}
use Rattle.std.proofs.lemmas.List.{append-nil, append_assoc}
use Rattle.text_grammar.specs.Numbers.{is_number, is_short, number_of}
use Rattle.command_head.specs.Members.{has, put, with_member}
use Rattle.text_grammar.specs.Systems.{is_system}
use Rattle.command_head.specs.Parts.{is_name, is_quoted}
use Rattle.command_head.specs.Heads.{Alphabets, Sets, Systems, RegHead, AtWord, AtName, AfterName, AtNumber, AfterSet, AfterSystem, AtEnd, body_step, step}
use Rattle.command_head.specs.Grammar.{DerivesNumber, DerivesMentions, DeriveSets, DeriveAlphabets, AreUnquoted, quoted, DerivesReg}
use Rattle.command_head.proofs.PartShape.{quoted_is, quoted-system, system-brace}
use Rattle.command_head.proofs.Gathering.{Gathers, set_gathered}
use Rattle.command_head.proofs.Walks.{goes, goes_step}

-- a new number is put to the members
pub member_read : (members : List ℤ) (part : List ℕ) (n : ℤ) → DerivesNumber part n → has members n ≡ false → with_member members part ≡ Ok (put members n)
unfolding with_member
member_read members part n s new =
    let short : is_short (2 ^ 31) (number_of part) ≡ true = subst (λ (m : ℤ). is_short (2 ^ 31) m ≡ true) (sym s.value) s.short in
    let new' : has members (number_of part) ≡ false = subst (λ (m : ℤ). has members m ≡ false) (sym s.value) new in
    by_tests (is_number part) (is_short (2 ^ 31) (number_of part)) (has members (number_of part)) _ _ _ _ s.number short new' ∙ ap (λ (m : ℤ). Ok (put members m)) s.value
  where
    by_tests : {A : Type 0} (a b c : Bool) (x y z w : A) → a ≡ true → b ≡ true → c ≡ false → cond a (cond b (cond c x y) z) w ≡ y
    by_tests a b c x y z w h g k = rw (h, g, k) refl

pub last_number : (name : List ℕ) (sets : List (List ℤ)) (members more : List ℤ) (part : List ℕ) (parts : List (List ℕ)) → with_member members part ≡ Ok more →
    goes (AtNumber name sets members) (part ∷ codes "}" ∷ parts) ≡ goes (AfterSet name (sets ++ more ∷ [])) parts
unfolding step
last_number name sets members more part parts h = rw h refl

number_more : (name : List ℕ) (sets : List (List ℤ)) (members more : List ℤ) (part : List ℕ) (parts : List (List ℕ)) → with_member members part ≡ Ok more →
    goes (AtNumber name sets members) (part ∷ codes "," ∷ parts) ≡ goes (AtNumber name sets more) parts
unfolding step
number_more name sets members more part parts h = rw h refl

-- the numbers of a set
mentions_read : (mentions : List ℤ) (name : List ℕ) (sets : List (List ℤ)) (members out : List ℤ) (inside parts : List (List ℕ)) → DerivesMentions inside mentions → Gathers members mentions out →
    goes (AtNumber name sets members) (inside ++ codes "}" ∷ parts) ≡ goes (AfterSet name (sets ++ out ∷ [])) parts
mentions_read [] name sets members out inside parts derived gathers = absurd derived
mentions_read (n ∷ []) name sets members out inside parts derived gathers =
    ap (λ (l : List (List ℕ)). goes (AtNumber name sets members) (l ++ codes "}" ∷ parts)) derived.1
    ∙ last_number name sets members (put members n) derived.0 parts (member_read members derived.0 n derived.2 gathers.0)
    ∙ ap (λ (l : List ℤ). goes (AfterSet name (sets ++ l ∷ [])) parts) gathers.1
mentions_read (n ∷ m ∷ ns) name sets members out inside parts derived gathers =
    ap (λ (l : List (List ℕ)). goes (AtNumber name sets members) (l ++ codes "}" ∷ parts)) derived.2
    ∙ number_more name sets members (put members n) derived.0 (derived.1 ++ codes "}" ∷ parts) (member_read members derived.0 n derived.3 gathers.0)
    ∙ mentions_read (m ∷ ns) name sets (put members n) out derived.1 parts derived.4 gathers.1

-- the text in quotes
body_read : (name : List ℕ) (alphabets : Alphabets) (body : List ℕ) → AreUnquoted body → body_step name alphabets (quoted body) ≡ Ok (AtEnd (record { name = name; alphabets = alphabets; body = body }))
unfolding body_step
body_read name alphabets body all = let q = quoted_is body all in
    taken (is_quoted (quoted body)) _ _ q.test ∙ ap (λ (l : List ℕ). Ok (AtEnd (record { name = name; alphabets = alphabets; body = l }))) q.inside
  where
    taken : {A : Type 0} (a : Bool) (x y : A) → a ≡ true → cond a x y ≡ x
    taken a x y h = rw h refl

set_opens : (name : List ℕ) (sets : List (List ℤ)) (parts : List (List ℕ)) → goes (AfterSet name sets) (codes "{" ∷ parts) ≡ goes (AtNumber name sets []) parts
unfolding step
set_opens name sets parts = refl

first_set_opens : (name : List ℕ) (parts : List (List ℕ)) → goes (AfterName name) (codes "{" ∷ parts) ≡ goes (AtNumber name [] []) parts
unfolding step
first_set_opens name parts = refl

set_closes : (name : List ℕ) (sets : List (List ℤ)) (body : List ℕ) → step (AfterSet name sets) (quoted body) ≡ body_step name (Sets sets) (quoted body)
unfolding step
set_closes name sets body = refl

-- the parts of a set and others
regrouped : (first others parts inside : List (List ℕ)) → first ≡ codes "{" ∷ (inside ++ codes "}" ∷ []) → (first ++ others) ++ parts ≡ codes "{" ∷ (inside ++ codes "}" ∷ (others ++ parts))
regrouped first others parts inside first_is =
    ap (λ (l : List (List ℕ)). (l ++ others) ++ parts) first_is
    ∙ append_assoc (codes "{" ∷ (inside ++ codes "}" ∷ [])) others parts
    ∙ ap (λ (l : List (List ℕ)). codes "{" ∷ l) (append_assoc inside (codes "}" ∷ []) (others ++ parts))

sets_read : (more : List (List ℤ)) (name : List ℕ) (sets : List (List ℤ)) (parts : List (List ℕ)) (body : List ℕ) → DeriveSets parts more → AreUnquoted body →
    goes (AfterSet name sets) (parts ++ quoted body ∷ []) ≡ Ok (record { name = name; alphabets = Sets (sets ++ more); body = body })
sets_read [] name sets parts body derived all =
    ap (λ (l : List (List ℕ)). goes (AfterSet name sets) (l ++ quoted body ∷ [])) derived
    ∙ goes_step (AfterSet name sets) _ (quoted body) [] (set_closes name sets body ∙ body_read name (Sets sets) body all)
    ∙ ap (λ (l : List (List ℤ)). Ok (record { name = name; alphabets = Sets l; body = body })) (sym (append-nil sets))
sets_read (set ∷ more) name sets parts body derived all =
    let s = derived.3 in
    ap (λ (l : List (List ℕ)). goes (AfterSet name sets) (l ++ quoted body ∷ [])) derived.2
    ∙ ap (goes (AfterSet name sets)) (regrouped derived.0 derived.1 (quoted body ∷ []) s.inside s.parts_are)
    ∙ set_opens name sets (s.inside ++ codes "}" ∷ (derived.1 ++ quoted body ∷ []))
    ∙ mentions_read s.mentions name sets [] set s.inside (derived.1 ++ quoted body ∷ []) s.derived (set_gathered s.mentions set s.members)
    ∙ sets_read more name (sets ++ set ∷ []) derived.1 body derived.4 all
    ∙ ap (λ (l : List (List ℤ)). Ok (record { name = name; alphabets = Sets l; body = body })) (append_assoc sets (set ∷ []) more)

system_more : (name : List ℕ) (names : List (List ℕ)) (part : List ℕ) → is_system part ≡ true → step (AfterSystem name names) part ≡ Ok (AfterSystem name (names ++ part ∷ []))
unfolding step
system_more name names part h = taken (is_system part) _ _ h
  where
    taken : {A : Type 0} (a : Bool) (x y : A) → a ≡ true → cond a x y ≡ x
    taken a x y h = rw h refl

first_system : (name part : List ℕ) → is_system part ≡ true → step (AfterName name) part ≡ Ok (AfterSystem name (part ∷ []))
unfolding step
first_system name part h = other (bytes_eq part (codes "{")) (is_system part) _ _ _ (system-brace part h) h
  where
    other : {A : Type 0} (a b : Bool) (x y z : A) → a ≡ false → b ≡ true → cond a x (cond b y z) ≡ y
    other a b x y z h g = rw (h, g) refl

systems_close : (name : List ℕ) (names : List (List ℕ)) (body : List ℕ) → step (AfterSystem name names) (quoted body) ≡ body_step name (Systems names) (quoted body)
unfolding step
systems_close name names body = passed (is_system (quoted body)) _ _ (quoted-system (body ++ 34 ∷ []))
  where
    passed : {A : Type 0} (a : Bool) (x y : A) → a ≡ false → cond a x y ≡ y
    passed a x y h = rw h refl

systems_read : (more : List (List ℕ)) (name : List ℕ) (names : List (List ℕ)) (body : List ℕ) → AllByRecursion (λ n. is_system n ≡ true) more → AreUnquoted body →
    goes (AfterSystem name names) (more ++ quoted body ∷ []) ≡ Ok (record { name = name; alphabets = Systems (names ++ more); body = body })
systems_read [] name names body systems all =
    goes_step (AfterSystem name names) _ (quoted body) [] (systems_close name names body ∙ body_read name (Systems names) body all)
    ∙ ap (λ (l : List (List ℕ)). Ok (record { name = name; alphabets = Systems l; body = body })) (sym (append-nil names))
systems_read (part ∷ more) name names body systems all =
    goes_step (AfterSystem name names) _ part (more ++ quoted body ∷ []) (system_more name names part systems.0)
    ∙ systems_read more name (names ++ part ∷ []) body systems.1 all
    ∙ ap (λ (l : List (List ℕ)). Ok (record { name = name; alphabets = Systems l; body = body })) (append_assoc names (part ∷ []) more)

alphabets_read : (name : List ℕ) (alphabets : Alphabets) (parts : List (List ℕ)) (body : List ℕ) → DeriveAlphabets parts alphabets → AreUnquoted body →
    goes (AfterName name) (parts ++ quoted body ∷ []) ≡ Ok (record { name = name; alphabets = alphabets; body = body })
alphabets_read name (Sets []) parts body derived all = absurd (derived.0 refl)
alphabets_read name (Sets (set ∷ sets)) parts body derived all =
    let sets_are = derived.1 in
    let s = sets_are.3 in
    ap (λ (l : List (List ℕ)). goes (AfterName name) (l ++ quoted body ∷ [])) sets_are.2
    ∙ ap (goes (AfterName name)) (regrouped sets_are.0 sets_are.1 (quoted body ∷ []) s.inside s.parts_are)
    ∙ first_set_opens name (s.inside ++ codes "}" ∷ (sets_are.1 ++ quoted body ∷ []))
    ∙ mentions_read s.mentions name [] [] set s.inside (sets_are.1 ++ quoted body ∷ []) s.derived (set_gathered s.mentions set s.members)
    ∙ sets_read sets name (set ∷ []) sets_are.1 body sets_are.4 all
alphabets_read name (Systems []) parts body derived all = absurd (derived.0 refl)
alphabets_read name (Systems (first ∷ more)) parts body derived all =
    ap (λ (l : List (List ℕ)). goes (AfterName name) (l ++ quoted body ∷ [])) derived.1
    ∙ goes_step (AfterName name) _ first (more ++ quoted body ∷ []) (first_system name first derived.2.0)
    ∙ systems_read more name (first ∷ []) body derived.2.1 all

word_read : (parts : List (List ℕ)) → goes AtWord (codes "reg" ∷ parts) ≡ goes AtName parts
unfolding step
word_read parts = refl

name_read : (name : List ℕ) → is_name name ≡ true → step AtName name ≡ Ok (AfterName name)
unfolding step
name_read name h = taken (is_name name) _ _ h
  where
    taken : {A : Type 0} (a : Bool) (x y : A) → a ≡ true → cond a x y ≡ x
    taken a x y h = rw h refl

-- the parts of a head lead to it
pub reg_goes : (parts : List (List ℕ)) (head : RegHead) → DerivesReg parts head → goes AtWord parts ≡ Ok head
reg_goes parts head s =
    ap (goes AtWord) s.parts_are
    ∙ word_read (head.name ∷ (s.alphabets ++ quoted head.body ∷ []))
    ∙ goes_step AtName _ head.name (s.alphabets ++ quoted head.body ∷ []) (name_read head.name s.name)
    ∙ alphabets_read head.name head.alphabets s.alphabets head.body s.derived s.body

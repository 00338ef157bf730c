-- What a derivation derives, the machine reads to its symbols.
use Rattle.std.proofs.Common.{◌≡◌, refl, ◌∙◌, ap, ℕ, ◌+◌, ◌<◌, ◌≤◌, Bool, true, false, List, [], ◌∷◌, ◌++◌, length, Some, arith}
use Rattle.std.specs.Prelude.{nat_lt, ◌==◌}
use Rattle.std.proofs.lemmas.List.{length-append}
use Rattle.std.proofs.lemmas.Bool.Decides.{nat_tests}
use Rattle.regex_build.specs.declared.postfix_symbol.PostfixSymbol.{PostfixSymbol}
use Rattle.regex_build.specs.declared.reading.Group.{Group}
use Rattle.regex_build.specs.declared.reading.Stage.TheVariants.{AtPost, After, AtNumber, AfterNumber}
use Rattle.regex_build.specs.Tokens as tokens
use Rattle.regex_build.specs.Tokens.{Token}
use Rattle.regex_build.specs.Grammar.{Numbers, one, more, Prim, Post, Cat, Alt, digit, any, empty, group, letter, bare, star, plus, optional, first, follow, only, either, list_of, numbers_then, prim_then, post_then, cat_then, alt_then, PrimFits, PostFits, CatFits, AltFits}
use Rattle.regex_build.specs.Machine.{State, fresh, gate, followed, ended}
use Rattle.regex_build.proofs.GrammarSteps.{prim_on, post_on, cat_on, alt_on}
use Rattle.regex_build.proofs.Runs.{after, run, st, opened}

abbrev grouped : Bool → Bool → Group
grouped a s = record { alternatives = a; sequence = s }

-- what comes before the last post, and the symbols without its join
abbrev is_follow : Cat → Bool
is_follow (first p) = false
is_follow (follow c p) = true

abbrev is_either : Alt → Bool
is_either (only c) = false
is_either (either a c) = true

abbrev last_of : Alt → Cat
last_of (only c) = c
last_of (either a c) = c

abbrev cat_open : Cat → List PostfixSymbol → List PostfixSymbol
cat_open (first p) ss = post_on p ss
cat_open (follow c p) ss = post_on p (cat_on c ss)

abbrev alt_open : Alt → List PostfixSymbol → List PostfixSymbol
alt_open (only c) ss = cat_open c ss
alt_open (either a c) ss = cat_open c (alt_on a ss)

module _ (tracks : ℕ) where
  -- a post that begins after another one
  prim_begins : (p : Prim) (r : List Token) (os : List Group) (g : Group) (ss : List PostfixSymbol) → run tracks (prim_then p r) (st os g After [] ss) ≡ run tracks (prim_then p r) (record (followed (st os g After [] ss)) { stage = AtPost })
  prim_begins (digit d) r os g ss = refl
  prim_begins any r os g ss = refl
  prim_begins empty r os g ss = refl
  prim_begins (group a) r os g ss = refl
  prim_begins (letter ns) r os g ss = refl

  post_begins : (p : Post) (r : List Token) (os : List Group) (g : Group) (ss : List PostfixSymbol) → run tracks (post_then p r) (st os g After [] ss) ≡ run tracks (post_then p r) (record (followed (st os g After [] ss)) { stage = AtPost })
  post_begins (bare p) r os g ss = prim_begins p r os g ss
  post_begins (star p) r os g ss = post_begins p (tokens.star ∷ r) os g ss
  post_begins (plus p) r os g ss = post_begins p (tokens.plus ∷ r) os g ss
  post_begins (optional p) r os g ss = post_begins p (tokens.optional ∷ r) os g ss

  numbers_read : (ns : Numbers) (r : List Token) (os : List Group) (g : Group) (ss : List PostfixSymbol) → length (list_of ns) ≤ tracks → run tracks (numbers_then ns r) (st os g AtNumber [] ss) ≡ run tracks r (st os g AfterNumber (list_of ns) ss)
  numbers_read (one z) r os g ss l = refl
  numbers_read (more ns z) r os g ss l =
      let e : length (list_of ns ++ z ∷ []) ≡ length (list_of ns) + 1 = length-append (list_of ns) (z ∷ []) in
      let room : length (list_of ns) < tracks = omega arith in
      numbers_read ns (tokens.comma ∷ tokens.number z ∷ r) os g ss (omega arith)
      ∙ ap (λ o. after o (λ n. run tracks (tokens.number z ∷ r) n)) (opened (nat_lt (length (list_of ns)) tracks) (Some (st os g AtNumber (list_of ns) ss)) (grind (arith, nat_tests)))

  letter_read : (ns : Numbers) (r : List Token) (os : List Group) (g : Group) (ss : List PostfixSymbol) → length (list_of ns) ≡ tracks → run tracks (prim_then (letter ns) r) (st os g AtPost [] ss) ≡ run tracks r (st os g After [] (prim_on (letter ns) ss))
  letter_read ns r os g ss e =
      let some : 0 < length (list_of ns) = numbers_some ns in
      ap (λ o. after o (λ n. run tracks (numbers_then ns (tokens.unbracket ∷ r)) n)) (opened (nat_lt 0 tracks) (Some (st os g AtNumber [] ss)) (grind (arith, nat_tests)))
      ∙ (numbers_read ns (tokens.unbracket ∷ r) os g ss (omega arith)
      ∙ ap (λ o. after o (λ n. run tracks r n)) (opened (length (list_of ns) == tracks) (Some (st os g After [] (prim_on (letter ns) ss))) (grind (arith, nat_tests))))
    where
      numbers_some : (ns : Numbers) → 0 < length (list_of ns)
      numbers_some (one z) = omega arith
      numbers_some (more ns z) = let e : length (list_of ns ++ z ∷ []) ≡ length (list_of ns) + 1 = length-append (list_of ns) (z ∷ []) in omega arith

  digit_read : (d : ℕ) (r : List Token) (os : List Group) (g : Group) (ss : List PostfixSymbol) → tracks ≡ 1 → d < 10 → run tracks (prim_then (digit d) r) (st os g AtPost [] ss) ≡ run tracks r (st os g After [] (prim_on (digit d) ss))
  digit_read d r os g ss e l =
      ap (λ o. after o (λ n. run tracks r n))
      (opened (tracks == 1) (gate (nat_lt d 10) (Some (st os g After [] (prim_on (digit d) ss)))) (grind (arith, nat_tests)) ∙ opened (nat_lt d 10) (Some (st os g After [] (prim_on (digit d) ss))) (grind (arith, nat_tests)))

  -- a `)` or the next `|` after alternatives
  closes : (a : Alt) (r : List Token) (os : List Group) (h : Group) (ss : List PostfixSymbol) → run tracks (tokens.closing ∷ r) (st (h ∷ os) (grouped (is_either a) (is_follow (last_of a))) After [] (alt_open a ss)) ≡ run tracks r (st os h After [] (alt_on a ss))
  closes (only (first p)) r os h ss = refl
  closes (only (follow c p)) r os h ss = refl
  closes (either a (first p)) r os h ss = refl
  closes (either a (follow c p)) r os h ss = refl

  goes_on : (a : Alt) (r : List Token) (os : List Group) (ss : List PostfixSymbol) → run tracks (tokens.bar ∷ r) (st os (grouped (is_either a) (is_follow (last_of a))) After [] (alt_open a ss)) ≡ run tracks r (st os (grouped true false) AtPost [] (alt_on a ss))
  goes_on (only (first p)) r os ss = refl
  goes_on (only (follow c p)) r os ss = refl
  goes_on (either a (first p)) r os ss = refl
  goes_on (either a (follow c p)) r os ss = refl

  followed_cat : (c : Cat) (os : List Group) (b : Bool) (ss : List PostfixSymbol) → record (followed (st os (grouped b (is_follow c)) After [] (cat_open c ss))) { stage = AtPost } ≡ st os (grouped b true) AtPost [] (cat_on c ss)
  followed_cat (first p) os b ss = refl
  followed_cat (follow c p) os b ss = refl

  mutual
    prim_read : (p : Prim) (r : List Token) (os : List Group) (g : Group) (ss : List PostfixSymbol) → PrimFits tracks p → run tracks (prim_then p r) (st os g AtPost [] ss) ≡ run tracks r (st os g After [] (prim_on p ss))
    prim_read (digit d) r os g ss f = digit_read d r os g ss f.0 f.1
    prim_read any r os g ss f = refl
    prim_read empty r os g ss f = refl
    prim_read (group a) r os g ss f = alt_read a (tokens.closing ∷ r) (g ∷ os) ss f ∙ closes a r os g ss
    prim_read (letter ns) r os g ss f = letter_read ns r os g ss f

    post_read : (p : Post) (r : List Token) (os : List Group) (g : Group) (ss : List PostfixSymbol) → PostFits tracks p → run tracks (post_then p r) (st os g AtPost [] ss) ≡ run tracks r (st os g After [] (post_on p ss))
    post_read (bare p) r os g ss f = prim_read p r os g ss f
    post_read (star p) r os g ss f = post_read p (tokens.star ∷ r) os g ss f
    post_read (plus p) r os g ss f = post_read p (tokens.plus ∷ r) os g ss f
    post_read (optional p) r os g ss f = post_read p (tokens.optional ∷ r) os g ss f

    cat_read : (c : Cat) (r : List Token) (os : List Group) (b : Bool) (ss : List PostfixSymbol) → CatFits tracks c → run tracks (cat_then c r) (st os (grouped b false) AtPost [] ss) ≡ run tracks r (st os (grouped b (is_follow c)) After [] (cat_open c ss))
    cat_read (first p) r os b ss f = post_read p r os (grouped b false) ss f
    cat_read (follow c p) r os b ss f =
        cat_read c (post_then p r) os b ss f.0
        ∙ (post_begins p r os (grouped b (is_follow c)) (cat_open c ss)
        ∙ (ap (λ n. run tracks (post_then p r) n) (followed_cat c os b ss) ∙ post_read p r os (grouped b true) (cat_on c ss) f.1))

    pub alt_read : (a : Alt) (r : List Token) (os : List Group) (ss : List PostfixSymbol) → AltFits tracks a → run tracks (alt_then a r) (st os fresh AtPost [] ss) ≡ run tracks r (st os (grouped (is_either a) (is_follow (last_of a))) After [] (alt_open a ss))
    alt_read (only c) r os ss f = cat_read c r os false ss f
    alt_read (either a c) r os ss f = alt_read a (tokens.bar ∷ cat_then c r) os ss f.0 ∙ (goes_on a (cat_then c r) os ss ∙ cat_read c r os true (alt_on a ss) f.1)

-- the state after a whole text
abbrev pub after_all : Alt → State
after_all a = st [] (grouped (is_either a) (is_follow (last_of a))) After [] (alt_open a [])

pub whole_ends : (a : Alt) → ended (after_all a) ≡ Some (alt_on a [])
whole_ends (only (first p)) = refl
whole_ends (only (follow c p)) = refl
whole_ends (either a (first p)) = refl
whole_ends (either a (follow c p)) = refl

-- A part of a derivation that has been read: what it derives, and the machine's state after it.
use Rattle.std.proofs.Common.{ℕ, ◌<◌, ◌≤◌, Bool, true, false, List, [], ◌∷◌, length, map, Option, None, Some}
use Rattle.std.specs.Prelude.{ℤ, ⊤}
use Rattle.std.specs.List.{AllByRecursion}
use Rattle.regex_build.specs.declared.postfix_symbol.PostfixSymbol.{PostfixSymbol}
use Rattle.regex_build.specs.declared.reading.Group.{Group}
use Rattle.regex_build.specs.declared.reading.Stage.{Stage}
use Rattle.regex_build.specs.declared.reading.Stage.TheVariants.{AtPost, After, AtNumber, AfterNumber}
use Rattle.regex_build.specs.Tokens as tokens
use Rattle.regex_build.specs.Tokens.{Token}
use Rattle.regex_build.specs.Grammar.{Numbers, one, more, Post, Cat, Alt, first, follow, only, either, list_of, numbers_then, post_then, cat_then, alt_then, PostFits, CatFits, AltFits}
use Rattle.regex_build.specs.Machine.{State}
use Rattle.regex_build.proofs.GrammarSteps.{post_on, cat_on, alt_on}

-- what comes before the post that is read: alternatives with `|` after them, a sequence
pub record Prefix : Type 0 where
  pub alternatives : Option Alt
  pub sequence : Option Cat

pub data Position : Type 0 where
  at_post : Position
  after_token : Post → Position
  at_number : Option Numbers → Position
  after_number : Numbers → Position

-- the groups around, the innermost first
pub record Zipper : Type 0 where
  pub outer : List Prefix
  pub prefix : Prefix
  pub position : Position

abbrev pub no_prefix : Prefix
no_prefix = record { alternatives = None; sequence = None }

abbrev pub begin : Zipper
begin = record { outer = []; prefix = no_prefix; position = at_post }

abbrev pub cat_with : Option Cat → Post → Cat
cat_with None p = first p
cat_with (Some c) p = follow c p

abbrev pub alt_with : Option Alt → Cat → Alt
alt_with None c = only c
alt_with (Some a) c = either a c

abbrev pub numbers_with : Option Numbers → ℤ → Numbers
numbers_with None z = one z
numbers_with (Some ns) z = more ns z

-- the state
abbrev pub is_there : {X : Type 0} → Option X → Bool
is_there None = false
is_there (Some x) = true

abbrev pub group_of : Prefix → Group
group_of f = record { alternatives = is_there f.alternatives; sequence = is_there f.sequence }

abbrev pub stage_of : Position → Stage
stage_of at_post = AtPost
stage_of (after_token p) = After
stage_of (at_number o) = AtNumber
stage_of (after_number ns) = AfterNumber

abbrev pub letter_of : Position → List ℤ
letter_of at_post = []
letter_of (after_token p) = []
letter_of (at_number None) = []
letter_of (at_number (Some ns)) = list_of ns
letter_of (after_number ns) = list_of ns

abbrev pub alts_on : Option Alt → List PostfixSymbol → List PostfixSymbol
alts_on None ss = ss
alts_on (Some a) ss = alt_on a ss

abbrev pub cats_on : Option Cat → List PostfixSymbol → List PostfixSymbol
cats_on None ss = ss
cats_on (Some c) ss = cat_on c ss

abbrev pub prefix_on : Prefix → List PostfixSymbol → List PostfixSymbol
prefix_on f ss = cats_on f.sequence (alts_on f.alternatives ss)

abbrev pub outer_on : List Prefix → List PostfixSymbol
outer_on [] = []
outer_on (f ∷ fs) = prefix_on f (outer_on fs)

abbrev pub position_on : Position → List PostfixSymbol → List PostfixSymbol
position_on (after_token p) ss = post_on p ss
position_on at_post ss = ss
position_on (at_number o) ss = ss
position_on (after_number ns) ss = ss

abbrev pub state_of : Zipper → State
state_of z = record {
  outer = map group_of z.outer;
  group = group_of z.prefix;
  stage = stage_of z.position;
  letter = letter_of z.position;
  symbols = position_on z.position (prefix_on z.prefix (outer_on z.outer));
}

-- the tokens
abbrev pub alts_then : Option Alt → List Token → List Token
alts_then None r = r
alts_then (Some a) r = alt_then a (tokens.bar ∷ r)

abbrev pub cats_then : Option Cat → List Token → List Token
cats_then None r = r
cats_then (Some c) r = cat_then c r

abbrev pub prefix_then : Prefix → List Token → List Token
prefix_then f r = alts_then f.alternatives (cats_then f.sequence r)

abbrev pub outer_then : List Prefix → List Token → List Token
outer_then [] r = r
outer_then (f ∷ fs) r = outer_then fs (prefix_then f (tokens.opening ∷ r))

abbrev pub position_then : Position → List Token → List Token
position_then at_post r = r
position_then (after_token p) r = post_then p r
position_then (at_number None) r = tokens.bracket ∷ r
position_then (at_number (Some ns)) r = tokens.bracket ∷ numbers_then ns (tokens.comma ∷ r)
position_then (after_number ns) r = tokens.bracket ∷ numbers_then ns r

abbrev pub zipper_then : Zipper → List Token → List Token
zipper_then z r = outer_then z.outer (prefix_then z.prefix (position_then z.position r))

-- the number of tracks
abbrev pub AltsFit : ℕ → Option Alt → Type 0
AltsFit tracks None = ⊤
AltsFit tracks (Some a) = AltFits tracks a

abbrev pub CatsFit : ℕ → Option Cat → Type 0
CatsFit tracks None = ⊤
CatsFit tracks (Some c) = CatFits tracks c

abbrev pub PrefixFits : ℕ → Prefix → Type 0
PrefixFits tracks f = AltsFit tracks f.alternatives × CatsFit tracks f.sequence

abbrev pub PositionFits : ℕ → Position → Type 0
PositionFits tracks at_post = ⊤
PositionFits tracks (after_token p) = PostFits tracks p
PositionFits tracks (at_number None) = 0 < tracks
PositionFits tracks (at_number (Some ns)) = length (list_of ns) < tracks
PositionFits tracks (after_number ns) = length (list_of ns) ≤ tracks

pub record ZipperFits (tracks : ℕ) (z : Zipper) : Type 0 where
  pub outer : AllByRecursion (PrefixFits tracks) z.outer
  pub prefix : PrefixFits tracks z.prefix
  pub position : PositionFits tracks z.position

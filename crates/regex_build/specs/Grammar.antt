-- The grammar: which expression derives which tokens, over a number of tracks.
use Rattle.std.specs.Prelude.{◌≡◌, ℕ, ◌<◌, ℤ, pos, List, [], ◌∷◌, ◌++◌, length, ⊤}
use Rattle.regex_build.specs.Tokens as tokens
use Rattle.regex_build.specs.Tokens.{Token}
use Rattle.regex_build.specs.Expression as expression
use Rattle.regex_build.specs.Expression.{Expression}

-- numbers := number { "," number }
pub data Numbers : Type 0 where
  one : ℤ → Numbers
  more : Numbers → ℤ → Numbers

-- alt := cat { "|" cat }; cat := post { post }; post := prim { "*" | "+" | "?" }
-- prim := digit | "." | "()" | "(" alt ")" | "[" numbers "]"
mutual
  pub data Prim : Type 0 where
    digit : ℕ → Prim
    any : Prim
    empty : Prim
    group : Alt → Prim
    letter : Numbers → Prim

  pub data Post : Type 0 where
    bare : Prim → Post
    star : Post → Post
    plus : Post → Post
    optional : Post → Post

  pub data Cat : Type 0 where
    first : Post → Cat
    follow : Cat → Post → Cat

  pub data Alt : Type 0 where
    only : Cat → Alt
    either : Alt → Cat → Alt

-- the tokens that are derived, and the rest after them
abbrev pub numbers_then : Numbers → List Token → List Token
numbers_then (one z) r = tokens.number z ∷ r
numbers_then (more ns z) r = numbers_then ns (tokens.comma ∷ tokens.number z ∷ r)

abbrev mutual
  pub prim_then : Prim → List Token → List Token
  prim_then (digit d) r = tokens.digit d ∷ r
  prim_then any r = tokens.dot ∷ r
  prim_then empty r = tokens.opening ∷ tokens.closing ∷ r
  prim_then (group a) r = tokens.opening ∷ alt_then a (tokens.closing ∷ r)
  prim_then (letter ns) r = tokens.bracket ∷ numbers_then ns (tokens.unbracket ∷ r)

  pub post_then : Post → List Token → List Token
  post_then (bare p) r = prim_then p r
  post_then (star p) r = post_then p (tokens.star ∷ r)
  post_then (plus p) r = post_then p (tokens.plus ∷ r)
  post_then (optional p) r = post_then p (tokens.optional ∷ r)

  pub cat_then : Cat → List Token → List Token
  cat_then (first p) r = post_then p r
  cat_then (follow c p) r = cat_then c (post_then p r)

  pub alt_then : Alt → List Token → List Token
  alt_then (only c) r = cat_then c r
  alt_then (either a c) r = alt_then a (tokens.bar ∷ cat_then c r)

abbrev pub list_of : Numbers → List ℤ
list_of (one z) = z ∷ []
list_of (more ns z) = list_of ns ++ z ∷ []

-- the expression: parentheses leave no mark
abbrev mutual
  pub prim_tree : Prim → Expression (List ℤ)
  prim_tree (digit d) = expression.letter (pos d ∷ [])
  prim_tree any = expression.any
  prim_tree empty = expression.empty
  prim_tree (group a) = alt_tree a
  prim_tree (letter ns) = expression.letter (list_of ns)

  pub post_tree : Post → Expression (List ℤ)
  post_tree (bare p) = prim_tree p
  post_tree (star p) = expression.star (post_tree p)
  post_tree (plus p) = expression.plus (post_tree p)
  post_tree (optional p) = expression.optional (post_tree p)

  pub cat_tree : Cat → Expression (List ℤ)
  cat_tree (first p) = post_tree p
  cat_tree (follow c p) = expression.follow (cat_tree c) (post_tree p)

  pub alt_tree : Alt → Expression (List ℤ)
  alt_tree (only c) = cat_tree c
  alt_tree (either a c) = expression.either (alt_tree a) (cat_tree c)

-- a bare digit is a letter of one track, and brackets have a number for each track
abbrev mutual
  pub PrimFits : ℕ → Prim → Type 0
  PrimFits tracks (digit d) = (tracks ≡ 1) × (d < 10)
  PrimFits tracks any = ⊤
  PrimFits tracks empty = ⊤
  PrimFits tracks (group a) = AltFits tracks a
  PrimFits tracks (letter ns) = length (list_of ns) ≡ tracks

  pub PostFits : ℕ → Post → Type 0
  PostFits tracks (bare p) = PrimFits tracks p
  PostFits tracks (star p) = PostFits tracks p
  PostFits tracks (plus p) = PostFits tracks p
  PostFits tracks (optional p) = PostFits tracks p

  pub CatFits : ℕ → Cat → Type 0
  CatFits tracks (first p) = PostFits tracks p
  CatFits tracks (follow c p) = CatFits tracks c × PostFits tracks p

  pub AltFits : ℕ → Alt → Type 0
  AltFits tracks (only c) = CatFits tracks c
  AltFits tracks (either a c) = AltFits tracks a × CatFits tracks c

-- the tokens derive from the expression
pub record Derives (tracks : ℕ) (ts : List Token) (tree : Expression (List ℤ)) : Type 0 where
  pub text : Alt
  pub derives : alt_then text [] ≡ ts
  pub fits : AltFits tracks text
  pub tree_is : alt_tree text ≡ tree

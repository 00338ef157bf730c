-- What a token keeps to apart from the grammar: numbers are members of their tracks' sets, and parentheses nest at most 128.
use Rattle.std.specs.Prelude.{ℕ, suc, pred, ◌<◌, ◌^◌, ℤ, pos, IsTrue, List, [], ◌∷◌, Contains, slice_index_or, ⊤}
use Rattle.text_grammar.specs.Numbers.{is_short}
use Rattle.regex_build.specs.Tokens.{Token, opening, closing, unbracket, digit, number}

-- what a token is within and after: how many open parentheses, and how many numbers of its brackets
pub record Around : Type 0 where
  pub nesting : ℕ
  pub numbers : ℕ

abbrev pub nothing : Around
nothing = record { nesting = 0; numbers = 0 }

-- what is around the next token
abbrev pub after_token : Around → Token → Around
after_token a opening = record a { nesting = suc a.nesting }
after_token a closing = record a { nesting = pred a.nesting }
after_token a (number z) = record a { numbers = suc a.numbers }
after_token a unbracket = record a { numbers = 0 }
after_token a _ = a

abbrev pub after_all : Around → List Token → Around
after_all a [] = a
after_all a (t ∷ ts) = after_all (after_token a t) ts

-- the set of a track
abbrev pub set_at : List (List ℤ) → ℕ → List ℤ
set_at sets track = slice_index_or sets track []

-- a member of a set: a number of 32 bits, signed, that it has
abbrev pub IsMember : List ℤ → ℤ → Type 0
IsMember set z = IsTrue (is_short (2 ^ 31) z) × Contains set z

-- the token keeps to its limit
abbrev pub IsAllowed : List (List ℤ) → Around → Token → Type 0
IsAllowed sets a opening = a.nesting < 128
IsAllowed sets a (digit d) = IsMember (set_at sets 0) (pos d)
IsAllowed sets a (number z) = IsMember (set_at sets a.numbers) z
IsAllowed sets a _ = ⊤

abbrev pub AreAllowed : List (List ℤ) → Around → List Token → Type 0
AreAllowed sets a [] = ⊤
AreAllowed sets a (t ∷ ts) = IsAllowed sets a t × AreAllowed sets (after_token a t) ts

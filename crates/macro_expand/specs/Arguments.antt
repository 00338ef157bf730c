-- The arguments of a call, which commas part.
use Rattle.std.specs.Prelude.{ℕ, suc, ◌+◌, ◌-◌, ◌==◌, ◌&&◌, if◌then◌else◌, List, [], ◌∷◌, length, Option, None, Some}
use Rattle.text_grammar.specs.declared.class.Class.TheVariants.{Blank}
use Rattle.text_grammar.specs.Prefixes.{prefix_len}
use Rattle.macro_expand.specs.Calls.{parentheses_after}

-- how many square brackets are open after a byte: a `]` where none is open counts nothing
abbrev pub brackets_after : ℕ → ℕ → ℕ
brackets_after n b = if b == 91 then n + 1 else if b == 93 then n - 1 else n

-- a byte before those of the first argument
abbrev pub with_first : ℕ → List (List ℕ) → List (List ℕ)
with_first b [] = (b ∷ []) ∷ []
with_first b (argument ∷ others) = (b ∷ argument) ∷ others

-- the arguments in some bytes, before which n parentheses and m brackets are open: a comma ends one where none is
abbrev pub cut : ℕ → ℕ → List ℕ → List (List ℕ)
cut n m [] = [] ∷ []
cut n m (b ∷ bs) =
    if b == 44 && (n == 0 && m == 0) then [] ∷ cut 0 0 bs
    else with_first b (cut (parentheses_after n b) (brackets_after m b) bs)

-- how many bytes the first argument of them has
abbrev pub first_len : ℕ → ℕ → List ℕ → ℕ
first_len n m [] = 0
first_len n m (b ∷ bs) =
    if b == 44 && (n == 0 && m == 0) then 0 else suc (first_len (parentheses_after n b) (brackets_after m b) bs)

-- the arguments in what is left after a comma; none where nothing is left
abbrev pub arguments_left : Option (List ℕ) → List (List ℕ)
arguments_left None = []
arguments_left (Some bytes) = cut 0 0 bytes

-- the arguments between a call's parentheses: none where only blanks are there
abbrev pub arguments_of : List ℕ → List (List ℕ)
arguments_of inside = if prefix_len Blank inside == length inside then [] else cut 0 0 inside

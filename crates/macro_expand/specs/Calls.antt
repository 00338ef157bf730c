-- Calls of macros: a `#`, the macro's name, optional blanks, and what is between parentheses.
use Rattle.std.specs.Prelude.{ℕ, suc, ◌+◌, ◌-◌, ◌==◌, nat_lt, nat_le, Bool, false, ◌&&◌, if◌then◌else◌, List, [], ◌∷◌, length, take, Option, None, Some}
use Rattle.std.specs.Option.{option_map}
use Rattle.text_grammar.specs.declared.class.Class.TheVariants.{Blank, NameByte}
use Rattle.text_grammar.specs.Bytes.{is_letter}
use Rattle.text_grammar.specs.Prefixes.{prefix_len, prefix_of, after_prefix}

-- a call: the macro's name, what is between the parentheses, and how many bytes the call has after its `#`
pub record Call : Type 0 where
  pub name : List ℕ
  pub inside : List ℕ
  pub len : ℕ

-- some letters, digits and `_` are a name where a letter comes first and they are at most 64
abbrev pub is_name : List ℕ → Bool
is_name [] = false
is_name (b ∷ bs) = is_letter b && nat_le (length (b ∷ bs)) 64

-- how many parentheses are open after a byte
abbrev pub parentheses_after : ℕ → ℕ → ℕ
parentheses_after n b = if b == 40 then n + 1 else if b == 41 then n - 1 else n

-- how many bytes come before the `)` that closes a parenthesis in which n others are open, or all where none does
abbrev pub inside_len : ℕ → List ℕ → ℕ
inside_len n [] = 0
inside_len n (b ∷ bs) = if b == 41 && n == 0 then 0 else suc (inside_len (parentheses_after n b) bs)

-- what the first byte encloses, if it is a `(` that a `)` closes
abbrev pub enclosed : List ℕ → Option (List ℕ)
enclosed [] = None
enclosed (b ∷ bs) = if b == 40 && nat_lt (inside_len 0 bs) (length bs) then Some (take (inside_len 0 bs) bs) else None

-- what follows the leading name and the blanks after it
abbrev pub after_name : List ℕ → List ℕ
after_name bytes = after_prefix Blank (after_prefix NameByte bytes)

-- the call of this name, between which and the `(` are so many blanks, and what it encloses
abbrev pub call_of : List ℕ → ℕ → List ℕ → Call
call_of name blanks inside = record { name = name; inside = inside; len = length name + blanks + length inside + 2 }

-- the call that begins what follows its `#`, if one does
unfoldable pub call_after : List ℕ → Option Call
call_after bytes =
    if is_name (prefix_of NameByte bytes)
    then option_map (call_of (prefix_of NameByte bytes) (prefix_len Blank (after_prefix NameByte bytes))) (enclosed (after_name bytes))
    else None

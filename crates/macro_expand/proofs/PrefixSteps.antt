-- The prefixes of texts, and the marks before which they are.
use Rattle.std.proofs.Common.{◌≡◌, ℕ, zero, suc, ◌<◌, Bool, true, false, cond, List, [], ◌∷◌, length, take, drop, refl, ap, arith, tests, IsAscii}
use Rattle.std.specs.Prelude.{◌==◌}
use Rattle.std.proofs.lemmas.Bool.{eqb-true}
use Rattle.text_grammar.specs.declared.class.Class.TheVariants.{NameByte}
use Rattle.text_grammar.specs.Bytes.{is_name_byte}
use Rattle.text_grammar.specs.Prefixes.{prefix_len, prefix_of}
use Rattle.macro_expand.specs.Views.{len_before}

name_byte-low : (b : ℕ) → is_name_byte b ≡ true → b < 128
name_byte-low b h = grind (arith, tests)

-- the bytes of names are ASCII
pub IsAscii-prefix : (bytes : List ℕ) → IsAscii (prefix_of NameByte bytes)
IsAscii-prefix [] = λ i. omega arith
IsAscii-prefix (b ∷ bs) = by (is_name_byte b) refl (IsAscii-prefix bs)
  where
    by : (t : Bool) → is_name_byte b ≡ t → IsAscii (prefix_of NameByte bs) → IsAscii (take (cond t (suc (prefix_len NameByte bs)) 0) (b ∷ bs))
    by true h more zero = name_byte-low b h
    by true h more (suc i) = more i
    by false h more i = omega arith

-- a mark comes first
pub at_mark : (mark : ℕ) (bytes : List ℕ) → len_before mark bytes ≡ 0 → 0 < length bytes → bytes ≡ mark ∷ drop 1 bytes
at_mark mark [] h some = absurd (omega arith)
at_mark mark (b ∷ bs) h some = by (b == mark) refl h
  where
    by : (t : Bool) → (b == mark) ≡ t → cond t 0 (suc (len_before mark bs)) ≡ 0 → b ∷ bs ≡ mark ∷ bs
    by true e z = ap (λ (x : ℕ). x ∷ bs) (eqb-true b mark e)
    by false e z = absurd (omega arith)

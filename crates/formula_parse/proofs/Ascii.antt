-- Names and systems are ASCII.
use Rattle.std.proofs.Common.{◌≡◌, refl, sym, subst, ℕ, suc, ◌+◌, ◌<◌, Bool, true, false, ◌&&◌, List, [], ◌∷◌, IsAscii, take, get_or, codes, arith, tests, ⊎_elim}
use Rattle.std.specs.Prelude.{if◌then◌else◌}
use Rattle.std.proofs.lemmas.Bool.{and_parts}
use Rattle.std.proofs.lemmas.Str.Ascii.{IsAscii-nil, IsAscii-cons}
use Rattle.text_grammar.specs.declared.class.Class.TheVariants.{Alphanumeric, NameByte}
use Rattle.text_grammar.specs.Bytes.{is_alphanumeric, is_name_byte}
use Rattle.text_grammar.specs.Prefixes.{begins_in, prefix_len}
use Rattle.text_grammar.specs.Systems.{is_direction}
use Rattle.text_grammar.proofs.SystemLemmas.{direction_is}
use Rattle.formula_parse.specs.Spots.{system_len}
use Rattle.formula_parse.proofs.SpotSteps.{system_short}

name_byte-low : (b : ℕ) → is_name_byte b ≡ true → b < 128
name_byte-low b h = grind (arith, tests)

alphanumeric-low : (b : ℕ) → is_alphanumeric b ≡ true → b < 128
alphanumeric-low b h = grind (arith, tests)

name_prefix : (bs : List ℕ) → IsAscii (take (prefix_len NameByte bs) bs)
name_prefix [] = IsAscii-nil
name_prefix (b ∷ bs) = pick (is_name_byte b) refl (name_prefix bs)
  where
    pick : (q : Bool) → is_name_byte b ≡ q → IsAscii (take (prefix_len NameByte bs) bs) → IsAscii (take (if q then suc (prefix_len NameByte bs) else 0) (b ∷ bs))
    pick true e more = IsAscii-cons b (take (prefix_len NameByte bs) bs) (name_byte-low b e) more
    pick false e more = IsAscii-nil

pub ascii_name : (bs : List ℕ) (n : ℕ) → n ≡ prefix_len NameByte bs → IsAscii (take n bs)
ascii_name bs n e = subst (λ k. IsAscii (take k bs)) (sym e) (name_prefix bs)

alphanumeric_prefix : (bs : List ℕ) → IsAscii (take (prefix_len Alphanumeric bs) bs)
alphanumeric_prefix [] = IsAscii-nil
alphanumeric_prefix (b ∷ bs) = pick (is_alphanumeric b) refl (alphanumeric_prefix bs)
  where
    pick : (q : Bool) → is_alphanumeric b ≡ q → IsAscii (take (prefix_len Alphanumeric bs) bs) → IsAscii (take (if q then suc (prefix_len Alphanumeric bs) else 0) (b ∷ bs))
    pick true e more = IsAscii-cons b (take (prefix_len Alphanumeric bs) bs) (alphanumeric-low b e) more
    pick false e more = IsAscii-nil

nothing : (bs : List ℕ) (n : ℕ) → n ≡ 0 → IsAscii (take n bs)
nothing bs n e = subst (λ k. IsAscii (take k bs)) (sym e) IsAscii-nil

-- the bytes of a direction
record AreLow (a b c d : ℕ) : Type 0 where
  first : a < 128
  second : b < 128
  third : c < 128
  fourth : d < 128

low_from : (a b c d : ℕ) (text : List ℕ) → a ∷ b ∷ c ∷ d ∷ [] ≡ text → AreLow (get_or text 0 0) (get_or text 1 0) (get_or text 2 0) (get_or text 3 0) → AreLow a b c d
low_from a b c d text e are = subst (λ (l : List ℕ). AreLow (get_or l 0 0) (get_or l 1 0) (get_or l 2 0) (get_or l 3 0)) (sym e) are

direction_low : (a b c d : ℕ) → is_direction (a ∷ b ∷ c ∷ d ∷ []) ≡ true → AreLow a b c d
direction_low a b c d h =
    ⊎_elim (λ e. low_from a b c d (codes "msd_") e (record { first = omega arith; second = omega arith; third = omega arith; fourth = omega arith }))
    (λ e. low_from a b c d (codes "lsd_") e (record { first = omega arith; second = omega arith; third = omega arith; fourth = omega arith }))
    (direction_is (a ∷ b ∷ c ∷ d ∷ []) h)

-- four bytes of a direction, and letters and digits after them
after_four : (a b c d : ℕ) (ds : List ℕ) → AreLow a b c d → (k : ℕ) → IsAscii (take k ds) → IsAscii (take (k + 4) (a ∷ b ∷ c ∷ d ∷ ds))
after_four a b c d ds low k rest =
    let all : IsAscii (a ∷ b ∷ c ∷ d ∷ take k ds) =
    IsAscii-cons a (b ∷ c ∷ d ∷ take k ds) low.first
    (IsAscii-cons b (c ∷ d ∷ take k ds) low.second (IsAscii-cons c (d ∷ take k ds) low.third (IsAscii-cons d (take k ds) low.fourth rest))) in
    let more : k + 4 ≡ suc (suc (suc (suc k))) = omega arith in
    subst (λ n. IsAscii (take n (a ∷ b ∷ c ∷ d ∷ ds))) (sym more) all

system_prefix : (text : List ℕ) → IsAscii (take (system_len text) text)
system_prefix [] = nothing [] _ (system_short [] (omega arith))
system_prefix (a ∷ []) = nothing (a ∷ []) _ (system_short (a ∷ []) (omega arith))
system_prefix (a ∷ b ∷ []) = nothing (a ∷ b ∷ []) _ (system_short (a ∷ b ∷ []) (omega arith))
system_prefix (a ∷ b ∷ c ∷ []) = nothing (a ∷ b ∷ c ∷ []) _ (system_short (a ∷ b ∷ c ∷ []) (omega arith))
system_prefix (a ∷ b ∷ c ∷ d ∷ ds) = pick (is_direction (a ∷ b ∷ c ∷ d ∷ []) && begins_in Alphanumeric ds) refl
  where
    pick : (q : Bool) → (is_direction (a ∷ b ∷ c ∷ d ∷ []) && begins_in Alphanumeric ds) ≡ q → IsAscii (take (if q then prefix_len Alphanumeric ds + 4 else 0) (a ∷ b ∷ c ∷ d ∷ ds))
    pick true e = after_four a b c d ds (direction_low a b c d (and_parts (is_direction (a ∷ b ∷ c ∷ d ∷ [])) (begins_in Alphanumeric ds) e).0) (prefix_len Alphanumeric ds) (alphanumeric_prefix ds)
    pick false e = IsAscii-nil

pub ascii_system : (text : List ℕ) (n : ℕ) → n ≡ system_len text → IsAscii (take n text)
ascii_system text n e = subst (λ k. IsAscii (take k text)) (sym e) (system_prefix text)

-- Printed lines of states and of tuples, read again.
use Rattle.std.proofs.Common.{◌≡◌, ℕ, ◌^◌, ◌<◌, Bool, false, eqb, List, [], ◌∷◌, ◌++◌, map, ℤ, Option, None, Some, refl, ap, ◌∙◌, arith, append_assoc, codes, decimal}
use Rattle.std.specs.Prelude.{⊤}
use Rattle.std.specs.Fmt.{signed_decimal}
use Rattle.std.specs.List.{AllByRecursion, flat_map, join_by}
use Rattle.std.proofs.lemmas.List.{append-nil}
use mir.Val.{SFits}
use mir.Syntax.{w32}
use Rattle.text_grammar.specs.Bytes.{is_line_end}
use Rattle.digit_tuple.proofs.AllLemmas.{all_weaker}
use Rattle.dfa_reading.specs.Lines.{parts_of, is_passed}
use Rattle.dfa_reading.specs.Entries.{is_star}
use Rattle.dfa_reading.specs.declared.outputs.Outputs.{Outputs}
use Rattle.dfa_reading.specs.declared.outputs.Outputs.TheVariants.{Numbers, Letters}
use Rattle.dfa_reading.proofs.Splits.{parts_of-append}
use Rattle.dfa_text.specs.Parts.{output_text, state_text}
use Rattle.dfa_text.proofs.PrintedParts.{Avoids, Avoids-append, Spares, spares_byte, avoids_decimal, avoids_signed, IsPart, part_decimal, part_signed, parts_of-one, parts_of-joined, not_passed_part}

-- a target, after a blank
abbrev pub target_text : ℕ → List ℕ
target_text target = codes " " ++ decimal target

pub fits_wide : (n : ℕ) → n < 2 ^ 32 → n < 2 ^ 64
fits_wide n h = omega arith

-- an output that a format has
abbrev pub IsOutput : Outputs → Option ℤ → Type 0
IsOutput o (Some z) = SFits w32 z
IsOutput Numbers None = ⊥
IsOutput Letters None = ⊤

part_output : (o : Outputs) (output : Option ℤ) → IsOutput o output → IsPart (output_text output)
part_output o (Some z) f = part_signed z f
part_output o None f = record { some = omega arith; whole = (refl, tt) }

output_avoids : (p : ℕ → Bool) → Spares p → (o : Outputs) (output : Option ℤ) → IsOutput o output → Avoids p (output_text output)
output_avoids p s o (Some z) f = avoids_signed p s z f
output_avoids p s o None f = (s.minus, tt)

-- the line of a state
pub parts_of-state : (o : Outputs) (q : ℕ) (z : Option ℤ) → q < 2 ^ 32 → IsOutput o z → parts_of (state_text q z) ≡ decimal q ∷ output_text z ∷ []
parts_of-state o q z h f =
    parts_of-append (decimal q) 32 (output_text z) refl ∙ ap (λ t. t ++ parts_of (output_text z)) (parts_of-one (decimal q) (part_decimal q (fits_wide q h)))
    ∙ ap (λ t. decimal q ∷ t) (parts_of-one (output_text z) (part_output o z f))

pub state_is_read : (q : ℕ) (z : Option ℤ) → q < 2 ^ 32 → is_passed (state_text q z) ≡ false
state_is_read q z h = not_passed_part (decimal q) (codes " " ++ output_text z) (part_decimal q (fits_wide q h)) (avoids_decimal (λ c. eqb c 35) (spares_byte 35 refl refl) q (fits_wide q h))

pub state_avoids : (p : ℕ → Bool) → Spares p → p 32 ≡ false → (o : Outputs) (q : ℕ) (z : Option ℤ) → q < 2 ^ 32 → IsOutput o z → Avoids p (state_text q z)
state_avoids p s blank o q z h f = Avoids-append p (decimal q) (codes " " ++ output_text z) (avoids_decimal p s q (fits_wide q h)) (blank, output_avoids p s o z f)

pub no_star : (bytes : List ℕ) → Avoids (λ b. eqb b 42) bytes → is_star bytes ≡ false
no_star [] h = refl
no_star (b ∷ []) h = h.0
no_star (b ∷ c ∷ bytes) h = refl

abbrev pub AreNumbers : List ℕ → Type 0
AreNumbers targets = AllByRecursion (λ n. n < 2 ^ 32) targets

pub parts_of-targets : (t : ℕ) (ts : List ℕ) → AreNumbers (t ∷ ts) → parts_of (flat_map target_text (t ∷ ts)) ≡ map decimal (t ∷ ts)
parts_of-targets t ts h = parts_of-append [] 32 (join_by decimal (codes " ") (t ∷ ts)) refl ∙ parts_of-joined decimal t ts (all_weaker (λ n. n < 2 ^ 32) (λ n. IsPart (decimal n)) (λ n k. part_decimal n (fits_wide n k)) (t ∷ ts) h)

pub parts_of-tuple : (m : ℤ) (ms : List ℤ) → AllByRecursion (SFits w32) (m ∷ ms) → parts_of (join_by signed_decimal (codes " ") (m ∷ ms) ++ 32 ∷ []) ≡ map signed_decimal (m ∷ ms)
parts_of-tuple m ms f = parts_of-append (join_by signed_decimal (codes " ") (m ∷ ms)) 32 [] refl ∙ append-nil (parts_of (join_by signed_decimal (codes " ") (m ∷ ms))) ∙ parts_of-joined signed_decimal m ms (all_weaker (SFits w32) (λ z. IsPart (signed_decimal z)) part_signed (m ∷ ms) f)

pub tuple_avoids : (p : ℕ → Bool) → Spares p → p 32 ≡ false → (m : ℤ) (ms : List ℤ) → AllByRecursion (SFits w32) (m ∷ ms) → Avoids p (join_by signed_decimal (codes " ") (m ∷ ms))
tuple_avoids p s blank m ms f = Avoids-append p (signed_decimal m) (flat_map (λ y. codes " " ++ signed_decimal y) ms) (avoids_signed p s m f.0) (more ms f.1)
  where
    more : (ms : List ℤ) → AllByRecursion (SFits w32) ms → Avoids p (flat_map (λ y. codes " " ++ signed_decimal y) ms)
    more [] f = tt
    more (n ∷ ms) f = (blank, Avoids-append p (signed_decimal n) (flat_map (λ y. codes " " ++ signed_decimal y) ms) (avoids_signed p s n f.0) (more ms f.1))

targets_avoid : (p : ℕ → Bool) → Spares p → p 32 ≡ false → (ts : List ℕ) → AreNumbers ts → Avoids p (flat_map target_text ts)
targets_avoid p s blank [] h = tt
targets_avoid p s blank (t ∷ ts) h = (blank, Avoids-append p (decimal t) (flat_map target_text ts) (avoids_decimal p s t (fits_wide t h.0)) (targets_avoid p s blank ts h.1))

abbrev pub tuple_text : List ℤ → List ℕ → List ℕ
tuple_text tuple targets = join_by signed_decimal (codes " ") tuple ++ (codes " ->" ++ flat_map target_text targets)

pub tuple_is_read : (m : ℤ) (ms : List ℤ) (targets : List ℕ) → AllByRecursion (SFits w32) (m ∷ ms) → is_passed (tuple_text (m ∷ ms) targets) ≡ false
tuple_is_read m ms targets f =
    let rest = flat_map (λ y. codes " " ++ signed_decimal y) ms in
    ap is_passed (append_assoc (signed_decimal m) rest (codes " ->" ++ flat_map target_text targets))
    ∙ not_passed_part (signed_decimal m) (rest ++ (codes " ->" ++ flat_map target_text targets)) (part_signed m f.0) (avoids_signed (λ b. eqb b 35) (spares_byte 35 refl refl) m f.0)

pub tuple_line_avoids : (m : ℤ) (ms : List ℤ) (ts : List ℕ) → AllByRecursion (SFits w32) (m ∷ ms) → AreNumbers ts → Avoids is_line_end (tuple_text (m ∷ ms) ts)
tuple_line_avoids m ms ts f k = Avoids-append is_line_end (join_by signed_decimal (codes " ") (m ∷ ms)) (codes " ->" ++ flat_map target_text ts) (tuple_avoids is_line_end (spares_byte 10 refl refl) refl m ms f) (refl, (refl, (refl, targets_avoid is_line_end (spares_byte 10 refl refl) refl ts k)))

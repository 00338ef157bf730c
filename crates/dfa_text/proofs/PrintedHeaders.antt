-- Printed headers, read again.
use Rattle.std.proofs.Common.{◌≡◌, ℕ, ◌<◌, Bool, false, List, [], ◌∷◌, ◌++◌, map, length, ℤ, Option, Some, refl, sym, ap, ◌∙◌, append_assoc, codes}
use Rattle.std.specs.Fmt.{signed_decimal}
use Rattle.std.specs.List.{AllByRecursion, flat_map, join_by}
use mir.Val.{SFits}
use mir.Syntax.{w32}
use Rattle.digit_tuple.specs.Sets.{IsAscending}
use Rattle.dfa_reading.specs.Lines.{each_of, is_passed}
use Rattle.dfa_text.specs.Parts.{set_text, header_text}
use Rattle.dfa_text.proofs.PrintedParts.{Avoids, Avoids-append, Spares, avoids_signed, not_passed}

-- the sets of a header that can be printed and read again
pub record IsPrintable (set : List ℤ) : Type 0 where
  pub some : 0 < length set
  pub ascending : IsAscending set
  pub fits : AllByRecursion (SFits w32) set

pub each_of-map : {X A : Type 0} (f : X → A) (read : A → Option X) (xs : List X) → AllByRecursion (λ x. read (f x) ≡ Some x) xs → each_of read (map f xs) ≡ Some xs
each_of-map f read [] h = refl
each_of-map f read (x ∷ xs) h = rw (h.0, each_of-map f read xs h.1) refl

-- the bytes between the braces
pub avoids_joined : (p : ℕ → Bool) → Spares p → p 44 ≡ false → (set : List ℤ) → AllByRecursion (SFits w32) set → Avoids p (join_by signed_decimal (codes ",") set)
avoids_joined p s comma [] f = tt
avoids_joined p s comma (m ∷ set) f = Avoids-append p (signed_decimal m) (flat_map (λ y. codes "," ++ signed_decimal y) set) (avoids_signed p s m f.0) (more set f.1)
  where
    more : (set : List ℤ) → AllByRecursion (SFits w32) set → Avoids p (flat_map (λ y. codes "," ++ signed_decimal y) set)
    more [] f = tt
    more (n ∷ set) f = (comma, Avoids-append p (signed_decimal n) (flat_map (λ y. codes "," ++ signed_decimal y) set) (avoids_signed p s n f.0) (more set f.1))

pub regroup : (lead inside : List ℕ) (rest : List ℕ) → lead ++ ((123 ∷ (inside ++ 125 ∷ [])) ++ rest) ≡ (lead ++ 123 ∷ inside) ++ 125 ∷ rest
regroup lead inside rest = ap (λ t. lead ++ 123 ∷ t) (append_assoc inside (125 ∷ []) rest) ∙ sym (append_assoc lead (123 ∷ inside) (125 ∷ rest))

pub header_is_read : (set : List ℤ) (sets : List (List ℤ)) → is_passed (header_text (set ∷ sets)) ≡ false
header_is_read set sets = not_passed 123 ((join_by signed_decimal (codes ",") set ++ codes "}") ++ flat_map (λ s. codes " " ++ set_text s) sets) refl refl

-- and it is one line
pub header_avoids : (p : ℕ → Bool) → Spares p → p 44 ≡ false → p 32 ≡ false → p 123 ≡ false → p 125 ≡ false → (sets : List (List ℤ)) → AllByRecursion IsPrintable sets → Avoids p (header_text sets)
header_avoids p s comma blank opened close [] h = tt
header_avoids p s comma blank opened close (set ∷ sets) h = Avoids-append p (set_text set) (flat_map (λ t. codes " " ++ set_text t) sets) (of_set set h.0) (more sets h.1)
  where
    of_set : (set : List ℤ) → IsPrintable set → Avoids p (set_text set)
    of_set set q = (opened, Avoids-append p (join_by signed_decimal (codes ",") set) (codes "}") (avoids_joined p s comma set q.fits) (close, tt))

    more : (sets : List (List ℤ)) → AllByRecursion IsPrintable sets → Avoids p (flat_map (λ t. codes " " ++ set_text t) sets)
    more [] h = tt
    more (t ∷ sets) h = (blank, Avoids-append p (set_text t) (flat_map (λ u. codes " " ++ set_text u) sets) (of_set t h.0) (more sets h.1))

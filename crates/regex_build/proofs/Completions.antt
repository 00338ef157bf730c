-- What has been read of a derivation can be completed.
use Rattle.std.proofs.Common.{◌≡◌, refl, ◌∙◌, ap, ℕ, zero, suc, ◌+◌, ◌-◌, List, [], ◌∷◌, length, Option, None, Some, arith}
use Rattle.std.specs.Prelude.{pos}
use Rattle.std.specs.List.{AllByRecursion}
use Rattle.std.proofs.lemmas.List.{length-append}
use Rattle.regex_build.specs.Tokens.{Token, opening, closing, comma, unbracket, number}
use Rattle.regex_build.specs.Grammar as grammar
use Rattle.regex_build.specs.Grammar.{Numbers, one, more, Post, Cat, Alt, bare, list_of, alt_then, post_then, PostFits, AltFits}
use Rattle.regex_build.proofs.Zippers.{Prefix, Position, at_post, after_token, at_number, after_number, Zipper, cat_with, alt_with, zipper_then, prefix_then, outer_then, PrefixFits, PositionFits, ZipperFits}
use Rattle.regex_build.proofs.Sound.{cat_fits, alt_fits}

-- tokens that may follow, and the text that is then whole
pub record Completed (tracks : ℕ) (z : Zipper) : Type 0 where
  pub more : List Token
  pub text : Alt
  pub derives : alt_then text [] ≡ zipper_then z more
  pub fits : AltFits tracks text

abbrev zip : List Prefix → Prefix → Position → Zipper
zip fs f p = record { outer = fs; prefix = f; position = p }

-- the alternatives that end with a post
abbrev alt_of : Prefix → Post → Alt
alt_of f p = alt_with f.alternatives (cat_with f.sequence p)

alt_of_then : (a : Option Alt) (c : Option Cat) (p : Post) (r : List Token) → alt_then (alt_with a (cat_with c p)) r ≡ prefix_then (record { alternatives = a; sequence = c }) (post_then p r)
alt_of_then None None p r = refl
alt_of_then None (Some c) p r = refl
alt_of_then (Some a) None p r = refl
alt_of_then (Some a) (Some c) p r = refl

module _ (tracks : ℕ) where
  alt_of_fits : (f : Prefix) (p : Post) → PrefixFits tracks f → PostFits tracks p → AltFits tracks (alt_of f p)
  alt_of_fits f p h k = alt_fits tracks f.alternatives (cat_with f.sequence p) h.0 (cat_fits tracks f.sequence p h.1 k)

  ends : (fs : List Prefix) (f : Prefix) (p : Post) → AllByRecursion (PrefixFits tracks) fs → PrefixFits tracks f → PostFits tracks p → Completed tracks (zip fs f (after_token p))
  ends [] f p os h k = record { more = []; text = alt_of f p; derives = alt_of_then f.alternatives f.sequence p []; fits = alt_of_fits f p h k }
  ends (g ∷ fs) f p os h k =
      let c = ends fs g (bare (grammar.group (alt_of f p))) os.1 os.0 (alt_of_fits f p h k) in
      record {
        more = closing ∷ c.more;
        text = c.text;
        derives = c.derives ∙ ap (λ r. outer_then fs (prefix_then g (opening ∷ r))) (alt_of_then f.alternatives f.sequence p (closing ∷ c.more));
        fits = c.fits;
      }

  fills : (k : ℕ) (fs : List Prefix) (f : Prefix) (ns : Numbers) → AllByRecursion (PrefixFits tracks) fs → PrefixFits tracks f → length (list_of ns) + k ≡ tracks → Completed tracks (zip fs f (after_number ns))
  fills zero fs f ns os h e =
      let c = ends fs f (bare (grammar.letter ns)) os h (omega arith) in
      record { more = unbracket ∷ c.more; text = c.text; derives = c.derives; fits = c.fits }
  fills (suc k) fs f ns os h e =
      let l = length-append (list_of ns) (pos 0 ∷ []) in
      let c = fills k fs f (more ns (pos 0)) os h (omega (arith, l)) in
      record { more = comma ∷ number (pos 0) ∷ c.more; text = c.text; derives = c.derives; fits = c.fits }

  completes_at : (fs : List Prefix) (f : Prefix) (p : Position) → AllByRecursion (PrefixFits tracks) fs → PrefixFits tracks f → PositionFits tracks p → Completed tracks (zip fs f p)
  completes_at fs f at_post os h k =
      let c = ends fs f (bare grammar.empty) os h tt in
      record { more = opening ∷ closing ∷ c.more; text = c.text; derives = c.derives; fits = c.fits }
  completes_at fs f (after_token p) os h k = ends fs f p os h k
  completes_at fs f (at_number None) os h k =
      let c = fills (tracks - 1) fs f (one (pos 0)) os h (omega arith) in
      record { more = number (pos 0) ∷ c.more; text = c.text; derives = c.derives; fits = c.fits }
  completes_at fs f (at_number (Some ns)) os h k =
      let l = length-append (list_of ns) (pos 0 ∷ []) in
      let c = fills (tracks - (length (list_of ns) + 1)) fs f (more ns (pos 0)) os h (omega (arith, l)) in
      record { more = number (pos 0) ∷ c.more; text = c.text; derives = c.derives; fits = c.fits }
  completes_at fs f (after_number ns) os h k = fills (tracks - length (list_of ns)) fs f ns os h (omega arith)

pub completes : (tracks : ℕ) (z : Zipper) → ZipperFits tracks z → Completed tracks z
completes tracks z h = completes_at tracks z.outer z.prefix z.position h.outer h.prefix h.position

-- Heads that are a word, a name and a quoted text.
use Rattle.std.proofs.Common.{◌≡◌, ℕ, true, List, [], ◌∷◌, get_or, refl, sym, ◌∙◌, ap, subst}
use Rattle.command_head.specs.Parts.{is_name, is_quoted, unquoted}
use Rattle.command_head.specs.Heads.{NamedHead}
use Rattle.command_head.specs.Grammar.{AreUnquoted, quoted, DerivesNamed}
use Rattle.command_head.proofs.PartShape.{quoted_is, is_quoted-part}
use Rattle.command_head.proofs.Forms.{Kind, This, AName, AText, Fit, IsForm}

abbrev pub named_kinds : List ℕ → List Kind
named_kinds word = This word ∷ AName ∷ AText ∷ []

-- parts that are a word, a name and a text in quotes
pub read_head : (word name body : List ℕ) → is_name name ≡ true → is_quoted body ≡ true → DerivesNamed word (word ∷ name ∷ body ∷ []) (record { name = name; body = unquoted body })
read_head word name body named q =
    let is = is_quoted-part body q in
    record { parts_are = ap (λ (l : List ℕ). word ∷ name ∷ l ∷ []) is.0; name = named; body = is.1 }

named_fits : (word : List ℕ) (parts : List (List ℕ)) (head : NamedHead) → DerivesNamed word parts head → Fit (named_kinds word) parts
named_fits word parts head s =
    subst (Fit (named_kinds word)) (sym s.parts_are) (refl, (s.name, ((quoted_is head.body s.body).test, tt)))

fits_named : (word : List ℕ) (parts : List (List ℕ)) → Fit (named_kinds word) parts → (head : NamedHead) × DerivesNamed word parts head
fits_named word [] fits = absurd fits
fits_named word (first ∷ []) fits = absurd fits.1
fits_named word (first ∷ name ∷ []) fits = absurd fits.1.1
fits_named word (first ∷ name ∷ body ∷ []) fits =
    (record { name = name; body = unquoted body }, subst (λ (l : List ℕ). DerivesNamed word (l ∷ name ∷ body ∷ []) (record { name = name; body = unquoted body })) (sym fits.0) (read_head word name body fits.1.0 fits.1.1.0))
fits_named word (first ∷ name ∷ body ∷ part ∷ parts) fits = absurd fits.1.1.1

pub named_form : (word : List ℕ) → IsForm (DerivesNamed word) (named_kinds word)
named_form word = record { reads = named_fits word; makes = fits_named word }

-- lists that are one have one second and third part
pub same_2 : (a b x y : List ℕ) (xs ys : List (List ℕ)) → a ∷ x ∷ xs ≡ b ∷ y ∷ ys → x ≡ y
same_2 a b x y xs ys e = ap (λ (l : List (List ℕ)). get_or l 1 []) e

pub same_3 : (a b c d x y : List ℕ) (xs ys : List (List ℕ)) → a ∷ c ∷ x ∷ xs ≡ b ∷ d ∷ y ∷ ys → x ≡ y
same_3 a b c d x y xs ys e = ap (λ (l : List (List ℕ)). get_or l 2 []) e

-- texts in quotes that are one have one text in them
pub same_body : (a b : List ℕ) → AreUnquoted a → AreUnquoted b → quoted a ≡ quoted b → a ≡ b
same_body a b all all' e = sym (quoted_is a all).inside ∙ ap unquoted e ∙ (quoted_is b all').inside

-- parts derive from at most one such head
pub one_named : (word : List ℕ) (parts : List (List ℕ)) (head other : NamedHead) → DerivesNamed word parts head → DerivesNamed word parts other → head ≡ other
one_named word parts head other a b =
    let same = sym a.parts_are ∙ b.parts_are in
    let names = same_2 word word head.name other.name _ _ same in
    let bodies = same_body head.body other.body a.body b.body (same_3 word word head.name other.name (quoted head.body) (quoted other.body) _ _ same) in
    ap (λ (n : List ℕ). record { name = n; body = head.body }) names ∙ ap (λ (l : List ℕ). record { name = other.name; body = l }) bodies

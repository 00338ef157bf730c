-- Heads of a word and a name.
use Rattle.std.proofs.Common.{◌≡◌, ◌≢◌, ℕ, true, List, [], ◌∷◌, Result, Ok, Err, MatchResult, get_or, refl, sym, ◌∙◌, ap, subst, codes}
use Rattle.command_head.specs.Parts.{parts_of, texts_of, is_name}
use Rattle.command_head.specs.Grammar.{DerivesName}
use Rattle.command_head.specs.declared.fault.HeadFault.{HeadFault}
use Rattle.command_head.specs.declared.fault.HeadFault.TheVariants.{Memory}
use Rattle.command_head.specs.Breaks.{HasHead}
use Rattle.command_head.proofs.Forms.{Kind, This, AName, Fit, IsForm}

abbrev pub name_kinds : List ℕ → List Kind
name_kinds word = This word ∷ AName ∷ []

pub name_read : (word name : List ℕ) → is_name name ≡ true → DerivesName word (word ∷ name ∷ []) name
name_read word name named = record { parts_are = refl; named = named }

name_fits : (word : List ℕ) (parts : List (List ℕ)) (name : List ℕ) → DerivesName word parts name → Fit (name_kinds word) parts
name_fits word parts name s = subst (Fit (name_kinds word)) (sym s.parts_are) (refl, (s.named, tt))

fits_name : (word : List ℕ) (parts : List (List ℕ)) → Fit (name_kinds word) parts → (name : List ℕ) × DerivesName word parts name
fits_name word [] fits = absurd fits
fits_name word (first ∷ []) fits = absurd fits.1
fits_name word (first ∷ name ∷ []) fits = (name, subst (λ (l : List ℕ). DerivesName word (l ∷ name ∷ []) name) (sym fits.0) (name_read word name fits.1.0))
fits_name word (first ∷ name ∷ part ∷ parts) fits = absurd fits.1.1

pub name_form : (word : List ℕ) → IsForm (DerivesName word) (name_kinds word)
name_form word = record { reads = name_fits word; makes = fits_name word }

-- parts derive from at most one such head
pub one_name : (word : List ℕ) (parts : List (List ℕ)) (name other : List ℕ) → DerivesName word parts name → DerivesName word parts other → name ≡ other
one_name word parts name other a b = ap (λ (l : List (List ℕ)). get_or l 1 []) (sym a.parts_are ∙ b.parts_are)

-- the name, or no memory for it
pub name_result : (word text name : List ℕ) (result : Result (List ℕ) HeadFault) → DerivesName word (texts_of (parts_of text)) name → MatchResult result (λ given. given ≡ name) (λ fault. fault ≡ Memory) → HasHead (DerivesName word) (λ given. given) text result
name_result word text name (Ok given) derives is = subst (λ (n : List ℕ). DerivesName word (texts_of (parts_of text)) n) (sym is) derives
name_result word text name (Err fault) derives is = subst (λ (f : HeadFault). HasHead (DerivesName word) (λ (n : List ℕ). n) text (Err f)) (sym is) tt

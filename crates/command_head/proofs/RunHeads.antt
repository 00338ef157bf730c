-- Heads of commands that load a file or end a run.
use Rattle.std.proofs.Common.{◌≡◌, ◌≢◌, ℕ, ◌-◌, Bool, List, [], ◌∷◌, length, Result, Ok, Err, MatchResult, get_or, refl, sym, ◌∙◌, ap, subst, codes}
use Rattle.command_head.specs.Parts.{parts_of, texts_of}
use Rattle.command_head.specs.Grammar.{NamesFile, DerivesLoad, DerivesAlone}
use Rattle.command_head.specs.declared.fault.HeadFault.{HeadFault}
use Rattle.command_head.specs.declared.fault.HeadFault.TheVariants.{Syntax, Memory}
use Rattle.command_head.specs.Breaks.{HasHead}
use Rattle.command_head.proofs.PartsRead.{IsRead, all_read}
use Rattle.command_head.proofs.FileNames.{one_file}
use Rattle.command_head.proofs.Forms.{Kind, This, AFile, Fit, IsForm, form_end}

abbrev pub load_kinds : List Kind
load_kinds = This (codes "load") ∷ AFile ∷ []

abbrev pub alone_kinds : List ℕ → List Kind
alone_kinds word = This word ∷ []

pub load_read : (part name : List ℕ) → NamesFile part name → DerivesLoad (codes "load" ∷ part ∷ []) name
load_read part name file = record { part = part; parts_are = refl; file = file }

load_fits : (parts : List (List ℕ)) (name : List ℕ) → DerivesLoad parts name → Fit load_kinds parts
load_fits parts name s = subst (Fit load_kinds) (sym s.parts_are) (refl, ((name, s.file), tt))

fits_load : (parts : List (List ℕ)) → Fit load_kinds parts → (name : List ℕ) × DerivesLoad parts name
fits_load [] fits = absurd fits
fits_load (first ∷ []) fits = absurd fits.1
fits_load (first ∷ part ∷ []) fits =
    (fits.1.0.0, subst (λ (l : List ℕ). DerivesLoad (l ∷ part ∷ []) fits.1.0.0) (sym fits.0) (load_read part fits.1.0.0 fits.1.0.1))
fits_load (first ∷ part ∷ more ∷ parts) fits = absurd fits.1.1

pub load_form : IsForm DerivesLoad load_kinds
load_form = record { reads = load_fits; makes = fits_load }

alone_fits : (word : List ℕ) (parts : List (List ℕ)) (done : Unit {0}) → DerivesAlone word parts done → Fit (alone_kinds word) parts
alone_fits word parts done is = subst (Fit (alone_kinds word)) (sym is) (refl, tt)

fits_alone : (word : List ℕ) (parts : List (List ℕ)) → Fit (alone_kinds word) parts → (done : Unit {0}) × DerivesAlone word parts done
fits_alone word [] fits = absurd fits
fits_alone word (first ∷ []) fits = (tt, ap (λ (l : List ℕ). l ∷ []) fits.0)
fits_alone word (first ∷ part ∷ parts) fits = absurd fits.1

pub alone_form : (word : List ℕ) → IsForm (DerivesAlone word) (alone_kinds word)
alone_form word = record { reads = alone_fits word; makes = fits_alone word }

-- parts derive from at most one `load`
pub one_load : (parts : List (List ℕ)) (name other : List ℕ) → DerivesLoad parts name → DerivesLoad parts other → name ≡ other
one_load parts name other a b =
    let same : b.part ≡ a.part = ap (λ (l : List (List ℕ)). get_or l 1 []) (sym b.parts_are ∙ a.parts_are) in
    one_file a.part name other a.file (subst (λ (l : List ℕ). NamesFile l other) same b.file)

pub one_alone : (word : List ℕ) (parts : List (List ℕ)) (done other : Unit {0}) → DerivesAlone word parts done → DerivesAlone word parts other → done ≡ other
one_alone word parts done other a b = refl

-- a word alone, or what comes after it
pub alone_result : (word text : List ℕ) (whole : ℕ) (blank : Bool) (rest : List ℕ) (result : Result (Unit {0}) HeadFault) → IsRead text (word ∷ []) whole blank rest
    → MatchResult result (λ done. rest ≡ []) (λ fault. (rest ≢ []) × (fault ≡ Syntax (whole - length rest))) → HasHead (DerivesAlone word) (λ done. done) text result
alone_result word text whole blank rest (Ok done) read end = all_read text (word ∷ []) whole blank rest read end
alone_result word text whole blank rest (Err fault) read (some, is) =
    subst (λ (f : HeadFault). HasHead (DerivesAlone word) (λ (done : Unit {0}). done) text (Err f)) (sym is) (form_end (DerivesAlone word) (alone_kinds word) text (word ∷ []) whole blank rest (alone_form word) (refl, tt) read some)

-- the name of a file, or no memory for it
pub load_result : (text name : List ℕ) (result : Result (List ℕ) HeadFault) → DerivesLoad (texts_of (parts_of text)) name → MatchResult result (λ given. given ≡ name) (λ fault. fault ≡ Memory) → HasHead DerivesLoad (λ given. given) text result
load_result text name (Ok given) derives is = subst (λ (n : List ℕ). DerivesLoad (texts_of (parts_of text)) n) (sym is) derives
load_result text name (Err fault) derives is = subst (λ (f : HeadFault). HasHead DerivesLoad (λ (n : List ℕ). n) text (Err f)) (sym is) tt

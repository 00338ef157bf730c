-- Heads of commands that make a word of a morphism or of another word.
use Rattle.std.proofs.Common.{◌≡◌, ℕ, true, List, [], ◌∷◌, get_or, refl, sym, ◌∙◌, ap, subst, codes}
use Rattle.text_grammar.specs.Systems.{is_system}
use Rattle.command_head.specs.Parts.{is_name, is_word}
use Rattle.command_head.specs.Heads.{PromoteHead, ImageHead, ConvertHead}
use Rattle.command_head.specs.Grammar.{DerivesPromote, DerivesImage, DerivesConvert}
use Rattle.command_head.proofs.Forms.{Kind, This, AName, AWord, ASystem, Fit, IsForm}

abbrev pub promote_kinds : List Kind
promote_kinds = This (codes "promote") ∷ AWord ∷ AName ∷ []

abbrev pub image_kinds : List ℕ → List Kind
image_kinds word = This word ∷ AWord ∷ AName ∷ AWord ∷ []

abbrev pub convert_kinds : List Kind
convert_kinds = This (codes "convert") ∷ AWord ∷ ASystem ∷ AWord ∷ []

pub promote_read : (word morphism : List ℕ) → is_word word ≡ true → is_name morphism ≡ true → DerivesPromote (codes "promote" ∷ word ∷ morphism ∷ []) (record { word = word; morphism = morphism })
promote_read word morphism is_word is_morphism = record { parts_are = refl; word = is_word; morphism = is_morphism }

pub image_read : (word new mapping old : List ℕ) → is_word new ≡ true → is_name mapping ≡ true → is_word old ≡ true →
    DerivesImage word (word ∷ new ∷ mapping ∷ old ∷ []) (record { word = new; mapping = mapping; old = old })
image_read word new mapping old is_new is_mapping is_old = record { parts_are = refl; new = is_new; mapping = is_mapping; old = is_old }

pub convert_read : (word system old : List ℕ) → is_word word ≡ true → is_system system ≡ true → is_word old ≡ true →
    DerivesConvert (codes "convert" ∷ word ∷ system ∷ old ∷ []) (record { word = word; system = system; old = old })
convert_read word system old is_new is_sys is_old = record { parts_are = refl; word = is_new; system = is_sys; old = is_old }

promote_fits : (parts : List (List ℕ)) (head : PromoteHead) → DerivesPromote parts head → Fit promote_kinds parts
promote_fits parts head s = subst (Fit promote_kinds) (sym s.parts_are) (refl, (s.word, (s.morphism, tt)))

fits_promote : (parts : List (List ℕ)) → Fit promote_kinds parts → (head : PromoteHead) × DerivesPromote parts head
fits_promote [] fits = absurd fits
fits_promote (first ∷ []) fits = absurd fits.1
fits_promote (first ∷ word ∷ []) fits = absurd fits.1.1
fits_promote (first ∷ word ∷ morphism ∷ []) fits =
    let head : PromoteHead = record { word = word; morphism = morphism } in
    (head, subst (λ (l : List ℕ). DerivesPromote (l ∷ word ∷ morphism ∷ []) head) (sym fits.0) (promote_read word morphism fits.1.0 fits.1.1.0))
fits_promote (first ∷ word ∷ morphism ∷ part ∷ parts) fits = absurd fits.1.1.1

pub promote_form : IsForm DerivesPromote promote_kinds
promote_form = record { reads = promote_fits; makes = fits_promote }

image_fits : (word : List ℕ) (parts : List (List ℕ)) (head : ImageHead) → DerivesImage word parts head → Fit (image_kinds word) parts
image_fits word parts head s = subst (Fit (image_kinds word)) (sym s.parts_are) (refl, (s.new, (s.mapping, (s.old, tt))))

fits_image : (word : List ℕ) (parts : List (List ℕ)) → Fit (image_kinds word) parts → (head : ImageHead) × DerivesImage word parts head
fits_image word [] fits = absurd fits
fits_image word (first ∷ []) fits = absurd fits.1
fits_image word (first ∷ new ∷ []) fits = absurd fits.1.1
fits_image word (first ∷ new ∷ mapping ∷ []) fits = absurd fits.1.1.1
fits_image word (first ∷ new ∷ mapping ∷ old ∷ []) fits =
    let head : ImageHead = record { word = new; mapping = mapping; old = old } in
    (head, subst (λ (l : List ℕ). DerivesImage word (l ∷ new ∷ mapping ∷ old ∷ []) head) (sym fits.0) (image_read word new mapping old fits.1.0 fits.1.1.0 fits.1.1.1.0))
fits_image word (first ∷ new ∷ mapping ∷ old ∷ part ∷ parts) fits = absurd fits.1.1.1.1

pub image_form : (word : List ℕ) → IsForm (DerivesImage word) (image_kinds word)
image_form word = record { reads = image_fits word; makes = fits_image word }

convert_fits : (parts : List (List ℕ)) (head : ConvertHead) → DerivesConvert parts head → Fit convert_kinds parts
convert_fits parts head s = subst (Fit convert_kinds) (sym s.parts_are) (refl, (s.word, (s.system, (s.old, tt))))

fits_convert : (parts : List (List ℕ)) → Fit convert_kinds parts → (head : ConvertHead) × DerivesConvert parts head
fits_convert [] fits = absurd fits
fits_convert (first ∷ []) fits = absurd fits.1
fits_convert (first ∷ word ∷ []) fits = absurd fits.1.1
fits_convert (first ∷ word ∷ system ∷ []) fits = absurd fits.1.1.1
fits_convert (first ∷ word ∷ system ∷ old ∷ []) fits =
    let head : ConvertHead = record { word = word; system = system; old = old } in
    (head, subst (λ (l : List ℕ). DerivesConvert (l ∷ word ∷ system ∷ old ∷ []) head) (sym fits.0) (convert_read word system old fits.1.0 fits.1.1.0 fits.1.1.1.0))
fits_convert (first ∷ word ∷ system ∷ old ∷ part ∷ parts) fits = absurd fits.1.1.1.1

pub convert_form : IsForm DerivesConvert convert_kinds
convert_form = record { reads = convert_fits; makes = fits_convert }

-- parts derive from at most one `promote`
pub one_promote : (parts : List (List ℕ)) (head other : PromoteHead) → DerivesPromote parts head → DerivesPromote parts other → head ≡ other
one_promote parts head other a b =
    let same = sym a.parts_are ∙ b.parts_are in
    ap (λ (l : List (List ℕ)). record { word = get_or l 1 []; morphism = get_or l 2 [] }) same

-- parts derive from at most one head that maps a word
pub one_image : (word : List ℕ) (parts : List (List ℕ)) (head other : ImageHead) → DerivesImage word parts head → DerivesImage word parts other → head ≡ other
one_image word parts head other a b =
    let same = sym a.parts_are ∙ b.parts_are in
    ap (λ (l : List (List ℕ)). record { word = get_or l 1 []; mapping = get_or l 2 []; old = get_or l 3 [] }) same

-- parts derive from at most one `convert`
pub one_convert : (parts : List (List ℕ)) (head other : ConvertHead) → DerivesConvert parts head → DerivesConvert parts other → head ≡ other
one_convert parts head other a b =
    let same = sym a.parts_are ∙ b.parts_are in
    ap (λ (l : List (List ℕ)). record { word = get_or l 1 []; system = get_or l 2 []; old = get_or l 3 [] }) same

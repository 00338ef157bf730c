-- Heads with a fixed number of parts, each of a kind.
use Rattle.std.proofs.Common.{◌≡◌, ◌≢◌, ℕ, ◌-◌, Bool, true, false, List, [], ◌∷◌, ◌++◌, length, take, map, refl, sym, ◌∙◌, ap, codes, subst, inl}
use Rattle.std.proofs.lemmas.List.{append-nil}
use Rattle.std.proofs.lemmas.Bool.{false≢true}
use Rattle.text_grammar.specs.Systems.{is_system}
use Rattle.command_head.specs.Parts.{first_word_of, first_in, number_place, is_name, is_word, is_quoted}
use Rattle.command_head.specs.Grammar.{NamesFile, quoted}
use Rattle.command_head.specs.Breaks.{IsSyntaxAt}
use Rattle.command_head.proofs.PartShape.{word_name}
use Rattle.command_head.proofs.ValuedParts.{numbered_name, numbered_quoted, numbered_system}
use Rattle.command_head.proofs.FileNames.{numbered_file}
use Rattle.command_head.proofs.PartsRead.{IsRead}
use Rattle.command_head.proofs.Expecting.{Expects, IsLong, refused_syntax, left_syntax, word_syntax}

pub data Kind : Type 0 where
  -- this word
  This : List ℕ → Kind
  AName : Kind
  AWord : Kind
  ASystem : Kind
  -- a text in quotes
  AText : Kind
  -- a name of a file
  AFile : Kind

abbrev pub Takes : Kind → List ℕ → Type 0
Takes (This bytes) part = part ≡ bytes
Takes AName part = is_name part ≡ true
Takes AWord part = is_word part ≡ true
Takes ASystem part = is_system part ≡ true
Takes AText part = is_quoted part ≡ true
Takes AFile part = (name : List ℕ) × NamesFile part name

-- parts of these kinds
abbrev pub Fit : List Kind → List (List ℕ) → Type 0
Fit [] [] = Unit {0}
Fit [] (part ∷ parts) = ⊥
Fit (kind ∷ kinds) [] = ⊥
Fit (kind ∷ kinds) (part ∷ parts) = Takes kind part × Fit kinds parts

-- the heads of a grammar are just the parts of these kinds
pub record IsForm {H : Type 0} (grammar : List (List ℕ) → H → Type 0) (kinds : List Kind) : Type 0 where
  pub reads : (parts : List (List ℕ)) (head : H) → grammar parts head → Fit kinds parts
  pub makes : (parts : List (List ℕ)) → Fit kinds parts → (head : H) × grammar parts head

abbrev example : Kind → List ℕ
example (This bytes) = bytes
example AName = codes "a"
example AWord = codes "a"
example ASystem = codes "msd_2"
example AText = quoted []
example AFile = codes "a"

example_fits : (kind : Kind) → Takes kind (example kind)
unfolding is_system
example_fits (This bytes) = refl
example_fits AName = refl
example_fits AWord = refl
example_fits ASystem = refl
example_fits AText = refl
example_fits AFile = (codes "a", record { named = refl; part_is = inl refl })

examples_fit : (kinds : List Kind) → Fit kinds (map example kinds)
examples_fit [] = tt
examples_fit (kind ∷ kinds) = (example_fits kind, examples_fit kinds)

fit_append : (kinds more : List Kind) (prefix parts : List (List ℕ)) → Fit kinds prefix → Fit more parts → Fit (kinds ++ more) (prefix ++ parts)
fit_append [] more [] parts fits others = others
fit_append [] more (part ∷ prefix) parts fits others = absurd fits
fit_append (kind ∷ kinds) more [] parts fits others = absurd fits
fit_append (kind ∷ kinds) more (part ∷ prefix) parts fits others = (fits.0, fit_append kinds more prefix parts fits.1 others)

fit_part : (kinds : List Kind) (kind : Kind) (more : List Kind) (prefix : List (List ℕ)) (part : List ℕ) (parts : List (List ℕ)) → Fit kinds prefix → Fit (kinds ++ kind ∷ more) ((prefix ++ part ∷ []) ++ parts) → Takes kind part
fit_part [] kind more [] part parts fits all = all.0
fit_part [] kind more (first ∷ prefix) part parts fits all = absurd fits
fit_part (first_kind ∷ kinds) kind more [] part parts fits all = absurd fits
fit_part (first_kind ∷ kinds) kind more (first ∷ prefix) part parts fits all = fit_part kinds kind more prefix part parts fits.1 all.1

fit_end : (kinds : List Kind) (prefix : List (List ℕ)) (part : List ℕ) (parts : List (List ℕ)) → Fit kinds prefix → Fit kinds ((prefix ++ part ∷ []) ++ parts) → ⊥
fit_end [] [] part parts fits all = all
fit_end [] (first ∷ prefix) part parts fits all = fits
fit_end (kind ∷ kinds) [] part parts fits all = fits
fit_end (kind ∷ kinds) (first ∷ prefix) part parts fits all = fit_end kinds prefix part parts fits.1 all.1

fit_unended : (kinds : List Kind) (kind : Kind) (more : List Kind) (prefix : List (List ℕ)) → Fit kinds prefix → Fit (kinds ++ kind ∷ more) prefix → ⊥
fit_unended [] kind more [] fits all = all
fit_unended [] kind more (first ∷ prefix) fits all = fits
fit_unended (first_kind ∷ kinds) kind more [] fits all = fits
fit_unended (first_kind ∷ kinds) kind more (first ∷ prefix) fits all = fit_unended kinds kind more prefix fits.1 all.1

-- a kind that no part with a number is of
abbrev pub Plain : Kind → Type 0
Plain (This bytes) = is_name bytes ≡ true
Plain AName = Unit {0}
Plain AWord = Unit {0}
Plain ASystem = Unit {0}
Plain AText = Unit {0}
Plain AFile = Unit {0}

plain_long : (kind : Kind) (part : List ℕ) → Plain kind → IsLong (Takes kind) part → ⊥
plain_long (This bytes) part named long = numbered_name part long.other long.other_number (subst (λ (l : List ℕ). is_name l ≡ true) (sym long.taken) named)
plain_long AName part plain long = numbered_name part long.other long.other_number long.taken
plain_long AWord part plain long = numbered_name part long.other long.other_number (word_name (take (number_place part) part ++ long.other) long.taken)
plain_long ASystem part plain long = numbered_system part long.other long.other_number long.taken
plain_long AText part plain long = numbered_quoted part long.other long.other_number long.taken
plain_long AFile part plain long = numbered_file part long.other long.other_number long.taken.0 long.taken.1

module _ {H : Type 0} (grammar : List (List ℕ) → H → Type 0) (kinds : List Kind) (kind : Kind) (more : List Kind) (form : IsForm grammar (kinds ++ kind ∷ more)) (prefix : List (List ℕ)) (fits : Fit kinds prefix) where
  form_expects : Expects grammar prefix (Takes kind)
  form_expects =
      let others = map example (kind ∷ more) in
      let made = form.makes (prefix ++ others) (fit_append kinds (kind ∷ more) prefix others fits (examples_fit (kind ∷ more))) in
      record {
        goes_on = (others, made.0, made.1);
        only = λ part begins. fit_part kinds kind more prefix part begins.0 fits (form.reads ((prefix ++ part ∷ []) ++ begins.0) begins.1 begins.2);
      }

  form_unended : (head : H) → grammar prefix head → ⊥
  form_unended head derives = fit_unended kinds kind more prefix fits (form.reads prefix head derives)

-- a test that fails, and one that the empty part fails
pub refuted : (t : Bool) → t ≡ false → t ≡ true → ⊥
refuted t fails holds = false≢true (sym fails ∙ holds)

pub not_empty : (test : List ℕ → Bool) (part : List ℕ) → test [] ≡ false → test part ≡ true → part ≢ []
not_empty test part fails holds e = false≢true (sym fails ∙ ap test (sym e) ∙ holds)

-- the first word is another one
pub form_word : {H : Type 0} (grammar : List (List ℕ) → H → Type 0) (word : List ℕ) (more : List Kind) (text : List ℕ) → IsForm grammar (This word ∷ more) → is_name word ≡ true → first_word_of text ≢ word → IsSyntaxAt grammar text 0
form_word grammar word more text form named other =
    word_syntax grammar (Takes (This word)) text (form_expects grammar [] (This word) more form [] tt) other (plain_long (This word) (first_word_of text) named)

-- a part of another kind, or none
pub form_part : {H : Type 0} (grammar : List (List ℕ) → H → Type 0) (kinds : List Kind) (kind : Kind) (more : List Kind) (text : List ℕ) (prefix : List (List ℕ)) (whole : ℕ) (blank : Bool) (rest part : List ℕ) (at : ℕ) →
    IsForm grammar (kinds ++ kind ∷ more) → Plain kind → Fit kinds prefix → IsRead text prefix whole blank rest → at ≡ whole - length rest → part ≡ first_in blank rest → (Takes kind part → ⊥) → IsSyntaxAt grammar text at
form_part grammar kinds kind more text prefix whole blank rest part at form plain fits read at_is part_is refused =
    refused_syntax grammar prefix (Takes kind) text whole blank rest part at (form_expects grammar kinds kind more form prefix fits) (λ none. form_unended grammar kinds kind more form prefix fits) read at_is part_is refused (plain_long kind part plain)

-- a part too many
pub form_end : {H : Type 0} (grammar : List (List ℕ) → H → Type 0) (kinds : List Kind) (text : List ℕ) (prefix : List (List ℕ)) (whole : ℕ) (blank : Bool) (rest : List ℕ) → IsForm grammar kinds → Fit kinds prefix →
    IsRead text prefix whole blank rest → rest ≢ [] → IsSyntaxAt grammar text (whole - length rest)
form_end grammar kinds text prefix whole blank rest form fits read some =
    let made = form.makes prefix fits in
    left_syntax grammar prefix text whole blank rest record {
      goes_on = ([], made.0, subst (λ (l : List (List ℕ)). grammar l made.0) (sym (append-nil prefix)) made.1);
      only = λ part begins. fit_end kinds prefix part begins.0 fits (form.reads ((prefix ++ part ∷ []) ++ begins.0) begins.1 begins.2);
    } read some

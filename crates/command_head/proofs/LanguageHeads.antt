-- Heads of commands that make a language of others: a word, a name, and one or more names.
use Rattle.std.proofs.Common.{◌≡◌, ◌≢◌, ℕ, true, List, [], ◌∷◌, ◌++◌, get_or, drop, refl, sym, ◌∙◌, ap, subst, codes}
use Rattle.std.specs.List.{AllByRecursion}
use Rattle.command_head.specs.Parts.{is_name}
use Rattle.command_head.specs.Heads.{LanguagesHead}
use Rattle.command_head.specs.Grammar.{DerivesLanguages, DerivesLanguage}
use Rattle.command_head.proofs.ValuedParts.{numbered_name}
use Rattle.command_head.proofs.Expecting.{Expects, IsLong}
use Rattle.command_head.proofs.Forms.{Kind, This, AName, Fit, IsForm}

abbrev pub language_kinds : List ℕ → List Kind
language_kinds word = This word ∷ AName ∷ AName ∷ []

pub language_read : (word name language : List ℕ) → is_name name ≡ true → is_name language ≡ true → DerivesLanguage word (word ∷ name ∷ language ∷ []) (record { name = name; languages = language ∷ [] })
language_read word name language named is = record { language = language; parts_are = refl; name = named; is_named = is; one = refl }

language_fits : (word : List ℕ) (parts : List (List ℕ)) (head : LanguagesHead) → DerivesLanguage word parts head → Fit (language_kinds word) parts
language_fits word parts head s = subst (Fit (language_kinds word)) (sym s.parts_are) (refl, (s.name, (s.is_named, tt)))

fits_language : (word : List ℕ) (parts : List (List ℕ)) → Fit (language_kinds word) parts → (head : LanguagesHead) × DerivesLanguage word parts head
fits_language word [] fits = absurd fits
fits_language word (first ∷ []) fits = absurd fits.1
fits_language word (first ∷ name ∷ []) fits = absurd fits.1.1
fits_language word (first ∷ name ∷ language ∷ []) fits =
    let head : LanguagesHead = record { name = name; languages = language ∷ [] } in
    (head, subst (λ (l : List ℕ). DerivesLanguage word (l ∷ name ∷ language ∷ []) head) (sym fits.0) (language_read word name language fits.1.0 fits.1.1.0))
fits_language word (first ∷ name ∷ language ∷ part ∷ parts) fits = absurd fits.1.1.1

pub language_form : (word : List ℕ) → IsForm (DerivesLanguage word) (language_kinds word)
language_form word = record { reads = language_fits word; makes = fits_language word }

-- parts derive from at most one such head
pub one_language : (word : List ℕ) (parts : List (List ℕ)) (head other : LanguagesHead) → DerivesLanguage word parts head → DerivesLanguage word parts other → head ≡ other
one_language word parts head other a b =
    let same = sym a.parts_are ∙ b.parts_are in
    let names : head.name ≡ other.name = ap (λ (l : List (List ℕ)). get_or l 1 []) same in
    let languages : head.languages ≡ other.languages = a.one ∙ ap (λ (l : List (List ℕ)). get_or l 2 [] ∷ []) same ∙ sym b.one in
    ap (λ (n : List ℕ). record { name = n; languages = head.languages }) names ∙ ap (λ (l : List (List ℕ)). record { name = other.name; languages = l }) languages

pub one_languages : (word : List ℕ) (parts : List (List ℕ)) (head other : LanguagesHead) → DerivesLanguages word parts head → DerivesLanguages word parts other → head ≡ other
one_languages word parts head other a b =
    let same = sym a.parts_are ∙ b.parts_are in
    ap (λ (l : List (List ℕ)). record { name = get_or l 1 []; languages = drop 2 l }) same

-- parts that are names
abbrev pub AreNames : List (List ℕ) → Type 0
AreNames items = AllByRecursion (λ item. is_name item ≡ true) items

pub names_append : (items : List (List ℕ)) (part : List ℕ) → AreNames items → is_name part ≡ true → AreNames (items ++ part ∷ [])
names_append [] part each named = (named, tt)
names_append (item ∷ items) part each named = (each.0, names_append items part each.1 named)

-- a part among parts that are names
name_among : (items : List (List ℕ)) (part : List ℕ) (more : List (List ℕ)) → AreNames ((items ++ part ∷ []) ++ more) → is_name part ≡ true
name_among [] part more each = each.0
name_among (item ∷ items) part more each = name_among items part more each.1

some_append : (items : List (List ℕ)) (part : List ℕ) → items ++ part ∷ [] ≢ []
some_append [] part e = cc
some_append (item ∷ items) part e = cc

pub languages_read : (word name : List ℕ) (items : List (List ℕ)) → is_name name ≡ true → items ≢ [] → AreNames items → DerivesLanguages word (word ∷ name ∷ items) (record { name = name; languages = items })
languages_read word name items named some each = record { parts_are = refl; name = named; some = some; each = each }

-- what a head expects, part by part
pub first_expects : (word : List ℕ) → Expects (DerivesLanguages word) [] (λ part. part ≡ word)
first_expects word = record {
  goes_on = (word ∷ codes "a" ∷ codes "a" ∷ [], record { name = codes "a"; languages = codes "a" ∷ [] }, languages_read word (codes "a") (codes "a" ∷ []) refl (λ e. cc) (refl, tt));
  only = λ part begins. ap (λ (l : List (List ℕ)). get_or l 0 []) begins.2.parts_are;
}

pub name_expects : (word : List ℕ) → Expects (DerivesLanguages word) (word ∷ []) (λ part. is_name part ≡ true)
name_expects word = record {
  goes_on = (codes "a" ∷ codes "a" ∷ [], record { name = codes "a"; languages = codes "a" ∷ [] }, languages_read word (codes "a") (codes "a" ∷ []) refl (λ e. cc) (refl, tt));
  only = λ part begins. ap is_name (ap (λ (l : List (List ℕ)). get_or l 1 []) begins.2.parts_are) ∙ begins.2.name;
}

after_two : (a b x y : List ℕ) (xs ys : List (List ℕ)) → a ∷ b ∷ xs ≡ x ∷ y ∷ ys → xs ≡ ys
after_two a b x y xs ys e = ap (λ (l : List (List ℕ)). drop 2 l) e

pub more_expects : (word name : List ℕ) (items : List (List ℕ)) → is_name name ≡ true → AreNames items → Expects (DerivesLanguages word) (word ∷ name ∷ items) (λ part. is_name part ≡ true)
more_expects word name items named each = record {
  goes_on = (
    codes "a" ∷ [],
    record { name = name; languages = items ++ codes "a" ∷ [] },
    languages_read word name (items ++ codes "a" ∷ []) named (some_append items (codes "a")) (names_append items (codes "a") each refl),
  );
  only = λ part begins.
      let same = after_two word name word begins.1.name ((items ++ part ∷ []) ++ begins.0) begins.1.languages begins.2.parts_are in
      name_among items part begins.0 (subst AreNames (sym same) begins.2.each);
}

-- a word alone is no head, and neither is a word with one name
pub word_unended : (word : List ℕ) (head : LanguagesHead) → DerivesLanguages word (word ∷ []) head → ⊥
word_unended word head s = no_second (ap (λ (l : List (List ℕ)). drop 1 l) s.parts_are)
  where
    no_second : [] ≡ head.name ∷ head.languages → ⊥
    no_second e = cc

pub none_unended : (word name : List ℕ) (head : LanguagesHead) → DerivesLanguages word (word ∷ name ∷ []) head → ⊥
none_unended word name head s = s.some (sym (after_two word name word head.name [] head.languages s.parts_are))

-- a number instead of the first word or of a name
pub first_long : (word part : List ℕ) → is_name word ≡ true → IsLong (λ (l : List ℕ). l ≡ word) part → ⊥
first_long word part named long = numbered_name part long.other long.other_number (ap is_name long.taken ∙ named)

pub name_long : (part : List ℕ) → IsLong (λ (l : List ℕ). is_name l ≡ true) part → ⊥
name_long part long = numbered_name part long.other long.other_number long.taken

-- What is read stage after stage, the grammar derives.
use Rattle.std.proofs.Common.{◌≡◌, List, [], ◌∷◌, ◌++◌, Option, None, Some, refl, sym, ◌∙◌, ap, subst, ℤ, append_assoc, append-nil}
use Rattle.std.specs.Prelude.{◌≢◌, ⊤}
use Rattle.std.specs.List.{AllByRecursion, flat_map, join_by}
use Rattle.std.proofs.lemmas.List.Concat.{flat_map-append}
use Rattle.place_text.specs.declared.lexeme.Lexeme.{Lexeme}
use Rattle.place_text.specs.declared.lexeme.Lexeme.TheVariants.{Open, Close, Comma, Number}
use Rattle.place_text.specs.Grammar.{letter_lexemes, Derives}
use Rattle.place_text.specs.Stages.{Stage, AtStart, AtFirst, AtLetter, AfterDigit, AfterComma, AfterLetter, AfterEmpty, step, ended}
use Rattle.place_text.proofs.Walks.{from, reach}
use Rattle.place_text.proofs.Complete.{further_digits}

abbrev digits_lexemes : List ℤ → List Lexeme
digits_lexemes digits = join_by (λ digit. Number digit ∷ []) (Comma ∷ []) digits

abbrev letters_lexemes : List (List ℤ) → List Lexeme
letters_lexemes letters = flat_map letter_lexemes letters

abbrev AllSome : List (List ℤ) → Type 0
AllSome letters = AllByRecursion (λ letter. letter ≢ []) letters

-- what was read at a stage
abbrev read_at : Stage → List Lexeme
read_at AtStart = []
read_at AtFirst = Open ∷ []
read_at (AtLetter letters) = letters_lexemes letters ++ Open ∷ []
read_at (AfterDigit letters digits) = letters_lexemes letters ++ Open ∷ digits_lexemes digits
read_at (AfterComma letters digits) = letters_lexemes letters ++ Open ∷ (digits_lexemes digits ++ Comma ∷ [])
read_at (AfterLetter letters) = letters_lexemes letters
read_at AfterEmpty = Open ∷ Close ∷ []

-- there are letters and digits where some were read
abbrev IsSound : Stage → Type 0
IsSound AtStart = ⊤
IsSound AtFirst = ⊤
IsSound (AtLetter letters) = AllSome letters × (letters ≢ [])
IsSound (AfterDigit letters digits) = AllSome letters × (digits ≢ [])
IsSound (AfterComma letters digits) = AllSome letters × (digits ≢ [])
IsSound (AfterLetter letters) = AllSome letters × (letters ≢ [])
IsSound AfterEmpty = ⊤

record Extends (stage : Stage) (t : Lexeme) (further : Stage) : Type 0 where
  sound : IsSound further
  read : read_at further ≡ read_at stage ++ t ∷ []

abbrev Leads : Stage → Lexeme → Option Stage → Type 0
Leads stage t None = ⊤
Leads stage t (Some further) = Extends stage t further

pushed_some : {X : Type 0} (xs : List X) (x : X) → xs ++ x ∷ [] ≢ []
pushed_some [] x e = cc
pushed_some (y ∷ xs) x e = cc

all_push : (letters : List (List ℤ)) (letter : List ℤ) → AllSome letters → letter ≢ [] → AllSome (letters ++ letter ∷ [])
all_push [] letter all some = (some, tt)
all_push (l ∷ letters) letter all some = (all.0, all_push letters letter all.1 some)

-- one digit more
digits_push : (digits : List ℤ) (d : ℤ) → digits ≢ [] → digits_lexemes (digits ++ d ∷ []) ≡ (digits_lexemes digits ++ Comma ∷ []) ++ Number d ∷ []
digits_push [] d some = absurd (some refl)
digits_push (first ∷ digits) d some =
    ap (λ (ts : List Lexeme). Number first ∷ ts) (flat_map-append (λ digit. Comma ∷ Number digit ∷ []) digits (d ∷ []) ∙ sym (append_assoc (further_digits digits) (Comma ∷ []) (Number d ∷ [])))

-- one letter more
letters_push : (letters : List (List ℤ)) (letter : List ℤ) → letters_lexemes (letters ++ letter ∷ []) ≡ (letters_lexemes letters ++ Open ∷ digits_lexemes letter) ++ Close ∷ []
letters_push letters letter =
    flat_map-append letter_lexemes letters (letter ∷ [])
    ∙ (ap (λ (ts : List Lexeme). letters_lexemes letters ++ ts) (append-nil (letter_lexemes letter))
    ∙ sym (append_assoc (letters_lexemes letters) (Open ∷ digits_lexemes letter) (Close ∷ [])))

leads : (stage : Stage) (t : Lexeme) → IsSound stage → Leads stage t (step stage t)
leads AtStart Open h = record { sound = tt; read = refl }
leads AtStart _ h = tt
leads AtFirst Close h = record { sound = tt; read = refl }
leads AtFirst (Number d) h = record { sound = (tt, λ e. cc); read = refl }
leads AtFirst _ h = tt
leads (AtLetter letters) (Number d) h = record { sound = (h.0, λ e. cc); read = sym (append_assoc (letters_lexemes letters) (Open ∷ []) (Number d ∷ [])) }
leads (AtLetter letters) _ h = tt
leads (AfterDigit letters digits) Comma h = record { sound = h; read = sym (append_assoc (letters_lexemes letters) (Open ∷ digits_lexemes digits) (Comma ∷ [])) }
leads (AfterDigit letters digits) Close h = record { sound = (all_push letters digits h.0 h.1, pushed_some letters digits); read = letters_push letters digits }
leads (AfterDigit letters digits) _ h = tt
leads (AfterComma letters digits) (Number d) h = record {
  sound = (h.0, pushed_some digits d);
  read =
      ap (λ (ts : List Lexeme). letters_lexemes letters ++ Open ∷ ts) (digits_push digits d h.1)
      ∙ sym (append_assoc (letters_lexemes letters) (Open ∷ (digits_lexemes digits ++ Comma ∷ [])) (Number d ∷ []));
}
leads (AfterComma letters digits) _ h = tt
leads (AfterLetter letters) Open h = record { sound = h; read = refl }
leads (AfterLetter letters) _ h = tt
leads AfterEmpty _ h = tt

-- where a text may end
whole : (stage : Stage) (letters : List (List ℤ)) → IsSound stage → ended stage ≡ Some letters → Derives (read_at stage) letters
whole AtStart letters h e = absurd cc
whole AtFirst letters h e = absurd cc
whole (AtLetter ls) letters h e = absurd cc
whole (AfterDigit ls ds) letters h e = absurd cc
whole (AfterComma ls ds) letters h e = absurd cc
whole (AfterLetter []) letters h e = absurd (h.1 refl)
whole (AfterLetter (l ∷ ls)) letters h e =
    let same : l ∷ ls ≡ letters = cc in
    subst (λ (x : List (List ℤ)). Derives (letters_lexemes (l ∷ ls)) x) same (record { some = h.0; derives = refl })
whole AfterEmpty letters h e =
    let same : [] ≡ letters = cc in
    subst (λ (x : List (List ℤ)). Derives (Open ∷ Close ∷ []) x) same (record { some = tt; derives = refl })

read_derived : (ts : List Lexeme) (stage : Stage) (letters : List (List ℤ)) → IsSound stage → from (reach ts stage) ended ≡ Some letters → Derives (read_at stage ++ ts) letters
read_derived [] stage letters h e = subst (λ (w : List Lexeme). Derives w letters) (sym (append-nil (read_at stage))) (whole stage letters h e)
read_derived (t ∷ ts) stage letters h e = by_step (step stage t) (leads stage t h) e (λ next o k. read_derived ts next letters o k)
  where
    by_step : (o : Option Stage) → Leads stage t o → from (from o (λ n. reach ts n)) ended ≡ Some letters → ((next : Stage) → IsSound next → from (reach ts next) ended ≡ Some letters → Derives (read_at next ++ ts) letters) → Derives (read_at stage ++ t ∷ ts) letters
    by_step None l k rest = absurd cc
    by_step (Some next) l k rest =
        subst (λ (w : List Lexeme). Derives w letters) (ap (λ (w : List Lexeme). w ++ ts) l.read ∙ append_assoc (read_at stage) (t ∷ []) ts)
        (rest next l.sound k)

pub derived : (ts : List Lexeme) (letters : List (List ℤ)) → from (reach ts AtStart) ended ≡ Some letters → Derives ts letters
derived ts letters h = read_derived ts AtStart letters tt h

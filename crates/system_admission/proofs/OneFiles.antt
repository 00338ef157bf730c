-- The files of a name are one, or are not there for one reason.
use Rattle.std.proofs.Common.{◌≡◌, ℕ, ◌<◌, ◌≤◌, inl, inr, List, [], ◌∷◌, get_or, length, ℤ, Option, None, Some, Result, Ok, Err, refl, sym, ap, ◌∙◌, subst, arith}
use Rattle.digit_tuple.specs.Systems.{digit_set}
use Rattle.digit_tuple.specs.declared.direction.Direction.{Direction}
use Rattle.digit_tuple.proofs.SystemLemmas.{length-digit_set}
use Rattle.dfa_loading.specs.declared.fault.FileFlaw.{FileFlaw}
use Rattle.dfa_loading.specs.declared.fault.FileFlaw.TheVariants.{Line, TooLong}
use Rattle.dfa_loading.specs.declared.fault.LoadFault.{LoadFault}
use Rattle.dfa_loading.specs.declared.fault.LoadFault.TheVariants as faults
use Rattle.dfa_reading.specs.Headers.{Header, Truth, Systems, Sets}
use Rattle.dfa_reading.specs.Listed.{Listed}
use Rattle.dfa_reading.specs.SystemFiles.{language_of, adder_of}
use Rattle.system_names.specs.UserNames.{adder_name}
use Rattle.wal_outside.specs.declared.store.TheConstants.{TEXT_LIMIT}
use Rattle.system_files.specs.SystemFiles.{Custom, SystemFiles, IsLanguageAt, IsAdderAt, AreFilesOf, HasLanguage, IsNoLanguage, IsNoAdder, IsMissing, IsFlawed, RefusesFiles, taken_name}

-- the sets of a header
abbrev sets_in : Header → List (List ℤ)
sets_in (Truth value) = []
sets_in (Systems names) = []
sets_in (Sets sets) = sets

one_text : (o : Option (List ℕ)) (text other : List ℕ) → o ≡ Some text → o ≡ Some other → text ≡ other
one_text o text other one also = let same : Some text ≡ Some other = sym one ∙ also in cc

no_text : (o : Option (List ℕ)) (text : List ℕ) → o ≡ None → o ≡ Some text → ⊥
no_text o text none there = let same : None ≡ Some text = sym none ∙ there in cc

one_list : (r : Result Listed ℕ) (l m : Listed) → r ≡ Ok l → r ≡ Ok m → l ≡ m
one_list r l m one other = let P : Result Listed ℕ → Listed = λ x. listed_in l x in sym (ap P one) ∙ ap P other
  where
    listed_in : Listed → Result Listed ℕ → Listed
    listed_in d (Ok x) = x
    listed_in d (Err at) = d

one_digits : (d e : ℕ) (header : Header) → header ≡ Sets (digit_set d ∷ []) → header ≡ Sets (digit_set e ∷ []) → d ≡ e
one_digits d e header one other =
    let same : length (get_or (sets_in header) 0 []) ≡ length (digit_set d) = ap (λ (h : Header). length (get_or (sets_in h) 0 [])) one in
    let also : length (get_or (sets_in header) 0 []) ≡ length (digit_set e) = ap (λ (h : Header). length (get_or (sets_in h) 0 [])) other in
    sym (length-digit_set d) ∙ sym same ∙ also ∙ length-digit_set e

language_one : (custom : Custom) (name : List ℕ) (d e : ℕ) (l m : Listed) → IsLanguageAt custom name d l → IsLanguageAt custom name e m → (d ≡ e) × (l ≡ m)
language_one custom name d e l m one other =
    let text : one.text ≡ other.text = one_text (custom name) one.text other.text one.there other.there in
    let listed : l ≡ m = one_list (language_of other.text) l m (ap language_of (sym text) ∙ one.lists) other.lists in
    (one_digits d e m.header (ap (λ (x : Listed). x.header) (sym listed) ∙ one.header) other.header, listed)

adder_one : (custom : Custom) (name : List ℕ) (d : ℕ) (l m : Listed) → IsAdderAt custom name d l → IsAdderAt custom name d m → l ≡ m
adder_one custom name d l m one other =
    let text : one.text ≡ other.text = one_text (custom name) one.text other.text one.there other.there in
    one_list (adder_of d other.text) l m (ap (adder_of d) (sym text) ∙ one.lists) other.lists

-- a text that lists nothing has one flaw, and one that lists something none
abbrev IsFlawOf : Result Listed ℕ → List ℕ → FileFlaw → Type 0
IsFlawOf reads text (Line at) = (length text ≤ TEXT_LIMIT) × (reads ≡ Err at)
IsFlawOf reads text TooLong = TEXT_LIMIT < length text

language_flaw : (text : List ℕ) (flaw : FileFlaw) → IsNoLanguage text flaw → IsFlawOf (language_of text) text flaw
language_flaw text (Line at) is = is
language_flaw text TooLong is = is

adder_flaw : (digits : ℕ) (text : List ℕ) (flaw : FileFlaw) → IsNoAdder digits text flaw → IsFlawOf (adder_of digits text) text flaw
adder_flaw digits text (Line at) is = is
adder_flaw digits text TooLong is = is

too_long : (m n : ℕ) → m ≤ n → n < m → ⊥
too_long m n short long = omega (arith, short, long)

no_flaw : (reads : Result Listed ℕ) (text : List ℕ) (flaw : FileFlaw) (l : Listed) → IsFlawOf reads text flaw → length text ≤ TEXT_LIMIT → reads ≡ Ok l → ⊥
no_flaw reads text (Line at) l is short lists = let same : Ok l ≡ Err at = sym lists ∙ is.1 in cc
no_flaw reads text TooLong l is short lists = too_long (length text) TEXT_LIMIT short is

one_flaw : (reads : Result Listed ℕ) (text : List ℕ) (flaw other : FileFlaw) → IsFlawOf reads text flaw → IsFlawOf reads text other → flaw ≡ other
one_flaw reads text (Line at) (Line after) one also = ap Line (one_line reads at after one.1 also.1)
  where
    line_in : ℕ → Result Listed ℕ → ℕ
    line_in d (Ok x) = d
    line_in d (Err line) = line

    one_line : (r : Result Listed ℕ) (a b : ℕ) → r ≡ Err a → r ≡ Err b → a ≡ b
    one_line r a b one other = let P : Result Listed ℕ → ℕ = λ x. line_in a x in sym (ap P one) ∙ ap P other
one_flaw reads text (Line at) TooLong one also = absurd (too_long (length text) TEXT_LIMIT one.0 also)
one_flaw reads text TooLong (Line at) one also = absurd (too_long (length text) TEXT_LIMIT also.0 one)
one_flaw reads text TooLong TooLong one also = refl

module _ (custom : Custom) (direction : Direction) (part : List ℕ) where
  abbrev taken : List ℕ
  taken = taken_name custom direction part

  pub one_files : (files others : SystemFiles) → AreFilesOf custom direction part files → AreFilesOf custom direction part others → files ≡ others
  one_files files others one other = λ i. record { digits = same.0 i; reversed = reversed i; language = same.1 i; adder = adders i }
    where
      same : (files.digits ≡ others.digits) × (files.language ≡ others.language)
      same = language_one custom taken files.digits others.digits files.language others.language one.language other.language

      reversed : files.reversed ≡ others.reversed
      reversed = one.reversed ∙ sym other.reversed

      adders : files.adder ≡ others.adder
      adders =
          adder_one custom (adder_name taken) others.digits files.adder others.adder (subst (λ (d : ℕ). IsAdderAt custom (adder_name taken) d files.adder) same.0 one.adder) other.adder

  -- a language that lists something is there, and has no flaw
  not_missing : (digits : ℕ) (name : List ℕ) → HasLanguage custom direction part digits → custom name ≡ None → name ≡ taken → ⊥
  not_missing digits name has none is = no_text (custom taken) has.1.text (ap custom (sym is) ∙ none) has.1.there

  not_flawed : (digits : ℕ) (name text : List ℕ) (flaw : FileFlaw) → HasLanguage custom direction part digits → custom name ≡ Some text → name ≡ taken → IsNoLanguage text flaw → ⊥
  not_flawed digits name text flaw has there is flawed =
      let same : text ≡ has.1.text = one_text (custom taken) text has.1.text (ap custom (sym is) ∙ there) has.1.there in
      no_flaw (language_of has.1.text) has.1.text flaw has.0 (language_flaw has.1.text flaw (subst (λ (t : List ℕ). IsNoLanguage t flaw) same flawed)) has.1.short has.1.lists

  one_size : (digits others : ℕ) → HasLanguage custom direction part digits → HasLanguage custom direction part others → digits ≡ others
  one_size digits others one other = (language_one custom taken digits others one.0 other.0 one.1 other.1).0

  -- files that are there are not refused
  pub not_refused : (files : SystemFiles) (load : LoadFault) → AreFilesOf custom direction part files → RefusesFiles custom direction part load → ⊥
  not_refused files (faults.Unknown folder name) are (folder_is, inl (none, is)) = no_text (custom taken) are.language.text none are.language.there
  not_refused files (faults.Unknown folder name) are (folder_is, inr (digits, has, none, is)) =
      no_text (custom (adder_name taken)) are.adder.text (ap custom (sym is) ∙ none) are.adder.there
  not_refused files (faults.File folder name flaw) are (folder_is, inl (text, there, is, flawed)) =
      not_flawed files.digits name text flaw (files.language, are.language) there is flawed
  not_refused files (faults.File folder name flaw) are (folder_is, inr (digits, has, (text, there, is, flawed))) =
      let size : digits ≡ files.digits = one_size digits files.digits has (files.language, are.language) in
      let same : text ≡ are.adder.text = one_text (custom (adder_name taken)) text are.adder.text (ap custom (sym is) ∙ there) are.adder.there in
      let here : IsNoAdder files.digits are.adder.text flaw = subst (λ (d : ℕ). IsNoAdder d are.adder.text flaw) size (subst (λ (t : List ℕ). IsNoAdder digits t flaw) same flawed) in
      no_flaw (adder_of files.digits are.adder.text) are.adder.text flaw files.adder (adder_flaw files.digits are.adder.text flaw here) are.adder.short are.adder.lists
  not_refused files (faults.Store folder name) are refuses = absurd refuses
  not_refused files faults.Memory are refuses = absurd refuses

  one_missing : (name other : List ℕ) → IsMissing custom direction part name → IsMissing custom direction part other → name ≡ other
  one_missing name other (inl (none, is)) (inl (nothing, also)) = is ∙ sym also
  one_missing name other (inl (none, is)) (inr (digits, has, nothing, also)) = absurd (not_missing digits taken has none refl)
  one_missing name other (inr (digits, has, none, is)) (inl (nothing, also)) = absurd (not_missing digits taken has nothing refl)
  one_missing name other (inr (digits, has, none, is)) (inr (others, also_has, nothing, also)) = is ∙ sym also

  missing_or_flawed : (name other : List ℕ) (flaw : FileFlaw) → IsMissing custom direction part name → IsFlawed custom direction part other flaw → ⊥
  missing_or_flawed name other flaw (inl (none, is)) (inl (text, there, also, flawed)) = no_text (custom taken) text none (ap custom (sym also) ∙ there)
  missing_or_flawed name other flaw (inl (none, is)) (inr (digits, has, rest)) = not_missing digits taken has none refl
  missing_or_flawed name other flaw (inr (digits, has, none, is)) (inl (text, there, also, flawed)) = not_flawed digits other text flaw has there also flawed
  missing_or_flawed name other flaw (inr (digits, has, none, is)) (inr (others, also_has, (text, there, also, flawed))) =
      no_text (custom (adder_name taken)) text (ap custom (sym is) ∙ none) (ap custom (sym also) ∙ there)

  flawed_one : (name other : List ℕ) (flaw another : FileFlaw) → IsFlawed custom direction part name flaw → IsFlawed custom direction part other another → (name ≡ other) × (flaw ≡ another)
  flawed_one name other flaw another (inl (text, there, is, flawed)) (inl (more, also_there, also, wrong)) =
      let same : text ≡ more = one_text (custom taken) text more (ap custom (sym is) ∙ there) (ap custom (sym also) ∙ also_there) in
      (is ∙ sym also, one_flaw (language_of more) more flaw another (language_flaw more flaw (subst (λ (t : List ℕ). IsNoLanguage t flaw) same flawed)) (language_flaw more another wrong))
  flawed_one name other flaw another (inl (text, there, is, flawed)) (inr (digits, has, rest)) = absurd (not_flawed digits name text flaw has there is flawed)
  flawed_one name other flaw another (inr (digits, has, rest)) (inl (text, there, is, flawed)) = absurd (not_flawed digits other text another has there is flawed)
  flawed_one name other flaw another (inr (digits, has, (text, there, is, flawed))) (inr (others, also_has, (more, also_there, also, wrong))) =
      let size : digits ≡ others = one_size digits others has also_has in
      let same : text ≡ more = one_text (custom (adder_name taken)) text more (ap custom (sym is) ∙ there) (ap custom (sym also) ∙ also_there) in
      let here : IsNoAdder others more flaw = subst (λ (d : ℕ). IsNoAdder d more flaw) size (subst (λ (t : List ℕ). IsNoAdder digits t flaw) same flawed) in
      (is ∙ sym also, one_flaw (adder_of others more) more flaw another (adder_flaw others more flaw here) (adder_flaw others more another wrong))

  pub one_refusal : (load other : LoadFault) → RefusesFiles custom direction part load → RefusesFiles custom direction part other → load ≡ other
  one_refusal (faults.Unknown folder name) (faults.Unknown place other) (first, one) (second, also) =
      let folders = first ∙ sym second in
      let names = one_missing name other one also in
      λ i. faults.Unknown (folders i) (names i)
  one_refusal (faults.Unknown folder name) (faults.File place other flaw) (first, one) (second, also) = absurd (missing_or_flawed name other flaw one also)
  one_refusal (faults.File folder name flaw) (faults.Unknown place other) (first, one) (second, also) = absurd (missing_or_flawed other name flaw also one)
  one_refusal (faults.File folder name flaw) (faults.File place other another) (first, one) (second, also) =
      let folders = first ∙ sym second in
      let same = flawed_one name other flaw another one also in
      λ i. faults.File (folders i) (same.0 i) (same.1 i)
  one_refusal (faults.Store folder name) other one also = absurd one
  one_refusal faults.Memory other one also = absurd one
  one_refusal (faults.Unknown folder name) (faults.Store place other) one also = absurd also
  one_refusal (faults.Unknown folder name) faults.Memory one also = absurd also
  one_refusal (faults.File folder name flaw) (faults.Store place other) one also = absurd also
  one_refusal (faults.File folder name flaw) faults.Memory one also = absurd also

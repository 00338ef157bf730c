-- A system in a direction has one pair of files.
use Rattle.std.proofs.Common.{◌≡◌, ℕ, List, [], ◌∷◌, length, Option, Some, Ok, sym, ap, ◌∙◌, subst}
use Rattle.digit_tuple.specs.Systems.{digit_set}
use Rattle.digit_tuple.proofs.SystemLemmas.{length-digit_set}
use Rattle.dfa_reading.specs.Headers.{Header, Sets}
use Rattle.dfa_reading.specs.Listed.{Listed}
use Rattle.dfa_reading.specs.SystemFiles.{language_of, adder_of}
use Rattle.system_files.specs.SystemFiles.{Custom, taken_name, IsLanguageAt, IsAdderAt, NamesTakeOnePair}
use Rattle.system_names.specs.UserNames.{adder_name}

-- how many digits a header of one set has
first_size : Header → ℕ
first_size (Sets (set ∷ [])) = length set
first_size _ = 0

size_is : (digits : ℕ) → first_size (Sets (digit_set digits ∷ [])) ≡ digits
unfolding first_size
size_is digits = length-digit_set digits

one_text : (there : Option (List ℕ)) (text other : List ℕ) → there ≡ Some text → there ≡ Some other → text ≡ other
one_text there text other is also = let same : Some text ≡ Some other = sym is ∙ also in cc

module _ (custom : Custom) (name : List ℕ) where
  one_language : (digits count : ℕ) (listed other : Listed) → IsLanguageAt custom name digits listed → IsLanguageAt custom name count other → (digits ≡ count) × (listed ≡ other)
  one_language digits count listed other is also =
      let text : is.text ≡ also.text = one_text (custom name) is.text also.text is.there also.there in
      let same : listed ≡ other = let e : Ok listed ≡ Ok other = sym is.lists ∙ ap language_of text ∙ also.lists in cc in
      (sym (size_is digits) ∙ ap first_size (sym is.header ∙ ap (λ (l : Listed). l.header) same ∙ also.header) ∙ size_is count, same)

  one_adder : (digits : ℕ) (listed other : Listed) → IsAdderAt custom name digits listed → IsAdderAt custom name digits other → listed ≡ other
  one_adder digits listed other is also =
      let text : is.text ≡ also.text = one_text (custom name) is.text also.text is.there also.there in
      let e : Ok listed ≡ Ok other = sym is.lists ∙ ap (adder_of digits) text ∙ also.lists in cc

pub names_take_one_pair : NamesTakeOnePair
names_take_one_pair custom direction part files others is also =
    let language = one_language custom (taken_name custom direction part) files.digits others.digits files.language others.language is.language also.language in
    let opposite : files.reversed ≡ others.reversed = is.reversed ∙ sym also.reversed in
    let adder_name_is = adder_name (taken_name custom direction part) in
    let adder : files.adder ≡ others.adder = one_adder custom adder_name_is others.digits files.adder others.adder (subst (λ (n : ℕ). IsAdderAt custom adder_name_is n files.adder) language.0 is.adder) also.adder in
    λ i. record { digits = language.0 i; reversed = opposite i; language = language.1 i; adder = adder i }

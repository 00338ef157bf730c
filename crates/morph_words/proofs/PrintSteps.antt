-- A text that grows by letters and rules.
use Rattle.std.proofs.Common.{◌≡◌, ℕ, ◌+◌, ◌<◌, ◌≤◌, List, [], ◌∷◌, ◌++◌, length, take, get_or, codes, ℤ, sym, ap, ◌∙◌, append_assoc}
use Rattle.std.specs.List.{flat_map}
use Rattle.std.proofs.lemmas.List.{take_more, take_all, flat_map_more}
use Rattle.morph_words.specs.Rules.{Rules}
use Rattle.morph_words.specs.Printed.{letter_text, rule_text}

-- one letter more
pub letters_more : (start before further : List ℕ) (letters : List ℤ) (i : ℕ) (letter d : ℤ) → i < length letters → letter ≡ get_or letters i d → before ≡ start ++ flat_map letter_text (take i letters) → further ≡ before ++ letter_text letter → further ≡ start ++ flat_map letter_text (take (i + 1) letters)
letters_more start before further letters i letter d inside e h step =
    step ∙ ap (λ t. t ++ letter_text letter) h ∙ flat_map_more letter_text start (take i letters) letter
    ∙ ap (λ (l : List ℤ). start ++ flat_map letter_text l) (ap (λ z. take i letters ++ z ∷ []) e ∙ sym (take_more letters i d inside))

-- a letter, an arrow, and the letters of an image
pub rule_pushed : (old first arrow out : List ℕ) (letter : ℤ) (letters image : List ℤ) (n : ℕ) → first ≡ old ++ letter_text letter → arrow ≡ first ++ codes "->" → letters ≡ image → length letters ≤ n → out ≡ arrow ++ flat_map letter_text (take n letters) → out ≡ old ++ rule_text (letter, image)
rule_pushed old first arrow out letter letters image n at_first at_arrow same all h =
    h
    ∙ ap (λ (l : List ℤ). arrow ++ flat_map letter_text l) (take_all n letters all ∙ same)
    ∙ ap (λ t. t ++ flat_map letter_text image) (at_arrow ∙ ap (λ t. t ++ codes "->") at_first)
    ∙ append_assoc (old ++ letter_text letter) (codes "->") (flat_map letter_text image)
    ∙ append_assoc old (letter_text letter) (codes "->" ++ flat_map letter_text image)

-- rules, each after a blank
abbrev further : Rules → List ℕ
further rules = flat_map (λ rule. codes " " ++ rule_text rule) rules

-- one rule more
pub rules_more : (before after whole : List ℕ) (rule : ℤ × List ℤ) (left others : Rules) → left ≡ rule ∷ others → after ≡ before ++ (codes " " ++ rule_text rule) → before ++ further left ≡ whole → after ++ further others ≡ whole
rules_more before after whole rule left others first step h =
    ap (λ t. t ++ further others) step
    ∙ append_assoc before (codes " " ++ rule_text rule) (further others)
    ∙ ap (λ (l : Rules). before ++ further l) (sym first)
    ∙ h

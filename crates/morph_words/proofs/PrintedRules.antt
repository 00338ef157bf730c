-- The printed text of a morphism derives from it.
use Rattle.std.proofs.Common.{◌≡◌, ℕ, ◌<◌, false, List, [], ◌∷◌, ◌++◌, length, map, append_assoc, append-nil, codes, ℤ, pos, refl, sym, ap, ◌∙◌, subst, arith}
use Rattle.std.specs.declared.cmp.Ordering.TheVariants.{Less, Greater}
use Rattle.std.specs.Ordering.{int_cmp, is_eq, match_ordering, ordering_reverse}
use Rattle.std.specs.List.{AllByRecursion, flat_map}
use Rattle.std.specs.List.Sorted.{IsStrictlySortedBy}
use Rattle.std.specs.Map.{keys_of}
use Rattle.std.proofs.lemmas.Bool.{or_from}
use Rattle.std.proofs.lemmas.Cmp.{int_cmp_total}
use Rattle.morph_words.specs.declared.lexeme.Lexeme.{Lexeme}
use Rattle.morph_words.specs.declared.lexeme.Lexeme.TheVariants.{Letter, Arrow, Blank}
use Rattle.morph_words.specs.Lexemes.{lexemes}
use Rattle.morph_words.specs.Rules.{Rules, has, put, IsRule, IsMorphism}
use Rattle.morph_words.specs.Grammar.{Image, only, longer, Rule, blank, RuleList, first, next, image_then, rule_then, rules_then, letters_of}
use Rattle.morph_words.specs.Printed.{rule_text, printed}
use Rattle.morph_words.specs.Laws.{PrintedDerives}
use Rattle.morph_words.proofs.Maps.{map_of, MapOnce, DerivesMap, derived_map}
use Rattle.morph_words.proofs.Orders.{has-cons}
use Rattle.morph_words.proofs.PrintedLexemes.{blank_read, end_read, rule_read}

-- an image of these letters after those so far
abbrev image_from : Image → List ℤ → Image
image_from image [] = image
image_from image (z ∷ zs) = image_from (longer image z) zs

letters_from : (image : Image) (zs : List ℤ) → letters_of (image_from image zs) ≡ letters_of image ++ zs
letters_from image [] = sym (append-nil (letters_of image))
letters_from image (z ∷ zs) = letters_from (longer image z) zs ∙ append_assoc (letters_of image) (z ∷ []) zs

image_from_then : (image : Image) (zs : List ℤ) (rest : List Lexeme) → image_then (image_from image zs) rest ≡ image_then image (map Letter zs ++ rest)
image_from_then image [] rest = refl
image_from_then image (z ∷ zs) rest = image_from_then (longer image z) zs rest

-- an image of these letters, where there is one
abbrev image_for : List ℤ → Image
image_for [] = only (pos 0)
image_for (z ∷ zs) = image_from (only z) zs

letters_for : (zs : List ℤ) → 0 < length zs → letters_of (image_for zs) ≡ zs
letters_for [] h = absurd (omega arith)
letters_for (z ∷ zs) h = letters_from (only z) zs

image_for_then : (zs : List ℤ) (rest : List Lexeme) → 0 < length zs → image_then (image_for zs) rest ≡ map Letter zs ++ rest
image_for_then [] rest h = absurd (omega arith)
image_for_then (z ∷ zs) rest h = image_from_then (only z) zs rest

-- a printed rule
abbrev rule_for : (ℤ × List ℤ) → Rule
rule_for rule = record { letter = rule.0; before_arrow = 0; after_arrow = 0; image = image_for rule.1 }

rule_lexemes : (rule : ℤ × List ℤ) (rest : List ℕ) → IsRule rule → lexemes (rule_text rule ++ rest) ≡ rule_then (rule_for rule) (lexemes rest)
rule_lexemes rule rest h = rule_read rule rest h ∙ ap (λ ts. Letter rule.0 ∷ Arrow ∷ ts) (sym (image_for_then rule.1 (lexemes rest) h.some))

-- further printed rules, each after a blank
abbrev list_from : RuleList → Rules → RuleList
list_from rules [] = rules
list_from rules (rule ∷ more) = list_from (next rules blank (rule_for rule)) more

abbrev further_then : Rules → List Lexeme → List Lexeme
further_then [] rest = rest
further_then (rule ∷ more) rest = Blank ∷ rule_then (rule_for rule) (further_then more rest)

list_from_then : (rules : RuleList) (more : Rules) (rest : List Lexeme) → rules_then (list_from rules more) rest ≡ rules_then rules (further_then more rest)
list_from_then rules [] rest = refl
list_from_then rules (rule ∷ more) rest = list_from_then (next rules blank (rule_for rule)) more rest

further_lexemes : (more : Rules) (rest : List ℕ) → AllByRecursion IsRule more → lexemes (flat_map (λ rule. codes " " ++ rule_text rule) more ++ rest) ≡ further_then more (lexemes rest)
further_lexemes [] rest h = refl
further_lexemes (rule ∷ more) rest h =
    let others = flat_map (λ r. codes " " ++ rule_text r) more in
    ap lexemes (append_assoc (codes " " ++ rule_text rule) others rest ∙ append_assoc (codes " ") (rule_text rule) (others ++ rest))
    ∙ (blank_read (rule_text rule ++ (others ++ rest))
    ∙ ap (λ ts. Blank ∷ ts) (rule_lexemes rule (others ++ rest) h.0 ∙ ap (rule_then (rule_for rule)) (further_lexemes more rest h.1)))

-- a letter among those above another
above_at : (k : ℤ) (rules : Rules) (rule : ℤ × List ℤ) (more : Rules) → AllByRecursion (λ y. int_cmp k y ≡ Less) (keys_of (rules ++ rule ∷ more)) → int_cmp rule.0 k ≡ Greater
above_at k [] rule more all = int_cmp_total.antisymm rule.0 k ∙ ap ordering_reverse all.0
above_at k (r ∷ rules) rule more all = above_at k rules rule more all.1

-- a letter above all has no rule among them, and its place is the last
free_last : (rules : Rules) (rule : ℤ × List ℤ) (more : Rules) → IsStrictlySortedBy int_cmp (keys_of (rules ++ rule ∷ more)) → has rules rule.0 ≡ false
unfolding IsStrictlySortedBy
free_last [] rule more sorted = refl
free_last (r ∷ rules) rule more sorted = has-cons r rules rule.0 ∙ or_from (is_eq (int_cmp rule.0 r.0)) (has rules rule.0) (ap is_eq (above_at r.0 rules rule more sorted.0)) (free_last rules rule more sorted.1)

put_last : (rules : Rules) (rule : ℤ × List ℤ) (more : Rules) → IsStrictlySortedBy int_cmp (keys_of (rules ++ rule ∷ more)) → put rules rule.0 rule.1 ≡ rules ++ rule ∷ []
unfolding IsStrictlySortedBy
put_last [] rule more sorted = refl
put_last (r ∷ rules) rule more sorted =
    ap (λ o. match_ordering o ((rule.0, rule.1) ∷ r ∷ rules) ((r.0, rule.1) ∷ rules) (r ∷ put rules rule.0 rule.1)) (above_at r.0 rules rule more sorted.0)
    ∙ ap (λ (l : Rules). r ∷ l) (put_last rules rule more sorted.1)

-- rules and further ones in ascending order
record IsList (list : RuleList) (rules : Rules) : Type 0 where
  once : MapOnce list
  map_is : map_of list ≡ rules

list_of : (list : RuleList) (rules more : Rules) → IsList list rules → AllByRecursion IsRule more → IsStrictlySortedBy int_cmp (keys_of (rules ++ more)) → IsList (list_from list more) (rules ++ more)
list_of list rules [] is each sorted = subst (IsList list) (sym (append-nil rules)) is
list_of list rules (rule ∷ more) is each sorted =
    let free : has (map_of list) rule.0 ≡ false = ap (λ (m : Rules). has m rule.0) is.map_is ∙ free_last rules rule more sorted in
    let last : map_of (next list blank (rule_for rule)) ≡ rules ++ rule ∷ [] =
    ap (λ (m : Rules). put m rule.0 (letters_of (image_for rule.1))) is.map_is ∙ (ap (put rules rule.0) (letters_for rule.1 each.0.some) ∙ put_last rules rule more sorted) in
    let split : rules ++ rule ∷ more ≡ (rules ++ rule ∷ []) ++ more = sym (append_assoc rules (rule ∷ []) more) in
    let P : Rules → Type 0 = λ m. IsStrictlySortedBy int_cmp (keys_of m) in
    subst (IsList (list_from (next list blank (rule_for rule)) more)) (sym split)
    (list_of (next list blank (rule_for rule)) (rules ++ rule ∷ []) more (record { once = (is.once, free); map_is = last }) each.1 (subst P split sorted))

map_printed : (rules : Rules) → IsMorphism rules → DerivesMap (lexemes (printed rules)) rules
map_printed [] h = absurd (omega (arith, h.some))
map_printed (rule ∷ more) h =
    let each = h.each in
    let others = flat_map (λ r. codes " " ++ rule_text r) more in
    let is = list_of (first (rule_for rule)) (rule ∷ []) more (record { once = tt; map_is = ap (λ (w : List ℤ). (rule.0, w) ∷ []) (letters_for rule.1 each.0.some) }) each.1 h.ascending in
    record {
      text = record { before = 0; rules = list_from (first (rule_for rule)) more; after = 1 };
      derives =
          list_from_then (first (rule_for rule)) more (Blank ∷ [])
          ∙ sym
          (ap lexemes (append_assoc (rule_text rule) others (codes "\n"))
          ∙ (rule_lexemes rule (others ++ codes "\n") each.0
          ∙ ap (rule_then (rule_for rule)) (further_lexemes more (codes "\n") each.1 ∙ ap (further_then more) end_read)));
      once = is.once;
      rules_are = is.map_is;
    }

pub printed_derives : PrintedDerives
printed_derives rules h = derived_map (lexemes (printed rules)) rules (map_printed rules h)

-- What is read stage after stage, the grammar derives.
use Rattle.std.proofs.Common.{◌≡◌, suc, Bool, true, false, List, [], ◌∷◌, Option, None, Some, refl, ◌∙◌, ap, subst, ℤ}
use Rattle.std.specs.Prelude.{⊤, if◌then◌else◌}
use Rattle.morph_words.specs.declared.lexeme.Lexeme.{Lexeme}
use Rattle.morph_words.specs.declared.lexeme.Lexeme.TheVariants.{Letter, Arrow, Blank, Comma}
use Rattle.morph_words.specs.Rules.{Rules, has, put}
use Rattle.morph_words.specs.Grammar.{only, longer, Rule, comma, and_blank, and_comma, blanks_then, rules_then, letters_of, Derives}
use Rattle.morph_words.specs.Stages.{Stage, AtFirst, AfterLetter, AfterRule, AfterComma, step, ended}
use Rattle.morph_words.proofs.Maps.{map_of, DerivesMap, derived_map}
use Rattle.morph_words.proofs.Walks.{from, reach}
use Rattle.morph_words.proofs.Prefixes.{Before, at_start, suffix, rules_before, lead_of, rules_with, rules_with_then, map_with, once_with, Prefix, at_first, after_letter, after_arrow, in_image, after_rule, after_comma, prefix_then, stage_of, PrefixOnce, blanks_between, blanks_between_then}

-- what was read with one lexeme more
record Extends (f : Prefix) (t : Lexeme) (stage : Stage) : Type 0 where
  further : Prefix
  stage_is : stage_of further ≡ stage
  derives : (rest : List Lexeme) → prefix_then further rest ≡ prefix_then f (t ∷ rest)
  once : PrefixOnce f → PrefixOnce further

abbrev Leads : Prefix → Lexeme → Option Stage → Type 0
Leads f t None = ⊤
Leads f t (Some stage) = Extends f t stage

-- the letter of a further rule
begins : (f g : Prefix) (rules : Rules) (letter : ℤ) → stage_of g ≡ AfterLetter rules letter → ((rest : List Lexeme) → prefix_then g rest ≡ prefix_then f (Letter letter ∷ rest)) → (PrefixOnce f → has rules letter ≡ false → PrefixOnce g) →
    (b : Bool) → has rules letter ≡ b → Leads f (Letter letter) (if b then None else Some (AfterLetter rules letter))
begins f g rules letter is derives once true e = tt
begins f g rules letter is derives once false e = record { further = g; stage_is = is; derives = derives; once = λ h. once h e }

-- the end of an image
ends_blank : (b : Before) (rule : Rule) → Leads (in_image b rule) Blank (Some (AfterRule (put (rules_before b) rule.letter (letters_of rule.image))))
ends_blank b rule = record {
  further = after_rule (lead_of b) (rules_with b rule) 0;
  stage_is = ap AfterRule (map_with b rule);
  derives = λ rest. rules_with_then b rule (Blank ∷ rest);
  once = λ h. once_with b rule h.0 h.1;
}

ends_comma : (b : Before) (rule : Rule) → Leads (in_image b rule) Comma (Some (AfterComma (put (rules_before b) rule.letter (letters_of rule.image))))
ends_comma b rule = record {
  further = after_comma (lead_of b) (rules_with b rule) comma;
  stage_is = ap AfterComma (map_with b rule);
  derives = λ rest. rules_with_then b rule (Comma ∷ rest);
  once = λ h. once_with b rule h.0 h.1;
}

leads : (f : Prefix) (t : Lexeme) → Leads f t (step (stage_of f) t)
leads (at_first n) Blank = record { further = at_first (suc n); stage_is = refl; derives = λ rest. refl; once = λ h. h }
leads (at_first n) (Letter z) = record { further = after_letter (at_start n) z 0; stage_is = refl; derives = λ rest. refl; once = λ h. (tt, refl) }
leads (at_first n) _ = tt
leads (after_letter b z n) Blank = record { further = after_letter b z (suc n); stage_is = refl; derives = λ rest. refl; once = λ h. h }
leads (after_letter b z n) Arrow = record { further = after_arrow b z n 0; stage_is = refl; derives = λ rest. refl; once = λ h. h }
leads (after_letter b z n) _ = tt
leads (after_arrow b z n m) Blank = record { further = after_arrow b z n (suc m); stage_is = refl; derives = λ rest. refl; once = λ h. h }
leads (after_arrow b z n m) (Letter y) = record {
  further = in_image b (record { letter = z; before_arrow = n; after_arrow = m; image = only y });
  stage_is = refl;
  derives = λ rest. refl;
  once = λ h. h;
}
leads (after_arrow b z n m) _ = tt
leads (in_image b rule) (Letter y) = record {
  further = in_image b (record rule { image = longer rule.image y });
  stage_is = refl;
  derives = λ rest. refl;
  once = λ h. h;
}
leads (in_image b rule) Blank = ends_blank b rule
leads (in_image b rule) Comma = ends_comma b rule
leads (in_image b rule) _ = tt
leads (after_rule n rules m) Blank = record { further = after_rule n rules (suc m); stage_is = refl; derives = λ rest. refl; once = λ h. h }
leads (after_rule n rules m) Comma = record {
  further = after_comma n rules (and_comma (blanks_between m));
  stage_is = refl;
  derives = λ rest. ap (λ (ts : List Lexeme). blanks_then n (rules_then rules ts)) (blanks_between_then m (Comma ∷ rest));
  once = λ h. h;
}
leads (after_rule n rules m) (Letter z) =
    begins (after_rule n rules m) (after_letter (suffix n rules (blanks_between m)) z 0) (map_of rules) z refl
    (λ rest. ap (λ (ts : List Lexeme). blanks_then n (rules_then rules ts)) (blanks_between_then m (Letter z ∷ rest)))
    (λ h k. (h, k)) (has (map_of rules) z) refl
leads (after_rule n rules m) _ = tt
leads (after_comma n rules d) Blank = record { further = after_comma n rules (and_blank d); stage_is = refl; derives = λ rest. refl; once = λ h. h }
leads (after_comma n rules d) Comma = record { further = after_comma n rules (and_comma d); stage_is = refl; derives = λ rest. refl; once = λ h. h }
leads (after_comma n rules d) (Letter z) =
    begins (after_comma n rules d) (after_letter (suffix n rules d) z 0) (map_of rules) z refl (λ rest. refl) (λ h k. (h, k)) (has (map_of rules) z) refl
leads (after_comma n rules d) _ = tt

-- where a text may end
whole : (f : Prefix) (rules : Rules) → PrefixOnce f → ended (stage_of f) ≡ Some rules → DerivesMap (prefix_then f []) rules
whole (at_first n) rules once h = absurd cc
whole (after_letter b z n) rules once h = absurd cc
whole (after_arrow b z n m) rules once h = absurd cc
whole (in_image b rule) rules once h = record {
  text = record { before = lead_of b; rules = rules_with b rule; after = 0 };
  derives = rules_with_then b rule [];
  once = once_with b rule once.0 once.1;
  rules_are = map_with b rule ∙ cc;
}
whole (after_rule n list m) rules once h = record { text = record { before = n; rules = list; after = suc m }; derives = refl; once = once; rules_are = cc }
whole (after_comma n list d) rules once h = absurd cc

read_derived : (ts : List Lexeme) (f : Prefix) (rules : Rules) → PrefixOnce f → from (reach ts (stage_of f)) ended ≡ Some rules → DerivesMap (prefix_then f ts) rules
read_derived [] f rules once h = whole f rules once h
read_derived (t ∷ ts) f rules once h = by_step (step (stage_of f) t) (leads f t) h (λ g o k. read_derived ts g rules o k)
  where
    by_step : (o : Option Stage) → Leads f t o → from (from o (λ n. reach ts n)) ended ≡ Some rules → ((g : Prefix) → PrefixOnce g → from (reach ts (stage_of g)) ended ≡ Some rules → DerivesMap (prefix_then g ts) rules) → DerivesMap (prefix_then f (t ∷ ts)) rules
    by_step None l k rest = absurd cc
    by_step (Some stage) l k rest =
        subst (λ (w : List Lexeme). DerivesMap w rules) (l.derives ts)
        (rest l.further (l.once once) (ap (λ (s : Stage). from (reach ts s) ended) l.stage_is ∙ k))

pub derived : (ts : List Lexeme) (rules : Rules) → from (reach ts AtFirst) ended ≡ Some rules → Derives ts rules
derived ts rules h = derived_map ts rules (read_derived ts (at_first 0) rules tt h)

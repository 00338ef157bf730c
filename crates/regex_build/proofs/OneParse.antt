-- A text over sets has one answer.
use Rattle.std.proofs.Common.{◌≡◌, ℕ, zero, suc, ◌+◌, ◌<◌, List, [], ◌∷◌, length, inl, inr, refl, sym, ap, ◌∙◌, subst, arith, take, Ok, Err}
use Rattle.std.specs.Prelude.{ℤ}
use Rattle.std.proofs.lemmas.Bool.{cases_lt}
use Rattle.std.proofs.lemmas.List.{take_all}
use Rattle.text_grammar.proofs.FaultLemmas.{begins_shorter, breaks_nowhere, breaks_once}
use Rattle.regex_build.specs.declared.fault.RegexFault.TheVariants.{Syntax, Number, Depth, Memory}
use Rattle.regex_build.specs.Expression.{Expression}
use Rattle.regex_build.specs.Tokens.{Token, bar, star, plus, optional, dot, opening, closing, bracket, comma, unbracket, digit, number, other}
use Rattle.regex_build.specs.Spots.{tokens, byte_of}
use Rattle.regex_build.specs.Grammar.{Derives}
use Rattle.regex_build.specs.Patterns.{Pattern}
use Rattle.regex_build.specs.Limits.{Around, nothing, after_token, after_all, IsAllowed, AreAllowed}
use Rattle.regex_build.specs.Parsing.{token_at, IsNumber, IsOpening, IsStuckAt, IsRefusedAt, IsTextOf, OneAnswer}
use Rattle.regex_build.proofs.Law.{one_tree}

-- each token of a prefix is allowed
allowed_at : (sets : List (List ℤ)) (a : Around) (ts : List Token) (i j : ℕ) → j < i → j < length ts → AreAllowed sets a (take i ts) → IsAllowed sets (after_all a (take j ts)) (token_at ts j)
allowed_at sets a ts zero j l m h = absurd (omega arith)
allowed_at sets a [] (suc i) j l m h = absurd (omega arith)
allowed_at sets a (t ∷ ts) (suc i) zero l m h = h.0
allowed_at sets a (t ∷ ts) (suc i) (suc j) l m h = allowed_at sets (after_token a t) ts i j (omega arith) (omega arith) h.1

not_both : (sets : List (List ℤ)) (ts : List Token) (i j : ℕ) → IsStuckAt sets ts i → IsRefusedAt sets ts j → ⊥
not_both sets ts i j a b =
    let x : j < length ts = b.within in
    elim (cases_lt j i) [
      | inl l ↦ b.refused (allowed_at sets nothing ts i j l x a.before)
      | inr l ↦ a.breaks.there (omega arith) (begins_shorter (Derives (length sets)) ts (i + 1) (j + 1) (omega arith) b.begins)
    ]

refused_once : (sets : List (List ℤ)) (ts : List Token) (i j : ℕ) → IsRefusedAt sets ts i → IsRefusedAt sets ts j → i ≡ j
refused_once sets ts i j a b =
    elim (cases_lt i j) [
      | inl l ↦ absurd (a.refused (allowed_at sets nothing ts j i l a.within b.before))
      | inr l ↦ elim (cases_lt j i) [ inl m ↦ absurd (b.refused (allowed_at sets nothing ts i j m b.within a.before)) | inr m ↦ omega arith ]
    ]

one_kind : (t : Token) → IsNumber t → IsOpening t → ⊥
one_kind (digit d) h k = k
one_kind (number z) h k = k
one_kind opening h k = h
one_kind bar h k = h
one_kind star h k = h
one_kind plus h k = h
one_kind optional h k = h
one_kind dot h k = h
one_kind closing h k = h
one_kind bracket h k = h
one_kind comma h k = h
one_kind unbracket h k = h
one_kind other h k = h

-- a text of an expression is at fault nowhere
none_stuck : (sets : List (List ℤ)) (text : List ℕ) (p : Pattern) (i : ℕ) → IsTextOf sets text p → IsStuckAt sets (tokens text) i → ⊥
none_stuck sets text p i h k = breaks_nowhere (Derives (length sets)) (tokens text) i p.tree k.breaks h.derives

none_refused : (sets : List (List ℤ)) (text : List ℕ) (p : Pattern) (i : ℕ) → IsTextOf sets text p → IsRefusedAt sets (tokens text) i → ⊥
none_refused sets text p i h k =
    k.refused (allowed_at sets nothing (tokens text) (length (tokens text)) i k.within k.within (subst (AreAllowed sets nothing) (sym (take_all (length (tokens text)) (tokens text) (omega arith))) h.allowed))

same_pattern : (sets : List (List ℤ)) (text : List ℕ) (p q : Pattern) → IsTextOf sets text p → IsTextOf sets text q → p ≡ q
same_pattern sets text p q h k =
    ap (λ s. let x : Pattern = record { sets = s; tree = p.tree } in x) (h.sets_are ∙ sym k.sets_are)
    ∙ ap (λ (t : Expression (List ℤ)). let x : Pattern = record { sets = q.sets; tree = t } in x) (one_tree (length sets) (tokens text) p.tree q.tree h.derives k.derives)

same_byte : (text : List ℕ) (a b i j : ℕ) → a ≡ byte_of text i → b ≡ byte_of text j → i ≡ j → a ≡ b
same_byte text a b i j e f g = e ∙ (ap (byte_of text) g ∙ sym f)

pub one_parse : OneAnswer
one_parse sets text (Ok p) (Ok q) a b m n = ap Ok (same_pattern sets text p q a b)
one_parse sets text (Ok p) (Err (Syntax j)) a b m n = absurd (none_stuck sets text p b.0 a b.2)
one_parse sets text (Ok p) (Err (Number j)) a b m n = absurd (none_refused sets text p b.0 a b.2)
one_parse sets text (Ok p) (Err (Depth j)) a b m n = absurd (none_refused sets text p b.0 a b.2)
one_parse sets text (Ok p) (Err Memory) a b m n = absurd (n refl)
one_parse sets text (Err (Syntax i)) (Ok q) a b m n = absurd (none_stuck sets text q a.0 b a.2)
one_parse sets text (Err (Syntax i)) (Err (Syntax j)) a b m n =
    ap (λ k. Err (Syntax k)) (same_byte text i j a.0 b.0 a.1 b.1 (breaks_once (Derives (length sets)) (tokens text) a.0 b.0 a.2.breaks b.2.breaks))
one_parse sets text (Err (Syntax i)) (Err (Number j)) a b m n = absurd (not_both sets (tokens text) a.0 b.0 a.2 b.2)
one_parse sets text (Err (Syntax i)) (Err (Depth j)) a b m n = absurd (not_both sets (tokens text) a.0 b.0 a.2 b.2)
one_parse sets text (Err (Syntax i)) (Err Memory) a b m n = absurd (n refl)
one_parse sets text (Err (Number i)) (Ok q) a b m n = absurd (none_refused sets text q a.0 b a.2)
one_parse sets text (Err (Number i)) (Err (Syntax j)) a b m n = absurd (not_both sets (tokens text) b.0 a.0 b.2 a.2)
one_parse sets text (Err (Number i)) (Err (Number j)) a b m n =
    ap (λ k. Err (Number k)) (same_byte text i j a.0 b.0 a.1 b.1 (refused_once sets (tokens text) a.0 b.0 a.2 b.2))
one_parse sets text (Err (Number i)) (Err (Depth j)) a b m n =
    absurd (one_kind (token_at (tokens text) b.0) (subst (λ k. IsNumber (token_at (tokens text) k)) (refused_once sets (tokens text) a.0 b.0 a.2 b.2) a.3) b.3)
one_parse sets text (Err (Number i)) (Err Memory) a b m n = absurd (n refl)
one_parse sets text (Err (Depth i)) (Ok q) a b m n = absurd (none_refused sets text q a.0 b a.2)
one_parse sets text (Err (Depth i)) (Err (Syntax j)) a b m n = absurd (not_both sets (tokens text) b.0 a.0 b.2 a.2)
one_parse sets text (Err (Depth i)) (Err (Number j)) a b m n =
    absurd (one_kind (token_at (tokens text) b.0) b.3 (subst (λ k. IsOpening (token_at (tokens text) k)) (refused_once sets (tokens text) a.0 b.0 a.2 b.2) a.3))
one_parse sets text (Err (Depth i)) (Err (Depth j)) a b m n =
    ap (λ k. Err (Depth k)) (same_byte text i j a.0 b.0 a.1 b.1 (refused_once sets (tokens text) a.0 b.0 a.2 b.2))
one_parse sets text (Err (Depth i)) (Err Memory) a b m n = absurd (n refl)
one_parse sets text (Err Memory) s a b m n = absurd (m refl)

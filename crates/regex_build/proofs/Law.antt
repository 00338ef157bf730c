-- What the machine says of tokens.
use Rattle.std.proofs.Common.{◌≡◌, refl, sym, ◌∙◌, ap, subst, ℕ, List, [], ◌∷◌, ◌++◌, append_assoc, append-nil, Option, None, Some}
use Rattle.std.specs.Prelude.{ℤ}
use Rattle.text_grammar.specs.Faults.{Begins}
use Rattle.regex_build.specs.declared.postfix_symbol.PostfixSymbol.{PostfixSymbol}
use Rattle.regex_build.specs.Expression.{Expression}
use Rattle.regex_build.specs.Postfix.{tree_of, IsPostfix}
use Rattle.regex_build.specs.Tokens.{Token}
use Rattle.regex_build.specs.Grammar.{Cat, Alt, alt_then, alt_tree, AltFits, Derives}
use Rattle.regex_build.specs.Machine.{State, start, step, ended}
use Rattle.regex_build.proofs.GrammarSteps.{alt_on, symbols_tree, symbols_postfix}
use Rattle.regex_build.proofs.Runs.{after, run, run-append}
use Rattle.regex_build.proofs.Complete.{alt_read, after_all, whole_ends}
use Rattle.regex_build.proofs.Zippers.{Prefix, Position, at_post, after_token, at_number, after_number, Zipper, begin, cat_with, alt_with, state_of, zipper_then, ZipperFits}
use Rattle.regex_build.proofs.Sound.{Extends, Leads, extends, zip, pair, cat_fits, alt_fits}
use Rattle.regex_build.proofs.Completions.{completes}

-- a derivation is read whole
reads_all : (tracks : ℕ) (a : Alt) → AltFits tracks a → run tracks (alt_then a []) start ≡ Some (after_all a)
reads_all tracks a f = alt_read tracks a [] [] [] f

reads_tokens : (tracks : ℕ) (ts : List Token) (tree : Expression (List ℤ)) (w : Derives tracks ts tree) → run tracks ts start ≡ Some (after_all w.text)
reads_tokens tracks ts tree w = ap (λ us. run tracks us start) (sym w.derives) ∙ reads_all tracks w.text w.fits

-- the part of a derivation that the tokens are
pub record Reached (tracks : ℕ) (ts : List Token) (s : State) : Type 0 where
  pub zipper : Zipper
  pub state_is : state_of zipper ≡ s
  pub derives : (r : List Token) → zipper_then zipper r ≡ ts ++ r
  pub fits : ZipperFits tracks zipper

pub reached_start : (tracks : ℕ) → Reached tracks [] start
reached_start tracks = record { zipper = begin; state_is = refl; derives = λ r. refl; fits = record { outer = tt; prefix = (tt, tt); position = tt } }

pub reached_more : (tracks : ℕ) (ts : List Token) (s n : State) (t : Token) → Reached tracks ts s → step tracks s t ≡ Some n → Reached tracks (ts ++ t ∷ []) n
reached_more tracks ts s n t h e =
    let along : step tracks (state_of h.zipper) t ≡ Some n = ap (λ (x : State). step tracks x t) h.state_is ∙ e in
    let x : Extends tracks h.zipper t n = subst (λ (o : Option State). Leads tracks h.zipper t o) along (extends tracks h.zipper t) in
    record { zipper = x.next; state_is = x.state_is; derives = λ r. x.derives r ∙ (h.derives (t ∷ r) ∙ sym (append_assoc ts (t ∷ []) r)); fits = x.fits h.fits }

-- what was read begins a text
pub begins : (tracks : ℕ) (ts : List Token) (s : State) → Reached tracks ts s → Begins (Derives tracks) ts
begins tracks ts s h =
    let c = completes tracks h.zipper h.fits in
    (c.more, alt_tree c.text, record { text = c.text; derives = c.derives ∙ h.derives c.more; fits = c.fits; tree_is = refl })

-- no text goes on with a token that is not read
pub breaks : (tracks : ℕ) (ts : List Token) (s : State) (t : Token) → run tracks ts start ≡ Some s → step tracks s t ≡ None → Begins (Derives tracks) (ts ++ t ∷ []) → ⊥
breaks tracks ts s t e none b =
    let all : run tracks (ts ++ t ∷ b.0) start ≡ None = run-append tracks ts (t ∷ b.0) start s e ∙ ap (λ o. after o (λ n. run tracks b.0 n)) none in
    let read : run tracks ((ts ++ t ∷ []) ++ b.0) start ≡ Some (after_all b.2.text) = reads_tokens tracks ((ts ++ t ∷ []) ++ b.0) b.1 b.2 in
    differ (sym read ∙ (ap (λ us. run tracks us start) (append_assoc ts (t ∷ []) b.0) ∙ all))
  where
    differ : {X : Type 0} {x : X} → Some x ≡ None → ⊥
    differ e = cc

same_some : {X : Type 0} (x y : X) → Some x ≡ Some y → x ≡ y
same_some x y e = cc

-- a text at whose end the machine does not end is none
pub ends_early : (tracks : ℕ) (ts : List Token) (s : State) (tree : Expression (List ℤ)) → run tracks ts start ≡ Some s → ended s ≡ None → Derives tracks ts tree → ⊥
ends_early tracks ts s tree e none w =
    let same : s ≡ after_all w.text = same_some s (after_all w.text) (sym e ∙ reads_tokens tracks ts tree w) in
    differ (sym (whole_ends w.text) ∙ (ap ended (sym same) ∙ none))
  where
    differ : {X : Type 0} {x : X} → Some x ≡ None → ⊥
    differ e = cc

record Whole (tracks : ℕ) (z : Zipper) (symbols : List PostfixSymbol) : Type 0 where
  text : Alt
  symbols_are : alt_on text [] ≡ symbols
  derives : alt_then text [] ≡ zipper_then z []
  fits : AltFits tracks text

whole_at : (tracks : ℕ) (fs : List Prefix) (a : Option Alt) (c : Option Cat) (p : Position) (symbols : List PostfixSymbol) → ZipperFits tracks (zip fs (pair a c) p) → ended (state_of (zip fs (pair a c) p)) ≡ Some symbols → Whole tracks (zip fs (pair a c) p) symbols
whole_at tracks [] a c (after_token p) symbols h e = record {
  text = alt_with a (cat_with c p);
  symbols_are = same_some (alt_on (alt_with a (cat_with c p)) []) symbols (symbols_same a c ∙ e);
  derives = derives_same a c;
  fits = alt_fits tracks a (cat_with c p) h.prefix.0 (cat_fits tracks c p h.prefix.1 h.position);
}
  where
    symbols_same : (a : Option Alt) (c : Option Cat) → Some (alt_on (alt_with a (cat_with c p)) []) ≡ ended (state_of (zip [] (pair a c) (after_token p)))
    symbols_same None None = refl
    symbols_same None (Some c) = refl
    symbols_same (Some a) None = refl
    symbols_same (Some a) (Some c) = refl

    derives_same : (a : Option Alt) (c : Option Cat) → alt_then (alt_with a (cat_with c p)) [] ≡ zipper_then (zip [] (pair a c) (after_token p)) []
    derives_same None None = refl
    derives_same None (Some c) = refl
    derives_same (Some a) None = refl
    derives_same (Some a) (Some c) = refl
whole_at tracks [] a c at_post symbols h e = absurd cc
whole_at tracks [] a c (at_number o) symbols h e = absurd cc
whole_at tracks [] a c (after_number ns) symbols h e = absurd cc
whole_at tracks (f ∷ fs) a c p symbols h e = absurd cc

-- a text at whose end the machine ends is that of its symbols
pub record Ended (tracks : ℕ) (ts : List Token) (symbols : List PostfixSymbol) : Type 0 where
  pub derives : Derives tracks ts (tree_of symbols)
  pub postfix : IsPostfix symbols

pub ends : (tracks : ℕ) (ts : List Token) (s : State) (symbols : List PostfixSymbol) → Reached tracks ts s → ended s ≡ Some symbols → Ended tracks ts symbols
ends tracks ts s symbols h e =
    let z = h.zipper in
    let w = whole_at tracks z.outer z.prefix.alternatives z.prefix.sequence z.position symbols h.fits (ap ended h.state_is ∙ e) in
    record {
      derives = record {
        text = w.text;
        derives = w.derives ∙ (h.derives [] ∙ append-nil ts);
        fits = w.fits;
        tree_is = sym (symbols_tree w.text) ∙ ap tree_of w.symbols_are;
      };
      postfix = subst IsPostfix w.symbols_are (symbols_postfix w.text);
    }

-- tokens derive from one expression
pub one_tree : (tracks : ℕ) (ts : List Token) (e f : Expression (List ℤ)) → Derives tracks ts e → Derives tracks ts f → e ≡ f
one_tree tracks ts e f v w =
    let same : after_all v.text ≡ after_all w.text = same_some (after_all v.text) (after_all w.text) (sym (reads_tokens tracks ts e v) ∙ reads_tokens tracks ts f w) in
    let symbols : alt_on v.text [] ≡ alt_on w.text [] =
    same_some (alt_on v.text []) (alt_on w.text []) (sym (whole_ends v.text) ∙ (ap ended same ∙ whole_ends w.text)) in
    sym v.tree_is ∙ (sym (symbols_tree v.text) ∙ (ap tree_of symbols ∙ (symbols_tree w.text ∙ w.tree_is)))

use Rattle.std.proofs.Common.{◌≡◌, refl, sym, ap, ◌∙◌, subst, ℕ, ◌<◌, ◌≤◌, Bool, true, false, List, take, arith}
use Rattle.std.proofs.lemmas.Bool.{eqb-true, leb-true, leb-false}
use Rattle.std.specs.Prelude.{if◌then◌else◌, nat_le, ◌==◌}
use Rattle.std.specs.Result.{IfOk}
use Rattle.text_grammar.specs.Spots.{lexeme_of}
use Rattle.formula_parse.specs.Tokens.{Name, system}
use Rattle.formula_parse.specs.Spots.{after_mark, no_lexeme, plain_lexeme, system_len, system_lexeme, lexeme}
use Rattle.formula_parse.specs.LexemeViews.{lexeme_view}
use Rattle.formula_parse.proofs.lexing.system_lexeme.Goals as goal

-- a system begins the text
system_there : (at : ℕ) (text : List ℕ) → 0 < system_len text → lexeme after_mark at text ≡ system_lexeme text
system_there at text more = by (system_len text == 0) refl
  where
    by : (b : Bool) → (system_len text == 0) ≡ b → (if b then plain_lexeme at text else system_lexeme text) ≡ system_lexeme text
    by true none = let zero = eqb-true (system_len text) 0 none in absurd (omega (arith, zero, more))
    by false some = refl

system_short : (text : List ℕ) (n : ℕ) → n ≡ system_len text → n ≤ 62 → system_lexeme text ≡ lexeme_of (system (take n text)) n
system_short text n is few = by (nat_le (system_len text) 62) refl ∙ ap (λ k. lexeme_of (system (take k text)) k) (sym is)
  where
    by : (b : Bool) → nat_le (system_len text) 62 ≡ b → (if b then lexeme_of (system (take (system_len text) text)) (system_len text) else no_lexeme) ≡ lexeme_of (system (take (system_len text) text)) (system_len text)
    by true less = refl
    by false long = let more = leb-false (system_len text) 62 long in absurd (omega (arith, more, is, few))

system_long : (text : List ℕ) → 62 < system_len text → system_lexeme text ≡ no_lexeme
system_long text many = by (nat_le (system_len text) 62) refl
  where
    by : (b : Bool) → nat_le (system_len text) 62 ≡ b → (if b then lexeme_of (system (take (system_len text) text)) (system_len text) else no_lexeme) ≡ no_lexeme
    by true short = let less = leb-true (system_len text) 62 short in absurd (omega (arith, less, many))
    by false more = refl

pub returns-then-len-eq0 : goal.returns-then-len-eq0
returns-then-len-eq0 c =
    let text = c.args.rest.now in
    subst (λ (n : ℕ). IfOk c.plain_lexeme.result (λ l. lexeme_view l ≡ (if n == 0 then plain_lexeme c.args.at text else system_lexeme text))) (sym c.if-len-eq0.true ∙ c.system_len-len.ensures.len) c.plain_lexeme.ensures

pub returns-then-len-gt-LONGEST_SYSTEM : goal.returns-then-len-gt-LONGEST_SYSTEM
returns-then-len-gt-LONGEST_SYSTEM c =
    let text = c.args.rest.now in
    let many : 62 < system_len text = omega (arith, c.system_len-len.ensures.len, c.if-len-gt-LONGEST_SYSTEM.true) in
    c.none.ensures ∙ sym (system_there c.args.at text (omega (arith, many)) ∙ system_long text many)

pub returns : goal.returns
returns c =
    let text = c.args.rest.now in
    let some : 0 < system_len text = omega (arith, c.system_len-len.ensures.len, c.if-len-eq0.false) in
    ap (λ (n : Name). lexeme_of (system n) c.system_len-len.result) c.in_ok-system.ensures
    ∙ sym (system_there c.args.at text some ∙ system_short text c.system_len-len.result c.system_len-len.ensures.len c.if-len-gt-LONGEST_SYSTEM.false)

-- In a formula that is read from a text, the name of each variable begins with a letter.
use Rattle.std.specs.Prelude.{⊤, nat_le, slice_index}
use Rattle.std.proofs.Common.{◌≡◌, ℕ, zero, suc, ◌-◌, ◌==◌, Bool, true, false, ◌||◌, if◌then◌else◌, List, [], ◌∷◌, map, take, refl, sym, subst}
use Rattle.std.specs.List.{AllByRecursion}
use Rattle.std.proofs.lemmas.Bool.{false≢true}
use Rattle.text_grammar.specs.Bytes.{is_blank, is_digit, is_letter, is_name_byte}
use Rattle.text_grammar.specs.Prefixes.{prefix_len, prefix_of}
use Rattle.text_grammar.specs.declared.class.Class.TheVariants.{NameByte}
use Rattle.formula_parse.specs.Tokens as tokens
use Rattle.formula_parse.specs.Tokens.{Name, Token, Placed, token_of, Letter}
use Rattle.text_grammar.specs.Spots.{Lexeme, Spot, spot_of, spots_from}
use Rattle.formula_parse.specs.Spots.{Mode, plain, after_mark, after_call, mode_after, letter_lexeme, sign_token, sign_lexeme, plain_lexeme, system_len, lexeme, lexing, spots}
use Rattle.text_grammar.specs.Spots as cut
use Rattle.formula_parse.specs.Trees as trees
use Rattle.formula_parse.specs.Trees.{Names, no_names, names}
use Rattle.formula_parse.specs.Building.{multiplied, summed, chained, under_marks}
use Rattle.formula_parse.specs.Formulas.{Factor, variable, numeral, in_parens, Prod, factor, times, divided, Term, prod, signed, Index, word, further, Terms, term, comma, Atom, compare, words, word_letter, letter_word, call_none, call, Variables, variable_one, variable_more, Binder, some, every, infinite, WrittenFormula, imp, iff, Imp, chain, implies, Chain, operand, joined, Operand, marked, Core, negated, quantified, grouped, atom, factor_then, prod_then, term_then, index_then, terms_then, minus_then, letter_then, atom_then, variables_then, binder_then, marks_then, formula_then, imp_then, chain_then, operand_then, core_then, derived_tokens}
use Rattle.formula_parse.specs.FormulaTrees.{factor_tree, factors_of, before_prod, last_prod, term_tree, index_places, terms_tree, fact, marks_system, formula_system, imp_system, chain_system, before_imp, last_imp, before_chain, last_chain, before_operand, last_operand, operand_tree, core_tree, default_system}
use Rattle.formula_parse.specs.Grammar.{Reads}
use Rattle.term_plans.proofs.TrackLemmas.{or_left}
use Rattle.plan_relations.specs.TrackNames.{begins_with_letter}
use Rattle.formula_build.specs.VariableNames.{IsNamedTerm, AreNamedFactors, AreNamedAddends, AreNamedTerms, IsNamedFact, AreNamedIn, AreNamedAmong}

abbrev IsNamedToken : Token → Type 0
IsNamedToken (tokens.name n) = begins_with_letter n ≡ true
IsNamedToken _ = ⊤

abbrev IsNamedLexeme : Lexeme Token → Type 0
IsNamedLexeme l = IsNamedToken l.token

if_token : (b : Bool) (s t : Token) → IsNamedToken s → IsNamedToken t → IsNamedToken (if b then s else t)
if_token true s t first second = first
if_token false s t first second = second

if_lexeme : (b : Bool) (k l : Lexeme Token) → IsNamedLexeme k → IsNamedLexeme l → IsNamedLexeme (if b then k else l)
if_lexeme true k l first second = first
if_lexeme false k l first second = second

sign_named : (at b : ℕ) → IsNamedToken (sign_token at b)
sign_named at b =
    if_token (b == 126) _ _ tt (if_token (b == 63) _ _ tt (if_token (b == 36) _ _ tt (if_token (b == 64) _ _ tt (if_token (b == 38) _ _ tt (if_token (b == 124) _ _ tt
    (if_token (b == 94) _ _ tt (if_token (b == 43) _ _ tt (if_token (b == 45) _ _ tt (if_token (b == 42) _ _ tt (if_token (b == 47) _ _ tt (if_token (b == 40) _ _ tt (if_token (b == 41) _ _ tt
    (if_token (b == 91) _ _ tt (if_token (b == 93) _ _ tt (if_token (b == 44) _ _ tt tt)))))))))))))))

signs_named : (at b c d : ℕ) → IsNamedLexeme (sign_lexeme at b c d)
signs_named at b c d =
    if_lexeme (b == 60) _ _ (if_lexeme (c == 61) _ _ (if_lexeme (d == 62) _ _ tt tt) tt)
    (if_lexeme (b == 62) _ _ (if_lexeme (c == 61) _ _ tt tt)
    (if_lexeme (b == 61) _ _ (if_lexeme (c == 62) _ _ tt tt) (if_lexeme (b == 33) _ _ (if_lexeme (c == 61) _ _ tt tt) (sign_named at b))))

-- a name at a letter begins with it
prefix_named : (b : ℕ) (bs : List ℕ) → is_letter b ≡ true → begins_with_letter (prefix_of NameByte (b ∷ bs)) ≡ true
prefix_named b bs letter = by (is_name_byte b) (or_left (is_letter b || is_digit b) (b == 95) (or_left (is_letter b) (is_digit b) letter))
  where
    by : (c : Bool) → c ≡ true → begins_with_letter (take (if c then suc (prefix_len NameByte bs) else 0) (b ∷ bs)) ≡ true
    by true is = letter
    by false is = absurd (false≢true is)

letters_named : (b : ℕ) (bs : List ℕ) → is_letter b ≡ true → IsNamedLexeme (letter_lexeme (b ∷ bs))
letters_named b bs letter =
    if_lexeme (b == 69) _ _ tt (if_lexeme (b == 65) _ _ tt (if_lexeme (b == 73) _ _ tt (if_lexeme (nat_le (prefix_len NameByte (b ∷ bs)) 64) _ _ (prefix_named b bs letter) tt)))

plain_named : (at b : ℕ) (bs : List ℕ) → IsNamedLexeme (plain_lexeme at (b ∷ bs))
plain_named at b bs = if_lexeme (is_digit b) _ _ tt (by (is_letter b) refl)
  where
    others : Lexeme Token
    others = sign_lexeme at b (slice_index (b ∷ bs) 1) (slice_index (b ∷ bs) 2)

    by : (c : Bool) → is_letter b ≡ c → IsNamedLexeme (if c then letter_lexeme (b ∷ bs) else others)
    by true letter = letters_named b bs letter
    by false is = signs_named at b (slice_index (b ∷ bs) 1) (slice_index (b ∷ bs) 2)

lexeme_named : (m : Mode) (at b : ℕ) (bs : List ℕ) → IsNamedLexeme (lexeme m at (b ∷ bs))
lexeme_named plain at b bs = plain_named at b bs
lexeme_named after_mark at b bs = if_lexeme (system_len (b ∷ bs) == 0) _ _ (plain_named at b bs) (if_lexeme (nat_le (system_len (b ∷ bs)) 62) _ _ tt tt)
lexeme_named after_call at b bs = if_lexeme (is_letter b) _ _ (if_lexeme (nat_le (prefix_len NameByte (b ∷ bs)) 64) _ _ tt tt) (plain_named at b bs)

abbrev AreNamedSpots : List (Spot Token) → Type 0
AreNamedSpots ss = AllByRecursion (λ (s : Spot Token). IsNamedToken s.token) ss

if_spots : (b : Bool) (ss us : List (Spot Token)) → AreNamedSpots ss → AreNamedSpots us → AreNamedSpots (if b then ss else us)
if_spots true ss us first second = first
if_spots false ss us first second = second

spots_named : (text : List ℕ) (m : Mode) (at skip : ℕ) → AreNamedSpots (spots_from lexing m at skip text)
spots_named [] m at skip = (tt, tt)
spots_named (b ∷ bs) m at (suc skip) = spots_named bs m (suc at) skip
spots_named (b ∷ bs) m at zero =
    let l = lexeme m at (b ∷ bs) in
    let rest = spots_from lexing (mode_after l.token) (suc at) (l.len - 1) bs in
    if_spots (is_blank b) (spots_from lexing m (suc at) zero bs) (spot_of at l ∷ rest) (spots_named bs m (suc at) zero)
    (lexeme_named m at b bs, spots_named bs (mode_after l.token) (suc at) (l.len - 1))

tokens_named : (ss : List (Spot Token)) → AreNamedSpots ss → AllByRecursion IsNamedToken (cut.tokens ss)
tokens_named [] all = tt
tokens_named (s ∷ ss) all = (all.0, tokens_named ss all.1)

abbrev AreNamedPlaced : List Placed → Type 0
AreNamedPlaced ps = AllByRecursion (λ (p : Placed). IsNamedToken (token_of p)) ps

placed_named : (ps : List Placed) → AllByRecursion IsNamedToken (map token_of ps) → AreNamedPlaced ps
placed_named [] all = tt
placed_named (p ∷ ps) all = (all.0, placed_named ps all.1)

summed_named : (ss : trees.Addends) (t : trees.Term) → AreNamedAddends ss → IsNamedTerm t → IsNamedTerm (summed ss t)
summed_named trees.no_addends t first second = second
summed_named (trees.addends ss s g) t first second = (first, second)

multiplied_named : (fs : trees.Factors) → AreNamedFactors fs → IsNamedTerm (multiplied fs)
multiplied_named trees.no_factors all = all
multiplied_named (trees.factors trees.no_factors (trees.times t)) all = all.1
multiplied_named (trees.factors trees.no_factors (trees.divided c)) all = all
multiplied_named (trees.factors (trees.factors fs g) (trees.times t)) all = all
multiplied_named (trees.factors (trees.factors fs g) (trees.divided c)) all = all

chained_named : (os : trees.Operands) (f : trees.Formula) → AreNamedAmong os → AreNamedIn f → AreNamedIn (chained os f)
chained_named trees.no_operands f first second = second
chained_named (trees.operands os g k) f first second = (first, second)

under_marks_named : (ms : Names) (f : trees.Formula) → AreNamedIn f → AreNamedIn (under_marks ms f)
under_marks_named no_names f named = named
under_marks_named (names ms n) f named = named

-- what is read of a text, and the tokens after it
mutual
  factor_named : (f : Factor) (d : ℕ) (r : List Placed) → AreNamedPlaced (factor_then f d r) → IsNamedTerm (factor_tree f) × AreNamedPlaced r
  factor_named (variable n) d r all = (all.0, all.1)
  factor_named (numeral n) d r all = (tt, all.1)
  factor_named (in_parens t) d r all =
      let parts = term_parts t (suc d) (tokens.here tokens.closing d ∷ r) all.1 in
      (summed_named (before_prod t) (last_prod t) parts.0 parts.1, parts.2.1)

  prod_parts : (p : Prod) (d : ℕ) (r : List Placed) → AreNamedPlaced (prod_then p d r) → AreNamedFactors (factors_of p) × AreNamedPlaced r
  prod_parts (factor f) d r all = let one = factor_named f d r all in ((tt, one.0), one.1)
  prod_parts (times p b f) d r all =
      let prefix = prod_parts p d (tokens.here (tokens.times b) d ∷ factor_then f d r) all in
      let last = factor_named f d r prefix.1.1 in
      ((prefix.0, last.0), last.1)
  prod_parts (divided p c) d r all =
      let prefix = prod_parts p d (tokens.here tokens.slash d ∷ tokens.here (tokens.number (suc c)) d ∷ r) all in
      (prefix.0, prefix.1.1.1)

  term_parts : (t : Term) (d : ℕ) (r : List Placed) → AreNamedPlaced (term_then t d r) → AreNamedAddends (before_prod t) × IsNamedTerm (last_prod t) × AreNamedPlaced r
  term_parts (prod p) d r all = let parts = prod_parts p d r all in (tt, multiplied_named (factors_of p) parts.0, parts.1)
  term_parts (signed t s p) d r all =
      let prefix = term_parts t d (tokens.here (tokens.sign s) d ∷ prod_then p d r) all in
      let last = prod_parts p d r prefix.2.1 in
      ((prefix.0, prefix.1), multiplied_named (factors_of p) last.0, last.1)

term_named : (t : Term) (d : ℕ) (r : List Placed) → AreNamedPlaced (term_then t d r) → IsNamedTerm (term_tree t) × AreNamedPlaced r
term_named t d r all = let parts = term_parts t d r all in (summed_named (before_prod t) (last_prod t) parts.0 parts.1, parts.2)

index_named : (x : Index) (d : ℕ) (r : List Placed) → AreNamedPlaced (index_then x d r) → AreNamedTerms (index_places x) × AreNamedPlaced r
index_named (word n t) d r all =
    let one = term_named t (suc d) (tokens.here tokens.unbracket d ∷ r) all.1.1 in
    ((tt, one.0), one.1.1)
index_named (further x t) d r all =
    let prefix = index_named x d (tokens.here tokens.bracket (suc d) ∷ term_then t (suc d) (tokens.here tokens.unbracket d ∷ r)) all in
    let last = term_named t (suc d) (tokens.here tokens.unbracket d ∷ r) prefix.1.1 in
    ((prefix.0, last.0), last.1.1)

terms_named : (ts : Terms) (d : ℕ) (r : List Placed) → AreNamedPlaced (terms_then ts d r) → AreNamedTerms (terms_tree ts) × AreNamedPlaced r
terms_named (term t) d r all = let one = term_named t d r all in ((tt, one.0), one.1)
terms_named (comma ts t) d r all =
    let prefix = terms_named ts d (tokens.here tokens.comma d ∷ term_then t d r) all in
    let last = term_named t d r prefix.1.1 in
    ((prefix.0, last.0), last.1)

minus_named : (b : Bool) (d : ℕ) (r : List Placed) → AreNamedPlaced (minus_then b d r) → AreNamedPlaced r
minus_named true d r all = all.1
minus_named false d r all = all

letter_named : (l : Letter) (d : ℕ) (r : List Placed) → AreNamedPlaced (letter_then l d r) → AreNamedPlaced r
letter_named l d r all = (minus_named l.negative d (tokens.value_of l d ∷ r) all.1).1

atom_named : (a : Atom) (d : ℕ) (r : List Placed) → AreNamedPlaced (atom_then a d r) → IsNamedFact (fact a) × AreNamedPlaced r
atom_named (compare t e u) d r all =
    let first = term_named t d (tokens.here (tokens.relation e) d ∷ term_then u d r) all in
    let second = term_named u d r first.1.1 in
    ((first.0, second.0), second.1)
atom_named (words x e z) d r all =
    let first = index_named x d (tokens.here (tokens.relation e) d ∷ index_then z d r) all in
    let second = index_named z d r first.1.1 in
    ((first.0, second.0), second.1)
atom_named (word_letter x e l) d r all =
    let first = index_named x d (tokens.here (tokens.relation e) d ∷ letter_then l d r) all in
    (first.0, letter_named l d r first.1.1)
atom_named (letter_word l e x) d r all = index_named x d r (letter_named l d (tokens.here (tokens.relation e) d ∷ index_then x d r) all).1
atom_named (call_none n) d r all = (tt, all.1.1.1.1)
atom_named (call n ts) d r all =
    let parts = terms_named ts (suc d) (tokens.here tokens.closing d ∷ r) all.1.1.1 in
    (parts.0, parts.1.1)

variables_named : (vs : Variables) (d : ℕ) (r : List Placed) → AreNamedPlaced (variables_then vs d r) → AreNamedPlaced r
variables_named (variable_one n) d r all = all.1
variables_named (variable_more vs n) d r all = (variables_named vs d (tokens.here tokens.comma d ∷ tokens.here (tokens.name n) d ∷ r) all).1.1

binder_named : (q : Binder) (d : ℕ) (r : List Placed) → AreNamedPlaced (binder_then q d r) → AreNamedPlaced r
binder_named (some vs) d r all = variables_named vs d r all.1
binder_named (every vs) d r all = variables_named vs d r all.1
binder_named (infinite n) d r all = all.1.1

marks_named : (ms : Names) (d : ℕ) (r : List Placed) → AreNamedPlaced (marks_then ms d r) → AreNamedPlaced r
marks_named no_names d r all = all
marks_named (names ms n) d r all = (marks_named ms d (tokens.here tokens.mark d ∷ tokens.here (tokens.system n) d ∷ r) all).1.1

mutual
  formula_parts : (f : WrittenFormula) (y : Name) (d : ℕ) (r : List Placed) → AreNamedPlaced (formula_then f d r) → AreNamedAmong (before_imp y f) × AreNamedIn (last_imp y f) × AreNamedPlaced r
  formula_parts (imp i) y d r all =
      let parts = imp_parts i y d r all in
      (tt, chained_named (before_chain y i) (last_chain y i) parts.0 parts.1, parts.2)
  formula_parts (iff f i) y d r all =
      let prefix = formula_parts f y d (tokens.here tokens.iff d ∷ imp_then i d r) all in
      let z = formula_system y f in
      let last = imp_parts i z d r prefix.2.1 in
      ((prefix.0, prefix.1), chained_named (before_chain z i) (last_chain z i) last.0 last.1, last.2)

  imp_parts : (i : Imp) (y : Name) (d : ℕ) (r : List Placed) → AreNamedPlaced (imp_then i d r) → AreNamedAmong (before_chain y i) × AreNamedIn (last_chain y i) × AreNamedPlaced r
  imp_parts (chain c) y d r all =
      let parts = chain_parts c y d r all in
      (tt, chained_named (before_operand y c) (last_operand y c) parts.0 parts.1, parts.2)
  imp_parts (implies i b c) y d r all =
      let prefix = imp_parts i y d (tokens.here (tokens.implies b) d ∷ chain_then c d r) all in
      let z = imp_system y i in
      let last = chain_parts c z d r prefix.2.1 in
      ((prefix.0, prefix.1), chained_named (before_operand z c) (last_operand z c) last.0 last.1, last.2)

  chain_parts : (c : Chain) (y : Name) (d : ℕ) (r : List Placed) → AreNamedPlaced (chain_then c d r) → AreNamedAmong (before_operand y c) × AreNamedIn (last_operand y c) × AreNamedPlaced r
  chain_parts (operand o) y d r all = let one = operand_named o y d r all in (tt, one.0, one.1)
  chain_parts (joined c k b o) y d r all =
      let prefix = chain_parts c y d (tokens.here (tokens.connective k b) d ∷ operand_then o d r) all in
      let last = operand_named o (chain_system y c) d r prefix.2.1 in
      ((prefix.0, prefix.1), last.0, last.1)

  operand_named : (o : Operand) (y : Name) (d : ℕ) (r : List Placed) → AreNamedPlaced (operand_then o d r) → AreNamedIn (operand_tree y o) × AreNamedPlaced r
  operand_named (marked ms c) y d r all =
      let inside = core_named c (marks_system y ms) d r (marks_named ms d (core_then c d r) all) in
      (under_marks_named ms (core_tree (marks_system y ms) c) inside.0, inside.1)

  core_named : (c : Core) (y : Name) (d : ℕ) (r : List Placed) → AreNamedPlaced (core_then c d r) → AreNamedIn (core_tree y c) × AreNamedPlaced r
  core_named (negated o) y d r all = operand_named o y (suc d) r all.1
  core_named (quantified q f) y d r all =
      let parts = formula_parts f y (suc d) r (binder_named q (suc d) (formula_then f (suc d) r) all) in
      (chained_named (before_imp y f) (last_imp y f) parts.0 parts.1, parts.2)
  core_named (grouped f) y d r all =
      let parts = formula_parts f y (suc d) (tokens.here tokens.closing d ∷ r) all.1 in
      (chained_named (before_imp y f) (last_imp y f) parts.0 parts.1, parts.2.1)
  core_named (atom a) y d r all = atom_named a d r all

pub parsed_named : (text : List ℕ) (f : trees.Formula) → Reads (cut.tokens (spots text)) f → AreNamedIn f
parsed_named text f reads =
    let formula = reads.text in
    let all = subst (AllByRecursion IsNamedToken) (sym reads.derives.derived_is) (tokens_named (spots text) (spots_named text plain 0 0)) in
    let parts = formula_parts formula default_system 0 (tokens.here tokens.end 0 ∷ []) (placed_named (derived_tokens formula) all) in
    subst AreNamedIn reads.tree_is (chained_named (before_imp default_system formula) (last_imp default_system formula) parts.0 parts.1)

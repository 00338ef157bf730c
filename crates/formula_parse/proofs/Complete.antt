-- What a derivation derives, the machine reads to what the derivation is made to.
use Rattle.std.proofs.Common.{◌≡◌, refl, ◌∙◌, ℕ, suc, Bool, true, false, List, [], ◌∷◌, Option, None, Some}
use Rattle.formula_parse.specs.Tokens.{Name, Relation, Connective, Sign, Token, Placed, here, times, slash, sign, relation, closing, connective, implies, iff, end}
use Rattle.formula_parse.specs.Trees.{Names, no_names, names}
use Rattle.formula_parse.specs.Making.{Binding, some, every, infinite, Kinds, Making}
use Rattle.formula_parse.proofs.Derivations.{Factor, variable, numeral, in_parens, Factors, no_factors, factors, Prod, prod, divided, Addends, no_addends, addends, Term, term, Terms, no_terms, terms, index, Core, compare, words, word_letter, letter_word, call_none, call, not_closed, grouped, marked, Operands, no_operands, operands, Chains, no_chains, chains, Implications, no_implications, implications, Last, ends, quantified, Formula, formula, factor_then, prod_then, addends_then, term_then, arguments_then, places_then, variables_then, binding_then, tildes_then, core_then, operands_then, chains_then, implications_then, last_then, formula_then, derived_tokens}
use Rattle.formula_parse.specs.Formulas.{letter_then, marks_then}
use Rattle.formula_parse.specs.FormulaTrees.{marks_system}
use Rattle.formula_parse.proofs.Systems.{tildes_system, core_system, operands_system, chains_system, implications_system, factor_of, prod_of, addends_of, terms_of, core_of, operands_of, chains_of, implications_of, last_of, formula_of}
use Rattle.formula_parse.specs.Flaws.{Flaw, Product, product_start, noted_factor, none_came, Came}
use Rattle.formula_parse.proofs.DerivedFlaws.{product_of, is_lone, is_numeral, ends_in_numeral, factor_flaw, prod_flaw, addends_flaw, term_flaw, terms_flaw, came_of, is_implied, core_flaw, operands_flaw, chains_flaw, implications_flaw, last_flaw, formula_flaw}
use Rattle.formula_parse.specs.Machine.{Prefix, Body, Frame, Outer, Side, Role, Position, State, left_index, left_letter, first, second, left_side, right_of, place_in, argument, at_operand, at_variable, after_operand, at_factor, after_factor, after_index, at_word, after_letter, at_argument, done, paren, fresh, close, operand_nesting, start}
use Rattle.formula_parse.specs.Runs.{after, run}

-- a token after a factor of a term that began where an operand may
data Next : Type 0 where
  next_times : ℕ → Next
  next_slash : Next
  next_sign : Sign → Next
  next_relation : Relation → Next
  next_closing : Next

abbrev next_token : Next → Token
next_token (next_times b) = times b
next_token next_slash = slash
next_token (next_sign s) = sign s
next_token (next_relation e) = relation e
next_token next_closing = closing

-- a token after an operand
data Stop : Type 0 where
  stop_connective : Connective → ℕ → Stop
  stop_implies : ℕ → Stop
  stop_iff : Stop
  stop_closing : Stop
  stop_end : Stop

abbrev stop_token : Stop → Token
stop_token (stop_connective k b) = connective k b
stop_token (stop_implies b) = implies b
stop_token stop_iff = iff
stop_token stop_closing = closing
stop_token stop_end = end

-- a token after a formula
data Ending : Type 0 where
  by_closing : Ending
  by_end : Ending

abbrev ending_token : Ending → Token
ending_token by_closing = closing
ending_token by_end = end

abbrev touched_by_marks : Bool → Names → Bool
touched_by_marks e no_names = e
touched_by_marks e (names ms n) = true

abbrev touched_by_tildes : Bool → List Names → Bool
touched_by_tildes e [] = e
touched_by_tildes e (ms ∷ st) = true

abbrev touched_by_operands : Bool → Operands → Bool
touched_by_operands e no_operands = e
touched_by_operands e (operands os c k b) = true

abbrev touched_by_chains : Bool → Chains → Bool
touched_by_chains e no_chains = e
touched_by_chains e (chains hs os c b) = true

abbrev touched_by_implications : Bool → Implications → Bool
touched_by_implications e no_implications = e
touched_by_implications e (implications is hs os c) = true

module _ {K : Kinds} (A : Making K) where
  abbrev st : List (Frame K) → Body K → Name → Option Flaw → Position K → State K
  st gs g y w p = record { around = gs; body = g; system = y; flaw = w; position = p }

  abbrev prefix : K.Implications → K.Chains → K.Operands → Came → Bool → Prefix K
  prefix is hs os c i = record { implications = is; chains = hs; operands = os; came = c; implied = i }

  abbrev group : ℕ → Prefix K → List Names → Names → Bool → Body K
  group b r ts ms e = record { base = b; prefix = r; tildes = ts; marks = ms; touched = e }

  -- a term inside of brackets, parentheses or after a relation
  mutual
    factor_read : (f : Factor) (d : ℕ) (r : List Placed) (gs : List (Frame K)) (g : Body K) (y : Name) (w : Option Flaw) (h : Role K) (o : List (Outer K)) (ss : K.Addends) (ps : K.Factors) (p : Product) → run A (factor_then f d r) (st gs g y w (at_factor h o ss ps p)) ≡ run A r (st gs g y (noted_factor p (is_numeral f) (factor_flaw w f)) (after_factor h o ss (A.prod ps (factor_of A f)) p (is_numeral f)))
    factor_read (variable n) d r gs g y w h o ss ps p = refl
    factor_read (numeral n) d r gs g y w h o ss ps p = refl
    factor_read (in_parens (term ts m)) d r gs g y w h o ss ps p = addends_read ts _ _ gs g y w h _ ∙ prod_read m _ _ gs g y _ h _ _ _

    addends_read : (ss : Addends) (d : ℕ) (r : List Placed) (gs : List (Frame K)) (g : Body K) (y : Name) (w : Option Flaw) (h : Role K) (o : List (Outer K)) → run A (addends_then ss d r) (st gs g y w (at_factor h o A.no_addends A.no_factors (product_start true))) ≡ run A r (st gs g y (addends_flaw w ss) (at_factor h o (addends_of A ss) A.no_factors (product_start (is_lone ss))))
    addends_read no_addends d r gs g y w h o = refl
    addends_read (addends ss m s) d r gs g y w h o = addends_read ss _ _ gs g y w h o ∙ prod_read m _ _ gs g y _ h o _ _

    prod_read : (m : Prod) (d : ℕ) (r : List Placed) (gs : List (Frame K)) (g : Body K) (y : Name) (w : Option Flaw) (h : Role K) (o : List (Outer K)) (ss : K.Addends) (l : Bool) → run A (prod_then m d r) (st gs g y w (at_factor h o ss A.no_factors (product_start l))) ≡ run A r (st gs g y (prod_flaw w l m) (after_factor h o ss (prod_of A m) (product_of l m) (ends_in_numeral m)))
    prod_read (prod no_factors f) d r gs g y w h o ss l = factor_read f _ _ gs g y w h o ss _ _
    prod_read (prod (factors m b) f) d r gs g y w h o ss l = prod_read m _ _ gs g y w h o ss l ∙ factor_read f _ _ gs g y _ h o ss _ _
    prod_read (divided m c) d r gs g y w h o ss l = prod_read m _ _ gs g y w h o ss l

  -- A term that begins where an operand may: a `(` is first taken for a formula's.
  abbrev FactorLeads : Factor → Type 0
  FactorLeads f = (x : Next) (d e : ℕ) (r : List Placed) (gs : List (Frame K)) (g : Body K) (y : Name) (w : Option Flaw) → run A (factor_then f d (here (next_token x) e ∷ r)) (st gs g y w at_operand) ≡ run A (here (next_token x) e ∷ r) (st gs g y (factor_flaw w f) (after_factor left_side [] A.no_addends (A.prod A.no_factors (factor_of A f)) (product_start true) (is_numeral f)))

  abbrev ProdLeads : Prod → Type 0
  ProdLeads m = (x : Next) (d e : ℕ) (r : List Placed) (gs : List (Frame K)) (g : Body K) (y : Name) (w : Option Flaw) → run A (prod_then m d (here (next_token x) e ∷ r)) (st gs g y w at_operand) ≡ run A (here (next_token x) e ∷ r) (st gs g y (prod_flaw w true m) (after_factor left_side [] A.no_addends (prod_of A m) (product_of true m) (ends_in_numeral m)))

  abbrev FactorsLead : Factors → Type 0
  FactorsLead no_factors = Unit {0}
  FactorsLead (factors m b) = ProdLeads m

  abbrev AddendsLead : Addends → Type 0
  AddendsLead no_addends = Unit {0}
  AddendsLead (addends ss m s) = (d : ℕ) (r : List Placed) (gs : List (Frame K)) (g : Body K) (y : Name) (w : Option Flaw) → run A (addends_then (addends ss m s) d r) (st gs g y w at_operand) ≡ run A r (st gs g y (addends_flaw w (addends ss m s)) (at_factor left_side [] (addends_of A (addends ss m s)) A.no_factors (product_start false)))

  abbrev TermLeads : Term → Type 0
  TermLeads (term ss m) = (x : Next) (d e : ℕ) (r : List Placed) (gs : List (Frame K)) (g : Body K) (y : Name) (w : Option Flaw) → run A (term_then (term ss m) d (here (next_token x) e ∷ r)) (st gs g y w at_operand) ≡ run A (here (next_token x) e ∷ r) (st gs g y (term_flaw w (term ss m)) (after_factor left_side [] (addends_of A ss) (prod_of A m) (product_of (is_lone ss) m) (ends_in_numeral m)))

  name_leads : (n : Name) → FactorLeads (variable n)
  name_leads n (next_times b) d e r gs g y w = refl
  name_leads n next_slash d e r gs g y w = refl
  name_leads n (next_sign s) d e r gs g y w = refl
  name_leads n (next_relation k) d e r gs g y w = refl
  name_leads n next_closing d e r gs g y w = refl

  parens_lead : (t : Term) → TermLeads t → FactorLeads (in_parens t)
  parens_lead (term ss m) lead x d e r gs g y w = lead next_closing (suc d) d _ (paren g y ∷ gs) (fresh A (suc (operand_nesting g))) y w

  term_step : (ss : Addends) (m : Prod) → AddendsLead ss → ProdLeads m → TermLeads (term ss m)
  term_step no_addends m as_lead m_leads x d e r gs g y w = m_leads x d e r gs g y w
  term_step (addends ss k s) m as_lead m_leads x d e r gs g y w = as_lead _ _ gs g y w ∙ prod_read m _ _ gs g y _ left_side [] _ _

  prod_step : (ps : Factors) (f : Factor) → FactorsLead ps → FactorLeads f → ProdLeads (prod ps f)
  prod_step no_factors f ps_lead f_leads x d e r gs g y w = f_leads x d e r gs g y w
  prod_step (factors m b) f ps_lead f_leads x d e r gs g y w = ps_lead (next_times b) _ _ _ gs g y w ∙ factor_read f _ _ gs g y _ left_side [] _ _ _

  addends_step : (ss : Addends) (m : Prod) (s : Sign) → AddendsLead ss → ProdLeads m → AddendsLead (addends ss m s)
  addends_step no_addends m s as_lead m_leads d r gs g y w = m_leads (next_sign s) d d r gs g y w
  addends_step (addends ss k t) m s as_lead m_leads d r gs g y w = as_lead _ _ gs g y w ∙ prod_read m _ _ gs g y _ left_side [] _ _

  mutual
    factor_leads : (f : Factor) → FactorLeads f
    factor_leads (variable n) = name_leads n
    factor_leads (numeral n) = λ x d e r gs g y w. refl
    factor_leads (in_parens t) = parens_lead t (term_leads t)

    term_leads : (t : Term) → TermLeads t
    term_leads (term ss m) = term_step ss m (addends_lead ss) (prod_leads m)

    factors_lead : (ps : Factors) → FactorsLead ps
    factors_lead no_factors = tt
    factors_lead (factors m b) = prod_leads m

    prod_leads : (m : Prod) → ProdLeads m
    prod_leads (prod ps f) = prod_step ps f (factors_lead ps) (factor_leads f)
    prod_leads (divided m c) = λ x d e r gs g y w. prod_leads m next_slash d d _ gs g y w

    addends_lead : (ss : Addends) → AddendsLead ss
    addends_lead no_addends = tt
    addends_lead (addends ss m s) = addends_step ss m s (addends_lead ss) (prod_leads m)

  places_read : (ts : Terms) (d : ℕ) (r : List Placed) (gs : List (Frame K)) (g : Body K) (y : Name) (w : Option Flaw) (a : Side K) (n : Name) → run A (places_then ts d r) (st gs g y w (at_factor (place_in a n A.no_terms) [] A.no_addends A.no_factors (product_start true))) ≡ run A r (st gs g y (terms_flaw w ts) (at_factor (place_in a n (terms_of A ts)) [] A.no_addends A.no_factors (product_start true)))
  places_read no_terms d r gs g y w a n = refl
  places_read (terms ts (term ss m)) d r gs g y w a n =
      places_read ts _ _ gs g y w a n ∙ (addends_read ss _ _ gs g y _ _ [] ∙ prod_read m _ _ gs g y _ _ [] _ _)

  arguments_read : (ts : Terms) (d : ℕ) (r : List Placed) (gs : List (Frame K)) (g : Body K) (y : Name) (w : Option Flaw) (n : Name) → run A (arguments_then ts d r) (st gs g y w (at_factor (argument n A.no_terms) [] A.no_addends A.no_factors (product_start true))) ≡ run A r (st gs g y (terms_flaw w ts) (at_factor (argument n (terms_of A ts)) [] A.no_addends A.no_factors (product_start true)))
  arguments_read no_terms d r gs g y w n = refl
  arguments_read (terms ts (term ss m)) d r gs g y w n =
      arguments_read ts _ _ gs g y w n ∙ (addends_read ss _ _ gs g y _ _ [] ∙ prod_read m _ _ gs g y _ _ [] _ _)

  -- after a call's parenthesis a term is read as elsewhere
  module _ (gs : List (Frame K)) (g : Body K) (y : Name) (w : Option Flaw) (n : Name) where
    abbrev early : State K
    early = st gs g y w (at_argument n)

    abbrev ready : State K
    ready = st gs g y w (at_factor (argument n A.no_terms) [] A.no_addends A.no_factors (product_start true))

    factor_starts : (f : Factor) (d : ℕ) (r : List Placed) → run A (factor_then f d r) early ≡ run A (factor_then f d r) ready
    factor_starts (variable n) d r = refl
    factor_starts (numeral n) d r = refl
    factor_starts (in_parens t) d r = refl

    prod_starts : (m : Prod) (d : ℕ) (r : List Placed) → run A (prod_then m d r) early ≡ run A (prod_then m d r) ready
    prod_starts (prod no_factors f) d r = factor_starts f d r
    prod_starts (prod (factors m b) f) d r = prod_starts m d _
    prod_starts (divided m c) d r = prod_starts m d _

    addends_start : (ss : Addends) (m : Prod) (d : ℕ) (r : List Placed) → run A (term_then (term ss m) d r) early ≡ run A (term_then (term ss m) d r) ready
    addends_start no_addends m d r = prod_starts m d r
    addends_start (addends ss k s) m d r = addends_start ss k d _

    arguments_start : (ts : Terms) (t : Term) (d : ℕ) (r : List Placed) → run A (arguments_then ts d (term_then t d r)) early ≡ run A (arguments_then ts d (term_then t d r)) ready
    arguments_start no_terms (term ss m) d r = addends_start ss m d r
    arguments_start (terms ts u) t d r = arguments_start ts u d _

  letter_left : (a : ℕ) (b : Bool) (v : ℕ) (d : ℕ) (r : List Placed) (gs : List (Frame K)) (g : Body K) (y : Name) (w : Option Flaw) → run A (letter_then (record { at = a; negative = b; value = v }) d r) (st gs g y w at_operand) ≡ run A r (st gs g y w (after_letter (A.letter (record { at = a; negative = b; value = v }))))
  letter_left a true v d r gs g y w = refl
  letter_left a false v d r gs g y w = refl

  letter_right : (a : ℕ) (b : Bool) (v : ℕ) (d : ℕ) (r : List Placed) (gs : List (Frame K)) (g : Body K) (y : Name) (w : Option Flaw) (x : K.Index) (k : Relation) → run A (letter_then (record { at = a; negative = b; value = v }) d r) (st gs g y w (at_word (left_index x k))) ≡ run A r (st gs g y w (after_operand (A.word_letter y x k (A.letter (record { at = a; negative = b; value = v })))))
  letter_right a true v d r gs g y w x k = refl
  letter_right a false v d r gs g y w x k = refl

  marks_read : (ms : Names) (d : ℕ) (r : List Placed) (gs : List (Frame K)) (b : ℕ) (fr : Prefix K) (ts : List Names) (e : Bool) (y : Name) (w : Option Flaw) → run A (marks_then ms d r) (st gs (group b fr ts no_names e) y w at_operand) ≡ run A r (st gs (group b fr ts ms (touched_by_marks e ms)) (marks_system y ms) w at_operand)
  marks_read no_names d r gs b fr ts e y w = refl
  marks_read (names ms n) d r gs b fr ts e y w = marks_read ms _ _ gs b fr ts e y w

  tildes_read : (ts : List Names) (d : ℕ) (r : List Placed) (gs : List (Frame K)) (b : ℕ) (fr : Prefix K) (e : Bool) (y : Name) (w : Option Flaw) → run A (tildes_then ts d r) (st gs (group b fr [] no_names e) y w at_operand) ≡ run A r (st gs (group b fr ts no_names (touched_by_tildes e ts)) (tildes_system y ts) w at_operand)
  tildes_read [] d r gs b fr e y w = refl
  tildes_read (ms ∷ ts) d r gs b fr e y w = tildes_read ts _ _ gs b fr e y w ∙ marks_read ms _ _ gs b fr ts _ _ w

  some_read : (ns : Names) (d : ℕ) (r : List Placed) (gs : List (Frame K)) (g : Body K) (y : Name) (w : Option Flaw) → run A (variables_then ns d r) (st gs g y w (at_variable (some no_names))) ≡ run A r (st gs g y w (at_variable (some ns)))
  some_read no_names d r gs g y w = refl
  some_read (names ns n) d r gs g y w = some_read ns _ _ gs g y w

  every_read : (ns : Names) (d : ℕ) (r : List Placed) (gs : List (Frame K)) (g : Body K) (y : Name) (w : Option Flaw) → run A (variables_then ns d r) (st gs g y w (at_variable (every no_names))) ≡ run A r (st gs g y w (at_variable (every ns)))
  every_read no_names d r gs g y w = refl
  every_read (names ns n) d r gs g y w = every_read ns _ _ gs g y w

  binding_read : (q : Binding) (d : ℕ) (r : List Placed) (gs : List (Frame K)) (g : Body K) (y : Name) (w : Option Flaw) → run A (binding_then q d r) (st gs g y w at_operand) ≡ run A r (st gs g y w (at_variable q))
  binding_read (some ns) d r gs g y w = some_read ns d r gs g y w
  binding_read (every ns) d r gs g y w = every_read ns d r gs g y w
  binding_read infinite d r gs g y w = refl

  -- the states after an operand agree
  module _ (e : ℕ) (r : List Placed) (gs : List (Frame K)) (g : Body K) (y : Name) (w : Option Flaw) where
    compare_stops : (x : Stop) (l : K.Term) (k : Relation) (ss : K.Addends) (m : K.Prod) (p : Product) (q : Bool) → run A (here (stop_token x) e ∷ r) (st gs g y w (after_factor (right_of l k) [] ss m p q)) ≡ run A (here (stop_token x) e ∷ r) (st gs g y w (after_operand (A.compare y l k (A.term ss m))))
    compare_stops (stop_connective k b) l k' ss m p q = refl
    compare_stops (stop_implies b) l k ss m p q = refl
    compare_stops stop_iff l k ss m p q = refl
    compare_stops stop_closing l k ss m p q = refl
    compare_stops stop_end l k ss m p q = refl

    words_stops : (x : Stop) (z : K.Index) (k : Relation) (n : Name) (ts : K.Terms) (t : K.Term) → run A (here (stop_token x) e ∷ r) (st gs g y w (after_index (second (left_index z k)) n ts t)) ≡ run A (here (stop_token x) e ∷ r) (st gs g y w (after_operand (A.words y z k (A.index n ts t))))
    words_stops (stop_connective k b) z k' n ts t = refl
    words_stops (stop_implies b) z k n ts t = refl
    words_stops stop_iff z k n ts t = refl
    words_stops stop_closing z k n ts t = refl
    words_stops stop_end z k n ts t = refl

    letter_stops : (x : Stop) (l : K.Letter) (k : Relation) (n : Name) (ts : K.Terms) (t : K.Term) → run A (here (stop_token x) e ∷ r) (st gs g y w (after_index (second (left_letter l k)) n ts t)) ≡ run A (here (stop_token x) e ∷ r) (st gs g y w (after_operand (A.letter_word y l k (A.index n ts t))))
    letter_stops (stop_connective k b) l k' n ts t = refl
    letter_stops (stop_implies b) l k n ts t = refl
    letter_stops stop_iff l k n ts t = refl
    letter_stops stop_closing l k n ts t = refl
    letter_stops stop_end l k n ts t = refl

    tilde_stops : (x : Stop) (b : Bool) (ms : Names) (c : K.Core) → run A (here (stop_token x) e ∷ r) (st gs (group g.base g.prefix (g.marks ∷ g.tildes) ms b) y w (after_operand c)) ≡ run A (here (stop_token x) e ∷ r) (st gs g y w (after_operand (A.not_closed (A.marked ms c))))
    tilde_stops (stop_connective k c) b ms d = refl
    tilde_stops (stop_implies c) b ms d = refl
    tilde_stops stop_iff b ms d = refl
    tilde_stops stop_closing b ms d = refl
    tilde_stops stop_end b ms d = refl

  mutual
    core_reads : (c : Core) (x : Stop) (d e : ℕ) (r : List Placed) (gs : List (Frame K)) (g : Body K) (y : Name) (w : Option Flaw) → run A (core_then c d (here (stop_token x) e ∷ r)) (st gs g y w at_operand) ≡ run A (here (stop_token x) e ∷ r) (st gs g (core_system y c) (core_flaw w c) (after_operand (core_of A y c)))
    core_reads (compare (term ss m) k (term us v)) x d e r gs g y w =
        term_leads (term ss m) (next_relation k) _ _ _ gs g y w
        ∙ (addends_read us _ _ gs g y _ _ []
        ∙ (prod_read v _ _ gs g y _ _ [] _ _ ∙ compare_stops e r gs g y _ x _ k _ _ (product_of (is_lone us) v) (ends_in_numeral v)))
    core_reads (words (index n ts (term ss p)) k (index m vs (term us v))) x d e r gs g y w =
        places_read ts _ _ gs g y w first n
        ∙ (addends_read ss _ _ gs g y _ _ []
        ∙ (prod_read p _ _ gs g y _ _ [] _ _
        ∙ (places_read vs _ _ gs g y _ _ m
        ∙ (addends_read us _ _ gs g y _ _ [] ∙ (prod_read v _ _ gs g y _ _ [] _ _ ∙ words_stops e r gs g y _ x _ k m _ _)))))
    core_reads (word_letter (index n ts (term ss m)) k l) x d e r gs g y w =
        places_read ts _ _ gs g y w first n
        ∙ (addends_read ss _ _ gs g y _ _ [] ∙ (prod_read m _ _ gs g y _ _ [] _ _ ∙ letter_right l.at l.negative l.value _ _ gs g y _ _ k))
    core_reads (letter_word l k (index n ts (term ss m))) x d e r gs g y w =
        letter_left l.at l.negative l.value _ _ gs g y w
        ∙ (places_read ts _ _ gs g y w _ n
        ∙ (addends_read ss _ _ gs g y _ _ [] ∙ (prod_read m _ _ gs g y _ _ [] _ _ ∙ letter_stops e r gs g y _ x _ k n _ _)))
    core_reads (call_none n) x d e r gs g y w = refl
    core_reads (call n ts (term ss m)) x d e r gs g y w =
        arguments_start gs g y w n ts (term ss m) _ _
        ∙ (arguments_read ts _ _ gs g y w n ∙ (addends_read ss _ _ gs g y _ _ [] ∙ prod_read m _ _ gs g y _ _ [] _ _))
    core_reads (not_closed (marked ms c)) x d e r gs g y w =
        marks_read ms _ _ gs g.base g.prefix (g.marks ∷ g.tildes) true y w
        ∙ (core_reads c x _ e r gs _ _ w ∙ tilde_stops e r gs g _ _ x (touched_by_marks true ms) ms _)
    core_reads (grouped f) x d e r gs g y w = formula_reads f by_closing (suc d) d _ (paren g y ∷ gs) (suc (operand_nesting g)) y w

    operands_read : (os : Operands) (d : ℕ) (r : List Placed) (gs : List (Frame K)) (b : ℕ) (is : K.Implications) (hs : K.Chains) (i : Bool) (e : Bool) (y : Name) (w : Option Flaw) → run A (operands_then os d r) (st gs (group b (prefix is hs A.no_operands none_came i) [] no_names e) y w at_operand) ≡ run A r (st gs (group b (prefix is hs (operands_of A y os) (came_of os) i) [] no_names (touched_by_operands e os)) (operands_system y os) (operands_flaw w os) at_operand)
    operands_read no_operands d r gs b is hs i e y w = refl
    operands_read (operands os (marked ms c) k a) d r gs b is hs i e y w =
        operands_read os _ _ gs b is hs i e y w
        ∙ (marks_read ms _ _ gs b _ [] _ _ _ ∙ core_reads c (stop_connective k a) _ _ r gs _ _ _)

    chains_read : (hs : Chains) (d : ℕ) (r : List Placed) (gs : List (Frame K)) (b : ℕ) (is : K.Implications) (e : Bool) (y : Name) (w : Option Flaw) → run A (chains_then hs d r) (st gs (group b (prefix is A.no_chains A.no_operands none_came false) [] no_names e) y w at_operand) ≡ run A r (st gs (group b (prefix is (chains_of A y hs) A.no_operands none_came (is_implied hs)) [] no_names (touched_by_chains e hs)) (chains_system y hs) (chains_flaw w hs) at_operand)
    chains_read no_chains d r gs b is e y w = refl
    chains_read (chains hs os (marked ms c) a) d r gs b is e y w =
        chains_read hs _ _ gs b is e y w
        ∙ (operands_read os _ _ gs b is _ _ _ _ _ ∙ (marks_read ms _ _ gs b _ [] _ _ _ ∙ core_reads c (stop_implies a) _ _ r gs _ _ _))

    implications_read : (is : Implications) (d : ℕ) (r : List Placed) (gs : List (Frame K)) (b : ℕ) (e : Bool) (y : Name) (w : Option Flaw) → run A (implications_then is d r) (st gs (group b (prefix A.no_implications A.no_chains A.no_operands none_came false) [] no_names e) y w at_operand) ≡ run A r (st gs (group b (prefix (implications_of A y is) A.no_chains A.no_operands none_came false) [] no_names (touched_by_implications e is)) (implications_system y is) (implications_flaw w is) at_operand)
    implications_read no_implications d r gs b e y w = refl
    implications_read (implications is hs os (marked ms c)) d r gs b e y w =
        implications_read is _ _ gs b e y w
        ∙ (chains_read hs _ _ gs b _ _ _ _
        ∙ (operands_read os _ _ gs b _ _ _ _ _ _ ∙ (marks_read ms _ _ gs b _ [] _ _ _ ∙ core_reads c stop_iff _ _ r gs _ _ _)))

    last_reads : (l : Last) (x : Ending) (d e : ℕ) (r : List Placed) (gs : List (Frame K)) (b : ℕ) (is : K.Implications) (hs : K.Chains) (os : K.Operands) (k : Came) (i : Bool) (u : Bool) (y : Name) (w : Option Flaw) → run A (last_then l d (here (ending_token x) e ∷ r)) (st gs (group b (prefix is hs os k i) [] no_names u) y w at_operand) ≡ after (close A (last_flaw w l) gs (A.formula is hs os (last_of A y l)) (ending_token x)) (λ n. run A r n)
    last_reads (ends (marked ms c)) by_closing d e r gs b is hs os k i u y w = marks_read ms _ _ gs b _ [] _ _ _ ∙ core_reads c stop_closing _ e r gs _ _ _
    last_reads (ends (marked ms c)) by_end d e r gs b is hs os k i u y w = marks_read ms _ _ gs b _ [] _ _ _ ∙ core_reads c stop_end _ e r gs _ _ _
    last_reads (quantified ts ms q n f) x d e r gs b is hs os k i u y w =
        tildes_read ts _ _ gs b _ _ y w
        ∙ (marks_read ms _ _ gs b _ ts _ _ w ∙ (binding_read q _ _ gs _ _ w ∙ formula_reads f x _ e r _ _ _ w))

    formula_reads : (f : Formula) (x : Ending) (d e : ℕ) (r : List Placed) (gs : List (Frame K)) (b : ℕ) (y : Name) (w : Option Flaw) → run A (formula_then f d (here (ending_token x) e ∷ r)) (st gs (fresh A b) y w at_operand) ≡ after (close A (formula_flaw w f) gs (formula_of A y f) (ending_token x)) (λ n. run A r n)
    formula_reads (formula is hs os l) x d e r gs b y w =
        implications_read is _ _ gs b _ _ _
        ∙ (chains_read hs _ _ gs b _ _ _ _ ∙ (operands_read os _ _ gs b _ _ _ _ _ _ ∙ last_reads l x _ e r gs b _ _ _ _ _ _ _ _))

  -- the state at the end of a text
  abbrev pub final : K.Formula → Option Flaw → State K
  final f w = record { around = []; body = fresh A 0; system = []; flaw = w; position = done f }

  pub complete : (f : Formula) (y : Name) → run A (derived_tokens f) (start A y) ≡ Some (final (formula_of A y f) (formula_flaw None f))
  complete f y = formula_reads f by_end 0 0 [] [] 0 y None

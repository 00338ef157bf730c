-- The tokens of a text are placed in one way: the tokens before one determine its nesting, and which letter a numeral belongs to.
use Rattle.std.proofs.Common.{◌≡◌, refl, sym, ◌∙◌, ap, subst, ℕ, zero, suc, ◌≤◌, List, [], ◌∷◌, ◌++◌, map, Option, None, Some, arith}
use Rattle.std.proofs.lemmas.List.{append-nil}
use Rattle.std.specs.List.{AllByRecursion}
use Rattle.formula_parse.specs.Tokens.{Token, number, Placed, token_of, nesting_of}
use Rattle.formula_parse.proofs.Derivations.{Formula, derived_tokens, parts, derivations}
use Rattle.formula_parse.specs.Machine.{within, Position, State, on_left, on_right, at_operand, at_factor, at_divisor, at_letter, at_value, at_argument, step, step_at, start, within_position}
use Rattle.formula_parse.proofs.DerivedFlaws.{formula_flaw}
use Rattle.formula_parse.specs.Runs.{after, run_tokens, placed}
use Rattle.formula_parse.specs.FormulaTrees.{default_system}
use Rattle.formula_parse.specs.Limits.{IsAllowed}
use Rattle.formula_parse.proofs.DerivedGrammar.{GoesOn}
use Rattle.formula_parse.proofs.Complete.{complete, final}
use Rattle.formula_parse.proofs.Sound.{Sane, GoesOn as ReadsFrom, nesting, state_then, deep, step_goes}
use Rattle.formula_parse.proofs.Law.{run_placed}
use Rattle.formula_parse.proofs.Numbers.{position_number}
use Rattle.formula_parse.proofs.Remade.{formula_remade}

-- a token as it is placed by the state after it, and what comes then
abbrev placed_first : State parts → Token → Option (State parts) → (State parts → List Placed) → List Placed
placed_first s t None k = []
placed_first s t (Some n) k = placed s.position t (deep n) ∷ k n

-- tokens as they are placed from a state on
abbrev pub placed_from : State parts → List Token → List Placed
placed_from s [] = []
placed_from s (t ∷ ts) = placed_first s t (step derivations s t) (λ n. placed_from n ts)

abbrev pub initial_state : State parts
initial_state = start derivations default_system

-- a state reads what its tokens are placed as
record Reads (s n : State parts) (ps : List Placed) : Type 0 where
  derived_is : (q : List Placed) → state_then n q ≡ state_then s (ps ++ q)

step_reads : (s n : State parts) (t : Token) (ts : List Token) (o : Option (State parts)) → ReadsFrom o (state_then s) (placed s.position t) → ((m : State parts) → Sane m → run_tokens derivations ts m ≡ Some n → Reads m n (placed_from m ts)) → after o (λ m. run_tokens derivations ts m) ≡ Some n → Reads s n (placed_first s t o (λ m. placed_from m ts))
step_reads s n t ts None h k e = absurd cc
step_reads s n t ts (Some m) h k e =
    let r = k m h.sane e in
    record { derived_is = λ q. r.derived_is q ∙ h.derived_is (placed_from m ts ++ q) }

reads : (ts : List Token) (s n : State parts) → Sane s → run_tokens derivations ts s ≡ Some n → Reads s n (placed_from s ts)
reads [] s n a e =
    let same : s ≡ n = cc in
    subst (λ (z : State parts). Reads s z []) same (record { derived_is = λ q. refl })
reads (t ∷ ts) s n a e = step_reads s n t ts (step derivations s t) (step_goes s t a) (λ m b h. reads ts m n b h) e

sane_start : Sane initial_state
sane_start = record { body = record { based = refl; empty = λ e. refl }; frames = tt }

-- the machine makes a text's derivation again
pub made_again : (f : Formula) → run_tokens derivations (map token_of (derived_tokens f)) initial_state ≡ Some (final derivations f (formula_flaw None f))
made_again f =
    run_placed derivations (derived_tokens f) initial_state
    ∙ (complete derivations f default_system ∙ ap (λ (g : Formula). Some (final derivations g (formula_flaw None f))) (formula_remade default_system f))

-- the tokens of a text are placed as it derives them
derived_places : (f : Formula) → placed_from initial_state (map token_of (derived_tokens f)) ≡ derived_tokens f
derived_places f =
    let r = reads (map token_of (derived_tokens f)) initial_state (final derivations f (formula_flaw None f)) sane_start (made_again f) in
    sym (append-nil (placed_from initial_state (map token_of (derived_tokens f)))) ∙ sym (r.derived_is [])

prefix_step : (s : State parts) (p : Placed) (ps qs : List Placed) (o : Option (State parts)) → ((m : State parts) → placed_from m (map token_of (ps ++ qs)) ≡ ps ++ qs → placed_from m (map token_of ps) ≡ ps) → placed_first s (token_of p) o (λ m. placed_from m (map token_of (ps ++ qs))) ≡ p ∷ (ps ++ qs) → placed_first s (token_of p) o (λ m. placed_from m (map token_of ps)) ≡ p ∷ ps
prefix_step s p ps qs None k e = absurd cc
prefix_step s p ps qs (Some m) k e =
    let rest : placed_from m (map token_of (ps ++ qs)) ≡ ps ++ qs = cc in
    let head : placed s.position (token_of p) (deep m) ≡ p = cc in
    cc (k m rest, head)

prefix_places : (ps qs : List Placed) (s : State parts) → placed_from s (map token_of (ps ++ qs)) ≡ ps ++ qs → placed_from s (map token_of ps) ≡ ps
prefix_places [] qs s e = refl
prefix_places (p ∷ ps) qs s e = prefix_step s p ps qs (step derivations s (token_of p)) (λ m h. prefix_places ps qs m h) e

-- so are those of its prefix
pub read_places : (text : Formula) (read more : List Placed) → GoesOn text read more → placed_from initial_state (map token_of read) ≡ read
read_places text read more g =
    prefix_places
    read
    more
    initial_state
    (subst (λ ps. placed_from initial_state (map token_of ps) ≡ ps) g.derived_is (derived_places text))

-- A numeral is within what comes before it.
abbrev Keeps : State parts → Position parts → Option (State parts) → Type 0
Keeps s p None = Unit {0}
Keeps s p (Some n) = deep n ≡ within_position p (within s.body.tildes (nesting s.around))

number_keeps : (s : State parts) (v : ℕ) (p : Position parts) → Keeps s p (step_at derivations s p (number v))
number_keeps s v at_operand = refl
number_keeps s v (at_factor h o ss ps p) = refl
number_keeps s zero (at_divisor h o ss m p) = tt
number_keeps s (suc c) (at_divisor h o ss m p) = refl
number_keeps s v (at_argument n) = refl
number_keeps s v (at_letter on_left b) = refl
number_keeps s v (at_letter (on_right x k) b) = refl
number_keeps s v (at_value on_left b) = refl
number_keeps s v (at_value (on_right x k) b) = refl
number_keeps s v p = subst (λ (o : Option (State parts)). Keeps s p o) (sym (position_number derivations v s p refl)) tt

nesting_of-placed : (p : Position parts) (t : Token) (d : ℕ) → nesting_of (placed p t d) ≡ d
nesting_of-placed (at_letter c b) (number v) d = refl
nesting_of-placed (at_value c b) (number v) d = refl
nesting_of-placed p t d = refl

-- a numeral that comes after allowed tokens is not too deep
last_step : (s : State parts) (p : Placed) (v : ℕ) (o : Option (State parts)) → Keeps s s.position o → deep s ≤ 128 → token_of p ≡ number v → placed_first s (token_of p) o (λ m. []) ≡ p ∷ [] → nesting_of p ≤ 128
last_step s p v None h d t e = absurd cc
last_step s p v (Some n) h d t e =
    let is : placed s.position (token_of p) (deep n) ≡ p = cc in
    let nest : nesting_of p ≡ deep n = ap nesting_of (sym is) ∙ nesting_of-placed s.position (token_of p) (deep n) in
    subst (λ z. z ≤ 128) (sym (nest ∙ h)) d

shallow_step : (s : State parts) (q p : Placed) (ps : List Placed) (o : Option (State parts)) → IsAllowed q → ((m : State parts) → deep m ≤ 128 → placed_from m (map token_of (ps ++ p ∷ [])) ≡ ps ++ p ∷ [] → nesting_of p ≤ 128) → placed_first s (token_of q) o (λ m. placed_from m (map token_of (ps ++ p ∷ []))) ≡ q ∷ (ps ++ p ∷ []) → nesting_of p ≤ 128
shallow_step s q p ps None a k e = absurd cc
shallow_step s q p ps (Some m) a k e =
    let rest : placed_from m (map token_of (ps ++ p ∷ [])) ≡ ps ++ p ∷ [] = cc in
    let is : placed s.position (token_of q) (deep m) ≡ q = cc in
    let nest : nesting_of q ≡ deep m = ap nesting_of (sym is) ∙ nesting_of-placed s.position (token_of q) (deep m) in
    k m (subst (λ z. z ≤ 128) nest a.0) rest

shallow : (ps : List Placed) (p : Placed) (v : ℕ) (s : State parts) → deep s ≤ 128 → AllByRecursion IsAllowed ps → token_of p ≡ number v → placed_from s (map token_of (ps ++ p ∷ [])) ≡ ps ++ p ∷ [] → nesting_of p ≤ 128
shallow [] p v s d a t e =
    last_step
    s
    p
    v
    (step derivations s (token_of p))
    (subst (λ (u : Token). Keeps s s.position (step derivations s u)) (sym t) (number_keeps s v s.position))
    d
    t
    e
shallow (q ∷ ps) p v s d a t e =
    shallow_step s q p ps (step derivations s (token_of q)) a.0 (λ m b h. shallow ps p v m b a.1 t h) e

pub number_shallow : (text : Formula) (read more : List Placed) (p : Placed) (v : ℕ) → GoesOn text (read ++ p ∷ []) more → AllByRecursion IsAllowed read → token_of p ≡ number v → nesting_of p ≤ 128
number_shallow text read more p v g a t = shallow read p v initial_state (omega arith) a t (read_places text (read ++ p ∷ []) more g)

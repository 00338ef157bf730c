-- What a run of the machine over trees says of the grammar.
use Rattle.std.proofs.Common.{◌≡◌, refl, sym, ◌∙◌, ap, subst, ℕ, List, [], ◌∷◌, ◌++◌, append_assoc, map, Option, None, Some}
use Rattle.std.proofs.lemmas.List.{append-nil}
use Rattle.std.specs.List.{AllByRecursion}
use Rattle.digit_tuple.proofs.AllLemmas.{all_append}
use Rattle.formula_parse.specs.Tokens.{Token, number, Placed, token_of}
use Rattle.formula_parse.specs.Trees as trees
use Rattle.formula_parse.specs.Making.{Kinds, Making}
use Rattle.formula_parse.proofs.Derivations.{Formula, derived_tokens, parts, derivations}
use Rattle.formula_parse.specs.Machine.{within, Position, at_letter, at_value, State, at_operand, at_system, at_variable, after_operand, after_first, at_factor, after_factor, at_divisor, after_index, at_word, at_bracket, after_letter, at_called, at_call, at_argument, done, step, start, depth, within_position}
use Rattle.formula_parse.specs.Flaws.{Flaw}
use Rattle.formula_parse.proofs.DerivedFlaws.{formula_flaw}
use Rattle.formula_parse.specs.Runs.{after, run_tokens, run, placed}
use Rattle.formula_parse.specs.Made.{made, trees}
use Rattle.formula_parse.specs.FormulaTrees.{default_system}
use Rattle.formula_parse.proofs.DerivedGrammar.{tree_of, Begins, Breaks, Reaches}
use Rattle.formula_parse.specs.Limits.{IsAllowed}
use Rattle.formula_parse.proofs.Complete.{complete, final}
use Rattle.formula_parse.proofs.Sound.{Sane, GoesOn as ReadsFrom, at_then, state_then, deep, step_goes}
use Rattle.formula_parse.proofs.Completions.{completed}
use Rattle.formula_parse.proofs.Same.{nothing, none, bare, bare_position, bared, step_same, depth_same, placed_same}
use Rattle.formula_parse.specs.Grammar as grammar
use Rattle.formula_parse.proofs.BothGrammars.{breaks, reaches, WholeDerived, Whole, whole}

-- a run over tokens that keep the limits
pub record Walks (prefix : List Token) (s : State made) : Type 0 where
  pub runs : run_tokens trees prefix (start trees default_system) ≡ Some s
  pub state : State parts
  pub same : bare state ≡ bare s
  pub sane : Sane state
  pub read : List Placed
  pub derived_is : (q : List Placed) → state_then state q ≡ read ++ q
  pub tokens_are : map token_of read ≡ prefix
  pub allowed : AllByRecursion IsAllowed read

pub walks_start : Walks [] (start trees default_system)
walks_start = record {
  runs = refl;
  state = start derivations default_system;
  same = refl;
  sane = record { body = record { based = refl; empty = λ e. refl }; frames = tt };
  read = [];
  derived_is = λ q. refl;
  tokens_are = refl;
  allowed = tt;
}

after_after : {X Y Z : Type 0} (o : Option X) (f : X → Option Z) (g : X → Option Y) (k : Y → Option Z) → ((x : X) → f x ≡ after (g x) k) → after o f ≡ after (after o g) k
after_after None f g k h = refl
after_after (Some x) f g k h = h x

after_same : {X Z : Type 0} (o : Option X) (f g : X → Option Z) → ((x : X) → f x ≡ g x) → after o f ≡ after o g
after_same None f g h = refl
after_same (Some x) f g h = h x

run_append : {K : Kinds} (A : Making K) (us ts : List Token) (s : State K) → run_tokens A (us ++ ts) s ≡ after (run_tokens A us s) (λ n. run_tokens A ts n)
run_append A [] ts s = refl
run_append A (u ∷ us) ts s = after_after (step A s u) _ _ _ (λ n. run_append A us ts n)

run_more : {K : Kinds} (A : Making K) (ps qs : List Placed) (s : State K) → run A (ps ++ qs) s ≡ after (run A ps s) (λ n. run A qs n)
run_more A [] qs s = refl
run_more A (p ∷ ps) qs s = after_after (step A s (token_of p)) _ _ _ (λ n. run_more A ps qs n)

pub run_placed : {K : Kinds} (A : Making K) (ps : List Placed) (s : State K) → run_tokens A (map token_of ps) s ≡ run A ps s
run_placed A [] s = refl
run_placed A (p ∷ ps) s = after_same (step A s (token_of p)) _ _ (λ n. run_placed A ps n)

after_one : {X : Type 0} (o : Option X) → after o (λ n. Some n) ≡ o
after_one None = refl
after_one (Some x) = refl

tokens_append : (ps qs : List Placed) → map token_of (ps ++ qs) ≡ map token_of ps ++ map token_of qs
tokens_append [] qs = refl
tokens_append (p ∷ ps) qs = ap (λ ts. token_of p ∷ ts) (tokens_append ps qs)

token_of-placed : {K : Kinds} (p : Position K) (t : Token) (d : ℕ) → token_of (placed p t d) ≡ t
token_of-placed (at_letter c b) (number v) d = refl
token_of-placed (at_value c b) (number v) d = refl
token_of-placed p t d = refl

bare_token : (s : State parts) (n : State made) (t : Token) (d : ℕ) → bare s ≡ bare n → placed s.position t d ≡ placed n.position t d
bare_token s n t d e = sym (placed_same derivations s.position t d) ∙ (ap (λ (z : State nothing). placed z.position t d) e ∙ placed_same trees n.position t d)

deep_depth : (m : State parts) → Sane m → deep m ≡ depth m
deep_depth m a = ap (λ b. within_position m.position (within m.body.tildes b)) (sym a.body.based)

bare_depth : (m : State parts) (n : State made) → Sane m → bare m ≡ bare n → deep m ≡ depth n
bare_depth m n a e = deep_depth m a ∙ (sym (depth_same derivations m) ∙ (ap (λ (z : State nothing). depth z) e ∙ depth_same trees n))

-- a step of the walk: the token is placed as the state says
pub record Walked (prefix : List Token) (s : State made) (t : Token) (n : State made) : Type 0 where
  pub state : State parts
  pub same : bare state ≡ bare n
  pub sane : Sane state
  pub read : List Placed
  pub derived_is : (q : List Placed) → state_then state q ≡ read ++ (placed s.position t (depth n) ∷ q)
  pub tokens_are : map token_of read ≡ prefix
  pub allowed : AllByRecursion IsAllowed read

walked_from : {prefix : List Token} {s : State made} {t : Token} {n : State made} (w : Walks prefix s) (o : Option (State parts)) → ReadsFrom o (state_then w.state) (placed w.state.position t) → bared o ≡ Some (bare n) → Walked prefix s t n
walked_from w None h e = absurd cc
walked_from {s = s} {t = t} {n = n} w (Some m) h e =
    let same : bare m ≡ bare n = cc in
    record {
      state = m;
      same = same;
      sane = h.sane;
      read = w.read;
      derived_is = λ q.
          h.derived_is q
          ∙ (w.derived_is (placed w.state.position t (deep m) ∷ q)
          ∙ ap (λ z. w.read ++ (z ∷ q)) (ap (placed w.state.position t) (bare_depth m n h.sane same) ∙ bare_token w.state s t (depth n) w.same));
      tokens_are = w.tokens_are;
      allowed = w.allowed;
    }

walked : {prefix : List Token} {s : State made} {t : Token} {n : State made} → Walks prefix s → step trees s t ≡ Some n → Walked prefix s t n
walked {s = s} {t = t} {n = n} w e =
    walked_from
    w
    (step derivations w.state t)
    (step_goes w.state t w.sane)
    (sym (step_same derivations w.state t) ∙ (ap (λ (z : State nothing). step none z t) w.same ∙ (step_same trees s t ∙ ap bared e)))

pub walks_step : (prefix : List Token) (s : State made) (t : Token) (n : State made) → Walks prefix s → step trees s t ≡ Some n → IsAllowed (placed s.position t (depth n)) → Walks (prefix ++ t ∷ []) n
walks_step prefix s t n w e a =
    let v = walked {n = n} w e in
    let p = placed s.position t (depth n) in
    record {
      runs =
          run_append trees prefix (t ∷ []) (start trees default_system)
          ∙ (ap (λ (z : Option (State made)). after z (λ m. run_tokens trees (t ∷ []) m)) w.runs ∙ (after_one (step trees s t) ∙ e));
      state = v.state;
      same = v.same;
      sane = v.sane;
      read = v.read ++ p ∷ [];
      derived_is = λ q. v.derived_is q ∙ sym (append_assoc v.read (p ∷ []) q);
      tokens_are =
          tokens_append v.read (p ∷ []) ∙ (ap (λ z. z ++ token_of p ∷ []) v.tokens_are ∙ ap (λ z. prefix ++ z ∷ []) (token_of-placed s.position t (depth n)));
      allowed = all_append IsAllowed v.read (p ∷ []) v.allowed (a, tt);
    }

-- the prefix begins a text
walks_begins : (prefix : List Token) (s : State made) → Walks prefix s → Begins prefix
walks_begins prefix s w =
    let c = completed w.state in
    record {
      text = c.text;
      read = w.read;
      more = c.more;
      goes_on = record { derived_is = c.derived_is ∙ w.derived_is c.more };
      tokens_are = w.tokens_are;
      allowed = w.allowed;
    }

-- a token at which the machine stops goes on in no text
breaks_derived : (prefix : List Token) (s : State made) (t : Token) → Walks prefix s → step trees s t ≡ None → Breaks prefix t
breaks_derived prefix s t w e = record {
  before = walks_begins prefix s w;
  there = λ text read more g h.
      let first = start trees default_system in
      let stops : run trees read first ≡ None =
      sym (run_placed trees read first)
      ∙ (ap (λ ts. run_tokens trees ts first) h
      ∙ (run_append trees prefix (t ∷ []) first
      ∙ (ap (λ (z : Option (State made)). after z (λ m. run_tokens trees (t ∷ []) m)) w.runs ∙ (after_one (step trees s t) ∙ e)))) in
      let goes : run trees (derived_tokens text) first ≡ None =
      ap (λ ps. run trees ps first) g.derived_is
      ∙ (run_more trees read more first ∙ ap (λ (z : Option (State made)). after z (λ m. run trees more m)) stops) in
      let ends = complete trees text default_system in
      cc;
}

pub walks_breaks : (prefix : List Token) (s : State made) (t : Token) → Walks prefix s → step trees s t ≡ None → grammar.Breaks prefix t
walks_breaks prefix s t w e = breaks prefix t (breaks_derived prefix s t w e)

reach_derived : (prefix : List Token) (s : State made) (t : Token) (n : State made) → Walks prefix s → step trees s t ≡ Some n → Reaches prefix t (placed s.position t (depth n))
reach_derived prefix s t n w e =
    let v = walked {n = n} w e in
    let c = completed v.state in
    record {
      text = c.text;
      read = v.read;
      more = c.more;
      goes_on = record { derived_is = c.derived_is ∙ v.derived_is c.more };
      tokens_are = v.tokens_are;
      token_is = token_of-placed s.position t (depth n);
      allowed = v.allowed;
    }

pub walks_reach : (prefix : List Token) (s : State made) (t : Token) (n : State made) → Walks prefix s → step trees s t ≡ Some n → grammar.Reaches prefix t (placed s.position t (depth n))
walks_reach prefix s t n w e = reaches prefix t (placed s.position t (depth n)) (reach_derived prefix s t n w e)

-- a text that was read to its end
done_of : (p : Position parts) → bare_position p ≡ done tt → (g : Formula) × (p ≡ done g)
done_of (done g) e = (g, refl)
done_of at_operand e = absurd cc
done_of at_system e = absurd cc
done_of (at_variable q) e = absurd cc
done_of (after_operand c) e = absurd cc
done_of (after_first n) e = absurd cc
done_of (at_factor h o ss ps p) e = absurd cc
done_of (after_factor h o ss m p q) e = absurd cc
done_of (at_divisor h o ss m p) e = absurd cc
done_of (after_index a n ts t) e = absurd cc
done_of (at_word a) e = absurd cc
done_of (at_bracket a n) e = absurd cc
done_of (at_letter c b) e = absurd cc
done_of (at_value c b) e = absurd cc
done_of (after_letter l) e = absurd cc
done_of at_called e = absurd cc
done_of (at_call n) e = absurd cc
done_of (at_argument n) e = absurd cc

-- the tree and the flaw of a derivation that derives the tokens
tokens_end : (ts : List Token) (text : Formula) → map token_of (derived_tokens text) ≡ ts → run_tokens trees ts (start trees default_system) ≡ Some (final trees (tree_of text) (formula_flaw None text))
tokens_end ts text e =
    ap (λ us. run_tokens trees us (start trees default_system)) (sym e)
    ∙ (run_placed trees (derived_tokens text) (start trees default_system) ∙ complete trees text default_system)

final_done : (s : State made) (f g : trees.Formula) (w : Option Flaw) → Some s ≡ Some (final trees g w) → s.position ≡ done f → (g ≡ f) × (w ≡ s.flaw)
final_done s f g w e h =
    let one : s ≡ final trees g w = cc in
    let place : done f ≡ done g = sym h ∙ ap (λ (z : State made). z.position) one in
    (cc, sym (ap (λ (z : State made). z.flaw) one))

end_derived : (ts : List Token) (s : State made) (f : trees.Formula) → Walks ts s → s.position ≡ done f → WholeDerived ts f s.flaw
end_derived ts s f w e =
    let bare_end : bare_position w.state.position ≡ done tt =
    ap (λ (z : State nothing). z.position) w.same ∙ ap (λ (z : Position made). bare_position z) e in
    let g = done_of w.state.position bare_end in
    let whole : derived_tokens g.0 ≡ w.read = ap (λ (z : Position parts). at_then w.state z []) (sym g.1) ∙ (w.derived_is [] ∙ append-nil w.read) in
    let tokens : map token_of (derived_tokens g.0) ≡ ts = ap (map token_of) whole ∙ w.tokens_are in
    let one = final_done s f (tree_of g.0) (formula_flaw None g.0) (sym w.runs ∙ tokens_end ts g.0 tokens) e in
    record {
      text = g.0;
      derives = record { derived_is = tokens; allowed = subst (AllByRecursion IsAllowed) (sym whole) w.allowed };
      tree_is = one.0;
      flaw_is = one.1;
    }

pub walks_end : (ts : List Token) (s : State made) (f : trees.Formula) → Walks ts s → s.position ≡ done f → Whole ts f s.flaw
walks_end ts s f w e = whole ts f s.flaw (end_derived ts s f w e)

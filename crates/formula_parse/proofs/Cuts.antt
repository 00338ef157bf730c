-- A text stops at one token at most, and not where it is read to its end.
use Rattle.std.proofs.Common.{◌≡◌, refl, sym, ◌∙◌, ap, subst, ℕ, ◌<◌, List, [], ◌∷◌, ◌++◌, append_assoc, map, Option, None, Some, arith}
use Rattle.std.proofs.lemmas.List.{append-nil, map-append, same_from_push}
use Rattle.std.specs.List.{AllByRecursion}
use Rattle.formula_parse.specs.Tokens.{Token, number, Placed, here, value_of, token_of, nesting_of}
use Rattle.formula_parse.proofs.Derivations.{Formula, derived_tokens, parts, derivations}
use Rattle.formula_parse.specs.Flaws.{Flaw}
use Rattle.formula_parse.proofs.DerivedFlaws.{formula_flaw}
use Rattle.formula_parse.specs.Machine.{State, done}
use Rattle.formula_parse.specs.Runs.{run_tokens}
use Rattle.formula_parse.specs.Limits.{IsInRange, IsAllowed}
use Rattle.formula_parse.proofs.DerivedGrammar.{Derives, GoesOn, Begins, Breaks, Reaches}
use Rattle.text_grammar.specs.Spots.{Spot, tokens}
use Rattle.formula_parse.specs.Spots.{spots}
use Rattle.formula_parse.specs.Parsing.{Cut}
use Rattle.formula_parse.proofs.Complete.{final}
use Rattle.formula_parse.proofs.Places.{made_again, read_places, number_shallow, initial_state, placed_from}

-- tokens have one derivation
pub one_derivation : (f g : Formula) → map token_of (derived_tokens f) ≡ map token_of (derived_tokens g) → f ≡ g
one_derivation f g e = one (formula_flaw None f) (formula_flaw None g) (sym (made_again f) ∙ (ap (λ ts. run_tokens derivations ts initial_state) e ∙ made_again g))
  where
    one : (u w : Option Flaw) → Some (final derivations f u) ≡ Some (final derivations g w) → f ≡ g
    one u w h =
        let same : final derivations f u ≡ final derivations g w = cc in
        let place : done f ≡ done g = ap (λ (z : State parts). z.position) same in
        cc

-- tokens that go on in two texts are placed in one way
one_place : (text other : Formula) (read more reads mores : List Placed) → GoesOn text read more → GoesOn other reads mores → map token_of read ≡ map token_of reads → read ≡ reads
one_place text other read more reads mores g h e =
    sym (read_places text read more g)
    ∙ (ap (λ ts. placed_from initial_state ts) e ∙ read_places other reads mores h)

-- no text goes on through a token, within the limits
pub record Stops (prefix : List Token) (token : Token) : Type 0 where
  pub before : Begins prefix
  pub there : (text : Formula) (read more : List Placed) → GoesOn text read more → map token_of read ≡ prefix ++ token ∷ [] → AllByRecursion IsAllowed read → ⊥

all_last : (P : Placed → Type 0) (ps : List Placed) (p : Placed) → AllByRecursion P (ps ++ p ∷ []) → P p
all_last P [] p a = a.0
all_last P (q ∷ ps) p a = all_last P ps p a.1

all_prefix : (P : Placed → Type 0) (ps qs : List Placed) → AllByRecursion P (ps ++ qs) → AllByRecursion P ps
all_prefix P [] qs a = tt
all_prefix P (p ∷ ps) qs a = (a.0, all_prefix P ps qs a.1)

-- the token that is reached has been read
record Through (prefix : List Token) (token : Token) (reached : Placed) (r : Reaches prefix token reached) : Type 0 where
  goes_on : GoesOn r.text (r.read ++ reached ∷ []) r.more
  tokens_are : map token_of (r.read ++ reached ∷ []) ≡ prefix ++ token ∷ []

through : (prefix : List Token) (token : Token) (reached : Placed) (r : Reaches prefix token reached) → Through prefix token reached r
through prefix token reached r = record {
  goes_on = record { derived_is = r.goes_on.derived_is ∙ sym (append_assoc r.read (reached ∷ []) r.more) };
  tokens_are =
      map-append token_of r.read (reached ∷ []) ∙ (ap (λ ts. ts ++ token_of reached ∷ []) r.tokens_are ∙ ap (λ t. prefix ++ t ∷ []) r.token_is);
}

reaches_begins : (prefix : List Token) (token : Token) (reached : Placed) → Reaches prefix token reached → Begins prefix
reaches_begins prefix token reached r = record { text = r.text; read = r.read; more = reached ∷ r.more; goes_on = r.goes_on; tokens_are = r.tokens_are; allowed = r.allowed }

pub breaks_stop : (prefix : List Token) (token : Token) → Breaks prefix token → Stops prefix token
breaks_stop prefix token b = record { before = b.before; there = λ text read more g e a. b.there text read more g e }

pub reaches_stop : (prefix : List Token) (token : Token) (reached : Placed) → Reaches prefix token reached → (IsAllowed reached → ⊥) → Stops prefix token
reaches_stop prefix token reached r h =
    let t = through prefix token reached r in
    record {
      before = reaches_begins prefix token reached r;
      there = λ text read more g e a.
          let same : r.read ++ reached ∷ [] ≡ read =
          one_place r.text text (r.read ++ reached ∷ []) r.more read more t.goes_on g (t.tokens_are ∙ sym e) in
          h (all_last IsAllowed r.read reached (subst (AllByRecursion IsAllowed) (sym same) a));
    }

-- a token that breaks is not reached
pub breaks_reaches : (prefix : List Token) (token : Token) (reached : Placed) → Breaks prefix token → Reaches prefix token reached → ⊥
breaks_reaches prefix token reached b r =
    let t = through prefix token reached r in
    b.there r.text (r.read ++ reached ∷ []) r.more t.goes_on t.tokens_are

-- a token is reached in one place
pub one_reached : (prefix : List Token) (token : Token) (p q : Placed) → Reaches prefix token p → Reaches prefix token q → p ≡ q
one_reached prefix token p q r s =
    let t = through prefix token p r in
    let u = through prefix token q s in
    (same_from_push
    r.read
    s.read
    p
    q
    (one_place r.text s.text (r.read ++ p ∷ []) r.more (s.read ++ q ∷ []) s.more t.goes_on u.goes_on (t.tokens_are ∙ sym u.tokens_are))).1

-- tokens out of their range are numerals, and not too deep
pub not_deep : (prefix : List Token) (token : Token) (p : Placed) → Reaches prefix token p → (IsInRange p → ⊥) → 128 < nesting_of p → ⊥
not_deep prefix token p r h d = by p r h d
  where
    by : (p : Placed) → Reaches prefix token p → (IsInRange p → ⊥) → 128 < nesting_of p → ⊥
    by (here (number n) e) r h d =
        let low = number_shallow r.text r.read r.more (here (number n) e) n (through prefix token (here (number n) e) r).goes_on r.allowed refl in
        omega arith
    by (value_of l e) r h d =
        let low = number_shallow r.text r.read r.more (value_of l e) l.value (through prefix token (value_of l e) r).goes_on r.allowed refl in
        omega arith
    by (here t e) r h d = h tt

-- the prefix of what was read
record Prefix (read : List Placed) (ts : List Token) : Type 0 where
  prefix : List Placed
  rest : List Placed
  is : read ≡ prefix ++ rest
  tokens_are : map token_of prefix ≡ ts

prefix_of : (read : List Placed) (ts us : List Token) → map token_of read ≡ ts ++ us → Prefix read ts
prefix_of read [] us e = record { prefix = []; rest = read; is = refl; tokens_are = refl }
prefix_of [] (t ∷ ts) us e = absurd cc
prefix_of (p ∷ ps) (t ∷ ts) us e =
    let f = prefix_of ps ts us (let h : map token_of ps ≡ ts ++ us = cc in h) in
    let one : token_of p ≡ t = cc in
    record { prefix = p ∷ f.prefix; rest = f.rest; is = ap (λ z. p ∷ z) f.is; tokens_are = cc (f.tokens_are, one) }

-- tokens that go on past a token at which none goes on
stops_before : (prefix : List Token) (token : Token) (rest : List Token) → Stops prefix token → Begins (prefix ++ token ∷ rest) → ⊥
stops_before prefix token rest s b =
    let f = prefix_of b.read (prefix ++ token ∷ []) rest (b.tokens_are ∙ sym (append_assoc prefix (token ∷ []) rest)) in
    s.there
    b.text
    f.prefix
    (f.rest ++ b.more)
    (record { derived_is = b.goes_on.derived_is ∙ (ap (λ z. z ++ b.more) f.is ∙ append_assoc f.prefix f.rest b.more) })
    f.tokens_are
    (all_prefix IsAllowed f.prefix f.rest (subst (AllByRecursion IsAllowed) f.is b.allowed))

-- two places in one list
data Sides (f : List (Spot Token)) (s : Spot Token) (g : List (Spot Token)) (t : Spot Token) : Type 0 where
  at_one : f ≡ g → s ≡ t → Sides f s g t
  before_it : (x : List (Spot Token)) → g ≡ f ++ s ∷ x → Sides f s g t
  after_it : (x : List (Spot Token)) → f ≡ g ++ t ∷ x → Sides f s g t

one_more : (a b : Spot Token) (f : List (Spot Token)) (s : Spot Token) (g : List (Spot Token)) (t : Spot Token) → a ≡ b → Sides f s g t → Sides (a ∷ f) s (b ∷ g) t
one_more a b f s g t e (at_one h k) = at_one (cc) k
one_more a b f s g t e (before_it x h) = before_it x cc
one_more a b f s g t e (after_it x h) = after_it x cc

sides : (f : List (Spot Token)) (s : Spot Token) (r : List (Spot Token)) (g : List (Spot Token)) (t : Spot Token) (q : List (Spot Token)) → f ++ s ∷ r ≡ g ++ t ∷ q → Sides f s g t
sides [] s r [] t q e = at_one refl cc
sides [] s r (b ∷ g) t q e = before_it g cc
sides (a ∷ f) s r [] t q e = after_it f cc
sides (a ∷ f) s r (b ∷ g) t q e = one_more a b f s g t (cc) (sides f s r g t q (cc))

tokens_split : (f : List (Spot Token)) (s : Spot Token) (x : List (Spot Token)) → tokens (f ++ s ∷ x) ≡ tokens f ++ s.token ∷ tokens x
tokens_split f s x = map-append (λ (z : Spot Token). z.token) f (s ∷ x)

pub record SameCut {text : List ℕ} (c d : Cut text) : Type 0 where
  pub prefix : c.prefix ≡ d.prefix
  pub spot : c.spot ≡ d.spot

never_past : (f : List (Spot Token)) (s : Spot Token) (g x : List (Spot Token)) → Stops (tokens f) s.token → Begins (tokens g) → g ≡ f ++ s ∷ x → ⊥
never_past f s g x a b e =
    stops_before (tokens f) s.token (tokens x) a (subst Begins (ap (λ ss. tokens ss) e ∙ tokens_split f s x) b)

pub same_cut : (text : List ℕ) (c d : Cut text) → Stops (tokens c.prefix) c.spot.token → Stops (tokens d.prefix) d.spot.token → SameCut c d
same_cut text c d a b = by (sides c.prefix c.spot c.rest d.prefix d.spot d.rest (sym c.is ∙ d.is))
  where
    by : Sides c.prefix c.spot d.prefix d.spot → SameCut c d
    by (at_one h k) = record { prefix = h; spot = k }
    by (before_it x h) = absurd (never_past c.prefix c.spot d.prefix x a b.before h)
    by (after_it x h) = absurd (never_past d.prefix d.spot c.prefix x b a.before h)

-- a whole text has no such cut
pub whole_stops : (text : List ℕ) (d : Formula) (c : Cut text) → Derives (tokens (spots text)) d → Stops (tokens c.prefix) c.spot.token → ⊥
whole_stops text d c s a =
    stops_before
    (tokens c.prefix)
    c.spot.token
    (tokens c.rest)
    a
    (subst
    Begins
    (ap (λ ss. tokens ss) c.is ∙ tokens_split c.prefix c.spot c.rest)
    (record {
      text = d;
      read = derived_tokens d;
      more = [];
      goes_on = record { derived_is = sym (append-nil (derived_tokens d)) };
      tokens_are = s.derived_is;
      allowed = s.allowed;
    }))

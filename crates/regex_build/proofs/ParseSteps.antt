-- A reading at a byte of the text, and where it stops.
use Rattle.std.proofs.Common.{◌≡◌, refl, sym, ◌∙◌, ap, subst, ℕ, suc, ◌+◌, ◌<◌, ◌≤◌, List, [], ◌∷◌, ◌++◌, append_assoc, append-nil, drop, take, length, map, get_or, Option, None, Some, Ok, Err, arith}
use Rattle.std.specs.Prelude.{ℤ, IsSome}
use Rattle.std.specs.List.{AllByRecursion}
use Rattle.std.proofs.lemmas.List.{map-append, length-append, take_all}
use Rattle.std.proofs.lemmas.List.Elements.{All-from_recursion}
use Rattle.text_grammar.specs.Faults.{Begins}
use Rattle.regex_build.specs.declared.postfix_symbol.PostfixSymbol.{PostfixSymbol}
use Rattle.regex_build.specs.declared.reading.Group.{Group}
use Rattle.regex_build.specs.declared.reading.Stage.{Stage}
use Rattle.regex_build.specs.declared.reading.Stage.TheVariants.{AtPost, After, AtNumber, AfterNumber}
use Rattle.regex_build.specs.declared.lexing.Spot.{Spot as Spot'}
use Rattle.regex_build.specs.declared.fault.Refusal.{Refusal}
use Rattle.regex_build.specs.declared.fault.Refusal.TheVariants as refusals
use Rattle.regex_build.specs.declared.fault.RegexFault.TheVariants as faults
use Rattle.regex_build.specs.Tokens.{Token, other}
use Rattle.text_grammar.specs.Spots.{Spot, spots_from}
use Rattle.text_grammar.specs.Spots as cut
use Rattle.regex_build.specs.Spots.{inside_after, lexing, spots, tokens, byte_of}
use Rattle.regex_build.specs.Grammar.{Derives}
use Rattle.regex_build.specs.Postfix.{tree_of}
use Rattle.regex_build.specs.Patterns.{IsOver}
use Rattle.regex_build.specs.Limits.{Around, nothing, after_token, after_all, IsAllowed, AreAllowed}
use Rattle.regex_build.specs.Parsing.{token_at, IsNumber, IsOpening, IsStuckAt, IsRefusedAt, Parses}
use Rattle.regex_build.specs.Machine.{State, start, step, ended, ended_at, joined, in_bracket}
use Rattle.regex_build.specs.Reading.{token_view, IsNext, around, Gives, fault_at, AreSymbolsOf}
use Rattle.regex_build.proofs.Runs.{run, run-push}
use Rattle.regex_build.proofs.Law.{Reached, reached_start, reached_more, begins, breaks, ends_early, ends}
use Rattle.regex_build.proofs.Keeping.{IsKept, keeps, joined_over}

-- the tokens that were read
pub record HasRead (sets : List (List ℤ)) (ts : List Token) (s : State) : Type 0 where
  pub runs : run (length sets) ts start ≡ Some s
  pub reached : Reached (length sets) ts s
  pub allowed : AreAllowed sets nothing ts
  pub around_is : after_all nothing ts ≡ around s
  pub kept : IsKept sets s

allowed-push : (sets : List (List ℤ)) (a : Around) (ts : List Token) (t : Token) → AreAllowed sets a ts → IsAllowed sets (after_all a ts) t → AreAllowed sets a (ts ++ t ∷ [])
allowed-push sets a [] t h k = (k, tt)
allowed-push sets a (u ∷ ts) t h k = (h.0, allowed-push sets (after_token a u) ts t h.1 k)

after_token-push : (a : Around) (ts : List Token) (t : Token) → after_all a (ts ++ t ∷ []) ≡ after_token (after_all a ts) t
after_token-push a [] t = refl
after_token-push a (u ∷ ts) t = after_token-push (after_token a u) ts t

read_start : (sets : List (List ℤ)) → HasRead sets [] start
read_start sets = record { runs = refl; reached = reached_start (length sets); allowed = tt; around_is = refl; kept = record { symbols = tt; letter = tt } }

read_more : (sets : List (List ℤ)) (ts : List Token) (s n : State) (t : Token) → HasRead sets ts s → step (length sets) s t ≡ Some n → IsAllowed sets (around s) t → HasRead sets (ts ++ t ∷ []) n
read_more sets ts s n t h e a =
    let k = keeps sets s n t e in
    record {
      runs = run-push (length sets) ts t start s h.runs ∙ e;
      reached = reached_more (length sets) ts s n t h.reached e;
      allowed = allowed-push sets nothing ts t h.allowed (subst (λ (x : Around). IsAllowed sets x t) (sym h.around_is) a);
      around_is = after_token-push nothing ts t ∙ (ap (λ (x : Around). after_token x t) h.around_is ∙ k.around_is);
      kept = k.kept a h.kept;
    }

-- the tokens before a byte were read
pub record AtByte (sets : List (List ℤ)) (text : List ℕ) (at : ℕ) (s : State) : Type 0 where
  pub prefix : List (Spot Token)
  pub split : spots text ≡ prefix ++ spots_from lexing (in_bracket s.stage) at 0 (drop at text)
  pub has_read : HasRead sets (cut.tokens prefix) s
  pub within : at ≤ length text

pub byte_start : (sets : List (List ℤ)) (text : List ℕ) (s : State) → s ≡ start → AtByte sets text 0 s
byte_start sets text s e = subst (λ (n : State). AtByte sets text 0 n) (sym e) (record { prefix = []; split = refl; has_read = read_start sets; within = omega arith })

abbrev spot_of : Spot' → Spot Token
spot_of r = record { token = token_view r.token; at = r.at; after = r.end }

pub byte_next : (sets : List (List ℤ)) (text : List ℕ) (at : ℕ) (s n : State) (r : Spot') → AtByte sets text at s → IsNext (in_bracket s.stage) text at r → Gives sets s (token_view r.token) n (Ok tt) → AtByte sets text r.end n
byte_next sets text at s n r p x g =
    let t = token_view r.token in
    let k = keeps sets s n t g.0 in
    let rest = spots_from lexing (inside_after (in_bracket s.stage) t) r.end 0 (drop r.end text) in
    record {
      prefix = p.prefix ++ spot_of r ∷ [];
      split =
          p.split
          ∙ (ap (λ ss. p.prefix ++ ss) x.spots_are
          ∙ (sym (append_assoc p.prefix (spot_of r ∷ []) rest)
          ∙ ap (λ b. (p.prefix ++ spot_of r ∷ []) ++ spots_from lexing b r.end 0 (drop r.end text)) k.inside_is));
      has_read = subst (λ ts. HasRead sets ts n) (sym (map-append (λ (y : Spot Token). y.token) p.prefix (spot_of r ∷ []))) (read_more sets (cut.tokens p.prefix) s n t p.has_read g.0 g.1);
      within = x.within;
    }

-- places in a list after a prefix
take_prefix : {X : Type 0} (xs ys : List X) → take (length xs) (xs ++ ys) ≡ xs
take_prefix [] ys = refl
take_prefix (x ∷ xs) ys = ap (λ w. x ∷ w) (take_prefix xs ys)

take_more : {X : Type 0} (xs : List X) (y : X) (ys : List X) → take (length xs + 1) (xs ++ y ∷ ys) ≡ xs ++ y ∷ []
take_more {X} [] y ys = refl
take_more {X} (x ∷ xs) y ys = let e : length xs + 1 ≡ suc (length xs) = omega arith in let f : suc (length xs) + 1 ≡ suc (length xs + 1) = omega arith in ap (λ k. take k (x ∷ (xs ++ y ∷ ys))) f ∙ ap (λ w. x ∷ w) (take_more xs y ys)

get_prefix : {X : Type 0} (xs : List X) (y : X) (ys : List X) (d : X) → get_or (xs ++ y ∷ ys) (length xs) d ≡ y
get_prefix [] y ys d = refl
get_prefix (x ∷ xs) y ys d = get_prefix xs y ys d

get_past : {X : Type 0} (xs : List X) (d : X) → get_or xs (length xs) d ≡ d
get_past [] d = refl
get_past (x ∷ xs) d = get_past xs d

length-map : {X Y : Type 0} (f : X → Y) (xs : List X) → length (map f xs) ≡ length xs
length-map f [] = refl
length-map f (x ∷ xs) = ap suc (length-map f xs)

-- a token after a prefix
record IsAt (text : List ℕ) (prefix : List (Spot Token)) (spot : Spot Token) : Type 0 where
  index : ℕ
  within : index < length (tokens text)
  prefix_is : take index (tokens text) ≡ cut.tokens prefix
  more_is : take (index + 1) (tokens text) ≡ cut.tokens prefix ++ spot.token ∷ []
  token_is : token_at (tokens text) index ≡ spot.token
  byte_is : byte_of text index ≡ spot.at

is_at : (text : List ℕ) (prefix rest : List (Spot Token)) (spot : Spot Token) → spots text ≡ prefix ++ spot ∷ rest → IsAt text prefix spot
is_at text prefix rest spot e =
    let ts : tokens text ≡ cut.tokens prefix ++ spot.token ∷ cut.tokens rest = ap cut.tokens e ∙ map-append (λ (y : Spot Token). y.token) prefix (spot ∷ rest) in
    let bs : map (λ (y : Spot Token). y.at) (spots text) ≡ map (λ (y : Spot Token). y.at) prefix ++ spot.at ∷ map (λ (y : Spot Token). y.at) rest = ap (map (λ (y : Spot Token). y.at)) e ∙ map-append (λ (y : Spot Token). y.at) prefix (spot ∷ rest) in
    let n : length (tokens text) ≡ length (cut.tokens prefix) + length (spot.token ∷ cut.tokens rest) = ap length ts ∙ length-append (cut.tokens prefix) (spot.token ∷ cut.tokens rest) in
    let m : length (cut.tokens prefix) ≡ length (map (λ (y : Spot Token). y.at) prefix) = length-map (λ (y : Spot Token). y.token) prefix ∙ sym (length-map (λ (y : Spot Token). y.at) prefix) in
    record {
      index = length (cut.tokens prefix);
      within = omega (arith, n);
      prefix_is = ap (take (length (cut.tokens prefix))) ts ∙ take_prefix (cut.tokens prefix) (spot.token ∷ cut.tokens rest);
      more_is = ap (take (length (cut.tokens prefix) + 1)) ts ∙ take_more (cut.tokens prefix) spot.token (cut.tokens rest);
      token_is = ap (λ us. token_at us (length (cut.tokens prefix))) ts ∙ get_prefix (cut.tokens prefix) spot.token (cut.tokens rest) other;
      byte_is =
          ap (λ (us : List ℕ). get_or us (length (cut.tokens prefix)) (length text)) bs
          ∙ (ap (λ k. get_or (map (λ (y : Spot Token). y.at) prefix ++ spot.at ∷ map (λ (y : Spot Token). y.at) rest) k (length text)) m
          ∙ get_prefix (map (λ (y : Spot Token). y.at) prefix) spot.at (map (λ (y : Spot Token). y.at) rest) (length text));
    }

stuck : (sets : List (List ℤ)) (text : List ℕ) (s : State) (prefix : List (Spot Token)) (spot : Spot Token) (i : IsAt text prefix spot) → HasRead sets (cut.tokens prefix) s → step (length sets) s spot.token ≡ None → IsStuckAt sets (tokens text) i.index
stuck sets text s prefix spot i h none =
    let within = i.within in
    record {
      breaks = record {
        within = omega (arith, within);
        before = subst (Begins (Derives (length sets))) (sym i.prefix_is) (begins (length sets) (cut.tokens prefix) s h.reached);
        there = λ l b. breaks (length sets) (cut.tokens prefix) s spot.token h.runs none (subst (Begins (Derives (length sets))) i.more_is b);
        end = λ e. absurd (omega (arith, within, e));
      };
      before = subst (AreAllowed sets nothing) (sym i.prefix_is) h.allowed;
    }

refused : (sets : List (List ℤ)) (text : List ℕ) (s : State) (prefix : List (Spot Token)) (spot : Spot Token) (i : IsAt text prefix spot) (o : Option State) → HasRead sets (cut.tokens prefix) s → step (length sets) s spot.token ≡ o → IsSome o → (IsAllowed sets (around s) spot.token → ⊥) → IsRefusedAt sets (tokens text) i.index
refused sets text s prefix spot i None h e k never = absurd cc
refused sets text s prefix spot i (Some n) h e k never = record {
  within = i.within;
  begins = subst (Begins (Derives (length sets))) (sym i.more_is) (begins (length sets) (cut.tokens prefix ++ spot.token ∷ []) n (reached_more (length sets) (cut.tokens prefix) s n spot.token h.reached e));
  before = subst (AreAllowed sets nothing) (sym i.prefix_is) h.allowed;
  refused = λ a. never (
      subst (λ (x : Around). IsAllowed sets x spot.token) (ap (after_all nothing) i.prefix_is ∙ h.around_is)
      (subst (λ (t : Token). IsAllowed sets (after_all nothing (take i.index (tokens text))) t) i.token_is a));
}

-- a token is not read
pub byte_fault : (sets : List (List ℤ)) (text : List ℕ) (at : ℕ) (s n : State) (r : Spot') (refusal : Refusal) → AtByte sets text at s → IsNext (in_bracket s.stage) text at r → Gives sets s (token_view r.token) n (Err refusal) → Parses sets text (Err (fault_at refusal r.at))
byte_fault sets text at s n r refusal p x g = by_refusal refusal g (is_at text p.prefix _ (spot_of r) (p.split ∙ ap (λ ss. p.prefix ++ ss) x.spots_are))
  where
    by_refusal : (f : Refusal) → Gives sets s (token_view r.token) n (Err f) → IsAt text p.prefix (spot_of r) → Parses sets text (Err (fault_at f r.at))
    by_refusal refusals.Syntax g i = (i.index, sym i.byte_is, stuck sets text s p.prefix (spot_of r) i p.has_read g)
    by_refusal refusals.Number g i =
        (i.index, sym i.byte_is, refused sets text s p.prefix (spot_of r) i _ p.has_read refl g.0 g.2, subst IsNumber (sym i.token_is) g.1)
    by_refusal refusals.Depth g i =
        (i.index, sym i.byte_is, refused sets text s p.prefix (spot_of r) i _ p.has_read refl g.0 g.2, subst IsOpening (sym i.token_is) g.1)
    by_refusal refusals.Memory g i = tt

-- the whole text was read
whole : (sets : List (List ℤ)) (text : List ℕ) (at : ℕ) (s : State) (p : AtByte sets text at s) → spots_from lexing (in_bracket s.stage) at 0 (drop at text) ≡ [] → tokens text ≡ cut.tokens p.prefix
whole sets text at s p e = ap cut.tokens (p.split ∙ (ap (λ ss. p.prefix ++ ss) e ∙ append-nil p.prefix))

-- the text ends too early
pub byte_early : (sets : List (List ℤ)) (text : List ℕ) (at : ℕ) (s : State) → AtByte sets text at s → spots_from lexing (in_bracket s.stage) at 0 (drop at text) ≡ [] → ended s ≡ None → Parses sets text (Err (faults.Syntax (length text)))
byte_early sets text at s p e none =
    let w = whole sets text at s p e in
    let h = p.has_read in
    let all : take (length (tokens text)) (tokens text) ≡ cut.tokens p.prefix = take_all (length (tokens text)) (tokens text) (omega arith) ∙ w in
    let m : length (tokens text) ≡ length (map (λ (y : Spot Token). y.at) (spots text)) = length-map (λ (y : Spot Token). y.token) (spots text) ∙ sym (length-map (λ (y : Spot Token). y.at) (spots text)) in (
      length (tokens text),
      sym (ap (λ k. get_or (map (λ (y : Spot Token). y.at) (spots text)) k (length text)) m ∙ get_past (map (λ (y : Spot Token). y.at) (spots text)) (length text)),
      record {
        breaks = record {
          within = omega arith;
          before = subst (Begins (Derives (length sets))) (sym all) (begins (length sets) (cut.tokens p.prefix) s h.reached);
          there = λ l. absurd (omega arith);
          end = λ _ tree g. ends_early (length sets) (cut.tokens p.prefix) s tree h.runs none (subst (λ ts. Derives (length sets) ts tree) w g);
        };
        before = subst (AreAllowed sets nothing) (sym all) h.allowed;
      },
    )

symbols_over : (sets : List (List ℤ)) (s : State) (symbols : List PostfixSymbol) → IsKept sets s → ended s ≡ Some symbols → AllByRecursion (IsOver sets) symbols
symbols_over sets s symbols k e = at_end s.outer s.stage e
  where
    at_end : (os : List Group) (p : Stage) → ended_at os p s ≡ Some symbols → AllByRecursion (IsOver sets) symbols
    at_end [] After e = let f : (joined s).symbols ≡ symbols = cc in subst (AllByRecursion (IsOver sets)) f (joined_over sets s k.symbols)
    at_end [] AtPost e = absurd cc
    at_end [] AtNumber e = absurd cc
    at_end [] AfterNumber e = absurd cc
    at_end (g ∷ os) p e = absurd cc

pub byte_end : (sets : List (List ℤ)) (text : List ℕ) (at : ℕ) (s : State) (symbols : List PostfixSymbol) → AtByte sets text at s → spots_from lexing (in_bracket s.stage) at 0 (drop at text) ≡ [] → ended s ≡ Some symbols → AreSymbolsOf sets text symbols
byte_end sets text at s symbols p e done =
    let w = whole sets text at s p e in
    let h = p.has_read in
    let x = ends (length sets) (cut.tokens p.prefix) s symbols h.reached done in
    record {
      postfix = x.postfix;
      letters = All-from_recursion (IsOver sets) symbols (symbols_over sets s symbols h.kept done);
      text_of = record {
        derives = subst (λ ts. Derives (length sets) ts (tree_of symbols)) (sym w) x.derives;
        allowed = subst (AreAllowed sets nothing) (sym w) h.allowed;
        sets_are = refl;
      };
    }

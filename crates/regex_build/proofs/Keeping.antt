-- What a token that is read keeps.
use Rattle.std.proofs.Common.{◌≡◌, refl, ap, subst, suc, Bool, true, false, List, [], ◌∷◌, ◌++◌, length, Option, None, Some, arith}
use Rattle.std.specs.Prelude.{ℤ, pos, nat_lt, ◌==◌, Contains, ⊤}
use Rattle.std.specs.List.{AllByRecursion}
use Rattle.std.proofs.lemmas.List.{length-append}
use Rattle.std.proofs.lemmas.Bool.Decides.{nat_tests}
use Rattle.digit_tuple.proofs.AllLemmas.{all_append}
use Rattle.regex_build.specs.declared.postfix_symbol.PostfixSymbol.{PostfixSymbol}
use Rattle.regex_build.specs.declared.postfix_symbol.PostfixSymbol.TheVariants as kinds
use Rattle.regex_build.specs.declared.reading.Group.{Group}
use Rattle.regex_build.specs.declared.reading.Stage.{Stage}
use Rattle.regex_build.specs.declared.reading.Stage.TheVariants.{AtPost, After, AtNumber, AfterNumber}
use Rattle.regex_build.specs.Tokens.{Token, bar, star, plus, optional, dot, opening, closing, bracket, comma, unbracket, digit, number, other}
use Rattle.regex_build.specs.Spots.{inside_after}
use Rattle.regex_build.specs.Patterns.{AreMembers, IsOver}
use Rattle.regex_build.specs.Limits.{Around, after_token, set_at, IsAllowed}
use Rattle.regex_build.specs.Machine.{State, gate, symbol_if, pushed, followed, joined, is_fresh, close, enter, step, in_bracket}
use Rattle.regex_build.specs.Reading.{around}
use Rattle.regex_build.proofs.ListSteps.{contains_none}
use Rattle.regex_build.proofs.Runs.{st}

-- the numbers are members of the first sets
abbrev pub Partly : List (List ℤ) → List ℤ → Type 0
Partly sets [] = ⊤
Partly [] (z ∷ zs) = ⊥
Partly (set ∷ sets) (z ∷ zs) = Contains set z × Partly sets zs

partly_more : (sets : List (List ℤ)) (zs : List ℤ) (z : ℤ) → Partly sets zs → Contains (set_at sets (length zs)) z → Partly sets (zs ++ z ∷ [])
partly_more [] [] z h k = contains_none z k
partly_more [] (y ∷ zs) z h k = absurd h
partly_more (set ∷ sets) [] z h k = (k, tt)
partly_more (set ∷ sets) (y ∷ zs) z h k = (h.0, partly_more sets zs z h.1 k)

partly_all : (sets : List (List ℤ)) (zs : List ℤ) → Partly sets zs → length zs ≡ length sets → AreMembers sets zs
partly_all [] [] h e = tt
partly_all [] (z ∷ zs) h e = absurd h
partly_all (set ∷ sets) [] h e = absurd (omega arith)
partly_all (set ∷ sets) (z ∷ zs) h e = (h.0, partly_all sets zs h.1 (omega arith))

-- the letters so far have a member of each set
pub record IsKept (sets : List (List ℤ)) (s : State) : Type 0 where
  pub symbols : AllByRecursion (IsOver sets) s.symbols
  pub letter : Partly sets s.letter

pub record Keeps (sets : List (List ℤ)) (s : State) (inside : Bool) (t : Token) (n : State) : Type 0 where
  pub around_is : after_token (around s) t ≡ around n
  pub inside_is : inside_after inside t ≡ in_bracket n.stage
  pub kept : IsAllowed sets (around s) t → IsKept sets s → IsKept sets n

abbrev pub KeepsIf : List (List ℤ) → State → Bool → Token → Option State → Type 0
KeepsIf sets s inside t None = ⊤
KeepsIf sets s inside t (Some n) = Keeps sets s inside t n

gated : (sets : List (List ℤ)) (s : State) (inside : Bool) (t : Token) (b : Bool) (o : Option State) → (b ≡ true → KeepsIf sets s inside t o) → KeepsIf sets s inside t (gate b o)
gated sets s inside t true o h = h refl
gated sets s inside t false o h = tt

pushed_over : (sets : List (List ℤ)) (ss : List PostfixSymbol) (x : PostfixSymbol) → IsOver sets x → AllByRecursion (IsOver sets) ss → AllByRecursion (IsOver sets) (ss ++ x ∷ [])
pushed_over sets ss x h k = all_append (IsOver sets) ss (x ∷ []) k (h, tt)

if_over : (sets : List (List ℤ)) (b : Bool) (ss : List PostfixSymbol) (x : PostfixSymbol) → IsOver sets x → AllByRecursion (IsOver sets) ss → AllByRecursion (IsOver sets) (symbol_if b x ss)
if_over sets true ss x h k = pushed_over sets ss x h k
if_over sets false ss x h k = k

pub joined_over : (sets : List (List ℤ)) (s : State) → AllByRecursion (IsOver sets) s.symbols → AllByRecursion (IsOver sets) (joined s).symbols
joined_over sets s k = if_over sets s.group.alternatives (followed s).symbols kinds.Either tt (if_over sets s.group.sequence s.symbols kinds.Follow tt k)

module _ (sets : List (List ℤ)) where
  pushes : (os : List Group) (g : Group) (p : Stage) (l : List ℤ) (ss : List PostfixSymbol) (t : Token) (x : PostfixSymbol) → after_token (around (st os g p l ss)) t ≡ around (st os g p l ss) → inside_after false t ≡ false → (IsAllowed sets (around (st os g p l ss)) t → IsOver sets x) → Keeps sets (st os g p l ss) false t (pushed (st os g p l ss) x)
  pushes os g p l ss t x e f o = record { around_is = e; inside_is = f; kept = λ a k. record { symbols = pushed_over sets ss x (o a) k.symbols; letter = k.letter } }

  enters : (os : List Group) (g : Group) (p : Stage) (l : List ℤ) (ss : List PostfixSymbol) (t : Token) → KeepsIf sets (st os g p l ss) false t (enter (length sets) (st os g p l ss) t)
  enters os g p l ss (digit d) =
      gated sets (st os g p l ss) false (digit d) (length sets == 1) _
      (λ e. gated sets (st os g p l ss) false (digit d) (nat_lt d 10) _
      (λ f. pushes os g p l ss (digit d) (kinds.Letter (pos d ∷ [])) refl refl
      (λ a. partly_all sets (pos d ∷ []) (partly_more sets [] (pos d) tt a.1) (let same : length sets ≡ 1 = grind (arith, nat_tests) in omega (arith, same)))))
  enters os g p l ss dot = pushes os g p l ss dot kinds.Any refl refl (λ a. tt)
  enters os g p l ss opening = record { around_is = refl; inside_is = refl; kept = λ a k. record { symbols = k.symbols; letter = k.letter } }
  enters os g p l ss bracket =
      gated sets (st os g p l ss) false bracket (nat_lt 0 (length sets)) _ (λ e. record { around_is = refl; inside_is = refl; kept = λ a k. record { symbols = k.symbols; letter = k.letter } })
  enters os g p l ss bar = tt
  enters os g p l ss star = tt
  enters os g p l ss plus = tt
  enters os g p l ss optional = tt
  enters os g p l ss closing = tt
  enters os g p l ss comma = tt
  enters os g p l ss unbracket = tt
  enters os g p l ss (number z) = tt
  enters os g p l ss other = tt

  closes : (os : List Group) (g : Group) (p : Stage) (l : List ℤ) (ss us : List PostfixSymbol) (h : Group) (q : Stage) → (AllByRecursion (IsOver sets) ss → AllByRecursion (IsOver sets) us) → KeepsIf sets (st os g p l ss) false closing (close os (st os h q l us))
  closes [] g p l ss us h q o = tt
  closes (f ∷ os) g p l ss us h q o = record { around_is = refl; inside_is = refl; kept = λ a k. record { symbols = o k.symbols; letter = k.letter } }

  -- where a sequence ends with a post first
  from_followed : (os : List Group) (g : Group) (l : List ℤ) (ss : List PostfixSymbol) (t : Token) (o : Option State) → KeepsIf sets (followed (st os g After l ss)) false t o → KeepsIf sets (st os g After l ss) false t o
  from_followed os g l ss t None h = tt
  from_followed os g l ss t (Some n) h = record {
    around_is = h.around_is;
    inside_is = h.inside_is;
    kept = λ a k. h.kept a (record { symbols = if_over sets g.sequence ss kinds.Follow tt k.symbols; letter = k.letter });
  }

  new_post : (os : List Group) (g : Group) (l : List ℤ) (ss : List PostfixSymbol) (t : Token) → KeepsIf sets (st os g After l ss) false t (enter (length sets) (followed (st os g After l ss)) t)
  new_post os g l ss t = from_followed os g l ss t _ (enters os (record g { sequence = true }) After l (symbol_if g.sequence kinds.Follow ss) t)

  keeps_at : (os : List Group) (g : Group) (p : Stage) (l : List ℤ) (ss : List PostfixSymbol) (t : Token) → KeepsIf sets (st os g p l ss) (in_bracket p) t (step (length sets) (st os g p l ss) t)
  keeps_at os g AtPost l ss closing =
      gated sets (st os g AtPost l ss) false closing (is_fresh g) _ (λ e. closes os g AtPost l ss (ss ++ kinds.Empty ∷ []) g After (λ k. pushed_over sets ss kinds.Empty tt k))
  keeps_at os g AtPost l ss (digit d) = enters os g AtPost l ss (digit d)
  keeps_at os g AtPost l ss dot = enters os g AtPost l ss dot
  keeps_at os g AtPost l ss opening = enters os g AtPost l ss opening
  keeps_at os g AtPost l ss bracket = enters os g AtPost l ss bracket
  keeps_at os g AtPost l ss bar = tt
  keeps_at os g AtPost l ss star = tt
  keeps_at os g AtPost l ss plus = tt
  keeps_at os g AtPost l ss optional = tt
  keeps_at os g AtPost l ss comma = tt
  keeps_at os g AtPost l ss unbracket = tt
  keeps_at os g AtPost l ss (number z) = tt
  keeps_at os g AtPost l ss other = tt
  keeps_at os g After l ss star = pushes os g After l ss star kinds.Star refl refl (λ a. tt)
  keeps_at os g After l ss plus = pushes os g After l ss plus kinds.Plus refl refl (λ a. tt)
  keeps_at os g After l ss optional = pushes os g After l ss optional kinds.Optional refl refl (λ a. tt)
  keeps_at os g After l ss bar = record { around_is = refl; inside_is = refl; kept = λ a k. record { symbols = joined_over sets (st os g After l ss) k.symbols; letter = k.letter } }
  keeps_at os g After l ss closing =
      closes os g After l ss (joined (st os g After l ss)).symbols (record { alternatives = true; sequence = false }) After (λ k. joined_over sets (st os g After l ss) k)
  keeps_at os g After l ss (digit d) = new_post os g l ss (digit d)
  keeps_at os g After l ss dot = new_post os g l ss dot
  keeps_at os g After l ss opening = new_post os g l ss opening
  keeps_at os g After l ss bracket = new_post os g l ss bracket
  keeps_at os g After l ss comma = tt
  keeps_at os g After l ss unbracket = tt
  keeps_at os g After l ss (number z) = tt
  keeps_at os g After l ss other = tt
  keeps_at os g AtNumber l ss (number z) =
      let e : suc (length l) ≡ length (l ++ z ∷ []) = (let f = length-append l (z ∷ []) in omega (arith, f)) in
      record {
        around_is = ap (λ n. let x : Around = record { nesting = length os; numbers = n } in x) e;
        inside_is = refl;
        kept = λ a k. record { symbols = k.symbols; letter = partly_more sets l z k.letter a.1 };
      }
  keeps_at os g AtNumber l ss _ = tt
  keeps_at os g AfterNumber l ss comma =
      gated sets (st os g AfterNumber l ss) true comma (nat_lt (length l) (length sets)) _ (λ e. record { around_is = refl; inside_is = refl; kept = λ a k. record { symbols = k.symbols; letter = k.letter } })
  keeps_at os g AfterNumber l ss unbracket =
      gated sets (st os g AfterNumber l ss) true unbracket (length l == length sets) _
      (λ e. record {
        around_is = refl;
        inside_is = refl;
        kept = λ a k. record { symbols = pushed_over sets ss (kinds.Letter l) (partly_all sets l k.letter (grind (arith, nat_tests))) k.symbols; letter = tt };
      })
  keeps_at os g AfterNumber l ss _ = tt

-- after a token that is read
pub keeps : (sets : List (List ℤ)) (s n : State) (t : Token) → step (length sets) s t ≡ Some n → Keeps sets s (in_bracket s.stage) t n
keeps sets s n t e = subst (λ (o : Option State). KeepsIf sets s (in_bracket s.stage) t o) e (keeps_at sets s.outer s.group s.stage s.letter s.symbols t)

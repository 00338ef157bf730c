-- The parser at a byte of the text.
use Rattle.std.proofs.Common.{◌≡◌, refl, sym, ◌∙◌, ap, subst, ℕ, ◌<◌, ◌≤◌, List, [], ◌∷◌, ◌++◌, append_assoc, drop, length, Option, None, Some, Result, Ok, Err, arith}
use Rattle.std.specs.Prelude.{IsSomeAnd}
use Rattle.std.proofs.lemmas.List.{map-append}
use Rattle.formula_parse.specs.Tokens as tokens
use Rattle.formula_parse.specs.Machine as machine
use Rattle.formula_parse.specs.Machine.{done, step, start, depth}
use Rattle.formula_parse.specs.Runs.{placed}
use Rattle.formula_parse.specs.Made.{trees as making}
use Rattle.formula_parse.specs.FormulaTrees.{default_system}
use Rattle.formula_parse.specs.Limits.{IsInRange, IsAllowed, fault_byte}
use Rattle.text_grammar.specs.Spots.{Spot, spots_from, tokens as tokens_of}
use Rattle.formula_parse.specs.Spots.{Mode, plain, mode_after, lexing, spots}
use Rattle.formula_parse.specs.Views.{formula_view}
use Rattle.formula_parse.specs.StateViews.{Machine, position_view, state_view, noted_view}
use Rattle.formula_parse.specs.LexemeViews.{lexed_view, unless_end, IsNext}
use Rattle.formula_parse.specs.Advances.{Advances, IsDone, Flawed, FinishesAt, Finishes}
use Rattle.formula_parse.specs.Parsing.{Cut, IsNumberAt, IsDepthAt, Parses}
use Rattle.formula_parse.specs.declared.flaw.Flaw.{Flaw}
use Rattle.formula_parse.specs.declared.flaw.Flaw.TheVariants as flaw
use Rattle.formula_parse.specs.declared.lexing.Spot.{Spot as Read}
use Rattle.formula_parse.specs.declared.state.State.{State}
use Rattle.formula_parse.specs.declared.state.Position.{Position}
use Rattle.formula_parse.specs.declared.state.Position.TheVariants as positions
use Rattle.formula_parse.specs.declared.tree.Formula.{Formula}
use Rattle.formula_parse.specs.declared.fault.ParseFault.{ParseFault}
use Rattle.formula_parse.specs.declared.fault.ParseFault.TheVariants as faults
use Rattle.formula_parse.proofs.Ends.{EndsDone, step_done}
use Rattle.formula_parse.proofs.Law.{Walks, walks_start, walks_step, walks_breaks, walks_reach, walks_end}
use Rattle.formula_parse.proofs.BothGrammars.{Whole}
use Rattle.formula_parse.proofs.SpotSteps.{NotEnd, unless_end_token}

-- the machine has read the tokens before a byte
pub record AtPlace (text : List ℕ) (m : Mode) (at : ℕ) (s : Machine) : Type 0 where
  pub prefix : List (Spot tokens.Token)
  pub split : spots text ≡ prefix ++ spots_from lexing m at 0 (drop at text)
  pub walks : Walks (tokens_of prefix) s
  pub within : at ≤ length text

pub place_start : (text : List ℕ) (s : Machine) → s ≡ start making default_system → AtPlace text plain 0 s
place_start text s e = subst (λ (n : Machine). AtPlace text plain 0 n) (sym e) (record { prefix = []; split = refl; walks = walks_start; within = omega arith })

abbrev spot_of : Read → Spot tokens.Token
spot_of r = record { token = lexed_view r.lexed; at = r.at; after = r.end }

abbrev cut_of : (text : List ℕ) (m : Mode) (at : ℕ) (s : Machine) (r : Read) → AtPlace text m at s → IsNext m text at r → Cut text
cut_of text m at s r p n = record { prefix = p.prefix; spot = spot_of r; rest = _; is = p.split ∙ ap (λ ss. p.prefix ++ ss) n.spots_are }

walks_more : (prefix : List (Spot tokens.Token)) (r : Read) (s n : Machine) → Walks (tokens_of prefix) s → step making s (lexed_view r.lexed) ≡ Some n → IsAllowed (placed s.position (lexed_view r.lexed) (depth n)) → Walks (tokens_of (prefix ++ spot_of r ∷ [])) n
walks_more prefix r s n w e a =
    subst
    (λ ts. Walks ts n)
    (sym (map-append (λ (x : Spot tokens.Token). x.token) prefix (spot_of r ∷ [])))
    (walks_step (tokens_of prefix) s (lexed_view r.lexed) n w e a)

pub place_next : (text : List ℕ) (m k : Mode) (at : ℕ) (s : Machine) (r : Read) (n : State) → AtPlace text m at s → IsNext m text at r → Advances s (lexed_view r.lexed) r.at (Ok n) → k ≡ mode_after (lexed_view r.lexed) → (lexed_view r.lexed ≡ tokens.end → ⊥) → AtPlace text k r.end (state_view n)
place_next text m k at s r n p x a e not_end =
    let rest = spots_from lexing (mode_after (lexed_view r.lexed)) r.end 0 (drop r.end text) in
    subst
    (λ j. AtPlace text j r.end (state_view n))
    (sym e)
    (record {
      prefix = p.prefix ++ spot_of r ∷ [];
      split =
          p.split
          ∙ (ap (λ ss. p.prefix ++ ss) (x.spots_are ∙ ap (λ ss. spot_of r ∷ ss) (unless_end_token (lexed_view r.lexed) rest (differs (lexed_view r.lexed) not_end)))
          ∙ sym (append_assoc p.prefix (spot_of r ∷ []) rest));
      walks = walks_more p.prefix r s (state_view n) p.walks a.0 a.1;
      within = x.within;
    })
  where
    differs : (t : tokens.Token) → (t ≡ tokens.end → ⊥) → NotEnd t
    differs tokens.end h = h refl
    differs t h = tt

number_from : (text : List ℕ) (s : Machine) (b : ℕ) (c : Cut text) (o : Option Machine) → step making s c.spot.token ≡ o → Walks (tokens_of c.prefix) s → IsSomeAnd o (λ n. (IsInRange (placed s.position c.spot.token (depth n)) → ⊥) × (fault_byte (placed s.position c.spot.token (depth n)) c.spot.at ≡ b)) → IsNumberAt text b
number_from text s b c None e w h = absurd h
number_from text s b c (Some n) e w h = record {
  cut = c;
  passes = record {
    reached = placed s.position c.spot.token (depth n);
    reaches = walks_reach (tokens_of c.prefix) s c.spot.token n w e;
    out = h.0;
    byte_is = h.1;
  };
}

nesting_of-placed : {K : _} (p : machine.Position K) (t : tokens.Token) (d : ℕ) → tokens.nesting_of (placed p t d) ≡ d
nesting_of-placed (machine.at_letter c b) (tokens.number v) d = refl
nesting_of-placed (machine.at_value c b) (tokens.number v) d = refl
nesting_of-placed p t d = refl

depth_from : (text : List ℕ) (s : Machine) (b : ℕ) (c : Cut text) (o : Option Machine) → step making s c.spot.token ≡ o → Walks (tokens_of c.prefix) s → IsSomeAnd o (λ n. 128 < depth n) → c.spot.at ≡ b → IsDepthAt text b
depth_from text s b c None e w h k = absurd h
depth_from text s b c (Some n) e w h k =
    let nest = nesting_of-placed s.position c.spot.token (depth n) in
    record {
      cut = c;
      passes = record {
        reached = placed s.position c.spot.token (depth n);
        reaches = walks_reach (tokens_of c.prefix) s c.spot.token n w e;
        deep = omega (arith, nest, h);
      };
      at_is = k;
    }

-- a fault at a token
pub place_fault : (text : List ℕ) (m : Mode) (at : ℕ) (s : Machine) (r : Read) (e : ParseFault) → AtPlace text m at s → IsNext m text at r → Advances s (lexed_view r.lexed) r.at (Err e) → Parses text (Err e)
place_fault text m at s r (faults.Syntax b) p x a =
    record { cut = cut_of text m at s r p x; breaks = walks_breaks (tokens_of p.prefix) s (lexed_view r.lexed) p.walks a.0; at_is = sym a.1 }
place_fault text m at s r (faults.Number b) p x a = number_from text s b (cut_of text m at s r p x) _ refl p.walks a
place_fault text m at s r (faults.Depth b) p x a = depth_from text s b (cut_of text m at s r p x) _ refl p.walks a.0 (sym a.1)
place_fault text m at s r (faults.MixedChain b) p x a = absurd a
place_fault text m at s r (faults.NotLinear b) p x a = absurd a
place_fault text m at s r faults.Memory p x a = tt

-- after the end the machine is done
pub place_done : (s : Machine) (t : tokens.Token) (b : ℕ) (n : State) → t ≡ tokens.end → Advances s t b (Ok n) → IsDone (position_view n.position)
place_done s t b n e a =
    subst (λ (o : Option Machine). EndsDone o) a.0 (subst (λ (u : tokens.Token). EndsDone (step making s u)) (sym e) (step_done making s))

flawed_parses : (text : List ℕ) (f : Formula) (w : Option Flaw) (result : Result Formula ParseFault) → Whole (tokens_of (spots text)) (formula_view f) (noted_view w) → Flawed f w result → Parses text result
flawed_parses text f None result e h =
    subst (λ (x : Result Formula ParseFault). Parses text x) (sym h) (record { text = e.text; derives = e.derives; flawless = e.flaw_is; tree_is = e.tree_is })
flawed_parses text f (Some (flaw.MixedChain b)) result e h =
    subst (λ (x : Result Formula ParseFault). Parses text x) (sym h) (record { text = e.text; derives = e.derives; flaw_is = e.flaw_is })
flawed_parses text f (Some (flaw.NotLinear b)) result e h =
    subst (λ (x : Result Formula ParseFault). Parses text x) (sym h) (record { text = e.text; derives = e.derives; flaw_is = e.flaw_is })

finished : (text : List ℕ) (n : State) (p : Position) (result : Result Formula ParseFault) → n.position ≡ p → Walks (tokens_of (spots text)) (state_view n) → IsDone (position_view p) → FinishesAt p n.context.around.flaw result → Parses text result
finished text n (positions.Done f) result e w d h =
    flawed_parses text f n.context.around.flaw result (walks_end (tokens_of (spots text)) (state_view n) (formula_view f) w (ap position_view e)) h
finished text n positions.AtOperand result e w d h = absurd d
finished text n positions.AtSystem result e w d h = absurd d
finished text n (positions.AtVariable b) result e w d h = absurd d
finished text n (positions.AfterOperand f) result e w d h = absurd d
finished text n (positions.AfterFirst m) result e w d h = absurd d
finished text n (positions.AtFactor r) result e w d h = absurd d
finished text n (positions.AfterFactor r p') result e w d h = absurd d
finished text n (positions.AtDivisor r) result e w d h = absurd d
finished text n (positions.AfterIndex p' t) result e w d h = absurd d
finished text n (positions.AtWord a) result e w d h = absurd d
finished text n (positions.AtBracket a m) result e w d h = absurd d
finished text n (positions.AtLetter c b) result e w d h = absurd d
finished text n (positions.AtValue c b) result e w d h = absurd d
finished text n (positions.AfterLetter l) result e w d h = absurd d
finished text n positions.AtCalled result e w d h = absurd d
finished text n (positions.AtCall m) result e w d h = absurd d
finished text n (positions.AtArgument m) result e w d h = absurd d

-- a text that was read to its end
pub place_finish : (text : List ℕ) (m : Mode) (at : ℕ) (s : Machine) (r : Read) (n : State) (result : Result Formula ParseFault) → AtPlace text m at s → IsNext m text at r → lexed_view r.lexed ≡ tokens.end → Advances s (lexed_view r.lexed) r.at (Ok n) → Finishes n result → Parses text result
place_finish text m at s r n result p x e a h =
    let rest = spots_from lexing (mode_after (lexed_view r.lexed)) r.end 0 (drop r.end text) in
    let last : unless_end (lexed_view r.lexed) rest ≡ [] = ap (λ t. unless_end t rest) e in
    let all : spots text ≡ p.prefix ++ spot_of r ∷ [] = p.split ∙ ap (λ ss. p.prefix ++ ss) (x.spots_are ∙ ap (λ ss. spot_of r ∷ ss) last) in
    finished
    text
    n
    n.position
    result
    refl
    (subst (λ ss. Walks (tokens_of ss) (state_view n)) (sym all) (walks_more p.prefix r s (state_view n) p.walks a.0 a.1))
    (place_done s (lexed_view r.lexed) r.at n e a)
    h

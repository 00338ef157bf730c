-- A step at any position, with the limits.
use Rattle.std.proofs.Common.{◌≡◌, refl, sym, subst, ℕ, ◌<◌, ◌≤◌, min, true, false, Option, None, Some, Ok, Err, arith}
use Rattle.std.specs.Prelude.{IsSome, IsSomeAnd}
use Rattle.formula_parse.specs.Tokens as tokens
use Rattle.formula_parse.specs.Tokens.{here, value_of, number, nesting_of}
use Rattle.formula_parse.specs.Machine.{Position, at_letter, at_value, depth, step}
use Rattle.formula_parse.specs.Runs.{placed}
use Rattle.formula_parse.specs.Made.{made, trees}
use Rattle.formula_parse.specs.Limits.{IsInRange, fault_byte, letter_bound}
use Rattle.formula_parse.specs.StateViews.{Machine, state_view}
use Rattle.formula_parse.specs.Stops.{Steps}
use Rattle.formula_parse.specs.Advances.{Advances}
use Rattle.formula_parse.specs.declared.state.State.{State}
use Rattle.formula_parse.specs.declared.fault.Stop.TheVariants as stops
use Rattle.formula_parse.specs.declared.fault.ParseFault.TheVariants as faults

steps_ok : (p : Position made) (t : tokens.Token) (n : State) (o : Option Machine) → Steps p t (Ok n) o → o ≡ Some (state_view n)
steps_ok (at_letter c b) t n o h = h.0
steps_ok (at_value c b) t n o h = h.0
steps_ok p t n o h = h

nesting_of-placed : (p : Position made) (t : tokens.Token) (d : ℕ) → nesting_of (placed p t d) ≡ d
nesting_of-placed (at_letter c b) (number v) d = refl
nesting_of-placed (at_value c b) (number v) d = refl
nesting_of-placed p t d = refl

at_any : (t : tokens.Token) (d : ℕ) → IsInRange (here t 0) → IsInRange (here t d)
at_any (number v) d h = h
at_any t d h = tt

steps_range : (p : Position made) (t : tokens.Token) (n : State) (o : Option Machine) (d : ℕ) → IsInRange (here t 0) → Steps p t (Ok n) o → IsInRange (placed p t d)
steps_range (at_letter c b) (number v) n o d r h = h.1
steps_range (at_value c b) (number v) n o d r h = h.1
steps_range (at_letter c b) t n o d r h = at_any t d r
steps_range (at_value c b) t n o d r h = at_any t d r
steps_range p t n o d r h = at_any t d r

steps_syntax : (p : Position made) (t : tokens.Token) (o : Option Machine) → Steps p t (Err stops.Syntax) o → o ≡ None
steps_syntax (at_letter c b) t o h = h
steps_syntax (at_value c b) t o h = h
steps_syntax p t o h = h

steps_depth : (p : Position made) (t : tokens.Token) (o : Option Machine) → Steps p t (Err stops.Depth) o → IsSomeAnd o (λ n. 128 < depth n)
steps_depth (at_letter c b) t o h = absurd h
steps_depth (at_value c b) t o h = absurd h
steps_depth p t o h = h

past : (v b : ℕ) → b ≤ v → v < b → ⊥
past v b h k = omega arith

some_and : (o : Option Machine) (P : Machine → Type 0) → IsSome o → ((n : Machine) → P n) → IsSomeAnd o P
some_and None P h k = absurd cc
some_and (Some n) P h k = k n

steps_letter : (p : Position made) (t : tokens.Token) (o : Option Machine) (a b : ℕ) → Steps p t (Err (stops.Letter b)) o → IsSomeAnd o (λ n. (IsInRange (placed p t (depth n)) → ⊥) × (fault_byte (placed p t (depth n)) a ≡ b))
steps_letter (at_letter c e) (number v) o a b h = some_and o _ h.1 (λ n. (past v (letter_bound false) h.2, sym h.0))
steps_letter (at_value c e) (number v) o a b h = some_and o _ h.1 (λ n. (past v (letter_bound true) h.2, sym h.0))
steps_letter (at_letter c e) t o a b h = absurd h.2
steps_letter (at_value c e) t o a b h = absurd h.2
steps_letter p t o a b h = absurd h

pub advances_ok : (s : Machine) (t : tokens.Token) (a : ℕ) (n : State) (d : ℕ) → IsInRange (here t 0) → d ≡ min (depth (state_view n)) 18446744073709551615 → d ≤ 128 → Steps s.position t (Ok n) (step trees s t) → Advances s t a (Ok n)
advances_ok s t a n d r e l h =
    let nest = nesting_of-placed s.position t (depth (state_view n)) in
    (steps_ok s.position t n _ h, (omega (arith, nest), steps_range s.position t n (step trees s t) _ r h))

pub advances_deep : (s : Machine) (t : tokens.Token) (a : ℕ) (n : State) (d : ℕ) → d ≡ min (depth (state_view n)) 18446744073709551615 → 128 < d → Steps s.position t (Ok n) (step trees s t) → Advances s t a (Err (faults.Depth a))
advances_deep s t a n d e l h =
    let deep : 128 < depth (state_view n) = omega arith in
    (subst (λ (o : Option Machine). IsSomeAnd o (λ m. 128 < depth m)) (sym (steps_ok s.position t n _ h)) deep, refl)

pub advances_syntax : (s : Machine) (t : tokens.Token) (a : ℕ) → Steps s.position t (Err stops.Syntax) (step trees s t) → Advances s t a (Err (faults.Syntax a))
advances_syntax s t a h = (steps_syntax s.position t _ h, refl)

pub advances_letter : (s : Machine) (t : tokens.Token) (a b : ℕ) → Steps s.position t (Err (stops.Letter b)) (step trees s t) → Advances s t a (Err (faults.Number b))
advances_letter s t a b h = steps_letter s.position t _ a b h

pub advances_depth : (s : Machine) (t : tokens.Token) (a : ℕ) → Steps s.position t (Err stops.Depth) (step trees s t) → Advances s t a (Err (faults.Depth a))
advances_depth s t a h = (steps_depth s.position t _ h, refl)

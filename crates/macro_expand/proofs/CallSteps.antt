-- The expansion of a call, check after check.
use Rattle.std.proofs.Common.{◌≡◌, refl, ap, ◌∙◌, ℕ, suc, ◌+◌, ◌-◌, ◌<◌, ◌≤◌, Result, Err, arith}
use Rattle.std.proofs.lemmas.Bool.{le-leb, lt-leb}
use Rattle.macro_expand.specs.declared.fault.MacroFault.{MacroFault}
use Rattle.macro_expand.specs.declared.fault.MacroFault.TheVariants as faults
use Rattle.macro_expand.specs.Texts.{TextOf}
use Rattle.macro_expand.specs.Calls.{Call}
use Rattle.macro_expand.specs.Arguments.{arguments_of}
use Rattle.text_grammar.specs.Results.{◌>>=◌}
use Rattle.macro_expand.specs.Expansion.{Expanded, Given, OfTexts, expand_text, expand_arguments, expand_call, expand_call_within, filled_text}

-- texts whose calls may be on so many levels
abbrev pub texts_within : TextOf → ℕ → OfTexts
texts_within macros levels = expand_text (expand_call_within macros levels)

-- a call with its arguments expanded
abbrev pub after_arguments : TextOf → OfTexts → Call → Given → Result Expanded MacroFault
after_arguments macros of_text c given = filled_text c.name given.texts (macros c.name) >>= λ text. of_text text given.calls

-- no level is left
pub call_too_deep : (macros : TextOf) (levels : ℕ) (c : Call) (calls : ℕ) → levels ≡ 0 → expand_call_within macros levels c calls ≡ Err (faults.MacroDepth c.name)
unfolding expand_call_within
call_too_deep macros levels c calls h = rw h refl

within-suc : (macros : TextOf) (levels : ℕ) → expand_call_within macros (suc levels) ≡ expand_call macros (expand_text (expand_call_within macros levels))
unfolding expand_call_within
within-suc macros levels = refl

-- a level is left
pub call_one_deeper : (macros : TextOf) (levels : ℕ) → 0 < levels → expand_call_within macros levels ≡ expand_call macros (texts_within macros (levels - 1))
call_one_deeper macros levels h =
    let e : levels ≡ suc (levels - 1) = omega arith in
    ap (expand_call_within macros) e ∙ within-suc macros (levels - 1)

-- it is one call too many
pub call_too_many : (macros : TextOf) (levels : ℕ) (c : Call) (calls : ℕ) → 0 < levels → 65536 ≤ calls → expand_call_within macros levels c calls ≡ Err faults.MacroLong
call_too_many macros levels c calls h many = rw (call_one_deeper macros levels h, le-leb 65536 calls many) refl

-- it is counted, and its arguments are expanded
pub call_counted : (macros : TextOf) (levels : ℕ) (c : Call) (calls : ℕ) → 0 < levels → calls < 65536
    → expand_call_within macros levels c calls ≡ (expand_arguments (texts_within macros (levels - 1)) (arguments_of c.inside) (calls + 1) >>= after_arguments macros (texts_within macros (levels - 1)) c)
call_counted macros levels c calls h few = rw (call_one_deeper macros levels h, lt-leb 65536 calls few) refl

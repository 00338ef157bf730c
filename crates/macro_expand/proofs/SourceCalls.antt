-- A call by the texts of a source, check after check.
use Rattle.std.proofs.Common.{◌≡◌, sym, ap, subst, ◌∙◌, ℕ, ◌+◌, ◌-◌, ◌<◌, List, Result, Ok, Err}
use Rattle.std.specs.Prelude.{IsErrAnd}
use Rattle.macro_expand.specs.declared.fault.MacroFault.{MacroFault}
use Rattle.macro_expand.specs.Texts.{TextOf}
use Rattle.macro_expand.specs.Calls.{Call}
use Rattle.macro_expand.specs.Arguments.{arguments_of}
use Rattle.text_grammar.specs.Results.{◌>>=◌}
use Rattle.macro_expand.specs.Expansion.{Expanded, Given, expand_arguments, expand_call_within, filled_text}
use Rattle.macro_expand.specs.Sources.{AnswersFrom}
use Rattle.macro_expand.proofs.SourceSteps.{IsLeft, all_left, left_answers, left_refused, left_more}
use Rattle.macro_expand.proofs.CallSteps.{texts_within, after_arguments, call_counted}

module _ {S : Type 0} (found : S → TextOf) (becomes : S → S → Type 0) (lacks : S → List ℕ → S → Type 0) (on : (a b c : S) → becomes a b → becomes b c → becomes a c) (lacks_then : (a b c : S) (name : List ℕ) → becomes a b → lacks b name c → lacks a name c) (levels : ℕ) (call : Call) (calls : ℕ) (some : 0 < levels) (few : calls < 65536) where
  -- the whole call
  abbrev pub Whole : TextOf → Result Expanded MacroFault
  Whole texts = expand_call_within texts levels call calls

  -- what its arguments expand to
  abbrev pub Arguments : List (List ℕ) → TextOf → Result Given MacroFault
  Arguments arguments texts = expand_arguments (texts_within texts (levels - 1)) arguments (calls + 1)

  -- the call after its checks
  abbrev pub Checked : TextOf → Result Expanded MacroFault
  Checked texts = Arguments (arguments_of call.inside) texts >>= after_arguments texts (texts_within texts (levels - 1)) call

  -- and after its arguments
  abbrev pub After : Given → TextOf → Result Expanded MacroFault
  After given texts = after_arguments texts (texts_within texts (levels - 1)) call given

  start : (s : S) → becomes s s → IsLeft found becomes Checked Whole s s
  start s stays = all_left found becomes Checked Whole s stays (λ texts. sym (call_counted texts levels call calls some few))

  checked_so : (arguments : List (List ℕ)) (r : Result Given MacroFault) (texts : TextOf) → arguments ≡ arguments_of call.inside → Arguments arguments texts ≡ r → Checked texts ≡ (r >>= after_arguments texts (texts_within texts (levels - 1)) call)
  checked_so arguments r texts same h =
      ap (λ xs. Arguments xs texts >>= after_arguments texts (texts_within texts (levels - 1)) call) (sym same) ∙ ap (λ r'. r' >>= after_arguments texts (texts_within texts (levels - 1)) call) h

  -- an argument is refused
  pub arguments_refused : {X Z : Type 0} (part_view : X → Given) (view : Z → Expanded) (arguments : List (List ℕ)) → arguments ≡ arguments_of call.inside → (old new : S) (fault : MacroFault) (result : Result Z MacroFault) → becomes old old
      → AnswersFrom found becomes lacks part_view (Arguments arguments) old (Err fault) new → IsErrAnd result (λ e. e ≡ fault) → AnswersFrom found becomes lacks view Whole old result new
  arguments_refused part_view view arguments same old new fault result stays second is =
      left_refused found becomes lacks on lacks_then part_view view (Arguments arguments) Checked Whole old old new fault result (λ texts e h. checked_so arguments (Err e) texts same h) (start old stays) second is

  -- the arguments are expanded
  pub arguments_done : {X : Type 0} (part_view : X → Given) (arguments : List (List ℕ)) → arguments ≡ arguments_of call.inside → (old new : S) (x : X) → becomes old old
      → AnswersFrom found becomes lacks part_view (Arguments arguments) old (Ok x) new → IsLeft found becomes (After (part_view x)) Whole old new
  arguments_done part_view arguments same old new x stays second =
      left_more found becomes lacks on lacks_then part_view (Arguments arguments) Checked (After (part_view x)) Whole old old new x (λ texts h. checked_so arguments (Ok (part_view x)) texts same h) (start old stays) second

  -- the macro's text, with arguments in its places
  abbrev pub Filled : List ℕ → List (List ℕ) → TextOf → Result (List ℕ) MacroFault
  Filled name arguments texts = filled_text name arguments (texts name)

  after_so : (given : Given) (name : List ℕ) (arguments : List (List ℕ)) (r : Result (List ℕ) MacroFault) (texts : TextOf) → name ≡ call.name → arguments ≡ given.texts → Filled name arguments texts ≡ r
      → After given texts ≡ (r >>= λ text. texts_within texts (levels - 1) text given.calls)
  after_so given name arguments r texts named same h =
      ap (λ n. Filled n given.texts texts >>= λ text. texts_within texts (levels - 1) text given.calls) (sym named)
      ∙ (ap (λ xs. Filled name xs texts >>= λ text. texts_within texts (levels - 1) text given.calls) (sym same)
      ∙ ap (λ r'. r' >>= λ text. texts_within texts (levels - 1) text given.calls) h)

  -- the text is refused
  pub text_refused : {X Z : Type 0} (part_view : X → List ℕ) (view : Z → Expanded) (given : Given) (name : List ℕ) (arguments : List (List ℕ)) → name ≡ call.name → arguments ≡ given.texts
      → (old mid new : S) (fault : MacroFault) (result : Result Z MacroFault) → IsLeft found becomes (After given) Whole old mid
      → AnswersFrom found becomes lacks part_view (Filled name arguments) mid (Err fault) new → IsErrAnd result (λ e. e ≡ fault) → AnswersFrom found becomes lacks view Whole old result new
  text_refused part_view view given name arguments named same old mid new fault result first second is =
      left_refused found becomes lacks on lacks_then part_view view (Filled name arguments) (After given) Whole old mid new fault result (λ texts e h. after_so given name arguments (Err e) texts named same h) first second is

  -- the text is filled in, and expanded
  pub text_follows : {X Z : Type 0} (part_view : X → List ℕ) (view : Z → Expanded) (given : Given) (name : List ℕ) (arguments : List (List ℕ)) → name ≡ call.name → arguments ≡ given.texts
      → (old mid after new : S) (x : X) (text : List ℕ) → text ≡ part_view x → (result : Result Z MacroFault) → IsLeft found becomes (After given) Whole old mid
      → AnswersFrom found becomes lacks part_view (Filled name arguments) mid (Ok x) after
      → AnswersFrom found becomes lacks view (λ texts. texts_within texts (levels - 1) text given.calls) after result new → AnswersFrom found becomes lacks view Whole old result new
  text_follows part_view view given name arguments named same old mid after new x text made result first second third =
      left_answers found becomes lacks on lacks_then view (λ texts. texts_within texts (levels - 1) (part_view x) given.calls) Whole old after new result
      (left_more found becomes lacks on lacks_then part_view (Filled name arguments) (After given) (λ texts. texts_within texts (levels - 1) (part_view x) given.calls) Whole old mid after x
      (λ texts h. after_so given name arguments (Ok (part_view x)) texts named same h) first second)
      (subst (λ (t : List ℕ). AnswersFrom found becomes lacks view (λ texts. texts_within texts (levels - 1) t given.calls) after result new) made third)

-- What a file lists has a state below a header that wants one.
use Rattle.std.proofs.Common.{◌≡◌, ◌≢◌, ℕ, ◌==◌, ◌&&◌, Bool, true, false, cond, List, length, Option, None, Some, Result, Ok, Err, refl, sym, ap, ◌∙◌, arith}
use Rattle.std.proofs.lemmas.Bool.{eqb-false}
use Rattle.dfa_reading.specs.Headers.{Header, has_states}
use Rattle.dfa_reading.specs.Lines.{line_after, lines_of}
use Rattle.dfa_reading.specs.Listed.{Listed}
use Rattle.dfa_reading.specs.declared.outputs.Outputs.TheVariants.{Numbers}
use Rattle.dfa_reading.specs.Reading.{Draft, add_lines, add_lines_by, finish, finish_with, lists, no_draft, placed_lines, relation_of, then_read}
use Rattle.dfa_reading.specs.WordFiles.{add_word_line, word_of}
use Rattle.definitions.specs.TableSteps.{IsTable}
use Rattle.definitions.specs.TableLaws.{FilesAreTables}

-- what was read last was read after something
then_ok : {A B : Type 0} (r : Result A ℕ) (f : A → Result B ℕ) (y : B) → then_read r f ≡ Ok y → (x : A) × (f x ≡ Ok y)
then_ok (Ok x) f y h = (x, h)
then_ok (Err at) f y h = absurd (cc)

-- the header and the outputs are those of the draft
lists_draft : (header : Header) (draft : Draft) (listed : Listed) → lists header draft ≡ Ok listed → (listed.header ≡ header) × (listed.outputs ≡ draft.outputs)
lists_draft header draft listed h =
    let found = then_ok (placed_lines draft.numbers draft.lines) (λ lines. Ok (record { header = header; outputs = draft.outputs; lines = lines })) listed h in
    let made : Listed = record { header = header; outputs = draft.outputs; lines = found.0 } in
    let is : made ≡ listed = let e : Ok made ≡ Ok listed = found.1 in cc in
    (sym (ap (λ (l : Listed). l.header) is), sym (ap (λ (l : Listed). l.outputs) is))

-- a file that is finished has a state where its header wants one
finished : (after : ℕ) (header : Header) (draft : Draft) (listed : Listed) (wants none : Bool) → has_states header ≡ wants → (length draft.outputs == 0) ≡ none
    → cond (wants && none) (Err after) (lists header draft) ≡ Ok listed → IsTable listed
finished after header draft listed false none says count h want =
    let is = lists_draft header draft listed h in
    absurd (let no : false ≡ true = sym says ∙ ap has_states (sym is.0) ∙ want in cc)
finished after header draft listed true true says count h want = absurd (let no : Err after ≡ Ok listed = h in cc)
finished after header draft listed true false says count h want =
    let is = lists_draft header draft listed h in
    let some : length draft.outputs ≢ 0 = eqb-false (length draft.outputs) 0 count in
    omega (arith, some, ap length is.1)

finished_with : (after : ℕ) (header : Option Header) (draft : Draft) (listed : Listed) → finish_with after header draft ≡ Ok listed → IsTable listed
finished_with after None draft listed h = absurd (let no : Err after ≡ Ok listed = h in cc)
finished_with after (Some header) draft listed h = finished after header draft listed (has_states header) (length draft.outputs == 0) refl refl h

pub file_is_table : FilesAreTables
unfolding relation_of
file_is_table text listed h =
    let found = then_ok (add_lines Numbers 1 no_draft (lines_of text)) (finish (line_after (lines_of text))) listed h in
    finished_with (line_after (lines_of text)) found.0.header found.0 listed found.1

pub word_has_states : (text : List ℕ) (listed : Listed) → word_of text ≡ Ok listed → IsTable listed
unfolding word_of
word_has_states text listed h =
    let found = then_ok (add_lines_by add_word_line 1 no_draft (lines_of text)) (finish (line_after (lines_of text))) listed h in
    finished_with (line_after (lines_of text)) found.0.header found.0 listed found.1

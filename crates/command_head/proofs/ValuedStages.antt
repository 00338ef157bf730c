-- No stage of a `reg` takes a name with a value after it.
use Rattle.std.proofs.Common.{◌≡◌, ℕ, true, List, Ok, refl, sym, subst, codes, ⊎_elim}
use Rattle.std.specs.List.{AllByRecursion}
use Rattle.std.proofs.lemmas.Bool.{false≢true}
use Rattle.text_grammar.specs.declared.class.Class.TheVariants.{Letter, NameByte}
use Rattle.text_grammar.specs.Prefixes.{begins_in, is_in}
use Rattle.command_head.specs.Readings.{Form}
use Rattle.command_head.specs.Parts.{is_quoted, unquoted}
use Rattle.command_head.specs.Heads.{Alphabets, Sets, Systems, Stage, AtWord, AtName, AfterName, AtNumber, AfterNumber, AfterSet, AfterSystem, AtEnd, body_step, step}
use Rattle.command_head.proofs.ReadingSteps.{then_ok}
use Rattle.command_head.proofs.ReadHeads.{member_derived, word_step, first_name_step, name_step, number_step, divider_step, set_step, system_step}
use Rattle.command_head.proofs.Sane.{end_refused}
use Rattle.command_head.proofs.ValuedParts.{IsValued, valued_name, valued_system, letter_number, letter_quoted}

-- a text that begins with no letter
not_text : (part text : List ℕ) → IsValued part → part ≡ text → (begins_in Letter text ≡ true → ⊥) → ⊥
not_text part text v e other = other (subst (λ (l : List ℕ). begins_in Letter l ≡ true) e v.letter)

not_body : (name : List ℕ) (alphabets : Alphabets) (part : List ℕ) (next : Stage) → IsValued part → body_step name alphabets part ≡ Ok next → ⊥
unfolding body_step
not_body name alphabets part next v h =
    letter_quoted part v.letter (then_ok (is_quoted part) Form (Ok (AtEnd (record { name = name; alphabets = alphabets; body = unquoted part }))) next h).0

pub valued_stage : (stage : Stage) (part : List ℕ) (next : Stage) → IsValued part → step stage part ≡ Ok next → ⊥
valued_stage AtWord part next v h =
    v.other_byte (subst (λ (l : List ℕ). AllByRecursion (λ b. is_in NameByte b ≡ true) l) (sym (word_step part next h).0) (refl, (refl, (refl, tt))))
valued_stage AtName part next v h = valued_name part v (first_name_step part next h).0
valued_stage (AfterName name) part next v h = ⊎_elim (λ g. not_text part (codes "{") v g.0 false≢true) (λ g. valued_system part v g.0) (name_step name part next h)
valued_stage (AtNumber name sets members) part next v h =
    let m = number_step name sets members part next h in
    letter_number part v.letter (member_derived members part m.0 m.1).derives.number
valued_stage (AfterNumber name sets members) part next v h =
    ⊎_elim (λ g. not_text part (codes ",") v g.0 false≢true) (λ g. not_text part (codes "}") v g.0 false≢true) (divider_step name sets members part next h)
valued_stage (AfterSet name sets) part next v h = ⊎_elim (λ g. not_text part (codes "{") v g.0 false≢true) (λ g. not_body name (Sets sets) part next v g) (set_step name sets part next h)
valued_stage (AfterSystem name names) part next v h = ⊎_elim (λ g. valued_system part v g.0) (λ g. not_body name (Systems names) part next v g.1) (system_step name names part next h)
valued_stage (AtEnd head) part next v h = end_refused head part next h

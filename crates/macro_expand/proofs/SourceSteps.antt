-- Answers by the texts of a source, one after another.
use Rattle.std.proofs.Common.{◌≡◌, subst, ℕ, List, Result, Ok, Err, sym, ◌∙◌}
use Rattle.std.specs.Prelude.{IsErrAnd}
use Rattle.macro_expand.specs.declared.fault.MacroFault.{MacroFault}
use Rattle.macro_expand.specs.declared.fault.MacroFault.TheVariants as faults
use Rattle.macro_expand.specs.Texts.{TextOf}
use Rattle.macro_expand.specs.Views.{Answers}
use Rattle.macro_expand.specs.Sources.{AreAmong, CameToAt, CameTo, AnswersFrom}
use Rattle.macro_expand.proofs.AnswerSteps.{Fails-handed_on}

-- what is left is what the whole is, by the texts that were found
pub record IsLeft {S W : Type 0} (found : S → TextOf) (becomes : S → S → Type 0) (left whole : TextOf → Result W MacroFault) (old new : S) : Type 0 where
  pub same : (texts : TextOf) → AreAmong texts (found new) → left texts ≡ whole texts
  pub kept : AreAmong (found new) (found old)
  pub came : becomes old new

among_all : (first second third : TextOf) → AreAmong second first → AreAmong third second → AreAmong third first
among_all first second third h k name text e = k name text (h name text e)

came_at : {S : Type 0} (becomes : S → S → Type 0) (lacks : S → List ℕ → S → Type 0) → ((a b c : S) → becomes a b → becomes b c → becomes a c) → ((a b c : S) (name : List ℕ) → becomes a b → lacks b name c → lacks a name c)
    → (a b c : S) (fault : MacroFault) → becomes a b → CameToAt becomes lacks b fault c → CameToAt becomes lacks a fault c
came_at becomes lacks on lacks_then a b c faults.Memory h k = on a b c h k
came_at becomes lacks on lacks_then a b c (faults.Syntax at) h k = on a b c h k
came_at becomes lacks on lacks_then a b c (faults.Unknown name) h k = lacks_then a b c name h k
came_at becomes lacks on lacks_then a b c (faults.MacroArgs name n given) h k = on a b c h k
came_at becomes lacks on lacks_then a b c (faults.MacroDepth name) h k = on a b c h k
came_at becomes lacks on lacks_then a b c faults.MacroLong h k = on a b c h k

came_both : {S X : Type 0} (becomes : S → S → Type 0) (lacks : S → List ℕ → S → Type 0) → ((a b c : S) → becomes a b → becomes b c → becomes a c) → ((a b c : S) (name : List ℕ) → becomes a b → lacks b name c → lacks a name c)
    → (a b c : S) (result : Result X MacroFault) → becomes a b → CameTo becomes lacks b result c → CameTo becomes lacks a result c
came_both becomes lacks on lacks_then a b c (Ok x) h k = on a b c h k
came_both becomes lacks on lacks_then a b c (Err fault) h k = came_at becomes lacks on lacks_then a b c fault h k

-- where no name is unknown, the source goes on
pub came_known : {S X Y : Type 0} (becomes : S → S → Type 0) (lacks : S → List ℕ → S → Type 0) (old new : S) (view : X → Y) (defined : Result Y MacroFault) (result : Result X MacroFault) → becomes old new
    → ((name : List ℕ) → defined ≡ Err (faults.Unknown name) → ⊥) → Answers view result defined → CameTo becomes lacks old result new
came_known becomes lacks old new view defined (Ok x) came known h = came
came_known becomes lacks old new view defined (Err faults.Memory) came known h = came
came_known becomes lacks old new view defined (Err (faults.Syntax at)) came known h = came
came_known becomes lacks old new view defined (Err (faults.Unknown name)) came known h = absurd (known name h)
came_known becomes lacks old new view defined (Err (faults.MacroArgs name n given)) came known h = came
came_known becomes lacks old new view defined (Err (faults.MacroDepth name)) came known h = came
came_known becomes lacks old new view defined (Err faults.MacroLong) came known h = came

-- all is left
pub all_left : {S W : Type 0} (found : S → TextOf) (becomes : S → S → Type 0) (left whole : TextOf → Result W MacroFault) (s : S) → becomes s s → ((texts : TextOf) → left texts ≡ whole texts) → IsLeft found becomes left whole s s
all_left found becomes left whole s stays same = record { same = λ texts among. same texts; kept = λ name text e. e; came = stays }

module _ {S : Type 0} (found : S → TextOf) (becomes : S → S → Type 0) (lacks : S → List ℕ → S → Type 0) where
  -- what is left has a value
  pub left_value : {X W : Type 0} (view : X → W) (left whole : TextOf → Result W MacroFault) (old new : S) (x : X) → IsLeft found becomes left whole old new → ((texts : TextOf) → left texts ≡ Ok (view x)) → AnswersFrom found becomes lacks view whole old (Ok x) new
  left_value view left whole old new x first is = record { gives = λ texts among lack. sym (first.same texts among) ∙ is texts; kept = first.kept; came = first.came }

  -- what is left is the same by all texts
  pub left_plain : {X W : Type 0} (view : X → W) (left whole : TextOf → Result W MacroFault) (defined : Result W MacroFault) (old new : S) (result : Result X MacroFault) → ((texts : TextOf) → left texts ≡ defined)
      → ((name : List ℕ) → defined ≡ Err (faults.Unknown name) → ⊥) → IsLeft found becomes left whole old new → Answers view result defined → AnswersFrom found becomes lacks view whole old result new
  left_plain view left whole defined old new result same known first answers = record {
    gives = λ texts among lack. subst (λ r. Answers view result r) (sym (same texts) ∙ first.same texts among) answers;
    kept = first.kept;
    came = came_known becomes lacks old new view defined result first.came known answers;
  }

module _ {S : Type 0} (found : S → TextOf) (becomes : S → S → Type 0) (lacks : S → List ℕ → S → Type 0) (on : (a b c : S) → becomes a b → becomes b c → becomes a c) (lacks_then : (a b c : S) (name : List ℕ) → becomes a b → lacks b name c → lacks a name c) where
  -- the answer to what is left is that of the whole
  pub left_answers : {X W : Type 0} (view : X → W) (left whole : TextOf → Result W MacroFault) (old mid new : S) (result : Result X MacroFault) → IsLeft found becomes left whole old mid
      → AnswersFrom found becomes lacks view left mid result new → AnswersFrom found becomes lacks view whole old result new
  left_answers view left whole old mid new result first second = record {
    gives = λ texts among lack. subst (λ r. Answers view result r) (first.same texts (among_all (found mid) (found new) texts second.kept among)) (second.gives texts among lack);
    kept = among_all (found old) (found mid) (found new) first.kept second.kept;
    came = came_both becomes lacks on lacks_then old mid new result first.came second.came;
  }

  -- a part of what is left is refused
  pub left_refused : {X Y Z W : Type 0} (part_view : X → Y) (view : Z → W) (part : TextOf → Result Y MacroFault) (left whole : TextOf → Result W MacroFault) (old mid new : S) (fault : MacroFault) (result : Result Z MacroFault)
      → ((texts : TextOf) (e : MacroFault) → part texts ≡ Err e → left texts ≡ Err e) → IsLeft found becomes left whole old mid → AnswersFrom found becomes lacks part_view part mid (Err fault) new → IsErrAnd result (λ e. e ≡ fault)
      → AnswersFrom found becomes lacks view whole old result new
  left_refused part_view view part left whole old mid new fault (Ok x) refuses first second is = absurd is
  left_refused part_view view part left whole old mid new fault (Err e) refuses first second is =
      let refused : AnswersFrom found becomes lacks view left mid (Err fault) new = record {
        gives = λ texts among lack. Fails-handed_on fault (part texts) (left texts) (refuses texts) (second.gives texts among lack);
        kept = second.kept;
        came = second.came;
      } in
      rw is (left_answers view left whole old mid new (Err fault) first refused)

  -- a part of what is left has its value
  pub left_more : {X Y W : Type 0} (view : X → Y) (part : TextOf → Result Y MacroFault) (left more whole : TextOf → Result W MacroFault) (old mid new : S) (x : X) → ((texts : TextOf) → part texts ≡ Ok (view x) → left texts ≡ more texts)
      → IsLeft found becomes left whole old mid → AnswersFrom found becomes lacks view part mid (Ok x) new → IsLeft found becomes more whole old new
  left_more view part left more whole old mid new x goes first second = record {
    same = λ texts among. sym (goes texts (second.gives texts among tt)) ∙ first.same texts (among_all (found mid) (found new) texts second.kept among);
    kept = among_all (found old) (found mid) (found new) first.kept second.kept;
    came = on old mid new first.came second.came;
  }

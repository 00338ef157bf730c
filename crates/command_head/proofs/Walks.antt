-- The stages that parts lead to, without the places of the parts.
use Rattle.std.proofs.Common.{◌≡◌, ℕ, List, [], ◌∷◌, Result, Ok, Err, refl, subst}
use Rattle.command_head.specs.Readings.{Refusal, placed}
use Rattle.text_grammar.specs.Results.{◌>>=◌}
use Rattle.command_head.specs.Parts.{Part, texts_of}
use Rattle.command_head.specs.Heads.{RegHead, Stage, step, ended, run}
use Rattle.command_head.proofs.ReadingSteps.{bind_ok, ok_is}

-- the head of further parts
abbrev pub goes : Stage → List (List ℕ) → Result RegHead Refusal
goes stage [] = ended stage
goes stage (part ∷ parts) = step stage part >>= λ next. goes next parts

pub placed_ok : {A : Type 0} (at : ℕ) (r : Result A Refusal) (x : A) → placed at r ≡ Ok x → r ≡ Ok x
placed_ok at (Ok y) x h = cc
placed_ok at (Err e) x h = cc

-- a run that ends with a head goes to it
pub run_goes : (whole : ℕ) (stage : Stage) (parts : List Part) (head : RegHead) → run whole stage parts ≡ Ok head → goes stage (texts_of parts) ≡ Ok head
unfolding run
run_goes whole stage [] head h = placed_ok whole (ended stage) head h
run_goes whole stage (part ∷ parts) head h =
    let n = bind_ok (placed part.at (step stage part.bytes)) (λ next. run whole next parts) head h in
    rw (placed_ok part.at (step stage part.bytes) n.0 n.1) (run_goes whole n.0 parts head n.2)

pub goes_run : (whole : ℕ) (stage : Stage) (parts : List Part) (head : RegHead) → goes stage (texts_of parts) ≡ Ok head → run whole stage parts ≡ Ok head
unfolding run
goes_run whole stage [] head h = rw h refl
goes_run whole stage (part ∷ parts) head h =
    let n = bind_ok (step stage part.bytes) (λ next. goes next (texts_of parts)) head h in
    rw n.1 (goes_run whole n.0 parts head n.2)

-- a first part, and the others
pub goes_first : (stage : Stage) (part : List ℕ) (parts : List (List ℕ)) (head : RegHead) → goes stage (part ∷ parts) ≡ Ok head → (next : Stage) × (step stage part ≡ Ok next) × (goes next parts ≡ Ok head)
goes_first stage part parts head h = bind_ok (step stage part) (λ next. goes next parts) head h

pub goes_step : (stage next : Stage) (part : List ℕ) (parts : List (List ℕ)) → step stage part ≡ Ok next → goes stage (part ∷ parts) ≡ goes next parts
goes_step stage next part parts h = rw h refl

-- a stage, as what a step answers
abbrev pub came : Stage → Result Stage Refusal
came stage = Ok stage

-- a stage that is known to be another one
pub goes_at : (stage next : Stage) (parts : List (List ℕ)) (head : RegHead) → came stage ≡ Ok next → goes next parts ≡ Ok head → goes stage parts ≡ Ok head
goes_at stage next parts head e h = subst (λ (s : Stage). goes s parts ≡ Ok head) (ok_is (came stage) next stage e refl) h

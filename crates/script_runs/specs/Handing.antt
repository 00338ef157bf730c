-- What is handed over of a reply.
use Rattle.std.specs.Prelude.{ℕ, ◌<◌, List, [], Result, Ok, Err, ⊤}
use Rattle.script_runs.specs.declared.deed.Deed.{Deed}
use Rattle.script_runs.specs.declared.deed.Deed.TheVariants as deeds
use Rattle.script_runs.specs.Languages.{CommandLanguage}

-- what a command prints that made something, and the line of a refusal
abbrev pub reply_text : {F : Type 0} (l : CommandLanguage F) → ℕ → Result Deed F → List ℕ
reply_text l line (Ok (deeds.Enters printed)) = printed.items
reply_text l line (Ok (deeds.Loads text)) = []
reply_text l line (Ok deeds.Ends) = []
reply_text l line (Err fault) = l.fault_line line fault

-- no load is nested in eight others
abbrev pub MayLoad : {F : Type 0} → ℕ → Result Deed F → Type 0
MayLoad depth (Ok (deeds.Enters printed)) = ⊤
MayLoad depth (Ok (deeds.Loads text)) = depth < 8
MayLoad depth (Ok deeds.Ends) = ⊤
MayLoad depth (Err fault) = ⊤

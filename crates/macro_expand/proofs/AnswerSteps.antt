-- Answers one after another, and faults that are handed on.
use Rattle.std.proofs.Common.{◌≡◌, Result, Err}
use Rattle.macro_expand.specs.declared.fault.MacroFault.{MacroFault}
use Rattle.macro_expand.specs.declared.fault.MacroFault.TheVariants as faults
use Rattle.macro_expand.specs.Views.{Fails, Answers}

-- a fault is that of a whole where each fault of a part is one of the whole
pub Fails-handed_on : {Y W : Type 0} (fault : MacroFault) (part : Result Y MacroFault) (whole : Result W MacroFault) →
    ((e : MacroFault) → part ≡ Err e → whole ≡ Err e) → Fails fault part → Fails fault whole
Fails-handed_on faults.Memory part whole on h = tt
Fails-handed_on (faults.Syntax at) part whole on h = on (faults.Syntax at) h
Fails-handed_on (faults.Unknown name) part whole on h = on (faults.Unknown name) h
Fails-handed_on (faults.MacroArgs name n given) part whole on h = on (faults.MacroArgs name n given) h
Fails-handed_on (faults.MacroDepth name) part whole on h = on (faults.MacroDepth name) h
Fails-handed_on faults.MacroLong part whole on h = on faults.MacroLong h

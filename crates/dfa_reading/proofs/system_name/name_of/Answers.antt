use Rattle.std.proofs.Common.{Result, Ok, Err, MatchResult, IsOk, rules}
use Rattle.std.proofs.lemmas.Str.{IsUtf8-from_ascii}
use Rattle.dfa_reading.proofs.system_name.name_of.Goals as goal

ok_since : {X E : Type 0} (r : Result X E) (P : Type 0) (Q : X → Type 0) (R : E → Type 0) → MatchResult r Q (λ e. (¬ P) × R e) → P → IsOk r
ok_since (Ok x) P Q R h p = search rules
ok_since (Err e) P Q R h p = absurd (h.0 p)

pub unwrap-text-requires : goal.unwrap-text-requires
unwrap-text-requires c = ok_since _ _ _ _ c.from_utf8.ensures.cases (IsUtf8-from_ascii c.args.bytes.now c.requires)

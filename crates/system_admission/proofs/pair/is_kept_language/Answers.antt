use Rattle.system_admission.proofs.pair.is_kept_language.Goals as goal

pub returns-in-Some : goal.returns-in-Some
returns-in-Some c = λ is. record { text = c.in-Some.text.now; there = c.in-Some.ensures; is_language = c.has_language.ensures is }

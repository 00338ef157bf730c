use Rattle.library_tests.proofs.fixed_words.promoted.Goals as goal

pub returns : goal.returns
returns c c' = let done = c'.in-Ok.ensures in (done.0, done.2.step.made_is.system)

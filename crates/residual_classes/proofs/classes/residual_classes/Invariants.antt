use Rattle.residual_classes.proofs.classes.residual_classes.Given as goal

abbrev pub ghosts-classes_of_ledger : goal.ghosts-classes_of_ledger
ghosts-classes_of_ledger a = record { name = a.blank.name; parts = a.blank.parts }

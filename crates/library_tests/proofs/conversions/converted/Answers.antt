use Rattle.std.proofs.Common.{ap, ◌∙◌, ◌∷◌, []}
use Rattle.numeration.specs.Systems.{System}
use Rattle.num_system.specs.Tracks.{systems_of}
use Rattle.library_tests.proofs.conversions.converted.Goals as goal

pub convert-requires : goal.convert-requires
convert-requires c c' = record {
  old_base = c'.base_of-old.result;
  new_base = c'.args.to.base;
  old_range = (c'.if-old-lt-LEAST_BASE.false, c'.if-old-gt-GREATEST_BASE.false);
  new_range = (c'.args.to.at_least, c'.args.to.at_most);
  old_is = c'.base_of-old.ensures;
  new_is = c'.in-Ok.ensures;
  root = c'.in-Some.ensures;
}

pub returns : goal.returns
returns c c' = (c'.args.to.base, ap systems_of c'.in_ok-made.ensures.1 ∙ ap (λ (s : System). s ∷ []) c'.in-Ok.ensures)

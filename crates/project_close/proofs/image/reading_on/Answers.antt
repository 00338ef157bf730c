use Rattle.project_close.proofs.image.reading_on.Goals as goal

pub returns : goal.returns
returns c =
    let on = c.in_ok-image.ensures in
    record { ends = on.ends; image = on.image; table = on.table; ends_are = on.ends_are; first_are = c.in_ok-first.ensures }

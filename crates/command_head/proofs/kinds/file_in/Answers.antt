use Rattle.std.proofs.Common.{refl, sym, ◌∙◌, inl, inr}
use Rattle.command_head.proofs.FileNames.{names_file, no_file, empty_is, empty_not, ending_is, ending_not}
use Rattle.command_head.proofs.kinds.file_in.Goals as goal
use Rattle.command_head.proofs.kinds.file_in.Goals.{then-is_empty, else-is_empty, else-is_name-via-then-is_name+else-eq, else-is_name-via-else-is_name}

pub returns-then-eq : goal.returns-then-eq
returns-then-eq c =
    names_file c.args.part.now.bytes.now c.split_at.result.0.now c.split_at.result.1.now c.prefix_len.result c.prefix_len.ensures.len c.split_at.ensures.front c.split_at.ensures.back (sym c.is_name.ensures ∙ c.if-is_name.true)
    (elim c.if-is_empty.branch [
      | then-is_empty w ↦ inl (empty_is c.split_at.result.1.now c.is_empty.result c.is_empty.ensures w.if-is_empty.true)
      | else-is_empty w ↦ inr (ending_is c.split_at.result.1.now w.as_slice.result.now w.eq.result w.eq.ensures w.as_slice.ensures (sym w.value-is ∙ c.if-eq.true))
    ])

pub returns-else-is_name : goal.returns-else-is_name
returns-else-is_name c = (
  no_file c.args.part.now.bytes.now c.split_at.result.0.now c.split_at.result.1.now c.prefix_len.result c.prefix_len.ensures.len c.split_at.ensures.front c.split_at.ensures.back
      (elim c.else-is_name.branch [
        | else-is_name-via-then-is_name+else-eq w ↦ inr (elim w.if-is_empty.branch [
          | then-is_empty v ↦ let wrong = sym v.if-is_empty.true ∙ (sym v.value-is ∙ w.if-eq.false) in absurd (cc)
          | else-is_empty v ↦ (
            empty_not c.split_at.result.1.now w.is_empty.result w.is_empty.ensures v.if-is_empty.false,
            ending_not c.split_at.result.1.now v.as_slice.result.now v.eq.result v.eq.ensures v.as_slice.ensures (sym v.value-is ∙ w.if-eq.false),
          )
        ])
        | else-is_name-via-else-is_name w ↦ inl (sym c.is_name.ensures ∙ w.if-is_name.false)
      ]),
  refl,
)

use Rattle.std.proofs.Common.{◌+◌, length, arith, refl, sym, ◌∙◌}
use Rattle.command_head.proofs.PartShape.{IsAscii-name}
use Rattle.command_head.proofs.CombineHeads.{not_named, not_value, split_is}
use Rattle.command_head.proofs.combining.valued_name.Goals as goal

pub returns-then-not-is_name : goal.returns-then-not-is_name
returns-then-not-is_name c = (refl, not_named c.args.part.now.bytes.now c.split_at.result.0.now c.prefix_len.result c.is_name.result c.prefix_len.ensures.len c.split_at.ensures.front c.is_name.ensures c.if-not-is_name.true)

pub name_of-requires : goal.name_of-requires
name_of-requires c = IsAscii-name c.split_at.result.0.now (sym c.is_name.ensures ∙ c.if-not-is_name.false)

pub returns-in-Long : goal.returns-in-Long
returns-in-Long c = (
  length c.split_at.result.0.now + 1,
  record {
    name = c.split_at.result.0.now;
    suffix = c.split_at.result.1.now;
    part_is = split_is c.args.part.now.bytes.now c.split_at.result.0.now c.split_at.result.1.now c.prefix_len.result c.split_at.ensures.front c.split_at.ensures.back;
    is_named = sym c.is_name.ensures ∙ c.if-not-is_name.false;
    value = c.in-Long.ensures;
    place = refl;
  },
  omega arith,
)

pub returns-in-Other : goal.returns-in-Other
returns-in-Other c = (refl, not_value c.args.part.now.bytes.now c.split_at.result.1.now c.prefix_len.result c.prefix_len.ensures.len c.split_at.ensures.back c.in-Other.ensures)

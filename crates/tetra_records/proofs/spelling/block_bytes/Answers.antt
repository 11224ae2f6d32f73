use Rattle.std.proofs.Common.{rules, arith, get_or, List, Bool, Option, Bor, []}
use Rattle.std.specs.Option.{option_map_or}
use Rattle.tetra_records.proofs.Fields.{field_is, recorded, room_first, room_second, room_third}
use Rattle.tetra_records.proofs.spelling.block_bytes.Goals as goal

abbrev bits_of : Option (Bor (List Bool)) → List Bool
bits_of field = option_map_or (λ bits. bits.now) field []

pub append_field-requires : goal.append_field-requires
append_field-requires c =
    room_first c.args.blocks.now c.push.new.self.items c.append_access.new.out.items c.append_mask.new.out.items (search rules) c.append_access.ensures c.append_mask.ensures
    (bits_of (get_or c.fields.result 0 c.index-fields-0.result)) (field_is bits_of c.fields.result c.args.blocks.now.body 0 c.index-fields-0.result c.fields.ensures.fields (omega arith)) c.requires

pub append_field-requires-2 : goal.append_field-requires-2
append_field-requires-2 c =
    room_second c.args.blocks.now c.push.new.self.items c.append_access.new.out.items c.append_mask.new.out.items (search rules) c.append_access.ensures c.append_mask.ensures
    c.append_field.new.out.items (bits_of (get_or c.fields.result 0 c.index-fields-0.result)) (bits_of (get_or c.fields.result 1 c.index-fields-1.result))
    c.append_field.ensures (field_is bits_of c.fields.result c.args.blocks.now.body 0 c.index-fields-0.result c.fields.ensures.fields (omega arith)) (field_is bits_of c.fields.result c.args.blocks.now.body 1 c.index-fields-1.result c.fields.ensures.fields (omega arith)) c.requires

pub append_field-requires-3 : goal.append_field-requires-3
append_field-requires-3 c =
    room_third c.args.blocks.now c.push.new.self.items c.append_access.new.out.items c.append_mask.new.out.items (search rules) c.append_access.ensures c.append_mask.ensures
    c.append_field.new.out.items c.append_field-2.new.out.items (bits_of (get_or c.fields.result 0 c.index-fields-0.result)) (bits_of (get_or c.fields.result 1 c.index-fields-1.result)) (bits_of (get_or c.fields.result 2 c.index-fields-2.result))
    c.append_field.ensures c.append_field-2.ensures (field_is bits_of c.fields.result c.args.blocks.now.body 0 c.index-fields-0.result c.fields.ensures.fields (omega arith)) (field_is bits_of c.fields.result c.args.blocks.now.body 1 c.index-fields-1.result c.fields.ensures.fields (omega arith)) (field_is bits_of c.fields.result c.args.blocks.now.body 2 c.index-fields-2.result c.fields.ensures.fields (omega arith)) c.requires

pub returns : goal.returns
returns c =
    recorded c.args.blocks.now c.push.new.self.items c.append_access.new.out.items c.append_mask.new.out.items (search rules) c.append_access.ensures c.append_mask.ensures
    c.append_field.new.out.items c.append_field-2.new.out.items c.append_field-3.new.out.items (bits_of (get_or c.fields.result 0 c.index-fields-0.result)) (bits_of (get_or c.fields.result 1 c.index-fields-1.result)) (bits_of (get_or c.fields.result 2 c.index-fields-2.result))
    c.append_field.ensures c.append_field-2.ensures c.append_field-3.ensures (field_is bits_of c.fields.result c.args.blocks.now.body 0 c.index-fields-0.result c.fields.ensures.fields (omega arith)) (field_is bits_of c.fields.result c.args.blocks.now.body 1 c.index-fields-1.result c.fields.ensures.fields (omega arith)) (field_is bits_of c.fields.result c.args.blocks.now.body 2 c.index-fields-2.result c.fields.ensures.fields (omega arith))

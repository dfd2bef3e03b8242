use Rattle.std.proofs.Common.{◌<◌, ◌+◌, ◌*◌, arith}
use Rattle.list_core.proofs.PackedTagLemmas.{room_for_byte}
use Rattle.list_core.proofs.packed_tag.pack.Goals as goal

pub overflow_mul-number : goal.overflow_mul-number
overflow_mul-number c =
    let room : c.loop-place.number * 256 + 255 < 18446744073709551616 =
    room_for_byte c.args.subtag.now c.loop-place.place c.loop-place.number c.requires
    c.loop-place-test.true c.loop-place.invariant.1 c.loop-place.invariant.0 in
    omega arith

pub overflow_add-number : goal.overflow_add-number
overflow_add-number c =
    let room : c.loop-place.number * 256 + 255 < 18446744073709551616 =
    room_for_byte c.args.subtag.now c.loop-place.place c.loop-place.number c.requires
    c.loop-place-test.true c.loop-place.invariant.1 c.loop-place.invariant.0 in
    omega arith

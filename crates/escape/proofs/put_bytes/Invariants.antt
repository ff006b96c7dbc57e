use Rattle.std.proofs.Common.{◌≡◌, ◌*◌, ◌<◌, ◌≤◌, length, take}
use Rattle.std.specs.List.{flat_map}
use Rattle.std.specs.Str.{IsAscii}
use Rattle.escape.specs.Escaped.{escaped_byte}
use Rattle.escape.proofs.put_bytes.Given as goal

abbrev pub invariant-loop-byte : goal.invariant-loop-byte
invariant-loop-byte l =
    (length l.room ≡ length l.initial.room) × (l.at ≤ 4 * l.byte-index) × (take l.at l.room ≡ flat_map (escaped_byte l.mark) (take l.byte-index l.bytes)) × (l.mark < 128 → IsAscii (take l.at l.room))

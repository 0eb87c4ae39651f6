use Rattle.std.proofs.Common.{◌≡◌, ◌++◌, map, take}
use Rattle.rr_directive.specs.declared.definitions.Part.TheVariants as part
use Rattle.rr_directive.proofs.text.add_bytes.Given as goal

abbrev pub invariant-loop-byte : goal.invariant-loop-byte
invariant-loop-byte l = l.parts.items ≡ l.fn.parts.items ++ map part.Byte (take l.byte-index l.bytes)

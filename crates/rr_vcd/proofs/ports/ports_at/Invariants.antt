use Rattle.std.proofs.Common.{◌≡◌, map, take}
use Rattle.std.specs.Prelude.{All}
use Rattle.rr_flat.specs.View.{plain_flat}
use Rattle.rr_vcd.specs.Tops.{port_of}
use Rattle.rr_vcd.specs.View.{plain_port, IsWidth}
use Rattle.rr_vcd.proofs.ports.ports_at.Given as goal

abbrev pub invariant-loop-id : goal.invariant-loop-id
invariant-loop-id l = (map plain_port l.ports.items ≡ map (port_of (plain_flat l.flat)) (take l.id-index l.ids)) × All (λ x. IsWidth x.width) l.ports.items

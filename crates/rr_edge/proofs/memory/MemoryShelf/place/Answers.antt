use Rattle.std.proofs.Common.{◌≡◌}
use Rattle.std.specs.Prelude.{string_bytes}
use Rattle.std.proofs.lemmas.Result.{IfOk-at_ok}
use Rattle.rr_edge.proofs.Placed.{contents-insert}
use Rattle.rr_edge.proofs.memory.MemoryShelf.place.Goals as goal

pub returns-clause-ok : goal.returns-clause-ok
returns-clause-ok c =
    contents-insert c.args.self.now.held c.insert.new.self c.in_ok-key.key c.in_ok-value.value c.args.name.now c.args.bytes.now
    (IfOk-at_ok (λ s. string_bytes s ≡ c.args.name.now) c.in_ok-key.was c.from_str.ensures.ok)
    (IfOk-at_ok (λ v. v.items ≡ c.args.bytes.now) c.in_ok-value.was c.from_slice.ensures.items)
    c.in_ok-insert.ensures.updates

use Rattle.std.proofs.Common.{refl, inl}
use Rattle.rr_edge.proofs.memory.MemoryShelfShelf.write.Goals as goal

-- a call that fails changes nothing held
pub returns-then-fails_at-clause-answer : goal.returns-then-fails_at-clause-answer
returns-then-fails_at-clause-answer c = inl refl

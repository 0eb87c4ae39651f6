use Rattle.std.proofs.Common.{◌≡◌, map, take}
use Rattle.rr_rounds.specs.Joined.{renumbered}
use Rattle.rr_members.proofs.members.Members.all_renumbered.Given as goal

abbrev pub invariant-loop-hint : goal.invariant-loop-hint
invariant-loop-hint l = l.new.items ≡ map (renumbered l.self.formula l.self.state l.place) (take l.hint-index l.hints)

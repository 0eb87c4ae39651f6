use Rattle.std.proofs.Common.{rules}
use Rattle.rr_loop_rules.proofs.Sets.{added_text}
use Rattle.rr_loop_rules.proofs.names.LoopNames.add.Goals as goal
use Rattle.rr_loop_rules.proofs.names.LoopNames.add.Goals.{in-Ok, in-Err}

pub returns : goal.returns
returns c =
    let last = added_text c.args.name c.self.inside.names.keys in
    elim c.match-insert.branch [
      | in-Ok w ↦ rw (w.result-is, ← c.self.view_is, w.in-Ok.ensures.keys) last
      | in-Err w ↦ rw w.result-is (search rules)
    ]

use Rattle.std.proofs.Common.{sym, subst, List, [], ◌∷◌, ◌++◌, take, get_or, refl, pos, false}
use Rattle.std.proofs.lemmas.List.{take_more}
use Rattle.rr_named_bits.specs.Lists.{must}
use Rattle.rr_named_bits.specs.declared.writes.Write.{Write}
use Rattle.rr_latch.specs.declared.paths.Path.{Path}
use Rattle.rr_latch.specs.Paths.{assigned}
use Rattle.rr_latch.proofs.Scanning.{assigning_none, must_next, must_skip, Assigning}
use Rattle.rr_latch.proofs.paths.assign_writes.Goals.{then-write+in_ok-assign_reach, else-write}
use Rattle.rr_latch.proofs.paths.assign_writes.Goals as goal

pub loop-write-init : goal.loop-write-init
unfolding must
loop-write-init c = assigning_none _ _ _ (λ b. refl)

pub loop-write-preserved : goal.loop-write-preserved
loop-write-preserved c =
    let ws = c.args.writes.now in
    let i = c.loop-write.write-index in
    let d : Write = record { reach = record { piece = record { signal = 0; width = 0; from = pos 0; count = 0 }; words = 0 }; certain = false } in
    let start = c.args.path.now in
    let P : Path → List Write → Type 0 = λ p z. Assigning (must z) (assigned start.unassigned) (assigned p.unassigned) start.log.items p.log.items in
    subst (P c.if-write.path) (sym (take_more ws i d c.loop-write-test.true))
    (elim c.if-write.branch [
      | then-write+in_ok-assign_reach w ↦
          subst (λ p. P p (take i ws ++ get_or ws i d ∷ [])) (sym w.path-is)
          (must_next (take i ws) (get_or ws i d) (assigned start.unassigned) (assigned c.loop-write.path.unassigned) (assigned w.assign_reach.new.path.unassigned)
          start.log.items c.loop-write.path.log.items w.assign_reach.new.path.log.items w.if-write.true c.loop-write.invariant w.in_ok-assign_reach.ensures.set w.in_ok-assign_reach.ensures.log)
      | else-write w ↦
          subst (λ p. P p (take i ws ++ get_or ws i d ∷ [])) (sym w.path-is)
          (must_skip (take i ws) (get_or ws i d) (assigned start.unassigned) (assigned c.loop-write.path.unassigned) start.log.items c.loop-write.path.log.items w.if-write.false c.loop-write.invariant)
    ])

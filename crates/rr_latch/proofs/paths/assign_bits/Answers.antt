use Rattle.std.proofs.Common.{sym, subst, List, take, get_or, refl}
use Rattle.std.proofs.lemmas.List.{take_more}
use Rattle.rr_expr.specs.declared.types.Bit.{Bit}
use Rattle.rr_latch.specs.Paths.{assigned, listed}
use Rattle.rr_latch.proofs.Scanning.{assigning_none, listed_next, Assigning}
use Rattle.rr_latch.proofs.paths.assign_bits.Goals as goal

pub loop-bit-init : goal.loop-bit-init
unfolding listed
loop-bit-init c = assigning_none _ _ _ (λ b. refl)

pub loop-bit-preserved : goal.loop-bit-preserved
loop-bit-preserved c =
    let xs = c.args.bits.now in
    let i = c.loop-bit.bit-index in
    let d : Bit = record { signal = 0; place = 0 } in
    let P : List Bit → Type 0 = λ z. Assigning (listed z) (assigned c.args.path.now.unassigned) (assigned c.assign.new.path.unassigned) c.args.path.now.log.items c.assign.new.path.log.items in
    subst P (sym (take_more xs i d c.loop-bit-test.true))
    (listed_next (take i xs) (get_or xs i d) (assigned c.args.path.now.unassigned) (assigned c.loop-bit.path.unassigned) (assigned c.assign.new.path.unassigned)
    c.args.path.now.log.items c.loop-bit.path.log.items c.assign.new.path.log.items c.loop-bit.invariant c.in_ok-assign.ensures.set c.in_ok-assign.ensures.log)

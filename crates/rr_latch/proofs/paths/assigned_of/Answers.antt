use Rattle.std.proofs.Common.{◌≡◌, ◌∙◌, ap, subst, sym, ◌+◌, ◌&&◌, take}
use Rattle.std.specs.Prelude.{Vec}
use Rattle.std.specs.declared.alloc.Global.{Global}
use Rattle.std.proofs.lemmas.Bool.{eq-eqb, ne_eqb}
use Rattle.rr_expr.specs.declared.types.Bit.{Bit}
use Rattle.rr_latch.specs.Paths.{assigned, listed}
use Rattle.rr_latch.proofs.Scanning.{kept_more, kept_less}
use Rattle.rr_latch.proofs.paths.assigned_of.Goals.{then-get-eq0+in_ok-push, else-get-eq0}
use Rattle.rr_latch.proofs.paths.assigned_of.Goals as goal

pub loop-bit-init : goal.loop-bit-init
unfolding listed
loop-bit-init c = λ b. ap (λ z. listed z b) c.new-kept.ensures.items

pub loop-bit-preserved : goal.loop-bit-preserved
loop-bit-preserved c =
    let xs = c.args.bits.now in
    let d : Bit = record { signal = 0; place = 0 } in
    elim c.if-get-eq0.branch [
      | then-get-eq0+in_ok-push w ↦
          kept_more xs c.loop-bit.kept.items c.if-get-eq0.kept.items c.loop-bit.bit-index d (assigned c.args.table.now) c.loop-bit-test.true c.loop-bit.invariant
          (eq-eqb _ 0 (sym c.get.ensures ∙ w.if-get-eq0.true)) (ap (λ (z : Vec Bit Global). z.items) w.kept-is ∙ w.in_ok-push.ensures.items)
      | else-get-eq0 w ↦
          let P : Vec Bit Global → Type 0 = λ v. (b : Bit) → listed v.items b ≡ (listed (take (c.loop-bit.bit-index + 1) xs) b && assigned c.args.table.now b) in
          subst P (sym w.kept-is)
          (kept_less xs c.loop-bit.kept.items c.loop-bit.bit-index d (assigned c.args.table.now) c.loop-bit-test.true c.loop-bit.invariant
          (ne_eqb _ 0 (λ e. w.if-get-eq0.false (c.get.ensures ∙ e))))
    ]

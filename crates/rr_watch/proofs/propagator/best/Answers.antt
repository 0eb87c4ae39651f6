use Rattle.std.proofs.Common.{◌∙◌, ◌+◌, ◌<◌, inl, inr, ap, sym, subst, arith, length}
use Rattle.std.proofs.lemmas.Bool.{true≢false}
use Rattle.std.specs.Prelude.{Some}
use Rattle.rr_watch.proofs.Choices.{Chosen, Chosen-same, Chosen-new, Chosen-less, Chosen-all, missing, found_is}
use Rattle.rr_watch.proofs.propagator.best.Goals.{then-is_apart+then-is_none, then-is_none-via-then-is_none, then-is_none-via-else-is_none+then-greatest-rank, then-is_apart+else-is_none+else-greatest-rank, else-is_apart}
use Rattle.rr_watch.proofs.propagator.best.Goals as goal

pub loop-lit-preserved : goal.loop-lit-preserved
loop-lit-preserved c =
    let t = c.args.trail.now.entries in
    let s = c.args.clause.now in
    let o = c.args.other.now in
    let i = c.loop-lit.lit-index in
    let l = c.lit-item.result in
    let b : i < length s = c.loop-lit-test.true in
    let f = c.loop-lit.invariant.chosen in
    record {
      place = ap (λ n. n + 1) c.loop-lit.invariant.place;
      chosen = elim c.if-is_apart.branch [
        | then-is_apart+then-is_none w ↦
            rw (w.found-is, w.greatest-is, c.loop-lit.invariant.place) (Chosen-new t s o i l b c.lit-item.is c.loop-lit.found c.loop-lit.greatest w.rank-rank.result (c.is_apart.ensures.0 w.if-is_apart.true) w.rank-rank.ensures
            (elim w.then-is_none.branch [
              | then-is_none-via-then-is_none y ↦ inl (missing c.loop-lit.found w.is_none.result w.is_none.ensures y.if-is_none.true)
              | then-is_none-via-else-is_none+then-greatest-rank y ↦ inr (let h = y.if-greatest-rank.true in omega (arith, h))
            ]) f)
        | then-is_apart+else-is_none+else-greatest-rank w ↦
            (let p = found_is c.loop-lit.found w.is_none.result w.is_none.ensures w.if-is_none.false in
            let g : Chosen t s o i (Some p.0) c.loop-lit.greatest = subst (λ x. Chosen t s o i x c.loop-lit.greatest) p.1 f in
            let h = w.if-greatest-rank.false in
            rw (w.found-is, w.greatest-is) (subst (λ x. Chosen t s o (i + 1) x c.loop-lit.greatest) (sym p.1) (Chosen-less t s o i l b c.lit-item.is p.0 c.loop-lit.greatest w.rank-rank.result w.rank-rank.ensures (omega (arith, h)) g)))
        | else-is_apart w ↦
            rw (w.found-is, w.greatest-is) (Chosen-same t s o i l b c.lit-item.is c.loop-lit.found c.loop-lit.greatest (λ a. true≢false (sym (c.is_apart.ensures.1 a) ∙ w.if-is_apart.false)) f)
      ];
    }

pub returns : goal.returns
returns c = Chosen-all c.args.trail.now.entries c.args.clause.now c.args.other.now c.loop-lit.lit-index c.loop-lit.found c.loop-lit.greatest c.loop-lit-test.false c.loop-lit.auto.lit-index-end c.loop-lit.invariant.chosen

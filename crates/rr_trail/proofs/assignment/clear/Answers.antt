use Rattle.std.proofs.Common.{◌≡◌, ◌∙◌, ◌<◌, length, sym, subst, arith}
use Rattle.std.proofs.lemmas.List.{get_or_default}
use Rattle.std.proofs.lemmas.List.Elements.{All-get_or}
use Rattle.rr_cnf.specs.Codes.{code_of}
use Rattle.rr_trail.specs.Tables.{literal_at}
use Rattle.rr_trail.proofs.TableLaws.{Cleared-more}
use Rattle.rr_trail.proofs.assignment.clear.Goals as goal

pub index_mut-requires : goal.index_mut-requires
index_mut-requires c =
    let h = All-get_or (λ l. code_of l < length c.args.truths.now.items) c.args.lits.now c.loop-place.place c.index-lits-place.result c.loop-place-test.true c.requires.within in
    let r = subst (λ l. code_of l < length c.args.truths.now.items) (sym c.index-lits-place.is) h in
    omega (arith, r, c.code.ensures, c.loop-place.invariant.long, c.loop-place.truths.ok.0)

pub loop-place-preserved : goal.loop-place-preserved
loop-place-preserved c =
    let e : c.index-lits-place.result ≡ literal_at c.args.lits.now c.loop-place.place = c.index-lits-place.is ∙ get_or_default c.args.lits.now c.loop-place.place c.index-lits-place.result _ c.loop-place-test.true in
    let h = All-get_or (λ l. code_of l < length c.args.truths.now.items) c.args.lits.now c.loop-place.place _ c.loop-place-test.true c.requires.within in
    rw (c.code.ensures, e) (Cleared-more c.args.truths.now.items c.loop-place.truths.items c.args.lits.now c.args.from c.loop-place.place h c.loop-place.auto.place c.loop-place.invariant)

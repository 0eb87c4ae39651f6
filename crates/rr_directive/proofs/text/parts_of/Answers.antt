use Rattle.std.proofs.Common.{◌∙◌, ◌++◌, [], sym, subst, refl, arith}
use Rattle.rr_directive.specs.Expand.{text_items}
use Rattle.rr_directive.specs.View.{AreItems, names_of, unit_at}
use Rattle.rr_directive.proofs.Units.{unit_here, units_end}
use Rattle.rr_directive.proofs.Names.{extends_on, extends_same}
use Rattle.rr_directive.proofs.Texts.{its_items, text_on, text_done, plain_on, plain_not, plain_done}
use Rattle.rr_directive.proofs.text.parts_of.Goals as goal

pub loop-at-init : goal.loop-at-init
loop-at-init c = record {
  within = omega arith;
  extends = extends_same _ _ refl;
  knows = λ ds k. k;
  done = ([], (subst (λ ps. AreItems (names_of c.args.definitions.now) ps []) (sym c.new-parts.ensures.items) tt, refl));
  plain = refl;
}

pub loop-at-preserved : goal.loop-at-preserved
loop-at-preserved c =
    let v = c.loop-at.invariant in
    let u = unit_at c.args.text.now c.loop-at.at c.piece_at-piece.result in
    let e = unit_here c.args.text.now c.loop-at.at c.piece_at-piece.result c.loop-at-test.true c.piece_at-piece.ensures.within c.piece_at-piece.ensures.plain in
    record {
      within = c.piece_at-piece.ensures.within.within;
      extends = extends_on _ _ _ v.extends c.in_ok-add_unit.ensures.extends;
      knows = λ ds k. c.in_ok-add_unit.ensures.knows ds (v.knows ds k);
      done = (v.done.0 ++ its_items u, (c.in_ok-add_unit.ensures.items v.done.0 v.done.1.0, text_on (text_items c.args.text.now) v.done.0 _ _ u e v.done.1.1));
      plain = plain_on _ _ _ u e (sym c.is_named.ensures ∙ c.if-is_named.false) v.plain;
    }

pub returns-then-is_named-clause-parts : goal.returns-then-is_named-clause-parts
returns-then-is_named-clause-parts c =
    let e = unit_here c.args.text.now c.loop-at.at c.piece_at-piece.result c.loop-at-test.true c.piece_at-piece.ensures.within c.piece_at-piece.ensures.plain in
    plain_not _ _ _ (unit_at c.args.text.now c.loop-at.at c.piece_at-piece.result) e (sym c.is_named.ensures ∙ c.if-is_named.true) c.loop-at.invariant.plain

pub returns-clause-parts : goal.returns-clause-parts
returns-clause-parts c =
    let v = c.loop-at.invariant in
    let e = units_end c.args.text.now c.loop-at.at c.loop-at-test.false in (
      plain_done _ _ e v.plain,
      subst (λ ps. AreItems (names_of c.loop-at.definitions) ps (text_items c.args.text.now)) (sym c.into_bump_slice.ensures)
          (subst (AreItems (names_of c.loop-at.definitions) c.loop-at.parts.items) (text_done (text_items c.args.text.now) v.done.0 _ e v.done.1.1) v.done.1.0),
    )

use Rattle.std.proofs.Common.{◌≡◌, ◌∙◌, ap, sym, subst, arith, true, false}
use Rattle.rr_directive.specs.Pieces.{units_of}
use Rattle.rr_directive.specs.Expand.{Faults, first_unclosed}
use Rattle.rr_directive.specs.View.{is_place, unit_at}
use Rattle.rr_directive.proofs.Units.{unit_here, units_end}
use Rattle.rr_directive.proofs.Files.{at_start, comes_on, comes_to_end, stops_there, unclosed_there}
use Rattle.rr_directive.proofs.expansion.read_all.Goals as goal

pub loop-at-init : goal.loop-at-init
loop-at-init c = record { within = omega arith; comes = at_start c.args.bytes.now c.args.reader.now c.requires.start }

pub read-requires-clause-stands : goal.read-requires-clause-stands
read-requires-clause-stands c = (c.loop-at.invariant.comes.state, (c.loop-at.invariant.comes.events, c.loop-at.invariant.comes.stands))

pub loop-at-preserved : goal.loop-at-preserved
loop-at-preserved c =
    let k = c.loop-at.invariant.comes in
    let e = unit_here c.args.bytes.now c.loop-at.at c.piece_at-piece.result c.loop-at-test.true c.piece_at-piece.ensures.within c.piece_at-piece.ensures.plain in
    let p : is_place (first_unclosed (units_of c.args.bytes.now)) c.loop-at.at ≡ false = ap (λ o. is_place o c.loop-at.at) (sym c.requires.unclosed) ∙ (sym c.is_at.ensures ∙ c.if-is_at.false) in
    record {
      within = c.piece_at-piece.ensures.within.within;
      comes = comes_on c.args.bytes.now c.loop-at.at c.piece_at-piece.result.end (unit_at c.args.bytes.now c.loop-at.at c.piece_at-piece.result) c.loop-at.reader c.read.new.self k e (c.in-Ok.ensures k.state k.events k.stands) p;
    }

pub returns-in-Err : goal.returns-in-Err
returns-in-Err c =
    let k = c.loop-at.invariant.comes in
    let e = unit_here c.args.bytes.now c.loop-at.at c.piece_at-piece.result c.loop-at-test.true c.piece_at-piece.ensures.within c.piece_at-piece.ensures.plain in
    subst (Faults c.args.bytes.now) (sym c.fault_at.ensures)
    (stops_there (Unit {0}) c.args.bytes.now c.loop-at.at (unit_at c.args.bytes.now c.loop-at.at c.piece_at-piece.result) _ c.loop-at.reader c.read.new.self c.in-Err.stop k e (c.in-Err.ensures k.state k.events k.stands))

pub returns-then-is_at : goal.returns-then-is_at
returns-then-is_at c =
    let k = c.loop-at.invariant.comes in
    let e = unit_here c.args.bytes.now c.loop-at.at c.piece_at-piece.result c.loop-at-test.true c.piece_at-piece.ensures.within c.piece_at-piece.ensures.plain in
    let p : is_place (first_unclosed (units_of c.args.bytes.now)) c.loop-at.at ≡ true = ap (λ o. is_place o c.loop-at.at) (sym c.requires.unclosed) ∙ (sym c.is_at.ensures ∙ c.if-is_at.true) in
    unclosed_there c.args.bytes.now c.loop-at.at (unit_at c.args.bytes.now c.loop-at.at c.piece_at-piece.result) _ c.loop-at.reader c.read.new.self k e (c.in-Ok.ensures k.state k.events k.stands) p

pub returns : goal.returns
returns c = comes_to_end c.args.bytes.now c.loop-at.at c.loop-at.reader c.loop-at.invariant.comes (units_end c.args.bytes.now c.loop-at.at c.loop-at-test.false)

use Rattle.std.proofs.Common.{ap, sym, ◌∙◌, arith}
use Rattle.std.specs.List.{slice_get}
use Rattle.rr_directive.specs.Pieces.{units_of}
use Rattle.rr_directive.specs.View.{unit_at}
use Rattle.rr_directive.proofs.Units.{unit_here, units_end}
use Rattle.rr_directive.proofs.Nesting.{first_of, on_unit, at_end, none_pending}
use Rattle.rr_directive.proofs.unclosed.first_unclosed.Goals as goal

pub loop-at-init : goal.loop-at-init
loop-at-init c = record { within = omega arith; same = ap (λ xs. first_of xs (units_of c.args.bytes.now)) c.new-openings.ensures.items ∙ none_pending (units_of c.args.bytes.now) }

pub loop-at-preserved : goal.loop-at-preserved
loop-at-preserved c = record {
  within = c.piece_at-piece.ensures.within.within;
  same = sym (ap (first_of c.loop-at.openings.items) (unit_here c.args.bytes.now c.loop-at.at c.piece_at-piece.result c.loop-at-test.true c.piece_at-piece.ensures.within c.piece_at-piece.ensures.plain) ∙
      on_unit c.loop-at.openings.items _ (unit_at c.args.bytes.now c.loop-at.at c.piece_at-piece.result) _ c.in_ok-nest.ensures) ∙ c.loop-at.invariant.same;
}

pub returns : goal.returns
returns c =
    c.copied.ensures ∙ (c.first.ensures.value ∙ (ap (λ xs. slice_get xs 0) c.deref.ensures.value ∙
    (sym (at_end c.loop-at.openings.items) ∙ (ap (first_of c.loop-at.openings.items) (sym (units_end c.args.bytes.now c.loop-at.at c.loop-at-test.false)) ∙ c.loop-at.invariant.same))))

use Rattle.std.proofs.Common.{◌≡◌, ◌∙◌, ap, ap₂, subst, arith, Bool, List, Option, cond, get_or, length, pos}
use Rattle.rr_syntax.specs.View.{plain}
use Rattle.rr_expr.specs.declared.types.Bit.{Bit}
use Rattle.rr_expr.specs.Scopes.{Names}
use Rattle.rr_expr.specs.Values.{nowhere}
use Rattle.rr_flat.specs.Signals as head
use Rattle.rr_flat.specs.Targets.{target_bits}
use Rattle.rr_flat.specs.View.{Design, plain_flat}
use Rattle.rr_flat.specs.Writers.{driven_by, scope_at}
use Rattle.rr_cycle.specs.Exec.{Environment, write}
use Rattle.rr_blast_steps.specs.Designs.{signal_widths}
use Rattle.rr_named_bits.specs.declared.piece.Piece.{Piece}
use Rattle.rr_named_bits.specs.Pieces.{bits_of}
use Rattle.rr_signal_wires.specs.declared.guarded_pieces.GuardedPiece.{GuardedPiece}
use Rattle.rr_signal_wires.specs.GuardedPieces.{put_guarded_pieces}
use Rattle.rr_meaning.proofs.Scoping.{IsSound, scope_is, scope_read}
use Rattle.rr_blast_steps.proofs.DesignLaws.{scope_holds}
use Rattle.rr_signal_wires.proofs.NameLaws.{few_bits}
use Rattle.rr_meaning.proofs.Scoping.{signal_read}
use Rattle.rr_blast_steps.proofs.SideLaws.{whole_piece}
use Rattle.rr_signal_wires.proofs.GuardedPieceLaws.{no_guarded_pieces, put_guarded_pieces-push}
use Rattle.rr_blast_steps.proofs.steps.driven_guarded_pieces.Goals as goal

pub add_fixed-requires-clause-few : goal.add_fixed-requires-clause-few
add_fixed-requires-clause-few c =
    let d : Design = c.args.flat.now in
    let f : IsSound d = subst IsSound c.flat.view_is c.flat.invariant in
    let r = rw c.in-Text.is at c.requires in
    let x : c.index-scope.result.now ≡ scope_at (plain_flat d) c.in-Text.scope = scope_read d c.in-Text.scope c.index-scope.result.now c.flat.inside.scopes.items r.0 c.index-scope.ensures (ap (λ (z : Design). z.scopes) c.flat.view_is) in
    omega (arith, few_bits c.index-scope.result.now nowhere (plain c.in-Text.expr.now) (rw x r.1.shaped))

pub returns-in_ok-add_fixed-in-Text-clause-guarded_pieces : goal.returns-in_ok-add_fixed-in-Text-clause-guarded_pieces
returns-in_ok-add_fixed-in-Text-clause-guarded_pieces c =
    let d : Design = c.args.flat.now in
    let f : IsSound d = subst IsSound c.flat.view_is c.flat.invariant in
    let r = rw c.in-Text.is at c.requires in
    let x : c.index-scope.result.now ≡ scope_at (plain_flat d) c.in-Text.scope = scope_read d c.in-Text.scope c.index-scope.result.now c.flat.inside.scopes.items r.0 c.index-scope.ensures (ap (λ (z : Design). z.scopes) c.flat.view_is) in
    c.in_ok-add_fixed-in-Text.ensures.guarded_pieces (signal_widths d.signals) (scope_holds d c.index-scope.result.now f (scope_is d c.in-Text.scope c.index-scope.result.now f r.0 x)) (λ k z l. absurd (omega (arith, l, ap length c.new-list.ensures.items)))

pub returns-in_ok-add_fixed-in-Text-clause-value : goal.returns-in_ok-add_fixed-in-Text-clause-value
unfolding driven_by
returns-in_ok-add_fixed-in-Text-clause-value c = λ env vs e.
    let d : Design = c.args.flat.now in
    let f : IsSound d = subst IsSound c.flat.view_is c.flat.invariant in
    let r = rw c.in-Text.is at c.requires in
    let x : c.index-scope.result.now ≡ scope_at (plain_flat d) c.in-Text.scope = scope_read d c.in-Text.scope c.index-scope.result.now c.flat.inside.scopes.items r.0 c.index-scope.ensures (ap (λ (z : Design). z.scopes) c.flat.view_is) in
    rw c.in-Text.is
    (c.in_ok-add_fixed-in-Text.ensures.value env vs e
    ∙ ap₂ (λ (s : Names) (o : Environment). write (target_bits s nowhere (plain c.in-Text.expr.now)) vs o) x (no_guarded_pieces c.args.b.now env c.new-list.result.items vs e c.new-list.ensures.items))

pub returns-in_ok-push_guarded_piece-in-Whole-clause-value : goal.returns-in_ok-push_guarded_piece-in-Whole-clause-value
unfolding driven_by
returns-in_ok-push_guarded_piece-in-Whole-clause-value c = λ env vs e.
    let d : Design = c.args.flat.now in
    let f : IsSound d = subst IsSound c.flat.view_is c.flat.invariant in
    let r = rw c.in-Whole.is at c.requires in
    let w = c.index.result.now.width in
    let q = ap (λ (s : head.Signal). s.width) (signal_read d.signals c.in-Whole.id c.index.result.now c.index.result.now r (c.index.ensures ∙ ap (λ (z : Design). get_or z.signals c.in-Whole.id c.index.result.now) c.flat.view_is)) in
    let piece : Piece = record { signal = c.in-Whole.id; width = w; from = pos 0; count = w } in
    let guarded_piece : GuardedPiece = record { piece = piece; when = c.constant-when.result; from = 0 } in
    let o : Environment = put_guarded_pieces c.args.b.now env c.new-list.result.items vs e in
    rw (c.in-Whole.is, c.in_ok-push_guarded_piece-in-Whole.ensures)
    (put_guarded_pieces-push c.args.b.now env c.new-list.result.items guarded_piece vs e
    ∙ ap (λ (t : Bool). cond t (write (bits_of piece) vs o) o) (c.constant-when.ensures.value env)
    ∙ ap₂ (λ (bs : List (Option Bit)) (u : Environment). write bs vs u) (whole_piece d c.in-Whole.id w f r q) (no_guarded_pieces c.args.b.now env c.new-list.result.items vs e c.new-list.ensures.items))

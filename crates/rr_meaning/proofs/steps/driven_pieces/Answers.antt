use Rattle.std.proofs.Common.{◌≡◌, ◌∙◌, ap, subst, length, ℕ, List}
use Rattle.std.proofs.lemmas.Result.{on_ok_weaker}
use Rattle.rr_syntax.specs.View.{plain}
use Rattle.rr_expr.specs.Scopes.{Names, env_of}
use Rattle.rr_flat.specs.Targets.{target_bits}
use Rattle.rr_flat.specs.View.{Design, plain_flat}
use Rattle.rr_flat.specs.Writers.{driven_by, scope_at}
use Rattle.rr_exec.proofs.Fitting.{no_pieces, target_few, target_fits}
use Rattle.rr_meaning.proofs.Placing.{one_fits, one_piece, whole_few, whole_fits}
use Rattle.rr_meaning.proofs.Scoping.{IsSound, no_faults, scope_holds, scope_is, scope_read}
use Rattle.rr_meaning.proofs.steps.driven_pieces.Goals as goal

pub returns-in-Text-clause-bits : goal.returns-in-Text-clause-bits
unfolding driven_by
returns-in-Text-clause-bits c =
    let r = rw c.in-Text.is at c.requires.side in
    let x : c.index.result.now ≡ scope_at (plain_flat c.args.flat.now) c.in-Text.scope = scope_read c.args.flat.now c.in-Text.scope c.index.result.now c.flat.inside.scopes.items r.0 c.index.ensures (ap (λ (d : Design). d.scopes) c.flat.view_is) in
    on_ok_weaker c.add_pieces.result
    (λ e. rw c.in-Text.is
    (e ∙ no_pieces _ _ c.clear.ensures.items
    ∙ ap (λ (s : Names). target_bits s (env_of c.args.none.now.values.items) (plain c.in-Text.expr.now)) x
    ∙ ap (λ (vs : List ℕ). target_bits (scope_at (plain_flat c.args.flat.now) c.in-Text.scope) (env_of vs) (plain c.in-Text.expr.now)) c.requires.none))
    c.add_pieces.ensures

pub returns-in-Text-clause-fits : goal.returns-in-Text-clause-fits
returns-in-Text-clause-fits c =
    let f : IsSound c.args.flat.now = subst IsSound c.flat.view_is c.flat.invariant in
    let r = rw c.in-Text.is at c.requires.side in
    let x : c.index.result.now ≡ scope_at (plain_flat c.args.flat.now) c.in-Text.scope = scope_read c.args.flat.now c.in-Text.scope c.index.result.now c.flat.inside.scopes.items r.0 c.index.ensures (ap (λ (d : Design). d.scopes) c.flat.view_is) in
    let h = scope_holds c.args.flat.now c.index.result.now f (scope_is c.args.flat.now c.in-Text.scope c.index.result.now f r.0 x) in
    on_ok_weaker c.add_pieces.result
    (λ e. target_fits c.index.result.now (length c.args.flat.now.signals) (env_of c.args.none.now.values.items) (plain c.in-Text.expr.now) c.add_pieces.new.list.items h (e ∙ no_pieces _ _ c.clear.ensures.items))
    c.add_pieces.ensures

pub returns-in-Text-clause-few : goal.returns-in-Text-clause-few
returns-in-Text-clause-few c =
    let r = rw c.in-Text.is at c.requires.side in
    let x : c.index.result.now ≡ scope_at (plain_flat c.args.flat.now) c.in-Text.scope = scope_read c.args.flat.now c.in-Text.scope c.index.result.now c.flat.inside.scopes.items r.0 c.index.ensures (ap (λ (d : Design). d.scopes) c.flat.view_is) in
    on_ok_weaker c.add_pieces.result
    (λ e. target_few c.index.result.now (env_of c.args.none.now.values.items) (plain c.in-Text.expr.now) c.add_pieces.new.list.items (rw x (no_faults _ _ r.1.shaped)) (e ∙ no_pieces _ _ c.clear.ensures.items))
    c.add_pieces.ensures

pub returns-in-Whole-clause-bits : goal.returns-in-Whole-clause-bits
unfolding driven_by
returns-in-Whole-clause-bits c =
    on_ok_weaker c.push_piece.result (λ e. rw c.in-Whole.is (one_piece _ _ c.whole.result c.clear.ensures.items e ∙ c.whole.ensures.bits)) c.push_piece.ensures.items

pub returns-in-Whole-clause-fits : goal.returns-in-Whole-clause-fits
returns-in-Whole-clause-fits c =
    let f : IsSound c.args.flat.now = subst IsSound c.flat.view_is c.flat.invariant in
    let r = rw c.in-Whole.is at c.requires.side in
    on_ok_weaker c.push_piece.result
    (λ e. one_fits (length c.args.flat.now.signals) _ _ c.whole.result (whole_fits c.args.flat.now c.in-Whole.id c.whole.result f r c.whole.ensures.bits) c.clear.ensures.items e)
    c.push_piece.ensures.items

pub returns-in-Whole-clause-few : goal.returns-in-Whole-clause-few
unfolding driven_by
returns-in-Whole-clause-few c =
    let f : IsSound c.args.flat.now = subst IsSound c.flat.view_is c.flat.invariant in
    let r = rw c.in-Whole.is at c.requires.side in
    on_ok_weaker c.push_piece.result
    (λ e. whole_few c.args.flat.now c.in-Whole.id _ f r (one_piece _ _ c.whole.result c.clear.ensures.items e ∙ c.whole.ensures.bits))
    c.push_piece.ensures.items

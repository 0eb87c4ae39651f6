use Rattle.std.proofs.Common.{◌≡◌, ◌∙◌, length}
use Rattle.rr_syntax.specs.View.{plain}
use Rattle.rr_expr.specs.Scopes.{env_of}
use Rattle.rr_flat.proofs.Shaping.{clear}
use Rattle.rr_flat.specs.Targets.{target_bits}
use Rattle.rr_named_bits.specs.Pieces.{all_bits}
use Rattle.rr_exec.proofs.Fitting.{no_pieces, target_fits}
use Rattle.rr_exec.proofs.exec.name_pieces.Goals as goal

pub add_pieces-requires : goal.add_pieces-requires
add_pieces-requires c = clear c.args.scope.now (plain c.args.target.now) c.requires.shaped

pub returns-clause-bits : goal.returns-clause-bits
returns-clause-bits c = c.in_ok-add_pieces.ensures ∙ no_pieces _ _ c.clear.ensures.items

pub returns-clause-fits : goal.returns-clause-fits
returns-clause-fits c =
    let e : all_bits c.add_pieces.new.list.items ≡ target_bits c.args.scope.now (env_of c.args.env.now.values.items) (plain c.args.target.now) = c.in_ok-add_pieces.ensures ∙ no_pieces _ _ c.clear.ensures.items in
    target_fits c.args.scope.now (length c.args.env.now.values.items) (env_of c.args.env.now.values.items) (plain c.args.target.now) c.add_pieces.new.list.items c.requires.holds e

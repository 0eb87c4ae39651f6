use Rattle.std.proofs.Common.{◌∙◌, sym, ap, ◌||◌}
use Rattle.std.specs.Str.{bytes_eq}
use Rattle.rr_syntax.specs.Tree.{Identifier}
use Rattle.rr_syntax.specs.View.{plain_declarator}
use Rattle.rr_guard.specs.Candidates.{is_among}
use Rattle.rr_guard.specs.Names.{net_name}
use Rattle.rr_guard.proofs.Lists.{any_more, any_end, map_twice}
use Rattle.rr_overwrite.specs.Overwrites.{is_in}
use Rattle.rr_overwrite.proofs.Declared.{net_text}
use Rattle.rr_overwrite.proofs.variables.add_declared.Goals as goal

pub loop-declared-preserved : goal.loop-declared-preserved
loop-declared-preserved c = λ name.
    any_more (λ (x : Identifier). bytes_eq name x.text) (λ n. net_name (plain_declarator n)) _ _ _ c.args.names.now c.loop-declared.declared-index _ c.loop-declared-test.true
    (c.in_ok-add.ensures.among name ∙ ap (λ t. is_among name c.loop-declared.set || bytes_eq name t) (sym (net_text _))) (c.loop-declared.invariant name)

pub returns : goal.returns
returns c = λ name.
    any_end (λ (x : Identifier). bytes_eq name x.text) (λ n. net_name (plain_declarator n)) _ _ c.args.names.now c.loop-declared.declared-index c.loop-declared-test.false (c.loop-declared.invariant name)
    ∙ ap (λ xs. is_among name c.args.set.now || is_in name xs) (map_twice net_name plain_declarator c.args.names.now)

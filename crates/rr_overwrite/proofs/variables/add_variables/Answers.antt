use Rattle.std.proofs.Common.{◌∙◌, sym, ap, ◌||◌, map}
use Rattle.std.specs.Str.{bytes_eq}
use Rattle.rr_syntax.specs.Tree.{Identifier, DeclaredName}
use Rattle.rr_syntax.specs.View.{plain_declarator}
use Rattle.rr_guard.specs.Candidates.{is_among}
use Rattle.rr_guard.specs.Names.{wordless_name}
use Rattle.rr_guard.proofs.Lists.{any_more, any_end}
use Rattle.rr_overwrite.specs.Overwrites.{is_in}
use Rattle.rr_overwrite.proofs.Declared.{any_flat}
use Rattle.rr_overwrite.proofs.variables.add_variables.Goals as goal

pub loop-declared-preserved : goal.loop-declared-preserved
loop-declared-preserved c = λ name.
    any_more (λ (n : DeclaredName). is_in name (wordless_name n)) plain_declarator _ _ _ c.args.names.now c.loop-declared.declared-index _ c.loop-declared-test.true (c.in_ok-add_wordless.ensures name) (c.loop-declared.invariant name)

pub returns : goal.returns
returns c = λ name.
    any_end (λ (n : DeclaredName). is_in name (wordless_name n)) plain_declarator _ _ c.args.names.now c.loop-declared.declared-index c.loop-declared-test.false (c.loop-declared.invariant name)
    ∙ ap (λ b. is_among name c.args.set.now || b) (sym (any_flat (λ (x : Identifier). bytes_eq name x.text) wordless_name (map plain_declarator c.args.names.now)))

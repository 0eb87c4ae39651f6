use Rattle.std.proofs.Common.{◌≡◌, ◌∙◌, ap, List, ℕ, length, sym, subst}
use Rattle.std.specs.List.{All}
use Rattle.rr_syntax.specs.View.{plain_source}
use Rattle.rr_lex.specs.Tokens.{lexemes}
use Rattle.rr_edit.specs.Edits.{Edit, edited, InOrder, IsPlaced}
use Rattle.rr_edit.specs.View.{plain_edits}
use Rattle.rr_respell.specs.Printing.{printed}
use Rattle.rr_map.specs.Read.{source_file}
use Rattle.rr_map.proofs.Prints.{all_lift, expands}
use Rattle.rr_map.proofs.printing.print_file.Goals as goal

pub unreachable-requires : goal.unreachable-requires
unreachable-requires c =
    let read = c.args.read.now in
    (rw c.in-None.is at c.in_ok-out.ensures.none)
    (all_lift read.file.now (source_file read) read.list.now c.args.choice.now.picks.items c.requires c.sites.ensures.kept (plain_edits c.as_slice.result.now) (ap plain_edits c.as_slice.ensures.value ∙ c.in_ok-made.ensures.exact))

pub returns-clause-tree : goal.returns-clause-tree
returns-clause-tree c =
    let read = c.args.read.now in
    let text = read.expanded.now.text.items in
    let made = plain_edits c.in_ok-made.made.items in
    let given = plain_edits c.as_slice.result.now in
    let same : given ≡ made = ap plain_edits c.as_slice.ensures.value in
    let order : InOrder 0 (length text) made = subst (λ (t : List ℕ). InOrder 0 (length t) made) c.as_slice-text.ensures.value c.in_ok-made.ensures.order in
    let placed : All (IsPlaced text) made = subst (λ (t : List ℕ). All (IsPlaced t) made) c.as_slice-text.ensures.value c.in_ok-made.ensures.placed in
    let prints : edited 0 text made ≡ printed text (lexemes read.tokens.now) read.list.now c.args.choice.now.picks.items (plain_source read.source.now) =
    subst (λ (t : List ℕ). edited 0 t made ≡ printed t (lexemes read.tokens.now) read.list.now c.args.choice.now.picks.items (plain_source read.source.now)) c.as_slice-text.ensures.value c.in_ok-made.ensures.printed in
    expands read.file.now (source_file read) read.list.now c.args.choice.now.picks.items c.requires c.sites.ensures.kept given (same ∙ c.in_ok-made.ensures.exact) c.in-Some.out.items (rw c.in-Some.is at c.in_ok-out.ensures.lifted)
    (subst (λ (es : List Edit). InOrder 0 (length text) es) (sym same) order) (subst (λ (es : List Edit). All (IsPlaced text) es) (sym same) placed)
    (subst (λ (es : List Edit). edited 0 text es ≡ printed text (lexemes read.tokens.now) read.list.now c.args.choice.now.picks.items (plain_source read.source.now)) (sym same) prints)

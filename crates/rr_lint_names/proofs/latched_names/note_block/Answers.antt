use Rattle.std.proofs.Common.{◌≡◌, ap, nat_eq, map, refl, sym, ◌∙◌, ◌++◌, length, List, arith}
use Rattle.std.proofs.lemmas.Bool.Decides.{nat_tests}
use Rattle.indexmap.specs.IndexMap.{get}
use Rattle.rr_syntax.specs.View.{plain_statement}
use Rattle.rr_expr.specs.declared.types.Bit.{Bit}
use Rattle.rr_flat.specs.Reads.{assigned_by}
use Rattle.rr_latch.specs.Paths.{listed}
use Rattle.rr_text_names.specs.View.{plain_target}
use Rattle.rr_lint_names.specs.Latched.{marks}
use Rattle.rr_lint_names.proofs.KeptWords.{its_kept_word, no_kept_word, none_kept, none_noted}
use Rattle.rr_lint_names.proofs.Latching.{notes_kept}
use Rattle.rr_lint_names.proofs.latched_names.note_block.Goals as goal

pub returns-then-is_empty-clause-noted : goal.returns-then-is_empty-clause-noted
returns-then-is_empty-clause-noted c =
    none_noted c.args.names.now (plain_statement c.args.block.now.body.now) c.in_ok-bits.bits.items (let p : length c.in_ok-bits.bits.items ≡ 0 = grind (arith, nat_tests) in p) c.in_ok-bits.ensures.all c.args.block.now.token
    (marks c.args.noted.now)

pub returns-then-is_empty-clause-words : goal.returns-then-is_empty-clause-words
returns-then-is_empty-clause-words c =
    none_kept c.args.names.now (plain_statement c.args.block.now.body.now) c.in_ok-bits.bits.items (let p : length c.in_ok-bits.bits.items ≡ 0 = grind (arith, nat_tests) in p) c.in_ok-bits.ensures.all

pub returns-in-Some-clause-fault : goal.returns-in-Some-clause-fault
returns-in-Some-clause-fault c =
    let v = c.as_slice.ensures.value in (
      refl,
      its_kept_word c.args.names.now (plain_statement c.args.block.now.body.now) (map plain_target c.as_slice-list.result.now)
          (ap (map plain_target) c.as_slice-list.ensures.value ∙ c.in_ok-add_assigned_targets.ensures ∙ ap (λ l. map plain_target l ++ assigned_by (plain_statement c.args.block.now.body.now)) c.new-targets.ensures.items)
          (get nat_eq c.in_ok-lows.lows) c.as_slice.result.now c.in_ok-lows.ensures (λ b h. c.in_ok-bits.ensures.kept b (sym (ap (λ (l : List Bit). listed l b) v) ∙ h)) c.in-Some.bit
          (rw c.in-Some.is at c.in_ok-bit.ensures.some),
    )

pub returns-clause-words : goal.returns-clause-words
returns-clause-words c =
    let v = c.as_slice.ensures.value in
    no_kept_word c.args.names.now (plain_statement c.args.block.now.body.now) (map plain_target c.as_slice-list.result.now)
    (ap (map plain_target) c.as_slice-list.ensures.value ∙ c.in_ok-add_assigned_targets.ensures ∙ ap (λ l. map plain_target l ++ assigned_by (plain_statement c.args.block.now.body.now)) c.new-targets.ensures.items)
    (get nat_eq c.in_ok-lows.lows) c.as_slice.result.now c.in_ok-lows.ensures (λ b k. ap (λ (l : List Bit). listed l b) v ∙ c.in_ok-bits.ensures.all b k) (rw c.in_default.is at c.in_ok-bit.ensures.none)

pub returns-clause-noted : goal.returns-clause-noted
returns-clause-noted c =
    let v = c.as_slice.ensures.value in
    notes_kept c.args.names.now (plain_statement c.args.block.now.body.now) (get nat_eq c.in_ok-lows.lows) c.as_slice.result.now c.in_ok-lows.ensures
    (λ b h. c.in_ok-bits.ensures.kept b (sym (ap (λ (l : List Bit). listed l b) v) ∙ h)) (λ b k. ap (λ (l : List Bit). listed l b) v ∙ c.in_ok-bits.ensures.all b k) (returns-clause-words c)
    c.args.block.now.token (marks c.args.noted.now) (marks c.note_targets.new.noted) (map plain_target c.as_slice-list.result.now)
    (ap (map plain_target) c.as_slice-list.ensures.value ∙ c.in_ok-add_assigned_targets.ensures ∙ ap (λ l. map plain_target l ++ assigned_by (plain_statement c.args.block.now.body.now)) c.new-targets.ensures.items)
    c.in_ok-note_targets.ensures

use Rattle.std.proofs.Common.{rules, ◌≡◌, ◌<◌, ◌*◌, ℕ, subst, sym, arith, length, slice_index_or, IfOk, take, drop}
use Rattle.std.specs.Prelude.{Result, All}
use Rattle.std.specs.declared.alloc.AllocError.{AllocError}
use Rattle.rr_check.specs.declared.part.Part.{Part}
use Rattle.rr_check.specs.declared.verdict.Verdict.{Verdict}
use Rattle.rr_check.specs.Parts.{Covers, VerdictOn, AreFound, IsPartOf}
use Rattle.rr_check.proofs.Joins.{are_found, FoundOn, on_part}
use Rattle.rr_check.proofs.Whole.{verdict_where, exact_where, sound_where}
use Rattle.rr_check.proofs.first_bad.Goals as goal

pub returns-clause-verdict : goal.returns-clause-verdict
returns-clause-verdict g c =
    let cs = c.args.formula.now.clauses in
    let lines = c.args.journal.now.lines in
    let parts = c.in_ok-parts.parts.items in
    let found = c.in_ok-found.found.items in
    let are_parts : All (IsPartOf lines) parts = search rules in
    let covers : Covers 0 (length lines) parts = search rules in
    let len : length found ≡ length parts = search rules in
    let each : (n : ℕ) (p : Part) (r : Result Verdict AllocError) → n < length found → FoundOn cs lines (slice_index_or parts n p) (slice_index_or found n r) = (λ n p r lt.
    let k = (c.in_ok-found.ensures.each n r lt).1 in
    let on_chunk : (start end : ℕ) → Covers start end k.argument.now → IfOk (slice_index_or found n r) (VerdictOn cs lines start end) = search rules in
    let chunk_is : k.argument.now ≡ take 1 (drop (n * 1) parts) = search rules in
    on_part cs lines parts k.argument.now n p (slice_index_or found n r) chunk_is (omega (arith, len)) are_parts on_chunk) in
    let are : AreFound cs lines 0 (length lines) found = are_found cs lines 0 (length lines) parts found covers len each in
    verdict_where cs lines c.joined.result (c.joined.ensures cs lines 0 (length lines) (subst (AreFound cs lines 0 (length lines)) (sym c.as_slice-2.ensures.value) are))

pub returns-clause-exact : goal.returns-clause-exact
returns-clause-exact g c = λ v is. exact_where c.args.formula.now.clauses c.args.journal.now.lines c.joined.result v is (returns-clause-verdict g c)

pub returns-clause-sound : goal.returns-clause-sound
returns-clause-sound g c = sound_where c.args.formula.now.clauses c.args.journal.now.lines c.joined.result (returns-clause-verdict g c)

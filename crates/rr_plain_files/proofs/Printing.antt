-- A choice is printed into a file without macros as into a text.
use Rattle.std.proofs.Common.{ℕ, ◌≡◌, ◌∙◌, true, List, ap, subst}
use Rattle.std.specs.List.{All}
use Rattle.rr_directive.specs.declared.origin.Origin.{Origin}
use Rattle.rr_directive.proofs.Faults.{one_expansion}
use Rattle.rr_directive.proofs.PlainPlaces.{plain_taken}
use Rattle.rr_lex.specs.Tokens.{AreTokens}
use Rattle.rr_respell.specs.Printing.{edits_of}
use Rattle.rr_edit.specs.Edits.{AreEdits, Edit}
use Rattle.rr_edit.specs.Lifted.{lifted, lifts}
use Rattle.rr_patch.specs.Edits.{byte_edits}
use Rattle.rr_patch.proofs.Printed.{fit_widths}
use Rattle.rr_patch.proofs.Stood.{edits_order, edits_patch, edits_placed}
use Rattle.rr_put_laws.proofs.Put.{news_are_put}
use Rattle.rr_kept.proofs.Together.{kept_lift}
use Rattle.rr_lift.proofs.Lifts.{own_lifted}
use Rattle.rr_plain_files.specs.Laws.{PlainPrints}

pub plain_prints : PlainPrints
plain_prints bytes file ss ps p few r list =
    let taken = plain_taken bytes p.units few in
    let same = one_expansion bytes file.text bytes file.origins taken.0 r.expansion taken.1.0.expansion in
    let are : AreTokens bytes file.tokens = subst (λ (x : List ℕ). AreTokens x file.tokens) same.0 r.tokens in
    let made : List Edit = byte_edits file.tokens (edits_of ss ps file.source) in
    let edits : AreEdits bytes made = record {
      order = edits_order bytes file.tokens (edits_of ss ps file.source) are;
      placed = edits_placed bytes file.tokens (edits_of ss ps file.source) are;
      put = news_are_put file.tokens file.source ss ps (fit_widths ss list) r.named;
    } in
    let lift : All (λ e. lifts taken.0 e ≡ true) made =
    subst (λ (os : List Origin). All (λ e. lifts os e ≡ true) made) same.1 (kept_lift file.origins file.tokens file.source r.listed ss ps r.spells r.numbered r.kept) in
    ap (λ (os : List Origin). lifted os made 0 bytes) same.1 ∙ own_lifted bytes taken.0 made taken.1.0 taken.1.1 edits lift
    ∙ edits_patch bytes file.tokens (edits_of ss ps file.source) are

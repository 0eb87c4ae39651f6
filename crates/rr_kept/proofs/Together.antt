-- All edits of each choice of kept sites lift, and what holds of each site holds of the kept ones.
use Rattle.std.proofs.Common.{◌≡◌, ℕ, true, List, [], ◌∷◌, sym, subst, ap, arith}
use Rattle.std.specs.List.{All, AllByRecursion}
use Rattle.std.proofs.lemmas.List.Elements.{All-filter, All-from_recursion, recursion_from_All, filter_passes}
use Rattle.rr_syntax.specs.Tree.{SourceText}
use Rattle.rr_directive.specs.declared.origin.Origin.{Origin}
use Rattle.rr_lex.specs.Tokens.{Lexeme}
use Rattle.rr_choice.specs.Sites as sites
use Rattle.rr_choice.specs.Sites.{SiteKind, Site, HasFitWidth}
use Rattle.rr_edit.specs.Lifted.{lifts}
use Rattle.rr_respell.specs.Laws.{IsNamed}
use Rattle.rr_respell.specs.Printing.{source_pieces}
use Rattle.rr_kept.specs.Kept.{token_at, place_lifts, kind_lifts, is_kept, AreKept, body_length_in}
use Rattle.rr_kept.specs.Laws.{KeptLift, KeptAreNamed, KeptFit}
use Rattle.rr_kept.proofs.EditsLift.{MayReplace, MayPut, edits_lift, and_left, and_right}
use Rattle.rr_kept.proofs.ItemsLift.{source_lifts}
use Rattle.rr_kept.proofs.TreesLift.{Allows, AllAllow}

-- what holds of each site of a list holds of each that is kept
pub kept_all : (P : Site → Type 0) (origins : List Origin) (ts : List Lexeme) (source : SourceText) (listed ss : List Site) → AreKept origins ts source listed ss → All P listed → All P ss
kept_all P origins ts source listed ss are h = subst (All P) (sym are) (All-filter (is_kept origins ts source) P listed h)

module _ (origins : List Origin) (ts : List Lexeme) (source : SourceText) where
  abbrev Size : ℕ → ℕ
  Size k = body_length_in source k

  kind_allows : (k : SiteKind) (token : ℕ) → kind_lifts origins ts source token k ≡ true → Allows (MayReplace origins ts) (MayPut origins ts) Size token k
  kind_allows (sites.Literal width signed) token h = h
  kind_allows (sites.Guard owner extent names) token h = (and_left (place_lifts origins ts token) _ h, and_right (place_lifts origins ts token) _ h)
  kind_allows (sites.Overwrite owner target width now names) token h = (and_left (place_lifts origins ts token) _ h, and_right (place_lifts origins ts token) _ h)

  all_allow : (ss : List Site) → AllByRecursion (λ s. is_kept origins ts source s ≡ true) ss → AllAllow (MayReplace origins ts) (MayPut origins ts) Size ss
  all_allow [] h = tt
  all_allow (s ∷ ss) h = (kind_allows s.kind s.token h.0, all_allow ss h.1)

pub kept_lift : KeptLift
kept_lift origins ts source listed ss ps spells numbered are =
    let passed = subst (All (λ s. is_kept origins ts source s ≡ true)) (sym are) (filter_passes (is_kept origins ts source) listed) in
    let allow = all_allow origins ts source ss (recursion_from_All _ ss passed) in
    let done = source_lifts (MayReplace origins ts) (MayPut origins ts) source ss allow ps (λ e. absurd (cc e)) spells.well numbered in
    All-from_recursion (λ e. lifts origins e ≡ true) _ (edits_lift origins ts 0 ts (source_pieces ss ps source) (λ i. ap (token_at ts) (omega arith)) done.allowed)

pub kept_are_named : KeptAreNamed
kept_are_named origins ts source listed ss are h = kept_all (λ s. IsNamed s.kind) origins ts source listed ss are h

pub kept_fit : KeptFit
kept_fit origins ts source listed ss are h = kept_all (λ s. HasFitWidth s.kind) origins ts source listed ss are h

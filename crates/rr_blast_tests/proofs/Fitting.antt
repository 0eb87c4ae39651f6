-- a lawful design without sites is one that fits
use Rattle.std.proofs.Common.{◌≡◌, sym, ap, subst, ℕ, Bool, List, [], Option, arith}
use Rattle.rr_syntax.specs.declared.site.Site.{Site as ArenaSite}
use Rattle.rr_syntax.specs.Tree.{SourceText}
use Rattle.rr_flat.specs.declared.design.Step.{Step}
use Rattle.rr_flat.specs.Lawful.{Lawful}
use Rattle.rr_flat.specs.Ordered.{Ordered}
use Rattle.rr_flat.specs.Plain.{Flat}
use Rattle.rr_flat.specs.Signals.{Text}
use Rattle.rr_lex.specs.Tokens.{Lexeme}
use Rattle.rr_flatten.proofs.Limits.{design_stays}
use Rattle.rr_elaborate.specs.Designs.{IsDesignOf}
use Rattle.rr_choice.specs.Choices.{total_bits}
use Rattle.rr_choice.specs.Sites.{IsSiteList, Site}
use Rattle.rr_choice.specs.View.{plain_sites}
use Rattle.rr_lawful_instance.specs.Listed.{AreRight}
use Rattle.rr_transition.specs.Cycles.{Design}
use Rattle.rr_blast.specs.Circuits.{FitsArguments}

pub fits : (bytes : List ℕ) (tokens : List Lexeme) (source : SourceText) (top word : Option Text) (flat : Flat) (clock : Option ℕ) (rising : Bool) (steps : List Step) (sites : List Site) →
    IsDesignOf bytes tokens source top flat → Lawful flat word → Ordered flat word clock rising steps → sites ≡ [] → (j : Design) × FitsArguments j flat clock rising steps sites
fits bytes tokens source top word flat clock rising steps sites d l o e = (
  record { source = source; top = top; word = word },
  record {
    design = design_stays 1048576 source top flat d.flat;
    lawful = l;
    ordered = o;
    right = subst (AreRight source flat word) (sym e) (record { formed = d.text.spells.tree.spells.well; numbered = d.text.spells.numbered; each = tt });
  },
)

pub no_bits : (sites : List Site) → sites ≡ [] → total_bits sites ≡ 0
unfolding total_bits
no_bits sites e = ap total_bits e

pub no_list : (sites : List ArenaSite) → sites ≡ [] → IsSiteList (plain_sites sites)
no_list sites e = subst (λ (xs : List ArenaSite). IsSiteList (plain_sites xs)) (sym e) (record { each = λ k d l. absurd (omega (arith, l)); rising = λ i j d le lt. absurd (omega (arith, lt)) })

pub none_listed : (sites : List ArenaSite) → sites ≡ [] → plain_sites sites ≡ []
none_listed sites e = ap plain_sites e

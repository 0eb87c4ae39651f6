-- A text has one list of sites, or one refusal.
use Rattle.std.proofs.Common.{◌≡◌, ◌∙◌, ℕ, Bool, List, [], Option, Some, inl, inr, sym, ap, subst, arith, length, filter}
use Rattle.rr_syntax.specs.Tree.{SourceText}
use Rattle.rr_directive.specs.declared.origin.Origin.{Origin}
use Rattle.rr_directive.proofs.Faults.{one_expansion}
use Rattle.rr_lex.specs.Tokens.{Lexeme}
use Rattle.rr_flat.specs.Clocks.{OneClock}
use Rattle.rr_flat.specs.Lawful.{Lawful}
use Rattle.rr_flat.specs.Plain.{Flat}
use Rattle.rr_flat.specs.Signals.{Text}
use Rattle.rr_flat.specs.declared.fault.Limit.TheVariants as limit
use Rattle.rr_flatten.specs.Walk.{flat_by}
use Rattle.rr_flatten.proofs.HeadOf.{ok_is}
use Rattle.rr_elaborate.specs.Designs.{IsDesignOf}
use Rattle.rr_elaborate.proofs.Once.{one_text as one_tree}
use Rattle.rr_kept.specs.Kept.{is_kept}
use Rattle.rr_kept.specs.Read.{SourceFile}
use Rattle.rr_choice.specs.Sites.{Site}
use Rattle.rr_lawful.proofs.ClockOnce.{one_clock}
use Rattle.rr_run.specs.Refusals.{Refusal, TooMany}
use Rattle.rr_run.specs.declared.rows.TableKind.TheVariants as kind
use Rattle.rr_run.specs.Runs.{IsSameRefusal}
use Rattle.rr_run.specs.Files.{IsFileDesign, RefusesFileDesign, placed_tokens}
use Rattle.rr_run.proofs.FileOnce.{file_design_or_refusal, one_file_refused}
use Rattle.rr_sites_fit.proofs.Same.{one_list as one_listing}
use Rattle.rr_sites_command.specs.Lines.{site_lines}
use Rattle.rr_sites_command.specs.Lists.{AreSites, HasFileSites, HasSites, IsSiteText, RefusesSites}

-- sites of one design
same_sites : (source : SourceText) (flat : Flat) (clock : Option ℕ) (ss rs : List Site) → AreSites source flat clock ss → AreSites source flat clock rs → ss ≡ rs
same_sites source flat clock ss rs (ps, a, e) (qs, b, f) = e ∙ (one_listing source flat.scopes flat.owners flat clock ps qs a b ∙ sym f)

module _ (bytes : List ℕ) (top word : Option Text) where
  pub one_list : (ts us : List Lexeme) (ss rs : List Site) → HasSites bytes top word ts ss → HasSites bytes top word us rs → (ts ≡ us) × (ss ≡ rs)
  one_list ts us ss rs a b =
      let both = one_tree bytes ts us a.source b.source a.design.text b.design.text in
      let flats : a.flat ≡ b.flat = ok_is a.flat b.flat (sym a.design.flat ∙ (ap (λ (t : SourceText). flat_by (Some 1048576) t top) both.1 ∙ b.design.flat)) in
      let clocks = one_clock b.flat word a.clock b.clock a.rising b.rising (subst (λ (f : Flat). OneClock f word a.clock a.rising) flats a.one_clock) b.one_clock in
      let are : AreSites b.source b.flat b.clock ss =
      subst (λ (c : Option ℕ). AreSites b.source b.flat c ss) clocks.0 (subst (λ (f : Flat). AreSites b.source f a.clock ss) flats (subst (λ (t : SourceText). AreSites t a.flat a.clock ss) both.1 a.are)) in
      (both.0, same_sites b.source b.flat b.clock ss rs are b.are)

-- ---- a file
module _ (file : List ℕ) (top word : Option Text) where
  text_of : (bytes : List ℕ) (f : SourceFile) (flat : Flat) (clock : Option ℕ) (rising : Bool) (ss : List Site) → IsDesignOf bytes f.tokens f.source top flat → Lawful flat word → OneClock flat word clock rising →
      AreSites f.source flat clock ss → HasSites bytes top word f.tokens ss
  text_of bytes f flat clock rising ss d l o are = record { source = f.source; flat = flat; clock = clock; rising = rising; design = d; lawful = l; one_clock = o; are = are }

  same_file : (a b : SourceFile) → a.text ≡ b.text → a.origins ≡ b.origins → a.tokens ≡ b.tokens → a.source ≡ b.source → a ≡ b
  same_file a b t o l s =
      ap (λ (x : List ℕ). record { text = x; origins = a.origins; tokens = a.tokens; source = a.source }) t ∙
      (ap (λ (x : List Origin). record { text = b.text; origins = x; tokens = a.tokens; source = a.source }) o ∙
      (ap (λ (x : List Lexeme). record { text = b.text; origins = b.origins; tokens = x; source = a.source }) l ∙
      ap (λ (x : SourceText). record { text = b.text; origins = b.origins; tokens = b.tokens; source = x }) s))

  pub one_file : (a b : SourceFile) (ss rs : List Site) → HasFileSites file top word a ss → HasFileSites file top word b rs → (a ≡ b) × (ss ≡ rs)
  one_file a b ss rs p q =
      let texts = one_expansion file a.text b.text a.origins b.origins p.expansion.expansion q.expansion.expansion in
      let design : IsDesignOf b.text a.tokens a.source top p.flat = subst (λ (t : List ℕ). IsDesignOf t a.tokens a.source top p.flat) texts.0 p.design in
      let trees = one_tree b.text a.tokens b.tokens a.source b.source design.text q.design.text in
      let lists = one_list b.text top word a.tokens b.tokens p.listed q.listed (text_of b.text a p.flat p.clock p.rising p.listed design p.lawful p.one_clock p.are)
      (text_of b.text b q.flat q.clock q.rising q.listed q.design q.lawful q.one_clock q.are) in
      let same : a ≡ b = same_file a b texts.0 texts.1 trees.0 trees.1 in
      let kept : ss ≡ filter (is_kept b.origins b.tokens b.source) q.listed =
      p.kept ∙ (ap (λ (f : SourceFile). filter (is_kept f.origins f.tokens f.source) p.listed) same ∙ ap (filter (is_kept b.origins b.tokens b.source)) lists.1) in
      (same, kept ∙ sym q.kept)

  pub one_text : (x y : List ℕ) → IsSiteText file top word x → IsSiteText file top word y → x ≡ y
  one_text x y a b =
      let both = one_file a.read b.read a.sites b.sites a.has b.has in
      a.told.1 ∙ (ap (λ (f : SourceFile). site_lines (placed_tokens f.origins (length file) f.tokens) 0 a.sites) both.0 ∙
      (ap (λ (ss : List Site). site_lines (placed_tokens b.read.origins (length file) b.read.tokens) 0 ss) both.1 ∙ sym b.told.1))

  -- a file with sites is that of a lawful design
  pub lawful_of : (read : SourceFile) (ss : List Site) (h : HasFileSites file top word read ss) → IsFileDesign file top word read.tokens h.flat h.clock h.rising
  lawful_of read ss h =
      record { text = read.text; origins = read.origins; expansion = h.expansion; design = record { design = record { tree = read.source; text = h.design.text; flat = h.design.flat }; lawful = h.lawful; one_clock = h.one_clock } }

  not_refused : (read : SourceFile) (ss : List Site) (refusal : Refusal) → HasFileSites file top word read ss → RefusesFileDesign file top word refusal → ⊥
  not_refused read ss refusal h r = file_design_or_refusal file top word read.tokens h.flat h.clock h.rising refusal (lawful_of read ss h) r

  pub text_or_refusal : (x : List ℕ) (refusal : Refusal) → IsSiteText file top word x → RefusesSites file top word refusal → ⊥
  text_or_refusal x refusal a (inl r) = not_refused a.read a.sites refusal a.has r
  text_or_refusal x refusal a (inr r) =
      let both = one_file a.read r.read a.sites r.sites a.has r.has in
      let n : length a.sites ≡ length r.sites = ap length both.1 in
      let few = a.told.0 in
      let many = r.told.0 in
      omega (arith, n, few, many)

  pub one_refusal : (a b : Refusal) → RefusesSites file top word a → RefusesSites file top word b → IsSameRefusal a b
  one_refusal a b (inl p) (inl q) = one_file_refused file top word kind.Csv [] a b (inl p) (inl q)
  one_refusal a b (inl p) (inr q) = absurd (not_refused q.read q.sites a q.has p)
  one_refusal a b (inr p) (inl q) = absurd (not_refused p.read p.sites b p.has q)
  one_refusal a b (inr p) (inr q) =
      let both = one_file p.read q.read p.sites q.sites p.has q.has in
      let n : length p.sites ≡ length q.sites = ap length both.1 in
      inl (p.told.1 ∙ (ap (λ (k : ℕ). TooMany limit.Sites k) n ∙ sym q.told.1))

-- A file is mended in one way, or refused for one reason.
use Rattle.std.proofs.Common.{◌≡◌, ◌⊎◌, ◌∙◌, ℕ, true, List, [], ◌∷◌, ◌++◌, length, Option, None, Some, inl, inr, refl, sym, ap, subst, All, arith}
use Rattle.std.proofs.lemmas.Bool.{cases_lt, false≢true}
use Rattle.std.proofs.lemmas.List.Elements.{All-head, All-tail}
use Rattle.rr_syntax.specs.Tree.{SourceText}
use Rattle.rr_directive.specs.declared.origin.Origin.{Origin}
use Rattle.rr_directive.specs.Expand.{IsTaken}
use Rattle.rr_directive.specs.Places.{offset_at}
use Rattle.rr_edit.specs.Edits.{Edit}
use Rattle.rr_edit.specs.Lifted.{lifted, lifts}
use Rattle.rr_lex.specs.Tokens.{Lexeme}
use Rattle.rr_expr.specs.declared.types.Bit.{Bit}
use Rattle.rr_flat.specs.Lawful.{RightLabels, RightTargets}
use Rattle.rr_flat.specs.Plain.{Flat}
use Rattle.rr_flat.specs.Signals.{Text}
use Rattle.rr_flat.specs.Writers.{block_at}
use Rattle.rr_flatten.specs.Walk.{flat_by}
use Rattle.rr_flatten.proofs.HeadOf.{ok_is}
use Rattle.rr_elaborate.specs.Designs.{IsDesign, IsDesignOf, start_of}
use Rattle.rr_elaborate.proofs.Once.{one_design, one_text as one_tree}
use Rattle.rr_lawful.specs.Checked.{FailsFirst}
use Rattle.rr_lawful.specs.declared.laws.LawFault.{LawFault}
use Rattle.rr_lawful.specs.declared.laws.LawFault.TheVariants as law
use Rattle.rr_lawful.proofs.OneFault.{labels_break, targets_break}
use Rattle.rr_kept.specs.Read.{SourceFile}
use Rattle.rr_run.specs.declared.fault.Fault.{Fault}
use Rattle.rr_run.specs.declared.fault.Fault.TheVariants as fault
use Rattle.rr_run.specs.declared.rows.TableKind.TheVariants as kind
use Rattle.rr_run.specs.Files.{HasNoDesign, placed}
use Rattle.rr_run.specs.Refusals.{Refusal, At}
use Rattle.rr_run.specs.Runs.{IsAt, IsBroken, IsSameRefusal, Told}
use Rattle.rr_run.proofs.FileOnce.{expanded_or_not, one_file_refused, one_text as one_expansion}
use Rattle.rr_lint_laws.specs.Mended.{IsFirstWordLatch, NoWordLatches}
use Rattle.rr_lint.specs.Edited.{AreLintEdits}
use Rattle.rr_lint_file.specs.Files.{HasEdits, HasFixedEdit, HasNoFlat, HasWordLatch, HasWrongText, IsFirstFixed, IsMendedFile, RefusesMend, anchor}
use Rattle.rr_lint_file.proofs.Marks.{one_edits}

-- no design breaks a law of targets or labels that holds
wrong_law : (flat : Flat) (found : LawFault) (what : Fault) (token : ℕ) → (what ≡ fault.BadTarget) ⊎ (what ≡ fault.WildLabel) → Told found what token → FailsFirst flat None found → RightTargets flat → RightLabels flat → ⊥
wrong_law flat (law.UnknownName t) what token which told f targets labels = elim which [ inl e ↦ absurd (let bad : fault.UnknownName ≡ fault.BadTarget = sym told.0 ∙ e in cc) | inr e ↦ absurd (let bad : fault.UnknownName ≡ fault.WildLabel = sym told.0 ∙ e in cc) ]
wrong_law flat (law.TwoDrivers bit first second) what token which told f targets labels = elim which [ inl e ↦ absurd (let bad : fault.TwoDrivers ≡ fault.BadTarget = sym told.0 ∙ e in cc) | inr e ↦ absurd (let bad : fault.TwoDrivers ≡ fault.WildLabel = sym told.0 ∙ e in cc) ]
wrong_law flat (law.WrongAssign t) what token which told f targets labels = elim which [ inl e ↦ absurd (let bad : fault.WrongAssign ≡ fault.BadTarget = sym told.0 ∙ e in cc) | inr e ↦ absurd (let bad : fault.WrongAssign ≡ fault.WildLabel = sym told.0 ∙ e in cc) ]
wrong_law flat (law.Race t) what token which told f targets labels = elim which [ inl e ↦ absurd (let bad : fault.Race ≡ fault.BadTarget = sym told.0 ∙ e in cc) | inr e ↦ absurd (let bad : fault.Race ≡ fault.WildLabel = sym told.0 ∙ e in cc) ]
wrong_law flat (law.Latch bit block) what token which told f targets labels = elim which [ inl e ↦ absurd (let bad : fault.Latch ≡ fault.BadTarget = sym told.0 ∙ e in cc) | inr e ↦ absurd (let bad : fault.Latch ≡ fault.WildLabel = sym told.0 ∙ e in cc) ]
wrong_law flat (law.Loop cycle t) what token which told f targets labels = elim which [ inl e ↦ absurd (let bad : fault.Loop ≡ fault.BadTarget = sym told.0 ∙ e in cc) | inr e ↦ absurd (let bad : fault.Loop ≡ fault.WildLabel = sym told.0 ∙ e in cc) ]
wrong_law flat (law.ClockUse t) what token which told f targets labels = elim which [ inl e ↦ absurd (let bad : fault.ClockUse ≡ fault.BadTarget = sym told.0 ∙ e in cc) | inr e ↦ absurd (let bad : fault.ClockUse ≡ fault.WildLabel = sym told.0 ∙ e in cc) ]
wrong_law flat (law.TwoClocks t) what token which told f targets labels = elim which [ inl e ↦ absurd (let bad : fault.TwoClocks ≡ fault.BadTarget = sym told.0 ∙ e in cc) | inr e ↦ absurd (let bad : fault.TwoClocks ≡ fault.WildLabel = sym told.0 ∙ e in cc) ]
wrong_law flat (law.BadTarget t) what token which told f targets labels = targets_break flat t f.1 targets
wrong_law flat (law.WildLabel t) what token which told f targets labels = labels_break flat t f.2 labels
wrong_law flat law.Memory what token which told f targets labels = told

-- the first edit that does not lift is one
one_first : (origins : List Origin) (es : List Edit) (d e : Edit) → IsFirstFixed origins es d → IsFirstFixed origins es e → d ≡ e
one_first origins es d e p q = go p.before q.before p.lift q.lift (sym p.are ∙ q.are)
  where
    L : Edit → Type 0
    L x = lifts origins x ≡ true

    go : (xs ys : List Edit) → All L xs → All L ys → xs ++ (d ∷ p.after) ≡ ys ++ (e ∷ q.after) → d ≡ e
    go [] [] a b s = let h : d ≡ e = cc in h
    go [] (y ∷ ys) a b s = let h : d ≡ y = cc in absurd (false≢true (sym p.fixed ∙ (ap (lifts origins) h ∙ All-head L y ys b)))
    go (x ∷ xs) [] a b s = let h : e ≡ x = cc in absurd (false≢true (sym q.fixed ∙ (ap (lifts origins) h ∙ All-head L x xs a)))
    go (x ∷ xs) (y ∷ ys) a b s = go xs ys (All-tail L x xs a) (All-tail L y ys b) (cc)

-- where each edit lifts, none is the first that does not
none_fixed : (origins : List Origin) (es : List Edit) (e : Edit) → All (λ x. lifts origins x ≡ true) es → IsFirstFixed origins es e → ⊥
none_fixed origins es e a p = go p.before es a p.are
  where
    L : Edit → Type 0
    L x = lifts origins x ≡ true

    go : (xs all : List Edit) → All L all → all ≡ xs ++ (e ∷ p.after) → ⊥
    go [] all a s = false≢true (sym p.fixed ∙ All-head L e p.after (subst (All L) s a))
    go (x ∷ xs) all a s = go xs (xs ++ (e ∷ p.after)) (All-tail L x (xs ++ (e ∷ p.after)) (subst (All L) s a)) refl

-- one block is the first that would keep a memory
one_block : (flat : Flat) (bit other : Bit) (s t : ℕ) → IsFirstWordLatch flat bit s → IsFirstWordLatch flat other t → s ≡ t
one_block flat bit other s t p q =
    let same : p.block ≡ q.block = elim (cases_lt p.block q.block) [
      | inl l ↦ absurd (q.before p.block l bit p.latch)
      | inr l ↦ elim (cases_lt q.block p.block) [
        | inl m ↦ absurd (p.before q.block m other q.latch)
        | inr m ↦ omega (arith, l, m)
      ]
    ] in
    p.is ∙ (ap (λ (k : ℕ). (block_at flat.combinational k).token) same ∙ sym q.is)

module _ (file : List ℕ) (top : Option Text) where
  plain_design : (bytes : List ℕ) (ts : List Lexeme) (tree : SourceText) (flat : Flat) → IsDesignOf bytes ts tree top flat → IsDesign bytes ts top flat
  plain_design bytes ts tree flat d = record { tree = tree; text = d.text; flat = d.flat }

  -- the file is read as this design, whose targets and labels are right
  record IsRead (a : SourceFile) (flat : Flat) : Type 0 where
    expansion : IsTaken file a.text a.origins
    design : IsDesignOf a.text a.tokens a.source top flat
    targets : RightTargets flat
    labels : RightLabels flat

  of_edits : (a : SourceFile) (made : List Edit) (p : HasEdits file top a made) → IsRead a p.flat
  of_edits a made p = record { expansion = p.expansion; design = p.design; targets = p.targets; labels = p.labels }

  of_latch : (refusal : Refusal) (h : HasWordLatch file top refusal) → IsRead h.read h.flat
  of_latch refusal h = record { expansion = h.expansion; design = h.design; targets = h.targets; labels = h.labels }

  same_reading : (a b : SourceFile) (f g : Flat) → IsRead a f → IsRead b g → (a.tokens ≡ b.tokens) × (a.source ≡ b.source) × (a.origins ≡ b.origins) × (f ≡ g)
  same_reading a b f g p q =
      let texts = one_expansion file a.text b.text a.origins b.origins p.expansion q.expansion in
      let design : IsDesignOf b.text a.tokens a.source top f = subst (λ (t : List ℕ). IsDesignOf t a.tokens a.source top f) texts.0 p.design in
      let trees = one_tree b.text a.tokens b.tokens a.source b.source design.text q.design.text in
      (trees.0, trees.1, texts.1, ok_is f g (sym design.flat ∙ (ap (λ (t : SourceText). flat_by (Some 1048576) t top) trees.1 ∙ q.design.flat)))

  pub one_reading : (a b : SourceFile) (made other : List Edit) → HasEdits file top a made → HasEdits file top b other → (a.origins ≡ b.origins) × (made ≡ other)
  one_reading a b made other p q =
      let s = same_reading a b p.flat q.flat (of_edits a made p) (of_edits b other q) in
      let edits : AreLintEdits b.tokens b.source q.flat made =
      subst (λ (f : Flat). AreLintEdits b.tokens b.source f made) s.3
      (subst (λ (t : SourceText). AreLintEdits b.tokens t p.flat made) s.1 (subst (λ (ts : List Lexeme). AreLintEdits ts a.source p.flat made) s.0 p.edits)) in
      (s.2, one_edits b.tokens b.source q.flat made other edits q.edits)

  pub one_text : (x y : List ℕ) → IsMendedFile file top x → IsMendedFile file top y → x ≡ y
  one_text x y a b =
      let both = one_reading a.read b.read a.made b.made a.has b.has in
      a.made_in.1 ∙ (ap (λ (os : List Origin). lifted os a.made 0 file) both.0 ∙ (ap (λ (es : List Edit). lifted b.read.origins es 0 file) both.1 ∙ sym b.made_in.1))

  -- a file with a design, and one without
  no_flat : (a : SourceFile) (flat : Flat) (refusal : Refusal) → IsRead a flat → HasNoFlat file top refusal → ⊥
  no_flat a flat refusal p n =
      let texts = one_expansion file a.text n.text a.origins n.origins p.expansion n.expansion in
      n.none a.tokens flat (subst (λ (t : List ℕ). IsDesign t a.tokens top flat) texts.0 (plain_design a.text a.tokens a.source flat p.design))

  -- .. or with a wrong target or label
  no_wrong : (a : SourceFile) (flat : Flat) (refusal : Refusal) → IsRead a flat → HasWrongText file top refusal → ⊥
  no_wrong a flat refusal p w =
      let texts = one_expansion file a.text w.text a.origins w.origins p.expansion w.expansion in
      let mine : IsDesign w.text a.tokens top flat = subst (λ (t : List ℕ). IsDesign t a.tokens top flat) texts.0 (plain_design a.text a.tokens a.source flat p.design) in
      let same = one_design w.text top a.tokens w.broken.tokens flat w.broken.flat mine w.broken.design in
      wrong_law w.broken.flat w.broken.found w.what w.broken.token w.which w.broken.told w.broken.first (subst RightTargets same.1 p.targets) (subst RightLabels same.1 p.labels)

  -- .. or with a block that would keep a memory
  no_latch : (a : SourceFile) (made : List Edit) (refusal : Refusal) → HasEdits file top a made → HasWordLatch file top refusal → ⊥
  no_latch a made refusal p h =
      let s = same_reading a h.read p.flat h.flat (of_edits a made p) (of_latch refusal h) in
      subst NoWordLatches s.3 p.edits.words h.latch.block h.latch.inside h.bit h.latch.latch

  pub text_or_refusal : (x : List ℕ) (refusal : Refusal) → IsMendedFile file top x → RefusesMend file top refusal → ⊥
  text_or_refusal x refusal a (inl e) = expanded_or_not file a.read.text a.read.origins refusal a.has.expansion e
  text_or_refusal x refusal a (inr (inl n)) = no_flat a.read a.has.flat refusal (of_edits a.read a.made a.has) n
  text_or_refusal x refusal a (inr (inr (inl w))) = no_wrong a.read a.has.flat refusal (of_edits a.read a.made a.has) w
  text_or_refusal x refusal a (inr (inr (inr (inl h)))) = no_latch a.read a.made refusal a.has h
  text_or_refusal x refusal a (inr (inr (inr (inr f)))) =
      let both = one_reading a.read f.read a.made f.made a.has f.has in
      let lift : All (λ e. lifts f.read.origins e ≡ true) f.made =
      subst (λ (es : List Edit). All (λ e. lifts f.read.origins e ≡ true) es) both.1 (subst (λ (os : List Origin). All (λ e. lifts os e ≡ true) a.made) both.0 a.made_in.0) in
      none_fixed f.read.origins f.made f.fixed.0 lift f.fixed.1.0

  -- ---- two refusals
  is_at : (text : List ℕ) (what : Fault) (at : ℕ) → (what ≡ fault.BadTarget) ⊎ (what ≡ fault.WildLabel) → IsBroken text top None what at → IsAt text top None what at
  is_at text what at (inl e) b = subst (λ (w : Fault). IsAt text top None w at) (sym e) (subst (λ (w : Fault). IsBroken text top None w at) e b)
  is_at text what at (inr e) b = subst (λ (w : Fault). IsAt text top None w at) (sym e) (subst (λ (w : Fault). IsBroken text top None w at) e b)

  of_flat : (a : Refusal) → HasNoFlat file top a → HasNoDesign file top None a
  of_flat a n = record { text = n.text; origins = n.origins; expansion = n.expansion; found = n.found; refused = n.refused; told = n.told }

  of_text : (a : Refusal) → HasWrongText file top a → HasNoDesign file top None a
  of_text a w = record { text = w.text; origins = w.origins; expansion = w.expansion; found = At w.what w.at; refused = is_at w.text w.what w.at w.which w.broken; told = w.told }

  one_without : (a b : Refusal) → HasNoDesign file top None a → HasNoDesign file top None b → IsSameRefusal a b
  one_without a b n m = one_file_refused file top None kind.Csv [] a b (inl (inr n)) (inl (inr m))

  flat_or_wrong : (a b : Refusal) → HasNoFlat file top a → HasWrongText file top b → ⊥
  flat_or_wrong a b n w =
      let texts = one_expansion file w.text n.text w.origins n.origins w.expansion n.expansion in
      n.none w.broken.tokens w.broken.flat (subst (λ (t : List ℕ). IsDesign t w.broken.tokens top w.broken.flat) texts.0 w.broken.design)

  one_fixed : (a b : Refusal) → HasFixedEdit file top a → HasFixedEdit file top b → a ≡ b
  one_fixed a b f g =
      let both = one_reading f.read g.read f.made g.made f.has g.has in
      let first : IsFirstFixed g.read.origins g.made f.fixed.0 =
      subst (λ (es : List Edit). IsFirstFixed g.read.origins es f.fixed.0) both.1 (subst (λ (os : List Origin). IsFirstFixed os f.made f.fixed.0) both.0 f.fixed.1.0) in
      let edits : f.fixed.0 ≡ g.fixed.0 = one_first g.read.origins g.made f.fixed.0 g.fixed.0 first g.fixed.1.0 in
      f.fixed.1.1 ∙ (ap (λ (os : List Origin). At fault.FromMacro (offset_at os (anchor f.fixed.0))) both.0 ∙ (ap (λ (e : Edit). At fault.FromMacro (offset_at g.read.origins (anchor e))) edits ∙ sym g.fixed.1.1))

  one_latch : (a b : Refusal) → HasWordLatch file top a → HasWordLatch file top b → a ≡ b
  one_latch a b h k =
      let s = same_reading h.read k.read h.flat k.flat (of_latch a h) (of_latch b k) in
      let token : h.block ≡ k.block = one_block k.flat h.bit k.bit h.block k.block (subst (λ (f : Flat). IsFirstWordLatch f h.bit h.block) s.3 h.latch) k.latch in
      h.told
      ∙ (ap (λ (os : List Origin). placed os (length file) (At fault.Latch (start_of h.read.tokens h.block))) s.2
      ∙ (ap (λ (ts : List Lexeme). placed k.read.origins (length file) (At fault.Latch (start_of ts h.block))) s.0
      ∙ (ap (λ (t : ℕ). placed k.read.origins (length file) (At fault.Latch (start_of k.read.tokens t))) token ∙ sym k.told)))

  pub one_refusal : (a b : Refusal) → RefusesMend file top a → RefusesMend file top b → IsSameRefusal a b
  one_refusal a b (inl e) (inl g) = one_file_refused file top None kind.Csv [] a b (inl (inl e)) (inl (inl g))
  one_refusal a b (inl e) (inr (inl n)) = absurd (expanded_or_not file n.text n.origins a n.expansion e)
  one_refusal a b (inl e) (inr (inr (inl w))) = absurd (expanded_or_not file w.text w.origins a w.expansion e)
  one_refusal a b (inl e) (inr (inr (inr (inl h)))) = absurd (expanded_or_not file h.read.text h.read.origins a h.expansion e)
  one_refusal a b (inl e) (inr (inr (inr (inr f)))) = absurd (expanded_or_not file f.read.text f.read.origins a f.has.expansion e)
  one_refusal a b (inr (inl n)) (inl e) = absurd (expanded_or_not file n.text n.origins b n.expansion e)
  one_refusal a b (inr (inl n)) (inr (inl m)) = one_without a b (of_flat a n) (of_flat b m)
  one_refusal a b (inr (inl n)) (inr (inr (inl w))) = absurd (flat_or_wrong a b n w)
  one_refusal a b (inr (inl n)) (inr (inr (inr (inl h)))) = absurd (no_flat h.read h.flat a (of_latch b h) n)
  one_refusal a b (inr (inl n)) (inr (inr (inr (inr f)))) = absurd (no_flat f.read f.has.flat a (of_edits f.read f.made f.has) n)
  one_refusal a b (inr (inr (inl w))) (inl e) = absurd (expanded_or_not file w.text w.origins b w.expansion e)
  one_refusal a b (inr (inr (inl w))) (inr (inl n)) = absurd (flat_or_wrong b a n w)
  one_refusal a b (inr (inr (inl w))) (inr (inr (inl v))) = one_without a b (of_text a w) (of_text b v)
  one_refusal a b (inr (inr (inl w))) (inr (inr (inr (inl h)))) = absurd (no_wrong h.read h.flat a (of_latch b h) w)
  one_refusal a b (inr (inr (inl w))) (inr (inr (inr (inr f)))) = absurd (no_wrong f.read f.has.flat a (of_edits f.read f.made f.has) w)
  one_refusal a b (inr (inr (inr (inl h)))) (inl e) = absurd (expanded_or_not file h.read.text h.read.origins b h.expansion e)
  one_refusal a b (inr (inr (inr (inl h)))) (inr (inl n)) = absurd (no_flat h.read h.flat b (of_latch a h) n)
  one_refusal a b (inr (inr (inr (inl h)))) (inr (inr (inl w))) = absurd (no_wrong h.read h.flat b (of_latch a h) w)
  one_refusal a b (inr (inr (inr (inl h)))) (inr (inr (inr (inl k)))) = inl (one_latch a b h k)
  one_refusal a b (inr (inr (inr (inl h)))) (inr (inr (inr (inr f)))) = absurd (no_latch f.read f.made a f.has h)
  one_refusal a b (inr (inr (inr (inr f)))) (inl e) = absurd (expanded_or_not file f.read.text f.read.origins b f.has.expansion e)
  one_refusal a b (inr (inr (inr (inr f)))) (inr (inl n)) = absurd (no_flat f.read f.has.flat b (of_edits f.read f.made f.has) n)
  one_refusal a b (inr (inr (inr (inr f)))) (inr (inr (inl w))) = absurd (no_wrong f.read f.has.flat b (of_edits f.read f.made f.has) w)
  one_refusal a b (inr (inr (inr (inr f)))) (inr (inr (inr (inl h)))) = absurd (no_latch f.read f.made b f.has h)
  one_refusal a b (inr (inr (inr (inr f)))) (inr (inr (inr (inr g)))) = inl (one_fixed a b f g)

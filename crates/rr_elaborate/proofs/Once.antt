-- Bytes have one flat design with a top, or one refusal.
use Rattle.std.proofs.Common.{ℕ, ◌≡◌, ◌∙◌, ◌<◌, ◌⊎◌, inl, inr, List, refl, sym, ap, subst, Option, Some, Ok, Err}
use Rattle.std.proofs.lemmas.Bool.{cases_order}
use Rattle.rr_syntax.specs.Tree.{SourceText}
use Rattle.rr_lex.specs.Tokens.{Lexeme, AreTokens, words_of}
use Rattle.rr_lex.proofs.Unique.{one_list, one_fault, one_answer}
use Rattle.rr_grammar.specs.Trees.{SpellsShallow, IsNumberedTree}
use Rattle.rr_grammar.proofs.OneSource.{unique_source}
use Rattle.rr_flat.specs.Signals.{Text}
use Rattle.rr_flat.specs.Plain.{Flat}
use Rattle.rr_flatten.specs.Walk.{flat_by}
use Rattle.rr_flat.specs.declared.fault.FlatFault.{FlatFault}
use Rattle.rr_elaborate.specs.declared.design.DesignFault.{DesignFault}
use Rattle.rr_elaborate.specs.declared.design.DesignFault.TheVariants as fault
use Rattle.rr_elaborate.specs.Designs.{AllHaveRules, IsOutside, placed, IsText, IsDesign, IsUnsupported, IsUnparsed, IsFlawed, Refuses, IsSameRefusal, same, first_memory, second_memory, both_unparsed}
use Rattle.rr_elaborate.proofs.RenumberedItems.{same_numbered}

-- tokens spell one text, with its numbers
pub one_tree : (ts : List Lexeme) (a b : SourceText) → IsNumberedTree (words_of ts) a → IsNumberedTree (words_of ts) b → a ≡ b
one_tree ts a b s t =
    let x = s.tree.spells in
    let y = t.tree.spells in
    same_numbered a b x.well y.well s.numbered t.numbered (unique_source a b x.well y.well (x.spelled ∙ sym y.spelled))

-- bytes are one text
pub one_text : (bytes : List ℕ) (ts us : List Lexeme) (a b : SourceText) → IsText bytes ts a → IsText bytes us b → (ts ≡ us) × (a ≡ b)
one_text bytes ts us a b s t =
    let e : ts ≡ us = one_list bytes ts us s.lexed t.lexed in
    (e, one_tree us a b (subst (λ (l : List Lexeme). IsNumberedTree (words_of l) a) e s.spells) t.spells)

-- where all tokens have rules, no word is the first without one
pub all_have_rules : (bytes : List ℕ) (ts : List Lexeme) (at : ℕ) → AreTokens bytes ts → AllHaveRules ts → IsUnsupported bytes at → ⊥
all_have_rules bytes ts at lexed rules p = rules p.at (subst (λ (l : List Lexeme). IsOutside l p.at) (one_list bytes p.tokens ts p.lexed lexed) p.outside)

-- bytes that are a text do not lack one
pub has_text : (bytes : List ℕ) (ts : List Lexeme) (t : SourceText) → IsText bytes ts t → IsUnparsed bytes → ⊥
has_text bytes ts t text p = p.none t (subst (λ (l : List Lexeme). SpellsShallow (words_of l) t) (one_list bytes ts p.tokens text.lexed p.lexed) text.spells.tree)

-- one word is the first without a rule
pub one_outside : (bytes : List ℕ) (i j : ℕ) → IsUnsupported bytes i → IsUnsupported bytes j → i ≡ j
one_outside bytes i j p q = by_order (cases_order p.at q.at)
  where
    tokens : p.tokens ≡ q.tokens
    tokens = one_list bytes p.tokens q.tokens p.lexed q.lexed

    by_order : (p.at ≡ q.at) ⊎ ((p.at < q.at) ⊎ (q.at < p.at)) → i ≡ j
    by_order (inl at) = let list = tokens in let here = p.starts in let there = q.starts in cc
    by_order (inr (inl below)) = absurd (q.first p.at below (subst (λ (l : List Lexeme). IsOutside l p.at) tokens p.outside))
    by_order (inr (inr below)) = absurd (p.first q.at below (subst (λ (l : List Lexeme). IsOutside l q.at) (sym tokens) q.outside))

-- elaboration has one first fault, and none where it gives a design
pub one_flaw : (bytes : List ℕ) (top : Option Text) (f g : FlatFault) → IsFlawed bytes top f → IsFlawed bytes top g → f ≡ g
one_flaw bytes top f g p q =
    let both = one_text bytes p.tokens q.tokens p.tree q.tree p.text q.text in
    let founds : Err p.found ≡ Err q.found = sym p.flat ∙ (ap (λ (t : SourceText). flat_by (Some 1048576) t top) both.1 ∙ q.flat) in
    let found : p.found ≡ q.found = cc in
    p.at ∙ (ap (λ (l : List Lexeme). placed l p.found) both.0 ∙ (ap (placed q.tokens) found ∙ sym q.at))

pub no_flaw : (bytes : List ℕ) (top : Option Text) (ts : List Lexeme) (f : Flat) (e : FlatFault) → IsDesign bytes ts top f → IsFlawed bytes top e → ⊥
no_flaw bytes top ts f e d p =
    let both = one_text bytes ts p.tokens d.tree p.tree d.text p.text in
    let answers : Ok f ≡ Err p.found = sym d.flat ∙ (ap (λ (t : SourceText). flat_by (Some 1048576) t top) both.1 ∙ p.flat) in
    absurd (cc)

pub one_design : (bytes : List ℕ) (top : Option Text) (ts us : List Lexeme) (f g : Flat) → IsDesign bytes ts top f → IsDesign bytes us top g → (ts ≡ us) × (f ≡ g)
one_design bytes top ts us f g d e =
    let both = one_text bytes ts us d.tree e.tree d.text e.text in
    let answers : Ok f ≡ Ok g = sym d.flat ∙ (ap (λ (t : SourceText). flat_by (Some 1048576) t top) both.1 ∙ e.flat) in
    (both.0, cc)

-- where there is a design nothing is refused but for want of memory
pub no_refusal : (bytes : List ℕ) (top : Option Text) (ts : List Lexeme) (f : Flat) (e : DesignFault) → IsDesign bytes ts top f → Refuses bytes top e → e ≡ fault.Memory
no_refusal bytes top ts f (fault.Text wrong at) d r = absurd (one_answer bytes ts wrong at d.text.lexed r)
no_refusal bytes top ts f (fault.Unsupported at) d r = absurd (all_have_rules bytes ts at d.text.lexed d.text.rules r)
no_refusal bytes top ts f (fault.Syntax at) d r = absurd (has_text bytes ts d.tree d.text r)
no_refusal bytes top ts f (fault.Flaw e) d r = absurd (no_flaw bytes top ts f e d r)
no_refusal bytes top ts f fault.Memory d r = refl

module _ (bytes : List ℕ) (top : Option Text) where
  pub one_refusal : (e f : DesignFault) → Refuses bytes top e → Refuses bytes top f → IsSameRefusal e f
  one_refusal fault.Memory f p q = first_memory refl
  one_refusal (fault.Text x i) fault.Memory p q = second_memory refl
  one_refusal (fault.Text x i) (fault.Text y j) p q =
      let both = one_fault bytes x y i j p q in
      let wrong : x ≡ y = both.0 in
      let at : i ≡ j = both.1 in
      same (cc)
  one_refusal (fault.Text x i) (fault.Unsupported j) p q = absurd (one_answer bytes q.tokens x i q.lexed p)
  one_refusal (fault.Text x i) (fault.Syntax j) p q = absurd (one_answer bytes q.tokens x i q.lexed p)
  one_refusal (fault.Text x i) (fault.Flaw g) p q = absurd (one_answer bytes q.tokens x i q.text.lexed p)
  one_refusal (fault.Unsupported i) fault.Memory p q = second_memory refl
  one_refusal (fault.Unsupported i) (fault.Text y j) p q = absurd (one_answer bytes p.tokens y j p.lexed q)
  one_refusal (fault.Unsupported i) (fault.Unsupported j) p q = same (ap fault.Unsupported (one_outside bytes i j p q))
  one_refusal (fault.Unsupported i) (fault.Syntax j) p q = absurd (all_have_rules bytes q.tokens i q.lexed q.rules p)
  one_refusal (fault.Unsupported i) (fault.Flaw g) p q = absurd (all_have_rules bytes q.tokens i q.text.lexed q.text.rules p)
  one_refusal (fault.Syntax i) fault.Memory p q = second_memory refl
  one_refusal (fault.Syntax i) (fault.Text y j) p q = absurd (one_answer bytes p.tokens y j p.lexed q)
  one_refusal (fault.Syntax i) (fault.Unsupported j) p q = absurd (all_have_rules bytes p.tokens j p.lexed p.rules q)
  one_refusal (fault.Syntax i) (fault.Syntax j) p q = both_unparsed i j refl refl
  one_refusal (fault.Syntax i) (fault.Flaw g) p q = absurd (has_text bytes q.tokens q.tree q.text p)
  one_refusal (fault.Flaw f) fault.Memory p q = second_memory refl
  one_refusal (fault.Flaw f) (fault.Text y j) p q = absurd (one_answer bytes p.tokens y j p.text.lexed q)
  one_refusal (fault.Flaw f) (fault.Unsupported j) p q = absurd (all_have_rules bytes p.tokens j p.text.lexed p.text.rules q)
  one_refusal (fault.Flaw f) (fault.Syntax j) p q = absurd (has_text bytes p.tokens p.tree p.text q)
  one_refusal (fault.Flaw f) (fault.Flaw g) p q = same (ap (λ (e : FlatFault). fault.Flaw e) (one_flaw bytes top f g p q))

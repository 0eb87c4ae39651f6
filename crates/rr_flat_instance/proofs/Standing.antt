-- At the token of a name the source spells that name, so that no literal site stands there.
use Rattle.std.proofs.Common.{◌≡◌, ◌∙◌, sym, ap, subst, ℕ, suc, ◌+◌, ◌<◌, ◌==◌, Bool, true, false, ◌&&◌, List, [], ◌∷◌, ◌++◌, length, get_or, refl, arith}
use Rattle.std.specs.List.{AllByRecursion}
use Rattle.std.proofs.lemmas.Bool.{eqb-true}
use Rattle.rr_syntax.specs.declared.token.Number.{Number}
use Rattle.rr_syntax.specs.Expressions.{spell, spell_parts, spell_more, Numbered, NumberedMore}
use Rattle.rr_syntax.specs.Items.{spell_all, spell_events, spell_item, spell_parameters, spell_ports, spell_module, spell_source, NumberedAll, NumberedItem, NumberedModule, NumberedSource}
use Rattle.rr_syntax.specs.Statements.{spell_label, spell_labels, spell_loop, spell_statement, spell_statements, spell_arm, spell_arms, NumberedLabels, NumberedStatement, NumberedStatements, NumberedArm, NumberedArms}
use Rattle.rr_syntax.specs.Tree.{Tree, Trees, Name, Literal, Bit, Part, Indexed, Unary, Binary, Cond, Concat, Repeat, Cast, Paren, End, More, Statement, Statements, Arm, Arms, Null, Block, If, IfElse, Case, Assign, For, Done, Then, CaseItem, NoArms, MoreArms, ModuleItem, Ports, Nets, Variables, Integers, Parameters, Assigns, Always, Initial, Instances, ModuleDeclaration, SourceText}
use Rattle.rr_syntax.specs.Words.{Word, Named, Digits, Marked}
use Rattle.rr_flat.specs.Plain.{Flat}
use Rattle.rr_choice.specs.Places.{is_literal, is_literal_at}
use Rattle.rr_choice.specs.Sites as sites
use Rattle.rr_choice.specs.Sites.{SiteKind, Site}
use Rattle.rr_unfold_instance.specs.Apart.{NoLiteralAt, NamesStay, NamesStayIn, NamesStayOf, NamesStayOfAll, NamesStayOfArm, NamesStayOfArms}
use Rattle.rr_flat_instance.specs.Owned.{KindFits, SiteFits}
use Rattle.rr_flat_instance.specs.Places.{NamesStayOfItem}

-- these words stand from a number on
abbrev pub StandAt : (ℕ → Word) → ℕ → List Word → Type 0
StandAt W at [] = Unit {0}
StandAt W at (w ∷ ws) = (W at ≡ w) × StandAt W (at + 1) ws

-- at the token of a literal site stands a number
abbrev IsTold : (ℕ → Word) → ℕ → SiteKind → Type 0
IsTold W token (sites.Literal width signed) = (d : Number) × (W token ≡ Digits d)
IsTold W token (sites.Guard owner extent names) = Unit {0}
IsTold W token (sites.Overwrite owner target width now names) = Unit {0}

-- a name is no number
apart : (W : ℕ → Word) (a token : ℕ) (x : List ℕ) (d : Number) → W token ≡ Named x → W a ≡ Digits d → (b : Bool) → (a == token) ≡ b → b ≡ false
apart W a token x d h k true e = let same : a ≡ token = eqb-true a token e in absurd (let bad : Digits d ≡ Named x = sym k ∙ (ap W same ∙ h) in cc)
apart W a token x d h k false e = refl

no_literal : (W : ℕ → Word) (s : Site) (token : ℕ) (x : List ℕ) → W token ≡ Named x → IsTold W s.token s.kind → is_literal_at token s ≡ false
no_literal W s token x h k = by_kind s.kind k
  where
    by_kind : (k : SiteKind) → IsTold W s.token k → (is_literal k && (s.token == token)) ≡ false
    by_kind (sites.Literal width signed) k = apart W s.token token x k.0 h k.1 (s.token == token) refl
    by_kind (sites.Guard owner extent names) k = refl
    by_kind (sites.Overwrite owner target width now names) k = refl

none_at : (W : ℕ → Word) (ss : List Site) (token : ℕ) (x : List ℕ) → W token ≡ Named x → AllByRecursion (λ s. IsTold W s.token s.kind) ss → NoLiteralAt ss token
none_at W [] token x h r = tt
none_at W (s ∷ ss) token x h r = (no_literal W s token x h r.0, none_at W ss token x h r.1)

module _ (W : ℕ → Word) where
  to : (ws : List Word) (a b : ℕ) → a ≡ b → StandAt W a ws → StandAt W b ws
  to ws a b e h = subst (λ (n : ℕ). StandAt W n ws) e h

  front : (a b : List Word) (at : ℕ) → StandAt W at (a ++ b) → StandAt W at a
  front [] b at h = tt
  front (w ∷ a) b at h = (h.0, front a b (at + 1) h.1)

  back : (a b : List Word) (at : ℕ) → StandAt W at (a ++ b) → StandAt W (at + length a) b
  back [] b at h = to b at (at + 0) (omega arith) h
  back (w ∷ a) b at h = to b (at + 1 + length a) (at + suc (length a)) (omega arith) (back a b (at + 1) h.1)

  module _ (ss : List Site) (told : AllByRecursion (λ s. IsTold W s.token s.kind) ss) where
    mutual
      unfolding spell Numbered NamesStay

      tree_apart : (t : Tree) (at : ℕ) → Numbered t at → StandAt W at (spell t) → NamesStay ss t
      tree_apart (Name token x) at n h = none_at W ss token x (ap W n ∙ h.0) told
      tree_apart (Literal token d) at n h = tt
      tree_apart (Bit token x i) at n h = tt
      tree_apart (Part token x k r) at n h = tt
      tree_apart (Indexed token x g k up) at n h = tt
      tree_apart (Unary op t) at n h = tree_apart t (at + 1) n h.1
      tree_apart (Binary op k r) at n h = (tree_apart k at n.0 (front (spell k) _ at h), tree_apart r (at + length (spell k) + 1) n.1 (back (spell k) _ at h).1)
      tree_apart (Cond a c d) at n h =
          let k = (back (spell a) _ at h).1 in
          let mid = at + length (spell a) + 1 in
          (tree_apart a at n.0 (front (spell a) _ at h), tree_apart c mid n.1 (front (spell c) _ mid k), tree_apart d (mid + length (spell c) + 1) n.2 (back (spell c) _ mid k).1)
      tree_apart (Concat ts) at n h = parts_apart ts at n (front (spell_parts ts) _ (at + 1) h.1)
      tree_apart (Repeat m ts) at n h =
          let mid = at + 1 + length (spell m) in
          parts_apart ts mid n.1 (front (spell_parts ts) _ (mid + 1) (back (spell m) _ (at + 1) h.1).1)
      tree_apart (Cast signed t) at n h = tree_apart t (at + 2) n (to (spell t) (at + 1 + 1) (at + 2) (omega arith) (front (spell t) _ (at + 1 + 1) h.1.1))
      tree_apart (Paren t) at n h = tree_apart t (at + 1) n (front (spell t) _ (at + 1) h.1)

      -- `at` is the number of the mark before the first
      parts_apart : (ts : Trees) (at : ℕ) → NumberedMore ts at → StandAt W (at + 1) (spell_parts ts) → NamesStayIn ss ts
      parts_apart End at n h = tt
      parts_apart (More t ts) at n h = (tree_apart t (at + 1) n.0 (front (spell t) _ (at + 1) h), more_apart ts (at + 1 + length (spell t)) n.1 (back (spell t) _ (at + 1) h))

      more_apart : (ts : Trees) (at : ℕ) → NumberedMore ts at → StandAt W at (spell_more ts) → NamesStayIn ss ts
      more_apart End at n h = tt
      more_apart (More t ts) at n h = (tree_apart t (at + 1) n.0 (front (spell t) _ (at + 1) h.1), more_apart ts (at + 1 + length (spell t)) n.1 (back (spell t) _ (at + 1) h.1))

    labels_apart : (ts : Trees) (colon : Bool) (at : ℕ) → NumberedLabels ts at → StandAt W at (spell_labels ts colon) → NamesStayIn ss ts
    unfolding spell NamesStay spell_labels NumberedLabels
    labels_apart End colon at n h = tt
    labels_apart (More t ts) colon at n h =
        let k = front (spell_parts (More t ts)) _ at h in
        (tree_apart t at n.0 (front (spell t) _ at k), more_apart ts (at + length (spell t)) n.1 (back (spell t) _ at k))

    mutual
      unfolding spell_statement NumberedStatement NamesStayOf

      statement_apart : (t : Statement) (at : ℕ) → NumberedStatement t at → StandAt W at (spell_statement t) → NamesStayOf ss t
      statement_apart Null at n h = tt
      statement_apart (Block label ts) at n h =
          let mid = at + 1 + length (spell_label label) in statements_apart ts mid n.1 (front (spell_statements ts) _ mid (back (spell_label label) _ (at + 1) h.1))
      statement_apart (If c t) at n h =
          let k = to (spell c ++ _) (at + 1 + 1) (at + 2) (omega arith) h.1.1 in
          (tree_apart c (at + 2) n.0 (front (spell c) _ (at + 2) k), statement_apart t (at + 2 + length (spell c) + 1) n.1 (back (spell c) _ (at + 2) k).1)
      statement_apart (IfElse c t u) at n h =
          let k = to (spell c ++ _) (at + 1 + 1) (at + 2) (omega arith) h.1.1 in
          let mid = at + 2 + length (spell c) + 1 in
          let j = (back (spell c) _ (at + 2) k).1 in (
            tree_apart c (at + 2) n.0 (front (spell c) _ (at + 2) k),
            statement_apart t mid n.1 (front (spell_statement t) _ mid j),
            statement_apart u (mid + length (spell_statement t) + 1) n.2 (back (spell_statement t) _ mid j).1,
          )
      statement_apart (Case kind on arms) at n h =
          let k = to (spell on ++ _) (at + 1 + 1) (at + 2) (omega arith) h.1.1 in
          let mid = at + 2 + length (spell on) + 1 in
          (tree_apart on (at + 2) n.0 (front (spell on) _ (at + 2) k), arms_apart arms mid n.1 (front (spell_arms arms) _ mid (back (spell on) _ (at + 2) k).1))
      statement_apart (Assign t now v) at n h =
          let mid = at + length (spell t) + 1 in tree_apart v mid n.1 (front (spell v) _ mid (back (spell t) _ at h).1)
      statement_apart (For head t) at n h = statement_apart t (at + 1 + length (spell_loop head)) n.1 (back (spell_loop head) (spell_statement t) (at + 1) h.1)

      statements_apart : (ts : Statements) (at : ℕ) → NumberedStatements ts at → StandAt W at (spell_statements ts) → NamesStayOfAll ss ts
      statements_apart Done at n h = tt
      statements_apart (Then t ts) at n h =
          (statement_apart t at n.0 (front (spell_statement t) _ at h), statements_apart ts (at + length (spell_statement t)) n.1 (back (spell_statement t) _ at h))

      arm_apart : (a : Arm) (at : ℕ) → NumberedArm a at → StandAt W at (spell_arm a) → NamesStayOfArm ss a
      arm_apart (CaseItem labels colon t) at n h =
          (labels_apart labels colon at n.0 (front (spell_labels labels colon) _ at h), statement_apart t (at + length (spell_labels labels colon)) n.1 (back (spell_labels labels colon) _ at h))

      arms_apart : (arms : Arms) (at : ℕ) → NumberedArms arms at → StandAt W at (spell_arms arms) → NamesStayOfArms ss arms
      arms_apart NoArms at n h = tt
      arms_apart (MoreArms a rest) at n h = (arm_apart a at n.0 (front (spell_arm a) _ at h), arms_apart rest (at + length (spell_arm a)) n.1 (back (spell_arm a) _ at h))

    -- Items

    item_apart : (x : ModuleItem) (at : ℕ) → NumberedItem x at → StandAt W at (spell_item x) → NamesStayOfItem ss x
    unfolding NumberedItem spell_item NamesStayOfItem
    item_apart (Ports p) at n h = tt
    item_apart (Nets signed range list) at n h = tt
    item_apart (Variables signed range list) at n h = tt
    item_apart (Integers list) at n h = tt
    item_apart (Parameters p) at n h = tt
    item_apart (Assigns pairs) at n h = tt
    item_apart (Always events t token) at n h =
        statement_apart t (at + 2 + length (spell_events events)) n.2 (back (spell_events events) (spell_statement t) (at + 2) (to (spell_events events ++ spell_statement t) (at + 1 + 1) (at + 2) (omega arith) h.1.1))
    item_apart (Initial body token) at n h = tt
    item_apart (Instances m token over list) at n h = tt

    abbrev Apart : ModuleDeclaration → Type 0
    Apart m = AllByRecursion (NamesStayOfItem ss) m.items

    items_apart : (xs : List ModuleItem) (at : ℕ) → NumberedAll spell_item NumberedItem xs at → StandAt W at (spell_all spell_item xs) → AllByRecursion (NamesStayOfItem ss) xs
    unfolding NumberedAll spell_all
    items_apart [] at n h = tt
    items_apart (x ∷ xs) at n h = (item_apart x at n.0 (front (spell_item x) _ at h), items_apart xs (at + length (spell_item x)) n.1 (back (spell_item x) _ at h))

    module_apart : (m : ModuleDeclaration) (at : ℕ) → NumberedModule m at → StandAt W at (spell_module m) → Apart m
    unfolding NumberedModule spell_module
    module_apart m at n h =
        let start = at + 2 + length (spell_parameters m.params) in
        let past = start + length (spell_ports m.header m.groups) in
        let k = to (spell_parameters m.params ++ _) (at + 1 + 1) (at + 2) (omega arith) h.1.1 in
        let j = back (spell_ports m.header m.groups) _ start (back (spell_parameters m.params) _ (at + 2) k) in
        items_apart m.items (past + 1) n.3 (front (spell_all spell_item m.items) _ (past + 1) j.1)

    modules_apart : (ms : List ModuleDeclaration) (at : ℕ) → NumberedAll spell_module NumberedModule ms at → StandAt W at (spell_all spell_module ms) → AllByRecursion Apart ms
    unfolding NumberedAll spell_all
    modules_apart [] at n h = tt
    modules_apart (m ∷ ms) at n h = (module_apart m at n.0 (front (spell_module m) _ at h), modules_apart ms (at + length (spell_module m)) n.1 (back (spell_module m) _ at h))

-- a list stands where a function tells it
stands : (f : ℕ → Word) (at : ℕ) (ws : List Word) → ((i : ℕ) → i < length ws → f (at + i) ≡ get_or ws i (Marked 0)) → StandAt f at ws
stands f at [] h = tt
stands f at (w ∷ ws) h =
    let z : at ≡ at + 0 = omega arith in
    (ap f z ∙ h 0 (omega arith), stands f (at + 1) ws (λ i l. let e : at + 1 + i ≡ at + suc i = omega arith in ap f e ∙ h (suc i) (omega (arith, l))))

-- of sites that fit

abbrev word_at : List Word → ℕ → Word
word_at ws i = get_or ws i (Marked 0)

site_told : (source : SourceText) (flat : Flat) (token : ℕ) (k : SiteKind) → KindFits source flat token k → IsTold (word_at (spell_source source)) token k
site_told source flat token (sites.Literal width signed) f = (f.number, f.there)
site_told source flat token (sites.Guard owner extent names) f = tt
site_told source flat token (sites.Overwrite owner target width now names) f = tt

sites_told : (source : SourceText) (flat : Flat) (ss : List Site) → AllByRecursion (SiteFits source flat) ss → AllByRecursion (λ s. IsTold (word_at (spell_source source)) s.token s.kind) ss
sites_told source flat [] h = tt
sites_told source flat (s ∷ ss) h = (site_told source flat s.token s.kind h.0, sites_told source flat ss h.1)

pub names_apart : (ss : List Site) (source : SourceText) (flat : Flat) → NumberedSource source → AllByRecursion (SiteFits source flat) ss
    → AllByRecursion (λ (m : ModuleDeclaration). AllByRecursion (NamesStayOfItem ss) m.items) source.modules
unfolding NumberedSource spell_source
names_apart ss source flat n h =
    let ws : List Word = spell_all spell_module source.modules in
    modules_apart (word_at ws) ss (sites_told source flat ss h) source.modules 0 n (stands (word_at ws) 0 ws (λ i l. let e : 0 + i ≡ i = omega arith in ap (word_at ws) e))

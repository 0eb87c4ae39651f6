-- The formats of event controls, connections and items are exact.
use Rattle.std.proofs.Common.{◌≡◌, ℕ, zero, suc, ◌+◌, ◌≤◌, ◌<◌, List, [], ◌∷◌, ◌++◌, length, map, refl, ap, ◌∙◌, sym, arith, Bool, true, false, cond, nat_eq, Option, Some, None, ◌⊎◌, inl, inr, subst, append_assoc, ◌||◌, IsTrue}
use Rattle.std.proofs.lemmas.Bool.Decides.{Decides-eqb}
use Rattle.std.specs.List.{AllByRecursion}
use Rattle.rr_syntax.specs.Words.{Word, Named, Marked, Reserved, keyword_negedge, keyword_or, keyword_posedge, mark_comma, mark_close_parenthesis, mark_open_brace, mark_open_parenthesis, mark_star}
use Rattle.rr_syntax.specs.Tree.{Tree, Trees, Name, Literal, Bit, Part, Indexed, Unary, Binary, Cond, Concat, Repeat, Cast, Paren, End, More, Identifier, EdgeEvent, EventControl, Star, Edges, Levels, bare, bare_parts, bare_identifier, bare_edge, bare_events}
use Rattle.rr_syntax.specs.Expressions.{spell, infix_level, is_prefix, WellFormed}
use Rattle.rr_syntax.specs.Items.{spell_identifier, spell_edge, spell_edges, spell_more_edges, spell_levels, spell_more_levels, separator, spell_events, spell_all, count}
use Rattle.rr_syntax.specs.Items as items
use Rattle.rr_syntax.proofs.Nonempty.{spell-some}
use Rattle.rr_parse_expr.specs.Reading.{Found, mapped, chain, mark, rest, no_mark}
use Rattle.rr_parse_expr.proofs.Answered.{not_equal}
use Rattle.rr_parse_expr.proofs.Climbs.{if_tells, if_splits}
use Rattle.rr_parse_stmt.specs.Reading.{keyword, no_word}
use Rattle.rr_parse_stmt.proofs.Before.{keyword_spell}
use Rattle.rr_grammar.specs.Formats.{Format, IsExact, IsImage, both, after_mark, before_mark, shaped, respelled, repeated, imaged, choose, nothing_of}
use Rattle.rr_grammar.specs.Leaves.{identifier, Ends, expression, choice}
use Rattle.rr_grammar.specs.Parts.{separator_of, separated, to_edge, of_edge, edge, seconds, firsts, trees, to_edges, to_levels, GoodEdges, AllTrees, GoodLevels, inside, edge_list, level_list, stars, GoodStar, front_star, front_edge, star_alone, star_closed, bracketed, in_brackets, events}
use Rattle.rr_grammar.proofs.Exacts.{marked, both_exact, before_mark_exact, shaped_exact, respelled_exact, repeated_exact, imaged_exact, after_mark_exact, nothing_exact, choose_exact, Tells, tells_choose}
use Rattle.rr_grammar.proofs.LeavesExact.{identifier_exact, expression_exact, reserved, same, eq_of, choice_exact, ends_at}
use Rattle.rr_grammar.proofs.DeclarationsExact.{comma_ends}

-- ---- separators

separator_finds : (b : Bool) (left : List Word) → separator_of.read (separator_of.spell b ++ left) ≡ Some (b, left)
unfolding mark keyword rest
separator_finds true left = refl
separator_finds false left = refl

pub separator_exact : IsExact separator_of
separator_exact = record {
  finds = λ b g left v. separator_finds b left;
  good = λ ws p e. tt;
  bared = λ ws p e. refl;
  spelled = λ ws p e. elim (if_splits (nat_eq (mark ws) mark_comma) (Some (true, rest ws)) (cond (nat_eq (keyword ws) keyword_or) (Some (false, rest ws)) None) p e) [
    | inl t ↦ (let q : (true, rest ws) ≡ p = cc (t.1) in marked mark_comma ws (eq_of (mark ws) mark_comma t.0) (omega arith) ∙ ap (λ (x : Bool × List Word). separator_of.spell x.0 ++ x.1) q)
    | inr t ↦ (let s = if_tells (nat_eq (keyword ws) keyword_or) (Some (false, rest ws)) p t.1 in let q : (false, rest ws) ≡ p = cc (s.1) in reserved keyword_or ws (eq_of (keyword ws) keyword_or s.0) (omega arith) ∙ ap (λ (x : Bool × List Word). separator_of.spell x.0 ++ x.1) q)
  ];
}

-- no separator stands at the front
none_by : (ws : List Word) → nat_eq (mark ws) mark_comma ≡ false → nat_eq (keyword ws) keyword_or ≡ false → separator_of.read ws ≡ None
none_by ws a b = rw (a, b) refl

chain_none : {A B : Type 0} (x : Found A) (k : A → List Word → Found B) → x ≡ None → chain x k ≡ None
unfolding chain
chain_none x k e = rw e refl

module _ {A : Type 0} (F : Format A) (f : IsExact F) (some : (a : A) → 0 < length (F.spell a)) (before : (b : Bool) (left : List Word) → F.Before (separator_of.spell b ++ left)) where
  one_exact : IsExact (both separator_of F)
  one_exact = both_exact separator_of F separator_exact f (λ a g left v. tt)

  many_exact : IsExact (repeated (both separator_of F))
  many_exact = repeated_exact (both separator_of F) one_exact (λ x. omega arith) (λ x g left. subst F.Before (sym (append_assoc (separator_of.spell x.0) (F.spell x.1) left)) (before x.0 (F.spell x.1 ++ left)))

  all_behind : (xs : List (Bool × A)) → AllByRecursion (both separator_of F).Good xs → (left : List Word) → F.Before left → F.Before (spell_all (both separator_of F).spell xs ++ left)
  unfolding spell_all
  all_behind [] w left v = v
  all_behind (x ∷ xs) w left v = before x.0 ((F.spell x.1 ++ spell_all (both separator_of F).spell xs) ++ left)

  pub separated_exact : IsExact (separated F)
  separated_exact = both_exact F (repeated (both separator_of F)) f many_exact (λ xs g left v. all_behind xs g left v.0)

-- ---- edges

pub edge_exact : IsExact edge
unfolding spell_edge bare_edge spell_identifier bare_identifier
edge_exact = respelled_exact (shaped (both (choice keyword_posedge keyword_negedge) identifier) to_edge of_edge)
    (shaped_exact (both (choice keyword_posedge keyword_negedge) identifier)
    (both_exact (choice keyword_posedge keyword_negedge) identifier (choice_exact keyword_posedge keyword_negedge (omega arith) (omega arith) (λ e. absurd (omega (arith, e)))) identifier_exact (λ b g left v. tt)) to_edge of_edge (λ a. refl)) spell_edge bare_edge (λ a. refl) (λ a. refl)

zip_edges : (es : List EdgeEvent) (cs : List Bool) → length es ≡ length cs → List (Bool × EdgeEvent)
zip_edges [] cs h = []
zip_edges (e ∷ es) [] h = []
zip_edges (e ∷ es) (c ∷ cs) h = (c, e) ∷ zip_edges es cs (omega arith)

zip_seconds : (es : List EdgeEvent) (cs : List Bool) (h : length es ≡ length cs) → (seconds (zip_edges es cs h) ≡ es) × (firsts (zip_edges es cs h) ≡ cs)
unfolding zip_edges
zip_seconds [] [] h = (refl, refl)
zip_seconds [] (c ∷ cs) h = absurd (omega arith)
zip_seconds (e ∷ es) [] h = absurd (omega arith)
zip_seconds (e ∷ es) (c ∷ cs) h = let r = zip_seconds es cs (omega arith) in (ap (λ (xs : List EdgeEvent). e ∷ xs) r.0, ap (λ (xs : List Bool). c ∷ xs) r.1)

all_good : (xs : List (Bool × EdgeEvent)) → AllByRecursion (both separator_of edge).Good xs
all_good [] = tt
all_good (x ∷ xs) = ((tt, (tt, tt)), all_good xs)

as_many : {A : Type 0} (xs : List (Bool × A)) → length (seconds xs) ≡ length (firsts xs)
as_many [] = refl
as_many (x ∷ xs) = ap suc (as_many xs)

pub edges_words : (xs : List (Bool × EdgeEvent)) → spell_more_edges (seconds xs) (firsts xs) ≡ spell_all (both separator_of edge).spell xs
unfolding spell_more_edges separator items.rest spell_all
edges_words [] = refl
edges_words (x ∷ xs) = ap (λ (us : List Word). cond x.0 (Marked mark_comma) (Reserved keyword_or) ∷ (spell_edge x.1 ++ us)) (edges_words xs)

pub edges_bare : (xs : List (Bool × EdgeEvent)) → (map bare_edge (seconds xs) ≡ seconds (map (both separator_of edge).bare xs)) × (firsts xs ≡ firsts (map (both separator_of edge).bare xs))
edges_bare [] = (refl, refl)
edges_bare (x ∷ xs) = let r = edges_bare xs in (ap (λ (ys : List EdgeEvent). bare_edge x.1 ∷ ys) r.0, ap (λ (ys : List Bool). x.0 ∷ ys) r.1)

edges_from : (b : EventControl) → GoodEdges b → EdgeEvent × List (Bool × EdgeEvent)
edges_from (Star b) w = absurd w
edges_from (Levels list commas) w = absurd w
edges_from (Edges [] commas) w = absurd (omega (arith, w))
edges_from (Edges (e ∷ es) commas) w = (e, zip_edges es commas (omega (arith, w)))

edges_from_good : (b : EventControl) (w : GoodEdges b) → (separated edge).Good (edges_from b w)
edges_from_good (Star b) w = absurd w
edges_from_good (Levels list commas) w = absurd w
edges_from_good (Edges [] commas) w = absurd (omega (arith, w))
edges_from_good (Edges (e ∷ es) commas) w = ((tt, tt), all_good (edges_from (Edges (e ∷ es) commas) w).1)

edges_from_is : (b : EventControl) (w : GoodEdges b) → to_edges (edges_from b w) ≡ b
unfolding edges_from
edges_from_is (Star b) w = absurd w
edges_from_is (Levels list commas) w = absurd w
edges_from_is (Edges [] commas) w = absurd (omega (arith, w))
edges_from_is (Edges (e ∷ es) commas) w =
    let r = zip_seconds es commas (omega (arith, w)) in
    ap (λ (xs : List EdgeEvent). Edges (e ∷ xs) (firsts (zip_edges es commas (omega (arith, w))))) r.0 ∙ ap (λ (cs : List Bool). Edges (e ∷ es) cs) r.1

-- behind a list: a closing bracket
close_after : {A : Type 0} (F : Format A) (left : List Word) → (both separator_of F).read (Marked mark_close_parenthesis ∷ left) ≡ None
unfolding mark keyword
close_after F left = chain_none (separator_of.read (Marked mark_close_parenthesis ∷ left)) (λ a us. mapped (λ b. (a, b)) (F.read us)) (none_by (Marked mark_close_parenthesis ∷ left) refl refl)

level-close : infix_level mark_close_parenthesis ≡ 0
unfolding infix_level
level-close = refl

pub close_ends : (left : List Word) → Ends (Marked mark_close_parenthesis ∷ left)
close_ends left = ends_at mark_close_parenthesis left level-close refl

level-no_mark : infix_level no_mark ≡ 0
unfolding infix_level
level-no_mark = refl

or_ends : (left : List Word) → Ends (Reserved keyword_or ∷ left)
unfolding mark
or_ends left = record { no_operator = level-no_mark; no_select = λ e. absurd (omega (arith, e)) }

edges_image : IsImage (before_mark (separated edge) mark_close_parenthesis) to_edges inside bare_events GoodEdges
unfolding spell_events spell_edges items.rest rest bare_events
edges_image = record {
  from = edges_from;
  from_good = edges_from_good;
  from_is = edges_from_is;
  good = λ a w. omega (arith, as_many a.1);
  spelled = λ a w. ap (λ (us : List Word). (spell_edge a.0 ++ us) ++ (Marked mark_close_parenthesis ∷ [])) (edges_words a.1);
  bared = λ a. (let r = edges_bare a.1 in ap (λ (xs : List EdgeEvent). Edges (bare_edge a.0 ∷ xs) (firsts a.1)) r.0 ∙ ap (λ (cs : List Bool). Edges (bare_edge a.0 ∷ seconds (map (both separator_of edge).bare a.1)) cs) r.1);
}

pub edge_some : (e : EdgeEvent) → 0 < length (spell_edge e)
unfolding spell_edge
edge_some e = omega arith

pub edge_list_exact : IsExact edge_list
edge_list_exact = imaged_exact (before_mark (separated edge) mark_close_parenthesis)
    (before_mark_exact (separated edge) (separated_exact edge edge_exact edge_some (λ b left. tt)) mark_close_parenthesis (omega arith) (λ left. (tt, close_after edge left)))
    to_edges inside bare_events GoodEdges edges_image

-- ---- levels

zip_levels : (ts : Trees) (cs : List Bool) → count ts ≡ length cs → List (Bool × Tree)
unfolding count
zip_levels End cs h = []
zip_levels (More t ts) [] h = []
zip_levels (More t ts) (c ∷ cs) h = (c, t) ∷ zip_levels ts cs (omega (arith, h))

zip_trees : (ts : Trees) (cs : List Bool) (h : count ts ≡ length cs) → (trees (seconds (zip_levels ts cs h)) ≡ ts) × (firsts (zip_levels ts cs h) ≡ cs)
unfolding zip_levels count
zip_trees End [] h = (refl, refl)
zip_trees End (c ∷ cs) h = absurd (omega (arith, h))
zip_trees (More t ts) [] h = absurd (omega (arith, h))
zip_trees (More t ts) (c ∷ cs) h = let r = zip_trees ts cs (omega (arith, h)) in (ap (More t) r.0, ap (λ (xs : List Bool). c ∷ xs) r.1)

zip_good : (k : ℕ) (ts : Trees) (cs : List Bool) (h : count ts ≡ length cs) → AllTrees (expression k).Good ts → AllByRecursion (both separator_of (expression k)).Good (zip_levels ts cs h)
unfolding zip_levels count
zip_good k End cs h w = tt
zip_good k (More t ts) [] h w = tt
zip_good k (More t ts) (c ∷ cs) h w = ((tt, w.0), zip_good k ts cs (omega (arith, h)) w.1)

trees_good : (k : ℕ) (xs : List (Bool × Tree)) → AllByRecursion (both separator_of (expression k)).Good xs → AllTrees (expression k).Good (trees (seconds xs))
trees_good k [] w = tt
trees_good k (x ∷ xs) w = (w.0.1, trees_good k xs w.1)

trees_count : (xs : List (Bool × Tree)) → count (trees (seconds xs)) ≡ length (firsts xs)
unfolding count
trees_count [] = refl
trees_count (x ∷ xs) = ap suc (trees_count xs)

pub levels_words : (k : ℕ) (xs : List (Bool × Tree)) → spell_more_levels (trees (seconds xs)) (firsts xs) ≡ spell_all (both separator_of (expression k)).spell xs
unfolding spell_more_levels separator items.rest spell_all
levels_words k [] = refl
levels_words k (x ∷ xs) = ap (λ (us : List Word). cond x.0 (Marked mark_comma) (Reserved keyword_or) ∷ (spell x.1 ++ us)) (levels_words k xs)

pub levels_bare : (k : ℕ) (xs : List (Bool × Tree)) → (bare_parts (trees (seconds xs)) ≡ trees (seconds (map (both separator_of (expression k)).bare xs))) × (firsts xs ≡ firsts (map (both separator_of (expression k)).bare xs))
unfolding bare
levels_bare k [] = (refl, refl)
levels_bare k (x ∷ xs) = let r = levels_bare k xs in (ap (More (bare x.1)) r.0, ap (λ (ys : List Bool). x.0 ∷ ys) r.1)

levels_from : (k : ℕ) (b : EventControl) → GoodLevels (expression k).Good b → Tree × List (Bool × Tree)
unfolding count
levels_from k (Star b) w = absurd w
levels_from k (Edges list commas) w = absurd w
levels_from k (Levels End commas) w = absurd (omega (arith, w.0))
levels_from k (Levels (More t ts) commas) w = (t, zip_levels ts commas (omega (arith, w.0)))

levels_from_good : (k : ℕ) (b : EventControl) (w : GoodLevels (expression k).Good b) → (separated (expression k)).Good (levels_from k b w)
unfolding levels_from count
levels_from_good k (Star b) w = absurd w
levels_from_good k (Edges list commas) w = absurd w
levels_from_good k (Levels End commas) w = absurd (omega (arith, w.0))
levels_from_good k (Levels (More t ts) commas) w = (w.1.0, zip_good k ts commas (omega (arith, w.0)) w.1.1)

levels_from_is : (k : ℕ) (b : EventControl) (w : GoodLevels (expression k).Good b) → to_levels (levels_from k b w) ≡ b
unfolding levels_from count
levels_from_is k (Star b) w = absurd w
levels_from_is k (Edges list commas) w = absurd w
levels_from_is k (Levels End commas) w = absurd (omega (arith, w.0))
levels_from_is k (Levels (More t ts) commas) w =
    let r = zip_trees ts commas (omega (arith, w.0)) in
    ap (λ (us : Trees). Levels (More t us) (firsts (zip_levels ts commas (omega (arith, w.0))))) r.0 ∙ ap (λ (cs : List Bool). Levels (More t ts) cs) r.1

levels_image : (k : ℕ) → IsImage (before_mark (separated (expression k)) mark_close_parenthesis) to_levels inside bare_events (GoodLevels (expression k).Good)
unfolding spell_events spell_levels rest bare_events bare count
levels_image k = record {
  from = levels_from k;
  from_good = levels_from_good k;
  from_is = levels_from_is k;
  good = λ a w. (omega (arith, trees_count a.1), (w.0, trees_good k a.1 w.1));
  spelled = λ a w. ap (λ (us : List Word). (spell a.0 ++ us) ++ (Marked mark_close_parenthesis ∷ [])) (levels_words k a.1);
  bared = λ a. (let r = levels_bare k a.1 in ap (λ (ts : Trees). Levels (More (bare a.0) ts) (firsts a.1)) r.0 ∙ ap (λ (cs : List Bool). Levels (More (bare a.0) (trees (seconds (map (both separator_of (expression k)).bare a.1)))) cs) r.1);
}

separator_ends : (b : Bool) (left : List Word) → Ends (separator_of.spell b ++ left)
separator_ends true left = comma_ends left
separator_ends false left = or_ends left

pub level_list_exact : (k : ℕ) → IsExact (level_list k)
level_list_exact k = imaged_exact (before_mark (separated (expression k)) mark_close_parenthesis)
    (before_mark_exact (separated (expression k)) (separated_exact (expression k) (expression_exact k) spell-some separator_ends) mark_close_parenthesis (omega arith) (λ left. (close_ends left, close_after (expression k) left)))
    to_levels inside bare_events (GoodLevels (expression k).Good) (levels_image k)

-- ---- what an expression begins with

prefix_clash : (o m : ℕ) → IsTrue (is_prefix o) → is_prefix m ≡ false → o ≡ m → ⊥
prefix_clash o m a b e = cc (a, b, ap is_prefix e)

star_no_prefix : is_prefix mark_star ≡ false
unfolding is_prefix
star_no_prefix = refl

pub expression_front : (t : Tree) → WellFormed t → (m : ℕ) → m < no_mark → is_prefix m ≡ false → (m ≡ mark_open_parenthesis → ⊥) → (m ≡ mark_open_brace → ⊥) → (left : List Word) → mark (spell t ++ left) ≡ m → ⊥
unfolding WellFormed mark spell
expression_front (Name n s) w m h p a b left e = absurd (omega (arith, e))
expression_front (Literal n d) w m h p a b left e = absurd (omega (arith, e))
expression_front (Bit n s i) w m h p a b left e = absurd (omega (arith, e))
expression_front (Part n s l r) w m h p a b left e = absurd (omega (arith, e))
expression_front (Indexed n s f v up) w m h p a b left e = absurd (omega (arith, e))
expression_front (Unary o t) w m h p a b left e = absurd (prefix_clash o m w.0 p e)
expression_front (Binary o l r) w m h p a b left e = expression_front l w.1 m h p a b ((Marked o ∷ spell r) ++ left) (ap mark (sym (append_assoc (spell l) (Marked o ∷ spell r) left)) ∙ e)
expression_front (Cond x y z) w m h p a b left e = expression_front x w.0 m h p a b _ (ap mark (sym (append_assoc (spell x) _ left)) ∙ e)
expression_front (Concat ts) w m h p a b left e = b (sym e)
expression_front (Repeat t ts) w m h p a b left e = b (sym e)
expression_front (Cast signed t) w m h p a b left e = absurd (omega (arith, e))
expression_front (Paren t) w m h p a b left e = a (sym e)

-- ---- event controls

star_from_is : (c : Bool) (b : EventControl) → GoodStar c b → stars c ≡ b
star_from_is c (Star b) w = ap stars (sym w)
star_from_is c (Edges list commas) w = absurd w
star_from_is c (Levels list commas) w = absurd w

star_alone_image : IsImage (after_mark mark_star (nothing_of false)) stars spell_events bare_events (GoodStar false)
unfolding spell_events bare_events
star_alone_image = record {
  from = λ b w. false;
  from_good = λ b w. refl;
  from_is = star_from_is false;
  good = λ a w. w;
  spelled = λ a w. ap (λ (b : Bool). spell_events (Star b)) w;
  bared = λ a. refl;
}

star_closed_image : IsImage (after_mark mark_star (after_mark mark_close_parenthesis (nothing_of true))) stars inside bare_events (GoodStar true)
unfolding spell_events bare_events rest
star_closed_image = record {
  from = λ b w. true;
  from_good = λ b w. refl;
  from_is = star_from_is true;
  good = λ a w. w;
  spelled = λ a w. ap (λ (b : Bool). inside (Star b)) w;
  bared = λ a. refl;
}

pub star_alone_exact : IsExact star_alone
star_alone_exact = imaged_exact (after_mark mark_star (nothing_of false)) (after_mark_exact (nothing_of false) (nothing_exact false) mark_star (omega arith)) stars spell_events bare_events (GoodStar false) star_alone_image

pub star_closed_exact : IsExact star_closed
star_closed_exact = imaged_exact (after_mark mark_star (after_mark mark_close_parenthesis (nothing_of true))) (after_mark_exact (after_mark mark_close_parenthesis (nothing_of true)) (after_mark_exact (nothing_of true) (nothing_exact true) mark_close_parenthesis (omega arith)) mark_star (omega arith)) stars inside bare_events (GoodStar true) star_closed_image

edge_word : (b : Bool) → (nat_eq (cond b keyword_posedge keyword_negedge) keyword_posedge || nat_eq (cond b keyword_posedge keyword_negedge) keyword_negedge) ≡ true
edge_word true = refl
edge_word false = refl

edge_front : (b : EventControl) → GoodEdges b → (left : List Word) → (nat_eq (mark (inside b ++ left)) mark_star ≡ false) × (front_edge (inside b ++ left) ≡ true)
unfolding spell_events spell_edges spell_edge rest mark keyword
edge_front (Star b) w left = absurd w
edge_front (Levels list commas) w left = absurd w
edge_front (Edges [] commas) w left = absurd (omega (arith, w))
edge_front (Edges (e ∷ es) commas) w left = (refl, edge_word e.rising)

level_front : (k : ℕ) (b : EventControl) → GoodLevels (expression k).Good b → (left : List Word) → (nat_eq (mark (inside b ++ left)) mark_star ≡ false) × (front_edge (inside b ++ left) ≡ false)
unfolding spell_events spell_levels rest count
level_front k (Star b) w left = absurd w
level_front k (Edges list commas) w left = absurd w
level_front k (Levels End commas) w left = absurd (omega (arith, w.0))
level_front k (Levels (More t ts) commas) w left =
    let a : ((spell t ++ spell_more_levels ts commas) ++ (Marked mark_close_parenthesis ∷ [])) ++ left ≡ spell t ++ ((spell_more_levels ts commas ++ (Marked mark_close_parenthesis ∷ [])) ++ left) =
    ap (λ (us : List Word). us ++ left) (append_assoc (spell t) (spell_more_levels ts commas) (Marked mark_close_parenthesis ∷ [])) ∙ append_assoc (spell t) (spell_more_levels ts commas ++ (Marked mark_close_parenthesis ∷ [])) left in
    let n : keyword (((spell t ++ spell_more_levels ts commas) ++ (Marked mark_close_parenthesis ∷ [])) ++ left) ≡ no_word = ap keyword a ∙ keyword_spell t ((spell_more_levels ts commas ++ (Marked mark_close_parenthesis ∷ [])) ++ left) in (
      not_equal (mark (((spell t ++ spell_more_levels ts commas) ++ (Marked mark_close_parenthesis ∷ [])) ++ left)) mark_star
          (λ e. expression_front t w.1.0.0 mark_star (omega arith) star_no_prefix (λ q. absurd (omega (arith, q))) (λ q. absurd (omega (arith, q))) ((spell_more_levels ts commas ++ (Marked mark_close_parenthesis ∷ [])) ++ left) (ap mark (sym a) ∙ e)),
      rw n refl,
    )

star_front : (b : EventControl) → GoodStar true b → (left : List Word) → nat_eq (mark (inside b ++ left)) mark_star ≡ true
unfolding spell_events rest mark
star_front (Star b) w left = rw w refl
star_front (Edges list commas) w left = absurd w
star_front (Levels list commas) w left = absurd w

pub bracketed_exact : (k : ℕ) → IsExact (bracketed k)
bracketed_exact k =
    let l = choose_exact front_edge edge_list (level_list k) edge_list_exact (level_list_exact k) (λ a. refl) (λ a. refl)
    (record { at_front = λ a w left v. (edge_front a w left).1 }) (record { at_front = λ a w left v. (level_front k a w left).1 }) in
    choose_exact front_star star_closed (choose front_edge edge_list (level_list k)) star_closed_exact l (λ a. refl) (λ a. refl)
    (record { at_front = λ a w left v. star_front a w left })
    (tells_choose front_star front_edge edge_list (level_list k) false (λ a. refl) (record { at_front = λ a w left v. (edge_front a w left).0 }) (record { at_front = λ a w left v. (level_front k a w left).0 }))

pub bracketed_words : (k : ℕ) (b : EventControl) → (bracketed k).Good b → spell_events b ≡ Marked mark_open_parenthesis ∷ inside b
unfolding spell_events rest
bracketed_words k (Star true) w = refl
bracketed_words k (Star false) (inl w) = absurd (cc w)
bracketed_words k (Star false) (inr (inl w)) = absurd w
bracketed_words k (Star false) (inr (inr w)) = absurd w
bracketed_words k (Edges list commas) w = refl
bracketed_words k (Levels list commas) w = refl

pub in_brackets_exact : (k : ℕ) → IsExact (in_brackets k)
in_brackets_exact k = imaged_exact (after_mark mark_open_parenthesis (bracketed k)) (after_mark_exact (bracketed k) (bracketed_exact k) mark_open_parenthesis (omega arith)) (λ e. e) spell_events bare_events (bracketed k).Good
    (record { from = λ b w. b; from_good = λ b w. w; from_is = λ b w. refl; good = λ a w. w; spelled = bracketed_words k; bared = λ a. refl })

alone_front : (b : EventControl) → GoodStar false b → (left : List Word) → nat_eq (mark (spell_events b ++ left)) mark_star ≡ true
unfolding spell_events mark
alone_front (Star b) w left = rw w refl
alone_front (Edges list commas) w left = absurd w
alone_front (Levels list commas) w left = absurd w

bracket_front : (k : ℕ) (b : EventControl) → (bracketed k).Good b → (left : List Word) → nat_eq (mark (spell_events b ++ left)) mark_star ≡ false
unfolding mark
bracket_front k b w left = let e = bracketed_words k b w in rw e refl

pub events_exact : (k : ℕ) → IsExact (events k)
events_exact k = choose_exact front_star star_alone (in_brackets k) star_alone_exact (in_brackets_exact k) (λ a. refl) (λ a. refl)
    (record { at_front = λ a w left v. alone_front a w left }) (record { at_front = λ a w left v. bracket_front k a w left })

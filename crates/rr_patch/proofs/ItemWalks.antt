-- The changes of items and modules, node by node.
use Rattle.std.proofs.Common.{◌≡◌, ℕ, ◌+◌, Bool, List, [], ◌∷◌, ◌++◌, length, map, Option, None, Some, IsNone, refl, sym, ◌∙◌, ap, subst, arith, append-nil}
use denote.Ref.{Bor}
use Rattle.rr_syntax.specs.declared.tree.Bounds.{Bounds}
use Rattle.rr_syntax.specs.declared.tree.Connection.{Connection}
use Rattle.rr_syntax.specs.declared.tree.Conns.{Conns}
use Rattle.rr_syntax.specs.declared.tree.Conns.TheVariants as conns
use Rattle.rr_syntax.specs.declared.tree.Events.{Events}
use Rattle.rr_syntax.specs.declared.tree.Expr.{Expr}
use Rattle.rr_syntax.specs.declared.tree.Group.{Group}
use Rattle.rr_syntax.specs.declared.tree.Instance.{Instance}
use Rattle.rr_syntax.specs.declared.tree.Item.{Item}
use Rattle.rr_syntax.specs.declared.tree.Item.TheVariants as item
use Rattle.rr_syntax.specs.declared.tree.Module.{Module}
use Rattle.rr_syntax.specs.declared.tree.Named.{Named}
use Rattle.rr_syntax.specs.declared.tree.Declarator.{Declarator}
use Rattle.rr_syntax.specs.declared.tree.Pair.{Pair}
use Rattle.rr_syntax.specs.declared.tree.Params.{Params}
use Rattle.rr_syntax.specs.declared.tree.Stmt.{Stmt}
use Rattle.rr_syntax.specs.Words.{Word, Marked, Reserved, keyword_endmodule, mark_close_parenthesis, mark_equals, mark_semicolon}
use Rattle.rr_syntax.specs.Expressions.{spell}
use Rattle.rr_syntax.specs.Tree.{Range}
use Rattle.rr_syntax.specs.Items.{spell_range, spell_type, spell_events, spell_overrides, spell_item, spell_parameters, spell_ports, spell_value, spell_declarator, spell_pair, spell_connection, spell_instance, HasNoWords, WellFormedPair, WellFormedItem, WellFormedModule, NumberedEach, NumberedSeparated, NumberedAll, NumberedDeclarator, NumberedPair, NumberedConnection, NumberedConnections, NumberedInstance, NumberedItem, NumberedModule}
use Rattle.rr_syntax.specs.View.{plain, plain_list, plain_statement, plain_range, plain_header, plain_parameter, plain_port, plain_value, plain_declarator, plain_pair, plain_events, plain_connection, plain_connections, plain_overrides, plain_instance, plain_item, plain_module}
use Rattle.rr_syntax.proofs.ItemLengths.{separated_len, size-value-some, size-declarator, size-pair, size-connection-none, size-connection-some, size-positions, size-named, size-instance, size-Nets, size-Assigns, size-Always, size-Instances, size-module}
use Rattle.rr_syntax.proofs.Lengths.{parts_len}
use Rattle.rr_expr.specs.Faults.{first}
use Rattle.rr_instance_laws.proofs.FirstLaws.{first_is}
use Rattle.rr_choice.specs.declared.pick.Pick.{Pick}
use Rattle.rr_choice.specs.Sites.{Site}
use Rattle.rr_instance.specs.Firsts.{first_token}
use Rattle.rr_respell.specs.Pieces.{Piece, Kept, kept}
use Rattle.rr_respell.specs.Printing.{tree_pieces, more_pieces, part_pieces, body_pieces, each_pieces, separated_pieces, all_pieces, value_pieces, net_pieces, pair_pieces, optional_pieces, connection_pieces, connections_pieces, child_pieces, item_pieces, module_pieces}
use Rattle.rr_patch.specs.Changes.{Change, changes}
use Rattle.rr_patch.specs.Walks.{Adds, NetAt, PairAt, ItemAt, ModuleAt}
use Rattle.rr_patch.proofs.ListWalks.{separated_are, separated_each, each_both, all_both}
use Rattle.rr_patch.proofs.StatementWalks.{kept_first}
use Rattle.rr_patch.proofs.TreeWalks.{kept_last, parts_are}
use Rattle.rr_patch.proofs.Walks.{kept_none}

no_words : (r : Option Range) → IsNone r → length (spell_range r) ≡ 0
unfolding spell_range
no_words None h = refl
no_words (Some b) h = absurd (cc h)

module _ (ss : List Site) (ps : List Pick) where
  abbrev T : Bor Expr → List Piece
  T e = tree_pieces ss ps (plain e.now)

  pub made_net_none : (o : List Change) (k : ℕ) (n : Declarator) → n.value ≡ None → o ≡ o ++ changes k (net_pieces ss ps (plain_declarator n))
  unfolding net_pieces value_pieces plain_declarator plain_value changes
  made_net_none o k n q =
      let W : List Word = spell_range (plain_range n.words) in
      sym (append-nil o) ∙ ap (λ v. o ++ changes (k + 1 + length W) (value_pieces ss ps (plain_value v))) (sym q)
      ∙ ap (λ (l : List Change). o ++ l) (sym (kept_first (k + 1) W (value_pieces ss ps (plain_value n.value))))

  pub made_net_some : (o o' : List Change) (k : ℕ) (n : Declarator) (e : Bor Expr) → HasNoWords (plain_declarator n) → n.value ≡ Some e → o' ≡ o ++ changes (k + 2) (T e) → o' ≡ o ++ changes k (net_pieces ss ps (plain_declarator n))
  unfolding net_pieces value_pieces plain_declarator plain_value changes
  made_net_some o o' k n e w q h =
      let W : List Word = spell_range (plain_range n.words) in
      let l : length W ≡ 0 = no_words (plain_range n.words) w in
      let a : k + 2 ≡ k + 1 + length W + 1 = omega (arith, l) in
      h ∙ ap (λ (i : ℕ). o ++ changes i (T e)) a ∙ ap (λ v. o ++ changes (k + 1 + length W) (value_pieces ss ps (plain_value v))) (sym q)
      ∙ ap (λ (l : List Change). o ++ l) (sym (kept_first (k + 1) W (value_pieces ss ps (plain_value n.value))))

  pub made_pair : (o o' : List Change) (k m : ℕ) (p : Pair) → m ≡ k + length (spell (plain p.target.now)) → o' ≡ o ++ changes (m + 1) (T p.value) → o' ≡ o ++ changes k (pair_pieces ss ps (plain_pair p))
  unfolding pair_pieces plain_pair changes
  made_pair o o' k m p n h =
      h ∙ ap (λ (i : ℕ). o ++ changes (i + 1) (T p.value)) n ∙ ap (λ (l : List Change). o ++ l) (sym (kept_first k (spell (plain p.target.now)) (Kept (Marked mark_equals) ∷ T p.value)))

  pub made_connection_none : (o : List Change) (k : ℕ) (c : Connection) → c.value ≡ None → o ≡ o ++ changes k (connection_pieces ss ps (plain_connection c))
  unfolding connection_pieces optional_pieces plain_connection plain_value changes
  made_connection_none o k c q =
      sym (append-nil o) ∙ ap (λ v. o ++ changes (k + 1 + 1 + 1) (optional_pieces ss ps (plain_value v) ++ kept (Marked mark_close_parenthesis ∷ []))) (sym q)

  pub made_connection_some : (o o' : List Change) (k : ℕ) (c : Connection) (e : Bor Expr) → c.value ≡ Some e → o' ≡ o ++ changes (k + 3) (T e) → o' ≡ o ++ changes k (connection_pieces ss ps (plain_connection c))
  unfolding connection_pieces optional_pieces plain_connection plain_value changes
  made_connection_some o o' k c e q h =
      h ∙ ap (λ (i : ℕ). o ++ changes i (T e)) (omega arith) ∙ ap (λ (l : List Change). o ++ l) (sym (kept_last (k + 1 + 1 + 1) (T e) (Marked mark_close_parenthesis ∷ [])))
      ∙ ap (λ v. o ++ changes (k + 1 + 1 + 1) (optional_pieces ss ps (plain_value v) ++ kept (Marked mark_close_parenthesis ∷ []))) (sym q)

  pub made_positions : (o o' : List Change) (k : ℕ) (c : Conns) (list : Bor (List Expr)) → c ≡ conns.Positions list → o' ≡ o ++ changes k (more_pieces ss ps (plain_list list.now)) →
      o' ≡ o ++ changes k (connections_pieces ss ps (plain_connections c))
  unfolding connections_pieces plain_connections changes
  made_positions o o' k c list q h =
      h ∙ ap (λ (l : List Change). o ++ l) (sym (kept_last (k + 1) (part_pieces ss ps (plain_list list.now)) (Marked mark_close_parenthesis ∷ []) ∙ parts_are ss ps k (plain_list list.now)))
      ∙ ap (λ (x : Conns). o ++ changes k (connections_pieces ss ps (plain_connections x))) (sym q)

  pub made_named : (o o' : List Change) (k : ℕ) (c : Conns) (list : Bor (List Connection)) → c ≡ conns.Names list → o' ≡ o ++ changes k (each_pieces (connection_pieces ss ps) (map plain_connection list.now)) →
      o' ≡ o ++ changes k (connections_pieces ss ps (plain_connections c))
  unfolding connections_pieces plain_connections changes
  made_named o o' k c list q h =
      h ∙ ap (λ (l : List Change). o ++ l)
      (sym (kept_last (k + 1) (separated_pieces (connection_pieces ss ps) (map plain_connection list.now)) (Marked mark_close_parenthesis ∷ []) ∙ separated_are (connection_pieces ss ps) k (map plain_connection list.now)))
      ∙ ap (λ (x : Conns). o ++ changes k (connections_pieces ss ps (plain_connections x))) (sym q)

  pub made_child : (o o' : List Change) (k : ℕ) (i : Instance) → o' ≡ o ++ changes (k + 1) (connections_pieces ss ps (plain_connections i.conns)) → o' ≡ o ++ changes k (child_pieces ss ps (plain_instance i))
  unfolding child_pieces plain_instance changes
  made_child o o' k i h = h

  abbrev MadeItem : List Change → List Change → ℕ → Item → Type 0
  MadeItem o o' k i = o' ≡ o ++ changes k (item_pieces ss ps (plain_item i))

  at_item : (o o' : List Change) (k : ℕ) (i j : Item) → i ≡ j → MadeItem o o' k j → MadeItem o o' k i
  at_item o o' k i j q h = h ∙ ap (λ (y : Item). o ++ changes k (item_pieces ss ps (plain_item y))) (sym q)

  stays : (o : List Change) (k : ℕ) (ws : List Word) → o ≡ o ++ changes k (kept ws)
  stays o k ws = sym (append-nil o) ∙ ap (λ (l : List Change). o ++ l) (sym (kept_none k ws))

  pub made_Ports : (o : List Change) (k : ℕ) (i : Item) (g : Group) → i ≡ item.Ports g → MadeItem o o k i
  unfolding item_pieces plain_item
  made_Ports o k i g q = at_item o o k i (item.Ports g) q (stays o k (spell_item (plain_item (item.Ports g))))

  pub made_Variables : (o : List Change) (k : ℕ) (i : Item) (signed : Bool) (range : Option Bounds) (names : Bor (List Declarator)) → i ≡ item.Variables signed range names → MadeItem o o k i
  unfolding item_pieces plain_item
  made_Variables o k i signed range names q = at_item o o k i (item.Variables signed range names) q (stays o k (spell_item (plain_item (item.Variables signed range names))))

  pub made_Integers : (o : List Change) (k : ℕ) (i : Item) (names : Bor (List Named)) → i ≡ item.Integers names → MadeItem o o k i
  unfolding item_pieces plain_item
  made_Integers o k i names q = at_item o o k i (item.Integers names) q (stays o k (spell_item (plain_item (item.Integers names))))

  pub made_Parameters : (o : List Change) (k : ℕ) (i : Item) (p : Params) → i ≡ item.Parameters p → MadeItem o o k i
  unfolding item_pieces plain_item
  made_Parameters o k i p q = at_item o o k i (item.Parameters p) q (stays o k (spell_item (plain_item (item.Parameters p))))

  pub made_Initial : (o : List Change) (k : ℕ) (i : Item) (s : Bor Stmt) (token : ℕ) → i ≡ item.Initial s token → MadeItem o o k i
  unfolding item_pieces plain_item
  made_Initial o k i s token q = at_item o o k i (item.Initial s token) q (stays o k (spell_item (plain_item (item.Initial s token))))

  pub made_Nets : (o o' : List Change) (k before : ℕ) (i : Item) (signed : Bool) (range : Option Bounds) (names : Bor (List Declarator)) → i ≡ item.Nets signed range names →
      before ≡ k + length (spell_type signed (plain_range range)) → o' ≡ o ++ changes before (each_pieces (net_pieces ss ps) (map plain_declarator names.now)) → MadeItem o o' k i
  unfolding item_pieces plain_item changes
  made_Nets o o' k before i signed range names q n h =
      let W : List Word = spell_type signed (plain_range range) in
      let S : List Piece = separated_pieces (net_pieces ss ps) (map plain_declarator names.now) in
      let inner : changes (k + 1 + length W) (S ++ kept (Marked mark_semicolon ∷ [])) ≡ changes before (each_pieces (net_pieces ss ps) (map plain_declarator names.now)) =
      kept_last (k + 1 + length W) S (Marked mark_semicolon ∷ []) ∙ ap (λ (j : ℕ). changes j S) (omega (arith, n)) ∙ separated_are (net_pieces ss ps) before (map plain_declarator names.now) in
      at_item o o' k i (item.Nets signed range names) q (h ∙ ap (λ (l : List Change). o ++ l) (sym (kept_first (k + 1) W (S ++ kept (Marked mark_semicolon ∷ [])) ∙ inner)))

  pub made_Assigns : (o o' : List Change) (k : ℕ) (i : Item) (pairs : Bor (List Pair)) → i ≡ item.Assigns pairs → o' ≡ o ++ changes k (each_pieces (pair_pieces ss ps) (map plain_pair pairs.now)) → MadeItem o o' k i
  unfolding item_pieces plain_item changes
  made_Assigns o o' k i pairs q h =
      at_item o o' k i (item.Assigns pairs) q
      (h ∙ ap (λ (l : List Change). o ++ l)
      (sym (kept_last (k + 1) (separated_pieces (pair_pieces ss ps) (map plain_pair pairs.now)) (Marked mark_semicolon ∷ []) ∙ separated_are (pair_pieces ss ps) k (map plain_pair pairs.now))))

  pub made_Always : (o o' : List Change) (k start : ℕ) (i : Item) (events : Events) (s : Bor Stmt) (token : ℕ) → i ≡ item.Always events s token → start ≡ k + 2 + length (spell_events (plain_events events)) →
      o' ≡ o ++ changes start (body_pieces ss ps (first_token (plain_statement s.now)) (plain_statement s.now)) → MadeItem o o' k i
  unfolding item_pieces plain_item changes
  made_Always o o' k start i events s token q n h =
      let B : List Piece = body_pieces ss ps (first_token (plain_statement s.now)) (plain_statement s.now) in
      let W : List Word = spell_events (plain_events events) in
      at_item o o' k i (item.Always events s token) q
      (h ∙ ap (λ (j : ℕ). o ++ changes j B) (omega (arith, n)) ∙ ap (λ (l : List Change). o ++ l) (sym (kept_first (k + 1 + 1) W B)))

  pub made_Instances : (o o' : List Change) (k before : ℕ) (i : Item) (m : Bor (List ℕ)) (token : ℕ) (u : Option Conns) (list : Bor (List Instance)) → i ≡ item.Instances m token u list →
      before ≡ k + length (spell_overrides (plain_overrides u)) → o' ≡ o ++ changes before (each_pieces (child_pieces ss ps) (map plain_instance list.now)) → MadeItem o o' k i
  unfolding item_pieces plain_item changes
  made_Instances o o' k before i m token u list q n h =
      let W : List Word = spell_overrides (plain_overrides u) in
      let S : List Piece = separated_pieces (child_pieces ss ps) (map plain_instance list.now) in
      let inner : changes (k + 1 + length W) (S ++ kept (Marked mark_semicolon ∷ [])) ≡ changes before (each_pieces (child_pieces ss ps) (map plain_instance list.now)) =
      kept_last (k + 1 + length W) S (Marked mark_semicolon ∷ []) ∙ ap (λ (j : ℕ). changes j S) (omega (arith, n)) ∙ separated_are (child_pieces ss ps) before (map plain_instance list.now) in
      at_item o o' k i (item.Instances m token u list) q (h ∙ ap (λ (l : List Change). o ++ l) (sym (kept_first (k + 1) W (S ++ kept (Marked mark_semicolon ∷ [])) ∙ inner)))

  pub made_module : (o o' : List Change) (k first : ℕ) (m : Module) →
      first ≡ k + (3 + length (spell_parameters (map plain_parameter m.params.now)) + length (spell_ports (plain_header m.header) (map plain_port m.groups.now))) →
      o' ≡ o ++ changes first (all_pieces (item_pieces ss ps) (map plain_item m.items.now)) → o' ≡ o ++ changes k (module_pieces ss ps (plain_module m))
  unfolding module_pieces plain_module changes
  made_module o o' k first m n h =
      let A : List Piece = all_pieces (item_pieces ss ps) (map plain_item m.items.now) in
      let P : List Word = spell_parameters (map plain_parameter m.params.now) in
      let Q : List Word = spell_ports (plain_header m.header) (map plain_port m.groups.now) in
      let E : List Piece = A ++ kept (Reserved keyword_endmodule ∷ []) in
      let c : changes (k + 1 + 1 + length P + length Q + 1) E ≡ changes first A = kept_last (k + 1 + 1 + length P + length Q + 1) A (Reserved keyword_endmodule ∷ []) ∙ ap (λ (j : ℕ). changes j A) (omega (arith, n)) in
      let b : changes (k + 1 + 1 + length P) (kept Q ++ (Kept (Marked mark_semicolon) ∷ E)) ≡ changes first A = kept_first (k + 1 + 1 + length P) Q (Kept (Marked mark_semicolon) ∷ E) ∙ c in
      let a : changes (k + 1 + 1) (kept P ++ (kept Q ++ (Kept (Marked mark_semicolon) ∷ E))) ≡ changes first A = kept_first (k + 1 + 1) P (kept Q ++ (Kept (Marked mark_semicolon) ∷ E)) ∙ b in
      h ∙ ap (λ (l : List Change). o ++ l) (sym a)

  -- the same where the numbers of their tokens tell where the parts stand
  pub net_none : (o : List Change) (n : Declarator) → n.value ≡ None → Adds o o (NetAt (plain_declarator n)) (net_pieces ss ps (plain_declarator n))
  net_none o n q at w = made_net_none o at n q

  pub net_some : (o o' : List Change) (k : ℕ) (n : Declarator) (e : Bor Expr) → n.value ≡ Some e → k ≡ n.token + 2 → o' ≡ o ++ changes k (T e) → Adds o o' (NetAt (plain_declarator n)) (net_pieces ss ps (plain_declarator n))
  unfolding NumberedDeclarator plain_declarator
  net_some o o' k n e q m h at w = let a = w.1.0 in made_net_some o o' at n e w.0 q (h ∙ ap (λ (i : ℕ). o ++ changes i (T e)) (omega (arith, m, a)))

  pub pair_adds : (o o' : List Change) (k : ℕ) (p : Pair) → k ≡ first (plain p.target.now) + length (spell (plain p.target.now)) → o' ≡ o ++ changes (k + 1) (T p.value) → Adds o o' (PairAt (plain_pair p)) (pair_pieces ss ps (plain_pair p))
  unfolding NumberedPair WellFormedPair plain_pair
  pair_adds o o' k p m h at w = made_pair o o' at k p (m ∙ ap (λ (i : ℕ). i + length (spell (plain p.target.now))) (first_is (plain p.target.now) at w.0.1 w.1.0)) h

  pub connection_none : (o : List Change) (c : Connection) → c.value ≡ None → Adds o o (NumberedConnection (plain_connection c)) (connection_pieces ss ps (plain_connection c))
  connection_none o c q at w = made_connection_none o at c q

  pub connection_some : (o o' : List Change) (k : ℕ) (c : Connection) (e : Bor Expr) → c.value ≡ Some e → k ≡ c.token + 2 → o' ≡ o ++ changes k (T e) →
      Adds o o' (NumberedConnection (plain_connection c)) (connection_pieces ss ps (plain_connection c))
  unfolding NumberedConnection plain_connection
  connection_some o o' k c e q m h at w = let a = w.0 in made_connection_some o o' at c e q (h ∙ ap (λ (i : ℕ). o ++ changes i (T e)) (omega (arith, m, a)))

  pub named_adds : (o o' : List Change) (k : ℕ) (c : Conns) (list : Bor (List Connection)) → c ≡ conns.Names list →
      Adds o o' (NumberedEach spell_connection NumberedConnection (map plain_connection list.now)) (each_pieces (connection_pieces ss ps) (map plain_connection list.now)) →
      NumberedConnections (plain_connections c) k → o' ≡ o ++ changes k (connections_pieces ss ps (plain_connections c))
  unfolding NumberedConnections plain_connections
  named_adds o o' k c list q h n = made_named o o' k c list q (h k (subst (λ (x : Conns). NumberedConnections (plain_connections x) k) q n))

  pub child_adds : (o o' : List Change) (k : ℕ) (i : Instance) → k ≡ i.token + 1 → (NumberedConnections (plain_connections i.conns) k → o' ≡ o ++ changes k (connections_pieces ss ps (plain_connections i.conns))) →
      Adds o o' (NumberedInstance (plain_instance i)) (child_pieces ss ps (plain_instance i))
  unfolding NumberedInstance plain_instance
  child_adds o o' k i m h at w =
      let a = w.0 in
      let e : k ≡ at + 1 = omega (arith, m, a) in
      made_child o o' at i (h (subst (NumberedConnections (plain_connections i.conns)) (sym e) w.1) ∙ ap (λ (j : ℕ). o ++ changes j (connections_pieces ss ps (plain_connections i.conns))) e)

  abbrev AddsItem : List Change → List Change → Item → Type 0
  AddsItem o o' i = Adds o o' (ItemAt (plain_item i)) (item_pieces ss ps (plain_item i))

  with_item : (o o' : List Change) (i j : Item) → i ≡ j → AddsItem o o' j → AddsItem o o' i
  with_item o o' i j q h = subst (AddsItem o o') (sym q) h

  pub Ports_adds : (o : List Change) (i : Item) (g : Group) → i ≡ item.Ports g → AddsItem o o i
  Ports_adds o i g q at w = made_Ports o at i g q

  pub Variables_adds : (o : List Change) (i : Item) (signed : Bool) (range : Option Bounds) (names : Bor (List Declarator)) → i ≡ item.Variables signed range names → AddsItem o o i
  Variables_adds o i signed range names q at w = made_Variables o at i signed range names q

  pub Integers_adds : (o : List Change) (i : Item) (names : Bor (List Named)) → i ≡ item.Integers names → AddsItem o o i
  Integers_adds o i names q at w = made_Integers o at i names q

  pub Parameters_adds : (o : List Change) (i : Item) (p : Params) → i ≡ item.Parameters p → AddsItem o o i
  Parameters_adds o i p q at w = made_Parameters o at i p q

  pub Initial_adds : (o : List Change) (i : Item) (s : Bor Stmt) (token : ℕ) → i ≡ item.Initial s token → AddsItem o o i
  Initial_adds o i s token q at w = made_Initial o at i s token q

  pub Nets_adds : (o o' : List Change) (i : Item) (signed : Bool) (range : Option Bounds) (names : Bor (List Declarator)) → i ≡ item.Nets signed range names →
      Adds o o' (NumberedEach spell_declarator NetAt (map plain_declarator names.now)) (each_pieces (net_pieces ss ps) (map plain_declarator names.now)) → AddsItem o o' i
  unfolding NumberedItem WellFormedItem plain_item
  Nets_adds o o' i signed range names q h =
      with_item o o' i (item.Nets signed range names) q
      (λ at w.
      let L : ℕ = length (spell_type signed (plain_range range)) in
      let n = subst (NumberedSeparated spell_declarator NumberedDeclarator (map plain_declarator names.now)) (omega arith) w.1.1 in
      made_Nets o o' at (at + L) (item.Nets signed range names) signed range names refl refl
      (h (at + L) (each_both spell_declarator HasNoWords NumberedDeclarator (map plain_declarator names.now) (at + L) w.0.3 (separated_each spell_declarator NumberedDeclarator (map plain_declarator names.now) (at + L) n))))

  pub Assigns_adds : (o o' : List Change) (i : Item) (pairs : Bor (List Pair)) → i ≡ item.Assigns pairs →
      Adds o o' (NumberedEach spell_pair PairAt (map plain_pair pairs.now)) (each_pieces (pair_pieces ss ps) (map plain_pair pairs.now)) → AddsItem o o' i
  unfolding NumberedItem WellFormedItem plain_item
  Assigns_adds o o' i pairs q h =
      with_item o o' i (item.Assigns pairs) q
      (λ at w.
      made_Assigns o o' at (item.Assigns pairs) pairs refl
      (h at (each_both spell_pair WellFormedPair NumberedPair (map plain_pair pairs.now) at w.0.1 (separated_each spell_pair NumberedPair (map plain_pair pairs.now) at w.1))))

  pub Always_adds : (o o' : List Change) (k : ℕ) (i : Item) (events : Events) (s : Bor Stmt) (token : ℕ) → i ≡ item.Always events s token → k ≡ token + 2 + length (spell_events (plain_events events)) →
      o' ≡ o ++ changes k (body_pieces ss ps (first_token (plain_statement s.now)) (plain_statement s.now)) → AddsItem o o' i
  unfolding NumberedItem plain_item
  Always_adds o o' k i events s token q m h =
      with_item o o' i (item.Always events s token) q (λ at w. let a = w.1.0 in made_Always o o' at k (item.Always events s token) events s token refl (omega (arith, m, a)) h)

  pub Instances_adds : (o o' : List Change) (i : Item) (m : Bor (List ℕ)) (token : ℕ) (u : Option Conns) (list : Bor (List Instance)) → i ≡ item.Instances m token u list →
      Adds o o' (NumberedEach spell_instance NumberedInstance (map plain_instance list.now)) (each_pieces (child_pieces ss ps) (map plain_instance list.now)) → AddsItem o o' i
  unfolding NumberedItem plain_item
  Instances_adds o o' i m token u list q h =
      with_item o o' i (item.Instances m token u list) q
      (λ at w.
      let L : ℕ = length (spell_overrides (plain_overrides u)) in
      let n = subst (NumberedSeparated spell_instance NumberedInstance (map plain_instance list.now)) (omega arith) w.1.2 in
      made_Instances o o' at (at + L) (item.Instances m token u list) m token u list refl refl (h (at + L) (separated_each spell_instance NumberedInstance (map plain_instance list.now) (at + L) n)))

  pub module_adds : (o o' : List Change) (m : Module) → Adds o o' (NumberedAll spell_item ItemAt (map plain_item m.items.now)) (all_pieces (item_pieces ss ps) (map plain_item m.items.now)) →
      Adds o o' (ModuleAt (plain_module m)) (module_pieces ss ps (plain_module m))
  unfolding NumberedModule WellFormedModule plain_module
  module_adds o o' m h at w =
      let first : ℕ = at + (3 + length (spell_parameters (map plain_parameter m.params.now)) + length (spell_ports (plain_header m.header) (map plain_port m.groups.now))) in
      let n = subst (NumberedAll spell_item NumberedItem (map plain_item m.items.now)) (omega arith) w.1.3 in
      made_module o o' at first m refl (h first (all_both spell_item WellFormedItem NumberedItem (map plain_item m.items.now) first w.0.3 n))

pub net_spelled : (n : Declarator) (e : Bor Expr) → n.value ≡ Some e → length (spell_declarator (plain_declarator n)) ≡ 2 + length (spell_range (plain_range n.words)) + length (spell (plain e.now))
net_spelled n e q =
    let s = size-declarator n in
    let v = ap (λ (x : Option (Bor Expr)). length (spell_value (plain_value x))) q ∙ size-value-some e in
    omega (arith, s, v)

pub ruleset net_walks = (net_none, net_some, net_spelled)

pub ruleset pair_walks = (pair_adds, size-pair)

pub ruleset connection_walks = (connection_none, connection_some, size-connection-none, size-connection-some)

pub ruleset connections_walks = (made_positions, named_adds, size-positions, size-named, parts_len, separated_len)

pub ruleset child_walks = (child_adds, size-instance)

pub ruleset item_walks = (Ports_adds, Variables_adds, Integers_adds, Parameters_adds, Initial_adds, Nets_adds, Assigns_adds, Always_adds, Instances_adds, separated_len, size-Nets, size-Assigns, size-Always, size-Instances)

pub ruleset module_walks = (module_adds, size-module)

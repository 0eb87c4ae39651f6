-- The words at which sites stand are those of the source.
use Rattle.std.proofs.Common.{◌≡◌, inl, inr, ℕ, zero, suc, ◌+◌, ◌<◌, List, [], ◌∷◌, ◌++◌, length, Option, Some, Contains, refl, sym, subst, ◌∙◌, arith, append-nil}
use Rattle.std.specs.List.{AllByRecursion}
use Rattle.rr_syntax.specs.Expressions.{spell, spell_parts, WellFormed, Numbered}
use Rattle.rr_syntax.specs.Items.{spell_each, spell_separated, spell_all, spell_range, spell_type, spell_value, spell_declarator, spell_pair, spell_events, spell_optional, spell_connection, spell_connections, spell_overrides, spell_instance, spell_item, spell_parameters, spell_ports, spell_module, spell_source, WellFormedValue, WellFormedDeclarator, WellFormedPair, WellFormedConnection, WellFormedConnections, WellFormedInstance, WellFormedItem, WellFormedModule, WellFormedSource, NumberedEach, NumberedSeparated, NumberedAll, NumberedValue, NumberedDeclarator, NumberedPair, NumberedConnection, NumberedConnections, NumberedInstance, NumberedItem, NumberedModule, NumberedSource}
use Rattle.rr_syntax.specs.Statements.{spell_statement}
use Rattle.rr_syntax.specs.Tree.{Tree, Name, Statement, EventControl, Connections, ModuleItem, Always, ModuleDeclaration}
use Rattle.rr_syntax.specs.Words.{Word, Digits}
use Rattle.rr_expr.specs.Scopes.{Names}
use Rattle.rr_flat.specs.Signals.{Text}
use Rattle.rr_flat_instance.proofs.Telling.{begins_at}
use Rattle.rr_choice.specs.Sites.{Site}
use Rattle.rr_instance_laws.proofs.FirstLaws.{first_is}
use Rattle.rr_clock.specs.Places.{Place}
use Rattle.rr_sites_listed.specs.Listing.{module_at}
use Rattle.rr_sites_complete.specs.Kinds.{IsLiteralSite, IsGuardSite, IsOverwriteSite, IsSiteOf, literal, guard, overwrite}
use Rattle.rr_sites_complete.specs.Laws.{SitesAreSpelled}
use Rattle.rr_sites_complete.specs.Places.{IsConnected, in_order, by_name, IsPlace, of_net, of_assign, of_always, of_instance, Stands, IsTest, of_statement, of_conditional}
use Rattle.rr_sites_complete.specs.Spelled.{StandAt, IsSpelled}
use Rattle.rr_sites_complete.proofs.Assigned.{assigned_in}
use Rattle.rr_sites_complete.proofs.Lists.{none_in, all_in, cases_in}
use Rattle.rr_sites_complete.proofs.Members.{owner_there}
use Rattle.rr_sites_complete.proofs.Told.{to, front, back, next, second, Told, ToldStatement, parts_told, inside_told, condition_told, place_told}

module _ (ws : List Word) where
  -- Lists

  record ToldIn {X : Type 0} (f : X → List Word) (N : X → ℕ → Type 0) (x : X) : Type 0 where
    at : ℕ
    numbered : N x at
    spelled : StandAt ws at (f x)

  module _ {X : Type 0} (f : X → List Word) (N : X → ℕ → Type 0) where
    each_told : (xs : List X) (x : X) → Contains xs x → (at : ℕ) → NumberedEach f N xs at → StandAt ws at (spell_each f xs) → ToldIn f N x
    unfolding NumberedEach spell_each
    each_told [] x c at n h = absurd (none_in x c)
    each_told (y ∷ ys) x c at n h =
        let k = next ws _ (f y ++ spell_each f ys) at h in
        elim (cases_in y ys x c) [
          | inl e ↦ subst (ToldIn f N) e (record { at = at + 1; numbered = n.0; spelled = front ws (f y) (spell_each f ys) (at + 1) k })
          | inr d ↦ each_told ys x d (at + 1 + length (f y)) n.1 (back ws (f y) (spell_each f ys) (at + 1) k)
        ]

    separated_told : (xs : List X) (x : X) → Contains xs x → (at : ℕ) → NumberedSeparated f N xs at → StandAt ws at (spell_separated f xs) → ToldIn f N x
    unfolding NumberedSeparated spell_separated
    separated_told [] x c at n h = absurd (none_in x c)
    separated_told (y ∷ ys) x c at n h = elim (cases_in y ys x c) [
      | inl e ↦ subst (ToldIn f N) e (record { at = at; numbered = n.0; spelled = front ws (f y) (spell_each f ys) at h })
      | inr d ↦ each_told ys x d (at + length (f y)) n.1 (back ws (f y) (spell_each f ys) at h)
    ]

    -- after an opening bracket
    bracketed_told : (xs : List X) (x : X) → Contains xs x → (at : ℕ) → NumberedEach f N xs at → StandAt ws (at + 1) (spell_separated f xs) → ToldIn f N x
    unfolding NumberedEach spell_separated
    bracketed_told [] x c at n h = absurd (none_in x c)
    bracketed_told (y ∷ ys) x c at n h = elim (cases_in y ys x c) [
      | inl e ↦ subst (ToldIn f N) e (record { at = at + 1; numbered = n.0; spelled = front ws (f y) (spell_each f ys) (at + 1) h })
      | inr d ↦ each_told ys x d (at + 1 + length (f y)) n.1 (back ws (f y) (spell_each f ys) (at + 1) h)
    ]

    all_told : (xs : List X) (x : X) → Contains xs x → (at : ℕ) → NumberedAll f N xs at → StandAt ws at (spell_all f xs) → ToldIn f N x
    unfolding NumberedAll spell_all
    all_told [] x c at n h = absurd (none_in x c)
    all_told (y ∷ ys) x c at n h = elim (cases_in y ys x c) [
      | inl e ↦ subst (ToldIn f N) e (record { at = at; numbered = n.0; spelled = front ws (f y) (spell_all f ys) at h })
      | inr d ↦ all_told ys x d (at + length (f y)) n.1 (back ws (f y) (spell_all f ys) at h)
    ]

  -- Items

  value_told : (o : Option Tree) (e : Tree) → o ≡ Some e → (at : ℕ) → WellFormedValue o → NumberedValue o at → StandAt ws at (spell_value o) → Told ws e
  unfolding WellFormedValue NumberedValue spell_value
  value_told o e q at = subst (λ p. WellFormedValue p → NumberedValue p at → StandAt ws at (spell_value p) → Told ws e) (sym q) (λ w n h. record { at = at + 1; formed = w; numbered = n; spelled = next ws _ (spell e) at h })

  optional_told : (o : Option Tree) (e : Tree) → o ≡ Some e → (at : ℕ) → WellFormedValue o → NumberedValue o at → StandAt ws (at + 1) (spell_optional o) → Told ws e
  unfolding WellFormedValue NumberedValue spell_optional
  optional_told o e q at = subst (λ p. WellFormedValue p → NumberedValue p at → StandAt ws (at + 1) (spell_optional p) → Told ws e) (sym q) (λ w n h. record { at = at + 1; formed = w; numbered = n; spelled = h })

  connected_told : {e : Tree} {cs : Connections} → IsConnected e cs → (at : ℕ) → WellFormedConnections cs → NumberedConnections cs at → StandAt ws at (spell_connections cs) → Told ws e
  unfolding WellFormedConnections NumberedConnections spell_connections WellFormedConnection NumberedConnection spell_connection
  connected_told (in_order {ts} p) at w n h = parts_told ws p at w n (front ws (spell_parts ts) _ (at + 1) (next ws _ _ at h))
  connected_told {e} (by_name {list} c k v) at w n h =
      let r = bracketed_told spell_connection NumberedConnection list c k at n (front ws (spell_separated spell_connection list) _ (at + 1) (next ws _ _ at h)) in
      let q = to ws (spell_optional c.value) (r.at + 1 + 2) (r.at + 2 + 1) (omega arith) (front ws (spell_optional c.value) _ (r.at + 1 + 2) (second ws _ _ _ (r.at + 1) (next ws _ _ r.at r.spelled))) in
      optional_told c.value e v (r.at + 2) (all_in WellFormedConnection list c w.1 k) r.numbered.1 q

  body_told : (events : EventControl) (body : Statement) (token at : ℕ) → WellFormedItem (Always events body token) → NumberedItem (Always events body token) at → StandAt ws at (spell_item (Always events body token)) → ToldStatement ws body
  unfolding WellFormedItem NumberedItem spell_item
  body_told events body token at w n h =
      let mid = at + 2 + length (spell_events events) in
      record { at = mid; formed = w.1; numbered = n.2; spelled = back ws (spell_events events) (spell_statement body) (at + 2) (second ws _ _ _ at h) }

  place_at : {e : Tree} {x : ModuleItem} → IsPlace e x → (at : ℕ) → WellFormedItem x → NumberedItem x at → StandAt ws at (spell_item x) → Told ws e
  unfolding WellFormedItem NumberedItem spell_item WellFormedDeclarator NumberedDeclarator spell_declarator WellFormedPair NumberedPair spell_pair WellFormedInstance NumberedInstance spell_instance
  place_at {e} (of_net {signed} {range} {list} x c v) at w n h =
      let mid = at + 1 + length (spell_type signed range) in
      let r = separated_told spell_declarator NumberedDeclarator list x c mid n.1 (front ws (spell_separated spell_declarator list) _ mid (back ws (spell_type signed range) _ (at + 1) (next ws _ _ at h))) in
      let q = back ws (spell_range x.words) (spell_value x.value) (r.at + 1) (next ws _ (spell_range x.words ++ spell_value x.value) r.at r.spelled) in
      value_told x.value e v (r.at + 1 + length (spell_range x.words)) (all_in WellFormedDeclarator list x w.2 c).1 r.numbered.2 q
  place_at {e} (of_assign {pairs} p c v) at w n h =
      let r = separated_told spell_pair NumberedPair pairs p c (at + 1) n (front ws (spell_separated spell_pair pairs) _ (at + 1) (next ws _ _ at h)) in
      let mid = r.at + length (spell p.target) + 1 in
      subst (Told ws) v (record {
        at = mid;
        formed = (all_in WellFormedPair pairs p w.1 c).2;
        numbered = r.numbered.1;
        spelled = next ws _ (spell p.value) (r.at + length (spell p.target)) (back ws (spell p.target) _ r.at r.spelled);
      })
  place_at (of_always {events} {body} {token} d) at w n h =
      let mid = at + 2 + length (spell_events events) in place_told ws d mid w.1 n.2 (back ws (spell_events events) (spell_statement body) (at + 2) (second ws _ _ _ at h))
  place_at (of_instance {over} {list} i c k) at w n h =
      let mid = at + 1 + length (spell_overrides over) in
      let r = separated_told spell_instance NumberedInstance list i c mid n.2 (front ws (spell_separated spell_instance list) _ mid (back ws (spell_overrides over) _ (at + 1) (next ws _ _ at h))) in
      connected_told k (r.at + 1) (all_in WellFormedInstance list i w.2 c) r.numbered.1 (next ws _ (spell_connections i.connections) r.at r.spelled)

  stands_at : {e : Tree} {x : ModuleItem} → Stands e x → (at : ℕ) → WellFormedItem x → NumberedItem x at → StandAt ws at (spell_item x) → Told ws e
  stands_at d at w n h = let r = place_at d.is at w n h in inside_told ws d.inside r.at r.formed r.numbered r.spelled

  test_at : {e : Tree} {x : ModuleItem} → IsTest e x → (at : ℕ) → WellFormedItem x → NumberedItem x at → StandAt ws at (spell_item x) → Told ws e
  unfolding spell WellFormed Numbered
  test_at (of_statement {events} {body} {token} c) at w n h = let r = body_told events body token at w n h in condition_told ws c r.at r.formed r.numbered r.spelled
  test_at {e} (of_conditional t u d) at w n h =
      let r = stands_at d at w n h in record { at = r.at; formed = r.formed.0; numbered = r.numbered.0; spelled = front ws (spell e) _ r.at r.spelled }

  -- Modules

  record ToldModule (m : ModuleDeclaration) : Type 0 where
    at : ℕ
    formed : WellFormedModule m
    numbered : NumberedModule m at
    spelled : StandAt ws at (spell_module m)

  module_told : (ms : List ModuleDeclaration) (at k : ℕ) → AllByRecursion WellFormedModule ms → NumberedAll spell_module NumberedModule ms at → StandAt ws at (spell_all spell_module ms) → k < length ms → ToldModule (module_at ms k)
  unfolding NumberedAll spell_all
  module_told [] at k w n h l = absurd (omega (arith, l))
  module_told (m ∷ ms) at zero w n h l = record { at = at; formed = w.0; numbered = n.0; spelled = front ws (spell_module m) (spell_all spell_module ms) at h }
  module_told (m ∷ ms) at (suc k) w n h l = module_told ms (at + length (spell_module m)) k w.1 n.1 (back ws (spell_module m) (spell_all spell_module ms) at h) (omega (arith, l))

  record ToldItem (x : ModuleItem) : Type 0 where
    at : ℕ
    formed : WellFormedItem x
    numbered : NumberedItem x at
    spelled : StandAt ws at (spell_item x)

  item_told : (m : ModuleDeclaration) → ToldModule m → (x : ModuleItem) → Contains m.items x → ToldItem x
  unfolding WellFormedModule NumberedModule spell_module
  item_told m t x c =
      let low = t.at + 2 + length (spell_parameters m.params) in
      let past = low + length (spell_ports m.header m.groups) in
      let h = front ws (spell_all spell_item m.items) _ (past + 1) (next ws _ _ past (back ws (spell_ports m.header m.groups) _ low (back ws (spell_parameters m.params) _ (t.at + 2) (second ws _ _ _ t.at t.spelled)))) in
      let r = all_told spell_item NumberedItem m.items x c (past + 1) t.numbered.3 h in
      record { at = r.at; formed = all_in WellFormedItem m.items x t.formed.3 c; numbered = r.numbered; spelled = r.spelled }

  -- Sites

  module _ (m : ModuleDeclaration) (t : ToldModule m) where
    literal_told : (s : Site) → (h : IsLiteralSite m s) → StandAt ws s.token (Digits h.number ∷ [])
    unfolding spell Numbered
    literal_told s h =
        let x = item_told m t h.item h.there in
        let r = stands_at h.stands x.at x.formed x.numbered x.spelled in
        to ws (Digits h.number ∷ []) r.at s.token (sym r.numbered) r.spelled

    guard_told : (owner : ℕ) (clocks : List Text) (s : Site) → (h : IsGuardSite m owner clocks s) → StandAt ws s.token (spell h.test)
    guard_told owner clocks s h =
        let x = item_told m t h.item h.there in
        let r = test_at h.stands x.at x.formed x.numbered x.spelled in
        to ws (spell h.test) r.at s.token (sym (h.token ∙ first_is h.test r.at r.formed r.numbered)) r.spelled

    overwrite_told : (owner : ℕ) (scope : Names) (clocks : List Text) (s : Site) → (h : IsOverwriteSite m owner scope clocks s) → StandAt ws s.token (spell_statement h.body)
    overwrite_told owner scope clocks s h =
        let x = item_told m t (Always h.events h.body h.always) h.there in
        let r = body_told h.events h.body h.always x.at x.formed x.numbered x.spelled in
        let c = assigned_in h.body (Name h.target h.name) h.now h.is_target.assigned tt in
        let e = begins_at h.body r.at r.formed r.numbered (λ q. none_in (record { part = Name h.target h.name; now = h.now }) (subst (λ l. Contains l (record { part = Name h.target h.name; now = h.now })) q c)) in
        to ws (spell_statement h.body) r.at s.token (sym (h.token ∙ e)) r.spelled

    site_told : (owner : ℕ) (scope : Names) (clocks : List Text) (s : Site) → (h : IsSiteOf m owner scope clocks s) → IsSpelled ws h
    site_told owner scope clocks s (literal h) = literal_told s h
    site_told owner scope clocks s (guard h) = guard_told owner clocks s h
    site_told owner scope clocks s (overwrite h) = overwrite_told owner scope clocks s h

whole : (ws : List Word) → StandAt ws 0 ws
whole ws = record { before = []; after = []; count = refl; are = sym (append-nil ws) }

pub sites_spelled : SitesAreSpelled
unfolding WellFormedSource NumberedSource spell_source
sites_spelled source scopes owners places g s h =
    let p = h.place in
    let ws = spell_all spell_module source.modules in
    let l = all_in (λ (q : Place). q.owner < length source.modules) places p (owner_there (length source.modules) places g.rising) h.reached in
    let t = module_told ws source.modules 0 p.owner g.formed g.numbered (whole ws) l in
    site_told ws (module_at source.modules p.owner) t p.owner _ p.clocks s h.is

-- Each instance of a flat design has the names and the signals of the head of its module.
use Rattle.std.proofs.Common.{◌≡◌, ◌⊎◌, inl, inr, ℕ, zero, suc, ◌+◌, ◌-◌, ◌<◌, ◌≤◌, List, [], ◌∷◌, ◌++◌, length, Option, Some, None, Ok, refl, sym, subst, ap, ◌∙◌, arith, length-append}
use Rattle.std.specs.Prelude.{slice_index_or}
use Rattle.std.proofs.lemmas.Bool.{cases_lt}
use Rattle.std.proofs.lemmas.List.{length-set, get_or_append_left, get_or-append_right}
use Rattle.rr_syntax.specs.Tree.{Connections, ModuleInstance, ModuleItem, Ports, Nets, Variables, Integers, Parameters, Assigns, Always, Initial, Instances, ModuleDeclaration, SourceText}
use Rattle.rr_expr.specs.Scopes.{Names, lookup}
use Rattle.rr_expr.specs.declared.types.Entity.TheVariants as entity
use Rattle.rr_flat.specs.Faults.{and_then, each}
use Rattle.rr_declarations.specs.Heads.{Head, head}
use Rattle.rr_flat.specs.Signals.{with_name, Text, Signal, signal_at, no_signal}
use Rattle.rr_flat.specs.Plain.{Flat}
use Rattle.rr_loop_rules.specs.Rules.{loop_names}
use Rattle.rr_flatten.specs.Tables.{place_of, add_module}
use Rattle.rr_flatten.specs.Walk.{Walked, Enter, scope_at, module_at, assign, net, with_instance, joined, instance_of, item, opened, enter_by, enter, nothing, finished, top_place, enter_top, flat_by, flat_of}
use Rattle.rr_flat.proofs.Alike.{Alike}
use Rattle.rr_flatten.proofs.HeadOf.{ok_is, not_ok, first_ok, each_keeps}
use Rattle.rr_flat_laws.proofs.Growing.{Same, each_same, assign_same, net_same, always_same, initial_same, joined_same, began, inside, entered, named_alike}

module _ (ms : List ModuleDeclaration) where
  -- the head of instance i, which is one of module k, has its names, and its signals from a base on
  pub record FromHead (signals : List Signal) (i k : ℕ) (scope : Names) : Type 0 where
    pub base : ℕ
    pub bits : ℕ
    pub given : Names
    pub top : Head
    pub is : head i base bits given (module_at ms k) ≡ Ok top
    pub alike : Alike top.scope scope
    pub room : base + length top.signals ≤ length signals
    pub same : (j : ℕ) → j < length top.signals → signal_at signals (base + j) ≡ signal_at top.signals j

  abbrev owner_in : List ℕ → ℕ → ℕ
  owner_in owners i = slice_index_or owners i 0

  abbrev names_in : List Names → ℕ → Names
  names_in scopes i = slice_index_or scopes i []

  pub record Headed (scopes : List Names) (owners : List ℕ) (signals : List Signal) : Type 0 where
    pub even : length owners ≡ length scopes
    pub each : (i : ℕ) → i < length scopes → FromHead signals i (owner_in owners i) (names_in scopes i)

  abbrev pub Fine : Walked → Type 0
  Fine w = Headed w.flat.scopes w.flat.owners w.flat.signals

  fine_same : (w t : Walked) → Same w t → Fine w → Fine t
  fine_same w t s g =
      subst (λ (owners : List ℕ). Headed t.flat.scopes owners t.flat.signals) s.owners
      (subst (λ (scopes : List Names). Headed scopes w.flat.owners t.flat.signals) s.scopes (subst (λ (signals : List Signal). Headed w.flat.scopes w.flat.owners signals) s.signals g))

  -- Instances

  named : (i : ℕ) (text : Text) (w : Walked) → Fine w → Fine (with_instance i text w)
  named i text w g =
      let long = length-set w.flat.scopes i (with_name (scope_at w i) text entity.Instance) in
      record {
        even = g.even ∙ sym long;
        each = λ j l.
            let there : j < length w.flat.scopes = omega (arith, l, long) in
            let f = g.each j there in
            record { base = f.base; bits = f.bits; given = f.given; top = f.top; is = f.is; alike = λ n. f.alike n ∙ named_alike i text w j there n; room = f.room; same = f.same };
      }

  abbrev Enters : Enter → Type 0
  Enters sub = (k : ℕ) (given : Names) (w t : Walked) → Fine w → sub k given w ≡ Ok t → Fine t

  after_instance : (above : List ℕ) (i : ℕ) (sub : Enter) → Enters sub → (at : ℕ) (over : Option Connections) (o : Option ℕ) (y : ModuleInstance) (w t : Walked) → Fine w → instance_of ms above i sub at over o y w ≡ Ok t → Fine t
  unfolding instance_of
  after_instance above i sub s at over None y w t g e = absurd (not_ok _ t e)
  after_instance above i sub s at over (Some m) y w t g e =
      let r = inside ms above i sub at over m y w t e in
      subst Fine r.is
      (fine_same r.mid (joined i (length w.flat.scopes) (module_at ms m) y.connections r.mid) (joined_same i (length w.flat.scopes) (module_at ms m) y.connections r.mid)
      (s m r.given (with_instance i y.text w) r.mid (named i y.text w g) r.walked))

  after_item : (table : Names) (above : List ℕ) (i : ℕ) (sub : Enter) → Enters sub → (x : ModuleItem) (w t : Walked) → Fine w → item ms table above i sub x w ≡ Ok t → Fine t
  unfolding item
  after_item table above i sub s (Ports p) w t g e = subst Fine (ok_is w t e) g
  after_item table above i sub s (Nets signed range list) w t g e = fine_same w t (each_same (net i) (net_same i) list w t e) g
  after_item table above i sub s (Variables signed range list) w t g e = subst Fine (ok_is w t e) g
  after_item table above i sub s (Integers list) w t g e = subst Fine (ok_is w t e) g
  after_item table above i sub s (Parameters p) w t g e = subst Fine (ok_is w t e) g
  after_item table above i sub s (Assigns pairs) w t g e = fine_same w t (each_same (assign i) (assign_same i) pairs w t e) g
  after_item table above i sub s (Always events body at) w t g e = fine_same w t (always_same i events body at w t e) g
  after_item table above i sub s (Initial body at) w t g e = fine_same w t (initial_same i body at w t e) g
  after_item table above i sub s (Instances m at over list) w t g e =
      each_keeps Fine (instance_of ms above i sub at over (place_of (lookup m table))) (λ x a b h q. after_instance above i sub s at over (place_of (lookup m table)) x a b h q) list w t g e

  -- Modules

  signal_before : (ss more : List Signal) (id : ℕ) → id < length ss → signal_at (ss ++ more) id ≡ signal_at ss id
  signal_before ss more id l = get_or_append_left ss more no_signal id l

  signal_new : (ss more : List Signal) (j : ℕ) → signal_at (ss ++ more) (length ss + j) ≡ signal_at more j
  signal_new ss more j =
      let z : length ss + j - length ss ≡ j = omega arith in
      get_or-append_right ss more (length ss) (length ss + j) no_signal refl (omega arith) ∙ ap (λ (i : ℕ). signal_at more i) z

  module _ (k bits : ℕ) (given : Names) (h : Head) (w : Walked) (f : Fine w) (e : head (length w.flat.scopes) (length w.flat.signals) bits given (module_at ms k) ≡ Ok h) where
    abbrev scopes : List Names
    scopes = w.flat.scopes

    abbrev owners : List ℕ
    owners = w.flat.owners

    abbrev ss : List Signal
    ss = w.flat.signals

    abbrev more : List Signal
    more = h.signals

    old : (j : ℕ) → j < length scopes → FromHead ss j (owner_in owners j) (names_in scopes j) → FromHead (ss ++ more) j (owner_in owners j) (names_in scopes j)
    old j l p =
        let room = p.room in
        let long = length-append ss more in
        record {
          base = p.base;
          bits = p.bits;
          given = p.given;
          top = p.top;
          is = p.is;
          alike = p.alike;
          room = omega (arith, room, long);
          same = λ n m. signal_before ss more (p.base + n) (omega (arith, room, m)) ∙ p.same n m;
        }

    by : (j : ℕ) → ((j < length scopes) ⊎ (length scopes ≤ j)) → j < length (scopes ++ h.scope ∷ []) → FromHead (ss ++ more) j (owner_in (owners ++ k ∷ []) j) (names_in (scopes ++ h.scope ∷ []) j)
    by j (inl m) l =
        let even = f.even in
        let o : owner_in (owners ++ k ∷ []) j ≡ owner_in owners j = get_or_append_left owners (k ∷ []) 0 j (omega (arith, m, even)) in
        let n : names_in (scopes ++ h.scope ∷ []) j ≡ names_in scopes j = get_or_append_left scopes (h.scope ∷ []) [] j m in
        subst (λ o. FromHead (ss ++ more) j o (names_in (scopes ++ h.scope ∷ []) j)) (sym o) (subst (FromHead (ss ++ more) j (owner_in owners j)) (sym n) (old j m (f.each j m)))
    by j (inr m) l =
        let even = f.even in
        let long = length-append scopes (h.scope ∷ []) in
        let q : length scopes ≡ j = omega (arith, l, m, long) in
        let z : length scopes - length owners ≡ 0 = omega (arith, even) in
        let y : length scopes - length scopes ≡ 0 = omega arith in
        let o : owner_in (owners ++ k ∷ []) (length scopes) ≡ k = get_or-append_right owners (k ∷ []) (length owners) (length scopes) 0 refl (omega (arith, even)) ∙ ap (λ (n : ℕ). slice_index_or (k ∷ []) n 0) z in
        let n : names_in (scopes ++ h.scope ∷ []) (length scopes) ≡ h.scope = get_or-append_right scopes (h.scope ∷ []) (length scopes) (length scopes) [] refl (omega arith) ∙ ap (λ (i : ℕ). slice_index_or (h.scope ∷ []) i []) y in
        let room = length-append ss more in
        subst (λ j. FromHead (ss ++ more) j (owner_in (owners ++ k ∷ []) j) (names_in (scopes ++ h.scope ∷ []) j)) q
        (subst (λ o. FromHead (ss ++ more) (length scopes) o (names_in (scopes ++ h.scope ∷ []) (length scopes))) (sym o)
        (subst (FromHead (ss ++ more) (length scopes) k) (sym n)
        (record { base = length ss; bits = bits; given = given; top = h; is = e; alike = λ x. refl; room = omega (arith, room); same = λ j l. signal_new ss more j })))

    after_opened : Fine (opened k h (loop_names (module_at ms k)) w)
    after_opened = record {
      even = length-append owners (k ∷ []) ∙ (ap (λ (n : ℕ). n + 1) f.even ∙ sym (length-append scopes (h.scope ∷ [])));
      each = λ j l. by j (cases_lt j (length scopes)) l;
    }

  after_enter_by : (table : Names) (sub : List ℕ → Enter) → ((above : List ℕ) → Enters (sub above)) → (above : List ℕ) → Enters (enter_by ms table sub above)
  after_enter_by table sub s above k given w t f e =
      let r = entered ms table sub above k given w t e in
      let b = began ms k given w r.mid r.began in
      each_keeps Fine (item ms table (above ++ k ∷ []) (length w.flat.scopes) (sub (above ++ k ∷ []))) (λ x u v p h. after_item table (above ++ k ∷ []) (length w.flat.scopes) (sub (above ++ k ∷ [])) (s (above ++ k ∷ [])) x u v p h)
      (module_at ms k).items r.mid t (subst Fine b.is (after_opened k w.bits given b.top w f b.found)) r.walked

  after_enter : (table : Names) (levels : ℕ) (above : List ℕ) → Enters (enter ms table levels above)
  unfolding enter
  after_enter table zero above k given w t f e = absurd (not_ok _ t e)
  after_enter table (suc levels) above k given w t f e = after_enter_by table (enter ms table levels) (after_enter table levels) above k given w t f e

  after_top : (table : Names) (o : Option ℕ) (w : Walked) → enter_top None ms table o ≡ Ok w → Fine w
  after_top table None w e = absurd (not_ok _ w e)
  after_top table (Some k) w e = after_enter table 16 [] k [] (nothing None (module_at ms k).token) w (record { even = refl; each = λ i l. absurd (omega (arith, l)) }) e

pub heads : (source : SourceText) (top : Option Text) (flat : Flat) → flat_of source top ≡ Ok flat → Headed source.modules flat.scopes flat.owners flat.signals
unfolding flat_by
heads source top flat e =
    let r = first_ok (each add_module source.modules []) (λ table. and_then (enter_top None source.modules table (top_place source.modules table top)) (λ w. Ok (finished source.modules w.flat))) flat e in
    let s = first_ok (enter_top None source.modules r.0 (top_place source.modules r.0 top)) (λ w. Ok (finished source.modules w.flat)) flat r.1.1 in
    let f = after_top source.modules r.0 (top_place source.modules r.0 top) s.0 s.1.0 in
    subst (λ (x : Flat). Headed source.modules x.scopes x.owners x.signals) (ok_is (finished source.modules s.0.flat) flat s.1.1) (record { even = f.even; each = f.each })

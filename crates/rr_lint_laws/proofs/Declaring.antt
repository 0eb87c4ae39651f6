-- A name that is marked for an `always` has a shape in each instance of its module, and is a memory in none: the token tells the module,
-- and a signal of one instance is one of each.
use Rattle.std.proofs.Common.{◌≡◌, ◌∙◌, sym, ap, ap₂, subst, ℕ, ◌+◌, ◌<◌, Bool, true, false, ◌&&◌, cond, List, length, nat_lt, get_or, min, Option, Some, None, Ok, refl, is_some, arith}
use Rattle.std.proofs.lemmas.Bool.{both_ways, false_from_ne_true, lt-ltb, ltb-false}
use Rattle.rr_syntax.specs.Tree.{Statement, EventControl, Always, ModuleDeclaration, SourceText}
use Rattle.rr_syntax.specs.Items.{NumberedSource}
use Rattle.rr_expr.specs.declared.types.Bit.{Bit}
use Rattle.rr_expr.specs.declared.types.Entity.{Entity}
use Rattle.rr_expr.specs.declared.types.Entity.TheVariants as entity
use Rattle.rr_expr.specs.declared.types.ExprFault.TheVariants.{TooWide}
use Rattle.rr_expr.specs.Faults.{fault, is_width, name_fault}
use Rattle.rr_expr.specs.Scopes.{Names, meant, or_instance, range_width}
use Rattle.rr_flat.specs.Plain as plain
use Rattle.rr_flat.specs.Plain.{Flat}
use Rattle.rr_flat.specs.Signals.{Text, signal_at}
use Rattle.rr_flat.specs.Targets.{is_bit_of, is_memory}
use Rattle.rr_flat.specs.Writers.{block_at, no_block, scope_at}
use Rattle.rr_flatten.specs.Walk.{flat_of}
use Rattle.rr_flat_laws.specs.Declared.{DeclaresAs}
use Rattle.rr_flat_laws.specs.Names.{module_of}
use Rattle.rr_flat_laws.proofs.Naming.{names_of_design}
use Rattle.rr_declared_ranges.proofs.Narrow.{narrow_of_source}
use Rattle.rr_declared_ranges.proofs.Once.{located_of_source}
use Rattle.rr_declared_ranges.proofs.Tops.{heads}
use Rattle.rr_instance.specs.Instances.{fresh}
use Rattle.rr_body_laws.specs.Bodies.{IsAmong, IsChanged, KeepsBodies}
use Rattle.rr_body_laws.proofs.Blocks.{changed_at}
use Rattle.rr_body_laws.proofs.Whole.{bodies_elaborate}
use Rattle.rr_lint_laws.specs.Mended.{IsLatched, MarkLatched, Marks, NoWordLatches, mended_body}
use Rattle.rr_lint_laws.proofs.Numbers.{same_module}
use Rattle.rr_lint_laws.proofs.Shapes.{HasShape, mended_keeps, same_body, same_keeps}
use Rattle.rr_lint_laws.proofs.Unfolds.{mended_loops}

-- Widths

positive : (r : Option (ℕ × ℕ)) → 0 < range_width r
positive None = omega arith
positive (Some r) = omega arith

width_fits : (w : ℕ) → 0 < w → nat_lt 128 w ≡ false → is_width w ≡ true
width_fits w p n =
    let h = ltb-false 128 w n in
    let q : w < 129 = omega (arith, h) in
    ap₂ (λ x y. x && y) (lt-ltb 0 w p) (lt-ltb w 129 q)

-- a signal of a width has no fault
signal_shaped : (names : Names) (name : Text) (id : ℕ) (range : Option (ℕ × ℕ)) (signed : Bool) → meant names name ≡ entity.Signal id range signed → nat_lt 128 (range_width range) ≡ false → HasShape names name
unfolding fault
signal_shaped names name id range signed e n =
    ap (λ (x : Entity). name_fault false fresh x) e ∙ ap (λ (b : Bool). cond b None (Some (TooWide fresh (min (range_width range) 4294967295)))) (width_fits (range_width range) (positive range) n)

-- a name with a shape is that of no memory
shaped_whole : (names : Names) (name : Text) → HasShape names name → is_memory (meant names name) ≡ false
unfolding fault
shaped_whole names name h = go (meant names name) h
  where
    go : (e : Entity) → name_fault false fresh e ≡ None → is_memory e ≡ false
    go (entity.Constant bits signed) q = refl
    go (entity.Signal id range signed) q = refl
    go (entity.Memory first low words range signed) q = absurd (cc)
    go entity.Instance q = refl

-- a name that has a bit and is no memory stands for a signal
record IsSignal (e : Entity) : Type 0 where
  id : ℕ
  range : Option (ℕ × ℕ)
  signed : Bool
  is : e ≡ entity.Signal id range signed

bit_signal : (e : Entity) (b : Bit) → is_memory e ≡ false → is_bit_of e b ≡ true → IsSignal e
bit_signal (entity.Constant bits signed) b m h = absurd (cc)
bit_signal (entity.Signal id range signed) b m h = record { id = id; range = range; signed = signed; is = refl }
bit_signal (entity.Memory first low words range signed) b m h = absurd (cc)
bit_signal entity.Instance b m h = absurd (cc)

-- no block keeps a bit of a memory, and so no name that is latched is one
latched_whole : (flat : Flat) → NoWordLatches flat → (token : ℕ) (name : List ℕ) (h : IsLatched flat token name) → is_memory (meant (scope_at flat (block_at flat.combinational h.block).scope) name) ≡ false
latched_whole flat words token name h =
    false_from_ne_true (is_memory (meant (scope_at flat (block_at flat.combinational h.block).scope) name))
    (λ q. words h.block h.inside h.bit (record { name = name; target = h.target; memory = q; named = h.named; keeps = h.keeps }))

module _ (source : SourceText) (top : Option Text) (flat : Flat) (e : flat_of source top ≡ Ok flat) where
  -- as many scopes as owners
  owned : (i : ℕ) → i < length flat.owners → i < length flat.scopes
  owned i l = let h = (heads source top flat e).even in omega (arith, l, h)

  -- what the module of an instance declares with words stands for a memory there
  words_there : (i : ℕ) → i < length flat.owners → (name : Text) → DeclaresAs (module_of source flat i) true name → is_memory (meant (scope_at flat i) name) ≡ true
  unfolding meant
  words_there i l name d =
      let o = (names_of_design source top flat e).memory i name l d in
      ap (λ (x : Option Entity). is_memory (or_instance x)) o.found

  -- a name that is no memory is declared without
  declared_whole : (i : ℕ) → i < length flat.owners → (name : Text) → is_memory (meant (scope_at flat i) name) ≡ false → (memory : Bool) → DeclaresAs (module_of source flat i) memory name → DeclaresAs (module_of source flat i) false name
  declared_whole i l name w false d = d
  declared_whole i l name w true d = absurd (both_ways (is_memory (meant (scope_at flat i) name)) w (words_there i l name d))

  -- the signal of a name is declared by the module of the instance
  declared_there : (i : ℕ) → i < length flat.owners → (name : Text) (b : Bit) → is_memory (meant (scope_at flat i) name) ≡ false → is_bit_of (meant (scope_at flat i) name) b ≡ true → DeclaresAs (module_of source flat i) false name
  declared_there i l name b w h =
      let s = bit_signal (meant (scope_at flat i) name) b w h in
      let p = located_of_source source top flat e i (owned i l) name s.id s.range s.signed s.is in
      let n = ((names_of_design source top flat e).named s.id p.there).declared in
      let memory : Bool = is_some (signal_at flat.signals s.id).word in
      declared_whole i l name w memory
      (subst (λ (x : Text). DeclaresAs (module_of source flat i) memory x) p.named (subst (λ (j : ℕ). DeclaresAs (module_of source flat j) memory (signal_at flat.signals s.id).name) p.instance n))

  -- so it is one in each instance of the module
  shaped_there : (i : ℕ) → i < length flat.owners → (name : Text) → DeclaresAs (module_of source flat i) false name → HasShape (scope_at flat i) name
  unfolding meant
  shaped_there i l name d =
      let o = (names_of_design source top flat e).one i name l d in
      let s = signal_at flat.signals o.id in
      let is : meant (scope_at flat i) name ≡ entity.Signal o.id s.range s.signed = ap or_instance o.found in
      signal_shaped (scope_at flat i) name o.id s.range s.signed is (narrow_of_source source top flat e i (owned i l) name o.id s.range s.signed is)

  -- what each combinational block holds
  block_held : (k : ℕ) → k < length flat.combinational → (new : plain.Block) × IsChanged same_body source flat (block_at flat.combinational k) new
  block_held k l =
      let r = bodies_elaborate None same_body source top flat e (same_keeps source flat) in
      (get_or r.0.combinational k no_block, changed_at same_body source flat flat.combinational r.0.combinational r.1.1.blocks k no_block l)

  latched_shaped : NumberedSource source → NoWordLatches flat → (i : ℕ) (names : Names) (events : EventControl) (body : Statement) (token : ℕ) → i < length flat.owners → IsAmong (Always events body token) (module_of source flat i).items
      → ((name : Text) → meant names name ≡ meant (scope_at flat i) name) → (name : Text) → IsLatched flat token name → HasShape names name
  unfolding fault
  latched_shaped numbered words i names events body token there among alike name h =
      let block : plain.Block = block_at flat.combinational h.block in
      let c = (block_held h.block h.inside).1 in
      let here : IsAmong (Always c.events c.body token) (module_of source flat block.scope).items = subst (λ (t : ℕ). IsAmong (Always c.events c.body t) (module_of source flat block.scope).items) h.is c.among in
      let same : module_of source flat block.scope ≡ module_of source flat i = same_module source (get_or flat.owners block.scope 0) (get_or flat.owners i 0) c.events events c.body body token numbered here among in
      let d : DeclaresAs (module_of source flat i) false name =
      subst (λ (m : ModuleDeclaration). DeclaresAs m false name) same (declared_there block.scope c.there name h.bit (latched_whole flat words token name h) h.named) in
      ap (λ (x : Entity). name_fault false fresh x) (alike name) ∙ shaped_there i there name d

  pub latched_no_memory : NumberedSource source → NoWordLatches flat → (i : ℕ) (events : EventControl) (body : Statement) (token : ℕ) → i < length flat.owners → IsAmong (Always events body token) (module_of source flat i).items
      → (name : Text) → IsLatched flat token name → is_memory (meant (scope_at flat i) name) ≡ false
  latched_no_memory numbered words i events body token there among name h =
      shaped_whole (scope_at flat i) name (latched_shaped numbered words i (scope_at flat i) events body token there among (λ x. refl) name h)

  pub marked_keeps : NumberedSource source → (marks : Marks) → MarkLatched flat marks → NoWordLatches flat → KeepsBodies (mended_body marks) source flat
  marked_keeps numbered marks m words = record {
    loops = mended_loops marks;
    bodies = λ i names events body token there among alike L.
        mended_keeps L names marks token body (λ name q. latched_shaped numbered words i names events body token there among alike name (m.right token name q));
  }

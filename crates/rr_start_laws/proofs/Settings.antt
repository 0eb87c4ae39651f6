-- The assignments of `initial` items, and what they make of starting values.
use Rattle.std.proofs.Common.{◌≡◌, ◌∙◌, sym, ap, ◌⊎◌, inl, inr, ℕ, ◌<◌, max, Bool, true, false, cond, List, [], ◌∷◌, ◌++◌, length, get_or, fold, Option, Some, None, refl, arith, length-set}
use Rattle.std.specs.Prelude.{slice_set, ℤ, pos}
use Rattle.std.specs.List.{All, AllByRecursion, flat_map}
use Rattle.std.specs.Str.{bytes_eq}
use Rattle.std.proofs.lemmas.Bool.{cases_eq}
use Rattle.std.proofs.lemmas.List.{get_or-set_same, get_or-set_other, set-append_left}
use Rattle.std.proofs.lemmas.List.Elements.{All-nil, All-cons}
use Rattle.std.proofs.lemmas.List.Sums.{fold-append}
use Rattle.rr_bits.specs.Words.{number, reading, select}
use Rattle.rr_syntax.specs.Tree.{Tree, Name, Literal, Bit as BitSelect, Part, Indexed, Unary, Binary, Cond, Concat, Repeat, Cast, Paren, Statement, Statements, Null, Block, If, IfElse, Case, Assign, For, Done, Then}
use Rattle.rr_expr.specs.declared.types.Entity.{Entity}
use Rattle.rr_expr.specs.declared.types.Entity.TheVariants as entity
use Rattle.rr_expr.specs.declared.types.Shape.{Shape}
use Rattle.rr_expr.specs.Memories.{word_at, word_signal}
use Rattle.rr_expr.specs.Scopes.{Names, lookup, meant, or_instance}
use Rattle.rr_expr.specs.Selects.{integer_with}
use Rattle.rr_expr.specs.Values.{form, value, nowhere}
use Rattle.rr_expr.proofs.MemoryWords.{word_below}
use Rattle.rr_expr.proofs.NamesAlone.{shape_by_names, value_by_names}
use Rattle.rr_flat.specs.Plain.{Initial}
use Rattle.rr_flat.specs.Signals.{Text}
use Rattle.rr_flat.proofs.Alike.{Alike}
use Rattle.rr_starts.specs.Starts.{start_of, whole_signal, started_word, set_at, set_target, started, all_started}
use Rattle.rr_flatten.proofs.HeadOf.{all_append, all_weaker, Entries, Between}
use Rattle.rr_start_laws.specs.Starting.{Setting, set_variable, setting_of, settings_of, all_settings_of, IsLast}

abbrev pub set_one : List ℕ → Setting → List ℕ
set_one starts t = slice_set starts t.variable t.number

-- one after the other

set_is : (o : Option ℕ) (n : ℕ) (xs : List ℕ) → set_at o n xs ≡ fold set_one xs (setting_of o n)
set_is None n xs = refl
set_is (Some id) n xs = refl

target_is : (s : Names) (target t : Tree) (xs : List ℕ) → set_target s target t xs ≡ fold set_one xs (setting_of (set_variable s target) (start_of s (form s target).width t))
unfolding set_target form
target_is s (Name token name) t xs = set_is (whole_signal (meant s name)) (start_of s (form s (Name token name)).width t) xs
target_is s (Literal token n) t xs = refl
target_is s (BitSelect token name i) t xs = set_is (started_word (meant s name) (integer_with (form s i) (value s i nowhere))) (start_of s (form s (BitSelect token name i)).width t) xs
target_is s (Part token name l r) t xs = refl
target_is s (Indexed token name f n up) t xs = refl
target_is s (Unary op a) t xs = refl
target_is s (Binary op a b) t xs = refl
target_is s (Cond a b c) t xs = refl
target_is s (Concat ts) t xs = refl
target_is s (Repeat n ts) t xs = refl
target_is s (Cast signed a) t xs = refl
target_is s (Paren a) t xs = refl

mutual
  unfolding started settings_of

  pub started_is : (s : Names) (a : Statement) (xs : List ℕ) → started s a xs ≡ fold set_one xs (settings_of s a)
  started_is s Null xs = refl
  started_is s (Block label ss) xs = all_started_is s ss xs
  started_is s (If t a) xs = refl
  started_is s (IfElse t a b) xs = refl
  started_is s (Case kind t arms) xs = refl
  started_is s (Assign target now t) xs = target_is s target t xs
  started_is s (For h a) xs = refl

  all_started_is : (s : Names) (ss : Statements) (xs : List ℕ) → all_started s ss xs ≡ fold set_one xs (all_settings_of s ss)
  all_started_is s Done xs = refl
  all_started_is s (Then a rest) xs =
      all_started_is s rest (started s a xs) ∙ (ap (λ (ys : List ℕ). fold set_one ys (all_settings_of s rest)) (started_is s a xs) ∙ sym (fold-append set_one xs (settings_of s a) (all_settings_of s rest)))

-- names that stand for the same make the same assignments

start_alike : (a b : Names) (w : ℕ) (t : Tree) → Alike a b → start_of a w t ≡ start_of b w t
start_alike a b w t h =
    ap (λ (z : Shape). number (select (value a t nowhere (max w z.width) z.signed) (pos 0) w)) (shape_by_names a b t (λ n o. h n))
    ∙ ap (λ (bits : List Bool). number (select bits (pos 0) w)) (value_by_names a b t (λ n o. h n) nowhere (max w (form b t).width) (form b t).signed)

variable_alike : (a b : Names) (t : Tree) → Alike a b → set_variable a t ≡ set_variable b t
variable_alike a b (Name token name) h = ap whole_signal (h name)
variable_alike a b (Literal token n) h = refl
variable_alike a b (BitSelect token name i) h =
    ap (λ (e : Entity). started_word e (integer_with (form a i) (value a i nowhere))) (h name)
    ∙ (ap (λ (z : Shape). started_word (meant b name) (reading z.signed (value a i nowhere z.width z.signed))) (shape_by_names a b i (λ n o. h n))
    ∙ ap (λ (bits : List Bool). started_word (meant b name) (reading (form b i).signed bits)) (value_by_names a b i (λ n o. h n) nowhere (form b i).width (form b i).signed))
variable_alike a b (Part token name l r) h = refl
variable_alike a b (Indexed token name f n up) h = refl
variable_alike a b (Unary op x) h = refl
variable_alike a b (Binary op x y) h = refl
variable_alike a b (Cond x y z) h = refl
variable_alike a b (Concat ts) h = refl
variable_alike a b (Repeat n ts) h = refl
variable_alike a b (Cast signed x) h = refl
variable_alike a b (Paren x) h = refl

mutual
  unfolding settings_of

  settings_alike : (a b : Names) (x : Statement) → Alike a b → settings_of a x ≡ settings_of b x
  settings_alike a b Null h = refl
  settings_alike a b (Block label ss) h = all_settings_alike a b ss h
  settings_alike a b (If t x) h = refl
  settings_alike a b (IfElse t x y) h = refl
  settings_alike a b (Case kind t arms) h = refl
  settings_alike a b (Assign target now t) h =
      ap (λ (o : Option ℕ). setting_of o (start_of a (form a target).width t)) (variable_alike a b target h)
      ∙ (ap (λ (z : Shape). setting_of (set_variable b target) (start_of a z.width t)) (shape_by_names a b target (λ n o. h n))
      ∙ ap (λ (n : ℕ). setting_of (set_variable b target) n) (start_alike a b (form b target).width t h))
  settings_alike a b (For k x) h = refl

  all_settings_alike : (a b : Names) (ss : Statements) → Alike a b → all_settings_of a ss ≡ all_settings_of b ss
  all_settings_alike a b Done h = refl
  all_settings_alike a b (Then x rest) h = λ k. settings_alike a b x h k ++ all_settings_alike a b rest h k

-- those of `initial` items in these scopes
abbrev pub settings_in : List Names → List Initial → List Setting
settings_in scopes initials = flat_map (λ x. settings_of (get_or scopes x.scope []) x.body) initials

pub alike_in : (a b : List Names) (xs : List Initial) → AllByRecursion (λ x. Alike (get_or a x.scope []) (get_or b x.scope [])) xs → settings_in a xs ≡ settings_in b xs
alike_in a b [] h = refl
alike_in a b (x ∷ xs) h = λ k. settings_alike (get_or a x.scope []) (get_or b x.scope []) x.body h.0 k ++ alike_in a b xs h.1 k

-- names that stand for signals below a number set no other

abbrev pub Below : ℕ → Setting → Type 0
Below n t = t.variable < n

meant_in : (P : Entity → Type 0) (s : Names) (name : Text) → Entries P s → P entity.Instance → P (meant s name)
unfolding meant lookup
meant_in P [] name a i = i
meant_in P (x ∷ xs) name a i = go (bytes_eq name x.0) (meant_in P xs name a.1 i)
  where
    go : (b : Bool) → P (or_instance (lookup name xs)) → P (or_instance (cond b (Some x.1) (lookup name xs)))
    go true r = a.0
    go false r = r

entity_below : (n v : ℕ) (e : Entity) → Between 0 n e → AllByRecursion (Below n) (setting_of (whole_signal e) v)
entity_below n v (entity.Constant bits signed) h = tt
entity_below n v (entity.Signal id range signed) h = (h.1, tt)
entity_below n v (entity.Memory first low words range signed) h = tt
entity_below n v entity.Instance h = tt

word_entity_below : (n v : ℕ) (e : Entity) (i : ℤ) → Between 0 n e → AllByRecursion (Below n) (setting_of (started_word e i) v)
word_entity_below n v (entity.Constant bits signed) i h = tt
word_entity_below n v (entity.Signal id range signed) i h = tt
word_entity_below n v (entity.Memory first low words range signed) i h = by (word_at low words i) refl
  where
    by : (o : Option ℕ) → word_at low words i ≡ o → AllByRecursion (Below n) (setting_of (word_signal first o) v)
    by None q = tt
    by (Some k) q = let l = word_below low words i k q in let b = h.1 in (omega (arith, l, b), tt)
word_entity_below n v entity.Instance i h = tt

target_below : (n v : ℕ) (s : Names) (target : Tree) → Entries (Between 0 n) s → AllByRecursion (Below n) (setting_of (set_variable s target) v)
target_below n v s (Name token name) h = entity_below n v (meant s name) (meant_in (Between 0 n) s name h tt)
target_below n v s (Literal token x) h = tt
target_below n v s (BitSelect token name i) h = word_entity_below n v (meant s name) (integer_with (form s i) (value s i nowhere)) (meant_in (Between 0 n) s name h tt)
target_below n v s (Part token name l r) h = tt
target_below n v s (Indexed token name f x up) h = tt
target_below n v s (Unary op a) h = tt
target_below n v s (Binary op a b) h = tt
target_below n v s (Cond a b c) h = tt
target_below n v s (Concat ts) h = tt
target_below n v s (Repeat x ts) h = tt
target_below n v s (Cast signed a) h = tt
target_below n v s (Paren a) h = tt

mutual
  unfolding settings_of

  pub settings_below : (n : ℕ) (s : Names) (a : Statement) → Entries (Between 0 n) s → AllByRecursion (Below n) (settings_of s a)
  settings_below n s Null h = tt
  settings_below n s (Block label ss) h = all_settings_below n s ss h
  settings_below n s (If t a) h = tt
  settings_below n s (IfElse t a b) h = tt
  settings_below n s (Case kind t arms) h = tt
  settings_below n s (Assign target now t) h = target_below n (start_of s (form s target).width t) s target h
  settings_below n s (For k a) h = tt

  all_settings_below : (n : ℕ) (s : Names) (ss : Statements) → Entries (Between 0 n) s → AllByRecursion (Below n) (all_settings_of s ss)
  all_settings_below n s Done h = tt
  all_settings_below n s (Then a rest) h = all_append (Below n) (settings_of s a) (all_settings_of s rest) (settings_below n s a h) (all_settings_below n s rest h)

-- values behind them stay
pub fold_before : (xs ys : List ℕ) (ts : List Setting) → AllByRecursion (Below (length xs)) ts → fold set_one (xs ++ ys) ts ≡ fold set_one xs ts ++ ys
fold_before xs ys [] h = refl
fold_before xs ys (t ∷ ts) h =
    let e = length-set xs t.variable t.number in
    ap (λ (zs : List ℕ). fold set_one zs ts) (set-append_left xs ys t.variable t.number h.0)
    ∙ fold_before (set_one xs t) ys ts (all_weaker (Below (length xs)) (Below (length (set_one xs t))) ts (λ u l. omega (arith, l, e)) h.1)

-- the last one counts

abbrev pub LastOrFirst : ℕ → List ℕ → List Setting → ℕ → Type 0
LastOrFirst id xs ts n = ((s : Setting) × (IsLast id s ts × (n ≡ s.number))) ⊎ (All (λ t. t.variable ≡ id → ⊥) ts × (n ≡ get_or xs id 0))

pub last_counts : (id : ℕ) (xs : List ℕ) (ts : List Setting) → id < length xs → LastOrFirst id xs ts (get_or (fold set_one xs ts) id 0)
last_counts id xs [] l = inr (All-nil (λ (t : Setting). t.variable ≡ id → ⊥), refl)
last_counts id xs (t ∷ ts) l =
    let e = length-set xs t.variable t.number in
    elim (last_counts id (set_one xs t) ts (omega (arith, l, e))) [
      | inl p ↦ inl (p.0, (record { before = t ∷ p.1.0.before; after = p.1.0.after; parts = ap (λ (us : List Setting). t ∷ us) p.1.0.parts; sets = p.1.0.sets; none = p.1.0.none }, p.1.1))
      | inr p ↦ elim (cases_eq t.variable id) [
        | inl q ↦ inl (
          t,
          (
            record { before = []; after = ts; parts = refl; sets = q; none = p.0 },
            p.1 ∙ (ap (λ (z : ℕ). get_or (set_one xs t) z 0) (sym q) ∙ get_or-set_same xs t.variable t.number 0 (omega (arith, l, q))),
          ),
        )
        | inr d ↦ inr (All-cons (λ (u : Setting). u.variable ≡ id → ⊥) t ts d p.0, p.1 ∙ get_or-set_other xs t.variable id t.number 0 (λ f. d (sym f)))
      ]
    ]

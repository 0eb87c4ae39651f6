-- The bits that expressions name at nodes of the arena, and lists that grow by them.
use Rattle.std.proofs.Common.{◌≡◌, ◌∙◌, sym, ap, subst, ℕ, ◌+◌, ◌<◌, ◌≤◌, ◌⊎◌, inl, inr, Bool, true, false, List, [], ◌∷◌, ◌++◌, length, drop, get_or, Option, None, is_none, refl, ℤ, pos}
use Rattle.std.proofs.lemmas.List.{drop_all}
use Rattle.rr_syntax.specs.declared.token.Mark.{Mark}
use Rattle.rr_syntax.specs.declared.token.Number.{Number}
use Rattle.rr_syntax.specs.declared.tree.Expr.{Expr}
use Rattle.rr_syntax.specs.declared.tree.Expr.TheVariants as expr
use Rattle.rr_syntax.specs.Tree.{Tree, Concat, Repeat}
use Rattle.rr_syntax.specs.View.{plain, plain_list}
use Rattle.rr_syntax.proofs.Rows.{plain_concat, plain_repeat}
use Rattle.rr_expr.specs.declared.types.Bit.{Bit}
use Rattle.rr_expr.specs.declared.types.Entity.{Entity}
use Rattle.rr_expr.specs.declared.types.Entity.TheVariants.{Constant, Signal, Memory, Instance}
use Rattle.rr_expr.specs.Faults.{fault, faults, constant_count, constant_span}
use Rattle.rr_expr.specs.Memories.{word_at, word_signal}
use Rattle.rr_expr.specs.Reading.{IsBitOf, IsWithin, NamesAt, NamesIndex, NamesBit, NamesBits}
use Rattle.rr_expr.specs.Scopes.{Names, meant, entity_range, entity_shape}
use Rattle.rr_expr.specs.Selects.{place, lowest_place, integer_with}
use Rattle.rr_expr.specs.Values.{form, value, nowhere}
use Rattle.rr_flat.specs.Reads.{TargetReads, TargetsRead}
use Rattle.rr_flat.specs.Targets.{has_bit, is_memory, is_bit_of, bits_there, index_bits, is_constant}
use Rattle.rr_named_bits.specs.declared.piece.Piece.{Piece}
use Rattle.rr_named_bits.specs.declared.piece.Reach.{Reach}
use Rattle.rr_named_bits.specs.Lists.{reaches, Grown}
use Rattle.rr_named_bits.specs.Pieces.{bits_of, covers, part_bits}
use Rattle.rr_named_bits.proofs.Growing.{grown_push, grown_none, grown_both, grown_same, rest_is}
use Rattle.rr_named_bits.proofs.Nodes.{alone-Name, alone-Part, alone-Indexed, bits-Name, bits-Bit, bits-Part, bits-Indexed}
use Rattle.rr_flat.proofs.Bits.{has_word, word_has}
use Rattle.rr_flat.proofs.Relaxing.{none_parts}
use Rattle.rr_named_bits.proofs.Runs.{covers_in, has_there, there_has, whole_has, of_is, bit_of}
use denote.Ref.{Bor}

-- all bits of a name

pub whole_covers : (p : Piece) (e : Entity) → is_memory e ≡ false → bits_of p ≡ bits_there e (pos 0) (entity_shape e).width → (b : Bit) → covers p b ≡ is_bit_of e b
whole_covers p e m h b = covers_in p b ∙ (ap (λ z. has_bit z b) h ∙ whole_has e b m)

pub whole_pushed : (rs : List Reach) (r : Reach) (e : Entity) → ((b : Bit) → reaches r b ≡ is_bit_of e b) → Grown rs (rs ++ r ∷ []) (IsBitOf e)
whole_pushed rs r e h = grown_push rs r (IsBitOf e) (λ b c. bit_of e b (sym (h b) ∙ c)) (λ b i. h b ∙ of_is e b i)

-- the bits of one piece

pub fixed_pushed : (rs : List Reach) (r : Reach) (p : Piece) (bits : List (Option Bit)) → ((b : Bit) → reaches r b ≡ covers p b) → bits_of p ≡ bits → Grown rs (rs ++ r ∷ []) (λ b. has_bit bits b ≡ true)
fixed_pushed rs r p bits h e = grown_push rs r (λ b. has_bit bits b ≡ true) (λ b c. sym (is b) ∙ c) (λ b c. is b ∙ c)
  where
    is : (b : Bit) → reaches r b ≡ has_bit bits b
    is b = h b ∙ (covers_in p b ∙ ap (λ z. has_bit z b) e)

-- lists that grow by bits grow by those that a text names, where these are the same

of_bits : (ps qs : List Reach) (bits : List (Option Bit)) (P : Bit → Type 0) → Grown ps qs (λ b. has_bit bits b ≡ true) → ((b : Bit) → has_bit bits b ≡ true → P b) → ((b : Bit) → P b → has_bit bits b ≡ true) → Grown ps qs P
of_bits ps qs bits P g f h = grown_same ps qs (λ b. has_bit bits b ≡ true) P g f h

run_has : (e : Entity) (at : ℤ) (n : ℕ) (bits : List (Option Bit)) (b : Bit) → bits ≡ bits_there e at n → has_bit bits b ≡ true → IsBitOf e b × IsWithin at n b.place
run_has e at n bits b h c = has_there e at n b (sym (ap (λ z. has_bit z b) h) ∙ c)

has_run : (e : Entity) (at : ℤ) (n : ℕ) (bits : List (Option Bit)) (b : Bit) → is_memory e ≡ false → bits ≡ bits_there e at n → IsBitOf e b → IsWithin at n b.place → has_bit bits b ≡ true
has_run e at n bits b m h i w = ap (λ z. has_bit z b) h ∙ there_has e at n b m i w

-- names and selects

pub named-Name : (s : Names) (token : ℕ) (name : Bor (List ℕ)) (ps qs : List Reach) → fault s (plain (expr.Name token name)) false ≡ None
    → Grown ps qs (λ b. has_bit (part_bits s nowhere (plain (expr.Name token name))) b ≡ true) → Grown ps qs (NamesBit s (plain (expr.Name token name)))
unfolding plain NamesBit
named-Name s token name ps qs h g =
    let e = meant s name.now in
    let bits = part_bits s nowhere (plain (expr.Name token name)) in
    of_bits ps qs bits (NamesBit s (plain (expr.Name token name))) g
    (λ b c. (run_has e (pos 0) (entity_shape e).width bits b (bits-Name s nowhere token name) c).0)
    (λ b i. ap (λ z. has_bit z b) (bits-Name s nowhere token name) ∙ (whole_has e b (alone-Name s token name h) ∙ of_is e b i))

pub named-Part : (s : Names) (token : ℕ) (name : Bor (List ℕ)) (l r : Bor Expr) (ps qs : List Reach) → fault s (plain (expr.Part token name l r)) false ≡ None
    → Grown ps qs (λ b. has_bit (part_bits s nowhere (plain (expr.Part token name l r))) b ≡ true) → Grown ps qs (NamesBit s (plain (expr.Part token name l r)))
unfolding plain NamesBit form
named-Part s token name l r ps qs h g =
    let e = meant s name.now in
    let bits = part_bits s nowhere (plain (expr.Part token name l r)) in
    let at = place (entity_range e) (integer_with (form s (plain r.now)) (value s (plain r.now) nowhere)) in
    let n = constant_span s (plain l.now) (plain r.now) in
    of_bits ps qs bits (NamesBit s (plain (expr.Part token name l r))) g
    (λ b c. run_has e at n bits b (bits-Part s nowhere token name l r) c)
    (λ b i. has_run e at n bits b (alone-Part s token name l r h) (bits-Part s nowhere token name l r) i.0 i.1)

at_true : (k : Bool) (e : Entity) (at : ℤ) (n : ℕ) (index : Type 0) (b : Bit) → k ≡ true → IsBitOf e b × IsWithin at n b.place → NamesAt k e at n index b
at_true true e at n index b h r = r
at_true false e at n index b h r = cc

true_at : (k : Bool) (e : Entity) (at : ℤ) (n : ℕ) (index : Type 0) (b : Bit) → k ≡ true → NamesAt k e at n index b → IsBitOf e b × IsWithin at n b.place
true_at true e at n index b h r = r
true_at false e at n index b h r = cc

at_false : (k : Bool) (e : Entity) (at : ℤ) (n : ℕ) (index : Type 0) (b : Bit) → k ≡ false → IsBitOf e b ⊎ index → NamesAt k e at n index b
at_false true e at n index b h r = cc
at_false false e at n index b h r = r

false_at : (k : Bool) (e : Entity) (at : ℤ) (n : ℕ) (index : Type 0) (b : Bit) → k ≡ false → NamesAt k e at n index b → IsBitOf e b ⊎ index
false_at true e at n index b h r = cc
false_at false e at n index b h r = r

index_true : (k : Bool) (e : Entity) (i : ℤ) (index : Type 0) (b : Bit) → k ≡ true → has_bit (index_bits e i) b ≡ true → NamesIndex k e i index b
unfolding bits_there
index_true k (Constant bits signed) i index b h c =
    let at = place (entity_range (Constant bits signed)) i in
    at_true k (Constant bits signed) at 1 index b h (has_there (Constant bits signed) at 1 b c)
index_true k (Signal id range signed) i index b h c =
    let at = place (entity_range (Signal id range signed)) i in
    at_true k (Signal id range signed) at 1 index b h (has_there (Signal id range signed) at 1 b c)
index_true true (Memory first low words range signed) i index b h c = has_word range (word_signal first (word_at low words i)) b c
index_true false (Memory first low words range signed) i index b h c = cc
index_true k Instance i index b h c =
    let at = place (entity_range Instance) i in
    at_true k Instance at 1 index b h (has_there Instance at 1 b c)

true_index : (k : Bool) (e : Entity) (i : ℤ) (index : Type 0) (b : Bit) → k ≡ true → NamesIndex k e i index b → has_bit (index_bits e i) b ≡ true
unfolding bits_there
true_index k (Constant bits signed) i index b h r =
    let at = place (entity_range (Constant bits signed)) i in
    let p = true_at k (Constant bits signed) at 1 index b h r in
    there_has (Constant bits signed) at 1 b refl p.0 p.1
true_index k (Signal id range signed) i index b h r =
    let at = place (entity_range (Signal id range signed)) i in
    let p = true_at k (Signal id range signed) at 1 index b h r in
    there_has (Signal id range signed) at 1 b refl p.0 p.1
true_index true (Memory first low words range signed) i index b h r = word_has range (word_signal first (word_at low words i)) b r
true_index false (Memory first low words range signed) i index b h r = cc
true_index k Instance i index b h r =
    let at = place (entity_range Instance) i in
    let p = true_at k Instance at 1 index b h r in
    there_has Instance at 1 b refl p.0 p.1

index_false : (k : Bool) (e : Entity) (i : ℤ) (index : Type 0) (b : Bit) → k ≡ false → IsBitOf e b ⊎ index → NamesIndex k e i index b
index_false k (Constant bits signed) i index b h r = at_false k (Constant bits signed) (place (entity_range (Constant bits signed)) i) 1 index b h r
index_false k (Signal id range signed) i index b h r = at_false k (Signal id range signed) (place (entity_range (Signal id range signed)) i) 1 index b h r
index_false true (Memory first low words range signed) i index b h r = cc
index_false false (Memory first low words range signed) i index b h r = r
index_false k Instance i index b h r = at_false k Instance (place (entity_range Instance) i) 1 index b h r

false_index : (k : Bool) (e : Entity) (i : ℤ) (index : Type 0) (b : Bit) → k ≡ false → NamesIndex k e i index b → IsBitOf e b ⊎ index
false_index k (Constant bits signed) i index b h r = false_at k (Constant bits signed) (place (entity_range (Constant bits signed)) i) 1 index b h r
false_index k (Signal id range signed) i index b h r = false_at k (Signal id range signed) (place (entity_range (Signal id range signed)) i) 1 index b h r
false_index true (Memory first low words range signed) i index b h r = cc
false_index false (Memory first low words range signed) i index b h r = r
false_index k Instance i index b h r = false_at k Instance (place (entity_range Instance) i) 1 index b h r

pub named-Bit : (s : Names) (token : ℕ) (name : Bor (List ℕ)) (i : Bor Expr) (ps qs : List Reach) → is_constant s (plain i.now) ≡ true
    → Grown ps qs (λ b. has_bit (part_bits s nowhere (plain (expr.Bit token name i))) b ≡ true) → Grown ps qs (NamesBit s (plain (expr.Bit token name i)))
unfolding plain NamesBit
named-Bit s token name i ps qs k g =
    let e = meant s name.now in
    let n = integer_with (form s (plain i.now)) (value s (plain i.now) nowhere) in
    let bits = part_bits s nowhere (plain (expr.Bit token name i)) in
    of_bits ps qs bits (NamesBit s (plain (expr.Bit token name i))) g
    (λ b c. index_true (is_none (fault s (plain i.now) true)) e n (NamesBit s (plain i.now) b) b k (sym (ap (λ z. has_bit z b) (bits-Bit s nowhere token name i)) ∙ c))
    (λ b r. ap (λ z. has_bit z b) (bits-Bit s nowhere token name i) ∙ true_index (is_none (fault s (plain i.now) true)) e n (NamesBit s (plain i.now) b) b k r)

pub named-Indexed : (s : Names) (token : ℕ) (name : Bor (List ℕ)) (f n : Bor Expr) (up : Bool) (ps qs : List Reach) → fault s (plain (expr.Indexed token name f n up)) false ≡ None → is_constant s (plain f.now) ≡ true
    → Grown ps qs (λ b. has_bit (part_bits s nowhere (plain (expr.Indexed token name f n up))) b ≡ true) → Grown ps qs (NamesBit s (plain (expr.Indexed token name f n up)))
unfolding plain NamesBit form
named-Indexed s token name f n up ps qs h k g =
    let e = meant s name.now in
    let bits = part_bits s nowhere (plain (expr.Indexed token name f n up)) in
    let c = constant_count s (plain n.now) in
    let at = lowest_place (entity_range e) up (integer_with (form s (plain f.now)) (value s (plain f.now) nowhere)) c in
    of_bits ps qs bits (NamesBit s (plain (expr.Indexed token name f n up))) g
    (λ b r. at_true (is_none (fault s (plain f.now) true)) e at c (NamesBit s (plain f.now) b) b k (run_has e at c bits b (bits-Indexed s nowhere token name f n up) r))
    (λ b r.
    let p = true_at (is_none (fault s (plain f.now) true)) e at c (NamesBit s (plain f.now) b) b k r in
    has_run e at c bits b (alone-Indexed s token name f n up h) (bits-Indexed s nowhere token name f n up) p.0 p.1)

pub whole-Bit : (s : Names) (token : ℕ) (name : Bor (List ℕ)) (i : Bor Expr) (ps qs rs : List Reach) → is_constant s (plain i.now) ≡ false
    → Grown ps qs (IsBitOf (meant s name.now)) → Grown qs rs (NamesBit s (plain i.now)) → Grown ps rs (NamesBit s (plain (expr.Bit token name i)))
unfolding plain NamesBit
whole-Bit s token name i ps qs rs k g h =
    let e = meant s name.now in
    let n = integer_with (form s (plain i.now)) (value s (plain i.now) nowhere) in
    grown_both ps qs rs (IsBitOf e) (NamesBit s (plain i.now)) (NamesBit s (plain (expr.Bit token name i))) g h
    (λ b r. index_false (is_none (fault s (plain i.now) true)) e n (NamesBit s (plain i.now) b) b k (inl r))
    (λ b r. index_false (is_none (fault s (plain i.now) true)) e n (NamesBit s (plain i.now) b) b k (inr r))
    (λ b r. false_index (is_none (fault s (plain i.now) true)) e n (NamesBit s (plain i.now) b) b k r)

pub whole-Indexed : (s : Names) (token : ℕ) (name : Bor (List ℕ)) (f n : Bor Expr) (up : Bool) (ps qs rs : List Reach) → is_constant s (plain f.now) ≡ false
    → Grown ps qs (IsBitOf (meant s name.now)) → Grown qs rs (NamesBit s (plain f.now)) → Grown ps rs (NamesBit s (plain (expr.Indexed token name f n up)))
unfolding plain NamesBit
whole-Indexed s token name f n up ps qs rs k g h =
    let e = meant s name.now in
    let c = constant_count s (plain n.now) in
    let at = lowest_place (entity_range e) up (integer_with (form s (plain f.now)) (value s (plain f.now) nowhere)) c in
    grown_both ps qs rs (IsBitOf e) (NamesBit s (plain f.now)) (NamesBit s (plain (expr.Indexed token name f n up))) g h
    (λ b r. at_false (is_none (fault s (plain f.now) true)) e at c (NamesBit s (plain f.now) b) b k (inl r))
    (λ b r. at_false (is_none (fault s (plain f.now) true)) e at c (NamesBit s (plain f.now) b) b k (inr r))
    (λ b r. false_at (is_none (fault s (plain f.now) true)) e at c (NamesBit s (plain f.now) b) b k r)

-- operators

pub grown-Literal : (s : Names) (token : ℕ) (n : Number) (ps : List Reach) → Grown ps ps (NamesBit s (plain (expr.Literal token n)))
unfolding plain NamesBit
grown-Literal s token n ps = grown_none ps (NamesBit s (plain (expr.Literal token n))) (λ b r. r)

pub grown-Unary : (s : Names) (op : Mark) (t : Bor Expr) (ps qs : List Reach) → Grown ps qs (NamesBit s (plain t.now)) → Grown ps qs (NamesBit s (plain (expr.Unary op t)))
unfolding plain NamesBit
grown-Unary s op t ps qs g = grown_same ps qs (NamesBit s (plain t.now)) (NamesBit s (plain (expr.Unary op t))) g (λ b r. r) (λ b r. r)

pub grown-Cast : (s : Names) (signed : Bool) (t : Bor Expr) (ps qs : List Reach) → Grown ps qs (NamesBit s (plain t.now)) → Grown ps qs (NamesBit s (plain (expr.Cast signed t)))
unfolding plain NamesBit
grown-Cast s signed t ps qs g = grown_same ps qs (NamesBit s (plain t.now)) (NamesBit s (plain (expr.Cast signed t))) g (λ b r. r) (λ b r. r)

pub grown-Paren : (s : Names) (t : Bor Expr) (ps qs : List Reach) → Grown ps qs (NamesBit s (plain t.now)) → Grown ps qs (NamesBit s (plain (expr.Paren t)))
unfolding plain NamesBit
grown-Paren s t ps qs g = grown_same ps qs (NamesBit s (plain t.now)) (NamesBit s (plain (expr.Paren t))) g (λ b r. r) (λ b r. r)

pub grown-Binary : (s : Names) (op : Mark) (l r : Bor Expr) (ps qs rs : List Reach) → Grown ps qs (NamesBit s (plain l.now)) → Grown qs rs (NamesBit s (plain r.now))
    → Grown ps rs (NamesBit s (plain (expr.Binary op l r)))
unfolding plain NamesBit
grown-Binary s op l r ps qs rs g h = grown_both ps qs rs (NamesBit s (plain l.now)) (NamesBit s (plain r.now)) (NamesBit s (plain (expr.Binary op l r))) g h (λ b x. inl x) (λ b x. inr x) (λ b x. x)

pub grown-Cond : (s : Names) (x y z : Bor Expr) (ps qs rs us : List Reach) → Grown ps qs (NamesBit s (plain x.now)) → Grown qs rs (NamesBit s (plain y.now)) → Grown rs us (NamesBit s (plain z.now))
    → Grown ps us (NamesBit s (plain (expr.Cond x y z)))
unfolding plain NamesBit
grown-Cond s x y z ps qs rs us f g h =
    let Q : Bit → Type 0 = λ b. NamesBit s (plain y.now) b ⊎ NamesBit s (plain z.now) b in
    grown_both ps qs us (NamesBit s (plain x.now)) Q (NamesBit s (plain (expr.Cond x y z))) f
    (grown_both qs rs us (NamesBit s (plain y.now)) (NamesBit s (plain z.now)) Q g h (λ b r. inl r) (λ b r. inr r) (λ b r. r))
    (λ b r. inl r) (λ b r. inr r) (λ b r. r)

pub grown-Concat : (s : Names) (ts : Bor (List Expr)) (ps qs : List Reach) → Grown ps qs (NamesBits s (plain_list ts.now)) → Grown ps qs (NamesBit s (plain (expr.Concat ts)))
unfolding NamesBit
grown-Concat s ts ps qs g =
    let P : Tree → Type 0 = λ t. Grown ps qs (NamesBit s t) in
    subst P (sym (plain_concat ts)) (grown_same ps qs (NamesBits s (plain_list ts.now)) (NamesBit s (Concat (plain_list ts.now))) g (λ b r. r) (λ b r. r))

pub grown-Repeat : (s : Names) (n : Bor Expr) (ts : Bor (List Expr)) (ps qs : List Reach) → Grown ps qs (NamesBits s (plain_list ts.now)) → Grown ps qs (NamesBit s (plain (expr.Repeat n ts)))
unfolding NamesBit
grown-Repeat s n ts ps qs g =
    let P : Tree → Type 0 = λ t. Grown ps qs (NamesBit s t) in
    subst P (sym (plain_repeat n ts)) (grown_same ps qs (NamesBits s (plain_list ts.now)) (NamesBit s (Repeat (plain n.now) (plain_list ts.now))) g (λ b r. r) (λ b r. r))

-- lists of expressions: what is left

pub record NamesLeft (s : Names) (ts : List Expr) (i : ℕ) (start now : List Reach) : Type 0 where
  pub shaped : faults s (plain_list (drop i ts)) false ≡ None
  pub left : (end : List Reach) → Grown now end (NamesBits s (plain_list (drop i ts))) → Grown start end (NamesBits s (plain_list ts))

pub names_start : (s : Names) (ts : List Expr) (start : List Reach) → faults s (plain_list ts) false ≡ None → NamesLeft s ts 0 start start
names_start s ts start h = record { shaped = h; left = λ end g. g }

pub names_here : (s : Names) (ts : List Expr) (i : ℕ) (x : Expr) (start now : List Reach) → i < length ts → x ≡ get_or ts i x → NamesLeft s ts i start now → fault s (plain x) false ≡ None
unfolding plain_list fault
names_here s ts i x start now l e n =
    (none_parts (fault s (plain x) false) (faults s (plain_list (drop (i + 1) ts)) false) (sym (ap (λ z. faults s (plain_list z) false) (rest_is ts i x l e)) ∙ n.shaped)).0

pub names_more : (s : Names) (ts : List Expr) (i : ℕ) (x : Expr) (start now next : List Reach) → i < length ts → x ≡ get_or ts i x → NamesLeft s ts i start now
    → Grown now next (NamesBit s (plain x)) → NamesLeft s ts (i + 1) start next
unfolding plain_list fault NamesBit
names_more s ts i x start now next l e n g = record {
  shaped = (none_parts (fault s (plain x) false) (faults s (plain_list (drop (i + 1) ts)) false) (sym (ap (λ z. faults s (plain_list z) false) (rest_is ts i x l e)) ∙ n.shaped)).1;
  left = λ end h.
      let P : List Expr → Type 0 = λ z. Grown now end (NamesBits s (plain_list z)) in
      n.left end (subst P (sym (rest_is ts i x l e))
      (grown_both now next end (NamesBit s (plain x)) (NamesBits s (plain_list (drop (i + 1) ts))) (NamesBits s (plain_list (x ∷ drop (i + 1) ts))) g h (λ b r. inl r) (λ b r. inr r) (λ b r. r)));
}

pub names_done : (s : Names) (ts : List Expr) (i : ℕ) (start now : List Reach) → length ts ≤ i → NamesLeft s ts i start now → Grown start now (NamesBits s (plain_list ts))
unfolding plain_list NamesBit
names_done s ts i start now l n =
    let P : List Expr → Type 0 = λ z. Grown now now (NamesBits s (plain_list z)) in
    n.left now (subst P (sym (drop_all i ts l)) (grown_none now (NamesBits s (plain_list [])) (λ b r. r)))

-- the indices of targets

pub reads-Bit : (s : Names) (token : ℕ) (name : Bor (List ℕ)) (i : Bor Expr) (ps qs : List Reach) → Grown ps qs (NamesBit s (plain i.now)) → Grown ps qs (TargetReads s (plain (expr.Bit token name i)))
unfolding plain TargetReads
reads-Bit s token name i ps qs g = grown_same ps qs (NamesBit s (plain i.now)) (TargetReads s (plain (expr.Bit token name i))) g (λ b r. r) (λ b r. r)

pub reads-Indexed : (s : Names) (token : ℕ) (name : Bor (List ℕ)) (f n : Bor Expr) (up : Bool) (ps qs : List Reach) → Grown ps qs (NamesBit s (plain f.now))
    → Grown ps qs (TargetReads s (plain (expr.Indexed token name f n up)))
unfolding plain TargetReads
reads-Indexed s token name f n up ps qs g = grown_same ps qs (NamesBit s (plain f.now)) (TargetReads s (plain (expr.Indexed token name f n up))) g (λ b r. r) (λ b r. r)

pub reads-Concat : (s : Names) (ts : Bor (List Expr)) (ps qs : List Reach) → Grown ps qs (TargetsRead s (plain_list ts.now)) → Grown ps qs (TargetReads s (plain (expr.Concat ts)))
unfolding TargetReads
reads-Concat s ts ps qs g =
    let P : Tree → Type 0 = λ t. Grown ps qs (TargetReads s t) in
    subst P (sym (plain_concat ts)) (grown_same ps qs (TargetsRead s (plain_list ts.now)) (TargetReads s (Concat (plain_list ts.now))) g (λ b r. r) (λ b r. r))

pub reads-Name : (s : Names) (token : ℕ) (name : Bor (List ℕ)) (ps : List Reach) → Grown ps ps (TargetReads s (plain (expr.Name token name)))
unfolding plain TargetReads
reads-Name s token name ps = grown_none ps (TargetReads s (plain (expr.Name token name))) (λ b r. r)

pub reads-Part : (s : Names) (token : ℕ) (name : Bor (List ℕ)) (l u : Bor Expr) (ps : List Reach) → Grown ps ps (TargetReads s (plain (expr.Part token name l u)))
unfolding plain TargetReads
reads-Part s token name l u ps = grown_none ps (TargetReads s (plain (expr.Part token name l u))) (λ b r. r)

pub reads-Literal : (s : Names) (token : ℕ) (n : Number) (ps : List Reach) → Grown ps ps (TargetReads s (plain (expr.Literal token n)))
unfolding plain TargetReads
reads-Literal s token n ps = grown_none ps (TargetReads s (plain (expr.Literal token n))) (λ b r. r)

pub reads-Unary : (s : Names) (op : Mark) (t : Bor Expr) (ps : List Reach) → Grown ps ps (TargetReads s (plain (expr.Unary op t)))
unfolding plain TargetReads
reads-Unary s op t ps = grown_none ps (TargetReads s (plain (expr.Unary op t))) (λ b r. r)

pub reads-Binary : (s : Names) (op : Mark) (l u : Bor Expr) (ps : List Reach) → Grown ps ps (TargetReads s (plain (expr.Binary op l u)))
unfolding plain TargetReads
reads-Binary s op l u ps = grown_none ps (TargetReads s (plain (expr.Binary op l u))) (λ b r. r)

pub reads-Cond : (s : Names) (x y z : Bor Expr) (ps : List Reach) → Grown ps ps (TargetReads s (plain (expr.Cond x y z)))
unfolding plain TargetReads
reads-Cond s x y z ps = grown_none ps (TargetReads s (plain (expr.Cond x y z))) (λ b r. r)

pub reads-Repeat : (s : Names) (n : Bor Expr) (ts : Bor (List Expr)) (ps : List Reach) → Grown ps ps (TargetReads s (plain (expr.Repeat n ts)))
unfolding TargetReads
reads-Repeat s n ts ps =
    let P : Tree → Type 0 = λ t. Grown ps ps (TargetReads s t) in
    subst P (sym (plain_repeat n ts)) (grown_none ps (TargetReads s (Repeat (plain n.now) (plain_list ts.now))) (λ b r. r))

pub reads-Cast : (s : Names) (signed : Bool) (t : Bor Expr) (ps : List Reach) → Grown ps ps (TargetReads s (plain (expr.Cast signed t)))
unfolding plain TargetReads
reads-Cast s signed t ps = grown_none ps (TargetReads s (plain (expr.Cast signed t))) (λ b r. r)

pub reads-Paren : (s : Names) (t : Bor Expr) (ps : List Reach) → Grown ps ps (TargetReads s (plain (expr.Paren t)))
unfolding plain TargetReads
reads-Paren s t ps = grown_none ps (TargetReads s (plain (expr.Paren t))) (λ b r. r)

pub record ReadsLeft (s : Names) (ts : List Expr) (i : ℕ) (start now : List Reach) : Type 0 where
  pub shaped : faults s (plain_list (drop i ts)) false ≡ None
  pub left : (end : List Reach) → Grown now end (TargetsRead s (plain_list (drop i ts))) → Grown start end (TargetsRead s (plain_list ts))

pub reads_start : (s : Names) (ts : List Expr) (start : List Reach) → faults s (plain_list ts) false ≡ None → ReadsLeft s ts 0 start start
reads_start s ts start h = record { shaped = h; left = λ end g. g }

pub reads_here : (s : Names) (ts : List Expr) (i : ℕ) (x : Expr) (start now : List Reach) → i < length ts → x ≡ get_or ts i x → ReadsLeft s ts i start now → fault s (plain x) false ≡ None
unfolding plain_list fault
reads_here s ts i x start now l e n =
    (none_parts (fault s (plain x) false) (faults s (plain_list (drop (i + 1) ts)) false) (sym (ap (λ z. faults s (plain_list z) false) (rest_is ts i x l e)) ∙ n.shaped)).0

pub reads_more : (s : Names) (ts : List Expr) (i : ℕ) (x : Expr) (start now next : List Reach) → i < length ts → x ≡ get_or ts i x → ReadsLeft s ts i start now
    → Grown now next (TargetReads s (plain x)) → ReadsLeft s ts (i + 1) start next
unfolding plain_list fault TargetReads
reads_more s ts i x start now next l e n g = record {
  shaped = (none_parts (fault s (plain x) false) (faults s (plain_list (drop (i + 1) ts)) false) (sym (ap (λ z. faults s (plain_list z) false) (rest_is ts i x l e)) ∙ n.shaped)).1;
  left = λ end h.
      let P : List Expr → Type 0 = λ z. Grown now end (TargetsRead s (plain_list z)) in
      n.left end (subst P (sym (rest_is ts i x l e))
      (grown_both now next end (TargetReads s (plain x)) (TargetsRead s (plain_list (drop (i + 1) ts))) (TargetsRead s (plain_list (x ∷ drop (i + 1) ts))) g h (λ b r. inl r) (λ b r. inr r) (λ b r. r)));
}

pub reads_done : (s : Names) (ts : List Expr) (i : ℕ) (start now : List Reach) → length ts ≤ i → ReadsLeft s ts i start now → Grown start now (TargetsRead s (plain_list ts))
unfolding plain_list TargetReads
reads_done s ts i start now l n =
    let P : List Expr → Type 0 = λ z. Grown now now (TargetsRead s (plain_list z)) in
    n.left now (subst P (sym (drop_all i ts l)) (grown_none now (TargetsRead s (plain_list [])) (λ b r. r)))

-- One combinational block: what it writes, and what it keeps.
use Rattle.std.proofs.Common.{◌≡◌, ◌∙◌, sym, ap, subst, ℕ, ◌++◌, inl, inr, Bool, true, false, not, ◌&&◌, ◌||◌, List, [], ◌∷◌, Option, refl}
use Rattle.std.specs.List.{slice_get}
use Rattle.std.specs.Prelude.{IfNone, IfSome}
use Rattle.std.proofs.lemmas.Bool.{and_parts, both_ways}
use Rattle.rr_syntax.specs.Tree.{Statement}
use Rattle.rr_expr.specs.declared.types.Bit.{Bit}
use Rattle.rr_expr.specs.Scopes.{Names}
use Rattle.rr_flat.specs.Latches.{known, kept, NoLatch}
use Rattle.rr_flat.specs.Reads.{writes}
use Rattle.rr_named_bits.specs.declared.piece.Reach.{Reach}
use Rattle.rr_named_bits.specs.declared.writes.Write.{Write}
use Rattle.rr_named_bits.specs.Lists.{covered, may}
use Rattle.rr_writers.specs.Assigned.{assigns}
use Rattle.rr_latch.specs.declared.early.Early.{Early}
use Rattle.rr_latch.specs.Notes.{is_shut, Noted, Unassigned}
use Rattle.rr_latch.specs.Paths.{assigned, counted, listed, Logged, Ran}
use Rattle.rr_latch.specs.Unassigned.{KeepsBit, ReadEarly}
use Rattle.rr_latch.proofs.Counting.{counted_writes}
use Rattle.rr_latch.proofs.Knowing.{ext, known_kept, keeps_early, no_latch}
use Rattle.rr_latch.proofs.Logs.{logged_both, or_true}
use Rattle.rr_writers.proofs.Entries.{is_same}

-- what is not assigned at its start, and is not shut, are the bits that it writes
pub record Begun (s : Names) (t : Statement) (rs : List Reach) (g o : Bit → Bool) : Type 0 where
  pub wrote : (b : Bit) → covered rs b ≡ writes true s t b
  pub left : (b : Bit) → g b ≡ kept s t b
  pub shut : (b : Bit) → o b ≡ not (writes true s t b)

pub begun : (later : Bool) (s : Names) (t : Statement) (old ws ys : List Write) (rs xs zs : List Reach) (f g p o : Bit → Bool) → old ≡ [] → ys ≡ ws → xs ≡ rs → zs ≡ rs → ((b : Bit) → f b ≡ true) → ((b : Bit) → p b ≡ true)
    → ((b : Bit) → may ws b ≡ (may old b || assigns later s t b)) → ((b : Bit) → covered rs b ≡ may ys b) → ((b : Bit) → g b ≡ (f b && not (covered xs b))) → ((b : Bit) → o b ≡ (p b && not (covered zs b)))
    → Begun s (counted later t) rs g o
unfolding may
begun later s t old ws ys rs xs zs f g p o e y x z h k w d m n = record {
  wrote = wrote;
  left = λ b. m b ∙ (ap (λ q. q && not (covered xs b)) (h b) ∙ ap not (ap (λ q. covered q b) x ∙ wrote b));
  shut = λ b. n b ∙ (ap (λ q. q && not (covered zs b)) (k b) ∙ ap not (ap (λ q. covered q b) z ∙ wrote b));
}
  where
    wrote : (b : Bit) → covered rs b ≡ writes true s (counted later t) b
    wrote b = d b ∙ (ap (λ q. may q b) y ∙ (w b ∙ (ap (λ q. may q b || assigns later s t b) e ∙ sym (counted_writes later s t b))))

-- the bits that are noted after it are those that it keeps
pub record Listing (s : Names) (t : Statement) (rs : List Reach) (new : Early) (h : Bit → Bool) : Type 0 where
  pub kept : (b : Bit) → listed new.bits.items b ≡ true → KeepsBit s t b
  pub all : (b : Bit) → KeepsBit s t b → listed new.bits.items b ≡ true
  pub left : new.bits.items ≡ [] → (b : Bit) → h b ≡ true
  pub closed : (b : Bit) → (h b || listed new.bits.items b) ≡ true
  pub shut : (b : Bit) → (is_shut new b || covered rs b) ≡ true

-- from none the list has exactly what has been shut
listed_is : (old new : Early) (b : Bit) → Logged old.bits.items new.bits.items (is_shut old) (is_shut new) → old.bits.items ≡ [] → listed new.bits.items b ≡ (not (is_shut old b) && is_shut new b)
listed_is old new b l e =
    let g : new.bits.items ≡ l.more = l.grown ∙ ap (λ z. z ++ l.more) e in
    ap (λ z. listed z b) g ∙ l.only b

not_false : (x : Bool) → not x ≡ true → x ≡ false
not_false true e = cc
not_false false e = refl

pub listing : (s : Names) (t : Statement) (rs : List Reach) (g : Bit → Bool) (now : List (List ℕ)) (a c : List Bit) (x y z : Early) → Begun s t rs g (is_shut x) → x.bits.items ≡ []
    → Ran (known s g t) g (assigned now) a c → Noted (ReadEarly s g t) x y → Noted (Unassigned now (λ b. covered rs b ≡ true)) y z → Listing s t rs z (assigned now)
unfolding listed
listing s t rs g now a c x y z n e r m w = record {
  kept = λ b k.
      let p = and_parts (not (is_shut x b)) (is_shut z b) (sym (is b) ∙ k) in
      elim (w.only b p.1) [
        | inl i ↦ elim (m.only b i) [ inl j ↦ absurd (both_ways (is_shut x b) (not_false (is_shut x b) p.0) j) | inr q ↦ keeps_early s t b (subst (early b) same q) ]
        | inr q ↦ record { written = sym (n.wrote b) ∙ q.0; kept = inr (sym (ends b) ∙ q.1) }
      ];
  all = all;
  left = λ none b. open_none none b (assigned now b) refl;
  closed = λ b. closed b (assigned now b) refl;
  shut = λ b. shut b (writes true s t b) refl;
}
  where
    same : g ≡ kept s t
    same = ext g (kept s t) n.left

    early : Bit → (Bit → Bool) → Type 0
    early b q = ReadEarly s q t b

    ends : (b : Bit) → assigned now b ≡ known s (kept s t) t b
    ends b = r.set b ∙ ap (λ q. known s q t b) same

    is : (b : Bit) → listed z.bits.items b ≡ (not (is_shut x b) && is_shut z b)
    is b = listed_is x z b (logged_both x.bits.items y.bits.items z.bits.items (is_shut x) (is_shut y) (is_shut z) m.log w.log m.keeps w.keeps) e

    -- a bit that it writes is listed where it is shut
    noted : (b : Bit) → writes true s t b ≡ true → is_shut z b ≡ true → listed z.bits.items b ≡ true
    noted b k q = is b ∙ (ap (λ v. not v && is_shut z b) (n.shut b ∙ ap not k) ∙ q)

    all : (b : Bit) → KeepsBit s t b → listed z.bits.items b ≡ true
    all b k = elim k.kept [
      | inl p ↦ noted b k.written (w.keeps b (m.all b (subst (early b) (sym same) p)))
      | inr q ↦ noted b k.written (w.all b (n.wrote b ∙ k.written, ends b ∙ q))
    ]

    written : (b : Bit) → assigned now b ≡ false → writes true s t b ≡ true
    written b q = go (writes true s t b) refl
      where
        go : (v : Bool) → writes true s t b ≡ v → writes true s t b ≡ true
        go true k = k
        go false k = absurd (both_ways (assigned now b) q (r.set b ∙ known_kept s g t b (n.left b ∙ ap not k)))

    left_listed : (b : Bit) → assigned now b ≡ false → listed z.bits.items b ≡ true
    left_listed b q = noted b (written b q) (w.all b (n.wrote b ∙ written b q, q))

    closed : (b : Bit) (v : Bool) → assigned now b ≡ v → (assigned now b || listed z.bits.items b) ≡ true
    closed b true q = ap (λ k. k || listed z.bits.items b) q
    closed b false q = ap (λ k. k || listed z.bits.items b) q ∙ left_listed b q

    open_none : z.bits.items ≡ [] → (b : Bit) (v : Bool) → assigned now b ≡ v → assigned now b ≡ true
    open_none none b true q = q
    open_none none b false q = let bad : false ≡ true = sym (ap (λ k. listed k b) none) ∙ left_listed b q in cc

    shut : (b : Bit) (v : Bool) → writes true s t b ≡ v → (is_shut z b || covered rs b) ≡ true
    shut b true q = ap (λ k. is_shut z b || k) (n.wrote b ∙ q) ∙ or_true (is_shut z b)
    shut b false q = ap (λ k. k || covered rs b) (w.keeps b (m.keeps b (n.shut b ∙ ap not q)))

-- the same of the lists and tables of the code
pub block_listed : (later : Bool) (s : Names) (t : Statement) (old ws ys : List Write) (rs us vs ns : List Reach) (f g p : Bit → Bool) (now : List (List ℕ)) (a c : List Bit) (x y z : Early) → old ≡ [] → ys ≡ ws → us ≡ rs → vs ≡ rs → ns ≡ rs
    → ((b : Bit) → f b ≡ true) → ((b : Bit) → p b ≡ true) → x.bits.items ≡ [] → ((b : Bit) → may ws b ≡ (may old b || assigns later s t b)) → ((b : Bit) → covered rs b ≡ may ys b) → ((b : Bit) → g b ≡ (f b && not (covered us b)))
    → ((b : Bit) → is_shut x b ≡ (p b && not (covered vs b))) → Ran (known s g (counted later t)) g (assigned now) a c → Noted (ReadEarly s g (counted later t)) x y → Noted (Unassigned now (λ b. covered ns b ≡ true)) y z
    → Listing s (counted later t) rs z (assigned now)
block_listed later s t old ws ys rs us vs ns f g p now a c x y z o q i j k h l e w d m n r v u =
    let P : List Reach → Type 0 = λ b. Noted (Unassigned now (λ d. covered b d ≡ true)) y z in
    listing s (counted later t) rs g now a c x y z (begun later s t old ws ys rs us vs f g p (is_shut x) o q i j h l w d m n) e r v (subst P k u)

-- the first bit of a list

pub first_listed : (o : Option Bit) (xs : List Bit) (P : Bit → Type 0) → o ≡ slice_get xs 0 → ((b : Bit) → listed xs b ≡ true → P b) → IfSome o P
unfolding listed
first_listed o [] P e h = rw e tt
first_listed o (x ∷ xs) P e h = rw e (h x (ap (λ z. z || listed xs x) (is_same x)))

pub first_none : (o : Option Bit) (xs : List Bit) (P : Type 0) → o ≡ slice_get xs 0 → (xs ≡ [] → P) → IfNone o P
first_none o [] P e h = rw e (h refl)
first_none o (x ∷ xs) P e h = rw e tt

pub none_kept : (s : Names) (t : Statement) (xs : List Bit) → ((b : Bit) → KeepsBit s t b → listed xs b ≡ true) → xs ≡ [] → NoLatch s t
unfolding listed
none_kept s t xs h e = no_latch s t (λ b k. let bad : false ≡ true = sym (ap (λ z. listed z b) e) ∙ h b k in cc)

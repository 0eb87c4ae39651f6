-- Lists of nodes that grow.
use Rattle.std.proofs.Common.{◌≡◌, ℕ, zero, suc, ◌+◌, ◌≤◌, ◌<◌, ◌⊎◌, inl, inr, List, [], ◌∷◌, ◌++◌, length, get_or, set, replicate, take, map, refl, ap, sym, ◌∙◌, subst, arith, length-append, Option, Some, None}
use Rattle.std.proofs.lemmas.Bool.{cases_eq, cases_lt}
use Rattle.std.proofs.lemmas.List.{get_or-set_other, get_or-set_same, get_or-replicate, get_or_past, length-replicate, length-set, get_or-map, length-map}
use Rattle.std.specs.Prelude.{Vec}
use Rattle.std.specs.declared.alloc.Global.{Global}
use Rattle.rr_expr.specs.declared.types.Bit.{Bit}
use Rattle.rr_flat.specs.declared.signal.Signal.{Signal}
use Rattle.rr_flat.specs.Signals.{no_signal}
use Rattle.rr_flat.specs.View.{plain_signal}
use Rattle.rr_flat.specs.View.{Design, plain_flat}
use Rattle.rr_sort.specs.Graphs.{Graph, Names, named, names_of}
use Rattle.rr_sort.proofs.Sorting.{get_old, get_new, get_take}
use Rattle.rr_order.specs.Nodes.{IsBit, bit_node, signal_node, In, Fits, IsRow, IsWritten, Joined, Added, Covered, Stamped, widths}

pub in_old : (xs : List ℕ) (y v : ℕ) → In v xs → In v (xs ++ y ∷ [])
in_old xs y v (i, (l, q)) = (i, (omega (arith, l, length-append xs (y ∷ [])), get_old xs y 0 i l ∙ q))

pub in_new : (xs : List ℕ) (y v : ℕ) → y ≡ v → In v (xs ++ y ∷ [])
in_new xs y v e = (length xs, (omega (arith, length-append xs (y ∷ [])), get_new xs y 0 (length xs) refl ∙ e))

pub in_back : (xs : List ℕ) (y v : ℕ) → In v (xs ++ y ∷ []) → In v xs ⊎ (y ≡ v)
in_back xs y v (i, (l, q)) = elim (cases_lt i (length xs)) [
  | inl m ↦ inl (i, (m, sym (get_old xs y 0 i m) ∙ q))
  | inr m ↦ inr (sym (get_new xs y 0 i (omega (arith, l, length-append xs (y ∷ [])))) ∙ q)
]

-- nodes of bits

pub added_none : (ws old : List ℕ) (P : Bit → Type 0) → ((b : Bit) → P b → ⊥) → Added ws old old P
added_none ws old P f = record { kept = λ w i. i; sound = λ w i. inl i; complete = λ b v p. absurd (f b p) }

pub added_push : (ws old : List ℕ) (node : ℕ) (bit : Bit) (P : Bit → Type 0) → IsBit ws bit → node ≡ bit_node ws bit → P bit → ((b : Bit) → P b → b ≡ bit) → Added ws old (old ++ node ∷ []) P
added_push ws old node bit P v e p f = record {
  kept = λ w i. in_old old node w i;
  sound = λ w i. elim (in_back old node w i) [ inl j ↦ inl j | inr q ↦ inr (bit, (v, (sym e ∙ q, p))) ];
  complete = λ b u q. in_new old node (bit_node ws b) (e ∙ ap (bit_node ws) (sym (f b q)));
}

pub added_both : (ws a b c : List ℕ) (P Q R : Bit → Type 0) → Added ws a b P → Added ws b c Q → ((x : Bit) → P x → R x) → ((x : Bit) → Q x → R x) → ((x : Bit) → R x → P x ⊎ Q x) → Added ws a c R
added_both ws a b c P Q R h k f g s = record {
  kept = λ w i. k.kept w (h.kept w i);
  sound = λ w i. elim (k.sound w i) [
    | inl j ↦ elim (h.sound w j) [ inl m ↦ inl m | inr m ↦ inr (m.0, (m.1.0, (m.1.1.0, f m.0 m.1.1.1))) ]
    | inr m ↦ inr (m.0, (m.1.0, (m.1.1.0, g m.0 m.1.1.1)))
  ];
  complete = λ x v r. elim (s x r) [ inl p ↦ k.kept (bit_node ws x) (h.complete x v p) | inr q ↦ k.complete x v q ];
}

pub added_same : (ws a b : List ℕ) (P R : Bit → Type 0) → Added ws a b P → ((x : Bit) → P x → R x) → ((x : Bit) → R x → P x) → Added ws a b R
added_same ws a b P R h f g = record {
  kept = h.kept;
  sound = λ w i. elim (h.sound w i) [ inl m ↦ inl m | inr m ↦ inr (m.0, (m.1.0, (m.1.1.0, f m.0 m.1.1.1))) ];
  complete = λ x v r. h.complete x v (g x r);
}

pub written_none : (ws : List ℕ) (P : Bit → Type 0) → ((b : Bit) → P b → ⊥) → IsWritten ws P []
written_none ws P f = record { sound = λ w i. absurd (omega (arith, i.1.0)); complete = λ b v p. absurd (f b p) }

pub written_more : (ws row new : List ℕ) (P Q R : Bit → Type 0) → IsWritten ws P row → Added ws row new Q → ((x : Bit) → P x → R x) → ((x : Bit) → Q x → R x) → ((x : Bit) → R x → P x ⊎ Q x) → IsWritten ws R new
written_more ws row new P Q R h k f g s = record {
  sound = λ w i. elim (k.sound w i) [
    | inl j ↦ let m = h.sound w j in (m.0, (m.1.0, (m.1.1.0, f m.0 m.1.1.1)))
    | inr m ↦ (m.0, (m.1.0, (m.1.1.0, g m.0 m.1.1.1)))
  ];
  complete = λ x v r. elim (s x r) [ inl p ↦ k.kept (bit_node ws x) (h.complete x v p) | inr q ↦ k.complete x v q ];
}

pub written_same : (ws row : List ℕ) (P R : Bit → Type 0) → IsWritten ws P row → ((x : Bit) → P x → R x) → ((x : Bit) → R x → P x) → IsWritten ws R row
written_same ws row P R h f g = record {
  sound = λ w i. let m = h.sound w i in (m.0, (m.1.0, (m.1.1.0, f m.0 m.1.1.1)));
  complete = λ x v r. h.complete x v (g x r);
}

-- an entry up to one place more

pub entry_more : (bits : List (Option Bit)) (k : ℕ) (x : Bit) → (i : ℕ) × ((i < k + 1) × (get_or bits i None ≡ Some x)) → ((i : ℕ) × ((i < k) × (get_or bits i None ≡ Some x))) ⊎ (get_or bits k None ≡ Some x)
entry_more bits k x (i, (l, q)) = elim (cases_eq i k) [ inl e ↦ inr (rw e at q) | inr e ↦ inl (i, (omega arith, q)) ]

-- rows with nodes of whole signals

fits_same : (ws : List ℕ) (P R : Bit → Type 0) (w : ℕ) → ((x : Bit) → P x → R x) → Fits ws P w → Fits ws R w
fits_same ws P R w f (inl m) = inl (m.0, (m.1.0, (m.1.1.0, f m.0 m.1.1.1)))
fits_same ws P R w f (inr m) = inr (m.0, (m.1.0, (m.1.1.0, λ b v e. f b (m.1.1.1 b v e))))

pub covered_added : (ws a b : List ℕ) (P R : Bit → Type 0) → Added ws a b P → ((x : Bit) → P x → R x) → ((x : Bit) → R x → P x) → Covered ws a b R
covered_added ws a b P R h f g = record {
  kept = h.kept;
  sound = λ w i. elim (h.sound w i) [ inl m ↦ inl m | inr m ↦ inr (inl (m.0, (m.1.0, (m.1.1.0, f m.0 m.1.1.1)))) ];
  complete = λ x v r. inl (h.complete x v (g x r));
}

pub covered_none : (ws old : List ℕ) (P : Bit → Type 0) → ((b : Bit) → P b → ⊥) → Covered ws old old P
covered_none ws old P f = record { kept = λ w i. i; sound = λ w i. inl i; complete = λ b v p. absurd (f b p) }

pub covered_both : (ws a b c : List ℕ) (P Q R : Bit → Type 0) → Covered ws a b P → Covered ws b c Q → ((x : Bit) → P x → R x) → ((x : Bit) → Q x → R x) → ((x : Bit) → R x → P x ⊎ Q x) → Covered ws a c R
covered_both ws a b c P Q R h k f g s = record {
  kept = λ w i. k.kept w (h.kept w i);
  sound = λ w i. elim (k.sound w i) [
    | inl j ↦ elim (h.sound w j) [ inl m ↦ inl m | inr m ↦ inr (fits_same ws P R w f m) ]
    | inr m ↦ inr (fits_same ws Q R w g m)
  ];
  complete = λ x v r. elim (s x r) [
    | inl p ↦ elim (h.complete x v p) [ inl m ↦ inl (k.kept (bit_node ws x) m) | inr m ↦ inr (k.kept (signal_node ws x.signal) m) ]
    | inr q ↦ k.complete x v q
  ];
}

pub covered_whole : (ws old : List ℕ) (s node : ℕ) (R : Bit → Type 0) → s < length ws → node ≡ signal_node ws s → ((b : Bit) → IsBit ws b → b.signal ≡ s → R b) → ((b : Bit) → R b → b.signal ≡ s) → Covered ws old (old ++ node ∷ []) R
covered_whole ws old s node R l e f g = record {
  kept = λ w i. in_old old node w i;
  sound = λ w i. elim (in_back old node w i) [ inl j ↦ inl j | inr q ↦ inr (inr (s, (l, (sym e ∙ q, f)))) ];
  complete = λ b v r. inr (in_new old node (signal_node ws b.signal) (e ∙ ap (signal_node ws) (sym (g b r))));
}

pub row_none : (ws : List ℕ) (P : Bit → Type 0) → ((b : Bit) → P b → ⊥) → IsRow ws P []
row_none ws P f = record { sound = λ w i. absurd (omega (arith, i.1.0)); complete = λ b v p. absurd (f b p) }

pub row_more : (ws row new : List ℕ) (P Q R : Bit → Type 0) → IsRow ws P row → Covered ws row new Q → ((x : Bit) → P x → R x) → ((x : Bit) → Q x → R x) → ((x : Bit) → R x → P x ⊎ Q x) → IsRow ws R new
row_more ws row new P Q R h k f g s = record {
  sound = λ w i. elim (k.sound w i) [ inl j ↦ fits_same ws P R w f (h.sound w j) | inr m ↦ fits_same ws Q R w g m ];
  complete = λ x v r. elim (s x r) [
    | inl p ↦ elim (h.complete x v p) [ inl m ↦ inl (k.kept (bit_node ws x) m) | inr m ↦ inr (k.kept (signal_node ws x.signal) m) ]
    | inr q ↦ k.complete x v q
  ];
}

pub row_same : (ws row : List ℕ) (P R : Bit → Type 0) → IsRow ws P row → ((x : Bit) → P x → R x) → ((x : Bit) → R x → P x) → IsRow ws R row
row_same ws row P R h f g = record { sound = λ w i. fits_same ws P R w f (h.sound w i); complete = λ x v r. h.complete x v (g x r) }

pub row_written : (ws row : List ℕ) (P R : Bit → Type 0) → IsWritten ws P row → ((x : Bit) → P x → R x) → ((x : Bit) → R x → P x) → IsRow ws R row
row_written ws row P R h f g = record {
  sound = λ w i. let m = h.sound w i in inl (m.0, (m.1.0, (m.1.1.0, f m.0 m.1.1.1)));
  complete = λ x v r. inl (h.complete x v (g x r));
}

-- the first elements of a list

take_count : (xs : List ℕ) (k : ℕ) → k ≤ length xs → length (take k xs) ≡ k
take_count xs zero l = refl
take_count [] (suc k) l = absurd (omega arith)
take_count (x ∷ xs) (suc k) l = let e = take_count xs k (omega arith) in omega (arith, e)

take_more : (xs : List ℕ) (k v : ℕ) → k < length xs → In v (take (k + 1) xs) → In v (take k xs) ⊎ (get_or xs k 0 ≡ v)
take_more xs k v l (i, (m, q)) =
    let a = take_count xs (k + 1) (omega arith) in
    let b = take_count xs k (omega arith) in
    elim (cases_lt i k) [
      | inl o ↦ inl (i, (omega (arith, b, o), get_take xs k i o ∙ (sym (get_take xs (k + 1) i (omega arith)) ∙ q)))
      | inr o ↦ let e : i ≡ k = omega (arith, a, m, o) in inr (sym (ap (λ (j : ℕ). get_or xs j 0) e) ∙ (sym (get_take xs (k + 1) i (omega (arith, e))) ∙ q))
    ]

take_back : (xs : List ℕ) (k v : ℕ) → k < length xs → In v (take k xs) → In v (take (k + 1) xs)
take_back xs k v l (i, (m, q)) =
    let a = take_count xs (k + 1) (omega arith) in
    let b = take_count xs k (omega arith) in
    (i, (omega (arith, a, b, m), get_take xs (k + 1) i (omega (arith, b, m)) ∙ (sym (get_take xs k i (omega (arith, b, m))) ∙ q)))

take_here : (xs : List ℕ) (k v : ℕ) → k < length xs → get_or xs k 0 ≡ v → In v (take (k + 1) xs)
take_here xs k v l q = (k, (omega (arith, take_count xs (k + 1) (omega arith)), get_take xs (k + 1) k (omega arith) ∙ q))

-- stamps

pub stamped_more : (old own nodes : List ℕ) (k v stamp : ℕ) → k < length nodes → get_or nodes k 0 ≡ v → v < length own → Stamped old own (take k nodes) stamp → Stamped old (set own v stamp) (take (k + 1) nodes) stamp
stamped_more old own nodes k v stamp l q m h = record {
  count = length-set own v stamp ∙ h.count;
  on = λ u i. elim (cases_eq u v) [
    | inl e ↦ ap (λ (j : ℕ). get_or (set own v stamp) j 0) e ∙ get_or-set_same own v stamp 0 m
    | inr e ↦ get_or-set_other own v u stamp 0 e ∙ (elim (take_more nodes k u l i) [ inl j ↦ h.on u j | inr j ↦ absurd (e (sym j ∙ q)) ])
  ];
  off = λ u. elim (cases_eq u v) [
    | inl e ↦ inl (take_here nodes k u l (q ∙ sym e))
    | inr e ↦ elim (h.off u) [ inl j ↦ inl (take_back nodes k u l j) | inr j ↦ inr (get_or-set_other own v u stamp 0 e ∙ j) ]
  ];
}

-- rows that get one name more

pub joined_more : (g h i : Graph) (nodes : List ℕ) (k v to : ℕ) → k < length nodes → get_or nodes k 0 ≡ v → v < length h → i ≡ set h v (named h v ++ to ∷ []) → Joined g h (take k nodes) to → Joined g i (take (k + 1) nodes) to
joined_more g h i nodes k v to l q m e j = subst (λ (x : Graph). Joined g x (take (k + 1) nodes) to) (sym e) (record {
  count = length-set h v (named h v ++ to ∷ []) ∙ j.count;
  kept = λ u w n. keeps u w (j.kept u w n);
  added = λ u n. elim (cases_eq u v) [
    | inl r ↦ rw (r, get_or-set_same h v (named h v ++ to ∷ []) [] m) (in_new (named h v) to to refl)
    | inr r ↦ keeps u to (j.added u (elim (take_more nodes k u l n) [ inl o ↦ o | inr o ↦ absurd (r (sym o ∙ q)) ]))
  ];
  only = λ u w n. elim (cases_eq u v) [
    | inl r ↦
        let n2 : In w (named h v ++ to ∷ []) = rw (r, get_or-set_same h v (named h v ++ to ∷ []) [] m) at n in
        elim (in_back (named h v) to w n2) [
          | inl o ↦ first u w (j.only u w (rw r o))
          | inr o ↦ inr (take_here nodes k u l (q ∙ sym r), sym o)
        ]
    | inr r ↦ first u w (j.only u w (rw (get_or-set_other h v u (named h v ++ to ∷ []) [] r) at n))
  ];
})
  where
    keeps : (u w : ℕ) → Names h u w → Names (set h v (named h v ++ to ∷ [])) u w
    keeps u w n = elim (cases_eq u v) [
      | inl r ↦ let n2 : In w (named h v) = rw r at n in rw (r, get_or-set_same h v (named h v ++ to ∷ []) [] m) (in_old (named h v) to w n2)
      | inr r ↦ rw (get_or-set_other h v u (named h v ++ to ∷ []) [] r) n
    ]

    first : (u w : ℕ) → Names g u w ⊎ (In u (take k nodes) × (w ≡ to)) → Names g u w ⊎ (In u (take (k + 1) nodes) × (w ≡ to))
    first u w (inl n) = inl n
    first u w (inr n) = inr (take_back nodes k u l n.0, n.1)

pub map_push : (vs : List (Vec ℕ Global)) (x : Vec ℕ Global) → map names_of (vs ++ x ∷ []) ≡ map names_of vs ++ x.items ∷ []
map_push [] x = refl
map_push (v ∷ vs) x = ap (λ (ws : Graph). v.items ∷ ws) (map_push vs x)

-- the width of a signal

pub width_flat : (d : Design) (xs : List Signal) (id : ℕ) (z : Signal) → id < length d.signals → xs ≡ d.signals → get_or (widths (plain_flat d)) id 0 ≡ (get_or xs id z).width
width_flat d xs id z l e =
    get_or-map (λ s. s.width) (map plain_signal d.signals) id no_signal 0 (omega (arith, l, length-map d.signals plain_signal))
    ∙ (ap (λ s. s.width) (get_or-map plain_signal d.signals id z no_signal l) ∙ ap (λ (ys : List Signal). (get_or ys id z).width) (sym e))

pub width_count : (d : Design) → length (widths (plain_flat d)) ≡ length d.signals
width_count d = length-map (map plain_signal d.signals) (λ s. s.width) ∙ length-map d.signals plain_signal

pub added_written : (ws old new : List ℕ) (P : Bit → Type 0) → old ≡ [] → Added ws old new P → IsWritten ws P new
added_written ws old new P e h = record {
  sound = λ w i. elim (h.sound w i) [ inl j ↦ absurd (omega (arith, j.1.0, ap length e)) | inr m ↦ m ];
  complete = h.complete;
}

pub row_valid : (ws row : List ℕ) (P R : Bit → Type 0) → IsRow ws P row → ((x : Bit) → IsBit ws x → P x → R x) → ((x : Bit) → IsBit ws x → R x → P x) → IsRow ws R row
row_valid ws row P R h f g = record {
  sound = λ w i. elim (h.sound w i) [
    | inl m ↦ inl (m.0, (m.1.0, (m.1.1.0, f m.0 m.1.0 m.1.1.1)))
    | inr m ↦ inr (m.0, (m.1.0, (m.1.1.0, λ b v e. f b v (m.1.1.1 b v e))))
  ];
  complete = λ x v r. h.complete x v (g x v r);
}

-- a list of zeros has a zero at each place, and past its end
abbrev zeros : ℕ → List ℕ
zeros n = replicate n 0

pub none_marked : (n v : ℕ) → get_or (zeros n) v 0 ≡ zero
none_marked n v = elim (cases_lt v n) [
  | inl l ↦ get_or-replicate n v 0 0 l
  | inr l ↦ get_or_past (zeros n) v 0 (omega (arith, length-replicate {A = ℕ} n 0))
]

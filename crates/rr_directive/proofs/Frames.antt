-- Texts that are being read, the innermost first.
use Rattle.std.proofs.Common.{ℕ, ◌≡◌, ◌≢◌, ◌<◌, ◌||◌, List, [], ◌∷◌, ◌++◌, length, reverse, get_or, set, Bool, true, false, Option, Some, refl, ap, ◌∙◌, sym, subst, arith, inl, inr}
use Rattle.std.specs.List.{AllZip, slice_get}
use Rattle.std.specs.Str.{bytes_eq}
use Rattle.std.proofs.lemmas.List.{append_assoc, reverse-append, length-set, get_or-set_same, get_or-set_other}
use Rattle.std.proofs.lemmas.Option.{slice_get_within}
use Rattle.std.proofs.lemmas.Bool.{cases_Bool, cases_eq}
use Rattle.std.proofs.lemmas.Slice.Eq.{bytes_eq-Decides}
use Rattle.rr_directive.specs.declared.fault.Wrong.{Wrong}
use Rattle.rr_directive.specs.declared.using.Frame.{Frame}
use Rattle.rr_directive.specs.Expand.{Item, Byte, Use, Definition, Step, Gives, Uses, Halt, Whole, Failed, Cut, Reads, ended as text_ended, cut, cut_in_use, byte, unknown, loops, halts, uses, text_of, is_expanding}
use Rattle.rr_directive.specs.View.{Left, left_names, ReadsOn, ended, halted, passed, AreLeft, IsLeft, IsUnfit, undefined, within, Opens}

-- ---- what is left

abbrev pub behind : Left → List Item → Left
behind l items = record { name = l.name; rest = items }

pub on_byte : (ds : List Definition) (l : Left) (ls : List Left) (b : ℕ) (steps : List Step) (halt : Halt) → ReadsOn ds (l ∷ ls) steps halt → ReadsOn ds (behind l (Byte b ∷ l.rest) ∷ ls) (Gives b ∷ steps) halt
on_byte ds l ls b steps halt (halted k ks s2 h2 n r) = halted (behind l (Byte b ∷ l.rest)) ls (Gives b ∷ steps) halt n (byte (l.name ∷ left_names ls) b l.rest steps halt r)
on_byte ds l ls b steps halt (passed k ks inner more h2 r t) = passed (behind l (Byte b ∷ l.rest)) ls (Gives b ∷ inner) more halt (byte (l.name ∷ left_names ls) b l.rest inner Whole r) t

inner_use : (ds : List Definition) (l : Left) (ls : List Left) (name : List ℕ) (text : List Item) (inner steps : List Step) (halt : Halt) → text_of name ds ≡ Some text → is_expanding (l.name ∷ left_names ls) name ≡ false →
    Reads ds (name ∷ (l.name ∷ left_names ls)) text inner Whole → ReadsOn ds (l ∷ ls) steps halt → ReadsOn ds (behind l (Use name ∷ l.rest) ∷ ls) (Uses ∷ (inner ++ steps)) halt
inner_use ds l ls name text inner steps halt e f r (halted k ks s2 h2 n t) =
    halted (behind l (Use name ∷ l.rest)) ls (Uses ∷ (inner ++ steps)) halt n (uses (l.name ∷ left_names ls) name l.rest text inner steps halt e f r t)
inner_use ds l ls name text inner steps halt e f r (passed k ks own more h2 t m) =
    subst (λ (xs : List Step). ReadsOn ds (behind l (Use name ∷ l.rest) ∷ ls) (Uses ∷ xs) halt) (append_assoc inner own more)
    (passed (behind l (Use name ∷ l.rest)) ls (Uses ∷ (inner ++ own)) more halt (uses (l.name ∷ left_names ls) name l.rest text inner own Whole e f r t) m)

pub on_use : (ds : List Definition) (l : Left) (ls : List Left) (name : List ℕ) (text : List Item) (steps : List Step) (halt : Halt) → text_of name ds ≡ Some text → is_expanding (l.name ∷ left_names ls) name ≡ false →
    ReadsOn ds (record { name = name; rest = text } ∷ (l ∷ ls)) steps halt → ReadsOn ds (behind l (Use name ∷ l.rest) ∷ ls) (Uses ∷ steps) halt
on_use ds l ls name text steps halt e f (halted k ks s2 h2 n r) =
    halted (behind l (Use name ∷ l.rest)) ls (Uses ∷ steps) halt n (halts (l.name ∷ left_names ls) name l.rest text steps halt e f n r)
on_use ds l ls name text steps halt e f (passed k ks inner more h2 r t) = inner_use ds l ls name text inner more halt e f r t

pub on_end : (ds : List Definition) (l : Left) (ls : List Left) (steps : List Step) (halt : Halt) → l.rest ≡ [] → ReadsOn ds ls steps halt → ReadsOn ds (l ∷ ls) steps halt
on_end ds l ls steps halt e t = passed l ls [] steps halt (subst (λ (xs : List Item). Reads ds (l.name ∷ left_names ls) xs [] Whole) (sym e) (text_ended (l.name ∷ left_names ls))) t

nothing_left : (ds : List Definition) (steps : List Step) (halt : Halt) → ReadsOn ds [] steps halt → (steps ≡ []) × (halt ≡ Whole)
nothing_left ds steps halt ended = (refl, refl)

pub at_first : (ds : List Definition) (name : List ℕ) (text : List Item) (steps : List Step) (halt : Halt) → text_of name ds ≡ Some text →
    ReadsOn ds (record { name = name; rest = text } ∷ []) steps halt → Reads ds [] (Use name ∷ []) (Uses ∷ steps) halt
at_first ds name text steps halt e (halted k ks s2 h2 n r) = halts [] name [] text steps halt e refl n r
at_first ds name text steps halt e (passed k ks inner more h2 r t) =
    let z = nothing_left ds more halt t in
    subst (λ (h : Halt). Reads ds [] (Use name ∷ []) (Uses ∷ (inner ++ more)) h) (sym z.1)
    (subst (λ (xs : List Step). Reads ds [] (Use name ∷ []) (Uses ∷ (inner ++ xs)) Whole) (sym z.0) (uses [] name [] text inner [] Whole e refl r (text_ended [])))

-- ---- faults

not_whole : (w : Wrong) → Failed w ≢ Whole
not_whole w e = cc

cut_not_whole : Cut ≢ Whole
cut_not_whole e = cc

pub unfit_first : (ds : List Definition) (name : List ℕ) (w : Wrong) → IsUnfit ds name [] w → Reads ds [] (Use name ∷ []) (Uses ∷ []) (Failed w)
unfit_first ds name w (undefined e) = unknown [] name [] e
unfit_first ds name w (within text e h) = loops [] name [] text e h

pub unfit_within : (ds : List Definition) (l : Left) (ls : List Left) (name : List ℕ) (rest : List Item) (w : Wrong) → IsUnfit ds name (behind l rest ∷ ls) w → ReadsOn ds (behind l (Use name ∷ rest) ∷ ls) (Uses ∷ []) (Failed w)
unfit_within ds l ls name rest w (undefined e) = halted (behind l (Use name ∷ rest)) ls (Uses ∷ []) (Failed w) (not_whole w) (unknown (l.name ∷ left_names ls) name rest e)
unfit_within ds l ls name rest w (within text e h) = halted (behind l (Use name ∷ rest)) ls (Uses ∷ []) (Failed w) (not_whole w) (loops (l.name ∷ left_names ls) name rest text e h)

pub full_first : (ds : List Definition) (name : List ℕ) → Reads ds [] (Use name ∷ []) (Uses ∷ []) Cut
full_first ds name = cut_in_use [] name []

pub full_use : (ds : List Definition) (l : Left) (ls : List Left) (name : List ℕ) (rest : List Item) → ReadsOn ds (behind l (Use name ∷ rest) ∷ ls) (Uses ∷ []) Cut
full_use ds l ls name rest = halted (behind l (Use name ∷ rest)) ls (Uses ∷ []) Cut cut_not_whole (cut_in_use (l.name ∷ left_names ls) name rest)

pub full_byte : (ds : List Definition) (l : Left) (ls : List Left) (b : ℕ) (rest : List Item) → ReadsOn ds (behind l (Byte b ∷ rest) ∷ ls) (Gives b ∷ []) Cut
full_byte ds l ls b rest = halted (behind l (Byte b ∷ rest)) ls (Gives b ∷ []) Cut cut_not_whole (byte (l.name ∷ left_names ls) b rest [] Cut (cut (l.name ∷ left_names ls) rest))

-- ---- frames

pub reverse_push : (fs : List Frame) (f : Frame) → reverse (fs ++ (f ∷ [])) ≡ f ∷ reverse fs
reverse_push fs f = reverse-append fs (f ∷ [])

pub pushed : (names : List (List ℕ)) (fs gs : List Frame) (f : Frame) (l : Left) (ls : List Left) → gs ≡ fs ++ (f ∷ []) → IsLeft names f l → AreLeft names fs ls → AreLeft names gs (l ∷ ls)
pushed names fs gs f l ls e h t = subst (λ (xs : List Frame). AllZip (IsLeft names) xs (l ∷ ls)) (sym (ap reverse e ∙ reverse_push fs f)) (h, t)

-- the innermost one, and the others
pub popped : (names : List (List ℕ)) (fs gs : List Frame) (f : Frame) (ls : List Left) → fs ≡ gs ++ (f ∷ []) → AreLeft names fs ls →
    (l : Left) × ((ms : List Left) × ((ls ≡ l ∷ ms) × (IsLeft names f l × AreLeft names gs ms)))
popped names fs gs f [] e h = let k : AllZip (IsLeft names) (f ∷ reverse gs) [] = subst (λ (xs : List Frame). AllZip (IsLeft names) xs []) (ap reverse e ∙ reverse_push gs f) h in absurd k
popped names fs gs f (l ∷ ls) e h =
    let k : AllZip (IsLeft names) (f ∷ reverse gs) (l ∷ ls) = subst (λ (xs : List Frame). AllZip (IsLeft names) xs (l ∷ ls)) (ap reverse e ∙ reverse_push gs f) h in
    (l, (ls, (refl, (k.0, k.1))))

pub none_left : (names : List (List ℕ)) (fs : List Frame) (ls : List Left) → fs ≡ [] → AreLeft names fs ls → ls ≡ []
none_left names fs [] e h = refl
none_left names fs (l ∷ ls) e h = let k : AllZip (IsLeft names) [] (l ∷ ls) = subst (λ (xs : List Frame). AllZip (IsLeft names) xs (l ∷ ls)) (ap reverse e) h in absurd k

-- ---- flags

pub eq_same : (x y : List ℕ) → bytes_eq x y ≡ true → x ≡ y
eq_same x y h = (bytes_eq-Decides x y).0 h

pub eq_refl : (x : List ℕ) → bytes_eq x x ≡ true
eq_refl x = (bytes_eq-Decides x x).1 refl

pub same_some : (o : Option (List ℕ)) (x y : List ℕ) → o ≡ Some x → o ≡ Some y → x ≡ y
same_some o x y a b = cc

abbrev pub AreDistinct : List (List ℕ) → Type 0
AreDistinct names = (i j : ℕ) (name : List ℕ) → slice_get names i ≡ Some name → slice_get names j ≡ Some name → i ≡ j

pub other_name : (names : List (List ℕ)) (i j : ℕ) (n m : List ℕ) → AreDistinct names → slice_get names i ≡ Some n → slice_get names j ≡ Some m → i ≢ j → bytes_eq m n ≡ false
other_name names i j n m d a b k = elim (cases_Bool (bytes_eq m n)) [
  | inl h ↦ absurd (k (d i j n a (b ∙ ap Some (eq_same m n h))))
  | inr h ↦ h
]

pub opens_begun : (names : List (List ℕ)) (flags new : List Bool) (ns : List (List ℕ)) (number : ℕ) (name : List ℕ) → AreDistinct names → Opens names flags ns → slice_get names number ≡ Some name →
    is_expanding ns name ≡ false → new ≡ set flags number true → Opens names new (name ∷ ns)
opens_begun names flags new ns number name d o s f e = record {
  same = ap length e ∙ (length-set flags number true ∙ o.same);
  once = (f, o.once);
  set = λ i n k. elim (cases_eq i number) [
    | inl q ↦
        let w : number < length flags = omega (arith, o.same, slice_get_within names number name s) in
        let m : name ≡ n = same_some (slice_get names number) name n s (subst (λ (j : ℕ). slice_get names j ≡ Some n) q k) in
        let a : get_or new i false ≡ true = ap (λ (xs : List Bool). get_or xs i false) e ∙ (ap (λ (j : ℕ). get_or (set flags number true) j false) q ∙ get_or-set_same flags number true false w) in
        let b : bytes_eq name n ≡ true = subst (λ (x : List ℕ). bytes_eq name x ≡ true) m (eq_refl name) in
        a ∙ sym (ap (λ (t : Bool). t || is_expanding ns n) b)
    | inr q ↦
        let a : get_or new i false ≡ get_or flags i false = ap (λ (xs : List Bool). get_or xs i false) e ∙ get_or-set_other flags number i true false q in
        let b : bytes_eq name n ≡ false = other_name names i number n name d k s q in
        a ∙ (o.set i n k ∙ sym (ap (λ (t : Bool). t || is_expanding ns n) b))
  ];
}

pub opens_ended : (names : List (List ℕ)) (flags new : List Bool) (ns : List (List ℕ)) (number : ℕ) (name : List ℕ) → AreDistinct names → Opens names flags (name ∷ ns) → slice_get names number ≡ Some name →
    new ≡ set flags number false → Opens names new ns
opens_ended names flags new ns number name d o s e = record {
  same = ap length e ∙ (length-set flags number false ∙ o.same);
  once = o.once.1;
  set = λ i n k. elim (cases_eq i number) [
    | inl q ↦
        let w : number < length flags = omega (arith, o.same, slice_get_within names number name s) in
        let m : name ≡ n = same_some (slice_get names number) name n s (subst (λ (j : ℕ). slice_get names j ≡ Some n) q k) in
        let a : get_or new i false ≡ false = ap (λ (xs : List Bool). get_or xs i false) e ∙ (ap (λ (j : ℕ). get_or (set flags number false) j false) q ∙ get_or-set_same flags number false false w) in
        a ∙ sym (subst (λ (x : List ℕ). is_expanding ns x ≡ false) m o.once.0)
    | inr q ↦
        let a : get_or new i false ≡ get_or flags i false = ap (λ (xs : List Bool). get_or xs i false) e ∙ get_or-set_other flags number i false false q in
        let b : bytes_eq name n ≡ false = other_name names i number n name d k s q in
        a ∙ (o.set i n k ∙ ap (λ (t : Bool). t || is_expanding ns n) b)
  ];
}

pub no_frames : (names : List (List ℕ)) (fs : List Frame) → fs ≡ [] → AreLeft names fs []
no_frames names fs e = subst (λ (xs : List Frame). AllZip (IsLeft names) (reverse xs) []) (sym e) tt

pub empty_frames : (fs : List Frame) → length fs ≡ 0 → fs ≡ []
empty_frames [] e = refl
empty_frames (f ∷ fs) e = absurd (omega arith)

-- Files that are written one after the other.
use Rattle.std.proofs.Common.{◌≡◌, ◌∙◌, ◌⊎◌, inl, inr, ℕ, ◌+◌, ◌<◌, ◌≤◌, zero, suc, List, [], ◌∷◌, length, map, take, refl, sym, ap, subst, get_or, arith, Option}
use Rattle.std.specs.Option.{option_map}
use Rattle.std.proofs.lemmas.List.{get_or-map, length-map}
use Rattle.rr_edge.specs.Held.{Held, put}
use Rattle.rr_endings.specs.declared.file.File.{File as RustFile}
use Rattle.rr_endings.specs.Found.{File}
use Rattle.rr_endings.specs.Texts.{write_fault_text}
use Rattle.rr_endings.specs.Views.{file_of}
use Rattle.rr_effects.specs.Delivery.{with_file, with_files, file_at, no_file, StopsAtWrite}

one_more : (files : List File) (k : ℕ) (told : Option Held) → k < length files → with_files told (take (suc k) files) ≡ with_file (with_files told (take k files)) (file_at files k)
one_more [] k told h = absurd (omega (arith, h))
one_more (file ∷ files) zero told h = refl
one_more (file ∷ files) (suc k) told h = one_more files k (with_file told file) (omega (arith, h))

-- the file with a number, as plain data
pub file_there : (files : List RustFile) (k : ℕ) (file : RustFile) → k < length files → file ≡ get_or files k file → file_at (map file_of files) k ≡ file_of file
file_there files k file within is = get_or-map file_of files k file no_file within ∙ ap file_of (sym is)

pub plain_within : (files : List RustFile) (k : ℕ) → k < length files → k < length (map file_of files)
plain_within files k h = omega (arith, length-map files file_of)

-- a write that succeeds makes one file more whole
pub more_written : (start old new : Option Held) (files : List RustFile) (k : ℕ) (file : RustFile) → k < length files → file ≡ get_or files k file → old ≡ with_files start (take k (map file_of files))
    → new ≡ option_map (λ held. put held (file_of file).0 (file_of file).1) old → new ≡ with_files start (take (k + 1) (map file_of files))
more_written start old new files k file within is before now =
    let more : suc k ≡ k + 1 = omega arith in
    subst (λ (n : ℕ). new ≡ with_files start (take n (map file_of files))) more (now ∙ ap (λ (told : Option Held). with_file told (file_of file)) before
    ∙ ap (λ (f : File). with_file (with_files start (take k (map file_of files))) f) (sym (file_there files k file within is))
    ∙ sym (one_more (map file_of files) k start (plain_within files k within)))

-- a write that fails leaves the name as it was or with a front of its bytes
pub stopped_at : (start old new : Option Held) (files : List RustFile) (k : ℕ) (file : RustFile) → k < length files → file ≡ get_or files k file → old ≡ with_files start (take k (map file_of files))
    → (new ≡ old) ⊎ ((n : ℕ) × (new ≡ option_map (λ held. put held (file_of file).0 (take n (file_of file).1)) old)) → StopsAtWrite start new (map file_of files) k
stopped_at start old new files k file within is before (inl same) = inl (same ∙ before)
stopped_at start old new files k file within is before (inr (n, now)) = inr (
  n,
  now ∙ ap (λ (told : Option Held). with_file told ((file_of file).0, take n (file_of file).1)) before
      ∙ ap (λ (f : File). with_file (with_files start (take k (map file_of files))) (f.0, take n f.1)) (sym (file_there files k file within is)),
)

whole : (files : List File) (k : ℕ) → length files ≤ k → take k files ≡ files
whole [] zero h = refl
whole [] (suc k) h = refl
whole (file ∷ files) zero h = absurd (omega (arith, h))
whole (file ∷ files) (suc k) h = ap (λ (fs : List File). file ∷ fs) (whole files k (omega (arith, h)))

-- at the end all files are whole
pub all_written : (start now : Option Held) (files : List RustFile) (k : ℕ) → length files ≤ k → now ≡ with_files start (take k (map file_of files)) → now ≡ with_files start (map file_of files)
all_written start now files k h is = is ∙ ap (λ (fs : List File). with_files start fs) (whole (map file_of files) k (omega (arith, h, length-map files file_of)))

-- the text of the fault of the file with a number
pub tells_fault : (files : List RustFile) (k : ℕ) (file : RustFile) (text : List ℕ) → k < length files → file ≡ get_or files k file → text ≡ write_fault_text (file_of file).0
    → text ≡ write_fault_text (file_at (map file_of files) k).0
tells_fault files k file text within is says = says ∙ ap (λ (f : File). write_fault_text f.0) (sym (file_there files k file within is))

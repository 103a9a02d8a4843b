-- Modules with their texts and trees, the first of them in the file of this number.
use Rattle.std.proofs.Common.{◌≡◌, ℕ, zero, suc, ◌+◌, ◌-◌, ◌<◌, ◌≤◌, min, List, [], ◌∷◌, ◌++◌, length, take, drop, get_or, map, refl, ap, sym, ◌∙◌, arith}
use Rattle.std.specs.Prelude.{Vec, slice_get}
use Rattle.std.specs.declared.alloc.Global.{Global}
use Rattle.raw_trees.specs.Plain.{PlainModule}
use Rattle.raw_trees.specs.Views.{view_module}
use Rattle.raw_trees.specs.declared.raw_module.RawModule.{RawModule}
use Rattle.cell_loading.specs.ReadModules.{ReadModule, read_text, read_file}
use Rattle.cell_loading.specs.Loaded.{reads_of}
use Rattle.sink_lines.proofs.Lists.{take-min, drop-min, take-rest}

abbrev pub read : ℕ → Vec ℕ Global → RawModule → ReadModule
read file text tree = record { file = file; text = text.items; raw = view_module tree }

pub reads-none : (file : ℕ) (texts : List (Vec ℕ Global)) → reads_of file texts [] ≡ []
reads-none file [] = refl
reads-none file (text ∷ texts) = refl

-- the next file
next_file : (file k : ℕ) → file + 1 + k ≡ file + suc k
next_file file k = omega arith

-- one more tree
pub reads-more : (file : ℕ) (texts : List (Vec ℕ Global)) (trees : List RawModule) (k : ℕ) (text : Vec ℕ Global) (tree : RawModule) → length trees ≡ k → k < length texts → text ≡ get_or texts k text
    → reads_of file texts (trees ++ tree ∷ []) ≡ reads_of file texts trees ++ read (file + k) text tree ∷ []
reads-more file [] trees k text tree many lt is = absurd (omega arith)
reads-more file (t ∷ texts) [] zero text tree many lt is =
    let here : file ≡ file + 0 = omega arith in
    ap (λ (v : Vec ℕ Global). read file v tree ∷ reads_of (file + 1) texts []) (sym is) ∙ ap (λ (rs : List ReadModule). read file text tree ∷ rs) (reads-none (file + 1) texts)
    ∙ ap (λ (n : ℕ). read n text tree ∷ []) here
reads-more file (t ∷ texts) [] (suc k) text tree many lt is = absurd (omega arith)
reads-more file (t ∷ texts) (m ∷ trees) zero text tree many lt is = absurd (omega arith)
reads-more file (t ∷ texts) (m ∷ trees) (suc k) text tree many lt is =
    ap (λ (rs : List ReadModule). read file t m ∷ rs)
    (reads-more (file + 1) texts trees k text tree (omega arith) (omega arith) is ∙ ap (λ (n : ℕ). reads_of (file + 1) texts trees ++ read n text tree ∷ []) (next_file file k))

pub take-reads : (n file : ℕ) (texts : List (Vec ℕ Global)) (trees : List RawModule) → take n (reads_of file texts trees) ≡ reads_of file (take n texts) (take n trees)
take-reads zero file texts trees = refl
take-reads (suc n) file [] trees = refl
take-reads (suc n) file (t ∷ texts) [] = refl
take-reads (suc n) file (t ∷ texts) (m ∷ trees) = ap (λ (rs : List ReadModule). read file t m ∷ rs) (take-reads n (file + 1) texts trees)

pub drop-reads : (n file : ℕ) (texts : List (Vec ℕ Global)) (trees : List RawModule) → drop n (reads_of file texts trees) ≡ reads_of (file + n) (drop n texts) (drop n trees)
drop-reads zero file texts trees = let here : file ≡ file + 0 = omega arith in ap (λ (f : ℕ). reads_of f texts trees) here
drop-reads (suc n) file [] trees = refl
drop-reads (suc n) file (t ∷ texts) [] = sym (reads-none (file + suc n) (drop n texts))
drop-reads (suc n) file (t ∷ texts) (m ∷ trees) =
    drop-reads n (file + 1) texts trees ∙ ap (λ (f : ℕ). reads_of f (drop n texts) (drop n trees)) (next_file file n)

-- only the trees
pub raws-of : (file : ℕ) (texts : List (Vec ℕ Global)) (trees : List RawModule) → length texts ≡ length trees → map (λ (r : ReadModule). r.raw) (reads_of file texts trees) ≡ map view_module trees
raws-of file [] [] same = refl
raws-of file [] (m ∷ trees) same = absurd (omega arith)
raws-of file (t ∷ texts) [] same = absurd (omega arith)
raws-of file (t ∷ texts) (m ∷ trees) same = ap (λ (rs : List PlainModule). view_module m ∷ rs) (raws-of (file + 1) texts trees (omega arith))

pub length-reads : (file : ℕ) (texts : List (Vec ℕ Global)) (trees : List RawModule) → length texts ≡ length trees → length (reads_of file texts trees) ≡ length trees
length-reads file [] [] same = refl
length-reads file [] (m ∷ trees) same = absurd (omega arith)
length-reads file (t ∷ texts) [] same = absurd (omega arith)
length-reads file (t ∷ texts) (m ∷ trees) same = ap (λ (n : ℕ). suc n) (length-reads (file + 1) texts trees (omega arith))

-- the text of a module, and the number of its file

pub text_at : (file : ℕ) (texts : List (Vec ℕ Global)) (trees : List RawModule) (k : ℕ) (text : Vec ℕ Global) → length texts ≡ length trees → k < length texts → text ≡ get_or texts k text
    → read_text (slice_get (reads_of file texts trees) k) ≡ text.items
text_at file [] trees k text same lt is = absurd (omega arith)
text_at file (t ∷ texts) [] k text same lt is = absurd (omega arith)
text_at file (t ∷ texts) (m ∷ trees) zero text same lt is = ap (λ (v : Vec ℕ Global). v.items) (sym is)
text_at file (t ∷ texts) (m ∷ trees) (suc k) text same lt is = text_at (file + 1) texts trees k text (omega arith) (omega arith) is

pub no_text_at : (file : ℕ) (texts : List (Vec ℕ Global)) (trees : List RawModule) (k : ℕ) → length texts ≤ k → read_text (slice_get (reads_of file texts trees) k) ≡ []
no_text_at file [] trees k past = refl
no_text_at file (t ∷ texts) [] k past = refl
no_text_at file (t ∷ texts) (m ∷ trees) zero past = absurd (omega arith)
no_text_at file (t ∷ texts) (m ∷ trees) (suc k) past = no_text_at (file + 1) texts trees k (omega arith)

pub file_at : (file : ℕ) (texts : List (Vec ℕ Global)) (trees : List RawModule) (k : ℕ) → length texts ≡ length trees → k < length texts → read_file (slice_get (reads_of file texts trees) k) ≡ file + k
file_at file [] trees k same lt = absurd (omega arith)
file_at file (t ∷ texts) [] k same lt = absurd (omega arith)
file_at file (t ∷ texts) (m ∷ trees) zero same lt = omega arith
file_at file (t ∷ texts) (m ∷ trees) (suc k) same lt = file_at (file + 1) texts trees k (omega arith) (omega arith) ∙ next_file file k

pub no_file_at : (file : ℕ) (texts : List (Vec ℕ Global)) (trees : List RawModule) (k : ℕ) → length texts ≤ k → read_file (slice_get (reads_of file texts trees) k) ≡ 0
no_file_at file [] trees k past = refl
no_file_at file (t ∷ texts) [] k past = refl
no_file_at file (t ∷ texts) (m ∷ trees) zero past = absurd (omega arith)
no_file_at file (t ∷ texts) (m ∷ trees) (suc k) past = no_file_at (file + 1) texts trees k (omega arith)

-- the first ones, and those after them

pub first_reads : (file : ℕ) (texts : List (Vec ℕ Global)) (trees : List RawModule) (count n : ℕ) → length texts ≡ length trees → n ≡ min count (length trees)
    → reads_of file (take n texts) (take n trees) ≡ take count (reads_of file texts trees)
first_reads file texts trees count n same is =
    let many = length-reads file texts trees same in
    sym (take-reads n file texts trees) ∙ take-min (reads_of file texts trees) count n (omega (arith, many, is))

pub later_reads : (file : ℕ) (texts : List (Vec ℕ Global)) (trees : List RawModule) (count n : ℕ) → length texts ≡ length trees → n ≡ min count (length trees)
    → reads_of (file + n) (take (length texts - n) (drop n texts)) (take (length trees - n) (drop n trees)) ≡ drop count (reads_of file texts trees)
later_reads file texts trees count n same is =
    let many = length-reads file texts trees same in
    ap (λ (ts : List (Vec ℕ Global)). reads_of (file + n) ts (take (length trees - n) (drop n trees))) (take-rest texts n)
    ∙ ap (λ (ms : List RawModule). reads_of (file + n) (drop n texts) ms) (take-rest trees n)
    ∙ sym (drop-reads n file texts trees) ∙ drop-min (reads_of file texts trees) count n (omega (arith, many, is))

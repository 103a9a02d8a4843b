-- Parsing one text after another.
use Rattle.std.proofs.Common.{◌≡◌, ℕ, ◌+◌, ◌<◌, ◌≤◌, List, [], ◌∷◌, ◌++◌, length, drop, get_or, refl, ap, sym, ◌∙◌, subst, ◌⊎◌, inl, inr, arith, append_assoc, length-append}
use Rattle.std.proofs.lemmas.List.{append-nil}
use Rattle.std.specs.Prelude.{Option, Some, None, Result, Ok, Err, Vec}
use Rattle.std.specs.declared.alloc.Global.{Global}
use Rattle.rapid_forms.specs.declared.fault.SyntaxFault.{SyntaxFault}
use Rattle.rapid_forms.specs.declared.fault.SyntaxFault.TheVariants as faults
use Rattle.raw_trees.specs.Views.{view_module}
use Rattle.raw_trees.specs.declared.raw_module.RawModule.{RawModule}
use Rattle.module_parser.specs.Modules.{ModuleText}
use Rattle.cell_loading.specs.declared.refused.Refused.{Refused}
use Rattle.cell_loading.specs.declared.refused.Refused.TheVariants.{Memory}
use Rattle.cell_loading.specs.ReadModules.{ReadModule, ModuleOf, fault_refusal}
use Rattle.cell_loading.specs.Loaded.{bytes_of, reads_of, TextsDecide, IsParsed}
use Rattle.sink_lines.proofs.Lists.{drop-element, drop-past}
use Rattle.cell_loading.proofs.ReadModules.{read, reads-none, reads-more}

-- with these before what is read
abbrev pub with_front : List ReadModule → Result (List ReadModule) Refused → Result (List ReadModule) Refused
with_front front (Ok more) = Ok (front ++ more)
with_front front (Err refused) = Err refused

front_more : (front : List ReadModule) (x : ReadModule) (v : Result (List ReadModule) Refused) → with_front front (with_front (x ∷ []) v) ≡ with_front (front ++ x ∷ []) v
front_more front x (Ok more) = ap Ok (sym (append_assoc front (x ∷ []) more))
front_more front x (Err refused) = refl

-- in the middle of the texts: those before this one are parsed
pub record Parsing (texts : List (Vec ℕ Global)) (failed : Option Refused) (k : ℕ) (trees : List RawModule) : Type 0 where
  pub count : length trees ≡ k
  pub decide : (verdict : Result (List ReadModule) Refused) → TextsDecide (k + 1) (bytes_of (drop k texts)) failed verdict
      → TextsDecide 1 (bytes_of texts) failed (with_front (reads_of 1 texts trees) verdict)

front_none : (v : Result (List ReadModule) Refused) → with_front [] v ≡ v
front_none (Ok more) = refl
front_none (Err refused) = refl

begins : (texts : List (Vec ℕ Global)) (failed : Option Refused) → Parsing texts failed 0 []
begins texts failed = record {
  count = refl;
  decide = λ verdict d.
      subst (λ (front : List ReadModule). TextsDecide 1 (bytes_of texts) failed (with_front front verdict)) (sym (reads-none 1 texts))
      (subst (λ (v : Result (List ReadModule) Refused). TextsDecide 1 (bytes_of texts) failed v) (sym (front_none verdict)) d);
}

pub parsing_begins : (texts : List (Vec ℕ Global)) (failed : Option Refused) (trees : List RawModule) → trees ≡ [] → Parsing texts failed 0 trees
parsing_begins texts failed trees none = subst (λ (ms : List RawModule). Parsing texts failed 0 ms) (sym none) (begins texts failed)

-- a module and what follows it
then_decides : (file : ℕ) (text : List ℕ) (texts : List (List ℕ)) (failed : Option Refused) (x : ReadModule) (verdict : Result (List ReadModule) Refused) → ModuleOf file text (Ok x)
    → TextsDecide (file + 1) texts failed verdict → TextsDecide file (text ∷ texts) failed (with_front (x ∷ []) verdict)
then_decides file text texts failed x (Ok more) here d = (here, d)
then_decides file text texts failed x (Err refused) here d = inr (x, here, d)

-- one text is parsed
parsing_more : (texts : List (Vec ℕ Global)) (failed : Option Refused) (k : ℕ) (trees : List RawModule) (text : Vec ℕ Global) (tree : RawModule) → k < length texts → text ≡ get_or texts k text
    → Parsing texts failed k trees → ModuleText text.items (Ok (view_module tree)) → Parsing texts failed (k + 1) (trees ++ tree ∷ [])
parsing_more texts failed k trees text tree lt is p spelled =
    let here : ReadModule = read (1 + k) text tree in
    let file : 1 + k ≡ k + 1 = omega arith in
    record {
      count = let c = p.count in let more = length-append trees (tree ∷ []) in omega (arith, c, more);
      decide = λ verdict d.
          subst (λ (front : List ReadModule). TextsDecide 1 (bytes_of texts) failed (with_front front verdict)) (sym (reads-more 1 texts trees k text tree p.count lt is))
          (subst (λ (v : Result (List ReadModule) Refused). TextsDecide 1 (bytes_of texts) failed v) (front_more (reads_of 1 texts trees) here verdict)
          (p.decide (with_front (here ∷ []) verdict)
          (subst (λ (ts : List (Vec ℕ Global)). TextsDecide (k + 1) (bytes_of ts) failed (with_front (here ∷ []) verdict)) (sym (drop-element texts k text lt is))
          (then_decides (k + 1) text.items (bytes_of (drop (k + 1) texts)) failed here verdict (file, refl, spelled) d))));
    }

-- the same, as the program has it
pub parsing_at : (texts : List (Vec ℕ Global)) (failed : Option Refused) (k : ℕ) (trees more : List RawModule) (text : Vec ℕ Global) (bytes : List ℕ) (tree : RawModule) → k < length texts
    → text ≡ get_or texts k text → Parsing texts failed k trees → bytes ≡ text.items → ModuleText bytes (Ok (view_module tree)) → more ≡ trees ++ tree ∷ [] → Parsing texts failed (k + 1) more
parsing_at texts failed k trees more text bytes tree lt is p same spelled pushed =
    subst (λ (ms : List RawModule). Parsing texts failed (k + 1) ms) (sym pushed)
    (parsing_more texts failed k trees text tree lt is p (subst (λ (bs : List ℕ). ModuleText bs (Ok (view_module tree))) same spelled))

-- a text is refused, or out of memory
pub parsing_stops : (texts : List (Vec ℕ Global)) (failed : Option Refused) (k file : ℕ) (trees : List RawModule) (text : Vec ℕ Global) (bytes : List ℕ) (refused : Refused) → k < length texts
    → text ≡ get_or texts k text → Parsing texts failed k trees → bytes ≡ text.items → file ≡ k + 1 → IsParsed file bytes (Err refused)
    → (refused ≡ Memory) ⊎ TextsDecide 1 (bytes_of texts) failed (Err refused)
parsing_stops texts failed k file trees text bytes refused lt is p same numbered (inl memory) = inl memory
parsing_stops texts failed k file trees text bytes refused lt is p same numbered (inr decides) =
    let here : ModuleOf (k + 1) text.items (Err refused) = subst (λ (n : ℕ). ModuleOf n text.items (Err refused)) numbered (subst (λ (bs : List ℕ). ModuleOf file bs (Err refused)) same decides) in
    inr (p.decide (Err refused)
    (subst (λ (ts : List (Vec ℕ Global)). TextsDecide (k + 1) (bytes_of ts) failed (Err refused)) (sym (drop-element texts k text lt is)) (inl here)))

-- what one text comes to, as its parser answers

-- apart from out of memory
pub text_parsed : (text : List ℕ) (tree : RawModule) → (let r : Result RawModule SyntaxFault = Ok tree in r ≡ Err faults.Memory) ⊎ ModuleText text (Ok (view_module tree)) → ModuleText text (Ok (view_module tree))
text_parsed text tree (inl memory) = cc
text_parsed text tree (inr spelled) = spelled

pub text_refused : (file : ℕ) (text : List ℕ) (fault : SyntaxFault) (refused : Refused) → (let r : Result RawModule SyntaxFault = Err fault in r ≡ Err faults.Memory) ⊎ ModuleText text (Err fault)
    → refused ≡ fault_refusal file text fault → IsParsed file text (Err refused)
text_refused file text fault refused (inl memory) told = let e : fault ≡ faults.Memory = cc in inl (told ∙ ap (fault_refusal file text) e)
text_refused file text fault refused (inr spelled) told = inr (fault, spelled, told)

-- all texts are parsed, and the failure after them is the refusal
pub parsing_refused : (texts : List (Vec ℕ Global)) (failed : Option Refused) (k : ℕ) (trees : List RawModule) (refused : Refused) → length texts ≤ k → Parsing texts failed k trees → failed ≡ Some refused
    → TextsDecide 1 (bytes_of texts) failed (Err refused)
parsing_refused texts failed k trees refused past p is =
    p.decide (Err refused)
    (subst (λ (ts : List (Vec ℕ Global)). TextsDecide (k + 1) (bytes_of ts) failed (Err refused)) (sym (drop-past texts k past))
    (subst (λ (o : Option Refused). TextsDecide (k + 1) [] o (Err refused)) (sym is) refl))

-- or nothing failed
pub parsing_ends : (texts : List (Vec ℕ Global)) (failed : Option Refused) (k : ℕ) (trees : List RawModule) → length texts ≤ k → Parsing texts failed k trees → failed ≡ None
    → TextsDecide 1 (bytes_of texts) failed (Ok (reads_of 1 texts trees))
parsing_ends texts failed k trees past p is =
    subst (λ (rs : List ReadModule). TextsDecide 1 (bytes_of texts) failed (Ok rs)) (append-nil (reads_of 1 texts trees))
    (p.decide (Ok [])
    (subst (λ (ts : List (Vec ℕ Global)). TextsDecide (k + 1) (bytes_of ts) failed (Ok [])) (sym (drop-past texts k past))
    (subst (λ (o : Option Refused). TextsDecide (k + 1) [] o (Ok [])) (sym is) refl)))

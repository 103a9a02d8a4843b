-- The definitions on examples worked by hand.
use Rattle.std.proofs.Common.{◌≡◌, ℕ, List, [], ◌∷◌, refl, sym, subst, rules}
use Rattle.std.specs.Prelude.{codes, pos, Option, Some, None}
use Rattle.std.proofs.lemmas.Str.{IsUtf8-from_ascii}
use Rattle.std.specs.Fmt.{digits}
use Rattle.outside.specs.Told.{Told}
use Rattle.rapid_model.specs.CellData.{CellData}
use Rattle.rapid_model.specs.declared.sort.Sort.TheVariants as sorts
use Rattle.rapid_model.specs.declared.value.Value.TheVariants as values
use Rattle.cell_meaning.proofs.ExampleCell.{joints_at}
use Rattle.command_words.specs.declared.command.Action.TheVariants as actions
use Rattle.cell_loading.specs.declared.refused.Refused.TheVariants.{Words, Read, History}
use Rattle.cell_loading.specs.LoadFiles.{load_reads}
use Rattle.cell_loading.specs.Files.{Reads, told_reads}
use Rattle.controller.specs.Accepted.{refuses, Accepted, ActionReads, WordsDecide}
use Rattle.controller.specs.RefusalLines.{refusal_line}
use Rattle.command_words.proofs.Texts.{taken}

-- two files, of which the second read fails
two_files : Told
two_files = record { files = (codes "c", 1 ∷ 2 ∷ []) ∷ (codes "m", 3 ∷ []) ∷ []; calls = 0; failing = 1 ∷ [] }

first_found : told_reads two_files 0 (codes "c") ≡ Some (1 ∷ 2 ∷ [])
unfolding two_files
first_found = refl

second_fails : told_reads two_files 1 (codes "m") ≡ None
unfolding two_files
second_fails = refl

third_found : told_reads two_files 2 (codes "m") ≡ Some (3 ∷ [])
unfolding two_files
third_found = refl

abbrev check_c : List (List ℕ)
check_c = codes "check" ∷ codes "c" ∷ []

-- the script's file cannot be read
nothing_read : Reads
nothing_read file name = None

script_not_read : Accepted check_c nothing_read (refuses (codes "c" ∷ []) (Read 0))
unfolding nothing_read
script_not_read = record {
  decides = subst (λ (place : Option ℕ). WordsDecide nothing_read check_c place (refuses (codes "c" ∷ []) (Read 0)))
      (sym (taken check_c (codes "c") [] refl refl refl (IsUtf8-from_ascii (codes "c") (search rules)) (IsUtf8-from_ascii [] (search rules)))) refl;
}

-- the same before a history
abbrev audit_h : List (List ℕ)
audit_h = codes "audit" ∷ codes "c" ∷ codes "h" ∷ []

script_before_history : Accepted audit_h nothing_read (refuses (codes "c" ∷ []) (Read 0))
unfolding nothing_read
script_before_history = record {
  decides = subst (λ (place : Option ℕ). WordsDecide nothing_read audit_h place (refuses (codes "c" ∷ []) (Read 0)))
      (sym (taken audit_h (codes "c") (codes "h") refl refl refl (IsUtf8-from_ascii (codes "c") (search rules)) (IsUtf8-from_ascii (codes "h") (search rules)))) refl;
}

-- and where the script alone is read
abbrev migrate_c : List (List ℕ)
migrate_c = codes "migrate" ∷ codes "c" ∷ []

script_not_migrated : Accepted migrate_c nothing_read (refuses (codes "c" ∷ []) (Read 0))
unfolding nothing_read
script_not_migrated = record {
  decides = subst (λ (place : Option ℕ). WordsDecide nothing_read migrate_c place (refuses (codes "c" ∷ []) (Read 0)))
      (sym (taken migrate_c (codes "c") [] refl refl refl (IsUtf8-from_ascii (codes "c") (search rules)) (IsUtf8-from_ascii [] (search rules)))) refl;
}

-- the script's name is missing
no_name : (gave : Reads) → Accepted (codes "check" ∷ []) gave (refuses [] (Words 1))
no_name gave = record { decides = refl }

no_history : (gave : Reads) → Accepted (codes "audit" ∷ codes "c" ∷ []) gave (refuses [] (Words 2))
no_history gave = record { decides = refl }

-- the second module of the load cell, and a name that no module has
second_module : load_reads 1 2 (codes "l2.mod") ≡ Some (codes "MODULE Load\nPERS num total := 0;\nVAR jointtarget j := [[0,0,0,0,0,0],[9E9,9E9,9E9,9E9,9E9,9E9]];\nPROC main()\nFOR i FROM 1 TO 1 DO\nj.robax.rax_1 := (i * 37 + 2 * 11) MOD 90;\nMoveAbsJ j\\NoEOffs, v1000, fine, tool0;\ntotal := total + 1;\nENDFOR\nENDPROC\nENDMODULE\n")
unfolding digits
second_module = refl

no_module : load_reads 1 1 (codes "cell.mod") ≡ Some []
unfolding digits
no_module = refl

-- a task with an arm, and a num that is kept
small_cell : CellData
small_cell = record {
  steps = 4;
  tasks = record { name = codes "A"; arm = Some (joints_at (pos 0)); axes = 6 } ∷ [];
  signals = [];
  pers = record { name = codes "total"; owner = None; sort = sorts.Num; len = None; first = values.Num (pos 0) ∷ [] } ∷ [];
  meetings = [];
  zones = [];
  inputs = [];
}

-- the history is the file after the script and its module
history_not_read : ActionReads (Some actions.Audit) nothing_read (codes "h") (codes "c" ∷ codes "m" ∷ []) [] (record { cell = small_cell; trees = [] })
    (refuses (codes "c" ∷ codes "m" ∷ codes "h" ∷ []) (Read 2))
unfolding nothing_read
history_not_read = refl

-- the third line starts no history
third_line : refusal_line (codes "c" ∷ codes "m" ∷ codes "h" ∷ []) (History 3) ≡ codes "rapid_cell: history 3\n"
unfolding digits
third_line = refl

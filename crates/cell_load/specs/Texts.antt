-- The texts of the load cell with that many moves. Each line ends with 0A.
use Rattle.std.specs.Prelude.{ℕ, ◌+◌, ◌*◌, List, [], ◌∷◌, ◌++◌, map, codes, decimal}
use Rattle.std.specs.List.{flat_map}

-- its tasks are L1 to L4
abbrev pub task_numbers : List ℕ
task_numbers = 1 ∷ 2 ∷ 3 ∷ 4 ∷ []

-- a task of the script, with an arm that starts at 0
abbrev pub task_text : ℕ → List ℕ
task_text task =
    codes "[[task]]\n"
    ++ codes "name = \"L" ++ decimal task ++ codes "\"\n"
    ++ codes "modules = [\"l" ++ decimal task ++ codes ".mod\"]\n"
    ++ codes "arm = [0,0,0,0,0,0]\n"

-- the script, with 500 steps for each move and 500 more
abbrev pub script_text : ℕ → List ℕ
script_text moves =
    codes "version = 1\n"
    ++ codes "steps = " ++ decimal (500 * moves + 500) ++ codes "\n"
    ++ flat_map task_text task_numbers

-- the text of the module of a task
abbrev pub module_text : ℕ → ℕ → List ℕ
module_text moves task =
    codes "MODULE Load\n"
    ++ codes "PERS num total := 0;\n"
    ++ codes "VAR jointtarget j := [[0,0,0,0,0,0],[9E9,9E9,9E9,9E9,9E9,9E9]];\n"
    ++ codes "PROC main()\n"
    ++ codes "FOR i FROM 1 TO " ++ decimal moves ++ codes " DO\n"
    ++ codes "j.robax.rax_1 := (i * 37 + " ++ decimal task ++ codes " * 11) MOD 90;\n"
    ++ codes "MoveAbsJ j\\NoEOffs, v1000, fine, tool0;\n"
    ++ codes "total := total + 1;\n"
    ++ codes "ENDFOR\n"
    ++ codes "ENDPROC\n"
    ++ codes "ENDMODULE\n"

-- its name and its text
abbrev pub module_file : ℕ → ℕ → List ℕ × List ℕ
module_file moves task = (codes "l" ++ decimal task ++ codes ".mod", module_text moves task)

-- the modules of all tasks, in their order
abbrev pub module_files : ℕ → List (List ℕ × List ℕ)
module_files moves = map (module_file moves) task_numbers

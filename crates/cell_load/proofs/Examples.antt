-- The texts of load cells, in full.
use Rattle.std.proofs.Common.{◌≡◌, refl, [], ◌∷◌}
use Rattle.std.specs.Prelude.{codes}
use Rattle.std.specs.Fmt.{digits}
use Rattle.cell_load.specs.Texts.{module_file, module_files, script_text}

script_of_one_move : script_text 1 ≡ codes "version = 1\nsteps = 1000\n[[task]]\nname = \"L1\"\nmodules = [\"l1.mod\"]\narm = [0,0,0,0,0,0]\n[[task]]\nname = \"L2\"\nmodules = [\"l2.mod\"]\narm = [0,0,0,0,0,0]\n[[task]]\nname = \"L3\"\nmodules = [\"l3.mod\"]\narm = [0,0,0,0,0,0]\n[[task]]\nname = \"L4\"\nmodules = [\"l4.mod\"]\narm = [0,0,0,0,0,0]\n"
unfolding digits
script_of_one_move = refl

module_of_one_move : module_file 1 1 ≡ (codes "l1.mod", codes "MODULE Load\nPERS num total := 0;\nVAR jointtarget j := [[0,0,0,0,0,0],[9E9,9E9,9E9,9E9,9E9,9E9]];\nPROC main()\nFOR i FROM 1 TO 1 DO\nj.robax.rax_1 := (i * 37 + 1 * 11) MOD 90;\nMoveAbsJ j\\NoEOffs, v1000, fine, tool0;\ntotal := total + 1;\nENDFOR\nENDPROC\nENDMODULE\n")
unfolding digits
module_of_one_move = refl

script_of_two_moves : script_text 2 ≡ codes "version = 1\nsteps = 1500\n[[task]]\nname = \"L1\"\nmodules = [\"l1.mod\"]\narm = [0,0,0,0,0,0]\n[[task]]\nname = \"L2\"\nmodules = [\"l2.mod\"]\narm = [0,0,0,0,0,0]\n[[task]]\nname = \"L3\"\nmodules = [\"l3.mod\"]\narm = [0,0,0,0,0,0]\n[[task]]\nname = \"L4\"\nmodules = [\"l4.mod\"]\narm = [0,0,0,0,0,0]\n"
unfolding digits
script_of_two_moves = refl

modules_of_two_moves : module_files 2
    ≡ (codes "l1.mod", codes "MODULE Load\nPERS num total := 0;\nVAR jointtarget j := [[0,0,0,0,0,0],[9E9,9E9,9E9,9E9,9E9,9E9]];\nPROC main()\nFOR i FROM 1 TO 2 DO\nj.robax.rax_1 := (i * 37 + 1 * 11) MOD 90;\nMoveAbsJ j\\NoEOffs, v1000, fine, tool0;\ntotal := total + 1;\nENDFOR\nENDPROC\nENDMODULE\n")
    ∷ (codes "l2.mod", codes "MODULE Load\nPERS num total := 0;\nVAR jointtarget j := [[0,0,0,0,0,0],[9E9,9E9,9E9,9E9,9E9,9E9]];\nPROC main()\nFOR i FROM 1 TO 2 DO\nj.robax.rax_1 := (i * 37 + 2 * 11) MOD 90;\nMoveAbsJ j\\NoEOffs, v1000, fine, tool0;\ntotal := total + 1;\nENDFOR\nENDPROC\nENDMODULE\n")
    ∷ (codes "l3.mod", codes "MODULE Load\nPERS num total := 0;\nVAR jointtarget j := [[0,0,0,0,0,0],[9E9,9E9,9E9,9E9,9E9,9E9]];\nPROC main()\nFOR i FROM 1 TO 2 DO\nj.robax.rax_1 := (i * 37 + 3 * 11) MOD 90;\nMoveAbsJ j\\NoEOffs, v1000, fine, tool0;\ntotal := total + 1;\nENDFOR\nENDPROC\nENDMODULE\n")
    ∷ (codes "l4.mod", codes "MODULE Load\nPERS num total := 0;\nVAR jointtarget j := [[0,0,0,0,0,0],[9E9,9E9,9E9,9E9,9E9,9E9]];\nPROC main()\nFOR i FROM 1 TO 2 DO\nj.robax.rax_1 := (i * 37 + 4 * 11) MOD 90;\nMoveAbsJ j\\NoEOffs, v1000, fine, tool0;\ntotal := total + 1;\nENDFOR\nENDPROC\nENDMODULE\n")
    ∷ []
unfolding digits
modules_of_two_moves = refl

-- the greatest number of moves
script_of_the_most_moves : script_text 1000 ≡ codes "version = 1\nsteps = 500500\n[[task]]\nname = \"L1\"\nmodules = [\"l1.mod\"]\narm = [0,0,0,0,0,0]\n[[task]]\nname = \"L2\"\nmodules = [\"l2.mod\"]\narm = [0,0,0,0,0,0]\n[[task]]\nname = \"L3\"\nmodules = [\"l3.mod\"]\narm = [0,0,0,0,0,0]\n[[task]]\nname = \"L4\"\nmodules = [\"l4.mod\"]\narm = [0,0,0,0,0,0]\n"
unfolding digits
script_of_the_most_moves = refl

last_module_of_the_most_moves : module_file 1000 4 ≡ (codes "l4.mod", codes "MODULE Load\nPERS num total := 0;\nVAR jointtarget j := [[0,0,0,0,0,0],[9E9,9E9,9E9,9E9,9E9,9E9]];\nPROC main()\nFOR i FROM 1 TO 1000 DO\nj.robax.rax_1 := (i * 37 + 4 * 11) MOD 90;\nMoveAbsJ j\\NoEOffs, v1000, fine, tool0;\ntotal := total + 1;\nENDFOR\nENDPROC\nENDMODULE\n")
unfolding digits
last_module_of_the_most_moves = refl

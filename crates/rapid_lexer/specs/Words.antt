-- The reserved words (RAPID Kernel, lexical elements).
use Rattle.std.specs.Prelude.{ℕ, Bool, if◌then◌else◌, List, [], ◌∷◌, Option, None, Some, is_some, codes, map}
use Rattle.std.specs.List.{Contains}
use Rattle.std.specs.Str.{bytes_eq}
use Rattle.rapid_lexer.specs.declared.word.Word.{Word}
use Rattle.rapid_lexer.specs.declared.word.Word.TheVariants.{Alias, And, Backward, Case, Connect, Const, Default, Div, Do, Else, ElseIf, EndFor, EndFunc, EndIf, EndModule, EndProc, EndRecord, EndTest, EndTrap, EndWhile, Error, Exit, False, For, From, Func, Goto, If, Inout, Local, Mod, Module, NoStepIn, Not, NoView, Or, Pers, Proc, Raise, ReadOnly, Record, Retry, Return, Step, SysModule, Task, Test, Then, To, Trap, True, TryNext, Undo, Var, ViewOnly, While, With, Xor}
use Rattle.rapid_lexer.specs.Bytes.{upper}

-- each reserved word, in uppercase
abbrev pub words : List (List ℕ × Word)
words =
    (codes "ALIAS", Alias) ∷ (codes "AND", And) ∷ (codes "BACKWARD", Backward) ∷ (codes "CASE", Case)
    ∷ (codes "CONNECT", Connect) ∷ (codes "CONST", Const) ∷ (codes "DEFAULT", Default) ∷ (codes "DIV", Div)
    ∷ (codes "DO", Do) ∷ (codes "ELSE", Else) ∷ (codes "ELSEIF", ElseIf) ∷ (codes "ENDFOR", EndFor)
    ∷ (codes "ENDFUNC", EndFunc) ∷ (codes "ENDIF", EndIf) ∷ (codes "ENDMODULE", EndModule) ∷ (codes "ENDPROC", EndProc)
    ∷ (codes "ENDRECORD", EndRecord) ∷ (codes "ENDTEST", EndTest) ∷ (codes "ENDTRAP", EndTrap) ∷ (codes "ENDWHILE", EndWhile)
    ∷ (codes "ERROR", Error) ∷ (codes "EXIT", Exit) ∷ (codes "FALSE", False) ∷ (codes "FOR", For)
    ∷ (codes "FROM", From) ∷ (codes "FUNC", Func) ∷ (codes "GOTO", Goto) ∷ (codes "IF", If)
    ∷ (codes "INOUT", Inout) ∷ (codes "LOCAL", Local) ∷ (codes "MOD", Mod) ∷ (codes "MODULE", Module)
    ∷ (codes "NOSTEPIN", NoStepIn) ∷ (codes "NOT", Not) ∷ (codes "NOVIEW", NoView) ∷ (codes "OR", Or)
    ∷ (codes "PERS", Pers) ∷ (codes "PROC", Proc) ∷ (codes "RAISE", Raise) ∷ (codes "READONLY", ReadOnly)
    ∷ (codes "RECORD", Record) ∷ (codes "RETRY", Retry) ∷ (codes "RETURN", Return) ∷ (codes "STEP", Step)
    ∷ (codes "SYSMODULE", SysModule) ∷ (codes "TASK", Task) ∷ (codes "TEST", Test) ∷ (codes "THEN", Then)
    ∷ (codes "TO", To) ∷ (codes "TRAP", Trap) ∷ (codes "TRUE", True) ∷ (codes "TRYNEXT", TryNext)
    ∷ (codes "UNDO", Undo) ∷ (codes "VAR", Var) ∷ (codes "VIEWONLY", ViewOnly) ∷ (codes "WHILE", While)
    ∷ (codes "WITH", With) ∷ (codes "XOR", Xor) ∷ []

-- the text is this word, case-insensitive
abbrev pub IsWord : Word → List ℕ → Type 0
IsWord word text = Contains words (map upper text, word)

-- a reserved word
abbrev pub IsReserved : List ℕ → Type 0
IsReserved text = (word : Word) × IsWord word text

-- the word of the first row with these uppercase letters
abbrev pub word_in : List (List ℕ × Word) → List ℕ → Option Word
word_in [] capitals = None
word_in (row ∷ rows) capitals = if bytes_eq row.0 capitals then Some row.1 else word_in rows capitals

-- the word that a text is
abbrev pub word_of : List ℕ → Option Word
word_of text = word_in words (map upper text)

abbrev pub is_reserved : List ℕ → Bool
is_reserved text = is_some (word_of text)

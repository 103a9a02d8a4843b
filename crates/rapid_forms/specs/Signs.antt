-- What a grammar sees of a token: its sign.
use Rattle.std.specs.Prelude.{ℕ, Bool, false, Option, None, Some, List, [], ◌∷◌, ◌==◌}
use Rattle.std.specs.List.{list_any}
use Rattle.rapid_lexer.specs.declared.kind.Kind.{Kind}
use Rattle.rapid_lexer.specs.declared.kind.Kind.TheVariants as kinds
use Rattle.rapid_lexer.specs.declared.word.Word.{Word}
use Rattle.rapid_lexer.specs.declared.word.Word.TheVariants as words
use Rattle.rapid_lexer.specs.declared.mark.Mark.{Mark}
use Rattle.rapid_lexer.specs.declared.mark.Mark.TheVariants as marks
use Rattle.rapid_lexer.specs.Tokens.{Lexeme}
use Rattle.rapid_forms.specs.declared.sign.Sign.{Sign}
use Rattle.rapid_forms.specs.declared.sign.Sign.TheVariants.{Name, Number, Quoted, OpenBrace, CloseBrace, OpenBracket, CloseBracket, OpenParenthesis, CloseParenthesis, Comma, Dot, Semicolon, Colon, Assign, Equal, Less, Greater, LessEqual, GreaterEqual, NotEqual, Plus, Minus, Star, Slash, Backslash, Question, Alias, And, Backward, Case, Connect, Const, Default, Div, Do, Else, ElseIf, EndFor, EndFunc, EndIf, EndModule, EndProc, EndRecord, EndTest, EndTrap, EndWhile, Error, Exit, False, For, From, Func, Goto, If, Inout, Local, Mod, Module, NoStepIn, Not, NoView, Or, Pers, Proc, Raise, ReadOnly, Record, Retry, Return, Step, SysModule, Task, Test, Then, To, Trap, True, TryNext, Undo, Var, ViewOnly, While, With, Xor}

abbrev pub sign_of_word : Word → Sign
sign_of_word words.Alias = Alias
sign_of_word words.And = And
sign_of_word words.Backward = Backward
sign_of_word words.Case = Case
sign_of_word words.Connect = Connect
sign_of_word words.Const = Const
sign_of_word words.Default = Default
sign_of_word words.Div = Div
sign_of_word words.Do = Do
sign_of_word words.Else = Else
sign_of_word words.ElseIf = ElseIf
sign_of_word words.EndFor = EndFor
sign_of_word words.EndFunc = EndFunc
sign_of_word words.EndIf = EndIf
sign_of_word words.EndModule = EndModule
sign_of_word words.EndProc = EndProc
sign_of_word words.EndRecord = EndRecord
sign_of_word words.EndTest = EndTest
sign_of_word words.EndTrap = EndTrap
sign_of_word words.EndWhile = EndWhile
sign_of_word words.Error = Error
sign_of_word words.Exit = Exit
sign_of_word words.False = False
sign_of_word words.For = For
sign_of_word words.From = From
sign_of_word words.Func = Func
sign_of_word words.Goto = Goto
sign_of_word words.If = If
sign_of_word words.Inout = Inout
sign_of_word words.Local = Local
sign_of_word words.Mod = Mod
sign_of_word words.Module = Module
sign_of_word words.NoStepIn = NoStepIn
sign_of_word words.Not = Not
sign_of_word words.NoView = NoView
sign_of_word words.Or = Or
sign_of_word words.Pers = Pers
sign_of_word words.Proc = Proc
sign_of_word words.Raise = Raise
sign_of_word words.ReadOnly = ReadOnly
sign_of_word words.Record = Record
sign_of_word words.Retry = Retry
sign_of_word words.Return = Return
sign_of_word words.Step = Step
sign_of_word words.SysModule = SysModule
sign_of_word words.Task = Task
sign_of_word words.Test = Test
sign_of_word words.Then = Then
sign_of_word words.To = To
sign_of_word words.Trap = Trap
sign_of_word words.True = True
sign_of_word words.TryNext = TryNext
sign_of_word words.Undo = Undo
sign_of_word words.Var = Var
sign_of_word words.ViewOnly = ViewOnly
sign_of_word words.While = While
sign_of_word words.With = With
sign_of_word words.Xor = Xor

abbrev pub sign_of_mark : Mark → Sign
sign_of_mark marks.OpenBrace = OpenBrace
sign_of_mark marks.CloseBrace = CloseBrace
sign_of_mark marks.OpenBracket = OpenBracket
sign_of_mark marks.CloseBracket = CloseBracket
sign_of_mark marks.OpenParenthesis = OpenParenthesis
sign_of_mark marks.CloseParenthesis = CloseParenthesis
sign_of_mark marks.Comma = Comma
sign_of_mark marks.Dot = Dot
sign_of_mark marks.Semicolon = Semicolon
sign_of_mark marks.Colon = Colon
sign_of_mark marks.Assign = Assign
sign_of_mark marks.Equal = Equal
sign_of_mark marks.Less = Less
sign_of_mark marks.Greater = Greater
sign_of_mark marks.LessEqual = LessEqual
sign_of_mark marks.GreaterEqual = GreaterEqual
sign_of_mark marks.NotEqual = NotEqual
sign_of_mark marks.Plus = Plus
sign_of_mark marks.Minus = Minus
sign_of_mark marks.Star = Star
sign_of_mark marks.Slash = Slash
sign_of_mark marks.Backslash = Backslash
sign_of_mark marks.Question = Question

abbrev pub sign_of_kind : Kind → Sign
sign_of_kind kinds.Name = Name
sign_of_kind (kinds.Word word) = sign_of_word word
sign_of_kind kinds.Number = Number
sign_of_kind kinds.Quoted = Quoted
sign_of_kind (kinds.Mark mark) = sign_of_mark mark

unfoldable pub sign_of : Lexeme → Sign
sign_of t = sign_of_kind t.kind

-- signs are compared by their numbers in declaration order
abbrev pub code : Sign → ℕ
code Name = 0
code Number = 1
code Quoted = 2
code OpenBrace = 3
code CloseBrace = 4
code OpenBracket = 5
code CloseBracket = 6
code OpenParenthesis = 7
code CloseParenthesis = 8
code Comma = 9
code Dot = 10
code Semicolon = 11
code Colon = 12
code Assign = 13
code Equal = 14
code Less = 15
code Greater = 16
code LessEqual = 17
code GreaterEqual = 18
code NotEqual = 19
code Plus = 20
code Minus = 21
code Star = 22
code Slash = 23
code Backslash = 24
code Question = 25
code Alias = 26
code And = 27
code Backward = 28
code Case = 29
code Connect = 30
code Const = 31
code Default = 32
code Div = 33
code Do = 34
code Else = 35
code ElseIf = 36
code EndFor = 37
code EndFunc = 38
code EndIf = 39
code EndModule = 40
code EndProc = 41
code EndRecord = 42
code EndTest = 43
code EndTrap = 44
code EndWhile = 45
code Error = 46
code Exit = 47
code False = 48
code For = 49
code From = 50
code Func = 51
code Goto = 52
code If = 53
code Inout = 54
code Local = 55
code Mod = 56
code Module = 57
code NoStepIn = 58
code Not = 59
code NoView = 60
code Or = 61
code Pers = 62
code Proc = 63
code Raise = 64
code ReadOnly = 65
code Record = 66
code Retry = 67
code Return = 68
code Step = 69
code SysModule = 70
code Task = 71
code Test = 72
code Then = 73
code To = 74
code Trap = 75
code True = 76
code TryNext = 77
code Undo = 78
code Var = 79
code ViewOnly = 80
code While = 81
code With = 82
code Xor = 83

-- the sign is one of these
unfoldable pub has : List Sign → Sign → Bool
has signs sign = list_any (λ s. code s == code sign) signs

-- the sign of the first token, if there is one
abbrev pub first_sign : List Lexeme → Option Sign
first_sign [] = None
first_sign (t ∷ ts) = Some (sign_of t)

-- there is a sign, and it is one of these
abbrev pub is_seen : List Sign → Option Sign → Bool
is_seen signs None = false
is_seen signs (Some sign) = has signs sign

-- the first token has one of these signs
unfoldable pub begins_with : List Sign → List Lexeme → Bool
begins_with signs ts = is_seen signs (first_sign ts)

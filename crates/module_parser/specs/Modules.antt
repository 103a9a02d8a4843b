-- What a module's text spells, and where its first error is.
use Rattle.std.specs.Prelude.{◌≡◌, ℕ, List, length, take, drop, Result, Ok, Err, ◌⊎◌}
use Rattle.rapid_limits.specs.declared.TheConstants.{MOST_LEVELS}
use Rattle.rapid_lexer.specs.Tokens.{Lexeme, Tiles}
use Rattle.rapid_lexer.specs.Faults.{IsFirstMisfit}
use Rattle.raw_trees.specs.declared.raw_module.RawModule.{RawModule}
use Rattle.raw_trees.specs.Plain.{PlainModule}
use Rattle.raw_trees.specs.Views.{view_module}
use Rattle.rapid_forms.specs.declared.fault.SyntaxFault.{SyntaxFault}
use Rattle.rapid_forms.specs.declared.fault.SyntaxFault.TheVariants.{Rule, Lex, Memory}
use Rattle.rapid_forms.specs.Forms.{Form}
use Rattle.rapid_forms.specs.Parsed.{IsLongest, IsTooDeep, Spells, syntax_fault, depth_fault}
use Rattle.module_parser.specs.Grammar.{«module»}

-- the tokens of the whole text are this module, within this many levels
abbrev pub SpellsWithin : ℕ → PlainModule → List ℕ → Type 0
SpellsWithin n tree source = (ts : List Lexeme) × Tiles source ts × («module» n).Whole tree ts

-- token k is the first that makes the tokens so far no prefix of a module, or none is left and they are not a complete
-- module
pub record IsStuck {A : Type 0} (F : ℕ → Form A) (n : ℕ) (ts : List Lexeme) (k : ℕ) : Type 0 where
  pub longest : IsLongest F ts k
  pub begun : (F n).Begun (take k ts)
  pub none : (x : A) → Spells F x ts → ⊥

-- the fault of tokens that are not a module: at the first token that makes them no prefix of one, or before that at one
-- that opens a level too many
abbrev pub Stops : ℕ → List Lexeme → SyntaxFault → Type 0
Stops end ts fault =
    ((k : ℕ) × IsStuck «module» MOST_LEVELS ts k × (fault ≡ syntax_fault end (drop k ts)))
    ⊎ ((k : ℕ) × IsTooDeep «module» MOST_LEVELS ts k × (fault ≡ depth_fault end (drop k ts)))

-- The result of a text: the module that it spells; a lexical fault, which wins wherever it is; or a fault of its
-- tokens.
abbrev pub ModuleText : List ℕ → Result PlainModule SyntaxFault → Type 0
ModuleText source (Ok tree) = SpellsWithin MOST_LEVELS tree source
ModuleText source (Err (Lex f)) = IsFirstMisfit source f
ModuleText source (Err (Rule rule at)) = (ts : List Lexeme) × Tiles source ts × Stops (length source) ts (Rule rule at)
ModuleText source (Err Memory) = ⊥

-- what a parser returned, with its tree as contracts see it
abbrev pub shown : Result RawModule SyntaxFault → Result PlainModule SyntaxFault
shown (Ok m) = Ok (view_module m)
shown (Err fault) = Err fault

-- A statement, without where it lies in memory.
use Rattle.std.specs.Prelude.{ℕ, List, Bool, Option, option_map}
use Rattle.star_parser.specs.declared.ast.Ast.{Ast}
use Rattle.star_parser.specs.declared.ast.Ast.TheVariants as ast
use Rattle.star_parser.specs.declared.ast.AstColumn.{AstColumn}
use Rattle.star_parser.specs.declared.ast.AstItem.{AstItem}
use Rattle.star_parser.specs.declared.tree.Column.{Column}
use Rattle.star_parser.specs.Condition.{Condition, condition_of}

-- what a statement says
pub data Statement : Type 0 where
  Dimension : List ℕ → List AstColumn → Statement
  Fact : List ℕ → List AstColumn → Statement
  Load : List ℕ → Bool → Statement
  Delete : List ℕ → Option Condition → Statement
  Select : List AstItem → List (List ℕ) → Option Condition → List Column → Statement
  Wait : Statement

-- the statement that an `Ast` is
abbrev pub statement_of : Ast → Statement
statement_of (ast.Dimension name columns) = Dimension name columns
statement_of (ast.Fact name columns) = Fact name columns
statement_of (ast.Load name header) = Load name header
statement_of (ast.Delete name condition) = Delete name (option_map condition_of condition)
statement_of (ast.Select items tables condition groups) =
    Select items tables (option_map condition_of condition) groups
statement_of ast.Wait = Wait

-- The number and the words of each reason for which a statement is refused.
use Rattle.std.specs.Prelude.{ℕ, List, ◌++◌, codes, decimal}
use Rattle.star_values.specs.declared.refusal.Refusal.{Refusal}
use Rattle.star_values.specs.declared.refusal.Refusal.TheVariants.{Syntax, UnknownName, AmbiguousName, DuplicateName, TypeMismatch, MissingJoin, MixedConjunct, NotGrouped, BadRecord, DuplicateKey, DanglingReference, Limit, OutOfOrder, NotUtf8}

-- the number by which a reply names the reason
abbrev pub number_of : Refusal → ℕ
number_of (Syntax place) = 1
number_of UnknownName = 2
number_of AmbiguousName = 3
number_of DuplicateName = 4
number_of TypeMismatch = 5
number_of MissingJoin = 6
number_of MixedConjunct = 7
number_of NotGrouped = 8
number_of BadRecord = 9
number_of DuplicateKey = 10
number_of DanglingReference = 11
number_of Limit = 12
number_of OutOfOrder = 13
number_of NotUtf8 = 14

-- the words behind that number
abbrev pub words_of : Refusal → List ℕ
words_of (Syntax place) = codes "syntax at " ++ decimal place
words_of UnknownName = codes "unknown name"
words_of AmbiguousName = codes "ambiguous name"
words_of DuplicateName = codes "duplicate name"
words_of TypeMismatch = codes "type mismatch"
words_of MissingJoin = codes "missing join"
words_of MixedConjunct = codes "mixed conjunct"
words_of NotGrouped = codes "not grouped"
words_of BadRecord = codes "bad record"
words_of DuplicateKey = codes "duplicate key"
words_of DanglingReference = codes "dangling reference"
words_of Limit = codes "limit"
words_of OutOfOrder = codes "out of order"
words_of NotUtf8 = codes "not UTF-8"

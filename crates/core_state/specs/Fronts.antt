-- A seat as a queue: what it sends, what it waits for, and the replies that it takes,
-- whatever others do meanwhile.
use Rattle.std.specs.Prelude.{◌≡◌, ℕ, ◌≤◌, List, ◌∷◌, [], ◌++◌, All, length}
use Rattle.script_reader.specs.declared.statement.Statement.{Statement}
use Rattle.reply_text.specs.declared.reply.Reply.{Reply}
use Rattle.core_state.specs.Rows.{Sight, made_by}
use Rattle.core_state.specs.Sent.{AreEntriesOf, AreRepliesTo, Given, IsGiven, Lost, Sent, entry_made, numbers_in, pending_behind, pendings_of, takens_of}
use Rattle.core_state.specs.State.{Entry, Pending}
use Rattle.core_state.specs.Submitting.{taken_by}

-- the point of what was sent is within so many entries
abbrev pub IsPointWithin : (count : ℕ) → Sent → Type 0
IsPointWithin count (Lost statement) = Unit {0}
IsPointWithin count (Given number point statement) = point ≤ count

-- a seat waits for the replies to these, which have numbers, since a lost statement is replied to
-- at once, behind all earlier replies; and its row has the entries that it made
pub record IsDue (seat : ℕ) (sight : Sight) (due : List Sent) : Type 0 where
  pub pending : sight.row.pending ≡ pendings_of sight.seen due
  pub points : All (IsPointWithin (length sight.seen)) due
  pub given : All IsGiven due
  pub made : sight.row.made ≡ made_by seat sight.seen

-- from one sight of a seat that waits for these to another, at which it waits for those, it sent
-- these statements, and took these replies to those that it said
pub record Goes (seat : ℕ) (old : Sight) (due : List Sent) (new : Sight)
    (due' sent said : List Sent) (replies : List Reply) : Type 0 where
  pub since : List Entry
  pub seen : new.seen ≡ old.seen ++ since
  pub entries : AreEntriesOf seat old.seen sent since
  pub queue : due ++ sent ≡ said ++ due'
  pub submitted : new.row.submitted ≡ old.row.submitted ++ numbers_in sent
  pub taken : new.row.taken ≡ old.row.taken ++ takens_of new.seen said
  pub answered : AreRepliesTo new.seen said replies
  pub waits : IsDue seat new due'

-- nothing was sent, no reply was taken, and no entry that came is of the seat;
-- the hand may have changed
pub record Passes (old new : Sight) : Type 0 where
  pub submitted : new.row.submitted ≡ old.row.submitted
  pub made : new.row.made ≡ old.row.made
  pub pending : new.row.pending ≡ old.row.pending
  pub taken : new.row.taken ≡ old.row.taken
  pub since : List Entry
  pub seen : new.seen ≡ old.seen ++ since

-- a statement was given this number behind the entries that were seen
pub record SubmitsRow (seat number : ℕ) (statement : Statement) (old new : Sight) : Type 0 where
  pub seen : new.seen ≡ old.seen ++ entry_made seat number old.seen statement
  pub submitted : new.row.submitted ≡ old.row.submitted ++ number ∷ []
  pub pending : new.row.pending ≡ old.row.pending ++ pending_behind number old.seen statement ∷ []
  pub taken : new.row.taken ≡ old.row.taken
  pub hand : new.row.hand ≡ old.row.hand

-- the reply to the first statement that was waited for was taken
pub record TakesRow (first : Pending) (old new : Sight) : Type 0 where
  pub seen : new.seen ≡ old.seen
  pub submitted : new.row.submitted ≡ old.row.submitted
  pub pending : old.row.pending ≡ first ∷ new.row.pending
  pub taken : new.row.taken ≡ old.row.taken ++ taken_by first ∷ []
  pub hand : new.row.hand ≡ old.row.hand

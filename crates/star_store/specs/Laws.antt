-- What holds of every statement: which replies leave the tables as they were, and
-- how commits are numbered.
use Rattle.std.specs.Prelude.{◌≡◌, ◌+◌}
use Rattle.query_meaning.specs.Store.{Store}
use Rattle.reply_text.specs.declared.reply.Reply.{Reply}
use Rattle.reply_text.specs.declared.reply.Reply.TheVariants.{Table, Commit, Answer, Overflow, Memory, Refused, Waited}

-- the tables before and after a statement with this reply: a declaration is no commit, an
-- accepted load or delete is the next one, a query names the last one, and every other
-- statement changes nothing
abbrev pub AgreesWith : Store → Store → Reply → Type 0
AgreesWith old new (Table name) = new.commits ≡ old.commits
AgreesWith old new (Commit number rows) = (number ≡ old.commits + 1) × (new.commits ≡ number)
AgreesWith old new (Answer snapshot rows) = (snapshot ≡ old.commits) × (new ≡ old)
AgreesWith old new (Overflow snapshot) = (snapshot ≡ old.commits) × (new ≡ old)
AgreesWith old new Memory = new ≡ old
AgreesWith old new (Refused reason) = new ≡ old
AgreesWith old new Waited = new ≡ old

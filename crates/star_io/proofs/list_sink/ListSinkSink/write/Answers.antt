-- A write that fails was listed, or there was no room for what it was to take.
use Rattle.std.proofs.Common.{◌≡◌, ℕ, true, Result, Ok, Err, OnErr, inl, inr, arith, rules, length-take}
use Rattle.std.specs.Result.{is_err}
use Rattle.std.proofs.lemmas.Grind.{common_steps}
use Rattle.star_io.proofs.list_sink.ListSinkSink.write.Goals as goal
use Rattle.star_io.proofs.list_sink.ListSinkSink.write.Goals.{then-contains-via-then-contains, then-contains-via-else-contains+then-is_err}

-- what holds at an error holds where the result is one
at_err : {T E Q : Type 0} (r : Result T E) → is_err r ≡ true → OnErr r Q → Q
at_err (Ok _) e h = cc
at_err (Err _) e h = h

pub returns-then-contains-clause-piece : goal.returns-then-contains-clause-piece
returns-then-contains-clause-piece c = record {
  listed = search rules;
  cause =
      rw (← c.self.view_is) (elim c.then-contains.branch [
        | then-contains-via-then-contains w ↦ inl (let found = w.if-contains.ensures in grind (arith, common_steps))
        | then-contains-via-else-contains+then-is_err w ↦
            inr (let h = at_err w.extend_from_slice.result (search rules) w.extend_from_slice.ensures.full in omega (arith, length-take {A = ℕ}))
      ]);
  count = search rules;
  state = search rules;
}

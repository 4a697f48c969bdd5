-- How many links a door gave out, and what is told of it where its connections were served.
use Rattle.std.proofs.Common.{◌≡◌, ◌⊎◌, ℕ, ◌+◌, ◌≤◌, ◌<◌, Some, inl, inr, refl, subst, sym, arith}
use Rattle.std.proofs.lemmas.Bool.{cases_lt}
use Rattle.star_io.specs.Door.{DoorSide, closed}
use Rattle.star_io.specs.Faults.{last_count, next_count}
use Rattle.star_io.specs.declared.serve_end.ServeEnd.{ServeEnd}
use Rattle.star_io.specs.declared.serve_end.ServeEnd.TheVariants.{Ended, DoorFault, NoMemory}
use Rattle.session_server.specs.Server.{CountsDoor, HasCome, HasGiven, HasServed, TakesLinks}

-- none so far
pub given-none : (old : ℕ) → HasGiven 0 old old
given-none old = inl (omega arith)

-- one more
pub given-next : (n old now new : ℕ) → HasGiven n old now → new ≡ next_count now → HasGiven (n + 1) old new
given-next n old now new (inl same) is = by_order (cases_lt (old + n) last_count)
  where
    by_order : (old + n < last_count) ⊎ (last_count ≤ old + n) → HasGiven (n + 1) old new
    by_order (inl below) = inl (omega arith)
    by_order (inr above) = inr (omega arith)
given-next n old now new (inr last) is = inr (omega arith)

-- a door that was closed after its connections were taken
pub served-closed : (accept : ℕ) (end : ServeEnd) (old new last : DoorSide) → HasCome accept end old new → TakesLinks (Some end) old new
    → last ≡ closed new → HasServed accept end old last
served-closed accept end old new last come takes is =
    subst (HasServed accept end old) (sym is) (record {
      ended = come;
      takes = record { same = takes.same; served = takes.served; counts = counts-closed end old new takes.counts };
      closed = refl;
    })
  where
    counts-closed : (end : ServeEnd) (old new : DoorSide) → CountsDoor end old new → CountsDoor end old (closed new)
    counts-closed Ended old new counts = counts
    counts-closed DoorFault old new counts = counts
    counts-closed NoMemory old new counts = counts

-- what is told of a door, by another name
pub served-by : {D : Type 0} (accepting : D → DoorSide) (accept : ℕ) (end : ServeEnd) (old lent new : D) → lent ≡ new
    → HasServed accept end (accepting old) (accepting lent) → HasServed accept end (accepting old) (accepting new)
served-by accepting accept end old lent new same = subst (λ door. HasServed accept end (accepting old) (accepting door)) same

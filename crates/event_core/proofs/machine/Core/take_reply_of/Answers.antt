use Rattle.event_core.proofs.Words.{◌∙◌, ◌≡◌, after_taking, ap, AskedQueries, Becomes, CoreParts, IfSome, IsRight, IsSome, IsSound, next_ready, None, none-some, option_map, parts_by, refl, seat_at, slice_get, Some, state_of, statements_at, subst, sym}
use Rattle.std.proofs.lemmas.Bool.{false≢true}
use Rattle.event_core.specs.Replies.{ready_of}
use Rattle.event_core.specs.Taking.{next_number}
use Rattle.event_core.proofs.AskedKeptLemmas.{asked-rise}
use Rattle.event_core.proofs.ReplyEventLemmas.{reply-becomes, reply-nothing, reply-ready, reply-right}
use Rattle.event_core.proofs.SeatPlaceLemmas.{seat-read, seat-there, statements_in}
use Rattle.event_core.proofs.LetGoLemmas.{finished-on, on-same}
use Rattle.event_core.specs.CoreParts.{beside_of}
use Rattle.event_core.proofs.machine.Core.take_reply_of.Goals as goal

pub returns-in_err-number : goal.returns-in_err-number
returns-in_err-number c =
    let low = seat-there _ _ c.self.inside.seats c.args.seat c.self.view_is refl c.requires in
    let statements = seat-read c.self.inside.seats c.as_slice.result.now c.args.seat c.index-as_slice-seat.result c.as_slice.ensures low
    c.index-as_slice-seat.is in
    let none : next_number c.self.inside.manager (statements_at (statements_in c.self.inside.seats) c.args.seat) ≡ None =
    ap (next_number c.self.inside.manager) (sym statements) ∙ sym c.next_number.ensures ∙ c.in_err-number.was in
    record {
      ready = ap (option_map ready_of) c.from_residual.ensures
          ∙ sym (subst (λ seen. next_ready (state_of seen) c.args.seat ≡ None) c.self.view_is
          (reply-nothing c.next_replies_follow_the_core.ensures.nothing c.next_replies_follow_the_core.ensures.open _ c.args.seat
          c.self.invariant.0 none));
      taken = λ some. absurd (false≢true (subst (λ o. IsSome o) c.from_residual.ensures some));
      none = λ nothing. refl;
      beside = refl;
      right = subst (λ o. IfSome o (λ ready. IfSome (slice_get (seat_at (state_of c.args.self.now) c.args.seat).pending 0)
          (λ pending. IsRight (state_of c.args.self.now) pending.statement pending.awaited (ready_of ready)))) (sym c.from_residual.ensures) tt;
      sound = subst (λ (parts : CoreParts). IsSound (state_of parts)) c.self.view_is c.self.invariant.0.sound;
    }

pub snapshot_of-snapshot-requires : goal.snapshot_of-snapshot-requires
snapshot_of-snapshot-requires c = asked-rise _ c.self.invariant.0

pub take_kept-groups-requires : goal.take_kept-groups-requires
take_kept-groups-requires c = asked-rise _ c.self.invariant.0

-- the parts before, and what is known of them
abbrev before : (c : goal.After-ready_with) → CoreParts
before c = parts_by c.self.inside.settings c.self.inside.tables c.self.inside.log c.self.inside.seats c.self.inside.asked
    c.self.inside.manager c.self.inside.filters c.self.inside.scan c.self.inside.distributor c.self.inside.flights
    c.self.inside.pool c.self.inside.cut c.self.inside.last_statement c.self.inside.last_batch c.self.inside.last_version
    c.self.inside.marks

found : (c : goal.After-ready_with)
    → next_number (before c).lives (statements_at (before c).seats c.args.seat) ≡ Some c.in_ok-number.number
found c =
    let low = seat-there (before c) c.args.self.now c.self.inside.seats c.args.seat c.self.view_is refl c.requires in
    let statements = seat-read c.self.inside.seats c.as_slice.result.now c.args.seat c.index-as_slice-seat.result c.as_slice.ensures low
    c.index-as_slice-seat.is in
    ap (next_number c.self.inside.manager) (sym statements) ∙ sym c.next_number.ensures ∙ c.in_ok-number.was

ready : (c : goal.After-ready_with) → next_ready (state_of (before c)) c.args.seat ≡ Some (ready_of c.ready_with.result)
ready c =
    reply-ready c.next_replies_follow_the_core.ensures.closed (before c) c.args.seat c.in_ok-number.number c.snapshot_of-snapshot.result
    c.take_kept-groups.result c.take_first-standing.result (ready_of c.ready_with.result) c.self.invariant.0 (record {
      number_is = found c;
      snapshot_is = λ some. c.snapshot_of-snapshot.ensures (subst (λ o. IsSome o) c.take_kept-groups.ensures.groups some);
      groups_are = c.take_kept-groups.ensures.groups;
      standing_is = c.take_first-standing.ensures.first;
      ready_is = c.ready_with.ensures;
    })

becomes : (c : goal.After-ready_with) → Becomes
    (record (before c) { seats = statements_in c.take_first-standing.new.seats; asked = c.settle.new.self.items })
    (after_taking c.args.seat (state_of (before c)))
becomes c =
    reply-becomes c.taken_replies_follow_the_core.ensures (before c) c.args.seat c.in_ok-number.number (ready_of c.ready_with.result)
    (statements_in c.take_first-standing.new.seats) c.settle.new.self.items c.self.invariant.0 (found c) (ready c) (record {
      seat_takes = c.take_first-standing.ensures.taken;
      others_stay = c.take_first-standing.ensures.others;
      asked_are = c.settle.ensures.items ∙ ap (λ (asked : AskedQueries). asked.items) c.take_kept-groups.ensures.left;
    })

pub invariant_of-self : goal.invariant_of-self
invariant_of-self c = (
  (becomes c).core,
  c.self.invariant.1,
  c.settle.ensures.finished (finished-on c.self.inside.manager c.self.inside.manager c.self.inside.asked c.take_kept-groups.new.self
      (on-same c.self.inside.manager c.self.inside.manager refl) (ap (λ (asked : AskedQueries). asked.gone) c.take_kept-groups.ensures.left)
      (ap (λ (asked : AskedQueries). asked.handed) c.take_kept-groups.ensures.left) c.self.invariant.2),
  c.self.invariant.3,
  c.self.invariant.4,
  c.self.invariant.5,
)

pub returns : goal.returns
returns c = record {
  ready = sym (subst (λ seen. next_ready (state_of seen) c.args.seat ≡ Some (ready_of c.ready_with.result)) c.self.view_is (ready c));
  taken = λ some. (becomes c).state ∙ ap (λ seen. after_taking c.args.seat (state_of seen)) c.self.view_is;
  none = λ no. absurd (none-some c.ready_with.result (sym no));
  beside = ap beside_of c.self.view_is;
  right = subst (λ seen. IfSome (slice_get (seat_at (state_of seen) c.args.seat).pending 0)
      (λ pending. IsRight (state_of seen) pending.statement pending.awaited (ready_of c.ready_with.result))) c.self.view_is
      (reply-right c.a_reply_that_may_be_taken_is_right.ensures.right (before c) c.args.seat (ready_of c.ready_with.result)
      c.self.invariant.0 (ready c));
  sound = (becomes c).core.sound;
}

use Rattle.std.proofs.Common.{ℕ}
use Rattle.board_lock.specs.Seats.{view_of}
use Rattle.worker_gate.specs.Turns.{sight_in}
use Rattle.worker_gate.proofs.TurnLemmas.{same-then}
use Rattle.script_run.specs.Home.{LetsGo}
use Rattle.script_run.proofs.SeatFrontLemmas.{by-number}
use Rattle.session_server.specs.declared.session_end.SessionEnd.TheVariants as end
use Rattle.session_server.proofs.EndLemmas.{lets-end}
use Rattle.session_server.proofs.session.serve_session.Goals as goal

pub returns-in-WriteFault-clause-same : goal.returns-in-WriteFault-clause-same
returns-in-WriteFault-clause-same g c =
    same-then c.args.front.now.seat c.play_session.new.front.seat c.let_go.new.front.seat c.in-WriteFault.ensures.seat.same c.let_go.ensures.same

pub returns-in-WriteFault-clause-answers : goal.returns-in-WriteFault-clause-answers
returns-in-WriteFault-clause-answers g c =
    let old = view_of c.args.front.now.seat in
    let mid = view_of c.play_session.new.front.seat in
    let new = view_of c.let_go.new.front.seat in
    lets-end end.WriteFault old.number (sight_in old) (sight_in mid) (sight_in new) _ _ _ _ (λ whole. whole) c.in-WriteFault.ensures.made
    c.in-WriteFault.ensures.answers
    (by-number (λ (number : ℕ). LetsGo number (sight_in mid) (sight_in new)) c.args.front.now.seat c.play_session.new.front.seat
    c.in-WriteFault.ensures.seat.same c.let_go.ensures.lets_go)

pub returns-in-Memory-clause-same : goal.returns-in-Memory-clause-same
returns-in-Memory-clause-same g c =
    same-then c.args.front.now.seat c.play_session.new.front.seat c.let_go-in-Memory.new.front.seat c.in-Memory.ensures.seat.same
    c.let_go-in-Memory.ensures.same

pub returns-in-Memory-clause-answers : goal.returns-in-Memory-clause-answers
returns-in-Memory-clause-answers g c =
    let old = view_of c.args.front.now.seat in
    let mid = view_of c.play_session.new.front.seat in
    let new = view_of c.let_go-in-Memory.new.front.seat in
    lets-end end.Memory old.number (sight_in old) (sight_in mid) (sight_in new) _ _ _ _ (λ whole. whole) c.in-Memory.ensures.made
    c.in-Memory.ensures.answers
    (by-number (λ (number : ℕ). LetsGo number (sight_in mid) (sight_in new)) c.args.front.now.seat c.play_session.new.front.seat
    c.in-Memory.ensures.seat.same c.let_go-in-Memory.ensures.lets_go)

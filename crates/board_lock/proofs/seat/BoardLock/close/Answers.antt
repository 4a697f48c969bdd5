use Rattle.std.proofs.Common.{rules, ◌≡◌, ℕ, ◌≤◌, Some, sym, ◌∙◌, subst}
use mathlib.Core.Option.{some-injective}
use Rattle.board_lock.specs.Seats.{view_of}
use Rattle.board_lock.specs.Views.{Finds}
use Rattle.board_lock.proofs.BoardLemmas.{closes}
use Rattle.board_lock.proofs.seat.BoardLock.close.Goals as goal

pub unwrap-requires : goal.unwrap-requires
unwrap-requires g c =
    let ended = closes _ _ _ _ _ _ _ _ (search rules) (search rules) (search rules) (search rules) c.close_with-closed.ensures.values.2 in
    let is : c.take-slot.result ≡ Some ended.0 = some-injective _ _ (sym c.take-slot.ensures.value ∙ ended.1) in search rules

pub returns-clause-finds : goal.returns-clause-finds
returns-clause-finds g c =
    let ended = closes _ _ _ _ _ _ _ _ (search rules) (search rules) (search rules) (search rules) c.close_with-closed.ensures.values.2 in
    let is : c.take-slot.result ≡ Some ended.0 = some-injective _ _ (sym c.take-slot.ensures.value ∙ ended.1) in
    let same : ended.0 ≡ c.unwrap.result = search rules in
    subst (λ state. Finds g.S.Board.row g.S.Board.empty g.S.Board.commits g.S.Board.fixed (view_of c.args.seat) state) same ended.2

pub returns-clause-unmade : goal.returns-clause-unmade
returns-clause-unmade g c =
    let ended = closes _ _ _ _ _ _ _ _ (search rules) (search rules) (search rules) (search rules) c.close_with-closed.ensures.values.2 in
    let is : c.take-slot.result ≡ Some ended.0 = some-injective _ _ (sym c.take-slot.ensures.value ∙ ended.1) in
    let same : ended.0 ≡ c.unwrap.result = search rules in
    subst (λ state. (k : ℕ) → (view_of c.args.seat).made ≤ k → g.S.Board.row state k ≡ g.S.Board.empty) same ended.3

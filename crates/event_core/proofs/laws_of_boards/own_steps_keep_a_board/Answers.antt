use Rattle.event_core.proofs.Words.{◌∙◌, ◌≡◌, ap, CoreParts, Option, Some, state_of, subst, sym, ℕ}
use mathlib.Core.List.{IsPrefix}
use Rattle.board_lock.specs.Views.{fixed_in, Keeps, list_in, row_in}
use Rattle.board_lock.specs.declared.view.View.{View}
use Rattle.core_state.specs.Rows.{IsMindful, row_of, SeatRow}
use Rattle.event_core.specs.Board.{core_entries, core_row, core_settings, CoreRow, first_row}
use Rattle.event_core.specs.CoreParts.{LeavesLoans, Loan, loan_of}
use Rattle.event_core.proofs.laws_of_boards.own_steps_keep_a_board.Goals as goal

-- another seat's row is as it was found
same-row : (found core : CoreParts) (seat : ℕ) → row_of (state_of core) seat ≡ row_of (state_of found) seat
    → loan_of core seat ≡ loan_of found seat → core_row core seat ≡ core_row found seat
same-row found core seat rows loans =
    ap (λ row. made row (loan_of core seat)) rows ∙ ap (made (row_of (state_of found) seat)) loans
  where
    made : SeatRow → Option Loan → CoreRow
    made row loan = record { row = row; loan = loan }

-- each other row is as it was found, the entries go on, and the settings stay
kept : (view : View CoreParts) (found core : CoreParts) → view.last ≡ Some found → IsMindful view.number (state_of found) (state_of core)
    → LeavesLoans view.number found core → Keeps core_row first_row core_entries core_settings view core
kept view found core last mindful loans = record {
  others = λ seat other. same-row found core seat (mindful.rows seat other) (loans seat other)
      ∙ ap (λ o. row_in core_row first_row o seat) (sym last);
  goes_on = subst (λ o. IsPrefix (list_in core_entries o) (core_entries core)) (sym last) (mindful.since, sym mindful.entries);
  settled = ap (fixed_in core_settings) last ∙ ap Some (sym mindful.settings);
}

pub returns : goal.returns
returns c = kept

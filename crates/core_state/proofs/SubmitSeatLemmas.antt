-- A seat is sound after it submits a statement, and after another does.
use Rattle.core_state.proofs.Words.{◌++◌, ◌<◌, ◌∙◌, ◌∷◌, ◌≡◌, ◌≤◌, [], Accepted, accepted_at, All, All-contains, All-push, All-weaker, all_pairs_push, AllPairs, ap, append_assoc, awaited_by, Contains, Contains-append_left, Contains-push, IfSome, inl, inr, IsAccountedFor, IsAwaited, IsSomeAnd, IsSoundSeat, List, map, map_push, option_map, Pending, query_in, QueryLife, Seat, State, subst, sym, Told, with_statement, ℕ, ⊎_elim}
use Rattle.core_state.proofs.FrameLemmas as frame
use Rattle.core_state.proofs.FrameLemmas.{Wanted, numbers_of, seat-lasts}

-- what is found by the numbers that were given is as before
pub record Still (old new : State) : Type 0 where
  pub asked : (number : ℕ) → number ≤ old.numbers.statement → accepted_at new.accepted number ≡ accepted_at old.accepted number
  pub lives : (number : ℕ) → number ≤ old.numbers.statement
      → query_in new.lives.queries number ≡ query_in old.lives.queries number

numbers-low : (state : State) (seat : Seat) → IsSoundSeat state.numbers.statement state.accepted state.lives.queries seat → All (λ n. n ≤ state.numbers.statement) (numbers_of seat)
numbers-low state seat is =
    All-weaker (Contains seat.submitted) (λ n. n ≤ state.numbers.statement)
    (λ n has. All-contains (λ s. s ≤ state.numbers.statement) seat.submitted n is.given has) (numbers_of seat) is.submitted

-- a seat that submits nothing
pub seat-later : (old new : State) → Still old new → old.numbers.statement ≤ new.numbers.statement → (seat : Seat)
    → IsSoundSeat old.numbers.statement old.accepted old.lives.queries seat → IsSoundSeat new.numbers.statement new.accepted new.lives.queries seat
seat-later old new still later seat =
    seat-lasts old.numbers.statement new.numbers.statement old.accepted new.accepted old.lives.queries new.lives.queries seat later
    (λ number low. record {
      none = λ none. still.asked number low ∙ none;
      has = λ query snapshot. subst (λ o. IsSomeAnd o (λ (asked : Accepted). (asked.query ≡ query) × (asked.snapshot ≡ snapshot)))
          (sym (still.asked number low));
      told = subst (λ o. IfSome (option_map (λ (entry : QueryLife). entry.life) o) frame.Told) (sym (still.lives number low));
      lost = λ was. ap (option_map (λ (entry : QueryLife). entry.life)) (still.lives number low) ∙ was;
    })
    (λ k d inside low. subst (λ o. IfSome (option_map (λ (entry : QueryLife). entry.life) o) Wanted) (sym (still.lives _ low)))

-- a seat with a statement above those before
pub seat-with : (state : State) (statement : ℕ) (told : Told) (seat : Seat) → All (λ s. s < statement) seat.submitted
    → statement ≤ state.numbers.statement → IsAwaited state.accepted state.lives.queries statement (awaited_by told) → IsSoundSeat state.numbers.statement state.accepted state.lives.queries seat
    → IsSoundSeat state.numbers.statement state.accepted state.lives.queries (with_statement statement told seat)
seat-with state statement told seat above given waits is = record {
  rising = all_pairs_push (λ number later. number < later) seat.submitted statement is.rising above;
  given = All-push (λ s. s ≤ state.numbers.statement) seat.submitted statement is.given given;
  in_order = subst (AllPairs (λ number later. number < later)) (sym same)
      (all_pairs_push (λ number later. number < later) (numbers_of seat) statement is.in_order
      (All-weaker (Contains seat.submitted) (λ n. n < statement)
      (λ n has. All-contains (λ s. s < statement) seat.submitted n above has) (numbers_of seat) is.submitted));
  submitted = subst (All (Contains (seat.submitted ++ statement ∷ []))) (sym same)
      (All-push (Contains (seat.submitted ++ statement ∷ [])) (numbers_of seat) statement
      (All-weaker (Contains seat.submitted) (Contains (seat.submitted ++ statement ∷ []))
      (λ n has. Contains-append_left seat.submitted (statement ∷ []) n has) (numbers_of seat) is.submitted)
      (Contains-push seat.submitted statement));
  taken = is.taken;
  awaited = All-push (λ pending. IsAwaited state.accepted state.lives.queries pending.statement pending.awaited) seat.pending waiting is.awaited waits;
  whole = All-push (IsAccountedFor state.lives.queries (with_statement statement told seat)) seat.submitted statement
      (All-weaker (IsAccountedFor state.lives.queries seat) (IsAccountedFor state.lives.queries (with_statement statement told seat))
      (λ number is. ⊎_elim (λ taken. inl taken) (λ other. inr (⊎_elim
      (λ waits. inl (pends number (Contains-append_left before (statement ∷ []) number waits))) (λ lost. inr lost) other)) is)
      seat.submitted is.whole)
      (inr (inl (pends statement (Contains-push before statement))));
}
  where
    waiting : Pending
    waiting = record { statement = statement; awaited = awaited_by told }

    before : List ℕ
    before = map (λ pending. pending.statement) seat.pending

    pends : (number : ℕ) → Contains (before ++ statement ∷ []) number → Contains (map (λ pending. pending.statement) (seat.pending ++ waiting ∷ [])) number
    pends number = subst (λ numbers. Contains numbers number) (sym (map_push (λ (p : Pending). p.statement) seat.pending waiting))

    same : map (λ taken. taken.statement) seat.taken ++ map (λ pending. pending.statement) (seat.pending ++ waiting ∷ [])
        ≡ numbers_of seat ++ statement ∷ []
    same =
        ap (λ back. map (λ taken. taken.statement) seat.taken ++ back) (map_push (λ (p : Pending). p.statement) seat.pending waiting)
        ∙ sym (append_assoc (map (λ taken. taken.statement) seat.taken) (map (λ pending. pending.statement) seat.pending) (statement ∷ []))

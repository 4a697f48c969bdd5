-- The words that many files of proofs here take from elsewhere, passed on by one module.
pub use Rattle.std.proofs.Common.{◌*◌, ◌+◌, ◌-◌, ◌<◌, ◌∙◌, ◌∷◌, ◌≡◌, ◌≢◌, ◌≤◌, ◌⊎◌, [], ap, arith, Bool, cond, eq-eqb, eqb, false, find, get_or, inl, inr, length, List, map, None, not, Ok, Option, option_map, refl, set, Some, subst, suc, sym, true, zero, ℕ, ⊎_elim}
pub use Rattle.std.proofs.lemmas.Bool.{cases_eq, cases_lt, eqb-true}
pub use Rattle.std.proofs.lemmas.List.{get_or_default, length-set}
pub use Rattle.std.proofs.lemmas.List.Elements.{All-cons, All-filter, All-get_or, All-head, All-map, All-nil, All-push, All-tail, All-weaker}
pub use Rattle.std.proofs.lemmas.List.Quantifiers.{position-Some}
pub use Rattle.std.proofs.lemmas.List.Sums.{sum_by-cons, sum_by-set}
pub use Rattle.std.proofs.lemmas.Result.{on_ok_weaker}
pub use Rattle.std.specs.Int.{bit_at}
pub use Rattle.std.specs.List.{fold, list_any}
pub use Rattle.std.specs.Option.{option_map_or}
pub use Rattle.std.specs.Prelude.{◌↔◌, All, Any, count_by, IfSome, is_some, IsSome, IsSomeAnd, IsTrue, sum_by}
pub use Rattle.bit_words.specs.Sets.{Has}
pub use Rattle.pipeline_manager.proofs.LifeLemmas.{life_in-same, oldest-waits}
pub use Rattle.pipeline_manager.proofs.QueryLemmas.{query_in-found}
pub use Rattle.pipeline_manager.specs.Changes.{after_built, after_cleared, after_end, after_free, after_reserve, after_run, after_spoil, covered, cut_life, cut_query, given_up, is_ending, renewed, started, with_answer, with_dimension, with_life, with_slot, without_dimension}
pub use Rattle.pipeline_manager.specs.Conditions.{CanBuild, CanClear, CanEnd, CanFree, CanRun, is_open, IsHolderOver, IsRunning, IsToClear}
pub use Rattle.pipeline_manager.specs.Lives.{extent_in, is_free, is_held_by, is_waiting, life_in, life_of, Lives, oldest_waiting, query_in, slot_at, slot_of}
pub use Rattle.pipeline_manager.specs.Sound.{AreRising, IsLeft, slots_held}
pub use Rattle.pipeline_manager.specs.declared.life.Life.{Life}
pub use Rattle.pipeline_manager.specs.declared.life.QueryLife.{QueryLife}
pub use Rattle.pipeline_manager.specs.declared.life.SlotState.{SlotState}
pub use Rattle.pipeline_manager.specs.declared.life.SlotState.TheVariants.{Clearing, Free, Held}
pub use Rattle.continuous_scan.proofs.LapLemmas.{first_cases}
pub use Rattle.continuous_scan.specs.Range.{first_of}
pub use Rattle.core_state.proofs.AcceptedLemmas.{find-holds, find-none}
pub use Rattle.core_state.proofs.CutLapLemmas.{covered-same}
pub use Rattle.core_state.proofs.CutLifeLemmas.{cut-cases}
pub use Rattle.core_state.proofs.CutRowsLemmas.{cut_flight}
pub use Rattle.core_state.proofs.CutRunsLemmas.{Cuts, cuts, life-runs, Runs, some-runs}
pub use Rattle.core_state.proofs.DistributeLemmas.{without_flight}
pub use Rattle.core_state.proofs.FoundLemmas.{find-passes}
pub use Rattle.core_state.proofs.StepLemmas.{StepsKeep}
pub use Rattle.core_state.proofs.WholeFrameLemmas.{by-option, IsStill, lives_by, Spoils}
pub use Rattle.core_state.specs.Cutting.{after_cutting, end_in, first_in}
pub use Rattle.core_state.specs.Events.{IsEnabled, IsThrough, MayCut}
pub use Rattle.core_state.specs.Found.{accepted_at, flight_at}
pub use Rattle.core_state.specs.Sound.{IsNext, IsSound}
pub use Rattle.core_state.specs.State.{Accepted, Flight, ScanState, State}
pub use Rattle.core_state.specs.Tables.{tables_by, tables_of, versions_in}
pub use Rattle.core_state.specs.declared.event.Event.{Event}
pub use Rattle.core_state.specs.declared.event.Event.TheVariants.{Abandon, Build, Carry, Clear, Cut, Distribute, Finish, Give, Release, Reorder, Reserve, Start, Submit, Take}
pub use Rattle.event_core.specs.Chosen.{AreIdle, IsManaged, IsOfKind, kind_of, NoneMayCome}
pub use Rattle.event_core.specs.Seen.{state_of}
pub use Rattle.event_core.specs.Took.{IsLed, IsSpoilt, Took, TookAll}
pub use Rattle.event_core.specs.declared.choosing.EventKind.{EventKind}
pub use Rattle.core_driver.specs.Driven.{Admits, AnswersAll, AreTurns, CutsAll, IsCut, IsDriven, IsFinished, IsFreeOrRuns, IsFreeOrUnderWay, IsLanded, IsOfAdmission, IsOfLanding, IsOfRound, IsOfSome, IsReorder, IsRound, IsQuiet, IsTurn, IsUnderWay, IsWholeTurn, LandsAndTurns, MayGoOn, NoneOfMayCome, Rises, StaysIdle}
pub use Rattle.core_driver.specs.Lap.{BeganAt, CameRound, HasLap, HasSlotsForAll, is_to_start, is_unfinished, IsEnd, IsLedCutting, IsLeftBetween, IsOnItsWay, IsToComeRound, EndsWithin, NoneIsToStart, positions_of, SharesLap, SomeRuns, TookCutting, unfinished_in}
pub use Rattle.core_driver.specs.Work.{all_to_cut, steps_to_free, TookSome, work_in}

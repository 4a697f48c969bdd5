-- The words that many files of proofs here take from elsewhere, passed on by one module.
pub use Rattle.std.proofs.Common.{◌*◌, ◌++◌, ◌+◌, ◌-◌, ◌/◌, ◌<◌, ◌||◌, ◌∙◌, ◌∷◌, ◌≡◌, ◌≢◌, ◌≤◌, [], ap, append-nil, append_assoc, arith, Bool, cond, drop, eq-eqb, eqb, Err, false, get_or, inl, inr, length, length-append, List, map, None, Ok, Option, option_map, refl, Result, slice_get, Some, subst, suc, sym, take, take-append-drop, true, zero, ℕ, ⊎_elim}
pub use Rattle.std.proofs.KnownBytes.{Appends-nil, Appends-trans, Consumes-nil, Consumes-trans}
pub use Rattle.std.proofs.lemmas.Bool.{cases_lt, ne_eqb}
pub use Rattle.std.proofs.lemmas.List.{get_or-set_same, get_or_past, length-drop, map-append}
pub use Rattle.std.proofs.lemmas.List.Elements.{All-append, All-cons, All-head, All-nil, All-tail, All-weaker}
pub use Rattle.std.proofs.lemmas.List.Sums.{fold-append}
pub use Rattle.std.proofs.lemmas.Result.{err_from_is_err_and, on_ok_weaker}
pub use Rattle.std.specs.Io.KnownBytes.{Appends, Consumes}
pub use Rattle.std.specs.List.{list_any}
pub use Rattle.std.specs.Option.{option_and_then, option_map_or}
pub use Rattle.std.specs.Prelude.{◌⊎◌, All, Contains, count_by, find, IfOk, IfSome, if◌then◌else◌, IsSome, IsSomeAnd, IsTrue, OnOk, option_to_list}
pub use Rattle.star_values.specs.declared.refusal.Refusal.{Refusal}
pub use Rattle.star_io.specs.Transfer.{AppendsFront}
pub use Rattle.script_reader.specs.Reading.{MayCome, Reading, StaysFed, TakesFirst, WantsMemory}
pub use Rattle.script_reader.specs.Script.{statements_of}
pub use Rattle.script_reader.specs.declared.reader.TheConstants.{SCRIPT_LIMIT}
pub use Rattle.script_reader.specs.declared.statement.Statement.{Statement}
pub use Rattle.star_plan.specs.Test.{Query}
pub use Rattle.pipeline_manager.specs.Conditions.{is_open}
pub use Rattle.pipeline_manager.specs.Lives.{life_in, life_of, Lives, query_in}
pub use Rattle.pipeline_manager.specs.Sound.{AreRising}
pub use Rattle.pipeline_manager.specs.declared.life.Life.{Life}
pub use Rattle.pipeline_manager.specs.declared.life.Life.TheVariants.{Abandoned, Answered, Building, Spoiled, Waiting}
pub use Rattle.pipeline_manager.specs.declared.life.QueryLife.{QueryLife}
pub use Rattle.query_meaning.specs.Alone.{alone}
pub use Rattle.query_meaning.specs.History.{after_change, Change, DimensionDeclared, Ended, FactDeclared, Loaded, store_of}
pub use Rattle.query_meaning.specs.Keyed.{plain}
pub use Rattle.query_meaning.specs.Store.{Store}
pub use Rattle.reply_text.specs.Text.{text_of, text_of_all}
pub use Rattle.reply_text.specs.declared.reply.Reply.{Reply}
pub use Rattle.reply_text.specs.declared.reply.Reply.TheVariants.{Answer, Commit, Memory, Overflow, Refused, Table, Waited}
pub use Rattle.star_store.specs.Effect.{answer_reply, effect_of, reply_to, store_after}
pub use Rattle.star_store.specs.Laws.{AgreesWith}
pub use Rattle.star_store.specs.Outcome.{Outcome, outcome_by, outcome_of, Told}
pub use Rattle.star_store.specs.Script.{history_after, is_wanted_at, replies_after, replies_of}
pub use Rattle.star_store.specs.Text.{meaning_of}
pub use Rattle.core_state.proofs.AcceptedLemmas.{find-holds}
pub use Rattle.core_state.proofs.AskLemmas.{of-numbers}
pub use Rattle.core_state.proofs.LaterLemmas.{entries-by}
pub use Rattle.core_state.proofs.WholeToldLemmas.{aside-outcome}
pub use Rattle.core_state.specs.Answers.{IsRight, IsTakenAs}
pub use Rattle.core_state.specs.Events.{IsEnabled, LeavesSeats}
pub use Rattle.core_state.specs.Found.{accepted_at}
pub use Rattle.core_state.specs.Queries.{accepted_by, given_in, queries_among}
pub use Rattle.core_state.specs.Sound.{empty_core, IsAwaited, IsSound, IsSoundQuery, IsSoundSeat}
pub use Rattle.core_state.specs.State.{Accepted, Asked, Awaited, Entry, Pending, Replied, ScanState, Seat, State, Taken}
pub use Rattle.core_state.specs.Steps.{after_step, after_steps, Done, MayStep, MayStepAll, Replying, Step, Wanting}
pub use Rattle.core_state.specs.Submitting.{after_abandoning, after_outcome, after_submitting, after_taking, awaited_by, empty_seat, forgotten, next_ready, ready_to, seat_at, taken_by, with_change, with_query, with_seat, with_taken, without_pending}
pub use Rattle.core_state.specs.Tables.{changes_of, tables_by, tables_of, versions_in}
pub use Rattle.core_state.specs.declared.event.Event.{Event}
pub use Rattle.core_state.specs.declared.event.Event.TheVariants.{Abandon, Submit}
pub use Rattle.core_state.specs.declared.settings.RunSettings.{RunSettings}
pub use Rattle.event_core.specs.Chosen.{AreIdle}
pub use Rattle.event_core.specs.Replies.{first_open, IsReplyOf, ready_of}
pub use Rattle.event_core.specs.Seen.{state_of}
pub use Rattle.event_core.specs.Took.{IsLed, Took, TookAll}
pub use Rattle.event_core.specs.declared.replies.Ready.{Ready}
pub use Rattle.core_driver.proofs.LapCountLemmas.{count-cons}
pub use Rattle.core_driver.specs.Driven.{IsDriven}
pub use Rattle.script_run.specs.Answer.{HasNoStatement}
pub use Rattle.script_run.specs.Counted.{OnlyTakesReplies, CountsOne, FrontParts, GoesRound, is_query, IsCounted, IsOverOrWaits, KnowsCore, LapsOn, one_if, queries_awaited, told_of}
pub use Rattle.script_run.specs.End.{end_of_all, end_of_halt}
pub use Rattle.script_run.specs.Front.{Finishes, GivesStatement, IsOfRun, IsRun}
pub use Rattle.script_run.specs.Laps.{laps_of, placed, rows_needed}
pub use Rattle.script_run.specs.Pieces.{fed_with}
pub use Rattle.script_run.specs.Replied.{AreReplied, HaltsBehind, IsReplied, Replies, RepliesFirst}
pub use Rattle.script_run.specs.Run.{HasEnded, is_refusal, IsFront, IsProperFront, script_replies, script_text, some_refused, within_limit}
pub use Rattle.script_run.specs.Shared.{AnswersBy}
pub use Rattle.script_run.specs.Told.{BeginAnswered, MayBegin, TellsScript}
pub use Rattle.script_run.specs.Waiting.{is_wait, means_wait}
pub use Rattle.script_run.specs.declared.halt.Halt.{Halt}
pub use Rattle.script_run.specs.declared.halt.Halt.TheVariants.{NoMemory, WriteFault}

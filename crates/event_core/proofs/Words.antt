-- The words that many files of proofs here take from elsewhere, passed on by one module.
pub use Rattle.std.proofs.Common.{◌&&◌, ◌*◌, ◌++◌, ◌+◌, ◌-◌, ◌<◌, ◌||◌, ◌∙◌, ◌∷◌, ◌≡◌, ◌≢◌, ◌≤◌, ◌⊎◌, [], ap, append-nil, arith, Bool, cond, drop, eq-eqb, eqb, false, get_or, inl, inr, length, List, map, None, not, Ok, Option, option_map, refl, replicate, set, slice_get, Some, subst, suc, sym, take, true, zero, ℕ, ⊎_elim}
pub use Rattle.std.proofs.Math.Seq.{get_or-append_seam}
pub use Rattle.std.proofs.lemmas.Bool.{cases_eq, cases_lt, eqb-true, ne_eqb, not-true}
pub use Rattle.std.proofs.lemmas.List.{get_or-map, get_or-set_other, get_or-set_same, get_or_past, length-append, length-map, length-set, map-set, map_push}
pub use Rattle.std.proofs.lemmas.List.Elements.{All-append, All-cons, All-contains, All-head, All-map, All-nil, All-push, All-tail, Contains-get_or, filter_map-append}
pub use Rattle.std.proofs.lemmas.List.Folds.{list_any_none, position_or_len-set}
pub use Rattle.std.proofs.lemmas.List.FromFn.{get_or-range_with_len, length-range_with_len}
pub use Rattle.std.proofs.lemmas.List.Quantifiers.{position-Some}
pub use Rattle.std.proofs.lemmas.List.Sums.{fold-append}
pub use Rattle.std.proofs.lemmas.Option.{get_or_from_slice_get, none-some, same_Some, slice_get-get_or, slice_get_within}
pub use Rattle.std.specs.Int.{bit_at}
pub use Rattle.std.specs.List.{cons_option, filter_map, list_all, list_any, position_or_len, range_with_len, refill}
pub use Rattle.std.specs.Option.{is_none, option_and_then, option_map_or}
pub use Rattle.std.specs.Prelude.{◌↔◌, All, AllPairs, Contains, find, fold, IfSome, is_some, IsSome, IsSomeAnd, IsTrue, position}
pub use Rattle.star_values.specs.Value.{kinds_in}
pub use Rattle.star_values.specs.Roomy.{Roomy}
pub use Rattle.script_reader.specs.declared.statement.Statement.{Statement}
pub use Rattle.star_plan.specs.Columns.{fact_columns}
pub use Rattle.star_plan.specs.Fits.{selection_fits}
pub use Rattle.star_plan.specs.Test.{Query, query_of, Selection, selection_of}
pub use Rattle.star_plan.specs.declared.schema.Schema.{Schema}
pub use Rattle.star_plan.specs.declared.star_query.StarQuery.{StarQuery}
pub use Rattle.star_plan.specs.declared.table.Table.TheVariants.{Dimension, Fact}
pub use Rattle.star_plan.specs.declared.table_def.TableDef.{TableDef}
pub use Rattle.fact_versions.specs.declared.version.Version.{Version}
pub use Rattle.dimension_rows.specs.declared.dimension_row.DimensionRow.{DimensionRow}
pub use Rattle.bit_words.proofs.SetLemmas.{Has-with}
pub use Rattle.bit_words.specs.Sets.{Has, with_number}
pub use Rattle.frame_pool.specs.Stock.{Stock}
pub use Rattle.batch_flow.specs.Rows.{Rows}
pub use Rattle.dimension_filter.specs.declared.drop_tally.DropTally.{DropTally}
pub use Rattle.pipeline_manager.proofs.HolderLemmas.{slot_of-begun, slot_of-holder}
pub use Rattle.pipeline_manager.specs.Changes.{after_abandon, after_cut, after_end, after_reserve, after_run, after_spoil, after_submit, with_life, with_slot}
pub use Rattle.pipeline_manager.specs.Conditions.{CanAbandon, CanBuild, CanClear, CanEnd, CanFree, CanRun, CanSpoil, is_begun, is_open, IsNew}
pub use Rattle.pipeline_manager.specs.Lives.{extent_in, is_held_by, life_in, life_of, Lives, query_in, slot_at, slot_of}
pub use Rattle.pipeline_manager.specs.declared.life.Life.{Life}
pub use Rattle.pipeline_manager.specs.declared.life.Life.TheVariants.{Abandoned, Answered, Building, Spoiled}
pub use Rattle.pipeline_manager.specs.declared.life.QueryLife.{QueryLife}
pub use Rattle.pipeline_manager.specs.declared.life.SlotState.{SlotState}
pub use Rattle.pipeline_manager.specs.declared.life.SlotState.TheVariants.{Clearing, Free, Held}
pub use Rattle.star_plan.specs.Declaration.{references}
pub use Rattle.query_meaning.proofs.FoundLemmas.{find_position}
pub use Rattle.query_meaning.specs.Accepted.{Accepts, AcceptsAll}
pub use Rattle.query_meaning.specs.History.{after_change, Change, store_of}
pub use Rattle.query_meaning.specs.Keyed.{IsKeyed, KeyedStore, plain, plain_version}
pub use Rattle.query_meaning.specs.Settled.{IsSettled}
pub use Rattle.query_meaning.specs.Store.{empty_store, rows_in, Store}
pub use Rattle.dimension_filter.specs.Changes.{CanAdd, filter_with, filter_without}
pub use Rattle.dimension_filter.specs.Filter.{Filter}
pub use Rattle.continuous_scan.proofs.LapLemmas.{range_parts}
pub use Rattle.continuous_scan.specs.Calls.{CanCut}
pub use Rattle.continuous_scan.specs.Range.{after_stop, end_in, first_in, new_scan, some_run}
pub use Rattle.continuous_scan.specs.Scanning.{Running, Scanning}
pub use Rattle.continuous_scan.specs.Stamped.{batch_of, CanTestAll}
pub use Rattle.aggregations.specs.Grouped.{Grouped, grouped_of}
pub use Rattle.distributor.specs.Folded.{after_batch}
pub use Rattle.distributor.specs.Slots.{AreAttached}
pub use Rattle.reply_text.specs.declared.reply.Reply.{Reply}
pub use Rattle.star_store.specs.Applied.{Follows}
pub use Rattle.star_store.specs.Kinds.{kind_of_change}
pub use Rattle.star_store.specs.Outcome.{Outcome, outcome_of, Told}
pub use Rattle.star_store.specs.declared.applied.Applied.TheVariants.{Changed}
pub use Rattle.star_store.specs.declared.applied.ChangeKind.{ChangeKind}
pub use Rattle.star_values.proofs.PlaceLemmas.{refill-all}
pub use Rattle.core_parts.proofs.TurnLemmas.{first_of}
pub use Rattle.core_parts.specs.Asked.{AreFinished, AreAskedRising, asked_at, AskedQueries, AskedQuery, known_in, with_kept, with_kept_at}
pub use Rattle.core_parts.specs.Filters.{next_of, plus, with_new}
pub use Rattle.core_parts.specs.Flights.{entry_by, flight_as, flights_as, passed_in, roster_by, Through, Wants}
pub use Rattle.core_parts.specs.InFlight.{passed_by}
pub use Rattle.core_parts.specs.Known.{Known, known_at, Reach, reach_at, reaches_in}
pub use Rattle.core_parts.specs.Passed.{flight_behind, tally_of}
pub use Rattle.core_parts.specs.Seats.{awaited_as, pending_as, seat_as}
pub use Rattle.core_parts.specs.Lent.{Flight, lent_to}
pub use Rattle.core_parts.specs.declared.submitted.Standing.{Standing}
pub use Rattle.core_parts.specs.declared.submitted.Standing.TheVariants.{IsAbandoned, IsAnswered, IsAsked, IsTaken, Waits}
pub use Rattle.core_parts.specs.declared.submitted.Submitted.{Submitted}
pub use Rattle.core_state.proofs.AcceptedLemmas.{find-holds, held-accepted}
pub use Rattle.core_state.proofs.AskLemmas.{of-numbers}
pub use Rattle.core_state.proofs.AttachedFrameLemmas.{attached-count, attached-get}
pub use Rattle.core_state.proofs.CutFoundLemmas.{find-there}
pub use Rattle.core_state.proofs.CutRosterLemmas.{holds-slot}
pub use Rattle.core_state.proofs.FoundLemmas.{find-passes, some-at, some-by}
pub use Rattle.core_state.proofs.HandedAfterLemmas.{after_flight}
pub use Rattle.core_state.proofs.HandedLivesLemmas.{others-stay}
pub use Rattle.core_state.proofs.HandedSlotLemmas.{gets, held-there, kept-none, kept_by, one-slot}
pub use Rattle.core_state.proofs.ScannedOverLemmas.{life-accepted}
pub use Rattle.core_state.proofs.ScannedTestLemmas.{FitByKinds}
pub use Rattle.core_state.specs.Admitting.{after_build, after_build_wants, after_clear, after_finish, after_reserving, after_start, selection_in, versions_in_hands}
pub use Rattle.core_state.specs.Answers.{IsRight}
pub use Rattle.core_state.specs.Cutting.{after_cutting, after_distribute, after_give, after_reorder, after_take, frame_words, gets_rows, order_by, roster_of, slots_of, with_tally}
pub use Rattle.core_state.specs.Events.{after_event, AreFed, IsEnabled, IsThrough, IsWanting, MayCut, MayDistribute, MayFinish, MayReserve, MayTake}
pub use Rattle.core_state.specs.Found.{accepted_at, entry_of, flight_at, held_by, holder_of, version_at}
pub use Rattle.core_state.specs.Handed.{attached_to, detached_for, fed_in, LeavesAttached}
pub use Rattle.core_state.specs.Logged.{EndsAscending}
pub use Rattle.core_state.specs.Numbered.{counted, last_after, next_number}
pub use Rattle.core_state.specs.Scanned.{AreTablesOf, IsScannedAs, LeavesScan, life_at, stopped_for}
pub use Rattle.core_state.specs.Settings.{AreWithin, frames_of}
pub use Rattle.core_state.specs.Sound.{empty_core, IsKept, IsSound, IsSoundQuery}
pub use Rattle.core_state.specs.State.{Accepted, Asked, Awaited, Entry, Filters, FilterVersion, Numbers, OnRoster, Pending, Replied, Seat, State}
pub use Rattle.core_state.specs.Steps.{after_step, Done, MayStep, Step, Wanting}
pub use Rattle.core_state.specs.Submitting.{after_abandoning, after_outcome, after_submitting, after_taking, empty_seat, forgotten, next_ready, Ready, ready_to, seat_at, with_taken, without_pending}
pub use Rattle.core_state.specs.Tables.{changes_of, filter_dimensions, tables_by, tables_of, versions_in}
pub use Rattle.core_state.specs.declared.event.Event.{Event}
pub use Rattle.core_state.specs.declared.event.Event.TheVariants.{Abandon, Build, Clear, Cut, Distribute, Finish, Give, Release, Reorder, Reserve, Start, Submit, Take}
pub use Rattle.core_state.specs.declared.settings.RunSettings.{RunSettings}
pub use Rattle.event_core.specs.Changes.{abandoned, accepted, built, changed, cleared, cut_into, distributed, finished, first_parts, forgotten_at, given, logged, reordered, reserved, started, statements_at, submitted, taken, unbuilt, unheld, with_filters_for, with_first_filters}
pub use Rattle.event_core.specs.Chosen.{AreIdle, IsPassing, NoneMayCome}
pub use Rattle.event_core.specs.Core.{AreHolders, Becomes, CanCutNext, HasRoom, holders_in, IsCore, LeavesRest}
pub use Rattle.event_core.specs.CoreParts.{CoreParts, parts_by}
pub use Rattle.event_core.specs.Seen.{accepted_as, accepted_in, attached_for, attached_or, entries_as, state_of}
pub use Rattle.event_core.specs.Taking.{kept_for, ready_with, snapshot_for}
pub use Rattle.event_core.specs.Took.{IsLed, TookAll}
pub use Rattle.event_core.specs.contracts.machine.Core.{the_view}
pub use Rattle.event_core.specs.declared.logged.Logged.{Logged}

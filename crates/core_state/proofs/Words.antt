-- The words that many files of proofs here take from elsewhere, passed on by one module.
pub use Rattle.std.proofs.Common.{◌&&◌, ◌*◌, ◌++◌, ◌+◌, ◌-◌, ◌<◌, ◌||◌, ◌∙◌, ◌∷◌, ◌≡◌, ◌≢◌, ◌≤◌, ◌⊎◌, [], add-one, ap, append-nil, append_assoc, arith, Bool, cond, drop, eq-eqb, eqb, Err, false, get_or, inl, inr, length, length-append, List, ltb, map, min, nat_le, nat_lt, None, not, Ok, Option, option_map, refl, replicate, Result, set, slice_get, Some, subst, suc, sym, take, true, zero, ℕ, ⊎_elim}
pub use Rattle.std.proofs.lemmas.Bool.{cases_eq, cases_lt, eqb-false, eqb-true, ltb-false, ltb-true, ne_eqb}
pub use Rattle.std.proofs.lemmas.Bool.Decides.{nat_tests}
pub use Rattle.std.proofs.lemmas.List.{ext_get_or, get_or-map, get_or-replicate, get_or-set_other, get_or-set_same, get_or_append_left, get_or_default, get_or_past, length-map, length-replicate, length-set, length-take-le, map-append, map_push}
pub use Rattle.std.proofs.lemmas.List.Elements.{All-append, All-cons, All-contains, All-contains_itself, All-filter, All-head, All-map, All-nil, All-push, All-set, All-tail, All-weaker, Contains-append_left, Contains-append_right, Contains-get_or, Contains-push, Contains-push_cases, filter-append, filter_map-append, filter_passes}
pub use Rattle.std.proofs.lemmas.List.Folds.{Any-from_list_any, list_any-from_Any, list_any_at}
pub use Rattle.std.proofs.lemmas.List.FromFn.{get_or-map-range_with_len, get_or-range_with_len, length-map-range_with_len, length-range_with_len}
pub use Rattle.std.proofs.lemmas.List.Kept.{AllPairs-cons, AllPairs-filter}
pub use Rattle.std.proofs.lemmas.List.Quantifiers.{all_pairs_push, position-Some}
pub use Rattle.std.proofs.lemmas.List.Sorted.{All-permutation, IsPermutation-append_left, IsPermutation-append_right, IsPermutation-refl, IsPermutation-sym, IsPermutation-trans}
pub use Rattle.std.proofs.lemmas.List.Sums.{fold-append, get_or-le-sum_by}
pub use Rattle.std.proofs.lemmas.Nat.Bits.{bit_at-zero}
pub use Rattle.std.proofs.lemmas.Option.{IfSome_then, none-some, same_Some, slice_get-get_or}
pub use Rattle.std.specs.Int.{bit_at}
pub use Rattle.std.specs.List.{cons_option, filter, filter_map, fold, list_all, list_any, position_or_len, range_with_len}
pub use Rattle.std.specs.List.Sorted.{IsPermutation}
pub use Rattle.std.specs.Option.{option_and_then, option_map_or}
pub use Rattle.std.specs.Prelude.{◌==◌, ◌↔◌, All, AllPairs, Any, Contains, find, flat_map, IfOk, IfSome, is_none, is_some, IsSome, IsSomeAnd, IsTrue, slice_index_or}
pub use Rattle.star_values.specs.declared.refusal.Refusal.{Refusal}
pub use Rattle.star_values.specs.declared.refusal.Refusal.TheVariants.{Limit, OutOfOrder, UnknownName}
pub use Rattle.star_values.specs.Roomy.{Roomy}
pub use Rattle.script_reader.specs.declared.statement.Block.{Block}
pub use Rattle.script_reader.specs.declared.statement.Statement.{Statement}
pub use Rattle.star_plan.specs.Answer.{answer_of}
pub use Rattle.star_plan.specs.Columns.{fact_columns}
pub use Rattle.star_plan.specs.Joined.{is_kept, Joined, takes, takes_at}
pub use Rattle.star_plan.specs.Over.{is_named, IsOver}
pub use Rattle.star_plan.specs.Row.{value_in}
pub use Rattle.star_plan.specs.Test.{AllRows, Chosen, Query, query_of, Selection, Test, Unnamed}
pub use Rattle.star_plan.specs.Truth.{passes}
pub use Rattle.star_plan.specs.declared.schema.Schema.{Schema}
pub use Rattle.star_plan.specs.declared.table.Table.TheVariants.{Dimension, Fact}
pub use Rattle.star_plan.specs.declared.table_def.TableDef.{TableDef}
pub use Rattle.fact_versions.specs.Visible.{is_visible}
pub use Rattle.fact_versions.specs.declared.version.Version.{Version}
pub use Rattle.dimension_rows.specs.Keys.{has_key, index_of}
pub use Rattle.dimension_rows.specs.declared.dimension_row.DimensionRow.{DimensionRow}
pub use Rattle.bit_words.proofs.SetLemmas.{Has-with}
pub use Rattle.bit_words.specs.Sets.{Has, with_number}
pub use Rattle.batch_flow.specs.Rows.{key_place, Rows}
pub use Rattle.dimension_filter.specs.declared.drop_tally.DropTally.{DropTally}
pub use Rattle.pipeline_manager.proofs.HolderLemmas.{built_of-holder, slot_of-begun, slot_of-holder}
pub use Rattle.pipeline_manager.proofs.LifeLemmas.{life_in-cut, life_in-other, life_in-same, oldest-waits, query_in-map, query_in-push_other, query_in-push_same, renewed-number}
pub use Rattle.pipeline_manager.specs.Changes.{after_abandon, after_end, after_spoil, covered, cut_life, cut_query, given_up, is_ending, renewed, started, with_dimension, with_life, with_slot, without_dimension}
pub use Rattle.pipeline_manager.specs.Conditions.{CanAbandon, CanBuild, CanClear, CanFree, CanRun, CanSpoil, is_begun, is_open}
pub use Rattle.pipeline_manager.specs.Lives.{extent_in, life_in, life_of, Lives, query_in, slot_at, slot_of}
pub use Rattle.pipeline_manager.specs.Sound.{IsLeft}
pub use Rattle.pipeline_manager.specs.declared.life.Life.{Life}
pub use Rattle.pipeline_manager.specs.declared.life.QueryLife.{QueryLife}
pub use Rattle.pipeline_manager.specs.declared.life.SlotState.{SlotState}
pub use Rattle.pipeline_manager.specs.declared.life.SlotState.TheVariants.{Clearing, Free, Held}
pub use Rattle.star_plan.specs.Declaration.{declared_dimension, declared_fact, references}
pub use Rattle.star_binder.specs.Named.{where_conjuncts}
pub use Rattle.star_binder.specs.Refused.{bound_delete, bound_select}
pub use Rattle.star_binder.specs.Select.{select_of}
pub use Rattle.star_binder.specs.Table.{declared_table}
pub use Rattle.query_meaning.proofs.FoundLemmas.{position_there, slice_get_at}
pub use Rattle.query_meaning.proofs.LaterLemmas.{still_live}
pub use Rattle.query_meaning.proofs.ApartLemmas.{all_pairs_head, all_pairs_tail}
pub use Rattle.query_meaning.proofs.LoadedLemmas.{all_at, in_grown}
pub use Rattle.query_meaning.specs.Accepted.{Accepts, AcceptsAll}
pub use Rattle.query_meaning.specs.Alone.{alone, foreign_key, is_matched, joined, joined_row, kept, names, row_of_key}
pub use Rattle.query_meaning.specs.History.{after_change, Change, DimensionDeclared, Ended, FactDeclared, Loaded, rows_by, store_of, versions_by, with_end, with_ends}
pub use Rattle.query_meaning.specs.Keyed.{HasKeyNumbers, joined_by_keys, KeyedStore, plain, plain_version}
pub use Rattle.query_meaning.specs.Settled.{IsDated, IsMatched, IsPlaceOf, IsSettled}
pub use Rattle.query_meaning.specs.Store.{empty_store, PlainVersion, rows_in, Store}
pub use Rattle.star_store.specs.Deletes.{delete_change}
pub use Rattle.dimension_filter.specs.Changes.{filter_with}
pub use Rattle.dimension_filter.specs.Filter.{Filter, vector_of}
pub use Rattle.dimension_filter.specs.Pass.{bits_left_at, filtered}
pub use Rattle.continuous_scan.proofs.LapLemmas.{first_cases, length-lap, next_cases, place_cases, start_cases}
pub use Rattle.continuous_scan.specs.Calls.{below}
pub use Rattle.continuous_scan.specs.Lap.{lap, lap_start, next_below, place_in_lap, still_to_come}
pub use Rattle.continuous_scan.specs.Range.{cut_slot, end_at_start, first_of}
pub use Rattle.continuous_scan.specs.Scanning.{Running, Scanning}
pub use Rattle.aggregations.specs.Folding.{with_row}
pub use Rattle.aggregations.specs.Grouped.{Grouped, grouped_of}
pub use Rattle.distributor.specs.Folded.{versions_for, versions_of, with_batch, with_versions}
pub use Rattle.reply_text.specs.declared.reply.Reply.{Reply}
pub use Rattle.star_store.specs.Fitting.{FitsTables}
pub use Rattle.star_store.specs.Outcome.{block_bytes, committed, declared, deleted, meaning_outcome, Outcome, outcome_by, outcome_of, refused, selected, Told}
pub use Rattle.star_store.specs.Text.{meaning_of}
pub use Rattle.core_state.specs.Admitting.{after_build, after_build_wants, after_clear, after_finish, after_release, after_reserving, after_start, selection_in, versions_in_hands, with_built, with_version}
pub use Rattle.core_state.specs.Answers.{IsRight}
pub use Rattle.core_state.specs.Beside.{IsOfRows, IsSoundBeside, with_entry}
pub use Rattle.core_state.specs.Cutting.{after_carry, after_cutting, after_distribute, after_give, after_reorder, after_take, bits_of, end_in, fed, first_in, frame_words, gets_rows, given_back, passed_by, roster_of, rows_for, rows_to_cut, slots_of, starts_of, takes_version, tallies_after, unkept, versions_from, with_rows}
pub use Rattle.core_state.specs.Events.{AreFed, IsEnabled, IsFed, IsThrough, MayCarry, MayCut, MayDistribute, MayFinish, MayReserve, MayTake}
pub use Rattle.core_state.specs.Flown.{Encodes, FitsSlot, IsClearOf, IsOnRoster, IsSoundBatch, IsSoundFilter, IsSoundHand, IsSoundRow, keeps_so_far, MayBeOnRoster}
pub use Rattle.core_state.specs.Found.{accepted_at, entry_of, flight_at, has_passed, has_passed_all, held_by, holder_of, is_empty, is_held_by, is_on_roster, running_at, start_at, start_in, version_at}
pub use Rattle.core_state.specs.Handed.{AreKeyedTablesOf, attached_at, attached_to, fed_at, fed_in}
pub use Rattle.core_state.specs.Logged.{EndsAscending, facts_loaded_by, positions_ended_by, rows_loaded_by}
pub use Rattle.core_state.specs.Numbered.{counted, last_after, last_number, next_number}
pub use Rattle.core_state.specs.Scanned.{AreTablesOf, IsSameRun, IsScannedAs, life_at, RunsAs, RunsAt}
pub use Rattle.core_state.specs.Sound.{AreSoundBatches, AreSoundFilters, AreSoundHands, AreSoundNumbers, AreSoundQueries, AreSoundSeats, AreSoundSlots, AreSoundVersions, empty_core, HasAccepted, HasTaken, IsAnswer, IsAwaited, IsCovered, IsKept, IsNext, IsPresentByNumber, IsQuietBefore, IsSound, IsSoundAccepted, IsSoundOrder, IsSoundQuery, IsSoundSeat, IsSoundStore, IsTaken, kept_at, positions_for, to_come, versions_at}
pub use Rattle.core_state.specs.State.{Accepted, Asked, Awaited, Entry, Filters, FilterVersion, Flight, Hand, Numbers, OnRoster, Pending, Replied, ScanState, Seat, State, Taken}
pub use Rattle.core_state.specs.Steps.{after_step, after_steps, awaited_at, Done, MaySpoil, MayStep, MayStepAll, Replying, Step, Wanting}
pub use Rattle.core_state.specs.Submitting.{after_abandoning, after_outcome, after_submitting, after_taking, awaited_by, empty_seat, first_versions, forgotten, Grouping, groups_in, next_ready, Ready, ready_by, ready_to, seat_at, taken_by, Whole, with_change, with_query, with_seat, with_statement, with_taken, without_groups, without_pending}
pub use Rattle.core_state.specs.Tables.{changes_of, filter_dimensions, key_number, key_numbers, tables_by, tables_of, versions_in}
pub use Rattle.core_state.specs.Whole.{IsAccountedFor}
pub use Rattle.core_state.specs.declared.event.Event.{Event}
pub use Rattle.core_state.specs.declared.event.Event.TheVariants.{Abandon, Build, Carry, Clear, Cut, Distribute, Finish, Give, Release, Reorder, Reserve, Start, Submit, Take}
pub use Rattle.core_state.specs.declared.settings.RunSettings.{RunSettings}

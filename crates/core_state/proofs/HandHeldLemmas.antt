-- What a worker took stays right while it holds it, whatever is committed meanwhile.
use Rattle.core_state.proofs.Words.{◌*◌, ◌++◌, ◌+◌, ◌<◌, ◌↔◌, ◌∙◌, ◌≡◌, AcceptsAll, All, All-contains, All-weaker, ap, arith, changes_of, Contains, empty_store, Entry, filter_dimensions, Flight, frame_words, Hand, Has, IfSome, IfSome_then, IsOnRoster, IsSome, IsSound, IsSoundBatch, IsSoundHand, length, List, None, Option, refl, slice_get, Some, State, subst, sym, TableDef, tables_by, tables_of, ℕ}
use Rattle.core_state.specs.Flown.{IsSoundTask}
use Rattle.core_state.specs.Hands.{StandsFor}
use Rattle.core_state.proofs.FoundLemmas.{some-at}
use Rattle.core_state.proofs.GivenLemmas.{Settles}
use Rattle.core_state.proofs.GrownBatchLemmas.{batch-grown}
use Rattle.core_state.proofs.GrownFilterLemmas.{hand-grown}
use Rattle.core_state.proofs.GrownRowsLemmas.{Grows}
use Rattle.core_state.proofs.HandTablesLemmas.{tables-grown}

-- while a batch is in flight, the fact table is declared
fact-there : (state : State) (flight : Flight) → IsSound state → Contains state.scan.flights flight → IsSome (tables_of state).schema.fact
fact-there state flight sound flies = by_fact (tables_of state).schema.fact refl
  where
    by_fact : (o : Option TableDef) → (tables_of state).schema.fact ≡ o → IsSome o
    by_fact None none =
        let empty : length state.scan.flights ≡ 0 = ap length (sound.quiet none).1 in
        let low = flies.1 in absurd (omega arith)
    by_fact (Some table) some = refl

-- the tables of a later core are those of an earlier one, grown
pub later-grown : (before after : State) (flight : Flight) (more : List Entry) → IsSound before → IsSound after
    → after.entries ≡ before.entries ++ more → Contains before.scan.flights flight → Grows (tables_of before) (tables_of after)
later-grown before after flight more sound later entries flies =
    subst (λ all. Grows (tables_of before) (tables_by all)) (sym entries)
    (tables-grown before.entries more (fact-there before flight sound flies)
    (subst (λ all. AcceptsAll empty_store (changes_of all)) entries later.store))

-- the filters of a later core are those of an earlier one
same-filters : (before after : State) → IsSound before → IsSound after → Grows (tables_of before) (tables_of after)
    → (dimension : ℕ) → Has after.lives.filters dimension ↔ Has before.lives.filters dimension
same-filters before after sound later grows dimension = (
  λ has. (sound.filters.set dimension).1
      (subst (λ schema. Contains (filter_dimensions schema) dimension) grows.schema ((later.filters.set dimension).0 has)),
  λ has. (later.filters.set dimension).1
      (subst (λ schema. Contains (filter_dimensions schema) dimension) (sym grows.schema) ((sound.filters.set dimension).0 has)),
)

-- a batch that a worker took is sound in a later core
batch-held : Settles → (before after : State) (flight home : Flight) → IsSound before → IsSound after
    → after.settings ≡ before.settings → Grows (tables_of before) (tables_of after)
    → IsSoundBatch (frame_words before) (tables_of before) before.lives before.accepted flight
    → IsSoundBatch (frame_words after) (tables_of after) after.lives after.accepted home → StandsFor flight home
    → IsSoundBatch (frame_words after) (tables_of after) after.lives after.accepted flight
batch-held settles before after flight home sound later settings grows old now alike = record {
  within = let low = now.within in let first = alike.first in let count = alike.count in omega arith;
  bits = old.bits;
  keys = old.keys;
  room = old.room ∙ ap (λ settings. 16 + settings.batch * 16) (sym settings);
  roster = subst (λ roster. All (IsOnRoster after.lives after.accepted) roster) alike.roster now.roster;
  slots = old.slots;
  rows = λ row low. IfSome_then (slice_get (tables_of after).versions (flight.rows.first + row)) (grown.rows row low)
      (λ version r. record {
        keys = λ dimension has. r.keys dimension ((same-filters before after sound later grows dimension).0 has);
        bits = r.bits;
        others = r.others;
      });
}
  where
    grown : IsSoundBatch (frame_words before) (tables_by after.entries) before.lives before.accepted flight
    grown = batch-grown before after.entries sound (settles (changes_of before.entries) sound.store) grows flight old

-- what a worker took is sound in a later core
hand-held : (before after : State) (flight : Flight) (hand : Hand) → IsSound before → IsSound after → after.settings ≡ before.settings
    → Grows (tables_of before) (tables_of after) → All (IsOnRoster before.lives before.accepted) flight.roster
    → IsSoundHand (length before.seats) before.lives.filters (tables_of before) flight hand
    → IsSoundHand (length after.seats) after.lives.filters (tables_of after) flight hand
hand-held before after flight hand sound later settings grows roster old = record {
  seat = subst (λ n. hand.worker < n) (sound.seats.count ∙ ap (λ settings. settings.seats) (sym settings) ∙ sym later.seats.count) old.seat;
  each = All-weaker (λ version. IsSoundTask before.lives.filters (tables_by after.entries) flight version.filter)
      (λ version. IsSoundTask after.lives.filters (tables_of after) flight version.filter)
      (λ version task. record {
        table = task.table;
        is_filter = (same-filters before after sound later grows version.filter.dimension).1 task.is_filter;
        not_passed = task.not_passed;
        encodes = task.encodes;
      }) hand.versions grown.each;
  apart = old.apart;
}
  where
    grown : IsSoundHand (length before.seats) before.lives.filters (tables_by after.entries) flight hand
    grown = hand-grown before after.entries sound grows flight hand roster old

pub took-stays : Settles → (before after : State) (flight home : Flight) (hand : Hand) (more : List Entry) → IsSound before → IsSound after
    → after.settings ≡ before.settings → after.entries ≡ before.entries ++ more
    → Contains before.scan.flights flight → flight.hand ≡ Some hand → Contains after.scan.flights home → StandsFor flight home
    → IsSoundBatch (frame_words after) (tables_of after) after.lives after.accepted flight
    × IsSoundHand (length after.seats) after.lives.filters (tables_of after) flight hand
took-stays settles before after flight home hand more sound later settings entries flies held at_home alike = (
  batch-held settles before after flight home sound later settings grows of_batch
      (All-contains (IsSoundBatch (frame_words after) (tables_of after) after.lives after.accepted) after.scan.flights home later.batches at_home) alike,
  hand-held before after flight hand sound later settings grows of_batch.roster
      (some-at (IsSoundHand (length before.seats) before.lives.filters (tables_of before) flight) flight.hand hand held
      (All-contains (λ f. IfSome f.hand (IsSoundHand (length before.seats) before.lives.filters (tables_of before) f)) before.scan.flights flight
      sound.hands.each flies)),
)
  where
    grows : Grows (tables_of before) (tables_of after)
    grows = later-grown before after flight more sound later entries flies

    of_batch : IsSoundBatch (frame_words before) (tables_of before) before.lives before.accepted flight
    of_batch = All-contains (IsSoundBatch (frame_words before) (tables_of before) before.lives before.accepted) before.scan.flights flight sound.batches flies

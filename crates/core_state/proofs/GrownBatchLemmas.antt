-- Batches in flight stay sound where the tables grow.
use Rattle.core_state.proofs.Words.{◌+◌, ◌<◌, ◌↔◌, ◌∙◌, All-contains, all_at, ap, AreSoundBatches, arith, Contains, Entry, Flight, frame_words, get_or, Has, IfSome, IsMatched, IsOnRoster, IsSettled, IsSound, IsSoundBatch, IsSoundRow, IsTrue, key_number, length, List, None, OnRoster, Option, PlainVersion, slice_get, slice_index_or, Some, State, subst, sym, tables_by, tables_of, ℕ}
use Rattle.core_state.proofs.GrownFilterLemmas.{entered, snapshot-on}
use Rattle.core_state.proofs.GrownKeyLemmas.{keeps-stays, key-stays}
use Rattle.core_state.proofs.GrownRowsLemmas.{Grows, Stays, StaysThere}

-- a row of a batch is sound of a version that stays
row-grown : (state : State) (entries : List Entry) → IsSound state → Grows (tables_of state) (tables_by entries) → (flight : Flight) (row : ℕ)
    (version now : PlainVersion) → ((entry : OnRoster) → Contains flight.roster entry → IsOnRoster state.lives state.accepted entry)
    → Stays (tables_of state).commits version now
    → IsMatched (tables_of state).schema (tables_of state).dimensions version.row version.begin
    → IsSoundRow state.lives.filters (tables_of state) flight row version → IsSoundRow state.lives.filters (tables_by entries) flight row now
row-grown state entries sound grows flight row version now roster stays matched old = record {
  keys = λ dimension has. old.keys dimension has
      ∙ sym (ap (λ values. key_number (tables_by entries) values dimension) stays.row
      ∙ key-stays (tables_of state) (tables_by entries) version.row version.begin dimension grows matched);
  bits = λ entry on. subst (λ t. Has (slice_index_or flight.rows.bits row 0) entry.slot ↔ IsTrue t)
      (sym (keeps-stays (tables_of state) (tables_by entries) flight entry version now grows (snapshot-on state sound entry (roster entry on)) stays))
      (old.bits entry on);
  others = old.others;
}

-- a row of a batch is sound of what stands at its position
row-there : (state : State) (entries : List Entry) → IsSound state → Grows (tables_of state) (tables_by entries) → (flight : Flight) (row : ℕ)
    → ((entry : OnRoster) → Contains flight.roster entry → IsOnRoster state.lives state.accepted entry)
    → (before after : Option PlainVersion) → StaysThere (tables_of state).commits before after
    → IfSome before (λ version. IsMatched (tables_of state).schema (tables_of state).dimensions version.row version.begin)
    → IfSome before (IsSoundRow state.lives.filters (tables_of state) flight row) → IfSome after (IsSoundRow state.lives.filters (tables_by entries) flight row)
row-there state entries sound grows flight row roster None None stays matched old = tt
row-there state entries sound grows flight row roster None (Some now) stays matched old = absurd stays
row-there state entries sound grows flight row roster (Some version) None stays matched old = tt
row-there state entries sound grows flight row roster (Some version) (Some now) stays matched old =
    row-grown state entries sound grows flight row version now roster stays matched old

pub batch-grown : (state : State) (entries : List Entry) → IsSound state → IsSettled (tables_of state) → Grows (tables_of state) (tables_by entries)
    → (flight : Flight) → IsSoundBatch (frame_words state) (tables_of state) state.lives state.accepted flight → IsSoundBatch (frame_words state) (tables_by entries) state.lives state.accepted flight
batch-grown state entries sound settled grows flight old = record {
  within = let low = old.within in let longer = grows.longer in omega arith;
  bits = old.bits;
  keys = old.keys;
  room = old.room;
  roster = old.roster;
  slots = old.slots;
  rows = λ row low.
      let position = flight.rows.first + row in
      let within : position < length (tables_of state).versions = let all = old.within in omega arith in
      row-there state entries sound grows flight row (λ entry. All-contains (IsOnRoster state.lives state.accepted) flight.roster entry old.roster)
      (slice_get (tables_of state).versions position) (slice_get (tables_by entries).versions position) (grows.old position within)
      (all_at (λ version. IsMatched (tables_of state).schema (tables_of state).dimensions version.row version.begin) (tables_of state).versions
      position settled.versions.matched)
      (old.rows row low);
}

pub batches-grown : (state : State) (entries : List Entry) → IsSound state → IsSettled (tables_of state) → Grows (tables_of state) (tables_by entries)
    → AreSoundBatches (entered state entries)
batches-grown state entries sound settled grows = λ k d low.
    batch-grown state entries sound settled grows (get_or state.scan.flights k d) (sound.batches k d low)

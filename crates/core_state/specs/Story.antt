-- Two queries over four sales, event by event: one counts all sales, and one, which starts in
-- mid-table, those in Oslo; by batches that are taken, and by batches that are carried. And one
-- query over two dimensions, whose batches are carried through two filters.
use Rattle.std.specs.Prelude.{ℕ, pos, List, [], ◌∷◌, map, fold, codes, None, Some}
use Rattle.std.specs.Option.{option_map_or}
use Rattle.star_values.specs.declared.value.Kind.TheVariants as kind
use Rattle.star_values.specs.declared.value.Value.TheVariants.{Int, Str}
use Rattle.star_plan.specs.Test.{Query, Unnamed, Chosen, Compare}
use Rattle.star_plan.specs.declared.item.Item.TheVariants.{CountAll}
use Rattle.star_plan.specs.declared.predicate.How.TheVariants.{Eq}
use Rattle.star_plan.specs.declared.table.Table.TheVariants.{Fact, Dimension}
use Rattle.star_plan.specs.declared.table_def.TableDef.{TableDef}
use Rattle.query_meaning.specs.HistoryExamples.{sale, sales, store}
use Rattle.query_meaning.specs.History.{DimensionDeclared, FactDeclared, Loaded}
use Rattle.star_store.specs.Outcome.{Accepted, only_tells}
use Rattle.aggregations.specs.Grouped.{Tally}
use Rattle.core_parts.specs.InFlight.{numbers_in_hand}
use Rattle.core_state.specs.declared.event.Event.{Event}
use Rattle.core_state.specs.declared.event.Event.TheVariants.{Reserve, Build, Start, Cut, Take, Carry, Give, Distribute, Finish, Clear, Release, Reorder}
use Rattle.core_state.specs.declared.settings.RunSettings.{RunSettings}
use Rattle.core_state.specs.Events.{after_event}
use Rattle.core_state.specs.Sound.{empty_core}
use Rattle.core_state.specs.State.{State}
use Rattle.core_state.specs.Submitting.{after_outcome, groups_in, with_change}

-- two slots, batches of two rows, and one seat beside the front's
abbrev pub small : RunSettings
small = record { workers = 1; slots = 2; batch = 2; seats = 2 }

-- the core after some events
abbrev pub after_events : List Event → State → State
after_events events state = fold (λ before event. after_event event before) state events

-- commit 1 loads two stores, and commit 2 four sales; these were the first
-- four statements of seat 0
abbrev pub loaded : State
loaded =
    let stores =
    (Int (pos 1) ∷ Str (codes "Oslo") ∷ []) ∷ (Int (pos 2) ∷ Str (codes "Rome") ∷ []) ∷ [] in
    let sold = sale 1 5 ∷ sale 2 1 ∷ sale 1 10 ∷ sale 2 3 ∷ [] in
    let first = with_change 0 1 (DimensionDeclared store) (empty_core small) in
    let second = with_change 0 2 (FactDeclared sales) first in
    let third = with_change 0 3 (Loaded (Dimension 0) stores) second in
    let fourth = with_change 0 4 (Loaded Fact sold) third in
    record fourth { numbers = record fourth.numbers { statement = 4 } }

-- select count(*) from sales
abbrev pub all_sales : Query
all_sales = record { fact = None; choices = Unnamed ∷ []; groups = []; items = CountAll ∷ [] }

-- select count(*) from sales, store where store_id = store.id and city = 'Oslo'
abbrev pub oslo_sales : Query
oslo_sales = record {
  fact = None;
  choices = Chosen (Compare 1 Eq (Str (codes "Oslo"))) ∷ [];
  groups = [];
  items = CountAll ∷ [];
}

-- seat 0 asks a query
abbrev pub asking : Query → State → State
asking query state = after_outcome 0 (only_tells (Accepted query 2)) state

-- statement 5 is the first query: it runs in slot 0, and one batch is cut
abbrev pub first_cut : State
first_cut = after_events (Reserve 5 0 ∷ Build 5 0 ∷ Start 5 ∷ Cut ∷ []) (asking all_sales loaded)

-- statement 6 is the second query: worker 0 takes the batch, the query starts in slot 1, and
-- the batch is distributed
abbrev pub second_started : State
second_started =
    after_events (Reserve 6 1 ∷ Take 0 1 ∷ Build 6 0 ∷ Start 6 ∷ Give 0 ∷ Distribute 1 ∷ [])
    (asking oslo_sales first_cut)

-- the second batch is cut, and the first query is ending
abbrev pub second_cut : State
second_cut = after_events (Cut ∷ []) second_started

-- the second batch has passed the filter
abbrev pub second_passed : State
second_passed = after_events (Take 0 2 ∷ Give 0 ∷ []) second_cut

-- the second batch is distributed, the first query is answered, and the third batch is cut
abbrev pub third_cut : State
third_cut = after_events (Distribute 2 ∷ Finish 0 ∷ Cut ∷ []) second_passed

-- slot 0 is cleared while the third batch is in a hand
abbrev pub third_passed : State
third_passed = after_events (Take 0 3 ∷ Clear 0 0 ∷ Give 0 ∷ []) third_cut

-- slot 0 is free, and the second query is answered
abbrev pub both_answered : State
both_answered = after_events (Release 0 ∷ Distribute 3 ∷ Finish 1 ∷ []) third_passed

-- the same with batches that are carried: seat 0 carries the first while the second
-- query is built and starts
abbrev pub first_carried : State
first_carried =
    after_events (Reserve 6 1 ∷ Carry 0 1 ∷ Build 6 0 ∷ Start 6 ∷ []) (asking oslo_sales first_cut)

-- it comes home, and seat 1 carries the second batch
abbrev pub second_carried : State
second_carried = after_events (Give 0 ∷ Distribute 1 ∷ Cut ∷ Carry 1 2 ∷ []) first_carried

-- the second comes home, the first query is answered, and slot 0 is cleared while seat
-- 0 carries the third batch
abbrev pub third_carried : State
third_carried =
    after_events (Give 1 ∷ Distribute 2 ∷ Finish 0 ∷ Cut ∷ Carry 0 3 ∷ Clear 0 0 ∷ [])
    second_carried

-- the third comes home, and both queries are answered
abbrev pub both_carried : State
both_carried = after_events (Give 0 ∷ Release 0 ∷ Distribute 3 ∷ Finish 1 ∷ []) third_carried

-- dimension goods (id int key, kind text)
abbrev pub goods : TableDef
goods = record {
  name = codes "goods";
  columns = record { name = codes "id"; kind = kind.Int; target = None }
      ∷ record { name = codes "kind"; kind = kind.Text; target = None } ∷ [];
}

-- fact orders (store_id int references store, goods_id int references goods)
abbrev pub orders : TableDef
orders = record {
  name = codes "orders";
  columns = record { name = codes "store_id"; kind = kind.Int; target = Some 0 }
      ∷ record { name = codes "goods_id"; kind = kind.Int; target = Some 1 } ∷ [];
}

-- commits 1 and 2 load two stores and two kinds of goods, and commit 3 four orders; these were the
-- first six statements of seat 0
abbrev pub ordered : State
ordered =
    let stores =
    (Int (pos 1) ∷ Str (codes "Oslo") ∷ []) ∷ (Int (pos 2) ∷ Str (codes "Rome") ∷ []) ∷ [] in
    let kinds =
    (Int (pos 1) ∷ Str (codes "tea") ∷ []) ∷ (Int (pos 2) ∷ Str (codes "salt") ∷ []) ∷ [] in
    let sold = sale 1 1 ∷ sale 1 2 ∷ sale 2 1 ∷ sale 1 1 ∷ [] in
    let first = with_change 0 1 (DimensionDeclared store) (empty_core small) in
    let second = with_change 0 2 (DimensionDeclared goods) first in
    let third = with_change 0 3 (FactDeclared orders) second in
    let fourth = with_change 0 4 (Loaded (Dimension 0) stores) third in
    let fifth = with_change 0 5 (Loaded (Dimension 1) kinds) fourth in
    let sixth = with_change 0 6 (Loaded Fact sold) fifth in
    record sixth { numbers = record sixth.numbers { statement = 6 } }

-- select count(*) from orders, store, goods where store_id = store.id and city = 'Oslo' and
-- goods_id = goods.id and kind = 'tea'
abbrev pub tea_in_oslo : Query
tea_in_oslo = record {
  fact = None;
  choices =
      Chosen (Compare 1 Eq (Str (codes "Oslo"))) ∷ Chosen (Compare 1 Eq (Str (codes "tea"))) ∷ [];
  groups = [];
  items = CountAll ∷ [];
}

-- statement 7 is the query: it runs in slot 0, and one batch is cut
abbrev pub order_cut : State
order_cut = after_events (Reserve 7 0 ∷ Build 7 0 ∷ Build 7 1 ∷ Start 7 ∷ Cut ∷ [])
    (after_outcome 0 (only_tells (Accepted tea_in_oslo 3)) ordered)

-- seat 1 carries it through both filters
abbrev pub order_carried : State
order_carried = after_events (Carry 1 1 ∷ []) order_cut

-- it comes home, and is distributed; while seat 0 carries the second, the filters get another order
abbrev pub order_turned : State
order_turned = after_events (Give 1 ∷ Distribute 1 ∷ Cut ∷ Carry 0 2 ∷ Reorder ∷ []) order_carried

-- the second comes home, and the query is answered
abbrev pub order_answered : State
order_answered = after_events (Give 0 ∷ Distribute 2 ∷ Finish 0 ∷ []) order_turned

-- statement 8 asks the same again: it runs in slot 1, and seat 1 carries its
-- first batch in the new order
abbrev pub order_again : State
order_again = after_events (Reserve 8 1 ∷ Build 8 0 ∷ Build 8 1 ∷ Start 8 ∷ Cut ∷ Carry 1 3 ∷ [])
    (after_outcome 0 (only_tells (Accepted tea_in_oslo 3)) order_answered)

-- the numbers of the versions in the hand of each batch in flight
abbrev pub in_hands : State → List (List ℕ)
in_hands state = map (λ flight. numbers_in_hand flight.hand) state.scan.flights

-- the first position, the number of rows, the roster and the bits of each batch in flight
abbrev pub flying : State → List (ℕ × ℕ × ℕ × List ℕ)
flying state =
    map (λ flight. (flight.rows.first, flight.rows.count, flight.rows.roster, flight.rows.bits))
    state.scan.flights

-- what is kept for a query
abbrev pub kept_for : State → (query : ℕ) → List (List Tally)
kept_for state query =
    option_map_or (λ groups. map (λ group. group.tallies) groups.groups) (groups_in state query) []

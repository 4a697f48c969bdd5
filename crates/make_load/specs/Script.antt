-- The made workload: what is drawn, and how the script is written from it.
use Rattle.std.specs.Prelude.{ℕ, zero, suc, ◌+◌, ◌*◌, ◌-◌, ◌/◌, ◌%◌, ◌==◌, List, [], ◌∷◌, ◌++◌, codes, decimal, if◌then◌else◌}
use Rattle.make_load.specs.declared.draft.Draft.{Draft}

-- the state of the draws behind one more draw
unfoldable pub next : ℕ → ℕ
next x = (x * 1103515245 + 12345) % 2147483648

-- steps in turn, each from what the one before it made
abbrev pub in_turn : List (Draft → Draft) → Draft → Draft
in_turn [] draft = draft
in_turn (step ∷ steps) draft = in_turn steps (step draft)

-- a step for each number below so many, in their order
abbrev pub for_each : ℕ → (ℕ → Draft → Draft) → Draft → Draft
for_each zero step draft = draft
for_each (suc count) step draft = step count (for_each count step draft)

-- bytes are written
unfoldable pub say : List ℕ → Draft → Draft
say bytes draft = record { x = draft.x; text = draft.text ++ bytes }

-- a number is written
unfoldable pub tell : ℕ → Draft → Draft
tell number draft = say (decimal number) draft

-- a number is drawn and written: one of so many, from the least on
unfoldable pub draw : ℕ → ℕ → Draft → Draft
draw least range draft =
    record { x = next draft.x; text = draft.text ++ decimal (least + next draft.x / 65536 % range) }

-- a record: a key, a letter with a number, and a number from the least on
unfoldable pub named_record : List ℕ → ℕ → ℕ → ℕ → ℕ → Draft → Draft
named_record letter names least range key draft =
    in_turn (tell key ∷ say letter ∷ draw 0 names ∷ say (codes ",") ∷ draw least range
    ∷ say (codes "\n") ∷ [])
    draft

-- the block of such records with the keys below so many
unfoldable pub named_rows : ℕ → List ℕ → ℕ → ℕ → ℕ → Draft → Draft
named_rows keys letter names least range draft =
    in_turn (for_each keys (named_record letter names least range) ∷ say (codes ".\n") ∷ []) draft

-- a day: its key, its month and its weekday
unfoldable pub day : ℕ → Draft → Draft
day key draft =
    in_turn (tell key ∷ say (codes ",") ∷ tell (1 + key / 31) ∷ say (codes ",") ∷ tell (key % 7)
    ∷ say (codes "\n") ∷ [])
    draft

-- the load of a year of days
unfoldable pub days : Draft → Draft
days draft = in_turn (say (codes "load day\n") ∷ for_each 365 day ∷ say (codes ".\n") ∷ []) draft

-- the declarations of the tables
unfoldable pub tables : Draft → Draft
tables draft =
    in_turn (say (codes "dimension store (id int key, region text, size int)\n")
    ∷ say (codes "dimension product (id int key, brand text, cost int)\n")
    ∷ say (codes "dimension customer (id int key, city text, age int)\n")
    ∷ say (codes "dimension day (id int key, month int, weekday int)\n")
    ∷ say (codes "dimension promo (id int key, channel text, level int)\n")
    ∷ say (codes "fact sales (store_id int references store, product_id int references product, customer_id int references customer, day_id int references day, promo_id int references promo, units int, price int)\n")
    ∷ []) draft

-- the loads of the dimensions
unfoldable pub dimensions : Draft → Draft
dimensions draft =
    in_turn (say (codes "load store\n") ∷ named_rows 40 (codes ",R") 8 0 1000
    ∷ say (codes "load product\n") ∷ named_rows 200 (codes ",B") 25 0 500
    ∷ say (codes "load customer\n") ∷ named_rows 500 (codes ",C") 50 18 70
    ∷ days
    ∷ say (codes "load promo\n") ∷ named_rows 10 (codes ",P") 4 0 5
    ∷ []) draft

-- a number of a sale and the comma behind it
unfoldable pub draw_part : ℕ → Draft → Draft
draw_part range draft = in_turn (draw 0 range ∷ say (codes ",") ∷ []) draft

-- a sale: its five keys, its units and its price
unfoldable pub sale : Draft → Draft
sale draft =
    in_turn (draw_part 40 ∷ draw_part 200 ∷ draw_part 500 ∷ draw_part 365 ∷ draw_part 10
    ∷ draw 1 20 ∷ say (codes ",") ∷ draw 1 1000 ∷ say (codes "\n") ∷ []) draft

-- a load of so many sales
unfoldable pub sales : ℕ → Draft → Draft
sales count draft =
    in_turn (say (codes "load sales\n") ∷ for_each count (λ number. sale) ∷ say (codes ".\n") ∷ [])
    draft

-- a query with one number that is drawn
unfoldable pub ask : List ℕ → ℕ → ℕ → List ℕ → Draft → Draft
ask front least range back draft = in_turn (say front ∷ draw least range ∷ say back ∷ []) draft

-- the units by region, of small stores
unfoldable pub ask_regions : Draft → Draft
ask_regions draft =
    ask (codes "select region, count(*), sum(units) from sales, store where store_id = store.id and size < ")
    0 1000
    (codes " group by region\n") draft

-- the prices by brand, of products with a cost in a range
unfoldable pub ask_brands : Draft → Draft
ask_brands draft =
    ask (codes "select brand, sum(price), max(units) from sales, product where product_id = product.id and cost between 100 and ")
    100 400
    (codes " group by brand\n") draft

-- the sales by month, of customers from an age on
unfoldable pub ask_months : Draft → Draft
ask_months draft =
    ask (codes "select month, count(*) from sales, day, customer where day_id = day.id and customer_id = customer.id and age >= ")
    18 70
    (codes " group by month\n") draft

-- all sales of many units
unfoldable pub ask_units : Draft → Draft
ask_units draft =
    ask (codes "select count(*), sum(units), min(price) from sales where units > ") 0 20
    (codes "\n") draft

-- the prices by channel and region, of two channels and up to a price
unfoldable pub ask_channels : Draft → Draft
ask_channels draft =
    in_turn (ask (codes "select channel, region, sum(price) from sales, promo, store where promo_id = promo.id and store_id = store.id and channel in ('P0','P")
    0 4
    (codes "') and price <= ") ∷ draw 1 1000 ∷ say (codes " group by channel, region\n") ∷ []) draft

-- one query of each kind
unfoldable pub queries : Draft → Draft
queries draft =
    in_turn (ask_regions ∷ ask_brands ∷ ask_months ∷ ask_units ∷ ask_channels ∷ []) draft

-- how many sales the load of a block has: a twelfth, and in the last block what is left
unfoldable pub share : ℕ → ℕ → ℕ
share rows block = if block == 11 then rows - 11 * (rows / 12) else rows / 12

-- sales are deleted behind the queries of one block
unfoldable pub delete_behind : ℕ → Draft → Draft
delete_behind block draft =
    if block == 5 then say (codes "delete from sales where units = 7\n") draft else draft

-- a block: a load of sales, the queries, and maybe the delete
unfoldable pub block : ℕ → ℕ → Draft → Draft
block rows number draft =
    in_turn (sales (share rows number) ∷ queries ∷ delete_behind number ∷ []) draft

-- the whole script: the tables, the dimensions, twelve blocks and a `wait`
unfoldable pub script : ℕ → Draft → Draft
script rows draft =
    in_turn (tables ∷ dimensions ∷ for_each 12 (block rows) ∷ say (codes "wait\n") ∷ []) draft

-- the bytes of the script that a seed makes, with so many sales
unfoldable pub made_script : ℕ → ℕ → List ℕ
made_script seed rows = (script rows (record { x = seed; text = [] })).text

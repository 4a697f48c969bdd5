-- How many bytes each part of a made script is long, at most.
use Rattle.std.proofs.Common.{◌≡◌, ℕ, zero, suc, ◌+◌, ◌-◌, ◌*◌, ◌/◌, ◌%◌, ◌<◌, ◌≤◌, ◌==◌, List, [], ◌∷◌, Bool, true, false, length, refl, ap, arith, length-append, lit≤, codes, decimal, if◌then◌else◌}
use Rattle.std.proofs.lemmas.Fmt.{length-decimal-le}
use native.Mathlib.Nat.{mod-lt}
use Rattle.make_load.specs.declared.draft.Draft.{Draft}
use Rattle.make_load.specs.Script.{ask, ask_brands, ask_channels, ask_months, ask_regions, ask_units, block, day, days, delete_behind, dimensions, draw, draw_part, for_each, in_turn, made_script, named_record, named_rows, next, queries, sale, sales, say, script, share, tables, tell}

-- a step writes at most so many bytes
record Writes (n : ℕ) (step : Draft → Draft) : Type 0 where
  writes : (draft : Draft) → length (step draft).text ≤ length draft.text + n

-- steps in turn write at most so many bytes
record InTurn (n : ℕ) (steps : List (Draft → Draft)) : Type 0 where
  writes : (draft : Draft) → length (in_turn steps draft).text ≤ length draft.text + n

none : InTurn 0 []
none = record { writes = λ draft. omega arith }

turn : {n m : ℕ} {step : Draft → Draft} {steps : List (Draft → Draft)} → Writes n step → InTurn m steps → InTurn (n + m) (step ∷ steps)
turn {n} {m} {step} {steps} first others = record { writes = λ draft. omega (arith, first.writes draft, others.writes (step draft)) }

-- a step that is made of steps in turn
whole : {n : ℕ} {steps : List (Draft → Draft)} → (m : ℕ) (step : Draft → Draft) → InTurn n steps → n ≤ m → ((draft : Draft) → step draft ≡ in_turn steps draft) → Writes m step
whole {n} {steps} m step all fits is = record { writes = λ draft. omega (arith, all.writes draft, fits, ap (λ d. length d.text) (is draft)) }

each-by : (n count : ℕ) (step : ℕ → Draft → Draft) → ((k : ℕ) → k < count → Writes n (step k)) → (draft : Draft)
    → length (for_each count step draft).text ≤ length draft.text + count * n
each-by n zero step h draft = omega arith
each-by n (suc count) step h draft =
    omega (arith, each-by n count step (λ k below. h k (omega (arith, below))) draft, (h count (omega arith)).writes (for_each count step draft))

-- a step for each number below so many
each : (n count : ℕ) (step : ℕ → Draft → Draft) → ((k : ℕ) → k < count → Writes n (step k)) → Writes (count * n) (for_each count step)
each n count step h = record { writes = each-by n count step h }

-- ---- single steps

say-short : (bytes : List ℕ) (n : ℕ) → length bytes ≤ n → Writes n (say bytes)
unfolding say
say-short bytes n h = record { writes = λ draft. omega (arith, length-append draft.text bytes, h) }

-- a number below 10,000 has at most four digits
digits-short : (number : ℕ) → number < 10000 → length (decimal number) ≤ 4
digits-short number small = length-decimal-le 4 number (omega arith) small (omega (arith, small))

tell-short : (number : ℕ) → number < 10000 → Writes 4 (tell number)
unfolding tell
tell-short number small = record { writes = λ draft. (say-short (decimal number) 4 (digits-short number small)).writes draft }

draw-short : (least range : ℕ) → 0 < range → least + range ≤ 10000 → Writes 4 (draw least range)
unfolding draw
draw-short least range some small = record {
  writes = λ draft.
      let number = least + next draft.x / 65536 % range in
      let below = mod-lt (next draft.x / 65536) some in
      omega (arith, length-append draft.text (decimal number), digits-short number (omega (arith, below, small)));
}

comma : Writes 1 (say (codes ","))
comma = say-short (codes ",") 1 (lit≤ tt)

line_end : Writes 1 (say (codes "\n"))
line_end = say-short (codes "\n") 1 (lit≤ tt)

dot_line : Writes 2 (say (codes ".\n"))
dot_line = say-short (codes ".\n") 2 (lit≤ tt)

-- ---- the loads of the dimensions

named_record-short : (letter : List ℕ) (names least range key : ℕ) → length letter ≤ 2 → 0 < names → names ≤ 10000 → 0 < range → least + range ≤ 10000 → key < 10000
    → Writes 16 (named_record letter names least range key)
unfolding named_record
named_record-short letter names least range key h some few more fits small =
    whole 16 (named_record letter names least range key) (turn (tell-short key small) (turn (say-short letter 2 h) (turn (draw-short 0 names some (omega (arith, few)))
    (turn comma (turn (draw-short least range more fits) (turn line_end none)))))) (lit≤ tt) (λ draft. refl)

named_rows-short : (keys : ℕ) (letter : List ℕ) (names least range : ℕ) → keys ≤ 500 → length letter ≤ 2 → 0 < names → names ≤ 10000 → 0 < range
    → least + range ≤ 10000 → Writes 8002 (named_rows keys letter names least range)
unfolding named_rows
named_rows-short keys letter names least range few h some fit more fits =
    whole 8002 (named_rows keys letter names least range)
    (turn (each 16 keys (named_record letter names least range) (λ key below. named_record-short letter names least range key h some fit more fits (omega (arith, below, few))))
    (turn dot_line none)) (omega (arith, few)) (λ draft. refl)

day-short : (key : ℕ) → key < 500 → Writes 15 (day key)
unfolding day
day-short key small =
    whole 15 (day key) (turn (tell-short key (omega (arith, small))) (turn comma (turn (tell-short (1 + key / 31) (omega (arith, small)))
    (turn comma (turn (tell-short (key % 7) (omega arith)) (turn line_end none)))))) (lit≤ tt) (λ draft. refl)

days-short : Writes 5486 days
unfolding days
days-short =
    whole 5486 days (turn (say-short (codes "load day\n") 9 (lit≤ tt)) (turn (each 15 365 day (λ key below. day-short key (omega (arith, below))))
    (turn dot_line none))) (lit≤ tt) (λ draft. refl)

dimensions-short : Writes 40000 dimensions
unfolding dimensions
dimensions-short =
    whole 40000 dimensions (turn (say-short (codes "load store\n") 20 (lit≤ tt)) (turn (named_rows-short 40 (codes ",R") 8 0 1000 (lit≤ tt) (lit≤ tt) (lit≤ tt) (lit≤ tt) (lit≤ tt) (lit≤ tt))
    (turn (say-short (codes "load product\n") 20 (lit≤ tt)) (turn (named_rows-short 200 (codes ",B") 25 0 500 (lit≤ tt) (lit≤ tt) (lit≤ tt) (lit≤ tt) (lit≤ tt) (lit≤ tt))
    (turn (say-short (codes "load customer\n") 20 (lit≤ tt)) (turn (named_rows-short 500 (codes ",C") 50 18 70 (lit≤ tt) (lit≤ tt) (lit≤ tt) (lit≤ tt) (lit≤ tt) (lit≤ tt))
    (turn days-short
    (turn (say-short (codes "load promo\n") 20 (lit≤ tt)) (turn (named_rows-short 10 (codes ",P") 4 0 5 (lit≤ tt) (lit≤ tt) (lit≤ tt) (lit≤ tt) (lit≤ tt) (lit≤ tt)) none))))))))) (lit≤ tt) (λ draft. refl)

-- the declarations
tables-short : Writes 600 tables
unfolding tables
tables-short =
    whole 600 tables (turn (say-short (codes "dimension store (id int key, region text, size int)\n") 60 (lit≤ tt))
    (turn (say-short (codes "dimension product (id int key, brand text, cost int)\n") 60 (lit≤ tt))
    (turn (say-short (codes "dimension customer (id int key, city text, age int)\n") 60 (lit≤ tt))
    (turn (say-short (codes "dimension day (id int key, month int, weekday int)\n") 60 (lit≤ tt))
    (turn (say-short (codes "dimension promo (id int key, channel text, level int)\n") 60 (lit≤ tt))
    (turn (say-short (codes "fact sales (store_id int references store, product_id int references product, customer_id int references customer, day_id int references day, promo_id int references promo, units int, price int)\n") 250 (lit≤ tt))
    none)))))) (lit≤ tt) (λ draft. refl)

-- ---- the blocks

draw_part-short : (range : ℕ) → 0 < range → range ≤ 10000 → Writes 5 (draw_part range)
unfolding draw_part
draw_part-short range some small = whole 5 (draw_part range) (turn (draw-short 0 range some (omega (arith, small))) (turn comma none)) (lit≤ tt) (λ draft. refl)

sale-short : Writes 35 sale
unfolding sale
sale-short =
    whole 35 sale (turn (draw_part-short 40 (lit≤ tt) (lit≤ tt)) (turn (draw_part-short 200 (lit≤ tt) (lit≤ tt)) (turn (draw_part-short 500 (lit≤ tt) (lit≤ tt))
    (turn (draw_part-short 365 (lit≤ tt) (lit≤ tt)) (turn (draw_part-short 10 (lit≤ tt) (lit≤ tt)) (turn (draw-short 1 20 (lit≤ tt) (lit≤ tt))
    (turn comma (turn (draw-short 1 1000 (lit≤ tt) (lit≤ tt)) (turn line_end none))))))))) (lit≤ tt) (λ draft. refl)

sales-short : (count : ℕ) → Writes (count * 35 + 13) (sales count)
unfolding sales
sales-short count =
    whole (count * 35 + 13) (sales count) (turn (say-short (codes "load sales\n") 11 (lit≤ tt)) (turn (each 35 count (λ number. sale) (λ key below. sale-short))
    (turn dot_line none))) (omega arith) (λ draft. refl)

ask-short : (front : List ℕ) (least range : ℕ) (back : List ℕ) → length front ≤ 200 → 0 < range → least + range ≤ 10000 → length back ≤ 50 → Writes 254 (ask front least range back)
unfolding ask
ask-short front least range back short some fits small =
    whole 254 (ask front least range back) (turn (say-short front 200 short) (turn (draw-short least range some fits) (turn (say-short back 50 small) none)))
    (lit≤ tt) (λ draft. refl)

ask_regions-short : Writes 254 ask_regions
unfolding ask_regions
ask_regions-short = ask-short (codes "select region, count(*), sum(units) from sales, store where store_id = store.id and size < ") 0 1000 (codes " group by region\n")
    (lit≤ tt) (lit≤ tt) (lit≤ tt) (lit≤ tt)

ask_brands-short : Writes 254 ask_brands
unfolding ask_brands
ask_brands-short = ask-short (codes "select brand, sum(price), max(units) from sales, product where product_id = product.id and cost between 100 and ") 100 400
    (codes " group by brand\n") (lit≤ tt) (lit≤ tt) (lit≤ tt) (lit≤ tt)

ask_months-short : Writes 254 ask_months
unfolding ask_months
ask_months-short = ask-short (codes "select month, count(*) from sales, day, customer where day_id = day.id and customer_id = customer.id and age >= ") 18 70
    (codes " group by month\n") (lit≤ tt) (lit≤ tt) (lit≤ tt) (lit≤ tt)

ask_units-short : Writes 254 ask_units
unfolding ask_units
ask_units-short = ask-short (codes "select count(*), sum(units), min(price) from sales where units > ") 0 20 (codes "\n") (lit≤ tt) (lit≤ tt) (lit≤ tt) (lit≤ tt)

ask_channels-short : Writes 308 ask_channels
unfolding ask_channels
ask_channels-short =
    whole 308 ask_channels (turn (ask-short (codes "select channel, region, sum(price) from sales, promo, store where promo_id = promo.id and store_id = store.id and channel in ('P0','P") 0 4
    (codes "') and price <= ") (lit≤ tt) (lit≤ tt) (lit≤ tt) (lit≤ tt)) (turn (draw-short 1 1000 (lit≤ tt) (lit≤ tt)) (turn (say-short (codes " group by channel, region\n") 50 (lit≤ tt)) none)))
    (lit≤ tt) (λ draft. refl)

queries-short : Writes 1324 queries
unfolding queries
queries-short =
    whole 1324 queries (turn ask_regions-short (turn ask_brands-short (turn ask_months-short (turn ask_units-short (turn ask_channels-short none))))) (lit≤ tt) (λ draft. refl)

delete-by : (here : Bool) (bytes : List ℕ) → length bytes ≤ 50 → (draft : Draft) → length (if here then say bytes draft else draft).text ≤ length draft.text + 50
delete-by true bytes h draft = (say-short bytes 50 h).writes draft
delete-by false bytes h draft = omega arith

delete_behind-short : (number : ℕ) → Writes 50 (delete_behind number)
unfolding delete_behind
delete_behind-short number = record { writes = λ draft. delete-by (number == 5) (codes "delete from sales where units = 7\n") (lit≤ tt) draft }

share-by : (here : Bool) (rows : ℕ) → rows ≤ 1000000 → (if here then rows - 11 * (rows / 12) else rows / 12) ≤ 83344
share-by true rows few = omega (arith, few)
share-by false rows few = omega (arith, few)

share-short : (rows number : ℕ) → rows ≤ 1000000 → share rows number ≤ 83344
unfolding share
share-short rows number few = share-by (number == 11) rows few

block-short : (rows number : ℕ) → rows ≤ 1000000 → Writes 2920000 (block rows number)
unfolding block
block-short rows number few =
    whole 2920000 (block rows number) (turn (sales-short (share rows number)) (turn queries-short (turn (delete_behind-short number) none)))
    (omega (arith, share-short rows number few)) (λ draft. refl)

-- ---- the whole script

script-short : (rows : ℕ) → rows ≤ 1000000 → Writes 35100000 (script rows)
unfolding script
script-short rows few =
    whole 35100000 (script rows) (turn tables-short (turn dimensions-short (turn (each 2920000 12 (block rows) (λ number below. block-short rows number few))
    (turn (say-short (codes "wait\n") 5 (lit≤ tt)) none)))) (lit≤ tt) (λ draft. refl)

pub made_script-short : (seed rows : ℕ) → rows ≤ 1000000 → length (made_script seed rows) ≤ 67108864
unfolding made_script
made_script-short seed rows few = omega (arith, (script-short rows few).writes (record { x = seed; text = [] }))

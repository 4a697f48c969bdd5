-- What is seen of a slot at which seats have groups of their own, as one of them, or what is at home, changes.
use Rattle.std.proofs.Common.{append_assoc, drop, ◌≡◌, ℕ, zero, suc, ◌+◌, ◌<◌, ◌≤◌, ◌==◌, Bool, true, false, cond, List, [], ◌∷◌, ◌++◌, length, map, get_or, set, take, refl, ap, sym, subst, ◌∙◌, arith}
use Rattle.std.specs.Prelude.{All, Option, None, Some, option_map, IfSome, IsTrue}
use Rattle.std.specs.List.{list_any}
use Rattle.std.proofs.lemmas.Bool.{eqb-true}
use Rattle.std.proofs.Math.Seq.{take-append_seam}
use Rattle.std.proofs.lemmas.List.{append-nil, get_or-set_same, length-map, length-set, set-set}
use Rattle.std.proofs.lemmas.Option.{same_Some}
use Rattle.std.proofs.lemmas.List.Elements.{All-head, All-nil, All-set, All-tail, All-weaker}
use Rattle.std.proofs.lemmas.List.Sums.{fold-append}
use Rattle.star_values.specs.declared.value.Value as cell
use Rattle.star_plan.specs.declared.item.Item.{Item}
use Rattle.star_plan.specs.declared.place.Place.{Place}
use Rattle.aggregations.specs.Absorbing.{absorbed, first_of, with_all, with_rows_behind, without_rows}
use Rattle.aggregations.specs.Folding.{has_key, key_by, no_rows, with_group, with_key, with_row}
use Rattle.aggregations.specs.Grouped.{AreOfItems, Group, Grouped}
use Rattle.aggregations.specs.Homes.{keys_in}
use Rattle.aggregations.proofs.AbsorbLemmas.{any_keys}
use Rattle.aggregations.proofs.EachLemmas.{has, has_stays, of_items-with_key}
use Rattle.aggregations.proofs.HomeLemmas.{keys-push}
use Rattle.aggregations.proofs.KeyLemmas.{Key, same}
use Rattle.aggregations.proofs.PartialLemmas.{keys-member, of_items-with_row}
use Rattle.shared_distributor.specs.Apart.{HasGrown, HasMoved, IsApart, IsLater, IsPart, IsSlot, MayFoldApart, seen_with, with_own, with_owns}
use Rattle.distributor.specs.Slots.{HaveRoom}
use Rattle.aggregations.specs.Taken.{AreKnown, HasFirst, HasKeys, HasKeysOf, HaveNoTexts, with_keys, with_keys_of}

-- Groups that have grown.

pub grown-same : (g : Grouped) → HasGrown g g
grown-same g = record { places = refl; items = refl; shaped = λ own. own; keys = λ key there. there }

pub grown-then : (g h k : Grouped) → HasGrown g h → HasGrown h k → HasGrown g k
grown-then g h k first second = record {
  places = second.places ∙ first.places;
  items = second.items ∙ first.items;
  shaped = λ own. second.shaped (first.shaped own);
  keys = λ key there. second.keys key (first.keys key there);
}

has_row : (key : Key) (values : Place → cell.Value) (g : Grouped) → has key g.groups ≡ true → has key (with_row values g).groups ≡ true
has_row key values g there =
    any_keys key (with_row values g).groups
    ∙ ap (λ (keys : List Key). list_any (same key) keys) (keys-member values (with_group values g))
    ∙ sym (any_keys key (with_group values g).groups)
    ∙ has_stays g.items key (key_by values g) g.groups there

grown-row : (values : Place → cell.Value) (g : Grouped) → HasGrown g (with_row values g)
grown-row values g = record {
  places = refl;
  items = refl;
  shaped = λ own. of_items-with_row values g own;
  keys = λ key there. has_row key values g there;
}

-- by rows
pub grown-all : (rows : List (Place → cell.Value)) (g : Grouped) → HasGrown g (with_all rows g)
grown-all [] g = grown-same g
grown-all (values ∷ rows) g =
    grown-then g (with_row values g) (with_all (values ∷ rows) g) (grown-row values g) (grown-all rows (with_row values g))

-- by groups of no rows
grown-keys : (keys : List Key) (g : Grouped) → HasGrown g (record g { groups = with_keys g.items keys g.groups })
grown-keys [] g = grown-same g
grown-keys (key ∷ keys) g =
    let more : Grouped = record g { groups = with_key g.items key g.groups } in
    grown-then g more (record g { groups = with_keys g.items (key ∷ keys) g.groups })
    (record {
      places = refl;
      items = refl;
      shaped = λ own. of_items-with_key g.items key g.groups own;
      keys = λ other there. has_stays g.items other key g.groups there;
    })
    (grown-keys keys more)

-- groups of no rows of the same query are the same
pub bare-grown : (g h : Grouped) → HasGrown g h → without_rows h ≡ without_rows g
bare-grown g h grown = λ i. record {
  places = grown.places i;
  items = grown.items i;
  rows = 0;
  groups = first_of (grown.places i) (grown.items i);
}

known-grown : (rows : List (Place → cell.Value)) (g h : Grouped) → HasGrown g h → AreKnown rows g → AreKnown rows h
known-grown rows g h grown known =
    All-weaker (λ (values : Place → cell.Value). IsTrue (list_any (has_key (key_by values g)) g.groups))
    (λ (values : Place → cell.Value). IsTrue (list_any (has_key (key_by values h)) h.groups))
    (λ values there. subst (λ (places : List Place). IsTrue (list_any (has_key (map values places)) h.groups)) (sym grown.places)
    (grown.keys (key_by values g) there))
    rows known

keys-grown : (keys : List Key) (g h : Grouped) → HasGrown g h → HasKeys keys g.groups → HasKeys keys h.groups
keys-grown keys g h grown have =
    All-weaker (λ (key : Key). IsTrue (list_any (has_key key) g.groups)) (λ (key : Key). IsTrue (list_any (has_key key) h.groups)) grown.keys keys
    have

-- what was folded apart stays so as the groups at home grow
pub apart-grown : (g h own : Grouped) → HasGrown g h → IsApart g own → IsApart h own
apart-grown g h own grown apart = record {
  rows = apart.rows;
  folded = apart.folded ∙ ap (with_all apart.rows) (sym (bare-grown g h grown));
  known = known-grown apart.rows g h grown apart.known;
  keys = keys-grown (keys_in own.groups) g h grown apart.keys;
  plain = apart.plain;
}

pub part-later : (home later own : Option Grouped) → IsLater home later → IsPart home own → IsPart later own
part-later home None own later part = tt
part-later None (Some new) own later part = absurd later
part-later (Some old) (Some new) None later part = tt
part-later (Some old) (Some new) (Some own) later part = apart-grown old new own later part

-- Rows.

absorbed_by : (none : Bool) (own g : Grouped) → own.rows == 0 ≡ none → (cond none g (with_rows_behind own g)).rows ≡ g.rows + own.rows
absorbed_by true own g is = let none : own.rows ≡ 0 = eqb-true own.rows 0 is in omega arith
absorbed_by false own g is = refl

-- groups with others have the rows of both
pub rows-absorbed : (own g : Grouped) → (absorbed own g).rows ≡ g.rows + own.rows
rows-absorbed own g = absorbed_by (own.rows == 0) own g refl

rows-own : (own : Option Grouped) (g : Grouped) → g.rows ≤ (with_own own g).rows
rows-own None g = omega arith
rows-own (Some own) g = let both = rows-absorbed own g in omega arith

-- so does what is seen
pub rows-owns : (owns : List (Option Grouped)) (g : Grouped) → g.rows ≤ (with_owns owns g).rows
rows-owns [] g = omega arith
rows-owns (own ∷ owns) g = let here = rows-own own g in let rest = rows-owns owns (with_own own g) in omega arith

pub rows-seat : (owns : List (Option Grouped)) (k : ℕ) (own g : Grouped) → get_or owns k None ≡ Some own
    → g.rows + own.rows ≤ (with_owns owns g).rows
rows-seat [] k own g is = absurd (cc)
rows-seat (first ∷ owns) zero own g is =
    let both = rows-absorbed own g in
    let rest = rows-owns owns (with_own first g) in
    let same : (with_own first g).rows ≡ (absorbed own g).rows = ap (λ o. (with_own o g).rows) is in
    omega arith
rows-seat (first ∷ owns) (suc k) own g is = let here = rows-own first g in let rest = rows-seat owns k own (with_own first g) is in omega arith

-- each row is one more
pub rows-all : (rows : List (Place → cell.Value)) (g : Grouped) → (with_all rows g).rows ≡ g.rows + length rows
rows-all [] g = omega arith
rows-all (values ∷ rows) g = let rest = rows-all rows (with_row values g) in omega arith

-- What seats have.

-- the rows that a seat has folded apart
abbrev rows_in : (home : Grouped) (own : Option Grouped) → IsPart (Some home) own → List (Place → cell.Value)
rows_in home None part = []
rows_in home (Some own) part = part.rows

module _ (laws : MayFoldApart) (home : Grouped) (shaped : AreOfItems home) where
  -- groups of a seat are its rows
  own-rows : (own : Option Grouped) (part : IsPart (Some home) own) (g : Grouped) → HasGrown home g
      → with_own own g ≡ with_all (rows_in home own part) g
  own-rows None part g grown = refl
  own-rows (Some own) part g grown =
      laws.absorbed part.rows own g (grown.shaped shaped) (part.folded ∙ ap (with_all part.rows) (sym (bare-grown home g grown)))

  own-known : (own : Option Grouped) (part : IsPart (Some home) own) (g : Grouped) → HasGrown home g → AreKnown (rows_in home own part) g
  own-known None part g grown = All-nil (λ (values : Place → cell.Value). IsTrue (list_any (has_key (key_by values g)) g.groups))
  own-known (Some own) part g grown = known-grown part.rows home g grown part.known

  own-grown : (own : Option Grouped) → IsPart (Some home) own → (g : Grouped) → HasGrown home g → HasGrown g (with_own own g)
  own-grown own part g grown = subst (HasGrown g) (sym (own-rows own part g grown)) (grown-all (rows_in home own part) g)

  -- rows may come before or behind them
  own-swap : (own : Option Grouped) → IsPart (Some home) own → (more : List (Place → cell.Value)) (g : Grouped) → HasGrown home g
      → with_own own (with_all more g) ≡ with_all more (with_own own g)
  own-swap own part more g grown =
      let rows = rows_in home own part in
      own-rows own part (with_all more g) (grown-then home g (with_all more g) grown (grown-all more g))
      ∙ laws.swap rows more g (own-known own part g grown)
      ∙ ap (with_all more) (sym (own-rows own part g grown))

  -- so may they before or behind others
  owns-swap : (own other : Option Grouped) → IsPart (Some home) own → IsPart (Some home) other → (g : Grouped) → HasGrown home g
      → with_own own (with_own other g) ≡ with_own other (with_own own g)
  owns-swap own other part its g grown =
      let rows = rows_in home own part in
      own-rows own part (with_own other g) (grown-then home g (with_own other g) grown (own-grown other its g grown))
      ∙ sym (own-swap other its rows g grown)
      ∙ ap (with_own other) (sym (own-rows own part g grown))

  pub owns-more : (owns : List (Option Grouped)) → All (IsPart (Some home)) owns → (more : List (Place → cell.Value)) (g : Grouped)
      → HasGrown home g
      → with_owns owns (with_all more g) ≡ with_all more (with_owns owns g)
  owns-more [] parts more g grown = refl
  owns-more (own ∷ owns) parts more g grown =
      let here = All-head (IsPart (Some home)) own owns parts in
      ap (with_owns owns) (own-swap own here more g grown)
      ∙ owns-more owns (All-tail (IsPart (Some home)) own owns parts) more (with_own own g)
      (grown-then home g (with_own own g) grown (own-grown own here g grown))

  -- those of one seat may come first
  pulled : (owns : List (Option Grouped)) (k : ℕ) → All (IsPart (Some home)) owns → k < length owns → (g : Grouped) → HasGrown home g
      → with_owns owns g ≡ with_owns (set owns k None) (with_own (get_or owns k None) g)
  pulled [] k parts low g grown = absurd (omega arith)
  pulled (own ∷ owns) zero parts low g grown = refl
  pulled (own ∷ owns) (suc k) parts low g grown =
      let here = All-head (IsPart (Some home)) own owns parts in
      let rest = All-tail (IsPart (Some home)) own owns parts in
      let its : IsPart (Some home) (get_or owns k None) = rest k None (omega arith) in
      pulled owns k rest (omega arith) (with_own own g) (grown-then home g (with_own own g) grown (own-grown own here g grown))
      ∙ ap (with_owns (set owns k None)) (owns-swap (get_or owns k None) own its here g grown)

-- What one seat has at a slot changes, and what is at home there.

module _ (laws : MayFoldApart) (owns : List (Option Grouped)) (k : ℕ) (low : k < length owns) (rows : List (Place → cell.Value))
    (kept : Option Grouped) where
  moved : (home later : Grouped) → AreOfItems home → All (IsPart (Some home)) owns → HasGrown home later
      → All (IsPart (Some later)) (set owns k kept)
      → with_own kept later ≡ with_all rows (with_own (get_or owns k None) home)
      → with_owns (set owns k kept) later ≡ with_all rows (with_owns owns home)
  moved home later shaped parts grown new_parts is =
      let wide = length-set owns k kept in
      let own = get_or owns k None in
      let its : IsPart (Some home) own = parts k None low in
      let others : All (IsPart (Some home)) (set owns k None) = All-set (IsPart (Some home)) owns k None tt parts in
      pulled laws later (grown.shaped shaped) (set owns k kept) k new_parts (omega arith) later (grown-same later)
      ∙ ap (λ (them : List (Option Grouped)). with_owns them (with_own (get_or (set owns k kept) k None) later)) (set-set owns k kept None)
      ∙ ap (λ (o : Option Grouped). with_owns (set owns k None) (with_own o later)) (get_or-set_same owns k kept None low)
      ∙ ap (with_owns (set owns k None)) is
      ∙ owns-more laws home shaped (set owns k None) others rows (with_own own home) (own-grown laws home shaped own its home (grown-same home))
      ∙ ap (with_all rows) (sym (pulled laws home shaped owns k parts low home (grown-same home)))

  parts-moved : (home later : Option Grouped) → IsLater home later → IsPart later kept → All (IsPart home) owns
      → All (IsPart later) (set owns k kept)
  parts-moved home later grown part parts =
      All-set (IsPart later) owns k kept part
      (All-weaker (IsPart home) (IsPart later) (λ own p. part-later home later own grown p) owns parts)

  -- what is seen has the rows more
  pub seen-moved : (home later : Option Grouped) → IsSlot home owns → HasMoved rows home (get_or owns k None) later kept
      → seen_with (set owns k kept) later ≡ option_map (with_all rows) (seen_with owns home)
  seen-moved None None slot moves = refl
  seen-moved None (Some later) slot moves = absurd moves.grown
  seen-moved (Some home) None slot moves = let seen = moves.seen in absurd (cc)
  seen-moved (Some home) (Some later) slot moves =
      ap Some (moved home later slot.shaped slot.parts moves.grown (parts-moved (Some home) (Some later) moves.grown moves.part slot.parts)
      (same_Some (with_own kept later) (with_all rows (with_own (get_or owns k None) home)) moves.seen))

  shaped-later : (home later : Option Grouped) → IsLater home later → IfSome home AreOfItems → IfSome later AreOfItems
  shaped-later home None grown shaped = tt
  shaped-later None (Some later) grown shaped = absurd grown
  shaped-later (Some home) (Some later) grown shaped = grown.shaped shaped

  pub slot-moved : (home later : Option Grouped) → IsSlot home owns → HasMoved rows home (get_or owns k None) later kept
      → HaveRoom 0 (option_map (with_all rows) (seen_with owns home)) → IsSlot later (set owns k kept)
  slot-moved home later slot moves room = record {
    shaped = shaped-later home later moves.grown slot.shaped;
    parts = parts-moved home later moves.grown moves.part slot.parts;
    room = subst (HaveRoom 0) (sym (seen-moved home later slot moves)) room;
  }

-- nothing is at home
pub slot-none : (owns : List (Option Grouped)) → IsSlot None owns
slot-none owns = record { shaped = tt; parts = λ k d low. tt; room = tt }

-- What is at home changes alone.

pub seen-more : MayFoldApart → (rows : List (Place → cell.Value)) (home : Option Grouped) (owns : List (Option Grouped)) → IsSlot home owns
    → seen_with owns (option_map (with_all rows) home) ≡ option_map (with_all rows) (seen_with owns home)
seen-more laws rows None owns slot = refl
seen-more laws rows (Some home) owns slot = ap Some (owns-more laws home slot.shaped owns slot.parts rows home (grown-same home))

pub slot-more : MayFoldApart → (rows : List (Place → cell.Value)) (home : Option Grouped) (owns : List (Option Grouped)) → IsSlot home owns
    → HaveRoom 0 (option_map (with_all rows) (seen_with owns home)) → IsSlot (option_map (with_all rows) home) owns
slot-more laws rows None owns slot room = slot-none owns
slot-more laws rows (Some home) owns slot room = record {
  shaped = (grown-all rows home).shaped slot.shaped;
  parts = All-weaker (IsPart (Some home)) (IsPart (Some (with_all rows home))) (λ own p. part-later (Some home) (Some (with_all rows home)) own
      (grown-all rows home) p) owns slot.parts;
  room = subst (HaveRoom 0) (sym (seen-more laws rows (Some home) owns slot)) room;
}

-- Groups that come home with rows more.

keys_made : (items : List Item) (key : Key) (groups : List Group) → (more : List Key)
    × (keys_in (with_key items key groups) ≡ keys_in groups ++ more)
keys_made items key groups = by (has key groups)
  where
    by : (there : Bool) → (more : List Key) × (keys_in (cond there groups (groups ++ no_rows items key ∷ [])) ≡ keys_in groups ++ more)
    by true = ([], sym (append-nil (keys_in groups)))
    by false = (key ∷ [], keys-push groups (no_rows items key))

keys_row : (values : Place → cell.Value) (g : Grouped) → (more : List Key) × (keys_in (with_row values g).groups ≡ keys_in g.groups ++ more)
keys_row values g =
    let made = keys_made g.items (key_by values g) g.groups in
    (made.0, keys-member values (with_group values g) ∙ made.1)

-- the keys that were there stand first
keys_front : (rows : List (Place → cell.Value)) (g : Grouped) → (more : List Key) × (keys_in (with_all rows g).groups ≡ keys_in g.groups ++ more)
keys_front [] g = ([], sym (append-nil (keys_in g.groups)))
keys_front (values ∷ rows) g =
    let here = keys_row values g in
    let rest = keys_front rows (with_row values g) in
    (here.0 ++ rest.0, rest.1 ∙ ap (λ (keys : List Key). keys ++ rest.0) here.1 ∙ append_assoc (keys_in g.groups) here.0 rest.0)

keys_first : (rows : List (Place → cell.Value)) (g : Grouped) → take (length g.groups) (keys_in (with_all rows g).groups) ≡ keys_in g.groups
keys_first rows g =
    let front = keys_front rows g in
    let long = length-map g.groups (λ (group : Group). group.key) in
    ap (take (length g.groups)) front.1
    ∙ ap (λ (n : ℕ). take n (keys_in g.groups ++ front.0)) (sym long)
    ∙ take-append_seam (keys_in g.groups) front.0

module _ (laws : MayFoldApart) (home out own : Grouped) (shaped : AreOfItems home) (first : HasFirst home) (apart : IsApart home out)
    (rows : List (Place → cell.Value)) (is : own ≡ with_all rows out) where
  abbrev pub made : Grouped
  made = with_keys_of (length out.groups) own home

  abbrev pub both : List (Place → cell.Value)
  both = apart.rows ++ rows

  folded : own ≡ with_all both (without_rows home)
  folded =
      is ∙ ap (with_all rows) apart.folded
      ∙ sym (fold-append (λ (before : Grouped) (values : Place → cell.Value). with_row values before) (without_rows home) apart.rows rows)

  made_grown : HasGrown home made
  made_grown = grown-keys (drop (length out.groups) (keys_in own.groups)) home

  firsts : HasKeys (take (length out.groups) (keys_in (with_all both (without_rows home)).groups)) home.groups
  firsts =
      let P : List Key → Type 0 = λ keys. HasKeys keys home.groups in
      let front : take (length out.groups) (keys_in own.groups) ≡ keys_in out.groups =
      ap (λ (g : Grouped). take (length out.groups) (keys_in g.groups)) is ∙ keys_first rows out in
      subst P (sym (ap (λ (g : Grouped). take (length out.groups) (keys_in g.groups)) (sym folded) ∙ front)) apart.keys

  by_law : (with_all both made ≡ with_all both home) × AreKnown both made
  by_law =
      let P : Grouped → Type 0 = λ g. (with_all both (with_keys_of (length out.groups) g home) ≡ with_all both home)
      × AreKnown both (with_keys_of (length out.groups) g home) in
      subst P (sym folded) (laws.first both (length out.groups) home first firsts)

  -- the rows of both, once the groups are made at home
  made_both : with_all both made ≡ with_all rows (absorbed out home)
  made_both =
      by_law.0
      ∙ fold-append (λ (before : Grouped) (values : Place → cell.Value). with_row values before) home apart.rows rows
      ∙ ap (with_all rows) (sym (laws.absorbed apart.rows out home shaped apart.folded))

  pub made_folded : own ≡ with_all both (without_rows made)
  made_folded = folded ∙ ap (with_all both) (sym (bare-grown home made made_grown))

  pub seen_made : absorbed own made ≡ with_all rows (absorbed out home)
  seen_made = laws.absorbed both own made (made_grown.shaped shaped) made_folded ∙ made_both

  first_made : HasFirst made
  first_made =
      let P : Grouped → Type 0 = λ g. HasKeys (keys_in g.groups) made.groups in
      subst P (sym (bare-grown home made made_grown)) (keys-grown (keys_in (without_rows home).groups) home made made_grown first)

  pub keys_of_made : HasKeysOf own made
  keys_of_made = subst (λ g. HasKeysOf g made) (sym made_folded) (laws.known both made first_made by_law.1)

  -- groups of the seat without texts stay with it
  pub stays : HaveNoTexts own → HasMoved rows (Some home) (Some out) (Some made) (Some own)
  stays plain = record {
    seen = ap Some seen_made;
    grown = made_grown;
    part = record { rows = both; folded = made_folded; known = by_law.1; keys = keys_of_made; plain = plain };
  }

  -- and others are taken in
  pub comes : HasMoved rows (Some home) (Some out) (Some (with_all both made)) None
  comes = record {
    seen = ap Some made_both;
    grown = grown-then home made (with_all both made) made_grown (grown-all both made);
    part = tt;
  }
